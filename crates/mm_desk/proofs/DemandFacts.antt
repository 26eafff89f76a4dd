-- What is told of a field is said of the values of its name.
use Rattle.std.proofs.Common.{◌<◌, ◌∷◌, [], List, ℕ, length, sym, subst, arith}
use Rattle.mm_definitions.specs.Keys.{Text}
use Rattle.mm_desk.specs.declared.fields.FieldValue.{FieldValue}
use Rattle.mm_desk.specs.declared.fields.FieldValue.TheVariants as fields
use Rattle.mm_desk.specs.Fields.{IsFieldValue, IsHostField, IsOriginField, IsSiteField}
use Rattle.mm_desk.specs.Demand.{Once, Lone, IsHost, IsOrigin, IsOwnSite}

not_lone : (P : Text → Type 0) (vs : List Text) → 1 < length vs → Lone P vs → ⊥
not_lone P [] more h = absurd (omega (arith, more))
not_lone P (v ∷ []) more h = absurd (omega (arith, more))
not_lone P (v ∷ w ∷ vs) more h = h

pub host_once : (port : ℕ) (vs : List Text) (f : FieldValue) → IsFieldValue vs f → IsHostField port f
    → Once (IsHost port) vs
host_once port vs (fields.Once v) is h = subst (Once (IsHost port)) (sym is) h
host_once port vs fields.Absent is h = absurd h
host_once port vs fields.Often is h = absurd h

pub origin_lone : (port : ℕ) (vs : List Text) (f : FieldValue) → IsFieldValue vs f → IsOriginField port f
    → Lone (IsOrigin port) vs
origin_lone port vs (fields.Once v) is h = subst (Lone (IsOrigin port)) (sym is) h
origin_lone port vs fields.Absent is h = subst (Lone (IsOrigin port)) (sym is) h
origin_lone port vs fields.Often is h = absurd h

pub site_lone : (vs : List Text) (f : FieldValue) → IsFieldValue vs f → IsSiteField f → Lone IsOwnSite vs
site_lone vs (fields.Once v) is h = subst (Lone IsOwnSite) (sym is) h
site_lone vs fields.Absent is h = subst (Lone IsOwnSite) (sym is) h
site_lone vs fields.Often is h = absurd h

pub lone_site : (vs : List Text) (f : FieldValue) → IsFieldValue vs f → Lone IsOwnSite vs → IsSiteField f
lone_site vs (fields.Once v) is h = subst (Lone IsOwnSite) is h
lone_site vs fields.Absent is h = tt
lone_site vs fields.Often more h = not_lone IsOwnSite vs more h
