-- A name that no table and no relation has is that of no extension row of a mapping.
use Rattle.std.proofs.Common.{◌≡◌, inl, inr, true, false, None, refl, sym, ap, subst, ◌∙◌}
use Rattle.std.specs.FinMap.{get, contains_key}
use Rattle.mm_definitions.specs.Bounds.{Profile, IsName}
use Rattle.mm_definitions.specs.Conditions.{least, own_reasons}
use Rattle.mm_definitions.specs.Keys.{Text, Extension}
use Rattle.mm_definitions.specs.Package.{Package, mapping_extension, zoom_extension}
use Rattle.mm_definitions.specs.Rules.{Meets, IsWanted}
use Rattle.mm_definitions.specs.declared.commands.RelationName.{RelationName}
use Rattle.mm_definitions.specs.declared.commands.Command.TheVariants as commands
use Rattle.mm_definitions.proofs.Parts.{none_of, same_some, either_false}
use Rattle.mm_laws.proofs.KindFacts.{differ}
use Rattle.mm_laws.proofs.Reasons.{none_holds}
use Rattle.mm_laws.proofs.Relations.{own_name}
use Rattle.mm_layout.proofs.Registered.{absent}

-- no relation has the name, nor has it an extension row
abbrev pub IsNew : Text → Package → Type 0
IsNew mapping p = (get p.relations mapping ≡ None) × (get p.extensions (mapping_extension mapping) ≡ None)

module _ (profile : Profile) (p : Package) (meets : Meets profile p) (mapping base related : Text) (name : RelationName)
    (named : IsName mapping) (none : None ≡ least (own_reasons p (commands.Relation mapping base related name))) where
  free : contains_key p.relations mapping ≡ false
  free = (either_false (contains_key p.contents mapping) (contains_key p.relations mapping)
      (none_holds (own_reasons p (commands.Relation mapping base related name)) (sym none)).1.0).1

  unwanted : IsWanted p.kinds p.relations (mapping_extension mapping) → ⊥
  unwanted (inl a) = own_name (subst IsName (same_some (ap (λ (x : Extension). x.table) a)) named)
  unwanted (inr (inl m)) = let same : mapping ≡ m.0 = same_some (ap (λ (x : Extension). x.table) m.2) in let f : true
      ≡ false = sym m.1 ∙ ap (contains_key p.relations) (sym same) ∙ free in cc
  unwanted (inr (inr t)) = differ (mapping_extension mapping).name (zoom_extension t.0).name refl
      (ap (λ (x : Extension). x.name) t.2)

  pub is_new : IsNew mapping p
  is_new = (
    none_of (get p.relations mapping) free,
    absent p.extensions (mapping_extension mapping)
        (λ n e. unwanted (meets.q14.only (mapping_extension mapping) n e).0),
  )
