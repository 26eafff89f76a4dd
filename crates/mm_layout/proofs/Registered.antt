-- A name that no contents row has is in no other part that the rules tie to the contents.
use Rattle.std.proofs.Common.{◌≡◌, inl, inr, true, false, Some, None, refl, sym, ap, ◌∙◌}
use Rattle.std.proofs.lemmas.Bool.{false_from_ne_true}
use Rattle.std.specs.declared.cmp.Ordering.{Ordering}
use Rattle.std.specs.FinMap.{FinMap, get, contains_key}
use Rattle.mm_definitions.specs.Bounds.{Profile}
use Rattle.mm_definitions.specs.Keys.{Text, Extension}
use Rattle.mm_definitions.specs.Package.{Package, general_extension, mapping_extension, zoom_extension, kind_text}
use Rattle.mm_definitions.specs.Rules.{Meets, IsWanted}
use Rattle.mm_definitions.proofs.Parts.{none_of, not_none, same_some, some_of, lacks}
use Rattle.mm_definitions.specs.declared.commands.Kind.{Kind}
use Rattle.mm_laws.proofs.KindFacts.{differ}
use Rattle.mm_layout.specs.Rows.{IsUnregistered}

pub absent : {K X : Type 0} {R : K → K → Ordering} (m : FinMap R X) (k : K) → ((x : X) → get m k ≡ Some x → ⊥)
    → get m k ≡ None
absent m k none = elim (get m k) as (λ v. get m k ≡ v → v ≡ None) [ None ↦ λ e. refl | Some x ↦ λ e. absurd (none x e) ]
    refl

module _ (profile : Profile) (p : Package) (meets : Meets profile p) (table : Text) where
  -- contents rows stand for the tables that have a kind, and for no other
  pub lacks_contents : get p.kinds table ≡ None → contains_key p.contents table ≡ false
  lacks_contents none =
      false_from_ne_true _ (λ stands. let c = some_of (get p.contents table) stands in not_none
      (meets.q5.registered table c.0 c.1).1 none)

  pub has_contents : (kind : Kind) → get p.kinds table ≡ Some (kind_text kind) → contains_key p.contents table ≡ true
  has_contents kind has = meets.q5.of_kinds table (kind_text kind) has

module _ (profile : Profile) (p : Package) (meets : Meets profile p) (table : Text)
    (free : contains_key p.contents table ≡ false) where
  no_kind : get p.kinds table ≡ None
  no_kind = absent p.kinds table (λ k e. lacks p.contents table free (meets.q5.of_kinds table k e))

  pub unregistered : IsUnregistered table p
  unregistered = (
    none_of (get p.contents table) free,
    no_kind,
    absent p.sets table
        (λ s e. lacks p.contents table free (meets.q5.of_sets table s e)),
  )

  unwanted : IsWanted p.kinds p.relations (zoom_extension table) → ⊥
  unwanted (inl a) = differ (zoom_extension table).name general_extension.name refl (ap (λ (x : Extension). x.name) a)
  unwanted (inr (inl m)) = differ (zoom_extension table).name (mapping_extension m.0).name refl
      (ap (λ (x : Extension). x.name) m.2)
  unwanted (inr (inr t)) = let same : table ≡ t.0 = same_some (ap (λ (x : Extension). x.table) t.2) in not_none t.1
      (ap (get p.kinds) (sym same) ∙ no_kind)

  -- nor has it the extension row of a pyramid of kind `other`
  pub no_zoom_row : get p.extensions (zoom_extension table) ≡ None
  no_zoom_row = absent p.extensions (zoom_extension table)
      (λ n e. unwanted (meets.q14.only (zoom_extension table) n e).0)
