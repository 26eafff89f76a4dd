-- For which number a table or pyramid is not added or removed, from what was looked up.
use Rattle.std.proofs.Common.{◌≡◌, ◌↔◌, ℕ, ℤ, pos, ◌<ℤ◌, Bool, true, false, not, ◌||◌, [], ◌∷◌, Option, Some, None}
use Rattle.std.proofs.Common.{IsSome, refl, sym, ap, subst, ◌∙◌, arith}
use Rattle.std.proofs.lemmas.Int.{ints}
use Rattle.std.specs.Prelude.{int_le}
use Rattle.std.specs.FinMap.{contains_key}
use Rattle.mm_definitions.specs.Keys.{Text, same_number}
use Rattle.mm_definitions.specs.Package.{Package, Box}
use Rattle.mm_definitions.specs.Conditions.{least, own_reasons, is_taken, is_identified, is_used}
use Rattle.mm_definitions.specs.declared.commands.PlainKind.{PlainKind}
use Rattle.mm_definitions.specs.declared.commands.Step.{Step}
use Rattle.mm_definitions.specs.declared.commands.Command.TheVariants as commands
use Rattle.mm_definitions.proofs.Parts.{either_false}
use Rattle.mm_laws.proofs.Reasons.{none_holds}
use Rattle.mm_laws.proofs.Tables.{less}
use Rattle.mm_definitions.proofs.FirstReason.{first_of}

-- ---- table

module _ (p : Package) (table identifier : Text) (kind : PlainKind) where
  abbrev of_table : Bool → Bool → Option ℕ
  of_table taken named = least ((23, taken) ∷ (24, named) ∷ [])

  abbrev named : Bool
  named = is_identified p identifier

  pub table_23 : is_taken p table ≡ true → Some 23 ≡ least (own_reasons p (commands.Table table kind identifier))
  table_23 taken = sym (ap (λ b. of_table b named) taken ∙ first_of 23 ((24, named) ∷ []) refl)

  pub table_24 : is_taken p table ≡ false → is_identified p identifier ≡ true
      → Some 24 ≡ least (own_reasons p (commands.Table table kind identifier))
  table_24 free is = sym (ap (λ b. of_table b named) free ∙ ap (of_table false) is)

  pub table_free : is_taken p table ≡ false → is_identified p identifier ≡ false
      → None ≡ least (own_reasons p (commands.Table table kind identifier))
  table_free free is = sym (ap (λ b. of_table b named) free ∙ ap (of_table false) is)

  -- a table that is not refused has a new name
  pub table_is_new : None ≡ least (own_reasons p (commands.Table table kind identifier))
      → contains_key p.contents table ≡ false
  table_is_new none = (either_false (contains_key p.contents table) _
      (none_holds (own_reasons p (commands.Table table kind identifier)) (sym none)).0).0

-- ---- pyramid

low : (a b : ℤ) → a <ℤ b → int_le b a ≡ false
low a b h = grind (arith, ints)

neither : (a b : Bool) → a ≡ false → b ≡ false → (a || b) ≡ false
neither true b e f = e
neither false b e f = f

either : (a b : Bool) → ¬ ((a ≡ false) × (b ≡ false)) → (a || b) ≡ true
either true b h = refl
either false true h = refl
either false false h = absurd (h (refl, refl))

-- whether nothing is between the bounds, from the extent that they have or have not
module _ (min_x max_x min_y max_y : ℤ) (extent : Option Box) where
  pub filled_between : (e : Box) → IsSome extent ↔ (min_x <ℤ max_x) × (min_y <ℤ max_y) → extent ≡ Some e
      → (int_le max_x min_x || int_le max_y min_y) ≡ false
  filled_between e within is =
      let both = within.0 (subst IsSome (sym is) refl) in
      neither (int_le max_x min_x) (int_le max_y min_y) (low min_x max_x both.0) (low min_y max_y both.1)

  pub empty_between : IsSome extent ↔ (min_x <ℤ max_x) × (min_y <ℤ max_y) → extent ≡ None
      → (int_le max_x min_x || int_le max_y min_y) ≡ true
  empty_between within is =
      either (int_le max_x min_x) (int_le max_y min_y)
      (λ p. let none : false ≡ true = subst IsSome is (within.1 (less min_x max_x p.0, less min_y max_y p.1)) in cc)

module _ (p : Package) (table identifier : Text) (srs min_x min_y max_x max_y : ℤ) (step : Step) where
  abbrev of_pyramid : Bool → Bool → Bool → Bool → Bool → Option ℕ
  of_pyramid known geographic taken named empty = least ((21, not known) ∷ (22, geographic) ∷ (23, taken) ∷ (24, named)
      ∷ (27, empty) ∷ [])

  abbrev known : Bool
  known = contains_key p.systems srs

  abbrev geographic : Bool
  geographic = same_number srs (pos 0) || same_number srs (pos 4326)

  abbrev empty : Bool
  empty = int_le max_x min_x || int_le max_y min_y

  abbrev labelled : Bool
  labelled = is_identified p identifier

  abbrev why : Option ℕ
  why = least (own_reasons p (commands.Pyramid table identifier srs min_x min_y max_x max_y step))

  pub pyramid_21 : contains_key p.systems srs ≡ false → Some 21 ≡ why
  pyramid_21 gone =
      sym (ap (λ b. of_pyramid b geographic (is_taken p table) labelled empty) gone
      ∙ first_of 21 ((22, geographic) ∷ (23, is_taken p table) ∷ (24, labelled) ∷ (27, empty) ∷ []) refl)

  module _ (stands : contains_key p.systems srs ≡ true) where
    pub pyramid_22 : (same_number srs (pos 0) || same_number srs (pos 4326)) ≡ true → Some 22 ≡ why
    pyramid_22 is =
        sym (ap (λ b. of_pyramid b geographic (is_taken p table) labelled empty) stands
        ∙ ap (λ b. of_pyramid true b (is_taken p table) labelled empty) is
        ∙ first_of 22 ((23, is_taken p table) ∷ (24, labelled) ∷ (27, empty) ∷ []) refl)

    module _ (plane : (same_number srs (pos 0) || same_number srs (pos 4326)) ≡ false) where
      known_plane : (taken named none : Bool) → of_pyramid known geographic taken named none ≡ of_pyramid true false
          taken named none
      known_plane taken named none = ap (λ b. of_pyramid b geographic taken named none) stands
          ∙ ap (λ b. of_pyramid true b taken named none) plane

      pub pyramid_23 : is_taken p table ≡ true → Some 23 ≡ why
      pyramid_23 is = sym (known_plane (is_taken p table) labelled empty
          ∙ ap (λ b. of_pyramid true false b labelled empty) is ∙ first_of 23 ((24, labelled) ∷ (27, empty) ∷ []) refl)

      module _ (free : is_taken p table ≡ false) where
        unnamed : (named none : Bool) → of_pyramid known geographic (is_taken p table) named none ≡ of_pyramid true
            false false named none
        unnamed named none = known_plane (is_taken p table) named none
            ∙ ap (λ b. of_pyramid true false b named none) free

        pub pyramid_24 : is_identified p identifier ≡ true → Some 24 ≡ why
        pyramid_24 is = sym (unnamed labelled empty ∙ ap (λ b. of_pyramid true false false b empty) is
            ∙ first_of 24 ((27, empty) ∷ []) refl)

        pub pyramid_27 : is_identified p identifier ≡ false → (int_le max_x min_x || int_le max_y min_y) ≡ true
            → Some 27 ≡ why
        pyramid_27 new is = sym (unnamed labelled empty ∙ ap (λ b. of_pyramid true false false b empty) new
            ∙ ap (of_pyramid true false false false) is)

        pub pyramid_free : is_identified p identifier ≡ false → (int_le max_x min_x || int_le max_y min_y) ≡ false
            → None ≡ why
        pyramid_free new is = sym (unnamed labelled empty ∙ ap (λ b. of_pyramid true false false b empty) new
            ∙ ap (of_pyramid true false false false) is)

  -- a pyramid that is not refused has a new name
  pub pyramid_is_new : None ≡ why → contains_key p.contents table ≡ false
  pyramid_is_new none = (either_false (contains_key p.contents table) _
      (none_holds (own_reasons p (commands.Pyramid table identifier srs min_x min_y max_x max_y step))
      (sym none)).1.1.0).0

-- ---- drop

module _ (p : Package) (table : Text) where
  abbrev of_drop : Bool → Bool → Option ℕ
  of_drop stands used = least ((25, not stands) ∷ (48, used) ∷ [])

  pub drop_25 : contains_key p.contents table ≡ false → Some 25 ≡ least (own_reasons p (commands.Drop table))
  drop_25 gone = sym (ap (λ b. of_drop b (is_used p table)) gone ∙ first_of 25 ((48, is_used p table) ∷ []) refl)

  pub drop_48 : contains_key p.contents table ≡ true → is_used p table ≡ true
      → Some 48 ≡ least (own_reasons p (commands.Drop table))
  drop_48 stands used = sym (ap (λ b. of_drop b (is_used p table)) stands ∙ ap (of_drop true) used)

  pub drop_free : contains_key p.contents table ≡ true → is_used p table ≡ false
      → None ≡ least (own_reasons p (commands.Drop table))
  drop_free stands free = sym (ap (λ b. of_drop b (is_used p table)) stands ∙ ap (of_drop true) free)
