-- A table that has its last_change already is as touching it would make it.
use Rattle.std.proofs.Common.{◌≡◌, Option, Some, None, refl, sym, ap, ◌∙◌, codes, List, [], ◌∷◌, ℕ, option_map}
use Rattle.std.specs.FinMap.{get}
use Rattle.sqlite.specs.Term.{col}
use Rattle.sqlite.specs.Listing.{understood}
use Rattle.sql_forms.specs.Compute.{everything}
use Rattle.sql_forms.specs.Forms.{equals, first_of}
use Rattle.sql_forms.proofs.Selects.{IsSelect}
use Rattle.mm_store.specs.Tables.{schema}
use Rattle.mm_definitions.specs.Keys.{Text}
use Rattle.mm_definitions.specs.Package.{Package, Contents}
use Rattle.mm_definitions.specs.Effects.{touch, touched_row, changed_at}
use Rattle.mm_definitions.proofs.KeyLaws.{texts}
use Rattle.mm_definitions.proofs.Parts.{put_again, same_some}
use Rattle.mm_layout.specs.Touched.{IsStampedAs}

abbrev pub last_change_text : List ℕ
last_change_text = codes "SELECT last_change FROM gpkg_contents WHERE table_name = ?1 LIMIT 1"

pub last_change : IsSelect schema last_change_text 1 (first_of 1 (equals 1 0 ∷ []) (col 1 5 ∷ [])) (codes "last_change" ∷ [])
unfolding understood everything
last_change = record { compiled = refl; plain = (refl, refl); unlisted = refl; listed = refl }

pub touched_already : (p : Package) (table at : Text) → IsStampedAs p table at → touch p table at ≡ p
touched_already p table at is = go (get p.contents table) refl is
  where
    go : (c : Option Contents) → get p.contents table ≡ c → IsStampedAs p table at → touched_row p table at c ≡ p
    go None none is = refl
    go (Some c) found is =
        let same : c.last_change ≡ at = same_some (sym (ap (option_map (λ (x : Contents). x.last_change)) found)
        ∙ is) in
        ap (λ m. record p { contents = m })
        (put_again texts p.contents table (changed_at at c) (found ∙ ap (λ (t : Text). Some (changed_at t c)) same))
