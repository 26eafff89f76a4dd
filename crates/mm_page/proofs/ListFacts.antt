-- The text of a list of entries, from the value that was built.
use Rattle.std.proofs.Common.{◌≡◌, List, [], ◌∷◌, map, false, refl, ℕ, ℤ, pos, negsuc, Option, Some, None, Result, Ok}
use Rattle.std.proofs.Common.{Err, IfOk, String}
use Rattle.std.specs.declared.alloc.Global.{Global}
use Rattle.serde_json.specs.Data.{Data}
use Rattle.serde_json.specs.View.{items_of}
use Rattle.serde_json.specs.Written.{compact_text, has_float, items_have_float}
use Rattle.mm_definitions.specs.Package.{Box}
use Rattle.mm_reads.specs.Contents.{Listed}
use Rattle.mm_reads.specs.Related.{Mate}
use Rattle.mm_page.specs.Lists.{mate_data, table_data, table_data_at, whole_number}

-- a whole number is no float
pub whole_clean : (z : ℤ) → has_float (whole_number z) ≡ false
whole_clean (pos n) = refl
whole_clean (negsuc n) = refl

-- the entries have no float
pub all_clean : {A : Type 0} (datum : A → Data) → ((a : A) → has_float (datum a) ≡ false) → (entries : List A)
    → items_have_float (items_of (map datum entries)) ≡ false
all_clean datum clean [] = refl
all_clean datum clean (a ∷ entries) = rw (clean a) (all_clean datum clean entries)

pub mate_clean : (m : Mate) → has_float (mate_data m) ≡ false
mate_clean m = rw (whole_clean m.id) refl

table_clean_at : (t : Listed) (place : Option (ℤ × Box)) → has_float (table_data_at t place) ≡ false
table_clean_at t None = refl
table_clean_at t (Some (system, e)) =
    rw (whole_clean e.min_x, whole_clean e.min_y, whole_clean e.max_x, whole_clean e.max_y, whole_clean system) refl

pub table_clean : (t : Listed) → has_float (table_data t) ≡ false
table_clean t = table_clean_at t t.place

pub text_told : {E : Type 0} (d d2 : Data) (P : String Global → List ℕ) (r : Result (String Global) E) → d ≡ d2
    → has_float d2 ≡ false
    → IfOk r (λ s. has_float d ≡ false → P s ≡ compact_text d) → IfOk r (λ s. P s ≡ compact_text d2)
text_told d d2 P (Ok s) e none h = rw e at (h (rw e none))
text_told d d2 P (Err x) e none h = tt
