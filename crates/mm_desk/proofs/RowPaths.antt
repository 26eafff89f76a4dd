-- The parts of a path that asks for the rows of a table.
use Rattle.std.proofs.Common.{◌≡◌, ◌≢◌, ◌∙◌, ℕ, suc, ◌<◌, ℤ, Bool, true, false, not, [], ◌∷◌, ◌++◌, length, get_or}
use Rattle.std.proofs.Common.{drop, refl, sym, ap, codes, arith}
use Rattle.std.proofs.lemmas.Slice.Eq.{bytes_eq-Decides}
use Rattle.std.specs.Str.{bytes_eq}
use Rattle.matchit.specs.Seek.{has_slash}
use Rattle.mm_definitions.specs.Keys.{Text}
use Rattle.mm_definitions.specs.Bounds.{IsName}
use Rattle.mm_page.proofs.AskFacts.{same_front}
use Rattle.mm_page.proofs.NumberFacts.{name_part, onward}
use Rattle.mm_desk.specs.Replies.{AsksRows}

-- a text each of whose bytes is another has no slash
pub slash_free : (text : Text) → ((i : ℕ) → i < length text → get_or text i 0 ≢ 47) → has_slash text ≡ false
slash_free [] other = refl
slash_free (b ∷ text) other = onward b text (other 0 (omega arith))
    (slash_free text (λ i low. other (suc i) (omega arith)))

-- the word of the path, and what stands behind it
pub word_is : (path parts word rest : Text) → path ≡ 47 ∷ parts → parts ≡ word ++ 47 ∷ rest → has_slash word ≡ false
    → (table : Text) (first : ℤ)
    → (a : AsksRows path table first) → (word ≡ codes "rows") × (rest ≡ table ++ 47 ∷ a.0)
word_is path parts word rest p r free table first a = same_front word rest (codes "rows") (table ++ 47 ∷ a.0) free refl (sym r ∙ ap (drop 1) (sym p ∙ a.1))

-- the name of the table and the digits of the id
pub ends_are : (rest front back : Text) → rest ≡ front ++ 47 ∷ back → has_slash front ≡ false → (table id : Text)
    → rest ≡ table ++ 47 ∷ id → IsName table
    → (front ≡ table) × (back ≡ id)
ends_are rest front back r free table id is name = same_front front back table id free (name_part table name).0
    (sym r ∙ is)

-- what the test of two texts says
flipped : (b t : Bool) → b ≡ not t → b ≡ false → t ≡ true
flipped b true is off = refl
flipped b false is off = let e : true ≡ false = sym is ∙ off in cc

pub is_word : (word other : Text) (b : Bool) → b ≡ not (bytes_eq word other) → b ≡ false → word ≡ other
is_word word other b is off = (bytes_eq-Decides word other).0 (flipped b (bytes_eq word other) is off)

pub no_word : (word other : Text) (b : Bool) → b ≡ not (bytes_eq word other) → b ≡ true → word ≡ other → ⊥
no_word word other b is on same = let e : false ≡ true = ap not (sym ((bytes_eq-Decides word other).1 same)) ∙ sym is
    ∙ on in cc
