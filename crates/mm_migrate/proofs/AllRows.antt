-- An UPDATE of every row of a table changes each value of the map that the rows hold.
use Rattle.std.proofs.Common.{◌≡◌, List, map, option_map, sym, ap, ◌∙◌}
use Rattle.std.specs.declared.cmp.Ordering.{Ordering}
use Rattle.std.specs.FinMap.{FinMap}
use Rattle.sqlite.specs.Order.{Row}
use Rattle.sql_forms.proofs.ProbeLemmas.{has_mapped, mapped_has}
use Rattle.sql_forms.specs.Maps.{Holds}
use Rattle.mm_definitions.specs.Parts.{Each}
use Rattle.mm_definitions.specs.Parts.{change_values}
use Rattle.mm_definitions.proofs.Values.{from, get_changed}

module _ {K V : Type 0} {R : K → K → Ordering} (part : Row → Row) (row_of : K → V → Row)
    (key_is : (k l : K) (v w : V) → row_of k v ≡ row_of l w → k ≡ l)
    (rows : List Row) (m : FinMap R V) (h : Holds part row_of rows m) (change : Row → Row) (next : V → V)
    (Within : K → V → Type 0) (within : Each m Within)
    (becomes : (r : Row) (k : K) (v : V) → Within k v → part r ≡ row_of k v → part (change r) ≡ row_of k (next v)) where
  pub all_change : Holds part row_of (map change rows) (change_values next m)
  all_change = record {
    sound = λ r there.
        let from_row = has_mapped change rows r there in
        let it = h.sound from_row.0 from_row.1 in (
          it.0,
          next it.1,
          get_changed R next m it.0 ∙ ap (option_map next) it.2,
          ap part from_row.2
              ∙ becomes from_row.0 it.0 it.1 (within it.0 it.1 it.2) it.3,
        );
    complete = λ k w is.
        let was = from next m k w is in
        let r = h.complete k was.0 was.1 in (
          change r.0,
          mapped_has change rows r.0 r.1,
          becomes r.0 k was.0 (within k was.0 was.1) r.2
              ∙ ap (row_of k) (sym was.2),
        );
    apart = λ r s p q k y z a b.
        let x = has_mapped change rows r p in
        let c = h.sound x.0 x.1 in
        let x2 = has_mapped change rows s q in
        let d = h.sound x2.0 x2.1 in
        let first : c.0 ≡ k = key_is c.0 k (next c.1) y (sym (becomes x.0 c.0 c.1 (within c.0 c.1 c.2) c.3)
        ∙ sym (ap part x.2) ∙ a) in
        let second : d.0 ≡ k = key_is d.0 k (next d.1) z (sym (becomes x2.0 d.0 d.1 (within d.0 d.1 d.2) d.3)
        ∙ sym (ap part x2.2) ∙ b) in
        let same : x.0 ≡ x2.0 = h.apart x.0 x2.0 x.1 x2.1 k c.1 d.1 (c.3 ∙ ap (λ i. row_of i c.1) first)
        (d.3 ∙ ap (λ i. row_of i d.1) second) in
        x.2 ∙ ap change same ∙ sym x2.2;
  }
