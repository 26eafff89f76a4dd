-- Whether a mapping row has an item as its one end or the other.
use Rattle.std.specs.Prelude.{ℤ, Bool, ◌&&◌}
use Rattle.std.specs.FinMap.{get}
use Rattle.mm_definitions.specs.Keys.{Text, Pairing, same_text, same_number}
use Rattle.mm_definitions.specs.Package.{Package, Relation}
use Rattle.mm_definitions.specs.Parts.{at_value, some_entry}

abbrev pub is_base : Text → ℤ → Package → Bool
is_base table id p = some_entry
    (λ (k : Pairing) _. at_value (λ (r : Relation). same_text r.base table && same_number k.base_id id)
    (get p.relations k.mapping)) p.pairings

abbrev pub is_related : Text → ℤ → Package → Bool
is_related table id p = some_entry
    (λ (k : Pairing) _. at_value (λ (r : Relation). same_text r.related table && same_number k.related_id id)
    (get p.relations k.mapping)) p.pairings
