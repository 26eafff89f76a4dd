-- What an item is related to, and what the rows show that it is read from.
use Rattle.std.specs.Prelude.{◌≡◌, ℤ, Bool, true, false, ◌||◌, ◌&&◌, List, [], ◌∷◌, ◌++◌, map, Option, Some, option_map}
use Rattle.std.specs.Prelude.{Result, MatchResult, MatchOption, ⊤}
use Rattle.std.specs.FinMap.{get, contains_key, entries, retain_keys}
use Rattle.std.specs.declared.vec.Vec.{Vec}
use Rattle.sqlite.specs.declared.types.Value.TheVariants.{Int, Text as Words}
use Rattle.sqlite.specs.Order.{Row, column}
use Rattle.mm_definitions.specs.Keys.{Text, same_text, same_number, item, Pairing}
use Rattle.mm_definitions.specs.Parts.{at_value}
use Rattle.mm_definitions.specs.Package.{Package, Relation}
use Rattle.mm_definitions.specs.declared.answers.Fault.{Fault}
use Rattle.mm_definitions.specs.declared.entries.Related.{Related}
use Rattle.mm_definitions.specs.Faults.{IsStoreFault}

-- the table has an attribute row or a medium of this id
abbrev pub is_item : Package → Text → ℤ → Bool
is_item p table id = contains_key p.rows (item table id) || contains_key p.media (item table id)

-- ---- the list

-- the mapping row has this item as its base
abbrev pub is_from : Package → Text → ℤ → Pairing → Bool
is_from p table id k = at_value (λ (r : Relation). same_text r.base table && same_number k.base_id id)
    (get p.relations k.mapping)

-- the mapping rows that have this item as their base, by rising mapping and related id
abbrev pub mapping_rows : Package → Text → ℤ → List (Pairing × ⊤)
mapping_rows p table id = entries (retain_keys p.pairings (is_from p table id))

-- what a mapping row relates to
pub record Mate : Type 0 where
  pub mapping : Text
  pub name : Option Text
  pub table : Option Text
  pub id : ℤ

-- what a mapping row of the package relates to: the related id, with the name and the related table of its relation
abbrev pub mate : Package → Pairing × ⊤ → Mate
mate p e = record {
  mapping = e.0.mapping;
  name = option_map (λ (r : Relation). r.name) (get p.relations e.0.mapping);
  table = option_map (λ (r : Relation). r.related) (get p.relations e.0.mapping);
  id = e.0.related_id;
}

-- the same of an entry that is told
abbrev pub mate_told : Related → Mate
mate_told r = record { mapping = r.mapping; name = Some r.name; table = Some r.table; id = r.id }

-- the entries are what the item's mapping rows relate to, in their order
abbrev pub ListsMates : Package → Text → ℤ → List Related → Type 0
ListsMates p table id items = map mate_told items ≡ map (mate p) (mapping_rows p table id)

-- None exactly where there is no such item
abbrev pub TellsMates : {A : Type 0} → Package → Text → ℤ → Option (Vec Related A) → Type 0
TellsMates p table id found = MatchOption found (is_item p table id ≡ false)
    (λ items. (is_item p table id ≡ true) × ListsMates p table id items.items)

-- ---- the rows

-- the row shows mapping, name of the relation, related table and related id
pub record ShowsRelated (row : Row) (r : Related) : Type 0 where
  pub mapping : column row 0 ≡ Words r.mapping
  pub name : column row 1 ≡ Words r.name
  pub table : column row 2 ≡ Words r.table
  pub id : column row 3 ≡ Int r.id

-- one more item is gathered, which the row shows
abbrev pub GathersMates : List Related → Row → List Related → Result Bool Fault → Type 0
GathersMates old row new result = MatchResult result (λ goes. (goes ≡ true) × (r : Related) × ShowsRelated row r
    × (new ≡ old ++ r ∷ [])) IsStoreFault
