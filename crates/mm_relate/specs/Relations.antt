-- What the calls on relations put and tell.
use Rattle.std.specs.Prelude.{ℕ, ℤ, ◌||◌, [], ◌∷◌, Option, String, string_bytes, codes}
use Rattle.mm_definitions.specs.declared.refusals.TheConstants.{NO_ROW, NO_MEDIA_ITEM}
use Rattle.mm_definitions.specs.Keys.{Text}
use Rattle.mm_definitions.specs.Package.{Package, Relation}
use Rattle.mm_definitions.specs.Conditions.{least, lacks_row, lacks_medium}

-- a new relation, both of whose primary columns are `id`
abbrev pub new_relation : Text → Text → Text → Relation
new_relation base related name = record { base = base; related = related; base_column = codes "id"; related_column = codes "id"; name = name }

-- the base table and the related table
abbrev pub ends : Relation → Text × Text
ends r = (r.base, r.related)

-- the names of both tables as bytes
abbrev pub both_bytes : {A B : Type 0} → String A × String B → Text × Text
both_bytes pair = (string_bytes pair.0, string_bytes pair.1)

-- which number the ends of a mapping row lack something for
abbrev pub lacks : Package → Text × Text → ℤ → ℤ → Option ℕ
lacks p tables base_id related_id =
    least ((NO_ROW, lacks_row p tables.0 base_id || lacks_row p tables.1 related_id)
    ∷ (NO_MEDIA_ITEM, lacks_medium p tables.0 base_id || lacks_medium p tables.1 related_id) ∷ [])
