-- The parts of rules that are decided by a walk each.
use Rattle.std.specs.Prelude.{◌≡◌, ◌<ℤ◌, codes, Some, None, IfSome}
use Rattle.std.specs.FinMap.{get}
use Rattle.mm_definitions.specs.Parts.{Each, Stands}
use Rattle.mm_definitions.specs.Package.{Package, HasKind, general_extension, mapping_extension, zoom_extension}
use Rattle.mm_definitions.specs.Rules.{MayName, Suits, IsOrdered, IsWanted}
use Rattle.mm_definitions.specs.Keys.{Text}
use Rattle.mm_definitions.specs.declared.commands.Kind.{Kind}
use Rattle.mm_definitions.specs.declared.commands.Kind.TheVariants.{Attributes, Media}

-- ---- of rule 2
-- the system that a contents row names stands, and where the table is a pyramid it is neither 0 nor 4326
abbrev pub ContentsSystems : Package → Type 0
ContentsSystems p = Each p.contents (λ table c. IfSome c.system (MayName p.systems p.kinds table))

-- the same of the system that a matrix set names
abbrev pub SetSystems : Package → Type 0
SetSystems p = Each p.sets (λ table s. MayName p.systems p.kinds table s.system)

-- ---- of rule 4
-- no mapping has a table's name
abbrev pub MappingNames : Package → Type 0
MappingNames p = Each p.relations (λ mapping _. get p.contents mapping ≡ None)

-- ---- of rule 5
-- each contents row has a kind in the registry, and with its matrix set, if it has one, suits that kind
abbrev pub Registered : Package → Type 0
Registered p = Each p.contents (λ table c. (kind : Kind) × HasKind p.kinds table kind × Suits kind c (get p.sets table))

-- each table of the registry has a contents row
abbrev pub KindsHaveContents : Package → Type 0
KindsHaveContents p = Each p.kinds (λ table _. Stands p.contents table)

-- each matrix set has a contents row
abbrev pub SetsHaveContents : Package → Type 0
SetsHaveContents p = Each p.sets (λ table _. Stands p.contents table)

-- ---- of rule 6
-- the extent of each matrix set is not empty
abbrev pub SetExtents : Package → Type 0
SetExtents p = Each p.sets (λ _ s. (s.box.min_x <ℤ s.box.max_x) × (s.box.min_y <ℤ s.box.max_y))

-- nor is that of a contents row, in each direction in which both bounds stand
abbrev pub ContentsExtents : Package → Type 0
ContentsExtents p = Each p.contents (λ _ c. IsOrdered c.min_x c.max_x × IsOrdered c.min_y c.max_y)

-- ---- of rule 11
-- each attribute row belongs to a table of kind `attributes`
abbrev pub RowsInTables : Package → Type 0
RowsInTables p = Each p.rows (λ k _. HasKind p.kinds k.table Attributes)

-- each medium belongs to a table of kind `media`
abbrev pub MediaInTables : Package → Type 0
MediaInTables p = Each p.media (λ k _. HasKind p.kinds k.table Media)

-- ---- of rule 14
-- each extension row is one that every package, a mapping or a pyramid of kind `other` wants
abbrev pub ExtensionsWanted : Package → Type 0
ExtensionsWanted p = Each p.extensions (λ e _. IsWanted p.kinds p.relations e)

-- no extension row of a table stands twice
abbrev pub NamedOnce : Package → Type 0
NamedOnce p = Each p.extensions (λ e count. ((t : Text) × (e.table ≡ Some t)) → count ≡ 1)

-- no extension row without a table stands twice
abbrev pub UnnamedOnce : Package → Type 0
UnnamedOnce p = Each p.extensions (λ e count. e.table ≡ None → count ≡ 1)

-- no extension row stands twice
abbrev pub ExtensionsOnce : Package → Type 0
ExtensionsOnce p = Each p.extensions (λ _ count. count ≡ 1)

-- the extension row of `gpkgext_relations` stands
abbrev pub GeneralExtension : Package → Type 0
GeneralExtension p = Stands p.extensions general_extension

-- each mapping has its extension row
abbrev pub MappingExtensions : Package → Type 0
MappingExtensions p = Each p.relations (λ mapping _. Stands p.extensions (mapping_extension mapping))

-- each pyramid of kind `other` has its extension row
abbrev pub ZoomExtensions : Package → Type 0
ZoomExtensions p = Each p.kinds (λ table kind. kind ≡ codes "other" → Stands p.extensions (zoom_extension table))
