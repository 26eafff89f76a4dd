-- What the queries of rule 16 show: whether the entries of each table are within the limits of its columns.
use Rattle.std.proofs.Common.{◌≡◌, ◌↔◌, ℕ, suc, ◌<◌, ◌≤◌, ◌==◌, ℤ, List, [], ◌∷◌, Option, Some, None, Bool, true}
use Rattle.std.proofs.Common.{false, Result}
use Rattle.std.proofs.Common.{inl, inr, refl, sym, ap, subst, arith}
use Rattle.std.specs.Prelude.{IfSome}
use Rattle.std.proofs.lemmas.Bool.{cases_Bool}
use Rattle.std.proofs.lemmas.Bool.Decides.{nat_tests}
use Rattle.sql_forms.specs.Key.{Key}
use Rattle.sql_forms.specs.Term.{Term}
use Rattle.sql_forms.specs.Query.{Join}
use Rattle.sqlite.specs.State.{State}
use Rattle.sqlite.specs.declared.types.Value.TheVariants.{Int, Text as Words}
use Rattle.mm_definitions.specs.Keys.{Text}
use Rattle.mm_definitions.specs.Bounds.{Profile, IsCoordinate, IsSystemNumber, IsClean, IsLong, IsTileBytes}
use Rattle.mm_definitions.specs.Bounds.{IsMediaBytes, MostTileBytes, MostMediaBytes}
use Rattle.mm_definitions.specs.Package.{Package}
use Rattle.mm_definitions.specs.Parts.{Each}
use Rattle.mm_definitions.specs.Rules.{SystemWithin, ContentsWithin, KindWithin, SetWithin, MatrixWithin}
use Rattle.mm_definitions.specs.Rules.{ExtensionWithin, TileWithin, RowWithin, MediumWithin, RelationWithin}
use Rattle.mm_definitions.specs.Rules.{PairingWithin, EditionWithin, PieceWithin}
use Rattle.mm_definitions.specs.declared.answers.Fault.{Fault}
use Rattle.mm_definitions.proofs.Parts.{same_some}
use Rattle.mm_store.specs.Rows.{maybe, maybe_words, system_row, contents_row, kind_row, set_row, grid_row}
use Rattle.mm_store.specs.Rows.{extension_row, tile_row, attribute_row, medium_row, relation_row, pairing_row}
use Rattle.mm_store.specs.Rows.{edition_row, staged_row}
use Rattle.mm_store.specs.Kept.{tile_id, tile_with, medium_id, medium_with, piece_id, piece_with}
use Rattle.mm_walk.specs.Check.{IsCheck}
use Rattle.mm_walk.specs.RowTests.{TellsAll}
use Rattle.mm_column_limits.specs.LimitRows.{number_if_any, text_if_any, IsWithinRow}
use Rattle.mm_column_limits.specs.LimitParts.{query_of, limits_of, part, by_bytes}
use Rattle.mm_column_limits.specs.Longest.{AreFew, is_few}
use Rattle.mm_column_limits.specs.declared.row_limits.Limit.{Limit}
use Rattle.mm_column_limits.specs.declared.parts.TheConstants.{SYSTEMS, CONTENTS, KINDS, SETS, MATRICES, EXTENSIONS}
use Rattle.mm_column_limits.specs.declared.parts.TheConstants.{TILES}
use Rattle.mm_column_limits.specs.declared.parts.TheConstants.{ROWS, MEDIA, RELATIONS, PAIRINGS, EDITIONS, PIECES}
use Rattle.mm_column_limits.specs.declared.parts.TheConstants.{TILE_PLACES, MEDIA_TYPES}
use Rattle.mm_walk.proofs.Joined.{as_whole, after_rowid, after_id, covered, covered_whole, covered_id, each_row}
use Rattle.mm_walk.proofs.Counted.{counts_cover}
use Rattle.mm_walk.proofs.Named.{each_named, joined_blob, also}
use Rattle.mm_walk.proofs.Checks.{Says, checked}
use Rattle.mm_column_limits.proofs.LimitQueries.{Asks}
use Rattle.mm_column_limits.proofs.LimitQueries as query
use Rattle.mm_column_limits.proofs.Texts.{name_utf8, content_type_utf8, stamp_is_utf8}

number_is : (P : ℤ → Type 0) (o : Option ℤ) → number_if_any P (maybe o) ↔ IfSome o P
number_is P None = (λ _. tt, λ _. tt)
number_is P (Some z) = (λ h. h, λ h. h)

clean_is : (o : Option Text) → text_if_any IsClean (maybe_words o) ↔ IfSome o IsClean
clean_is None = (λ _. tt, λ _. tt)
clean_is (Some t) = (λ h. h.1, λ h. (h.utf8, h))

-- what holds of this number, and of those above
this_or : (P : ℕ → Type 0) (n k : ℕ) → P n → (suc n ≤ k → P k) → n ≤ k → P k
this_or P n k here above low = elim (cases_Bool (n == k)) as (λ _. P k) [
  | inl same ↦ subst P (let e = same in grind (arith, nat_tests)) here
  | inr other ↦ above (let apart : n < k = (let e = other in grind (arith, nat_tests)) in omega (arith, apart))
]

-- what is known of bytes is within a limit
long_within : (longest most : ℕ) → is_few (Some longest) most ≡ true → (bytes : List ℕ) → IsLong 1 longest bytes
    → IsLong 1 most bytes
long_within longest most few bytes long =
    (long.0, (let high = long.1 in let e = few in grind (arith, nat_tests)))

module _ (longest : Option ℕ) (p : Package) (known : AreFew longest p) where
  few_tiles : is_few longest MostTileBytes ≡ true → Each p.tiles (λ k bytes. IsTileBytes bytes)
  few_tiles few = elim longest as (λ o. AreFew o p → is_few o MostTileBytes ≡ true
      → Each p.tiles (λ k bytes. IsTileBytes bytes)) [
        | None ↦ λ any lie. absurd (let e : false ≡ true = lie in cc)
        | Some n ↦ λ it is k bytes at. long_within n MostTileBytes is bytes (it.0 k bytes at)
      ] known few

  few_media : is_few longest MostMediaBytes ≡ true → Each p.media (λ k medium. IsMediaBytes medium.bytes)
  few_media few = elim longest as (λ o. AreFew o p → is_few o MostMediaBytes ≡ true
      → Each p.media (λ k medium. IsMediaBytes medium.bytes)) [
        | None ↦ λ any lie. absurd (let e : false ≡ true = lie in cc)
        | Some n ↦ λ it is k medium at. long_within n MostMediaBytes is medium.bytes (it.1 k medium at)
      ] known few

module _ (profile : Profile) (longest : Option ℕ) (old new : State) where
  -- what a walk over the rows of this query tells, by the limits of their columns, is whether the package has this
  abbrev pub Tells : List ℕ → List Limit → (Package → Type 0) → Type 0
  Tells sql limits Rule = (r : Result Bool Fault) → TellsAll sql [] (IsWithinRow profile limits) old new r
      → IsCheck profile old new (AreFew longest) Rule r

  shown : {sql : List ℕ} {from : Join} {project : List Term} {order : List (Term × Key)} {names : List (List ℕ)}
      (limits : List Limit) (Rule : Package → Type 0) → Asks sql from project order names
      → Says [] from [] project (IsWithinRow profile limits) (AreFew longest) Rule → Tells sql limits Rule
  shown limits Rule asks says =
      checked _ [] (IsWithinRow profile limits) _ _ _ _ _ asks.0 asks.1 (AreFew longest) Rule says profile old new

  coordinate : (o : Option ℤ) → number_if_any (IsCoordinate profile) (maybe o) ↔ IfSome o (IsCoordinate profile)
  coordinate = number_is (IsCoordinate profile)

  systems : Tells SYSTEMS.0.now SYSTEMS.1.now (λ p. Each p.systems SystemWithin)
  systems = shown SYSTEMS.1.now (λ p. Each p.systems SystemWithin) query.systems (λ version db p stands known.
      each_row as_whole system_row (db 0) p.systems (covered_whole stands.holds.systems) _ _
      (λ k v x. (λ h. assumption, λ w. assumption)))

  contents : Tells CONTENTS.0.now CONTENTS.1.now (λ p. Each p.contents (ContentsWithin profile))
  contents = shown CONTENTS.1.now (λ p. Each p.contents (ContentsWithin profile)) query.contents (λ version db p
      stands known.
      each_row after_rowid contents_row (db 1) p.contents (covered (λ k v. (_, _, refl)) stands.holds.contents) _ _
      (λ k v x. (
        λ h. assumption (
          same_some h.1.1.1.0,
          (coordinate v.min_x).0 h.1.1.1.1.1.0,
          (coordinate v.min_y).0 h.1.1.1.1.1.1.0,
          (coordinate v.max_x).0 h.1.1.1.1.1.1.1.0,
          (coordinate v.max_y).0 h.1.1.1.1.1.1.1.1.0,
          (number_is IsSystemNumber v.system).0 h.1.1.1.1.1.1.1.1.1.0,
        ),
        λ w. assumption (
          name_utf8 _ w.table,
          ap Some w.description,
          stamp_is_utf8 _ w.last_change,
          (coordinate v.min_x).1 w.min_x,
          (coordinate v.min_y).1 w.min_y,
          (coordinate v.max_x).1 w.max_x,
          (coordinate v.max_y).1 w.max_y,
          (number_is IsSystemNumber v.system).1 w.system,
        ),
      )))

  kinds : Tells KINDS.0.now KINDS.1.now (λ p. Each p.kinds KindWithin)
  kinds = shown KINDS.1.now (λ p. Each p.kinds KindWithin) query.kinds (λ version db p stands known.
      each_row after_rowid kind_row (db 13) p.kinds (covered (λ k v. (_, _, refl)) stands.holds.kinds) _ _
      (λ k v x. (λ h. assumption, λ w. assumption (name_utf8 _ w.0))))

  sets : Tells SETS.0.now SETS.1.now (λ p. Each p.sets (SetWithin profile))
  sets = shown SETS.1.now (λ p. Each p.sets (SetWithin profile)) query.sets (λ version db p stands known.
      each_row after_rowid set_row (db 4) p.sets (covered (λ k v. (_, _, refl)) stands.holds.sets) _ _
      (λ k v x. (λ h. assumption, λ w. assumption (name_utf8 _ w.table))))

  matrices : Tells MATRICES.0.now MATRICES.1.now (λ p. Each p.matrices (MatrixWithin profile))
  matrices = shown MATRICES.1.now (λ p. Each p.matrices (MatrixWithin profile)) query.matrices (λ version db p
      stands known.
      each_row after_rowid grid_row (db 6) p.matrices (covered (λ k v. (_, _, refl)) stands.holds.matrices) _ _
      (λ k v x. (λ h. assumption, λ w. assumption (name_utf8 _ w.table))))

  extensions : Tells EXTENSIONS.0.now EXTENSIONS.1.now (λ p. Each p.extensions ExtensionWithin)
  extensions = shown EXTENSIONS.1.now (λ p. Each p.extensions ExtensionWithin) query.extensions (λ version db p
      stands known.
      each_row after_rowid (λ e (n : ℕ). extension_row e) (db 8) p.extensions
      (counts_cover (db 8) p.extensions stands.holds.extensions) _ _ (λ k v x. (
        λ h. assumption ((clean_is k.table).0 h.0, (clean_is k.column).0 h.1.0),
        λ w. assumption ((clean_is k.table).1 w.table, (clean_is k.column).1 w.column),
      )))

  tiles : Tells TILES.0.now TILES.1.now (λ p. Each p.tiles TileWithin)
  tiles = shown TILES.1.now (λ p. Each p.tiles TileWithin) query.tiles (λ version db p stands known.
      (let h = stands.holds in
      each_named tile_id tile_with h.kept.shelf h.kept.tiles p.tiles h.keeps.tiles_told after_rowid tile_row (db 15)
      (covered (λ k i. (_, _, refl)) h.keeps.tiles) _ TileWithin (λ k i x bytes at named.
      also (joined_blob (db 27) h.kept.shelf h.keeps.blobs
      (λ v. IsWithinRow profile TILES.1.now (Words k.table ∷ Int k.zoom ∷ Int k.column ∷ Int k.row ∷ v ∷ []))
      (Some i) bytes named) (λ row. assumption, λ w. assumption (name_utf8 _ w.table)))))

  tile_places : is_few longest MostTileBytes ≡ true
      → Tells TILE_PLACES.0.now TILE_PLACES.1.now (λ p. Each p.tiles TileWithin)
  tile_places few = shown TILE_PLACES.1.now (λ p. Each p.tiles TileWithin) query.tile_places (λ version db p
      stands known.
      (let h = stands.holds in
      each_named tile_id tile_with h.kept.shelf h.kept.tiles p.tiles h.keeps.tiles_told after_rowid tile_row (db 15)
      (covered (λ k i. (_, _, refl)) h.keeps.tiles) _ TileWithin (λ k i x bytes at named.
      (λ row. assumption (few_tiles longest p known few k bytes at), λ w. assumption (name_utf8 _ w.table)))))

  tiles_by : (few : Bool) → is_few longest MostTileBytes ≡ few
      → Tells (by_bytes few TILES.0.now TILE_PLACES.0.now) (by_bytes few TILES.1.now TILE_PLACES.1.now)
      (λ p. Each p.tiles TileWithin)
  tiles_by true is = tile_places is
  tiles_by false is = tiles

  rows : Tells ROWS.0.now ROWS.1.now (λ p. Each p.rows RowWithin)
  rows = shown ROWS.1.now (λ p. Each p.rows RowWithin) query.rows (λ version db p stands known.
      each_row after_rowid attribute_row (db 17) p.rows (covered (λ k v. (_, _, refl)) stands.holds.rows) _ _
      (λ k v x. (λ h. assumption, λ w. assumption (name_utf8 _ w.table))))

  media : Tells MEDIA.0.now MEDIA.1.now (λ p. Each p.media MediumWithin)
  media = shown MEDIA.1.now (λ p. Each p.media MediumWithin) query.media (λ version db p stands known.
      (let h = stands.holds in
      each_named medium_id medium_with h.kept.shelf h.kept.media p.media h.keeps.media_told after_rowid medium_row
      (db 19)
      (covered (λ k i. (_, _, refl)) h.keeps.media) _ MediumWithin (λ k i x bytes at named.
      also (joined_blob (db 27) h.kept.shelf h.keeps.blobs
      (λ v. IsWithinRow profile MEDIA.1.now (Words k.table ∷ Int k.id ∷ v ∷ Words i.content_type ∷ [])) (Some i.blob)
      bytes named) (λ row. assumption, λ w. assumption (name_utf8 _ w.table, content_type_utf8 _ w.content_type)))))

  media_types : is_few longest MostMediaBytes ≡ true
      → Tells MEDIA_TYPES.0.now MEDIA_TYPES.1.now (λ p. Each p.media MediumWithin)
  media_types few = shown MEDIA_TYPES.1.now (λ p. Each p.media MediumWithin) query.media_types (λ version db p
      stands known.
      (let h = stands.holds in
      each_named medium_id medium_with h.kept.shelf h.kept.media p.media h.keeps.media_told after_rowid medium_row
      (db 19)
      (covered (λ k i. (_, _, refl)) h.keeps.media) _ MediumWithin (λ k i x bytes at named. (
        λ row. assumption (few_media longest p known few k _ at),
        λ w. assumption (name_utf8 _ w.table, content_type_utf8 _ w.content_type),
      ))))

  media_by : (few : Bool) → is_few longest MostMediaBytes ≡ few
      → Tells (by_bytes few MEDIA.0.now MEDIA_TYPES.0.now) (by_bytes few MEDIA.1.now MEDIA_TYPES.1.now)
      (λ p. Each p.media MediumWithin)
  media_by true is = media_types is
  media_by false is = media

  relations : Tells RELATIONS.0.now RELATIONS.1.now (λ p. Each p.relations RelationWithin)
  relations = shown RELATIONS.1.now (λ p. Each p.relations RelationWithin) query.relations (λ version db p stands known.
      each_row after_id relation_row (db 10) p.relations (covered_id (λ k v. (_, _, refl)) stands.holds.relations) _ _
      (λ k v x. (λ h. assumption, λ w. assumption (name_utf8 _ w.mapping, name_utf8 _ w.base, name_utf8 _ w.related))))

  pairings : Tells PAIRINGS.0.now PAIRINGS.1.now (λ p. Each p.pairings PairingWithin)
  pairings = shown PAIRINGS.1.now (λ p. Each p.pairings PairingWithin) query.pairings (λ version db p stands known.
      each_row after_rowid pairing_row (db 21) p.pairings (covered (λ k v. (_, _, refl)) stands.holds.pairings) _ _
      (λ k v x. (λ h. assumption, λ w. assumption (name_utf8 _ w.mapping))))

  editions : Tells EDITIONS.0.now EDITIONS.1.now (λ p. Each p.editions EditionWithin)
  editions = shown EDITIONS.1.now (λ p. Each p.editions EditionWithin) query.editions (λ version db p stands known.
      each_row after_rowid edition_row (db 23) p.editions (covered (λ k v. (_, _, refl)) stands.holds.editions) _ _
      (λ k v x. (λ h. assumption, λ w. assumption (name_utf8 _ w.0))))

  pieces : Tells PIECES.0.now PIECES.1.now (λ p. Each p.pieces PieceWithin)
  pieces = shown PIECES.1.now (λ p. Each p.pieces PieceWithin) query.pieces (λ version db p stands known.
      (let h = stands.holds in
      each_named piece_id piece_with h.kept.shelf h.kept.pieces p.pieces h.keeps.pieces_told after_rowid staged_row
      (db 25)
      (covered (λ k i. (_, _, refl)) h.keeps.pieces) _ PieceWithin (λ k i x bytes at named.
      (λ row. assumption, λ w. assumption (name_utf8 _ w.0)))))

  -- each part is told by a walk over the rows of its table
  pub part_told : (k : ℕ) → 1 ≤ k → k < 14 → (sql : List ℕ) (limits : List Limit) → sql ≡ query_of longest k
      → limits ≡ limits_of longest k → Tells sql limits (part profile k)
  unfolding part
  part_told k low high sql limits e f =
      subst (λ s. Tells s limits (part profile k)) (sym e)
      (subst (λ l. Tells (query_of longest k) l (part profile k)) (sym f) (
      let P = λ (k : ℕ). Tells (query_of longest k) (limits_of longest k) (part profile k) in
      this_or P 1 k systems (this_or P 2 k contents (this_or P 3 k kinds (this_or P 4 k sets (this_or P 5 k matrices
      (this_or P 6 k extensions (this_or P 7 k (tiles_by (is_few longest MostTileBytes) refl) (this_or P 8 k rows
      (this_or P 9 k (media_by (is_few longest MostMediaBytes) refl)
      (this_or P 10 k relations (this_or P 11 k pairings (this_or P 12 k editions
      (this_or P 13 k pieces (λ past. absurd (omega (arith, past, high))))))))))))))) low))
