-- A package of millimetres that meets the rules meets them in micrometres.
use Rattle.std.proofs.Common.{◌≡◌, ℤ, ◌*ℤ◌, ◌<ℤ◌, Option, Some, None, IfSome, is_some, option_map, refl, sym, ap, subst}
use Rattle.std.proofs.Common.{◌∙◌}
use Rattle.std.specs.FinMap.{get}
use Rattle.mm_definitions.specs.Bounds.{IsCoordinate, millimetres, micrometres}
use Rattle.mm_definitions.specs.Keys.{Text, Level, level, text_cmp, level_cmp}
use Rattle.mm_definitions.specs.Package.{Package, Contents, Box, MatrixSet, Grid}
use Rattle.mm_definitions.specs.Rules.{Meets, Suits, IsUnplaced, IsPlaced, IsOrdered, Fits, FitsIn}
use Rattle.mm_definitions.specs.Rules.{IsFiner, IsHalved, IsInside, ContentsWithin, SetWithin, MatrixWithin, MayName}
use Rattle.mm_definitions.specs.Within.{IsPieceWithin, IsMatrixWithin, Takes}
use Rattle.mm_definitions.specs.declared.commands.Matrix.{Matrix}
use Rattle.mm_definitions.specs.declared.commands.Piece.{Piece}
use Rattle.mm_definitions.specs.declared.commands.Piece.TheVariants as pieces
use Rattle.mm_definitions.specs.declared.commands.Kind.{Kind}
use Rattle.mm_definitions.specs.declared.commands.Kind.TheVariants.{Two, Other, Attributes, Media}
use Rattle.mm_definitions.specs.Scale.{scale, finer, finer_contents, finer_box, finer_set, finer_grid}
use Rattle.mm_laws.proofs.Units as units
use Rattle.mm_definitions.proofs.Values.{get_changed, each_changed, from}

some_changed : {X Y : Type 0} (change : X → Y) (o : Option X) → is_some (option_map change o) ≡ is_some o
some_changed change None = refl
some_changed change (Some x) = refl

bound : (o : Option ℤ) → IfSome o (IsCoordinate millimetres) → IfSome (option_map finer o) (IsCoordinate micrometres)
bound None h = tt
bound (Some z) h = units.coordinate z h

ordered : (low high : Option ℤ) → IsOrdered low high → IsOrdered (option_map finer low) (option_map finer high)
ordered None high h = tt
ordered (Some a) None h = tt
ordered (Some a) (Some b) h = units.less a b h

unplaced : (c : Contents) (s : Option MatrixSet) → IsUnplaced c s
    → IsUnplaced (finer_contents c) (option_map finer_set s)
unplaced c s (kind, a, b, d, e, system, set) = (
  kind,
  ap (option_map finer) a,
  ap (option_map finer) b,
  ap (option_map finer) d,
  ap (option_map finer) e,
  system,
  ap (option_map finer_set) set,
)

placed : (c : Contents) (s : Option MatrixSet) → IsPlaced c s → IsPlaced (finer_contents c) (option_map finer_set s)
placed c None h = absurd h
placed c (Some s) h = record {
  data_type = h.data_type;
  system = h.system;
  min_x = ap (option_map finer) h.min_x;
  min_y = ap (option_map finer) h.min_y;
  max_x = ap (option_map finer) h.max_x;
  max_y = ap (option_map finer) h.max_y;
}

suited : (kind : Kind) (c : Contents) (s : Option MatrixSet) → Suits kind c s
    → Suits kind (finer_contents c) (option_map finer_set s)
suited Two c s h = placed c s h
suited Other c s h = placed c s h
suited Attributes c s h = unplaced c s h
suited Media c s h = unplaced c s h

fits : (b : Box) (g : Grid) → Fits b g → Fits (finer_box b) (finer_grid g)
fits b g h = record {
  across = units.apart b.max_x b.min_x ∙ ap finer h.across
      ∙ sym (units.times (g.matrix_width *ℤ g.tile_width) g.pixel_x_size);
  down = units.apart b.max_y b.min_y ∙ ap finer h.down
      ∙ sym (units.times (g.matrix_height *ℤ g.tile_height) g.pixel_y_size);
}

fits_in : (s : Option MatrixSet) (g : Grid) → FitsIn s g → FitsIn (option_map finer_set s) (finer_grid g)
fits_in None g h = absurd h
fits_in (Some s) g h = fits s.box g h

inside : (o : Option Grid) (column row : ℤ) → IsInside o column row → IsInside (option_map finer_grid o) column row
inside None column row h = absurd h
inside (Some g) column row h = h

contents_within : (table : Text) (c : Contents) → ContentsWithin millimetres table c
    → ContentsWithin micrometres table (finer_contents c)
contents_within table c h = record {
  table = h.table;
  data_type = h.data_type;
  identifier = h.identifier;
  description = h.description;
  last_change = h.last_change;
  min_x = bound c.min_x h.min_x;
  min_y = bound c.min_y h.min_y;
  max_x = bound c.max_x h.max_x;
  max_y = bound c.max_y h.max_y;
  system = h.system;
}

set_within : (table : Text) (s : MatrixSet) → SetWithin millimetres table s → SetWithin micrometres table (finer_set s)
set_within table s h = record {
  table = h.table;
  system = h.system;
  box = record {
    min_x = units.coordinate s.box.min_x h.box.min_x;
    min_y = units.coordinate s.box.min_y h.box.min_y;
    max_x = units.coordinate s.box.max_x h.box.max_x;
    max_y = units.coordinate s.box.max_y h.box.max_y;
  };
}

matrix_within : (k : Level) (g : Grid) → MatrixWithin millimetres k g → MatrixWithin micrometres k (finer_grid g)
matrix_within k g h = record {
  table = h.table;
  zoom = h.zoom;
  matrix_width = h.matrix_width;
  matrix_height = h.matrix_height;
  tile_width = h.tile_width;
  tile_height = h.tile_height;
  pixel_x_size = units.pixel_size g.pixel_x_size h.pixel_x_size;
  pixel_y_size = units.pixel_size g.pixel_y_size h.pixel_y_size;
}

matrix_measures : (m : Matrix) → IsMatrixWithin millimetres m → IsMatrixWithin micrometres m
matrix_measures m h = record {
  mw = h.mw;
  mh = h.mh;
  tw = h.tw;
  th = h.th;
  px = units.wider m.px h.px;
  py = units.wider m.py h.py;
}

-- the fields of a staged piece keep their numbers, and the limits of micrometres are wider
piece_within : (q : Piece) → IsPieceWithin millimetres q → IsPieceWithin micrometres q
piece_within (pieces.Tile table place bytes) h = h
piece_within (pieces.TileDrop table place) h = h
piece_within (pieces.Row table id title note amount) h = h
piece_within (pieces.RowDrop table id) h = h
piece_within (pieces.Media table id content_type bytes) h = h
piece_within (pieces.MediaDrop table id) h = h
piece_within (pieces.Map mapping base_id related_id) h = h
piece_within (pieces.MapDrop mapping base_id related_id) h = h
piece_within (pieces.Matrix table zoom m) h = (h.0, h.1, matrix_measures m h.2)

piece_taken : (q : Piece) → Takes millimetres q → Takes micrometres q
piece_taken (pieces.Tile table place bytes) h = tt
piece_taken (pieces.TileDrop table place) h = tt
piece_taken (pieces.Row table id title note amount) h = tt
piece_taken (pieces.RowDrop table id) h = tt
piece_taken (pieces.Media table id content_type bytes) h = tt
piece_taken (pieces.MediaDrop table id) h = tt
piece_taken (pieces.Map mapping base_id related_id) h = tt
piece_taken (pieces.MapDrop mapping base_id related_id) h = tt
piece_taken (pieces.Matrix table zoom m) h = refl

module _ (p : Package) where
  pub contents_at : (table : Text) → get (scale p).contents table ≡ option_map finer_contents (get p.contents table)
  contents_at = get_changed text_cmp finer_contents p.contents

  pub sets_at : (table : Text) → get (scale p).sets table ≡ option_map finer_set (get p.sets table)
  sets_at = get_changed text_cmp finer_set p.sets

  pub matrices_at : (k : Level) → get (scale p).matrices k ≡ option_map finer_grid (get p.matrices k)
  matrices_at = get_changed level_cmp finer_grid p.matrices

  still_stands : (table : Text) → is_some (get (scale p).contents table) ≡ is_some (get p.contents table)
  still_stands table = ap is_some (contents_at table) ∙ some_changed finer_contents (get p.contents table)

  pub scaled : Meets millimetres p → Meets micrometres (scale p)
  scaled h = record {
    q1 = h.q1;
    q2 = record {
      of_contents = each_changed finer_contents p.contents
          (λ table c. IfSome c.system (MayName p.systems p.kinds table))
          (λ table c. IfSome c.system (MayName p.systems p.kinds table)) (λ table c same. same) h.q2.of_contents;
      of_sets = each_changed finer_set p.sets (λ table s. MayName p.systems p.kinds table s.system)
          (λ table s. MayName p.systems p.kinds table s.system) (λ table s same. same) h.q2.of_sets;
    };
    q3 = λ table c e other d f same.
        let one = from finer_contents p.contents table c e in
        let two = from finer_contents p.contents other d f in
        h.q3 table one.0 one.1 other two.0 two.1 (sym (ap (λ (x : Contents). x.identifier) one.2) ∙ same
        ∙ ap (λ (x : Contents). x.identifier) two.2);
    q4 = record {
      of_tables = λ table c e. let one = from finer_contents p.contents table c e in h.q4.of_tables table one.0 one.1;
      of_mappings = λ mapping r e. let was = h.q4.of_mappings mapping r e in
          (was.0, contents_at mapping ∙ ap (option_map finer_contents) was.1);
      of_editions = h.q4.of_editions;
    };
    q5 = record {
      registered = λ table c e.
          let one = from finer_contents p.contents table c e in
          let was = h.q5.registered table one.0 one.1 in (
            was.0,
            was.1,
            subst (Suits was.0 c) (sym (sets_at table))
                (subst (λ x. Suits was.0 x (option_map finer_set (get p.sets table))) (sym one.2)
                (suited was.0 one.0 (get p.sets table) was.2)),
          );
      of_kinds = λ table kind e. still_stands table ∙ h.q5.of_kinds table kind e;
      of_sets = λ table s e. let one = from finer_set p.sets table s e in still_stands table
          ∙ h.q5.of_sets table one.0 one.1;
    };
    q6 = record {
      of_sets = each_changed finer_set p.sets (λ _ s. (s.box.min_x <ℤ s.box.max_x) × (s.box.min_y <ℤ s.box.max_y))
          (λ _ s. (s.box.min_x <ℤ s.box.max_x) × (s.box.min_y <ℤ s.box.max_y))
          (λ _ s both. (units.less s.box.min_x s.box.max_x both.0, units.less s.box.min_y s.box.max_y both.1))
          h.q6.of_sets;
      of_contents = each_changed finer_contents p.contents
          (λ _ c. IsOrdered c.min_x c.max_x × IsOrdered c.min_y c.max_y)
          (λ _ c. IsOrdered c.min_x c.max_x × IsOrdered c.min_y c.max_y)
          (λ _ c both. (ordered c.min_x c.max_x both.0, ordered c.min_y c.max_y both.1)) h.q6.of_contents;
    };
    q7 = λ k g e.
        let one = from finer_grid p.matrices k g e in
        let was = h.q7 k one.0 one.1 in (
          was.0,
          subst (λ s. FitsIn s g) (sym (sets_at k.table))
              (subst (FitsIn (option_map finer_set (get p.sets k.table))) (sym one.2)
              (fits_in (get p.sets k.table) one.0 was.1)),
        );
    q8 = λ table low high g i e f up.
        let one = from finer_grid p.matrices (level table low) g e in
        let two = from finer_grid p.matrices (level table high) i f in
        let was = h.q8 table low high one.0 two.0 one.1 two.1 up in
        subst (λ x. IsFiner x i) (sym one.2) (subst (IsFiner (finer_grid one.0)) (sym two.2) (record {
          across = units.less two.0.pixel_x_size one.0.pixel_x_size was.across;
          down = units.less two.0.pixel_y_size one.0.pixel_y_size was.down;
        }));
    q9 = λ table zoom g i kind e f.
        let one = from finer_grid p.matrices (level table zoom) g e in
        let two = from finer_grid p.matrices (level table _) i f in
        let was = h.q9 table zoom one.0 two.0 kind one.1 two.1 in
        subst (λ x. IsHalved x i) (sym one.2) (subst (IsHalved (finer_grid one.0)) (sym two.2) (record {
          across = units.double one.0.pixel_x_size two.0.pixel_x_size was.across;
          down = units.double one.0.pixel_y_size two.0.pixel_y_size was.down;
        }));
    q10 = λ k bytes e. subst (λ o. IsInside o k.column k.row) (sym (matrices_at (level k.table k.zoom)))
        (inside (get p.matrices (level k.table k.zoom)) k.column k.row (h.q10 k bytes e));
    q11 = h.q11;
    q12 = h.q12;
    q13 = h.q13;
    q14 = h.q14;
    q15 = record {
      states = h.q15.states;
      numbered = h.q15.numbered;
      of_open = h.q15.of_open;
      spelled = λ k r e. let was = h.q15.spelled k r e in
          (was.0, was.1, piece_within was.0 was.2, piece_taken was.0 was.3);
    };
    q16 = record {
      systems = h.q16.systems;
      contents = each_changed finer_contents p.contents (ContentsWithin millimetres) (ContentsWithin micrometres)
          contents_within h.q16.contents;
      kinds = h.q16.kinds;
      sets = each_changed finer_set p.sets (SetWithin millimetres) (SetWithin micrometres) set_within h.q16.sets;
      matrices = each_changed finer_grid p.matrices (MatrixWithin millimetres) (MatrixWithin micrometres) matrix_within
          h.q16.matrices;
      extensions = h.q16.extensions;
      tiles = h.q16.tiles;
      rows = h.q16.rows;
      media = h.q16.media;
      relations = h.q16.relations;
      pairings = h.q16.pairings;
      editions = h.q16.editions;
      pieces = h.q16.pieces;
    };
  }
