-- What an accepted command puts and removes.
use Rattle.std.specs.Prelude.{ℤ, pos, Bool, not, [], Option, Some, None, codes}
use Rattle.std.specs.FinMap.{get, insert, remove, retain_keys}
use Rattle.mm_definitions.specs.Keys.{Text, same_text, level, item, pairing, piece}
use Rattle.mm_definitions.specs.Package.{Package, Contents, Box, kind_text, mapping_extension, zoom_extension}
use Rattle.mm_definitions.specs.Package.{open_state}
use Rattle.mm_definitions.specs.Pieces.{piece_row}
use Rattle.mm_definitions.specs.Places.{tile_at}
use Rattle.mm_definitions.specs.Conditions.{grid, relation_text}
use Rattle.mm_definitions.specs.declared.commands.Step.{Step}
use Rattle.mm_definitions.specs.declared.commands.Step.TheVariants as steps
use Rattle.mm_definitions.specs.declared.commands.PlainKind.{PlainKind}
use Rattle.mm_definitions.specs.declared.commands.PlainKind.TheVariants as plain
use Rattle.mm_definitions.specs.declared.commands.Kind.{Kind}
use Rattle.mm_definitions.specs.declared.commands.Kind.TheVariants as kinds
use Rattle.mm_definitions.specs.declared.commands.Command.{Command}
use Rattle.mm_definitions.specs.declared.commands.Command.TheVariants as commands
use Rattle.mm_definitions.specs.declared.commands.Piece.{Piece}
use Rattle.mm_definitions.specs.declared.commands.Piece.TheVariants as pieces
use Rattle.mm_definitions.specs.declared.commands.Piece.TheVariants.{Tile, TileDrop, Row, RowDrop, Media, MediaDrop}
use Rattle.mm_definitions.specs.declared.commands.Piece.TheVariants.{Map, MapDrop}

-- the same, changed at this time
abbrev pub changed_at : Text → Contents → Contents
changed_at stamp c = record c { last_change = stamp }

-- the table's contents row, where it has one, is put again as changed at the stamp
abbrev pub touched_row : Package → Text → Text → Option Contents → Package
touched_row p table stamp None = p
touched_row p table stamp (Some c) = record p { contents = insert p.contents table (changed_at stamp c) }

-- last_change of the table becomes the stamp
abbrev pub touch : Package → Text → Text → Package
touch p table stamp = touched_row p table stamp (get p.contents table)

-- ---- by the pieces of an edition
-- the package after a piece took effect; what is put or removed in a table is stamped there, and a mapping row in none
abbrev pub piece_effect : Package → Piece → Text → Package
piece_effect p (Tile table place bytes) stamp =
    touch (record p { tiles = insert p.tiles (tile_at table place) bytes }) table stamp
piece_effect p (TileDrop table place) stamp =
    touch (record p { tiles = remove p.tiles (tile_at table place) }) table stamp
piece_effect p (Row table id title note amount) stamp =
    touch (record p { rows = insert p.rows (item table id) (record { title = title; note = note; amount = amount }) })
    table stamp
piece_effect p (RowDrop table id) stamp =
    touch (record p { rows = remove p.rows (item table id) }) table stamp
piece_effect p (Media table id content_type bytes) stamp =
    touch (record p { media = insert p.media (item table id) (record { bytes = bytes; content_type = content_type }) })
    table stamp
piece_effect p (MediaDrop table id) stamp =
    touch (record p { media = remove p.media (item table id) }) table stamp
piece_effect p (Map mapping base_id related_id) stamp =
    record p { pairings = insert p.pairings (pairing mapping base_id related_id) tt }
piece_effect p (MapDrop mapping base_id related_id) stamp =
    record p { pairings = remove p.pairings (pairing mapping base_id related_id) }
piece_effect p (pieces.Matrix table zoom matrix) stamp =
    touch (record p { matrices = insert p.matrices (level table (pos zoom)) (grid matrix) }) table stamp

-- ---- by the other commands
-- the kind of a pyramid of these zoom steps
abbrev pub step_kind : Step → Kind
step_kind steps.Two = kinds.Two
step_kind steps.Other = kinds.Other

-- the kind of a table that is no pyramid
abbrev pub plain_kind : PlainKind → Kind
plain_kind plain.Attributes = kinds.Attributes
plain_kind plain.Media = kinds.Media

-- a pyramid of kind `other` has its extension row
abbrev pub with_zoom_row : Package → Text → Step → Package
with_zoom_row p table steps.Two = p
with_zoom_row p table steps.Other = record p { extensions = insert p.extensions (zoom_extension table) 1 }

-- all that is put with a pyramid but its extension row
abbrev pub with_pyramid : Package → Text → Text → ℤ → Box → Step → Text → Package
with_pyramid p table identifier srs box step stamp = record p {
  contents = insert p.contents table (record {
    data_type = codes "tiles";
    identifier = identifier;
    description = [];
    last_change = stamp;
    min_x = Some box.min_x;
    min_y = Some box.min_y;
    max_x = Some box.max_x;
    max_y = Some box.max_y;
    system = Some srs;
  });
  kinds = insert p.kinds table (kind_text (step_kind step));
  sets = insert p.sets table (record { system = srs; box = box });
}

-- not of this table, mapping or edition
abbrev pub is_other : Text → Text → Bool
is_other table name = not (same_text name table)

-- the table is dropped with all that it holds; staged pieces that name it stay
abbrev pub without_table : Package → Text → Package
without_table p table = record p {
  contents = remove p.contents table;
  kinds = remove p.kinds table;
  sets = remove p.sets table;
  matrices = retain_keys p.matrices (λ k. is_other table k.table);
  tiles = retain_keys p.tiles (λ k. is_other table k.table);
  rows = retain_keys p.rows (λ k. is_other table k.table);
  media = retain_keys p.media (λ k. is_other table k.table);
  extensions = remove p.extensions (zoom_extension table);
}

-- the package after an accepted command at this stamp; what `publish` does is left to `done`
abbrev pub effect : Package → Command → Text → Package
effect p (commands.Srs id name organization organization_id definition description) stamp =
    record p {
      systems = insert p.systems id (record {
        name = name;
        organization = organization;
        organization_id = organization_id;
        definition = definition;
        description = description;
      });
    }
effect p (commands.Pyramid table identifier srs min_x min_y max_x max_y step) stamp =
    with_zoom_row (with_pyramid p table identifier srs
    (record { min_x = min_x; min_y = min_y; max_x = max_x; max_y = max_y }) step stamp) table step
effect p (commands.Table table kind identifier) stamp =
    record p {
      contents = insert p.contents table (record {
        data_type = codes "attributes";
        identifier = identifier;
        description = [];
        last_change = stamp;
        min_x = None;
        min_y = None;
        max_x = None;
        max_y = None;
        system = None;
      });
      kinds = insert p.kinds table (kind_text (plain_kind kind));
    }
effect p (commands.Drop table) stamp = without_table p table
effect p (commands.Relation mapping base related name) stamp =
    record p {
      relations = insert p.relations mapping (record {
        base = base;
        related = related;
        base_column = codes "id";
        related_column = codes "id";
        name = relation_text name;
      });
      extensions = insert p.extensions (mapping_extension mapping) 1;
    }
effect p (commands.RelationDrop mapping) stamp =
    record p {
      relations = remove p.relations mapping;
      extensions = remove p.extensions (mapping_extension mapping);
      pairings = retain_keys p.pairings (λ k. is_other mapping k.mapping);
    }
effect p (commands.Edition name) stamp = record p { editions = insert p.editions name open_state }
effect p (commands.Discard name) stamp =
    record p { editions = remove p.editions name; pieces = retain_keys p.pieces (λ k. is_other name k.edition) }
effect p (commands.Stage edition number q) stamp =
    record p { pieces = insert p.pieces (piece edition number) (piece_row q) }
effect p (commands.Publish edition) stamp = p
effect p (commands.Rehearse edition) stamp = p
effect p (commands.Edit q) stamp = piece_effect p q stamp
