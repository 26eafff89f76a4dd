use Rattle.std.proofs.Common.{codes, refl}
use Rattle.mm_definitions.specs.Bounds.{current}
use Rattle.mm_definitions.specs.Records as forms
use Rattle.mm_base.proofs.RecordFacts.{piece_arm}
use Rattle.mm_base.proofs.pieces.piece_of.Goals as goal

pub returns-in-tile : goal.returns-in-tile
returns-in-tile c = piece_arm _ c.args.fields.now (codes "tile") forms.tile_form c.in-len1-up.len_at_least c.in-tile.is refl c.read_tile.ensures

pub returns-in-text : goal.returns-in-text
returns-in-text c = piece_arm _ c.args.fields.now (codes "tile-drop") forms.tile_drop_form c.in-len1-up.len_at_least c.in-text.is refl c.read_tile_drop.ensures

pub returns-in-row : goal.returns-in-row
returns-in-row c = piece_arm _ c.args.fields.now (codes "row") forms.row_form c.in-len1-up.len_at_least c.in-row.is refl c.read_row.ensures

pub returns-in-text-2 : goal.returns-in-text-2
returns-in-text-2 c = piece_arm _ c.args.fields.now (codes "row-drop") forms.item_form c.in-len1-up.len_at_least c.in-text-2.is refl c.read_row_drop.ensures

pub returns-in-media : goal.returns-in-media
returns-in-media c = piece_arm _ c.args.fields.now (codes "media") forms.media_form c.in-len1-up.len_at_least c.in-media.is refl c.read_media.ensures

pub returns-in-text-3 : goal.returns-in-text-3
returns-in-text-3 c = piece_arm _ c.args.fields.now (codes "media-drop") forms.item_form c.in-len1-up.len_at_least c.in-text-3.is refl c.read_media_drop.ensures

pub returns-in-map : goal.returns-in-map
returns-in-map c = piece_arm _ c.args.fields.now (codes "map") forms.map_form c.in-len1-up.len_at_least c.in-map.is refl c.read_map.ensures

pub returns-in-text-4 : goal.returns-in-text-4
returns-in-text-4 c = piece_arm _ c.args.fields.now (codes "map-drop") forms.map_form c.in-len1-up.len_at_least c.in-text-4.is refl c.read_map_drop.ensures

pub returns-in-matrix : goal.returns-in-matrix
returns-in-matrix c = piece_arm _ c.args.fields.now (codes "matrix") (forms.matrix_form current) c.in-len1-up.len_at_least c.in-matrix.is refl c.read_matrix.ensures
