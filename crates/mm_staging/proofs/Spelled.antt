-- A kept row that spells a piece is that piece's row, where the rules hold, and its blob the piece's.
use Rattle.std.proofs.Common.{◌≡◌, ℕ, ℤ, List, Option, Some, sym, ap, subst, ◌∙◌}
use Rattle.mm_definitions.specs.Bounds.{Profile}
use Rattle.mm_definitions.specs.Package.{PieceRow}
use Rattle.mm_definitions.specs.Pieces.{piece_row, piece_by_kind}
use Rattle.mm_definitions.specs.Rules.{IsSpelled}
use Rattle.mm_definitions.specs.declared.commands.Piece.{Piece}
use Rattle.mm_definitions.proofs.Parts.{same_some}
use Rattle.mm_laws.proofs.Published.{by_kind}
use Rattle.mm_store.specs.Blobs.{Shelf, StandsAt}
use Rattle.mm_staging.specs.Outlines.{IsBlobOf, HoldsBytes}
use Rattle.mm_staging.specs.declared.outlines.Outline.{Outline}
use Rattle.mm_staging.specs.declared.outlines.Outline.TheVariants as outlines

pub spelled_row : (profile : Profile) (r : PieceRow) (q : Piece) → IsSpelled profile r → piece_by_kind r ≡ Some q
    → r ≡ piece_row q
spelled_row profile r q is e = is.1 ∙ ap piece_row (same_some (sym (ap piece_by_kind is.1 ∙ by_kind is.0) ∙ e))

pub blob_holds : (shelf : Shelf) (blob : Option ℤ) (outline : Outline) (bytes : List ℕ) → IsBlobOf blob outline
    → StandsAt shelf blob bytes → HoldsBytes outline bytes shelf
blob_holds shelf blob (outlines.Tile table place id) bytes is stands = subst (λ o. StandsAt shelf o bytes) is stands
blob_holds shelf blob (outlines.TileDrop table place) bytes is stands = tt
blob_holds shelf blob (outlines.Row table id title note amount) bytes is stands = tt
blob_holds shelf blob (outlines.RowDrop table id) bytes is stands = tt
blob_holds shelf blob (outlines.Media table id content_type medium) bytes is stands =
    subst (λ o. StandsAt shelf o bytes) is stands
blob_holds shelf blob (outlines.MediaDrop table id) bytes is stands = tt
blob_holds shelf blob (outlines.Map mapping base_id related_id) bytes is stands = tt
blob_holds shelf blob (outlines.MapDrop mapping base_id related_id) bytes is stands = tt
blob_holds shelf blob (outlines.Matrix table zoom m) bytes is stands = tt
