-- The fields of a record spell one command at most, and nothing is against fields that spell one.
use Rattle.std.proofs.Common.{◌≡◌, ◌∙◌, inl, inr, ℕ, zero, suc, ℤ, pos, List, [], ◌∷◌, Option, None, Some, refl, sym}
use Rattle.std.proofs.Common.{ap, arith}
use Rattle.std.specs.Prelude.{codes, bytes_eq, if◌then◌else◌, unsigned_abs}
use Rattle.hex.specs.Hex.{decode_of}
use Rattle.mm_definitions.specs.Keys.{Text}
use Rattle.mm_definitions.specs.Bounds.{Profile}
use Rattle.mm_definitions.specs.Fields.{Field, OneOf, NumberFrom, BytesTo, TextOf, AnIdentifier, AContentType, AName}
use Rattle.mm_definitions.specs.Fields.{Value, Whole, Plain, HoldsValue, IsAgainst, AllHold, IsAgainstSome}
use Rattle.mm_definitions.specs.Records.{Form, IsLeast, IsMet, IsUnmet, Spells, HoldsAgainst, SpellsPiece}
use Rattle.mm_definitions.specs.Records.{HoldsAgainstPiece, record_form, piece_form, command_word, command_values}
use Rattle.mm_definitions.specs.Records.{piece_word, piece_values}
use Rattle.mm_definitions.specs.declared.commands.Step.{Step}
use Rattle.mm_definitions.specs.declared.commands.Step.TheVariants as steps
use Rattle.mm_definitions.specs.declared.commands.PlainKind.{PlainKind}
use Rattle.mm_definitions.specs.declared.commands.PlainKind.TheVariants as plain_kinds
use Rattle.mm_definitions.specs.declared.commands.RelationName.{RelationName}
use Rattle.mm_definitions.specs.declared.commands.RelationName.TheVariants as names
use Rattle.mm_definitions.specs.declared.commands.Matrix.{Matrix}
use Rattle.mm_definitions.specs.declared.commands.Piece.{Piece}
use Rattle.mm_definitions.specs.declared.commands.Piece.TheVariants as pieces
use Rattle.mm_definitions.specs.declared.commands.Piece.TheVariants.{Tile, TileDrop, Row, RowDrop, Media, MediaDrop}
use Rattle.mm_definitions.specs.declared.commands.Piece.TheVariants.{Map, MapDrop}
use Rattle.mm_definitions.specs.declared.commands.Command.{Command}
use Rattle.mm_definitions.specs.declared.commands.Command.TheVariants as commands
use Rattle.mm_definitions.specs.declared.places.TilePlace.{TilePlace}
use Rattle.mm_definitions.proofs.ReadingFacts.{spells_one, none_against, one_value}
use Rattle.mm_laws.specs.Laws.{IsReadingNumber}

-- ---- a field holds one value
holds_one : (f : Field) (t : Text) (v w : Value) → HoldsValue f t v → HoldsValue f t w → v ≡ w
holds_one (OneOf words) t (Plain v) (Plain w) h k = ap Plain (h.0 ∙ sym k.0)
holds_one (OneOf words) t (Plain v) (Whole z) h k = absurd k
holds_one (OneOf words) t (Whole y) w h k = absurd h
holds_one (NumberFrom low high) t (Whole y) (Whole z) h k = ap Whole (spells_one t y z h.0 k.0)
holds_one (NumberFrom low high) t (Whole y) (Plain w) h k = absurd k
holds_one (NumberFrom low high) t (Plain v) w h k = absurd h
holds_one (BytesTo most) t (Plain v) (Plain w) h k = ap Plain (one_value (decode_of t) v w h.0 k.0)
holds_one (BytesTo most) t (Plain v) (Whole z) h k = absurd k
holds_one (BytesTo most) t (Whole y) w h k = absurd h
holds_one (TextOf least most) t (Plain v) (Plain w) h k = ap Plain (h.0 ∙ sym k.0)
holds_one (TextOf least most) t (Plain v) (Whole z) h k = absurd k
holds_one (TextOf least most) t (Whole y) w h k = absurd h
holds_one AnIdentifier t (Plain v) (Plain w) h k = ap Plain (h.0 ∙ sym k.0)
holds_one AnIdentifier t (Plain v) (Whole z) h k = absurd k
holds_one AnIdentifier t (Whole y) w h k = absurd h
holds_one AContentType t (Plain v) (Plain w) h k = ap Plain (h.0 ∙ sym k.0)
holds_one AContentType t (Plain v) (Whole z) h k = absurd k
holds_one AContentType t (Whole y) w h k = absurd h
holds_one AName t (Plain v) (Plain w) h k = ap Plain (h.0 ∙ sym k.0)
holds_one AName t (Plain v) (Whole z) h k = absurd k
holds_one AName t (Whole y) w h k = absurd h

values_one : (fs : List Field) (ts : List Text) (vs ws : List Value) → AllHold fs ts vs → AllHold fs ts ws → vs ≡ ws
values_one [] [] [] [] h k = refl
values_one [] [] [] (w ∷ ws) h k = absurd k
values_one [] [] (v ∷ vs) ws h k = absurd h
values_one [] (t ∷ ts) vs ws h k = absurd h
values_one (f ∷ fs) [] vs ws h k = absurd h
values_one (f ∷ fs) (t ∷ ts) [] ws h k = absurd h
values_one (f ∷ fs) (t ∷ ts) (v ∷ vs) [] h k = absurd k
values_one (f ∷ fs) (t ∷ ts) (v ∷ vs) (w ∷ ws) h k = let a = holds_one f t v w h.0 k.0 in let b =
    values_one fs ts vs ws h.1 k.1 in cc

met_one : (o : Option Form) (ts : List Text) (vs ws : List Value) → IsMet o ts vs → IsMet o ts ws → vs ≡ ws
met_one None ts vs ws h k = absurd h
met_one (Some form) ts vs ws h k = values_one form ts vs ws h k

-- ---- the command of a word and values
abbrev pub plain_of : Value → Text
plain_of (Plain t) = t
plain_of (Whole z) = []

abbrev pub whole_of : Value → ℤ
whole_of (Plain t) = pos 0
whole_of (Whole z) = z

abbrev pub head : List Value → Value
head [] = Plain []
head (v ∷ vs) = v

abbrev pub tail : List Value → List Value
tail [] = []
tail (v ∷ vs) = vs

abbrev value_of : List Value → ℕ → Value
value_of vs zero = head vs
value_of vs (suc i) = value_of (tail vs) i

abbrev text_of : List Value → ℕ → Text
text_of vs i = plain_of (value_of vs i)

abbrev number_of : List Value → ℕ → ℤ
number_of vs i = whole_of (value_of vs i)

abbrev count_of : List Value → ℕ → ℕ
count_of vs i = unsigned_abs (number_of vs i)

abbrev pub step_of : Text → Step
step_of t = if bytes_eq t (codes "two") then steps.Two else steps.Other

abbrev pub kind_of : Text → PlainKind
kind_of t = if bytes_eq t (codes "attributes") then plain_kinds.Attributes else plain_kinds.Media

abbrev pub relation_of : Text → RelationName
relation_of t = if bytes_eq t (codes "media") then names.Media else names.SimpleAttributes

abbrev place_of : List Value → TilePlace
place_of vs = record { zoom = count_of vs 1; column = count_of vs 2; row = count_of vs 3 }

abbrev matrix_of : List Value → Matrix
matrix_of vs = record {
  mw = count_of vs 2;
  mh = count_of vs 3;
  tw = count_of vs 4;
  th = count_of vs 5;
  px = number_of vs 6;
  py = number_of vs 7;
}

abbrev pub piece_of : Text → List Value → Piece
piece_of word vs =
    if bytes_eq word (codes "tile") then Tile (text_of vs 0) (place_of vs) (text_of vs 4) else
    (if bytes_eq word (codes "tile-drop") then TileDrop (text_of vs 0) (place_of vs) else
    (if bytes_eq word (codes "row") then Row (text_of vs 0) (number_of vs 1) (text_of vs 2) (text_of vs 3) (number_of vs 4) else
    (if bytes_eq word (codes "row-drop") then RowDrop (text_of vs 0) (number_of vs 1) else
    (if bytes_eq word (codes "media") then Media (text_of vs 0) (number_of vs 1) (text_of vs 2) (text_of vs 3) else
    (if bytes_eq word (codes "media-drop") then MediaDrop (text_of vs 0) (number_of vs 1) else
    (if bytes_eq word (codes "map") then Map (text_of vs 0) (number_of vs 1) (number_of vs 2) else
    (if bytes_eq word (codes "map-drop") then MapDrop (text_of vs 0) (number_of vs 1) (number_of vs 2) else
    pieces.Matrix (text_of vs 0) (count_of vs 1) (matrix_of vs))))))))

abbrev pub command_of : Text → List Value → Command
command_of word vs =
    if bytes_eq word (codes "srs") then commands.Srs (number_of vs 0) (text_of vs 1) (text_of vs 2) (number_of vs 3) (text_of vs 4) (text_of vs 5) else
    (if bytes_eq word (codes "pyramid") then commands.Pyramid (text_of vs 0) (text_of vs 1) (number_of vs 2)
    (number_of vs 3) (number_of vs 4) (number_of vs 5) (number_of vs 6) (step_of (text_of vs 7)) else
    (if bytes_eq word (codes "table") then commands.Table (text_of vs 0) (kind_of (text_of vs 1)) (text_of vs 2) else
    (if bytes_eq word (codes "drop") then commands.Drop (text_of vs 0) else
    (if bytes_eq word (codes "relation") then commands.Relation (text_of vs 0) (text_of vs 1) (text_of vs 2) (relation_of (text_of vs 3)) else
    (if bytes_eq word (codes "relation-drop") then commands.RelationDrop (text_of vs 0) else
    (if bytes_eq word (codes "edition") then commands.Edition (text_of vs 0) else
    (if bytes_eq word (codes "discard") then commands.Discard (text_of vs 0) else
    (if bytes_eq word (codes "publish") then commands.Publish (text_of vs 0) else
    (if bytes_eq word (codes "rehearse") then commands.Rehearse (text_of vs 0) else
    (if bytes_eq word (codes "stage") then commands.Stage (text_of vs 0) (number_of vs 1) (piece_of (text_of vs 2) (tail (tail (tail vs)))) else
    commands.Edit (piece_of word vs)))))))))))

pub piece_back : (q : Piece) → piece_of (piece_word q) (piece_values q) ≡ q
piece_back (Tile table place bytes) = refl
piece_back (TileDrop table place) = refl
piece_back (Row table id title note amount) = refl
piece_back (RowDrop table id) = refl
piece_back (Media table id content_type bytes) = refl
piece_back (MediaDrop table id) = refl
piece_back (Map mapping base_id related_id) = refl
piece_back (MapDrop mapping base_id related_id) = refl
piece_back (pieces.Matrix table zoom matrix) = refl

edit_back : (q : Piece) → command_of (piece_word q) (piece_values q) ≡ commands.Edit q
edit_back (Tile table place bytes) = refl
edit_back (TileDrop table place) = refl
edit_back (Row table id title note amount) = refl
edit_back (RowDrop table id) = refl
edit_back (Media table id content_type bytes) = refl
edit_back (MediaDrop table id) = refl
edit_back (Map mapping base_id related_id) = refl
edit_back (MapDrop mapping base_id related_id) = refl
edit_back (pieces.Matrix table zoom matrix) = refl

pub command_back : (c : Command) → command_of (command_word c) (command_values c) ≡ c
command_back (commands.Srs id name organization organization_id definition description) = refl
command_back (commands.Pyramid table identifier srs min_x min_y max_x max_y steps.Two) = refl
command_back (commands.Pyramid table identifier srs min_x min_y max_x max_y steps.Other) = refl
command_back (commands.Table table plain_kinds.Attributes identifier) = refl
command_back (commands.Table table plain_kinds.Media identifier) = refl
command_back (commands.Drop table) = refl
command_back (commands.Relation mapping base related names.Media) = refl
command_back (commands.Relation mapping base related names.SimpleAttributes) = refl
command_back (commands.RelationDrop mapping) = refl
command_back (commands.Edit q) = edit_back q
command_back (commands.Edition name) = refl
command_back (commands.Discard name) = refl
command_back (commands.Stage edition number q) = ap (commands.Stage edition number) (piece_back q)
command_back (commands.Publish edition) = refl
command_back (commands.Rehearse edition) = refl

-- ---- one command, and nothing against it
pub one_command : (profile : Profile) (texts : List Text) (c d : Command) → Spells profile texts c
    → Spells profile texts d → c ≡ d
one_command profile [] c d h k = absurd h
one_command profile (word ∷ ts) c d h k =
    let words : command_word c ≡ command_word d = sym h.0 ∙ k.0 in
    let values : command_values c ≡ command_values d = met_one (record_form profile (word ∷ ts)) ts (command_values c)
    (command_values d) h.1 k.1 in
    sym (command_back c) ∙ ap (λ w. command_of w (command_values c)) words
    ∙ ap (λ vs. command_of (command_word d) vs) values ∙ command_back d

pub one_piece : (profile : Profile) (texts : List Text) (q r : Piece) → SpellsPiece profile texts q
    → SpellsPiece profile texts r → q ≡ r
one_piece profile [] q r h k = absurd h
one_piece profile (word ∷ ts) q r h k =
    let words : piece_word q ≡ piece_word r = sym h.0 ∙ k.0 in
    let values : piece_values q ≡ piece_values r = met_one (piece_form profile (word ∷ ts)) ts (piece_values q)
    (piece_values r) h.1 k.1 in
    sym (piece_back q) ∙ ap (λ w. piece_of w (piece_values q)) words ∙ ap (λ vs. piece_of (piece_word r) vs) values
    ∙ piece_back r

not_unmet : (o : Option Form) (ts : List Text) (vs : List Value) (n : ℕ) → IsMet o ts vs → IsUnmet o ts n → ⊥
not_unmet None ts vs n h a = h
not_unmet (Some form) ts vs n h a = none_against form ts vs n h a

pub none_against_command : (profile : Profile) (texts : List Text) (c : Command) (n : ℕ) → Spells profile texts c
    → HoldsAgainst profile texts n → ⊥
none_against_command profile [] c n h a = h
none_against_command profile (word ∷ ts) c n h a = not_unmet (record_form profile (word ∷ ts)) ts (command_values c) n
    h.1 a

pub none_against_piece : (profile : Profile) (texts : List Text) (q : Piece) (n : ℕ) → SpellsPiece profile texts q
    → HoldsAgainstPiece profile texts n → ⊥
none_against_piece profile [] q n h a = h
none_against_piece profile (word ∷ ts) q n h a = not_unmet (piece_form profile (word ∷ ts)) ts (piece_values q) n h.1 a

-- ---- the numbers
pub one_least : (Held : ℕ → Type 0) (n m : ℕ) → IsLeast Held n → IsLeast Held m → n ≡ m
one_least Held n m a b = omega (arith, a.is_least m b.is_held, b.is_least n a.is_held)

field_number : (f : Field) (t : Text) (n : ℕ) → IsAgainst f t n → IsReadingNumber n
field_number (OneOf words) t n a = inl a.0
field_number (NumberFrom low high) t n (inl a) = inl a.0
field_number (NumberFrom low high) t n (inr a) = inr (inl a.0)
field_number (BytesTo most) t n (inl a) = inl a.0
field_number (BytesTo most) t n (inr a) = inr (inl a.0)
field_number (TextOf least most) t n a = inr (inl a.0)
field_number AnIdentifier t n a = inr (inl a.0)
field_number AContentType t n a = inr (inl a.0)
field_number AName t n a = inr (inr a.0)

some_number : (fs : List Field) (ts : List Text) (n : ℕ) → IsAgainstSome fs ts n → IsReadingNumber n
some_number [] [] n a = absurd a
some_number [] (t ∷ ts) n a = inl a
some_number (f ∷ fs) [] n a = inl a
some_number (f ∷ fs) (t ∷ ts) n (inl a) = field_number f t n a
some_number (f ∷ fs) (t ∷ ts) n (inr a) = some_number fs ts n a

unmet_number : (o : Option Form) (ts : List Text) (n : ℕ) → IsUnmet o ts n → IsReadingNumber n
unmet_number None ts n a = inl a
unmet_number (Some form) ts n a = some_number form ts n a

pub command_number : (profile : Profile) (texts : List Text) (n : ℕ) → HoldsAgainst profile texts n → IsReadingNumber n
command_number profile [] n a = inl a
command_number profile (word ∷ ts) n a = unmet_number (record_form profile (word ∷ ts)) ts n a

pub piece_number : (profile : Profile) (texts : List Text) (n : ℕ) → HoldsAgainstPiece profile texts n
    → IsReadingNumber n
piece_number profile [] n a = inl a
piece_number profile (word ∷ ts) n a = unmet_number (piece_form profile (word ∷ ts)) ts n a
