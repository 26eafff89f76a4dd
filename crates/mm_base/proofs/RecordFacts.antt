-- What is read of a record by its first word, and the limits of what it spells.
use Rattle.std.proofs.Common.{◌≡◌, ◌∙◌, ◌≤◌, inl, inr, ℕ, ℤ, List, [], ◌∷◌, ◌++◌, length, drop, take, ◌-◌}
use Rattle.std.proofs.Common.{length-drop, Option, None, Some, IfOk, Bool, true, false, Result, Ok, Err, refl, sym}
use Rattle.std.proofs.Common.{ap, subst, arith}
use Rattle.std.specs.Prelude.{⊤, codes, bytes_eq, if◌then◌else◌}
use Rattle.std.specs.Borrow.{Bor}
use Rattle.std.proofs.lemmas.List.{take_all}
use Rattle.std.proofs.lemmas.Slice.Eq.{bytes_eq-Decides}
use Rattle.mm_definitions.specs.Keys.{Text}
use Rattle.mm_definitions.specs.Bounds.{IsFrom, IsLong, IsText, IsIdentifier, IsContentType, IsName, current}
use Rattle.mm_definitions.specs.Reading.{ReadsTo}
use Rattle.mm_definitions.specs.Fields.{Field, OneOf, NumberFrom, BytesTo, TextOf, AnIdentifier, AContentType, AName}
use Rattle.mm_definitions.specs.Fields.{Value, Whole, Plain, HoldsValue, AllHold, IsAgainstSome}
use Rattle.mm_definitions.specs.Records.{Form, form_of, piece_forms, other_forms, record_form, stage_form}
use Rattle.mm_definitions.specs.Records.{with_piece, id_field, IsLeast, IsMet, IsUnmet, SpellsPiece}
use Rattle.mm_definitions.specs.Records.{HoldsAgainstPiece, Spells, HoldsAgainst, piece_word, piece_values}
use Rattle.mm_definitions.specs.Records.{command_word, command_values}
use Rattle.mm_definitions.specs.Records as forms
use Rattle.mm_definitions.specs.Within.{IsWithin, IsPieceWithin, Takes}
use Rattle.mm_definitions.specs.declared.answers.ReadFault.{ReadFault}
use Rattle.mm_definitions.specs.declared.answers.ReadFault.TheVariants as faults
use Rattle.mm_definitions.specs.declared.commands.Piece.{Piece}
use Rattle.mm_definitions.specs.declared.commands.Piece.TheVariants as pieces
use Rattle.mm_definitions.specs.declared.commands.Piece.TheVariants.{Tile, TileDrop, Row, RowDrop, Media, MediaDrop}
use Rattle.mm_definitions.specs.declared.commands.Piece.TheVariants.{Map, MapDrop}
use Rattle.mm_definitions.specs.declared.commands.Command.{Command}
use Rattle.mm_definitions.specs.declared.commands.Command.TheVariants as commands
use Rattle.mm_definitions.proofs.ReadingFacts.{AreFields, texts_of, text_at, one_more, all_at_least_ten, first_holds}

-- ---- by the first word
-- the fields behind the first, as a slice pattern gives them
abbrev pub rest_of : List (Bor Text) → List (Bor Text)
rest_of xs = take (length xs - 1) (drop 1 xs)

pub first_and_rest : (xs : List (Bor Text)) → 1 ≤ length xs → texts_of xs ≡ text_at xs 0 ∷ texts_of (rest_of xs)
first_and_rest xs some = one_more xs 0 some
    ∙ ap (λ l. text_at xs 0 ∷ texts_of l) (sym (take_all (length xs - 1) (drop 1 xs) (omega (arith, length-drop 1 xs))))

begins : (xs : List (Bor Text)) (word : Text) → 1 ≤ length xs → text_at xs 0 ≡ word → texts_of xs ≡ word
    ∷ texts_of (rest_of xs)
begins xs word some is = first_and_rest xs some ∙ ap (λ w. w ∷ texts_of (rest_of xs)) is

pub piece_arm : (r : Result Piece ReadFault) (xs : List (Bor Text)) (word : Text) (form : Form) → 1 ≤ length xs
    → text_at xs 0 ≡ word
    → form_of (piece_forms current) word ≡ Some form
    → ReadsTo (λ q. (piece_word q ≡ word) × AllHold form (texts_of (rest_of xs)) (piece_values q))
    (IsLeast (IsAgainstSome form (texts_of (rest_of xs)))) r
    → ReadsTo (SpellsPiece current (texts_of xs)) (IsLeast (HoldsAgainstPiece current (texts_of xs))) r
piece_arm r xs word form some is known h =
    subst (λ ts. ReadsTo (SpellsPiece current ts) (IsLeast (HoldsAgainstPiece current ts)) r)
    (sym (begins xs word some is)) (by r h)
  where
    by : (r : Result Piece ReadFault)
        → ReadsTo (λ q. (piece_word q ≡ word) × AllHold form (texts_of (rest_of xs)) (piece_values q))
        (IsLeast (IsAgainstSome form (texts_of (rest_of xs)))) r
        → ReadsTo (SpellsPiece current (word ∷ texts_of (rest_of xs)))
        (IsLeast (HoldsAgainstPiece current (word ∷ texts_of (rest_of xs)))) r
    by (Ok q) h = (sym h.0, subst (λ o. IsMet o (texts_of (rest_of xs)) (piece_values q)) (sym known) h.1)
    by (Err faults.Memory) h = tt
    by (Err (faults.Refused x)) h =
        (h.0, subst (λ o. IsLeast (IsUnmet o (texts_of (rest_of xs))) x.number) (sym known) h.1)

pub command_arm : (r : Result Command ReadFault) (xs : List (Bor Text)) (word : Text) (form : Option Form)
    → 1 ≤ length xs → text_at xs 0 ≡ word
    → record_form current (word ∷ texts_of (rest_of xs)) ≡ form
    → ReadsTo (λ c. (command_word c ≡ word) × IsMet form (texts_of (rest_of xs)) (command_values c))
    (IsLeast (IsUnmet form (texts_of (rest_of xs)))) r
    → ReadsTo (Spells current (texts_of xs)) (IsLeast (HoldsAgainst current (texts_of xs))) r
command_arm r xs word form some is known h =
    subst (λ ts. ReadsTo (Spells current ts) (IsLeast (HoldsAgainst current ts)) r) (sym (begins xs word some is))
    (by r h)
  where
    by : (r : Result Command ReadFault)
        → ReadsTo (λ c. (command_word c ≡ word) × IsMet form (texts_of (rest_of xs)) (command_values c))
        (IsLeast (IsUnmet form (texts_of (rest_of xs)))) r
        → ReadsTo (Spells current (word ∷ texts_of (rest_of xs)))
        (IsLeast (HoldsAgainst current (word ∷ texts_of (rest_of xs)))) r
    by (Ok c) h = (sym h.0, subst (λ o. IsMet o (texts_of (rest_of xs)) (command_values c)) (sym known) h.1)
    by (Err faults.Memory) h = tt
    by (Err (faults.Refused x)) h =
        (h.0, subst (λ o. IsLeast (IsUnmet o (texts_of (rest_of xs))) x.number) (sym known) h.1)

-- ---- a record that begins with no word of its own is that of a piece
-- the word is none of these forms' words
abbrev pub Differs : List (Text × Form) → Text → Type 0
Differs [] word = ⊤
Differs (entry ∷ entries) word = (word ≡ entry.0 → ⊥) × Differs entries word

differs : (a b : Text) → (a ≡ b → ⊥) → bytes_eq a b ≡ false
differs a b h = by (bytes_eq a b) refl
  where
    by : (v : Bool) → bytes_eq a b ≡ v → v ≡ false
    by true e = absurd (h ((bytes_eq-Decides a b).0 e))
    by false e = refl

no_form : (entries : List (Text × Form)) (word : Text) → Differs entries word → form_of entries word ≡ None
no_form [] word h = refl
no_form (entry ∷ entries) word h = rw (differs word entry.0 h.0) (no_form entries word h.1)

no_more_forms : (entries others : List (Text × Form)) (word : Text) → form_of others word ≡ None
    → form_of (entries ++ others) word ≡ form_of entries word
no_more_forms [] others word e = e
no_more_forms (entry ∷ entries) others word e = ap (λ o. if bytes_eq word entry.0 then Some entry.1 else o)
    (no_more_forms entries others word e)

same_form : (word : Text) (texts : List Text) → (word ≡ codes "stage" → ⊥) → Differs (other_forms current) word
    → record_form current (word ∷ texts) ≡ form_of (piece_forms current) word
same_form word texts stage others = rw (differs word (codes "stage") stage) (no_more_forms (piece_forms current) (other_forms current) word (no_form (other_forms current) word others))

pub edit_arm : (r : Result Command ReadFault) (xs : List (Bor Text)) → 1 ≤ length xs → (text_at xs 0 ≡ codes "stage" → ⊥)
    → Differs (other_forms current) (text_at xs 0)
    → ReadsTo (λ c. (q : Piece) × (c ≡ commands.Edit q) × SpellsPiece current (texts_of xs) q)
    (IsLeast (HoldsAgainstPiece current (texts_of xs))) r
    → ReadsTo (Spells current (texts_of xs)) (IsLeast (HoldsAgainst current (texts_of xs))) r
edit_arm r xs some stage others h =
    subst (λ ts. ReadsTo (Spells current ts) (IsLeast (HoldsAgainst current ts)) r) (sym whole)
    (by r (subst (λ ts. ReadsTo (λ c. (q : Piece) × (c ≡ commands.Edit q) × SpellsPiece current ts q)
    (IsLeast (HoldsAgainstPiece current ts)) r) whole h))
  where
    whole : texts_of xs ≡ text_at xs 0 ∷ texts_of (rest_of xs)
    whole = first_and_rest xs some

    same : record_form current (text_at xs 0 ∷ texts_of (rest_of xs)) ≡ form_of (piece_forms current) (text_at xs 0)
    same = same_form (text_at xs 0) (texts_of (rest_of xs)) stage others

    by : (r : Result Command ReadFault)
        → ReadsTo (λ c. (q : Piece) × (c ≡ commands.Edit q)
        × SpellsPiece current (text_at xs 0 ∷ texts_of (rest_of xs)) q)
        (IsLeast (HoldsAgainstPiece current (text_at xs 0 ∷ texts_of (rest_of xs)))) r
        → ReadsTo (Spells current (text_at xs 0 ∷ texts_of (rest_of xs)))
        (IsLeast (HoldsAgainst current (text_at xs 0 ∷ texts_of (rest_of xs)))) r
    by (Ok c) (q, is, (word, met)) = (
      word ∙ ap command_word (sym is),
      subst (λ vs. IsMet (record_form current (text_at xs 0 ∷ texts_of (rest_of xs))) (texts_of (rest_of xs)) vs)
          (ap command_values (sym is))
          (subst (λ o. IsMet o (texts_of (rest_of xs)) (piece_values q)) (sym same) met),
    )
    by (Err faults.Memory) h = tt
    by (Err (faults.Refused x)) h =
        (h.0, subst (λ o. IsLeast (IsUnmet o (texts_of (rest_of xs))) x.number) (sym same) h.1)

-- ---- the limits of what a record spells
abbrev pub LimitOf : Field → Value → Type 0
LimitOf (OneOf words) v = ⊤
LimitOf (NumberFrom low high) (Whole z) = IsFrom low high z
LimitOf (BytesTo most) (Plain v) = IsLong 1 most v
LimitOf (TextOf least most) (Plain v) = IsText least most v
LimitOf AnIdentifier (Plain v) = IsIdentifier v
LimitOf AContentType (Plain v) = IsContentType v
LimitOf AName (Plain v) = IsName v
LimitOf _ v = ⊤

holds_within : (f : Field) (t : Text) (v : Value) → HoldsValue f t v → LimitOf f v
holds_within (OneOf words) t v h = tt
holds_within (NumberFrom low high) t (Whole z) h = h.1
holds_within (NumberFrom low high) t (Plain v) h = tt
holds_within (BytesTo most) t (Whole v) h = tt
holds_within (BytesTo most) t (Plain v) h = h.1
holds_within (TextOf least most) t (Whole v) h = tt
holds_within (TextOf least most) t (Plain v) h = subst (IsText least most) (sym h.0) h.1
holds_within AnIdentifier t (Whole v) h = tt
holds_within AnIdentifier t (Plain v) h = subst IsIdentifier (sym h.0) h.1
holds_within AContentType t (Whole v) h = tt
holds_within AContentType t (Plain v) h = subst IsContentType (sym h.0) h.1
holds_within AName t (Whole v) h = tt
holds_within AName t (Plain v) h = subst IsName (sym h.0) h.1

abbrev pub AllLimits : List Field → List Value → Type 0
AllLimits (f ∷ fs) (v ∷ vs) = LimitOf f v × AllLimits fs vs
AllLimits _ _ = ⊤

all_within : (fs : List Field) (ts : List Text) (vs : List Value) → AllHold fs ts vs → AllLimits fs vs
all_within [] ts vs h = tt
all_within (f ∷ fs) ts [] h = tt
all_within (f ∷ fs) [] (v ∷ vs) h = absurd h
all_within (f ∷ fs) (t ∷ ts) (v ∷ vs) h = (holds_within f t v h.0, all_within fs ts vs h.1)

met_by_piece : (ts : List Text) (q : Piece) → IsMet (form_of (piece_forms current) (piece_word q)) ts (piece_values q)
    → IsPieceWithin current q
met_by_piece ts (Tile table place bytes) h = let a = all_within forms.tile_form ts
    (piece_values (Tile table place bytes)) h in
    (a.0, record { zoom = a.1.0; column = a.1.1.0; row = a.1.1.1.0 }, a.1.1.1.1.0)
met_by_piece ts (TileDrop table place) h = let a = all_within forms.tile_drop_form ts
    (piece_values (TileDrop table place)) h in (a.0, record { zoom = a.1.0; column = a.1.1.0; row = a.1.1.1.0 })
met_by_piece ts (Row table id title note amount) h = let a = all_within forms.row_form ts
    (piece_values (Row table id title note amount)) h in (a.0, a.1.0, a.1.1.0, a.1.1.1.0, a.1.1.1.1.0)
met_by_piece ts (RowDrop table id) h = let a = all_within forms.item_form ts (piece_values (RowDrop table id)) h in
    (a.0, a.1.0)
met_by_piece ts (Media table id content_type bytes) h = let a = all_within forms.media_form ts
    (piece_values (Media table id content_type bytes)) h in (a.0, a.1.0, a.1.1.0, a.1.1.1.0)
met_by_piece ts (MediaDrop table id) h = let a = all_within forms.item_form ts (piece_values (MediaDrop table id)) h in
    (a.0, a.1.0)
met_by_piece ts (Map mapping base_id related_id) h = let a = all_within forms.map_form ts
    (piece_values (Map mapping base_id related_id)) h in (a.0, a.1.0, a.1.1.0)
met_by_piece ts (MapDrop mapping base_id related_id) h = let a = all_within forms.map_form ts
    (piece_values (MapDrop mapping base_id related_id)) h in (a.0, a.1.0, a.1.1.0)
met_by_piece ts (pieces.Matrix table zoom matrix) h = let a =
    all_within (forms.matrix_form current) ts (piece_values (pieces.Matrix table zoom matrix)) h in (
      a.0,
      a.1.0,
      record {
        mw = a.1.1.0;
        mh = a.1.1.1.0;
        tw = a.1.1.1.1.0;
        th = a.1.1.1.1.1.0;
        px = a.1.1.1.1.1.1.0;
        py = a.1.1.1.1.1.1.1.0;
      },
    )

spelled_piece : (ts : List Text) (q : Piece) → SpellsPiece current ts q → IsPieceWithin current q
spelled_piece [] q h = absurd h
spelled_piece (word ∷ ts) q h =
    met_by_piece ts q (subst (λ w. IsMet (form_of (piece_forms current) w) ts (piece_values q)) h.0 h.1)

pub piece_within : (r : Result Piece ReadFault) (N : ℕ → Type 0) (ts : List Text) → ReadsTo (SpellsPiece current ts) N r
    → IfOk r (IsPieceWithin current)
piece_within (Ok q) N ts h = spelled_piece ts q h
piece_within (Err fault) N ts h = tt

taken : (q : Piece) → Takes current q
taken (Tile table place bytes) = tt
taken (TileDrop table place) = tt
taken (Row table id title note amount) = tt
taken (RowDrop table id) = tt
taken (Media table id content_type bytes) = tt
taken (MediaDrop table id) = tt
taken (Map mapping base_id related_id) = tt
taken (MapDrop mapping base_id related_id) = tt
taken (pieces.Matrix table zoom matrix) = refl

edit_form : (ts : List Text) (q : Piece)
    → record_form current (piece_word q ∷ ts) ≡ form_of (piece_forms current) (piece_word q)
edit_form ts (Tile table place bytes) = refl
edit_form ts (TileDrop table place) = refl
edit_form ts (Row table id title note amount) = refl
edit_form ts (RowDrop table id) = refl
edit_form ts (Media table id content_type bytes) = refl
edit_form ts (MediaDrop table id) = refl
edit_form ts (Map mapping base_id related_id) = refl
edit_form ts (MapDrop mapping base_id related_id) = refl
edit_form ts (pieces.Matrix table zoom matrix) = refl

met_by_command : (ts : List Text) (c : Command)
    → IsMet (record_form current (command_word c ∷ ts)) ts (command_values c) → IsWithin current c
met_by_command ts (commands.Srs id name organization organization_id definition description) h = let a =
    all_within forms.srs_form ts (command_values (commands.Srs id name organization organization_id definition
    description)) h in (a.0, a.1.0, a.1.1.0, a.1.1.1.0, a.1.1.1.1.0, a.1.1.1.1.1.0)
met_by_command ts (commands.Pyramid table identifier srs min_x min_y max_x max_y step) h = let a =
    all_within (forms.pyramid_form current) ts (command_values
    (commands.Pyramid table identifier srs min_x min_y max_x max_y step)) h in
    (a.0, a.1.0, a.1.1.0, a.1.1.1.0, a.1.1.1.1.0, a.1.1.1.1.1.0, a.1.1.1.1.1.1.0)
met_by_command ts (commands.Edit q) h = met_by_piece ts q
    (subst (λ o. IsMet o ts (piece_values q)) (edit_form ts q) h)
met_by_command ts (commands.Table table kind identifier) h = let a = all_within forms.table_form ts
    (command_values (commands.Table table kind identifier)) h in (a.0, a.1.1.0)
met_by_command ts (commands.Drop table) h = let a = all_within forms.name_form ts (command_values (commands.Drop table))
    h in a.0
met_by_command ts (commands.Relation mapping base related name) h = let a = all_within forms.relation_form ts
    (command_values (commands.Relation mapping base related name)) h in (a.0, a.1.0, a.1.1.0)
met_by_command ts (commands.RelationDrop mapping) h = let a = all_within forms.name_form ts
    (command_values (commands.RelationDrop mapping)) h in a.0
met_by_command ts (commands.Edition name) h = let a = all_within forms.name_form ts
    (command_values (commands.Edition name)) h in a.0
met_by_command ts (commands.Discard name) h = let a = all_within forms.name_form ts
    (command_values (commands.Discard name)) h in a.0
met_by_command ts (commands.Publish edition) h = let a = all_within forms.name_form ts
    (command_values (commands.Publish edition)) h in a.0
met_by_command ts (commands.Rehearse edition) h = let a = all_within forms.name_form ts
    (command_values (commands.Rehearse edition)) h in a.0
met_by_command [] (commands.Stage edition number q) h = absurd h
met_by_command (a ∷ []) (commands.Stage edition number q) h = absurd h
met_by_command (a ∷ b ∷ []) (commands.Stage edition number q) h = absurd h
met_by_command (a ∷ b ∷ word ∷ ts) (commands.Stage edition number q) h = met_by_stage a b word ts edition number q
    (form_of (piece_forms current) word) refl h
  where
    met_by_stage : (a b word : Text) (ts : List Text) (edition : Text) (number : ℤ) (q : Piece) (o : Option Form)
        → form_of (piece_forms current) word ≡ o
        → IsMet (with_piece o word) (a ∷ b ∷ word ∷ ts) (Plain edition ∷ Whole number ∷ Plain (piece_word q)
        ∷ piece_values q)
        → IsWithin current (commands.Stage edition number q)
    met_by_stage a b word ts edition number q None e h = absurd h
    met_by_stage a b word ts edition number q (Some form) e (named, (counted, (choice, met))) =
        let same : form_of (piece_forms current) (piece_word q) ≡ Some form = ap (form_of (piece_forms current))
        choice.0 ∙ e in (
          subst IsName (sym named.0) named.1,
          counted.1,
          met_by_piece ts q (subst (λ o. IsMet o ts (piece_values q)) (sym same) met),
          taken q,
        )

spelled : (ts : List Text) (c : Command) → Spells current ts c → IsWithin current c
spelled [] c h = absurd h
spelled (word ∷ ts) c h = met_by_command ts c
    (subst (λ w. IsMet (record_form current (w ∷ ts)) ts (command_values c)) h.0 h.1)

pub command_within : (r : Result Command ReadFault) (N : ℕ → Type 0) (ts : List Text) → ReadsTo (Spells current ts) N r
    → IfOk r (IsWithin current)
command_within (Ok c) N ts h = spelled ts c h
command_within (Err fault) N ts h = tt

-- ---- a staged piece
-- what is asked of the record of a piece behind an edition and a number; the choice of no word is met by nothing
abbrev pub piece_fields_of : Option Form → Text → Form
piece_fields_of None word = OneOf [] ∷ []
piece_fields_of (Some form) word = OneOf (word ∷ []) ∷ form

abbrev pub staged : List Text → Form
staged [] = OneOf [] ∷ []
staged (word ∷ ts) = piece_fields_of (form_of (piece_forms current) word) word

-- only 10 holds, and it is the least
pub only_ten : (fs : Form) (ts : List Text) (n : ℕ) → IsAgainstSome fs ts 10 → IsLeast (IsAgainstSome fs ts) n
    → IsLeast (λ m. m ≡ 10) n
only_ten fs ts n ten l =
    let low = all_at_least_ten fs ts n l.is_held in
    let high = l.is_least 10 ten in
    record { is_held = omega (arith, low, high); is_least = λ m e. omega (arith, e, high) }

no_word : (word : Text) (ts : List Text) (n : ℕ) → IsLeast (λ m. m ≡ 10) n
    → IsLeast (IsAgainstSome (OneOf [] ∷ []) (word ∷ ts)) n
no_word word ts n l = record {
  is_held = inl (l.is_held, λ a. a);
  is_least = λ m a. omega (arith, l.is_held, all_at_least_ten (OneOf [] ∷ []) (word ∷ ts) m a);
}

pub staged_reads : (ts : List Text) (r : Result Piece ReadFault)
    → ReadsTo (SpellsPiece current ts) (IsLeast (HoldsAgainstPiece current ts)) r
    → ReadsTo (λ q. AllHold (staged ts) ts (Plain (piece_word q) ∷ piece_values q))
    (IsLeast (IsAgainstSome (staged ts) ts)) r
staged_reads [] (Ok q) h = absurd h
staged_reads [] (Err faults.Memory) h = tt
staged_reads [] (Err (faults.Refused x)) h = h
staged_reads (word ∷ ts) r h = by (form_of (piece_forms current) word) r h
  where
    by : (o : Option Form) (r : Result Piece ReadFault)
        → ReadsTo (λ q. (word ≡ piece_word q) × IsMet o ts (piece_values q)) (IsLeast (IsUnmet o ts)) r
        → ReadsTo (λ q. AllHold (piece_fields_of o word) (word ∷ ts) (Plain (piece_word q) ∷ piece_values q))
        (IsLeast (IsAgainstSome (piece_fields_of o word) (word ∷ ts))) r
    by None (Ok q) h = absurd h.1
    by None (Err faults.Memory) h = tt
    by None (Err (faults.Refused x)) h = (h.0, no_word word ts x.number h.1)
    by (Some form) (Ok q) h = ((sym h.0, inl refl), h.1)
    by (Some form) (Err faults.Memory) h = tt
    by (Some form) (Err (faults.Refused x)) h =
        (h.0, first_holds (OneOf (word ∷ [])) form word ts (Plain word) x.number (refl, inl refl) h.1)

abbrev pub piece_fields : (ts : List Text) (r : Result Piece ReadFault)
    → ReadsTo (SpellsPiece current ts) (IsLeast (HoldsAgainstPiece current ts)) r → AreFields (staged ts) ts r
piece_fields ts r h = record { values = λ q. Plain (piece_word q) ∷ piece_values q; reads = staged_reads ts r h }

pub stage_met : (a b : Text) (ts : List Text) (v w x : Value) (vs : List Value)
    → AllHold (AName ∷ id_field ∷ staged ts) (a ∷ b ∷ ts) (v ∷ w ∷ x ∷ vs)
    → IsMet (stage_form current (a ∷ b ∷ ts)) (a ∷ b ∷ ts) (v ∷ w ∷ x ∷ vs)
stage_met a b [] v w x vs h = absurd h.1.1
stage_met a b (word ∷ ts) v w x vs h = by (form_of (piece_forms current) word) x h
  where
    by : (o : Option Form) (x : Value) → AllHold (AName ∷ id_field ∷ piece_fields_of o word) (a ∷ b ∷ word ∷ ts)
        (v ∷ w ∷ x ∷ vs)
        → IsMet (with_piece o word) (a ∷ b ∷ word ∷ ts) (v ∷ w ∷ x ∷ vs)
    by None (Whole z) h = absurd h.1.1.0
    by None (Plain y) h = absurd h.1.1.0.1
    by (Some form) x h = h

pub stage_unmet : (a b : Text) (ts : List Text) (n : ℕ)
    → IsLeast (IsAgainstSome (AName ∷ id_field ∷ staged ts) (a ∷ b ∷ ts)) n
    → IsLeast (IsUnmet (stage_form current (a ∷ b ∷ ts)) (a ∷ b ∷ ts)) n
stage_unmet a b [] n l = only_ten (AName ∷ id_field ∷ staged []) (a ∷ b ∷ []) n (inr (inr refl)) l
stage_unmet a b (word ∷ ts) n l = by (form_of (piece_forms current) word) l
  where
    by : (o : Option Form) → IsLeast (IsAgainstSome (AName ∷ id_field ∷ piece_fields_of o word) (a ∷ b ∷ word ∷ ts)) n
        → IsLeast (IsUnmet (with_piece o word) (a ∷ b ∷ word ∷ ts)) n
    by None l = only_ten (AName ∷ id_field ∷ piece_fields_of None word) (a ∷ b ∷ word ∷ ts) n
        (inr (inr (inl (refl, λ a. a)))) l
    by (Some form) l = l

-- the fields behind the second
abbrev pub after_two : List (Bor Text) → List (Bor Text)
after_two xs = take (length xs - 2) (drop 2 xs)

pub two_and_rest : (xs : List (Bor Text)) → 2 ≤ length xs → texts_of xs ≡ text_at xs 0 ∷ text_at xs 1
    ∷ texts_of (after_two xs)
two_and_rest xs some =
    one_more xs 0 (omega arith) ∙ ap (λ l. text_at xs 0 ∷ l) (one_more xs 1 (omega arith))
    ∙ ap (λ l. text_at xs 0 ∷ text_at xs 1 ∷ texts_of l)
    (sym (take_all (length xs - 2) (drop 2 xs) (omega (arith, length-drop 2 xs))))

pub stage_refuses : {A : Type 0} {r : Result A ReadFault} {fault : ReadFault} (xs : List (Bor Text)) → 2 ≤ length xs
    → r ≡ Err fault
    → AreFields (AName ∷ id_field ∷ staged (texts_of (after_two xs)))
    (text_at xs 0 ∷ text_at xs 1 ∷ texts_of (after_two xs)) r
    → ReadsTo {A = ⊤} (λ _. ⊤) (IsLeast (IsUnmet (stage_form current (texts_of xs)) (texts_of xs))) (Err fault)
stage_refuses {fault = fault} xs some e h =
    subst (λ ts. ReadsTo {A = ⊤} (λ _. ⊤) (IsLeast (IsUnmet (stage_form current ts) ts)) (Err fault))
    (sym (two_and_rest xs some))
    (by fault (subst (ReadsTo (λ x. AllHold (AName ∷ id_field ∷ staged (texts_of (after_two xs)))
    (text_at xs 0 ∷ text_at xs 1 ∷ texts_of (after_two xs)) (h.values x))
    (IsLeast (IsAgainstSome (AName ∷ id_field ∷ staged (texts_of (after_two xs)))
    (text_at xs 0 ∷ text_at xs 1 ∷ texts_of (after_two xs))))) e h.reads))
  where
    by : (fault : ReadFault)
        → ReadsTo {A = ⊤} (λ _. ⊤) (IsLeast
        (IsAgainstSome (AName ∷ id_field ∷ staged (texts_of (after_two xs)))
        (text_at xs 0 ∷ text_at xs 1 ∷ texts_of (after_two xs)))) (Err fault)
        → ReadsTo {A = ⊤} (λ _. ⊤) (IsLeast
        (IsUnmet (stage_form current (text_at xs 0 ∷ text_at xs 1 ∷ texts_of (after_two xs)))
        (text_at xs 0 ∷ text_at xs 1 ∷ texts_of (after_two xs)))) (Err fault)
    by faults.Memory h = tt
    by (faults.Refused x) h = (h.0, stage_unmet (text_at xs 0) (text_at xs 1) (texts_of (after_two xs)) x.number h.1)

-- two fields and those behind them, of which one is refused
pub two_refuse : {A : Type 0} {fs : Form} {r : Result A ReadFault} {fault : ReadFault} (xs : List (Bor Text))
    → 2 ≤ length xs → r ≡ Err fault
    → AreFields fs (text_at xs 0 ∷ text_at xs 1 ∷ texts_of (after_two xs)) r
    → ReadsTo {A = ⊤} (λ _. ⊤) (IsLeast (IsAgainstSome fs (texts_of xs))) (Err fault)
two_refuse {fs = fs} {fault = fault} xs some e h =
    subst (λ ts. ReadsTo {A = ⊤} (λ _. ⊤) (IsLeast (IsAgainstSome fs ts)) (Err fault)) (sym (two_and_rest xs some))
    (subst (ReadsTo (λ x. AllHold fs (text_at xs 0 ∷ text_at xs 1 ∷ texts_of (after_two xs)) (h.values x))
    (IsLeast (IsAgainstSome fs (text_at xs 0 ∷ text_at xs 1 ∷ texts_of (after_two xs))))) e h.reads)
