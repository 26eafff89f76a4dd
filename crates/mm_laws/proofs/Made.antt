-- The values that a record's form is met by are those of a command.
use Rattle.std.proofs.Common.{◌≡◌, ◌∙◌, ◌⊎◌, inl, inr, ℕ, ℤ, pos, negsuc, ◌≤ℤ◌, List, [], ◌∷◌, ◌++◌, Option, None}
use Rattle.std.proofs.Common.{Some, Bool, true, false, refl, sym, ap, subst, arith}
use Rattle.std.specs.Prelude.{⊤, codes, bytes_eq, if◌then◌else◌, unsigned_abs, ◌^◌}
use Rattle.std.proofs.lemmas.Int.{ints}
use Rattle.std.proofs.lemmas.Slice.Eq.{bytes_eq-Decides}
use Rattle.mm_definitions.specs.Keys.{Text}
use Rattle.mm_definitions.specs.Bounds.{Profile}
use Rattle.mm_definitions.specs.Package.{kind_text}
use Rattle.mm_definitions.specs.Effects.{step_kind, plain_kind}
use Rattle.mm_definitions.specs.Conditions.{relation_text}
use Rattle.mm_definitions.specs.Fields.{Field, OneOf, NumberFrom, BytesTo, TextOf, AnIdentifier, AContentType, AName}
use Rattle.mm_definitions.specs.Fields.{Value, Whole, Plain, HoldsValue, AllHold}
use Rattle.mm_definitions.specs.Records.{Form, form_of, piece_forms, other_forms, record_form, stage_form, with_piece}
use Rattle.mm_definitions.specs.Records.{id_field, step_words, kind_words, relation_words, IsLeast, IsMet, IsUnmet}
use Rattle.mm_definitions.specs.Records.{Spells, HoldsAgainst, SpellsPiece, HoldsAgainstPiece, command_word}
use Rattle.mm_definitions.specs.Records.{command_values, piece_word, piece_values}
use Rattle.mm_definitions.specs.Records as forms
use Rattle.mm_definitions.specs.declared.commands.Piece.{Piece}
use Rattle.mm_definitions.specs.declared.commands.Command.{Command}
use Rattle.mm_definitions.specs.declared.commands.Command.TheVariants as commands
use Rattle.mm_laws.proofs.Spelled.{head, tail, plain_of, whole_of, step_of, kind_of, relation_of, piece_of, command_of}
use Rattle.mm_laws.proofs.Decided.{all_decided}

-- ---- the shape of a value, by its field
abbrev Shape : Type 0
Shape = Value → Value

abbrev plain_shape : Shape
plain_shape v = Plain (plain_of v)

abbrev whole_shape : Shape
whole_shape v = Whole (whole_of v)

abbrev count_shape : Shape
count_shape v = Whole (pos (unsigned_abs (whole_of v)))

abbrev step_shape : Shape
step_shape v = Plain (kind_text (step_kind (step_of (plain_of v))))

abbrev kind_shape : Shape
kind_shape v = Plain (kind_text (plain_kind (kind_of (plain_of v))))

abbrev relation_shape : Shape
relation_shape v = Plain (relation_text (relation_of (plain_of v)))

abbrev IsShape : Field → Shape → Type 0
IsShape f s = (t : Text) (v : Value) → HoldsValue f t v → v ≡ s v

name_shape : IsShape AName plain_shape
name_shape t (Plain x) h = refl
name_shape t (Whole z) h = absurd h

identifier_shape : IsShape AnIdentifier plain_shape
identifier_shape t (Plain x) h = refl
identifier_shape t (Whole z) h = absurd h

type_shape : IsShape AContentType plain_shape
type_shape t (Plain x) h = refl
type_shape t (Whole z) h = absurd h

text_shape : (least most : ℕ) → IsShape (TextOf least most) plain_shape
text_shape least most t (Plain x) h = refl
text_shape least most t (Whole z) h = absurd h

bytes_shape : (most : ℕ) → IsShape (BytesTo most) plain_shape
bytes_shape most t (Plain x) h = refl
bytes_shape most t (Whole z) h = absurd h

number_shape : (low high : ℤ) → IsShape (NumberFrom low high) whole_shape
number_shape low high t (Whole z) h = refl
number_shape low high t (Plain x) h = absurd h

not_below : (low : ℕ) (z : ℤ) → pos low ≤ℤ z → z ≡ pos (unsigned_abs z)
not_below low (pos n) h = refl
not_below low (negsuc n) h = absurd (omega (arith, ints, h))

natural_shape : (low : ℕ) (high : ℤ) → IsShape (NumberFrom (pos low) high) count_shape
natural_shape low high t (Whole z) h = ap Whole (not_below low z h.1.0)
natural_shape low high t (Plain x) h = absurd h

steps_shape : IsShape step_words step_shape
steps_shape t (Whole z) h = absurd h
steps_shape t (Plain x) (same, inl e) = subst (λ y. Plain y ≡ step_shape (Plain y)) (sym (same ∙ e)) refl
steps_shape t (Plain x) (same, inr (inl e)) = subst (λ y. Plain y ≡ step_shape (Plain y)) (sym (same ∙ e)) refl
steps_shape t (Plain x) (same, inr (inr e)) = absurd e

kinds_shape : IsShape kind_words kind_shape
kinds_shape t (Whole z) h = absurd h
kinds_shape t (Plain x) (same, inl e) = subst (λ y. Plain y ≡ kind_shape (Plain y)) (sym (same ∙ e)) refl
kinds_shape t (Plain x) (same, inr (inl e)) = subst (λ y. Plain y ≡ kind_shape (Plain y)) (sym (same ∙ e)) refl
kinds_shape t (Plain x) (same, inr (inr e)) = absurd e

relations_shape : IsShape relation_words relation_shape
relations_shape t (Whole z) h = absurd h
relations_shape t (Plain x) (same, inl e) = subst (λ y. Plain y ≡ relation_shape (Plain y)) (sym (same ∙ e)) refl
relations_shape t (Plain x) (same, inr (inl e)) = subst (λ y. Plain y ≡ relation_shape (Plain y)) (sym (same ∙ e)) refl
relations_shape t (Plain x) (same, inr (inr e)) = absurd e

-- ---- the shapes of a record's values
abbrev shaped : List Shape → List Value → List Value
shaped [] vs = []
shaped (s ∷ ss) vs = s (head vs) ∷ shaped ss (tail vs)

abbrev AreShapes : Form → List Shape → Type 0
AreShapes [] [] = ⊤
AreShapes (f ∷ fs) (s ∷ ss) = IsShape f s × AreShapes fs ss
AreShapes _ _ = ⊥

all_shaped : (fs : Form) (ss : List Shape) → AreShapes fs ss → (ts : List Text) (vs : List Value) → AllHold fs ts vs
    → vs ≡ shaped ss vs
all_shaped [] [] a [] [] h = refl
all_shaped [] [] a [] (v ∷ vs) h = absurd h
all_shaped [] [] a (t ∷ ts) vs h = absurd h
all_shaped [] (s ∷ ss) a ts vs h = absurd a
all_shaped (f ∷ fs) [] a ts vs h = absurd a
all_shaped (f ∷ fs) (s ∷ ss) a [] vs h = absurd h
all_shaped (f ∷ fs) (s ∷ ss) a (t ∷ ts) [] h = absurd h
all_shaped (f ∷ fs) (s ∷ ss) a (t ∷ ts) (v ∷ vs) h = let e = a.0 t v h.0 in let es = all_shaped fs ss a.1 ts vs h.1 in
    ap (λ x. x ∷ vs) e ∙ ap (λ xs. s v ∷ xs) es

-- a form's values have these shapes
record HasShapes (fs : Form) : Type 0 where
  shapes : List Shape
  are : AreShapes fs shapes

shaped_as : {fs : Form} (s : HasShapes fs) (ts : List Text) (vs : List Value) → AllHold fs ts vs
    → vs ≡ shaped s.shapes vs
shaped_as {fs = fs} s ts vs h = all_shaped fs s.shapes s.are ts vs h

abbrev tile_shapes : HasShapes forms.tile_form
tile_shapes = record {
  shapes = plain_shape ∷ count_shape ∷ count_shape ∷ count_shape ∷ plain_shape ∷ [];
  are = (name_shape, (natural_shape _ _, (natural_shape _ _, (natural_shape _ _, (bytes_shape _, tt)))));
}

abbrev tile_drop_shapes : HasShapes forms.tile_drop_form
tile_drop_shapes = record {
  shapes = plain_shape ∷ count_shape ∷ count_shape ∷ count_shape ∷ [];
  are = (name_shape, (natural_shape _ _, (natural_shape _ _, (natural_shape _ _, tt))));
}

abbrev row_shapes : HasShapes forms.row_form
row_shapes = record {
  shapes = plain_shape ∷ whole_shape ∷ plain_shape ∷ plain_shape ∷ whole_shape ∷ [];
  are = (name_shape, (number_shape _ _, (text_shape _ _, (text_shape _ _, (number_shape _ _, tt)))));
}

abbrev item_shapes : HasShapes forms.item_form
item_shapes = record { shapes = plain_shape ∷ whole_shape ∷ []; are = (name_shape, (number_shape _ _, tt)) }

abbrev media_shapes : HasShapes forms.media_form
media_shapes = record {
  shapes = plain_shape ∷ whole_shape ∷ plain_shape ∷ plain_shape ∷ [];
  are = (name_shape, (number_shape _ _, (type_shape, (bytes_shape _, tt))));
}

abbrev map_shapes : HasShapes forms.map_form
map_shapes = record {
  shapes = plain_shape ∷ whole_shape ∷ whole_shape ∷ [];
  are = (name_shape, (number_shape _ _, (number_shape _ _, tt)));
}

abbrev srs_shapes : HasShapes forms.srs_form
srs_shapes = record {
  shapes = whole_shape ∷ plain_shape ∷ plain_shape ∷ whole_shape ∷ plain_shape ∷ plain_shape ∷ [];
  are = (
    number_shape _ _,
    (
      text_shape _ _,
      (text_shape _ _, (number_shape _ _, (text_shape _ _, (text_shape _ _, tt)))),
    ),
  );
}

abbrev pyramid_shapes : (profile : Profile) → HasShapes (forms.pyramid_form profile)
pyramid_shapes profile = record {
  shapes = plain_shape ∷ plain_shape ∷ whole_shape ∷ whole_shape ∷ whole_shape
      ∷ whole_shape ∷ whole_shape ∷ step_shape ∷ [];
  are = (
    name_shape,
    (
      identifier_shape,
      (
        number_shape _ _,
        (number_shape _ _, (number_shape _ _, (number_shape _ _, (number_shape _ _, (steps_shape, tt))))),
      ),
    ),
  );
}

abbrev matrix_shapes : (profile : Profile) → HasShapes (forms.matrix_form profile)
matrix_shapes profile = record {
  shapes = plain_shape ∷ count_shape ∷ count_shape ∷ count_shape ∷ count_shape
      ∷ count_shape ∷ whole_shape ∷ whole_shape ∷ [];
  are = (
    name_shape,
    (
      natural_shape _ _,
      (
        natural_shape _ _,
        (natural_shape _ _, (natural_shape _ _, (natural_shape _ _, (number_shape _ _, (number_shape _ _, tt))))),
      ),
    ),
  );
}

abbrev table_shapes : HasShapes forms.table_form
table_shapes = record {
  shapes = plain_shape ∷ kind_shape ∷ plain_shape ∷ [];
  are = (name_shape, (kinds_shape, (identifier_shape, tt)));
}

abbrev relation_shapes : HasShapes forms.relation_form
relation_shapes = record {
  shapes = plain_shape ∷ plain_shape ∷ plain_shape ∷ relation_shape ∷ [];
  are = (name_shape, (name_shape, (name_shape, (relations_shape, tt))));
}

abbrev name_shapes : HasShapes forms.name_form
name_shapes = record { shapes = plain_shape ∷ []; are = (name_shape, tt) }

-- ---- a form of a list of forms, by its word
abbrev AllMade : (P : Text → List Value → Type 0) → List (Text × Form) → Type 0
AllMade P [] = ⊤
AllMade P (entry ∷ entries) = ((ts : List Text) (vs : List Value) → AllHold entry.1 ts vs → P entry.0 vs)
    × AllMade P entries

made_by_word : (P : Text → List Value → Type 0) (entries : List (Text × Form)) → AllMade P entries
    → (word : Text) (ts : List Text) (vs : List Value)
    → IsMet (form_of entries word) ts vs → P word vs
made_by_word P [] h word ts vs met = absurd met
made_by_word P (entry ∷ entries) h word ts vs met = by (bytes_eq word entry.0) refl
    (made_by_word P entries h.1 word ts vs) met
  where
    by : (v : Bool) → bytes_eq word entry.0 ≡ v → (IsMet (form_of entries word) ts vs → P word vs)
        → IsMet (if v then Some entry.1 else form_of entries word) ts vs → P word vs
    by true e others met = subst (λ w. P w vs) (sym ((bytes_eq-Decides word entry.0).0 e)) (h.0 ts vs met)
    by false e others met = others met

-- ---- pieces
abbrev IsPieceMade : Text → List Value → Type 0
IsPieceMade word vs = (q : Piece) × (word ≡ piece_word q) × (vs ≡ piece_values q)

pieces_made : (profile : Profile) → AllMade IsPieceMade (piece_forms profile)
pieces_made profile = (
  λ ts vs h. (piece_of (codes "tile") vs, refl, shaped_as tile_shapes ts vs h),
  (
    λ ts vs h. (piece_of (codes "tile-drop") vs, refl, shaped_as tile_drop_shapes ts vs h),
    (
      λ ts vs h. (piece_of (codes "row") vs, refl, shaped_as row_shapes ts vs h),
      (
        λ ts vs h. (piece_of (codes "row-drop") vs, refl, shaped_as item_shapes ts vs h),
        (
          λ ts vs h. (piece_of (codes "media") vs, refl, shaped_as media_shapes ts vs h),
          (
            λ ts vs h. (piece_of (codes "media-drop") vs, refl, shaped_as item_shapes ts vs h),
            (
              λ ts vs h. (piece_of (codes "map") vs, refl, shaped_as map_shapes ts vs h),
              (
                λ ts vs h. (piece_of (codes "map-drop") vs, refl, shaped_as map_shapes ts vs h),
                (λ ts vs h. (piece_of (codes "matrix") vs, refl, shaped_as (matrix_shapes profile) ts vs h), tt),
              ),
            ),
          ),
        ),
      ),
    ),
  ),
)

piece_made : (profile : Profile) (word : Text) (ts : List Text) (vs : List Value)
    → IsMet (form_of (piece_forms profile) word) ts vs → IsPieceMade word vs
piece_made profile = made_by_word IsPieceMade (piece_forms profile) (pieces_made profile)

-- ---- commands
abbrev IsCommandMade : Text → List Value → Type 0
IsCommandMade word vs = (c : Command) × (word ≡ command_word c) × (vs ≡ command_values c)

commands_made : (profile : Profile) → AllMade IsCommandMade (piece_forms profile ++ other_forms profile)
commands_made profile = (
  λ ts vs h. (command_of (codes "tile") vs, refl, shaped_as tile_shapes ts vs h),
  (
    λ ts vs h. (command_of (codes "tile-drop") vs, refl, shaped_as tile_drop_shapes ts vs h),
    (
      λ ts vs h. (command_of (codes "row") vs, refl, shaped_as row_shapes ts vs h),
      (
        λ ts vs h. (command_of (codes "row-drop") vs, refl, shaped_as item_shapes ts vs h),
        (
          λ ts vs h. (command_of (codes "media") vs, refl, shaped_as media_shapes ts vs h),
          (
            λ ts vs h. (command_of (codes "media-drop") vs, refl, shaped_as item_shapes ts vs h),
            (
              λ ts vs h. (command_of (codes "map") vs, refl, shaped_as map_shapes ts vs h),
              (
                λ ts vs h. (command_of (codes "map-drop") vs, refl, shaped_as map_shapes ts vs h),
                (
                  λ ts vs h. (command_of (codes "matrix") vs, refl, shaped_as (matrix_shapes profile) ts vs h),
                  (
                    λ ts vs h. (command_of (codes "srs") vs, refl, shaped_as srs_shapes ts vs h),
                    (
                      λ ts vs h. (command_of (codes "pyramid") vs, refl, shaped_as (pyramid_shapes profile) ts vs h),
                      (
                        λ ts vs h. (command_of (codes "table") vs, refl, shaped_as table_shapes ts vs h),
                        (
                          λ ts vs h. (command_of (codes "drop") vs, refl, shaped_as name_shapes ts vs h),
                          (
                            λ ts vs h. (command_of (codes "relation") vs, refl, shaped_as relation_shapes ts vs h),
                            (
                              λ ts vs h. (command_of (codes "relation-drop") vs, refl, shaped_as name_shapes ts vs h),
                              (
                                λ ts vs h. (command_of (codes "edition") vs, refl, shaped_as name_shapes ts vs h),
                                (
                                  λ ts vs h. (command_of (codes "discard") vs, refl, shaped_as name_shapes ts vs h),
                                  (
                                    λ ts vs h. (command_of (codes "publish") vs, refl, shaped_as name_shapes ts vs h),
                                    (λ ts vs h. (command_of (codes "rehearse") vs, refl, shaped_as name_shapes ts vs h), tt),
                                  ),
                                ),
                              ),
                            ),
                          ),
                        ),
                      ),
                    ),
                  ),
                ),
              ),
            ),
          ),
        ),
      ),
    ),
  ),
)

staged_made : (a b word : Text) (ts : List Text) (v w x : Value) (vs : List Value) → HoldsValue AName a v
    → HoldsValue id_field b w
    → HoldsValue (OneOf (word ∷ [])) word x → IsPieceMade word vs
    → IsCommandMade (codes "stage") (v ∷ w ∷ x ∷ vs)
staged_made a b word ts v w x vs h k l (q, is, are) =
    let e : v ≡ Plain (plain_of v) = name_shape a v h in
    let f : w ≡ Whole (whole_of w) = number_shape (pos 1) (pos (2 ^ 53)) b w k in
    let g : x ≡ Plain (piece_word q) = by x l in
    (commands.Stage (plain_of v) (whole_of w) q, refl, cc)
  where
    by : (x : Value) → HoldsValue (OneOf (word ∷ [])) word x → x ≡ Plain (piece_word q)
    by (Plain y) l = ap Plain (l.0 ∙ is)
    by (Whole z) l = absurd l

stage_made : (profile : Profile) (ts : List Text) (vs : List Value) → IsMet (stage_form profile ts) ts vs → IsCommandMade (codes "stage") vs
stage_made profile [] vs h = absurd h
stage_made profile (a ∷ []) vs h = absurd h
stage_made profile (a ∷ b ∷ []) vs h = absurd h
stage_made profile (a ∷ b ∷ word ∷ ts) vs h = by (form_of (piece_forms profile) word) refl vs h
  where
    by : (o : Option Form) → form_of (piece_forms profile) word ≡ o → (vs : List Value)
        → IsMet (with_piece o word) (a ∷ b ∷ word ∷ ts) vs
        → IsCommandMade (codes "stage") vs
    by None e vs h = absurd h
    by (Some form) e [] h = absurd h
    by (Some form) e (v ∷ []) h = absurd h.1
    by (Some form) e (v ∷ w ∷ []) h = absurd h.1.1
    by (Some form) e (v ∷ w ∷ x ∷ vs) h = staged_made a b word ts v w x vs h.0 h.1.0 h.1.1.0
        (piece_made profile word ts vs (subst (λ o. IsMet o ts vs) (sym e) h.1.1.1))

command_made : (profile : Profile) (word : Text) (ts : List Text) (vs : List Value)
    → IsMet (record_form profile (word ∷ ts)) ts vs → IsCommandMade word vs
command_made profile word ts vs met = by (bytes_eq word (codes "stage")) refl met
  where
    by : (v : Bool) → bytes_eq word (codes "stage") ≡ v
        → IsMet (if v then stage_form profile ts else form_of (piece_forms profile ++ other_forms profile) word) ts vs
        → IsCommandMade word vs
    by true e met = subst (λ w. IsCommandMade w vs) (sym ((bytes_eq-Decides word (codes "stage")).0 e)) (stage_made profile ts vs met)
    by false e met = made_by_word IsCommandMade (piece_forms profile ++ other_forms profile) (commands_made profile)
        word ts vs met

-- ---- a record spells a command, or a number is against it
met_or_unmet : (o : Option Form) (ts : List Text) → ((vs : List Value) × IsMet o ts vs)
    ⊎ ((n : ℕ) × IsLeast (IsUnmet o ts) n)
met_or_unmet None ts = inr (10, record { is_held = refl; is_least = λ m e. omega (arith, e) })
met_or_unmet (Some form) ts = all_decided form ts

pub command_or_number : (profile : Profile) (texts : List Text) → ((c : Command) × Spells profile texts c)
    ⊎ ((n : ℕ) × IsLeast (HoldsAgainst profile texts) n)
command_or_number profile [] = inr (10, record { is_held = refl; is_least = λ m e. omega (arith, e) })
command_or_number profile (word ∷ ts) = by (met_or_unmet (record_form profile (word ∷ ts)) ts)
  where
    spelled : (vs : List Value) → IsMet (record_form profile (word ∷ ts)) ts vs → IsCommandMade word vs → (c : Command)
        × Spells profile (word ∷ ts) c
    spelled vs met (c, is, are) = (c, (is, subst (IsMet (record_form profile (word ∷ ts)) ts) are met))

    by : ((vs : List Value) × IsMet (record_form profile (word ∷ ts)) ts vs)
        ⊎ ((n : ℕ) × IsLeast (IsUnmet (record_form profile (word ∷ ts)) ts) n)
        → ((c : Command) × Spells profile (word ∷ ts) c) ⊎ ((n : ℕ) × IsLeast (HoldsAgainst profile (word ∷ ts)) n)
    by (inl h) = inl (spelled h.0 h.1 (command_made profile word ts h.0 h.1))
    by (inr l) = inr l

pub piece_or_number : (profile : Profile) (texts : List Text)
    → ((q : Piece) × SpellsPiece profile texts q) ⊎ ((n : ℕ) × IsLeast (HoldsAgainstPiece profile texts) n)
piece_or_number profile [] = inr (10, record { is_held = refl; is_least = λ m e. omega (arith, e) })
piece_or_number profile (word ∷ ts) = by (met_or_unmet (form_of (piece_forms profile) word) ts)
  where
    spelled : (vs : List Value) → IsMet (form_of (piece_forms profile) word) ts vs → IsPieceMade word vs → (q : Piece)
        × SpellsPiece profile (word ∷ ts) q
    spelled vs met (q, is, are) = (q, (is, subst (IsMet (form_of (piece_forms profile) word) ts) are met))

    by : ((vs : List Value) × IsMet (form_of (piece_forms profile) word) ts vs)
        ⊎ ((n : ℕ) × IsLeast (IsUnmet (form_of (piece_forms profile) word) ts) n)
        → ((q : Piece) × SpellsPiece profile (word ∷ ts) q)
        ⊎ ((n : ℕ) × IsLeast (HoldsAgainstPiece profile (word ∷ ts)) n)
    by (inl h) = inl (spelled h.0 h.1 (piece_made profile word ts h.0 h.1))
    by (inr l) = inr l
