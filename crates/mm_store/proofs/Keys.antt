-- The twelve parts that are maps, each with the WHERE by its table's key.
use Rattle.std.proofs.Common.{◌≡◌, ℕ, suc, ℤ, Bool, true, false, ◌&&◌, List, [], ◌∷◌, drop, Option, Some, None, refl}
use Rattle.std.proofs.Common.{sym, ap, subst, ◌∙◌}
use Rattle.std.specs.declared.cmp.Ordering.{Ordering}
use Rattle.std.specs.declared.cmp.Ordering.TheVariants.{Less, Equal, Greater}
use Rattle.std.specs.Ordering.{is_eq, eq_by_cmp, ordering_then, int_cmp}
use Rattle.std.specs.FinMap.{FinMap, get}
use Rattle.std.proofs.lemmas.Bool.{false_from_ne_true}
use Rattle.std.specs.Cmp.{Equal-is}
use Rattle.sqlite.specs.declared.types.Value.TheVariants.{Int, Text as Words}
use Rattle.sql_forms.specs.Collation.TheVariants.{Binary}
use Rattle.sql_forms.specs.Order.{value_cmp}
use Rattle.sql_forms.proofs.OrderLemmas.{value_cmp-Int}
use Rattle.sqlite.specs.Order.{Row, column}
use Rattle.sqlite.specs.Tree.{rowid}
use Rattle.sqlite.specs.Edit.{is_taken}
use Rattle.sql_forms.specs.Rules.{equal}
use Rattle.sql_forms.proofs.ListLemmas.{some_has}
use Rattle.sql_forms.specs.Tables.{has_key}
use Rattle.sql_forms.specs.Maps.{Holds}
use Rattle.sql_forms.proofs.Keys.{equal_text, equal_int, columns_are}
use Rattle.sql_forms.proofs.Lists.{and_true}
use Rattle.mm_definitions.specs.Keys.{Text, text_cmp, Level, level_cmp, level, TileKey, tile_cmp, tile, Item, item_cmp}
use Rattle.mm_definitions.specs.Keys.{item, Pairing, pairing_cmp, pairing, PieceKey, piece_cmp, piece}
use Rattle.mm_definitions.specs.Package.{System}
use Rattle.mm_definitions.proofs.KeyLaws.{numbers, texts, levels, items, tile_keys, pairing_keys, piece_keys}
use Rattle.mm_store.specs.Rows.{whole, past_rowid, past_id, maybe, system_row, contents_row, kind_row, set_row}
use Rattle.mm_store.specs.Rows.{grid_row, tile_row, attribute_row, medium_row, relation_row, pairing_row, edition_row}
use Rattle.mm_store.specs.Rows.{staged_row}
use Rattle.mm_store.specs.Blobs.{blob_row}
use Rattle.mm_store.proofs.Parts.{IsPart}

pub is_eq_then : (a b : Ordering) → is_eq (ordering_then a b) ≡ (is_eq a && is_eq b)
is_eq_then Less b = refl
is_eq_then Equal b = refl
is_eq_then Greater b = refl

-- a column shows one text, one number, or none
pub same_words : {a b : Text} → Words a ≡ Words b → a ≡ b
same_words e = cc

pub same_int : {a b : ℤ} → Int a ≡ Int b → a ≡ b
same_int e = cc

pub maybe_is : (a b : Option ℤ) → maybe a ≡ maybe b → a ≡ b
maybe_is None None e = refl
maybe_is None (Some y) e = absurd cc
maybe_is (Some x) None e = absurd cc
maybe_is (Some x) (Some y) e = cc

-- the columns after the rowid and an id that the store chose
pub columns_after : (r values : Row) (at : ℕ) → drop 2 r ≡ values → column r (suc (suc at)) ≡ column values at
columns_after [] values at is = ap (λ vs. column vs at) is
columns_after (x ∷ []) values at is = ap (λ vs. column vs at) is
columns_after (x ∷ y ∷ r) values at is = ap (λ vs. column vs at) is

-- ---- the WHERE by each key

abbrev pub by_number : ℤ → Row → Bool
by_number id = has_key (0 ∷ []) (Int id ∷ [])

abbrev pub by_text : Text → Row → Bool
by_text name = has_key (1 ∷ []) (Words name ∷ [])

abbrev pub by_mapping : Text → Row → Bool
by_mapping mapping = has_key (7 ∷ []) (Words mapping ∷ [])

abbrev pub by_level : Level → Row → Bool
by_level k = has_key (1 ∷ 2 ∷ []) (Words k.table ∷ Int k.zoom ∷ [])

abbrev pub by_item : Item → Row → Bool
by_item k = has_key (1 ∷ 2 ∷ []) (Words k.table ∷ Int k.id ∷ [])

abbrev pub by_piece : PieceKey → Row → Bool
by_piece k = has_key (1 ∷ 2 ∷ []) (Words k.edition ∷ Int k.number ∷ [])

abbrev pub by_pairing : Pairing → Row → Bool
by_pairing k = has_key (1 ∷ 2 ∷ 3 ∷ []) (Words k.mapping ∷ Int k.base_id ∷ Int k.related_id ∷ [])

abbrev pub by_tile : TileKey → Row → Bool
by_tile k = has_key (1 ∷ 2 ∷ 3 ∷ 4 ∷ []) (Words k.table ∷ Int k.zoom ∷ Int k.column ∷ Int k.row ∷ [])

-- a first column that is a text
first_text : (k : Text) (r : Row) (l : Text) (rest : Row) → past_rowid r ≡ Words l ∷ rest
    → by_text k r ≡ eq_by_cmp text_cmp l k
first_text k r l rest is = ap (λ x. equal Binary x (Words k) && true) (columns_are r (Words l ∷ rest) 0 is)
    ∙ ap (λ b. b && true) (equal_text l k) ∙ and_true _

-- two columns, a text and a number
text_number : (k : Text) (z : ℤ) (r : Row) (l : Text) (y : ℤ) (rest : Row) → past_rowid r ≡ Words l ∷ Int y ∷ rest
    → has_key (1 ∷ 2 ∷ []) (Words k ∷ Int z ∷ []) r ≡ is_eq (ordering_then (text_cmp l k) (int_cmp y z))
text_number k z r l y rest is =
    rw (
      columns_are r (Words l ∷ Int y ∷ rest) 0 is,
      columns_are r (Words l ∷ Int y ∷ rest) 1 is,
      equal_text l k,
      equal_int y z,
      is_eq_then (text_cmp l k) (int_cmp y z),
      and_true (is_eq (int_cmp y z)),
    ) refl

-- ---- the parts

pub systems : IsPart int_cmp whole system_row by_number
systems = record {
  order = numbers;
  key_is = λ k l v w e. cc;
  value_is = λ k l v w e.
      let a : v.name ≡ w.name = cc in let b : v.organization ≡ w.organization = cc in let c : v.organization_id
      ≡ w.organization_id = cc in let d : v.definition ≡ w.definition = cc in let f : v.description ≡ w.description =
      cc in
      λ i. record { name = a i; organization = b i; organization_id = c i; definition = d i; description = f i };
  decides = λ id r l v is. ap (λ x. equal Binary (column x 0) (Int id) && true) is
      ∙ ap (λ b. b && true) (equal_int l id) ∙ and_true _;
}

pub contents : IsPart text_cmp past_rowid contents_row by_text
contents = record {
  order = texts;
  key_is = λ k l v w e. cc;
  value_is = λ k l v w e.
      let a : v.data_type ≡ w.data_type = cc in let b : v.identifier ≡ w.identifier = cc in let c : v.description
      ≡ w.description = cc in let d : v.last_change ≡ w.last_change = cc in
      let x : maybe v.min_x ≡ maybe w.min_x = cc in let y : maybe v.min_y ≡ maybe w.min_y = cc in let z : maybe v.max_x
      ≡ maybe w.max_x = cc in let t : maybe v.max_y ≡ maybe w.max_y = cc in let s : maybe v.system ≡ maybe w.system =
      cc in
      λ i. record {
        data_type = a i;
        identifier = b i;
        description = c i;
        last_change = d i;
        min_x = maybe_is v.min_x w.min_x x i;
        min_y = maybe_is v.min_y w.min_y y i;
        max_x = maybe_is v.max_x w.max_x z i;
        max_y = maybe_is v.max_y w.max_y t i;
        system = maybe_is v.system w.system s i;
      };
  decides = λ k r l v is. first_text k r l _ is;
}

pub kinds : IsPart text_cmp past_rowid kind_row by_text
kinds = record {
  order = texts;
  key_is = λ k l v w e. cc;
  value_is = λ k l v w e. cc;
  decides = λ k r l v is. first_text k r l _ is;
}

pub sets : IsPart text_cmp past_rowid set_row by_text
sets = record {
  order = texts;
  key_is = λ k l v w e. cc;
  value_is = λ k l v w e.
      let s : v.system ≡ w.system = cc in let a : v.box.min_x ≡ w.box.min_x = cc in let b : v.box.min_y ≡ w.box.min_y =
      cc in let c : v.box.max_x ≡ w.box.max_x = cc in let d : v.box.max_y ≡ w.box.max_y = cc in
      λ i. record { system = s i; box = record { min_x = a i; min_y = b i; max_x = c i; max_y = d i } };
  decides = λ k r l v is. first_text k r l _ is;
}

pub matrices : IsPart level_cmp past_rowid grid_row by_level
matrices = record {
  order = levels;
  key_is = λ k l v w e. let t : k.table ≡ l.table = cc in let z : k.zoom ≡ l.zoom = cc in λ i. level (t i) (z i);
  value_is = λ k l v w e.
      let a : v.matrix_width ≡ w.matrix_width = cc in let b : v.matrix_height ≡ w.matrix_height =
      cc in let c : v.tile_width ≡ w.tile_width = cc in let d : v.tile_height ≡ w.tile_height = cc in
      let x : v.pixel_x_size ≡ w.pixel_x_size = cc in let y : v.pixel_y_size ≡ w.pixel_y_size = cc in
      λ i. record {
        matrix_width = a i;
        matrix_height = b i;
        tile_width = c i;
        tile_height = d i;
        pixel_x_size = x i;
        pixel_y_size = y i;
      };
  decides = λ k r l v is. text_number k.table k.zoom r l.table l.zoom _ is;
}

pub tiles : IsPart tile_cmp past_rowid tile_row by_tile
tiles = record {
  order = tile_keys;
  key_is = λ k l v w e. let t : k.table ≡ l.table = cc in let z : k.zoom ≡ l.zoom = cc in let c : k.column ≡ l.column =
      cc in let r : k.row ≡ l.row = cc in λ i. tile (t i) (z i) (c i) (r i);
  value_is = λ k l v w e. cc;
  decides = λ k r l v is.
      rw (
        columns_are r (tile_row l v) 0 is,
        columns_are r (tile_row l v) 1 is,
        columns_are r (tile_row l v) 2 is,
        columns_are r (tile_row l v) 3 is,
        equal_text l.table k.table,
        equal_int l.zoom k.zoom,
        equal_int l.column k.column,
        equal_int l.row k.row,
        is_eq_then (text_cmp l.table k.table)
            (ordering_then (int_cmp l.zoom k.zoom) (ordering_then (int_cmp l.column k.column) (int_cmp l.row k.row))),
        is_eq_then (int_cmp l.zoom k.zoom) (ordering_then (int_cmp l.column k.column) (int_cmp l.row k.row)),
        is_eq_then (int_cmp l.column k.column) (int_cmp l.row k.row),
        and_true (is_eq (int_cmp l.row k.row)),
      ) refl;
}

pub rows : IsPart item_cmp past_rowid attribute_row by_item
rows = record {
  order = items;
  key_is = λ k l v w e. let t : k.table ≡ l.table = cc in let z : k.id ≡ l.id = cc in λ i. item (t i) (z i);
  value_is = λ k l v w e. let a : v.title ≡ w.title = cc in let b : v.note ≡ w.note = cc in let c : v.amount
      ≡ w.amount = cc in λ i. record { title = a i; note = b i; amount = c i };
  decides = λ k r l v is. text_number k.table k.id r l.table l.id _ is;
}

pub media : IsPart item_cmp past_rowid medium_row by_item
media = record {
  order = items;
  key_is = λ k l v w e. let t : k.table ≡ l.table = cc in let z : k.id ≡ l.id = cc in λ i. item (t i) (z i);
  value_is = λ k l v w e. let a : v.blob ≡ w.blob = cc in let b : v.content_type ≡ w.content_type =
      cc in λ i. record { blob = a i; content_type = b i };
  decides = λ k r l v is. text_number k.table k.id r l.table l.id _ is;
}

pub relations : IsPart text_cmp past_id relation_row by_mapping
relations = record {
  order = texts;
  key_is = λ k l v w e. cc;
  value_is = λ k l v w e.
      let a : v.base ≡ w.base = cc in let b : v.related ≡ w.related = cc in let c : v.base_column ≡ w.base_column =
      cc in let d : v.related_column ≡ w.related_column = cc in let f : v.name ≡ w.name = cc in
      λ i. record { base = a i; related = b i; base_column = c i; related_column = d i; name = f i };
  decides = λ k r l v is. ap (λ x. equal Binary x (Words k) && true) (columns_after r (relation_row l v) 5 is)
      ∙ ap (λ b. b && true) (equal_text l k) ∙ and_true _;
}

pub pairings : IsPart pairing_cmp past_rowid pairing_row by_pairing
pairings = record {
  order = pairing_keys;
  key_is = λ k l v w e. let t : k.mapping ≡ l.mapping = cc in let z : k.base_id ≡ l.base_id = cc in let r : k.related_id
      ≡ l.related_id = cc in λ i. pairing (t i) (z i) (r i);
  value_is = λ k l v w e. refl;
  decides = λ k r l v is.
      rw (
        columns_are r (pairing_row l v) 0 is,
        columns_are r (pairing_row l v) 1 is,
        columns_are r (pairing_row l v) 2 is,
        equal_text l.mapping k.mapping,
        equal_int l.base_id k.base_id,
        equal_int l.related_id k.related_id,
        is_eq_then (text_cmp l.mapping k.mapping)
            (ordering_then (int_cmp l.base_id k.base_id) (int_cmp l.related_id k.related_id)),
        is_eq_then (int_cmp l.base_id k.base_id) (int_cmp l.related_id k.related_id),
        and_true (is_eq (int_cmp l.related_id k.related_id)),
      ) refl;
}

pub editions : IsPart text_cmp past_rowid edition_row by_text
editions = record {
  order = texts;
  key_is = λ k l v w e. cc;
  value_is = λ k l v w e. cc;
  decides = λ k r l v is. first_text k r l _ is;
}

pub pieces : IsPart piece_cmp past_rowid staged_row by_piece
pieces = record {
  order = piece_keys;
  key_is = λ k l v w e. let t : k.edition ≡ l.edition = cc in let z : k.number ≡ l.number =
      cc in λ i. piece (t i) (z i);
  value_is = λ k l v w e.
      let a : v.kind ≡ w.kind = cc in let b : v.name ≡ w.name = cc in let k1 : v.k1 ≡ w.k1 = cc in let k2 : v.k2
      ≡ w.k2 = cc in let k3 : v.k3 ≡ w.k3 = cc in let k4 : v.k4 ≡ w.k4 = cc in
      let k5 : v.k5 ≡ w.k5 = cc in let k6 : v.k6 ≡ w.k6 = cc in let k7 : v.k7 ≡ w.k7 = cc in let t1 : v.t1 ≡ w.t1 =
      cc in let t2 : v.t2 ≡ w.t2 = cc in let d : maybe v.blob ≡ maybe w.blob = cc in
      λ i. record {
        kind = a i;
        name = b i;
        k1 = k1 i;
        k2 = k2 i;
        k3 = k3 i;
        k4 = k4 i;
        k5 = k5 i;
        k6 = k6 i;
        k7 = k7 i;
        t1 = t1 i;
        t2 = t2 i;
        blob = maybe_is v.blob w.blob d i;
      };
  decides = λ k r l v is. text_number k.edition k.number r l.edition l.number _ is;
}

pub blobs : IsPart int_cmp whole blob_row by_number
blobs = record {
  order = numbers;
  key_is = λ k l v w e. cc;
  value_is = λ k l v w e. let a : v.digest ≡ w.digest = cc in let b : v.bytes ≡ w.bytes =
      cc in λ i. record { digest = a i; bytes = b i };
  decides = λ id r l v is. ap (λ x. equal Binary (column x 0) (Int id) && true) is
      ∙ ap (λ b. b && true) (equal_int l id) ∙ and_true _;
}

-- ---- a system's number is its row's rowid

pub system_fresh : (rows : List Row) (m : FinMap int_cmp System) → Holds whole system_row rows m → (id : ℤ) (rest : Row)
    → get m id ≡ None
    → is_taken rows (Int id ∷ rest) ≡ false
system_fresh rows m h id rest free = false_from_ne_true _ (λ any.
    let r = some_has (λ x. is_eq (value_cmp (rowid x) (Int id))) rows any in
    let it = h.sound r.0 r.1 in
    let tie : is_eq (value_cmp (Int it.0) (Int id)) ≡ true = subst (λ x. is_eq (value_cmp (rowid x) (Int id)) ≡ true)
    it.3 r.2 in
    let same : it.0 ≡ id = numbers.exact it.0 id ((Equal-is _).0 (sym (ap is_eq (value_cmp-Int it.0 id)) ∙ tie)) in
    let e = sym free ∙ ap (get m) (sym same) ∙ it.2 in cc)
