-- The lines of the editions, from the rows that the query shows.
use Rattle.std.proofs.Common.{◌≡◌, inl, inr, ℕ, pos, true, false, ◌&&◌, List, [], ◌∷◌, ◌++◌, map, filter, length, codes}
use Rattle.std.proofs.Common.{refl, sym, ap, subst, ◌∙◌}
use Rattle.std.specs.Prelude.{ℤ, if◌then◌else◌, min}
use Rattle.std.specs.Ordering.{is_gt}
use Rattle.std.specs.List.{flat_map}
use Rattle.std.specs.FinMap.{retain_keys, len-entries}
use Rattle.sqlite.specs.declared.types.Value.TheVariants.{Int, Text as Words}
use Rattle.sql_forms.specs.Collation.TheVariants.{Binary}
use Rattle.sql_forms.specs.Order.{value_cmp}
use Rattle.sql_forms.proofs.OrderLemmas.{value_cmp-Text, then-Equal}
use Rattle.sql_forms.specs.Query.{counted}
use Rattle.sqlite.specs.Order.{Row, column}
use Rattle.sqlite.specs.Term.{Term, Env, eval_all, col}
use Rattle.sqlite.specs.Query.{Join, inner, end, matches, output, output_cmp, IsAnswer}
use Rattle.sqlite.specs.Tree.{Trees, IsTable}
use Rattle.sqlite.specs.Listing.{understood}
use Rattle.sql_forms.specs.Compute.{everything}
use Rattle.sql_forms.specs.Rules.{equal}
use Rattle.sql_forms.specs.Forms.{query, no_limit}
use Rattle.sql_forms.proofs.Keys.{columns_are}
use Rattle.sql_forms.proofs.Selects.{IsSelect}
use Rattle.mm_store.specs.Tables.{schema}
use Rattle.mm_definitions.specs.Keys.{Text, text_cmp, same_text}
use Rattle.mm_definitions.specs.Package.{Package, open_state, published_state}
use Rattle.mm_definitions.specs.Conditions.{piece_count}
use Rattle.mm_store.specs.Rows.{past_rowid, edition_row}
use Rattle.mm_store.specs.Kept.{piece_id, piece_with}
use Rattle.mm_store.specs.Stands.{Holding}
use Rattle.mm_store.proofs.Keys as parts
use Rattle.mm_store.proofs.Keys.{by_text, same_words}
use Rattle.mm_blobs.proofs.Naming.{told_there}
use Rattle.mm_reads.proofs.InOrder.{all_entered, entries_are}
use Rattle.mm_reads.proofs.Listed.{joins, flat_single, in_order, InOrder}
use Rattle.mm_reads.specs.Lines.{open_text, published_text}
use Rattle.mm_reads.specs.Listing.{edition_line, editions}
use Rattle.mm_reads.specs.ShownLines.{MostCounted, ShowsEdition}
use Rattle.sql_forms.proofs.Lists.{flat_counted}
use Rattle.mm_reads.proofs.Counting.{count_is, same_count}
use Rattle.mm_reads.proofs.Fronts.{ShowsEach, Fronts, fronts}
use Rattle.mm_reads.proofs.TableLines.{of_name, by_name, uncapped, first_is}

abbrev pub editions_text : List ℕ
editions_text = codes "SELECT e.name, e.state, (SELECT count(*) FROM mm_pieces AS p WHERE p.edition = e.name) FROM mm_editions AS e ORDER BY e.name"

abbrev pub shown : List Term
shown = col 1 1 ∷ col 1 2 ∷ col 2 0 ∷ []

abbrev pub joined : Join
joined = inner 23 (counted MostCounted (inner 25 end) (of_name 2) end)

pub list_editions : IsSelect schema editions_text 23 (query joined [] shown by_name no_limit) (codes "name" ∷ codes "state" ∷ codes "(SELECT count(*) FROM mm_pieces AS p WHERE p.edition = e.name)" ∷ [])
unfolding understood everything
list_editions = record { compiled = refl; plain = (refl, refl); unlisted = refl; listed = refl }

abbrev of_edition : Row → Env
of_edition r = [] ∷ r ∷ []

abbrev env_at : Trees → Row → Env
env_at db r = of_edition r ++ (Int
    (pos (min MostCounted (length (matches db (of_name 2) (inner 25 end) (of_edition r))))) ∷ []) ∷ []

abbrev shown_row : Trees → Row → Row
shown_row db r = eval_all shown (env_at db r)

module _ (version : ℤ) (p : Package) (trees : Trees) (h : Holding version trees p) (up : (t : ℕ) → IsTable (trees t))
    (db : Trees) (at_23 : db 23 ≡ trees 23) (at_25 : db 25 ≡ trees 25) where
  abbrev edition_rows : List Row
  edition_rows = trees 23

  pieces_are : (r : Row) (k state : Text) → past_rowid r ≡ edition_row k state
      → length (matches db (of_name 2) (inner 25 end) (of_edition r)) ≡ piece_count p k
  pieces_are r k state is =
      flat_counted (joins r) (λ s. of_edition r ++ s ∷ []) (db 25) ∙ ap (λ rows. length (filter (joins r) rows)) at_25
      ∙ ap (λ v. length (filter (λ s. equal Binary (column s 1) v && true) (trees 25)))
      (columns_are r (edition_row k state) 0 is)
      ∙ count_is parts.pieces (trees 25) h.kept.pieces h.keeps.pieces (up 25) (λ q. same_text q.edition k) (by_text k)
      (λ s l v it. first_is k s l.edition _ it)
      ∙ same_count parts.pieces.order h.kept.pieces p.pieces
      (told_there piece_id piece_with h.kept.shelf h.kept.pieces p.pieces h.keeps.pieces_told)
      (λ q. same_text q.edition k) ∙ len-entries (retain_keys p.pieces (λ q. same_text q.edition k))

  line_told : (r : Row) (k state : Text) → past_rowid r ≡ edition_row k state → (line : List ℕ)
      → ShowsEdition (shown_row db r) line
      → line ≡ edition_line p (k, state)
  line_told r k state is line (inl it) =
      let name : it.name ≡ k = same_words (sym it.name_is ∙ columns_are r (edition_row k state) 0 is) in
      let opened : open_state ≡ state = same_words (sym it.state_is ∙ columns_are r (edition_row k state) 1 is) in
      let count : piece_count p k ≡ it.count = uncapped (piece_count p k) it.count (column (shown_row db r) 2)
      (ap (λ n. Int (pos (min MostCounted n))) (pieces_are r k state is)) it.count_is in
      it.line_is ∙ (λ i. open_text (name i) (sym count i))
      ∙ ap (λ s. if same_text s open_state then open_text k (piece_count p k) else published_text k) opened
  line_told r k state is line (inr it) =
      let name : it.name ≡ k = same_words (sym it.name_is ∙ columns_are r (edition_row k state) 0 is) in
      let published : published_state ≡ state =
      same_words (sym it.state_is ∙ columns_are r (edition_row k state) 1 is) in
      it.line_is ∙ ap published_text name ∙ ap (λ s. if same_text s open_state then open_text k (piece_count p k)
      else published_text k) published

  matched : matches db [] joined ([] ∷ []) ≡ map (env_at db) edition_rows
  matched = rw at_23 (flat_single (λ (r : Row). env_at db r ∷ []) (env_at db) edition_rows (λ r at. refl))

  rises_as : (r s : Row) (k l : Text) (c d : Text) → past_rowid r ≡ edition_row k c → past_rowid s ≡ edition_row l d
      → is_gt (output_cmp (query joined [] shown by_name no_limit)
      (output (query joined [] shown by_name no_limit) (env_at db r))
      (output (query joined [] shown by_name no_limit) (env_at db s))) ≡ false → is_gt (text_cmp k l) ≡ false
  rises_as r s k l c d is also low =
      ap is_gt (sym (value_cmp-Text k l) ∙ sym (then-Equal (value_cmp (Words k) (Words l))))
      ∙ rw (columns_are r (edition_row k c) 0 is, columns_are s (edition_row l d) 0 also) at low

  -- the lines of the first rows of an answer are the first lines of the editions
  pub editions_front : (rows tail : List Row) → IsAnswer (query joined [] shown by_name no_limit) db [] (rows ++ tail)
      → (text : List ℕ)
      → ShowsEach ShowsEdition rows text → Fronts (editions p) text tail
  editions_front rows tail a text each =
      let found = in_order joined [] shown by_name db [] (rows ++ tail) a (env_at db) edition_rows matched in
      let order : Row → Row → Type 0 = InOrder joined [] shown by_name db [] (rows ++ tail) a (env_at db) edition_rows
      matched in
      let all = all_entered parts.editions edition_rows p.editions h.editions (up 23) order rises_as found.0 found.1 in
      subst (λ es. Fronts (flat_map (edition_line p) es) text tail)
      (sym (entries_are parts.editions edition_rows p.editions h.editions (up 23) order rises_as found.0 found.1
      found.2))
      (fronts parts.editions edition_rows p.editions h.editions (up 23) (edition_line p) (shown_row db) ShowsEdition
      line_told found.0 all rows tail (sym found.3) text each)
