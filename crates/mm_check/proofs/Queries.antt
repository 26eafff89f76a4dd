-- What the queries of the form are.
use Rattle.std.proofs.Common.{ℕ, List, [], ◌∷◌, codes, refl}
use Rattle.sql_forms.specs.UnaryOp.TheVariants.{Not}
use Rattle.sqlite.specs.Term.{Term, col, op1}
use Rattle.sql_forms.specs.Query.{Join, inner, left, counted, end}
use Rattle.sqlite.specs.Listing.{understood}
use Rattle.sql_forms.specs.Compute.{everything}
use Rattle.mm_walk.specs.RowTests.{IsQuery}
use Rattle.mm_store.specs.Tables.{schema}
use Rattle.mm_store.specs.Compiled.{unnamed_blobs}
use Rattle.mm_store.proofs.Selecting as statement
use Rattle.mm_walk.proofs.Quiet.{IsQuiet}
use Rattle.mm_walk.proofs.Terms.{equals, below}

abbrev pub digested_text : List ℕ
digested_text = codes "SELECT b.digest, b.data FROM mm_blobs AS b"

abbrev pub apart_text : List ℕ
apart_text = codes "SELECT a.id FROM mm_blobs AS a JOIN mm_blobs AS b ON b.digest = a.digest LEFT JOIN mm_blobs AS c ON c.id = a.id LEFT JOIN mm_blobs AS d ON d.id = b.id WHERE a.id < b.id AND d.data = c.data"

pub digested : IsQuery schema digested_text (inner 27 end) [] (col 1 2 ∷ col 1 3 ∷ []) [] (codes "digest" ∷ codes "data" ∷ [])
unfolding understood everything
digested = record { compiled = refl; plain = (refl, refl); unlisted = refl }

pub quiet_digested : IsQuiet digested_text
unfolding everything
quiet_digested = λ schema base. refl

abbrev pub equal_terms : List Term
equal_terms = equals 2 2 1 2 ∷ below 1 0 2 0 ∷ equals 4 3 3 3 ∷ []

-- two blobs, and each once more for its bytes
abbrev pub two_twice : Join
two_twice = inner 27 (inner 27 (left 27 (equals 3 0 1 0 ∷ []) (left 27 (equals 4 0 2 0 ∷ []) end)))

pub apart : IsQuery schema apart_text two_twice equal_terms (col 1 0 ∷ []) [] (codes "id" ∷ [])
unfolding understood everything
apart = record { compiled = refl; plain = (refl, refl); unlisted = refl }

pub quiet_apart : IsQuiet apart_text
unfolding everything
quiet_apart = λ schema base. refl

-- ---- the blobs that nothing names

abbrev pub no_names : List Term
no_names = op1 Not (col 2 0) ∷ op1 Not (col 3 0) ∷ op1 Not (col 4 0) ∷ []

abbrev pub by_pieces : Join
by_pieces = counted 1 (inner 25 end) (equals 4 14 1 0 ∷ []) end

abbrev pub by_media : Join
by_media = counted 1 (inner 19 end) (equals 3 3 1 0 ∷ []) by_pieces

abbrev pub by_tiles : Join
by_tiles = counted 1 (inner 15 end) (equals 2 5 1 0 ∷ []) by_media

pub named : IsQuery schema unnamed_blobs (inner 27 by_tiles) no_names (col 1 0 ∷ []) [] (codes "id" ∷ [])
named = record {
  compiled = statement.unnamed_blobs.compiled;
  plain = statement.unnamed_blobs.plain;
  unlisted = statement.unnamed_blobs.unlisted;
}

pub quiet_named : IsQuiet unnamed_blobs
unfolding everything
quiet_named = λ schema base. refl
