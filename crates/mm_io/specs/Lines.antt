-- The lines that tell the answers to records.
use Rattle.std.specs.Prelude.{ℕ, ◌+◌, List, [], ◌∷◌, ◌++◌, Option, Some, None, codes, decimal}
use Rattle.mm_definitions.specs.declared.answers.Answer.{Answer}
use Rattle.mm_definitions.specs.declared.answers.Answer.TheVariants as answers

-- With 53 a refusal tells the piece's number and the piece's own refusal.
abbrev pub piece_text : Option (ℕ × ℕ) → List ℕ
piece_text None = []
piece_text (Some (piece, refusal)) = codes " " ++ decimal piece ++ codes " " ++ decimal refusal

-- what stands in a line behind the record's number
abbrev pub answer_text : Answer → List ℕ
answer_text answers.Ok = codes " ok"
answer_text (answers.Refused why) = codes " refused " ++ decimal why.number ++ piece_text why.piece
answer_text (answers.Fault fault) = codes " fault " ++ decimal fault.0

-- line n, which answers record n
abbrev pub line : ℕ → Answer → List ℕ
line n answer = decimal n ++ answer_text answer ++ codes "\n"

-- the lines of some answers, the first of which has this number
unfoldable pub lines_from : ℕ → List Answer → List (List ℕ)
lines_from n [] = []
lines_from n (answer ∷ rest) = line n answer ∷ lines_from (n + 1) rest

-- the lines of all answers, from record 1 on
abbrev pub lines : List Answer → List (List ℕ)
lines given = lines_from 1 given
