-- The lines of a listing as texts.
use Rattle.std.specs.Prelude.{ℕ, List, ◌++◌, codes, decimal, drop, length}
use Rattle.mm_definitions.specs.Keys.{Text}

-- a text at the left of these places, or at their right; a longer text takes the room that it needs
abbrev pub left_in : List ℕ → Text → Text
left_in places text = text ++ drop (length text) places

-- at their right
abbrev pub right_in : List ℕ → Text → Text
right_in places text = drop (length text) places ++ text

-- 24 places for the name, 10 for the kind, 10 for the count
abbrev pub table_text : Text → Text → ℕ → Text → Text → Text
table_text name kind count time identifier =
    left_in (codes "                        ") name ++ codes " " ++ left_in (codes "          ") kind ++ codes " " ++ right_in (codes "          ") (decimal count) ++ codes " " ++ time ++ codes " " ++ identifier ++ codes "\n"

-- the line of an open edition, with the number of its pieces
abbrev pub open_text : Text → ℕ → Text
open_text name count = codes "edition " ++ name ++ codes " open " ++ decimal count ++ codes "\n"

-- the line of a published edition
abbrev pub published_text : Text → Text
published_text name = codes "edition " ++ name ++ codes " published\n"
