-- The queries of rule 15.
use Rattle.std.specs.Prelude.{ℕ, List, codes}

-- the state of each edition
abbrev pub edition_states : List ℕ
edition_states = codes "SELECT e.state FROM mm_editions AS e ORDER BY e.name"

-- for each staged piece the state of its edition, if that stands
abbrev pub pieces_of_open : List ℕ
pieces_of_open = codes "SELECT e.state FROM mm_pieces AS p LEFT JOIN mm_editions AS e ON e.name = p.edition ORDER BY p.edition, p.piece_no"

-- the number of each staged piece, and the number before it where the edition has a piece of that
abbrev pub pieces_numbered : List ℕ
pieces_numbered = codes "SELECT p.piece_no, q.piece_no FROM mm_pieces AS p LEFT JOIN mm_pieces AS q ON q.edition = p.edition AND q.piece_no = p.piece_no - 1 ORDER BY p.edition, p.piece_no"

-- the columns of each staged piece beside its edition and its number, with the bytes of its blob, if it names one
abbrev pub pieces_spelled : List ℕ
pieces_spelled = codes "SELECT p.kind, p.name, p.k1, p.k2, p.k3, p.k4, p.k5, p.k6, p.k7, p.t1, p.t2, b.data FROM mm_pieces AS p LEFT JOIN mm_blobs AS b ON b.id = p.blob ORDER BY p.edition, p.piece_no"
