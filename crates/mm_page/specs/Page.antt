-- The page: the response of a package to the bytes of a request.
use Rattle.std.specs.Prelude.{◌≡◌, ◌≢◌, ◌⊎◌, ◌==◌, Option, Some, None, codes}
use Rattle.std.specs.FinMap.{get}
use Rattle.std.specs.List.{before_first}
use Rattle.httparse.specs.Grammar.{RequestHead}
use Rattle.mm_definitions.specs.Keys.{Text, item}
use Rattle.mm_definitions.specs.Keys as keys
use Rattle.mm_definitions.specs.Package.{Package}
use Rattle.mm_page.specs.Asked.{IsRouted, Contents, Media, Related, Tile, Wanted}
use Rattle.mm_page.specs.Heads.{IsHead, MostHeadBytes, MostHeadLines}
use Rattle.mm_page.specs.Responses.{BadRequest, Found, NotAllowed, NotFound, Reply, response_of}
use Rattle.mm_page.specs.Lists.{mates_text, tables_text}
use Rattle.mm_reads.specs.Shown.{mates, shown_tables}

-- 404 where nothing stands
abbrev pub where_found : {A : Type 0} → Option A → (A → Reply) → Reply
where_found None reply = NotFound
where_found (Some a) reply = reply a

-- what a package answers to what is asked for
abbrev pub reply_of : Package → Wanted → Reply
reply_of p (Tile table zoom column row) = where_found (get p.tiles (keys.tile table zoom column row)) (λ bytes. Found (codes "application/octet-stream") bytes)
reply_of p (Media table id) = where_found (get p.media (item table id))
    (λ medium. Found medium.content_type medium.bytes)
reply_of p (Related table id) = where_found (mates p table id) (λ found. Found (codes "application/json") (mates_text found))
reply_of p Contents = Found (codes "application/json") (tables_text (shown_tables p))

-- the target before its first question mark
abbrev pub path_of : Text → Text
path_of target = before_first (λ b. b == 63) target

-- the bytes answer a path: 404 where it asks for nothing
abbrev pub WritesTo : Package → Text → Text → Type 0
WritesTo p path bytes =
    ((w : Wanted) × IsRouted path w × (bytes ≡ response_of (reply_of p w)))
    ⊎ (((w : Wanted) → ¬ (IsRouted path w)) × (bytes ≡ response_of NotFound))

-- the bytes answer a request's method and target: 405 to every method but GET
abbrev pub Writes : Package → Text → Text → Text → Type 0
Writes p method target bytes =
    ((method ≢ codes "GET") × (bytes ≡ response_of NotAllowed))
    ⊎ ((method ≡ codes "GET") × WritesTo p (path_of target) bytes)

-- The page of a package and an input: the response to the head at its front, within the limits of one, or 400 where it
-- has none.
abbrev pub Page : Package → Text → Text → Type 0
Page p input response =
    ((h : RequestHead) × IsHead MostHeadBytes MostHeadLines input h × Writes p h.method h.target response)
    ⊎ (((h : RequestHead) → ¬ (IsHead MostHeadBytes MostHeadLines input h)) × (response ≡ response_of BadRequest))
