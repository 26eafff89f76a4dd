-- What a desk answers beside the page's own responses.
use Rattle.std.specs.Prelude.{ℕ, Bool, true, false, [], ◌++◌, ◌==◌, if◌then◌else◌, codes}
use Rattle.mm_definitions.specs.Keys.{Text}
use Rattle.mm_page.specs.Responses.{Found, response_of}

-- what ends every response that has no body
abbrev pub bare : Text
bare = codes "Content-Length: 0\r\nConnection: close\r\n\r\n"

-- the status and its phrase; 405 also tells the methods that are taken
unfoldable pub status_words : ℕ → Text
status_words status =
    if status == 400 then codes "400 Bad Request\r\n" else
    (if status == 403 then codes "403 Forbidden\r\n" else
    (if status == 404 then codes "404 Not Found\r\n" else
    (if status == 405 then codes "405 Method Not Allowed\r\nAllow: GET, POST\r\n" else
    (if status == 411 then codes "411 Length Required\r\n" else
    (if status == 413 then codes "413 Payload Too Large\r\n" else codes "415 Unsupported Media Type\r\n")))))

-- the response of a status that shows nothing
abbrev pub refusal_of : ℕ → Text
refusal_of status = codes "HTTP/1.1 " ++ status_words status ++ bare

-- the desk ends
abbrev pub ended : Text
ended = codes "HTTP/1.1 200 OK\r\n" ++ bare

-- whose records are waited for is told to go on, where it waits
abbrev pub go_on : Bool → Text
go_on true = codes "HTTP/1.1 100 Continue\r\n\r\n"
go_on false = []

-- 200, with a body that a browser runs nothing of: two more lines of its head behind the type
abbrev pub boxed_of : Text → Text → Text
boxed_of content_type body = response_of (Found (content_type ++ codes "\r\nContent-Security-Policy: sandbox\r\nX-Content-Type-Options: nosniff") body)
