-- The bytes of a response.
use Rattle.std.specs.Prelude.{ℕ, [], ◌++◌, unwrap_or, codes, decimal, length}
use Rattle.http.specs.StatusCode.{reason_phrase}
use Rattle.mm_definitions.specs.Keys.{Text}

-- what is answered
pub data Reply : Type 0 where
  Found : (content_type body : Text) → Reply
  BadRequest NotFound NotAllowed : Reply

-- the phrase of a status
unfoldable pub reason : ℕ → Text
reason n = unwrap_or (reason_phrase n) []

-- a body, after the headers that every response has
abbrev pub framed : Text → Text
framed body = codes "Content-Length: " ++ decimal (length body) ++ codes "\r\nConnection: close\r\n\r\n" ++ body

-- the whole response, from the line of its status to the last byte of its body
abbrev pub response_of : Reply → Text
response_of (Found content_type body) = codes "HTTP/1.1 200 OK\r\nContent-Type: " ++ content_type ++ codes "\r\n" ++ framed body
response_of BadRequest = codes "HTTP/1.1 400 Bad Request\r\n" ++ framed []
response_of NotFound = codes "HTTP/1.1 404 Not Found\r\n" ++ framed []
response_of NotAllowed = codes "HTTP/1.1 405 Method Not Allowed\r\nAllow: GET\r\n" ++ framed []
