-- The bytes of a reply (RFC 9112, section 4).
use Rattle.std.specs.Prelude.{◌≡◌, ◌≢◌, ℕ, Bool, true, false, ◌==◌, List, [], ◌∷◌, ◌++◌, length, codes, Option, Some, None, IsSome, unwrap_or, if◌then◌else◌}
use Rattle.std.specs.Fmt.{decimal}
use Rattle.page_http.specs.declared.reply.Allow.{Allow}
use Rattle.page_http.specs.declared.reply.Allow.TheVariants as allow
use Rattle.page_http.specs.declared.reply.Reply.{Reply}

-- the phrases of the statuses that a reply may have: that of 413 is the one of RFC 7231, section
-- 6.5.11, and that of 422 the one of RFC 4918, section 11.2
abbrev pub phrases : List (ℕ × List ℕ)
phrases =
    (200, codes "OK")
    ∷ (400, codes "Bad Request")
    ∷ (404, codes "Not Found")
    ∷ (405, codes "Method Not Allowed")
    ∷ (409, codes "Conflict")
    ∷ (413, codes "Payload Too Large")
    ∷ (415, codes "Unsupported Media Type")
    ∷ (422, codes "Unprocessable Entity")
    ∷ (431, codes "Request Header Fields Too Large")
    ∷ (500, codes "Internal Server Error")
    ∷ (501, codes "Not Implemented")
    ∷ (503, codes "Service Unavailable")
    ∷ []

abbrev pub phrase_in : List (ℕ × List ℕ) → ℕ → Option (List ℕ)
phrase_in [] status = None
phrase_in (row ∷ rows) status = if status == row.0 then Some row.1 else phrase_in rows status

-- a reply may have the status
abbrev pub IsReplyStatus : ℕ → Type 0
IsReplyStatus status = IsSome (phrase_in phrases status)

abbrev pub phrase : ℕ → List ℕ
phrase status = unwrap_or (phrase_in phrases status) []

-- the bytes of the reply can be made
pub record IsSendable (reply : Reply) : Type 0 where
  pub status : IsReplyStatus reply.status
  pub methods : reply.status ≡ 405 → reply.allow ≢ allow.Nothing

-- CR LF
abbrev pub crlf : List ℕ
crlf = 13 ∷ 10 ∷ []

-- the line of a status (RFC 9112, section 4)
abbrev pub status_line : ℕ → List ℕ
status_line status = codes "HTTP/1.1 " ++ (decimal status ++ (codes " " ++ (phrase status ++ crlf)))

-- the line of a field (RFC 9112, section 5)
abbrev pub field_line : List ℕ → List ℕ → List ℕ
field_line name value = name ++ (codes ": " ++ (value ++ crlf))

abbrev pub media_type : Bool → List ℕ
media_type true = codes "text/html; charset=utf-8"
media_type false = codes "text/plain; charset=utf-8"

abbrev pub methods : Allow → List ℕ
methods allow.Nothing = []
methods allow.Get = codes "GET"
methods allow.Post = codes "POST"
methods allow.GetPost = codes "GET, POST"

abbrev pub option : Bool → List ℕ
option true = codes "close"
option false = codes "keep-alive"

abbrev pub content_type : Bool → List ℕ
content_type html = field_line (codes "Content-Type") (media_type html)

-- the methods of the route, with 405 alone (RFC 9110, section 15.5.6)
abbrev pub allowed : ℕ → Allow → List ℕ
allowed status allow.Nothing = []
allowed status a = if status == 405 then field_line (codes "Allow") (methods a) else []

abbrev pub connection : Bool → List ℕ
connection close = field_line (codes "Connection") (option close) ++ crlf

-- the lines of the fields, and the empty line behind them
abbrev pub fields : Reply → Bool → List ℕ
fields reply close =
    content_type reply.html
    ++ (field_line (codes "Content-Length") (decimal (length reply.body))
    ++ (field_line (codes "Set-Number") (decimal reply.number)
    ++ (allowed reply.status reply.allow ++ connection close)))

-- the bytes of a reply
abbrev pub reply_text : Reply → Bool → List ℕ
reply_text reply close = status_line reply.status ++ (fields reply close ++ reply.body)

-- the reply where memory has run out
abbrev pub unavailable : ℕ → Reply
unavailable number = record {
  status = 503;
  html = false;
  number = number;
  allow = allow.Nothing;
  body = codes "memory\n";
}
