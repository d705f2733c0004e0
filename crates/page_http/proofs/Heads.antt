-- What the parser's spans say of the bytes.
use Rattle.std.proofs.Common.{arith, ℕ, true, ◌≡◌, ◌≤◌, ◌<◌, List, length, take, drop, map, ap, ◌∙◌, subst}
use Rattle.std.proofs.lemmas.Bool.Decides.{nat_tests}
use Rattle.std.proofs.lemmas.List.{length-take, length-map}
use Rattle.std.proofs.lemmas.List.Elements.{All-weaker}
use Rattle.std.proofs.lemmas.Str.{IsUtf8-from_ascii}
use Rattle.std.proofs.lemmas.Str.Ascii.{IsAscii-from_all}
use Rattle.std.specs.Str.{IsUtf8}
use Rattle.httparse.specs.Grammar.{is_token_byte, IsToken, RequestHead, ReadsRequest, print_request, HasNoRequest, NeverHasRequest, MayBecomeRequest}
use Rattle.httparse.specs.Spans.{IsRequestAt, RequestOverflows, RequestExceeds, header_bytes, name_and_value, span_bytes}
use Rattle.httparse.specs.declared.spans.HeaderSpan.{HeaderSpan}
use Rattle.httparse.specs.declared.spans.RequestSpans.{RequestSpans}
use Rattle.page_http.specs.Bodies.{length_said}
use Rattle.page_http.specs.declared.request.Request.{Request}
use Rattle.page_http.specs.Requests.{front, BeginsWith, IsPart, Refuses, SaysRequest, body_length_of, many, malformed}

pub part_of : (bytes buf : List ℕ) → buf ≡ front bytes → HasNoRequest buf → MayBecomeRequest buf → IsPart bytes
part_of bytes buf f none may = record {
  none = subst (λ (z : List ℕ). HasNoRequest z) f none;
  may = subst (λ (z : List ℕ). MayBecomeRequest z) f may;
}

pub many_of : (bytes buf : List ℕ) → buf ≡ front bytes → RequestOverflows 64 buf → RequestExceeds 64 buf → Refuses bytes 431
many_of bytes buf f over exceeds =
    many (subst (λ (z : List ℕ). RequestOverflows 64 z) f over) (subst (λ (z : List ℕ). RequestExceeds 64 z) f exceeds)

pub malformed_of : (bytes buf : List ℕ) → buf ≡ front bytes → NeverHasRequest buf → Refuses bytes 400
malformed_of bytes buf f never = malformed (subst (λ (z : List ℕ). NeverHasRequest z) f never)

pub begins_of : (bytes buf : List ℕ) (headers : List HeaderSpan) (r : RequestSpans) (h : RequestHead)
    → buf ≡ front bytes → length headers ≤ 64 → IsRequestAt buf headers r h → BeginsWith bytes h
begins_of bytes buf headers r h f room at = record {
  reads =
      subst (λ (z : List ℕ). ReadsRequest z h (drop (length (print_request h)) z)) f
      (subst (λ (k : ℕ). ReadsRequest buf h (drop k buf)) at.len at.reads);
  fields =
      omega (arith, ap length at.fields, length-map (take r.headers headers) (header_bytes buf), length-map h.fields name_and_value, length-take r.headers headers, room);
}

-- what the spans say of the length of the body is what the head says
pub length_is : (buf : List ℕ) (headers fields : List HeaderSpan) (r : RequestSpans) (h : RequestHead) (method : List ℕ)
    → IsRequestAt buf headers r h → method ≡ span_bytes buf r.method → fields ≡ take r.headers headers
    → length_said method (map (header_bytes buf) fields) ≡ body_length_of h
length_is buf headers fields r h method at m f =
    ap (λ (z : List ℕ). length_said z (map (header_bytes buf) fields)) (m ∙ at.method)
    ∙ ap (λ (z : List (List ℕ × List ℕ)). length_said h.method z)
    (ap (λ (z : List HeaderSpan). map (header_bytes buf) z) f ∙ at.fields)

pub len_fits : (bytes buf : List ℕ) (n : ℕ) → buf ≡ front bytes → n ≤ length buf → n ≤ length bytes
len_fits bytes buf n f h = omega (arith, h, ap length f, length-take 16384 bytes)

token_is_ascii : (b : ℕ) → is_token_byte b ≡ true → b < 128
unfolding is_token_byte
token_is_ascii b token = grind (arith, nat_tests)

-- a token is a text
pub token_text : (bytes : List ℕ) → IsToken bytes → IsUtf8 bytes
token_text bytes token =
    IsUtf8-from_ascii _ (IsAscii-from_all _
    (All-weaker (λ b. is_token_byte b ≡ true) (λ b. b < 128) token_is_ascii _ token.1))

-- what the spans say of a request is what the head says
pub says_of : (buf : List ℕ) (headers fields : List HeaderSpan) (r : RequestSpans) (h : RequestHead)
    (method target : List ℕ) (request : Request) → IsRequestAt buf headers r h → method ≡ span_bytes buf r.method
    → target ≡ span_bytes buf r.path → fields ≡ take r.headers headers
    → SaysRequest method target r.version (map (header_bytes buf) fields) request
    → SaysRequest h.method h.target h.minor (map name_and_value h.fields) request
says_of buf headers fields r h method target request at m t f says =
    subst (λ (z : List ℕ). SaysRequest z h.target h.minor (map name_and_value h.fields) request) (m ∙ at.method)
    (subst (λ (z : List ℕ). SaysRequest method z h.minor (map name_and_value h.fields) request) (t ∙ at.path)
    (subst (λ (z : ℕ). SaysRequest method target z (map name_and_value h.fields) request) at.version
    (subst (λ (z : List (List ℕ × List ℕ)). SaysRequest method target r.version z request)
    (ap (λ (z : List HeaderSpan). map (header_bytes buf) z) f ∙ at.fields) says)))
