-- How many bytes a part of a request has, and a whole one.
use Rattle.std.proofs.Common.{ℕ, ◌≡◌, ◌≢◌, ◌<◌, ◌≤◌, inl, inr, List, [], length, map, take, drop, arith, ap, ◌∙◌, length-append}
use Rattle.std.proofs.lemmas.Bool.Decides.{nat_tests}
use Rattle.std.proofs.lemmas.List.{length-take}
use Rattle.httparse.proofs.GrammarLemmas.{print_request-append}
use Rattle.httparse.specs.Grammar.{RequestHead, print_request}
use Rattle.httparse.specs.Spans.{name_and_value}
use Rattle.page_http.specs.Bodies.{length_said}
use Rattle.page_http.specs.Requests.{front, BeginsWith}
use Rattle.page_http.specs.declared.body_length.BodyLength.TheVariants as body
use Rattle.page_http.specs.declared.request.Request.{Request}
use Rattle.page_server.specs.Answering.{BeginsWithRequest}
use Rattle.page_server.specs.Waiting.{IsWaiting}

body_bounded : (method : List ℕ) (fields : List (List ℕ × List ℕ)) (n : ℕ) → length_said method fields ≡ body.Bytes n → n ≤ 1048576
body_bounded method fields n e = grind (arith, nat_tests)

pub head_within : (bytes : List ℕ) (h : RequestHead) → BeginsWith bytes h → length (print_request h) ≤ 16384
head_within bytes h b =
    let count = ap (λ (z : List ℕ). length z) b.reads.1 ∙ length-append (print_request h) (drop (length (print_request h)) (front bytes)) in
    omega (arith, count, length-take 16384 bytes)

-- a part of a request is shorter than the longest head and the longest body
pub waiting_short : (bytes : List ℕ) → IsWaiting bytes → length bytes < 1064960
waiting_short bytes (inl none) = omega (arith, ap length none)
waiting_short bytes (inr (inl part)) = omega (arith, part.1)
waiting_short bytes (inr (inr cut)) =
    let body = body_bounded cut.0.method (map name_and_value cut.0.fields) cut.1 cut.2.length_is in
    omega (arith, cut.2.less, head_within bytes cut.0 cut.2.head, body)

head_some : (h : RequestHead) → 0 < length (print_request h)
head_some h = omega (arith, simp length-append at (ap length (print_request-append h [])))

-- a request has bytes
pub request_some : (bytes : List ℕ) (r : Request) (used : ℕ) → BeginsWithRequest bytes r used → 0 < used
request_some bytes r used w = omega (arith, w.1.used_is, head_some w.0)

pub take_some : (bytes : List ℕ) (used : ℕ) → 0 < used → used ≤ length bytes → take used bytes ≢ []
take_some bytes used some within none = omega (arith, ap length none, length-take used bytes)
