-- A request stands by itself, without the bytes behind it.
use Rattle.std.proofs.Common.{ℕ, ◌≡◌, ◌+◌, ◌≤◌, List, ◌++◌, length, take, drop, arith, refl, sym, ap, subst, ◌∙◌, take-append-drop}
use Rattle.std.proofs.lemmas.List.{length-take-le, take-take, take_at, take_all, drop-take}
use Rattle.httparse.specs.Grammar.{RequestHead, print_request}
use Rattle.page_http.specs.Requests.{front, BeginsWith, Refuses}
use Rattle.page_http.specs.declared.request.Request.{Request}
use Rattle.page_server.specs.Answering.{BeginsWithRequest, IsRequest}
use Rattle.page_server.proofs.Lengths.{head_within}

begins_whole : (xs p : List ℕ) → take (length p) xs ≡ p → xs ≡ p ++ drop (length p) xs
begins_whole xs p e = sym (take-append-drop (length p) xs) ∙ ap (λ (z : List ℕ). z ++ drop (length p) xs) e

-- the head is the first bytes
head_first : (bytes : List ℕ) (h : RequestHead) → BeginsWith bytes h → take (length (print_request h)) bytes ≡ print_request h
head_first bytes h b =
    sym (take-take (length (print_request h)) 16384 bytes (head_within bytes h b))
    ∙ ap (λ (z : List ℕ). take (length (print_request h)) z) b.reads.1
    ∙ take_at (print_request h) (drop (length (print_request h)) (front bytes)) (length (print_request h)) refl

begins_alone : (bytes : List ℕ) (h : RequestHead) (used : ℕ) → length (print_request h) ≤ used → BeginsWith bytes h
    → BeginsWith (take used bytes) h
begins_alone bytes h used le b = record {
  reads = (
    b.reads.0,
    begins_whole (front (take used bytes)) (print_request h)
        (take-take (length (print_request h)) 16384 (take used bytes) (head_within bytes h b)
        ∙ take-take (length (print_request h)) used bytes le
        ∙ head_first bytes h b),
  );
  fields = b.fields;
}

body_alone : (bytes : List ℕ) (n b used : ℕ) → used ≡ n + b → take b (drop n bytes) ≡ take b (drop n (take used bytes))
body_alone bytes n b used e =
    sym (ap (λ (k : ℕ). take b (drop n (take k bytes))) e
    ∙ ap (λ (z : List ℕ). take b z) (drop-take n b bytes)
    ∙ take-take b b (drop n bytes) (omega arith))

pub request_alone : (bytes : List ℕ) (r : Request) (used : ℕ) → BeginsWithRequest bytes r used → IsRequest (take used bytes) r
request_alone bytes r used w = (
  w.0,
  record {
    head = begins_alone bytes w.0 used (omega (arith, w.1.used_is)) w.1.head;
    says = w.1.says;
    length_is = w.1.length_is;
    body_is = w.1.body_is ∙ body_alone bytes (length (print_request w.0)) (length r.body) used w.1.used_is;
    used_is = length-take-le used bytes w.1.within ∙ w.1.used_is;
    within = omega arith;
  },
)

pub refused_alone : (bytes : List ℕ) (status : ℕ) → Refuses bytes status → Refuses (take (length bytes) bytes) status
refused_alone bytes status refused =
    subst (λ (z : List ℕ). Refuses z status) (sym (take_all (length bytes) bytes (omega arith))) refused
