-- More bytes keep what reading the first request answers.
use Rattle.std.proofs.Common.{ℕ, zero, suc, ◌≡◌, ◌-◌, ◌≤◌, List, [], ◌∷◌, ◌++◌, length, take, drop, arith, sym, ap, subst, ◌∙◌}
use Rattle.std.proofs.lemmas.List.{append_assoc, length-append, length-drop, take-append-le, drop-append-le}
use Rattle.httparse.specs.Grammar.{RequestHead, ReadsRequest, print_request, HasNoRequest, NeverHasRequest}
use Rattle.httparse.specs.Spans.{RequestOverflows, RequestExceeds}
use Rattle.httparse.proofs.GrammarLemmas.{ReadsRequest-append}
use Rattle.page_http.specs.declared.request.Request.{Request}
use Rattle.page_http.specs.Requests.{front, BeginsWith, IsWhole, Refuses, many, long, malformed, by_length}
use Rattle.page_http.specs.Laws.{AnswersStay}
use Rattle.page_http.proofs.Heads.{part_of, many_of, malformed_of}

take-append : (n : ℕ) (xs ys : List ℕ) → take n (xs ++ ys) ≡ take n xs ++ take (n - length xs) ys
take-append zero xs ys = let none : zero ≡ zero - length xs = omega arith in ap (λ (k : ℕ). take k ys) none
take-append (suc n) [] ys = let all : suc n ≡ suc n - zero = omega arith in ap (λ (k : ℕ). take k ys) all
take-append (suc n) (x ∷ xs) ys =
    let less : n - length xs ≡ suc n - suc (length xs) = omega arith in
    ap (λ (z : List ℕ). x ∷ z) (take-append n xs ys ∙ ap (λ (k : ℕ). take n xs ++ take k ys) less)

-- what of more bytes comes to the front
abbrev joined : List ℕ → List ℕ → List ℕ
joined bytes more = take (16384 - length bytes) more

front-more : (bytes more : List ℕ) → front (bytes ++ more) ≡ front bytes ++ joined bytes more
front-more bytes more = take-append 16384 bytes more

head-within : (bytes : List ℕ) (h : RequestHead) → BeginsWith bytes h → length (print_request h) ≤ length (front bytes)
head-within bytes h b =
    let count = ap (λ (z : List ℕ). length z) b.reads.1 ∙ length-append (print_request h) (drop (length (print_request h)) (front bytes)) in
    omega (arith, count)

begins-more : (bytes more : List ℕ) (h : RequestHead) → BeginsWith bytes h → BeginsWith (bytes ++ more) h
begins-more bytes more h b = record {
  reads =
      subst (λ (z : List ℕ). ReadsRequest z h (drop (length (print_request h)) z)) (sym (front-more bytes more))
      (subst (λ (z : List ℕ). ReadsRequest (front bytes ++ joined bytes more) h z)
      (sym (drop-append-le (length (print_request h)) (front bytes) (joined bytes more) (head-within bytes h b)))
      (ReadsRequest-append (front bytes) h (drop (length (print_request h)) (front bytes)) (joined bytes more) b.reads));
  fields = b.fields;
}

whole-stays : (bytes more : List ℕ) (r : Request) (n : ℕ) (h : RequestHead) → IsWhole bytes r n h → IsWhole (bytes ++ more) r n h
whole-stays bytes more r n h w =
    let head : length (print_request h) ≤ length bytes = omega (arith, w.used_is, w.within) in
    let rest : length r.body ≤ length (drop (length (print_request h)) bytes) =
    omega (arith, w.used_is, w.within, length-drop (length (print_request h)) bytes) in
    record {
      head = begins-more bytes more h w.head;
      says = w.says;
      length_is = w.length_is;
      body_is =
          w.body_is ∙ sym (take-append-le (length r.body) (drop (length (print_request h)) bytes) more rest)
          ∙ ap (λ (z : List ℕ). take (length r.body) z) (sym (drop-append-le (length (print_request h)) bytes more head));
      used_is = w.used_is;
      within = omega (arith, w.within, length-append bytes more);
    }

overflows-more : (buf more : List ℕ) → RequestOverflows 64 buf → RequestOverflows 64 (buf ++ more)
overflows-more buf more over after h rest x =
    over (more ++ after) h rest (subst (λ (z : List ℕ). ReadsRequest z h rest) (append_assoc buf more after) x)

exceeds-more : (buf more : List ℕ) → RequestExceeds 64 buf → RequestExceeds 64 (buf ++ more)
exceeds-more buf more e =
    (e.0, e.1 ++ more, ap (λ (z : List ℕ). z ++ more) e.2 ∙ append_assoc e.0 e.1 more, e.3, e.4, e.5)

never-more : (buf more : List ℕ) → NeverHasRequest buf → NeverHasRequest (buf ++ more)
never-more buf more never after =
    subst (λ (z : List ℕ). HasNoRequest z) (sym (append_assoc buf more after)) (never (more ++ after))

refused-stays : (bytes more : List ℕ) (status : ℕ) → Refuses bytes status → Refuses (bytes ++ more) status
refused-stays bytes more status (many over exceeds) =
    many_of (bytes ++ more) (front bytes ++ joined bytes more) (sym (front-more bytes more))
    (overflows-more (front bytes) (joined bytes more) over) (exceeds-more (front bytes) (joined bytes more) exceeds)
refused-stays bytes more status (long at part) =
    long (omega (arith, at, length-append bytes more))
    (part_of (bytes ++ more) (front bytes) (sym (take-append-le 16384 bytes more at)) part.none part.may)
refused-stays bytes more status (malformed never) =
    malformed_of (bytes ++ more) (front bytes ++ joined bytes more) (sym (front-more bytes more))
    (never-more (front bytes) (joined bytes more) never)
refused-stays bytes more status (by_length h s b says) = by_length h s (begins-more bytes more h b) says

pub staying : AnswersStay
staying bytes more = record { whole = whole-stays bytes more; refused = refused-stays bytes more }
