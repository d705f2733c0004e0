-- The answers of reading a request exclude each other.
use Rattle.std.proofs.Common.{ℕ, Bool, ◌≡◌, ◌⊎◌, inl, inr, List, [], length, take, drop, arith, refl, sym, ap, subst, ◌∙◌}
use Rattle.std.proofs.lemmas.List.{append-nil}
use Rattle.httparse.specs.Grammar.{RequestHead, ReadsRequest, print_request, HasNoRequest, NeverHasRequest, MayBecomeRequest, EndsInTarget}
use Rattle.httparse.specs.Spans.{RequestOverflows}
use Rattle.httparse.proofs.GrammarLemmas.{request_unique}
use Rattle.page_http.specs.declared.request.AtLeast.{AtLeast}
use Rattle.page_http.specs.declared.request.BodyKind.{BodyKind}
use Rattle.page_http.specs.declared.request.Request.{Request}
use Rattle.page_http.specs.declared.body_length.BodyLength.TheVariants as body
use Rattle.page_http.specs.Requests.{front, BeginsWith, IsWhole, IsPart, IsMore, Refuses, SaysRequest, body_length_of, many, long, malformed, by_length}
use Rattle.page_http.specs.Laws.{HasChoice, AnswersExclude}

-- bytes begin with one head at most
pub one_head : (bytes : List ℕ) (h k : RequestHead) → BeginsWith bytes h → BeginsWith bytes k → h ≡ k
one_head bytes h k a b = (request_unique _ h k _ _ a.reads b.reads).0

pub head_not_many : (bytes : List ℕ) (h : RequestHead) → BeginsWith bytes h → RequestOverflows 64 (front bytes) → ⊥
head_not_many bytes h b over =
    let more = over [] h _ (subst (λ (z : List ℕ). ReadsRequest z h (drop (length (print_request h)) (front bytes))) (sym (append-nil (front bytes))) b.reads) in
    omega (arith, more, b.fields)

pub head_not_never : (bytes : List ℕ) (h : RequestHead) → BeginsWith bytes h → NeverHasRequest (front bytes) → ⊥
head_not_never bytes h b never =
    never [] h _ (subst (λ (z : List ℕ). ReadsRequest z h (drop (length (print_request h)) (front bytes))) (sym (append-nil (front bytes))) b.reads)

pub head_not_part : (bytes : List ℕ) (h : RequestHead) → BeginsWith bytes h → IsPart bytes → ⊥
head_not_part bytes h b part = part.none h _ b.reads

pub never_none : (bytes : List ℕ) → NeverHasRequest bytes → HasNoRequest bytes
never_none bytes never = subst (λ (z : List ℕ). HasNoRequest z) (append-nil bytes) (never [])

-- a part that no bytes make a head ends in its target
pub part_never : (bytes : List ℕ) → IsPart bytes → NeverHasRequest (front bytes) → HasChoice bytes
part_never bytes part never = record { none = part.none; why = inr (ends part.may, never) }
  where
    ends : MayBecomeRequest (front bytes) → EndsInTarget (front bytes)
    ends (inl m) = absurd (never m.0 m.1 [] m.2)
    ends (inr e) = e

-- bytes that begin with a head are refused for the length of its body alone
pub head_refused : (bytes : List ℕ) (h : RequestHead) (status : ℕ) → BeginsWith bytes h → Refuses bytes status
    → body_length_of h ≡ body.Refused status
head_refused bytes h status b (many over exceeds) = absurd (head_not_many bytes h b over)
head_refused bytes h status b (long at part) = absurd (head_not_part bytes h b part)
head_refused bytes h status b (malformed never) = absurd (head_not_never bytes h b never)
head_refused bytes h status b (by_length k s c says) =
    subst (λ (z : RequestHead). body_length_of z ≡ body.Refused s) (one_head bytes k h c b) says

-- a head that says a length is not refused
pub length_not_refused : (h : RequestHead) (n status : ℕ) → body_length_of h ≡ body.Bytes n → body_length_of h ≡ body.Refused status → ⊥
length_not_refused h n status a b = cc

pub same_length : (h : RequestHead) (m n : ℕ) → body_length_of h ≡ body.Bytes m → body_length_of h ≡ body.Bytes n → m ≡ n
same_length h m n a b = cc

pub whole_more : (bytes : List ℕ) (r : Request) (n : ℕ) (h : RequestHead) → IsWhole bytes r n h → IsMore bytes → ⊥
whole_more bytes r n h w (inl part) = head_not_part bytes h w.head part.0
whole_more bytes r n h w (inr cut) =
    let k = cut.0 in
    let c = cut.2 in
    let same = one_head bytes k h c.head w.head in
    let count = same_length h (length r.body) cut.1 w.length_is (subst (λ (z : RequestHead). body_length_of z ≡ body.Bytes cut.1) same c.length_is) in
    omega (arith, c.less, w.used_is, w.within, count, ap (λ (z : RequestHead). length (print_request z)) same)

pub more_refused : (bytes : List ℕ) (status : ℕ) → IsMore bytes → Refuses bytes status → HasChoice bytes
more_refused bytes status (inl part) (many over exceeds) = record { none = part.0.none; why = inl exceeds }
more_refused bytes status (inl part) (long at other) = absurd (omega (arith, part.1, at))
more_refused bytes status (inl part) (malformed never) = part_never bytes part.0 never
more_refused bytes status (inl part) (by_length h s b says) = absurd (head_not_part bytes h b part.0)
more_refused bytes status (inr cut) refused =
    absurd (length_not_refused cut.0 cut.1 status cut.2.length_is (head_refused bytes cut.0 status cut.2.head refused))

pub same_status : (h : RequestHead) (s t : ℕ) → body_length_of h ≡ body.Refused s → body_length_of h ≡ body.Refused t → s ≡ t
same_status h s t a b = cc

pub one_status : (bytes : List ℕ) (status other : ℕ) → Refuses bytes status → Refuses bytes other → (status ≡ other) ⊎ HasChoice bytes
one_status bytes status other (by_length h s b says) refused =
    inl (same_status h s other says (head_refused bytes h other b refused))
one_status bytes status other (many over exceeds) (many over2 exceeds2) = inl refl
one_status bytes status other (many over exceeds) (long at part) = inl refl
one_status bytes status other (many over exceeds) (malformed never) = inr record { none = never_none _ never; why = inl exceeds }
one_status bytes status other (many over exceeds) (by_length h s b says) = absurd (head_not_many bytes h b over)
one_status bytes status other (long at part) (many over exceeds) = inl refl
one_status bytes status other (long at part) (long at2 part2) = inl refl
one_status bytes status other (long at part) (malformed never) = inr (part_never bytes part never)
one_status bytes status other (long at part) (by_length h s b says) = absurd (head_not_part bytes h b part)
one_status bytes status other (malformed never) (many over exceeds) = inr record { none = never_none _ never; why = inl exceeds }
one_status bytes status other (malformed never) (long at part) = inr (part_never bytes part never)
one_status bytes status other (malformed never) (malformed never2) = inl refl
one_status bytes status other (malformed never) (by_length h s b says) = absurd (head_not_never bytes h b never)

abbrev pub request_of : List ℕ → List ℕ → List ℕ → AtLeast → BodyKind → List ℕ → Bool → Request
request_of m p q l k b c =
    record { method = m; path = p; query = q; at_least = l; body_kind = k; body = b; close = c }

-- requests that the same parts say, with the same body, are one
pub same_request : (method target : List ℕ) (minor : ℕ) (fields : List (List ℕ × List ℕ)) (r s : Request)
    → SaysRequest method target minor fields r → SaysRequest method target minor fields s → r.body ≡ s.body → r ≡ s
same_request method target minor fields r s a b same =
    let m : r.method ≡ s.method = a.method_is ∙ sym b.method_is in
    let p : r.path ≡ s.path = a.path ∙ sym b.path in
    let q : r.query ≡ s.query = a.query ∙ sym b.query in
    let l : r.at_least ≡ s.at_least = a.at_least ∙ sym b.at_least in
    let k : r.body_kind ≡ s.body_kind = a.body_kind ∙ sym b.body_kind in
    let c : r.close ≡ s.close = a.close ∙ sym b.close in
    ap (λ (z : List ℕ). request_of z r.path r.query r.at_least r.body_kind r.body r.close) m
    ∙ ap (λ (z : List ℕ). request_of s.method z r.query r.at_least r.body_kind r.body r.close) p
    ∙ ap (λ (z : List ℕ). request_of s.method s.path z r.at_least r.body_kind r.body r.close) q
    ∙ ap (λ (z : AtLeast). request_of s.method s.path s.query z r.body_kind r.body r.close) l
    ∙ ap (λ (z : BodyKind). request_of s.method s.path s.query s.at_least z r.body r.close) k
    ∙ ap (λ (z : List ℕ). request_of s.method s.path s.query s.at_least s.body_kind z r.close) same
    ∙ ap (λ (z : Bool). request_of s.method s.path s.query s.at_least s.body_kind s.body z) c

pub one_whole : (bytes : List ℕ) (r s : Request) (m n : ℕ) (h k : RequestHead) → IsWhole bytes r m h → IsWhole bytes s n k
    → (r ≡ s) × (m ≡ n) × (h ≡ k)
one_whole bytes r s m n h k a b =
    let same : k ≡ h = one_head bytes k h b.head a.head in
    let c : IsWhole bytes s n h = subst (λ (z : RequestHead). IsWhole bytes s n z) same b in
    let count : length r.body ≡ length s.body = same_length h _ _ a.length_is c.length_is in
    let one : r.body ≡ s.body = a.body_is ∙ ap (λ (z : ℕ). take z (drop (length (print_request h)) bytes)) count ∙ sym c.body_is in
    (same_request _ _ _ _ r s a.says c.says one, omega (arith, a.used_is, c.used_is, count), sym same)

pub excluding : AnswersExclude
excluding bytes = record {
  one_whole = one_whole bytes;
  whole_more = whole_more bytes;
  whole_refused = λ r n h status w refused. length_not_refused h _ status w.length_is (head_refused bytes h status w.head refused);
  more_refused = more_refused bytes;
  one_status = one_status bytes;
}
