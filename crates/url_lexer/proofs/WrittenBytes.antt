-- What is written for a value is plain: it leaves no percent triple open, and ends no scheme but a safe one.
use Rattle.std.proofs.Common.{◌≡◌, ℕ, ◌==◌, ◌||◌, nat_lt, Bool, true, false, codes, List, [], ◌∷◌, ◌++◌, Option, Some, None, refl, sym, ap, ◌∙◌, subst, if◌then◌else◌}
use Rattle.std.specs.Prelude.{⊤, option_map, map, bytes_eq}
use Rattle.std.specs.Char.{is_ascii_hexdigit, to_ascii_lowercase}
use Rattle.std.specs.List.{list_all}
use Rattle.std.proofs.lemmas.Bool.{and_parts, eqb-true}
use Rattle.std.proofs.lemmas.List.{append_assoc, append-nil}
use Rattle.std.proofs.lemmas.Slice.Eq.{bytes_eq-Decides}
use Rattle.url_lexer.specs.Alike.{SchemesAlike, IsPastBeginning, SchemeIsDecided, at_start, in_beginning, behind_letters, behind_slash, behind_first, decided, decided_by_data}
use Rattle.url_lexer.specs.Classes.{url_class_of}
use Rattle.url_lexer.specs.Events.{NoScheme, scheme_at_end}
use Rattle.url_lexer.specs.Kept.{is_kept_in_url, is_delimiter, is_unreserved, begins_with_digits, begins_triple, are_unreserved}
use Rattle.url_lexer.specs.Parts.{UrlPart, UrlStart, UrlOpen, UrlOpenhole, UrlPrequery, UrlQuery, UrlBad}
use Rattle.url_lexer.specs.Plain.{IsHarmless, EndsNoScheme, SchemeLeads, ArePlainBytes}
use Rattle.url_lexer.specs.Refusals.{refuses_hole_in}
use Rattle.url_lexer.specs.Sanitizers.{triple, before_colon, before_colon_at, is_filtered, url_filter, url_norm, without_scheme, without_scheme_at, url_open, url_query, written_in}
use Rattle.url_lexer.specs.SchemeOf.{front_by, front_of_colon, trimmed, letters_of, told_name}
use Rattle.url_lexer.specs.Schemes.{UrlScheme, SchemeAhead, SchemeSoFar, SchemeIs, SchemeAbsent, SchemeUnknown, next_scheme, with_letter, is_safe_scheme}
use Rattle.url_lexer.specs.States.{Url, feed_url, feed_all}
use Rattle.url_lexer.specs.Triples.{Triple, NoTriple, AfterPercent, AfterDigit, next_triple}
use Rattle.url_lexer.specs.Written.{AreBytes, WrittenIsPlain}
use Rattle.url_lexer.specs.declared.class.UrlClass.{UrlClass}
use Rattle.url_lexer.specs.declared.class.UrlClass.TheVariants as class
use Rattle.url_lexer.proofs.ByteFacts.{is_word, digit-class, digit-unreserved, mark-kept, unreserved-word, percent-is, colon-is, slash-class, is_lower, lower-unreserved, first-digit, second-digit, percent-class, colon-class}
use Rattle.url_lexer.proofs.Reading.{scheme_over, fed-scheme, named-stays, absent-stays, reads-on, reads-first}

-- percent triples
abbrev pub triple_over : Triple → List ℕ → Triple
triple_over t [] = t
triple_over t (b ∷ bs) = triple_over (next_triple t (url_class_of b)) bs

pub fed-triple : (u : Url) (bs : List ℕ) → (feed_all u bs).triple ≡ triple_over u.triple bs
fed-triple u [] = refl
fed-triple u (b ∷ bs) = fed-triple (feed_url u b) bs

triple-passes : (b : ℕ) (rest : List ℕ) → nat_lt b 256 ≡ true → triple_over NoTriple (triple b ++ rest) ≡ triple_over NoTriple rest
triple-passes b rest l = rw (percent-class, (first-digit b l).of_class, (second-digit b l).of_class) refl

-- what stands where a triple is open
abbrev Fits : Triple → List ℕ → Type 0
Fits NoTriple bs = ⊤
Fits AfterPercent bs = begins_with_digits bs ≡ true
Fits AfterDigit [] = ⊥
Fits AfterDigit (b ∷ bs) = is_ascii_hexdigit b ≡ true

pub norm-kept : (b : ℕ) (bs : List ℕ) → (is_kept_in_url b || begins_triple b bs) ≡ true → url_norm (b ∷ bs) ≡ b ∷ url_norm bs
norm-kept b bs e = rw e refl

pub norm-triple : (b : ℕ) (bs : List ℕ) → (is_kept_in_url b || begins_triple b bs) ≡ false → url_norm (b ∷ bs) ≡ triple b ++ url_norm bs
norm-triple b bs e = rw e refl

pub or-first : (x y : Bool) → x ≡ true → (x || y) ≡ true
or-first true y e = refl
or-first false y e = cc

pub kept-as-unreserved : (b : ℕ) (bs : List ℕ) → is_unreserved b ≡ true → (is_kept_in_url b || begins_triple b bs) ≡ true
kept-as-unreserved b bs h = or-first (is_kept_in_url b) (begins_triple b bs) (or-first (is_unreserved b) (is_delimiter b) h)

abbrev IsNoPercent : UrlClass → Type 0
IsNoPercent class.Percent = ⊥
IsNoPercent c = ⊤

next-none : (c : UrlClass) → IsNoPercent c → next_triple NoTriple c ≡ NoTriple
next-none class.Percent k = absurd k
next-none _ k = refl

abbrev NormLeaves : List ℕ → Type 0
NormLeaves bs = (t : Triple) → Fits t bs → triple_over t (url_norm bs) ≡ NoTriple

norm-percent : (bs : List ℕ) (k : Bool) → begins_with_digits bs ≡ k → NormLeaves bs → triple_over NoTriple (url_norm (37 ∷ bs)) ≡ NoTriple
norm-percent bs true e h = ap (triple_over NoTriple) (norm-kept 37 bs e) ∙ ap (λ (t : Triple). triple_over t (url_norm bs)) (ap (next_triple NoTriple) percent-class) ∙ h AfterPercent e
norm-percent bs false e h = ap (triple_over NoTriple) (norm-triple 37 bs e) ∙ triple-passes 37 (url_norm bs) refl ∙ h NoTriple tt

norm-other : (b : ℕ) (bs : List ℕ) (c : UrlClass) (x : Bool) → nat_lt b 256 ≡ true → url_class_of b ≡ c → IsNoPercent c → (is_kept_in_url b || begins_triple b bs) ≡ x → NormLeaves bs
    → triple_over NoTriple (url_norm (b ∷ bs)) ≡ NoTriple
norm-other b bs c true l e k f h = ap (triple_over NoTriple) (norm-kept b bs f) ∙ ap (λ (t : Triple). triple_over t (url_norm bs)) (ap (next_triple NoTriple) e ∙ next-none c k) ∙ h NoTriple tt
norm-other b bs c false l e k f h = ap (triple_over NoTriple) (norm-triple b bs f) ∙ triple-passes b (url_norm bs) l ∙ h NoTriple tt

norm-first : (b : ℕ) (bs : List ℕ) (c : UrlClass) → nat_lt b 256 ≡ true → url_class_of b ≡ c → NormLeaves bs → triple_over NoTriple (url_norm (b ∷ bs)) ≡ NoTriple
norm-first b bs class.Percent l e h =
    ap (λ (x : ℕ). triple_over NoTriple (url_norm (x ∷ bs))) (percent-is b l e) ∙ norm-percent bs (begins_with_digits bs) refl h
norm-first b bs c l e h = norm-other b bs c (is_kept_in_url b || begins_triple b bs) l e tt refl h

norm-digit : (t r : Triple) (b : ℕ) (bs : List ℕ) → nat_lt b 256 ≡ true → is_ascii_hexdigit b ≡ true → next_triple t class.Hexadecimal ≡ r → triple_over r (url_norm bs) ≡ NoTriple
    → triple_over t (url_norm (b ∷ bs)) ≡ NoTriple
norm-digit t r b bs l h n k =
    ap (triple_over t) (norm-kept b bs (kept-as-unreserved b bs (digit-unreserved b l h)))
    ∙ ap (λ (s : Triple). triple_over s (url_norm bs)) (ap (next_triple t) (digit-class b l h) ∙ n) ∙ k

norm-leaves : (bs : List ℕ) → AreBytes bs → NormLeaves bs
norm-leaves [] a NoTriple f = refl
norm-leaves [] a AfterPercent f = cc
norm-leaves [] a AfterDigit f = absurd f
norm-leaves (b ∷ bs) a NoTriple f = norm-first b bs (url_class_of b) a.0 refl (norm-leaves bs a.1)
norm-leaves (b ∷ []) a AfterPercent f = cc
norm-leaves (b ∷ y ∷ bs) a AfterPercent f =
    let p = and_parts (is_ascii_hexdigit b) (is_ascii_hexdigit y) f in
    norm-digit AfterPercent AfterDigit b (y ∷ bs) a.0 p.0 refl (norm-leaves (y ∷ bs) a.1 AfterDigit p.1)
norm-leaves (b ∷ bs) a AfterDigit f = norm-digit AfterDigit NoTriple b bs a.0 f refl (norm-leaves bs a.1 NoTriple tt)

word-none : (c : UrlClass) → is_word c ≡ true → IsNoPercent c
word-none class.Percent e = cc
word-none _ e = tt

query-by : (b : ℕ) (bs : List ℕ) (x : Bool) → nat_lt b 256 ≡ true → is_unreserved b ≡ x → triple_over NoTriple (url_query bs) ≡ NoTriple → triple_over NoTriple (url_query (b ∷ bs)) ≡ NoTriple
query-by b bs true l e h = rw e (ap (λ (t : Triple). triple_over t (url_query bs)) (next-none (url_class_of b) (word-none (url_class_of b) (unreserved-word b l e))) ∙ h)
query-by b bs false l e h = rw e (triple-passes b (url_query bs) l ∙ h)

query-leaves : (bs : List ℕ) → AreBytes bs → triple_over NoTriple (url_query bs) ≡ NoTriple
query-leaves [] a = refl
query-leaves (b ∷ bs) a = query-by b bs (is_unreserved b) a.0 refl (query-leaves bs a.1)

-- in the query all bytes are unreserved or triples
query-plain-by : (b : ℕ) (bs : List ℕ) (x : Bool) → nat_lt b 256 ≡ true → is_unreserved b ≡ x → are_unreserved (url_query bs) ≡ true → are_unreserved (url_query (b ∷ bs)) ≡ true
query-plain-by b bs true l e h = rw e (rw (e, h) refl)
query-plain-by b bs false l e h =
    rw e (rw ((first-digit b l).digit, (second-digit b l).digit, (first-digit b l).unreserved, (second-digit b l).unreserved, h) refl)

query-plain : (bs : List ℕ) → AreBytes bs → are_unreserved (url_query bs) ≡ true
query-plain [] a = refl
query-plain (b ∷ bs) a = query-plain-by b bs (is_unreserved b) a.0 refl (query-plain bs a.1)

-- no `:` in the beginning
abbrev IsNoMark : UrlClass → Type 0
IsNoMark class.Colon = ⊥
IsNoMark class.Slash = ⊥
IsNoMark class.QueryMark = ⊥
IsNoMark c = ⊤

front-none : (c : UrlClass) (b : ℕ) (o : Option (List ℕ)) → IsNoMark c → o ≡ None → front_by c b o ≡ None
front-none class.Colon b o k e = absurd k
front-none class.Slash b o k e = absurd k
front-none class.QueryMark b o k e = absurd k
front-none _ b o k e = ap (option_map (λ (f : List ℕ). b ∷ f)) e

map-none : (b : ℕ) (o : Option (List ℕ)) → option_map (λ (f : List ℕ). b ∷ f) o ≡ None → o ≡ None
map-none b None e = refl
map-none b (Some f) e = cc

front-back : (c : UrlClass) (b : ℕ) (o : Option (List ℕ)) → IsNoMark c → front_by c b o ≡ None → o ≡ None
front-back class.Colon b o k e = absurd k
front-back class.Slash b o k e = absurd k
front-back class.QueryMark b o k e = absurd k
front-back _ b o k e = map-none b o e

front-triple : (b : ℕ) (rest : List ℕ) → nat_lt b 256 ≡ true → front_of_colon rest ≡ None → front_of_colon (triple b ++ rest) ≡ None
front-triple b rest l h = rw (percent-class, (first-digit b l).of_class, (second-digit b l).of_class, h) refl

front-mark : (b : ℕ) (bs : List ℕ) (c : UrlClass) → url_class_of b ≡ c → is_kept_in_url b ≡ true → front_by c b (front_of_colon (url_norm bs)) ≡ None → front_of_colon (url_norm (b ∷ bs)) ≡ None
front-mark b bs c e k h = ap front_of_colon (norm-kept b bs (or-first (is_kept_in_url b) (begins_triple b bs) k)) ∙ ap (λ (x : UrlClass). front_by x b (front_of_colon (url_norm bs))) e ∙ h

front-other : (b : ℕ) (bs : List ℕ) (c : UrlClass) (x : Bool) → nat_lt b 256 ≡ true → url_class_of b ≡ c → IsNoMark c → (is_kept_in_url b || begins_triple b bs) ≡ x → front_of_colon (url_norm bs) ≡ None
    → front_of_colon (url_norm (b ∷ bs)) ≡ None
front-other b bs c true l e k f h =
    ap front_of_colon (norm-kept b bs f) ∙ ap (λ (x : UrlClass). front_by x b (front_of_colon (url_norm bs))) e ∙ front-none c b (front_of_colon (url_norm bs)) k h
front-other b bs c false l e k f h = ap front_of_colon (norm-triple b bs f) ∙ front-triple b (url_norm bs) l h

front-norm-by : (b : ℕ) (bs : List ℕ) (c : UrlClass) → nat_lt b 256 ≡ true → url_class_of b ≡ c → front_by c b (front_of_colon bs) ≡ None → (front_of_colon bs ≡ None → front_of_colon (url_norm bs) ≡ None)
    → front_of_colon (url_norm (b ∷ bs)) ≡ None
front-norm-by b bs class.Colon l e n h = cc
front-norm-by b bs class.Slash l e n h = front-mark b bs class.Slash e (mark-kept b class.Slash l e refl) refl
front-norm-by b bs class.QueryMark l e n h = front-mark b bs class.QueryMark e (mark-kept b class.QueryMark l e refl) refl
front-norm-by b bs c l e n h = front-other b bs c (is_kept_in_url b || begins_triple b bs) l e tt refl (h (front-back c b (front_of_colon bs) tt n))

front-norm : (bs : List ℕ) → AreBytes bs → front_of_colon bs ≡ None → front_of_colon (url_norm bs) ≡ None
front-norm [] a n = refl
front-norm (b ∷ bs) a n = front-norm-by b bs (url_class_of b) a.0 refl n (front-norm bs a.1)

front-open-by : (b : ℕ) (bs rest : List ℕ) (c : UrlClass) → url_class_of b ≡ c → front_of_colon rest ≡ None → front_of_colon (without_scheme_at c b bs rest) ≡ None
front-open-by b bs rest class.Colon e h = front-triple 58 rest refl h
front-open-by b bs rest class.Slash e h = rw e refl
front-open-by b bs rest class.QueryMark e h = rw e refl
front-open-by b bs rest c e h = ap (λ (x : UrlClass). front_by x b (front_of_colon rest)) e ∙ front-none c b (front_of_colon rest) tt h

front-open : (bs : List ℕ) → front_of_colon (without_scheme bs) ≡ None
front-open [] = refl
front-open (b ∷ bs) = front-open-by b bs (without_scheme bs) (url_class_of b) refl (front-open bs)

open-bytes-by : (b : ℕ) (bs rest : List ℕ) (c : UrlClass) → nat_lt b 256 ≡ true → AreBytes bs → AreBytes rest → AreBytes (without_scheme_at c b bs rest)
open-bytes-by b bs rest class.Colon l a r = (refl, (refl, (refl, r)))
open-bytes-by b bs rest class.Slash l a r = (l, a)
open-bytes-by b bs rest class.QueryMark l a r = (l, a)
open-bytes-by b bs rest _ l a r = (l, r)

pub open-bytes : (bs : List ℕ) → AreBytes bs → AreBytes (without_scheme bs)
open-bytes [] a = tt
open-bytes (b ∷ bs) a = open-bytes-by b bs (without_scheme bs) (url_class_of b) a.0 a.1 (open-bytes bs a.1)

-- such bytes end no scheme
abbrev IsBegun : UrlScheme → Type 0
IsBegun (SchemeSoFar l) = ⊤
IsBegun (SchemeIs l) = ⊤
IsBegun SchemeAbsent = ⊤
IsBegun s = ⊥

begun-next : (l : List ℕ) (c : UrlClass) (b : ℕ) → IsBegun (next_scheme (SchemeSoFar l) c b)
begun-next l class.TabOrNewline b = tt
begun-next l class.Colon b = tt
begun-next l class.Slash b = tt
begun-next l class.QueryMark b = tt
begun-next l _ b = tt

begun-over : (bs : List ℕ) (s : UrlScheme) → IsBegun s → IsBegun (scheme_over s bs)
begun-over [] s k = k
begun-over (b ∷ bs) (SchemeSoFar l) k = begun-over bs (next_scheme (SchemeSoFar l) (url_class_of b) b) (begun-next l (url_class_of b) b)
begun-over (b ∷ bs) (SchemeIs l) k = begun-over bs (SchemeIs l) tt
begun-over (b ∷ bs) SchemeAbsent k = begun-over bs SchemeAbsent tt
begun-over (b ∷ bs) SchemeAhead k = absurd k
begun-over (b ∷ bs) SchemeUnknown k = absurd k

begun-none : (l : List ℕ) (r : UrlScheme) → IsBegun r → scheme_at_end r ≡ NoScheme → EndsNoScheme (SchemeSoFar l) r
begun-none l (SchemeSoFar k) b e = tt
begun-none l SchemeAbsent b e = tt
begun-none l (SchemeIs k) b e = cc
begun-none l SchemeAhead b e = absurd b
begun-none l SchemeUnknown b e = absurd b

abbrev IsKnown : UrlScheme → Type 0
IsKnown SchemeUnknown = ⊥
IsKnown s = ⊤

begun-known : (s : UrlScheme) → IsBegun s → IsKnown s
begun-known (SchemeSoFar l) k = tt
begun-known (SchemeIs l) k = tt
begun-known SchemeAbsent k = tt
begun-known SchemeAhead k = absurd k
begun-known SchemeUnknown k = absurd k

known-by : (c : UrlClass) (b : ℕ) (bs : List ℕ) → IsKnown (scheme_over SchemeAhead bs) → IsKnown (scheme_over (next_scheme SchemeAhead c b) bs)
known-by class.TabOrNewline b bs h = h
known-by class.ControlOrSpace b bs h = h
known-by class.Colon b bs h = begun-known (scheme_over (SchemeIs []) bs) (begun-over bs (SchemeIs []) tt)
known-by class.Slash b bs h = begun-known (scheme_over SchemeAbsent bs) (begun-over bs SchemeAbsent tt)
known-by class.QueryMark b bs h = begun-known (scheme_over SchemeAbsent bs) (begun-over bs SchemeAbsent tt)
known-by _ b bs h = begun-known (scheme_over (SchemeSoFar (with_letter [] b)) bs) (begun-over bs (SchemeSoFar (with_letter [] b)) tt)

known-over : (bs : List ℕ) → IsKnown (scheme_over SchemeAhead bs)
known-over [] = tt
known-over (b ∷ bs) = known-by (url_class_of b) b bs (known-over bs)

known-none : (r : UrlScheme) → IsKnown r → scheme_at_end r ≡ NoScheme → EndsNoScheme SchemeAhead r
known-none SchemeAhead k e = tt
known-none (SchemeSoFar l) k e = tt
known-none SchemeAbsent k e = tt
known-none (SchemeIs l) k e = cc
known-none SchemeUnknown k e = absurd k

ahead-ends-none : (bs : List ℕ) → front_of_colon bs ≡ None → EndsNoScheme SchemeAhead (scheme_over SchemeAhead bs)
ahead-ends-none bs n =
    known-none (scheme_over SchemeAhead bs) (known-over bs) (reads-first bs ∙ ap (λ (o : Option (List ℕ)). told_name (option_map (λ (f : List ℕ). letters_of (trimmed f)) o)) n)

none-ends : (s : UrlScheme) (bs : List ℕ) → IsKnown s → front_of_colon bs ≡ None → EndsNoScheme s (scheme_over s bs)
none-ends SchemeAhead bs k n = ahead-ends-none bs n
none-ends (SchemeSoFar l) bs k n =
    begun-none l (scheme_over (SchemeSoFar l) bs) (begun-over bs (SchemeSoFar l) tt) (reads-on bs l ∙ ap (λ (o : Option (List ℕ)). told_name (option_map (λ (f : List ℕ). l ++ letters_of f) o)) n)
none-ends (SchemeIs l) bs k n = named-stays l bs
none-ends SchemeAbsent bs k n = absent-stays bs
none-ends SchemeUnknown bs k n = absurd k

decided-stays : (s : UrlScheme) (bs : List ℕ) → SchemeIsDecided s → EndsNoScheme s (scheme_over s bs)
decided-stays (SchemeIs l) bs k = named-stays l bs
decided-stays SchemeAbsent bs k = absent-stays bs
decided-stays SchemeAhead bs k = absurd k
decided-stays (SchemeSoFar l) bs k = absurd k
decided-stays SchemeUnknown bs k = absurd k

harmless-known : (s : UrlScheme) → IsHarmless s → IsKnown s
harmless-known SchemeAhead h = tt
harmless-known (SchemeSoFar l) h = tt
harmless-known (SchemeIs l) h = tt
harmless-known SchemeAbsent h = tt
harmless-known SchemeUnknown h = absurd h

open-ends : (s : UrlScheme) (text : List ℕ) → AreBytes text → IsKnown s → EndsNoScheme s (scheme_over s (url_open text))
open-ends s text a k = none-ends s (url_open text) k (front-norm (without_scheme text) (open-bytes text a) (front-open text))

-- at the start: a text that the filter lets pass without a `:`
abbrev IsNoColon : UrlClass → Type 0
IsNoColon class.Colon = ⊥
IsNoColon c = ⊤

true-not : (x : Bool) → x ≡ true → x ≡ false → ⊥
true-not x e f = cc

front-but-colon : (c : UrlClass) (b : ℕ) (o : Option (List ℕ)) → IsNoColon c → o ≡ None → front_by c b o ≡ None
front-but-colon class.Colon b o k e = absurd k
front-but-colon class.Slash b o k e = refl
front-but-colon class.QueryMark b o k e = refl
front-but-colon _ b o k e = ap (option_map (λ (f : List ℕ). b ∷ f)) e

before-back : (b : ℕ) (o : Option (List ℕ)) → before_colon_at false false b o ≡ None → o ≡ None
before-back b None e = refl
before-back b (Some f) e = cc

colon-not : (b : ℕ) (c : UrlClass) → nat_lt b 256 ≡ true → url_class_of b ≡ c → (b == 58) ≡ false → IsNoColon c
colon-not b class.Colon l e n = true-not (b == 58) (colon-is b l e) n
colon-not b _ l e n = tt

before-none-by : (b : ℕ) (bs : List ℕ) (x y : Bool) → nat_lt b 256 ≡ true → (b == 58) ≡ x → (b == 47) ≡ y → before_colon_at x y b (before_colon bs) ≡ None → (before_colon bs ≡ None → front_of_colon bs ≡ None)
    → front_by (url_class_of b) b (front_of_colon bs) ≡ None
before-none-by b bs true y l e f n h = cc
before-none-by b bs false true l e f n h = rw (slash-class b l f) refl
before-none-by b bs false false l e f n h = front-but-colon (url_class_of b) b (front_of_colon bs) (colon-not b (url_class_of b) l refl e) (h (before-back b (before_colon bs) n))

before-none : (bs : List ℕ) → AreBytes bs → before_colon bs ≡ None → front_of_colon bs ≡ None
before-none [] a n = refl
before-none (b ∷ bs) a n = before-none-by b bs (b == 58) (b == 47) a.0 refl refl n (before-none bs a.1)

-- and one with a safe scheme
record Split (bs front : List ℕ) : Type 0 where
  rest : List ℕ
  is : bs ≡ front ++ 58 ∷ rest

split-more : (b : ℕ) (bs front : List ℕ) → Split bs front → Split (b ∷ bs) (b ∷ front)
split-more b bs front h = record { rest = h.rest; is = ap (λ (t : List ℕ). b ∷ t) h.is }

split-by : (b : ℕ) (bs front : List ℕ) (x y : Bool) (o : Option (List ℕ)) → (b == 58) ≡ x → before_colon_at x y b o ≡ Some front → ((g : List ℕ) → o ≡ Some g → Split bs g) → Split (b ∷ bs) front
split-by b bs front true y o e n h =
    let none : [] ≡ front = cc in
    subst (Split (b ∷ bs)) none (record { rest = bs; is = ap (λ (i : ℕ). i ∷ bs) (eqb-true b 58 e) })
split-by b bs front false true o e n h = cc
split-by b bs front false false None e n h = cc
split-by b bs front false false (Some g) e n h =
    let same : b ∷ g ≡ front = cc in
    subst (Split (b ∷ bs)) same (split-more b bs g (h g refl))

split : (bs front : List ℕ) → before_colon bs ≡ Some front → Split bs front
split [] front e = cc
split (b ∷ bs) front e = split-by b bs front (b == 58) (b == 47) (before_colon bs) refl e (split bs)

front-bytes : (front rest : List ℕ) → AreBytes (front ++ rest) → AreBytes front
front-bytes [] rest a = tt
front-bytes (b ∷ front) rest a = (a.0, front-bytes front rest a.1)

lower-all : (front : List ℕ) → AreBytes front → list_all is_lower (map to_ascii_lowercase front) ≡ true → list_all is_unreserved front ≡ true
lower-all [] a h = refl
lower-all (b ∷ front) a h =
    let p = and_parts (is_lower (to_ascii_lowercase b)) (list_all is_lower (map to_ascii_lowercase front)) h in
    rw (lower-unreserved b a.0 p.0, lower-all front a.1 p.1) refl

norm-front : (front rest : List ℕ) → list_all is_unreserved front ≡ true → url_norm (front ++ rest) ≡ front ++ url_norm rest
norm-front [] rest h = refl
norm-front (b ∷ front) rest h =
    let p = and_parts (is_unreserved b) (list_all is_unreserved front) h in
    norm-kept b (front ++ rest) (kept-as-unreserved b (front ++ rest) p.0) ∙ ap (λ (t : List ℕ). b ∷ t) (norm-front front rest p.1)

word-letter : (l : List ℕ) (c : UrlClass) (b : ℕ) → is_word c ≡ true → next_scheme (SchemeSoFar l) c b ≡ SchemeSoFar (with_letter l b)
word-letter l class.Hexadecimal b e = refl
word-letter l class.Other b e = refl
word-letter l _ b e = cc

word-first : (c : UrlClass) (b : ℕ) → is_word c ≡ true → next_scheme SchemeAhead c b ≡ SchemeSoFar (with_letter [] b)
word-first class.Hexadecimal b e = refl
word-first class.Other b e = refl
word-first _ b e = cc

scheme-front : (front l rest : List ℕ) → AreBytes front → list_all is_unreserved front ≡ true → scheme_over (SchemeSoFar l) (front ++ rest) ≡ scheme_over (SchemeSoFar (l ++ map to_ascii_lowercase front)) rest
scheme-front [] l rest a h = ap (λ (k : List ℕ). scheme_over (SchemeSoFar k) rest) (sym (append-nil l))
scheme-front (b ∷ front) l rest a h =
    let p = and_parts (is_unreserved b) (list_all is_unreserved front) h in
    ap (λ (s : UrlScheme). scheme_over s (front ++ rest)) (word-letter l (url_class_of b) b (unreserved-word b a.0 p.0))
    ∙ scheme-front front (with_letter l b) rest a.1 p.1
    ∙ ap (λ (k : List ℕ). scheme_over (SchemeSoFar k) rest) (append_assoc l (to_ascii_lowercase b ∷ []) (map to_ascii_lowercase front))

scheme-ahead : (b : ℕ) (front rest : List ℕ) → AreBytes (b ∷ front) → list_all is_unreserved (b ∷ front) ≡ true
    → scheme_over SchemeAhead ((b ∷ front) ++ rest) ≡ scheme_over (SchemeSoFar (map to_ascii_lowercase (b ∷ front))) rest
scheme-ahead b front rest a h =
    let p = and_parts (is_unreserved b) (list_all is_unreserved front) h in
    ap (λ (s : UrlScheme). scheme_over s (front ++ rest)) (word-first (url_class_of b) b (unreserved-word b a.0 p.0))
    ∙ scheme-front front (with_letter [] b) rest a.1 p.1

ends-named : (l rest : List ℕ) → scheme_over (SchemeSoFar l) (url_norm (58 ∷ rest)) ≡ SchemeIs l
ends-named l rest = ap (scheme_over (SchemeSoFar l)) (norm-kept 58 rest refl) ∙ ap (λ (s : UrlScheme). scheme_over s (url_norm rest)) (ap (λ (c : UrlClass). next_scheme (SchemeSoFar l) c 58) colon-class) ∙ named-stays l (url_norm rest)

safe-lower-by : (n : List ℕ) (x y z : Bool) → bytes_eq n (codes "http") ≡ x → bytes_eq n (codes "https") ≡ y → bytes_eq n (codes "mailto") ≡ z → (x || (y || z)) ≡ true → list_all is_lower n ≡ true
safe-lower-by n true y z e f g h = ap (list_all is_lower) ((bytes_eq-Decides n (codes "http")).0 e)
safe-lower-by n false true z e f g h = ap (list_all is_lower) ((bytes_eq-Decides n (codes "https")).0 f)
safe-lower-by n false false true e f g h = ap (list_all is_lower) ((bytes_eq-Decides n (codes "mailto")).0 g)
safe-lower-by n false false false e f g h = cc

safe-lower : (n : List ℕ) → is_safe_scheme n ≡ true → list_all is_lower n ≡ true
safe-lower n h = safe-lower-by n (bytes_eq n (codes "http")) (bytes_eq n (codes "https")) (bytes_eq n (codes "mailto")) refl refl refl h

safe-front : (front rest : List ℕ) → AreBytes front → is_safe_scheme (map to_ascii_lowercase front) ≡ true → IsHarmless (scheme_over SchemeAhead (url_norm (front ++ 58 ∷ rest)))
safe-front [] rest a h = cc
safe-front (b ∷ front) rest a h =
    let u = lower-all (b ∷ front) a (safe-lower (map to_ascii_lowercase (b ∷ front)) h) in
    subst IsHarmless
    (sym (ap (scheme_over SchemeAhead) (norm-front (b ∷ front) (58 ∷ rest) u)
    ∙ scheme-ahead b front (url_norm (58 ∷ rest)) a u ∙ ends-named (map to_ascii_lowercase (b ∷ front)) rest))
    h

safe-split : (text front : List ℕ) → AreBytes text → Split text front → is_safe_scheme (map to_ascii_lowercase front) ≡ true → IsHarmless (scheme_over SchemeAhead (url_norm text))
safe-split text front a s h =
    subst (λ (t : List ℕ). IsHarmless (scheme_over SchemeAhead (url_norm t))) (sym s.is)
    (safe-front front s.rest (front-bytes front (58 ∷ s.rest) (subst AreBytes s.is a)) h)

ahead-harmless : (r : UrlScheme) → EndsNoScheme SchemeAhead r → IsHarmless r
ahead-harmless SchemeAhead h = tt
ahead-harmless (SchemeSoFar l) h = tt
ahead-harmless SchemeAbsent h = tt
ahead-harmless (SchemeIs l) h = absurd h
ahead-harmless SchemeUnknown h = absurd h

failsafe-harmless : IsHarmless (scheme_over SchemeAhead (url_norm (codes "#ZgotmplZ")))
unfolding url_class_of
failsafe-harmless = tt

start-safe : (text front : List ℕ) (x : Bool) → AreBytes text → before_colon text ≡ Some front → is_safe_scheme (map to_ascii_lowercase front) ≡ x
    → IsHarmless (scheme_over SchemeAhead (url_norm (if (if x then false else true) then codes "#ZgotmplZ" else text)))
start-safe text front true a e h = safe-split text front a (split text front e) h
start-safe text front false a e h = failsafe-harmless

start-by : (text : List ℕ) (o : Option (List ℕ)) → AreBytes text → before_colon text ≡ o → IsHarmless (scheme_over SchemeAhead (url_norm (if is_filtered o then codes "#ZgotmplZ" else text)))
start-by text None a e = ahead-harmless (scheme_over SchemeAhead (url_norm text)) (ahead-ends-none (url_norm text) (front-norm text a (before-none text a e)))
start-by text (Some front) a e = start-safe text front (is_safe_scheme (map to_ascii_lowercase front)) a e refl

start-leads : (text : List ℕ) → AreBytes text → IsHarmless (scheme_over SchemeAhead (url_norm (url_filter text)))
start-leads text a = start-by text (before_colon text) a refl

-- past the beginning
past-leads : (p : UrlPart) (s : UrlScheme) (text : List ℕ) → IsPastBeginning p → SchemeIsDecided s → refuses_hole_in p ≡ None → SchemeLeads p s (scheme_over s (written_in p text))
past-leads UrlPrequery s text g h n = decided-stays s (url_norm text) h
past-leads UrlQuery s text g h n = decided-stays s (url_query text) h
past-leads UrlBad s text g h n = cc
past-leads UrlStart s text g h n = absurd g
past-leads (UrlOpen p) s text g h n = absurd g
past-leads UrlOpenhole s text g h n = absurd g

-- in each part
leads : (p : UrlPart) (f : Bool) (s r : UrlScheme) (text : List ℕ) → AreBytes text → SchemesAlike p f s r → refuses_hole_in p ≡ None → SchemeLeads p r (scheme_over r (written_in p text))
leads p f s r text a at_start n = start-leads text a
leads p f s r text a (in_beginning q l) n = open-ends (SchemeSoFar l) text a tt
leads p f s r text a (behind_letters l) n = open-ends (SchemeSoFar l) text a tt
leads p f s r text a behind_slash n = open-ends SchemeAbsent text a tt
leads p f s r text a (behind_first t h) n = open-ends t text a (harmless-known t h)
leads p f s r text a (decided q t g h) n = past-leads q t text g h n
leads p f s r text a (decided_by_data q t g h k) n = past-leads q t text g h n

filter-bytes-by : (x : Bool) (text : List ℕ) → AreBytes text → AreBytes (if x then codes "#ZgotmplZ" else text)
filter-bytes-by true text a = (refl, (refl, (refl, (refl, (refl, (refl, (refl, (refl, (refl, tt)))))))))
filter-bytes-by false text a = a

written-leaves : (p : UrlPart) (text : List ℕ) → AreBytes text → triple_over NoTriple (written_in p text) ≡ NoTriple
written-leaves UrlStart text a = norm-leaves (url_filter text) (filter-bytes-by (is_filtered (before_colon text)) text a) NoTriple tt
written-leaves (UrlOpen q) text a = norm-leaves (without_scheme text) (open-bytes text a) NoTriple tt
written-leaves UrlOpenhole text a = norm-leaves (without_scheme text) (open-bytes text a) NoTriple tt
written-leaves UrlPrequery text a = norm-leaves text a NoTriple tt
written-leaves UrlQuery text a = query-leaves text a
written-leaves UrlBad text a = refl

allowed : (p : UrlPart) (text : List ℕ) → AreBytes text → refuses_hole_in p ≡ None → ArePlainBytes p (written_in p text)
allowed UrlStart text a n = tt
allowed (UrlOpen q) text a n = tt
allowed UrlOpenhole text a n = tt
allowed UrlPrequery text a n = tt
allowed UrlQuery text a n = query-plain text a
allowed UrlBad text a n = cc

pub written-plain : WrittenIsPlain
written-plain v w text a h t n =
    let whole : w.triple ≡ NoTriple = h.triple ∙ t in
    let bytes = written_in v.part text in
    record {
      leads = record {
        scheme = subst (λ (s : UrlScheme). SchemeLeads w.part w.scheme s) (sym (fed-scheme w bytes))
            (subst (λ (p : UrlPart). SchemeLeads p w.scheme (scheme_over w.scheme bytes)) (sym h.part) (leads v.part v.free v.scheme w.scheme text a h.schemes n));
        whole_before = whole;
        whole_after = fed-triple w bytes ∙ ap (λ (x : Triple). triple_over x bytes) whole ∙ written-leaves v.part text a;
      };
      allowed = subst (λ (p : UrlPart). ArePlainBytes p bytes) (sym h.part) (allowed v.part text a n);
    }
