-- What is written for a text in the beginning of a URL, byte by byte: where its `:` are replaced, percent triples stay what they are.
use Rattle.std.proofs.Common.{◌≡◌, ℕ, ◌+◌, ◌==◌, ◌&&◌, ◌||◌, Bool, true, false, List, [], ◌∷◌, ◌++◌, append-nil, refl, sym, ap, ◌∙◌, subst, ◌<◌, ◌≤◌, ◌⊎◌, not, length, drop, get_or, inl, inr, arith, if◌then◌else◌}
use Rattle.std.specs.Char.{is_ascii_hexdigit}
use Rattle.url_lexer.specs.Classes.{url_class_of}
use Rattle.std.proofs.Math.Seq.{drop-length}
use Rattle.std.proofs.lemmas.Bool.{agree_below, agree_below_at, and_parts, cases_Bool, cases_lt, eqb-true, le-leb, lt-leb, true≢false}
use Rattle.std.specs.Str.{IsCharBoundary}
use Rattle.std.proofs.lemmas.Str.{IsCharBoundary-before_ascii}
use Rattle.url_lexer.specs.Kept.{is_kept_in_url, begins_with_digits, begins_triple}
use Rattle.url_lexer.specs.Sanitizers.{triple, without_scheme, without_scheme_at, url_norm, url_open}
use Rattle.url_lexer.specs.declared.class.UrlClass.{UrlClass}
use Rattle.url_lexer.specs.declared.class.UrlClass.TheVariants as class
use Rattle.san_url.specs.Runs.{IsWrittenBetween}
use Rattle.san_url.specs.Stays.{ends_beginning, stays_in_beginning, unkept_written}
use Rattle.san_url.proofs.Runs.{Stays, head}

abbrev is_colon : UrlClass → Bool
is_colon class.Colon = true
is_colon _ = false

-- a `:` is no hexadecimal digit
abbrev is_colon_digit : ℕ → Bool
is_colon_digit b = is_colon (url_class_of b) && is_ascii_hexdigit b

none-below : agree_below is_colon_digit (λ b. false) 256 ≡ true
unfolding url_class_of
none-below = refl

none-past : (b : ℕ) → 256 ≤ b → is_ascii_hexdigit b ≡ false
none-past b h =
    rw (le-leb 48 b (omega (arith, h)), lt-leb b 57 (omega (arith, h)), le-leb 65 b (omega (arith, h)), lt-leb b 70 (omega (arith, h)), le-leb 97 b (omega (arith, h)), lt-leb b 102 (omega (arith, h))) refl

no-digit : (b : ℕ) → url_class_of b ≡ class.Colon → is_ascii_hexdigit b ≡ false
no-digit b e = elim (cases_lt b 256) [
  | inl low ↦ ap (λ (c : UrlClass). is_colon c && is_ascii_hexdigit b) (sym e) ∙ agree_below_at is_colon_digit (λ b. false) 256 b none-below low
  | inr high ↦ none-past b high
]

first-false : (b : ℕ) (bs : List ℕ) → is_ascii_hexdigit b ≡ false → begins_with_digits (b ∷ bs) ≡ false
first-false b [] e = refl
first-false b (x ∷ bs) e = rw e refl

second-digit : (b x : ℕ) (bs : List ℕ) (c : UrlClass) → url_class_of x ≡ c → begins_with_digits (b ∷ without_scheme_at c x bs (without_scheme bs)) ≡ begins_with_digits (b ∷ x ∷ bs)
second-digit b x bs class.Colon e = rw (no-digit x e) refl
second-digit b x bs _ e = refl

behind-first : (b : ℕ) (bs : List ℕ) → begins_with_digits (b ∷ without_scheme bs) ≡ begins_with_digits (b ∷ bs)
behind-first b [] = refl
behind-first b (x ∷ bs) = second-digit b x bs (url_class_of x) refl

first-digit : (b : ℕ) (bs : List ℕ) (c : UrlClass) → url_class_of b ≡ c → begins_with_digits (without_scheme_at c b bs (without_scheme bs)) ≡ begins_with_digits (b ∷ bs)
first-digit b bs class.Colon e = sym (first-false b bs (no-digit b e))
first-digit b bs class.Slash e = refl
first-digit b bs class.QueryMark e = refl
first-digit b bs _ e = behind-first b bs

-- digits stand first where they did
same-digits : (bs : List ℕ) → begins_with_digits (without_scheme bs) ≡ begins_with_digits bs
same-digits [] = refl
same-digits (b ∷ bs) = first-digit b bs (url_class_of b) refl

-- the classes of the bytes that stop a run, but for those that stand nowhere
abbrev goes_on : UrlClass → Bool
goes_on class.Colon = false
goes_on class.Slash = false
goes_on class.QueryMark = false
goes_on _ = true

by-class : agree_below (λ b. goes_on (url_class_of b)) (λ b. not (b == 58 || ends_beginning b)) 256 ≡ true
unfolding url_class_of
by-class = refl

of-class : (b : ℕ) → b < 256 → not (b == 58 || ends_beginning b) ≡ true → goes_on (url_class_of b) ≡ true
of-class b l e = agree_below_at (λ b. goes_on (url_class_of b)) (λ b. not (b == 58 || ends_beginning b)) 256 b by-class l ∙ e

kept-open : (b : ℕ) (bs : List ℕ) (c : UrlClass) → url_class_of b ≡ c → without_scheme_at c b bs (without_scheme bs) ≡ b ∷ without_scheme bs
    → url_open (b ∷ bs) ≡ (if is_kept_in_url b || begins_triple b bs then b ∷ [] else triple b) ++ url_open bs
kept-open b bs c e h =
    ap url_norm (ap (λ (x : UrlClass). without_scheme_at x b bs (without_scheme bs)) e ∙ h)
    ∙ ap (λ (d : Bool). (if is_kept_in_url b || (b == 37 && d) then b ∷ [] else triple b) ++ url_open bs) (same-digits bs)

-- a byte that is no `:`, `/`, `?` or `#` is written as anywhere
other-opens : (b : ℕ) (bs : List ℕ) (c : UrlClass) → url_class_of b ≡ c → goes_on c ≡ true → url_open (b ∷ bs) ≡ (if is_kept_in_url b || begins_triple b bs then b ∷ [] else triple b) ++ url_open bs
other-opens b bs class.Colon e g = absurd (true≢false (sym g))
other-opens b bs class.Slash e g = absurd (true≢false (sym g))
other-opens b bs class.QueryMark e g = absurd (true≢false (sym g))
other-opens b bs c e g = kept-open b bs c e refl

open-as : (b : ℕ) (bs : List ℕ) (k : Bool) → b < 256 → not (b == 58 || ends_beginning b) ≡ true → is_kept_in_url b ≡ k → url_open (b ∷ bs) ≡ (if k || begins_triple b bs then b ∷ [] else triple b) ++ url_open bs
open-as b bs k l n e =
    other-opens b bs (url_class_of b) refl (of-class b l n) ∙ ap (λ (x : Bool). (if x || begins_triple b bs then b ∷ [] else triple b) ++ url_open bs) e

pub open-stays : Stays url_open stays_in_beginning
open-stays b bs l e =
    let parts = and_parts (is_kept_in_url b) (not (b == 58 || ends_beginning b)) e in
    open-as b bs true l parts.1 parts.0

-- a `:` is written as a triple
colon-opens : (bs : List ℕ) → url_open (58 ∷ bs) ≡ unkept_written 58 bs ++ url_open bs
unfolding url_class_of
colon-opens bs = refl

none-kept : (k x y : Bool) → (k && not (x || y)) ≡ false → x ≡ false → y ≡ false → k ≡ false
none-kept false x y h a b = refl
none-kept true false false h a b = h
none-kept true true y h a b = a
none-kept true false true h a b = b

none-ends : (x y : Bool) → x ≡ false → y ≡ false → not (x || y) ≡ true
none-ends false false a b = refl
none-ends true y a b = absurd (true≢false a)
none-ends false true a b = absurd (true≢false b)

pub open-unkept : (b : ℕ) (bs : List ℕ) → b < 256 → stays_in_beginning b ≡ false → ends_beginning b ≡ false → url_open (b ∷ bs) ≡ unkept_written b bs ++ url_open bs
open-unkept b bs l s n = elim (cases_Bool (b == 58)) [
  | inl y ↦ subst (λ (x : ℕ). url_open (x ∷ bs) ≡ unkept_written x bs ++ url_open bs) (sym (eqb-true b 58 y)) (colon-opens bs)
  | inr other ↦ open-as b bs false l (none-ends (b == 58) (ends_beginning b) other n) (none-kept (is_kept_in_url b) (b == 58) (ends_beginning b) s other n)
]

-- behind a `/`, `?` or `#` all is written as anywhere
either : (x y : Bool) → (x || y) ≡ true → (x ≡ true) ⊎ (y ≡ true)
either true y e = inl refl
either false y e = inr e

ends-is : (P : ℕ → Type 0) (b : ℕ) → ends_beginning b ≡ true → P 47 → P 63 → P 35 → P b
ends-is P b e slash question hash = elim (either (47 == b) (63 == b || (35 == b || false)) e) [
  | inl x ↦ subst P (eqb-true 47 b x) slash
  | inr x ↦ elim (either (63 == b) (35 == b || false) x) [
    | inl y ↦ subst P (eqb-true 63 b y) question
    | inr y ↦ elim (either (35 == b) false y) [
      | inl z ↦ subst P (eqb-true 35 b z) hash
      | inr z ↦ absurd (true≢false (sym z))
    ]
  ]
]

slash-opens : (bs : List ℕ) → url_open (47 ∷ bs) ≡ url_norm (47 ∷ bs)
unfolding url_class_of
slash-opens bs = refl

question-opens : (bs : List ℕ) → url_open (63 ∷ bs) ≡ url_norm (63 ∷ bs)
unfolding url_class_of
question-opens bs = refl

hash-opens : (bs : List ℕ) → url_open (35 ∷ bs) ≡ url_norm (35 ∷ bs)
unfolding url_class_of
hash-opens bs = refl

open-ends : (b : ℕ) (bs : List ℕ) → ends_beginning b ≡ true → url_open (b ∷ bs) ≡ url_norm (b ∷ bs)
open-ends b bs e = ends-is (λ (x : ℕ). url_open (x ∷ bs) ≡ url_norm (x ∷ bs)) b e (slash-opens bs) (question-opens bs) (hash-opens bs)

pub end-begins : (text : List ℕ) (at : ℕ) → at < length text → ends_beginning (get_or text at 0) ≡ true → IsCharBoundary text at
end-begins text at within e = IsCharBoundary-before_ascii text at within (ends-is (λ (x : ℕ). x < 128) (get_or text at 0) e (omega arith) (omega arith) (omega arith))

pub rest-written : (text before after : List ℕ) (at end : ℕ) → at < length text → ends_beginning (get_or text at 0) ≡ true → end ≡ length text → after ≡ before ++ url_norm (drop at text) → IsWrittenBetween url_open text at end before after
rest-written text before after at end within e is w =
    ap (λ (n : ℕ). after ++ url_open (drop n text)) is
    ∙ ap (λ (x : List ℕ). after ++ url_open x) (drop-length text)
    ∙ append-nil after
    ∙ w
    ∙ ap (λ (x : List ℕ). before ++ x) (ap url_norm (head text at within) ∙ sym (open-ends (get_or text at 0) (drop (at + 1) text) e) ∙ ap url_open (sym (head text at within)))
