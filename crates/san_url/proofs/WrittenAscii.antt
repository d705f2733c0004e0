-- What is written for a text in a URL is of bytes of ASCII, and none of them is NUL or a `<`.
use lib.Utf8.{scalar, scalar_cases}
use Rattle.std.proofs.Common.{◌≡◌, ℕ, ◌<◌, ◌/◌, ◌%◌, ◌==◌, ◌&&◌, ◌||◌, not, nat_lt, Bool, true, false, codes, List, [], ◌∷◌, ◌++◌, refl, ap, subst, inl, inr, if◌then◌else◌, arith, encode_utf8, IsUtf8}
use Rattle.std.proofs.lemmas.Bool.{agree_below, agree_below_at, and_parts, cond_both, eqb-true, lt-ltb, ltb-true, not-true}
use Rattle.std.proofs.lemmas.Str.{IsUtf8-from_ascii}
use Rattle.std.proofs.lemmas.Str.Ascii.{IsAscii-nil, IsAscii-cons}
use Rattle.std.specs.Str.{IsAscii, all_scalars, encode_utf8_all}
use Rattle.url_lexer.specs.Kept.{begins_triple, begins_with_digits, is_kept_in_url, is_unreserved}
use Rattle.url_lexer.specs.Parts.{UrlPart, UrlStart, UrlOpen, UrlOpenhole, UrlPrequery, UrlQuery, UrlBad}
use Rattle.url_lexer.specs.Sanitizers.{before_colon, hexadecimal_digit, is_filtered, triple, url_filter, url_norm, url_query, without_scheme, written_in}
use Rattle.url_lexer.specs.Written.{AreBytes}
use Rattle.url_lexer.proofs.WrittenBytes.{open-bytes}

-- a byte of ASCII that is neither NUL nor a `<`
abbrev pub is_own_byte : ℕ → Bool
is_own_byte b = nat_lt b 128 && (not (b == 0) && not (b == 60))

abbrev pub AreOwn : List ℕ → Type 0
AreOwn [] = Unit {0}
AreOwn (b ∷ bs) = (is_own_byte b ≡ true) × AreOwn bs

abbrev is_kept_other : ℕ → Bool
is_kept_other b = is_kept_in_url b && not (is_own_byte b)

abbrev is_unreserved_other : ℕ → Bool
is_unreserved_other b = is_unreserved b && not (is_own_byte b)

abbrev has_own_digits : ℕ → Bool
has_own_digits b = is_own_byte (hexadecimal_digit (b / 16)) && is_own_byte (hexadecimal_digit (b % 16))

no-kept-other : agree_below is_kept_other (λ b. false) 256 ≡ true
no-kept-other = refl

no-unreserved-other : agree_below is_unreserved_other (λ b. false) 256 ≡ true
no-unreserved-other = refl

all-own-digits : agree_below has_own_digits (λ b. true) 256 ≡ true
all-own-digits = refl

owned : (x y : Bool) → x ≡ true → (x && not y) ≡ false → y ≡ true
owned true true e h = refl
owned true false e h = cc
owned false y e h = cc

kept-own : (b : ℕ) → nat_lt b 256 ≡ true → is_kept_in_url b ≡ true → is_own_byte b ≡ true
kept-own b l e = owned (is_kept_in_url b) (is_own_byte b) e (agree_below_at is_kept_other (λ b. false) 256 b no-kept-other (ltb-true b 256 l))

unreserved-own : (b : ℕ) → nat_lt b 256 ≡ true → is_unreserved b ≡ true → is_own_byte b ≡ true
unreserved-own b l e = owned (is_unreserved b) (is_own_byte b) e (agree_below_at is_unreserved_other (λ b. false) 256 b no-unreserved-other (ltb-true b 256 l))

percent-own : (b : ℕ) (bs : List ℕ) → begins_triple b bs ≡ true → is_own_byte b ≡ true
percent-own b bs e = ap is_own_byte (eqb-true b 37 (and_parts (b == 37) (begins_with_digits bs) e).0)

with-triple : (b : ℕ) (bs : List ℕ) → nat_lt b 256 ≡ true → AreOwn bs → AreOwn (triple b ++ bs)
with-triple b bs l h =
    let digits = and_parts (is_own_byte (hexadecimal_digit (b / 16))) (is_own_byte (hexadecimal_digit (b % 16)))
    (agree_below_at has_own_digits (λ b. true) 256 b all-own-digits (ltb-true b 256 l)) in
    (refl, (digits.0, (digits.1, h)))

norm-by : (b : ℕ) (bs rest : List ℕ) (k t : Bool) → nat_lt b 256 ≡ true → is_kept_in_url b ≡ k → begins_triple b bs ≡ t → AreOwn rest
    → AreOwn ((if k || t then b ∷ [] else triple b) ++ rest)
norm-by b bs rest true t l e f h = (kept-own b l e, h)
norm-by b bs rest false true l e f h = (percent-own b bs f, h)
norm-by b bs rest false false l e f h = with-triple b rest l h

norm-own : (bs : List ℕ) → AreBytes bs → AreOwn (url_norm bs)
norm-own [] a = tt
norm-own (b ∷ bs) a = norm-by b bs (url_norm bs) (is_kept_in_url b) (begins_triple b bs) a.0 refl refl (norm-own bs a.1)

query-by : (b : ℕ) (rest : List ℕ) (k : Bool) → nat_lt b 256 ≡ true → is_unreserved b ≡ k → AreOwn rest
    → AreOwn ((if k then b ∷ [] else triple b) ++ rest)
query-by b rest true l e h = (unreserved-own b l e, h)
query-by b rest false l e h = with-triple b rest l h

query-own : (bs : List ℕ) → AreBytes bs → AreOwn (url_query bs)
query-own [] a = tt
query-own (b ∷ bs) a = query-by b (url_query bs) (is_unreserved b) a.0 refl (query-own bs a.1)

filter-bytes : (x : Bool) (text : List ℕ) → AreBytes text → AreBytes (if x then codes "#ZgotmplZ" else text)
filter-bytes true text a = (refl, (refl, (refl, (refl, (refl, (refl, (refl, (refl, (refl, tt)))))))))
filter-bytes false text a = a

pub written-own : (p : UrlPart) (text : List ℕ) → AreBytes text → AreOwn (written_in p text)
written-own UrlStart text a = norm-own (url_filter text) (filter-bytes (is_filtered (before_colon text)) text a)
written-own (UrlOpen p) text a = norm-own (without_scheme text) (open-bytes text a)
written-own UrlOpenhole text a = norm-own (without_scheme text) (open-bytes text a)
written-own UrlPrequery text a = norm-own text a
written-own UrlQuery text a = query-own text a
written-own UrlBad text a = tt

-- so it is UTF-8
own-ascii : (bs : List ℕ) → AreOwn bs → IsAscii bs
own-ascii [] h = IsAscii-nil
own-ascii (b ∷ bs) h = IsAscii-cons b bs (ltb-true b 128 (and_parts (nat_lt b 128) (not (b == 0) && not (b == 60)) h.0).0) (own-ascii bs h.1)

pub written-utf8 : (p : UrlPart) (text : List ℕ) → AreBytes text → IsUtf8 (written_in p text)
written-utf8 p text a = IsUtf8-from_ascii (written_in p text) (own-ascii (written_in p text) (written-own p text a))

-- a text of UTF-8 is bytes
AreBytes-append : (xs ys : List ℕ) → AreBytes xs → AreBytes ys → AreBytes (xs ++ ys)
AreBytes-append [] ys a h = h
AreBytes-append (x ∷ xs) ys a h = (a.0, AreBytes-append xs ys a.1 h)

encode-bytes : (c : ℕ) → c < 1114112 → AreBytes (encode_utf8 c)
unfolding lib.Utf8.encode
encode-bytes c h =
    cond_both (nat_lt c 128) _ _ AreBytes (λ e. (lt-ltb c 256 (let l = ltb-true c 128 e in omega (arith, l)), tt))
    (λ e. cond_both (nat_lt c 2048) _ _ AreBytes (λ l. (lt-ltb _ 256 (let k = ltb-true c 2048 l in omega (arith, k)), (lt-ltb _ 256 (omega arith), tt)))
    (λ e. cond_both (nat_lt c 65536) _ _ AreBytes (λ l. (lt-ltb _ 256 (let k = ltb-true c 65536 l in omega (arith, k)), (lt-ltb _ 256 (omega arith), (lt-ltb _ 256 (omega arith), tt))))
    (λ e. (lt-ltb _ 256 (omega (arith, h)), (lt-ltb _ 256 (omega arith), (lt-ltb _ 256 (omega arith), (lt-ltb _ 256 (omega arith), tt)))))))

encodes-bytes : (cs : List ℕ) → all_scalars cs ≡ true → AreBytes (encode_utf8_all cs)
encodes-bytes [] e = tt
encodes-bytes (c ∷ cs) e =
    let parts = and_parts (scalar c) (all_scalars cs) e in
    let low : c < 1114112 = elim (scalar_cases c parts.0) [
      | inl h ↦ omega (arith, h)
      | inr h ↦ h.1
    ] in
    AreBytes-append (encode_utf8 c) (encode_utf8_all cs) (encode-bytes c low) (encodes-bytes cs parts.1)

pub utf8-bytes : (text : List ℕ) → IsUtf8 text → AreBytes text
utf8-bytes text u = subst AreBytes u.1.1 (encodes-bytes u.0 u.1.0)

-- what is known of each of them
own-parts : (b : ℕ) → is_own_byte b ≡ true → (not (b == 0) ≡ true) × (not (b == 60) ≡ true)
own-parts b e = and_parts (not (b == 0)) (not (b == 60)) (and_parts (nat_lt b 128) (not (b == 0) && not (b == 60)) e).1

pub own-no-nul : (b : ℕ) → is_own_byte b ≡ true → (b == 0) ≡ false
own-no-nul b e = not-true (b == 0) (own-parts b e).0

pub own-no-less : (b : ℕ) → is_own_byte b ≡ true → (b == 60) ≡ false
own-no-less b e = not-true (b == 60) (own-parts b e).1
