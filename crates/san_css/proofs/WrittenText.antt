-- What is written for a text of UTF-8 is UTF-8, and whatever the text none of its bytes is NUL, and none is a `<`.
use lib.Utf8.{low_scalar, scalar}
use Rattle.std.proofs.Common.{◌≡◌, ℕ, zero, suc, ◌+◌, ◌-◌, ◌*◌, ◌<◌, ◌≤◌, ◌==◌, ◌&&◌, ◌||◌, not, nat_le, nat_lt, Bool, true, false, codes, List, [], ◌∷◌, ◌++◌, encode_utf8, refl, sym, ap, ◌∙◌, subst, inl, inr, arith, IsUtf8}
use Rattle.std.specs.Prelude.{if◌then◌else◌}
use Rattle.std.specs.Char.{InScalarRange, IsScalar, is_ascii_hexdigit, is_ascii_whitespace}
use Rattle.std.specs.List.{list_all, list_any}
use Rattle.std.specs.Str.{all_scalars, encode_utf8_all}
use Rattle.std.proofs.lemmas.Bool.{agree_below, agree_below_at, and_parts, cases_lt, cond_both, eqb-true, le-ltb, leb-false, ltb-false, ltb-true, ne_eqb, not-true, or_parts, true≢false}
use Rattle.std.proofs.lemmas.Bool.Decides.{nat_tests}
use Rattle.std.proofs.lemmas.Str.{IsUtf8-append, IsUtf8-encode, IsUtf8-nil, encode_ascii}
use Rattle.css_lexer.specs.Sanitizers.{css_string, css_value, goes_on_with, is_forbidden, is_unsafe, string_byte, string_digits, style_failsafe}
use Rattle.css_lexer.specs.Unescaping.{AsItIs, Digits, Escaped, StyleUndoing, character_of, goes_on, style_escapes_undone, style_undone}
use Rattle.san_css.proofs.Ascii.{high-blank, high-digit}
use Rattle.san_css.proofs.Runs.{kept-high, stays}
use Rattle.url_lexer.specs.Back.{hexadecimal_value}

-- bytes past ASCII, of which every character past ASCII is made; and one at least
abbrev AreHigh : List ℕ → Type 0
AreHigh [] = Unit {0}
AreHigh (b ∷ bs) = (128 ≤ b) × AreHigh bs

abbrev AreSomeHigh : List ℕ → Type 0
AreSomeHigh [] = ⊥
AreSomeHigh (b ∷ bs) = (128 ≤ b) × AreHigh bs

encode-high : (c : ℕ) → 128 ≤ c → AreSomeHigh (encode_utf8 c)
unfolding lib.Utf8.encode
encode-high c h =
    cond_both (nat_lt c 128) _ _ AreSomeHigh (λ e. absurd (true≢false (sym e ∙ le-ltb c 128 h)))
    (λ e. cond_both (nat_lt c 2048) _ _ AreSomeHigh (λ e. (omega arith, (omega arith, tt)))
    (λ e. cond_both (nat_lt c 65536) _ _ AreSomeHigh (λ e. (omega arith, (omega arith, (omega arith, tt))))
    (λ e. (omega arith, (omega arith, (omega arith, (omega arith, tt)))))))

-- a byte of ASCII before a text, and a text of such bytes
low-then : (b : ℕ) (bs : List ℕ) → b < 128 → IsUtf8 bs → IsUtf8 (b ∷ bs)
low-then b bs l u = IsUtf8-append (b ∷ []) bs (subst IsUtf8 (encode_ascii b l) (IsUtf8-encode b (low_scalar b (omega (arith, l))))) u

-- bytes of ASCII that are not NUL
abbrev is_own : ℕ → Bool
is_own b = nat_lt b 128 && not (b == 0)

own-utf8 : (bs : List ℕ) → list_all is_own bs ≡ true → IsUtf8 bs
own-utf8 [] e = IsUtf8-nil
own-utf8 (b ∷ bs) e =
    let parts = and_parts (is_own b) (list_all is_own bs) e in
    low-then b bs (ltb-true b 128 (and_parts (nat_lt b 128) (not (b == 0)) parts.0).0) (own-utf8 bs parts.1)

-- no byte is NUL
abbrev pub HaveNoNul : List ℕ → Type 0
HaveNoNul [] = Unit {0}
HaveNoNul (b ∷ bs) = ((b == 0) ≡ false) × HaveNoNul bs

own-no-nul : (bs : List ℕ) → list_all is_own bs ≡ true → HaveNoNul bs
own-no-nul [] e = tt
own-no-nul (b ∷ bs) e =
    let parts = and_parts (is_own b) (list_all is_own bs) e in
    (not-true (b == 0) (and_parts (nat_lt b 128) (not (b == 0)) parts.0).1, own-no-nul bs parts.1)

no-nul-append : (xs ys : List ℕ) → HaveNoNul xs → HaveNoNul ys → HaveNoNul (xs ++ ys)
no-nul-append [] ys g h = h
no-nul-append (x ∷ xs) ys g h = (g.0, no-nul-append xs ys g.1 h)

-- In code. What a text stands for is UTF-8: an escape takes bytes of ASCII, and stands for a character.
in-range : (c : ℕ) → InScalarRange c → IsScalar c
in-range c h = grind (arith, nat_tests)

-- a number that is neither a surrogate nor past the last character
below-or-past : (n : ℕ) (p q : Bool) → nat_le 55296 n ≡ p → nat_le n 57343 ≡ q → p && q ≡ false → nat_lt 1114111 n ≡ false
    → InScalarRange n
below-or-past n false q e f g h = inl (let l = leb-false 55296 n e in omega (arith, l))
below-or-past n true false e f g h = inr (let l = leb-false n 57343 f in let k = ltb-false 1114111 n h in (omega (arith, l), omega (arith, k)))
below-or-past n true true e f g h = absurd (true≢false g)

character-is : (n : ℕ) → IsScalar (character_of n)
character-is n =
    cond_both (n == 0 || ((nat_le 55296 n && nat_le n 57343) || nat_lt 1114111 n)) 65533 n IsScalar
    (λ e. in-range 65533 (inr (omega arith, omega arith)))
    (λ e.
    let other = or_parts (n == 0) ((nat_le 55296 n && nat_le n 57343) || nat_lt 1114111 n) e in
    let apart = or_parts (nat_le 55296 n && nat_le n 57343) (nat_lt 1114111 n) other.1 in
    in-range n (below-or-past n (nat_le 55296 n) (nat_le n 57343) refl refl apart.0 apart.1))

character-utf8 : (n : ℕ) → IsUtf8 (encode_utf8 (character_of n))
character-utf8 n = IsUtf8-encode (character_of n) (character-is n)

-- what is pending where a text is undone, before a byte past ASCII
abbrev pending : StyleUndoing → List ℕ
pending AsItIs = []
pending Escaped = []
pending (Digits more number) = encode_utf8 (character_of number)

pending-utf8 : (s : StyleUndoing) → IsUtf8 (pending s)
pending-utf8 AsItIs = IsUtf8-nil
pending-utf8 Escaped = IsUtf8-nil
pending-utf8 (Digits more number) = character-utf8 number

not-92 : (b : ℕ) → 128 ≤ b → (b == 92) ≡ false
not-92 b h = ne_eqb b 92 (λ e. omega (arith, e, h))

high-byte : (s : StyleUndoing) (b : ℕ) (bs : List ℕ) → 128 ≤ b → style_undone s (b ∷ bs) ≡ pending s ++ (b ∷ style_undone AsItIs bs)
high-byte AsItIs b bs h = rw (not-92 b h) refl
high-byte Escaped b bs h = rw (high-digit b h) refl
high-byte (Digits zero number) b bs h = rw (high-blank b h, not-92 b h) refl
high-byte (Digits (suc more) number) b bs h = rw (high-digit b h, high-blank b h, not-92 b h) refl

high-run : (bs rest : List ℕ) → AreHigh bs → style_undone AsItIs (bs ++ rest) ≡ bs ++ style_undone AsItIs rest
high-run [] rest h = refl
high-run (b ∷ bs) rest h = high-byte AsItIs b (bs ++ rest) h.0 ∙ ap (λ (xs : List ℕ). b ∷ xs) (high-run bs rest h.1)

high-undone : (s : StyleUndoing) (bs rest : List ℕ) → AreSomeHigh bs
    → style_undone s (bs ++ rest) ≡ pending s ++ (bs ++ style_undone AsItIs rest)
high-undone s [] rest h = absurd h
high-undone s (b ∷ bs) rest h =
    high-byte s b (bs ++ rest) h.0 ∙ ap (λ (xs : List ℕ). pending s ++ (b ∷ xs)) (high-run bs rest h.1)

-- a byte of ASCII, before bytes that are UTF-8 from wherever they are undone
low-undone : (s : StyleUndoing) (b : ℕ) (bs : List ℕ) → b < 128 → ((r : StyleUndoing) → IsUtf8 (style_undone r bs))
    → IsUtf8 (style_undone s (b ∷ bs))
low-undone AsItIs b bs l all = cond_both (b == 92) _ _ IsUtf8 (λ e. all Escaped) (λ e. low-then b (style_undone AsItIs bs) l (all AsItIs))
low-undone Escaped b bs l all =
    cond_both (is_ascii_hexdigit b) _ _ IsUtf8 (λ e. all (Digits 5 (hexadecimal_value b)))
    (λ e. low-then b (style_undone AsItIs bs) l (all AsItIs))
low-undone (Digits more number) b bs l all =
    let own = character-utf8 number in
    let character = encode_utf8 (character_of number) in
    cond_both (goes_on more b) _ _ IsUtf8 (λ e. all (Digits (more - 1) (number * 16 + hexadecimal_value b)))
    (λ e. cond_both (is_ascii_whitespace b) _ _ IsUtf8 (λ f. IsUtf8-append character (style_undone AsItIs bs) own (all AsItIs))
    (λ f. cond_both (b == 92) _ _ IsUtf8 (λ g. IsUtf8-append character (style_undone Escaped bs) own (all Escaped))
    (λ g. IsUtf8-append character (b ∷ style_undone AsItIs bs) own (low-then b (style_undone AsItIs bs) l (all AsItIs)))))

end-undone : (s : StyleUndoing) → IsUtf8 (style_undone s [])
end-undone AsItIs = IsUtf8-nil
end-undone Escaped = low-then 92 [] (omega arith) IsUtf8-nil
end-undone (Digits more number) = character-utf8 number

character-undone : (c : ℕ) (rest : List ℕ) (s : StyleUndoing) → IsScalar c → ((r : StyleUndoing) → IsUtf8 (style_undone r rest))
    → IsUtf8 (style_undone s (encode_utf8 c ++ rest))
character-undone c rest s is all = elim (cases_lt c 128) [
  | inl low ↦
      subst (λ (xs : List ℕ). IsUtf8 (style_undone s (xs ++ rest))) (sym (encode_ascii c low)) (low-undone s c rest low all)
  | inr high ↦
      let behind = IsUtf8-append (encode_utf8 c) (style_undone AsItIs rest) (IsUtf8-encode c is) (all AsItIs) in
      subst IsUtf8 (sym (high-undone s (encode_utf8 c) rest (encode-high c high)))
      (IsUtf8-append (pending s) (encode_utf8 c ++ style_undone AsItIs rest) (pending-utf8 s) behind)
]

all-undone : (cs : List ℕ) → all_scalars cs ≡ true → (s : StyleUndoing) → IsUtf8 (style_undone s (encode_utf8_all cs))
all-undone [] e s = end-undone s
all-undone (c ∷ cs) e s =
    let parts = and_parts (scalar c) (all_scalars cs) e in
    character-undone c (encode_utf8_all cs) s parts.0 (all-undone cs parts.1)

undone-utf8 : (text : List ℕ) → IsUtf8 text → IsUtf8 (style_escapes_undone text)
undone-utf8 text u = subst (λ (bs : List ℕ). IsUtf8 (style_undone AsItIs bs)) u.1.1 (all-undone u.0 u.1.0 AsItIs)

unless-utf8 : (q : Bool) (text : List ℕ) → IsUtf8 text → IsUtf8 (if q then style_failsafe else text)
unless-utf8 true text u = own-utf8 style_failsafe refl
unless-utf8 false text u = u

pub value-utf8 : (text : List ℕ) → IsUtf8 text → IsUtf8 (css_value text)
value-utf8 text u = unless-utf8 (is_unsafe (style_escapes_undone text)) (style_escapes_undone text) (undone-utf8 text u)

-- NUL is forbidden
allowed-no-nul : (bs : List ℕ) → list_any is_forbidden bs ≡ false → HaveNoNul bs
allowed-no-nul [] e = tt
allowed-no-nul (b ∷ bs) e =
    let parts = or_parts (is_forbidden b) (list_any is_forbidden bs) e in
    ((or_parts (b == 0) _ parts.0).0, allowed-no-nul bs parts.1)

unless-no-nul : (q : Bool) (text : List ℕ) → is_unsafe text ≡ q → HaveNoNul (if q then style_failsafe else text)
unless-no-nul true text e = own-no-nul style_failsafe refl
unless-no-nul false text e = allowed-no-nul text (or_parts (list_any is_forbidden text) _ e).0

pub value-no-nul : (text : List ℕ) → HaveNoNul (css_value text)
value-no-nul text = unless-no-nul (is_unsafe (style_escapes_undone text)) (style_escapes_undone text) refl

-- In a string. What is written for a byte, by whether what follows goes on with digits.
abbrev byte_before : List ℕ → ℕ → Bool → List ℕ
byte_before [] b goes = if b == 92 then codes "\\\\" else b ∷ []
byte_before (d ∷ ds) b goes = 92 ∷ d ∷ ds ++ (if goes then codes " " else [])

by-next : (ds : List ℕ) (b : ℕ) (rest : List ℕ) → string_byte ds b rest ≡ byte_before ds b (goes_on_with rest)
by-next [] b rest = refl
by-next (d ∷ ds) b rest = refl

-- of a byte of ASCII all of it is ASCII, and nothing NUL
abbrev is_written_own : Bool → ℕ → Bool
is_written_own goes b = list_all is_own (byte_before (string_digits b) b goes)

own-going : agree_below (is_written_own true) (λ b. true) 128 ≡ true
own-going = refl

own-ended : agree_below (is_written_own false) (λ b. true) 128 ≡ true
own-ended = refl

written-own : (goes : Bool) (b : ℕ) → b < 128 → is_written_own goes b ≡ true
written-own true b l = agree_below_at (is_written_own true) (λ b. true) 128 b own-going l
written-own false b l = agree_below_at (is_written_own false) (λ b. true) 128 b own-ended l

low-own : (b : ℕ) (rest : List ℕ) → b < 128 → list_all is_own (string_byte (string_digits b) b rest) ≡ true
low-own b rest l = ap (list_all is_own) (by-next (string_digits b) b rest) ∙ written-own (goes_on_with rest) b l

-- a byte past ASCII stays
high-string : (bs rest : List ℕ) → AreHigh bs → css_string (bs ++ rest) ≡ bs ++ css_string rest
high-string [] rest h = refl
high-string (b ∷ bs) rest h =
    ap (λ (xs : List ℕ). xs ++ css_string (bs ++ rest)) (stays b (bs ++ rest) (kept-high b h.0))
    ∙ ap (λ (xs : List ℕ). b ∷ xs) (high-string bs rest h.1)

some-high : (bs : List ℕ) → AreSomeHigh bs → AreHigh bs
some-high [] h = absurd h
some-high (b ∷ bs) h = h

character-string : (c : ℕ) (rest : List ℕ) → IsScalar c → IsUtf8 (css_string rest) → IsUtf8 (css_string (encode_utf8 c ++ rest))
character-string c rest is u = elim (cases_lt c 128) [
  | inl low ↦
      let here = own-utf8 (string_byte (string_digits c) c rest) (low-own c rest low) in
      subst (λ (xs : List ℕ). IsUtf8 (css_string (xs ++ rest))) (sym (encode_ascii c low))
      (IsUtf8-append (string_byte (string_digits c) c rest) (css_string rest) here u)
  | inr high ↦
      subst IsUtf8 (sym (high-string (encode_utf8 c) rest (some-high (encode_utf8 c) (encode-high c high))))
      (IsUtf8-append (encode_utf8 c) (css_string rest) (IsUtf8-encode c is) u)
]

all-string : (cs : List ℕ) → all_scalars cs ≡ true → IsUtf8 (css_string (encode_utf8_all cs))
all-string [] e = IsUtf8-nil
all-string (c ∷ cs) e =
    let parts = and_parts (scalar c) (all_scalars cs) e in
    character-string c (encode_utf8_all cs) parts.0 (all-string cs parts.1)

pub string-utf8 : (text : List ℕ) → IsUtf8 text → IsUtf8 (css_string text)
string-utf8 text u = subst (λ (bs : List ℕ). IsUtf8 (css_string bs)) u.1.1 (all-string u.0 u.1.0)

byte-no-nul : (b : ℕ) (rest : List ℕ) → HaveNoNul (string_byte (string_digits b) b rest)
byte-no-nul b rest = elim (cases_lt b 128) [
  | inl low ↦ own-no-nul (string_byte (string_digits b) b rest) (low-own b rest low)
  | inr high ↦ subst HaveNoNul (sym (stays b rest (kept-high b high))) (ne_eqb b 0 (λ e. omega (arith, e, high)), tt)
]

pub string-no-nul : (text : List ℕ) → HaveNoNul (css_string text)
string-no-nul [] = tt
string-no-nul (b ∷ bs) = no-nul-append (string_byte (string_digits b) b bs) (css_string bs) (byte-no-nul b bs) (string-no-nul bs)

-- In the element `style` the end tag begins with a `<`: in code it is forbidden, and in a string it is an escape.
abbrev pub is_less : ℕ → Bool
is_less b = b == 60

allowed-less : (b : ℕ) (q : Bool) → is_less b ≡ q → is_forbidden b ≡ false → is_less b ≡ false
allowed-less b true e n = absurd (true≢false (sym (ap is_forbidden (eqb-true b 60 e)) ∙ n))
allowed-less b false e n = e

allowed-no-less : (bs : List ℕ) → list_any is_forbidden bs ≡ false → list_any is_less bs ≡ false
allowed-no-less [] e = refl
allowed-no-less (b ∷ bs) e =
    let parts = or_parts (is_forbidden b) (list_any is_forbidden bs) e in
    rw (allowed-less b (is_less b) refl parts.0, allowed-no-less bs parts.1) refl

unless-no-less : (q : Bool) (text : List ℕ) → is_unsafe text ≡ q → list_any is_less (if q then style_failsafe else text) ≡ false
unless-no-less true text e = refl
unless-no-less false text e = allowed-no-less text (or_parts (list_any is_forbidden text) _ e).0

pub value-no-less : (text : List ℕ) → list_any is_less (css_value text) ≡ false
value-no-less text = unless-no-less (is_unsafe (style_escapes_undone text)) (style_escapes_undone text) refl

abbrev has_less : Bool → ℕ → Bool
has_less goes b = list_any is_less (byte_before (string_digits b) b goes)

less-going : agree_below (has_less true) (λ b. false) 128 ≡ true
less-going = refl

less-ended : agree_below (has_less false) (λ b. false) 128 ≡ true
less-ended = refl

written-less : (goes : Bool) (b : ℕ) → b < 128 → has_less goes b ≡ false
written-less true b l = agree_below_at (has_less true) (λ b. false) 128 b less-going l
written-less false b l = agree_below_at (has_less false) (λ b. false) 128 b less-ended l

high-less : (b : ℕ) → 128 ≤ b → list_any is_less (b ∷ []) ≡ false
high-less b h = rw (ne_eqb b 60 (λ e. omega (arith, e, h))) refl

byte-no-less : (b : ℕ) (rest : List ℕ) → list_any is_less (string_byte (string_digits b) b rest) ≡ false
byte-no-less b rest = elim (cases_lt b 128) [
  | inl low ↦ ap (list_any is_less) (by-next (string_digits b) b rest) ∙ written-less (goes_on_with rest) b low
  | inr high ↦ ap (list_any is_less) (stays b rest (kept-high b high)) ∙ high-less b high
]

no-less-append : (xs ys : List ℕ) → list_any is_less xs ≡ false → list_any is_less ys ≡ false → list_any is_less (xs ++ ys) ≡ false
no-less-append [] ys g h = h
no-less-append (x ∷ xs) ys g h =
    let parts = or_parts (is_less x) (list_any is_less xs) g in
    rw (parts.0, no-less-append xs ys parts.1 h) refl

pub string-no-less : (text : List ℕ) → list_any is_less (css_string text) ≡ false
string-no-less [] = refl
string-no-less (b ∷ bs) = no-less-append (string_byte (string_digits b) b bs) (css_string bs) (byte-no-less b bs) (string-no-less bs)
