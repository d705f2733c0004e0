-- The scheme of a URL: what is passed, and where a text may be cut.
use Rattle.std.proofs.Common.{◌≡◌, ℕ, ◌+◌, ◌<◌, ◌≤◌, false, ◌==◌, List, ◌++◌, Option, Some, None, drop, take, length, get_or, refl, sym, subst, ◌∙◌, inl, inr, arith}
use Rattle.std.specs.Char.{is_ascii_hexdigit}
use Rattle.std.specs.Str.{IsCharBoundary, IsUtf8}
use Rattle.std.proofs.lemmas.Bool.{cases_lt, le-leb, lt-leb, ne_eqb}
use Rattle.std.proofs.lemmas.List.{get_or-drop, length-drop}
use Rattle.std.proofs.lemmas.Str.{IsCharBoundary-after_ascii, IsCharBoundary-before_ascii, IsUtf8-drop}
use Rattle.url_lexer.specs.Classes.{url_class_of}
use Rattle.url_lexer.specs.SchemeOf.{front_of_colon}
use Rattle.url_lexer.specs.declared.class.UrlClass.{UrlClass}
use Rattle.url_lexer.specs.declared.class.UrlClass.TheVariants as class

abbrev passed : List ℕ → Option (List ℕ) → Option (List ℕ)
passed front None = None
passed front (Some more) = Some (front ++ more)

-- searching on is searching the whole
abbrev pub IsPassed : List ℕ → ℕ → Type 0
IsPassed bytes at = passed (take at bytes) (front_of_colon (drop at bytes)) ≡ front_of_colon bytes

high_digit : (b : ℕ) → 128 ≤ b → is_ascii_hexdigit b ≡ false
high_digit b h =
    rw (le-leb 48 b (omega (arith, h)), lt-leb b 57 (omega (arith, h)), le-leb 65 b (omega (arith, h)), lt-leb b 70 (omega (arith, h)), le-leb 97 b (omega (arith, h)), lt-leb b 102 (omega (arith, h))) refl

is_other : (b n : ℕ) → 128 ≤ b → n < 128 → (b == n) ≡ false
is_other b n h k = ne_eqb b n (omega (arith, h, k))

-- a byte past ASCII is of no class but the last
high_class : (b : ℕ) → 128 ≤ b → url_class_of b ≡ class.Other
unfolding url_class_of
high_class b h =
    rw (is_other b 9 h (omega arith), is_other b 10 h (omega arith), is_other b 13 h (omega arith), lt-leb b 32 (omega (arith, h)), is_other b 58 h (omega arith), is_other b 47 h (omega arith), is_other b 63 h (omega arith), is_other b 35 h (omega arith), is_other b 37 h (omega arith), high_digit b h) refl

ascii_by : (b : ℕ) (c : UrlClass) → url_class_of b ≡ c → (class.Other ≡ c → b < 128) → b < 128
ascii_by b c e other = elim (cases_lt b 128) [
  | inl low ↦ low
  | inr high ↦ other (sym (high_class b high) ∙ e)
]

pub colon_ascii : (b : ℕ) → url_class_of b ≡ class.Colon → b < 128
colon_ascii b e = ascii_by b class.Colon e (λ d. cc)

pub newline_ascii : (b : ℕ) → url_class_of b ≡ class.TabOrNewline → b < 128
newline_ascii b e = ascii_by b class.TabOrNewline e (λ d. cc)

pub blank_ascii : (b : ℕ) → url_class_of b ≡ class.ControlOrSpace → b < 128
blank_ascii b e = ascii_by b class.ControlOrSpace e (λ d. cc)

-- behind a byte of ASCII with which what is behind a place begins
pub cut_behind : (bytes behind : List ℕ) (at : ℕ) → IsUtf8 bytes → at < length bytes → get_or bytes at 0 < 128 → behind ≡ drop at bytes → IsCharBoundary behind 1
cut_behind bytes behind at utf8 inside ascii is =
    let cut = IsCharBoundary-before_ascii bytes at inside ascii in
    let same : at ≡ at + 0 = omega arith in
    let first : get_or (drop at bytes) 0 0 < 128 = subst (λ (n : ℕ). n < 128) (sym (get_or-drop at bytes 0 0)) (subst (λ (i : ℕ). get_or bytes i 0 < 128) same ascii) in
    subst (λ (xs : List ℕ). IsCharBoundary xs 1) (sym is) (IsCharBoundary-after_ascii (drop at bytes) 0 (IsUtf8-drop bytes at utf8 cut) (omega (arith, inside, length-drop at bytes)) first)
