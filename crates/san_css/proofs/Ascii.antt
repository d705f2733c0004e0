-- Hexadecimal digits and white space are ASCII.
use Rattle.std.proofs.Common.{◌≡◌, ℕ, ◌<◌, ◌≤◌, true, false, refl, sym, ◌∙◌, inl, inr, arith}
use Rattle.std.specs.Char.{is_ascii_hexdigit, is_ascii_whitespace}
use Rattle.std.proofs.lemmas.Bool.{cases_lt, le-leb, lt-leb, true≢false}

pub high-blank : (b : ℕ) → 128 ≤ b → is_ascii_whitespace b ≡ false
high-blank b h =
    rw (le-leb 9 b (omega (arith, h)), lt-leb b 10 (omega (arith, h)), le-leb 12 b (omega (arith, h)), lt-leb b 13 (omega (arith, h)), le-leb 32 b (omega (arith, h)), lt-leb b 32 (omega (arith, h))) refl

pub blank-low : (b : ℕ) → is_ascii_whitespace b ≡ true → b < 128
blank-low b e = elim (cases_lt b 128) [
  | inl h ↦ h
  | inr h ↦ absurd (true≢false (sym e ∙ high-blank b h))
]

pub high-digit : (b : ℕ) → 128 ≤ b → is_ascii_hexdigit b ≡ false
high-digit b h =
    rw (le-leb 48 b (omega (arith, h)), lt-leb b 57 (omega (arith, h)), le-leb 65 b (omega (arith, h)), lt-leb b 70 (omega (arith, h)), le-leb 97 b (omega (arith, h)), lt-leb b 102 (omega (arith, h))) refl

pub digit-low : (b : ℕ) → is_ascii_hexdigit b ≡ true → b < 128
digit-low b e = elim (cases_lt b 128) [
  | inl h ↦ h
  | inr h ↦ absurd (true≢false (sym e ∙ high-digit b h))
]
