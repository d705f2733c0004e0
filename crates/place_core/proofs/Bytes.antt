-- What is known of bytes past ASCII, and of classes by testing each byte below.
use Rattle.std.proofs.Common.{◌≡◌, ℕ, ◌≤◌, ◌<◌, ◌==◌, true, false, refl, arith, nat_le}
use Rattle.std.proofs.lemmas.Bool.{ne_eqb, lt-leb, and_right}
use Rattle.std.specs.Char.{is_ascii_whitespace}
use Rattle.std.specs.Int.{is_in_range}
use Rattle.place_core.specs.page.Classes.{White, OtherByte, class_of}

pub eq-high : (b k : ℕ) → 128 ≤ b → k < 128 → (b == k) ≡ false
eq-high b k h l = ne_eqb b k (λ e. omega (arith, e, h, l))

pub range-high : (low high b : ℕ) → 128 ≤ b → high < 128 → is_in_range low high b ≡ false
range-high low high b h l = and_right (nat_le low b) (nat_le b high) (lt-leb b high (omega (arith, h, l)))

-- a byte past ASCII is no byte of markup
pub class-high : (b : ℕ) → 128 ≤ b → class_of b ≡ OtherByte
unfolding class_of
class-high b h =
    rw (
      range-high 9 10 b h (omega arith),
      range-high 12 13 b h (omega arith),
      range-high 32 32 b h (omega arith),
      range-high 48 57 b h (omega arith),
      range-high 65 70 b h (omega arith),
      range-high 97 102 b h (omega arith),
      range-high 65 90 b h (omega arith),
      range-high 97 122 b h (omega arith),
      eq-high b 33 h (omega arith),
      eq-high b 34 h (omega arith),
      eq-high b 35 h (omega arith),
      eq-high b 38 h (omega arith),
      eq-high b 39 h (omega arith),
      eq-high b 45 h (omega arith),
      eq-high b 47 h (omega arith),
      eq-high b 59 h (omega arith),
      eq-high b 60 h (omega arith),
      eq-high b 61 h (omega arith),
      eq-high b 62 h (omega arith),
      eq-high b 63 h (omega arith),
      eq-high b 96 h (omega arith),
      eq-high b 88 h (omega arith),
      eq-high b 120 h (omega arith),
    ) refl

pub class-white : (b : ℕ) → is_ascii_whitespace b ≡ true → class_of b ≡ White
unfolding class_of
class-white b e = rw e refl
