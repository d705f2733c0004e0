-- The two hex digits of each byte, as the library writes them.
use Rattle.std.proofs.Common.{◌≡◌, ℕ, suc, length, ◌<◌, ◌/◌, ◌%◌, ◌==◌, false, true, List, [], ◌∷◌, get_or, slice_index, refl, ap, arith}
use Rattle.std.proofs.lemmas.Bool.{agree_below_at}
use Rattle.std.proofs.lemmas.Bool.Decides.{nat_tests}
use Rattle.std.specs.Fmt.{digit_glyph, is_char_start}
use Rattle.hex.specs.Hex.{encode_lower, encode_with, lower_digits}
use Rattle.tpl_format.specs.Operands.{characters, hex_bytes}

-- the table's digit
in_table : (d : ℕ) → d < 16 → slice_index lower_digits d ≡ digit_glyph false d
in_table d small =
    let same = agree_below_at (λ n. slice_index lower_digits n == digit_glyph false n) (λ n. true) 16 d refl small in
    grind (arith, nat_tests)

pub encoded : (bytes : List ℕ) → ((i : ℕ) → get_or bytes i 0 < 256) → encode_lower bytes ≡ hex_bytes bytes
unfolding encode_with
encoded [] small = refl
encoded (b ∷ bytes) small =
    let byte : b < 256 = small 0 in
    rw (in_table (b / 16) (omega (arith, byte)), in_table (b % 16) (omega arith))
    (ap (λ (t : List ℕ). digit_glyph false (b / 16) ∷ digit_glyph false (b % 16) ∷ t) (encoded bytes (λ i. small (suc i))))

-- a hex digit is one character
one_character : (d : ℕ) → d < 16 → is_char_start (digit_glyph false d) ≡ true
one_character d small = agree_below_at (λ n. is_char_start (digit_glyph false n)) (λ n. true) 16 d refl small

-- hex digits are as many characters as bytes
pub counted : (bytes : List ℕ) → ((i : ℕ) → get_or bytes i 0 < 256) → characters (hex_bytes bytes) ≡ length (hex_bytes bytes)
counted [] small = refl
counted (b ∷ bytes) small =
    let byte : b < 256 = small 0 in
    let rest = counted bytes (λ i. small (suc i)) in
    rw (one_character (b / 16) (omega (arith, byte)), one_character (b % 16) (omega arith)) (omega (arith, rest))
