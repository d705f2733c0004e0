-- A text as it stands in a line for people.
use Rattle.std.specs.Char.{digit_char}
use Rattle.std.specs.Fmt.Cut.{floor_char_boundary}
use Rattle.std.specs.Prelude.{ℕ, ◌/◌, ◌%◌, Bool, ◌&&◌, ◌||◌, ◌==◌, nat_le, if◌then◌else◌, List, []}
use Rattle.std.specs.Prelude.{◌∷◌, ◌++◌, length, take, codes, flat_map, chars, encode_utf8}

-- control characters, ends of lines, and characters that turn the direction of writing (Unicode,
-- Cc, Zl, Zp and Bidi_Control)
abbrev pub is_hidden : ℕ → Bool
is_hidden c =
    nat_le c 0x1F || (nat_le 0x7F c && nat_le c 0x9F) || c == 0x61C
    || (nat_le 0x200E c && nat_le c 0x200F) || (nat_le 0x2028 c && nat_le c 0x202E)
    || (nat_le 0x2066 c && nat_le c 0x2069)

-- the four last digits of a number in hex
abbrev pub hex_digits : ℕ → List ℕ
hex_digits n =
    digit_char (n / 4096 % 16) ∷ digit_char (n / 256 % 16) ∷ digit_char (n / 16 % 16)
    ∷ digit_char (n % 16) ∷ []

-- a character: `\u` and its number where it is hidden, a backslash twice, and every other one as it
-- is
abbrev pub legible_character : ℕ → List ℕ
legible_character c =
    if is_hidden c then codes "\\u" ++ hex_digits c
    else (if c == 92 then codes "\\\\"
    else encode_utf8 c)

abbrev pub legible : List ℕ → List ℕ
legible bytes = flat_map legible_character (chars bytes)

-- the most bytes of a path that are shown
abbrev pub max_path : ℕ
max_path = 1000

-- a path of data: where it is longer, its first characters within the limit, and two dots
abbrev pub legible_path : List ℕ → List ℕ
legible_path path =
    if nat_le (length path) max_path then legible path
    else legible (take (floor_char_boundary path max_path) path) ++ codes ".."
