-- The numbers of actions, and their values.
use Rattle.std.specs.Prelude.{ℕ, ◌^◌, Bool, true, false, ◌&&◌, if◌then◌else◌, codes, List, length, drop, Option, Some, None, option_and_then, ℤ, pos, neg_ℤ, nat_lt, nat_le}
use Rattle.std.specs.Char.{is_digit}
use Rattle.std.specs.List.{list_all}
use Rattle.std.specs.Str.Parse.{digits_value}
use Rattle.tpl_token.specs.Characters.{begins, first_is, is_sign}

-- the number that digits of this base write, where they are digits, and one or more
abbrev pub numeral : ℕ → List ℕ → Option ℕ
numeral base digits = if nat_lt 0 (length digits) && list_all (λ b. is_digit b base) digits then Some (digits_value base digits) else None

-- `0`; or a digit 1 to 9 and digits; or `0x` and hexadecimal digits
abbrev pub magnitude : List ℕ → Option ℕ
magnitude bytes =
    if begins (codes "0x") bytes then numeral 16 (drop 2 bytes)
    else if begins (codes "0") bytes && nat_lt 1 (length bytes) then None
    else numeral 10 bytes

-- the number with its sign, true for minus, where 64 bits with sign hold it
abbrev pub signed : Bool → ℕ → Option ℤ
signed true n = if nat_le n (2 ^ 63) then Some (neg_ℤ (pos n)) else None
signed false n = if nat_lt n (2 ^ 63) then Some (pos n) else None

-- the bytes without a sign
abbrev pub unsigned : List ℕ → List ℕ
unsigned bytes = if first_is is_sign bytes then drop 1 bytes else bytes

-- what the bytes write, where they are a number: `+` or `-` or neither, and a magnitude
abbrev pub number : List ℕ → Option ℤ
number bytes = option_and_then (signed (begins (codes "-") bytes)) (magnitude (unsigned bytes))

-- the number, where it is below a limit
abbrev pub below : ℕ → Option ℕ → Option ℕ
below limit None = None
below limit (Some n) = if nat_lt n limit then Some n else None
