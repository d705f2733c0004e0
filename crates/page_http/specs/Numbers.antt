-- Numbers in decimal digits: 1*DIGIT, of any length (RFC 9110, section 8.6).
use Rattle.std.specs.Prelude.{ℕ, Bool, ◌&&◌, nat_lt, nat_le, List, length, if◌then◌else◌}
use Rattle.std.specs.List.{list_all}
use Rattle.std.specs.Char.{is_ascii_digit}
use Rattle.std.specs.Str.Parse.{digits_value}
use Rattle.page_http.specs.declared.number.Number.{Number}
use Rattle.page_http.specs.declared.number.Number.TheVariants as number

-- one digit or more, and nothing else
abbrev pub is_digits : List ℕ → Bool
is_digits v = nat_lt 0 (length v) && list_all is_ascii_digit v

-- what a value says where a number of at most most is due
abbrev pub number_said : ℕ → List ℕ → Number
number_said most v =
    if is_digits v
    then (if nat_le (digits_value 10 v) most then number.Value (digits_value 10 v)
    else number.TooGreat)
    else number.NotDigits
