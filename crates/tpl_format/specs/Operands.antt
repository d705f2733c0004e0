-- What a verb prints of its operand: the text, with fill, sign and zeros (Go's package `fmt`, "Printing", in a profile).
use Rattle.std.specs.Prelude.{ℕ, ◌+◌, ◌-◌, ◌/◌, ◌%◌, ℤ, true, false, not, ◌&&◌, ◌||◌, if◌then◌else◌, List, [], ◌∷◌, ◌++◌, replicate, codes, Option, Some, None, option_map, unsigned_abs}
use Rattle.std.specs.Fmt.{decimal, digits, digit_glyph, is_char_start}
use Rattle.std.specs.Int.{is_negative}
use Rattle.page_datum.specs.Data.{Data, truth, int, text}
use Rattle.page_datum.specs.Printed.{shown}
use Rattle.tpl_format.specs.declared.verb.Verb.{Verb}
use Rattle.tpl_format.specs.declared.verb.Conversion.{Conversion}
use Rattle.tpl_format.specs.declared.verb.Conversion.TheVariants.{Decimal, Hex, Itself, Truth, Any}

-- how many characters a text has: each is counted at its first byte
abbrev pub characters : List ℕ → ℕ
characters [] = 0
characters (b ∷ bytes) = (if is_char_start b then 1 else 0) + characters bytes

-- so many spaces, after the text with `-` and else before it
abbrev pub padded : Verb → List ℕ → ℕ → List ℕ
padded verb bytes spaces = if verb.left then bytes ++ replicate spaces 32 else replicate spaces 32 ++ bytes

-- spaces up to the width
abbrev pub width_filled : Verb → List ℕ → List ℕ
width_filled verb bytes = padded verb bytes (verb.width - characters bytes)

-- a whole number: its sign and its digits, with zeros between them up to the width under `0`, unless `-` stands too
abbrev pub filled_number : Verb → List ℕ → List ℕ → List ℕ
filled_number verb sign digits =
    if verb.zeros && not verb.left
    then sign ++ (replicate (verb.width - characters (sign ++ digits)) 48 ++ digits)
    else width_filled verb (sign ++ digits)

-- `-` of a negative number, and else `+` where it is asked for
abbrev pub number_sign : Verb → ℤ → List ℕ
number_sign verb n = if is_negative n then codes "-" else (if verb.plus then codes "+" else [])

-- a whole number in decimal, and in lower hex digits
abbrev pub decimal_number : Verb → ℤ → List ℕ
decimal_number verb n = filled_number verb (number_sign verb n) (decimal (unsigned_abs n))

abbrev pub hex_number : Verb → ℤ → List ℕ
hex_number verb n = filled_number verb (number_sign verb n) (digits 16 false (unsigned_abs n))

-- two lower hex digits for each byte
abbrev pub hex_bytes : List ℕ → List ℕ
hex_bytes [] = []
hex_bytes (b ∷ bytes) = digit_glyph false (b / 16) ∷ digit_glyph false (b % 16) ∷ hex_bytes bytes

-- an operand that is printed without digits, or as `print` does
abbrev pub plain_operand_text : Conversion → Data → Option (List ℕ)
plain_operand_text Itself (text bytes) = Some bytes
plain_operand_text Truth (truth true) = Some (codes "true")
plain_operand_text Truth (truth false) = Some (codes "false")
plain_operand_text Any datum = Some (shown datum)
plain_operand_text conversion datum = None

-- `0` and `+` fit whole numbers with `%d` and `%x` alone
abbrev pub filled_text : Verb → Option (List ℕ) → Option (List ℕ)
filled_text verb plain = if verb.zeros || verb.plus then None else option_map (width_filled verb) plain

-- what a verb prints of an operand, and nothing where the operand does not fit
abbrev pub operand_text : Verb → Conversion → Data → Option (List ℕ)
operand_text verb Decimal (int n) = Some (decimal_number verb n)
operand_text verb Hex (int n) = Some (hex_number verb n)
operand_text verb Hex (text bytes) = filled_text verb (Some (hex_bytes bytes))
operand_text verb conversion datum = filled_text verb (plain_operand_text conversion datum)
