-- The strings of actions, and their values.
use Rattle.std.specs.Prelude.{◌≡◌, ℕ, Bool, not, ◌&&◌, ◌||◌, ◌==◌, nat_lt, if◌then◌else◌, codes, List, [], ◌∷◌, ◌++◌, length, drop, Option, Some, None, option_and_then, IsTrue, filter}
use Rattle.std.specs.Char.{encode_utf8}
use Rattle.std.specs.List.{list_all}
use Rattle.std.specs.Str.{bytes_eq}
use Rattle.tpl_token.specs.Characters.{begins}
use Rattle.tpl_token.specs.Numbers.{numeral}
use lib.Utf8.{scalar}

-- a byte of a string in double quotes that stands for itself: any but the quote, the backslash and the line feed
abbrev pub is_plain_byte : ℕ → Bool
is_plain_byte b = not (b == 34 || b == 92 || b == 10)

-- `\n`, `\r`, `\t`, `\\` and `\"`, by the byte after the backslash
abbrev pub short_escape : List ℕ → Option ℕ
short_escape bytes =
    if bytes_eq bytes (codes "n") then Some 10
    else if bytes_eq bytes (codes "r") then Some 13
    else if bytes_eq bytes (codes "t") then Some 9
    else if bytes_eq bytes (codes "\\") then Some 92
    else if bytes_eq bytes (codes "\"") then Some 34
    else None

-- a code below a limit that is a character's, and no surrogate
abbrev pub character : ℕ → ℕ → Option ℕ
character limit code = if nat_lt code limit && scalar code then Some code else None

-- the character that an escape stands for, by the bytes after its backslash, where these are one escape: a short one;
-- `x` and two hexadecimal digits, below 80; `u` and four of them, of a character
abbrev pub escaped_character : List ℕ → Option ℕ
escaped_character bytes =
    if begins (codes "x") bytes then (if length bytes == 3 then option_and_then (character 128) (numeral 16 (drop 1 bytes)) else None)
    else if begins (codes "u") bytes then (if length bytes == 5 then option_and_then (character 65536) (numeral 16 (drop 1 bytes)) else None)
    else short_escape bytes

-- what a string in double quotes is built of: bytes that stand for themselves, and escapes, without their backslashes
pub data StringPart : Type 0 where
  plain : ℕ → StringPart
  escape : List ℕ → StringPart

-- the bytes of parts
abbrev pub spelling : List StringPart → List ℕ
spelling [] = []
spelling (plain b ∷ parts) = b ∷ spelling parts
spelling (escape bytes ∷ parts) = 92 ∷ (bytes ++ spelling parts)

-- the parts are allowed, and stand for this value
abbrev pub StandFor : List StringPart → List ℕ → Type 0
StandFor [] value = value ≡ []
StandFor (plain b ∷ parts) value = (more : List ℕ) × (value ≡ b ∷ more) × IsTrue (is_plain_byte b) × StandFor parts more
StandFor (escape bytes ∷ parts) value = (c : ℕ) × (more : List ℕ) × (value ≡ encode_utf8 c ++ more) × (escaped_character bytes ≡ Some c) × StandFor parts more

-- a string in double quotes, with its value
pub record IsQuoted (bytes value : List ℕ) : Type 0 where
  pub parts : List StringPart
  pub spelled : bytes ≡ codes "\"" ++ (spelling parts ++ codes "\"")
  pub mean : StandFor parts value

-- a byte between backquotes
abbrev pub is_raw : ℕ → Bool
is_raw b = not (b == 96)

-- any byte but the carriage return
abbrev pub is_kept_plain : ℕ → Bool
is_kept_plain b = not (b == 13)

-- a string between backquotes, whose value leaves carriage returns out
pub record IsRaw (bytes value : List ℕ) : Type 0 where
  pub inner : List ℕ
  pub spelled : bytes ≡ codes "`" ++ (inner ++ codes "`")
  pub no_backquote : IsTrue (list_all is_raw inner)
  pub means : value ≡ filter is_kept_plain inner
