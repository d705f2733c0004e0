-- White space past ASCII. Its characters are read as bytes of UTF-8, so a byte with which one begins is held back until it is known whether the
-- character is white space. Every other byte past ASCII belongs to a word.
use Rattle.std.specs.Prelude.{ℕ, nat_lt, Bool, true, false, bytes_eq, nat_eq, encode_utf8, List, [], ◌∷◌, ◌++◌, if◌then◌else◌}
use Rattle.std.specs.List.{list_any, starts_with}
use Rattle.js_lexer.specs.Classes.{class_of}
use Rattle.js_lexer.specs.declared.class.ScriptClass.{ScriptClass}
use Rattle.js_lexer.specs.declared.class.ScriptClass.TheVariants as class

-- ECMA-262, section 12.2: no-break space, the space separators of Unicode, and the byte order mark
abbrev pub spaces : List ℕ
spaces =
    0xA0 ∷ 0x1680 ∷ 0x2000 ∷ 0x2001 ∷ 0x2002 ∷ 0x2003 ∷ 0x2004 ∷ 0x2005 ∷ 0x2006 ∷ 0x2007 ∷ 0x2008 ∷ 0x2009 ∷ 0x200A ∷ 0x202F ∷ 0x205F ∷ 0x3000
    ∷ 0xFEFF ∷ []

-- section 12.3: line separator and paragraph separator
abbrev pub separators : List ℕ
separators = 0x2028 ∷ 0x2029 ∷ []

-- the bytes are one of these characters; they begin one, or are one
abbrev pub are_one_of : List ℕ → List ℕ → Bool
are_one_of characters bytes = list_any (λ c. bytes_eq (encode_utf8 c) bytes) characters

abbrev pub begin_one_of : List ℕ → List ℕ → Bool
begin_one_of characters bytes = list_any (λ c. starts_with nat_eq (encode_utf8 c) bytes) characters

-- What bytes past ASCII are: white space of the one kind or the other, the beginning of such a character, or neither.
pub data PastAscii : Type 0 where
  IsSpace : PastAscii
  IsSeparator : PastAscii
  BeginsWhite : PastAscii
  IsOther : PastAscii

abbrev pub past_ascii : List ℕ → PastAscii
past_ascii bytes =
    if are_one_of spaces bytes then IsSpace
    else (if are_one_of separators bytes then IsSeparator
    else (if begin_one_of (spaces ++ separators) bytes then BeginsWhite
    else IsOther))

-- a byte with its class, as the reading of tokens is fed it
pub record ClassedByte : Type 0 where
  pub class : ScriptClass
  pub byte : ℕ

abbrev pub classed : ScriptClass → ℕ → ClassedByte
classed c b = record { class = c; byte = b }

abbrev pub classed_as : ScriptClass → List ℕ → List ClassedByte
classed_as c [] = []
classed_as c (b ∷ bs) = classed c b ∷ classed_as c bs

-- A byte past ASCII before which nothing is held back: what it releases, and what is held back after it.
abbrev pub released_alone : PastAscii → ℕ → List ClassedByte
released_alone BeginsWhite b = []
released_alone found b = classed (class_of b) b ∷ []

abbrev pub held_alone : PastAscii → ℕ → List ℕ
held_alone BeginsWhite b = b ∷ []
held_alone found b = []

-- What a byte past ASCII releases, of the bytes that are held back before it and of itself, by what they are together: all of them, as white
-- space; or nothing yet; or those before it as letters, and then what it releases by itself.
abbrev pub released_past_ascii : PastAscii → List ℕ → ℕ → List ClassedByte
released_past_ascii IsSpace held b = classed_as class.Space (held ++ b ∷ [])
released_past_ascii IsSeparator held b = classed_as class.LineEnd (held ++ b ∷ [])
released_past_ascii BeginsWhite held b = []
released_past_ascii IsOther held b = classed_as class.Letter held ++ released_alone (past_ascii (b ∷ [])) b

abbrev pub held_past_ascii : PastAscii → List ℕ → ℕ → List ℕ
held_past_ascii IsSpace held b = []
held_past_ascii IsSeparator held b = []
held_past_ascii BeginsWhite held b = held ++ b ∷ []
held_past_ascii IsOther held b = held_alone (past_ascii (b ∷ [])) b

-- A byte of ASCII goes on with no such character. The first argument says whether it is one.
abbrev pub released_by : Bool → List ℕ → ℕ → List ClassedByte
released_by true held b = classed_as class.Letter held ++ classed (class_of b) b ∷ []
released_by false held b = released_past_ascii (past_ascii (held ++ b ∷ [])) held b

abbrev pub held_by : Bool → List ℕ → ℕ → List ℕ
held_by true held b = []
held_by false held b = held_past_ascii (past_ascii (held ++ b ∷ [])) held b

-- what a byte releases, and what is held back after it
unfoldable pub released : List ℕ → ℕ → List ClassedByte
released held b = released_by (nat_lt b 128) held b

unfoldable pub held_after : List ℕ → ℕ → List ℕ
held_after held b = held_by (nat_lt b 128) held b
