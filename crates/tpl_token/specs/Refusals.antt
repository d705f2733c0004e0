-- Why a text has no tokens: the first thing from the left that the grammar does not allow.
use Rattle.std.specs.Prelude.{◌≡◌, ◌≢◌, ℕ, ◌+◌, Bool, false, ◌||◌, ◌&&◌, ◌⊎◌, codes, List, [], ◌++◌, length, drop, None, IsTrue}
use Rattle.std.specs.Char.{is_ascii_digit}
use Rattle.std.specs.List.{list_all}
use Rattle.tpl_token.specs.Characters.{begins, first_is, is_white, is_sign}
use Rattle.tpl_token.specs.Grammar.{gap, rest_at, lexer_beginning, IsInAction, Next, TokensRead}
use Rattle.tpl_token.specs.Strings.{StringPart, spelling, escaped_character, StandFor}
use Rattle.tpl_token.specs.declared.cursor.Cursor.{Cursor}
use Rattle.tpl_token.specs.declared.cursor.CursorState.{CursorState}
use Rattle.tpl_token.specs.declared.cursor.CursorState.TheVariants as state
use Rattle.tpl_token.specs.declared.refused.TokenRefused.{TokenRefused}
use Rattle.tpl_token.specs.declared.refused.TokenRefused.TheVariants as refused
use Rattle.tpl_token.specs.declared.token.Token.{Token}

-- a comment begins here
abbrev pub text_begins_comment : CursorState → List ℕ → Bool
text_begins_comment (state.Text _) rest = false
text_begins_comment (state.Opened trims _) rest = begins (gap trims ++ codes "/*") rest
text_begins_comment (state.Action _) rest = false
text_begins_comment state.Commented rest = false

-- In an action, where no comment begins, these bytes are left of the text from this offset on, after white space or none.
pub record IsAtOffset (text : List ℕ) (from : Cursor) (offset : ℕ) (bytes : List ℕ) : Type 0 where
  pub opened : ℕ
  pub inside : IsInAction from.state opened
  pub no_comment : text_begins_comment from.state (rest_at text from) ≡ false
  pub between : List ℕ
  pub spelled : rest_at text from ≡ between ++ bytes
  pub white : IsTrue (list_all is_white between)
  pub stops : first_is is_white bytes ≡ false
  pub stands : offset ≡ from.at + length between

-- a digit, a sign, or `.` and a digit
abbrev pub begins_number : List ℕ → Bool
begins_number bytes = first_is is_ascii_digit bytes || (first_is is_sign bytes || (begins (codes ".") bytes && first_is is_ascii_digit (drop 1 bytes)))

-- a `"` or a backquote
abbrev pub begins_string : List ℕ → Bool
begins_string bytes = begins (codes "\"") bytes || begins (codes "`") bytes

-- a string in double quotes whose line, or the text, ends before its closing quote
pub record IsUnclosedString (bytes : List ℕ) : Type 0 where
  pub parts : List StringPart
  pub value : List ℕ
  pub more : List ℕ
  pub spelled : bytes ≡ codes "\"" ++ (spelling parts ++ more)
  pub mean : StandFor parts value
  pub cut : (more ≡ []) ⊎ IsTrue (begins (codes "\n") more)

-- a string in double quotes with a backslash, at this many bytes from its beginning, that begins no escape
pub record HasBadEscape (bytes : List ℕ) (at : ℕ) : Type 0 where
  pub parts : List StringPart
  pub value : List ℕ
  pub more : List ℕ
  pub spelled : bytes ≡ codes "\"" ++ (spelling parts ++ (codes "\\" ++ more))
  pub mean : StandFor parts value
  pub no_escape : (front rest : List ℕ) → more ≡ front ++ rest → escaped_character front ≡ None
  pub offset : at ≡ 1 + length (spelling parts)

-- what stands at this offset of an action, where no token does
abbrev pub TokenMisses : TokenRefused → ℕ → List ℕ → Type 0
TokenMisses (refused.UnclosedString offset) at bytes = (offset ≡ at) × (IsUnclosedString bytes ⊎ IsTrue (begins (codes "`") bytes))
TokenMisses (refused.BadEscape offset) at bytes = (n : ℕ) × HasBadEscape bytes n × (offset ≡ at + n)
TokenMisses (refused.BadNumber offset) at bytes = (offset ≡ at) × IsTrue (begins_number bytes)
TokenMisses (refused.BadCharacter offset) at bytes = (offset ≡ at) × (bytes ≢ []) × (begins_number bytes ≡ false) × (begins_string bytes ≡ false)
TokenMisses _ at bytes = ⊥

-- What stands here, where neither a token nor the end does.
abbrev pub TokenCause : TokenRefused → List ℕ → Cursor → Type 0
TokenCause (refused.UnclosedAction offset) text from = IsInAction from.state offset × IsTrue (list_all is_white (rest_at text from))
TokenCause (refused.UnclosedComment offset) text from = IsInAction from.state offset × IsTrue (text_begins_comment from.state (rest_at text from))
TokenCause (refused.BadDelimiter offset) text from = (from.state ≡ state.Commented) × (offset ≡ from.at)
TokenCause why text from = (at : ℕ) × (bytes : List ℕ) × IsAtOffset text from at bytes × TokenMisses why at bytes

-- The text is refused: after these tokens no other one stands, for this cause. (No cause holds at the end of the text.)
pub record IsTokenRefused (text : List ℕ) (why : TokenRefused) : Type 0 where
  pub tokens : List Token
  pub last : Cursor
  pub reads : TokensRead text lexer_beginning tokens last
  pub no_next : (token : Token) (to : Cursor) → Next text last token to → ⊥
  pub cause : TokenCause why text last
