-- The tokens of a text: text outside actions, and actions between `{{` and `}}`. Places are counted in bytes.
use Rattle.std.specs.Prelude.{◌≡◌, ◌≢◌, ℕ, ◌+◌, ◌<◌, ◌≤◌, Bool, true, false, codes, List, [], ◌∷◌, ◌++◌, length, drop, IsTrue}
use Rattle.std.specs.List.{list_all}
use Rattle.tpl_token.specs.Characters.{begins, is_white}
use Rattle.tpl_token.specs.Lexemes.{IsLexeme}
use Rattle.tpl_token.specs.Texts.{bytes_before, text_len, trims_before, kept_start, kept_end}
use Rattle.tpl_token.specs.declared.cursor.Cursor.{Cursor}
use Rattle.tpl_token.specs.declared.cursor.CursorState.{CursorState}
use Rattle.tpl_token.specs.declared.cursor.CursorState.TheVariants as state
use Rattle.tpl_token.specs.declared.token.Token.{Token}
use Rattle.tpl_token.specs.declared.token.TokenKind.{TokenKind}
use Rattle.tpl_token.specs.declared.token.TokenKind.TheVariants as kind

abbrev pub cursor : CursorState → ℕ → Cursor
cursor m at = record { state = m; at = at }

-- the whole text is still to be read
abbrev pub lexer_beginning : Cursor
lexer_beginning = cursor (state.Text false) 0

-- what is still to be read
abbrev pub rest_at : List ℕ → Cursor → List ℕ
rest_at text from = drop from.at text

-- Text: what trimming leaves before the next action or the end, where that is not empty.
pub record IsTextToken (text : List ℕ) (from : Cursor) (start end : ℕ) (to : Cursor) : Type 0 where
  pub trims : Bool
  pub offset : from.state ≡ state.Text trims
  pub starts : start ≡ from.at + kept_start trims (rest_at text from)
  pub ends : end ≡ from.at + kept_end (rest_at text from)
  pub not_empty : start < end
  pub goes : to ≡ cursor (state.Text false) (from.at + text_len (rest_at text from))

-- Nothing is left of the text up to an offset: the next action's, or the end.
pub record HasNoText (text : List ℕ) (from : Cursor) (at : ℕ) : Type 0 where
  pub trims : Bool
  pub offset : from.state ≡ state.Text trims
  pub nothing_left : kept_end (rest_at text from) ≤ kept_start trims (rest_at text from)
  pub up_to : at ≡ from.at + text_len (rest_at text from)

-- how long `{{-` is, which trims, and `{{`
abbrev pub open_len : Bool → ℕ
open_len true = 3
open_len false = 2

-- The beginning of an action: `{{-` where white space follows, and else `{{`.
pub record IsActionOpen (text : List ℕ) (from : Cursor) (start end : ℕ) (to : Cursor) : Type 0 where
  pub trims : Bool
  pub no_text : HasNoText text from start
  pub mark : IsTrue (begins (codes "{{") (drop start text))
  pub trimming : trims_before (drop start text) ≡ trims
  pub ends : end ≡ start + open_len trims
  pub goes : to ≡ cursor (state.Opened trims start) end

-- the white space that a trimming delimiter has between itself and a comment
abbrev pub gap : Bool → List ℕ
gap true = codes " "
gap false = []

-- A comment at once after `{{` or `{{- `, up to the first `*/`.
pub record IsComment (text : List ℕ) (from : Cursor) (start end : ℕ) (to : Cursor) : Type 0 where
  pub trims : Bool
  pub opened : ℕ
  pub offset : from.state ≡ state.Opened trims opened
  pub body : List ℕ
  pub more : List ℕ
  pub spelled : rest_at text from ≡ gap trims ++ (codes "/*" ++ (body ++ (codes "*/" ++ more)))
  pub first : bytes_before (codes "*/") (body ++ (codes "*/" ++ more)) ≡ length body
  pub starts : start ≡ from.at + length (gap trims)
  pub ends : end ≡ start + length body + 4
  pub goes : to ≡ cursor state.Commented end

-- `-}}` where it trims, and else `}}`
abbrev pub close_mark : Bool → List ℕ
close_mark true = codes "-}}"
close_mark false = codes "}}"

-- what may stand before it: white space, and before `-}}` at least one; after a comment nothing, and before `-}}` one space
abbrev pub MayClose : CursorState → List ℕ → Bool → Type 0
MayClose (state.Text _) between trims = ⊥
MayClose (state.Opened _ _) between trims = IsTrue (list_all is_white between) × (trims ≡ true → between ≢ [])
MayClose (state.Action _) between trims = IsTrue (list_all is_white between) × (trims ≡ true → between ≢ [])
MayClose state.Commented between trims = between ≡ gap trims

-- The end of an action.
pub record IsClose (text : List ℕ) (from : Cursor) (start end : ℕ) (to : Cursor) : Type 0 where
  pub trims : Bool
  pub between : List ℕ
  pub more : List ℕ
  pub spelled : rest_at text from ≡ between ++ (close_mark trims ++ more)
  pub allowed : MayClose from.state between trims
  pub starts : start ≡ from.at + length between
  pub ends : end ≡ start + length (close_mark trims)
  pub goes : to ≡ cursor (state.Text trims) end

-- inside the action whose `{{` is at this offset
abbrev pub IsInAction : CursorState → ℕ → Type 0
IsInAction (state.Text _) opened = ⊥
IsInAction (state.Opened _ offset) opened = offset ≡ opened
IsInAction (state.Action offset) opened = offset ≡ opened
IsInAction state.Commented opened = ⊥

-- A token inside an action, after white space or none.
pub record IsInner (what : TokenKind) (text : List ℕ) (from : Cursor) (start end : ℕ) (to : Cursor) : Type 0 where
  pub opened : ℕ
  pub offset : IsInAction from.state opened
  pub between : List ℕ
  pub lexeme : List ℕ
  pub more : List ℕ
  pub spelled : rest_at text from ≡ between ++ (lexeme ++ more)
  pub white : IsTrue (list_all is_white between)
  pub lexeme_is : IsLexeme what lexeme more
  pub starts : start ≡ from.at + length between
  pub ends : end ≡ start + length lexeme
  pub goes : to ≡ cursor (state.Action opened) end

-- A token of this kind, from its start to its end, is the next one.
abbrev pub TokenStands : TokenKind → List ℕ → Cursor → ℕ → ℕ → Cursor → Type 0
TokenStands kind.Text = IsTextToken
TokenStands kind.Open = IsActionOpen
TokenStands kind.Close = IsClose
TokenStands kind.Comment = IsComment
TokenStands what = IsInner what

-- The token is the next one, and with it the text is read up to `to`.
abbrev pub Next : List ℕ → Cursor → Token → Cursor → Type 0
Next text from token to = TokenStands token.kind text from token.start token.end to

-- These tokens are the next ones, and with them the text is read up to `to`.
abbrev pub TokensRead : List ℕ → Cursor → List Token → Cursor → Type 0
TokensRead text from [] to = from ≡ to
TokensRead text from (token ∷ tokens) to = (next : Cursor) × Next text from token next × TokensRead text next tokens to

-- The text ends here.
abbrev pub IsTokenEnd : List ℕ → Cursor → Type 0
IsTokenEnd text from = HasNoText text from (length text)

-- The text has these tokens.
pub record AreTokens (text : List ℕ) (tokens : List Token) : Type 0 where
  pub last : Cursor
  pub reads : TokensRead text lexer_beginning tokens last
  pub end : IsTokenEnd text last
