-- What a template file is: its definitions, or why it has none.
use Rattle.std.specs.Prelude.{◌≡◌, ◌≢◌, ◌⊎◌, ℕ, ◌-◌, List, [], ◌∷◌, ◌++◌, length, Option, Some, None, Result, Ok, Err, ⊤}
use Rattle.tpl_parse.specs.Endings.{second_line, defs_of}
use Rattle.tpl_parse.specs.Forms.{Forms, form_nodes, is_blank, found_in}
use Rattle.tpl_parse.specs.Grammar.{IsFileBody}
use Rattle.tpl_build.specs.Building.{def_of, found_of}
use Rattle.tpl_parse.specs.Steps.{parser_step, parser_run, parser_beginning}
use Rattle.tpl_build.specs.declared.definition.Def.{Def}
use Rattle.tpl_build.specs.declared.definition.File.{File}
use Rattle.tpl_build.specs.declared.definition.FoundDefinition.{FoundDefinition}
use Rattle.tpl_parse.specs.Phases as phase
use Rattle.tpl_parse.specs.State.{ParserState}
use Rattle.tpl_parse.specs.declared.refused.FileRefused.{FileRefused}
use Rattle.tpl_parse.specs.declared.refused.FileRefused.TheVariants as file_refused
use Rattle.tpl_pipe.specs.declared.refused.ParseRefused.{ParseRefused}
use Rattle.tpl_pipe.specs.declared.refused.ParseRefused.TheVariants as refused
use Rattle.tpl_symbol.specs.Lines.{line_of}
use Rattle.tpl_symbol.specs.Symbols.{symbols_of}
use Rattle.tpl_symbol.specs.declared.symbol.Symbol.{Symbol}
use Rattle.tpl_token.specs.Grammar.{AreTokens}
use Rattle.tpl_token.specs.Refusals as tokens
use Rattle.tpl_token.specs.declared.refused.TokenRefused.{TokenRefused}
use Rattle.tpl_token.specs.declared.refused.TokenRefused.TheVariants as token_refused
use Rattle.tpl_token.specs.declared.token.Token.{Token}

-- The definitions of a file of this name whose body ends on a line, and whose forms are these: those of each `define` and
-- `block`, in the order of these words, and last the file's own body.
abbrev pub all_found : List ℕ → ℕ → Forms → List FoundDefinition
all_found name end forms = found_in forms ++ found_of (def_of name (is_blank forms) (form_nodes forms) end) 1 ∷ []

-- the line of a text's last byte
abbrev pub file_last_line : List ℕ → ℕ
file_last_line text = line_of text (length text - 1)

-- A file of this name and text has these definitions: its tokens, as symbols, are forms, and of no name are two definitions
-- not blank.
pub record IsFile (name text : List ℕ) (defs : List Def) : Type 0 where
  pub tokens : List Token
  pub are_tokens : AreTokens text tokens
  pub forms : Forms
  pub body : IsFileBody forms (symbols_of text tokens)
  pub single : second_line [] (all_found name (file_last_line text) forms) ≡ None
  pub all : defs_of (all_found name (file_last_line text) forms) ≡ defs

-- A symbol is refused: those before it lead to an offset where it may not stand.
pub record IsRefusedAt (symbols : List Symbol) (why : ParseRefused) (line : ℕ) : Type 0 where
  pub before : List Symbol
  pub symbol : Symbol
  pub following : List Symbol
  pub split : symbols ≡ before ++ symbol ∷ following
  pub at : ParserState
  pub leads : parser_run parser_beginning before ≡ Ok at
  pub refused : parser_step at symbol ≡ Err (why, line)

-- something is open: a control, a `define`, a `block`, or an action
abbrev pub IsFileOpen : ParserState → Type 0
IsFileOpen at = (at.phase ≢ phase.Outside) ⊎ (at.builder.frames ≢ [])

-- The symbols end, and something is open.
pub record IsUnclosedForm (symbols : List Symbol) : Type 0 where
  pub at : ParserState
  pub leads : parser_run parser_beginning symbols ≡ Ok at
  pub still : IsFileOpen at

-- On this line is the first definition that is the second of its name that is not blank.
pub record IsTwice (name text : List ℕ) (symbols : List Symbol) (line : ℕ) : Type 0 where
  pub forms : Forms
  pub body : IsFileBody forms symbols
  pub second : second_line [] (all_found name (file_last_line text) forms) ≡ Some line

-- why the symbols of a file are refused, and the line
abbrev pub IsStopped : List ℕ → List ℕ → List Symbol → ParseRefused → ℕ → Type 0
IsStopped name text symbols why line =
    IsRefusedAt symbols why line
    ⊎ (((why ≡ refused.UnclosedBlock) × (line ≡ line_of text (length text)) × IsUnclosedForm symbols)
    ⊎ ((why ≡ refused.MultipleDefinition) × IsTwice name text symbols line))

-- the offset that a refusal of tokens names
abbrev pub refusal_offset : TokenRefused → Option ℕ
refusal_offset (token_refused.UnclosedAction offset) = Some offset
refusal_offset (token_refused.BadCharacter offset) = Some offset
refusal_offset (token_refused.UnclosedString offset) = Some offset
refusal_offset (token_refused.UnclosedComment offset) = Some offset
refusal_offset (token_refused.BadNumber offset) = Some offset
refusal_offset (token_refused.BadDelimiter offset) = Some offset
refusal_offset (token_refused.BadEscape offset) = Some offset
refusal_offset token_refused.Memory = None

-- A file of this name and text is refused for this cause.
abbrev pub IsParseRefused : List ℕ → List ℕ → FileRefused → Type 0
IsParseRefused name text (file_refused.Token why line) = (offset : ℕ) × tokens.IsTokenRefused text why × (refusal_offset why ≡ Some offset) × (line ≡ line_of text offset)
IsParseRefused name text (file_refused.Parse why line) = (list : List Token) × AreTokens text list × IsStopped name text (symbols_of text list) why line
IsParseRefused name text file_refused.Memory = ⊥

-- The definitions of the file, or why it has none. Out of memory may come instead.
abbrev pub ParseFileAnswers : List ℕ → List ℕ → Result File FileRefused → Type 0
ParseFileAnswers name text (Ok file) = IsFile name text file.defs
ParseFileAnswers name text (Err file_refused.Memory) = ⊤
ParseFileAnswers name text (Err why) = IsParseRefused name text why

-- what was returned is this, or memory ran out
abbrev pub GivesFile : Result File FileRefused → Result (List Def) FileRefused → Type 0
GivesFile (Ok file) wanted = wanted ≡ Ok file.defs
GivesFile (Err file_refused.Memory) wanted = ⊤
GivesFile (Err why) wanted = wanted ≡ Err why

-- a file that has definitions is not refused, and these are given
abbrev pub AcceptsFile : List ℕ → List ℕ → Result File FileRefused → Type 0
AcceptsFile name text result = (defs : List Def) → IsFile name text defs → GivesFile result (Ok defs)

-- a file that has a cause to be refused is refused for this one
abbrev pub RefusesFile : List ℕ → List ℕ → Result File FileRefused → Type 0
RefusesFile name text result = (why : FileRefused) → IsParseRefused name text why → GivesFile result (Err why)
