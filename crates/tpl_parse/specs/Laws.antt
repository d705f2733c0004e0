-- What holds of every template file.
use Rattle.std.specs.Prelude.{◌≡◌, ◌≢◌, ◌⊎◌, ℕ, List, [], ◌∷◌, ◌++◌, Ok, Err}
use Rattle.tpl_parse.specs.Files.{IsFile, IsParseRefused, IsRefusedAt, IsUnclosedForm}
use Rattle.tpl_parse.specs.Forms.{Forms, form_nodes, is_blank, found_in}
use Rattle.tpl_parse.specs.Grammar.{IsFileBody}
use Rattle.tpl_parse.specs.Steps.{parser_step, parser_run, parser_beginning}
use Rattle.tpl_build.specs.declared.definition.Def.{Def}
use Rattle.tpl_parse.specs.Phases as phase
use Rattle.tpl_parse.specs.State.{ParserState}
use Rattle.tpl_parse.specs.declared.refused.FileRefused.{FileRefused}
use Rattle.tpl_pipe.specs.declared.refused.ParseRefused.{ParseRefused}
use Rattle.tpl_pipe.specs.declared.refused.ParseRefused.TheVariants as refused
use Rattle.tpl_symbol.specs.Symbols.{symbols_of}
use Rattle.tpl_symbol.specs.declared.symbol.Symbol.{Symbol}
use Rattle.tpl_symbol.specs.declared.symbol.SymbolKind.TheVariants as kind
use Rattle.tpl_token.specs.Grammar.{AreTokens}
use Rattle.tpl_token.specs.declared.token.Token.{Token}

-- The file has definitions, or it is refused.
abbrev pub HasParseAnswer : List ℕ → List ℕ → Type 0
HasParseAnswer name text = ((defs : List Def) × IsFile name text defs) ⊎ ((why : FileRefused) × IsParseRefused name text why)

-- A file has at most one list of definitions.
abbrev pub HaveOneList : Type 0
HaveOneList = (name text : List ℕ) (a b : List Def) → IsFile name text a → IsFile name text b → a ≡ b

-- A file has at most one refusal.
abbrev pub HaveOneRefusal : Type 0
HaveOneRefusal = (name text : List ℕ) (a b : FileRefused) → IsParseRefused name text a → IsParseRefused name text b → a ≡ b

-- A file that has definitions has no refusal.
abbrev pub HaveNotBoth : Type 0
HaveNotBoth = (name text : List ℕ) (a : List Def) (b : FileRefused) → IsFile name text a → IsParseRefused name text b → ⊥

-- Symbols have at most one tree, and the same definitions.
abbrev pub HaveOneTree : Type 0
HaveOneTree = (symbols : List Symbol) (a b : Forms) → IsFileBody a symbols → IsFileBody b symbols → (form_nodes a ≡ form_nodes b) × (is_blank a ≡ is_blank b) × (found_in a ≡ found_in b)

-- Some body of a file begins with these symbols.
abbrev pub IsPrefix : List Symbol → Type 0
IsPrefix prefix = (more : List Symbol) × (forms : Forms) × IsFileBody forms (prefix ++ more)

-- Symbols that are read without a refusal are the prefix of a body: others that end the action, and an `end` for each thing
-- that is open, may come after them.
abbrev pub ArePrefixes : Type 0
ArePrefixes = (prefix : List Symbol) (at : ParserState) → parser_run parser_beginning prefix ≡ Ok at → IsPrefix prefix

-- The symbol that is refused is the first with which no body goes on, definitions of one name left aside.
abbrev pub RefusedIsFirst : Type 0
RefusedIsFirst = (symbols : List Symbol) (why : ParseRefused) (line : ℕ) (r : IsRefusedAt symbols why line) → IsPrefix r.before × (IsPrefix (r.before ++ r.symbol ∷ []) → ⊥)

-- a variable on this line
abbrev pub IsVariableOn : Symbol → ℕ → Type 0
IsVariableOn s line = (name : List ℕ) × (s.kind ≡ kind.Variable name) × (s.line ≡ line)

-- the last of these symbols is a variable on this line
abbrev pub EndsInVariable : List Symbol → ℕ → Type 0
EndsInVariable symbols line = (prefix : List Symbol) × (variable : Symbol) × (symbols ≡ prefix ++ variable ∷ []) × IsVariableOn variable line

-- the line of a refusal: that of the refused symbol, or that of a variable right before it
abbrev pub IsLineOf : Symbol → List Symbol → ParseRefused → ℕ → Type 0
IsLineOf symbol before why line = (line ≡ symbol.line) ⊎ ((why ≡ refused.UndefinedVariable) × EndsInVariable before line)

-- A refusal names the line of the refused symbol; but where that shows that a variable right before it is not being declared,
-- and nothing declares it, the line of the variable.
abbrev pub RefusedHasItsLine : Type 0
RefusedHasItsLine = (symbols : List Symbol) (why : ParseRefused) (line : ℕ) (r : IsRefusedAt symbols why line) → IsLineOf r.symbol r.before why line

-- Where a symbol is refused, no body goes on with it, whatever follows.
abbrev pub NoneGoesOn : Type 0
NoneGoesOn = (before more : List Symbol) (symbol : Symbol) (at : ParserState) (why : ParseRefused) (line : ℕ) (forms : Forms) → parser_run parser_beginning before ≡ Ok at → parser_step at symbol ≡ Err (why, line)
    → IsFileBody forms (before ++ symbol ∷ more) → ⊥

-- The symbols of a text end outside actions.
abbrev pub ActionsEnd : Type 0
ActionsEnd = (text : List ℕ) (tokens : List Token) (at : ParserState) → AreTokens text tokens → parser_run parser_beginning (symbols_of text tokens) ≡ Ok at → at.phase ≡ phase.Outside

-- So where they end and something is open, that is a control, a `define` or a `block`.
abbrev pub UnclosedAreOpen : Type 0
UnclosedAreOpen = (text : List ℕ) (tokens : List Token) → AreTokens text tokens → (unclosed : IsUnclosedForm (symbols_of text tokens)) → unclosed.at.builder.frames ≢ []
