-- The definitions of a file by computing, from its symbols.
use Rattle.std.specs.Prelude.{◌≡◌, ℕ, List, length, Option, Some, None, Result, Ok, Err, ⊤}
use Rattle.tpl_parse.specs.Endings.{file_finished}
use Rattle.tpl_parse.specs.Files.{file_last_line, refusal_offset}
use Rattle.tpl_parse.specs.Steps.{Stepped, parser_run, parser_beginning}
use Rattle.tpl_parse.specs.Actions.{ActionRefusal}
use Rattle.tpl_build.specs.declared.definition.Def.{Def}
use Rattle.tpl_build.specs.declared.definition.File.{File}
use Rattle.tpl_parse.specs.Phases.{Phase}
use Rattle.tpl_parse.specs.Phases as phase
use Rattle.tpl_build.specs.declared.builder.Builder.{Builder}
use Rattle.tpl_parse.specs.declared.refused.FileRefused.{FileRefused}
use Rattle.tpl_parse.specs.declared.refused.FileRefused.TheVariants as file_refused
use Rattle.tpl_pipe.specs.declared.refused.ParseRefused.TheVariants as refused
use Rattle.tpl_symbol.specs.Lines.{line_of}
use Rattle.tpl_symbol.specs.Symbols.{symbols_of}
use Rattle.tpl_symbol.specs.declared.line.TextEnd.{TextEnd}
use Rattle.tpl_symbol.specs.declared.symbol.Symbol.{Symbol}
use Rattle.tpl_token.specs.declared.refused.TokenRefused.{TokenRefused}
use Rattle.tpl_token.specs.declared.token.Token.{Token}

abbrev pub Parsed : Type 0
Parsed = Result (List Def) ActionRefusal

-- the end of a text
abbrev pub parser_end : List ℕ → TextEnd
parser_end text = record { at = length text; before = file_last_line text; line = line_of text (length text) }

-- no action is open at the end, since tokens end each
abbrev pub ended_in : Phase → List ℕ → TextEnd → Builder → Parsed
ended_in phase.Outside name end n = file_finished name end n
ended_in (phase.Inside o h) name end n = Err (refused.UnclosedBlock, end.line)

abbrev pub parser_ended : List ℕ → TextEnd → Stepped → Parsed
parser_ended name end (Ok at) = ended_in at.phase name end at.builder
parser_ended name end (Err why) = Err why

abbrev pub parsed : List ℕ → TextEnd → List Symbol → Parsed
parsed name end symbols = parser_ended name end (parser_run parser_beginning symbols)

-- of a text with these tokens
abbrev pub parsed_text : List ℕ → List ℕ → List Token → Parsed
parsed_text name text tokens = parsed name (parser_end text) (symbols_of text tokens)

-- what was returned is this, or memory ran out
abbrev pub ParseTokensAnswers : Result File FileRefused → Parsed → Type 0
ParseTokensAnswers (Ok file) wanted = wanted ≡ Ok file.defs
ParseTokensAnswers (Err (file_refused.Parse why line)) wanted = wanted ≡ Err (why, line)
ParseTokensAnswers (Err (file_refused.Token why line)) wanted = ⊥
ParseTokensAnswers (Err file_refused.Memory) wanted = ⊤

-- a refusal of tokens, as one of the file
abbrev pub refusal_at : Option ℕ → List ℕ → TokenRefused → FileRefused
refusal_at (Some offset) text why = file_refused.Token why (line_of text offset)
refusal_at None text why = file_refused.Memory

abbrev pub token_refusal : List ℕ → TokenRefused → FileRefused
token_refusal text why = refusal_at (refusal_offset why) text why
