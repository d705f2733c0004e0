-- Reading a file symbol by symbol.
use Rattle.std.specs.Prelude.{◌≡◌, ℕ, List, [], ◌∷◌, Option, Some, None, Result, Ok, Err, ⊤}
use Rattle.page_io.specs.Stops.{StopAnswers}
use Rattle.page_io.specs.declared.stop.Stop.{Stop}
use Rattle.page_io.specs.declared.stop.Stop.TheVariants as stop
use Rattle.tpl_build.specs.Building.{empty_builder, with_text, with_else, done}
use Rattle.tpl_parse.specs.Actions.{ActionRefusal, ActionAdvance, action_advance, piped, action_kind_of}
use Rattle.tpl_build.specs.declared.action.ActionKind.{ActionKind}
use Rattle.tpl_parse.specs.declared.action.ActionState.{ActionState}
use Rattle.tpl_parse.specs.declared.action.ActionState.TheVariants as action_state
use Rattle.tpl_parse.specs.Phases.{Phase}
use Rattle.tpl_parse.specs.Phases as phase
use Rattle.tpl_build.specs.declared.action.Opening.{Opening}
use Rattle.tpl_parse.specs.State.{ParserState}
use Rattle.tpl_build.specs.declared.action.Purpose.{Purpose}
use Rattle.tpl_build.specs.declared.builder.Builder.{Builder}
use Rattle.tpl_pipe.specs.Reading.{pipe_finish}
use Rattle.tpl_pipe.specs.declared.pipe_state.PipeState.{PipeState}
use Rattle.tpl_pipe.specs.declared.refused.ParseRefused.TheVariants as refused
use Rattle.tpl_symbol.specs.declared.symbol.Symbol.{Symbol}
use Rattle.tpl_symbol.specs.declared.symbol.SymbolKind.{SymbolKind}
use Rattle.tpl_symbol.specs.declared.symbol.SymbolKind.TheVariants as kind

abbrev pub state : Builder → Phase → ParserState
state n m = record { builder = n; phase = m }

abbrev pub Stepped : Type 0
Stepped = Result ParserState ActionRefusal

abbrev pub opening : ℕ → ℕ → ℕ → Opening
opening line start before = record { line = line; start = start; before = before }

-- outside actions stand texts and the beginnings of actions
abbrev pub outside : SymbolKind → ℕ → Builder → Stepped
outside (kind.Text bytes seams) line n = Ok (state (with_text bytes line seams n) phase.Outside)
outside (kind.Open start before) line n = Ok (state n (phase.Inside (opening line start before) action_state.Start))
outside _ line n = Err (refused.UnexpectedToken, line)

abbrev pub outside_by : Symbol → Builder → Stepped
outside_by s n = outside s.kind s.line n

abbrev pub after_symbol : Result ActionKind ActionRefusal → Opening → ℕ → Builder → Stepped
after_symbol (Ok d) o end n = Ok (state (done d o end n) phase.Outside)
after_symbol (Err why) o end n = Err why

-- with the word `else` the `else` part begins
abbrev pub form_entered : ActionState → Builder → Builder
form_entered action_state.Else n = with_else n
form_entered h n = n

abbrev pub onward : ActionAdvance → Opening → Builder → Stepped
onward (Ok h) o n = Ok (state (form_entered h n) (phase.Inside o h))
onward (Err why) o n = Err why

-- where an action ends, if it ends with this symbol
abbrev pub close_end : SymbolKind → Option ℕ
close_end (kind.Close end) = Some end
close_end _ = None

abbrev pub inside : Option ℕ → Opening → ActionState → Symbol → Builder → Stepped
inside (Some end) o h s n = after_symbol (action_kind_of h n s.line) o end n
inside None o h s n = onward (action_advance h n s) o n

abbrev pub step_in : Phase → Symbol → Builder → Stepped
step_in phase.Outside s n = outside s.kind s.line n
step_in (phase.Inside o h) s n = inside (close_end s.kind) o h s n

-- where a symbol leads
abbrev pub parser_step : ParserState → Symbol → Stepped
parser_step at s = step_in at.phase s at.builder

abbrev pub step_and_then : Stepped → (ParserState → Stepped) → Stepped
step_and_then (Ok next) f = f next
step_and_then (Err why) f = Err why

-- where symbols lead
abbrev pub parser_run : ParserState → List Symbol → Stepped
parser_run at [] = Ok at
parser_run at (s ∷ symbols) = step_and_then (parser_step at s) (λ next. parser_run next symbols)

-- how many controls and parentheses may be open at once
abbrev pub most_open : ℕ
most_open = 100

-- nothing is read of a file
abbrev pub parser_beginning : ParserState
parser_beginning = state (empty_builder most_open) phase.Outside

-- what an action does that is read up to here, and ends on this line before this offset
abbrev pub after_state : ActionState → Opening → ℕ → ℕ → Builder → Stepped
after_state h o line end n = after_symbol (action_kind_of h n line) o end n

abbrev pub after_pipe : Purpose → PipeState → Opening → ℕ → ℕ → Builder → Stepped
after_pipe p at o line end n = after_symbol (piped p line (pipe_finish at)) o end n

-- what is new is this, or memory ran out
abbrev pub ParserStepAnswers : {U : Type 0} → Result U (Stop ActionRefusal) → Builder → Phase → Stepped → Type 0
ParserStepAnswers result n m wanted = StopAnswers (λ _. state n m) result wanted

-- the same outside actions
abbrev pub EndActionAnswers : {U : Type 0} → Result U (Stop ActionRefusal) → Builder → Stepped → Type 0
EndActionAnswers result n wanted = ParserStepAnswers result n phase.Outside wanted

-- the same in an action, before which this was built
abbrev pub InActionAnswers : {U : Type 0} → Result U (Stop ActionRefusal) → Builder → ActionState → ActionAdvance → Builder → Type 0
InActionAnswers (Ok _) n h wanted old = (wanted ≡ Ok h) × (n ≡ form_entered h old)
InActionAnswers (Err (stop.Cause why)) n h wanted old = wanted ≡ Err why
InActionAnswers (Err stop.Memory) n h wanted old = ⊤
