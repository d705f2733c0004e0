-- Reading a pipe symbol by symbol, up to the end of its action.
use Rattle.std.specs.Prelude.{ℕ, Bool, true, false, if◌then◌else◌, List, [], ◌∷◌, Result, Ok, Err}
use Rattle.tpl_pipe.specs.Reading.{PipeStep, read_pipe_symbol, pipe_finish}
use Rattle.tpl_pipe.specs.declared.pipe_state.PipeState.{PipeState}
use Rattle.tpl_pipe.specs.declared.refused.ParseRefused.{ParseRefused}
use Rattle.tpl_pipe.specs.declared.refused.ParseRefused.TheVariants as refused
use Rattle.tpl_symbol.specs.declared.symbol.Symbol.{Symbol}
use Rattle.tpl_symbol.specs.declared.symbol.SymbolKind.{SymbolKind}
use Rattle.tpl_symbol.specs.declared.symbol.SymbolKind.TheVariants as kind
use Rattle.tpl_tree.specs.Pipes.{PipeData}

-- a pipe and the symbols from the end of its action on, or why there is none and the symbols from the refused one on
abbrev pub PipeRead : Type 0
PipeRead = Result (PipeData × List Symbol) (ParseRefused × List Symbol)

abbrev pub is_close : SymbolKind → Bool
is_close (kind.Close _) = true
is_close _ = false

abbrev pub ends_at : List Symbol → Result PipeData ParseRefused → PipeRead
ends_at symbols (Ok p) = Ok (p, symbols)
ends_at symbols (Err why) = Err (why, symbols)

abbrev pub pipe_goes_on : List Symbol → PipeStep → (PipeState → PipeRead) → PipeRead
pipe_goes_on symbols (Ok next) onward = onward next
pipe_goes_on symbols (Err why) onward = Err (why, symbols)

-- the pipe from an offset on
abbrev pub read_pipe : List (List ℕ) → PipeState → List Symbol → PipeRead
read_pipe variables at [] = Err (refused.UnexpectedToken, [])
read_pipe variables at (s ∷ symbols) =
    if is_close s.kind then ends_at (s ∷ symbols) (pipe_finish at)
    else pipe_goes_on (s ∷ symbols) (read_pipe_symbol variables at s) (λ next. read_pipe variables next symbols)
