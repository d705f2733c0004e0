-- Where in a pipe each symbol leads.
use Rattle.std.specs.Prelude.{ℕ, nat_eq, zero, suc, Bool, true, false, ◌&&◌, ◌||◌, if◌then◌else◌, List, [], ◌∷◌, Option, Some, None, Result, Ok, Err}
use Rattle.std.specs.Cmp.Lexicographic.{pointwise}
use Rattle.page_io.specs.Stops.{StopAnswers}
use Rattle.page_io.specs.declared.stop.Stop.{Stop}
use Rattle.tpl_pipe.specs.Levels.{level, fresh, operand_of, level_ended, ended_pipe, takes_operand, with_operand, last_takes, with_field}
use Rattle.tpl_pipe.specs.declared.pipe_state.Current.{Current}
use Rattle.tpl_pipe.specs.declared.pipe_state.Current.TheVariants as current
use Rattle.tpl_pipe.specs.declared.pipe_state.Level.{Level}
use Rattle.tpl_pipe.specs.declared.pipe_state.PipeState.{PipeState}
use Rattle.tpl_pipe.specs.declared.refused.ParseRefused.{ParseRefused}
use Rattle.tpl_pipe.specs.declared.refused.ParseRefused.TheVariants as refused
use Rattle.tpl_symbol.specs.declared.func.Func.{Func}
use Rattle.tpl_symbol.specs.declared.symbol.Symbol.{Symbol}
use Rattle.tpl_symbol.specs.declared.symbol.SymbolKind.{SymbolKind}
use Rattle.tpl_symbol.specs.declared.symbol.SymbolKind.TheVariants as kind
use Rattle.tpl_symbol.specs.declared.word.Word.{Word}
use Rattle.tpl_symbol.specs.declared.word.Word.TheVariants as word
use Rattle.tpl_tree.specs.Pipes.{PipeData}
use Rattle.tpl_tree.specs.declared.pipe.Base.{Base}
use Rattle.tpl_tree.specs.declared.pipe.Base.TheVariants as base
use Rattle.tpl_tree.specs.declared.pipe.Command.{Command}
use Rattle.tpl_tree.specs.declared.pipe.Operand.{Operand}

abbrev pub pipe_state : List Level → Level → PipeState
pipe_state outer l = record { outer = outer; level = l }

-- the variable is declared; `$` always is
abbrev pub variable_declared : List (List ℕ) → List ℕ → Bool
variable_declared [] [] = true
variable_declared [] (_ ∷ _) = false
variable_declared (x ∷ xs) name = pointwise nat_eq x name || variable_declared xs name

abbrev pub PipeStep : Type 0
PipeStep = Result PipeState ParseRefused

-- an operand
abbrev pub read_operand : Operand → List Level → Level → PipeStep
read_operand o outer l = if takes_operand l then Ok (pipe_state outer (with_operand o l)) else Err refused.UnexpectedToken

abbrev pub operand_read : Base → PipeState → PipeStep
operand_read b at = read_operand (operand_of b []) at.outer at.level

-- `nil`, which is no whole command
abbrev pub read_nil : List Level → Current → Level → PipeStep
read_nil outer current.Nothing l = Err refused.UnexpectedToken
read_nil outer (current.Alone _) l = Err refused.UnexpectedToken
read_nil outer (current.Calls _ _) l = read_operand (operand_of base.Nil []) outer l

abbrev pub read_variable : List (List ℕ) → List ℕ → List Level → Level → PipeStep
read_variable variables name outer l =
    if takes_operand l then (if variable_declared variables name then Ok (pipe_state outer (with_operand (operand_of (base.Variable name) []) l)) else Err refused.UndefinedVariable)
    else Err refused.UnexpectedToken

abbrev pub variable_read : List (List ℕ) → List ℕ → PipeState → PipeStep
variable_read variables name at = read_variable variables name at.outer at.level

-- a field of the operand that it touches, or an operand of its own
abbrev pub read_field : List ℕ → Bool → List Level → Level → PipeStep
read_field name touches outer l =
    if touches && last_takes l.current then Ok (pipe_state outer (with_field name l))
    else read_operand (operand_of base.Dot (name ∷ [])) outer l

abbrev pub read_left : ℕ → List Level → Level → PipeStep
read_left zero outer l = if takes_operand l then Err refused.TooNested else Err refused.UnexpectedToken
read_left (suc room) outer l = if takes_operand l then Ok (pipe_state (l ∷ outer) (fresh room)) else Err refused.UnexpectedToken

abbrev pub closed : Result PipeData ParseRefused → List Level → Level → PipeStep
closed (Ok p) outer l = Ok (pipe_state outer (with_operand (operand_of (base.Paren (record { commands = p })) []) l))
closed (Err why) outer l = Err why

abbrev pub read_right : List Level → Level → PipeStep
read_right [] l = Err refused.UnexpectedToken
read_right (o ∷ outer) l = closed (ended_pipe l) outer o

abbrev pub next_command : Option Command → List Level → Level → PipeStep
next_command (Some c) outer l = Ok (pipe_state outer (level l.room (c ∷ l.commands) current.Nothing))
next_command None outer l = Err refused.UnexpectedToken

abbrev pub read_bar : List Level → Level → PipeStep
read_bar outer l = next_command (level_ended l.current) outer l

abbrev pub read_function : Func → List Level → Current → Level → PipeStep
read_function f outer current.Nothing l = Ok (pipe_state outer (level l.room l.commands (current.Calls f [])))
read_function f outer (current.Alone _) l = Err refused.UnexpectedToken
read_function f outer (current.Calls _ _) l = Err refused.UnexpectedToken

abbrev pub function_read : Func → PipeState → PipeStep
function_read f at = read_function f at.outer at.level.current at.level

abbrev pub read_unknown : Current → PipeStep
read_unknown current.Nothing = Err refused.UnknownFunction
read_unknown (current.Alone _) = Err refused.UnexpectedToken
read_unknown (current.Calls _ _) = Err refused.UnexpectedToken

abbrev pub read_word : Word → List Level → Level → PipeStep
read_word word.True outer l = read_operand (operand_of (base.Bool true) []) outer l
read_word word.False outer l = read_operand (operand_of (base.Bool false) []) outer l
read_word word.Nil outer l = read_nil outer l.current l
read_word _ outer l = Err refused.UnexpectedToken

-- where a symbol leads in a pipe with these variables
abbrev pub read_kind : SymbolKind → Bool → List (List ℕ) → List Level → Level → PipeStep
read_kind (kind.Str value) touches variables outer l = read_operand (operand_of (base.Str value) []) outer l
read_kind (kind.Number n) touches variables outer l = read_operand (operand_of (base.Number n) []) outer l
read_kind kind.Dot touches variables outer l = read_operand (operand_of base.Dot []) outer l
read_kind (kind.Word w) touches variables outer l = read_word w outer l
read_kind (kind.Variable name) touches variables outer l = read_variable variables name outer l
read_kind (kind.Field name) touches variables outer l = read_field name touches outer l
read_kind kind.Left touches variables outer l = read_left l.room outer l
read_kind kind.Right touches variables outer l = read_right outer l
read_kind kind.Bar touches variables outer l = read_bar outer l
read_kind (kind.Function f) touches variables outer l = read_function f outer l.current l
read_kind kind.Unknown touches variables outer l = read_unknown l.current
read_kind _ touches variables outer l = Err refused.UnexpectedToken

abbrev pub read_pipe_symbol : List (List ℕ) → PipeState → Symbol → PipeStep
read_pipe_symbol variables at symbol = read_kind symbol.kind symbol.touches variables at.outer at.level

-- the pipe that the end of its action ends
abbrev pub pipe_finished : List Level → Level → Result PipeData ParseRefused
pipe_finished [] l = ended_pipe l
pipe_finished (_ ∷ _) l = Err refused.UnexpectedToken

abbrev pub pipe_finish : PipeState → Result PipeData ParseRefused
pipe_finish at = pipe_finished at.outer at.level

-- what is new is this, or memory ran out
abbrev pub ReadAnswers : {U X : Type 0} → Result U (Stop ParseRefused) → X → Result X ParseRefused → Type 0
ReadAnswers result new wanted = StopAnswers (λ _. new) result wanted
