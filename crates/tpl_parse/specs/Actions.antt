-- Where in an action each symbol leads.
use Rattle.std.specs.Prelude.{◌≡◌, ℕ, ◌-◌, ◌==◌, Bool, true, false, if◌then◌else◌, List, [], ◌∷◌, Option, Some, None, Result, Ok, Err, ⊤}
use Rattle.page_io.specs.Stops as stops
use Rattle.page_io.specs.declared.stop.Stop.{Stop}
use Rattle.page_io.specs.declared.stop.Stop.TheVariants as stop
use Rattle.tpl_build.specs.declared.frame.Control.{Control}
use Rattle.tpl_build.specs.declared.frame.Control.TheVariants as control
use Rattle.tpl_build.specs.declared.frame.OpenForm.{OpenForm}
use Rattle.tpl_build.specs.declared.frame.OpenForm.TheVariants as frame
use Rattle.tpl_parse.specs.declared.action.Before.{Before}
use Rattle.tpl_parse.specs.declared.action.Before.TheVariants as before
use Rattle.tpl_build.specs.declared.action.ActionKind.{ActionKind}
use Rattle.tpl_build.specs.declared.action.ActionKind.TheVariants as action_kind
use Rattle.tpl_parse.specs.declared.action.ActionState.{ActionState}
use Rattle.tpl_parse.specs.declared.action.ActionState.TheVariants as action_state
use Rattle.tpl_build.specs.declared.action.Purpose.{Purpose}
use Rattle.tpl_build.specs.declared.action.Purpose.TheVariants as purpose
use Rattle.tpl_build.specs.declared.builder.Builder.{Builder}
use Rattle.tpl_pipe.specs.Levels.{level, fresh, operand_of}
use Rattle.tpl_pipe.specs.Reading.{PipeStep, pipe_state, variable_declared, read_pipe_symbol, pipe_finish}
use Rattle.tpl_pipe.specs.declared.pipe_state.Current.TheVariants as current
use Rattle.tpl_pipe.specs.declared.pipe_state.PipeState.{PipeState}
use Rattle.tpl_pipe.specs.declared.refused.ParseRefused.{ParseRefused}
use Rattle.tpl_pipe.specs.declared.refused.ParseRefused.TheVariants as refused
use Rattle.tpl_symbol.specs.declared.symbol.Symbol.{Symbol}
use Rattle.tpl_symbol.specs.declared.symbol.SymbolKind.{SymbolKind}
use Rattle.tpl_symbol.specs.declared.symbol.SymbolKind.TheVariants as kind
use Rattle.tpl_symbol.specs.declared.word.Word.{Word}
use Rattle.tpl_symbol.specs.declared.word.Word.TheVariants as word
use Rattle.tpl_tree.specs.Pipes.{PipeData}
use Rattle.tpl_tree.specs.declared.pipe.Base.TheVariants as base

-- a refusal, and its line
abbrev pub ActionRefusal : Type 0
ActionRefusal = ParseRefused × ℕ

abbrev pub ActionAdvance : Type 0
ActionAdvance = Result ActionState ActionRefusal

-- what a pipe is for after this
abbrev pub plain : Before → Purpose
plain before.Action = purpose.Write
plain before.If = purpose.Control (control.If None) false
plain before.ElseIf = purpose.Control (control.If None) true
plain before.With = purpose.Control (control.With None) false
plain before.Range = purpose.Control (control.Range None None) false

-- what a pipe is for after this and `$x :=`
abbrev pub declaring : Before → List ℕ → Purpose
declaring before.Action x = purpose.Declare x
declaring before.If x = purpose.Control (control.If (Some x)) false
declaring before.ElseIf x = purpose.Control (control.If (Some x)) true
declaring before.With x = purpose.Control (control.With (Some x)) false
declaring before.Range x = purpose.Control (control.Range None (Some x)) false

-- a control counts as open in its own pipe
abbrev pub room_in : Before → ℕ → ℕ
room_in before.Action room = room
room_in before.If room = room - 1
room_in before.ElseIf room = room - 1
room_in before.With room = room - 1
room_in before.Range room = room - 1

-- the beginning of a pipe
abbrev pub action_start : ℕ → PipeState
action_start room = pipe_state [] (fresh room)

-- a pipe whose first symbol is this variable
abbrev pub variable_state : ℕ → List ℕ → PipeState
variable_state room x = pipe_state [] (level room [] (current.Alone (operand_of (base.Variable x) [])))

abbrev pub pipe_advance : Purpose → ℕ → PipeStep → ActionAdvance
pipe_advance p line (Ok at) = Ok (action_state.Pipe p at)
pipe_advance p line (Err why) = Err (why, line)

abbrev pub read_in : Builder → PipeState → Symbol → PipeStep
read_in builder at s = read_pipe_symbol builder.variables at s

abbrev pub in_pipe : Builder → Purpose → PipeState → Symbol → ActionAdvance
in_pipe builder p at s = pipe_advance p s.line (read_pipe_symbol builder.variables at s)

-- after `{{`, or after a control's word
abbrev pub following_kind : SymbolKind → Builder → Before → Symbol → ActionAdvance
following_kind (kind.Variable x) builder b s = Ok (action_state.Named b x s.line)
following_kind _ builder b s = in_pipe builder (plain b) (action_start (room_in b builder.room)) s

abbrev pub following : Builder → Before → Symbol → ActionAdvance
following builder b s = following_kind s.kind builder b s

abbrev pub control_word : Builder → Before → ℕ → ActionAdvance
control_word builder b line = if builder.room == 0 then Err (refused.TooNested, line) else Ok (action_state.AfterWord b)

abbrev pub has_first : {X : Type 0} → Option X → ℕ → ActionAdvance
has_first None line = Ok action_state.Else
has_first (Some _) line = Err (refused.ElseTwice, line)

abbrev pub else_word : List OpenForm → ℕ → ActionAdvance
else_word [] line = Err (refused.UnexpectedEnd, line)
else_word (frame.Definition _ ∷ _) line = Err (refused.UnexpectedEnd, line)
else_word (frame.Control c ∷ _) line = has_first c.first line

abbrev pub end_word : List OpenForm → ℕ → ActionAdvance
end_word [] line = Err (refused.UnexpectedEnd, line)
end_word (_ ∷ _) line = Ok action_state.End

abbrev pub jump_word : Bool → ActionState → ℕ → ActionAdvance
jump_word in_range h line = if in_range then Ok h else Err (refused.BreakOutside, line)

abbrev pub define_word : List OpenForm → ℕ → ActionAdvance
define_word [] line = Ok (action_state.Define line)
define_word (_ ∷ _) line = Err (refused.DefineNested, line)

-- a word after `{{`
abbrev pub start_word : Word → Builder → Symbol → ActionAdvance
start_word word.If builder s = control_word builder before.If s.line
start_word word.With builder s = control_word builder before.With s.line
start_word word.Range builder s = control_word builder before.Range s.line
start_word word.Else builder s = else_word builder.frames s.line
start_word word.End builder s = end_word builder.frames s.line
start_word word.Break builder s = jump_word builder.in_range action_state.Break s.line
start_word word.Continue builder s = jump_word builder.in_range action_state.Continue s.line
start_word word.Template builder s = Ok action_state.Template
start_word word.Define builder s = define_word builder.frames s.line
start_word word.Block builder s = Ok (action_state.Block s.line)
start_word word.True builder s = following builder before.Action s
start_word word.False builder s = following builder before.Action s
start_word word.Nil builder s = following builder before.Action s

abbrev pub start_kind : SymbolKind → Builder → Symbol → ActionAdvance
start_kind (kind.Word w) builder s = start_word w builder s
start_kind _ builder s = following builder before.Action s

-- after a variable that is not declared here: it has to be declared already, and is judged now, since what comes after it says whether it
-- is declared here
abbrev pub by_variable : Builder → Before → List ℕ → ℕ → Symbol → ActionAdvance
by_variable builder b x line s =
    if variable_declared builder.variables x then in_pipe builder (plain b) (variable_state (room_in b builder.room) x) s else Err (refused.UndefinedVariable, line)

abbrev pub variable_assigned : Builder → List ℕ → ℕ → ActionAdvance
variable_assigned builder x line = if variable_declared builder.variables x then Ok (action_state.Pipe (purpose.Assign x) (action_start builder.room)) else Err (refused.UndefinedVariable, line)

-- after a variable that may be declared: `:=`, in an action `=`, in a `range` a comma, or a pipe goes on
abbrev pub named_assign : Before → Builder → List ℕ → ℕ → Symbol → ActionAdvance
named_assign before.Action builder x line s = variable_assigned builder x line
named_assign b builder x line s = by_variable builder b x line s

abbrev pub named_comma : Before → Builder → List ℕ → ℕ → Symbol → ActionAdvance
named_comma before.Range builder x line s = Ok (action_state.Second x)
named_comma b builder x line s = by_variable builder b x line s

abbrev pub named : SymbolKind → Before → Builder → List ℕ → ℕ → Symbol → ActionAdvance
named kind.Declare b builder x line s = Ok (action_state.Pipe (declaring b x) (action_start (room_in b builder.room)))
named kind.Assign b builder x line s = named_assign b builder x line s
named kind.Comma b builder x line s = named_comma b builder x line s
named _ b builder x line s = by_variable builder b x line s

-- after `range $i,`
abbrev pub second : SymbolKind → List ℕ → ℕ → ActionAdvance
second (kind.Variable e) i line = Ok (action_state.SecondNamed i e line)
second _ i line = Err (refused.UnexpectedToken, line)

-- after a second variable stands neither `:=` nor a comma: where nothing declares it, the variable is refused, and else what stands after it
abbrev pub undeclared : List (List ℕ) → List ℕ → ℕ → ℕ → ActionRefusal
undeclared variables e line now = if variable_declared variables e then (refused.UnexpectedToken, now) else (refused.UndefinedVariable, line)

-- after `range $i, $e`
abbrev pub second_named : SymbolKind → Builder → List ℕ → List ℕ → ℕ → ℕ → ActionAdvance
second_named kind.Declare builder i e line now = Ok (action_state.Pipe (purpose.Control (control.Range (Some i) (Some e)) false) (action_start (builder.room - 1)))
second_named kind.Comma builder i e line now = Err (refused.UnexpectedToken, now)
second_named _ builder i e line now = Err (undeclared builder.variables e line now)

abbrev pub following_second : Builder → List ℕ → List ℕ → ℕ → Symbol → ActionAdvance
following_second builder i e line s = second_named s.kind builder i e line s.line

-- after `else`: an `if`, where the control is one
abbrev pub is_if : Control → Bool
is_if (control.If _) = true
is_if (control.With _) = false
is_if (control.Range _ _) = false

abbrev pub ends_if : List OpenForm → Bool
ends_if [] = false
ends_if (frame.Definition _ ∷ _) = false
ends_if (frame.Control c ∷ _) = is_if c.control

abbrev pub else_advance : SymbolKind → Builder → ℕ → ActionAdvance
else_advance (kind.Word word.If) builder line = if ends_if builder.frames then control_word builder before.ElseIf line else Err (refused.UnexpectedToken, line)
else_advance _ builder line = Err (refused.UnexpectedToken, line)

abbrev pub following_named : Before → Builder → List ℕ → ℕ → Symbol → ActionAdvance
following_named b builder x line s = named s.kind b builder x line s

-- after a word that wants a name
abbrev pub name_in : SymbolKind → ℕ → Result (List ℕ) ActionRefusal
name_in (kind.Str n) line = Ok n
name_in _ line = Err (refused.UnexpectedToken, line)

abbrev pub with_name : Result (List ℕ) ActionRefusal → (List ℕ → ActionState) → ActionAdvance
with_name (Ok n) h = Ok (h n)
with_name (Err why) h = Err why

-- where a symbol that does not end the action leads
abbrev pub action_advance : ActionState → Builder → Symbol → ActionAdvance
action_advance action_state.Start builder s = start_kind s.kind builder s
action_advance (action_state.AfterWord b) builder s = following builder b s
action_advance (action_state.Named b x line) builder s = named s.kind b builder x line s
action_advance (action_state.Second i) builder s = second s.kind i s.line
action_advance (action_state.SecondNamed i e line) builder s = second_named s.kind builder i e line s.line
action_advance (action_state.Pipe p at) builder s = in_pipe builder p at s
action_advance action_state.Else builder s = else_advance s.kind builder s.line
action_advance action_state.End builder s = Err (refused.UnexpectedToken, s.line)
action_advance action_state.Break builder s = Err (refused.UnexpectedToken, s.line)
action_advance action_state.Continue builder s = Err (refused.UnexpectedToken, s.line)
action_advance action_state.Template builder s = with_name (name_in s.kind s.line) (λ n. action_state.TemplateNamed n)
action_advance (action_state.TemplateNamed n) builder s = in_pipe builder (purpose.Template n) (action_start builder.room) s
action_advance (action_state.Define line) builder s = with_name (name_in s.kind s.line) (λ n. action_state.DefineNamed n line)
action_advance (action_state.DefineNamed n line) builder s = Err (refused.UnexpectedToken, s.line)
action_advance (action_state.Block line) builder s = with_name (name_in s.kind s.line) (λ n. action_state.Pipe (purpose.Block n line) (action_start builder.room))

abbrev pub piped : Purpose → ℕ → Result PipeData ParseRefused → Result ActionKind ActionRefusal
piped p line (Ok q) = Ok (action_kind.Piped p (record { commands = q }))
piped p line (Err why) = Err (why, line)

-- what an action says that ends here, on this line
abbrev pub action_kind_of : ActionState → Builder → ℕ → Result ActionKind ActionRefusal
action_kind_of action_state.Start builder now = Err (refused.EmptyPipeline, now)
action_kind_of (action_state.AfterWord b) builder now = Err (refused.EmptyPipeline, now)
action_kind_of (action_state.Named b x line) builder now =
    if variable_declared builder.variables x then piped (plain b) now (pipe_finish (variable_state (room_in b builder.room) x)) else Err (refused.UndefinedVariable, line)
action_kind_of (action_state.Second i) builder now = Err (refused.UnexpectedToken, now)
action_kind_of (action_state.SecondNamed i e line) builder now = Err (undeclared builder.variables e line now)
action_kind_of (action_state.Pipe p at) builder now = piped p now (pipe_finish at)
action_kind_of action_state.Else builder now = Ok action_kind.Else
action_kind_of action_state.End builder now = Ok action_kind.End
action_kind_of action_state.Break builder now = Ok action_kind.Break
action_kind_of action_state.Continue builder now = Ok action_kind.Continue
action_kind_of action_state.Template builder now = Err (refused.UnexpectedToken, now)
action_kind_of (action_state.TemplateNamed n) builder now = Ok (action_kind.Call n)
action_kind_of (action_state.Define line) builder now = Err (refused.UnexpectedToken, now)
action_kind_of (action_state.DefineNamed n line) builder now = Ok (action_kind.Define n line)
action_kind_of (action_state.Block line) builder now = Err (refused.UnexpectedToken, now)

-- what was returned is this, or memory ran out
abbrev pub ActionAnswers : {X : Type 0} → Result X (Stop ActionRefusal) → Result X ActionRefusal → Type 0
ActionAnswers result wanted = stops.StopAnswers (λ x. x) result wanted

-- a refusal, as why a call stops
abbrev pub refusal_stop : ActionRefusal → Stop ActionRefusal
refusal_stop why = stop.Cause why

-- what is new is this, or memory ran out
abbrev pub ActionAdvanceAnswers : {U X : Type 0} → Result U (Stop ActionRefusal) → X → Result X ActionRefusal → Type 0
ActionAdvanceAnswers result new wanted = stops.StopAnswers (λ _. new) result wanted

-- the same of the state of a pipe, whose refusals have no line
abbrev pub ReadOnAnswers : {U : Type 0} → Result U (Stop ActionRefusal) → PipeState → ℕ → PipeStep → Type 0
ReadOnAnswers (Ok _) new line wanted = wanted ≡ Ok new
ReadOnAnswers (Err (stop.Cause why)) new line wanted = (wanted ≡ Err why.0) × (why.1 ≡ line)
ReadOnAnswers (Err stop.Memory) new line wanted = ⊤
