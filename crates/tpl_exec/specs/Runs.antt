-- What happens when nodes are executed: events, choices, and how they end.
use Rattle.std.specs.Prelude.{ℕ, ◌-◌, List, [], ◌∷◌, ◌++◌, length, drop}
use Rattle.page_datum.specs.Data.{Data}
use Rattle.page_datum.specs.declared.fault.ExecFault.{ExecFault}
use Rattle.page_datum.specs.declared.fault.FaultKind.{FaultKind}
use Rattle.tpl_eval.specs.Evaluating.{Variables}
use Rattle.tpl_events.specs.Events.{ExecEvent, Emission}

-- What is chosen: the first part of an `if` or `with`, or its `else` part, also where none is written; one more turn of a range, or
-- that it is done, also where there is nothing to go over.
pub data RunChoice : Type 0 where
  then_part : RunChoice
  else_part : RunChoice
  turn : RunChoice
  done : RunChoice

-- the variables and the steps up to here
pub record RunState : Type 0 where
  pub variables : Variables
  pub steps : ℕ

-- how nodes of a part end: what follows them is next, or a `break` or a `continue` was met, or a fault
pub data End : Type 0 where
  next : RunState → End
  broken : RunState → End
  continued : RunState → End
  faulted : ExecFault → End

-- the events and the choices in their order, and the end
pub record Run : Type 0 where
  pub events : List Emission
  pub choices : List RunChoice
  pub end : End

-- where nodes stand: their template, by its name, and dot
pub record Site : Type 0 where
  pub template : List ℕ
  pub dot : Data

-- a run without events
abbrev pub ends : End → Run
ends end = record { events = []; choices = []; end = end }

-- a run with one more event before it, or one more choice
abbrev pub emitting : Emission → Run → Run
emitting event run = record { events = event ∷ run.events; choices = run.choices; end = run.end }

abbrev pub choosing : RunChoice → Run → Run
choosing choice run = record { events = run.events; choices = choice ∷ run.choices; end = run.end }

-- an event of a node of this line
abbrev pub emission : Site → ℕ → ExecEvent → Emission
emission at line event = record { event = event; template = at.template; line = line }

-- a fault of a node of this line
abbrev pub fault_at : Site → ℕ → FaultKind → ExecFault
fault_at at line kind = record { kind = kind; template = at.template; line = line }

abbrev pub fault : Site → ℕ → FaultKind → Run
fault at line kind = ends (faulted (fault_at at line kind))

-- a run after these events and choices
abbrev pub run_after : List Emission → List RunChoice → Run → Run
run_after events choices run = record { events = events ++ run.events; choices = choices ++ run.choices; end = run.end }

-- a run, and what its end leads to
abbrev pub run_go_on : (End → Run) → Run → Run
run_go_on more run = run_after run.events run.choices (more run.end)

-- what follows where nothing broke off
abbrev pub if_next : (RunState → Run) → End → Run
if_next more (next state) = more state
if_next more (broken state) = ends (broken state)
if_next more (continued state) = ends (continued state)
if_next more (faulted why) = ends (faulted why)

-- a run, and then another where nothing broke off
abbrev pub run_and_then : Run → (RunState → Run) → Run
run_and_then run more = run_go_on (if_next more) run

-- After a part only so many variables remain, the oldest ones, with the values that they have by then.
abbrev pub run_cut : ℕ → Variables → Variables
run_cut count variables = drop (length variables - count) variables

abbrev pub cut_state : ℕ → RunState → RunState
cut_state count state = record { variables = run_cut count state.variables; steps = state.steps }

abbrev pub cut_end : ℕ → End → End
cut_end count (next state) = next (cut_state count state)
cut_end count (broken state) = broken (cut_state count state)
cut_end count (continued state) = continued (cut_state count state)
cut_end count (faulted why) = faulted why

-- a part
abbrev pub scoped : ℕ → Run → Run
scoped count run = record { events = run.events; choices = run.choices; end = cut_end count run.end }
