-- How one advance answers, with its event.
use Rattle.std.specs.Prelude.{◌≡◌, Bool, true, false, ◌⊎◌, Result, Ok, Err, ⊤}
use Rattle.tpl_exec.specs.Executing.{too_long}
use Rattle.tpl_exec.specs.Machine.{Progress, Machine, fails, finishes, continues, emits}
use Rattle.tpl_exec.specs.MachineView.{machine_view, next_progress}
use Rattle.tpl_events.specs.Events.{ExecEvent, Emission}
use Rattle.tpl_exec.specs.declared.machine.Machine.{Machine as CodeMachine}
use Rattle.tpl_events.specs.declared.sink.HoleStop.{HoleStop}
use Rattle.tpl_events.specs.declared.sink.HoleStop.TheVariants as stop
use Rattle.tpl_exec.specs.declared.stop.ExecStop.{ExecStop}
use Rattle.tpl_exec.specs.declared.stop.ExecStop.TheVariants.{Fault, SinkStop, Memory}
use Rattle.tpl_tree.specs.Forests.{ForestData}

-- why an execution stops where an event is refused so
abbrev pub RefusedAnswers : Emission → HoleStop → ExecStop → Type 0
RefusedAnswers g stop.TooLong (Fault why) = why ≡ too_long g
RefusedAnswers g stop.SinkStop SinkStop = ⊤
RefusedAnswers g why Memory = ⊤
RefusedAnswers g why result = ⊥

-- how giving an event to the sink answers
abbrev pub EmitAnswers : {S : Type 0} → (S → ExecEvent → S → Type 0) → (S → ExecEvent → HoleStop → S → Type 0) → Emission → S → Result ⊤ ExecStop → S → Type 0
EmitAnswers takes refuses g s (Ok _) t = takes s g.event t
EmitAnswers takes refuses g s (Err (Fault why)) t = refuses s g.event stop.TooLong t × (why ≡ too_long g)
EmitAnswers takes refuses g s (Err SinkStop) t = refuses s g.event stop.SinkStop t
EmitAnswers takes refuses g s (Err Memory) t = (why : HoleStop) × refuses s g.event why t

-- the event of an advance may be given
abbrev pub MayEmit : {S : Type 0} → (S → ExecEvent → Type 0) → Progress → S → Type 0
MayEmit may a s = (g : Emission) → (m : Machine) → a ≡ emits g m → may s g.event

-- how one advance with its event answers, and the machine and the sink after it
abbrev pub Steps : {S : Type 0} → (S → ExecEvent → S → Type 0) → (S → ExecEvent → HoleStop → S → Type 0) → Progress → S → Result Bool ExecStop → Machine → S → Type 0
Steps takes refuses a s (Ok true) m t = ((a ≡ continues m) × (t ≡ s)) ⊎ ((g : Emission) × (a ≡ emits g m) × takes s g.event t)
Steps takes refuses a s (Ok false) m t = (a ≡ finishes m.state.steps) × (t ≡ s)
Steps takes refuses a s (Err (Fault why)) m t = ((a ≡ fails why) × (t ≡ s)) ⊎ ((g : Emission) × (n : Machine) × (a ≡ emits g n) × refuses s g.event stop.TooLong t × (why ≡ too_long g))
Steps takes refuses a s (Err SinkStop) m t = (g : Emission) × (n : Machine) × (a ≡ emits g n) × refuses s g.event stop.SinkStop t
Steps takes refuses a s (Err Memory) m t = (t ≡ s) ⊎ ((g : Emission) × (n : Machine) × (why : HoleStop) × (a ≡ emits g n) × refuses s g.event why t)

-- the same of the machine of the code
abbrev pub MachineStepAnswers : {S : Type 0} → (S → ExecEvent → S → Type 0) → (S → ExecEvent → HoleStop → S → Type 0) → ForestData → CodeMachine → S → Result Bool ExecStop → CodeMachine → S → Type 0
MachineStepAnswers takes refuses forest m s result n t = Steps takes refuses (next_progress forest m) s result (machine_view n) t
