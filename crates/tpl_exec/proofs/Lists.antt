-- What a list has after an execution.
use Rattle.std.proofs.Common.{ℕ, Result, Ok, Err, inl, inr}
use Rattle.tpl_events.specs.Lists.{ListDeclines, ListKeeps}
use Rattle.tpl_events.specs.declared.list_sink.ListSink.{ListSink}
use Rattle.tpl_events.specs.declared.sink.HoleStop.TheVariants as stop
use Rattle.tpl_events.proofs.Lists.{has_all, has_prefix, has_some, has_up_to}
use Rattle.tpl_exec.specs.Executing.{RunAnswers}
use Rattle.tpl_exec.specs.Lists.{Lists}
use Rattle.tpl_exec.specs.Runs.{Run}
use Rattle.tpl_exec.specs.declared.stop.ExecStop.{ExecStop}
use Rattle.tpl_exec.specs.declared.stop.ExecStop.TheVariants.{Fault, SinkStop, Memory}

pub lists_run : (run : Run) (s t : ListSink) (answer : Result ℕ ExecStop) → RunAnswers ListKeeps ListDeclines run s t answer → Lists run s answer t
lists_run run s t (Ok steps) e = has_all run.events s t e.0
lists_run run s t (Err (Fault why)) (inl e) = inl (has_all run.events s t e.0)
lists_run run s t (Err (Fault why)) (inr e) = inr (has_up_to run.events s t e.0 stop.TooLong (λ same. cc) e.1)
lists_run run s t (Err SinkStop) e = has_up_to run.events s t e.0 stop.SinkStop (λ same. cc) e.1
lists_run run s t (Err Memory) (inl e) = has_prefix run.events s t e.0 e.1 e.2 e.3
lists_run run s t (Err Memory) (inr e) = has_some run.events s t e.0 e.1 e.2
