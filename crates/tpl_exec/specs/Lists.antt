-- What a list has after an execution.
use Rattle.std.specs.Prelude.{ℕ, ◌⊎◌, Result, Ok, Err}
use Rattle.page_datum.specs.declared.datum.Datum.{Datum}
use Rattle.tpl_events.specs.Lists.{ListDeclines, HasAll, HasSome, HasUpTo, ListKeeps}
use Rattle.tpl_events.specs.declared.list_sink.ListSink.{ListSink}
use Rattle.tpl_events.specs.declared.sink.HoleStop.TheVariants as stop
use Rattle.tpl_exec.specs.Executing.{ExecuteAnswers}
use Rattle.tpl_exec.specs.Runs.{Run}
use Rattle.tpl_exec.specs.declared.stop.ExecStop.{ExecStop}
use Rattle.tpl_exec.specs.declared.stop.ExecStop.TheVariants.{Fault, SinkStop, Memory}
use Rattle.tpl_tree.specs.Forests.{ForestData}

-- what a list has after an execution that answers so
abbrev pub Lists : Run → ListSink → Result ℕ ExecStop → ListSink → Type 0
Lists run s (Ok steps) t = HasAll run.events s t
Lists run s (Err (Fault why)) t = HasAll run.events s t ⊎ HasUpTo run.events stop.TooLong s t
Lists run s (Err SinkStop) t = HasUpTo run.events stop.SinkStop s t
Lists run s (Err Memory) t = HasSome run.events s t

-- how the execution of a template into a list answers
abbrev pub ExecuteIntoAnswers : ForestData → ℕ → Datum → ListSink → ListSink → Result ℕ ExecStop → Type 0
ExecuteIntoAnswers forest root datum s t result = ExecuteAnswers ListKeeps ListDeclines forest root datum s t result
