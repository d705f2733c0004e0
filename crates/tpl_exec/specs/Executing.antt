-- How an execution answers, from one state of its sink to another.
use Rattle.std.specs.Prelude.{◌≡◌, ℕ, List, [], ◌++◌, ◌⊎◌, Result, Ok, Err, unwrap_or}
use Rattle.page_datum.specs.View.{view}
use Rattle.page_datum.specs.declared.datum.Datum.{Datum}
use Rattle.page_datum.specs.declared.fault.ExecFault.{ExecFault}
use Rattle.page_datum.specs.declared.fault.FaultKind.TheVariants.{TooLong as TooLongKind}
use Rattle.tpl_exec.specs.Meaning.{finish_of, finished, meaning}
use Rattle.tpl_events.specs.Events.{ExecEvent, Emission}
use Rattle.tpl_events.specs.Sinks.{SinkLeads, SinkRefuses}
use Rattle.tpl_exec.specs.Runs.{Run, faulted}
use Rattle.tpl_events.specs.declared.sink.HoleStop.{HoleStop}
use Rattle.tpl_events.specs.declared.sink.HoleStop.TheVariants as stop
use Rattle.tpl_exec.specs.declared.stop.ExecStop.{ExecStop}
use Rattle.tpl_exec.specs.declared.stop.ExecStop.TheVariants.{Fault, SinkStop, Memory}
use Rattle.tpl_tree.specs.Forests.{ForestData, tree_name_at}

-- the fault of an event that is refused as too long
abbrev pub too_long : Emission → ExecFault
too_long g = record { kind = TooLongKind; template = g.template; line = g.line }

-- the execution of a template of a forest by its number, with a datum
abbrev pub run_of : ForestData → ℕ → Datum → Run
run_of forest root datum = meaning forest (unwrap_or (tree_name_at forest root) []) (view datum)

-- how an execution answers, from one state of its sink to another
abbrev pub RunAnswers : {S : Type 0} → (S → ExecEvent → S → Type 0) → (S → ExecEvent → HoleStop → S → Type 0) → Run → S → S → Result ℕ ExecStop → Type 0
RunAnswers takes refuses run s t (Ok steps) = SinkLeads takes s run.events t × (finish_of run.end ≡ finished steps)
RunAnswers takes refuses run s t (Err (Fault why)) = (SinkLeads takes s run.events t × (run.end ≡ faulted why))
    ⊎ ((g : Emission) × SinkRefuses takes refuses run.events g stop.TooLong s t × (why ≡ too_long g))
RunAnswers takes refuses run s t (Err SinkStop) = (g : Emission) × SinkRefuses takes refuses run.events g stop.SinkStop s t
RunAnswers takes refuses run s t (Err Memory) = ((prefix : List Emission) × (rest : List Emission) × (run.events ≡ prefix ++ rest) × SinkLeads takes s prefix t)
    ⊎ ((g : Emission) × (why : HoleStop) × SinkRefuses takes refuses run.events g why s t)

-- how the execution of a template by its number answers
abbrev pub ExecuteAnswers : {S : Type 0} → (S → ExecEvent → S → Type 0) → (S → ExecEvent → HoleStop → S → Type 0) → ForestData → ℕ → Datum → S → S → Result ℕ ExecStop → Type 0
ExecuteAnswers takes refuses forest root datum s t result = RunAnswers takes refuses (run_of forest root datum) s t result
