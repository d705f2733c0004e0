-- How reading the datum that an input is answers.
use Rattle.std.specs.Prelude.{ℕ, List, Option, IfSome, Result, Ok, Err, ⊤}
use Rattle.page_datum.specs.Reading.{IsDatum, IsNoDatum}
use Rattle.page_datum.specs.View.{view}
use Rattle.page_datum.specs.declared.datum.Datum.{Datum}
use Rattle.page_datum.specs.declared.refused.DataRefused.{DataRefused}
use Rattle.page_tool.specs.declared.stop.CommandStop.{CommandStop}
use Rattle.page_tool.specs.declared.stop.CommandStop.TheVariants as stop

-- an input is refused so, where it tells its bytes; and some bytes always
abbrev pub IsInputRefusedFor : Option (List ℕ) → DataRefused → Type 0
IsInputRefusedFor left why = ((bytes : List ℕ) × IsNoDatum why bytes) × IfSome left (IsNoDatum why)

abbrev pub ReadDataAnswers : Option (List ℕ) → Result Datum CommandStop → Type 0
ReadDataAnswers left (Ok datum) = IfSome left (λ input. IsDatum input (view datum))
ReadDataAnswers left (Err (stop.Data why)) = IsInputRefusedFor left why
ReadDataAnswers left (Err stop.Read) = ⊤
ReadDataAnswers left (Err stop.Memory) = ⊤
ReadDataAnswers left (Err _) = ⊥
