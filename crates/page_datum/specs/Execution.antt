-- What executing a root of a set of pages with a datum gives, and how `page` answers by it.
use Rattle.std.specs.Prelude.{◌≡◌, ◌≢◌, ℕ, List, length, Option, Result, Ok, Err}
use Rattle.std.specs.Io.KnownBytes.{Appends}
use Rattle.page_io.specs.Whole.{AppendsPart}
use Rattle.page_datum.specs.declared.fault.ExecFault.{ExecFault}
use Rattle.page_datum.specs.declared.pages.PageEnd.{PageEnd}
use Rattle.page_datum.specs.declared.pages.PageStop.{PageStop}
use Rattle.page_datum.specs.declared.pages.PageStop.TheVariants.{NoTemplate, Fault, SinkStop}
use Rattle.page_datum.specs.declared.pages.PageStop.TheVariants.{Memory}

-- how an execution ends: it is done, there is no such root, or it meets a fault
pub data Ending : Type 0 where
  done : Ending
  no_root : Ending
  faulted : ExecFault → Ending

-- the bytes of the page, which are none where it meets a fault, the steps up to the end, and the end
pub record Execution : Type 0 where
  pub bytes : List ℕ
  pub steps : ℕ
  pub ending : Ending

-- what a sink has got, before and after, with this answer
abbrev pub PageAnswers : Execution → Option (List ℕ) → Option (List ℕ) → Result PageEnd PageStop
    → Type 0
PageAnswers e old new (Ok end) =
    (e.ending ≡ done) × Appends old new e.bytes × (end.bytes ≡ length e.bytes)
    × (end.steps ≡ e.steps)
PageAnswers e old new (Err NoTemplate) = (e.ending ≡ no_root) × (new ≡ old)
PageAnswers e old new (Err (Fault fault)) = (e.ending ≡ faulted fault) × AppendsPart old new e.bytes
PageAnswers e old new (Err SinkStop) = (e.ending ≢ no_root) × AppendsPart old new e.bytes
PageAnswers e old new (Err Memory) = AppendsPart old new e.bytes
