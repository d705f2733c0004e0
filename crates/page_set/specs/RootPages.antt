-- How composing the page of a root of a set answers.
use Rattle.std.specs.Prelude.{◌≡◌, ℕ, true, false, List, Result, Ok, Err}
use Rattle.page_check.specs.CheckedSets.{CheckedData}
use Rattle.page_check.specs.Roots.{is_root}
use Rattle.page_datum.specs.Data.{Data}
use Rattle.page_datum.specs.Execution.{faulted}
use Rattle.page_datum.specs.declared.pages.PageStop.{PageStop}
use Rattle.page_datum.specs.declared.pages.PageStop.TheVariants.{Fault, Memory, NoTemplate, SinkStop}
use Rattle.page_path.specs.Pages.{execution}
use Rattle.page_writer.specs.Composing.{IsComposed}
use Rattle.page_writer.specs.declared.composing.Composed.{Composed}

-- the page of a root, or why there is none
abbrev pub RootPageAnswers : CheckedData → List ℕ → Data → Result Composed PageStop → Type 0
RootPageAnswers set root datum (Ok made) =
    (is_root set.files.list root ≡ true) × IsComposed set.forest root datum made
RootPageAnswers set root datum (Err NoTemplate) = is_root set.files.list root ≡ false
RootPageAnswers set root datum (Err (Fault fault)) =
    (is_root set.files.list root ≡ true)
    × ((execution set.forest root datum).ending ≡ faulted fault)
RootPageAnswers set root datum (Err SinkStop) = ⊥
RootPageAnswers set root datum (Err Memory) = is_root set.files.list root ≡ true

-- where the sink stopped the page was there, and is written in part; and else nothing is written
abbrev pub Unwritten : PageStop → Type 0 → Type 0 → Type 0
Unwritten SinkStop whole same = whole
Unwritten _ whole same = same
