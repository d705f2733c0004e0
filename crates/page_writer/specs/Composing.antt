-- How composing the page of a root answers.
use Rattle.std.specs.Prelude.{◌≡◌, ℕ, List, Result, Ok, Err, string_bytes, ⊤}
use Rattle.page_datum.specs.Data.{Data}
use Rattle.page_datum.specs.Execution.{done, faulted}
use Rattle.page_path.specs.Laws.{IsRootOf}
use Rattle.page_path.specs.Pages.{execution}
use Rattle.page_path.specs.Soundness.{IsSound}
use Rattle.page_writer.specs.declared.composing.Composed.{Composed}
use Rattle.place_infer.specs.ChartViews.{ChartData}
use Rattle.tpl_exec.specs.declared.stop.ExecStop.{ExecStop}
use Rattle.tpl_exec.specs.declared.stop.ExecStop.TheVariants.{Fault, Memory, SinkStop}
use Rattle.tpl_tree.specs.Forests.{ForestData}

-- the root is one of a set that has this chart
abbrev pub IsCharted : ForestData → ChartData → List ℕ → Type 0
IsCharted forest chart root = (names : List (List ℕ)) × IsRootOf forest names chart root

-- the page of a root with a datum, whole and sound
pub record IsComposed (forest : ForestData) (root : List ℕ) (datum : Data) (made : Composed) : Type 0 where
  pub done : (execution forest root datum).ending ≡ done
  pub page : string_bytes made.page ≡ (execution forest root datum).bytes
  pub steps : made.steps ≡ (execution forest root datum).steps
  pub sound : IsSound forest root datum (string_bytes made.page)

-- likewise, or the fault of the execution, or out of memory
abbrev pub ComposeAnswers : ForestData → List ℕ → Data → Result Composed ExecStop → Type 0
ComposeAnswers forest root datum (Ok made) = IsComposed forest root datum made
ComposeAnswers forest root datum (Err (Fault why)) = (execution forest root datum).ending ≡ faulted why
ComposeAnswers forest root datum (Err SinkStop) = ⊥
ComposeAnswers forest root datum (Err Memory) = ⊤
