-- What a directory and an input give is one execution, which ends in one way.
use Rattle.std.proofs.Common.{◌≡◌, ℕ, List, sym, ap, ◌∙◌, subst}
use Rattle.page_io.specs.FolderContents.{FolderContents}
use Rattle.page_datum.proofs.OneDatum.{one_datum}
use Rattle.page_datum.specs.Data.{Data}
use Rattle.page_datum.specs.Execution.{Execution, done, faulted}
use Rattle.page_datum.specs.declared.fault.ExecFault.{ExecFault}
use Rattle.page_set.proofs.OneExecution.{one-execution}
use Rattle.page_set.specs.Executions.{IsExecution}
use Rattle.page_datum.specs.TemplateFiles.{files_of}
use Rattle.page_tool.specs.Output.{IsRendering}

one_rendering : (h : FolderContents) (dir root i : List ℕ) (a b : Execution) → IsRendering h dir root i a → IsRendering h dir root i b → a ≡ b
one_rendering h dir root i a b x y =
    one-execution (files_of h dir) root x.datum a b x.execution
    (subst (λ (d : Data). IsExecution (files_of h dir) root d b) (one_datum i y.datum x.datum y.read x.read) y.execution)

apart : (fault : ExecFault) → done ≡ faulted fault → ⊥
apart fault e = cc

-- so one that is done meets no fault
pub never_both : {A : Type 0} (h : FolderContents) (dir root i : List ℕ) (a b : Execution) (fault : ExecFault) → IsRendering h dir root i a
    → a.ending ≡ done → IsRendering h dir root i b → b.ending ≡ faulted fault → A
never_both h dir root i a b fault x is y meets =
    absurd (apart fault (sym is ∙ ap (λ (e : Execution). e.ending) (one_rendering h dir root i a b x y) ∙ meets))
