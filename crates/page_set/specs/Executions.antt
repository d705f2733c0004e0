-- What a root of files gives for a datum, and what is promised of its page.
use Rattle.std.specs.Prelude.{◌≡◌, ℕ, true, List, [], if◌then◌else◌}
use Rattle.page_check.specs.Definitions.{IsForestOf}
use Rattle.page_check.specs.Roots.{is_root}
use Rattle.page_datum.specs.Data.{Data}
use Rattle.page_datum.specs.Execution.{Execution, no_root}
use Rattle.page_datum.specs.declared.files.Files.{Files}
use Rattle.page_datum.specs.declared.files.NamedFile.{NamedFile}
use Rattle.page_path.specs.Pages.{execution}
use Rattle.page_path.specs.Soundness as page
use Rattle.tpl_tree.specs.Forests.{ForestData}

-- a name that is no root's gives no page
abbrev pub no_page : Execution
no_page = record { bytes = []; steps = 0; ending = no_root }

-- what a root of files with these templates gives with a datum: the execution of its template
abbrev pub execution_of : List NamedFile → ForestData → List ℕ → Data → Execution
execution_of files forest root datum =
    if is_root files root then execution forest root datum else no_page

-- likewise, by the files alone
pub record IsExecution (files : Files) (root : List ℕ) (datum : Data) (e : Execution) : Type 0 where
  pub forest : ForestData
  pub templates : IsForestOf files.list forest
  pub gives : e ≡ execution_of files.list forest root datum

-- The root is one of the files', and its page is sound for their templates: it has the shape of the
-- path that the execution took, whatever the data, and each value is plain in its place and reads
-- back there.
pub record IsSoundPageOfFiles (files : Files) (root : List ℕ) (datum : Data) (bytes : List ℕ) : Type 0 where
  pub known : is_root files.list root ≡ true
  pub forest : ForestData
  pub templates : IsForestOf files.list forest
  pub sound : page.IsSound forest root datum bytes
