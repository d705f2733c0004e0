-- That the executions of files are by the files alone.
use Rattle.std.specs.Prelude.{◌≡◌, ℕ, List}
use Rattle.page_datum.specs.Data.{Data}
use Rattle.page_datum.specs.Execution.{Execution}
use Rattle.page_datum.specs.declared.files.Files.{Files}
use Rattle.page_set.specs.Executions.{IsExecution}

-- A root of files gives one thing for a datum.
abbrev pub ExecutionsAreOne : Type 0
ExecutionsAreOne = (files : Files) (root : List ℕ) (datum : Data) (a b : Execution)
    → IsExecution files root datum a → IsExecution files root datum b → a ≡ b
