-- A root of files gives one thing for a datum, since files have one list of templates.
use Rattle.std.proofs.Common.{ap, sym, ◌∙◌}
use Rattle.page_check.proofs.OneList.{one_set}
use Rattle.page_set.specs.Executions.{execution_of}
use Rattle.page_set.specs.Laws.{ExecutionsAreOne}
use Rattle.tpl_tree.specs.Forests.{ForestData}

pub one-execution : ExecutionsAreOne
one-execution files root datum a b is other =
    is.gives
    ∙ ap (λ (forest : ForestData). execution_of files.list forest root datum) (one_set files.list is.forest other.forest is.templates other.templates)
    ∙ sym other.gives
