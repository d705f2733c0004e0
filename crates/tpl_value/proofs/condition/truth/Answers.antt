use Rattle.std.proofs.Common.{◌∙◌, ap, not}
use Rattle.tpl_value.specs.Truth.{has_entries}
use Rattle.tpl_value.proofs.Parts.{some-entries, some-items}
use Rattle.tpl_value.proofs.condition.truth.Goals as goal

pub returns-in-Dict : goal.returns-in-Dict
returns-in-Dict c = rw c.in-Dict.is (ap not c.is_empty-in-Dict.ensures ∙ some-entries c.as_slice.result.now ∙ ap has_entries c.as_slice.ensures.all)

pub returns-in-List : goal.returns-in-List
returns-in-List c = rw c.in-List.is (ap not c.is_empty-in-List.ensures ∙ some-items c.in-List.values.now)
