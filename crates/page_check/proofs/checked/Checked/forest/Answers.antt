use Rattle.std.proofs.Common.{subst}
use Rattle.page_check.specs.CheckedSets.{IsChecked}
use Rattle.page_check.proofs.checked.Checked.forest.Goals as goal

pub returns-clause-checked : goal.returns-clause-checked
returns-clause-checked c = subst IsChecked c.self.view_is c.self.invariant
