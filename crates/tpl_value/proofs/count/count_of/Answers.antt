use Rattle.std.proofs.Common.{rules}
use Rattle.tpl_value.proofs.Cuts.{counted}
use Rattle.tpl_value.proofs.count.count_of.Goals as goal

pub returns : goal.returns
returns c = rw (counted c.args.values.now) (search rules)
