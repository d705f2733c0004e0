use Rattle.std.proofs.Common.{arith, rules}
use Rattle.tpl_build.proofs.Filling.{filled_past, filled_at}
use Rattle.tpl_build.proofs.definitions.filled.Goals as goal

pub returns-then-slot-len : goal.returns-then-slot-len
returns-then-slot-len c = grind (rules, arith, c, filled_past c.args.slot c.args.blank c.args.tree c.args.found)

pub returns : goal.returns
returns c = grind (rules, arith, c, filled_at c.args.slot c.args.blank c.args.tree c.args.found c.index_mut.result.now)
