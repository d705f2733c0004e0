use Rattle.std.proofs.Common.{◌-◌, ap}
use Rattle.tpl_value.proofs.Cuts.{part, between}
use Rattle.tpl_value.proofs.cut.cut_values.Goals as goal

pub returns : goal.returns
returns c = ap part (between (c.args.to - c.args.from) c.args.from c.args.values.now)
