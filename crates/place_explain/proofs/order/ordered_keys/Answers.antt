use Rattle.place_explain.proofs.Orders.{ordered}
use Rattle.place_explain.proofs.order.ordered_keys.Goals as goal

pub returns : goal.returns
returns c = ordered c.args.forest.now c.args.chart.now c.args.pairs.now c.in_ok-keys.keys.items c.sort_unstable.new.self.items c.in_ok-keys.ensures c.sort_unstable.ensures.permutation c.sort_unstable.ensures.sorted
