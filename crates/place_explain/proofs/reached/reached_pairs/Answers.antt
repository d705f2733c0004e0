use Rattle.std.proofs.Common.{arith}
use Rattle.place_explain.proofs.Reaching.{searched_all, searched_more}
use Rattle.place_explain.proofs.reached.reached_pairs.Goals as goal

pub loop-next-preserved : goal.loop-next-preserved
loop-next-preserved c =
    searched_more c.args.forest.now c.args.chart.now c.args.start c.loop-next.next c.number-n.result c.loop-next.met c.add_called.new.met c.loop-next.invariant c.number-n.ensures c.in_ok-add_called.ensures

pub returns : goal.returns
returns c =
    searched_all c.args.forest.now c.args.chart.now c.args.start c.loop-next.next c.loop-next.met c.into_list.result.items c.loop-next.invariant (omega (arith, c.count.ensures.count, c.loop-next-test.false))
    c.into_list.ensures.list c.into_list.ensures.once c.into_list.ensures.below
