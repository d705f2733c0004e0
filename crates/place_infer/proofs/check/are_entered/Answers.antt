use Rattle.std.proofs.Common.{All, ℕ, take_all, subst}
use Rattle.std.proofs.lemmas.List.Elements.{All-more}
use Rattle.place_chart.specs.Charts.{IsEntered}
use Rattle.place_chart.specs.Summaries.{chart_of}
use Rattle.place_infer.proofs.check.are_entered.Goals as goal

pub loop-root-preserved : goal.loop-root-preserved
loop-root-preserved c = All-more (λ (t : ℕ). IsEntered c.args.flows.now (chart_of c.args.summaries.now) t c.args.first) c.args.roots.now c.loop-root.root-index 0 c.loop-root-test.true c.loop-root.invariant (c.is_entered.ensures.0 c.if-not-is_entered.false)

pub returns : goal.returns
returns c = λ t. subst (All (λ (r : ℕ). IsEntered c.args.flows.now (chart_of c.args.summaries.now) r c.args.first)) (take_all c.loop-root.root-index c.args.roots.now c.loop-root-test.false) c.loop-root.invariant
