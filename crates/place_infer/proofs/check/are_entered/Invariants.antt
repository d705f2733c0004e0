use Rattle.std.proofs.Common.{All, take}
use Rattle.place_chart.specs.Charts.{IsEntered}
use Rattle.place_chart.specs.Summaries.{chart_of}
use Rattle.place_infer.proofs.check.are_entered.Given as goal

abbrev pub invariant-loop-root : goal.invariant-loop-root
invariant-loop-root l = All (λ t. IsEntered l.flows (chart_of l.summaries) t l.first) (take l.root-index l.roots)
