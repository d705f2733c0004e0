use Rattle.place_chart.specs.Summaries.{HasNoInner}
use Rattle.place_chart.proofs.summary.blank_inner.Given as goal

abbrev pub invariant-loop-number : goal.invariant-loop-number
invariant-loop-number l = HasNoInner l.inner
