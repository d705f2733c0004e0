use Rattle.san_url.proofs.Fronts.{IsPassed}
use Rattle.san_url.proofs.filter.before_colon.Given as goal

abbrev pub invariant-loop-at : goal.invariant-loop-at
invariant-loop-at l = IsPassed l.text l.at
