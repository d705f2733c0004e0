use Rattle.std.proofs.Common.{◌≡◌, ◌++◌, drop, true}
use Rattle.place_explain.specs.ChainText.{sans_text}
use Rattle.place_explain.proofs.chains.push_sans.Given as goal

abbrev pub invariant-loop-san : goal.invariant-loop-san
invariant-loop-san l = l.out ++ sans_text l.first (drop l.san-index l.sans) ≡ l.initial.out ++ sans_text true l.sans
