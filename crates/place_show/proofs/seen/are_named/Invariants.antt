use Rattle.std.proofs.Common.{All, take}
use Rattle.place_show.specs.Showings.{IsNamedTemplate}
use Rattle.place_show.proofs.seen.are_named.Given as goal

abbrev pub invariant-loop-choice : goal.invariant-loop-choice
invariant-loop-choice l = All (IsNamedTemplate l.forest) (take l.choice-index l.chosen)
