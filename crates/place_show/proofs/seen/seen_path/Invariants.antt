use Rattle.std.proofs.Common.{◌≡◌, ◌++◌, drop, map}
use Rattle.place_show.specs.Showings.{seen_choice}
use Rattle.place_show.proofs.seen.seen_path.Given as goal

abbrev pub invariant-loop-choice : goal.invariant-loop-choice
invariant-loop-choice l = l.path ++ map (seen_choice l.forest) (drop l.choice-index l.chosen) ≡ map (seen_choice l.forest) l.chosen
