use Rattle.std.specs.Prelude.{All}
use Rattle.case_pages.proofs.FreshDoors.{IsFresh}
use Rattle.case_pages.proofs.net.net_of.Given as goal

-- the doors so far are as they were made
abbrev pub invariant-loop-door : goal.invariant-loop-door
invariant-loop-door l = All IsFresh l.doors
