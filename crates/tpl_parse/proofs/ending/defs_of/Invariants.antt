use Rattle.std.proofs.Common.{◌≡◌}
use Rattle.tpl_parse.specs.Endings.{defs_of as defs_in}
use Rattle.tpl_parse.proofs.ending.defs_of.Given as goal

abbrev pub invariant-loop-one : goal.invariant-loop-one
invariant-loop-one l = l.defs ≡ defs_in l.yielded
