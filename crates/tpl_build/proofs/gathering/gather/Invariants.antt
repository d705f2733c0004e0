use Rattle.tpl_build.specs.Gathering.{all_defs, HasStanding}
use Rattle.tpl_build.proofs.gathering.gather.Given as goal

abbrev pub invariant-loop-file : goal.invariant-loop-file
invariant-loop-file l = HasStanding (all_defs l.yielded) l.trees.entries
