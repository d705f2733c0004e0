use Rattle.std.proofs.Common.{List, ◌++◌}
use Rattle.tpl_build.specs.Gathering.{HasStanding}
use Rattle.tpl_build.specs.declared.definition.Def.{Def}
use Rattle.tpl_build.proofs.gathering.add_file.Given as goal

abbrev pub invariant-loop-def : goal.invariant-loop-def
invariant-loop-def l = (before : List Def) → HasStanding before l.fn.trees.entries → HasStanding (before ++ l.yielded) l.trees.entries
