use Rattle.std.proofs.Common.{List, [], ◌∷◌, ◌++◌, append_assoc, subst}
use Rattle.tpl_build.specs.Gathering.{HasStanding}
use Rattle.tpl_build.specs.declared.definition.Def.{Def}
use Rattle.tpl_build.proofs.gathering.add_file.Goals as goal

pub loop-def-preserved : goal.loop-def-preserved
loop-def-preserved c before h =
    let added = c.in_ok-add.ensures (before ++ c.loop-def.yielded) (c.loop-def.invariant before h) in
    subst (λ (defs : List Def). HasStanding defs c.add.new.trees.entries) (append_assoc before c.loop-def.yielded (c.in-Some.def ∷ [])) added
