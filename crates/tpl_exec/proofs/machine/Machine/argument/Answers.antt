use Rattle.tpl_exec.proofs.machine.Machine.argument.Goals as goal

pub returns-in-Some : goal.returns-in-Some
returns-in-Some c = rw c.in-Some.is c.evaluated.ensures
