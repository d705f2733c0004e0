use Rattle.tpl_exec.proofs.machine.Machine.node_advance.Goals as goal

pub returns-in-Err : goal.returns-in-Err
returns-in-Err c = rw c.in-Action.is (c.in-Err.ensures _)
