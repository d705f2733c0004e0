use Rattle.tpl_exec.proofs.machine.Machine.control_advance.Goals as goal

pub returns-in-Err : goal.returns-in-Err
returns-in-Err c = rw c.in-Declare.is (c.in-Err.ensures _)

pub returns-in-Err-evaluated : goal.returns-in-Err-evaluated
returns-in-Err-evaluated c = rw c.in-Assign.is (c.in-Err-evaluated.ensures _)

pub returns-in-Err-evaluated-2 : goal.returns-in-Err-evaluated-2
returns-in-Err-evaluated-2 c = rw c.in-If.is (c.in-Err-evaluated-2.ensures _)

pub returns-in-Err-evaluated-3 : goal.returns-in-Err-evaluated-3
returns-in-Err-evaluated-3 c = rw c.in-With.is (c.in-Err-evaluated-3.ensures _)

pub returns-in-Err-evaluated-4 : goal.returns-in-Err-evaluated-4
returns-in-Err-evaluated-4 c = rw c.in-Range.is (c.in-Err-evaluated-4.ensures _)

pub returns-in-Err-argument : goal.returns-in-Err-argument
returns-in-Err-argument c = rw c.in-Template.is (c.in-Err-argument.ensures _)
