use Rattle.tpl_exec.specs.MachineView.{machine_view}
use Rattle.tpl_exec.specs.Executing.{run_of}
use Rattle.tpl_exec.proofs.Executions.{came_nearer, may_step, stays_bounded, was_done, was_stopped, went_on}
use Rattle.tpl_exec.proofs.exec.execute.Goals as goal

pub step-requires : goal.step-requires
step-requires g c =
    let forest = c.args.forest.now in
    may_step g.K.HoleSink.may g.K.HoleSink.takes forest (run_of forest c.args.root c.args.datum.now) c.args.sink.now c.loop-machine.sink (machine_view c.loop-machine.machine) c.loop-machine.invariant.reaches

pub loop-machine-smaller : goal.loop-machine-smaller
loop-machine-smaller g c =
    came_nearer g.K.HoleSink.takes g.K.HoleSink.refuses c.args.forest.now c.loop-machine.sink c.step.new.sink (machine_view c.loop-machine.machine) (machine_view c.step.new.run)
    c.loop-machine.invariant.steps (rw c.in-Ok-true.field-0-test at c.in-Ok-true.ensures)

pub loop-machine-preserved : goal.loop-machine-preserved
loop-machine-preserved g c =
    let forest = c.args.forest.now in
    let stepped = rw c.in-Ok-true.field-0-test at c.in-Ok-true.ensures in
    let before = machine_view c.loop-machine.machine in
    let after = machine_view c.step.new.run in
    record {
      reaches = went_on g.K.HoleSink.may g.K.HoleSink.takes g.K.HoleSink.refuses forest (run_of forest c.args.root c.args.datum.now) c.args.sink.now c.loop-machine.sink c.step.new.sink before after c.loop-machine.invariant.reaches stepped;
      steps = stays_bounded g.K.HoleSink.takes g.K.HoleSink.refuses forest c.loop-machine.sink c.step.new.sink before after c.loop-machine.invariant.steps stepped;
    }

pub returns-in-Ok-false : goal.returns-in-Ok-false
returns-in-Ok-false g c =
    let forest = c.args.forest.now in
    rw c.steps.ensures (was_done g.K.HoleSink.may g.K.HoleSink.takes g.K.HoleSink.refuses forest (run_of forest c.args.root c.args.datum.now) c.args.sink.now c.loop-machine.sink c.step.new.sink
    (machine_view c.loop-machine.machine) (machine_view c.step.new.run) c.loop-machine.invariant.reaches (rw c.in-Ok-false.field-0-test at c.in-Ok-false.ensures))

pub returns-in-Err-step : goal.returns-in-Err-step
returns-in-Err-step g c =
    let forest = c.args.forest.now in
    was_stopped g.K.HoleSink.may g.K.HoleSink.takes g.K.HoleSink.refuses forest (run_of forest c.args.root c.args.datum.now) c.args.sink.now c.loop-machine.sink c.step.new.sink
    (machine_view c.loop-machine.machine) (machine_view c.step.new.run) c.in-Err-step.stop c.loop-machine.invariant.reaches c.in-Err-step.ensures
