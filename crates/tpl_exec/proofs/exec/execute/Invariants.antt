use Rattle.std.proofs.Common.{◌≤◌}
use Rattle.tpl_eval.specs.Functions.{max_steps}
use Rattle.tpl_exec.specs.Machine.{machine_run}
use Rattle.tpl_exec.specs.MachineView.{machine_view}
use Rattle.tpl_exec.specs.Executing.{run_of}
use Rattle.tpl_exec.proofs.MachineShrinks.{weight}
use Rattle.tpl_exec.proofs.Reaching.{Reaches}
use Rattle.tpl_exec.proofs.exec.execute.Given as goal

abbrev pub invariant-loop-machine : goal.invariant-loop-machine
invariant-loop-machine g l = record {
  reaches : Reaches g.K.HoleSink.may g.K.HoleSink.takes (run_of l.forest l.root l.datum) l.fn.sink l.sink (machine_run l.forest (machine_view l.machine));
  steps : (machine_view l.machine).state.steps ≤ max_steps;
}

abbrev pub decreases-loop-machine : goal.decreases-loop-machine
decreases-loop-machine g l = weight (machine_view l.machine)
