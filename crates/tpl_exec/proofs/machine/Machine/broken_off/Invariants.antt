use Rattle.std.proofs.Common.{◌≡◌, length}
use Rattle.tpl_exec.specs.Machine.{loop_broken_off}
use Rattle.tpl_exec.specs.MachineView.{machine_view}
use Rattle.tpl_exec.proofs.machine.Machine.broken_off.Given as goal

abbrev pub invariant-loop-part : goal.invariant-loop-part
invariant-loop-part l = loop_broken_off l.ends (machine_view l.self) (machine_view l.self).frames ≡ loop_broken_off l.ends (machine_view l.fn.self) (machine_view l.fn.self).frames

abbrev pub decreases-loop-part : goal.decreases-loop-part
decreases-loop-part l = length (machine_view l.self).frames
