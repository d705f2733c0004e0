use Rattle.std.proofs.Common.{◌≡◌, length}
use Rattle.tpl_build.specs.Building.{with_end as with_end_of}
use Rattle.tpl_build.proofs.actions.close.Given as goal

abbrev pub invariant-loop-innermost : goal.invariant-loop-innermost
invariant-loop-innermost l = with_end_of l.opening l.builder ≡ with_end_of l.opening l.initial.builder

abbrev pub decreases-loop-innermost : goal.decreases-loop-innermost
decreases-loop-innermost l = length l.builder.frames
