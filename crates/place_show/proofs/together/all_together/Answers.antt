use Rattle.std.proofs.Common.{refl}
use Rattle.place_core.proofs.Semilattices.{of_some}
use Rattle.place_show.specs.Together.{GoOnTogether}
use Rattle.place_show.proofs.together.all_together.Goals as goal

pub loop-step-preserved : goal.loop-step-preserved
loop-step-preserved c = (
  c.in_ok-now.ensures.ways c.loop-step.invariant.0,
  λ w0 v0 h.
      of_some (GoOnTogether c.args.flows.now w0 v0 c.next_together.new.one c.next_together.new.other) c.in_ok-now.field-0 c.in-Some.now
      (c.in_ok-now.ensures.goes c.loop-step.invariant.0 w0 v0 (c.loop-step.invariant.1 w0 v0 h)) c.in-Some.is,
)

pub returns-then-back_together : goal.returns-then-back_together
returns-then-back_together c = λ w0 v0 h. c.if-back_together.ensures refl w0 v0 c.loop-step.last (c.loop-step.invariant.1 w0 v0 h)
