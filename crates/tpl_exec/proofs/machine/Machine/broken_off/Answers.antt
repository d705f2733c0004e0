use Rattle.std.proofs.Common.{◌≡◌, suc, List, ◌∷◌, length, ap, sym, ◌∙◌, arith}
use Rattle.tpl_exec.specs.Machine.{Machine, loop_broken_off, leaving}
use Rattle.tpl_exec.specs.MachineView.{body_nodes, frames_view, machine_view}
use Rattle.tpl_exec.specs.Variables.{outer_view}
use Rattle.tpl_exec.specs.declared.frame.Frame.{Frame}
use Rattle.tpl_exec.specs.declared.frame.Frame.TheVariants as frame
use Rattle.tpl_exec.proofs.Leaving.{off_after}
use Rattle.tpl_exec.proofs.machine.Machine.broken_off.Goals as goal

pub loop-part-smaller : goal.loop-part-smaller
loop-part-smaller c =
    let l = c.loop-part in
    let nodes = body_nodes l.self.body in
    let popped : l.self.frames ≡ frame.Part c.in-Some-Part.part ∷ c.pop.new.self = c.in-Some-Part.ensures ∙ ap (λ (f : Frame). f ∷ c.pop.new.self) c.in-Some-Part.field-0-is in
    let now : length (machine_view c.after_part.new.self).frames ≡ length (frames_view nodes c.pop.new.self) = ap (λ (v : Machine). length v.frames) c.after_part.ensures in
    let before : length (frames_view nodes l.self.frames) ≡ suc (length (frames_view nodes c.pop.new.self)) = ap (λ (fs : List Frame). length (frames_view nodes fs)) popped in
    omega (arith, now, before)

pub loop-part-preserved : goal.loop-part-preserved
loop-part-preserved c =
    let l = c.loop-part in
    let nodes = body_nodes l.self.body in
    let popped : l.self.frames ≡ frame.Part c.in-Some-Part.part ∷ c.pop.new.self = c.in-Some-Part.ensures ∙ ap (λ (f : Frame). f ∷ c.pop.new.self) c.in-Some-Part.field-0-is in
    let step : loop_broken_off c.args.ends (machine_view l.self) (frames_view nodes l.self.frames) ≡ loop_broken_off c.args.ends (leaving (machine_view l.self) (outer_view c.in-Some-Part.part.dot) c.in-Some-Part.part.count) (frames_view nodes c.pop.new.self)
    = ap (λ (fs : List Frame). loop_broken_off c.args.ends (machine_view l.self) (frames_view nodes fs)) popped in
    ap (λ (v : Machine). loop_broken_off c.args.ends v v.frames) c.after_part.ensures
    ∙ sym (off_after c.args.ends (machine_view l.self) (outer_view c.in-Some-Part.part.dot) c.in-Some-Part.part.count (frames_view nodes c.pop.new.self) (frames_view nodes c.pop.new.self))
    ∙ sym step
    ∙ l.invariant
