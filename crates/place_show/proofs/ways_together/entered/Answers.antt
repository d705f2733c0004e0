use Rattle.std.proofs.Common.{◌≡◌, ℕ, ◌∙◌, sym, subst}
use Rattle.place_flow.specs.Transfer.{step_of}
use Rattle.place_flow.specs.declared.step.EdgeStep.TheVariants.{Enters}
use Rattle.place_show.proofs.LeadingTogether.{together-through}
use Rattle.place_show.specs.WaysTogether.{IsGoingTogether, LeadsTogether}
use Rattle.place_show.specs.declared.ways_together.GoingTogether.{GoingTogether}
use Rattle.tpl_paths.specs.Edges.{Point, finish_point}
use Rattle.place_show.proofs.ways_together.entered.Goals as goal

pub returns-in-Some : goal.returns-in-Some
returns-in-Some c = λ up within e at from end passed step ways is.
    let forest = c.args.flows.now in
    let other_step = subst (λ (n : ℕ). step_of forest c.args.at.template e c.args.at.places.other ≡ Enters n c.in-Enters.other) c.if-template-callee.false (sym (c.transfer.ensures e at) ∙ c.in-Enters.is) in
    let through = subst (λ (k : Point). LeadsTogether forest c.args.callee k c.args.place c.in-Enters.other finish_point c.in-Some.exit) c.start.ensures (c.in-Some.ensures forest ways) in
    subst (λ (s : GoingTogether). IsGoingTogether forest s) (sym c.behind.ensures)
    (together-through forest c.args.at.template c.args.number c.args.at.from c.args.at.one c.args.at.other c.args.at.point c.args.at.places e c.args.to c.args.found up at from end passed is
    c.args.callee c.args.place c.in-Enters.other c.in-Some.exit within step other_step through)
