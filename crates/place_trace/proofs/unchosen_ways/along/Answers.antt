use Rattle.std.proofs.Common.{◌∙◌, sym, subst}
use Rattle.place_trace.specs.UnchosenWays.{IsGoingUnchosen, LeadsUnchosen}
use Rattle.place_trace.specs.declared.unchosen_ways.GoingUnchosen.{GoingUnchosen}
use Rattle.place_trace.proofs.UnchosenLeads.{leads-through}
use Rattle.tpl_paths.specs.Edges.{Point, finish_point}
use Rattle.place_trace.proofs.unchosen_ways.along.Goals as goal

pub returns-in-Some : goal.returns-in-Some
returns-in-Some c = λ up within e at from end ways is.
    subst (λ (s : GoingUnchosen). IsGoingUnchosen c.args.flows.now s) (sym c.gone.ensures)
    (leads-through c.args.flows.now c.args.at.template c.args.number c.args.at.from c.args.at.entry c.args.at.point c.args.at.place e c.args.to c.in-Enters.callee c.in-Enters.place c.in-Some.exit
    up within at from end
    (sym (c.transfer.ensures e at) ∙ c.in-Enters.is)
    (subst (λ (k : Point). LeadsUnchosen c.args.flows.now c.in-Enters.callee k c.in-Enters.place finish_point c.in-Some.exit) c.start.ensures (c.in-Some.ensures c.args.flows.now ways)) is)
