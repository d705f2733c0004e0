use Rattle.std.proofs.Common.{sym, subst}
use Rattle.place_trace.specs.UnchosenWays.{IsGoingUnchosen}
use Rattle.place_trace.specs.declared.unchosen_ways.GoingUnchosen.{GoingUnchosen}
use Rattle.place_trace.proofs.UnchosenLeads.{leads-along}
use Rattle.place_trace.proofs.unchosen_ways.reached.Goals as goal

pub returns-in-None : goal.returns-in-None
returns-in-None c = λ up e at from end step is.
    subst (λ (s : GoingUnchosen). IsGoingUnchosen c.args.flows.now s) (sym c.gone.ensures)
    (leads-along c.args.flows.now c.args.at.template c.args.number c.args.at.from c.args.at.entry c.args.at.point c.args.at.place e c.args.to c.args.place c.choice.result
    up at from end (c.choice.ensures e at) c.in-None.is step is)
