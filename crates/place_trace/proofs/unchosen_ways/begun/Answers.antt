use Rattle.place_trace.proofs.UnchosenLeads.{leads-nowhere}
use Rattle.place_trace.proofs.unchosen_ways.begun.Goals as goal

pub returns : goal.returns
returns c = λ forest. leads-nowhere forest c.args.template c.args.from c.args.entry
