use Rattle.place_show.proofs.LeadingTogether.{together-nowhere}
use Rattle.place_show.proofs.ways_together.begun.Goals as goal

pub returns : goal.returns
returns c = λ forest. together-nowhere forest c.args.template c.args.from c.args.one c.args.other
