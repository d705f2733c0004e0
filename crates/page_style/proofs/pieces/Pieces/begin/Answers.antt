use Rattle.page_style.proofs.Growing.{begin_leads}
use Rattle.page_style.proofs.pieces.Pieces.begin.Goals as goal

pub returns : goal.returns
returns c =
    begin_leads c.args.text.now c.args.part c.args.self.now c.args.kind c.complete.new.self.done c.complete.new.self.from c.requires.next
    c.in_ok-complete.ensures.done c.in_ok-complete.ensures.from
