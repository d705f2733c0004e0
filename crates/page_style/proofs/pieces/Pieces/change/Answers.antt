use Rattle.page_style.proofs.Growing.{hold_leads}
use Rattle.page_style.proofs.pieces.Pieces.change.Goals as goal

pub returns-in-Hold : goal.returns-in-Hold
returns-in-Hold c = rw c.in-Hold.is (hold_leads c.args.text.now c.args.part c.args.self.now c.requires.next)
