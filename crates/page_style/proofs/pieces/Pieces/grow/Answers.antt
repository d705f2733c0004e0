use Rattle.page_style.proofs.Growing.{grow_leads}
use Rattle.page_style.proofs.pieces.Pieces.grow.Goals as goal

pub returns : goal.returns
returns c = λ text n. grow_leads text c.args.part c.args.self.now n
