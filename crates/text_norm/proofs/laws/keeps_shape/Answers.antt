use Rattle.text_norm.proofs.Keeps.{keeps-shape}
use Rattle.text_norm.proofs.laws.keeps_shape.Goals as goal

pub returns : goal.returns
returns c = keeps-shape
