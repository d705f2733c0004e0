use Rattle.text_norm.proofs.HoleKeeps.{keeps-hole}
use Rattle.text_norm.proofs.laws.keeps_shape_at_holes.Goals as goal

pub returns : goal.returns
returns c = keeps-hole
