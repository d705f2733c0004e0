use Rattle.text_norm.proofs.Emits.{emits-the-same}
use Rattle.text_norm.proofs.laws.emits_the_same.Goals as goal

pub returns : goal.returns
returns c = emits-the-same
