use Rattle.page_path.proofs.Sound.{shape-of-path}
use Rattle.page_path.proofs.laws.sound_pages_have_the_shape_of_their_path.Goals as goal

pub returns : goal.returns
returns c = shape-of-path
