use Rattle.page_path.proofs.OneShape.{pages-of-one-path-have-one-shape}
use Rattle.page_path.proofs.laws.pages_of_one_path_have_one_shape.Goals as goal

pub returns : goal.returns
returns c = pages-of-one-path-have-one-shape c.pages_are_sound.ensures
