use Rattle.html_words.proofs.OneByOne.{one_by_one_cut}
use Rattle.html_words.proofs.laws.cut_is_one_by_one.Goals as goal

pub returns : goal.returns
returns c = one_by_one_cut
