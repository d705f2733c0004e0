use Rattle.page_http.proofs.Staying.{staying}
use Rattle.page_http.proofs.laws.answers_stay.Goals as goal

pub returns : goal.returns
returns c = staying
