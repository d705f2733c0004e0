use Rattle.page_http.proofs.Excluding.{excluding}
use Rattle.page_http.proofs.laws.answers_exclude.Goals as goal

pub returns : goal.returns
returns c = excluding
