use Rattle.page_http.proofs.Responses.{replies_are}
use Rattle.page_http.proofs.laws.replies_are_responses.Goals as goal

pub returns : goal.returns
returns c = replies_are
