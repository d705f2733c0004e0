use Rattle.page_http.proofs.OneReply.{have_one_reply}
use Rattle.page_http.proofs.laws.requests_have_one_reply.Goals as goal

pub returns : goal.returns
returns c = have_one_reply
