use Rattle.page_server.proofs.Responses.{responds_request}
use Rattle.page_server.proofs.respond.to_request.Goals as goal

pub returns-clause-responds : goal.returns-clause-responds
returns-clause-responds g c =
    responds_request _ _ _ _ _ _ _ _ _ _ _ _ _ _ _ c.requires.whole c.answer-reply.ensures.answers c.answer-reply.ensures.learnt
    c.closes.ensures c.number.ensures
