use Rattle.std.proofs.Common.{refl}
use Rattle.page_server.proofs.Responses.{responds_refused}
use Rattle.page_server.proofs.respond.to_refused.Goals as goal

pub returns-clause-responds : goal.returns-clause-responds
returns-clause-responds g c = λ last kept given.
    responds_refused _ _ last _ kept given _ _ _ _ _ c.requires.refuses c.requires.some c.phrase_reply.ensures.value c.number-number.ensures refl
