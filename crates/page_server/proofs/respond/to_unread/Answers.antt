use Rattle.std.proofs.Common.{refl}
use Rattle.page_server.proofs.Responses.{responds_unread}
use Rattle.page_server.proofs.respond.to_unread.Goals as goal

pub returns-clause-responds : goal.returns-clause-responds
returns-clause-responds g c = λ last kept given. responds_unread _ _ last _ kept given _ _ _ _ c.requires c.number.ensures refl
