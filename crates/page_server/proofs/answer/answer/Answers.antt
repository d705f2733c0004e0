use Rattle.std.proofs.Common.{inl}
use Rattle.page_server.proofs.Responses.{by_set_of, by_clerk_of, paged_once}
use Rattle.page_server.proofs.answer.answer.Goals as goal

pub returns-in-Ok-Reply-clause-answers : goal.returns-in-Ok-Reply-clause-answers
returns-in-Ok-Reply-clause-answers g c =
    inl (by_set_of _ _ _ _ _ _ _ _ _ _ c.requires.number c.set.ensures (rw c.in-Ok-Reply.field-0-is at c.in-Ok-Reply.ensures.sound)
    (rw c.in-Ok-Reply.field-0-is at c.in-Ok-Reply.ensures.pages))
