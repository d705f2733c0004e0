use Rattle.page_server.proofs.Turning.{reads_and_answers}
use Rattle.page_server.proofs.serve.serve_one.Goals as goal

pub returns-in-Ok-clause-turn : goal.returns-in-Ok-clause-turn
returns-in-Ok-clause-turn g c =
    reads_and_answers _ _ _ _ _ _ _ _ _ _ _ _ _ _ _ _ _ _ _ _ c.read_incoming.ensures.read c.read_incoming.ensures.taken c.send.ensures.left
    (rw c.as_slice-bytes.ensures at c.respond-out.ensures.responds) c.send.ensures.sent
