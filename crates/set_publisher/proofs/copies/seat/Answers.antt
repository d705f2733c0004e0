use Rattle.set_publisher.proofs.Follows.{admits, forks, merges}
use Rattle.set_publisher.proofs.copies.seat.Goals as goal

pub reader-requires : goal.reader-requires
reader-requires g c = admits g.S.Notice.known_of

pub tell-requires : goal.tell-requires
tell-requires g c = forks g.S.Notice.known_of _ _

pub learn-requires-clause-rule : goal.learn-requires-clause-rule
learn-requires-clause-rule g c = merges g.S.Notice.known_of _ _ _ _
