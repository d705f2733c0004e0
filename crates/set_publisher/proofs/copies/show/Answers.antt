use Rattle.set_publisher.proofs.Follows.{publishes}
use Rattle.set_publisher.proofs.copies.show.Goals as goal

pub publish_as-after-requires : goal.publish_as-after-requires
publish_as-after-requires g c next is =
    rw c.loop.invariant.2 (publishes g.S.Notice.known_of _ _ _ next (c.requires next (rw (← c.loop.invariant.2, ← c.loop.invariant.3) is)))
