use Rattle.set_publisher.proofs.Follows.{enters}
use Rattle.set_publisher.proofs.copies.look.Goals as goal

pub enter_as-requires : goal.enter_as-requires
enter_as-requires g c = enters g.S.Notice.known_of _ _
