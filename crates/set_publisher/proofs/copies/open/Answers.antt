use Rattle.std.proofs.Common.{ap, sym, ◌∙◌}
use Rattle.set_publisher.proofs.Follows.{begins_equal}
use Rattle.set_publisher.proofs.copies.open.Goals as goal

pub try_publish-writer-requires : goal.try_publish-writer-requires
try_publish-writer-requires g c =
    let one = c.make-one.ensures.known ∙ c.in_ok-again.ensures.0 in
    let three = c.make-three.ensures.known ∙ c.in_ok-again-3.ensures.0 in
    begins_equal _ _ (ap g.S.Notice.known_of c.in_ok-writer.ensures.0 ∙ one ∙ sym three)
