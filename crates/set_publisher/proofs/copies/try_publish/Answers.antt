use Rattle.std.proofs.Common.{ap, Some, ◌∙◌, drop}
use Rattle.set_publisher.proofs.Follows.{last_is, publishes, at_ok}
use Rattle.set_publisher.proofs.copies.try_publish.Goals as goal

pub publish_as-writer-requires : goal.publish_as-writer-requires
publish_as-writer-requires g c next is =
    let last = last_is g.S.Notice.known_of g.S.Notice.set_of g.S.Absorb.state g.S.Absorb.applied g.met.S.Notice.state_is g.met.S.Notice.applied_is next _ _ _ c.args.notice c.in_default.ensures.pending is in
    publishes g.S.Notice.known_of _ _ _ next (rw (ap (λ q. q.0) last, c.in_default.ensures.desk) c.requires)

pub returns-in-Ok : goal.returns-in-Ok
returns-in-Ok g c =
    let r = c.publish_as-writer.result in
    let vals = at_ok _ _ r.1 c.in-Ok.field-0 c.in-Ok.is c.publish_as-writer.ensures.values in
    let rule = at_ok _ _ r.1 c.in-Ok.field-0 c.in-Ok.is c.publish_as-writer.ensures.rule in
    let last = last_is g.S.Notice.known_of g.S.Notice.set_of g.S.Absorb.state g.S.Absorb.applied g.met.S.Notice.state_is g.met.S.Notice.applied_is r.0.desk.shown.value _ _ (drop c.append.new.self.behind c.append.new.self.log.items) c.args.notice c.in_default.ensures.pending vals.0 in
    let known = ap (λ q. q.0) last in
    (known, rule.0 ∙ ap Some known)
