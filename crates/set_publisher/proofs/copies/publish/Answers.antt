use Rattle.std.proofs.Common.{ap, ◌∙◌, Some}
use Rattle.set_publisher.proofs.Follows.{last_is}
use Rattle.set_publisher.proofs.copies.publish.Goals as goal

pub show-requires : goal.show-requires
show-requires g c next is =
    let last = last_is g.S.Notice.known_of g.S.Notice.set_of g.S.Absorb.state g.S.Absorb.applied g.met.S.Notice.state_is g.met.S.Notice.applied_is next _ _ _ c.make.result c.add.ensures.pending is in
    rw (ap (λ q. q.0) last, c.make.ensures.known, c.add.ensures.desk) c.requires

pub returns-clause-shown : goal.returns-clause-shown
returns-clause-shown g c =
    let last = last_is g.S.Notice.known_of g.S.Notice.set_of g.S.Absorb.state g.S.Absorb.applied g.met.S.Notice.state_is g.met.S.Notice.applied_is c.show.result.desk.shown.value _ _ _ c.make.result c.add.ensures.pending c.show.ensures.state in
    (ap (λ q. q.0) last ∙ c.make.ensures.known, ap (λ q. q.1) last ∙ c.make.ensures.set)

pub returns-clause-view : goal.returns-clause-view
returns-clause-view g c =
    let last = last_is g.S.Notice.known_of g.S.Notice.set_of g.S.Absorb.state g.S.Absorb.applied g.met.S.Notice.state_is g.met.S.Notice.applied_is c.show.result.desk.shown.value _ _ _ c.make.result c.add.ensures.pending c.show.ensures.state in
    c.show.ensures.view ∙ ap Some (ap (λ q. q.0) last ∙ c.make.ensures.known)
