use Rattle.std.proofs.Common.{ap, subst, arith, List}
use mathlib.Core.List.{IsPrefix}
use Rattle.set_core.proofs.Prefixes.{shorter_begins}
use Rattle.set_publisher.proofs.known.Known.is_begun_by.Goals as goal

pub returns-then-other-self : goal.returns-then-other-self
returns-then-other-self g c =
    let this : IsPrefix c.args.self.now.seen.log c.learn.new.self.log = subst (λ (l : List g.row.V.Denot). IsPrefix l c.learn.new.self.log) (ap (λ s. s.log) c.again-both.ensures) c.learn.ensures.2 in
    shorter_begins _ _ _ c.learn.ensures.3 this (omega (arith, c.args.self.now.counted, c.args.other.now.counted, c.if-other-self.true))

pub returns : goal.returns
returns g c =
    let this : IsPrefix c.args.self.now.seen.log c.learn.new.self.log = subst (λ (l : List g.row.V.Denot). IsPrefix l c.learn.new.self.log) (ap (λ s. s.log) c.again-both.ensures) c.learn.ensures.2 in
    (omega (arith, c.args.self.now.counted, c.args.other.now.counted, c.if-other-self.false), shorter_begins _ _ _ this c.learn.ensures.3 (omega (arith, c.args.self.now.counted, c.args.other.now.counted, c.if-other-self.false)))
