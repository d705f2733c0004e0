use Rattle.std.proofs.Common.{arith}
use Rattle.tpl_tree.proofs.Listings.{joined, joined-none, last-fits}
use Rattle.tpl_tree.proofs.body.TreeBuilder.join.Goals as goal

pub returns-then-len-eq0-clause-ok : goal.returns-then-len-eq0-clause-ok
returns-then-len-eq0-clause-ok c = joined-none c.more.inside.entries.items c.args.self.now c.args.more (omega arith) c.more.view_is

pub overflow_add-self : goal.overflow_add-self
overflow_add-self c = omega (arith, last-fits _ _ c.more.invariant, c.self.invariant.kept.bound)

pub invariant_of-self-2 : goal.invariant_of-self-2
invariant_of-self-2 c =
    (joined c.self.inside.entries.items c.more.inside.entries.items c.append.new.self.items c.link.new.entries.items
    c.len-count.result c.self.inside.last c.more.inside.last c.args.self.now c.args.more
    c.self.invariant c.self.view_is c.more.invariant c.more.view_is
    (omega arith) (omega arith) (omega (arith, c.self.invariant.kept.bound)) c.in_ok-append.ensures.items c.link.ensures).0

pub returns-clause-ok : goal.returns-clause-ok
returns-clause-ok c =
    (joined c.self.inside.entries.items c.more.inside.entries.items c.append.new.self.items c.link.new.entries.items
    c.len-count.result c.self.inside.last c.more.inside.last c.args.self.now c.args.more
    c.self.invariant c.self.view_is c.more.invariant c.more.view_is
    (omega arith) (omega arith) (omega (arith, c.self.invariant.kept.bound)) c.in_ok-append.ensures.items c.link.ensures).1
