use Rattle.std.proofs.Common.{arith}
use Rattle.tpl_tree.proofs.Listings.{alone}
use Rattle.tpl_tree.proofs.body.TreeBuilder.push_alone.Goals as goal

pub invariant_of-self-2 : goal.invariant_of-self-2
invariant_of-self-2 c =
    (alone c.args.kind c.args.line c.none.result c.self.inside.entries.items c.push.new.self.items c.link.new.entries.items
    c.len-count.result c.self.inside.last c.args.self.now c.self.invariant c.self.view_is
    (omega arith) (omega arith) c.requires c.none.ensures c.in_ok-push.ensures.items c.link.ensures).0

pub returns-clause-ok : goal.returns-clause-ok
returns-clause-ok c =
    (alone c.args.kind c.args.line c.none.result c.self.inside.entries.items c.push.new.self.items c.link.new.entries.items
    c.len-count.result c.self.inside.last c.args.self.now c.self.invariant c.self.view_is
    (omega arith) (omega arith) c.requires c.none.ensures c.in_ok-push.ensures.items c.link.ensures).1
