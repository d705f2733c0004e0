use Rattle.std.proofs.Common.{arith}
use Rattle.tpl_tree.proofs.Listings.{controls}
use Rattle.tpl_tree.proofs.body.control_node.Goals as goal

pub invariant_of-result : goal.invariant_of-result
invariant_of-result c =
    (controls c.args.kind c.args.line c.none.result c.first.inside.entries.items c.other.inside.entries.items
    c.in_ok-entries.entries.items c.push.new.self.items c.append.new.self.items c.append-2.new.self.items
    c.len-3.result c.len-4.result c.args.first c.args.other
    c.first.invariant.kept c.first.view_is c.other.invariant.kept c.other.view_is
    (omega arith) (omega arith) c.requires (omega arith) c.none.ensures c.in_ok-entries.ensures.items
    c.in_ok-push.ensures.items c.in_ok-append.ensures.items c.in_ok-append-2.ensures.items).0

pub returns : goal.returns
returns c =
    (controls c.args.kind c.args.line c.none.result c.first.inside.entries.items c.other.inside.entries.items
    c.in_ok-entries.entries.items c.push.new.self.items c.append.new.self.items c.append-2.new.self.items
    c.len-3.result c.len-4.result c.args.first c.args.other
    c.first.invariant.kept c.first.view_is c.other.invariant.kept c.other.view_is
    (omega arith) (omega arith) c.requires (omega arith) c.none.ensures c.in_ok-entries.ensures.items
    c.in_ok-push.ensures.items c.in_ok-append.ensures.items c.in_ok-append-2.ensures.items).1
