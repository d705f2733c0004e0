use Rattle.std.proofs.Common.{◌∙◌}
use Rattle.place_show.proofs.LastNodes.{fewer-left, last-next, stands-inside}
use Rattle.tpl_tree.specs.Trees.{nodes_from, rest_of}
use Rattle.place_show.proofs.ending.last_node.Goals as goal

pub loop-next-smaller : goal.loop-next-smaller
loop-next-smaller c =
    let inside = rw c.in-Some.is at c.loop-next.invariant.inside in
    let fewer = fewer-left c.args.tree.now.nodes c.in-Some.node c.next-next.result inside c.next-next.ensures.number c.next-next.ensures.stands in
    rw c.in-Some.is fewer

pub loop-next-preserved : goal.loop-next-preserved
loop-next-preserved c =
    let nodes = c.args.tree.now.nodes in
    let n = c.in-Some.node in
    let next = c.next-next.result in
    let inside = rw c.in-Some.is at c.loop-next.invariant.inside in
    let before = rw c.in-Some.is at c.loop-next.invariant.last in
    record {
      inside = stands-inside nodes (rest_of (nodes_from nodes n)) next c.next-next.ensures.stands;
      last = last-next nodes c.loop-next.last n next inside c.next-next.ensures.number c.next-next.ensures.stands ∙ before;
    }
