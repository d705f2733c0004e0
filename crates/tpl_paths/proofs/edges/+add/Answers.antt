use Rattle.std.proofs.Common.{arith, ap, ◌∙◌, ◌++◌}
use Rattle.tpl_tree.specs.Trees.{nodes_from}
use Rattle.tpl_paths.specs.EdgeViews.{read_edges, own_edges}
use Rattle.tpl_paths.specs.Edges.{Point}
use Rattle.tpl_paths.proofs.Adding.{first_smaller, if_added, inside, next_smaller, one_more, other_smaller, range_added, with_added}
use Rattle.tpl_paths.proofs.edges.+add.Goals as goal

pub add_control-add_edges-requires : goal.add_control-add_edges-requires
add_control-add_edges-requires t c =
    let less = first_smaller c.args.tree.now.nodes c.args.n c.child-first.result c.requires c.child-first.ensures.number c.child-first.ensures.stands in
    (omega (arith, less, c.decreases), inside c.args.tree.now.nodes _ c.child-first.result c.child-first.ensures.stands)

pub add_control-add_edges-requires-2 : goal.add_control-add_edges-requires-2
add_control-add_edges-requires-2 t c =
    let less = other_smaller c.args.tree.now.nodes c.args.n c.child-other.result c.requires c.child-other.ensures.number c.child-other.ensures.stands in
    (omega (arith, less, c.decreases), inside c.args.tree.now.nodes _ c.child-other.result c.child-other.ensures.stands)

pub add_range-add_edges-requires : goal.add_range-add_edges-requires
add_range-add_edges-requires t c =
    let less = first_smaller c.args.tree.now.nodes c.args.n c.child-first.result c.requires c.child-first.ensures.number c.child-first.ensures.stands in
    (omega (arith, less, c.decreases), inside c.args.tree.now.nodes _ c.child-first.result c.child-first.ensures.stands)

pub add_range-add_edges-requires-2 : goal.add_range-add_edges-requires-2
add_range-add_edges-requires-2 t c =
    let less = other_smaller c.args.tree.now.nodes c.args.n c.child-other.result c.requires c.child-other.ensures.number c.child-other.ensures.stands in
    (omega (arith, less, c.decreases), inside c.args.tree.now.nodes _ c.child-other.result c.child-other.ensures.stands)

pub add_edges-loop-node-smaller : goal.add_edges-loop-node-smaller
add_edges-loop-node-smaller t c =
    let in_range = rw c.in-Some.is at c.loop-node.invariant.inside in
    let less = next_smaller c.args.tree.now.nodes c.in-Some.n c.next-next.result in_range c.next-next.ensures.number c.next-next.ensures.stands in
    rw c.in-Some.is less

pub add_edges-loop-node-preserved : goal.add_edges-loop-node-preserved
add_edges-loop-node-preserved t c =
    let in_range = rw c.in-Some.is at c.loop-node.invariant.inside in
    let small = rw c.in-Some.is at c.loop-node.invariant.small in
    let rest = rw c.in-Some.is at c.loop-node.invariant.rest in
    let less = next_smaller c.args.tree.now.nodes c.in-Some.n c.next-next.result in_range c.next-next.ensures.number c.next-next.ensures.stands in
    record {
      inside = inside c.args.tree.now.nodes _ c.next-next.result c.next-next.ensures.stands;
      small = omega (arith, less, small);
      rest = one_more c.args.tree.now.nodes c.in-Some.n c.next-next.result c.args.to c.args.out c.args.on c.loop-node.edges.items c.add_node.new.edges.items _ in_range c.next-next.ensures.number
          (c.in_ok-add_node.ensures.added ∙ ap (λ (p : Point). c.loop-node.edges.items ++ read_edges (own_edges (nodes_from c.args.tree.now.nodes c.in-Some.n) c.in-Some.n p c.args.out c.args.on)) c.begin.ensures) rest;
    }

pub add_node-returns-in-If : goal.add_node-returns-in-If
add_node-returns-in-If t c = record {
  added =
      if_added c.add_control.result c.args.tree.now.nodes c.args.n c.args.to c.args.out c.args.on c.kind.result.now c.in-If.field-0 c.in-If.field-1 c.args.edges.now.items c.add_control.new.edges.items
      c.requires c.kind.ensures.kind c.in-If.is c.add_control.ensures.added;
}

pub add_node-returns-in-With : goal.add_node-returns-in-With
add_node-returns-in-With t c = record {
  added =
      with_added c.add_control-in-With.result c.args.tree.now.nodes c.args.n c.args.to c.args.out c.args.on c.kind.result.now c.in-With.field-0 c.in-With.field-1 c.args.edges.now.items c.add_control-in-With.new.edges.items
      c.requires c.kind.ensures.kind c.in-With.is c.add_control-in-With.ensures.added;
}

pub add_node-returns-in-Range : goal.add_node-returns-in-Range
add_node-returns-in-Range t c = record {
  added =
      range_added c.add_range.result c.args.tree.now.nodes c.args.n c.args.to c.args.out c.args.on c.kind.result.now c.in-Range.field-0 c.in-Range.field-1 c.in-Range.field-2 c.args.edges.now.items c.add_range.new.edges.items
      c.requires c.kind.ensures.kind c.in-Range.is c.add_range.ensures.added;
}
