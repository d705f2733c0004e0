use Rattle.std.proofs.Common.{sym, ◌∙◌}
use Rattle.tpl_print.proofs.Parts.{control_printed, next_smaller}
use Rattle.tpl_print.proofs.Replacing.{on_ok}
use Rattle.tpl_print.proofs.tree.+part.Goals as goal

pub push_node-returns : goal.push_node-returns
push_node-returns t c =
    on_ok c.push_str.result c.push_str.ensures.ok
    (λ end. control_printed c.args.followed c.args.tree.now.nodes c.args.node c.kind-kind.result.now c.child.result c.child-other.result c.is_some.result
    c.args.out.now _ _ _ _ _ c.kind-kind.ensures.kind (sym c.is_control.ensures ∙ c.if-not-is_control.false) c.child.ensures.number c.child.ensures.stands
    c.child-other.ensures.number c.child-other.ensures.stands c.is_some.ensures c.in_ok-push_head.ensures c.in_ok-push_part.ensures c.in_ok-push_else.ensures
    c.in_ok-push_part-2.ensures end)

pub push_part-loop-number-smaller : goal.push_part-loop-number-smaller
push_part-loop-number-smaller t c =
    let inside = rw c.in-Some.is at c.loop-number.invariant.inside in
    let less = next_smaller c.args.tree.now.nodes c.in-Some.node c.next-number.result inside c.next-number.ensures.number c.next-number.ensures.stands in
    rw c.in-Some.is less
