use Rattle.std.proofs.Common.{Some, sym, ap, ◌∙◌}
use Rattle.place_show.proofs.HoleClash.{hole-clash-shown}
use Rattle.place_show.proofs.Mapped.{if-shown}
use Rattle.place_show.specs.AtNodes.{ShowsTwoAt}
use Rattle.place_show.specs.Made.{IsMadeTwo}
use Rattle.tpl_tree.specs.Trees.{head_line, nodes_from}
use Rattle.tpl_tree.specs.declared.node_kind.NodeKind.{NodeKind}
use Rattle.place_show.proofs.clashing.in_tree.Goals as goal

pub returns-in-Some : goal.returns-in-Some
returns-in-Some c =
    let forest = c.args.forest.now in
    let w = c.args.replay.now in
    let v = c.args.other.now in
    let nodes = c.args.tree.now.nodes in
    let n = c.args.node in
    let code = c.in-Some.code in
    let hole = sym c.kind.ensures.kind ∙ ap (λ (k : NodeKind). Some k) c.in-Action.is in
    if-shown (IsMadeTwo forest w v code (head_line (nodes_from nodes n)) n 0 w.place v.place) (ShowsTwoAt forest w v nodes n) c.at_both.result
    (λ sh m. hole-clash-shown forest w v nodes n c.in-Action.field-0 code sh hole c.in-Some.ensures m) c.at_both.ensures
