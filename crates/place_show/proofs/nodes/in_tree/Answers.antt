use Rattle.std.proofs.Common.{Some, List, ℕ, sym, ap, ◌∙◌}
use Rattle.place_core.specs.declared.code.Code.TheVariants as code
use Rattle.place_flow.specs.Transfer.{may_use}
use Rattle.place_show.proofs.HoleRefused.{hole-shown}
use Rattle.place_show.proofs.Mapped.{if-shown}
use Rattle.place_show.proofs.Missing.{missing-shown}
use Rattle.place_show.proofs.Misuse.{misuse-shown}
use Rattle.place_show.specs.AtNodes.{ShowsOneAt}
use Rattle.place_show.specs.Made.{IsMadeOne}
use Rattle.tpl_tree.specs.Forests.{number_named}
use Rattle.tpl_tree.specs.Trees.{head_line, nodes_from}
use Rattle.tpl_tree.specs.declared.node_kind.NodeKind.{NodeKind}
use Rattle.place_show.proofs.nodes.in_tree.Goals as goal

pub returns-then-not-may_use : goal.returns-then-not-may_use
returns-then-not-may_use c =
    let forest = c.args.forest.now in
    let w = c.args.replay.now in
    let nodes = c.args.tree.now.nodes in
    let n = c.args.node in
    let misused = sym (c.if-not-may_use.ensures ∙ ap (may_use w.place) c.escaper_use.ensures) in
    if-shown (IsMadeOne forest w code.PredefinedEscaper (head_line (nodes_from nodes n)) n 0 w.place) (ShowsOneAt forest w nodes n) c.at_node.result
    (λ sh m. misuse-shown forest w nodes n c.kind-kind.result.now sh (sym c.kind-kind.ensures.kind) misused m) c.at_node.ensures

pub returns-in-Err : goal.returns-in-Err
returns-in-Err c =
    let forest = c.args.forest.now in
    let w = c.args.replay.now in
    let nodes = c.args.tree.now.nodes in
    let n = c.args.node in
    let hole = sym c.kind-kind.ensures.kind ∙ ap (λ (k : NodeKind). Some k) c.in-Action.is in
    if-shown (IsMadeOne forest w c.in-Err.code (head_line (nodes_from nodes n)) n 0 w.place) (ShowsOneAt forest w nodes n) c.at_node-in-Err.result
    (λ sh m. hole-shown forest w nodes n c.in-Action.field-0 c.in-Err.code sh hole (sym c.in-Err.ensures) m) c.at_node-in-Err.ensures

pub returns-in-None : goal.returns-in-None
returns-in-None c =
    let forest = c.args.forest.now in
    let w = c.args.replay.now in
    let nodes = c.args.tree.now.nodes in
    let n = c.args.node in
    let call = sym c.kind-kind.ensures.kind ∙ ap (λ (k : NodeKind). Some k) c.in-Template.is in
    let missing = sym (c.in-None.ensures.number ∙ ap (λ (name : List ℕ). number_named name forest) (c.as_str.ensures ∙ c.get.ensures)) in
    if-shown (IsMadeOne forest w code.NoSuchTemplate (head_line (nodes_from nodes n)) n 0 w.place) (ShowsOneAt forest w nodes n) c.at_node-in-None.result
    (λ sh m. missing-shown forest w nodes n c.in-Template.name c.in-Template.field-1 sh call missing m) c.at_node-in-None.ensures
