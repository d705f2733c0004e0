use Rattle.std.proofs.Common.{◌≤◌, List, ℕ, length, subst, sym}
use Rattle.place_show.proofs.Makings.{made-one-as}
use Rattle.place_show.proofs.Mapped.{if-shown}
use Rattle.place_show.proofs.TextRefused.{text-shown}
use Rattle.place_show.proofs.Within.{at-text}
use Rattle.place_show.specs.AtNodes.{ShowsOneAt}
use Rattle.place_show.specs.Made.{IsMadeOne}
use Rattle.tpl_tree.specs.Trees.{head_line, head_seams, nodes_from, text_line}
use Rattle.place_show.proofs.nodes.text_error.Goals as goal

pub text_mark-mark-requires-clause-within : goal.text_mark-mark-requires-clause-within
text_mark-mark-requires-clause-within c =
    subst (λ (b : List ℕ). c.in-Err.refused.at ≤ length b) c.as_str.ensures c.in-Err.ensures.bound

pub returns-in-Err : goal.returns-in-Err
returns-in-Err c =
    let forest = c.args.forest.now in
    let w = c.args.replay.now in
    let nodes = c.args.tree.now.nodes in
    let n = c.args.node in
    let text = c.args.text.now in
    let e = c.in-Err.refused in
    let mark = c.text_mark-mark.result in
    let is = c.text_mark-mark.ensures in
    let line = text_line text (head_line (nodes_from nodes n)) (head_seams (nodes_from nodes n)) e.at in
    let refused = at-text c.as_str.result.now text w.place e c.as_str.ensures c.in-Err.ensures.place in
    if-shown (IsMadeOne forest w mark.code mark.line mark.node mark.byte e.before) (ShowsOneAt forest w nodes n) c.made_one.result
    (λ sh m. text-shown forest w nodes n text e sh (sym c.requires.text) refused (made-one-as forest w mark.code e.code mark.line line mark.node n mark.byte e.at e.before sh is.code is.line is.node is.byte m)) c.made_one.ensures
