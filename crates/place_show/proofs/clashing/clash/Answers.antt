use Rattle.std.proofs.Common.{refl, sym, subst, ℕ, ◌≤◌, length, List}
use Rattle.place_show.proofs.Clash.{clash-shown}
use Rattle.place_show.proofs.Makings.{made-two-as}
use Rattle.place_show.proofs.Mapped.{if-shown}
use Rattle.place_show.proofs.Within.{at-text, taken-text}
use Rattle.place_show.specs.AtNodes.{ShowsTwoAt}
use Rattle.place_show.specs.LastApart.{AreShownBy}
use Rattle.place_show.specs.Made.{IsMadeTwo}
use Rattle.tpl_tree.specs.Trees.{head_line, head_seams, nodes_from, text_line}
use Rattle.place_show.proofs.clashing.clash.Goals as goal

pub text_mark-mark-requires-clause-within : goal.text_mark-mark-requires-clause-within
text_mark-mark-requires-clause-within c =
    subst (λ (b : List ℕ). c.in-Err.refused.at ≤ length b) c.as_str-bytes.ensures c.in-Err.ensures.bound

pub returns-in-Some-shown_places : goal.returns-in-Some-shown_places
returns-in-Some-shown_places c =
    let forest = c.args.forest.now in
    let w = c.args.replay.now in
    let v = c.args.other.now in
    let nodes = c.args.tree.now.nodes in
    let n = c.args.node in
    let bytes = c.as_str-bytes.result.now in
    let text = c.args.text.now in
    let same = c.as_str-bytes.ensures in
    let both = c.in-Some.both in
    let e = c.in-Err.refused in
    let mark = c.text_mark-mark.result in
    let is = c.text_mark-mark.ensures in
    let line = text_line text (head_line (nodes_from nodes n)) (head_seams (nodes_from nodes n)) e.at in
    let at = c.in-Some-shown_places.at in
    let other_at = c.in-Some-shown_places.other_at in
    let refused = at-text bytes text both e same c.in-Err.ensures.place in
    let takes = c.if-not-takes.ensures refl in
    let other_takes = c.if-not-takes-2.ensures refl in
    let taken = taken-text bytes text w.place e.at same takes in
    let other_taken = taken-text bytes text v.place e.at same other_takes in
    if-shown (IsMadeTwo forest w v mark.code mark.line mark.node mark.byte at other_at) (ShowsTwoAt forest w v nodes n) c.made_two.result
    (λ sh m. clash-shown forest w v nodes n text both e at other_at sh (sym c.requires.text)
    (λ h. (let t = c.if-has_apart.ensures.1 h in cc)) (λ h. (let t = c.if-has_apart-2.ensures.1 h in cc)) taken other_taken (sym c.in-Some.ensures) refused
    (λ s r own other. subst (λ (b : List ℕ). AreShownBy both e.at b s r at other_at) same (c.in-Some-shown_places.ensures s r own other takes other_takes))
    (made-two-as forest w v mark.code e.code mark.line line mark.node n mark.byte e.at at at other_at other_at sh is.code is.line is.node is.byte refl refl m)) c.made_two.ensures
