use Rattle.std.proofs.Common.{refl, sym, subst, ℕ, List}
use Rattle.place_core.specs.place.PathPairs.{ClashesApart}
use Rattle.place_show.proofs.Makings.{made-two-as}
use Rattle.place_show.proofs.Mapped.{if-shown}
use Rattle.place_show.proofs.MetShown.{met-shown}
use Rattle.place_show.specs.LastApart.{IsFoundIn}
use Rattle.place_show.specs.Made.{IsMadeTwo}
use Rattle.place_show.specs.Together.{ShowsMetAt}
use Rattle.tpl_tree.specs.Trees.{head_line, head_seams, nodes_from, text_line}
use Rattle.place_show.proofs.met_apart.at_text.Goals as goal

pub returns-in-Some-latest : goal.returns-in-Some-latest
returns-in-Some-latest c =
    let forest = c.args.forest.now in
    let w = c.args.one.now in
    let v = c.args.other.now in
    let nodes = c.args.tree.now.nodes in
    let n = c.args.node in
    let bytes = c.as_str-bytes.result.now in
    let text = c.args.text.now in
    let same = c.as_str-bytes.ensures in
    let e = c.in-Some.refused in
    let mark = c.text_mark-mark.result in
    let is = c.text_mark-mark.ensures in
    let line = text_line text (head_line (nodes_from nodes n)) (head_seams (nodes_from nodes n)) e.at in
    let at = c.in-Some-latest.at in
    let other_at = c.in-Some-latest.other_at in
    let found = c.last_places-found.result in
    if-shown (IsMadeTwo forest w v mark.code mark.line mark.node mark.byte at other_at) (ShowsMetAt forest w v nodes n c.args.last) c.made_two.result
    (λ sh m. met-shown forest w v nodes n text e c.args.last found (at, other_at) sh (sym c.requires.text)
    (λ s r own other. subst (λ (b : List ℕ). ClashesApart b s r e.code e.at) same (c.in-Some.ensures.clash s r own other))
    (λ s r own other. subst (λ (b : List ℕ). IsFoundIn e.at b s r found) same (c.last_places-found.ensures s r own other c.in-Some.ensures.one c.in-Some.ensures.other))
    (sym c.in-Some-latest.ensures)
    (made-two-as forest w v mark.code e.code mark.line line mark.node n mark.byte e.at at at other_at other_at sh is.code is.line is.node is.byte refl refl m)) c.made_two.ensures
