use Rattle.std.proofs.Common.{ℕ, ◌+◌, ◌<◌, ◌^◌, length, length-take, length-drop, arith}
use Rattle.tpl_symbol.specs.declared.symbol.Seam.{Seam}
use Rattle.tpl_tree.proofs.Seams.{seam_before-line}
use Rattle.tpl_tree.specs.Trees.{seam_before}
use Rattle.tpl_tree.proofs.lines.line_in.Goals as goal

pub overflow_add-result : goal.overflow_add-result
overflow_add-result c =
    let begins : Seam = record { at = 0; line = c.args.line } in
    let all : (seam_before begins c.args.seams.now c.args.byte).line + length c.args.text.now < 2 ^ 32
    = seam_before-line begins c.args.seams.now c.args.byte (length c.args.text.now) (2 ^ 32) c.requires.fine.line c.requires.fine.seams in
    let line : c.last_seam-seam.result.line + length c.args.text.now < 2 ^ 32 = rw (← c.last_seam-seam.ensures.seam) at all in
    omega (arith, c.line_feeds.ensures.bound, length-take {A = ℕ}, length-drop {A = ℕ})
