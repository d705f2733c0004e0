use Rattle.std.proofs.Common.{◌≡◌, ◌≤◌, drop}
use Rattle.tpl_tree.specs.Trees.{seam_before}
use Rattle.tpl_tree.proofs.lines.last_seam.Given as goal

abbrev pub invariant-loop-seam : goal.invariant-loop-seam
invariant-loop-seam l = record {
  rest : seam_before l.before (drop l.seam-index l.seams) l.byte ≡ seam_before (record { at = 0; line = l.line }) l.seams l.byte;
  at : l.before.at ≤ l.byte;
}
