use Rattle.std.proofs.Common.{◌≡◌, take}
use Rattle.tpl_tree.proofs.kept_seams.copy_seams.Given as goal

abbrev pub invariant-loop-seam : goal.invariant-loop-seam
invariant-loop-seam l = l.copies ≡ take l.seam-index l.seam-items
