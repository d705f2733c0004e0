use Rattle.std.proofs.Common.{◌≡◌, drop}
use Rattle.page_check.specs.Roots.{is_root}
use Rattle.page_check.proofs.checked.Checked.is_root.Given as goal

abbrev pub invariant-loop-file : goal.invariant-loop-file
invariant-loop-file l = is_root (drop l.file-index l.file-items) l.name ≡ is_root l.file-items l.name
