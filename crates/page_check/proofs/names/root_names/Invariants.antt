use Rattle.std.proofs.Common.{◌≡◌, ◌++◌, drop}
use Rattle.page_check.specs.Roots.{roots_of}
use Rattle.page_check.proofs.names.root_names.Given as goal

abbrev pub invariant-loop-file : goal.invariant-loop-file
invariant-loop-file l = l.names ++ roots_of (drop l.file-index l.files) ≡ roots_of l.files
