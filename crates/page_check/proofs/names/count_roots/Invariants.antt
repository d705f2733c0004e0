use Rattle.std.proofs.Common.{◌≡◌, ◌+◌, ◌≤◌, drop, length}
use Rattle.page_check.specs.Roots.{roots_of}
use Rattle.page_check.proofs.names.count_roots.Given as goal

abbrev pub invariant-loop-file : goal.invariant-loop-file
invariant-loop-file l = record {
  rest : l.count + length (roots_of (drop l.file-index l.files)) ≡ length (roots_of l.files);
  bound : l.count ≤ l.file-index;
}
