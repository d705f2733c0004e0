use Rattle.std.proofs.Common.{◌≡◌, ◌++◌, drop}
use Rattle.page_check.specs.PathLines.{seen_lines}
use Rattle.page_check.proofs.path_lines.push_seen_lines.Given as goal

abbrev pub invariant-loop-seen : goal.invariant-loop-seen
invariant-loop-seen l = l.out ++ seen_lines (drop l.seen-index l.paths) ≡ l.fn.out ++ seen_lines l.paths
