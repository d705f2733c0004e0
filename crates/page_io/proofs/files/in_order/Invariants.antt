use Rattle.std.proofs.Common.{◌≡◌}
use Rattle.page_io.proofs.files.in_order.Given as goal

abbrev pub invariant-loop-name : goal.invariant-loop-name
invariant-loop-name l = l.list ≡ l.yielded
