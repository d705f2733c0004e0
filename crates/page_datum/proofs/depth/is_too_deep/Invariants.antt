use Rattle.std.proofs.Common.{◌≡◌, ◌≤◌, drop}
use Rattle.page_datum.specs.Depth.{deepens, is_too_deep}
use Rattle.page_datum.proofs.depth.is_too_deep.Given as goal

abbrev pub invariant-loop-byte : goal.invariant-loop-byte
invariant-loop-byte l = (deepens l.place l.opened (drop l.byte-index l.bytes) ≡ is_too_deep l.bytes) × (l.opened ≤ 100)
