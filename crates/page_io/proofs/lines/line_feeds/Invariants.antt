use Rattle.std.proofs.Common.{◌≡◌, ◌≤◌, take}
use Rattle.page_io.specs.Lines.{line_feeds}
use Rattle.page_io.proofs.lines.line_feeds.Given as goal

abbrev pub invariant-loop-byte : goal.invariant-loop-byte
invariant-loop-byte l = record {
  count : l.count ≡ line_feeds (take l.byte-index l.bytes);
  bound : l.count ≤ l.byte-index;
}
