use Rattle.std.proofs.Common.{◌≡◌, ◌+◌, length}
use Rattle.std.specs.List.{prefix_len}
use Rattle.esc_table.specs.Kept.{is_kept_byte}
use Rattle.esc_table.proofs.run.run_len.Given as goal

abbrev pub invariant-loop-eight : goal.invariant-loop-eight
invariant-loop-eight l = record {
  run : l.at + prefix_len (is_kept_byte l.kept) l.rest ≡ prefix_len (is_kept_byte l.kept) l.bytes;
  all : l.at + length l.rest ≡ length l.bytes;
}

abbrev pub decreases-loop-eight : goal.decreases-loop-eight
decreases-loop-eight l = length l.rest
