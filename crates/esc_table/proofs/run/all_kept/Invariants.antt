use Rattle.std.proofs.Common.{◌≡◌, ◌&&◌, drop}
use Rattle.std.specs.List.{list_all}
use Rattle.esc_table.specs.Kept.{is_kept_byte}
use Rattle.esc_table.proofs.run.all_kept.Given as goal

abbrev pub invariant-loop-byte : goal.invariant-loop-byte
invariant-loop-byte l =
    (l.all && list_all (is_kept_byte l.kept) (drop l.byte-index l.bytes)) ≡ list_all (is_kept_byte l.kept) l.bytes
