use Rattle.std.proofs.Common.{◌≡◌, ◌≤◌, ◌++◌, ◌-◌, drop, length}
use Rattle.text_norm.specs.Scanned.{written_at, written_from}
use Rattle.text_norm.specs.Kept.{IsProgressKept, scan_of, reference_of}
use Rattle.text_norm.proofs.text_writer.write_text.Given as goal

abbrev pub invariant-loop-index : goal.invariant-loop-index
invariant-loop-index l = (l.index ≤ length l.text) × (kept : IsProgressKept l.text l.index l.progress) × (l.out ++ (kept.free ++ written_from (drop l.index l.text) (scan_of l.text l.index l.progress) (reference_of l.text l.progress)) ≡ written_at l.text l.fn.place)

abbrev pub decreases-loop-index : goal.decreases-loop-index
decreases-loop-index l = length l.text - l.index
