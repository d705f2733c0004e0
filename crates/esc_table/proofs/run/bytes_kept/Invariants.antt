use Rattle.std.proofs.Common.{◌≡◌, drop, replicate, true}
use Rattle.esc_table.specs.Kept.{kept_of}
use Rattle.esc_table.proofs.run.bytes_kept.Given as goal

abbrev pub invariant-loop-character : goal.invariant-loop-character
invariant-loop-character l = kept_of l.kept (drop l.character-index l.characters) ≡ kept_of (replicate 256 true) l.characters
