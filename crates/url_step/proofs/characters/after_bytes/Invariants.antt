use Rattle.std.proofs.Common.{◌≡◌, drop}
use Rattle.url_step.specs.PartTexts.{point_behind}
use Rattle.url_step.proofs.characters.after_bytes.Given as goal

abbrev pub invariant-loop-byte : goal.invariant-loop-byte
invariant-loop-byte l = point_behind l.here (drop l.byte-index l.bytes) ≡ point_behind l.fn.point l.fn.bytes
