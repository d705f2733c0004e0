use Rattle.std.proofs.Common.{◌≡◌, drop}
use Rattle.url_step.specs.PartTexts.{bytes_error}
use Rattle.url_step.proofs.characters.bytes_refused.Given as goal

abbrev pub invariant-loop-byte : goal.invariant-loop-byte
invariant-loop-byte l = bytes_error l.here (drop l.byte-index l.bytes) ≡ bytes_error l.fn.parts l.fn.bytes
