use Rattle.std.proofs.Common.{◌≡◌, drop}
use Rattle.css_step.specs.StyleCharacters.{style_bytes_error}
use Rattle.css_step.specs.StyleScanViews.{style_scan_at}
use Rattle.css_step.proofs.characters.bytes_refused.Given as goal

abbrev pub invariant-loop-byte : goal.invariant-loop-byte
invariant-loop-byte l = style_bytes_error (style_scan_at l.here) (drop l.byte-index l.bytes) ≡ style_bytes_error (style_scan_at l.fn.scan) l.fn.bytes
