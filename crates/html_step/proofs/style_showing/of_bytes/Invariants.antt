use Rattle.std.proofs.Common.{◌≡◌, drop}
use Rattle.css_step.specs.StyleScanViews.{style_scan_at}
use Rattle.html_step.specs.Origins.{style_fed_shown}
use Rattle.html_step.proofs.style_showing.of_bytes.Given as goal

abbrev pub invariant-loop-byte : goal.invariant-loop-byte
invariant-loop-byte l = style_fed_shown (drop l.byte-index l.bytes) (style_scan_at l.fed) ≡ style_fed_shown l.fn.bytes (style_scan_at l.fn.style)
