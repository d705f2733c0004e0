use Rattle.std.proofs.Common.{◌≡◌, drop}
use Rattle.css_step.specs.StyleScanViews.{style_scan_at}
use Rattle.place_core.specs.page.Tags.{feed_bytes}
use Rattle.html_scan.specs.Scans.{style_feeding}
use Rattle.html_scan.proofs.styles.after_bytes.Given as goal

abbrev pub invariant-loop-byte : goal.invariant-loop-byte
invariant-loop-byte l = feed_bytes style_feeding (style_scan_at l.fed) (drop l.byte-index l.bytes) ≡ feed_bytes style_feeding (style_scan_at l.fn.style) l.fn.bytes
