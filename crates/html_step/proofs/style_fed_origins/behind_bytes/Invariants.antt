use Rattle.std.proofs.Common.{◌≡◌, drop}
use Rattle.css_step.specs.StyleScanViews.{style_scan_at}
use Rattle.place_core.specs.declared.member.Member.{Member}
use Rattle.html_step.specs.OriginViews.{origin_at}
use Rattle.html_step.specs.Origins.{style_fed_origin}
use Rattle.html_step.proofs.style_fed_origins.behind_bytes.Given as goal

abbrev pub invariant-loop-byte : goal.invariant-loop-byte
invariant-loop-byte l =
    (y : Member) → origin_at l.behind (style_fed_origin (drop l.byte-index l.bytes) (style_scan_at l.fed) y)
    ≡ origin_at l.fn.origins (style_fed_origin l.fn.bytes (style_scan_at l.fn.style) y)
