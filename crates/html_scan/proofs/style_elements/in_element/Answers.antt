use Rattle.std.proofs.Common.{◌∙◌, arith}
use Rattle.css_step.specs.StyleScanViews.{style_scan_at}
use Rattle.html_scan.proofs.StyleElements.{loose_byte}
use Rattle.html_scan.proofs.style_elements.in_element.Goals as goal

pub returns-in_default : goal.returns-in_default
returns-in_default c = record {
  scan = λ text k. c.at_style.ensures.scan text k
      ∙ loose_byte (style_scan_at c.args.style) (style_scan_at c.next.result) c.args.class c.args.byte c.in_default.not-LessThan c.next.ensures;
  pending = omega (arith, c.at_style.ensures.pending);
}
