use Rattle.css_step.specs.StyleScanViews.{style_scan_at}
use Rattle.html_scan.proofs.StyleElements.{less_refused}
use Rattle.html_scan.proofs.style_elements.refused_after_less.Goals as goal

pub returns-in-Some : goal.returns-in-Some
returns-in-Some c = record {
  error = less_refused (style_scan_at c.args.style) c.args.class c.args.byte _ c.in_default.not-Solidus c.in-Some.ensures.error;
  bound = c.in-Some.ensures.bound;
}
