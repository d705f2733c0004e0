use Rattle.css_step.specs.StyleScanViews.{style_scan_at}
use Rattle.html_scan.proofs.StyleElements.{behind_less_fed}
use Rattle.html_scan.specs.Scans.{style_feeding}
use Rattle.html_scan.proofs.style_elements.of_name.Goals as goal

pub returns-in-None-clause-error : goal.returns-in-None-clause-error
returns-in-None-clause-error c =
    behind_less_fed style_feeding (style_scan_at c.args.style) (style_scan_at c.next.result) c.args.letters.now _ c.in-None.ensures c.next.ensures c.of_solidus.ensures.error
