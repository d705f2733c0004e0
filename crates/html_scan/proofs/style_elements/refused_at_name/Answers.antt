use Rattle.std.proofs.Common.{ap}
use Rattle.css_step.specs.StyleScanViews.{style_scan_at}
use Rattle.html_scan.proofs.StyleElements.{split_refused, split_there}
use Rattle.html_scan.specs.ScanViews.{cause_at}
use Rattle.html_scan.specs.Scans.{style_less_cause}
use Rattle.html_scan.proofs.style_elements.refused_at_name.Goals as goal

pub returns-in-Some-clause-error : goal.returns-in-Some-clause-error
returns-in-Some-clause-error c = split_refused (style_scan_at c.args.style) style_less_cause c.args.letters.now _ c.in-Some.ensures.error

pub returns-in-None-clause-error : goal.returns-in-None-clause-error
returns-in-None-clause-error c = split_there (style_scan_at c.args.style) style_less_cause c.args.letters.now _ c.in-None.ensures.error (ap cause_at c.split.ensures)
