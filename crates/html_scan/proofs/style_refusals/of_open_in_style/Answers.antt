use Rattle.std.proofs.Common.{◌∙◌}
use Rattle.css_step.specs.StyleScanViews.{style_scan_at}
use Rattle.html_scan.specs.Scans.{style_feeding}
use Rattle.html_scan.proofs.StylesFed.{written_stands}
use Rattle.html_scan.proofs.style_refusals.of_open_in_style.Goals as goal

pub returns-in-Some-clause-error : goal.returns-in-Some-clause-error
returns-in-Some-clause-error c =
    rw c.in-Some.is
    (c.of_written.ensures.error ∙ written_stands style_feeding (style_scan_at c.args.style) c.pending.result.now _ c.pending.ensures.read)
