use Rattle.std.proofs.Common.{◌≡◌, ◌≤◌, ◌∙◌, ap, arith}
use Rattle.js_step.specs.ScriptScanViews.{script_scan_at}
use Rattle.html_scan.specs.ScanViews.{script_count, script_lookback}
use Rattle.html_scan.proofs.ScriptBacks.{none_back}
use Rattle.html_scan.proofs.ScriptCounts.{count_fits}
use Rattle.html_scan.proofs.scripts.begun.Goals as goal

pub returns-clause-scan : goal.returns-clause-scan
returns-clause-scan c = c.start.ensures.scan

pub returns-clause-count : goal.returns-clause-count
returns-clause-count c = (let none : script_count c.start.result ≤ 0 = count_fits 0 c.start.result c.start.ensures.fits in omega (arith, none))

pub returns-clause-reach : goal.returns-clause-reach
returns-clause-reach c =
    let count : script_count c.start.result ≤ 0 = count_fits 0 c.start.result c.start.ensures.fits in
    let back : script_lookback (script_scan_at c.start.result) ≡ 0 = ap script_lookback c.start.ensures.scan ∙ none_back c.args.place in
    omega (arith, count, back)
