use Rattle.js_step.specs.ScriptScanViews.{script_scan_at}
use Rattle.html_scan.proofs.ScriptsFed.{script_plain}
use Rattle.html_scan.proofs.scripts.at_plain_byte.Goals as goal

pub returns-in_default-clause-scan : goal.returns-in_default-clause-scan
returns-in_default-clause-scan c = λ text inside.
    script_plain c.args.place (script_scan_at c.args.script) (script_scan_at c.after_byte.result) c.args.class c.args.byte c.in_default.not-Ampersand
    c.after_byte.ensures.fed
