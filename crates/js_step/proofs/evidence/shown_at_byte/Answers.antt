use Rattle.std.proofs.Common.{◌∙◌, Some, ap}
use Rattle.place_core.specs.declared.member.Member.{Member}
use Rattle.js_step.specs.ScriptEvidence.{script_code_shows, script_split_shows}
use Rattle.js_step.specs.ScriptScanViews.{script_scan_at}
use Rattle.js_step.proofs.ShownCodes.{shown-none, shown-some}
use Rattle.js_step.proofs.evidence.shown_at_byte.Goals as goal

pub returns-in-None : goal.returns-in-None
returns-in-None c = shown-none (script_scan_at c.args.scan) (script_split_shows (script_scan_at c.args.scan) c.args.byte) _ c.in-None.ensures

pub returns-in-Some : goal.returns-in-Some
returns-in-Some c =
    ap Some (c.shown_by.ensures ∙ ap (λ (z : Member). script_code_shows (script_scan_at c.args.scan) z c.in-Some.cause.code) c.split_shows.ensures)
    ∙ shown-some (script_scan_at c.args.scan) (script_split_shows (script_scan_at c.args.scan) c.args.byte) _ c.in-Some.cause c.in-Some.ensures
