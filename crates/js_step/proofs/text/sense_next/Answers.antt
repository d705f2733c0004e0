use Rattle.std.proofs.Common.{◌∙◌, ap}
use Rattle.js_lexer.specs.Feeding.{feed_script}
use Rattle.js_lexer.specs.States.{ScriptPoint}
use Rattle.js_step.specs.ScriptScanViews.{script_scan_at}
use Rattle.js_step.specs.ScriptScans.{script_in_sense, script_sense_at}
use Rattle.js_step.proofs.KeptScans.{sense-at-kept}
use Rattle.js_step.proofs.text.sense_next.Goals as goal
use Rattle.place_core.specs.place.ScriptParts.{script_senses}

pub returns-then-is_one : goal.returns-then-is_one
returns-then-is_one c =
    let at = (feed_script (script_in_sense c.args.sense (script_scan_at c.args.scan).state) c.args.byte).at in
    rw c.if-is_one.true
    (c.only.ensures ∙ ap script_senses (c.sense_at.ensures ∙ (ap (λ (p : ScriptPoint). script_sense_at p.at) c.fed_in-to.ensures.point ∙ sense-at-kept at)))
