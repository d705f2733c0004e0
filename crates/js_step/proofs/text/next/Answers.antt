use Rattle.std.proofs.Common.{◌∙◌, ap}
use Rattle.js_lexer.specs.Feeding.{feed_script, point_of}
use Rattle.js_lexer.specs.declared.sense.Sense.{Sense}
use Rattle.js_step.specs.KeptWords.{kept_point}
use Rattle.js_step.specs.ScriptScanViews.{script_point_at, script_scan_at}
use Rattle.js_step.specs.ScriptScans.{script_in_sense}
use Rattle.js_step.proofs.KeptScans.{held-there, next-parts, trail-there}
use Rattle.js_step.proofs.text.next.Goals as goal

pub returns-clause-fits : goal.returns-clause-fits
returns-clause-fits c = λ k h. record { braces = c.fed_in-to.ensures.fits k h.braces; trail = c.next_trail-trail.ensures.fits k h.trail }

pub returns-clause-scan : goal.returns-clause-scan
returns-clause-scan c =
    let n = script_scan_at c.args.scan in
    let at = ap (λ (s : Sense). kept_point (point_of (feed_script (script_in_sense s n.state) c.args.byte))) c.one_sense-sense.ensures in
    let held = held-there n c.args.byte _ _ _ _ c.one_sense-sense.ensures c.in_sense-at.ensures.at c.tells_white_apart-apart.ensures c.next_held.ensures in
    let trail = trail-there n c.args.byte _ _ _ _ _ _ c.one_sense-sense.ensures c.in_sense-at.ensures.at c.tells_white_apart-apart.ensures
    c.releases-some.ensures c.fed_in-to.ensures.point c.next_trail-trail.ensures.trail in
    rw c.star_next.ensures
    (next-parts n c.args.byte _ _ (script_point_at c.fed_in-to.result) _ _ c.senses_next.ensures c.tails_next.ensures (c.fed_in-to.ensures.point ∙ at) held trail)
