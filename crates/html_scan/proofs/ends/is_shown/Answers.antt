use Rattle.std.proofs.Common.{◌∙◌, ap}
use Rattle.std.specs.Prelude.{is_some, option_map}
use Rattle.js_step.specs.ScriptScans.{ScriptScan, script_scan_shown}
use Rattle.place_core.specs.declared.body.Body.TheVariants as body
use Rattle.place_core.specs.declared.js.Js.{Js}
use Rattle.place_core.specs.declared.place.Place.TheVariants as place
use Rattle.html_scan.specs.Scans.{with_body}
use Rattle.html_scan.proofs.ends.is_shown.Goals as goal

pub returns-in-InScript : goal.returns-in-InScript
returns-in-InScript c =
    rw c.in-InScript.is
    (c.is_some.ensures
    ∙ rw c.script_shown.ensures
    (ap (λ (s : ScriptScan). is_some (option_map (λ (j : Js). with_body c.in-InScript.place (body.Js j)) (script_scan_shown s))) c.script_before.ensures))

pub returns-in-InScriptElement : goal.returns-in-InScriptElement
returns-in-InScriptElement c =
    rw c.in-InScriptElement.is
    (c.is_some-in-InScriptElement.ensures
    ∙ rw c.element_shown.ensures
    (ap (λ (s : ScriptScan). is_some (option_map place.Script (script_scan_shown s))) c.script_left.ensures))
