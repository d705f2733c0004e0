use Rattle.std.proofs.Common.{◌∙◌, ap, drop}
use Rattle.std.specs.Prelude.{Some, option_map}
use Rattle.js_step.specs.ScriptScans.{ScriptScan, script_scan_shown}
use Rattle.place_core.specs.declared.body.Body.TheVariants as body
use Rattle.place_core.specs.declared.js.Js.{Js}
use Rattle.place_core.specs.declared.place.Place.{Place}
use Rattle.place_core.specs.declared.place.Place.TheVariants as place
use Rattle.html_scan.specs.Scans.{with_body}
use Rattle.html_scan.proofs.ShownElsewhere.{shown_elsewhere}
use Rattle.html_scan.proofs.ends.shown_place.Goals as goal

pub returns-in-InScript : goal.returns-in-InScript
returns-in-InScript c =
    rw c.in-InScript.is
    (c.script_shown.ensures
    ∙ ap (λ (s : ScriptScan). option_map (λ (j : Js). with_body c.in-InScript.place (body.Js j)) (script_scan_shown s)) c.script_before.ensures)

pub returns-in_default : goal.returns-in_default
returns-in_default c =
    ap (λ (p : Place). Some p) c.end_place.ensures
    ∙ shown_elsewhere c.args.text.now c.split_at.result.0.now (drop c.args.index c.args.text.now) c.args.index c.args.scan c.split_at.ensures.front
    c.in_default.not-InUrl c.in_default.not-InStyle c.in_default.not-InScript c.in_default.not-AfterStyleLess c.in_default.not-InStyleName
    c.in_default.not-InScriptElement c.in_default.not-BeforeType c.in_default.not-InType

pub returns-in-InScriptElement : goal.returns-in-InScriptElement
returns-in-InScriptElement c =
    rw c.in-InScriptElement.is
    (c.element_shown.ensures
    ∙ ap (λ (s : ScriptScan). option_map place.Script (script_scan_shown s)) c.script_left.ensures)
