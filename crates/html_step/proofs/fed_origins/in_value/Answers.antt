use Rattle.std.proofs.Common.{◌∙◌, ap, sym}
use Rattle.std.specs.Prelude.{get_or}
use Rattle.js_step.specs.ScriptScans.{ScriptScan}
use Rattle.place_core.specs.declared.body.Body.{Body}
use Rattle.html_scan.specs.ClassViews.{class_at}
use Rattle.html_scan.specs.ScanViews.{open_reference_at}
use Rattle.html_step.specs.OriginViews.{origin_at}
use Rattle.html_step.specs.Origins.{body_origin, fed_in, script_origin}
use Rattle.html_step.proofs.fed_origins.in_value.Goals as goal

pub returns-in-Js : goal.returns-in-Js
returns-in-Js c = λ y.
    c.then_script.ensures y
    ∙ ap (λ (n : ScriptScan). origin_at c.args.origins (script_origin n y)) c.start.ensures.scan
    ∙ ap (λ (x : Body). origin_at c.args.origins (body_origin x (fed_in c.args.place.quotes (open_reference_at c.args.text.now c.args.index c.args.reference)
    (class_at c.args.class) (get_or c.args.text.now c.args.index 0)) y)) (sym c.in-Js.is)
