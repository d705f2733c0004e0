use Rattle.std.proofs.Common.{◌∙◌, ap, sym, length}
use Rattle.html_scan.specs.ScanViews.{open_reference_at}
use Rattle.html_step.specs.OriginViews.{origin_at}
use Rattle.html_step.specs.Origins.{body_origin, script_origin}
use Rattle.html_step.proofs.fed_origins.behind_end.Goals as goal
use Rattle.js_step.specs.ScriptScans.{ScriptScan}
use Rattle.place_core.specs.page.References.{as_it_stands}
use Rattle.place_core.specs.declared.body.Body.{Body}

pub returns-in-Js : goal.returns-in-Js
returns-in-Js c = λ y.
    c.then_script.ensures y
    ∙ ap (λ (n : ScriptScan). origin_at c.args.origins (script_origin n y)) c.start-in-Js.ensures.scan
    ∙ ap (λ (x : Body). origin_at c.args.origins
    (body_origin x (as_it_stands (open_reference_at c.args.text.now (length c.args.text.now) c.args.reference)) y)) (sym c.in-Js.is)
