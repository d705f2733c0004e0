use Rattle.std.proofs.Common.{◌∙◌, ap, sym}
use Rattle.std.specs.Prelude.{get_or}
use Rattle.js_step.specs.ScriptScans.{ScriptScan}
use Rattle.place_core.specs.declared.place.Place.{Place}
use Rattle.html_scan.specs.ClassViews.{class_at}
use Rattle.html_step.specs.OriginViews.{origin_at}
use Rattle.html_step.specs.Origins.{place_fed_origin, script_origin}
use Rattle.html_step.proofs.fed_origins.at_place.Goals as goal

pub returns-in-Script : goal.returns-in-Script
returns-in-Script c = λ y.
    c.then_script.ensures y
    ∙ ap (λ (n : ScriptScan). origin_at c.args.origins (script_origin n y)) c.start-in-Script.ensures.scan
    ∙ ap (λ (x : Place). origin_at c.args.origins (place_fed_origin x (class_at c.args.class) (get_or c.args.text.now c.args.index 0) y)) (sym c.in-Script.is)
