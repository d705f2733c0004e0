use Rattle.std.proofs.Common.{refl, option_map}
use Rattle.std.specs.Prelude.{get_or}
use Rattle.js_step.specs.ScriptScanViews.{script_scan_at}
use Rattle.html_scan.specs.ClassViews.{class_at}
use Rattle.html_scan.specs.Scans.{At}
use Rattle.html_step.specs.OriginViews.{evidence_at}
use Rattle.html_step.proofs.ScriptElementShowing.{begun-element}
use Rattle.html_step.proofs.ScriptShowing.{begun-shown}
use Rattle.html_step.proofs.script_showing.at_place.Goals as goal

pub returns-in-Js : goal.returns-in-Js
returns-in-Js c =
    begun-shown (At c.args.place) c.args.place c.in-Value.value c.in-Js.js (script_scan_at c.begun.result) (class_at c.args.class)
    (get_or c.args.text.now c.args.index 0) (option_map evidence_at c.at_byte.result) refl c.in-Value.is c.in-Js.is c.begun.ensures.scan
    c.at_byte.ensures

pub returns-in-Script : goal.returns-in-Script
returns-in-Script c =
    begun-element c.args.place c.in-Script.js (script_scan_at c.begun-script.result) (class_at c.args.class) (get_or c.args.text.now c.args.index 0)
    (option_map evidence_at c.at_byte-in-Script.result) c.in-Script.is c.begun-script.ensures.scan c.at_byte-in-Script.ensures
