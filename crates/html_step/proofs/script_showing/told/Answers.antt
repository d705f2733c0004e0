use Rattle.std.proofs.Common.{option_map}
use Rattle.std.specs.Prelude.{get_or}
use Rattle.js_step.specs.ScriptScanViews.{script_scan_at}
use Rattle.html_scan.specs.ClassViews.{class_at}
use Rattle.html_scan.specs.ScanViews.{open_reference_at, script_count}
use Rattle.html_step.specs.OriginViews.{evidence_at}
use Rattle.html_step.proofs.ScriptShowing.{told-value}
use Rattle.html_step.proofs.script_showing.told.Goals as goal

pub returns : goal.returns
returns c =
    let text = c.args.text.now in
    told-value c.args.quotes (open_reference_at text c.args.index c.args.reference) (open_reference_at text c.args.index c.open_between-open.result) (class_at c.args.class)
    (get_or text c.args.index 0) (script_scan_at c.args.script) (script_scan_at c.behind.result) c.stops.result c.ends_between.result
    (option_map evidence_at c.of_fed-shown.result) (option_map evidence_at c.of_end-end.result) (option_map evidence_at c.first_shown.result)
    c.first_shown.ensures c.stops.ensures (c.open_between-open.ensures.read text c.args.index) c.of_fed-shown.ensures c.ends_between.ensures c.behind.ensures c.of_end-end.ensures

pub of_fed-shown-requires-clause-pending : goal.of_fed-shown-requires-clause-pending
of_fed-shown-requires-clause-pending c = c.open_between-open.ensures.from (script_count c.args.script) c.args.index c.requires.pending
