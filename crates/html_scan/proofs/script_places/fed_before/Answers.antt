use Rattle.std.proofs.Common.{◌+◌, arith}
use Rattle.html_scan.specs.ScanViews.{open_reference_at}
use Rattle.html_scan.specs.ScriptPlaces.{fed_at}
use Rattle.html_scan.proofs.FedTexts.{count_step}
use Rattle.html_scan.proofs.script_places.fed_before.Goals as goal

pub loop-at-preserved : goal.loop-at-preserved
loop-at-preserved c =
    let run = fed_at c.fed_step-step.result.run c.loop-at.at in
    record {
      count = count_step c.args.text.now c.loop-at.at c.args.index (open_reference_at c.args.text.now c.loop-at.at c.loop-at.reference)
          (open_reference_at c.args.text.now (c.loop-at.at + 1) c.fed_step-step.result.reference) c.loop-at.fed c.fed_count-fed.result _ run
          (omega (arith, c.loop-at-test.true)) c.requires.inside (rw c.class_of.ensures at c.fed_step-step.ensures.fed) (c.fed_count-fed.ensures.count c.loop-at.at)
          (rw c.class_of.ensures at c.fed_step-step.ensures.behind) c.loop-at.invariant.count;
      room = omega (arith, c.loop-at.invariant.room, c.fed_step-step.ensures.room, c.fed_count-fed.ensures.count c.loop-at.at);
      from = c.fed_step-step.ensures.pending;
    }
