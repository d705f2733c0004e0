use Rattle.std.proofs.Common.{◌≤◌, ◌<◌, ◌+◌, ◌∙◌, length, arith}
use Rattle.html_scan.specs.ScanViews.{open_reference_at}
use Rattle.html_scan.specs.ScriptPlaces.{fed_at}
use Rattle.html_scan.proofs.FedTexts.{place_found, place_later}
use Rattle.html_scan.proofs.script_places.place_of.Goals as goal

pub returns-then-left-count-clause-place : goal.returns-then-left-count-clause-place
returns-then-left-count-clause-place c =
    let run = fed_at c.fed_step-step.result.run c.loop-at.at in
    let less : c.loop-at.left < length run = omega (arith, c.if-left-count.true, c.fed_count-count.ensures.count c.loop-at.at) in
    c.fed_place.ensures.place
    ∙ place_found c.args.text.now c.loop-at.at c.args.index c.loop-at.left _ (open_reference_at c.args.text.now c.loop-at.at c.loop-at.reference) run
    (fed_at c.args.current c.args.index) (omega (arith, c.loop-at-test.true)) c.requires.inside (rw c.class_of.ensures at c.fed_step-step.ensures.fed) less
    c.loop-at.invariant.place

pub loop-at-preserved : goal.loop-at-preserved
loop-at-preserved c =
    let run = fed_at c.fed_step-step.result.run c.loop-at.at in
    let more : c.fed_count-count.result ≤ c.loop-at.left = omega (arith, c.if-left-count.false) in
    record {
      place = place_later c.args.text.now c.loop-at.at c.args.index c.loop-at.left _ c.fed_count-count.result
          (open_reference_at c.args.text.now c.loop-at.at c.loop-at.reference)
          (open_reference_at c.args.text.now (c.loop-at.at + 1) c.fed_step-step.result.reference) run (fed_at c.args.current c.args.index)
          (omega (arith, c.loop-at-test.true)) c.requires.inside (rw c.class_of.ensures at c.fed_step-step.ensures.fed) (c.fed_count-count.ensures.count c.loop-at.at)
          (rw c.class_of.ensures at c.fed_step-step.ensures.behind) more c.loop-at.invariant.place;
      from = c.fed_step-step.ensures.pending;
    }
