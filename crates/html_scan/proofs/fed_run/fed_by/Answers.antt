use Rattle.std.proofs.Common.{◌≡◌, ◌≤◌, ◌+◌, ◌∙◌, length, arith}
use Rattle.std.specs.Prelude.{get_or}
use Rattle.html_scan.specs.ClassViews.{class_at}
use Rattle.html_scan.specs.ScanViews.{open_form_at}
use Rattle.html_scan.proofs.FedRuns.{ended_places}
use Rattle.html_scan.proofs.fed_run.fed_by.Goals as goal

pub returns-in-Some-clause-fed : goal.returns-in-Some-clause-fed
returns-in-Some-clause-fed c =
    let begun : c.in-Some.open.from + 1 ≤ c.args.index = rw c.in-Some.is at c.requires.pending in
    let whole : c.in-Some.open.from + 1 + length c.pending-read.result.now ≡ c.args.index = omega (arith, begun, c.pending-read.ensures.len) in
    rw (c.if-not-ended.false, c.in-Some.is, ← c.pending-read.ensures.read)
    (c.of_broken.ensures.fed c.args.index
    ∙ ended_places c.args.index c.in-Some.open.from (open_form_at c.in-Some.open.form) c.pending-read.result.now (class_at c.args.class)
    (get_or c.args.text.now c.args.index 0) whole)
