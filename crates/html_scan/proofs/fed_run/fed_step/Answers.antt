use Rattle.std.proofs.Common.{◌≡◌, ◌≤◌, ◌+◌, ◌∙◌, length, ap, arith}
use Rattle.std.specs.Prelude.{get_or}
use Rattle.html_scan.specs.ClassViews.{class_at}
use Rattle.html_scan.specs.ScanViews.{open_form_at}
use Rattle.html_scan.specs.ScriptPlaces.{itself_places}
use Rattle.html_scan.specs.declared.fed_run.FedRun.{FedRun}
use Rattle.html_scan.proofs.FedRuns.{broken_places, closed_places, fed_most}
use Rattle.html_scan.proofs.fed_run.fed_step.Goals as goal

pub returns-in-None-clause-room : goal.returns-in-None-clause-room
returns-in-None-clause-room c =
    let none : c.nothing.result.count ≡ 0 = ap (λ (x : FedRun). x.count) c.nothing.ensures in
    let few = fed_most (record { from = c.nothing.result.from; count = c.nothing.result.count; written = c.nothing.result.written; itself = c.is_plain.result }) c.args.index in
    rw c.in-None.is (omega (arith, none, few, c.begun.ensures.room))

pub returns-in-Closes-clause-fed : goal.returns-in-Closes-clause-fed
returns-in-Closes-clause-fed c =
    let begun : c.in-Some.open.from + 1 ≤ c.args.index = rw c.in-Some.is at c.requires.pending in
    let whole : c.in-Some.open.from + 1 + length c.pending-read.result.now ≡ c.args.index = omega (arith, begun, c.pending-read.ensures.len) in
    rw (c.in-Some.is, ← c.pending-read.ensures.read)
    ((rw c.meaning.ensures at c.of_char.ensures.fed c.args.index)
    ∙ closed_places c.args.index c.in-Some.open.from (open_form_at c.in-Some.open.form) c.pending-read.result.now (class_at c.args.class)
    (get_or c.args.text.now c.args.index 0) (rw c.in-Closes.is at c.turn.ensures) whole)

pub returns-in-Closes-clause-room : goal.returns-in-Closes-clause-room
returns-in-Closes-clause-room c =
    let begun : c.in-Some.open.from + 1 ≤ c.args.index = rw c.in-Some.is at c.requires.pending in
    rw c.in-Some.is (omega (arith, begun, fed_most c.of_char.result c.args.index, c.of_char.ensures.few))

pub returns-in-Breaks-clause-fed : goal.returns-in-Breaks-clause-fed
returns-in-Breaks-clause-fed c =
    let begun : c.in-Some.open.from + 1 ≤ c.args.index = rw c.in-Some.is at c.requires.pending in
    let whole : c.in-Some.open.from + 1 + length c.pending-read.result.now ≡ c.args.index = omega (arith, begun, c.pending-read.ensures.len) in
    rw (c.in-Some.is, ← c.pending-read.ensures.read)
    ((rw c.is_equals.ensures at c.of_broken.ensures.fed c.args.index)
    ∙ broken_places c.args.index c.in-Some.open.from (open_form_at c.in-Some.open.form) c.pending-read.result.now (class_at c.args.class)
    (get_or c.args.text.now c.args.index 0) (itself_places c.is_plain-plain.result c.args.index) (rw c.in-Breaks.is at c.turn.ensures) whole
    (c.is_plain-plain.ensures c.args.index (get_or c.args.text.now c.args.index 0)))

pub returns-in-Breaks-clause-room : goal.returns-in-Breaks-clause-room
returns-in-Breaks-clause-room c =
    let begun : c.in-Some.open.from + 1 ≤ c.args.index = rw c.in-Some.is at c.requires.pending in
    rw c.in-Some.is
    (omega (arith, begun, fed_most c.of_broken.result c.args.index, c.of_broken.ensures.few, c.pending-read.ensures.len, c.begun-in-Breaks.ensures.room))
