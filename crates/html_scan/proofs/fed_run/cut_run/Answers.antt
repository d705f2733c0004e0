use Rattle.std.proofs.Common.{◌≡◌, ◌+◌, ◌≤◌, length, refl, arith}
use Rattle.html_scan.specs.ScanViews.{open_form_at}
use Rattle.html_scan.specs.Slices.{pending}
use Rattle.html_scan.proofs.FedRuns.{cut_placed}
use Rattle.html_scan.proofs.PendingNames.{length_pending}
use Rattle.html_scan.proofs.fed_run.cut_run.Goals as goal

pub returns-in-Some-clause-fed : goal.returns-in-Some-clause-fed
returns-in-Some-clause-fed c =
    let from = c.in-Some.open.from in
    let k = length c.args.text.now in
    let begun : from + 1 ≤ k = rw c.in-Some.is at c.requires.pending in
    let whole : from + 1 + length (pending c.args.text.now (from + 1) k) ≡ k = omega (arith, begun, length_pending c.args.text.now (from + 1) k (omega arith)) in
    rw c.in-Some.is (cut_placed k from _ (open_form_at c.in-Some.open.form) (pending c.args.text.now (from + 1) k) whole refl)
