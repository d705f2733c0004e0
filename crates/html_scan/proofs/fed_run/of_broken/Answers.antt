use Rattle.std.proofs.Common.{ℕ, List, ◌++◌, ◌+◌, ◌∙◌, length, refl, ap}
use Rattle.html_scan.specs.ScanViews.{open_form_at}
use Rattle.html_scan.specs.ScriptPlaces.{itself_places}
use Rattle.html_scan.proofs.FedRuns.{char_flushed, written_flushed}
use Rattle.html_scan.proofs.fed_run.of_broken.Goals as goal

pub returns-in-Some-clause-fed : goal.returns-in-Some-clause-fed
returns-in-Some-clause-fed c = λ k.
    c.of_char.ensures.fed k
    ∙ ap (λ (ps : List ℕ). ps ++ itself_places c.args.itself k)
    (char_flushed c.args.from c.args.equals (open_form_at c.args.form) c.args.read.now c.in-Some.found c.in-Some.ensures)

pub returns-in-None-clause-fed : goal.returns-in-None-clause-fed
returns-in-None-clause-fed c = λ k.
    ap (λ (ps : List ℕ). ps ++ itself_places c.args.itself k)
    (written_flushed c.args.from (length c.args.read.now + 1) c.args.equals (open_form_at c.args.form) c.args.read.now c.in-None.ensures refl)
