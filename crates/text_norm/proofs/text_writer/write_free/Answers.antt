use Rattle.std.proofs.Common.{◌≡◌, ℕ, ◌-◌, List, ◌++◌, length, OnOk, sym, ap, ◌∙◌, subst, arith, Some, Option}
use Rattle.std.specs.Str.{IsCharBoundary}
use Rattle.html_scan.specs.Slices.{pending}
use Rattle.place_core.specs.page.References.{as_it_stands}
use Rattle.text_norm.specs.Kept.{scan_of, less_kept, reference_of}
use Rattle.text_norm.specs.ReferenceViews.{reference_view}
use Rattle.text_norm.specs.Written.{text_escaped}
use Rattle.text_norm.specs.declared.reference.Opened.{Opened}
use Rattle.text_norm.proofs.Kept.{cut_bytes, cut_sign, less_parted, open_at}
use Rattle.text_norm.proofs.text_writer.write_free.Goals as goal

pub push_run-requires-clause-order : goal.push_run-requires-clause-order
push_run-requires-clause-order c =
    let p = less_parted c.args.text.now c.args.index c.args.progress c.requires.kept c.requires.inside in
    omega (arith, c.less_from.ensures c.args.text.now c.requires.inside, p.start)

pub push_run-requires-clause-to : goal.push_run-requires-clause-to
push_run-requires-clause-to c = subst (IsCharBoundary c.args.text.now) (sym (c.less_from.ensures c.args.text.now c.requires.inside)) c.requires.ends.cut

pub push_reference-requires-clause-sign : goal.push_reference-requires-clause-sign
push_reference-requires-clause-sign c =
    let o = open_at c.args.text.now c.args.index c.args.progress c.in-Some.opened c.requires.kept c.requires.inside c.in-Some.is in
    cut_sign c.args.text.now c.args.progress.done (c.args.index - length (less_kept (scan_of c.args.text.now c.args.index c.args.progress))) c.requires.kept.free c.in-Some.opened o c.requires.ends.cut.0

pub push_reference-requires-clause-bytes : goal.push_reference-requires-clause-bytes
push_reference-requires-clause-bytes c =
    let o = open_at c.args.text.now c.args.index c.args.progress c.in-Some.opened c.requires.kept c.requires.inside c.in-Some.is in
    cut_bytes c.args.text.now c.args.progress.done (c.args.index - length (less_kept (scan_of c.args.text.now c.args.index c.args.progress))) c.requires.kept.free c.in-Some.opened c.utf8.text o c.requires.ends.cut.0

pub push_reference-requires-clause-to : goal.push_reference-requires-clause-to
push_reference-requires-clause-to c =
    let o = open_at c.args.text.now c.args.index c.args.progress c.in-Some.opened c.requires.kept c.requires.inside c.in-Some.is in
    subst (IsCharBoundary c.args.text.now) (sym o.to) c.requires.ends.cut

pub returns-in-None : goal.returns-in-None
returns-in-None c kept =
    let p = less_parted c.args.text.now c.args.index c.args.progress kept c.requires.inside in
    let here : pending c.args.text.now c.args.progress.done c.less_from.result ≡ kept.free ++ as_it_stands (reference_of c.args.text.now c.args.progress) = ap (pending c.args.text.now c.args.progress.done) (c.less_from.ensures c.args.text.now c.requires.inside) ∙ p.before in
    let same : pending c.args.text.now c.args.progress.done c.less_from.result ≡ kept.free ++ text_escaped (reference_of c.args.text.now c.args.progress) = here ∙ ap (λ (o : Option Opened). kept.free ++ as_it_stands (reference_view c.args.text.now o)) c.in-None.is ∙ ap (λ (o : Option Opened). kept.free ++ text_escaped (reference_view c.args.text.now o)) (sym c.in-None.is) in
    subst (λ (bytes : List ℕ). OnOk c.push_run.result (c.push_run.new.out ≡ c.args.out.now ++ bytes)) same c.push_run.ensures

pub returns-in-Some : goal.returns-in-Some
returns-in-Some c kept =
    let o = open_at c.args.text.now c.args.index c.args.progress c.in-Some.opened kept c.requires.inside c.in-Some.is in
    let same : pending c.args.text.now c.args.progress.done (c.in-Some.opened.from - 1) ++ text_escaped (reference_view c.args.text.now (Some c.in-Some.opened)) ≡ kept.free ++ text_escaped (reference_of c.args.text.now c.args.progress) = ap (λ (bytes : List ℕ). bytes ++ text_escaped (reference_view c.args.text.now (Some c.in-Some.opened))) o.before ∙ ap (λ (o : Option Opened). kept.free ++ text_escaped (reference_view c.args.text.now o)) (sym c.in-Some.is) in
    subst (λ (bytes : List ℕ). OnOk c.push_reference.result (c.push_reference.new.out ≡ c.args.out.now ++ bytes)) same c.push_reference.ensures
