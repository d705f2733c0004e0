use Rattle.std.proofs.Common.{◌≡◌, ℕ, ◌+◌, ◌≤◌, List, ◌++◌, length, get_or, Result, Ok, Err, OnOk, sym, ap, ap₂, ◌∙◌, subst, arith}
use Rattle.std.proofs.lemmas.Str.{IsCharBoundary-after_ascii}
use Rattle.std.specs.Str.{IsCharBoundary}
use Rattle.html_scan.specs.Slices.{pending}
use Rattle.place_core.specs.page.References.{as_it_stands}
use Rattle.text_norm.specs.Scanned.{scan_cut_out}
use Rattle.text_norm.specs.Kept.{ending_of, scan_of, reference_of}
use Rattle.text_norm.specs.declared.pending.Ending.TheVariants as ending
use Rattle.text_norm.proofs.ChangedSteps.{IsLessAt, ends_at_less, less_at}
use Rattle.text_norm.proofs.EndLaws.{end_bytes, end_here}
use Rattle.text_norm.proofs.ScriptChanges.{ends-in-script, script-ending-is}
use Rattle.text_norm.proofs.text_writer.write_end.Goals as goal

on_ok : {T E : Type 0} (result : Result T E) (P Q : Type 0) → (P → Q) → OnOk result P → OnOk result Q
on_ok (Ok x) P Q f h = f h
on_ok (Err e) P Q f h = h

pub push_less-requires-clause-order : goal.push_less-requires-clause-order
push_less-requires-clause-order c =
    let inside : length c.args.text.now ≤ length c.args.text.now = omega arith in
    let here = end_here ending.BehindLess c.args.text.now (length c.args.text.now) c.args.progress c.requires.kept (sym c.in-BehindLess.is ∙ c.ending_at.ensures c.args.text.now (length c.args.text.now)) in
    let l = less_at c.args.text.now (length c.args.text.now) c.args.progress here.more c.requires.kept inside here.less in
    let at = c.less_from-less.ensures c.args.text.now inside in
    omega (arith, l.order, at)

pub push_less-requires-clause-from : goal.push_less-requires-clause-from
push_less-requires-clause-from c =
    let here = end_here ending.BehindLess c.args.text.now (length c.args.text.now) c.args.progress c.requires.kept (sym c.in-BehindLess.is ∙ c.ending_at.ensures c.args.text.now (length c.args.text.now)) in
    c.requires.kept.cut here.shown

pub push_less-requires-clause-to : goal.push_less-requires-clause-to
push_less-requires-clause-to c =
    let inside : length c.args.text.now ≤ length c.args.text.now = omega arith in
    let here = end_here ending.BehindLess c.args.text.now (length c.args.text.now) c.args.progress c.requires.kept (sym c.in-BehindLess.is ∙ c.ending_at.ensures c.args.text.now (length c.args.text.now)) in
    let l = less_at c.args.text.now (length c.args.text.now) c.args.progress here.more c.requires.kept inside here.less in
    let at = c.less_from-less.ensures c.args.text.now inside in
    subst (IsCharBoundary c.args.text.now) (sym at) (ends_at_less c.args.text.now (length c.args.text.now) c.args.progress here.more c.requires.kept inside here.less here.shown).cut

pub push_run-requires-in-BehindLess-clause-order : goal.push_run-requires-in-BehindLess-clause-order
push_run-requires-in-BehindLess-clause-order c =
    let inside : length c.args.text.now ≤ length c.args.text.now = omega arith in
    let here = end_here ending.BehindLess c.args.text.now (length c.args.text.now) c.args.progress c.requires.kept (sym c.in-BehindLess.is ∙ c.ending_at.ensures c.args.text.now (length c.args.text.now)) in
    let l = less_at c.args.text.now (length c.args.text.now) c.args.progress here.more c.requires.kept inside here.less in
    let at = c.less_from-less.ensures c.args.text.now inside in
    omega (arith, l.end, at)

pub push_run-requires-in-BehindLess-clause-from : goal.push_run-requires-in-BehindLess-clause-from
push_run-requires-in-BehindLess-clause-from c =
    let inside : length c.args.text.now ≤ length c.args.text.now = omega arith in
    let here = end_here ending.BehindLess c.args.text.now (length c.args.text.now) c.args.progress c.requires.kept (sym c.in-BehindLess.is ∙ c.ending_at.ensures c.args.text.now (length c.args.text.now)) in
    let l = less_at c.args.text.now (length c.args.text.now) c.args.progress here.more c.requires.kept inside here.less in
    let at = c.less_from-less.ensures c.args.text.now inside in
    IsCharBoundary-after_ascii c.args.text.now c.less_from-less.result c.utf8.text (omega (arith, l.end, at)) (omega (arith, ap (λ (i : ℕ). get_or c.args.text.now i 0) at, l.byte))

pub returns-in_ok-push_less-in-BehindLess : goal.returns-in_ok-push_less-in-BehindLess
returns-in_ok-push_less-in-BehindLess c kept =
    let inside : length c.args.text.now ≤ length c.args.text.now = omega arith in
    let here = end_here ending.BehindLess c.args.text.now (length c.args.text.now) c.args.progress c.requires.kept (sym c.in-BehindLess.is ∙ c.ending_at.ensures c.args.text.now (length c.args.text.now)) in
    let l = less_at c.args.text.now (length c.args.text.now) c.args.progress here.more kept inside here.less in
    let at = c.less_from-less.ensures c.args.text.now inside in
    let m = subst (λ (at : ℕ). IsLessAt c.args.text.now (length c.args.text.now) at c.args.progress kept.free here.more) (sym at) l in
    on_ok c.push_run-in-BehindLess.result (c.push_run-in-BehindLess.new.out ≡ c.push_less.new.out ++ pending c.args.text.now (c.less_from-less.result + 1) (length c.args.text.now)) (c.push_run-in-BehindLess.new.out ≡ c.args.out.now ++ (kept.free ++ scan_cut_out (scan_of c.args.text.now (length c.args.text.now) c.args.progress) (reference_of c.args.text.now c.args.progress)))
    (λ ends. end_bytes c.args.out.now c.push_less.new.out c.push_run-in-BehindLess.new.out kept.free (as_it_stands (reference_of c.args.text.now c.args.progress)) (pending c.args.text.now c.args.progress.done c.less_from-less.result) here.more (scan_cut_out (scan_of c.args.text.now (length c.args.text.now) c.args.progress) (reference_of c.args.text.now c.args.progress)) c.in_ok-push_less-in-BehindLess.ensures m.before (ends ∙ ap (λ (xs : List ℕ). c.push_less.new.out ++ xs) m.behind) here.out)
    c.push_run-in-BehindLess.ensures

pub push_run-requires-clause-from : goal.push_run-requires-clause-from
push_run-requires-clause-from c =
    let here = end_here ending.InStyle c.args.text.now (length c.args.text.now) c.args.progress c.requires.kept (sym c.in-InStyle.is ∙ c.ending_at.ensures c.args.text.now (length c.args.text.now)) in
    c.requires.kept.cut here.shown

pub returns-in-InStyle : goal.returns-in-InStyle
returns-in-InStyle c kept =
    let here = end_here ending.InStyle c.args.text.now (length c.args.text.now) c.args.progress c.requires.kept (sym c.in-InStyle.is ∙ c.ending_at.ensures c.args.text.now (length c.args.text.now)) in
    subst (λ (bytes : List ℕ). OnOk c.push_run.result (c.push_run.new.out ≡ c.args.out.now ++ bytes)) (sym kept.parts ∙ ap (λ (xs : List ℕ). kept.free ++ xs) (sym here.out)) c.push_run.ensures

pub returns-in-InStyleComment : goal.returns-in-InStyleComment
returns-in-InStyleComment c kept =
    let here = end_here ending.InStyleComment c.args.text.now (length c.args.text.now) c.args.progress c.requires.kept (sym c.in-InStyleComment.is ∙ c.ending_at.ensures c.args.text.now (length c.args.text.now)) in
    subst (λ (bytes : List ℕ). OnOk c.push_str.result (c.push_str.new.self ≡ c.args.out.now ++ bytes)) (sym (ap₂ (λ (xs ys : List ℕ). xs ++ ys) (kept.alone here.comment) here.out)) c.push_str.ensures.ok

pub returns-in-Loose : goal.returns-in-Loose
returns-in-Loose c kept =
    let here = end_here ending.Loose c.args.text.now (length c.args.text.now) c.args.progress c.requires.kept (sym c.in-Loose.is ∙ c.ending_at.ensures c.args.text.now (length c.args.text.now)) in
    subst (λ (bytes : List ℕ). OnOk c.write_free.result (c.write_free.new.out ≡ c.args.out.now ++ (kept.free ++ bytes))) (sym here.out) (c.write_free.ensures kept)

pub write_script_end-requires-clause-script : goal.write_script_end-requires-clause-script
write_script_end-requires-clause-script c =
    let f = scan_of c.args.text.now (length c.args.text.now) c.args.progress in
    let is : ending.InScript ≡ ending_of f = sym c.in-InScript.is ∙ c.ending_at.ensures c.args.text.now (length c.args.text.now) in
    ends-in-script f (script-ending-is (ending_of f) is)
