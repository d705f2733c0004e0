use Rattle.std.proofs.Common.{ℕ, ◌+◌, ◌-◌, ◌≤◌, List, [], ◌∷◌, ◌++◌, length, get_or, None, refl, sym, ap, ◌∙◌, arith}
use Rattle.std.proofs.lemmas.List.{length-append}
use Rattle.js_step.specs.ScriptScanViews.{script_scan_at}
use Rattle.place_core.specs.page.Classes.{class_of}
use Rattle.place_core.specs.page.Contents.{EndsContent, Reads, pending_bytes}
use Rattle.place_core.specs.page.States.{Nothing, PendingLess}
use Rattle.html_scan.specs.ScanViews.{script_pending_at}
use Rattle.html_scan.specs.Slices.{pending}
use Rattle.text_norm.specs.declared.pending.WriteProgress.{WriteProgress}
use Rattle.text_norm.proofs.ScriptStepKept.{element-kept, end-less, step-ended, step-held, step-here, step-is, step-wrote}
use Rattle.text_norm.proofs.script_writer.write_in_script.Goals as goal

pub write_read-requires-clause-kept : goal.write_read-requires-clause-kept
write_read-requires-clause-kept c =
    let text = c.args.text.now in
    let index = c.args.index in
    let x = c.args.progress in
    let inside : index ≤ length text = omega (arith, c.requires.inside) in
    let p = c.script_of-back.result.1 in
    let n = script_scan_at c.script_of-back.result.0 in
    let from = index - c.length_of.result in
    let here = step-here text index from x n p c.requires.script (c.script_of-back.ensures.script text index) (c.script_of-back.ensures.back text index)
    (ap (λ (k : ℕ). index - k) c.length_of.ensures) (omega (arith, c.script_of-back.ensures.reach, c.requires.kept.named)) inside in
    element-kept text index from x n (script_pending_at text index p) here.script c.requires.kept here.end inside

pub write_read-requires-in-Reads-clause-kept : goal.write_read-requires-in-Reads-clause-kept
write_read-requires-in-Reads-clause-kept c =
    let text = c.args.text.now in
    let index = c.args.index in
    let x = c.args.progress in
    let inside : index ≤ length text = omega (arith, c.requires.inside) in
    let p = c.script_of-back.result.1 in
    let n = script_scan_at c.script_of-back.result.0 in
    let from = index - c.length_of.result in
    let here = step-here text index from x n p c.requires.script (c.script_of-back.ensures.script text index) (c.script_of-back.ensures.back text index)
    (ap (λ (k : ℕ). index - k) c.length_of.ensures) (omega (arith, c.script_of-back.ensures.reach, c.requires.kept.named)) inside in
    element-kept text index from x n (script_pending_at text index p) here.script c.requires.kept here.end inside

pub write_before_end-requires-clause-kept : goal.write_before_end-requires-clause-kept
write_before_end-requires-clause-kept c =
    let text = c.args.text.now in
    let index = c.args.index in
    let x = c.args.progress in
    let inside : index ≤ length text = omega (arith, c.requires.inside) in
    let p = c.script_of-back.result.1 in
    let n = script_scan_at c.script_of-back.result.0 in
    let from = index - c.length_of.result in
    let here = step-here text index from x n p c.requires.script (c.script_of-back.ensures.script text index) (c.script_of-back.ensures.back text index)
    (ap (λ (k : ℕ). index - k) c.length_of.ensures) (omega (arith, c.script_of-back.ensures.reach, c.requires.kept.named)) inside in
    element-kept text index from x n (script_pending_at text index p) here.script c.requires.kept here.end inside

pub write_before_end-requires-clause-less : goal.write_before_end-requires-clause-less
write_before_end-requires-clause-less c =
    let text = c.args.text.now in
    let index = c.args.index in
    let x = c.args.progress in
    let inside : index ≤ length text = omega (arith, c.requires.inside) in
    let p = c.script_of-back.result.1 in
    let n = script_scan_at c.script_of-back.result.0 in
    let from = index - c.length_of.result in
    let here = step-here text index from x n p c.requires.script (c.script_of-back.ensures.script text index) (c.script_of-back.ensures.back text index)
    (ap (λ (k : ℕ). index - k) c.length_of.ensures) (omega (arith, c.script_of-back.ensures.reach, c.requires.kept.named)) inside in
    let class = c.class_of-class.ensures ∙ ap (λ (bytes : List ℕ). class_of (get_or bytes index 0)) c.as_bytes-bytes.ensures.value in
    let step = step-is (λ (xs : List ℕ). EndsContent (pending xs (index - c.in-Ends.letters) index)) c.as_bytes-bytes.result.now text index p c.may_end.result n _ c.as_bytes-bytes.ensures.value c.may_end.ensures class c.in-Ends.ensures.step in
    end-less text index from x n p (pending text (index - c.in-Ends.letters) index) here c.requires.kept c.requires.inside step

pub returns-in-Holds : goal.returns-in-Holds
returns-in-Holds c kept =
    let text = c.args.text.now in
    let index = c.args.index in
    let x = c.args.progress in
    let inside : index ≤ length text = omega (arith, c.requires.inside) in
    let p = c.script_of-back.result.1 in
    let n = script_scan_at c.script_of-back.result.0 in
    let from = index - c.length_of.result in
    let here = step-here text index from x n p c.requires.script (c.script_of-back.ensures.script text index) (c.script_of-back.ensures.back text index)
    (ap (λ (k : ℕ). index - k) c.length_of.ensures) (omega (arith, c.script_of-back.ensures.reach, c.requires.kept.named)) inside in
    let class = c.class_of-class.ensures ∙ ap (λ (bytes : List ℕ). class_of (get_or bytes index 0)) c.as_bytes-bytes.ensures.value in
    let step = step-is (λ (xs : List ℕ). Reads [] (script_pending_at xs (index + 1) c.in-Holds.field-0)) c.as_bytes-bytes.result.now text index p c.may_end.result n _ c.as_bytes-bytes.ensures.value c.may_end.ensures class c.in-Holds.ensures.step in
    let y : WriteProgress = record { scan = c.args.after; reference = None; done = x.done } in
    step-held text c.args.out.now index from x y n p (script_pending_at text (index + 1) c.in-Holds.field-0) here kept c.requires.inside c.requires.scan step refl c.requires.pending refl

pub returns-in_ok-done-in-Releases : goal.returns-in_ok-done-in-Releases
returns-in_ok-done-in-Releases c kept =
    let text = c.args.text.now in
    let index = c.args.index in
    let x = c.args.progress in
    let inside : index ≤ length text = omega (arith, c.requires.inside) in
    let p = c.script_of-back.result.1 in
    let n = script_scan_at c.script_of-back.result.0 in
    let from = index - c.length_of.result in
    let here = step-here text index from x n p c.requires.script (c.script_of-back.ensures.script text index) (c.script_of-back.ensures.back text index)
    (ap (λ (k : ℕ). index - k) c.length_of.ensures) (omega (arith, c.script_of-back.ensures.reach, c.requires.kept.named)) inside in
    let class = c.class_of-class.ensures ∙ ap (λ (bytes : List ℕ). class_of (get_or bytes index 0)) c.as_bytes-bytes.ensures.value in
    let step = step-is (λ (xs : List ℕ). Reads (pending_bytes (script_pending_at xs index p)) PendingLess) c.as_bytes-bytes.result.now text index p c.may_end.result n _ c.as_bytes-bytes.ensures.value c.may_end.ensures class c.in-Releases.ensures.step in
    let y : WriteProgress = record { scan = c.args.after; reference = None; done = c.in_ok-done-in-Releases.done } in
    step-wrote text c.args.out.now c.write_read.new.out index from index x y n p PendingLess (pending_bytes (script_pending_at text index p)) here kept c.requires.inside c.requires.scan step (sym here.end) refl c.requires.pending
    (c.in_ok-done-in-Releases.ensures (element-kept text index from x n (script_pending_at text index p) here.script kept here.end inside))

pub returns-in_ok-done-in-Reads : goal.returns-in_ok-done-in-Reads
returns-in_ok-done-in-Reads c kept =
    let text = c.args.text.now in
    let index = c.args.index in
    let x = c.args.progress in
    let inside : index ≤ length text = omega (arith, c.requires.inside) in
    let p = c.script_of-back.result.1 in
    let n = script_scan_at c.script_of-back.result.0 in
    let from = index - c.length_of.result in
    let here = step-here text index from x n p c.requires.script (c.script_of-back.ensures.script text index) (c.script_of-back.ensures.back text index)
    (ap (λ (k : ℕ). index - k) c.length_of.ensures) (omega (arith, c.script_of-back.ensures.reach, c.requires.kept.named)) inside in
    let class = c.class_of-class.ensures ∙ ap (λ (bytes : List ℕ). class_of (get_or bytes index 0)) c.as_bytes-bytes.ensures.value in
    let step = step-is (λ (xs : List ℕ). Reads (pending_bytes (script_pending_at xs index p) ++ get_or xs index 0 ∷ []) Nothing) c.as_bytes-bytes.result.now text index p c.may_end.result n _ c.as_bytes-bytes.ensures.value c.may_end.ensures class c.in-Reads.ensures.step in
    let y : WriteProgress = record { scan = c.args.after; reference = None; done = c.in_ok-done-in-Reads.done } in
    let bytes = pending_bytes (script_pending_at text index p) in
    step-wrote text c.args.out.now c.write_read-in-Reads.new.out index from (index + 1) x y n p Nothing (bytes ++ get_or text index 0 ∷ []) here kept c.requires.inside c.requires.scan step
    (omega (arith, here.end, length-append bytes (get_or text index 0 ∷ []))) refl c.requires.pending
    (c.in_ok-done-in-Reads.ensures (element-kept text index from x n (script_pending_at text index p) here.script kept here.end inside))

pub returns-in_ok-done-in-Ends : goal.returns-in_ok-done-in-Ends
returns-in_ok-done-in-Ends c kept =
    let text = c.args.text.now in
    let index = c.args.index in
    let x = c.args.progress in
    let inside : index ≤ length text = omega (arith, c.requires.inside) in
    let p = c.script_of-back.result.1 in
    let n = script_scan_at c.script_of-back.result.0 in
    let from = index - c.length_of.result in
    let here = step-here text index from x n p c.requires.script (c.script_of-back.ensures.script text index) (c.script_of-back.ensures.back text index)
    (ap (λ (k : ℕ). index - k) c.length_of.ensures) (omega (arith, c.script_of-back.ensures.reach, c.requires.kept.named)) inside in
    let class = c.class_of-class.ensures ∙ ap (λ (bytes : List ℕ). class_of (get_or bytes index 0)) c.as_bytes-bytes.ensures.value in
    let step = step-is (λ (xs : List ℕ). EndsContent (pending xs (index - c.in-Ends.letters) index)) c.as_bytes-bytes.result.now text index p c.may_end.result n _ c.as_bytes-bytes.ensures.value c.may_end.ensures class c.in-Ends.ensures.step in
    let y : WriteProgress = record { scan = c.args.after; reference = None; done = c.in_ok-done-in-Ends.done } in
    step-ended text c.args.out.now c.write_before_end.new.out index from x y n p (pending text (index - c.in-Ends.letters) index) here kept c.requires.inside c.requires.scan step refl c.requires.pending
    (c.in_ok-done-in-Ends.ensures (element-kept text index from x n (script_pending_at text index p) here.script kept here.end inside))
