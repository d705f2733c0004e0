use Rattle.std.proofs.Common.{◌≡◌, ℕ, ◌+◌, ◌<◌, ◌≤◌, List, ◌++◌, length, sym, ap, ◌∙◌, subst, arith}
use Rattle.text_norm.specs.Scanned.{written_at}
use Rattle.text_norm.specs.Kept.{IsProgressKept}
use Rattle.text_norm.proofs.Loops.{begins, left_end, left_of, reads_more}
use Rattle.text_norm.proofs.Rests.{IsWritten, skipped}
use Rattle.text_norm.specs.Resting.{Rests}
use Rattle.text_norm.proofs.Steps.{byte_at}
use Rattle.text_norm.proofs.text_writer.write_text.Goals as goal

pub loop-index-init : goal.loop-index-init
loop-index-init c = (omega arith, begins c.args.text.now c.args.place c.utf8.text, ap (λ (out : List ℕ). out ++ written_at c.args.text.now c.args.place) c.new-out.ensures)

pub loop-index-preserved : goal.loop-index-preserved
loop-index-preserved c =
    let text = c.args.text.now in
    let later = c.resting_end-index.result in
    let kept = c.loop-index.invariant.1 in
    let reads = c.in_ok-progress.ensures kept in
    let same = c.as_bytes-bytes.ensures.value in
    let inside : c.loop-index.index < length text = omega (arith, c.loop-index-test.true, ap length same) in
    let fits : later ≤ length text = omega (arith, c.resting_end-index.ensures.inside, ap length same) in
    let rests : (i : ℕ) → c.loop-index.index + 1 ≤ i → i < later → Rests c.in_ok-progress.progress (byte_at text i) = λ i from to. subst (λ (bytes : List ℕ). Rests c.in_ok-progress.progress (byte_at bytes i)) same (c.resting_end-index.ensures.rests i from to) in
    let written : IsWritten text (written_at text c.args.place) (c.loop-index.index + 1) c.in_ok-progress.progress c.write_byte.new.out = (reads.kept, reads_more text (written_at text c.args.place) c.loop-index.index c.loop-index.progress c.in_ok-progress.progress kept.free c.loop-index.out c.write_byte.new.out reads inside c.loop-index.invariant.2) in
    let there = skipped text (written_at text c.args.place) (c.loop-index.index + 1) later c.in_ok-progress.progress c.write_byte.new.out c.resting_end-index.ensures.order fits rests written in
    (fits, there.0, there.1)

pub returns : goal.returns
returns c =
    let at : c.loop-index.index ≡ length c.args.text.now = omega (arith, c.loop-index-test.false, c.loop-index.invariant.0, ap length c.as_bytes-bytes.ensures.value) in
    let ends = subst (λ (i : ℕ). (kept : IsProgressKept c.args.text.now i c.loop-index.progress) × (c.loop-index.out ++ (kept.free ++ left_of c.args.text.now i c.loop-index.progress) ≡ written_at c.args.text.now c.args.place)) at (c.loop-index.invariant.1, c.loop-index.invariant.2) in
    c.in_ok-write_end.ensures ends.0
    ∙ ap (λ (bytes : List ℕ). c.loop-index.out ++ (ends.0.free ++ bytes)) (sym (left_end c.args.text.now (length c.args.text.now) c.loop-index.progress (omega arith)))
    ∙ ends.1
