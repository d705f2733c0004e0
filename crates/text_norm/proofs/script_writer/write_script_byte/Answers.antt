use Rattle.std.proofs.Common.{◌≡◌, ℕ, ◌+◌, ◌-◌, true, false, List, ◌++◌, length, get_or, sym, ap, ◌∙◌, subst, arith}
use Rattle.std.specs.Str.{IsCharBoundary}
use Rattle.js_step.specs.ScriptScans.{ScriptScan, script_shared}
use Rattle.js_step.specs.ScriptScanViews.{script_scan_at}
use Rattle.html_scan.specs.Slices.{pending}
use Rattle.text_norm.specs.Kept.{held_in_line, is_script_comment, line_end_length_of}
use Rattle.text_norm.proofs.ScriptByteKept.{begins-at, block-ends, block-shared, comment-begins, line-ends, stays-in-comment, stays-outside}
use Rattle.text_norm.proofs.script_writer.write_script_byte.Goals as goal

pub overflow_sub-result : goal.overflow_sub-result
overflow_sub-result c =
    let n = script_scan_at c.args.before in
    let before : is_script_comment (script_shared n) ≡ true = sym c.in_comment.ensures ∙ c.if-in_comment.true in
    let after = ap (λ (m : ScriptScan). is_script_comment (script_shared m)) (sym c.requires.fed) ∙ sym c.in_comment-then-in_comment.ensures ∙ c.if-in_comment-2.true in
    let fits = (stays-in-comment c.args.text.now c.args.out.now c.args.index c.args.done 0 n c.requires.inside c.requires.kept before after).1 in
    omega (arith, fits, c.held_length.ensures, ap (λ (m : ScriptScan). length (held_in_line (script_shared m))) c.requires.fed)

pub returns-then-in_comment-2 : goal.returns-then-in_comment-2
returns-then-in_comment-2 c kept =
    let n = script_scan_at c.args.before in
    let before : is_script_comment (script_shared n) ≡ true = sym c.in_comment.ensures ∙ c.if-in_comment.true in
    let after = ap (λ (m : ScriptScan). is_script_comment (script_shared m)) (sym c.requires.fed) ∙ sym c.in_comment-then-in_comment.ensures ∙ c.if-in_comment-2.true in
    (stays-in-comment c.args.text.now c.args.out.now c.args.index c.args.done (c.args.index + 1 - c.held_length.result) n c.requires.inside kept before after).0
    (ap (λ (k : ℕ). c.args.index + 1 - k) (c.held_length.ensures ∙ ap (λ (m : ScriptScan). length (held_in_line (script_shared m))) c.requires.fed))

pub returns-then-is_block : goal.returns-then-is_block
returns-then-is_block c kept =
    let n = script_scan_at c.args.before in
    let before : is_script_comment (script_shared n) ≡ true = sym c.in_comment.ensures ∙ c.if-in_comment.true in
    let after = ap (λ (m : ScriptScan). is_script_comment (script_shared m)) (sym c.requires.fed) ∙ sym c.in_comment-then-in_comment.ensures ∙ c.if-in_comment-2.false in
    block-ends c.args.text.now c.args.out.now c.push_str.new.self c.args.index c.args.done n c.requires.inside c.utf8.text kept before (block-shared n ∙ (sym c.is_block.ensures ∙ c.if-is_block.true)) after
    (c.in_ok-push_str.ensures.ok ∙ ap (λ (bytes : List ℕ). c.args.out.now ++ bytes) c.blank.ensures)

pub overflow_sub-result-then-in_comment : goal.overflow_sub-result-then-in_comment
overflow_sub-result-then-in_comment c =
    let n = script_scan_at c.args.before in
    let before : is_script_comment (script_shared n) ≡ true = sym c.in_comment.ensures ∙ c.if-in_comment.true in
    let after = ap (λ (m : ScriptScan). is_script_comment (script_shared m)) (sym c.requires.fed) ∙ sym c.in_comment-then-in_comment.ensures ∙ c.if-in_comment-2.false in
    let fits = (line-ends c.args.text.now c.args.out.now c.args.index c.args.done 0 n c.requires.inside c.requires.kept before (block-shared n ∙ (sym c.is_block.ensures ∙ c.if-is_block.false)) after).1 in
    omega (arith, fits, c.line_end_length.ensures ∙ ap (λ (bytes : List ℕ). line_end_length_of (get_or bytes c.args.index 0)) c.as_bytes.ensures.value)

pub returns-then-in_comment : goal.returns-then-in_comment
returns-then-in_comment c kept =
    let n = script_scan_at c.args.before in
    let before : is_script_comment (script_shared n) ≡ true = sym c.in_comment.ensures ∙ c.if-in_comment.true in
    let after = ap (λ (m : ScriptScan). is_script_comment (script_shared m)) (sym c.requires.fed) ∙ sym c.in_comment-then-in_comment.ensures ∙ c.if-in_comment-2.false in
    (line-ends c.args.text.now c.args.out.now c.args.index c.args.done (c.args.index + 1 - c.line_end_length.result) n c.requires.inside kept before (block-shared n ∙ (sym c.is_block.ensures ∙ c.if-is_block.false)) after).0
    (ap (λ (k : ℕ). c.args.index + 1 - k) (c.line_end_length.ensures ∙ ap (λ (bytes : List ℕ). line_end_length_of (get_or bytes c.args.index 0)) c.as_bytes.ensures.value))

pub overflow_sub-index : goal.overflow_sub-index
overflow_sub-index c =
    let n = script_scan_at c.args.before in
    let before : is_script_comment (script_shared n) ≡ false = sym c.in_comment.ensures ∙ c.if-in_comment.false in
    let after = ap (λ (m : ScriptScan). is_script_comment (script_shared m)) (sym c.requires.fed) ∙ sym c.in_comment-2.ensures ∙ c.if-in_comment-3.true in
    omega (arith, (begins-at c.args.text.now c.args.index c.args.done n c.requires.inside c.requires.kept before after).slash, c.waiting.ensures)

pub push_run-requires-clause-order : goal.push_run-requires-clause-order
push_run-requires-clause-order c =
    let n = script_scan_at c.args.before in
    let before : is_script_comment (script_shared n) ≡ false = sym c.in_comment.ensures ∙ c.if-in_comment.false in
    let after = ap (λ (m : ScriptScan). is_script_comment (script_shared m)) (sym c.requires.fed) ∙ sym c.in_comment-2.ensures ∙ c.if-in_comment-3.true in
    omega (arith, (begins-at c.args.text.now c.args.index c.args.done n c.requires.inside c.requires.kept before after).order, c.waiting.ensures)

pub push_run-requires-clause-to : goal.push_run-requires-clause-to
push_run-requires-clause-to c =
    let n = script_scan_at c.args.before in
    let before : is_script_comment (script_shared n) ≡ false = sym c.in_comment.ensures ∙ c.if-in_comment.false in
    let after = ap (λ (m : ScriptScan). is_script_comment (script_shared m)) (sym c.requires.fed) ∙ sym c.in_comment-2.ensures ∙ c.if-in_comment-3.true in
    subst (λ (k : ℕ). IsCharBoundary c.args.text.now (c.args.index - k)) (sym c.waiting.ensures) (begins-at c.args.text.now c.args.index c.args.done n c.requires.inside c.requires.kept before after).cut

pub returns-then-in_comment-3 : goal.returns-then-in_comment-3
returns-then-in_comment-3 c kept =
    let n = script_scan_at c.args.before in
    let before : is_script_comment (script_shared n) ≡ false = sym c.in_comment.ensures ∙ c.if-in_comment.false in
    let after = ap (λ (m : ScriptScan). is_script_comment (script_shared m)) (sym c.requires.fed) ∙ sym c.in_comment-2.ensures ∙ c.if-in_comment-3.true in
    comment-begins c.args.text.now c.args.out.now c.push_run.new.out c.args.index c.args.done n c.requires.inside kept before after
    (c.in_ok-push_run.ensures ∙ ap (λ (bytes : List ℕ). c.args.out.now ++ bytes)
    (ap (λ (k : ℕ). pending c.args.text.now c.args.done (c.args.index - k)) c.waiting.ensures ∙ (begins-at c.args.text.now c.args.index c.args.done n c.requires.inside kept before after).before))

pub returns : goal.returns
returns c kept =
    let n = script_scan_at c.args.before in
    let before : is_script_comment (script_shared n) ≡ false = sym c.in_comment.ensures ∙ c.if-in_comment.false in
    let after = ap (λ (m : ScriptScan). is_script_comment (script_shared m)) (sym c.requires.fed) ∙ sym c.in_comment-2.ensures ∙ c.if-in_comment-3.false in
    stays-outside c.args.text.now c.args.out.now c.args.index c.args.done n c.requires.inside kept before after
