use Rattle.std.proofs.Common.{◌≡◌, ℕ, ◌++◌, ◌≤◌, List, length, OnOk, sym, ◌∙◌, subst, arith}
use Rattle.js_step.specs.ScriptScans.{script_shared}
use Rattle.js_step.specs.ScriptScanViews.{script_scan_at}
use Rattle.text_norm.proofs.ScriptProgress.{unwritten}
use Rattle.text_norm.proofs.script_writer.write_unwritten.Goals as goal

pub returns : goal.returns
returns c kept =
    let s = script_shared (script_scan_at c.args.script) in
    let inside : length c.args.text.now ≤ length c.args.text.now = omega arith in
    subst (λ (bytes : List ℕ). OnOk c.push_run.result (c.push_run.new.out ≡ c.args.out.now ++ bytes))
    (unwritten c.args.text.now (length c.args.text.now) c.waiting.result s c.args.done kept inside (sym c.in_comment.ensures ∙ c.if-in_comment.false) c.waiting.ensures) c.push_run.ensures
