use Rattle.std.proofs.Common.{◌∙◌, ap, List, ℕ, ◌++◌}
use Rattle.js_step.specs.ScriptScanViews.{script_scan_at}
use Rattle.text_norm.proofs.ScriptWordKept.{word-at, word-written}
use Rattle.text_norm.proofs.script_writer.write_word.Goals as goal

pub push_run-requires-clause-to : goal.push_run-requires-clause-to
push_run-requires-clause-to c = (word-at c.args.text.now c.args.from c.args.to (script_scan_at c.args.script) c.utf8.text c.requires.order c.requires.inside c.requires.word).cut

pub push_run-requires-2-clause-from : goal.push_run-requires-2-clause-from
push_run-requires-2-clause-from c = (word-at c.args.text.now c.args.from c.args.to (script_scan_at c.args.script) c.utf8.text c.requires.order c.requires.inside c.requires.word).behind

pub push_run-requires-2-clause-to : goal.push_run-requires-2-clause-to
push_run-requires-2-clause-to c = (word-at c.args.text.now c.args.from c.args.to (script_scan_at c.args.script) c.utf8.text c.requires.order c.requires.inside c.requires.word).end

pub returns : goal.returns
returns c kept =
    let n = script_scan_at c.args.script in
    let w = word-at c.args.text.now c.args.from c.args.to n c.utf8.text c.requires.order c.requires.inside c.requires.word in
    word-written c.args.text.now c.args.out.now c.push_run.new.out c.push_str.new.self c.push_run-2.new.out c.args.from c.args.to c.args.done n w kept c.requires.token
    c.in_ok-push_run.ensures (c.in_ok-push_str.ensures.ok ∙ ap (λ (bytes : List ℕ). c.push_run.new.out ++ bytes) c.escaped.ensures) c.in_ok-push_run-2.ensures
