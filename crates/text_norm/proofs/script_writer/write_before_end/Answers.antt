use Rattle.std.proofs.Common.{◌≡◌, true, sym, ◌∙◌}
use Rattle.js_step.specs.ScriptScans.{script_shared}
use Rattle.js_step.specs.ScriptScanViews.{script_scan_at}
use Rattle.text_norm.specs.Kept.{is_script_comment}
use Rattle.text_norm.proofs.ScriptByteKept.{block-shared}
use Rattle.text_norm.proofs.ScriptWordKept.{line-before-end}
use Rattle.text_norm.proofs.script_writer.write_before_end.Goals as goal

pub returns-else-is_block : goal.returns-else-is_block
returns-else-is_block c kept =
    let n = script_scan_at c.args.script in
    let comment : is_script_comment (script_shared n) ≡ true = sym c.in_comment.ensures ∙ c.if-not-in_comment.false in
    line-before-end c.args.text.now c.args.out.now c.args.from c.args.done n c.requires.inside c.requires.less kept comment (block-shared n ∙ (sym c.is_block.ensures ∙ c.if-is_block.false))
