use Rattle.std.proofs.Common.{◌∷◌, ◌∙◌, sym}
use Rattle.html_scan.proofs.ScriptWords.{begun_after_solidus, judged_in, word_after_solidus}
use Rattle.html_scan.proofs.script_steps.word_after_solidus.Goals as goal

pub returns : goal.returns
returns c =
    c.judged.ensures
    ∙ judged_in (60 ∷ 47 ∷ c.args.bytes.now) c.same.result c.begins.result (c.same.ensures ∙ sym (word_after_solidus c.args.bytes.now))
    (c.begins.ensures ∙ sym (begun_after_solidus c.args.bytes.now))
