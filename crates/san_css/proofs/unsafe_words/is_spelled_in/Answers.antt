use Rattle.std.proofs.Common.{◌<◌, length, rules, sym}
use Rattle.san_css.proofs.Words.{spelled-short}
use Rattle.san_css.proofs.unsafe_words.is_spelled_in.Goals as goal

pub returns-then-text-word : goal.returns-then-text-word
returns-then-text-word c =
    let few : length c.args.text.now < length c.args.word.now = search rules in
    sym (spelled-short c.args.word.now c.args.text.now few)
