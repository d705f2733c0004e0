use Rattle.std.proofs.Common.{◌∙◌, sym}
use Rattle.html_words.proofs.kind.kind_with_prefix.Goals as goal
use Rattle.html_words.proofs.Cases.{behind_data-lower}

pub returns-then-begins : goal.returns-then-begins
returns-then-begins c = rw (sym c.begins.ensures ∙ c.if-begins.true, behind_data-lower c.args.name.now, ← c.split_at.ensures.back) c.kind_of_name.ensures
