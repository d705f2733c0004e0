use Rattle.html_words.proofs.Cases.{no_prefix, some_prefix}
use Rattle.std.proofs.Common.{◌∙◌, sym}
use Rattle.html_words.proofs.kind.kind_after_prefix.Goals as goal

pub returns-in-None : goal.returns-in-None
returns-in-None c =
    let back = rw c.prefix_len.ensures.len at c.split_at.ensures.back in
    c.kind_of_name.ensures ∙ sym (no_prefix c.args.name.now c.split_at.result.1.now back c.in-None.ensures.cases)

pub returns-else-same : goal.returns-else-same
returns-else-same c =
    let front = rw c.prefix_len.ensures.len at c.split_at.ensures.front in
    let back = rw c.prefix_len.ensures.len at c.split_at.ensures.back in
    c.kind_of_name-else-same.ensures ∙ sym (some_prefix c.args.name.now c.split_at.result.0.now c.split_at.result.1.now c.in-Some.rest.now c.in-Some.field-0-0.now front back c.in-Some.ensures.cases.0 (sym c.same.ensures ∙ c.if-same.false))
