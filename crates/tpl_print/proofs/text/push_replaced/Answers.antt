use Rattle.std.proofs.Common.{rules, ◌++◌, ap, sym, ◌∙◌, List, ℕ}
use Rattle.std.proofs.lemmas.Str.Pattern.{split_parts}
use Rattle.tpl_print.proofs.Replacing.{replaced_more, replaced_last, on_ok}
use Rattle.tpl_print.specs.Replaced.{always}
use Rattle.tpl_print.proofs.text.push_replaced.Goals as goal

pub loop-prefix-preserved : goal.loop-prefix-preserved
loop-prefix-preserved c =
    let parts = split_parts c.args.mark c.loop-prefix.left.now c.split_once.result c.split_once.ensures.cases c.requires in
    let here = rw c.in-Some.is at parts in
    (search rules, replaced_more c.args.mark (always c.args.by.now) c.in-Some.prefix.now c.in-Some.rest.now c.loop-prefix.left.now c.loop-prefix.out _ _ _ here.0 here.1 c.loop-prefix.invariant.1 c.in_ok-push_str.ensures.ok c.in_ok-push_str-2.ensures.ok)

pub returns : goal.returns
returns c =
    let parts = split_parts c.args.mark c.loop-prefix.left.now c.split_once.result c.split_once.ensures.cases c.requires in
    let none = rw c.in_default.is at parts in
    on_ok c.push_str-2.result c.push_str-2.ensures.ok
    (λ new. new ∙ sym (ap (λ (xs : List ℕ). c.loop-prefix.out ++ xs) (replaced_last c.args.mark (always c.args.by.now) c.loop-prefix.left.now none)) ∙ c.loop-prefix.invariant.1)
