use Rattle.std.proofs.Common.{rules, ◌++◌, ap, sym, ◌∙◌, List, ℕ, arith}
use Rattle.std.proofs.lemmas.Str.Pattern.{split_parts}
use Rattle.tpl_print.proofs.Replacing.{replaced_more, replaced_last, on_ok}
use Rattle.tpl_print.specs.Replaced.{brace}
use Rattle.tpl_print.proofs.text.push_guarded.Goals as goal

pub loop-prefix-preserved : goal.loop-prefix-preserved
loop-prefix-preserved c =
    let parts = split_parts 123 c.loop-prefix.left.now c.split_once.result c.split_once.ensures.cases (omega arith) in
    let here = rw c.in-Some.is at parts in
    (search rules, replaced_more 123 (brace c.args.followed) c.in-Some.prefix.now c.in-Some.rest.now c.loop-prefix.left.now c.loop-prefix.out _ _ _ here.0 here.1 c.loop-prefix.invariant.1 c.in_ok-push_str.ensures.ok (rw c.brace.ensures at c.in_ok-push_str-2.ensures.ok))

pub returns : goal.returns
returns c =
    let parts = split_parts 123 c.loop-prefix.left.now c.split_once.result c.split_once.ensures.cases (omega arith) in
    let none = rw c.in_default.is at parts in
    on_ok c.push_str-2.result c.push_str-2.ensures.ok
    (λ new. new ∙ sym (ap (λ (xs : List ℕ). c.loop-prefix.out ++ xs) (replaced_last 123 (brace c.args.followed) c.loop-prefix.left.now none)) ∙ c.loop-prefix.invariant.1)
