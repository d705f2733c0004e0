use Rattle.std.proofs.Common.{◌∙◌, sym, drop, rules}
use Rattle.tpl_format.specs.Answers.{datas}
use Rattle.tpl_format.proofs.Steps.{outcome-verb, spare}
use Rattle.tpl_format.proofs.format.write.Goals as goal

pub loop-plain-preserved : goal.loop-plain-preserved
loop-plain-preserved c =
    let left = datas (drop c.loop-plain.used c.args.operands.now) in
    let made = outcome-verb c.loop-plain.out c.loop-plain.rest.now _ c.in-Some.behind.now _ _ _ left _ (c.in-Some.ensures.parts left) (c.in-Some-read_verb.ensures.found left) c.in-Ok.ensures in
    (search rules, rw (c.in_ok-add-in-Ok.ensures, c.as_str.ensures, c.in_ok-add.ensures) (made ∙ c.loop-plain.invariant.1))

pub returns-then-used-operands : goal.returns-then-used-operands
returns-then-used-operands c =
    sym c.loop-plain.invariant.1
    ∙ spare c.loop-plain.out c.loop-plain.rest.now c.args.operands.now c.loop-plain.used c.if-used-operands.true c.in_default.ensures.parts
