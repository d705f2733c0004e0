use Rattle.std.proofs.Common.{◌≡◌, [], sym, ◌∙◌}
use Rattle.tpl_pipe.proofs.VariableNumbers.{declared-empty, declared-named}
use Rattle.tpl_pipe.proofs.variables.Variables.has.Goals as goal

pub returns-then-is_empty : goal.returns-then-is_empty
returns-then-is_empty c =
    let none : c.args.name.now ≡ [] = c.is_empty.ensures.0 c.if-is_empty.true in
    rw none (c.if-is_empty.true ∙ sym (declared-empty c.args.self.now))

pub returns-else-is_empty : goal.returns-else-is_empty
returns-else-is_empty c =
    let some : c.args.name.now ≡ [] → ⊥ = λ (e : c.args.name.now ≡ []). absurd (cc (c.is_empty.ensures.1 e, c.if-is_empty.false)) in
    c.has_declared.ensures ∙ sym (declared-named c.args.self.now c.args.name.now some)
