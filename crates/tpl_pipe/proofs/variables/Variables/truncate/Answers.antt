use Rattle.std.proofs.Common.{sym, subst, List, ℕ}
use Rattle.tpl_pipe.specs.Variables.{AreNumbered}
use Rattle.tpl_pipe.proofs.VariableNumbers.{numbered-take}
use Rattle.tpl_pipe.proofs.variables.Variables.truncate.Goals as goal

pub invariant_of-self : goal.invariant_of-self
invariant_of-self c =
    subst (λ (names : List (List ℕ)). AreNumbered names c.self.inside.numbers) (sym c.truncate.ensures.items) (numbered-take c.self.inside.names.items c.args.count c.self.inside.numbers c.self.invariant)
