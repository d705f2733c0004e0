use Rattle.std.proofs.Common.{◌≡◌, ◌∙◌, subst, sym}
use Rattle.place_derive.specs.Logs.{is_kept}
use Rattle.place_derive.specs.Soundness.{StaysSound}
use Rattle.place_derive.specs.declared.derived.Derived.{Derived}
use Rattle.place_infer.proofs.solver.Solver.follow_edge.Goals as goal

pub returns-clause-sound : goal.returns-clause-sound
returns-clause-sound c =
    subst (λ (d : Derived). StaysSound c.args.flows.now c.args.self.now.derived d) (sym (c.push_raised.ensures ∙ c.add_caller.ensures ∙ c.add_entered.ensures)) c.in_ok-propagated.ensures.sound

pub returns-clause-keeps : goal.returns-clause-keeps
returns-clause-keeps c =
    subst (λ (d : Derived). is_kept d.log ≡ is_kept c.args.self.now.derived.log) (sym (c.push_raised.ensures ∙ c.add_caller.ensures ∙ c.add_entered.ensures)) c.in_ok-propagated.ensures.keeps
