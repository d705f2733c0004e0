use Rattle.std.proofs.Common.{◌∙◌, sym, subst, List}
use Rattle.place_chart.proofs.Numbering.{are_more}
use Rattle.place_chart.specs.Numbers.{AreNumbers}
use Rattle.place_chart.specs.declared.summary.Summary.{Summary}
use Rattle.place_chart.proofs.summaries.Summaries.push.Goals as goal

pub invariant_of-self-in-Ok : goal.invariant_of-self-in-Ok
invariant_of-self-in-Ok c = subst (λ (summaries : List Summary). AreNumbers summaries c.add_number.new.numbers.items) (sym c.in_ok-push.ensures.items)
    (are_more c.self.inside.summaries.items c.args.summary c.self.inside.of_template.items c.add_number.new.numbers.items c.len-number.result c.self.invariant c.in-Ok.ensures.ok (c.len-number.ensures ∙ c.self.inside.summaries.ok.0))
