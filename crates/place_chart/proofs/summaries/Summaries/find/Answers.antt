use Rattle.std.proofs.Common.{ℕ, ◌<◌, Option, length, subst, sym}
use Rattle.std.specs.Prelude.{IfSome}
use Rattle.place_chart.proofs.Numbering.{find_gives}
use Rattle.place_chart.proofs.Pairs.{number_within}
use Rattle.place_chart.proofs.summaries.Summaries.find.Goals as goal

pub returns-clause-number : goal.returns-clause-number
returns-clause-number c = find_gives c.self.inside.summaries.items c.as_slice-2.result.now c.args.self.now c.self.inside.of_template.items c.as_slice.result.now c.numbers_of-numbers.result.now c.args.template c.args.entry c.first_at.result
    c.self.view_is c.self.invariant c.as_slice.ensures.value c.numbers_of-numbers.ensures c.as_slice-2.ensures.value c.first_at.ensures

pub returns-clause-within : goal.returns-clause-within
returns-clause-within c = subst (λ (o : Option ℕ). IfSome o (λ n. n < length c.args.self.now)) (sym (returns-clause-number c)) (number_within c.args.self.now c.args.template c.args.entry)
