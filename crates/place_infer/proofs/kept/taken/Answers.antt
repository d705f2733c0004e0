use Rattle.std.proofs.Common.{sym, ◌∙◌}
use Rattle.place_chart.proofs.Pairs.{chart_found, chart_none, found_is}
use Rattle.place_chart.proofs.TakenSummaries.{other_pairs}
use Rattle.place_infer.proofs.kept.taken.Goals as goal

pub returns-in-Some-clause-template : goal.returns-in-Some-clause-template
returns-in-Some-clause-template c =
    (found_is c.args.all.now c.args.template c.args.entry c.in-Some.n c.take.result (sym c.find.ensures.number ∙ c.in-Some.is) c.take.ensures.taken).0

pub returns-in-Some-clause-entry : goal.returns-in-Some-clause-entry
returns-in-Some-clause-entry c =
    (found_is c.args.all.now c.args.template c.args.entry c.in-Some.n c.take.result (sym c.find.ensures.number ∙ c.in-Some.is) c.take.ensures.taken).1

pub returns-in-Some-clause-same : goal.returns-in-Some-clause-same
returns-in-Some-clause-same c = λ k.
    sym (chart_found c.args.all.now c.args.template c.args.entry c.in-Some.n c.take.result k (sym c.find.ensures.number ∙ c.in-Some.is) c.take.ensures.taken)

pub returns-in-Some-clause-left : goal.returns-in-Some-clause-left
returns-in-Some-clause-left c = λ t p k other.
    other_pairs c.args.all.now c.take.new.self c.in-Some.n c.take.result t p k c.take.ensures.left c.take.ensures.taken other

pub returns-in-None-clause-same : goal.returns-in-None-clause-same
returns-in-None-clause-same c = λ k.
    c.empty_summary.ensures.nothing k ∙ sym (chart_none c.args.all.now c.args.template c.args.entry k (sym c.find.ensures.number ∙ c.in-None.is))
