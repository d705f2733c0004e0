use Rattle.std.proofs.Common.{◌≡◌, ℕ, Some, get_or, subst, arith, inl, inr}
use Rattle.std.specs.Prelude.{slice_get}
use Rattle.std.proofs.lemmas.Bool.{cases_eq}
use Rattle.std.proofs.lemmas.Option.{slice_get-get_or}
use Rattle.place_flow.specs.Flows.{edges_at}
use Rattle.place_infer.proofs.check.is_summary_closed.Goals as goal

pub loop-number-preserved : goal.loop-number-preserved
loop-number-preserved c = λ j e lt is. elim (cases_eq j c.loop-number.number) [
  | inl s ↦ c.leads.ensures c.if-not-leads.false e (subst (λ (n : ℕ). slice_get (edges_at c.args.flows.now c.args.summary.now.template) n ≡ Some e) s is)
  | inr d ↦ c.loop-number.invariant j e (omega (arith, lt, d)) is
]

pub returns : goal.returns
returns c = λ t i d lt.
    let count = c.edge_count-number-end.ensures in let past = c.loop-number-test.false in
    c.loop-number.invariant i (get_or (edges_at c.args.flows.now c.args.summary.now.template) i d) (omega (arith, lt, count, past)) (slice_get-get_or (edges_at c.args.flows.now c.args.summary.now.template) i d lt)
