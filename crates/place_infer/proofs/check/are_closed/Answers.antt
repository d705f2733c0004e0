use Rattle.std.proofs.Common.{◌≡◌, ℕ, Some, get_or, subst, sym, ◌∙◌, arith, inl, inr}
use Rattle.std.specs.Prelude.{slice_get}
use Rattle.std.proofs.lemmas.Bool.{cases_eq}
use Rattle.std.proofs.lemmas.Option.{slice_get-get_or}
use Rattle.place_chart.specs.Summaries.{IsClosedSummary, chart_of}
use Rattle.place_chart.specs.declared.summary.Summary.{Summary}
use Rattle.place_infer.proofs.check.are_closed.Goals as goal

one : (a b : Summary) → Some a ≡ Some b → a ≡ b
one a b e = cc

pub loop-n-preserved : goal.loop-n-preserved
loop-n-preserved c = λ j summary lt is. elim (cases_eq j c.loop-n.n) [
  | inl s ↦ subst (IsClosedSummary c.args.flows.now (chart_of c.args.summaries.now)) (one c.summary.result.now summary (sym c.summary.ensures ∙ subst (λ (n : ℕ). slice_get c.args.summaries.now n ≡ Some summary) s is)) (c.is_summary_closed.ensures c.if-not-is_summary_closed.false)
  | inr d ↦ c.loop-n.invariant j summary (omega (arith, lt, d)) is
]

pub returns : goal.returns
returns c = λ t i d lt.
    let count = c.count-n-end.ensures in let past = c.loop-n-test.false in
    c.loop-n.invariant i (get_or c.args.summaries.now i d) (omega (arith, lt, count, past)) (slice_get-get_or c.args.summaries.now i d lt)
