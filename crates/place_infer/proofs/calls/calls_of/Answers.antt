use Rattle.std.proofs.Common.{◌≡◌, ◌+◌, ◌++◌, ◌∷◌, [], ℕ, List, Option, Some, length, map, sym, ap, ◌∙◌, subst, arith, inl, inr}
use Rattle.std.proofs.lemmas.Bool.{cases_eq}
use Rattle.std.proofs.lemmas.List.{length-append}
use Rattle.std.proofs.lemmas.Option.{slice_get_within}
use Rattle.std.specs.Global.{Vec}
use Rattle.std.specs.Prelude.{slice_get}
use Rattle.place_infer.proofs.KeptCalls.{push-last, push-old}
use Rattle.place_infer.specs.ChartViews.{call_in, chart_call}
use Rattle.place_chart.specs.declared.summary.Summary.{Summary}
use Rattle.place_infer.proofs.calls.calls_of.Goals as goal

one : (a b : Summary) → Some a ≡ Some b → a ≡ b
one a b e = cc

pub loop-n-preserved : goal.loop-n-preserved
loop-n-preserved c =
    let xs = c.loop-n.calls.items in let v = c.in_ok-calls_of_summary.field-0 in
    let count = c.loop-n.invariant.count in
    let is = c.in_ok-push.ensures.items in
    let forest = c.args.forest.now in let summaries = c.args.summaries.now in
    let longer : length (xs ++ v ∷ []) ≡ c.loop-n.n + 1 = length-append xs (v ∷ []) ∙ ap (λ (k : ℕ). k + 1) count in
    record {
      count = ap length is ∙ longer;
      calls = λ j node summary lt at. ap (λ (ys : List (Vec (Option ℕ))). call_in (map (λ w. w.items) ys) j node) is ∙ elim (cases_eq j c.loop-n.n) [
        | inl s ↦ ap (λ (k : ℕ). call_in (map (λ w. w.items) (xs ++ v ∷ [])) k node) s ∙ push-last xs v c.loop-n.n node count ∙ c.in_ok-calls_of_summary.ensures node
            ∙ ap (λ (r : Summary). chart_call forest summaries r node) (one c.summary.result.now summary (sym c.summary.ensures ∙ subst (λ (k : ℕ). slice_get summaries k ≡ Some summary) s at))
        | inr d ↦ push-old xs v j node (omega (arith, lt, d, count)) ∙ c.loop-n.invariant.calls j node summary (omega (arith, lt, d)) at
      ];
    }

pub returns : goal.returns
returns c = λ n node summary at.
    let within = slice_get_within c.args.summaries.now n summary at in
    let end = c.count-n-end.ensures in let past = c.loop-n-test.false in
    c.loop-n.invariant.calls n node summary (omega (arith, within, end, past)) at
