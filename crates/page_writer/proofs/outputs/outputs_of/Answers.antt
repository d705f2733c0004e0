use Rattle.std.proofs.Common.{◌≡◌, ◌+◌, ◌++◌, ◌∷◌, [], ℕ, List, Some, length, map, sym, ap, ◌∙◌, subst, arith, inl, inr}
use Rattle.std.proofs.lemmas.Bool.{cases_eq}
use Rattle.std.proofs.lemmas.List.{length-append}
use Rattle.std.proofs.lemmas.Option.{slice_get_within}
use Rattle.std.specs.Global.{Vec}
use Rattle.std.specs.Prelude.{slice_get}
use Rattle.page_writer.proofs.KeptOutputs.{push-last, push-old}
use Rattle.page_writer.specs.Outputs.{output_in}
use Rattle.page_writer.specs.declared.output.Output.{Output}
use Rattle.page_writer.proofs.outputs.outputs_of.Goals as goal

pub loop-n-preserved : goal.loop-n-preserved
loop-n-preserved c =
    let xs = c.loop-n.outputs.items in let v = c.in_ok-outputs_of_pair.field-0 in
    let count = c.loop-n.invariant.count in
    let is = c.in_ok-push.ensures.items in
    let forest = c.args.forest.now in let chart = c.args.chart.now in
    let longer : length (xs ++ v ∷ []) ≡ c.loop-n.n + 1 = length-append xs (v ∷ []) ∙ ap (λ (k : ℕ). k + 1) count in
    record {
      count = ap length is ∙ longer;
      outputs = λ j node row lt at. ap (λ (ys : List (Vec Output)). output_in (map (λ w. w.items) ys) j node) is
          ∙ elim (cases_eq j c.loop-n.n) [
            | inl s ↦ push-last xs v j node (count ∙ sym s)
                ∙ rw s (c.in_ok-outputs_of_pair.ensures row (subst (λ (k : ℕ). slice_get chart.summaries k ≡ Some row) s at) node)
            | inr d ↦ push-old xs v j node (omega (arith, lt, d, count)) ∙ c.loop-n.invariant.outputs j node row (omega (arith, lt, d)) at
          ];
    }

pub returns : goal.returns
returns c = λ n node row at.
    let within = slice_get_within c.args.chart.now.summaries n row at in
    let end = c.pairs-n-end.ensures.count in let past = c.loop-n-test.false in
    c.loop-n.invariant.outputs n node row (omega (arith, within, end, past)) at
