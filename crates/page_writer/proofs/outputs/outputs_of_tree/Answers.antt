use Rattle.std.proofs.Common.{◌≡◌, ◌+◌, ◌++◌, ◌∷◌, [], ℕ, List, length, sym, ap, ◌∙◌, arith, inl, inr}
use Rattle.std.proofs.lemmas.Bool.{cases_eq, cases_lt}
use Rattle.std.proofs.lemmas.List.{get_or_past, length-append}
use Rattle.std.specs.Prelude.{slice_index_or}
use Rattle.page_writer.proofs.KeptOutputs.{no-output, pushed-last, pushed-old}
use Rattle.page_writer.specs.Outputs.{output_of}
use Rattle.page_writer.specs.declared.output.Output.{Output}
use Rattle.page_writer.specs.declared.output.Output.TheVariants.{Nothing}
use Rattle.page_writer.proofs.outputs.outputs_of_tree.Goals as goal

pub loop-node-preserved : goal.loop-node-preserved
loop-node-preserved c =
    let xs = c.loop-node.outputs.items in let o = c.in_ok-pair_output.field-0 in
    let count = c.loop-node.invariant.count in
    let is = c.in_ok-push.ensures.items in
    let longer : length (xs ++ o ∷ []) ≡ c.loop-node.node + 1 = length-append xs (o ∷ []) ∙ ap (λ (k : ℕ). k + 1) count in
    record {
      count = ap length is ∙ longer;
      outputs = λ forest row at named j lt. ap (λ (ys : List Output). slice_index_or ys j Nothing) is ∙ elim (cases_eq j c.loop-node.node) [
        | inl s ↦ pushed-last xs o j (s ∙ sym count) ∙ c.in_ok-pair_output.ensures forest row at named
            ∙ ap (output_of forest c.args.chart.now row c.args.n) (sym s)
        | inr d ↦ pushed-old xs o j (omega (arith, lt, d, count))
            ∙ c.loop-node.invariant.outputs forest row at named j (omega (arith, lt, d))
      ];
    }

pub returns : goal.returns
returns c = λ forest row at named node. elim (cases_lt node c.loop-node.node) [
  | inl lt ↦ c.loop-node.invariant.outputs forest row at named node lt
  | inr ge ↦ (let count = c.loop-node.invariant.count in let past = c.loop-node-test.false in let size = c.count-node-end.ensures.count in
      get_or_past c.loop-node.outputs.items node Nothing (omega (arith, count, ge))
      ∙ sym (no-output forest c.args.chart.now row c.args.n node c.args.tree.now.nodes named (omega (arith, past, size, ge))))
]
