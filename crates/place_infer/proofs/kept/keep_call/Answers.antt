use Rattle.std.proofs.Common.{◌≡◌, Result, Ok, Err, inr, sym, ◌∙◌, subst}
use Rattle.std.specs.Prelude.{OnOk, slice_get}
use Rattle.place_flow.specs.Flows.{edges_at}
use Rattle.place_flow.specs.declared.point_state.PointState.TheVariants.{At}
use Rattle.place_chart.specs.Summaries.{point_state_in}
use Rattle.tpl_paths.specs.Edges.{Point}
use Rattle.place_infer.proofs.EdgeEnds.{has-ends}
use Rattle.place_infer.proofs.kept.keep_call.Goals as goal

on_ok : {T E : Type 0} {P Q : Type 0} (r : Result T E) → OnOk r P → (P → Q) → OnOk r Q
on_ok (Ok x) p f = f p
on_ok (Err e) p f = p

pub returns-in-Enters-clause-kept : goal.returns-in-Enters-clause-kept
returns-in-Enters-clause-kept c =
    let summary = c.summary-summary.result.now in
    let h = has-ends (slice_get (edges_at c.args.flows.now summary.template) c.args.number) c.in-Some.from c.in-Some.field-0-1 (sym c.in-Some.is ∙ c.ends.ensures) in
    on_ok c.keep_pair.result c.keep_pair.ensures.kept (λ f roots first whole kept.
    f c.args.flows.now roots first whole kept (inr (record {
      caller = c.args.n;
      number = c.args.number;
      summary = summary;
      edge = h.edge;
      place = c.in-At.place;
      is_summary = c.summary-summary.ensures;
      is_edge = h.is;
      stands = subst (λ (k : Point). point_state_in summary k ≡ At c.in-At.place) h.begins (sym c.point_state_at.ensures ∙ c.in-At.is);
      enters = sym (c.transfer.ensures h.edge h.is) ∙ c.in-Enters.is;
    })))
