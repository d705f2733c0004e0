-- An edge of a summary is found, and the template that its step enters is entered.
use Rattle.std.proofs.Common.{◌≡◌, ℕ, List, refl, sym, ap, ◌∙◌, subst, Option, Some, None}
use Rattle.std.specs.Prelude.{option_map, slice_get}
use Rattle.std.proofs.lemmas.Option.{some_pair_parts}
use Rattle.place_core.specs.declared.place.Place.{Place}
use Rattle.place_flow.proofs.StepLaws.{step-keeps-valid}
use Rattle.place_flow.specs.Flows.{edges_at}
use Rattle.place_flow.specs.Laws.{IsValidStep}
use Rattle.place_flow.specs.Transfer.{step_of}
use Rattle.place_flow.specs.declared.point_state.PointState.{PointState}
use Rattle.place_flow.specs.declared.point_state.PointState.TheVariants.{At}
use Rattle.place_flow.specs.declared.step.EdgeStep.TheVariants.{Enters}
use Rattle.place_derive.specs.Derivations.{AllGiven, IsDerivation, IsLoggedSummary}
use Rattle.place_derive.specs.FirstConflicts.{IsSoundLog}
use Rattle.place_derive.specs.Tracing.{IsPairEdge, StayIn, derivation_entering}
use Rattle.place_derive.specs.declared.derivation.DerivedFrom.TheVariants.{Called}
use Rattle.place_derive.specs.declared.derivation.Derivation.{Derivation}
use Rattle.place_derive.specs.declared.pair_edge.PairEdge.{PairEdge}
use Rattle.place_derive.specs.declared.conflict.FirstConflict.{FirstConflict}
use Rattle.place_chart.proofs.Elements.{of_all}
use Rattle.place_chart.specs.Summaries.{point_state_in}
use Rattle.place_chart.specs.declared.summary.Summary.{Summary}
use Rattle.tpl_paths.specs.Edges.{Edge, Point, from_of, to_of}
use Rattle.tpl_tree.specs.Forests.{ForestData}

pub edge_stays : (forest : ForestData) (summaries new : List Summary) (r : PairEdge) (e : Edge) (at : PointState) → StayIn summaries new → IsPairEdge forest summaries r e at → IsPairEdge forest new r e at
edge_stays forest summaries new r e at stays i = record { summary = i.summary; is_summary = stays r.summary i.summary i.is_summary; template = i.template; entry = i.entry; is_edge = i.is_edge; to = i.to; stands = i.stands }

-- a call whose step enters a template is a derivation
pub call_grows : (forest : ForestData) (roots : List ℕ) (first : Place) (summaries : List Summary) (log : List Derivation) (conflict : Option FirstConflict) (r : PairEdge) (e : Edge) (source : Place) (callee : ℕ) (place : Place) → IsPairEdge forest summaries r e (At source)
    → Enters callee place ≡ step_of forest r.template e source → IsSoundLog forest roots first summaries log conflict → IsDerivation forest roots first log (derivation_entering forest callee place (Called r.template r.entry r.number) source) (Called r.template r.entry r.number)
call_grows forest roots first summaries log conflict r e source callee place i s h =
    let own : AllGiven log i.summary.template i.summary.entry (from_of e) source = of_all (IsLoggedSummary log) summaries r.summary i.summary i.is_summary h.logged.logged (from_of e) source (sym i.stands) in
    let from : AllGiven log r.template r.entry (from_of e) source = subst (λ (u : ℕ). AllGiven log u r.entry (from_of e) source) i.template (subst (λ (x : Place). AllGiven log i.summary.template x (from_of e) source) i.entry own) in
    record {
      entry = record { point = refl; place = refl; valid = subst IsValidStep (sym s) (step-keeps-valid forest r.template e source from.valid) };
      edge = e;
      is = i.is_edge;
      from = from;
      enters = sym s;
    }

-- the edge whose ends were found
pub record IsFound (es : List Edge) (n : ℕ) (from to : Point) : Type 0 where
  pub edge : Edge
  pub is : slice_get es n ≡ Some edge
  pub from_is : from_of edge ≡ from
  pub to_is : to_of edge ≡ to

found_in : (es : List Edge) (n : ℕ) (from to : Point) (o : Option Edge) → slice_get es n ≡ o → option_map {U = Point × Point} (λ e. (from_of e, to_of e)) o ≡ Some (from, to) → IsFound es n from to
found_in es n from to None s e = cc
found_in es n from to (Some edge) s e =
    let p = some_pair_parts (from_of edge) from (to_of edge) to e in
    record { edge = edge; is = s; from_is = p.0; to_is = p.1 }

pub edge_found : (es : List Edge) (n : ℕ) (from to : Point) → option_map {U = Point × Point} (λ e. (from_of e, to_of e)) (slice_get es n) ≡ Some (from, to) → IsFound es n from to
edge_found es n from to e = found_in es n from to (slice_get es n) refl e

pub found_at : (forest : ForestData) (summaries : List Summary) (n number : ℕ) (summary : Summary) (from to : Point) (at : PointState) (f : IsFound (edges_at forest summary.template) number from to) → slice_get summaries n ≡ Some summary → at ≡ point_state_in summary from
    → IsPairEdge forest summaries (record { summary = n; number = number; template = summary.template; entry = summary.entry; to = to }) f.edge at
found_at forest summaries n number summary from to at f is stands = record { summary = summary; is_summary = is; template = refl; entry = refl; is_edge = f.is; to = sym f.to_is; stands = stands ∙ ap (point_state_in summary) (sym f.from_is) }
