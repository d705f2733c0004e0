-- What following an edge of a summary does to the summaries, to their log, and to the first conflict.
use Rattle.std.specs.Prelude.{◌≡◌, ℕ, List, [], ◌∷◌, Option, Some, None, slice_get}
use Rattle.place_core.specs.place.Places.{joined}
use Rattle.place_core.specs.declared.place.Place.{Place}
use Rattle.place_flow.specs.Flows.{edges_at, start_at}
use Rattle.place_flow.specs.declared.point_state.PointState.{PointState}
use Rattle.place_flow.specs.declared.point_state.PointState.TheVariants.{Unreached, At, Conflict}
use Rattle.place_derive.specs.declared.derivation.DerivedFrom.{DerivedFrom}
use Rattle.place_derive.specs.declared.derivation.DerivedFrom.TheVariants.{Along}
use Rattle.place_derive.specs.declared.derivation.Derivation.{Derivation}
use Rattle.place_derive.specs.declared.pair_edge.PairEdge.{PairEdge}
use Rattle.place_derive.specs.declared.conflict.FirstConflict.{FirstConflict}
use Rattle.place_derive.specs.declared.conflict.Why.{Why}
use Rattle.place_derive.specs.declared.conflict.Why.TheVariants.{Refused, Clashes}
use Rattle.place_chart.specs.Summaries.{point_state_in}
use Rattle.place_chart.specs.declared.summary.Summary.{Summary}
use Rattle.tpl_paths.specs.Edges.{Edge, from_of, to_of}
use Rattle.tpl_tree.specs.Forests.{ForestData}

-- an edge of a summary, at whose start the summary has this
pub record IsPairEdge (forest : ForestData) (summaries : List Summary) (r : PairEdge) (edge : Edge) (at : PointState) : Type 0 where
  pub summary : Summary
  pub is_summary : slice_get summaries r.summary ≡ Some summary
  pub template : summary.template ≡ r.template
  pub entry : summary.entry ≡ r.entry
  pub is_edge : slice_get (edges_at forest r.template) r.number ≡ Some edge
  pub to : r.to ≡ to_of edge
  pub stands : at ≡ point_state_in summary (from_of edge)

-- summaries with others after them
abbrev pub StayIn : List Summary → List Summary → Type 0
StayIn summaries new = (n : ℕ) (summary : Summary) → slice_get summaries n ≡ Some summary → slice_get new n ≡ Some summary

-- what is logged of an edge, from what its start has, and of what it gives
abbrev pub derivation_along : PairEdge → Place → Place → Derivation
derivation_along r source derived = record { template = r.template; entry = r.entry; point = r.to; from = Along r.number; source = source; place = derived }

abbrev pub logged_along : PairEdge → PointState → PointState → List Derivation
logged_along r Unreached by = []
logged_along r (At source) Unreached = []
logged_along r (At source) (At derived) = derivation_along r source derived ∷ []
logged_along r (At source) Conflict = []
logged_along r Conflict by = []

-- what is logged where a template is entered, from the place before
abbrev pub derivation_entering : ForestData → ℕ → Place → DerivedFrom → Place → Derivation
derivation_entering forest t e from source = record { template = t; entry = e; point = start_at forest t; from = from; source = source; place = e }

-- why what an edge gives is in conflict its end, which has this already
abbrev pub clash_of : Place → Place → Option Place → Option Why
clash_of before derived (Some p) = None
clash_of before derived None = Some (Clashes before derived)

abbrev pub why_of : PointState → PointState → Option Why
why_of Unreached old = None
why_of (At derived) Unreached = None
why_of (At derived) (At before) = clash_of before derived (joined before derived)
why_of (At derived) Conflict = None
why_of Conflict old = Some Refused

abbrev pub conflict_with : PairEdge → Place → Option Why → Option FirstConflict
conflict_with r source None = None
conflict_with r source (Some why) = Some (record { template = r.template; entry = r.entry; edge = r.number; source = source; why = why })

abbrev pub conflict_of : PairEdge → PointState → PointState → PointState → Option FirstConflict
conflict_of r Unreached by old = None
conflict_of r (At source) by old = conflict_with r source (why_of by old)
conflict_of r Conflict by old = None

abbrev pub first_conflict_of : Option FirstConflict → Option FirstConflict → Option FirstConflict
first_conflict_of None found = found
first_conflict_of (Some conflict) found = Some conflict
