-- Charts: what each point of each template of a forest has, where the template is entered in each place.
use Rattle.std.specs.Prelude.{ℕ, All, ⊤}
use Rattle.place_core.specs.place.Places.{IsValid}
use Rattle.place_core.specs.declared.place.Place.{Place}
use Rattle.place_flow.specs.Flows.{edges_at, start_at}
use Rattle.place_flow.specs.Transfer.{step_of}
use Rattle.place_flow.specs.PointStates.{IsValidPointState, PointStateBelow}
use Rattle.place_flow.specs.declared.point_state.PointState.{PointState}
use Rattle.place_flow.specs.declared.point_state.PointState.TheVariants.{Unreached, At, Conflict}
use Rattle.place_flow.specs.declared.step.EdgeStep.{EdgeStep}
use Rattle.place_flow.specs.declared.step.EdgeStep.TheVariants.{Reaches, Enters, Refused}
use Rattle.tpl_paths.specs.Edges.{Edge, Point, finish_point, from_of, to_of}
use Rattle.tpl_tree.specs.Forests.{ForestData}

-- by the number of a template, the place in which it is entered, and the point
abbrev pub ChartByNumber : Type 0
ChartByNumber = ℕ → Place → Point → PointState

-- What a step gives to the end of its edge: the place where it lands; what the template that it enters has at its end; and what is refused
-- is in conflict.
abbrev pub step_given : ChartByNumber → EdgeStep → PointState
step_given chart (Reaches q) = At q
step_given chart (Enters callee q) = chart callee q finish_point
step_given chart Refused = Conflict

-- what an edge gives to its end, from what its start has
abbrev pub given : ForestData → ChartByNumber → ℕ → Edge → PointState → PointState
given forest chart t e Unreached = Unreached
given forest chart t e (At p) = step_given chart (step_of forest t e p)
given forest chart t e Conflict = Conflict

-- a template is entered in a place
abbrev pub IsEntered : ForestData → ChartByNumber → ℕ → Place → Type 0
IsEntered forest chart t p = PointStateBelow (At p) (chart t p (start_at forest t))

-- a call enters its template in the place before it
abbrev pub StepEnters : ForestData → ChartByNumber → EdgeStep → Type 0
StepEnters forest chart (Reaches q) = ⊤
StepEnters forest chart (Enters callee q) = IsEntered forest chart callee q
StepEnters forest chart Refused = ⊤

abbrev pub EdgeEnters : ForestData → ChartByNumber → ℕ → Edge → PointState → Type 0
EdgeEnters forest chart t e Unreached = ⊤
EdgeEnters forest chart t e (At p) = StepEnters forest chart (step_of forest t e p)
EdgeEnters forest chart t e Conflict = ⊤

-- an edge leads from what its start has to what its end has
pub record EdgeLeads (forest : ForestData) (chart : ChartByNumber) (t : ℕ) (e : Edge) (at to : PointState) : Type 0 where
  pub enters : EdgeEnters forest chart t e at
  pub gives : PointStateBelow (given forest chart t e at) to

-- A chart is closed: in valid places it has valid ones, and each edge leads.
pub record IsClosedByNumber (forest : ForestData) (chart : ChartByNumber) : Type 0 where
  pub valid : (t : ℕ) (p : Place) (k : Point) → IsValid p → IsValidPointState (chart t p k)
  pub leads : (t : ℕ) (p : Place) → IsValid p → All (λ e. EdgeLeads forest chart t e (chart t p (from_of e)) (chart t p (to_of e))) (edges_at forest t)
