-- The log of what was given to the points of pairs, and of what it was made.
use Rattle.std.specs.Prelude.{◌≡◌, ℕ, List, All, Some, Contains, slice_get, take, ⊤, ◌⊎◌}
use Rattle.place_core.specs.place.ApartPlaces.{ArePlacesApart, HasApart, side}
use Rattle.place_core.specs.place.Places.{Below, Has, IsValid}
use Rattle.place_core.specs.declared.member.Member.{Member}
use Rattle.place_core.specs.declared.place.Place.{Place}
use Rattle.place_flow.specs.Flows.{edges_at, start_at}
use Rattle.place_flow.specs.Transfer.{step_of}
use Rattle.place_flow.specs.declared.point_state.PointState.TheVariants.{At}
use Rattle.place_flow.specs.declared.step.EdgeStep.{EdgeStep}
use Rattle.place_flow.specs.declared.step.EdgeStep.TheVariants.{Reaches, Enters, Refused}
use Rattle.place_derive.specs.declared.derivation.DerivedFrom.{DerivedFrom}
use Rattle.place_derive.specs.declared.derivation.DerivedFrom.TheVariants.{Root, Called, Along}
use Rattle.place_derive.specs.declared.derivation.Derivation.{Derivation}
use Rattle.place_chart.specs.Summaries.{point_state_in}
use Rattle.place_chart.specs.declared.summary.Summary.{Summary}
use Rattle.tpl_paths.specs.Edges.{Edge, Point, finish_point, from_of, to_of}
use Rattle.tpl_tree.specs.Forests.{ForestData}

-- a derivation that gave a member to a point of a pair, which has this place now
pub record HasDerivation (log : List Derivation) (t : ℕ) (e : Place) (k : Point) (p : Place) (m : Member) : Type 0 where
  pub number : ℕ
  pub derivation : Derivation
  pub is : slice_get log number ≡ Some derivation
  pub template : derivation.template ≡ t
  pub entry : derivation.entry ≡ e
  pub point : derivation.point ≡ k
  pub has : Has derivation.place m
  pub below : Below derivation.place p

-- a derivation that gave it a place of which two paths met apart
pub record HasApartDerivation (log : List Derivation) (t : ℕ) (e : Place) (k : Point) (p : Place) : Type 0 where
  pub number : ℕ
  pub derivation : Derivation
  pub is : slice_get log number ≡ Some derivation
  pub template : derivation.template ≡ t
  pub entry : derivation.entry ≡ e
  pub point : derivation.point ≡ k
  pub apart : HasApart derivation.place
  pub below : Below derivation.place p

-- two derivations that gave it places that are apart
pub record HasDerivationsApart (log : List Derivation) (t : ℕ) (e : Place) (k : Point) (p : Place) : Type 0 where
  pub one : HasDerivation log t e k p side
  pub other : HasDerivation log t e k p side
  pub apart : ArePlacesApart one.derivation.place other.derivation.place

-- that two paths of its place met apart was given to the point, or came there
abbrev pub ApartGiven : List Derivation → ℕ → Place → Point → Place → Type 0
ApartGiven log t e k p = HasApartDerivation log t e k p ⊎ HasDerivationsApart log t e k p

-- all that a place says was given to the point, and the place is valid
pub record AllGiven (log : List Derivation) (t : ℕ) (e : Place) (k : Point) (p : Place) : Type 0 where
  pub valid : IsValid p
  pub members : (m : Member) → Has p m → HasDerivation log t e k p m
  pub apart : HasApart p → ApartGiven log t e k p

abbrev pub IsLoggedSummary : List Derivation → Summary → Type 0
IsLoggedSummary log summary = (k : Point) (p : Place) → point_state_in summary k ≡ At p → AllGiven log summary.template summary.entry k p

-- what a step gives: the place where it lands, or what was given before to the end of the template that it enters
abbrev pub IsDerivedBy : List Derivation → EdgeStep → Place → Type 0
IsDerivedBy log (Reaches q) derived = (q ≡ derived) × IsValid derived
IsDerivedBy log (Enters callee q) derived = AllGiven log callee q finish_point derived
IsDerivedBy log Refused derived = ⊥

-- a derivation came along an edge
pub record IsAlong (forest : ForestData) (log : List Derivation) (g : Derivation) (n : ℕ) : Type 0 where
  pub edge : Edge
  pub is : slice_get (edges_at forest g.template) n ≡ Some edge
  pub to : g.point ≡ to_of edge
  pub from : AllGiven log g.template g.entry (from_of edge) g.source
  pub gives : IsDerivedBy log (step_of forest g.template edge g.source) g.place

-- a template was entered in a place, which its start has
pub record IsDerivedEntry (forest : ForestData) (g : Derivation) : Type 0 where
  pub point : g.point ≡ start_at forest g.template
  pub place : g.place ≡ g.entry
  pub valid : IsValid g.entry

pub record IsRootEntry (forest : ForestData) (roots : List ℕ) (first : Place) (g : Derivation) : Type 0 where
  pub entry : IsDerivedEntry forest g
  pub root : Contains roots g.template
  pub starts : g.entry ≡ first

-- likewise, by a call of a pair
pub record IsCalled (forest : ForestData) (log : List Derivation) (g : Derivation) (t : ℕ) (e : Place) (n : ℕ) : Type 0 where
  pub entry : IsDerivedEntry forest g
  pub edge : Edge
  pub is : slice_get (edges_at forest t) n ≡ Some edge
  pub from : AllGiven log t e (from_of edge) g.source
  pub enters : step_of forest t edge g.source ≡ Enters g.template g.entry

abbrev pub IsDerivation : ForestData → List ℕ → Place → List Derivation → Derivation → DerivedFrom → Type 0
IsDerivation forest roots first log g Root = IsRootEntry forest roots first g
IsDerivation forest roots first log g (Called t e n) = IsCalled forest log g t e n
IsDerivation forest roots first log g (Along n) = IsAlong forest log g n

-- each derivation was made of derivations before it
abbrev pub IsMadeDerivation : ForestData → List ℕ → Place → List Derivation → Type 0
IsMadeDerivation forest roots first log = (i : ℕ) (g : Derivation) → slice_get log i ≡ Some g → IsDerivation forest roots first (take i log) g g.from

-- a derivation by which a pair was entered
abbrev pub IsEnteredPair : DerivedFrom → Type 0
IsEnteredPair Root = ⊤
IsEnteredPair (Called t e n) = ⊤
IsEnteredPair (Along n) = ⊥

pub record HasEntry (forest : ForestData) (log : List Derivation) (t : ℕ) (e : Place) : Type 0 where
  pub number : ℕ
  pub derivation : Derivation
  pub is : slice_get log number ≡ Some derivation
  pub template : derivation.template ≡ t
  pub entry : derivation.entry ≡ e
  pub enters : IsEnteredPair derivation.from

-- the log of summaries: each was entered, and what its points have was given to them
pub record IsLog (forest : ForestData) (roots : List ℕ) (first : Place) (summaries : List Summary) (log : List Derivation) : Type 0 where
  pub entries : All (λ summary. HasEntry forest log summary.template summary.entry) summaries
  pub logged : All (IsLoggedSummary log) summaries
  pub made : IsMadeDerivation forest roots first log
