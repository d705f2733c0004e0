-- The paths that bear what the log of derivations tells, and the errors that stand where something is in conflict.
use Rattle.std.specs.Prelude.{◌≡◌, ◌<◌, ℕ, List, [], ◌++◌, Some, None, All, Contains, length, slice_get, ◌⊎◌}
use Rattle.place_flow.specs.Covering.{read_moves}
use Rattle.place_flow.specs.HtmlCovering.{html_language}
use Rattle.place_core.specs.page.Html.{start}
use Rattle.place_core.specs.place.Membership.{Bears, IsIn}
use Rattle.place_core.specs.place.Places.{joined}
use Rattle.place_core.specs.place.StatePlaces.{placed}
use Rattle.place_core.specs.page.States.{LexState}
use Rattle.place_core.specs.page.Tags.{ValueState}
use Rattle.place_core.specs.declared.member.Member.{Member}
use Rattle.place_core.specs.declared.place.Place.{Place}
use Rattle.place_core.specs.declared.place.Place.TheVariants as place
use Rattle.place_flow.specs.Flows.{edges_at}
use Rattle.place_derive.specs.Derivations.{HasEntry, HasDerivation, IsMadeDerivation}
use Rattle.place_derive.specs.FirstConflicts.{IsFirstConflict}
use Rattle.place_derive.specs.declared.derivation.Derivation.{Derivation}
use Rattle.place_derive.specs.declared.conflict.FirstConflict.{FirstConflict}
use Rattle.place_flow.specs.Errors.{EdgeClashes, EdgeClashesApart, Errs, IsClear, MeetApart}
use Rattle.tpl_paths.specs.Edges.{Edge, Point, from_of, to_of}
use Rattle.tpl_paths.specs.Paths.{IsPath, Move, Open, at_root, reached, open_standing}
use Rattle.tpl_tree.specs.Forests.{ForestData, HasAscendingNames, tree_name_at}

-- a path of a root that stands at a point of a template with some calls open, and on which no error of one path stands before
pub record PathTo (forest : ForestData) (root : ℕ) (open_calls : List Open) (t : ℕ) (k : Point) : Type 0 where
  pub root_name : List ℕ
  pub root_is : tree_name_at forest root ≡ Some root_name
  pub name : List ℕ
  pub name_is : tree_name_at forest t ≡ Some name
  pub moves : List Move
  pub path : IsPath forest (at_root forest root_name) moves
  pub clear : IsClear forest (at_root forest root_name) start.at moves
  pub stands : reached forest (at_root forest root_name) moves ≡ open_standing open_calls name k

-- what it has read
abbrev pub path_state : {forest : ForestData} {root : ℕ} {open_calls : List Open} {t : ℕ} {k : Point} → PathTo forest root open_calls t k → LexState ValueState
path_state path = read_moves html_language path.moves start.at

-- a path for which a place stands, and which bears a member of it
pub record Bearing (forest : ForestData) (root : ℕ) (open_calls : List Open) (t : ℕ) (k : Point) (p : Place) (m : Member) : Type 0 where
  pub path : PathTo forest root open_calls t k
  pub is_in : IsIn p (path_state path)
  pub bears : Bears (path_state path) m

-- a root and open calls from which each member that was given to the points of a pair comes
pub record Origin (forest : ForestData) (roots : List ℕ) (log : List Derivation) (t : ℕ) (e : Place) : Type 0 where
  pub root : ℕ
  pub is_root : Contains roots root
  pub open_calls : List Open
  pub comes : (k : Point) (p : Place) (m : Member) → HasDerivation log t e k p m → Bearing forest root open_calls t k p m

-- the roots are templates of the forest
abbrev pub AreTemplates : ForestData → List ℕ → Type 0
AreTemplates forest roots = All (λ root. root < length forest) roots

-- Each member of each place that a point of a pair was given comes along a path, all with the same calls open.
abbrev pub EveryMemberHasPath : Type 0
EveryMemberHasPath = (forest : ForestData) (roots : List ℕ) (log : List Derivation) (t : ℕ) (e : Place) → HasAscendingNames forest → AreTemplates forest roots → IsMadeDerivation forest roots place.Text log → HasEntry forest log t e → Origin forest roots log t e

-- What the pair of a root was given, entered in text, comes along a path of that root with no call open.
abbrev pub EveryRootHasPath : Type 0
EveryRootHasPath = (forest : ForestData) (roots : List ℕ) (log : List Derivation) (t : ℕ) (k : Point) (p : Place) (m : Member) → HasAscendingNames forest → AreTemplates forest roots → IsMadeDerivation forest roots place.Text log
    → Contains roots t → HasDerivation log t place.Text k p m → Bearing forest t [] t k p m

-- an error of one path where it goes on along an edge
pub record OneErrs (forest : ForestData) (root : ℕ) (open_calls : List Open) (t : ℕ) (e : Edge) : Type 0 where
  pub path : PathTo forest root open_calls t (from_of e)
  pub errs : Errs forest path.name e (path_state path)

-- an error of two paths that meet there
pub record TwoErr (forest : ForestData) (root : ℕ) (open_calls : List Open) (t : ℕ) (e : Edge) : Type 0 where
  pub path : PathTo forest root open_calls t (from_of e)
  pub other : PathTo forest root open_calls t (from_of e)
  pub errs : EdgeClashes e (path_state path) (path_state other)

-- two paths that met apart: at a point before, with the same calls open, from which both take the same moves
pub record MetPaths (forest : ForestData) (root : ℕ) (open_calls : List Open) (t : ℕ) (k : Point) : Type 0 where
  pub path : PathTo forest root open_calls t k
  pub other : PathTo forest root open_calls t k
  pub first : List Move
  pub other_first : List Move
  pub common : List Move
  pub moves : path.moves ≡ first ++ common
  pub other_moves : other.moves ≡ other_first ++ common
  pub meet : reached forest (at_root forest other.root_name) other_first ≡ reached forest (at_root forest path.root_name) first
  pub met : MeetApart common (read_moves html_language first start.at) (read_moves html_language other_first start.at)

-- an error of two paths that met apart
pub record ApartErr (forest : ForestData) (root : ℕ) (open_calls : List Open) (t : ℕ) (e : Edge) : Type 0 where
  pub paths : MetPaths forest root open_calls t (from_of e)
  pub errs : EdgeClashesApart e (path_state paths.path) (path_state paths.other)

-- two paths that come to a point in places that do not join
pub record MembersDoNotJoin (forest : ForestData) (root : ℕ) (open_calls : List Open) (t : ℕ) (k : Point) : Type 0 where
  pub path : PathTo forest root open_calls t k
  pub other : PathTo forest root open_calls t k
  pub own : Place
  pub other_own : Place
  pub stands : placed (path_state path) ≡ Some own
  pub other_stands : placed (path_state other) ≡ Some other_own
  pub conflict : joined own other_own ≡ None

-- an error at an edge that is refused: of one path, of two that meet before it, or of two that met apart
abbrev pub RefusalErr : ForestData → ℕ → List Open → ℕ → Edge → Type 0
RefusalErr forest root open_calls t e = OneErrs forest root open_calls t e ⊎ (TwoErr forest root open_calls t e ⊎ ApartErr forest root open_calls t e)

-- where something is in conflict an error stands, on a path, on two that meet, or on two that met apart
pub record ConflictHasError (forest : ForestData) (roots : List ℕ) (conflict : FirstConflict) : Type 0 where
  pub root : ℕ
  pub is_root : Contains roots root
  pub open_calls : List Open
  pub edge : Edge
  pub is : slice_get (edges_at forest conflict.template) conflict.edge ≡ Some edge
  pub errs : RefusalErr forest root open_calls conflict.template edge ⊎ MembersDoNotJoin forest root open_calls conflict.template (to_of edge)

abbrev pub EveryConflictHasError : Type 0
EveryConflictHasError = (forest : ForestData) (roots : List ℕ) (log : List Derivation) (conflict : FirstConflict) → HasAscendingNames forest → AreTemplates forest roots → IsMadeDerivation forest roots place.Text log → IsFirstConflict forest log conflict → ConflictHasError forest roots conflict
