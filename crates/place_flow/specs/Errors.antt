-- Which errors stand on a path, on two paths that meet, or on two that met apart before, where they go on along an edge; and paths on which
-- none of one path stands.
use Rattle.std.specs.Prelude.{◌≡◌, ℕ, false, List, [], ◌∷◌, Some, None, ◌⊎◌, ⊤}
use Rattle.place_core.specs.place.PathPairs.{Apart, Clashes, ClashesApart, ClashesHole, Keeps, PartWithin}
use Rattle.place_flow.specs.Covering.{edge_read, read_moves}
use Rattle.place_flow.specs.HtmlCovering.{html_language}
use Rattle.place_core.specs.place.Errors.{PathRefuses, RefusesHole}
use Rattle.place_core.specs.place.StatePlaces.{placed}
use Rattle.place_core.specs.page.States.{LexState}
use Rattle.place_core.specs.page.Tags.{ValueState}
use Rattle.place_core.specs.declared.code.Code.{Code}
use Rattle.place_core.specs.declared.place.Place.{Place}
use Rattle.place_core.specs.declared.step_err.StepErr.{StepErr}
use Rattle.place_flow.specs.Transfer.{may_use, use_of_node}
use Rattle.place_flow.specs.declared.uses.EscaperUse.{EscaperUse}
use Rattle.place_flow.specs.declared.uses.EscaperUse.TheVariants as uses
use Rattle.tpl_paths.specs.Edges.{Edge, Point, calls, fills, from_of, node_kind_at, passes, picks, writes}
use Rattle.tpl_paths.specs.Paths.{Move, Standing, along, along_edge, back, left_calls}
use Rattle.tpl_paths.specs.declared.point.Point.TheVariants as point
use Rattle.tpl_tree.specs.Forests.{ForestData, number_named}

-- how the node before which a point stands uses the predefined escapers, by the name of the template
abbrev pub use_in : ForestData → List ℕ → Point → EscaperUse
use_in forest name (point.Before n) = use_of_node (node_kind_at forest name n)
use_in forest name (point.Again n) = uses.Nothing
use_in forest name (point.Head n) = uses.Nothing
use_in forest name (point.Past n) = uses.Nothing
use_in forest name point.Finish = uses.Nothing

-- the node uses them otherwise than the path's place lets it
pub record Misuses (forest : ForestData) (name : List ℕ) (k : Point) (s : LexState ValueState) : Type 0 where
  pub own : Place
  pub stands : placed s ≡ Some own
  pub misused : may_use own (use_in forest name k) ≡ false

-- the path's text or hole is refused, or the template that is called is not there
abbrev pub EdgeRefuses : ForestData → Edge → LexState ValueState → Type 0
EdgeRefuses forest (writes n bytes to) s = (e : StepErr Place) × PathRefuses bytes s e
EdgeRefuses forest (fills n pipe to) s = (e : Code) × RefusesHole s e
EdgeRefuses forest (calls n name to) s = number_named name forest ≡ None
EdgeRefuses forest (picks from choice to) s = ⊥
EdgeRefuses forest (passes from to) s = ⊥

-- an error of one path
abbrev pub Errs : ForestData → List ℕ → Edge → LexState ValueState → Type 0
Errs forest name e s = Misuses forest name (from_of e) s ⊎ EdgeRefuses forest e s

-- an error of two paths that meet before a text or a hole
abbrev pub EdgeClashes : Edge → LexState ValueState → LexState ValueState → Type 0
EdgeClashes (writes n bytes to) s r = (e : Code) × (at : ℕ) × Clashes bytes s r e at
EdgeClashes (fills n pipe to) s r = (e : Code) × ClashesHole s r e
EdgeClashes (calls n name to) s r = ⊥
EdgeClashes (picks from choice to) s r = ⊥
EdgeClashes (passes from to) s r = ⊥

-- A path stays in the beginning of a URL along moves: in each text of them, and over no hole.
abbrev pub EdgeKeeps : Edge → LexState ValueState → Type 0
EdgeKeeps (writes n bytes to) s = Keeps bytes s
EdgeKeeps (fills n pipe to) s = ⊥
EdgeKeeps (calls n name to) s = ⊤
EdgeKeeps (picks from choice to) s = ⊤
EdgeKeeps (passes from to) s = ⊤

abbrev pub KeepsAlong : List Move → LexState ValueState → Type 0
KeepsAlong [] s = ⊤
KeepsAlong (along e ∷ ms) s = EdgeKeeps e s × KeepsAlong ms (edge_read html_language e s)
KeepsAlong (back ∷ ms) s = KeepsAlong ms s

-- Two paths that take the same moves from a point at which they meet met apart: there, or at a byte within the text of the first move; and
-- from then on both stay in the beginning of the URL.
abbrev pub EdgeParts : Edge → LexState ValueState → LexState ValueState → Type 0
EdgeParts (writes n bytes to) s r = PartWithin bytes s r
EdgeParts (fills n pipe to) s r = ⊥
EdgeParts (calls n name to) s r = ⊥
EdgeParts (picks from choice to) s r = ⊥
EdgeParts (passes from to) s r = ⊥

abbrev pub PartAlong : List Move → LexState ValueState → LexState ValueState → Type 0
PartAlong [] s r = ⊥
PartAlong (along e ∷ ms) s r =
    EdgeParts e s r × KeepsAlong ms (edge_read html_language e s) × KeepsAlong ms (edge_read html_language e r)
PartAlong (back ∷ ms) s r = ⊥

abbrev pub MeetApart : List Move → LexState ValueState → LexState ValueState → Type 0
MeetApart ms s r = (Apart s r × KeepsAlong ms s × KeepsAlong ms r) ⊎ PartAlong ms s r

-- An error of two paths that met apart before a text: the text is refused on both, though they may have read the same since they met. Where
-- they come apart within the text itself, the error is one of two paths that meet before it (`EdgeClashes`).
abbrev pub EdgeClashesApart : Edge → LexState ValueState → LexState ValueState → Type 0
EdgeClashesApart (writes n bytes to) s r = (e : Code) × (at : ℕ) × ClashesApart bytes s r e at
EdgeClashesApart (fills n pipe to) s r = ⊥
EdgeClashesApart (calls n name to) s r = ⊥
EdgeClashesApart (picks from choice to) s r = ⊥
EdgeClashesApart (passes from to) s r = ⊥

-- likewise, from the point at which they met, with the moves that both take from there to the edge
pub record ErrsApart (common : List Move) (e : Edge) (s r : LexState ValueState) : Type 0 where
  pub met : MeetApart common s r
  pub clash : EdgeClashesApart e (read_moves html_language common s) (read_moves html_language common r)

-- no error of one path stands on the moves of a path before its end
abbrev pub IsClear : ForestData → Standing → LexState ValueState → List Move → Type 0
IsClear forest a s [] = ⊤
IsClear forest a s (along e ∷ ms) = (Errs forest a.template e s → ⊥) × IsClear forest (along_edge forest a e) (edge_read html_language e s) ms
IsClear forest a s (back ∷ ms) = IsClear forest (left_calls a.open_calls a) s ms
