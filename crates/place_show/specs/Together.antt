-- Two paths that go on in step from where they met, as ones that met apart.
use Rattle.std.specs.Prelude.{◌≡◌, ℕ, Bool, true, false, List, [], ◌∷◌, ◌++◌, Option, Some, None, Result, Ok, Err, length, slice_get, ⊤}
use Rattle.page_io.specs.declared.stop.Memory.{Memory}
use Rattle.place_core.specs.page.States.{LexState}
use Rattle.place_core.specs.page.Tags.{ValueState}
use Rattle.place_core.specs.declared.place.Place.{Place}
use Rattle.place_flow.specs.Errors.{KeepsAlong, MeetApart, PartAlong}
use Rattle.place_flow.specs.Flows.{edges_at, nodes_at}
use Rattle.place_show.specs.LastApart.{EdgeNotApart, IsFoundIn, IsLastAlong, IsLastInEdge, NotApartAlong}
use Rattle.place_show.specs.Answers.{IfFound}
use Rattle.place_show.specs.Showings.{Meet, ShowsTwo, shown_state}
use Rattle.place_show.specs.declared.showing.Showing.{Showing}
use Rattle.place_show.specs.Unknown.{IsOwn, PassText}
use Rattle.place_flow.specs.Covering.{read_moves}
use Rattle.place_flow.specs.HtmlCovering.{html_language}
use Rattle.place_trace.specs.Replays.{GoesAlong, IsPathReplay, IsReplayOf, ReplayData}
use Rattle.place_trace.specs.declared.replay.PathReplay.{PathReplay}
use Rattle.tpl_paths.specs.Edges.{Edge, before, calls, fills, passes, picks, writes}
use Rattle.tpl_paths.specs.Paths.{Move, along, back}
use Rattle.tpl_tree.specs.Forests.{ForestData}
use Rattle.tpl_tree.specs.Trees.{NodesData, head_kind, nodes_from}
use Rattle.tpl_tree.specs.declared.node_kind.NodeKind.TheVariants as kind

-- the places of both at the last point at which they were apart, where there is one so far
abbrev pub LastPlaces : Type 0
LastPlaces = Option (Place × Place)

-- the later one of two such points
abbrev pub latest : LastPlaces → LastPlaces → LastPlaces
latest last None = last
latest last (Some x) = Some x

-- of moves so far, whatever moves and whatever text come behind them at none of whose points they are apart
abbrev pub IsLastSoFar : List Move → LexState ValueState → LexState ValueState → LexState ValueState → LexState ValueState
    → LastPlaces → Type 0
IsLastSoFar common s r s1 r1 None = ⊤
IsLastSoFar common s r s1 r1 (Some x) = (rest : List Move) (upto : ℕ) (bytes : List ℕ)
    → NotApartAlong rest upto bytes s1 r1 → IsLastAlong (common ++ rest) upto bytes s r x.0 x.1

-- Both took the same moves from where they met, and whatever moves come behind these on which both stay in the beginning of the URL, they
-- met apart at the beginning of them all.
pub record AreTogether (forest : ForestData) (w0 v0 w v : PathReplay) (is : IsPathReplay forest w0)
    (js : IsPathReplay forest v0) (last : LastPlaces) : Type 0 where
  pub root : w.root ≡ w0.root
  pub here : IsPathReplay forest w
  pub other_here : IsPathReplay forest v
  pub common : List Move
  pub moves : here.moves ≡ is.moves ++ common
  pub other_moves : other_here.moves ≡ js.moves ++ common
  pub met : (rest : List Move) → KeepsAlong rest (shown_state here) → KeepsAlong rest (shown_state other_here)
      → MeetApart (common ++ rest) (shown_state is) (shown_state js)
  pub more : (rest : List Move) (upto : ℕ) (bytes : List ℕ) (p q : Place)
      → IsLastAlong rest upto bytes (shown_state here) (shown_state other_here) p q
      → IsLastAlong (common ++ rest) upto bytes (shown_state is) (shown_state js) p q
  pub so_far : IsLastSoFar common (shown_state is) (shown_state js) (shown_state here) (shown_state other_here) last

abbrev pub GoOnTogether : ForestData → PathReplay → PathReplay → PathReplay → PathReplay → LastPlaces → Type 0
GoOnTogether forest w0 v0 w v last =
    (is : IsPathReplay forest w0) (js : IsPathReplay forest v0) → AreTogether forest w0 v0 w v is js last

-- a move on which both go on as paths that met apart, or on which they come apart
abbrev pub PassMove : Bool → Move → LexState ValueState → LexState ValueState → Type 0
PassMove true m s r = KeepsAlong (m ∷ []) s × KeepsAlong (m ∷ []) r
PassMove false m s r = PartAlong (m ∷ []) s r

-- the last point of it at which they are apart
abbrev pub IsFoundOn : Move → LexState ValueState → LexState ValueState → LastPlaces → Type 0
IsFoundOn (along e) s r None = EdgeNotApart e s r
IsFoundOn (along e) s r (Some x) = IsLastInEdge e s r x.0 x.1
IsFoundOn back s r None = ⊤
IsFoundOn back s r (Some x) = ⊥

-- likewise of an edge, by the places of both before it
abbrev pub IsPassedEdge : Bool → Edge → Place → Place → LastPlaces → Type 0
IsPassedEdge apart e x y found = (s r : LexState ValueState) → IsOwn x s → IsOwn y r → PassMove apart (along e) s r × IsFoundOn (along e) s r found

-- The last point of some moves at which they are apart, whatever moves and whatever text come behind them at none of whose points they are.
abbrev pub IsFoundAlong : List Move → LexState ValueState → LexState ValueState → LastPlaces → Type 0
IsFoundAlong ms s r None = (rest : List Move) (upto : ℕ) (bytes : List ℕ)
    → NotApartAlong rest upto bytes (read_moves html_language ms s) (read_moves html_language ms r) → NotApartAlong (ms ++ rest) upto bytes s r
IsFoundAlong ms s r (Some x) = (rest : List Move) (upto : ℕ) (bytes : List ℕ)
    → NotApartAlong rest upto bytes (read_moves html_language ms s) (read_moves html_language ms r) → IsLastAlong (ms ++ rest) upto bytes s r x.0 x.1

-- Two paths stay in the beginning of a URL along moves that both take, whatever moves come behind these.
pub record PassMoves (ms : List Move) (s r : LexState ValueState) (found : LastPlaces) : Type 0 where
  pub keeps : (rest : List Move) → KeepsAlong rest (read_moves html_language ms s) → KeepsAlong (ms ++ rest) s
  pub other_keeps : (rest : List Move) → KeepsAlong rest (read_moves html_language ms r) → KeepsAlong (ms ++ rest) r
  pub more : (rest : List Move) (upto : ℕ) (bytes : List ℕ) (p q : Place)
      → IsLastAlong rest upto bytes (read_moves html_language ms s) (read_moves html_language ms r) p q → IsLastAlong (ms ++ rest) upto bytes s r p q
  pub last : IsFoundAlong ms s r found

-- Two paths go on by the same moves, as ones that met apart.
pub record GoBoth (forest : ForestData) (w v w1 v1 : ReplayData) (found : LastPlaces) : Type 0 where
  pub root : w1.root ≡ w.root
  pub moves : List Move
  pub goes : (is : IsReplayOf forest w) → (now : IsReplayOf forest w1) × (now.moves ≡ is.moves ++ moves)
  pub other_goes : (js : IsReplayOf forest v) → (now : IsReplayOf forest v1) × (now.moves ≡ js.moves ++ moves)
  pub passes : (is : IsReplayOf forest w) (js : IsReplayOf forest v) → PassMoves moves (shown_state is) (shown_state js) found

-- both take one move
pub record StepTogether (apart : Bool) (forest : ForestData) (w v w1 v1 : PathReplay) (found : LastPlaces)
    : Type 0 where
  pub move : Move
  pub goes : GoesAlong forest w w1 move
  pub other_goes : GoesAlong forest v v1 move
  pub passes_on : (is : IsPathReplay forest w) (js : IsPathReplay forest v) → PassMove apart move (shown_state is) (shown_state js)
  pub last : (is : IsPathReplay forest w) (js : IsPathReplay forest v) → IsFoundOn move (shown_state is) (shown_state js) found

-- the edge that writes the text of a node
abbrev pub WritesNode : ℕ → Edge → Type 0
WritesNode n (writes m bytes to) = m ≡ n
WritesNode n (fills m pipe to) = ⊥
WritesNode n (calls m name to) = ⊥
WritesNode n (picks from choice to) = ⊥
WritesNode n (passes from to) = ⊥

-- an edge that neither writes a text nor fills a hole
abbrev pub IsQuiet : Edge → Type 0
IsQuiet (writes m bytes to) = ⊥
IsQuiet (fills m pipe to) = ⊥
IsQuiet (calls m name to) = ⊤
IsQuiet (picks from choice to) = ⊤
IsQuiet (passes from to) = ⊤

-- whether both took the edge of a number
abbrev pub BothWent : ForestData → ℕ → PathReplay → PathReplay → PathReplay → PathReplay → Result Bool Memory → Type 0
BothWent forest number w v w1 v1 (Ok true) =
    (e : Edge) × (slice_get (edges_at forest w.template) number ≡ Some e) × GoesAlong forest w w1 (along e) × GoesAlong forest v v1 (along e)
BothWent forest number w v w1 v1 (Ok false) = ⊤
BothWent forest number w v w1 v1 (Err m) = ⊤

-- Paths go on in the text of a node as ones that met apart, by their places before it.
pub record PassedNode (apart : Bool) (forest : ForestData) (t n : ℕ) (one other : Place) (found : LastPlaces) : Type 0 where
  pub bytes : List ℕ
  pub text : head_kind (nodes_from (nodes_at forest t) n) ≡ Some (kind.Text bytes)
  pub passes_on : (s r : LexState ValueState) → IsOwn one s → IsOwn other r
      → PassText apart bytes s r × IsFoundIn (length bytes) bytes s r found

-- what a showing is to show of two paths that go on in step, where they stand before the text that is refused
abbrev pub ShowsMet : ForestData → PathReplay → PathReplay → LastPlaces → Showing → Type 0
ShowsMet forest w v last sh = (w0 v0 : PathReplay) → IsPathReplay forest w0 → IsPathReplay forest v0 → Meet w0 v0
    → GoOnTogether forest w0 v0 w v last → ShowsTwo forest sh

-- likewise, before a node of some nodes
abbrev pub ShowsMetAt : ForestData → PathReplay → PathReplay → NodesData → ℕ → LastPlaces → Showing → Type 0
ShowsMetAt forest w v nodes n last sh =
    nodes_at forest w.template ≡ nodes → w.point ≡ before n → Meet w v → ShowsMet forest w v last sh

-- likewise, where they met
abbrev pub ShowsWhereMet : ForestData → ForestData → PathReplay → PathReplay → Result (Option Showing) Memory → Type 0
ShowsWhereMet flows forest w v result =
    IfFound (λ sh. flows ≡ forest → IsPathReplay forest w → IsPathReplay forest v → ShowsTwo forest sh) result
