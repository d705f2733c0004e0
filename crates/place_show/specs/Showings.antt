-- An error that stands on a path, or on two that meet, as it is shown.
use Rattle.std.specs.Prelude.{◌≡◌, ◌≢◌, ℕ, false, List, [], ◌∷◌, ◌++◌, All, Option, Some, None, map, ◌⊎◌}
use Rattle.place_flow.specs.Covering.{read_moves}
use Rattle.place_flow.specs.HtmlCovering.{html_language}
use Rattle.place_core.specs.place.PathPairs.{ClashesApart}
use Rattle.place_core.specs.place.Errors.{PathRefuses, RefusesHole}
use Rattle.place_core.specs.place.PathPairs.{Clashes, ClashesHole}
use Rattle.place_core.specs.page.Html.{start}
use Rattle.place_core.specs.place.Places.{joined}
use Rattle.place_core.specs.page.States.{LexState}
use Rattle.place_core.specs.page.Tags.{ValueState}
use Rattle.place_core.specs.declared.code.Code.{Code}
use Rattle.place_core.specs.declared.code.Code.TheVariants as code
use Rattle.place_core.specs.declared.place.Place.TheVariants as place
use Rattle.place_flow.specs.Errors.{MeetApart}
use Rattle.place_flow.specs.Flows.{nodes_at}
use Rattle.place_flow.specs.Transfer.{may_use, use_at}
use Rattle.place_trace.specs.Replays.{IsPathReplay, IsReplayOf, ReplayData, name_or_none}
use Rattle.place_trace.specs.declared.chosen.Chosen.{Chosen}
use Rattle.place_trace.specs.declared.replay.PathReplay.{PathReplay}
use Rattle.place_show.specs.Ends.{last_node_of}
use Rattle.place_show.specs.LastApart.{AreShownIn, IsLastAlong}
use Rattle.place_show.specs.PathTexts.{ComesFirst}
use Rattle.place_show.specs.declared.showing.Seen.{Seen}
use Rattle.place_show.specs.declared.showing.Choice.{Choice}
use Rattle.place_show.specs.declared.showing.Showing.{Showing}
use Rattle.tpl_paths.specs.Edges.{Point, before, finish_point, head, past_point}
use Rattle.tpl_paths.specs.Paths.{Move, at_root, reached}
use Rattle.tpl_tree.specs.Forests.{ForestData, tree_name_at, number_named, tree_at}
use Rattle.tpl_tree.specs.Trees.{TreeData, head_kind, head_line, head_seams, nodes_from, text_line}
use Rattle.tpl_tree.specs.declared.node_kind.NodeKind.{NodeKind}
use Rattle.tpl_tree.specs.declared.node_kind.NodeKind.TheVariants as kind
use Rattle.tpl_tree.specs.declared.pipe.Pipe.{Pipe}

-- what a node of a template is, and its line
abbrev pub kind_of_node : ForestData → ℕ → ℕ → Option NodeKind
kind_of_node forest t n = head_kind (nodes_from (nodes_at forest t) n)

abbrev pub line_of_node : ForestData → ℕ → ℕ → ℕ
line_of_node forest t n = head_line (nodes_from (nodes_at forest t) n)

-- the line of a byte of a text
abbrev pub line_of_byte : ForestData → ℕ → ℕ → List ℕ → ℕ → ℕ
line_of_byte forest t n bytes at =
    text_line bytes (line_of_node forest t n) (head_seams (nodes_from (nodes_at forest t) n)) at

-- the line on which a template ends
abbrev pub template_end : Option TreeData → ℕ
template_end None = 0
template_end (Some tree) = tree.end_line

-- what a path chose, as it is shown
abbrev pub seen_choice : ForestData → Chosen → Choice
seen_choice forest c = record {
  template = name_or_none (tree_name_at forest c.template);
  line = line_of_node forest c.template c.node;
  way = c.way;
}

-- likewise, in a template of the forest, which has the name that is shown
abbrev pub IsNamedTemplate : ForestData → Chosen → Type 0
IsNamedTemplate forest c = tree_name_at forest c.template ≡ Some (seen_choice forest c).template

-- what moves from the start of a root have read
abbrev pub path_state_after : List Move → LexState ValueState
path_state_after ms = read_moves html_language ms start.at

-- what a path has read
abbrev pub shown_state : {forest : ForestData} {w : ReplayData} → IsReplayOf forest w → LexState ValueState
shown_state is = path_state_after is.moves

-- A path of the root of a showing stands in its template, with its calls open.
pub record IsShownBy (forest : ForestData) (sh : Showing) (seen : Seen) (w : PathReplay) : Type 0 where
  pub is : IsPathReplay forest w
  pub root : tree_name_at forest w.root ≡ Some sh.root
  pub template : tree_name_at forest w.template ≡ Some sh.template
  pub calls : map (λ o. o.node) w.open_calls.items ≡ sh.calls
  pub path : seen.path ≡ map (seen_choice forest) w.chosen.items
  pub named : All (IsNamedTemplate forest) w.chosen.items

-- An error of one path. A text is refused at a byte, before which the path is at the place that is shown.
pub record IsTextRefused (forest : ForestData) (sh : Showing) (seen : Seen) (w : PathReplay)
    (s : LexState ValueState) : Type 0 where
  pub bytes : List ℕ
  pub point : w.point ≡ before sh.node
  pub text : kind_of_node forest w.template sh.node ≡ Some (kind.Text bytes)
  pub refused : PathRefuses bytes s (record { code = sh.code; at = sh.byte; before = seen.at })
  pub line : sh.line ≡ line_of_byte forest w.template sh.node bytes sh.byte

-- likewise, the path is at the place that is shown, and the node may not stand there
pub record IsNodeShown (forest : ForestData) (sh : Showing) (seen : Seen) (w : PathReplay)
    : Type 0 where
  pub point : w.point ≡ before sh.node
  pub at : seen.at ≡ w.place
  pub line : sh.line ≡ line_of_node forest w.template sh.node
  pub byte : sh.byte ≡ 0

-- a hole
pub record IsHoleRefused (forest : ForestData) (sh : Showing) (seen : Seen) (w : PathReplay)
    (s : LexState ValueState) : Type 0 where
  pub pipe : Pipe
  pub hole : kind_of_node forest w.template sh.node ≡ Some (kind.Action pipe)
  pub shown : IsNodeShown forest sh seen w
  pub refused : RefusesHole s sh.code

-- a predefined escaper
pub record IsMisused (forest : ForestData) (sh : Showing) (seen : Seen) (w : PathReplay) : Type 0 where
  pub code : sh.code ≡ code.PredefinedEscaper
  pub shown : IsNodeShown forest sh seen w
  pub misused : may_use w.place (use_at forest w.template (before sh.node)) ≡ false

-- a call of a template that the forest lacks
pub record IsMissing (forest : ForestData) (sh : Showing) (seen : Seen) (w : PathReplay) : Type 0 where
  pub name : List ℕ
  pub pipe : Option Pipe
  pub code : sh.code ≡ code.NoSuchTemplate
  pub call : kind_of_node forest w.template sh.node ≡ Some (kind.Template name pipe)
  pub shown : IsNodeShown forest sh seen w
  pub missing : number_named name forest ≡ None

-- The path ends its root in another place than text. The node is the last one at top level of the root.
pub record IsEndElsewhere (forest : ForestData) (sh : Showing) (seen : Seen) (w : PathReplay)
    : Type 0 where
  pub code : sh.code ≡ code.EndContext
  pub root : w.template ≡ w.root
  pub closed : w.open_calls.items ≡ []
  pub point : w.point ≡ finish_point
  pub at : seen.at ≡ w.place
  pub elsewhere : w.place ≢ place.Text
  pub line : sh.line ≡ template_end (tree_at forest w.root)
  pub last : sh.node ≡ last_node_of (tree_at forest w.root)
  pub byte : sh.byte ≡ 0

abbrev pub OneError : ForestData → Showing → Seen → PathReplay → LexState ValueState → Type 0
OneError forest sh seen w s =
    IsTextRefused forest sh seen w s
    ⊎ (IsHoleRefused forest sh seen w s
    ⊎ (IsMisused forest sh seen w
    ⊎ (IsMissing forest sh seen w
    ⊎ IsEndElsewhere forest sh seen w)))

pub record ShowsOne (forest : ForestData) (sh : Showing) : Type 0 where
  pub replay : PathReplay
  pub seen : Seen
  pub paths : sh.paths ≡ seen ∷ []
  pub by : IsShownBy forest sh seen replay
  pub error : OneError forest sh seen replay (shown_state by.is)

-- An error of two paths that meet: of one root, at one point, with the same calls open. A text is refused on
-- both together, at a byte before which each is at its place; or, where they came apart in the beginning of a URL
-- within the bytes before it, was at its place where they were apart last.
pub record TextClashes (forest : ForestData) (sh : Showing) (a b : Seen) (w v : PathReplay)
    (s r : LexState ValueState) : Type 0 where
  pub bytes : List ℕ
  pub point : w.point ≡ before sh.node
  pub text : kind_of_node forest w.template sh.node ≡ Some (kind.Text bytes)
  pub clash : Clashes bytes s r sh.code sh.byte ⊎ Clashes bytes r s sh.code sh.byte
  pub places : AreShownIn sh.byte bytes s r a.at b.at
  pub line : sh.line ≡ line_of_byte forest w.template sh.node bytes sh.byte

-- A hole is refused on both together, each of which is at its place: it is in a URL, and the paths are in different parts of it.
pub record HoleClashes (forest : ForestData) (sh : Showing) (a b : Seen) (w v : PathReplay)
    (s r : LexState ValueState) : Type 0 where
  pub pipe : Pipe
  pub point : w.point ≡ before sh.node
  pub hole : kind_of_node forest w.template sh.node ≡ Some (kind.Action pipe)
  pub clash : ClashesHole s r sh.code ⊎ ClashesHole r s sh.code
  pub at : a.at ≡ w.place
  pub other_at : b.at ≡ v.place
  pub line : sh.line ≡ line_of_node forest w.template sh.node
  pub byte : sh.byte ≡ 0

-- Two paths that met apart: where both stood at one point with the same calls open, or at a byte within the text after it, they were in the
-- beginning of a URL that spelled different things; both took the same moves from there, stayed in it, and a text is refused on both at a byte.
-- Each is shown at its place at the last such point.
pub record MetApart (forest : ForestData) (sh : Showing) (a b : Seen) (w v : PathReplay) (ms ns : List Move)
    : Type 0 where
  pub bytes : List ℕ
  pub point : w.point ≡ before sh.node
  pub text : kind_of_node forest w.template sh.node ≡ Some (kind.Text bytes)
  pub first : List Move
  pub other_first : List Move
  pub common : List Move
  pub moves : ms ≡ first ++ common
  pub other_moves : ns ≡ other_first ++ common
  pub meet : reached forest (at_root forest sh.root) other_first ≡ reached forest (at_root forest sh.root) first
  pub met : MeetApart common (path_state_after first) (path_state_after other_first)
  pub clash : ClashesApart bytes (path_state_after ms) (path_state_after ns) sh.code sh.byte
  pub places : IsLastAlong common sh.byte bytes (path_state_after first) (path_state_after other_first) a.at b.at
  pub line : sh.line ≡ line_of_byte forest w.template sh.node bytes sh.byte

-- the code of places that do not join: at the head of a range, and after the parts of a control
abbrev pub JoinsAt : Code → Point → ℕ → Type 0
JoinsAt c k n =
    ((c ≡ code.RangeLoopReentry) × (k ≡ head n))
    ⊎ ((c ≡ code.BranchEnd) × (k ≡ past_point n))

-- their places do not join
pub record DoNotJoin (forest : ForestData) (sh : Showing) (a b : Seen) (w v : PathReplay) : Type 0 where
  pub point : JoinsAt sh.code w.point sh.node
  pub at : a.at ≡ w.place
  pub other_at : b.at ≡ v.place
  pub conflict : joined w.place v.place ≡ None
  pub line : sh.line ≡ line_of_node forest w.template sh.node
  pub byte : sh.byte ≡ 0

-- they stand at one point, with the same calls open
pub record Meet (w v : PathReplay) : Type 0 where
  pub root : v.root ≡ w.root
  pub template : v.template ≡ w.template
  pub point : v.point ≡ w.point
  pub open_calls : v.open_calls.items ≡ w.open_calls.items

-- an error of two paths that meet, by the moves of the two
abbrev pub TwoErrors : ForestData → Showing → Seen → Seen → PathReplay → PathReplay → List Move → List Move
    → Type 0
TwoErrors forest sh a b w v ms ns =
    TextClashes forest sh a b w v (path_state_after ms) (path_state_after ns)
    ⊎ (HoleClashes forest sh a b w v (path_state_after ms) (path_state_after ns)
    ⊎ (MetApart forest sh a b w v ms ns
    ⊎ DoNotJoin forest sh a b w v))

-- The paths are in the order in which they come as they are printed.
pub record ShowsTwo (forest : ForestData) (sh : Showing) : Type 0 where
  pub replay : PathReplay
  pub other : PathReplay
  pub seen : Seen
  pub other_seen : Seen
  pub paths : sh.paths ≡ seen ∷ other_seen ∷ []
  pub order : ComesFirst seen.path other_seen.path
  pub by : IsShownBy forest sh seen replay
  pub other_by : IsShownBy forest sh other_seen other
  pub meet : Meet replay other
  pub error : TwoErrors forest sh seen other_seen replay other by.is.moves other_by.is.moves

-- A refusal shows an error that stands on its paths.
abbrev pub Shows : ForestData → Showing → Type 0
Shows forest sh = ShowsOne forest sh ⊎ ShowsTwo forest sh
