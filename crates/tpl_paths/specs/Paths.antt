-- The paths of a forest, whatever the data: from a template's start along its edges, into calls and out of them.
use Rattle.std.specs.Prelude.{◌≡◌, ℕ, List, [], ◌∷◌, ⊤}
use Rattle.tpl_paths.specs.declared.choice.Way.{Way}
use Rattle.tpl_tree.specs.Forests.{ForestData}
use Rattle.tpl_paths.specs.Edges.{Edge, Point, Within, calls, edges_in, fills, finish_point, from_of, passes, picks, start_in, writes}

-- an open call: the template and the node that call, and where they go on
pub record Open : Type 0 where
  pub template : List ℕ
  pub node : ℕ
  pub back : Point

-- where a path stands, with the calls open there, the innermost first
pub record Standing : Type 0 where
  pub open_calls : List Open
  pub template : List ℕ
  pub at : Point

abbrev pub open_standing : List Open → List ℕ → Point → Standing
open_standing os template at = record { open_calls = os; template = template; at = at }

-- an event without its value
pub data Sign : Type 0 where
  text_of : ℕ → Sign
  hole_of : ℕ → Sign
  enters_at : ℕ → Sign
  leaves_call : Sign

-- A move is along an edge, which for a call enters the template, or leaves the innermost call.
pub data Move : Type 0 where
  along : Edge → Move
  back : Move

-- where a move leads
abbrev pub along_edge : ForestData → Standing → Edge → Standing
along_edge forest a (writes n bytes to) = open_standing a.open_calls a.template to
along_edge forest a (fills n pipe to) = open_standing a.open_calls a.template to
along_edge forest a (calls n name to) = open_standing (record { template = a.template; node = n; back = to } ∷ a.open_calls) name (start_in forest name)
along_edge forest a (picks from choice to) = open_standing a.open_calls a.template to
along_edge forest a (passes from to) = open_standing a.open_calls a.template to

abbrev pub left_calls : List Open → Standing → Standing
left_calls [] a = a
left_calls (o ∷ os) a = open_standing os o.template o.back

abbrev pub after_moves : ForestData → Standing → Move → Standing
after_moves forest a (along e) = along_edge forest a e
after_moves forest a back = left_calls a.open_calls a

-- whether a move can be made
abbrev pub HasCall : List Open → Type 0
HasCall [] = ⊥
HasCall (o ∷ os) = ⊤

abbrev pub IsMove : ForestData → Standing → Move → Type 0
IsMove forest a (along e) = Within e (edges_in forest a.template) × (a.at ≡ from_of e)
IsMove forest a back = HasCall a.open_calls × (a.at ≡ finish_point)

-- some moves after one another, and where they lead
abbrev pub IsPath : ForestData → Standing → List Move → Type 0
IsPath forest a [] = ⊤
IsPath forest a (m ∷ ms) = IsMove forest a m × IsPath forest (after_moves forest a m) ms

abbrev pub reached : ForestData → Standing → List Move → Standing
reached forest a [] = a
reached forest a (m ∷ ms) = reached forest (after_moves forest a m) ms

-- the events of moves without their values
abbrev pub edge_signs : Edge → List Sign → List Sign
edge_signs (writes n bytes to) rest = text_of n ∷ rest
edge_signs (fills n pipe to) rest = hole_of n ∷ rest
edge_signs (calls n name to) rest = enters_at n ∷ rest
edge_signs (picks from choice to) rest = rest
edge_signs (passes from to) rest = rest

abbrev pub signs_of : List Move → List Sign
signs_of [] = []
signs_of (along e ∷ ms) = edge_signs e (signs_of ms)
signs_of (back ∷ ms) = leaves_call ∷ signs_of ms

-- their choices
abbrev pub edge_choices : Edge → List Way → List Way
edge_choices (writes n bytes to) rest = rest
edge_choices (fills n pipe to) rest = rest
edge_choices (calls n name to) rest = rest
edge_choices (picks from choice to) rest = choice ∷ rest
edge_choices (passes from to) rest = rest

abbrev pub choices_of : List Move → List Way
choices_of [] = []
choices_of (along e ∷ ms) = edge_choices e (choices_of ms)
choices_of (back ∷ ms) = choices_of ms

-- where a path begins
abbrev pub at_root : ForestData → List ℕ → Standing
at_root forest root = open_standing [] root (start_in forest root)
