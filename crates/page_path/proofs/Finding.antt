-- What the events of an execution find on its path: the node that each has, and a place of the chart that stands for what the path has
-- read, and takes the node.
use Rattle.std.proofs.Common.{◌≡◌, ℕ, List, [], ◌∷◌, Option, Some, Ok}
use Rattle.html_step.specs.Holes.{after_hole}
use Rattle.html_step.specs.Steps.{after_text}
use Rattle.page_path.specs.ByChart.{BeginsByChart, HasPair}
use Rattle.page_path.specs.Pages.{bytes_in, kind_in, open_behind, state_behind}
use Rattle.place_flow.specs.Covering.{ChartByName, Pair, sign_pairs}
use Rattle.place_core.specs.place.Membership.{IsIn}
use Rattle.place_core.specs.page.Paths.{Hole, Symbol, Written}
use Rattle.place_core.specs.place.Places.{IsValid}
use Rattle.place_core.specs.page.States.{LexState}
use Rattle.place_core.specs.page.Tags.{ValueState}
use Rattle.place_core.specs.declared.chain.Chain.{Chain}
use Rattle.place_core.specs.declared.place.Place.{Place}
use Rattle.tpl_events.specs.Events.{Emission, ExecEvent, enters, gives_hole, gives_text, leaves}
use Rattle.tpl_paths.specs.Edges.{before, node_kind_at}
use Rattle.page_path.specs.Taken.{move_sign}
use Rattle.tpl_tree.specs.Forests.{ForestData}
use Rattle.tpl_tree.specs.declared.node_kind.NodeKind.{NodeKind}
use Rattle.tpl_tree.specs.declared.node_kind.NodeKind.TheVariants as kind
use Rattle.tpl_tree.specs.declared.pipe.Pipe.{Pipe}

-- Such a node is the one with its number in the innermost pair, and in the innermost template; and the chart's place before it stands for
-- what the path has read.
pub record IsHere (forest : ForestData) (chart : ChartByName Place) (n : ℕ) (what : NodeKind) (p : Pair Place) (ts : List (List ℕ))
    (s : LexState ValueState) : Type 0 where
  pub is : node_kind_at forest p.template n ≡ Some what
  pub innermost : kind_in forest ts n ≡ Some what
  pub place : Place
  pub there : chart p.template p.entry (before n) ≡ Some place
  pub valid : IsValid place
  pub is_in : IsIn place s

-- a text and a hole are accepted there, and what a call enters begins in a place
pub record FindsText (forest : ForestData) (chart : ChartByName Place) (n : ℕ) (p : Pair Place) (ts : List (List ℕ)) (s : LexState ValueState)
    : Type 0 where
  pub bytes : List ℕ
  pub here : IsHere forest chart n (kind.Text bytes) p ts s
  pub next : Place
  pub accepted : after_text bytes here.place ≡ Ok next

pub record FindsHole (forest : ForestData) (chart : ChartByName Place) (n : ℕ) (p : Pair Place) (ts : List (List ℕ)) (s : LexState ValueState)
    : Type 0 where
  pub pipe : Pipe
  pub here : IsHere forest chart n (kind.Action pipe) p ts s
  pub next : Place
  pub chain : Chain
  pub accepted : after_hole here.place ≡ Ok (next, chain)

pub record FindsCall (forest : ForestData) (chart : ChartByName Place) (n : ℕ) (p : Pair Place) (ts : List (List ℕ)) (s : LexState ValueState)
    : Type 0 where
  pub name : List ℕ
  pub argument : Option Pipe
  pub here : IsHere forest chart n (kind.Template name argument) p ts s
  pub begins : BeginsByChart forest chart name here.place

abbrev pub Finds : ForestData → ChartByName Place → ExecEvent → List (Pair Place) → List (List ℕ) → LexState ValueState → Type 0
Finds forest chart e [] ts s = ⊥
Finds forest chart (gives_text n) (p ∷ ps) ts s = FindsText forest chart n p ts s
Finds forest chart (gives_hole n datum) (p ∷ ps) ts s = FindsHole forest chart n p ts s
Finds forest chart (enters n) (p ∷ ps) ts s = FindsCall forest chart n p ts s
Finds forest chart leaves (p ∷ ps) ts s = HasPair ps

-- events that each find what they need, one after another
abbrev pub AllFind : ForestData → ChartByName Place → List Emission → List (Pair Place) → List (List ℕ) → LexState ValueState → Type 0
AllFind forest chart [] ps ts s = Unit {0}
AllFind forest chart (g ∷ gs) ps ts s =
    Finds forest chart g.event ps ts s
    × AllFind forest chart gs (sign_pairs forest chart (move_sign g.event) ps) (open_behind forest g.event ts)
    (state_behind forest g.event ts s)

-- what their path has for a reader
abbrev pub event_symbols : ForestData → ExecEvent → List (List ℕ) → List Symbol → List Symbol
event_symbols forest (gives_text n) ts rest = Written (bytes_in (kind_in forest ts n)) ∷ rest
event_symbols forest (gives_hole n datum) ts rest = Hole ∷ rest
event_symbols forest (enters n) ts rest = rest
event_symbols forest leaves ts rest = rest

abbrev pub symbols_from : ForestData → List Emission → List (List ℕ) → List Symbol
symbols_from forest [] ts = []
symbols_from forest (g ∷ gs) ts = event_symbols forest g.event ts (symbols_from forest gs (open_behind forest g.event ts))

-- events that find what they need, on a path with these symbols; and the same with one event before them
pub record IsFound (forest : ForestData) (chart : ChartByName Place) (symbols : List Symbol) (gs : List Emission) (ps : List (Pair Place))
    (ts : List (List ℕ)) (s : LexState ValueState) : Type 0 where
  pub find : AllFind forest chart gs ps ts s
  pub same : symbols ≡ symbols_from forest gs ts

pub record IsFoundAt (forest : ForestData) (chart : ChartByName Place) (symbols : List Symbol) (e : ExecEvent) (gs : List Emission)
    (ps : List (Pair Place)) (ts : List (List ℕ)) (s : LexState ValueState) : Type 0 where
  pub finds : Finds forest chart e ps ts s
  pub find : AllFind forest chart gs (sign_pairs forest chart (move_sign e) ps) (open_behind forest e ts) (state_behind forest e ts s)
  pub same : symbols ≡ event_symbols forest e ts (symbols_from forest gs (open_behind forest e ts))
