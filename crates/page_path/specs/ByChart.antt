-- The page of a set by its chart: what a writer that goes by the chart may be given, and what it writes.
use Rattle.std.specs.Prelude.{◌≡◌, ℕ, List, [], ◌∷◌, Option, Some, None, Ok, ⊤}
use Rattle.html_step.specs.Holes.{after_hole}
use Rattle.html_step.specs.Steps.{after_text}
use Rattle.page_path.specs.Pages.{PagePiece, bytes_in, hole_pieces, words}
use Rattle.place_flow.specs.Covering.{ChartByName, Pair}
use Rattle.place_core.specs.declared.chain.Chain.{Chain}
use Rattle.place_core.specs.declared.place.Place.{Place}
use Rattle.text_norm.specs.Scanned.{written_at}
use Rattle.tpl_events.specs.Events.{ExecEvent, enters, gives_hole, gives_text, leaves}
use Rattle.tpl_paths.specs.Edges.{before, node_kind_at, start_in}
use Rattle.tpl_tree.specs.Forests.{ForestData}
use Rattle.tpl_tree.specs.declared.node_kind.NodeKind.TheVariants as kind
use Rattle.tpl_tree.specs.declared.pipe.Pipe.{Pipe}

-- the node of a pair is a text, and the chart's place there accepts it
pub record MayText (forest : ForestData) (chart : ChartByName Place) (p : Pair Place) (n : ℕ) : Type 0 where
  pub bytes : List ℕ
  pub place : Place
  pub next : Place
  pub is : node_kind_at forest p.template n ≡ Some (kind.Text bytes)
  pub there : chart p.template p.entry (before n) ≡ Some place
  pub accepted : after_text bytes place ≡ Ok next

-- likewise, a hole
pub record MayHole (forest : ForestData) (chart : ChartByName Place) (p : Pair Place) (n : ℕ) : Type 0 where
  pub pipe : Pipe
  pub place : Place
  pub next : Place
  pub chain : Chain
  pub is : node_kind_at forest p.template n ≡ Some (kind.Action pipe)
  pub there : chart p.template p.entry (before n) ≡ Some place
  pub accepted : after_hole place ≡ Ok (next, chain)

-- a template begins in a place that is entered
pub record BeginsByChart (forest : ForestData) (chart : ChartByName Place) (name : List ℕ) (entry : Place) : Type 0 where
  pub place : Place
  pub there : chart name entry (start_in forest name) ≡ Some place

-- likewise, a call, and the template that it calls has a place where it begins
pub record PairMayEnter (forest : ForestData) (chart : ChartByName Place) (p : Pair Place) (n : ℕ) : Type 0 where
  pub name : List ℕ
  pub argument : Option Pipe
  pub place : Place
  pub is : node_kind_at forest p.template n ≡ Some (kind.Template name argument)
  pub there : chart p.template p.entry (before n) ≡ Some place
  pub begins : BeginsByChart forest chart name place

-- some pair is open
abbrev pub HasPair : List (Pair Place) → Type 0
HasPair [] = ⊥
HasPair (p ∷ ps) = ⊤

-- what may be given where these pairs are open, the innermost first
abbrev pub ChartMay : ForestData → ChartByName Place → ExecEvent → List (Pair Place) → Type 0
ChartMay forest chart e [] = ⊥
ChartMay forest chart (gives_text n) (p ∷ ps) = MayText forest chart p n
ChartMay forest chart (gives_hole n datum) (p ∷ ps) = MayHole forest chart p n
ChartMay forest chart (enters n) (p ∷ ps) = PairMayEnter forest chart p n
ChartMay forest chart leaves (p ∷ ps) = HasPair ps

-- a text is written for the place before it
abbrev pub text_pieces : Option Place → List ℕ → List PagePiece
text_pieces (Some p) bytes = words (written_at bytes p) ∷ []
text_pieces None bytes = []

-- what is written for an event where these pairs are open: by the chart's place at the node, in the innermost pair
abbrev pub pair_pieces : ForestData → ChartByName Place → ExecEvent → List (Pair Place) → List PagePiece
pair_pieces forest chart e [] = []
pair_pieces forest chart (gives_text n) (p ∷ ps) =
    text_pieces (chart p.template p.entry (before n)) (bytes_in (node_kind_at forest p.template n))
pair_pieces forest chart (gives_hole n datum) (p ∷ ps) = hole_pieces (chart p.template p.entry (before n)) datum
pair_pieces forest chart (enters n) (p ∷ ps) = []
pair_pieces forest chart leaves (p ∷ ps) = []
