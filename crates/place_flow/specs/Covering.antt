-- Charts of places, and that they cover the paths of a forest.
use Rattle.std.specs.Prelude.{◌≡◌, ℕ, List, [], ◌∷◌, Option, Some, None}
use Rattle.tpl_tree.specs.Forests.{ForestData}
use Rattle.tpl_tree.specs.declared.node_kind.NodeKind.{NodeKind}
use Rattle.tpl_tree.specs.declared.node_kind.NodeKind.TheVariants as kind
use Rattle.tpl_tree.specs.declared.pipe.Pipe.{Pipe}
use Rattle.tpl_paths.specs.Edges.{Edge, Point, Within, before, calls, edges_in, fills, finish_point, from_of, node_kind_at, passes, picks, start_in, writes}
use Rattle.tpl_paths.specs.Paths.{IsPath, Move, Open, Sign, Standing, along, at_root, back, enters_at, hole_of, leaves_call, reached, signs_of, text_of}

-- A language of states S, and of places P, each of which stands for some states: where texts and holes lead, what is refused in a
-- place, and which places are above another.
pub record Language (S P : Type 0) : Type 1 where
  pub text : List ℕ → S → S
  pub hole : Pipe → S → S
  pub text_place : List ℕ → P → Option P
  pub hole_place : Pipe → P → Option P
  pub IsIn : P → S → Type 0
  pub Below : P → P → Type 0

-- what is owed of a language
pub record Covers {S P : Type 0} (l : Language S P) : Type 0 where
  pub texts : (bytes : List ℕ) (p q : P) (s : S) → l.text_place bytes p ≡ Some q → l.IsIn p s → l.IsIn q (l.text bytes s)
  pub holes : (pipe : Pipe) (p q : P) (s : S) → l.hole_place pipe p ≡ Some q → l.IsIn p s → l.IsIn q (l.hole pipe s)
  pub above : (p q : P) (s : S) → l.Below p q → l.IsIn p s → l.IsIn q s

-- the places at the points of a template that is entered in a place, where a path comes there
abbrev pub ChartByName : Type 0 → Type 0
ChartByName P = List ℕ → P → Point → Option P

-- a place is there, above another one
abbrev pub Holds : {S P : Type 0} → Language S P → Option P → P → Type 0
Holds l None p = ⊥
Holds l (Some q) p = l.Below p q

-- what is taken from a place leads on
abbrev pub LeadsOn : {S P : Type 0} → Language S P → Option P → Option P → Type 0
LeadsOn l None there = ⊥
LeadsOn l (Some q) there = Holds l there q

-- An edge leads from the place at its start to one below that at its end. A call enters its template in the place, and after it is the
-- place at that template's end, if any path comes there.
abbrev pub EdgeHolds : {S P : Type 0} → Language S P → ForestData → ChartByName P → List ℕ → P → Edge → P → Type 0
EdgeHolds l forest chart t p (writes n bytes to) a = LeadsOn l (l.text_place bytes a) (chart t p to)
EdgeHolds l forest chart t p (fills n pipe to) a = LeadsOn l (l.hole_place pipe a) (chart t p to)
EdgeHolds {P = P} l forest chart t p (calls n name to) a = Holds l (chart name a (start_in forest name)) a × ((b : P) → chart name a finish_point ≡ Some b → Holds l (chart t p to) b)
EdgeHolds l forest chart t p (picks from choice to) a = Holds l (chart t p to) a
EdgeHolds l forest chart t p (passes from to) a = Holds l (chart t p to) a

-- a chart is closed under all edges
abbrev pub IsClosedByName : {S P : Type 0} → Language S P → ForestData → ChartByName P → Type 0
IsClosedByName {P = P} l forest chart = (t : List ℕ) (p : P) (e : Edge) (a : P) → Within e (edges_in forest t) → chart t p (from_of e) ≡ Some a → EdgeHolds l forest chart t p e a

-- a chart of a root, which is entered in a place
pub record IsChartOf {S P : Type 0} (l : Language S P) (forest : ForestData) (chart : ChartByName P) (root : List ℕ) (first : P) : Type 0 where
  pub closed : IsClosedByName l forest chart
  pub starts : Holds l (chart root first (start_in forest root)) first

-- where a path's moves lead a state
abbrev pub edge_read : {S P : Type 0} → Language S P → Edge → S → S
edge_read l (writes n bytes to) s = l.text bytes s
edge_read l (fills n pipe to) s = l.hole pipe s
edge_read l (calls n name to) s = s
edge_read l (picks from choice to) s = s
edge_read l (passes from to) s = s

abbrev pub read_moves : {S P : Type 0} → Language S P → List Move → S → S
read_moves l [] s = s
read_moves l (along e ∷ ms) s = read_moves l ms (edge_read l e s)
read_moves l (back ∷ ms) s = read_moves l ms s

-- a pair: a template, and the place in which it is entered
pub record Pair (P : Type 0) : Type 0 where
  pub template : List ℕ
  pub entry : P

abbrev pub pair : {P : Type 0} → List ℕ → P → Pair P
pair template entry = record { template = template; entry = entry }

-- the pairs that are open, the innermost first, once a call is entered
abbrev pub called_pair : {P : Type 0} → Option NodeKind → Option P → List (Pair P) → List (Pair P)
called_pair (Some (kind.Template name pipe)) (Some a) ps = pair name a ∷ ps
called_pair _ _ ps = ps

-- the pairs that are open after an event
abbrev pub sign_pairs : {P : Type 0} → ForestData → ChartByName P → Sign → List (Pair P) → List (Pair P)
sign_pairs forest chart (text_of n) ps = ps
sign_pairs forest chart (hole_of n) ps = ps
sign_pairs forest chart (enters_at n) [] = []
sign_pairs forest chart (enters_at n) (p ∷ ps) = called_pair (node_kind_at forest p.template n) (chart p.template p.entry (before n)) (p ∷ ps)
sign_pairs forest chart leaves_call [] = []
sign_pairs forest chart leaves_call (p ∷ ps) = ps

abbrev pub pairs_along : {P : Type 0} → ForestData → ChartByName P → List Sign → List (Pair P) → List (Pair P)
pairs_along forest chart [] ps = ps
pairs_along forest chart (s ∷ ss) ps = pairs_along forest chart ss (sign_pairs forest chart s ps)

-- open calls, and the pairs below that of a template entered in a place
abbrev pub IsStack : {P : Type 0} → ForestData → ChartByName P → P → List Open → List ℕ → P → List (Pair P) → Type 0
IsStack forest chart first [] t p [] = p ≡ first
IsStack forest chart first [] t p (q ∷ qs) = ⊥
IsStack forest chart first (o ∷ os) t p [] = ⊥
IsStack forest chart first (o ∷ os) t p (q ∷ qs) = (q.template ≡ o.template) × Within (calls o.node t o.back) (edges_in forest o.template) × (chart o.template q.entry (before o.node) ≡ Some p) × IsStack forest chart first os o.template q.entry qs

-- where a path stands, the chart's place in the innermost pair stands for the state
pub record IsCovered {S P : Type 0} (l : Language S P) (forest : ForestData) (chart : ChartByName P) (first : P) (a : Standing) (ps : List (Pair P)) (s : S) : Type 0 where
  pub entry : P
  pub below : List (Pair P)
  pub stack : ps ≡ pair a.template entry ∷ below
  pub opened : IsStack forest chart first a.open_calls a.template entry below
  pub place : P
  pub there : chart a.template entry a.at ≡ Some place
  pub is_in : l.IsIn place s

-- A closed chart covers every path of a root, at each of its points: the chart's place there, in the pair to which its events lead, stands
-- for the state to which the path's texts and holes lead.
abbrev pub ChartCovers : {S P : Type 0} → Language S P → Type 0
ChartCovers {S} {P} l = (forest : ForestData) (chart : ChartByName P) (root : List ℕ) (first : P) (s : S) → IsChartOf l forest chart root first → l.IsIn first s → (ms : List Move) → IsPath forest (at_root forest root) ms
    → IsCovered l forest chart first (reached forest (at_root forest root) ms) (pairs_along forest chart (signs_of ms) (pair root first ∷ [])) (read_moves l ms s)

abbrev pub EveryChartCovers : Type 1
EveryChartCovers = (S P : Type 0) (l : Language S P) → Covers l → ChartCovers l
