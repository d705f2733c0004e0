-- Where an edge leads to a further turn of a range, one leads on to the range's head.
use Rattle.std.proofs.Common.{◌≡◌, ℕ, ◌+◌, List, [], ◌∷◌, ◌++◌, refl, sym, subst, inl, inr}
use Rattle.tpl_paths.proofs.EdgeNodes.{within-either}
use Rattle.tpl_paths.specs.Edges.{Edge, Point, Within, again, before, calls, edges_in, edges_of, fills, finish_point, head, node_edges, nodes_in, part_begins, passes, past_point, picks, start_in, to_of, writes}
use Rattle.tpl_paths.specs.declared.choice.Way.TheVariants as chosen
use Rattle.tpl_tree.specs.Forests.{ForestData}
use Rattle.tpl_tree.specs.Trees.{NodesData, no_nodes, node, nodes_size}
use Rattle.tpl_tree.specs.declared.node_kind.NodeKind.{NodeKind}
use Rattle.tpl_tree.specs.declared.node_kind.NodeKind.TheVariants as kind

left : (xs ys : List Edge) (e : Edge) → Within e xs → Within e (xs ++ ys)
left [] ys e w = absurd w
left (x ∷ xs) ys e (inl i) = inl i
left (x ∷ xs) ys e (inr w) = inr (left xs ys e w)

right : (xs ys : List Edge) (e : Edge) → Within e ys → Within e (xs ++ ys)
right [] ys e w = w
right (x ∷ xs) ys e w = inr (right xs ys e w)

module _ (n : ℕ) (all : List Edge) where
  abbrev Turns : Point → Type 0
  Turns p = p ≡ again n → Within (passes (again n) (head n)) all

  abbrev Inside : List Edge → Type 0
  Inside es = (e : Edge) → Within e es → Within e all

  abbrev AllTurn : List Edge → Type 0
  AllTurn es = (e : Edge) → Within e es → Turns (to_of e)

  begins-turn : (nodes : NodesData) (k : ℕ) (to : Point) → Turns to → Turns (part_begins nodes k to)
  begins-turn no_nodes k to h = h
  begins-turn (node what l s first other rest) k to h = λ e. cc

  past-turns : (k : ℕ) → Turns (past_point k)
  past-turns k e = cc

  head-turns : (k : ℕ) → Turns (head k)
  head-turns k e = cc

  again-turns : (k : ℕ) → Within (passes (again k) (head k)) all → Turns (again k)
  again-turns k w e = (let same : k ≡ n = cc in subst (λ (m : ℕ). Within (passes (again m) (head m)) all) same w)

  this : (x e : Edge) → Turns (to_of x) → e ≡ x → Turns (to_of e)
  this x e h i = subst (λ (z : Edge). Turns (to_of z)) (sym i) h

  one : (x : Edge) → Turns (to_of x) → AllTurn (x ∷ [])
  one x h e (inl i) = this x e h i
  one x h e (inr w) = absurd w

  more : (x : Edge) (xs : List Edge) → Turns (to_of x) → AllTurn xs → AllTurn (x ∷ xs)
  more x xs h k e (inl i) = this x e h i
  more x xs h k e (inr w) = k e w

  -- the edges of nodes, wherever these lead on
  abbrev Part : NodesData → ℕ → Type 0
  Part nodes k = (to out on : Point) → Turns to → Turns out → Turns on → Inside (edges_of nodes k to out on) → AllTurn (edges_of nodes k to out on)

  module _ (k : ℕ) (first other : NodesData) (to out on : Point) (h : Turns to) (i : Turns out) (j : Turns on) (f : Part first (k + 1)) (g : Part other (k + 1 + nodes_size first)) where
    abbrev two : ℕ
    two = k + 1 + nodes_size first

    abbrev Own : NodeKind → List Edge
    Own what = node_edges what k (part_begins first (k + 1)) (part_begins other two) (edges_of first (k + 1)) (edges_of other two) to out on

    abbrev xs : List Edge
    xs = edges_of first (k + 1) (past_point k) out on

    abbrev ys : List Edge
    ys = edges_of other two (past_point k) out on

    abbrev zs : List Edge
    zs = edges_of first (k + 1) (again k) (past_point k) (again k)

    abbrev x : Edge
    x = picks (before k) chosen.Then (part_begins first (k + 1) (past_point k))

    abbrev y : Edge
    y = picks (before k) chosen.Else (part_begins other two (past_point k))

    abbrev z : Edge
    z = passes (past_point k) to

    control : Inside (x ∷ y ∷ z ∷ (xs ++ ys)) → AllTurn (x ∷ y ∷ z ∷ (xs ++ ys))
    control inside =
        more x (y ∷ z ∷ (xs ++ ys)) (begins-turn first (k + 1) (past_point k) (past-turns k))
        (more y (z ∷ (xs ++ ys)) (begins-turn other two (past_point k) (past-turns k))
        (more z (xs ++ ys) h
        (within-either (λ (e : Edge). Turns (to_of e)) xs ys
        (f (past_point k) out on (past-turns k) i j (λ e w. inside e (inr (inr (inr (left xs ys e w))))))
        (g (past_point k) out on (past-turns k) i j (λ e w. inside e (inr (inr (inr (right xs ys e w)))))))))

    abbrev a : Edge
    a = passes (before k) (head k)

    abbrev b : Edge
    b = passes (again k) (head k)

    abbrev c : Edge
    c = picks (head k) chosen.Turn (part_begins first (k + 1) (again k))

    abbrev d : Edge
    d = picks (before k) chosen.Done (part_begins other two (past_point k))

    abbrev u : Edge
    u = picks (again k) chosen.Done (past_point k)

    loop : Inside (a ∷ b ∷ c ∷ d ∷ u ∷ z ∷ (zs ++ ys)) → AllTurn (a ∷ b ∷ c ∷ d ∷ u ∷ z ∷ (zs ++ ys))
    loop inside =
        let turn : Turns (again k) = again-turns k (inside b (inr (inl refl))) in
        more a (b ∷ c ∷ d ∷ u ∷ z ∷ (zs ++ ys)) (head-turns k)
        (more b (c ∷ d ∷ u ∷ z ∷ (zs ++ ys)) (head-turns k)
        (more c (d ∷ u ∷ z ∷ (zs ++ ys)) (begins-turn first (k + 1) (again k) turn)
        (more d (u ∷ z ∷ (zs ++ ys)) (begins-turn other two (past_point k) (past-turns k))
        (more u (z ∷ (zs ++ ys)) (past-turns k)
        (more z (zs ++ ys) h
        (within-either (λ (e : Edge). Turns (to_of e)) zs ys
        (f (again k) (past_point k) (again k) turn (past-turns k) turn (λ e w. inside e (inr (inr (inr (inr (inr (inr (left zs ys e w)))))))))
        (g (past_point k) out on (past-turns k) i j (λ e w. inside e (inr (inr (inr (inr (inr (inr (right zs ys e w)))))))))))))))

    own : (what : NodeKind) → Inside (Own what) → AllTurn (Own what)
    own (kind.Text bytes) inside = one (writes k bytes to) h
    own (kind.Action pipe) inside = one (fills k pipe to) h
    own (kind.Declare name pipe) inside = one (passes (before k) to) h
    own (kind.Assign name pipe) inside = one (passes (before k) to) h
    own (kind.If name pipe) inside = control inside
    own (kind.With name pipe) inside = control inside
    own (kind.Range index element pipe) inside = loop inside
    own kind.Break inside = one (passes (before k) out) i
    own kind.Continue inside = one (passes (before k) on) j
    own (kind.Template name pipe) inside = one (calls k name to) h

  nodes-turn : (nodes : NodesData) (k : ℕ) → Part nodes k
  nodes-turn no_nodes k to out on h i j inside = λ e w. absurd w
  nodes-turn (node what l s first other rest) k to out on h i j inside =
      let second : ℕ = k + 1 + nodes_size first in
      let behind : ℕ = second + nodes_size other in
      let on_to : Point = part_begins rest behind to in
      let owned : List Edge = node_edges what k (part_begins first (k + 1)) (part_begins other second) (edges_of first (k + 1)) (edges_of other second) on_to out on in
      let later : List Edge = edges_of rest behind to out on in
      within-either (λ (e : Edge). Turns (to_of e)) owned later
      (own k first other on_to out on (begins-turn rest behind to h) i j (nodes-turn first (k + 1)) (nodes-turn other second) what (λ e w. inside e (left owned later e w)))
      (nodes-turn rest behind to out on h i j (λ e w. inside e (right owned later e w)))

pub turns-on : (forest : ForestData) (name : List ℕ) (e : Edge) (n : ℕ) → Within e (edges_in forest name) → to_of e ≡ again n → Within (passes (again n) (head n)) (edges_in forest name)
turns-on forest name e n w is = nodes-turn n (edges_in forest name) (nodes_in forest name) 0 finish_point finish_point finish_point (λ q. cc) (λ q. cc) (λ q. cc) (λ x v. v) e w is

start-turns : (nodes : NodesData) (n : ℕ) → part_begins nodes 0 finish_point ≡ again n → ⊥
start-turns no_nodes n e = cc
start-turns (node what l s first other rest) n e = cc

pub not-at-start : (forest : ForestData) (name : List ℕ) (n : ℕ) → start_in forest name ≡ again n → ⊥
not-at-start forest name n e = start-turns (nodes_in forest name) n e
