-- Where a path stands before a node, an edge of that node leads on.
use Rattle.std.proofs.Common.{◌≡◌, ℕ, suc, ◌+◌, ◌-◌, ◌<◌, true, false, nat_lt, List, [], ◌∷◌, ◌++◌, Option, Some, None, refl, sym, ap, ◌∙◌, subst, inl, inr, arith}
use Rattle.std.proofs.lemmas.Bool.Decides.{nat_tests}
use Rattle.std.specs.Prelude.{⊤}
use Rattle.tpl_paths.proofs.EdgeNodes.{IsNode, within-either}
use Rattle.tpl_paths.specs.Edges.{Edge, BodyPart, Point, Within, again, before, part_begins, calls, edges_in, edges_of, fills, finish_point, from_of, head, node_edges, node_kind_at, nodes_in, passes, past_point, picks, start_in, to_of, writes}
use Rattle.tpl_paths.specs.Paths.{IsPath, Move, Open, Standing, along, along_edge, at_root, back, left_calls, reached, open_standing}
use Rattle.tpl_paths.specs.declared.choice.Way.TheVariants as chosen
use Rattle.tpl_paths.specs.declared.point.Point.TheVariants as point
use Rattle.tpl_tree.specs.Forests.{ForestData}
use Rattle.tpl_tree.specs.Trees.{NodesData, head_kind, no_nodes, node, nodes_from, nodes_size, rest_of, tree_part}
use Rattle.tpl_tree.specs.declared.node_kind.NodeKind.{NodeKind}
use Rattle.tpl_tree.specs.declared.node_kind.NodeKind.TheVariants as kind

-- an edge begins before a node, and has what a text, a hole and a call have
abbrev pub LeadsOn : NodeKind → ℕ → List Edge → Type 0
LeadsOn (kind.Text bytes) n es = (to : Point) × Within (writes n bytes to) es
LeadsOn (kind.Action pipe) n es = (to : Point) × Within (fills n pipe to) es
LeadsOn (kind.Declare name pipe) n es = (e : Edge) × Within e es × (from_of e ≡ before n)
LeadsOn (kind.Assign name pipe) n es = (e : Edge) × Within e es × (from_of e ≡ before n)
LeadsOn (kind.If name pipe) n es = (e : Edge) × Within e es × (from_of e ≡ before n)
LeadsOn (kind.With name pipe) n es = (e : Edge) × Within e es × (from_of e ≡ before n)
LeadsOn (kind.Range index element pipe) n es = (e : Edge) × Within e es × (from_of e ≡ before n)
LeadsOn kind.Break n es = (e : Edge) × Within e es × (from_of e ≡ before n)
LeadsOn kind.Continue n es = (e : Edge) × Within e es × (from_of e ≡ before n)
LeadsOn (kind.Template name pipe) n es = (to : Point) × Within (calls n name to) es

-- whatever the node is, an edge leads on
pub some-edge : (what : NodeKind) (n : ℕ) (es : List Edge) → LeadsOn what n es → (e : Edge) × Within e es × (from_of e ≡ before n)
some-edge (kind.Text bytes) n es l = (writes n bytes l.0, l.1, refl)
some-edge (kind.Action pipe) n es l = (fills n pipe l.0, l.1, refl)
some-edge (kind.Declare name pipe) n es l = l
some-edge (kind.Assign name pipe) n es l = l
some-edge (kind.If name pipe) n es l = l
some-edge (kind.With name pipe) n es l = l
some-edge (kind.Range index element pipe) n es l = l
some-edge kind.Break n es l = l
some-edge kind.Continue n es l = l
some-edge (kind.Template name pipe) n es l = (calls n name l.0, l.1, refl)

abbrev Inside : List Edge → List Edge → Type 0
Inside xs ys = (e : Edge) → Within e xs → Within e ys

within-left : (xs ys : List Edge) → Inside xs (xs ++ ys)
within-left [] ys e w = absurd w
within-left (x ∷ xs) ys e (inl i) = inl i
within-left (x ∷ xs) ys e (inr w) = inr (within-left xs ys e w)

within-right : (xs ys : List Edge) → Inside ys (xs ++ ys)
within-right [] ys e w = w
within-right (x ∷ xs) ys e w = inr (within-right xs ys e w)

-- among more edges
lead-more : (what : NodeKind) (n : ℕ) (xs ys : List Edge) → Inside xs ys → LeadsOn what n xs → LeadsOn what n ys
lead-more (kind.Text bytes) n xs ys f l = (l.0, f (writes n bytes l.0) l.1)
lead-more (kind.Action pipe) n xs ys f l = (l.0, f (fills n pipe l.0) l.1)
lead-more (kind.Declare name pipe) n xs ys f l = (l.0, f l.0 l.1, l.2)
lead-more (kind.Assign name pipe) n xs ys f l = (l.0, f l.0 l.1, l.2)
lead-more (kind.If name pipe) n xs ys f l = (l.0, f l.0 l.1, l.2)
lead-more (kind.With name pipe) n xs ys f l = (l.0, f l.0 l.1, l.2)
lead-more (kind.Range index element pipe) n xs ys f l = (l.0, f l.0 l.1, l.2)
lead-more kind.Break n xs ys f l = (l.0, f l.0 l.1, l.2)
lead-more kind.Continue n xs ys f l = (l.0, f l.0 l.1, l.2)
lead-more (kind.Template name pipe) n xs ys f l = (l.0, f (calls n name l.0) l.1)

own-leads : (what : NodeKind) (k : ℕ) (one two : Point → Point) (first other : BodyPart) (to out on : Point) → LeadsOn what k (node_edges what k one two first other to out on)
own-leads (kind.Text bytes) k one two first other to out on = (to, inl refl)
own-leads (kind.Action pipe) k one two first other to out on = (to, inl refl)
own-leads (kind.Declare name pipe) k one two first other to out on = (passes (before k) to, inl refl, refl)
own-leads (kind.Assign name pipe) k one two first other to out on = (passes (before k) to, inl refl, refl)
own-leads (kind.If name pipe) k one two first other to out on = (picks (before k) chosen.Then (one (past_point k)), inl refl, refl)
own-leads (kind.With name pipe) k one two first other to out on = (picks (before k) chosen.Then (one (past_point k)), inl refl, refl)
own-leads (kind.Range index element pipe) k one two first other to out on = (passes (before k) (head k), inl refl, refl)
own-leads kind.Break k one two first other to out on = (passes (before k) out, inl refl, refl)
own-leads kind.Continue k one two first other to out on = (passes (before k) on, inl refl, refl)
own-leads (kind.Template name pipe) k one two first other to out on = (to, inl refl)

-- the nodes of a node's parts, and those after it
in-first : (nodes : NodesData) (k n : ℕ) (what : NodeKind) → IsNode (tree_part 0 nodes) (k + 1) n what → IsNode nodes k n what
in-first no_nodes k n what h = (let below = h.inside in absurd (omega (arith, below)))
in-first (node w l s first other rest) k n what h =
    let i = h.place in let below = h.inside in
    let test : nat_lt i (nodes_size first) ≡ true = grind (arith, nat_tests, below) in
    record { place = suc i; is_at = omega (arith, h.is_at); inside = omega (arith, below); is = rw test h.is }

in-other : (nodes : NodesData) (k n : ℕ) (what : NodeKind) → IsNode (tree_part 1 nodes) (k + 1 + nodes_size (tree_part 0 nodes)) n what → IsNode nodes k n what
in-other no_nodes k n what h = (let below = h.inside in absurd (omega (arith, below)))
in-other (node w l s first other rest) k n what h =
    let i = h.place in let below = h.inside in
    let test : nat_lt (nodes_size first + i) (nodes_size first) ≡ false = grind (arith, nat_tests) in
    let here : nodes_size first + i - nodes_size first ≡ i = omega arith in
    let next : nat_lt i (nodes_size other) ≡ true = grind (arith, nat_tests, below) in
    record { place = suc (nodes_size first + i); is_at = omega (arith, h.is_at); inside = omega (arith, below); is = rw (test, here, next) h.is }

in-rest : (nodes : NodesData) (k n : ℕ) (what : NodeKind) → IsNode (rest_of nodes) (k + 1 + nodes_size (tree_part 0 nodes) + nodes_size (tree_part 1 nodes)) n what → IsNode nodes k n what
in-rest no_nodes k n what h = (let below = h.inside in absurd (omega (arith, below)))
in-rest (node w l s first other rest) k n what h =
    let i = h.place in let below = h.inside in
    let j : ℕ = nodes_size first + (nodes_size other + i) in
    let test : nat_lt (nodes_size first + (nodes_size other + i)) (nodes_size first) ≡ false = grind (arith, nat_tests) in
    let here : nodes_size first + (nodes_size other + i) - nodes_size first ≡ nodes_size other + i = omega arith in
    let next : nat_lt (nodes_size other + i) (nodes_size other) ≡ false = grind (arith, nat_tests) in
    let there : nodes_size other + i - nodes_size other ≡ i = omega arith in
    record { place = suc j; is_at = omega (arith, h.is_at); inside = omega (arith, below); is = rw (test, here, next, there) h.is }

none-some : (what : NodeKind) → None ≡ Some what → ⊥
none-some what e = cc

head-is : (nodes : NodesData) (k : ℕ) (what : NodeKind) → head_kind nodes ≡ Some what → IsNode nodes k k what
head-is no_nodes k what e = absurd (none-some what e)
head-is (node w l s first other rest) k what e = record { place = 0; is_at = omega arith; inside = omega arith; is = e }

-- What holds of the points of controls, of those to which nodes lead, and of those before nodes from which an edge leads on, holds of each point
-- to which an edge of the nodes leads.
module _ (P : Point → Type 0) (at_again : (n : ℕ) → P (again n)) (at_head : (n : ℕ) → P (head n)) (at_past : (n : ℕ) → P (past_point n)) where
  abbrev Given : NodesData → ℕ → List Edge → Type 0
  Given nodes k es = (n : ℕ) (what : NodeKind) → IsNode nodes k n what → LeadsOn what n es → P (before n)

  begins : (nodes : NodesData) (k : ℕ) (to out on : Point) → P to → Given nodes k (edges_of nodes k to out on) → P (part_begins nodes k to)
  begins no_nodes k to out on h g = h
  begins (node what l s first other rest) k to out on h g =
      let second : ℕ = k + 1 + nodes_size first in
      let behind : ℕ = second + nodes_size other in
      let own : List Edge = node_edges what k (part_begins first (k + 1)) (part_begins other second) (edges_of first (k + 1)) (edges_of other second) (part_begins rest behind to) out on in
      let more : List Edge = edges_of rest behind to out on in
      g k what (head-is (node what l s first other rest) k what refl)
      (lead-more what k own (own ++ more) (within-left own more)
      (own-leads what k (part_begins first (k + 1)) (part_begins other second) (edges_of first (k + 1)) (edges_of other second) (part_begins rest behind to) out on))

  -- of a part of a node, whose edges are among those of the node
  abbrev PartIs : NodesData → ℕ → Point → Point → Point → Type 0
  PartIs nodes k a b c = P (part_begins nodes k a) × ((e : Edge) → Within e (edges_of nodes k a b c) → P (to_of e))

  abbrev IfInside : NodesData → ℕ → List Edge → Type 0
  IfInside nodes k es = (a b c : Point) → P a → P b → P c → Inside (edges_of nodes k a b c) es → PartIs nodes k a b c

  here : (e x : Edge) → P (to_of x) → e ≡ x → P (to_of e)
  here e x h i = subst (λ (y : Edge). P (to_of y)) (sym i) h

  -- the parts of an `if` or a `with`
  module _ (first other : NodesData) (k second : ℕ) (to out on : Point) (h : P to) (i : P out) (j : P on) where
    both-parts : (e x y z : Edge) → to_of x ≡ part_begins first (k + 1) (past_point k) → to_of y ≡ part_begins other second (past_point k) → to_of z ≡ to
        → PartIs first (k + 1) (past_point k) out on → PartIs other second (past_point k) out on
        → Within e (x ∷ y ∷ z ∷ (edges_of first (k + 1) (past_point k) out on ++ edges_of other second (past_point k) out on)) → P (to_of e)
    both-parts e x y z ex ey ez p q (inl is) = here e x (subst P (sym ex) p.0) is
    both-parts e x y z ex ey ez p q (inr (inl is)) = here e y (subst P (sym ey) q.0) is
    both-parts e x y z ex ey ez p q (inr (inr (inl is))) = here e z (subst P (sym ez) h) is
    both-parts e x y z ex ey ez p q (inr (inr (inr w))) =
        within-either (λ (d : Edge). P (to_of d)) (edges_of first (k + 1) (past_point k) out on) (edges_of other second (past_point k) out on) p.1 q.1 e w

    -- those of a range
    range-targets : (e : Edge) → PartIs first (k + 1) (again k) (past_point k) (again k) → PartIs other second (past_point k) out on
        → Within e (passes (before k) (head k) ∷ passes (again k) (head k) ∷ picks (head k) chosen.Turn (part_begins first (k + 1) (again k)) ∷ picks (before k) chosen.Done (part_begins other second (past_point k))
        ∷ picks (again k) chosen.Done (past_point k) ∷ passes (past_point k) to ∷ (edges_of first (k + 1) (again k) (past_point k) (again k) ++ edges_of other second (past_point k) out on)) → P (to_of e)
    range-targets e p q (inl is) = here e (passes (before k) (head k)) (at_head k) is
    range-targets e p q (inr (inl is)) = here e (passes (again k) (head k)) (at_head k) is
    range-targets e p q (inr (inr (inl is))) = here e (picks (head k) chosen.Turn (part_begins first (k + 1) (again k))) p.0 is
    range-targets e p q (inr (inr (inr (inl is)))) = here e (picks (before k) chosen.Done (part_begins other second (past_point k))) q.0 is
    range-targets e p q (inr (inr (inr (inr (inl is))))) = here e (picks (again k) chosen.Done (past_point k)) (at_past k) is
    range-targets e p q (inr (inr (inr (inr (inr (inl is)))))) = here e (passes (past_point k) to) h is
    range-targets e p q (inr (inr (inr (inr (inr (inr w)))))) =
        within-either (λ (d : Edge). P (to_of d)) (edges_of first (k + 1) (again k) (past_point k) (again k)) (edges_of other second (past_point k) out on) p.1 q.1 e w

    abbrev Own : NodeKind → List Edge
    Own what = node_edges what k (part_begins first (k + 1)) (part_begins other second) (edges_of first (k + 1)) (edges_of other second) to out on

    own-targets : (what : NodeKind) → IfInside first (k + 1) (Own what) → IfInside other second (Own what) → (e : Edge) → Within e (Own what) → P (to_of e)
    own-targets (kind.Text bytes) f g e (inl is) = here e (writes k bytes to) h is
    own-targets (kind.Text bytes) f g e (inr w) = absurd w
    own-targets (kind.Action pipe) f g e (inl is) = here e (fills k pipe to) h is
    own-targets (kind.Action pipe) f g e (inr w) = absurd w
    own-targets (kind.Declare name pipe) f g e (inl is) = here e (passes (before k) to) h is
    own-targets (kind.Declare name pipe) f g e (inr w) = absurd w
    own-targets (kind.Assign name pipe) f g e (inl is) = here e (passes (before k) to) h is
    own-targets (kind.Assign name pipe) f g e (inr w) = absurd w
    own-targets (kind.If name pipe) f g e w =
        let xs = edges_of first (k + 1) (past_point k) out on in let ys = edges_of other second (past_point k) out on in
        both-parts e (picks (before k) chosen.Then (part_begins first (k + 1) (past_point k))) (picks (before k) chosen.Else (part_begins other second (past_point k))) (passes (past_point k) to) refl refl refl
        (f (past_point k) out on (at_past k) i j (λ d v. inr (inr (inr (within-left xs ys d v)))))
        (g (past_point k) out on (at_past k) i j (λ d v. inr (inr (inr (within-right xs ys d v))))) w
    own-targets (kind.With name pipe) f g e w =
        let xs = edges_of first (k + 1) (past_point k) out on in let ys = edges_of other second (past_point k) out on in
        both-parts e (picks (before k) chosen.Then (part_begins first (k + 1) (past_point k))) (picks (before k) chosen.Else (part_begins other second (past_point k))) (passes (past_point k) to) refl refl refl
        (f (past_point k) out on (at_past k) i j (λ d v. inr (inr (inr (within-left xs ys d v)))))
        (g (past_point k) out on (at_past k) i j (λ d v. inr (inr (inr (within-right xs ys d v))))) w
    own-targets (kind.Range index element pipe) f g e w =
        let xs = edges_of first (k + 1) (again k) (past_point k) (again k) in let ys = edges_of other second (past_point k) out on in
        range-targets e (f (again k) (past_point k) (again k) (at_again k) (at_past k) (at_again k) (λ d v. inr (inr (inr (inr (inr (inr (within-left xs ys d v))))))))
        (g (past_point k) out on (at_past k) i j (λ d v. inr (inr (inr (inr (inr (inr (within-right xs ys d v)))))))) w
    own-targets kind.Break f g e (inl is) = here e (passes (before k) out) i is
    own-targets kind.Break f g e (inr w) = absurd w
    own-targets kind.Continue f g e (inl is) = here e (passes (before k) on) j is
    own-targets kind.Continue f g e (inr w) = absurd w
    own-targets (kind.Template name pipe) f g e (inl is) = here e (calls k name to) h is
    own-targets (kind.Template name pipe) f g e (inr w) = absurd w

  targets : (nodes : NodesData) (k : ℕ) (to out on : Point) → P to → P out → P on → Given nodes k (edges_of nodes k to out on) → (e : Edge) → Within e (edges_of nodes k to out on) → P (to_of e)
  targets no_nodes k to out on h i j g e w = absurd w
  targets (node what l s first other rest) k to out on h i j g e w =
      let second : ℕ = k + 1 + nodes_size first in
      let behind : ℕ = second + nodes_size other in
      let own : List Edge = node_edges what k (part_begins first (k + 1)) (part_begins other second) (edges_of first (k + 1)) (edges_of other second) (part_begins rest behind to) out on in
      let more : List Edge = edges_of rest behind to out on in
      let rest_given : Given rest behind more = λ n x m q. g n x (in-rest (node what l s first other rest) k n x m) (lead-more x n more (own ++ more) (within-right own more) q) in
      let first_given : (a b c : Point) → Inside (edges_of first (k + 1) a b c) own → Given first (k + 1) (edges_of first (k + 1) a b c) =
      λ a b c inside n x m q. g n x (in-first (node what l s first other rest) k n x m) (lead-more x n (edges_of first (k + 1) a b c) (own ++ more) (λ d v. within-left own more d (inside d v)) q) in
      let other_given : (a b c : Point) → Inside (edges_of other second a b c) own → Given other second (edges_of other second a b c) =
      λ a b c inside n x m q. g n x (in-other (node what l s first other rest) k n x m) (lead-more x n (edges_of other second a b c) (own ++ more) (λ d v. within-left own more d (inside d v)) q) in
      within-either (λ (d : Edge). P (to_of d)) own more
      (own-targets first other k second (part_begins rest behind to) out on (begins rest behind to out on h rest_given) i j what
      (λ a b c pa pb pc inside. (begins first (k + 1) a b c pa (first_given a b c inside), targets first (k + 1) a b c pa pb pc (first_given a b c inside)))
      (λ a b c pa pb pc inside. (begins other second a b c pa (other_given a b c inside), targets other second a b c pa pb pc (other_given a b c inside))))
      (targets rest behind to out on h i j rest_given) e w

-- a point of a template from which, where it is before a node, an edge of that node leads on
pub record IsLiveNode (forest : ForestData) (name : List ℕ) (n : ℕ) : Type 0 where
  pub what : NodeKind
  pub is : node_kind_at forest name n ≡ Some what
  pub leads : LeadsOn what n (edges_in forest name)

abbrev pub IsLive : ForestData → List ℕ → Point → Type 0
IsLive forest name (point.Before n) = IsLiveNode forest name n
IsLive forest name (point.Again n) = ⊤
IsLive forest name (point.Head n) = ⊤
IsLive forest name (point.Past n) = ⊤
IsLive forest name point.Finish = ⊤

live-node : (forest : ForestData) (name : List ℕ) (n : ℕ) (what : NodeKind) → IsNode (nodes_in forest name) 0 n what → LeadsOn what n (edges_in forest name) → IsLiveNode forest name n
live-node forest name n what h l =
    let same : n ≡ h.place = omega (arith, h.is_at) in
    record { what = what; is = ap (λ (i : ℕ). head_kind (nodes_from (nodes_in forest name) i)) same ∙ h.is; leads = l }

live-start : (forest : ForestData) (name : List ℕ) → IsLive forest name (start_in forest name)
live-start forest name = begins (IsLive forest name) (λ n. tt) (λ n. tt) (λ n. tt) (nodes_in forest name) 0 finish_point finish_point finish_point tt (λ n what h l. live-node forest name n what h l)

live-to : (forest : ForestData) (name : List ℕ) (e : Edge) → Within e (edges_in forest name) → IsLive forest name (to_of e)
live-to forest name e w =
    targets (IsLive forest name) (λ n. tt) (λ n. tt) (λ n. tt) (nodes_in forest name) 0 finish_point finish_point finish_point tt tt tt (λ n what h l. live-node forest name n what h l) e w

abbrev AreLiveCalls : ForestData → List Open → Type 0
AreLiveCalls forest [] = ⊤
AreLiveCalls forest (o ∷ os) = IsLive forest o.template o.back × AreLiveCalls forest os

abbrev IsLiveStanding : ForestData → Standing → Type 0
IsLiveStanding forest a = IsLive forest a.template a.at × AreLiveCalls forest a.open_calls

live-edge : (forest : ForestData) (a : Standing) (e : Edge) → IsLiveStanding forest a → Within e (edges_in forest a.template) → IsLiveStanding forest (along_edge forest a e)
live-edge forest a (writes n bytes to) h w = (live-to forest a.template (writes n bytes to) w, h.1)
live-edge forest a (fills n pipe to) h w = (live-to forest a.template (fills n pipe to) w, h.1)
live-edge forest a (calls n name to) h w = (live-start forest name, (live-to forest a.template (calls n name to) w, h.1))
live-edge forest a (picks from choice to) h w = (live-to forest a.template (picks from choice to) w, h.1)
live-edge forest a (passes from to) h w = (live-to forest a.template (passes from to) w, h.1)

live-back : (forest : ForestData) (os : List Open) (a : Standing) → IsLiveStanding forest a → AreLiveCalls forest os → IsLiveStanding forest (left_calls os a)
live-back forest [] a h l = h
live-back forest (o ∷ os) a h l = l

live-moves : (forest : ForestData) (a : Standing) (ms : List Move) → IsLiveStanding forest a → IsPath forest a ms → IsLiveStanding forest (reached forest a ms)
live-moves forest a [] h p = h
live-moves forest a (along e ∷ ms) h p = live-moves forest (along_edge forest a e) ms (live-edge forest a e h p.0.0) p.1
live-moves forest a (back ∷ ms) h p = live-moves forest (left_calls a.open_calls a) ms (live-back forest a.open_calls a h h.1) p.1

-- so each path of a root stands at such a point
pub live-path : (forest : ForestData) (root : List ℕ) (ms : List Move) → IsPath forest (at_root forest root) ms
    → IsLive forest (reached forest (at_root forest root) ms).template (reached forest (at_root forest root) ms).at
live-path forest root ms p = (live-moves forest (at_root forest root) ms (live-start forest root, tt) p).0
