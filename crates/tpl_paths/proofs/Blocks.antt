-- At each point one edge leads on, or one for each choice.
use Rattle.std.proofs.Common.{◌≡◌, ℕ, ◌+◌, ◌<◌, ◌≤◌, List, [], ◌∷◌, ◌++◌, Option, Some, None, refl, sym, ap, ◌∙◌, subst, inl, inr, arith}
use Rattle.tpl_paths.specs.declared.choice.Way.{Way}
use Rattle.tpl_paths.specs.declared.choice.Way.TheVariants as chosen
use Rattle.tpl_tree.specs.Forests.{ForestData}
use Rattle.tpl_tree.specs.Trees.{NodesData, no_nodes, node, nodes_size}
use Rattle.tpl_tree.specs.declared.node_kind.NodeKind.{NodeKind}
use Rattle.tpl_tree.specs.declared.node_kind.NodeKind.TheVariants as kind
use Rattle.tpl_paths.specs.Edges.{Edge, BodyPart, Point, Within, again, before, part_begins, calls, edges_in, edges_of, fills, finish_point, from_of, head, node_edges, nodes_in, passes, past_point, picks, writes}
use Rattle.tpl_paths.specs.declared.point.Point.TheVariants as point
use Rattle.tpl_paths.proofs.EdgeNodes.{within-either}

-- the choice of an edge, where the way to the head of a range is one more turn, and two that may be the same
abbrev pub head_choice : Point → Option Way
head_choice (point.Head n) = Some chosen.Turn
head_choice p = None

abbrev pub choice_of : Edge → Option Way
choice_of (writes n bytes to) = None
choice_of (fills n pipe to) = None
choice_of (calls n name to) = None
choice_of (picks from choice to) = Some choice
choice_of (passes from to) = head_choice to

abbrev pub Agree : Option Way → Option Way → Type 0
Agree (Some c) (Some d) = c ≡ d
Agree (Some c) None = Unit {0}
Agree None d = Unit {0}

swap : (c d : Option Way) → Agree c d → Agree d c
swap (Some c) (Some d) h = sym h
swap (Some c) None h = tt
swap None (Some d) h = tt
swap None None h = tt

abbrev Clash : Edge → Edge → Type 0
Clash x f = from_of x ≡ from_of f → Agree (choice_of x) (choice_of f) → ⊥

abbrev pub Unique : List Edge → Type 0
Unique es = (e f : Edge) → Within e es → Within f es → from_of e ≡ from_of f → Agree (choice_of e) (choice_of f) → e ≡ f

apart_nil : (x f : Edge) → Within f [] → Clash x f
apart_nil x f w = absurd w

apart_cons : (x y : Edge) (ys : List Edge) → Clash x y → ((f : Edge) → Within f ys → Clash x f) → (f : Edge) → Within f (y ∷ ys) → Clash x f
apart_cons x y ys h k f (inl i) = subst (λ (z : Edge). Clash x z) (sym i) h
apart_cons x y ys h k f (inr w) = k f w

unique_nil : Unique []
unique_nil e f v w q c = absurd v

unique_cons : (x : Edge) (xs : List Edge) → ((f : Edge) → Within f xs → Clash x f) → Unique xs → Unique (x ∷ xs)
unique_cons x xs h u e f (inl i) (inl j) q c = i ∙ sym j
unique_cons x xs h u e f (inl i) (inr w) q c = absurd (h f w (ap from_of (sym i) ∙ q) (subst (λ (z : Edge). Agree (choice_of z) (choice_of f)) i c))
unique_cons x xs h u e f (inr v) (inl j) q c = absurd (h e v (ap from_of (sym j) ∙ sym q) (subst (λ (z : Edge). Agree (choice_of z) (choice_of e)) j (swap (choice_of e) (choice_of f) c)))
unique_cons x xs h u e f (inr v) (inr w) q c = u e f v w q c

-- points of nodes whose numbers are in a range
abbrev pub InRange : ℕ → ℕ → Point → Type 0
InRange a b (point.Before n) = (a ≤ n) × (n < b)
InRange a b (point.Again n) = (a ≤ n) × (n < b)
InRange a b (point.Past n) = (a ≤ n) × (n < b)
InRange a b (point.Head n) = (a ≤ n) × (n < b)
InRange a b point.Finish = ⊥

apart_ranges : (a b c d : ℕ) (p : Point) → b ≤ c → InRange a b p → InRange c d p → ⊥
apart_ranges a b c d (point.Before n) le h k = absurd (omega (arith, h.1, k.0))
apart_ranges a b c d (point.Again n) le h k = absurd (omega (arith, h.1, k.0))
apart_ranges a b c d (point.Past n) le h k = absurd (omega (arith, h.1, k.0))
apart_ranges a b c d (point.Head n) le h k = absurd (omega (arith, h.1, k.0))
apart_ranges a b c d point.Finish le h k = h

wider : (a b c d : ℕ) (p : Point) → c ≤ a → b ≤ d → InRange a b p → InRange c d p
wider a b c d (point.Before n) l r h = (omega (arith, h.0), omega (arith, h.1))
wider a b c d (point.Again n) l r h = (omega (arith, h.0), omega (arith, h.1))
wider a b c d (point.Past n) l r h = (omega (arith, h.0), omega (arith, h.1))
wider a b c d (point.Head n) l r h = (omega (arith, h.0), omega (arith, h.1))
wider a b c d point.Finish l r h = h

-- edges that begin in a range, of which one leads on from each point, or one for each choice
pub record Block (a b : ℕ) (es : List Edge) : Type 0 where
  pub ranged : (e : Edge) → Within e es → InRange a b (from_of e)
  pub unique : Unique es

block_append : (a b c d : ℕ) (xs ys : List Edge) → a ≤ b → b ≤ c → c ≤ d → Block a b xs → Block c d ys → Block a d (xs ++ ys)
block_append a b c d xs ys ab bc cd h k = record {
  ranged = within-either (λ (e : Edge). InRange a d (from_of e)) xs ys (λ e w. wider a b a d (from_of e) (omega arith) (omega arith) (h.ranged e w)) (λ e w. wider c d a d (from_of e) (omega arith) (omega arith) (k.ranged e w));
  unique = λ e f v w q g.
      within-either (λ (z : Edge). from_of z ≡ from_of f → Agree (choice_of z) (choice_of f) → z ≡ f) xs ys
      (λ z i p r. within-either (λ (y : Edge). from_of z ≡ from_of y → Agree (choice_of z) (choice_of y) → z ≡ y) xs ys (λ y j. h.unique z y i j)
      (λ y j o t. absurd (apart_ranges a b c d (from_of y) bc (subst (InRange a b) o (h.ranged z i)) (k.ranged y j))) f w p r)
      (λ z i p r. within-either (λ (y : Edge). from_of z ≡ from_of y → Agree (choice_of z) (choice_of y) → z ≡ y) xs ys
      (λ y j o t. absurd (apart_ranges a b c d (from_of y) bc (h.ranged y j) (subst (InRange c d) o (k.ranged z i)))) (λ y j. k.unique z y i j) f w p r)
      e v q g;
}

block_wider : (a b c : ℕ) (es : List Edge) → b ≤ c → Block a b es → Block a c es
block_wider a b c es le h = record { ranged = λ e w. wider a b a c (from_of e) (omega arith) le (h.ranged e w); unique = h.unique }

ranged_nil : (a b : ℕ) (e : Edge) → Within e [] → InRange a b (from_of e)
ranged_nil a b e w = absurd w

ranged_cons : (a b : ℕ) (x : Edge) (xs : List Edge) → InRange a b (from_of x) → ((e : Edge) → Within e xs → InRange a b (from_of e)) → (e : Edge) → Within e (x ∷ xs) → InRange a b (from_of e)
ranged_cons a b x xs h k e (inl i) = subst (λ (z : Edge). InRange a b (from_of z)) (sym i) h
ranged_cons a b x xs h k e (inr w) = k e w

block_one : (n : ℕ) (x : Edge) → InRange n (n + 1) (from_of x) → Block n (n + 1) (x ∷ [])
block_one n x h = record { ranged = ranged_cons n (n + 1) x [] h (ranged_nil n (n + 1)); unique = unique_cons x [] (apart_nil x) unique_nil }

-- the own edges of a control, and of a range
block_control : (n : ℕ) (u v to : Point) → Block n (n + 1) (picks (before n) chosen.Then u ∷ picks (before n) chosen.Else v ∷ passes (past_point n) to ∷ [])
block_control n u v to =
    let x : Edge = picks (before n) chosen.Then u in let y : Edge = picks (before n) chosen.Else v in let z : Edge = passes (past_point n) to in
    let here : (n ≤ n) × (n < n + 1) = (omega arith, omega arith) in record {
      ranged = ranged_cons n (n + 1) x (y ∷ z ∷ []) here (ranged_cons n (n + 1) y (z ∷ []) here (ranged_cons n (n + 1) z [] here (ranged_nil n (n + 1))));
      unique = unique_cons x (y ∷ z ∷ []) (apart_cons x y (z ∷ []) (λ a b. cc) (apart_cons x z [] (λ a b. cc) (apart_nil x)))
          (unique_cons y (z ∷ []) (apart_cons y z [] (λ a b. cc) (apart_nil y)) (unique_cons z [] (apart_nil z) unique_nil));
    }

block_range : (n : ℕ) (u v to : Point) → Block n (n + 1) (passes (before n) (head n) ∷ passes (again n) (head n) ∷ picks (head n) chosen.Turn u ∷ picks (before n) chosen.Done v ∷ picks (again n) chosen.Done (past_point n) ∷ passes (past_point n) to ∷ [])
block_range n u v to =
    let p : Edge = passes (before n) (head n) in let q : Edge = passes (again n) (head n) in let o : Edge = picks (head n) chosen.Turn u in
    let r : Edge = picks (before n) chosen.Done v in let s : Edge = picks (again n) chosen.Done (past_point n) in let t : Edge = passes (past_point n) to in
    let here : (n ≤ n) × (n < n + 1) = (omega arith, omega arith) in record {
      ranged = ranged_cons n (n + 1) p (q ∷ o ∷ r ∷ s ∷ t ∷ []) here (ranged_cons n (n + 1) q (o ∷ r ∷ s ∷ t ∷ []) here (ranged_cons n (n + 1) o (r ∷ s ∷ t ∷ []) here (ranged_cons n (n + 1) r (s ∷ t ∷ []) here
          (ranged_cons n (n + 1) s (t ∷ []) here (ranged_cons n (n + 1) t [] here (ranged_nil n (n + 1)))))));
      unique = unique_cons p (q ∷ o ∷ r ∷ s ∷ t ∷ []) (apart_cons p q (o ∷ r ∷ s ∷ t ∷ []) (λ a b. cc) (apart_cons p o (r ∷ s ∷ t ∷ []) (λ a b. cc) (apart_cons p r (s ∷ t ∷ []) (λ a b. cc)
          (apart_cons p s (t ∷ []) (λ a b. cc) (apart_cons p t [] (λ a b. cc) (apart_nil p))))))
          (unique_cons q (o ∷ r ∷ s ∷ t ∷ []) (apart_cons q o (r ∷ s ∷ t ∷ []) (λ a b. cc) (apart_cons q r (s ∷ t ∷ []) (λ a b. cc) (apart_cons q s (t ∷ []) (λ a b. cc) (apart_cons q t [] (λ a b. cc) (apart_nil q)))))
          (unique_cons o (r ∷ s ∷ t ∷ []) (apart_cons o r (s ∷ t ∷ []) (λ a b. cc) (apart_cons o s (t ∷ []) (λ a b. cc) (apart_cons o t [] (λ a b. cc) (apart_nil o))))
          (unique_cons r (s ∷ t ∷ []) (apart_cons r s (t ∷ []) (λ a b. cc) (apart_cons r t [] (λ a b. cc) (apart_nil r)))
          (unique_cons s (t ∷ []) (apart_cons s t [] (λ a b. cc) (apart_nil s)) (unique_cons t [] (apart_nil t) unique_nil)))));
    }

-- a node with its parts
own_block : (n f o : ℕ) (one two : Point → Point) (first other : BodyPart) (to out on : Point) → ((a b c : Point) → Block (n + 1) (n + 1 + f) (first a b c)) → ((a b c : Point) → Block (n + 1 + f) (n + 1 + f + o) (other a b c))
    → (what : NodeKind) → Block n (n + 1 + f + o) (node_edges what n one two first other to out on)
own_block n f o one two first other to out on h k (kind.Text bytes) = block_wider n (n + 1) (n + 1 + f + o) _ (omega arith) (block_one n (writes n bytes to) (omega arith, omega arith))
own_block n f o one two first other to out on h k (kind.Action pipe) = block_wider n (n + 1) (n + 1 + f + o) _ (omega arith) (block_one n (fills n pipe to) (omega arith, omega arith))
own_block n f o one two first other to out on h k (kind.Declare name pipe) = block_wider n (n + 1) (n + 1 + f + o) _ (omega arith) (block_one n (passes (before n) to) (omega arith, omega arith))
own_block n f o one two first other to out on h k (kind.Assign name pipe) = block_wider n (n + 1) (n + 1 + f + o) _ (omega arith) (block_one n (passes (before n) to) (omega arith, omega arith))
own_block n f o one two first other to out on h k (kind.If name pipe) =
    block_append n (n + 1) (n + 1) (n + 1 + f + o) (picks (before n) chosen.Then (one (past_point n)) ∷ picks (before n) chosen.Else (two (past_point n)) ∷ passes (past_point n) to ∷ []) (first (past_point n) out on ++ other (past_point n) out on)
    (omega arith) (omega arith) (omega arith) (block_control n (one (past_point n)) (two (past_point n)) to)
    (block_append (n + 1) (n + 1 + f) (n + 1 + f) (n + 1 + f + o) (first (past_point n) out on) (other (past_point n) out on) (omega arith) (omega arith) (omega arith) (h (past_point n) out on) (k (past_point n) out on))
own_block n f o one two first other to out on h k (kind.With name pipe) =
    block_append n (n + 1) (n + 1) (n + 1 + f + o) (picks (before n) chosen.Then (one (past_point n)) ∷ picks (before n) chosen.Else (two (past_point n)) ∷ passes (past_point n) to ∷ []) (first (past_point n) out on ++ other (past_point n) out on)
    (omega arith) (omega arith) (omega arith) (block_control n (one (past_point n)) (two (past_point n)) to)
    (block_append (n + 1) (n + 1 + f) (n + 1 + f) (n + 1 + f + o) (first (past_point n) out on) (other (past_point n) out on) (omega arith) (omega arith) (omega arith) (h (past_point n) out on) (k (past_point n) out on))
own_block n f o one two first other to out on h k (kind.Range index element pipe) =
    block_append n (n + 1) (n + 1) (n + 1 + f + o)
    (passes (before n) (head n) ∷ passes (again n) (head n) ∷ picks (head n) chosen.Turn (one (again n)) ∷ picks (before n) chosen.Done (two (past_point n)) ∷ picks (again n) chosen.Done (past_point n) ∷ passes (past_point n) to ∷ []) (first (again n) (past_point n) (again n) ++ other (past_point n) out on)
    (omega arith) (omega arith) (omega arith) (block_range n (one (again n)) (two (past_point n)) to)
    (block_append (n + 1) (n + 1 + f) (n + 1 + f) (n + 1 + f + o) (first (again n) (past_point n) (again n)) (other (past_point n) out on) (omega arith) (omega arith) (omega arith) (h (again n) (past_point n) (again n)) (k (past_point n) out on))
own_block n f o one two first other to out on h k kind.Break = block_wider n (n + 1) (n + 1 + f + o) _ (omega arith) (block_one n (passes (before n) out) (omega arith, omega arith))
own_block n f o one two first other to out on h k kind.Continue = block_wider n (n + 1) (n + 1 + f + o) _ (omega arith) (block_one n (passes (before n) on) (omega arith, omega arith))
own_block n f o one two first other to out on h k (kind.Template name pipe) = block_wider n (n + 1) (n + 1 + f + o) _ (omega arith) (block_one n (calls n name to) (omega arith, omega arith))

nodes_block : (nodes : NodesData) (n : ℕ) (to out on : Point) → Block n (n + nodes_size nodes) (edges_of nodes n to out on)
nodes_block no_nodes n to out on = record { ranged = ranged_nil n (n + 0); unique = unique_nil }
nodes_block (node what l s first other rest) n to out on =
    let f = nodes_size first in let o = nodes_size other in let behind : ℕ = n + 1 + f + o in
    block_wider n (behind + nodes_size rest) (n + nodes_size (node what l s first other rest)) _ (omega arith)
    (block_append n behind behind (behind + nodes_size rest) (node_edges what n (part_begins first (n + 1)) (part_begins other (n + 1 + f)) (edges_of first (n + 1)) (edges_of other (n + 1 + f)) (part_begins rest behind to) out on) (edges_of rest behind to out on)
    (omega arith) (omega arith) (omega arith)
    (own_block n f o (part_begins first (n + 1)) (part_begins other (n + 1 + f)) (edges_of first (n + 1)) (edges_of other (n + 1 + f)) (part_begins rest behind to) out on
    (λ a b c. nodes_block first (n + 1) a b c) (λ a b c. nodes_block other (n + 1 + f) a b c) what)
    (nodes_block rest behind to out on))

pub one_edge : (forest : ForestData) (t : List ℕ) → Unique (edges_in forest t)
one_edge forest t = (nodes_block (nodes_in forest t) 0 finish_point finish_point finish_point).unique

pub no_finish : (forest : ForestData) (t : List ℕ) (e : Edge) → Within e (edges_in forest t) → from_of e ≡ finish_point → ⊥
no_finish forest t e w is = subst (InRange 0 (0 + nodes_size (nodes_in forest t))) is ((nodes_block (nodes_in forest t) 0 finish_point finish_point finish_point).ranged e w)

-- from the head of a range only a turn leads on
abbrev IsHeadTurn : Point → Option Way → Type 0
IsHeadTurn (point.Head n) c = c ≡ Some chosen.Turn
IsHeadTurn p c = Unit {0}

abbrev pub picked : Edge → Option Way
picked (picks from choice to) = Some choice
picked e = None

abbrev TurnsAtHead : Edge → Type 0
TurnsAtHead e = IsHeadTurn (from_of e) (picked e)

turns : (n : ℕ) → IsHeadTurn (head n) (Some chosen.Turn)
turns n = refl

own_turns : (n : ℕ) (one two : Point → Point) (first other : BodyPart) (to out on : Point) → ((a b c : Point) (e : Edge) → Within e (first a b c) → TurnsAtHead e) → ((a b c : Point) (e : Edge) → Within e (other a b c) → TurnsAtHead e)
    → (what : NodeKind) (e : Edge) → Within e (node_edges what n one two first other to out on) → TurnsAtHead e
own_turns n one two first other to out on h k (kind.Text bytes) e (inl i) = subst TurnsAtHead (sym i) tt
own_turns n one two first other to out on h k (kind.Text bytes) e (inr w) = absurd w
own_turns n one two first other to out on h k (kind.Action pipe) e (inl i) = subst TurnsAtHead (sym i) tt
own_turns n one two first other to out on h k (kind.Action pipe) e (inr w) = absurd w
own_turns n one two first other to out on h k (kind.Declare name pipe) e (inl i) = subst TurnsAtHead (sym i) tt
own_turns n one two first other to out on h k (kind.Declare name pipe) e (inr w) = absurd w
own_turns n one two first other to out on h k (kind.Assign name pipe) e (inl i) = subst TurnsAtHead (sym i) tt
own_turns n one two first other to out on h k (kind.Assign name pipe) e (inr w) = absurd w
own_turns n one two first other to out on h k (kind.If name pipe) e (inl i) = subst TurnsAtHead (sym i) tt
own_turns n one two first other to out on h k (kind.If name pipe) e (inr (inl i)) = subst TurnsAtHead (sym i) tt
own_turns n one two first other to out on h k (kind.If name pipe) e (inr (inr (inl i))) = subst TurnsAtHead (sym i) tt
own_turns n one two first other to out on h k (kind.If name pipe) e (inr (inr (inr w))) = within-either TurnsAtHead (first (past_point n) out on) (other (past_point n) out on) (h (past_point n) out on) (k (past_point n) out on) e w
own_turns n one two first other to out on h k (kind.With name pipe) e (inl i) = subst TurnsAtHead (sym i) tt
own_turns n one two first other to out on h k (kind.With name pipe) e (inr (inl i)) = subst TurnsAtHead (sym i) tt
own_turns n one two first other to out on h k (kind.With name pipe) e (inr (inr (inl i))) = subst TurnsAtHead (sym i) tt
own_turns n one two first other to out on h k (kind.With name pipe) e (inr (inr (inr w))) = within-either TurnsAtHead (first (past_point n) out on) (other (past_point n) out on) (h (past_point n) out on) (k (past_point n) out on) e w
own_turns n one two first other to out on h k (kind.Range index element pipe) e (inl i) = subst TurnsAtHead (sym i) tt
own_turns n one two first other to out on h k (kind.Range index element pipe) e (inr (inl i)) = subst TurnsAtHead (sym i) tt
own_turns n one two first other to out on h k (kind.Range index element pipe) e (inr (inr (inl i))) = subst TurnsAtHead (sym i) (turns n)
own_turns n one two first other to out on h k (kind.Range index element pipe) e (inr (inr (inr (inl i)))) = subst TurnsAtHead (sym i) tt
own_turns n one two first other to out on h k (kind.Range index element pipe) e (inr (inr (inr (inr (inl i))))) = subst TurnsAtHead (sym i) tt
own_turns n one two first other to out on h k (kind.Range index element pipe) e (inr (inr (inr (inr (inr (inl i)))))) = subst TurnsAtHead (sym i) tt
own_turns n one two first other to out on h k (kind.Range index element pipe) e (inr (inr (inr (inr (inr (inr w)))))) =
    within-either TurnsAtHead (first (again n) (past_point n) (again n)) (other (past_point n) out on) (h (again n) (past_point n) (again n)) (k (past_point n) out on) e w
own_turns n one two first other to out on h k kind.Break e (inl i) = subst TurnsAtHead (sym i) tt
own_turns n one two first other to out on h k kind.Break e (inr w) = absurd w
own_turns n one two first other to out on h k kind.Continue e (inl i) = subst TurnsAtHead (sym i) tt
own_turns n one two first other to out on h k kind.Continue e (inr w) = absurd w
own_turns n one two first other to out on h k (kind.Template name pipe) e (inl i) = subst TurnsAtHead (sym i) tt
own_turns n one two first other to out on h k (kind.Template name pipe) e (inr w) = absurd w

nodes_turn : (nodes : NodesData) (n : ℕ) (to out on : Point) (e : Edge) → Within e (edges_of nodes n to out on) → TurnsAtHead e
nodes_turn no_nodes n to out on e w = absurd w
nodes_turn (node what l s first other rest) n to out on e w =
    let second : ℕ = n + 1 + nodes_size first in
    let behind : ℕ = second + nodes_size other in
    within-either TurnsAtHead
    (node_edges what n (part_begins first (n + 1)) (part_begins other second) (edges_of first (n + 1)) (edges_of other second) (part_begins rest behind to) out on) (edges_of rest behind to out on)
    (own_turns n (part_begins first (n + 1)) (part_begins other second) (edges_of first (n + 1)) (edges_of other second) (part_begins rest behind to) out on
    (λ a b c. nodes_turn first (n + 1) a b c) (λ a b c. nodes_turn other second a b c) what)
    (nodes_turn rest behind to out on) e w

pub head_turns : (forest : ForestData) (t : List ℕ) (e : Edge) (n : ℕ) → Within e (edges_in forest t) → from_of e ≡ head n → picked e ≡ Some chosen.Turn
head_turns forest t e n w i = subst (λ (p : Point). IsHeadTurn p (picked e)) i (nodes_turn (nodes_in forest t) 0 finish_point finish_point finish_point e w)
