-- Two edges of a template lead to one point only where paths meet: at a range, and after the parts of a control.
use Rattle.std.proofs.Common.{◌≡◌, ◌⊎◌, ℕ, ◌+◌, ◌<◌, ◌≤◌, Bool, true, false, List, [], ◌∷◌, ◌++◌, Option, Some, None, refl, sym, ap, ◌∙◌, subst, inl, inr, arith}
use Rattle.std.specs.Prelude.{⊤}
use Rattle.place_infer.specs.BreaksInRanges.{BreaksStand, HasBreaksInRanges, MayStand, part_in_range}
use Rattle.place_laws.specs.MeetingPoints.{EdgesMeetAtControls, IsMeetingPoint}
use Rattle.tpl_paths.proofs.EdgeNodes.{within-either}
use Rattle.tpl_paths.specs.Edges.{Edge, Point, Within, again, before, calls, edges_in, edges_of, fills, finish_point, head, node_edges, nodes_in, part_begins, passes, past_point, path_nodes_of_tree, picks, start_in, to_of, writes}
use Rattle.tpl_paths.specs.declared.choice.Way.TheVariants as chosen
use Rattle.tpl_paths.specs.declared.point.Point.TheVariants as point
use Rattle.tpl_tree.specs.Forests.{ForestData, tree_named}
use Rattle.tpl_tree.specs.Trees.{NodesData, TreeData, no_nodes, node, nodes_size}
use Rattle.tpl_tree.specs.declared.node_kind.NodeKind.{NodeKind}
use Rattle.tpl_tree.specs.declared.node_kind.NodeKind.TheVariants as kind

-- the number of a point at which no paths meet, where the end has this number
abbrev rank : ℕ → Point → ℕ
rank end (point.Before n) = n
rank end (point.Again n) = 0
rank end (point.Head n) = 0
rank end (point.Past n) = 0
rank end point.Finish = end

-- paths meet at a point, or its number is in a range
abbrev Ranged : ℕ → ℕ → ℕ → Point → Type 0
Ranged end low high p = IsMeetingPoint p ⊎ ((low ≤ rank end p) × (rank end p < high))

apart : (end a b c d : ℕ) (p : Point) → b ≤ c → Ranged end a b p → Ranged end c d p → IsMeetingPoint p
apart end a b c d p le (inl m) k = m
apart end a b c d p le (inr h) (inl m) = m
apart end a b c d p le (inr h) (inr k) = absurd (omega (arith, h.1, k.0))

wider : (end a b c d : ℕ) (p : Point) → c ≤ a → b ≤ d → Ranged end a b p → Ranged end c d p
wider end a b c d p l r (inl m) = inl m
wider end a b c d p l r (inr h) = inr (omega (arith, h.0), omega (arith, h.1))

none : (end a b c : ℕ) (p : Point) → Ranged end a b p ⊎ Ranged end c c p → Ranged end a b p
none end a b c p (inl h) = h
none end a b c p (inr (inl m)) = inl m
none end a b c p (inr (inr h)) = absurd (omega (arith, h.0, h.1))

-- where two lead to one point, paths meet there, or they are one edge
abbrev Single : List Edge → Type 0
Single es = (e f : Edge) → Within e es → Within f es → to_of e ≡ to_of f → IsMeetingPoint (to_of e) ⊎ (e ≡ f)

abbrev Apart : Edge → Edge → Type 0
Apart x f = to_of x ≡ to_of f → IsMeetingPoint (to_of x)

-- edges that lead to points in one of two ranges
abbrev AllRanged : ℕ → ℕ → ℕ → ℕ → ℕ → List Edge → Type 0
AllRanged end a b c d es = (e : Edge) → Within e es → Ranged end a b (to_of e) ⊎ Ranged end c d (to_of e)

record Block (end a b c d : ℕ) (es : List Edge) : Type 0 where
  ranged : AllRanged end a b c d es
  single : Single es

single_nil : Single []
single_nil e f v w q = absurd v

single_cons : (x : Edge) (xs : List Edge) → ((f : Edge) → Within f xs → Apart x f) → Single xs → Single (x ∷ xs)
single_cons x xs h u e f (inl i) (inl j) q = inr (i ∙ sym j)
single_cons x xs h u e f (inl i) (inr w) q = inl (subst (λ (z : Edge). IsMeetingPoint (to_of z)) (sym i) (h f w (ap to_of (sym i) ∙ q)))
single_cons x xs h u e f (inr v) (inl j) q = inl (subst IsMeetingPoint (ap to_of (sym j) ∙ sym q) (h e v (ap to_of (sym j) ∙ sym q)))
single_cons x xs h u e f (inr v) (inr w) q = u e f v w q

single_append : (xs ys : List Edge) → Single xs → Single ys → ((e f : Edge) → Within e xs → Within f ys → Apart e f) → Single (xs ++ ys)
single_append xs ys h k d e f v w q =
    within-either (λ (z : Edge). to_of z ≡ to_of f → IsMeetingPoint (to_of z) ⊎ (z ≡ f)) xs ys
    (λ z i p. within-either (λ (y : Edge). to_of z ≡ to_of y → IsMeetingPoint (to_of z) ⊎ (z ≡ y)) xs ys (λ y j. h z y i j) (λ y j o. inl (d z y i j o)) f w p)
    (λ z i p. within-either (λ (y : Edge). to_of z ≡ to_of y → IsMeetingPoint (to_of z) ⊎ (z ≡ y)) xs ys
    (λ y j o. inl (subst IsMeetingPoint (sym o) (d y z j i (sym o)))) (λ y j. k z y i j) f w p)
    e v q

-- an edge is apart from others by the ranges of the points to which they lead
apart_below : (end a b c d : ℕ) (x : Edge) (ys : List Edge) → b ≤ c → Ranged end a b (to_of x) → ((f : Edge) → Within f ys → Ranged end c d (to_of f)) → (f : Edge) → Within f ys → Apart x f
apart_below end a b c d x ys le h k f w q = apart end a b c d (to_of x) le h (subst (Ranged end c d) (sym q) (k f w))

apart_above : (end a b c d : ℕ) (x : Edge) (ys : List Edge) → d ≤ a → Ranged end a b (to_of x) → ((f : Edge) → Within f ys → Ranged end c d (to_of f)) → (f : Edge) → Within f ys → Apart x f
apart_above end a b c d x ys le h k f w q = apart end c d a b (to_of x) le (subst (Ranged end c d) (sym q) (k f w)) h

apart_one : (end a b c d : ℕ) (x y : Edge) → b ≤ c → Ranged end a b (to_of x) → Ranged end c d (to_of y) → Apart x y
apart_one end a b c d x y le h k q = apart end a b c d (to_of x) le h (subst (Ranged end c d) (sym q) k)

apart_cons : (x y : Edge) (ys : List Edge) → Apart x y → ((f : Edge) → Within f ys → Apart x f) → (f : Edge) → Within f (y ∷ ys) → Apart x f
apart_cons x y ys h k f (inl i) = subst (λ (z : Edge). Apart x z) (sym i) h
apart_cons x y ys h k f (inr w) = k f w

apart_nil : (x f : Edge) → Within f [] → Apart x f
apart_nil x f w = absurd w

ranged_nil : (end a b c d : ℕ) → AllRanged end a b c d []
ranged_nil end a b c d e w = absurd w

ranged_cons : (end a b c d : ℕ) (x : Edge) (xs : List Edge) → Ranged end a b (to_of x) ⊎ Ranged end c d (to_of x) → AllRanged end a b c d xs → AllRanged end a b c d (x ∷ xs)
ranged_cons end a b c d x xs h k e (inl i) = subst (λ (z : Edge). Ranged end a b (to_of z) ⊎ Ranged end c d (to_of z)) (sym i) h
ranged_cons end a b c d x xs h k e (inr w) = k e w

-- where nodes begin
begins_within : (end k : ℕ) (nodes : NodesData) (to : Point) → IsMeetingPoint to → Ranged end k (k + nodes_size nodes) (part_begins nodes k to)
begins_within end k no_nodes to m = inl m
begins_within end k (node what l s first other rest) to m = inr (omega arith, omega arith)

begins_at : (end k : ℕ) (nodes : NodesData) (to : Point) → IsMeetingPoint to → Ranged end k (k + 1) (part_begins nodes k to)
begins_at end k no_nodes to m = inl m
begins_at end k (node what l s first other rest) to m = inr (omega arith, omega arith)

-- where a `break` and a `continue` lead, paths meet
abbrev LeadsOut : Bool → Point → Point → Type 0
LeadsOut true out on = IsMeetingPoint out × IsMeetingPoint on
LeadsOut false out on = ⊤

leads-out : (b : Bool) (out on : Point) → b ≡ true → LeadsOut b out on → IsMeetingPoint out × IsMeetingPoint on
leads-out true out on is h = h
leads-out false out on is h = cc

-- the parts of a control, which begin at these numbers
record Parts (end n f o : ℕ) (first other : List Edge) : Type 0 where
  first_ranged : (e : Edge) → Within e first → Ranged end (n + 2) (n + 1 + f) (to_of e)
  first_single : Single first
  other_ranged : (e : Edge) → Within e other → Ranged end (n + 2 + f) (n + 1 + f + o) (to_of e)
  other_single : Single other

both_single : (end n f o : ℕ) (first other : List Edge) → Parts end n f o first other → Single (first ++ other)
both_single end n f o first other p = single_append first other p.first_single p.other_single
    (λ x y v w q. apart end (n + 2) (n + 1 + f) (n + 2 + f) (n + 1 + f + o) (to_of x) (omega arith) (p.first_ranged x v) (subst (Ranged end (n + 2 + f) (n + 1 + f + o)) (sym q) (p.other_ranged y w)))

both_ranged : (end n f o c d : ℕ) (first other : List Edge) → Parts end n f o first other → AllRanged end (n + 1) (n + 1 + f + o) c d (first ++ other)
both_ranged end n f o c d first other p = within-either (λ (e : Edge). Ranged end (n + 1) (n + 1 + f + o) (to_of e) ⊎ Ranged end c d (to_of e)) first other
    (λ e w. inl (wider end (n + 2) (n + 1 + f) (n + 1) (n + 1 + f + o) (to_of e) (omega arith) (omega arith) (p.first_ranged e w)))
    (λ e w. inl (wider end (n + 2 + f) (n + 1 + f + o) (n + 1) (n + 1 + f + o) (to_of e) (omega arith) (omega arith) (p.other_ranged e w)))

-- what leads into the first part is apart from what leads to points of both parts, and so is what leads into the other part, and on
first_apart : (end n f o : ℕ) (x : Edge) (first other : List Edge) → Ranged end (n + 1) (n + 2) (to_of x) → Ranged end (n + 1) (n + 1 + f) (to_of x) → Parts end n f o first other → (e : Edge) → Within e (first ++ other) → Apart x e
first_apart end n f o x first other h k p = within-either (Apart x) first other
    (apart_below end (n + 1) (n + 2) (n + 2) (n + 1 + f) x first (omega arith) h p.first_ranged)
    (apart_below end (n + 1) (n + 1 + f) (n + 2 + f) (n + 1 + f + o) x other (omega arith) k p.other_ranged)

other_apart : (end n f o : ℕ) (x : Edge) (first other : List Edge) → Ranged end (n + 1 + f) (n + 2 + f) (to_of x) → Parts end n f o first other → (e : Edge) → Within e (first ++ other) → Apart x e
other_apart end n f o x first other h p = within-either (Apart x) first other
    (apart_above end (n + 1 + f) (n + 2 + f) (n + 2) (n + 1 + f) x first (omega arith) h p.first_ranged)
    (apart_below end (n + 1 + f) (n + 2 + f) (n + 2 + f) (n + 1 + f + o) x other (omega arith) h p.other_ranged)

on_apart : (end n f o c d : ℕ) (x : Edge) (first other : List Edge) → n + 1 + f + o ≤ c → Ranged end c d (to_of x) → Parts end n f o first other → (e : Edge) → Within e (first ++ other) → Apart x e
on_apart end n f o c d x first other le h p = within-either (Apart x) first other
    (apart_above end c d (n + 2) (n + 1 + f) x first (omega arith) h p.first_ranged)
    (apart_above end c d (n + 2 + f) (n + 1 + f + o) x other (omega arith) h p.other_ranged)

-- a control with its parts
control_block : (end n f o c d : ℕ) (one two to : Point) (first other : List Edge) → n + 1 + f + o ≤ c → Ranged end (n + 1) (n + 2) one → Ranged end (n + 1) (n + 1 + f) one → Ranged end (n + 1 + f) (n + 2 + f) two → Ranged end (n + 1 + f) (n + 1 + f + o) two
    → Ranged end c d to → Parts end n f o first other
    → Block end (n + 1) (n + 1 + f + o) c d (picks (before n) chosen.Then one ∷ picks (before n) chosen.Else two ∷ passes (past_point n) to ∷ (first ++ other))
control_block end n f o c d one two to first other le h k i j t p =
    let x : Edge = picks (before n) chosen.Then one in let y : Edge = picks (before n) chosen.Else two in let z : Edge = passes (past_point n) to in
    record {
      ranged = ranged_cons end (n + 1) (n + 1 + f + o) c d x (y ∷ z ∷ (first ++ other)) (inl (wider end (n + 1) (n + 1 + f) (n + 1) (n + 1 + f + o) one (omega arith) (omega arith) k))
          (ranged_cons end (n + 1) (n + 1 + f + o) c d y (z ∷ (first ++ other)) (inl (wider end (n + 1 + f) (n + 1 + f + o) (n + 1) (n + 1 + f + o) two (omega arith) (omega arith) j))
          (ranged_cons end (n + 1) (n + 1 + f + o) c d z (first ++ other) (inr t) (both_ranged end n f o c d first other p)));
      single = single_cons x (y ∷ z ∷ (first ++ other))
          (apart_cons x y (z ∷ (first ++ other)) (apart_one end (n + 1) (n + 1 + f) (n + 1 + f) (n + 1 + f + o) x y (omega arith) k j)
          (apart_cons x z (first ++ other) (apart_one end (n + 1) (n + 1 + f) c d x z (omega arith) k t) (first_apart end n f o x first other h k p)))
          (single_cons y (z ∷ (first ++ other)) (apart_cons y z (first ++ other) (apart_one end (n + 1 + f) (n + 1 + f + o) c d y z (omega arith) j t) (other_apart end n f o y first other i p))
          (single_cons z (first ++ other) (on_apart end n f o c d z first other le t p) (both_single end n f o first other p)));
    }

-- a range with its parts
range_block : (end n f o c d : ℕ) (one two to : Point) (first other : List Edge) → n + 1 + f + o ≤ c → Ranged end (n + 1) (n + 2) one → Ranged end (n + 1) (n + 1 + f) one → Ranged end (n + 1 + f) (n + 2 + f) two → Ranged end (n + 1 + f) (n + 1 + f + o) two
    → Ranged end c d to → Parts end n f o first other
    → Block end (n + 1) (n + 1 + f + o) c d
    (passes (before n) (head n) ∷ passes (again n) (head n) ∷ picks (head n) chosen.Turn one ∷ picks (before n) chosen.Done two ∷ picks (again n) chosen.Done (past_point n) ∷ passes (past_point n) to ∷ (first ++ other))
range_block end n f o c d one two to first other le h k i j t p =
    let a : Edge = passes (before n) (head n) in let b : Edge = passes (again n) (head n) in let s : Edge = picks (again n) chosen.Done (past_point n) in
    let x : Edge = picks (head n) chosen.Turn one in let y : Edge = picks (before n) chosen.Done two in let z : Edge = passes (past_point n) to in
    record {
      ranged = ranged_cons end (n + 1) (n + 1 + f + o) c d a (b ∷ x ∷ y ∷ s ∷ z ∷ (first ++ other)) (inl (inl tt)) (ranged_cons end (n + 1) (n + 1 + f + o) c d b (x ∷ y ∷ s ∷ z ∷ (first ++ other)) (inl (inl tt))
          (ranged_cons end (n + 1) (n + 1 + f + o) c d x (y ∷ s ∷ z ∷ (first ++ other)) (inl (wider end (n + 1) (n + 1 + f) (n + 1) (n + 1 + f + o) one (omega arith) (omega arith) k))
          (ranged_cons end (n + 1) (n + 1 + f + o) c d y (s ∷ z ∷ (first ++ other)) (inl (wider end (n + 1 + f) (n + 1 + f + o) (n + 1) (n + 1 + f + o) two (omega arith) (omega arith) j))
          (ranged_cons end (n + 1) (n + 1 + f + o) c d s (z ∷ (first ++ other)) (inl (inl tt))
          (ranged_cons end (n + 1) (n + 1 + f + o) c d z (first ++ other) (inr t) (both_ranged end n f o c d first other p))))));
      single = single_cons a (b ∷ x ∷ y ∷ s ∷ z ∷ (first ++ other)) (λ g w q. tt) (single_cons b (x ∷ y ∷ s ∷ z ∷ (first ++ other)) (λ g w q. tt)
          (single_cons x (y ∷ s ∷ z ∷ (first ++ other))
          (apart_cons x y (s ∷ z ∷ (first ++ other)) (apart_one end (n + 1) (n + 1 + f) (n + 1 + f) (n + 1 + f + o) x y (omega arith) k j)
          (apart_cons x s (z ∷ (first ++ other)) (λ q. subst IsMeetingPoint (sym q) tt)
          (apart_cons x z (first ++ other) (apart_one end (n + 1) (n + 1 + f) c d x z (omega arith) k t) (first_apart end n f o x first other h k p))))
          (single_cons y (s ∷ z ∷ (first ++ other)) (apart_cons y s (z ∷ (first ++ other)) (λ q. subst IsMeetingPoint (sym q) tt)
          (apart_cons y z (first ++ other) (apart_one end (n + 1 + f) (n + 1 + f + o) c d y z (omega arith) j t) (other_apart end n f o y first other i p)))
          (single_cons s (z ∷ (first ++ other)) (λ g w q. tt)
          (single_cons z (first ++ other) (on_apart end n f o c d z first other le t p) (both_single end n f o first other p))))));
    }

block_one : (end a b c d : ℕ) (x : Edge) → Ranged end c d (to_of x) → Block end a b c d (x ∷ [])
block_one end a b c d x h = record { ranged = ranged_cons end a b c d x [] (inr h) (ranged_nil end a b c d); single = single_cons x [] (apart_nil x) single_nil }

-- where nodes behind others begin, or where those lead on
abbrev next_low : NodesData → ℕ → ℕ → ℕ
next_low no_nodes behind c = c
next_low (node what l s first other rest) behind c = behind

abbrev next_high : NodesData → ℕ → ℕ → ℕ
next_high no_nodes behind d = d
next_high (node what l s first other rest) behind d = behind + 1

next_ranged : (end behind c d : ℕ) (rest : NodesData) (to : Point) → Ranged end c d to → Ranged end (next_low rest behind c) (next_high rest behind d) (part_begins rest behind to)
next_ranged end behind c d no_nodes to h = h
next_ranged end behind c d (node what l s first other rest) to h = inr (omega arith, omega arith)

next_above : (behind c : ℕ) (rest : NodesData) → behind + nodes_size rest ≤ c → behind ≤ next_low rest behind c
next_above behind c no_nodes le = omega arith
next_above behind c (node what l s first other rest) le = omega arith

-- a node and those behind it
append_rest : (end a behind c d : ℕ) (rest : NodesData) (to out on : Point) (xs : List Edge) → a ≤ behind → behind + nodes_size rest ≤ c → Block end a behind (next_low rest behind c) (next_high rest behind d) xs
    → Block end (behind + 1) (behind + nodes_size rest) c d (edges_of rest behind to out on) → Block end a (behind + nodes_size rest) c d (xs ++ edges_of rest behind to out on)
append_rest end a behind c d no_nodes to out on xs low le h k = record {
  ranged = within-either (λ (e : Edge). Ranged end a (behind + 0) (to_of e) ⊎ Ranged end c d (to_of e)) xs [] (λ e w. elim (h.ranged e w) [ inl r ↦ inl (wider end a behind a (behind + 0) (to_of e) (omega arith) (omega arith) r) | inr r ↦ inr r ]) (λ e w. absurd w);
  single = single_append xs [] h.single single_nil (λ x y v w q. absurd w);
}
append_rest end a behind c d (node what l s first other rest) to out on xs low le h k =
    let ys : List Edge = edges_of (node what l s first other rest) behind to out on in
    let size : ℕ = nodes_size (node what l s first other rest) in
    let here : (e : Edge) → Within e xs → Ranged end a (behind + 1) (to_of e) =
    (λ e w. elim (h.ranged e w) [ inl r ↦ wider end a behind a (behind + 1) (to_of e) (omega arith) (omega arith) r | inr r ↦ wider end behind (behind + 1) a (behind + 1) (to_of e) (omega arith) (omega arith) r ]) in
    record {
      ranged = within-either (λ (e : Edge). Ranged end a (behind + size) (to_of e) ⊎ Ranged end c d (to_of e)) xs ys
          (λ e w. inl (wider end a (behind + 1) a (behind + size) (to_of e) (omega arith) (omega arith) (here e w)))
          (λ e w. elim (k.ranged e w) [ inl r ↦ inl (wider end (behind + 1) (behind + size) a (behind + size) (to_of e) (omega arith) (omega arith) r) | inr r ↦ inr r ]);
      single = single_append xs ys h.single k.single
          (λ x y v w q. elim (k.ranged y w) [
            | inl r ↦ apart end a (behind + 1) (behind + 1) (behind + size) (to_of x) (omega arith) (here x v) (subst (Ranged end (behind + 1) (behind + size)) (sym q) r)
            | inr r ↦ apart end a (behind + 1) c d (to_of x) (omega arith) (here x v) (subst (Ranged end c d) (sym q) r)
          ]);
    }

-- the parts of a control by their blocks
parts_of : (end n f o : ℕ) (first other : List Edge) → Block end (n + 1 + 1) (n + 1 + f) (n + 1 + f) (n + 1 + f) first → Block end (n + 1 + f + 1) (n + 1 + f + o) (n + 1 + f + o) (n + 1 + f + o) other → Parts end n f o first other
parts_of end n f o first other h k = record {
  first_ranged = λ e w. wider end (n + 1 + 1) (n + 1 + f) (n + 2) (n + 1 + f) (to_of e) (omega arith) (omega arith) (none end (n + 1 + 1) (n + 1 + f) (n + 1 + f) (to_of e) (h.ranged e w));
  first_single = h.single;
  other_ranged = λ e w. wider end (n + 1 + f + 1) (n + 1 + f + o) (n + 2 + f) (n + 1 + f + o) (to_of e) (omega arith) (omega arith) (none end (n + 1 + f + 1) (n + 1 + f + o) (n + 1 + f + o) (to_of e) (k.ranged e w));
  other_single = k.single;
}

-- where the first part of a control begins, and the other one
module _ (end n : ℕ) (first other : NodesData) (to : Point) (m : IsMeetingPoint to) where
  first_at : Ranged end (n + 1) (n + 2) (part_begins first (n + 1) to)
  first_at = wider end (n + 1) (n + 1 + 1) (n + 1) (n + 2) (part_begins first (n + 1) to) (omega arith) (omega arith) (begins_at end (n + 1) first to m)

  first_within : Ranged end (n + 1) (n + 1 + nodes_size first) (part_begins first (n + 1) to)
  first_within = begins_within end (n + 1) first to m

  other_at : Ranged end (n + 1 + nodes_size first) (n + 2 + nodes_size first) (part_begins other (n + 1 + nodes_size first) to)
  other_at = wider end (n + 1 + nodes_size first) (n + 1 + nodes_size first + 1) (n + 1 + nodes_size first) (n + 2 + nodes_size first) (part_begins other (n + 1 + nodes_size first) to) (omega arith) (omega arith) (begins_at end (n + 1 + nodes_size first) other to m)

  other_within : Ranged end (n + 1 + nodes_size first) (n + 1 + nodes_size first + nodes_size other) (part_begins other (n + 1 + nodes_size first) to)
  other_within = begins_within end (n + 1 + nodes_size first) other to m

-- the blocks of nodes, wherever they lead on
abbrev Blocks : ℕ → Bool → NodesData → ℕ → Type 0
Blocks end b nodes n = (c d : ℕ) (to out on : Point) → n + nodes_size nodes ≤ c → Ranged end c d to → LeadsOut b out on → Block end (n + 1) (n + nodes_size nodes) c d (edges_of nodes n to out on)

-- the blocks of a node, by those of its parts
module _ (end n : ℕ) (b : Bool) (first other : NodesData) (c d : ℕ) (to out on : Point) (le : n + 1 + nodes_size first + nodes_size other ≤ c) (t : Ranged end c d to) (leads : LeadsOut b out on) (k : Blocks end b other (n + 1 + nodes_size first)) where
  abbrev f : ℕ
  f = nodes_size first

  abbrev o : ℕ
  o = nodes_size other

  if_block : Blocks end b first (n + 1) → Block end (n + 1) (n + 1 + f + o) c d
      (picks (before n) chosen.Then (part_begins first (n + 1) (past_point n)) ∷ picks (before n) chosen.Else (part_begins other (n + 1 + f) (past_point n)) ∷ passes (past_point n) to
      ∷ (edges_of first (n + 1) (past_point n) out on ++ edges_of other (n + 1 + f) (past_point n) out on))
  if_block h = control_block end n f o c d (part_begins first (n + 1) (past_point n)) (part_begins other (n + 1 + f) (past_point n)) to (edges_of first (n + 1) (past_point n) out on) (edges_of other (n + 1 + f) (past_point n) out on) le
      (first_at end n first other (past_point n) tt) (first_within end n first other (past_point n) tt) (other_at end n first other (past_point n) tt) (other_within end n first other (past_point n) tt) t
      (parts_of end n f o (edges_of first (n + 1) (past_point n) out on) (edges_of other (n + 1 + f) (past_point n) out on)
      (h (n + 1 + f) (n + 1 + f) (past_point n) out on (omega arith) (inl tt) leads) (k (n + 1 + f + o) (n + 1 + f + o) (past_point n) out on (omega arith) (inl tt) leads))

  loop_block : Blocks end true first (n + 1) → Block end (n + 1) (n + 1 + f + o) c d
      (passes (before n) (head n) ∷ passes (again n) (head n) ∷ picks (head n) chosen.Turn (part_begins first (n + 1) (again n)) ∷ picks (before n) chosen.Done (part_begins other (n + 1 + f) (past_point n)) ∷ picks (again n) chosen.Done (past_point n)
      ∷ passes (past_point n) to ∷ (edges_of first (n + 1) (again n) (past_point n) (again n) ++ edges_of other (n + 1 + f) (past_point n) out on))
  loop_block g = range_block end n f o c d (part_begins first (n + 1) (again n)) (part_begins other (n + 1 + f) (past_point n)) to (edges_of first (n + 1) (again n) (past_point n) (again n)) (edges_of other (n + 1 + f) (past_point n) out on) le
      (first_at end n first other (again n) tt) (first_within end n first other (again n) tt) (other_at end n first other (past_point n) tt) (other_within end n first other (past_point n) tt) t
      (parts_of end n f o (edges_of first (n + 1) (again n) (past_point n) (again n)) (edges_of other (n + 1 + f) (past_point n) out on)
      (g (n + 1 + f) (n + 1 + f) (again n) (past_point n) (again n) (omega arith) (inl tt) (tt, tt)) (k (n + 1 + f + o) (n + 1 + f + o) (past_point n) out on (omega arith) (inl tt) leads))

abbrev own_edges : NodeKind → NodesData → NodesData → ℕ → Point → Point → Point → List Edge
own_edges what first other n to out on =
    node_edges what n (part_begins first (n + 1)) (part_begins other (n + 1 + nodes_size first)) (edges_of first (n + 1)) (edges_of other (n + 1 + nodes_size first)) to out on

own_block : (end n : ℕ) (b : Bool) (first other : NodesData) (c d : ℕ) (to out on : Point) → n + 1 + nodes_size first + nodes_size other ≤ c → Ranged end c d to → LeadsOut b out on → (what : NodeKind) → MayStand b what
    → Blocks end (part_in_range b what) first (n + 1) → Blocks end b other (n + 1 + nodes_size first) → Block end (n + 1) (n + 1 + nodes_size first + nodes_size other) c d (own_edges what first other n to out on)
own_block end n b first other c d to out on le t leads (kind.Text bytes) may h k = block_one end (n + 1) (n + 1 + nodes_size first + nodes_size other) c d (writes n bytes to) t
own_block end n b first other c d to out on le t leads (kind.Action p) may h k = block_one end (n + 1) (n + 1 + nodes_size first + nodes_size other) c d (fills n p to) t
own_block end n b first other c d to out on le t leads (kind.Declare x p) may h k = block_one end (n + 1) (n + 1 + nodes_size first + nodes_size other) c d (passes (before n) to) t
own_block end n b first other c d to out on le t leads (kind.Assign x p) may h k = block_one end (n + 1) (n + 1 + nodes_size first + nodes_size other) c d (passes (before n) to) t
own_block end n b first other c d to out on le t leads (kind.If x p) may h k = if_block end n b first other c d to out on le t leads k h
own_block end n b first other c d to out on le t leads (kind.With x p) may h k = if_block end n b first other c d to out on le t leads k h
own_block end n b first other c d to out on le t leads (kind.Range i e p) may h k = loop_block end n b first other c d to out on le t leads k h
own_block end n b first other c d to out on le t leads kind.Break may h k = block_one end (n + 1) (n + 1 + nodes_size first + nodes_size other) c d (passes (before n) out) (inl (leads-out b out on may leads).0)
own_block end n b first other c d to out on le t leads kind.Continue may h k = block_one end (n + 1) (n + 1 + nodes_size first + nodes_size other) c d (passes (before n) on) (inl (leads-out b out on may leads).1)
own_block end n b first other c d to out on le t leads (kind.Template name p) may h k = block_one end (n + 1) (n + 1 + nodes_size first + nodes_size other) c d (calls n name to) t

block_wider : (end a b b' c d : ℕ) (es : List Edge) → b ≤ b' → Block end a b c d es → Block end a b' c d es
block_wider end a b b' c d es le h = record {
  ranged = λ e w. elim (h.ranged e w) [ inl r ↦ inl (wider end a b a b' (to_of e) (omega arith) le r) | inr r ↦ inr r ];
  single = h.single;
}

nodes_block : (end : ℕ) (b : Bool) (nodes : NodesData) (n : ℕ) → BreaksStand b nodes → Blocks end b nodes n
nodes_block end b no_nodes n h c d to out on le t leads = record { ranged = ranged_nil end (n + 1) (n + 0) c d; single = single_nil }
nodes_block end b (node what l s first other rest) n h c d to out on le t leads =
    let behind : ℕ = n + 1 + nodes_size first + nodes_size other in
    block_wider end (n + 1) (behind + nodes_size rest) (n + nodes_size (node what l s first other rest)) c d (own_edges what first other n (part_begins rest behind to) out on ++ edges_of rest behind to out on) (omega arith)
    (append_rest end (n + 1) behind c d rest to out on (own_edges what first other n (part_begins rest behind to) out on) (omega arith) (omega arith)
    (own_block end n b first other (next_low rest behind c) (next_high rest behind d) (part_begins rest behind to) out on (next_above behind c rest (omega arith)) (next_ranged end behind c d rest to t) leads what h.0
    (nodes_block end (part_in_range b what) first (n + 1) h.1) (nodes_block end b other (n + 1 + nodes_size first) h.2))
    (nodes_block end b rest behind h.3 c d to out on (omega arith) t leads))

tree_stands : (o : Option TreeData) → ((tree : TreeData) → o ≡ Some tree → BreaksStand false tree.nodes) → BreaksStand false (path_nodes_of_tree o)
tree_stands None h = tt
tree_stands (Some tree) h = h tree refl

pub meet-at-controls : EdgesMeetAtControls
meet-at-controls forest name e f stands v w q =
    let nodes : NodesData = nodes_in forest name in
    let size : ℕ = nodes_size nodes in
    (nodes_block size false nodes 0 (tree_stands (tree_named name forest) (stands name)) size (size + 1) finish_point finish_point finish_point (omega arith) (inr (omega arith, omega arith)) tt).single e f v w q

-- no edge leads to where a template begins
before-first : (end a b : ℕ) → 0 < a → Ranged end a b (before 0) → ⊥
before-first end a b lt (inl m) = m
before-first end a b lt (inr h) = (let low = h.0 in omega (arith, lt, low))

none-to-first : (nodes : NodesData) → BreaksStand false nodes → (e : Edge) → Within e (edges_of nodes 0 finish_point finish_point finish_point) → to_of e ≡ part_begins nodes 0 finish_point → ⊥
none-to-first no_nodes h e w q = w
none-to-first (node what l s first other rest) h e w q =
    let nodes : NodesData = node what l s first other rest in
    let size : ℕ = nodes_size nodes in
    let block = nodes_block size false nodes 0 h size (size + 1) finish_point finish_point finish_point (omega arith) (inr (omega arith, omega arith)) tt in
    elim (block.ranged e w) [
      | inl r ↦ before-first size (0 + 1) (0 + size) (omega arith) (subst (Ranged size (0 + 1) (0 + size)) q r)
      | inr r ↦ before-first size size (size + 1) (omega arith) (subst (Ranged size size (size + 1)) q r)
    ]

pub none-to-start : (forest : ForestData) (name : List ℕ) (e : Edge) → HasBreaksInRanges forest → Within e (edges_in forest name) → to_of e ≡ start_in forest name → ⊥
none-to-start forest name e stands w q = none-to-first (nodes_in forest name) (tree_stands (tree_named name forest) (stands name)) e w q
