-- The numbers of nodes: where in the listing a node stands, and the numbers of its parts and of the next node.
use Rattle.std.proofs.Common.{◌≡◌, ℕ, zero, suc, ◌+◌, ◌-◌, ◌<◌, ◌≤◌, true, false, nat_lt, if◌then◌else◌, List, [], ◌∷◌, ◌++◌, length, get_or, Option, Some, None, refl, sym, ap, ◌∙◌, ⊎_elim, true≢false, arith}
use Rattle.std.proofs.lemmas.Bool.{cases_lt}
use Rattle.std.proofs.lemmas.Bool.Decides.{nat_tests}
use Rattle.std.proofs.lemmas.List.{get_or-append_right}
use Rattle.tpl_symbol.specs.declared.symbol.Seam.{Seam}
use Rattle.tpl_tree.proofs.Listings.{length-listing}
use Rattle.tpl_tree.specs.Listing.{has_nodes, listing, IsTreeEntry}
use Rattle.tpl_tree.specs.Trees.{NodesData, no_nodes, node, nodes_size, nodes_from, tree_part, rest_of, node_number, child_number, next_number, NodeStands, IsFineTree}
use Rattle.tpl_tree.specs.declared.entry.Entry.{Entry}
use Rattle.tpl_tree.specs.declared.node_kind.NodeKind.{NodeKind}

-- a number is that of a node of the first part, of the `else` part, or of what follows
parted : {P : Type 0} (a b n : ℕ) → (n < a → P) → (a ≤ n → n - a < b → P) → (a ≤ n → b ≤ n - a → P) → P
parted a b n f g h = ⊎_elim f (λ (ge : a ≤ n). ⊎_elim (g ge) (h ge) (cases_lt (n - a) b)) (cases_lt n a)

from_first : (k : NodeKind) (l : ℕ) (s : List Seam) (first other rest : NodesData) (n : ℕ) → n < nodes_size first
    → nodes_from (node k l s first other rest) (suc n) ≡ nodes_from first n
from_first k l s first other rest n lt =
    let test : nat_lt n (nodes_size first) ≡ true = grind (arith, nat_tests) in
    rw test refl

from_other : (k : NodeKind) (l : ℕ) (s : List Seam) (first other rest : NodesData) (n : ℕ) → nodes_size first ≤ n → n - nodes_size first < nodes_size other
    → nodes_from (node k l s first other rest) (suc n) ≡ nodes_from other (n - nodes_size first)
from_other k l s first other rest n ge lt =
    let test : nat_lt n (nodes_size first) ≡ false = grind (arith, nat_tests) in
    let next : nat_lt (n - nodes_size first) (nodes_size other) ≡ true = grind (arith, nat_tests) in
    rw (test, next) refl

from_rest : (k : NodeKind) (l : ℕ) (s : List Seam) (first other rest : NodesData) (n : ℕ) → nodes_size first ≤ n → nodes_size other ≤ n - nodes_size first
    → nodes_from (node k l s first other rest) (suc n) ≡ nodes_from rest (n - nodes_size first - nodes_size other)
from_rest k l s first other rest n ge behind =
    let test : nat_lt n (nodes_size first) ≡ false = grind (arith, nat_tests) in
    let next : nat_lt (n - nodes_size first) (nodes_size other) ≡ false = grind (arith, nat_tests) in
    rw (test, next) refl

-- the nodes from a number on are among all
pub nodes_from-fits : (v : NodesData) (n : ℕ) → n < nodes_size v → n + nodes_size (nodes_from v n) ≤ nodes_size v
nodes_from-fits no_nodes n lt = absurd (omega arith)
nodes_from-fits (node k l s first other rest) zero lt = omega arith
nodes_from-fits (node k l s first other rest) (suc n) lt = parted (nodes_size first) (nodes_size other) n
    (λ (h : n < nodes_size first). rw (from_first k l s first other rest n h) (omega (arith, nodes_from-fits first n h)))
    (λ (g : nodes_size first ≤ n) (h : n - nodes_size first < nodes_size other). rw (from_other k l s first other rest n g h) (omega (arith, nodes_from-fits other (n - nodes_size first) h)))
    (λ (g : nodes_size first ≤ n) (h : nodes_size other ≤ n - nodes_size first). rw (from_rest k l s first other rest n g h) (omega (arith, nodes_from-fits rest (n - nodes_size first - nodes_size other) (omega arith))))

-- there is a node at each number
pub nodes_from-some : (v : NodesData) (n : ℕ) → n < nodes_size v → 0 < nodes_size (nodes_from v n)
nodes_from-some no_nodes n lt = absurd (omega arith)
nodes_from-some (node k l s first other rest) zero lt = omega arith
nodes_from-some (node k l s first other rest) (suc n) lt = parted (nodes_size first) (nodes_size other) n
    (λ (h : n < nodes_size first). rw (from_first k l s first other rest n h) (nodes_from-some first n h))
    (λ (g : nodes_size first ≤ n) (h : n - nodes_size first < nodes_size other). rw (from_other k l s first other rest n g h) (nodes_from-some other (n - nodes_size first) h))
    (λ (g : nodes_size first ≤ n) (h : nodes_size other ≤ n - nodes_size first). rw (from_rest k l s first other rest n g h) (nodes_from-some rest (n - nodes_size first - nodes_size other) (omega arith)))

pub nodes_from-fine : (v : NodesData) (n : ℕ) → n < nodes_size v → IsFineTree v → IsFineTree (nodes_from v n)
nodes_from-fine no_nodes n lt fine = absurd (omega arith)
nodes_from-fine (node k l s first other rest) zero lt fine = fine
nodes_from-fine (node k l s first other rest) (suc n) lt fine = parted (nodes_size first) (nodes_size other) n
    (λ (h : n < nodes_size first). rw (from_first k l s first other rest n h) (nodes_from-fine first n h fine.1))
    (λ (g : nodes_size first ≤ n) (h : n - nodes_size first < nodes_size other). rw (from_other k l s first other rest n g h) (nodes_from-fine other (n - nodes_size first) h fine.2))
    (λ (g : nodes_size first ≤ n) (h : nodes_size other ≤ n - nodes_size first). rw (from_rest k l s first other rest n g h) (nodes_from-fine rest (n - nodes_size first - nodes_size other) (omega arith) fine.3))

-- numbers among the nodes from a number on
pub nodes_from-twice : (v : NodesData) (n m : ℕ) → n < nodes_size v → m < nodes_size (nodes_from v n) → nodes_from v (n + m) ≡ nodes_from (nodes_from v n) m
nodes_from-twice no_nodes n m lt inside = absurd (omega arith)
nodes_from-twice (node k l s first other rest) zero m lt inside = ap (nodes_from (node k l s first other rest)) (omega arith)
nodes_from-twice (node k l s first other rest) (suc n) m lt inside = parted (nodes_size first) (nodes_size other) n
    (λ (h : n < nodes_size first).
    let e : nodes_from (node k l s first other rest) (suc n) ≡ nodes_from first n = from_first k l s first other rest n h in
    let there : m < nodes_size (nodes_from first n) = rw e at inside in
    ap (nodes_from (node k l s first other rest)) (suc_add n m)
    ∙ from_first k l s first other rest (n + m) (omega (arith, nodes_from-fits first n h))
    ∙ nodes_from-twice first n m h there
    ∙ ap (λ (w : NodesData). nodes_from w m) (sym e))
    (λ (g : nodes_size first ≤ n) (h : n - nodes_size first < nodes_size other).
    let e : nodes_from (node k l s first other rest) (suc n) ≡ nodes_from other (n - nodes_size first) = from_other k l s first other rest n g h in
    let there : m < nodes_size (nodes_from other (n - nodes_size first)) = rw e at inside in
    ap (nodes_from (node k l s first other rest)) (suc_add n m)
    ∙ from_other k l s first other rest (n + m) (omega arith) (omega (arith, nodes_from-fits other (n - nodes_size first) h))
    ∙ ap (nodes_from other) (omega arith)
    ∙ nodes_from-twice other (n - nodes_size first) m h there
    ∙ ap (λ (w : NodesData). nodes_from w m) (sym e))
    (λ (g : nodes_size first ≤ n) (h : nodes_size other ≤ n - nodes_size first).
    let e : nodes_from (node k l s first other rest) (suc n) ≡ nodes_from rest (n - nodes_size first - nodes_size other) = from_rest k l s first other rest n g h in
    let there : m < nodes_size (nodes_from rest (n - nodes_size first - nodes_size other)) = rw e at inside in
    ap (nodes_from (node k l s first other rest)) (suc_add n m)
    ∙ from_rest k l s first other rest (n + m) (omega arith) (omega arith)
    ∙ ap (nodes_from rest) (omega arith)
    ∙ nodes_from-twice rest (n - nodes_size first - nodes_size other) m (omega arith) there
    ∙ ap (λ (w : NodesData). nodes_from w m) (sym e))
  where
    suc_add : (a b : ℕ) → suc a + b ≡ suc (a + b)
    suc_add a b = omega arith

-- the entry of the first node, and another one where there is none
abbrev pub entry_of : Entry → NodesData → Entry
entry_of d no_nodes = d
entry_of d (node k l s first other rest) = record { kind = k; line = l; seams = s; first = nodes_size first; other = nodes_size other; more = has_nodes rest }

get_or-append_left : (xs ys : List Entry) (n : ℕ) (d : Entry) → n < length xs → get_or (xs ++ ys) n d ≡ get_or xs n d
get_or-append_left [] ys n d lt = absurd (omega arith)
get_or-append_left (x ∷ xs) ys zero d lt = refl
get_or-append_left (x ∷ xs) ys (suc n) d lt = get_or-append_left xs ys n d (omega arith)

-- a node stands in the listing at its number
pub get_or-listing : (v : NodesData) (n : ℕ) (d : Entry) → get_or (listing v) n d ≡ entry_of d (nodes_from v n)
get_or-listing no_nodes zero d = refl
get_or-listing no_nodes (suc n) d = refl
get_or-listing (node k l s first other rest) zero d = refl
get_or-listing (node k l s first other rest) (suc n) d = parted (nodes_size first) (nodes_size other) n
    (λ (h : n < nodes_size first).
    get_or-append_left (listing first) (listing other ++ listing rest) n d (omega (arith, length-listing first))
    ∙ get_or-listing first n d
    ∙ ap (entry_of d) (sym (from_first k l s first other rest n h)))
    (λ (g : nodes_size first ≤ n) (h : n - nodes_size first < nodes_size other).
    get_or-append_right (listing first) (listing other ++ listing rest) (nodes_size first) n d (length-listing first) g
    ∙ get_or-append_left (listing other) (listing rest) (n - nodes_size first) d (omega (arith, length-listing other))
    ∙ get_or-listing other (n - nodes_size first) d
    ∙ ap (entry_of d) (sym (from_other k l s first other rest n g h)))
    (λ (g : nodes_size first ≤ n) (h : nodes_size other ≤ n - nodes_size first).
    get_or-append_right (listing first) (listing other ++ listing rest) (nodes_size first) n d (length-listing first) g
    ∙ get_or-append_right (listing other) (listing rest) (nodes_size other) (n - nodes_size first) d (length-listing other) h
    ∙ get_or-listing rest (n - nodes_size first - nodes_size other) d
    ∙ ap (entry_of d) (sym (from_rest k l s first other rest n g h)))

entry_is : (w : NodesData) (e : Entry) → 0 < nodes_size w → e ≡ entry_of e w → IsFineTree w → IsTreeEntry w e
entry_is no_nodes e some is fine = absurd (omega arith)
entry_is (node k l s first other rest) e some is fine = rw is (record {
  kind = refl;
  line = refl;
  seams = refl;
  first = refl;
  other = refl;
  more = refl;
  fine = fine.0;
})

-- the entry at a number is that of the node
pub is_entry : (es : List Entry) (v : NodesData) (n : ℕ) (e : Entry) → es ≡ listing v → IsFineTree v → n < nodes_size v → e ≡ get_or es n e → IsTreeEntry (nodes_from v n) e
is_entry es v n e is fine lt at_n =
    entry_is (nodes_from v n) e (nodes_from-some v n lt)
    (at_n ∙ ap (λ (xs : List Entry). get_or xs n e) is ∙ get_or-listing v n e)
    (nodes_from-fine v n lt fine)

number_some : (w : NodesData) (n : ℕ) → 0 < nodes_size w → node_number w n ≡ Some n
number_some no_nodes n lt = absurd (omega arith)
number_some (node k l s first other rest) n lt = refl

number_none : (w : NodesData) (n : ℕ) → nodes_size w ≡ 0 → node_number w n ≡ None
number_none no_nodes n e = refl
number_none (node k l s first other rest) n e = absurd (omega arith)

stands_if : (v w : NodesData) (m : ℕ) → (0 < nodes_size w → (m < nodes_size v) × (nodes_from v m ≡ w)) → NodeStands v w (node_number w m)
stands_if v no_nodes m h = tt
stands_if v (node k l s first other rest) m h = h (omega arith)

pub nodes_from-zero : (w : NodesData) (n : ℕ) → n ≡ 0 → nodes_from w n ≡ w
nodes_from-zero no_nodes n e = refl
nodes_from-zero (node k l s first other rest) n e = rw e refl

-- the parts of the first node, by their numbers
at_first : (w : NodesData) → 0 < nodes_size (tree_part 0 w) → (1 < nodes_size w) × (nodes_from w 1 ≡ tree_part 0 w)
at_first no_nodes lt = absurd (omega arith)
at_first (node k l s first other rest) lt = (omega arith, from_first k l s first other rest 0 lt ∙ nodes_from-zero first 0 refl)

at_other : (w : NodesData) → 0 < nodes_size (tree_part 1 w) → (1 + nodes_size (tree_part 0 w) < nodes_size w) × (nodes_from w (1 + nodes_size (tree_part 0 w)) ≡ tree_part 1 w)
at_other no_nodes lt = absurd (omega arith)
at_other (node k l s first other rest) lt =
    let next : 1 + nodes_size first ≡ suc (nodes_size first) = omega arith in (
      omega arith,
      ap (nodes_from (node k l s first other rest)) next
          ∙ from_other k l s first other rest (nodes_size first) (omega arith) (omega arith)
          ∙ nodes_from-zero other (nodes_size first - nodes_size first) (omega arith),
    )

at_rest : (w : NodesData) → 0 < nodes_size (rest_of w)
    → (1 + nodes_size (tree_part 0 w) + nodes_size (tree_part 1 w) < nodes_size w) × (nodes_from w (1 + nodes_size (tree_part 0 w) + nodes_size (tree_part 1 w)) ≡ rest_of w)
at_rest no_nodes lt = absurd (omega arith)
at_rest (node k l s first other rest) lt =
    let next : 1 + nodes_size first + nodes_size other ≡ suc (nodes_size first + nodes_size other) = omega arith in (
      omega arith,
      ap (nodes_from (node k l s first other rest)) next
          ∙ from_rest k l s first other rest (nodes_size first + nodes_size other) (omega arith) (omega arith)
          ∙ nodes_from-zero rest (nodes_size first + nodes_size other - nodes_size first - nodes_size other) (omega arith),
    )

-- where nodes stand among those from a number on, they stand among all
moved : (v w : NodesData) (n m sum : ℕ) → n < nodes_size v → sum ≡ n + m → (m < nodes_size (nodes_from v n)) × (nodes_from (nodes_from v n) m ≡ w) → (sum < nodes_size v) × (nodes_from v sum ≡ w)
moved v w n m sum lt is h = (
  omega (arith, h.0, nodes_from-fits v n lt),
  ap (nodes_from v) is ∙ nodes_from-twice v n m lt h.0 ∙ h.1,
)

pub child_stands : (v : NodesData) (n part : ℕ) (found : Option ℕ) → n < nodes_size v → found ≡ child_number v n part → NodeStands v (tree_part part (nodes_from v n)) found
child_stands v n zero found lt is = rw is (stands_if v (tree_part 0 (nodes_from v n)) (n + 1)
    (λ (some : 0 < nodes_size (tree_part 0 (nodes_from v n))). moved v (tree_part 0 (nodes_from v n)) n 1 (n + 1) lt refl (at_first (nodes_from v n) some)))
child_stands v n (suc zero) found lt is = rw is (stands_if v (tree_part 1 (nodes_from v n)) (n + 1 + nodes_size (tree_part 0 (nodes_from v n)))
    (λ (some : 0 < nodes_size (tree_part 1 (nodes_from v n))).
    moved v (tree_part 1 (nodes_from v n)) n (1 + nodes_size (tree_part 0 (nodes_from v n))) (n + 1 + nodes_size (tree_part 0 (nodes_from v n))) lt (omega arith) (at_other (nodes_from v n) some)))
child_stands v n (suc (suc part)) found lt is = rw is tt

pub next_stands : (v : NodesData) (n : ℕ) (found : Option ℕ) → n < nodes_size v → found ≡ next_number v n → NodeStands v (rest_of (nodes_from v n)) found
next_stands v n found lt is = rw is (stands_if v (rest_of (nodes_from v n)) (n + 1 + nodes_size (tree_part 0 (nodes_from v n)) + nodes_size (tree_part 1 (nodes_from v n)))
    (λ (some : 0 < nodes_size (rest_of (nodes_from v n))).
    moved v (rest_of (nodes_from v n)) n (1 + nodes_size (tree_part 0 (nodes_from v n)) + nodes_size (tree_part 1 (nodes_from v n)))
    (n + 1 + nodes_size (tree_part 0 (nodes_from v n)) + nodes_size (tree_part 1 (nodes_from v n))) lt (omega arith) (at_rest (nodes_from v n) some)))

number_if : (w : NodesData) (size n : ℕ) (found : Option ℕ) → nodes_size w ≡ size → found ≡ (if nat_lt 0 size then Some n else None) → found ≡ node_number w n
number_if w zero n found size e = e ∙ sym (number_none w n size)
number_if w (suc size) n found is e =
    let test : nat_lt 0 (suc size) ≡ true = grind (arith, nat_tests) in
    e ∙ rw test (sym (number_some w n (omega arith)))

-- what `child` finds in the first part and in the `else` part
pub child_first : (v : NodesData) (n part first : ℕ) (found : Option ℕ) → n < nodes_size v → part ≡ 0 → nodes_size (tree_part 0 (nodes_from v n)) ≡ first
    → found ≡ (if nat_lt 0 first then Some (n + 1) else None) → NodeStands v (tree_part part (nodes_from v n)) found
child_first v n part first found lt is_part size e =
    child_stands v n part found lt (rw is_part (number_if (tree_part 0 (nodes_from v n)) first (n + 1) found size e))

pub child_other : (v : NodesData) (n part first other : ℕ) (found : Option ℕ) → n < nodes_size v → part ≡ 1
    → nodes_size (tree_part 0 (nodes_from v n)) ≡ first → nodes_size (tree_part 1 (nodes_from v n)) ≡ other
    → found ≡ (if nat_lt 0 other then Some (n + 1 + first) else None) → NodeStands v (tree_part part (nodes_from v n)) found
child_other v n part first other found lt is_part before size e =
    child_stands v n part found lt (rw (is_part, before) (number_if (tree_part 1 (nodes_from v n)) other (n + 1 + first) found size e))

some_rest : (w : NodesData) → has_nodes w ≡ true → 0 < nodes_size w
some_rest no_nodes e = absurd (true≢false (sym e))
some_rest (node k l s first other rest) e = omega arith

-- what `next` finds
pub next_found : (v : NodesData) (n first other : ℕ) → n < nodes_size v → has_nodes (rest_of (nodes_from v n)) ≡ true
    → nodes_size (tree_part 0 (nodes_from v n)) ≡ first → nodes_size (tree_part 1 (nodes_from v n)) ≡ other → NodeStands v (rest_of (nodes_from v n)) (Some (n + 1 + first + other))
next_found v n first other lt more is_first is_other =
    next_stands v n (Some (n + 1 + first + other)) lt (rw (is_first, is_other) (sym (number_some (rest_of (nodes_from v n)) (n + 1 + first + other) (some_rest (rest_of (nodes_from v n)) more))))

-- the sizes of the parts of the first node
pub sizes : (w : NodesData) → 0 < nodes_size w → nodes_size w ≡ 1 + nodes_size (tree_part 0 w) + nodes_size (tree_part 1 w) + nodes_size (rest_of w)
sizes no_nodes lt = absurd (omega arith)
sizes (node k l s first other rest) lt = omega arith
