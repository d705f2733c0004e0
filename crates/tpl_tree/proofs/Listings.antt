-- The listing of a tree: its length, that it gives the tree back, and what it is for nodes after others.
use Rattle.std.proofs.Common.{◌≡◌, ℕ, zero, suc, ◌+◌, ◌<◌, ◌≤◌, ◌^◌, ◌-◌, true, false, List, [], ◌∷◌, ◌++◌, length, get_or, set, take, drop, take_at, drop_at, append_assoc, append-nil, length-append, refl, sym, ap, subst, ◌∙◌, nat_lt, true≢false, arith}
use Rattle.std.proofs.lemmas.Bool.Decides.{nat_tests}
use Rattle.tpl_symbol.specs.declared.symbol.Seam.{Seam}
use Rattle.tpl_tree.specs.Listing.{has_nodes, listing, nodes_within, nodes_of, last_node, with_more, linked, IsListing, IsBody}
use Rattle.tpl_tree.specs.Trees.{NodesData, no_nodes, node, nodes_size, append, is_text_node, IsFineNode, IsFineTree}
use Rattle.tpl_tree.specs.declared.node_kind.NodeKind.{NodeKind}
use Rattle.tpl_tree.specs.declared.node_kind.NodeKind.TheVariants as kind
use Rattle.tpl_tree.specs.declared.entry.Entry.{Entry}

pub length-listing : (v : NodesData) → length (listing v) ≡ nodes_size v
length-listing no_nodes = refl
length-listing (node k l s first other rest) =
    omega (arith, length-append (listing first) (listing other ++ listing rest), length-append (listing other) (listing rest), length-listing first, length-listing other, length-listing rest)

nodes_within-listing : (n : ℕ) (v : NodesData) → nodes_size v ≤ n → nodes_within n (listing v) ≡ v
nodes_within-listing zero no_nodes le = refl
nodes_within-listing zero (node k l s first other rest) le = absurd (omega arith)
nodes_within-listing (suc n) no_nodes le = refl
nodes_within-listing (suc n) (node k l s first other rest) le =
    let behind : drop (nodes_size first) (listing first ++ (listing other ++ listing rest)) ≡ listing other ++ listing rest
    = drop_at (listing first) (listing other ++ listing rest) (nodes_size first) (length-listing first) in
    let one : nodes_within n (take (nodes_size first) (listing first ++ (listing other ++ listing rest))) ≡ first
    = ap (nodes_within n) (take_at (listing first) (listing other ++ listing rest) (nodes_size first) (length-listing first))
    ∙ nodes_within-listing n first (omega arith) in
    let two : nodes_within n (take (nodes_size other) (drop (nodes_size first) (listing first ++ (listing other ++ listing rest)))) ≡ other
    = ap (λ (xs : List Entry). nodes_within n (take (nodes_size other) xs)) behind
    ∙ ap (nodes_within n) (take_at (listing other) (listing rest) (nodes_size other) (length-listing other))
    ∙ nodes_within-listing n other (omega arith) in
    let three : nodes_within n (drop (nodes_size other) (drop (nodes_size first) (listing first ++ (listing other ++ listing rest)))) ≡ rest
    = ap (λ (xs : List Entry). nodes_within n (drop (nodes_size other) xs)) behind
    ∙ ap (nodes_within n) (drop_at (listing other) (listing rest) (nodes_size other) (length-listing other))
    ∙ nodes_within-listing n rest (omega arith) in
    λ i. node k l s (one i) (two i) (three i)

-- the listing of a tree gives the tree back
pub nodes_of-listing : (v : NodesData) → nodes_of (listing v) ≡ v
nodes_of-listing v = nodes_within-listing (length (listing v)) v (omega (arith, length-listing v))

pub nodes_of-is : (es : List Entry) (v : NodesData) → es ≡ listing v → nodes_of es ≡ v
nodes_of-is es v e = ap nodes_of e ∙ nodes_of-listing v

pub is_listing : (es : List Entry) (v : NodesData) → es ≡ listing v → IsFineTree v → length es < 2 ^ 32 → IsListing es
is_listing es v e fine bound = record {
  listed = ap listing (nodes_of-is es v e) ∙ sym e;
  fine = rw (nodes_of-is es v e) fine;
  bound = bound;
}

pub is_body : (es : List Entry) (v : NodesData) (number : ℕ) → es ≡ listing v → IsFineTree v → length es < 2 ^ 32 → number ≡ last_node v → IsBody es number
is_body es v number e fine bound last = record {
  kept = is_listing es v e fine bound;
  last = last ∙ ap last_node (sym (nodes_of-is es v e));
}

pub size-append : (v w : NodesData) → nodes_size (append v w) ≡ nodes_size v + nodes_size w
size-append no_nodes w = omega arith
size-append (node k l s first other rest) w = omega (arith, size-append rest w)

pub append-no_nodes : (v : NodesData) → append v no_nodes ≡ v
append-no_nodes no_nodes = refl
append-no_nodes (node k l s first other rest) = λ i. node k l s first other (append-no_nodes rest i)

pub fine-append : (v w : NodesData) → IsFineTree v → IsFineTree w → IsFineTree (append v w)
fine-append no_nodes w a b = b
fine-append (node k l s first other rest) w a b = (a.0, a.1, a.2, fine-append rest w a.3 b)

with_more-behind : (xs ys : List Entry) (n m : ℕ) → m ≡ length xs + n → with_more (xs ++ ys) m ≡ xs ++ with_more ys n
with_more-behind [] ys n m e = ap (with_more ys) (omega (arith, e))
with_more-behind (x ∷ xs) ys n zero e = absurd (omega arith)
with_more-behind (x ∷ xs) ys n (suc m) e = ap (λ (zs : List Entry). x ∷ zs) (with_more-behind xs ys n m (omega arith))

with_more-before : (xs ys : List Entry) (n : ℕ) → n < length xs → with_more (xs ++ ys) n ≡ with_more xs n ++ ys
with_more-before [] ys n lt = absurd (omega arith)
with_more-before (x ∷ xs) ys zero lt = refl
with_more-before (x ∷ xs) ys (suc n) lt = ap (λ (zs : List Entry). x ∷ zs) (with_more-before xs ys n (omega arith))

last_node-inside : (v : NodesData) → has_nodes v ≡ true → last_node v < nodes_size v
last_node-inside no_nodes e = absurd (true≢false (sym e))
last_node-inside (node k l s first other no_nodes) e = omega arith
last_node-inside (node k l s first other (node k2 l2 s2 first2 other2 rest2)) e = omega (arith, last_node-inside (node k2 l2 s2 first2 other2 rest2) refl)

last_node-fits : (v : NodesData) → last_node v ≤ nodes_size v
last_node-fits no_nodes = omega arith
last_node-fits (node k l s first other rest) = omega (arith, last_node-inside (node k l s first other rest) refl)

-- nodes after others: the flag of the last of those is set
listing-append_some : (v w : NodesData) → has_nodes v ≡ true → has_nodes w ≡ true → listing (append v w) ≡ with_more (listing v) (last_node v) ++ listing w
listing-append_some no_nodes w e d = absurd (true≢false (sym e))
listing-append_some (node k l s first other no_nodes) w e d =
    let head : Entry = record { kind = k; line = l; seams = s; first = nodes_size first; other = nodes_size other; more = true } in
    let told : listing (append (node k l s first other no_nodes) w) ≡ head ∷ (listing first ++ (listing other ++ listing w)) = rw d refl in
    let moved : (listing first ++ (listing other ++ [])) ++ listing w ≡ listing first ++ (listing other ++ listing w)
    = append_assoc (listing first) (listing other ++ []) (listing w)
    ∙ ap (λ (xs : List Entry). listing first ++ (xs ++ listing w)) (append-nil (listing other)) in
    told ∙ ap (λ (xs : List Entry). head ∷ xs) (sym moved)
listing-append_some (node k l s first other (node k2 l2 s2 first2 other2 rest2)) w e d =
    let next : NodesData = node k2 l2 s2 first2 other2 rest2 in
    let head : Entry = record { kind = k; line = l; seams = s; first = nodes_size first; other = nodes_size other; more = true } in
    let inner : with_more (listing other ++ listing next) (nodes_size other + last_node next) ≡ listing other ++ with_more (listing next) (last_node next)
    = with_more-behind (listing other) (listing next) (last_node next) (nodes_size other + last_node next) (omega (arith, length-listing other)) in
    let outer : with_more (listing first ++ (listing other ++ listing next)) (nodes_size first + (nodes_size other + last_node next)) ≡ listing first ++ (listing other ++ with_more (listing next) (last_node next))
    = with_more-behind (listing first) (listing other ++ listing next) (nodes_size other + last_node next) (nodes_size first + (nodes_size other + last_node next)) (omega (arith, length-listing first))
    ∙ ap (λ (xs : List Entry). listing first ++ xs) inner in
    let hypothesis : listing (append next w) ≡ with_more (listing next) (last_node next) ++ listing w = listing-append_some (node k2 l2 s2 first2 other2 rest2) w refl d in
    let moved : (listing first ++ (listing other ++ with_more (listing next) (last_node next))) ++ listing w ≡ listing first ++ (listing other ++ (with_more (listing next) (last_node next) ++ listing w))
    = append_assoc (listing first) (listing other ++ with_more (listing next) (last_node next)) (listing w)
    ∙ ap (λ (xs : List Entry). listing first ++ xs) (append_assoc (listing other) (with_more (listing next) (last_node next)) (listing w)) in
    ap (λ (xs : List Entry). head ∷ xs)
    (ap (λ (xs : List Entry). listing first ++ (listing other ++ xs)) hypothesis ∙ sym moved ∙ ap (λ (xs : List Entry). xs ++ listing w) (sym outer))

some_nodes : (v : NodesData) → 0 < nodes_size v → has_nodes v ≡ true
some_nodes no_nodes lt = absurd (omega arith)
some_nodes (node k l s first other rest) lt = refl

pub listing-append : (v w : NodesData) → 0 < nodes_size w → listing (append v w) ≡ linked (listing v ++ listing w) (nodes_size v) (last_node v)
listing-append no_nodes w lt = refl
listing-append (node k l s first other rest) w lt =
    let v : NodesData = node k l s first other rest in
    let inside : last_node v < nodes_size v = last_node-inside v refl in
    let test : nat_lt (last_node v) (nodes_size v) ≡ true = grind (arith, nat_tests) in
    rw (listing-append_some v w refl (some_nodes w lt), test) (sym (with_more-before (listing v) (listing w) (last_node v) (omega (arith, length-listing v))))

pub last_node-append : (v w : NodesData) → 0 < nodes_size w → last_node (append v w) ≡ nodes_size v + last_node w
last_node-append no_nodes w lt = omega arith
last_node-append (node k l s first other no_nodes) no_nodes lt = absurd (omega arith)
last_node-append (node k l s first other no_nodes) (node k2 l2 s2 first2 other2 rest2) lt = omega arith
last_node-append (node k l s first other (node k2 l2 s2 first2 other2 rest2)) w lt = omega (arith, last_node-append (node k2 l2 s2 first2 other2 rest2) w lt)

-- the entries of a part are its listing
pub body_listing : (es : List Entry) (v : NodesData) → IsListing es → nodes_of es ≡ v → es ≡ listing v
body_listing es v kept e = sym kept.listed ∙ ap listing e

pub fine_node : (k : NodeKind) (l : ℕ) → is_text_node k ≡ false → IsFineNode k l []
fine_node (kind.Text text) l e = absurd (true≢false e)
fine_node (kind.Action p) l e = refl
fine_node (kind.Declare name p) l e = refl
fine_node (kind.Assign name p) l e = refl
fine_node (kind.If name p) l e = refl
fine_node (kind.With name p) l e = refl
fine_node (kind.Range index element p) l e = refl
fine_node kind.Break l e = refl
fine_node kind.Continue l e = refl
fine_node (kind.Template name p) l e = refl

pub size-kept : (es : List Entry) (v : NodesData) → IsListing es → nodes_of es ≡ v → length es ≡ nodes_size v
size-kept es v kept e = ap length (body_listing es v kept e) ∙ length-listing v

pub last-fits : (es : List Entry) (n : ℕ) → IsBody es n → n ≤ length es
last-fits es n b =
    let same : length es ≡ nodes_size (nodes_of es) = ap length (sym b.kept.listed) ∙ length-listing (nodes_of es) in
    omega (arith, b.last, last_node-fits (nodes_of es))

-- what `link` writes
pub set-more : (xs : List Entry) (n : ℕ) (r : Entry) → n < length xs → r ≡ get_or xs n r
    → set xs n (record { kind = r.kind; line = r.line; seams = r.seams; first = r.first; other = r.other; more = true }) ≡ with_more xs n
set-more [] n r lt e = absurd (omega arith)
set-more (x ∷ xs) zero r lt e = ap (λ (y : Entry). record { kind = y.kind; line = y.line; seams = y.seams; first = y.first; other = y.other; more = true } ∷ xs) e
set-more (x ∷ xs) (suc n) r lt e = ap (λ (ys : List Entry). x ∷ ys) (set-more xs n r (omega arith) e)

-- what `join` makes of the entries of two parts
pub joined : (es fs all made : List Entry) (count n m : ℕ) (v w : NodesData) → IsBody es n → nodes_of es ≡ v → IsBody fs m → nodes_of fs ≡ w
    → count ≡ length es → 0 < length fs → length es + length fs < 2 ^ 32 → all ≡ es ++ fs → made ≡ linked all count n
    → IsBody made (count + m) × (nodes_of made ≡ append v w)
joined es fs all made count n m v w b is_v d is_w is_count some bound both e =
    let one : es ≡ listing v = body_listing es v b.kept is_v in
    let two : fs ≡ listing w = body_listing fs w d.kept is_w in
    let size_v : length es ≡ nodes_size v = ap length one ∙ length-listing v in
    let size_w : length fs ≡ nodes_size w = ap length two ∙ length-listing w in
    let same : count ≡ nodes_size v = is_count ∙ size_v in
    let last_v : n ≡ last_node v = b.last ∙ ap last_node is_v in
    let last_w : m ≡ last_node w = d.last ∙ ap last_node is_w in
    let is : made ≡ listing (append v w)
    = e ∙ rw (both, same, last_v, one, two) (sym (listing-append v w (omega arith))) in
    let fine : IsFineTree (append v w) = fine-append v w (rw is_v at b.kept.fine) (rw is_w at d.kept.fine) in
    let size : length made ≡ nodes_size v + nodes_size w = ap length is ∙ length-listing (append v w) ∙ size-append v w in
    let last : last_node (append v w) ≡ nodes_size v + last_node w = last_node-append v w (omega arith) in (
      is_body made (append v w) (count + m) is fine (omega arith) (omega arith),
      nodes_of-is made (append v w) is,
    )

-- what a node without parts makes of them
pub alone : (k : NodeKind) (l : ℕ) (s : List Seam) (es all made : List Entry) (count n : ℕ) (v : NodesData) → IsBody es n → nodes_of es ≡ v
    → count ≡ length es → length es + 1 < 2 ^ 32 → is_text_node k ≡ false → s ≡ []
    → all ≡ es ++ record { kind = k; line = l; seams = s; first = 0; other = 0; more = false } ∷ [] → made ≡ linked all count n
    → IsBody made count × (nodes_of made ≡ append v (node k l [] no_nodes no_nodes no_nodes))
alone k l s es all made count n v b is_v is_count bound is_k is_s is_all is_made =
    let w = node k l [] no_nodes no_nodes no_nodes in
    let fs : List Entry = record { kind = k; line = l; seams = []; first = 0; other = 0; more = false } ∷ [] in
    let d = is_body fs w 0 refl (fine_node k l is_k, tt, tt, tt) (omega arith) refl in
    let is : all ≡ es ++ fs = is_all ∙ rw is_s refl in
    let both = joined es fs all made count n 0 v w b is_v d (nodes_of-is fs w refl) is_count (omega arith) (omega arith) is is_made in
    let same : count + 0 ≡ count = omega arith in
    (subst (λ (m : ℕ). IsBody made m) same both.0, both.1)

-- no entries after others
pub joined-none : (fs : List Entry) (v w : NodesData) → length fs ≡ 0 → nodes_of fs ≡ w → v ≡ append v w
joined-none [] v w none is_w = sym (append-no_nodes v) ∙ ap (append v) is_w
joined-none (f ∷ fs) v w none is_w = absurd (omega arith)

-- what `control_node` makes of the entries of two parts
pub controls : (k : NodeKind) (l : ℕ) (s : List Seam) (es fs none one two made : List Entry) (n m : ℕ) (v w : NodesData)
    → IsListing es → nodes_of es ≡ v → IsListing fs → nodes_of fs ≡ w
    → n ≡ length es → m ≡ length fs → is_text_node k ≡ false → length es + length fs < 2 ^ 32 - 1 → s ≡ [] → none ≡ []
    → one ≡ none ++ record { kind = k; line = l; seams = s; first = n; other = m; more = false } ∷ [] → two ≡ one ++ es → made ≡ two ++ fs
    → IsBody made 0 × (nodes_of made ≡ node k l [] v w no_nodes)
controls k l s es fs none one two made n m v w b is_v d is_w is_n is_m is_k bound is_s is_none is_one is_two is_made =
    let first : es ≡ listing v = body_listing es v b is_v in
    let other : fs ≡ listing w = body_listing fs w d is_w in
    let size_v : n ≡ nodes_size v = is_n ∙ ap length first ∙ length-listing v in
    let size_w : m ≡ nodes_size w = is_m ∙ ap length other ∙ length-listing w in
    let is : made ≡ listing (node k l [] v w no_nodes)
    = is_made ∙ rw (is_two, is_one, is_none, is_s, size_v, size_w, first, other, append-nil) refl in
    let fine : IsFineTree (node k l [] v w no_nodes) = (fine_node k l is_k, rw is_v at b.fine, rw is_w at d.fine, tt) in
    let size : length made ≡ suc (nodes_size v + (nodes_size w + 0)) = ap length is ∙ length-listing (node k l [] v w no_nodes) in (
      is_body made (node k l [] v w no_nodes) 0 is fine (omega arith) refl,
      nodes_of-is made (node k l [] v w no_nodes) is,
    )
