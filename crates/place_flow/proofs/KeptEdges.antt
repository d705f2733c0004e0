-- The edges that are kept are those of the templates.
use Rattle.std.proofs.Common.{◌≡◌, ℕ, zero, suc, ◌+◌, ◌<◌, ◌≤◌, length, get_or, List, [], ◌∷◌, ◌++◌, Some, refl, sym, ap, ◌∙◌, map, option_map, take, arith}
use Rattle.std.proofs.lemmas.List.{map-append}
use Rattle.std.specs.Global.{Vec}
use Rattle.std.specs.Prelude.{slice_get}
use Rattle.tpl_paths.specs.EdgeViews.{edge_at, read_edges}
use Rattle.tpl_paths.specs.Edges.{Edge, edges_of, finish_point}
use Rattle.tpl_paths.specs.declared.edge.Edge.{Edge as ReadEdge}
use Rattle.tpl_tree.specs.Forests.{ForestData, tree_at}
use Rattle.tpl_tree.specs.Trees.{TreeData}
use Rattle.place_flow.specs.FlowViews.{AreEdgesOf, edges_of_tree}
use Rattle.place_flow.specs.Flows.{edges_at}

tail-edges : (f : List ℕ × TreeData) (fs : ForestData) (w : Vec ReadEdge) (es : List (Vec ReadEdge)) → AreEdgesOf (f ∷ fs) (w ∷ es) → AreEdgesOf fs es
tail-edges f fs w es h = cc

head-edges : (f : List ℕ × TreeData) (fs : ForestData) (w : Vec ReadEdge) (es : List (Vec ReadEdge)) → AreEdgesOf (f ∷ fs) (w ∷ es) → w.items ≡ edges_of_tree f
head-edges f fs w es h = cc

pub kept-edges : (forest : ForestData) (es : List (Vec ReadEdge)) (t : ℕ) (v : Vec ReadEdge) → AreEdgesOf forest es → t < length es → v ≡ get_or es t v → v.items ≡ read_edges (edges_at forest t)
kept-edges forest [] t v h l e = absurd (omega (arith, l))
kept-edges [] (w ∷ es) t v h l e = cc
kept-edges (f ∷ fs) (w ∷ es) zero v h l e = ap (λ (x : Vec ReadEdge). x.items) e ∙ head-edges f fs w es h
kept-edges (f ∷ fs) (w ∷ es) (suc t) v h l e = kept-edges fs es t v (tail-edges f fs w es h) (omega (arith, l)) e

pub no-edges : (forest : ForestData) (es : List (Vec ReadEdge)) (t : ℕ) → AreEdgesOf forest es → length es ≤ t → [] ≡ read_edges (edges_at forest t)
no-edges [] [] zero h l = refl
no-edges [] [] (suc t) h l = refl
no-edges [] (w ∷ es) t h l = cc
no-edges (f ∷ fs) [] t h l = cc
no-edges (f ∷ fs) (w ∷ es) zero h l = absurd (omega (arith, l))
no-edges (f ∷ fs) (w ∷ es) (suc t) h l = no-edges fs es t (tail-edges f fs w es h) (omega (arith, l))

-- an edge by its number
pub read-edge : (es : List Edge) (n : ℕ) → slice_get (read_edges es) n ≡ option_map edge_at (slice_get es n)
read-edge [] zero = refl
read-edge [] (suc n) = refl
read-edge (e ∷ es) zero = refl
read-edge (e ∷ es) (suc n) = read-edge es n

-- the edges of one more template
one-more : (forest : ForestData) (t : ℕ) (tree : TreeData) → Some tree ≡ tree_at forest t
    → map edges_of_tree (take (suc t) forest) ≡ map edges_of_tree (take t forest) ++ read_edges (edges_of tree.nodes 0 finish_point finish_point finish_point) ∷ []
one-more [] zero tree e = cc
one-more [] (suc t) tree e = cc
one-more (f ∷ fs) zero tree e =
    let same : tree ≡ f.1 = cc in
    ap (λ (d : TreeData). read_edges (edges_of d.nodes 0 finish_point finish_point finish_point) ∷ []) (sym same)
one-more (f ∷ fs) (suc t) tree e = ap (λ (es : List (List ReadEdge)). edges_of_tree f ∷ es) (one-more fs t tree e)

pub push-edges : (forest : ForestData) (es : List (Vec ReadEdge)) (t : ℕ) (v : Vec ReadEdge) (tree : TreeData) → map (λ w. w.items) es ≡ map edges_of_tree (take t forest) → Some tree ≡ tree_at forest t
    → v.items ≡ read_edges (edges_of tree.nodes 0 finish_point finish_point finish_point) → map (λ w. w.items) (es ++ v ∷ []) ≡ map edges_of_tree (take (t + 1) forest)
push-edges forest es t v tree h is e =
    let next : t + 1 ≡ suc t = omega arith in
    map-append (λ (w : Vec ReadEdge). w.items) es (v ∷ [])
    ∙ ap (λ (xs : List (List ReadEdge)). xs ++ v.items ∷ []) h
    ∙ ap (λ (x : List ReadEdge). map edges_of_tree (take t forest) ++ x ∷ []) e
    ∙ sym (one-more forest t tree is)
    ∙ ap (λ (n : ℕ). map edges_of_tree (take n forest)) (sym next)
