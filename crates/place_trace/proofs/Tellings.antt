-- What is told of a path's choices, move after move.
use Rattle.std.proofs.Common.{◌≡◌, ℕ, List, [], ◌∷◌, ◌++◌, Option, Some, map, refl, sym, ap, ap₂, ◌∙◌}
use Rattle.place_flow.specs.Flows.{choice_of}
use Rattle.place_trace.specs.Moving.{noted}
use Rattle.place_trace.specs.Replays.{IsNameKnown, name_or_none, point_node, told, told_edge, told_of}
use Rattle.tpl_paths.specs.Edges.{Edge, Point, calls, fills, from_of, passes, picks, writes}
use Rattle.tpl_paths.specs.Paths.{Move, Standing, along, along_edge, back, left_calls, reached}
use Rattle.tpl_paths.specs.declared.choice.Way.{Way}
use Rattle.tpl_tree.specs.Forests.{ForestData, tree_name_at}

edge-append : (name : List ℕ) (e : Edge) (xs ys : List IsNameKnown) → told_edge name e (xs ++ ys) ≡ told_edge name e xs ++ ys
edge-append name (writes n bytes to) xs ys = refl
edge-append name (fills n pipe to) xs ys = refl
edge-append name (calls n callee to) xs ys = refl
edge-append name (picks from choice to) xs ys = refl
edge-append name (passes from to) xs ys = refl

pub told-append : (forest : ForestData) (a : Standing) (ms ns : List Move) → told forest a (ms ++ ns) ≡ told forest a ms ++ told forest (reached forest a ms) ns
told-append forest a [] ns = refl
told-append forest a (along e ∷ ms) ns =
    ap (told_edge a.template e) (told-append forest (along_edge forest a e) ms ns)
    ∙ edge-append a.template e (told forest (along_edge forest a e) ms) (told forest (reached forest (along_edge forest a e) ms) ns)
told-append forest a (back ∷ ms) ns = told-append forest (left_calls a.open_calls a) ms ns

abbrev choice-told : (choice : Way) → Option (List ℕ) → Point → List IsNameKnown
choice-told choice o k = (let x : IsNameKnown = record { template = name_or_none o; node = point_node k; way = choice } in x ∷ [])

-- an edge tells what is noted of its choice
pub edge-noted : (forest : ForestData) (t : ℕ) (name : List ℕ) (k : Point) (e : Edge) → tree_name_at forest t ≡ Some name → k ≡ from_of e
    → told_edge name e [] ≡ map (told_of forest) (noted t k (choice_of e))
edge-noted forest t name k (writes n bytes to) is same = refl
edge-noted forest t name k (fills n pipe to) is same = refl
edge-noted forest t name k (calls n callee to) is same = refl
edge-noted forest t name k (picks from choice to) is same = ap₂ (choice-told choice) (sym is) (sym same)
edge-noted forest t name k (passes from to) is same = refl
