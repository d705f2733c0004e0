-- The calls of summaries, as they are kept.
use Rattle.std.proofs.Common.{◌≡◌, ℕ, zero, suc, ◌<◌, ◌≤◌, List, [], ◌∷◌, ◌++◌, Option, None, refl, sym, ap, ◌∙◌, subst, length, map, arith}
use Rattle.std.proofs.lemmas.List.{map-append}
use Rattle.std.specs.Global.{Vec}
use Rattle.std.specs.Prelude.{slice_index_or}
use Rattle.place_flow.specs.Flows.{nodes_at}
use Rattle.place_flow.proofs.AtNodes.{nodes-past}
use Rattle.place_infer.specs.ChartViews.{call_in, chart_call, called_by}
use Rattle.place_chart.specs.Exact.{point_place}
use Rattle.place_chart.specs.Summaries.{point_state_in}
use Rattle.place_chart.specs.declared.summary.Summary.{Summary}
use Rattle.tpl_paths.specs.Edges.{before}
use Rattle.tpl_tree.specs.Forests.{ForestData}
use Rattle.tpl_tree.specs.Trees.{NodesData, head_kind, nodes_size}

-- past the last node there is no call
pub no-call : (forest : ForestData) (summaries : List Summary) (summary : Summary) (node : ℕ) (nodes : NodesData) → nodes_at forest summary.template ≡ nodes → nodes_size nodes ≤ node → chart_call forest summaries summary node ≡ None
no-call forest summaries summary node nodes is l =
    let past : nodes_size (nodes_at forest summary.template) ≤ node = subst (λ (m : NodesData). nodes_size m ≤ node) (sym is) l in
    ap (λ (m : NodesData). called_by forest summaries (head_kind m) (point_place (point_state_in summary (before node)))) (nodes-past (nodes_at forest summary.template) node past)

last-call : (xs : List (List (Option ℕ))) (v : List (Option ℕ)) (node : ℕ) → call_in (xs ++ v ∷ []) (length xs) node ≡ slice_index_or v node None
last-call [] v node = refl
last-call (x ∷ xs) v node = last-call xs v node

old-call : (xs : List (List (Option ℕ))) (v : List (Option ℕ)) (j node : ℕ) → j < length xs → call_in (xs ++ v ∷ []) j node ≡ call_in xs j node
old-call [] v j node lt = absurd (omega (arith, lt))
old-call (x ∷ xs) v zero node lt = refl
old-call (x ∷ xs) v (suc j) node lt = old-call xs v j node (omega (arith, lt))

count-map : (xs : List (Vec (Option ℕ))) → length (map (λ v. v.items) xs) ≡ length xs
count-map [] = refl
count-map (x ∷ xs) = ap suc (count-map xs)

pub push-last : (xs : List (Vec (Option ℕ))) (v : Vec (Option ℕ)) (n node : ℕ) → length xs ≡ n → call_in (map (λ w. w.items) (xs ++ v ∷ [])) n node ≡ slice_index_or v.items node None
push-last xs v n node is =
    ap (λ (ys : List (List (Option ℕ))). call_in ys n node) (map-append (λ (w : Vec (Option ℕ)). w.items) xs (v ∷ []))
    ∙ ap (λ (k : ℕ). call_in (map (λ w. w.items) xs ++ v.items ∷ []) k node) (sym (count-map xs ∙ is))
    ∙ last-call (map (λ w. w.items) xs) v.items node

pub push-old : (xs : List (Vec (Option ℕ))) (v : Vec (Option ℕ)) (j node : ℕ) → j < length xs → call_in (map (λ w. w.items) (xs ++ v ∷ [])) j node ≡ call_in (map (λ w. w.items) xs) j node
push-old xs v j node lt =
    let count = count-map xs in
    ap (λ (ys : List (List (Option ℕ))). call_in ys j node) (map-append (λ (w : Vec (Option ℕ)). w.items) xs (v ∷ []))
    ∙ old-call (map (λ w. w.items) xs) v.items j node (omega (arith, lt, count))
