-- The outputs of pairs, as they are kept.
use Rattle.std.proofs.Common.{◌≡◌, ℕ, zero, suc, ◌<◌, ◌≤◌, List, [], ◌∷◌, ◌++◌, refl, sym, ap, ◌∙◌, subst, length, map, arith}
use Rattle.std.proofs.Math.Seq.{get_or-append_seam}
use Rattle.std.proofs.lemmas.List.{get_or_append_left, map-append}
use Rattle.std.specs.Global.{Vec}
use Rattle.std.specs.Prelude.{slice_index_or}
use Rattle.page_writer.specs.Outputs.{output_at, output_in, output_of}
use Rattle.page_writer.specs.declared.output.Output.{Output}
use Rattle.page_writer.specs.declared.output.Output.TheVariants as output
use Rattle.place_flow.proofs.AtNodes.{nodes-past}
use Rattle.place_flow.specs.Flows.{nodes_at}
use Rattle.place_infer.specs.ChartViews.{ChartData, call_in}
use Rattle.place_chart.specs.Exact.{point_place}
use Rattle.place_chart.specs.Summaries.{point_state_in}
use Rattle.place_chart.specs.declared.summary.Summary.{Summary}
use Rattle.tpl_paths.specs.Edges.{before}
use Rattle.tpl_tree.specs.Forests.{ForestData}
use Rattle.tpl_tree.specs.Trees.{NodesData, head_kind, nodes_size}

-- past the last node there is nothing
pub no-output : (forest : ForestData) (chart : ChartData) (summary : Summary) (n node : ℕ) (nodes : NodesData)
    → nodes_at forest summary.template ≡ nodes → nodes_size nodes ≤ node → output_of forest chart summary n node ≡ output.Nothing
no-output forest chart summary n node nodes is l =
    let past : nodes_size (nodes_at forest summary.template) ≤ node = subst (λ (m : NodesData). nodes_size m ≤ node) (sym is) l in
    ap (λ (m : NodesData). output_at (head_kind m) (point_place (point_state_in summary (before node))) (call_in chart.calls n node))
    (nodes-past (nodes_at forest summary.template) node past)

last-output : (xs : List (List Output)) (v : List Output) (node : ℕ)
    → output_in (xs ++ v ∷ []) (length xs) node ≡ slice_index_or v node output.Nothing
last-output [] v node = refl
last-output (x ∷ xs) v node = last-output xs v node

old-output : (xs : List (List Output)) (v : List Output) (j node : ℕ) → j < length xs
    → output_in (xs ++ v ∷ []) j node ≡ output_in xs j node
old-output [] v j node lt = absurd (omega (arith, lt))
old-output (x ∷ xs) v zero node lt = refl
old-output (x ∷ xs) v (suc j) node lt = old-output xs v j node (omega (arith, lt))

count-map : (xs : List (Vec Output)) → length (map (λ v. v.items) xs) ≡ length xs
count-map [] = refl
count-map (x ∷ xs) = ap suc (count-map xs)

pub push-last : (xs : List (Vec Output)) (v : Vec Output) (n node : ℕ) → length xs ≡ n
    → output_in (map (λ w. w.items) (xs ++ v ∷ [])) n node ≡ slice_index_or v.items node output.Nothing
push-last xs v n node is =
    ap (λ (ys : List (List Output)). output_in ys n node) (map-append (λ (w : Vec Output). w.items) xs (v ∷ []))
    ∙ ap (λ (k : ℕ). output_in (map (λ w. w.items) xs ++ v.items ∷ []) k node) (sym (count-map xs ∙ is))
    ∙ last-output (map (λ w. w.items) xs) v.items node

pub push-old : (xs : List (Vec Output)) (v : Vec Output) (j node : ℕ) → j < length xs
    → output_in (map (λ w. w.items) (xs ++ v ∷ [])) j node ≡ output_in (map (λ w. w.items) xs) j node
push-old xs v j node lt =
    let count = count-map xs in
    ap (λ (ys : List (List Output)). output_in ys j node) (map-append (λ (w : Vec Output). w.items) xs (v ∷ []))
    ∙ old-output (map (λ w. w.items) xs) v.items j node (omega (arith, lt, count))

-- one more output of a pair
pub pushed-last : (xs : List Output) (o : Output) (j : ℕ) → j ≡ length xs → slice_index_or (xs ++ o ∷ []) j output.Nothing ≡ o
pushed-last xs o j is = ap (λ (k : ℕ). slice_index_or (xs ++ o ∷ []) k output.Nothing) is ∙ get_or-append_seam xs o [] output.Nothing

pub pushed-old : (xs : List Output) (o : Output) (j : ℕ) → j < length xs
    → slice_index_or (xs ++ o ∷ []) j output.Nothing ≡ slice_index_or xs j output.Nothing
pushed-old xs o j lt = get_or_append_left xs (o ∷ []) output.Nothing j lt
