-- A template by its number is that of its name.
use Rattle.std.proofs.Common.{◌≡◌, ℕ, List, sym, ap, ◌∙◌, Some}
use Rattle.std.specs.Prelude.{option_and_then}
use Rattle.place_flow.specs.Flows.{edges_at, nodes_at, start_at}
use Rattle.tpl_paths.specs.Edges.{part_begins, edges_in, edges_of, finish_point, nodes_in, path_nodes_of_tree, start_in}
use Rattle.tpl_tree.specs.Forests.{ForestData, number_named, tree_at, tree_named}
use Rattle.tpl_tree.specs.Trees.{NodesData}
use Rattle.tpl_tree.proofs.Named.{tree_at-number_named}

pub tree_at-named : (forest : ForestData) (name : List ℕ) (t : ℕ) → number_named name forest ≡ Some t → tree_at forest t ≡ tree_named name forest
tree_at-named forest name t e = ap (option_and_then (tree_at forest)) (sym e) ∙ tree_at-number_named name forest

pub nodes_at-named : (forest : ForestData) (name : List ℕ) (t : ℕ) → number_named name forest ≡ Some t → nodes_at forest t ≡ nodes_in forest name
nodes_at-named forest name t e = ap path_nodes_of_tree (tree_at-named forest name t e)

pub start_at-named : (forest : ForestData) (name : List ℕ) (t : ℕ) → number_named name forest ≡ Some t → start_at forest t ≡ start_in forest name
start_at-named forest name t e = ap (λ (nodes : NodesData). part_begins nodes 0 finish_point) (nodes_at-named forest name t e)

pub edges_at-named : (forest : ForestData) (name : List ℕ) (t : ℕ) → number_named name forest ≡ Some t → edges_at forest t ≡ edges_in forest name
edges_at-named forest name t e = ap (λ (nodes : NodesData). edges_of nodes 0 finish_point finish_point finish_point) (nodes_at-named forest name t e)
