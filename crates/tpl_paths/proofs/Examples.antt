-- Worked examples.
use Rattle.std.proofs.Common.{◌≡◌, ℕ, List, [], ◌∷◌, None, refl, inl, inr}
use Rattle.tpl_paths.specs.declared.choice.Way.TheVariants as chosen
use Rattle.tpl_tree.specs.Pipes.{no_commands}
use Rattle.tpl_tree.specs.Forests.{ForestData}
use Rattle.tpl_tree.specs.Trees.{NodesData, no_nodes, node}
use Rattle.tpl_tree.specs.declared.node_kind.NodeKind.TheVariants as kind
use Rattle.tpl_tree.specs.declared.pipe.Pipe.{Pipe}
use Rattle.tpl_paths.specs.Edges.{again, before, calls, edges_of, finish_point, head, passes, past_point, picks, writes}
use Rattle.tpl_paths.specs.Paths.{IsPath, Move, along, at_root, back, choices_of, enters_at, leaves_call, reached, signs_of, open_standing, text_of}

abbrev dot : Pipe
dot = record { commands = no_commands }

abbrev text : ℕ → NodesData → NodesData
text b rest = node (kind.Text (b ∷ [])) 1 [] no_nodes no_nodes rest

-- {{range .}}A{{break}}{{else}}B{{end}}C
abbrev nodes : NodesData
nodes = node (kind.Range None None dot) 1 [] (text 65 (node kind.Break 1 [] no_nodes no_nodes no_nodes)) (text 66 no_nodes) (text 67 no_nodes)

edges : edges_of nodes 0 finish_point finish_point finish_point
    ≡ passes (before 0) (head 0) ∷ passes (again 0) (head 0) ∷ picks (head 0) chosen.Turn (before 1) ∷ picks (before 0) chosen.Done (before 3) ∷ picks (again 0) chosen.Done (past_point 0) ∷ passes (past_point 0) (before 4)
    ∷ writes 1 (65 ∷ []) (before 2) ∷ passes (before 2) (past_point 0) ∷ writes 3 (66 ∷ []) (past_point 0) ∷ writes 4 (67 ∷ []) finish_point ∷ []
edges = refl

-- {{range .}}A{{end}}{{template "b"}} and b: B
abbrev forest : ForestData
forest = (97 ∷ [], record { nodes = node (kind.Range None None dot) 1 [] (text 65 no_nodes) no_nodes (node (kind.Template (98 ∷ []) None) 1 [] no_nodes no_nodes no_nodes); end_line = 1 })
    ∷ (98 ∷ [], record { nodes = text 66 no_nodes; end_line = 1 }) ∷ []

-- two turns, and the call
abbrev moves : List Move
moves = along (passes (before 0) (head 0)) ∷ along (picks (head 0) chosen.Turn (before 1)) ∷ along (writes 1 (65 ∷ []) (again 0)) ∷ along (passes (again 0) (head 0)) ∷ along (picks (head 0) chosen.Turn (before 1)) ∷ along (writes 1 (65 ∷ []) (again 0)) ∷ along (picks (again 0) chosen.Done (past_point 0))
    ∷ along (passes (past_point 0) (before 2)) ∷ along (calls 2 (98 ∷ []) finish_point) ∷ along (writes 0 (66 ∷ []) finish_point) ∷ back ∷ []

a_walk : IsPath forest (at_root forest (97 ∷ [])) moves
a_walk = (
  (inl refl, refl),
  (
    (inr (inr (inl refl)), refl),
    (
      (inr (inr (inr (inr (inr (inr (inl refl)))))), refl),
      (
        (inr (inl refl), refl),
        (
          (inr (inr (inl refl)), refl),
          (
            (inr (inr (inr (inr (inr (inr (inl refl)))))), refl),
            ((inr (inr (inr (inr (inl refl)))), refl), ((inr (inr (inr (inr (inr (inl refl))))), refl), ((inr (inr (inr (inr (inr (inr (inr (inl refl))))))), refl), ((inl refl, refl), ((tt, refl), tt))))),
          ),
        ),
      ),
    ),
  ),
)

its_end : reached forest (at_root forest (97 ∷ [])) moves ≡ open_standing [] (97 ∷ []) finish_point
its_end = refl

its_signs : signs_of moves ≡ text_of 1 ∷ text_of 1 ∷ enters_at 2 ∷ text_of 0 ∷ leaves_call ∷ []
its_signs = refl

its_choices : choices_of moves ≡ chosen.Turn ∷ chosen.Turn ∷ chosen.Done ∷ []
its_choices = refl
