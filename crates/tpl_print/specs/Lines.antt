-- Trees apart from their lines.
use Rattle.std.specs.Prelude.{[]}
use Rattle.tpl_tree.specs.Trees.{NodesData, no_nodes, node}

-- the nodes, each on line 1 and without seams
abbrev pub without_lines : NodesData → NodesData
without_lines no_nodes = no_nodes
without_lines (node kind line seams first other rest) = node kind 1 [] (without_lines first) (without_lines other) (without_lines rest)
