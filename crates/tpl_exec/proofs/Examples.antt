-- Small templates, executed by the definition alone.
use Rattle.std.specs.Prelude.{◌≡◌, ℕ, codes, List, [], ◌∷◌, Some, None, pos}
use Rattle.std.specs.Prelude.{refl}
use Rattle.page_datum.specs.Data.{Data, null, text, list, dict, DataList, no_items, item, no_entries}
use Rattle.page_datum.specs.declared.fault.FaultKind.TheVariants as fault_kind
use Rattle.tpl_exec.specs.Meaning.{meaning}
use Rattle.tpl_events.specs.Events.{ExecEvent, Emission, gives_hole, gives_text}
use Rattle.tpl_exec.specs.Runs.{End, Run, done, else_part, faulted, next, then_part, turn}
use Rattle.tpl_symbol.specs.declared.func.Func.TheVariants as func
use Rattle.tpl_tree.specs.Forests.{ForestData}
use Rattle.tpl_tree.specs.Pipes.{no_commands, command, CommandData, single, call, no_operands, operand, OperandData, with_fields, BaseData, str, number, dot, variable}
use Rattle.tpl_tree.specs.Trees.{NodesData, no_nodes, node}
use Rattle.tpl_tree.specs.declared.node_kind.NodeKind.{NodeKind}
use Rattle.tpl_tree.specs.declared.node_kind.NodeKind.TheVariants as kind
use Rattle.tpl_tree.specs.declared.pipe.Pipe.{Pipe}

abbrev name : List ℕ
name = codes "a.html"

-- a pipe of one command
abbrev pipe : CommandData → Pipe
pipe c = record { commands = command c no_commands }

abbrev bare : BaseData → OperandData
bare base = with_fields base []

-- fields of dot
abbrev fields : List (List ℕ) → OperandData
fields names = with_fields dot names

-- a node on line 1, and what follows it
abbrev at_1 : NodeKind → NodesData → NodesData → NodesData → NodesData
at_1 k first other rest = node k 1 [] first other rest

-- one node alone
abbrev alone : NodeKind → NodesData
alone k = at_1 k no_nodes no_nodes no_nodes

abbrev one_template : NodesData → ForestData
one_template nodes = (name, record { nodes = nodes; end_line = 1 }) ∷ []

abbrev run_of : NodesData → Data → Run
run_of nodes datum = meaning (one_template nodes) name datum

abbrev emitted : ExecEvent → Emission
emitted event = record { event = event; template = name; line = 1 }

abbrev end_of : Run → End
end_of run = run.end

-- {{range 3}}x{{end}}
range_of_a_number : end_of (run_of (at_1 (kind.Range None None (pipe (single (bare (number (pos 3)))))) (alone (kind.Text (codes "x"))) no_nodes no_nodes) null)
    ≡ faulted (record { kind = fault_kind.NotRangeable; template = name; line = 1 })
range_of_a_number = refl

-- {{slice "äb" 1}}
slice_in_a_character : end_of (run_of (alone (kind.Action (pipe (call func.Slice (operand (bare (str (195 ∷ 164 ∷ 98 ∷ []))) (operand (bare (number (pos 1))) no_operands)))))) null)
    ≡ faulted (record { kind = fault_kind.SliceRange; template = name; line = 1 })
slice_in_a_character = refl

-- {{.a.b}} with {}
field_of_null : end_of (run_of (alone (kind.Action (pipe (single (fields (codes "a" ∷ codes "b" ∷ [])))))) (dict no_entries))
    ≡ faulted (record { kind = fault_kind.NilField; template = name; line = 1 })
field_of_null = refl

-- {{eq 1 "1"}}
two_kinds : end_of (run_of (alone (kind.Action (pipe (call func.Eq (operand (bare (number (pos 1))) (operand (bare (str (codes "1"))) no_operands)))))) null)
    ≡ faulted (record { kind = fault_kind.NotComparable; template = name; line = 1 })
two_kinds = refl

-- {{range $i, $e := .}}{{if $i}}, {{end}}{{$e}}{{else}}none{{end}}
abbrev joined : NodesData
joined = at_1 (kind.Range (Some (codes "i")) (Some (codes "e")) (pipe (single (fields []))))
    (at_1 (kind.If None (pipe (single (bare (variable (codes "i")))))) (alone (kind.Text (codes ", "))) no_nodes (alone (kind.Action (pipe (single (bare (variable (codes "e"))))))))
    (alone (kind.Text (codes "none"))) no_nodes

abbrev texts : DataList
texts = item (text (codes "a")) (item (text (codes "b")) no_items)

two_turns : run_of joined (list texts) ≡ record {
  events = emitted (gives_hole 3 (text (codes "a"))) ∷ emitted (gives_text 2) ∷ emitted (gives_hole 3 (text (codes "b"))) ∷ [];
  choices = turn ∷ else_part ∷ turn ∷ then_part ∷ done ∷ [];
  end = next (record { variables = ([], list texts) ∷ []; steps = 13 });
}
two_turns = refl

no_turn : run_of joined null ≡ record {
  events = emitted (gives_text 4) ∷ [];
  choices = done ∷ [];
  end = next (record { variables = ([], null) ∷ []; steps = 3 });
}
no_turn = refl
