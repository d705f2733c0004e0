-- What each action does to what was read before it.
use Rattle.std.specs.Prelude.{ℕ, zero, suc, ◌-◌, ◌==◌, Bool, true, false, ◌&&◌, ◌||◌, if◌then◌else◌, List, [], ◌∷◌, ◌++◌, length, take, Option, Some, None}
use Rattle.std.specs.List.{list_all}
use Rattle.tpl_build.specs.declared.definition.Def.{Def}
use Rattle.tpl_build.specs.declared.definition.FoundDefinition.{FoundDefinition}
use Rattle.tpl_build.specs.declared.frame.Around.{Around}
use Rattle.tpl_build.specs.declared.frame.Control.{Control}
use Rattle.tpl_build.specs.declared.frame.Control.TheVariants as control
use Rattle.tpl_build.specs.declared.frame.OpenForm.{OpenForm}
use Rattle.tpl_build.specs.declared.frame.OpenForm.TheVariants as frame
use Rattle.tpl_build.specs.declared.frame.OpenControl.{OpenControl}
use Rattle.tpl_build.specs.declared.frame.OpenDefinition.{OpenDefinition}
use Rattle.tpl_build.specs.declared.action.ActionKind.{ActionKind}
use Rattle.tpl_build.specs.declared.action.ActionKind.TheVariants as action_kind
use Rattle.tpl_build.specs.declared.action.Opening.{Opening}
use Rattle.tpl_build.specs.declared.action.Purpose.{Purpose}
use Rattle.tpl_build.specs.declared.action.Purpose.TheVariants as purpose
use Rattle.tpl_build.specs.declared.builder.Builder.{Builder}
use Rattle.tpl_symbol.specs.declared.symbol.Seam.{Seam}
use Rattle.tpl_token.specs.Characters.{is_white}
use Rattle.tpl_tree.specs.Trees.{NodesData, no_nodes, node, TreeData, append}
use Rattle.tpl_tree.specs.declared.node_kind.NodeKind.{NodeKind}
use Rattle.tpl_tree.specs.declared.node_kind.NodeKind.TheVariants as kind
use Rattle.tpl_tree.specs.declared.pipe.Pipe.{Pipe}

abbrev pub builder_of : List OpenForm → NodesData → List (List ℕ) → Bool → ℕ → Bool → List FoundDefinition → Builder
builder_of frames body variables in_range room blank found =
    record { frames = frames; body = body; variables = variables; in_range = in_range; room = room; blank = blank; found = found }

-- nothing is read of a file, in which so many controls and parentheses may be opened
abbrev pub empty_builder : ℕ → Builder
empty_builder room = builder_of [] no_nodes [] false room true []

-- one node
abbrev pub one_node : NodeKind → ℕ → List Seam → NodesData → NodesData → NodesData
one_node what line seams first other = node what line seams first other no_nodes

-- a text more
abbrev pub with_text : List ℕ → ℕ → List Seam → Builder → Builder
with_text bytes line seams n = builder_of n.frames (append n.body (one_node (kind.Text bytes) line seams no_nodes no_nodes)) n.variables n.in_range n.room (n.blank && list_all is_white bytes) n.found

-- a node more that is no text and has no parts
abbrev pub with_node : NodeKind → ℕ → Builder → Builder
with_node what line n = builder_of n.frames (append n.body (one_node what line [] no_nodes no_nodes)) n.variables n.in_range n.room false n.found

-- a variable more
abbrev pub with_variable : List ℕ → Builder → Builder
with_variable x n = builder_of n.frames n.body (n.variables ++ x ∷ []) n.in_range n.room n.blank n.found

abbrev pub names_of : Option (List ℕ) → List (List ℕ)
names_of None = []
names_of (Some x) = x ∷ []

-- the variables of a control that live in its first part, and in its `else` part
abbrev pub first_names : Control → List (List ℕ)
first_names (control.If x) = names_of x
first_names (control.With x) = names_of x
first_names (control.Range i e) = names_of i ++ names_of e

abbrev pub else_names : Control → List (List ℕ)
else_names (control.If x) = names_of x
else_names (control.With x) = names_of x
else_names (control.Range i e) = []

abbrev pub is_range : Control → Bool
is_range (control.If _) = false
is_range (control.With _) = false
is_range (control.Range _ _) = true

-- the node of a control
abbrev pub node_kind_of : Control → Pipe → NodeKind
node_kind_of (control.If x) p = kind.If x p
node_kind_of (control.With x) p = kind.With x p
node_kind_of (control.Range i e) p = kind.Range i e p

abbrev pub around : Builder → Around
around n = record { variables = length n.variables; in_range = n.in_range; room = n.room }

abbrev pub open_control : Control → Pipe → ℕ → NodesData → Option NodesData → Bool → Around → OpenForm
open_control c p line before first chained a = frame.Control (record { control = c; pipe = p; line = line; before = before; first = first; chained = chained; around = a })

-- a control is opened
abbrev pub form_opened : Control → Pipe → ℕ → Bool → Builder → Builder
form_opened c p line chained n =
    builder_of (open_control c p line n.body None chained (around n) ∷ n.frames) no_nodes (n.variables ++ first_names c) (is_range c || n.in_range) (n.room - 1) false n.found

-- the innermost control goes on with its `else` part
abbrev pub else_from : List OpenForm → Builder → Builder
else_from [] n = n
else_from (frame.Definition d ∷ frames) n = n
else_from (frame.Control c ∷ frames) n =
    builder_of (open_control c.control c.pipe c.line c.before (Some n.body) c.chained c.around ∷ frames) no_nodes (take c.around.variables n.variables ++ else_names c.control) c.around.in_range n.room false n.found

-- the same, where that control was taken off what is open
abbrev pub other_begun : OpenControl → Builder → Builder
other_begun c n = else_from (frame.Control c ∷ n.frames) n

abbrev pub with_else : Builder → Builder
with_else n = else_from n.frames n

-- the parts of a control whose last part ends here
abbrev pub first_part : Option NodesData → NodesData → NodesData
first_part None body = body
first_part (Some first) body = first

abbrev pub other_part : Option NodesData → NodesData → NodesData
other_part None body = no_nodes
other_part (Some first) body = body

-- a control is closed
abbrev pub closed_control : List OpenForm → OpenControl → Builder → Builder
closed_control frames c n =
    builder_of frames (append c.before (one_node (node_kind_of c.control c.pipe) c.line [] (first_part c.first n.body) (other_part c.first n.body)))
    (take c.around.variables n.variables) c.around.in_range c.around.room false n.found

abbrev pub def_of : List ℕ → Bool → NodesData → ℕ → Def
def_of name blank nodes end_line = record { name = name; blank = blank; tree = record { nodes = nodes; end_line = end_line } }

abbrev pub found_of : Def → ℕ → FoundDefinition
found_of d line = record { def = d; line = line }

-- a definition gets its tree
abbrev pub filled_one : Bool → TreeData → FoundDefinition → FoundDefinition
filled_one blank tree f = found_of (record { name = f.def.name; blank = blank; tree = tree }) f.line

-- that with this number gets its tree
abbrev pub frame_filled : ℕ → Bool → TreeData → List FoundDefinition → List FoundDefinition
frame_filled slot blank tree [] = []
frame_filled zero blank tree (f ∷ found) = filled_one blank tree f ∷ found
frame_filled (suc slot) blank tree (f ∷ found) = f ∷ frame_filled slot blank tree found

-- the line of a body's last byte, 1 where the body is empty
abbrev pub end_line : ℕ → Opening → ℕ
end_line begins o = if begins == o.start then 1 else o.before

abbrev pub open_definition : ℕ → ℕ → NodesData → List (List ℕ) → Bool → Bool → OpenForm
open_definition slot begins body variables in_range blank =
    frame.Definition (record { slot = slot; begins = begins; before = body; variables = variables; in_range = in_range; blank = blank })

-- a definition is opened: until it is closed, it is among the others without a tree
abbrev pub with_definition : List ℕ → ℕ → ℕ → Builder → Builder
with_definition name line begins n =
    builder_of (open_definition (length n.found) begins n.body n.variables n.in_range n.blank ∷ n.frames)
    no_nodes [] false n.room true (n.found ++ found_of (def_of name true no_nodes 1) line ∷ [])

abbrev pub closed_definition : List OpenForm → OpenDefinition → Opening → Builder → Builder
closed_definition frames d o n =
    builder_of frames d.before d.variables d.in_range n.room d.blank (frame_filled d.slot n.blank (record { nodes = n.body; end_line = end_line d.begins o }) n.found)

-- the innermost control or definition is closed, and with an `else if` the control around it
abbrev pub closed_from : List OpenForm → Opening → Builder → Builder
closed_from [] o n = builder_of [] n.body n.variables n.in_range n.room n.blank n.found
closed_from (frame.Definition d ∷ frames) o n = closed_definition frames d o n
closed_from (frame.Control c ∷ frames) o n = if c.chained then closed_from frames o (closed_control frames c n) else closed_control frames c n

abbrev pub with_end : Opening → Builder → Builder
with_end o n = closed_from n.frames o n

-- what a pipe does
abbrev pub piped_builder : Purpose → Pipe → ℕ → ℕ → Builder → Builder
piped_builder purpose.Write p line end n = with_node (kind.Action p) line n
piped_builder (purpose.Declare x) p line end n = with_variable x (with_node (kind.Declare x p) line n)
piped_builder (purpose.Assign x) p line end n = with_node (kind.Assign x p) line n
piped_builder (purpose.Control c chained) p line end n = form_opened c p line chained n
piped_builder (purpose.Template name) p line end n = with_node (kind.Template name (Some p)) line n
piped_builder (purpose.Block name word) p line end n = with_definition name word end (with_node (kind.Template name (Some p)) line n)

-- what an action does that begins there and ends before this offset
abbrev pub done : ActionKind → Opening → ℕ → Builder → Builder
done (action_kind.Piped what p) o end n = piped_builder what p o.line end n
done action_kind.Break o end n = with_node kind.Break o.line n
done action_kind.Continue o end n = with_node kind.Continue o.line n
done (action_kind.Call name) o end n = with_node (kind.Template name None) o.line n
done action_kind.Else o end n = n
done action_kind.End o end n = with_end o n
done (action_kind.Define name line) o end n = with_definition name line end n
