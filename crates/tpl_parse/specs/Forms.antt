-- What stands in the body of a template file: texts, actions, controls, and definitions.
use Rattle.std.specs.Prelude.{ℕ, Bool, true, false, ◌&&◌, List, [], ◌∷◌, ◌++◌, Some}
use Rattle.std.specs.List.{list_all}
use Rattle.tpl_build.specs.Building.{node_kind_of, def_of, found_of}
use Rattle.tpl_build.specs.declared.definition.FoundDefinition.{FoundDefinition}
use Rattle.tpl_build.specs.declared.frame.Control.{Control}
use Rattle.tpl_symbol.specs.declared.symbol.Seam.{Seam}
use Rattle.tpl_token.specs.Characters.{is_white}
use Rattle.tpl_tree.specs.Trees.{NodesData, no_nodes, node}
use Rattle.tpl_tree.specs.declared.node_kind.NodeKind.{NodeKind}
use Rattle.tpl_tree.specs.declared.node_kind.NodeKind.TheVariants as kind
use Rattle.tpl_tree.specs.declared.pipe.Pipe.{Pipe}

mutual
  pub data Forms : Type 0 where
    no_forms : Forms
    -- a text, its line and its seams
    text : List ℕ → ℕ → List Seam → Forms → Forms
    -- an action that has no body, as a node, and its line
    action : NodeKind → ℕ → Forms → Forms
    -- a control, its pipe, its line, its first part, and how it goes on
    control : Control → Pipe → ℕ → Forms → Else → Forms → Forms
    -- a block's name, pipe and line, the line of its word, its body, and the line on which this ends
    block : List ℕ → Pipe → ℕ → ℕ → Forms → ℕ → Forms → Forms
    -- a definition's name, the line of its word, its body, and the line on which this ends
    define : List ℕ → ℕ → Forms → ℕ → Forms → Forms

  -- how a control goes on after its first part
  pub data Else : Type 0 where
    no_else : Else
    otherwise : Forms → Else
    else_if : Control → Pipe → ℕ → Forms → Else → Else

abbrev mutual
  -- the nodes of a body: a definition is none, and a block is the call of its template
  pub form_nodes : Forms → NodesData
  form_nodes no_forms = no_nodes
  form_nodes (text bytes line seams more) = node (kind.Text bytes) line seams no_nodes no_nodes (form_nodes more)
  form_nodes (action what line more) = node what line [] no_nodes no_nodes (form_nodes more)
  form_nodes (control c p line first later more) = node (node_kind_of c p) line [] (form_nodes first) (else_nodes later) (form_nodes more)
  form_nodes (block name p line word body end more) = node (kind.Template name (Some p)) line [] no_nodes no_nodes (form_nodes more)
  form_nodes (define name word body end more) = form_nodes more

  -- those of an `else` part: an `else if` is an `if` in it
  pub else_nodes : Else → NodesData
  else_nodes no_else = no_nodes
  else_nodes (otherwise forms) = form_nodes forms
  else_nodes (else_if c p line first later) = node (node_kind_of c p) line [] (form_nodes first) (else_nodes later) no_nodes

-- only white space, comments and definitions
abbrev pub is_blank : Forms → Bool
is_blank no_forms = true
is_blank (text bytes line seams more) = list_all is_white bytes && is_blank more
is_blank (action what line more) = false
is_blank (control c p line first later more) = false
is_blank (block name p line word body end more) = false
is_blank (define name word body end more) = is_blank more

abbrev mutual
  -- the definitions, in the order of their words
  pub found_in : Forms → List FoundDefinition
  found_in no_forms = []
  found_in (text bytes line seams more) = found_in more
  found_in (action what line more) = found_in more
  found_in (control c p line first later more) = found_in first ++ (found_else later ++ found_in more)
  found_in (block name p line word body end more) = found_of (def_of name (is_blank body) (form_nodes body) end) word ∷ (found_in body ++ found_in more)
  found_in (define name word body end more) = found_of (def_of name (is_blank body) (form_nodes body) end) word ∷ (found_in body ++ found_in more)

  pub found_else : Else → List FoundDefinition
  found_else no_else = []
  found_else (otherwise forms) = found_in forms
  found_else (else_if c p line first later) = found_in first ++ found_else later

-- the variable that an action declares
abbrev pub declared_by_form : NodeKind → List (List ℕ)
declared_by_form (kind.Declare x p) = x ∷ []
declared_by_form _ = []

-- the variables that a part declares
abbrev pub declared_in_forms : Forms → List (List ℕ)
declared_in_forms no_forms = []
declared_in_forms (text bytes line seams more) = declared_in_forms more
declared_in_forms (action what line more) = declared_by_form what ++ declared_in_forms more
declared_in_forms (control c p line first later more) = declared_in_forms more
declared_in_forms (block name p line word body end more) = declared_in_forms more
declared_in_forms (define name word body end more) = declared_in_forms more
