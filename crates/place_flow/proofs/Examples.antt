-- Worked examples: a pipe, and beside it a pipe that is nearly the same and may not be used so.
use Rattle.std.proofs.Common.{◌≡◌, ◌≢◌, ◌∷◌, [], None, Some, false, true, refl}
use Rattle.place_flow.specs.Naming.{names_escaper}
use Rattle.place_flow.specs.Uses.{kind_use, use_of}
use Rattle.place_flow.specs.declared.predefined.Predefined.TheVariants as predefined
use Rattle.place_flow.specs.declared.uses.EscaperUse.TheVariants as used
use Rattle.tpl_symbol.specs.declared.func.Func.TheVariants as func
use Rattle.tpl_tree.specs.Pipes.{CommandData, OperandData, OperandsData, PipeData, call, command, dot, no_commands, no_operands, operand, paren, single, with_fields}
use Rattle.tpl_tree.specs.declared.node_kind.NodeKind.TheVariants as kind
use Rattle.tpl_tree.specs.declared.pipe.Pipe.{Pipe}

-- .a
abbrev a : OperandData
a = with_fields dot ((97 ∷ []) ∷ [])

abbrev one : OperandData → OperandsData
one o = operand o no_operands

abbrev two : OperandData → OperandData → OperandsData
two o p = operand o (one p)

abbrev alone : CommandData → PipeData
alone c = command c no_commands

-- a pipe in parentheses
abbrev within : PipeData → OperandData
within p = with_fields (paren p) []

abbrev html : OperandsData → CommandData
html os = call func.Html os

abbrev urlquery : OperandsData → CommandData
urlquery os = call func.Urlquery os

abbrev print : OperandsData → CommandData
print os = call func.Print os

abbrev pipe : PipeData → Pipe
pipe p = record { commands = p }

-- {{html .a}}, and {{html .a .a}}
written :
    (use_of (alone (html (one a))) ≡ used.Last predefined.Html)
    × (use_of (alone (html (two a a))) ≡ used.Misused)
written = (refl, refl)

-- {{.a | html}}, and {{.a | html .a}}
piped :
    (use_of (command (single a) (alone (html no_operands))) ≡ used.Last predefined.Html)
    × (use_of (command (single a) (alone (html (one a)))) ≡ used.Misused)
piped = (refl, refl)

-- {{.a | urlquery}} is no use of `html`; {{urlquery}} has no operand
query :
    (use_of (command (single a) (alone (urlquery no_operands))) ≡ used.Last predefined.Urlquery)
    × (used.Last predefined.Urlquery ≢ used.Last predefined.Html)
    × (use_of (alone (urlquery no_operands)) ≡ used.Misused)
query = (refl, λ e. cc, refl)

-- {{print .a .a | html}}, and {{html .a | print}}
after_others :
    (use_of (command (print (two a a)) (alone (html no_operands))) ≡ used.Last predefined.Html)
    × (use_of (command (html (one a)) (alone (print no_operands))) ≡ used.Misused)
after_others = (refl, refl)

-- {{.a | print | html}}, and {{.a | html | html}}
once :
    (use_of (command (single a) (command (print no_operands) (alone (html no_operands)))) ≡ used.Last predefined.Html)
    × (use_of (command (single a) (command (html no_operands) (alone (html no_operands)))) ≡ used.Misused)
once = (refl, refl)

-- {{(.a)}}, and {{(html .a)}}
in_parentheses :
    (use_of (alone (single (within (alone (single a))))) ≡ used.Nothing)
    × (use_of (alone (single (within (alone (html (one a)))))) ≡ used.Misused)
in_parentheses = (refl, refl)

-- {{html (print .a)}}, and {{html (urlquery .a)}}
in_its_operand :
    (use_of (alone (html (one (within (alone (print (one a))))))) ≡ used.Last predefined.Html)
    × (use_of (alone (html (one (within (alone (urlquery (one a))))))) ≡ used.Misused)
in_its_operand = (refl, refl)

-- {{print .a (print .a)}}, and {{print .a (.a | html)}}
in_a_second_operand :
    (use_of (alone (print (two a (within (alone (print (one a))))))) ≡ used.Nothing)
    × (use_of (alone (print (two a (within (command (single a) (alone (html no_operands))))))) ≡ used.Misused)
in_a_second_operand = (refl, refl)

-- {{print ((print .a)) | html}}, and {{print ((html .a)) | html}}
two_deep :
    (use_of (command (print (one (within (alone (single (within (alone (print (one a))))))))) (alone (html no_operands))) ≡ used.Last predefined.Html)
    × (use_of (command (print (one (within (alone (single (within (alone (html (one a))))))))) (alone (html no_operands))) ≡ used.Misused)
two_deep = (refl, refl)

-- {{html .a}}, and {{if html .a}}: a condition is no hole
in_a_hole_alone :
    (kind_use (kind.Action (pipe (alone (html (one a))))) ≡ used.Last predefined.Html)
    × (kind_use (kind.If None (pipe (alone (html (one a))))) ≡ used.Misused)
in_a_hole_alone = (refl, refl)

-- {{template "a" .a}}, and {{template "a" (html .a)}}; {{template "a"}} has no pipe
in_an_argument :
    (kind_use (kind.Template (97 ∷ []) (Some (pipe (alone (single a))))) ≡ used.Nothing)
    × (kind_use (kind.Template (97 ∷ []) (Some (pipe (alone (single (within (alone (html (one a))))))))) ≡ used.Misused)
    × (kind_use (kind.Template (97 ∷ []) None) ≡ used.Nothing)
in_an_argument = (refl, refl, refl)

-- {{$x := .a}}, and {{$x := .a | urlquery}}
in_a_declaration :
    (kind_use (kind.Declare (120 ∷ []) (pipe (alone (single a)))) ≡ used.Nothing)
    × (kind_use (kind.Declare (120 ∷ []) (pipe (command (single a) (alone (urlquery no_operands))))) ≡ used.Misused)
in_a_declaration = (refl, refl)

-- an escaper stands in {{.a | html}}, and none in {{.a | print}}
named :
    (names_escaper (command (single a) (alone (html no_operands))) ≡ true)
    × (names_escaper (command (single a) (alone (print no_operands))) ≡ false)
named = (refl, refl)
