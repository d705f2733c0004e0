-- How pipes and nodes use the predefined escapers `html` and `urlquery`. One may stand as the last command of a hole, with exactly one
-- operand, written or piped; any other use is misuse.
use Rattle.std.specs.Prelude.{Bool, true, false, Some, None, if◌then◌else◌}
use Rattle.place_flow.specs.Naming.{command_names_escaper, names_escaper, operand_names_escaper, operands_name_escaper}
use Rattle.place_flow.specs.declared.predefined.Predefined.{Predefined}
use Rattle.place_flow.specs.declared.predefined.Predefined.TheVariants as predefined
use Rattle.place_flow.specs.declared.uses.EscaperUse.{EscaperUse}
use Rattle.place_flow.specs.declared.uses.EscaperUse.TheVariants as used
use Rattle.tpl_symbol.specs.declared.func.Func.{Func}
use Rattle.tpl_symbol.specs.declared.func.Func.TheVariants as func
use Rattle.tpl_tree.specs.Pipes.{PipeData, no_commands, command, CommandData, single, call, OperandsData, no_operands, operand}
use Rattle.tpl_tree.specs.declared.node_kind.NodeKind.{NodeKind}
use Rattle.tpl_tree.specs.declared.node_kind.NodeKind.TheVariants as kind

-- where an escaper stands in what may have none
abbrev pub misused_where : Bool → EscaperUse
misused_where true = used.Misused
misused_where false = used.Nothing

-- exactly one operand, written or piped
abbrev pub has_one_command : Bool → OperandsData → Bool
has_one_command true no_operands = true
has_one_command true (operand o rest) = false
has_one_command false no_operands = false
has_one_command false (operand o no_operands) = true
has_one_command false (operand o (operand p rest)) = false

-- an escaper as the last command, given whether it has exactly one operand
abbrev pub last_where : Bool → Predefined → EscaperUse
last_where true escaper = used.Last escaper
last_where false escaper = used.Misused

-- a function as the last command, given the same
abbrev pub call_use : Bool → Func → EscaperUse
call_use one func.Html = last_where one predefined.Html
call_use one func.Urlquery = last_where one predefined.Urlquery
call_use one f = used.Nothing

-- the last command, given whether a value is piped to it: within its operands no escaper may stand
abbrev pub last_use : Bool → CommandData → EscaperUse
last_use piped (single o) = misused_where (operand_names_escaper o)
last_use piped (call f operands) = if operands_name_escaper operands then used.Misused else call_use (has_one_command piped operands) f

-- commands, given whether a value is piped to the first of them: in none before the last may an escaper stand
abbrev pub use_from : Bool → PipeData → EscaperUse
use_from piped no_commands = used.Nothing
use_from piped (command c no_commands) = last_use piped c
use_from piped (command c (command d rest)) = if command_names_escaper c then used.Misused else use_from true (command d rest)

-- the pipe of a hole
abbrev pub use_of : PipeData → EscaperUse
use_of pipe = use_from false pipe

-- a node: in a pipe that is no hole's no escaper may stand
abbrev pub kind_use : NodeKind → EscaperUse
kind_use (kind.Text bytes) = used.Nothing
kind_use (kind.Action pipe) = use_of pipe.commands
kind_use (kind.Declare name pipe) = misused_where (names_escaper pipe.commands)
kind_use (kind.Assign name pipe) = misused_where (names_escaper pipe.commands)
kind_use (kind.If name pipe) = misused_where (names_escaper pipe.commands)
kind_use (kind.With name pipe) = misused_where (names_escaper pipe.commands)
kind_use (kind.Range index element pipe) = misused_where (names_escaper pipe.commands)
kind_use kind.Break = used.Nothing
kind_use kind.Continue = used.Nothing
kind_use (kind.Template name None) = used.Nothing
kind_use (kind.Template name (Some pipe)) = misused_where (names_escaper pipe.commands)
