-- What is read of a pipe, as a pipe.
use Rattle.std.specs.Prelude.{ℕ, Bool, true, false, List, [], ◌∷◌, ◌++◌, Option, Some, None, Result, Ok, Err}
use Rattle.tpl_pipe.specs.declared.pipe_state.Current.{Current}
use Rattle.tpl_pipe.specs.declared.pipe_state.Current.TheVariants as current
use Rattle.tpl_pipe.specs.declared.pipe_state.Level.{Level}
use Rattle.tpl_pipe.specs.declared.refused.ParseRefused.{ParseRefused}
use Rattle.tpl_pipe.specs.declared.refused.ParseRefused.TheVariants as refused
use Rattle.tpl_tree.specs.Pipes.{PipeData, no_commands, command, OperandsData, no_operands, operand}
use Rattle.tpl_tree.specs.View.{command_view, operand_view}
use Rattle.tpl_tree.specs.declared.pipe.Base.{Base}
use Rattle.tpl_tree.specs.declared.pipe.Base.TheVariants as base
use Rattle.tpl_tree.specs.declared.pipe.Command.{Command}
use Rattle.tpl_tree.specs.declared.pipe.Command.TheVariants as command_kind
use Rattle.tpl_tree.specs.declared.pipe.Operand.{Operand}

abbrev pub level : ℕ → List Command → Current → Level
level room commands now = record { room = room; commands = commands; current = now }

-- a pipe of which nothing is read
abbrev pub fresh : ℕ → Level
fresh room = level room [] current.Nothing

abbrev pub operand_of : Base → List (List ℕ) → Operand
operand_of b fields = record { base = b; fields = fields }

-- operands, the last one first, and then these
abbrev pub operands_onto : List Operand → OperandsData → OperandsData
operands_onto [] more = more
operands_onto (o ∷ os) more = operands_onto os (operand (operand_view o) more)

-- commands, the last one first, and then these
abbrev pub commands_onto : List Command → PipeData → PipeData
commands_onto [] more = more
commands_onto (c ∷ cs) more = commands_onto cs (command (command_view c) more)

-- the command that is read, as one that ends here
abbrev pub level_ended : Current → Option Command
level_ended current.Nothing = None
level_ended (current.Alone o) = Some (command_kind.Single o)
level_ended (current.Calls f os) = Some (command_kind.Call f (operands_onto os no_operands))

-- commands, the last one first, that end with this one: where it is missing, a pipe without any is empty, and a bar before it leads nowhere
abbrev pub ended_with : Option Command → List Command → Result PipeData ParseRefused
ended_with (Some c) cs = Ok (commands_onto (c ∷ cs) no_commands)
ended_with None [] = Err refused.EmptyPipeline
ended_with None (_ ∷ _) = Err refused.UnexpectedToken

-- the pipe that is read, as one that ends here
abbrev pub ended_pipe : Level → Result PipeData ParseRefused
ended_pipe l = ended_with (level_ended l.current) l.commands

-- an operand may come: first of all, or after a function
abbrev pub may_take : Current → List Command → Bool
may_take current.Nothing [] = true
may_take current.Nothing (_ ∷ _) = false
may_take (current.Alone _) cs = false
may_take (current.Calls _ _) cs = true

abbrev pub takes_operand : Level → Bool
takes_operand l = may_take l.current l.commands

abbrev pub take_into : Operand → Current → Current
take_into o current.Nothing = current.Alone o
take_into o (current.Alone _) = current.Alone o
take_into o (current.Calls f os) = current.Calls f (o ∷ os)

abbrev pub with_operand : Operand → Level → Level
with_operand o l = level l.room l.commands (take_into o l.current)

-- an operand more, which is a field
abbrev pub with_own_field : List ℕ → Level → Level
with_own_field name l = with_operand (operand_of base.Dot (name ∷ [])) l

-- fields may follow a variable, fields and a parenthesis
abbrev pub base_takes : Base → List (List ℕ) → Bool
base_takes (base.Variable _) fields = true
base_takes (base.Paren _) fields = true
base_takes base.Dot [] = false
base_takes base.Dot (_ ∷ _) = true
base_takes (base.Str _) fields = false
base_takes (base.Number _) fields = false
base_takes (base.Bool _) fields = false
base_takes base.Nil fields = false

abbrev pub takes_field : Operand → Bool
takes_field o = base_takes o.base o.fields

abbrev pub last_takes : Current → Bool
last_takes current.Nothing = false
last_takes (current.Alone o) = takes_field o
last_takes (current.Calls _ []) = false
last_takes (current.Calls _ (o ∷ _)) = takes_field o

abbrev pub add_field : List ℕ → Operand → Operand
add_field name o = operand_of o.base (o.fields ++ name ∷ [])

abbrev pub field_into : List ℕ → Current → Current
field_into name current.Nothing = current.Nothing
field_into name (current.Alone o) = current.Alone (add_field name o)
field_into name (current.Calls f []) = current.Calls f []
field_into name (current.Calls f (o ∷ os)) = current.Calls f (add_field name o ∷ os)

abbrev pub with_field : List ℕ → Level → Level
with_field name l = level l.room l.commands (field_into name l.current)
