-- What is left to print of a pipe.
use Rattle.std.proofs.Common.{ℕ, Bool, true, false, List}
use Rattle.tpl_print.specs.Pipes.{pipe_text, calls_text}
use Rattle.tpl_tree.specs.Pipes.{PipeData}

-- the commands from the first one on, or after one
abbrev pub left_commands : Bool → PipeData → List ℕ
left_commands true commands = pipe_text commands
left_commands false commands = calls_text commands
