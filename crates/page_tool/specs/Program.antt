-- The command line of the program as `clap` reads it.
use Rattle.std.specs.Prelude.{codes, List, [], Option, Some, None, true}
use Rattle.clap.specs.Simple.{App, Shape, new_app, new_rule, new_shape, with_rule, with_subcommand}
use Rattle.clap.specs.Walk.{Row, Rule, Text, first_of}
use Rattle.page_tool.specs.Words.{Command, no_command, command_alone, command_on, command_making, command_at}

-- a word that a command must have
abbrev pub word_rule : Text → Rule
word_rule id = record (new_rule id) { required = true }

-- a command of a directory
abbrev pub directory_app : Text → App
directory_app name = with_rule (new_app name) (word_rule (codes "DIR"))

-- a command of a root of a directory
abbrev pub root_app : Text → App
root_app name = with_rule (directory_app name) (word_rule (codes "NAME"))

-- the program without its commands: a word names one of them, and none asks for help or a version
abbrev pub bare_shape : Shape
bare_shape = record (new_shape (codes "page")) {
  no_binary_name = true;
  disable_help_flag = true;
  disable_help_subcommand = true;
  disable_version_flag = true;
  subcommand_required = true;
}

abbrev pub bare_app : App
bare_app = record { top = bare_shape; subs = [] }

-- the command of a number of sections
abbrev pub sections_app : Text → App
sections_app name = with_rule (new_app name) (word_rule (codes "N"))

-- the program with the commands of directories
abbrev pub directories_app : App
directories_app =
    with_subcommand (with_subcommand (with_subcommand bare_app (directory_app (codes "check")).top)
    (root_app (codes "render")).top) (root_app (codes "explain")).top

-- the program
abbrev pub program_app : App
program_app =
    with_subcommand (with_subcommand directories_app (new_app (codes "tokens")).top)
    (sections_app (codes "make")).top

-- the command of this name, with the values of `DIR` or `N`, and of `NAME`
abbrev pub command_with : Text → Option Text → Option Text → Option Text → Command
command_with name (Some dir) None None = command_on name dir
command_with name (Some dir) None (Some root) = command_at name dir root
command_with name None (Some number) None = command_making name number
command_with name None None None = command_alone name
command_with name _ _ _ = no_command

-- the command that the matches of a subcommand are
abbrev pub command_in : Option (Text × List Row) → Command
command_in None = no_command
command_in (Some p) =
    command_with p.0 (first_of (codes "DIR") p.1) (first_of (codes "N") p.1)
    (first_of (codes "NAME") p.1)
