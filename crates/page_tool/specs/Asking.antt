-- How reading the words of a command line answers.
use Rattle.std.specs.Prelude.{◌≡◌, true, Option, Some, None, Result, Ok, Err}
use Rattle.page_tool.specs.Words.{Command, no_command, check, render, explain, tokens, make, is_command}
use Rattle.page_tool.specs.declared.asked.Asked.{Asked}
use Rattle.page_tool.specs.declared.asked.Asked.TheVariants as asked
use Rattle.page_tool.specs.declared.asked.WordsRefused.{WordsRefused}
use Rattle.page_tool.specs.declared.asked.WordsRefused.TheVariants as words

-- the command that was asked for
abbrev pub command_asked : Asked → Command
command_asked (asked.Check dir) = check dir.now
command_asked (asked.Render dir root) = render dir.now root.now
command_asked (asked.Explain dir root) = explain dir.now root.now
command_asked asked.Tokens = tokens
command_asked (asked.Make sections) = make sections

abbrev pub command_asked_or_none : Option Asked → Command
command_asked_or_none None = no_command
command_asked_or_none (Some a) = command_asked a

-- the command that words are, or that they are none, or out of memory where they are one
abbrev pub ReadWordsAnswers : Command → Result Asked WordsRefused → Type 0
ReadWordsAnswers command (Ok a) = command_asked a ≡ command
ReadWordsAnswers command (Err words.Usage) = command ≡ no_command
ReadWordsAnswers command (Err words.Memory) = is_command command ≡ true
