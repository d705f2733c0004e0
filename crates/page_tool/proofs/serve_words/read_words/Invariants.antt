use Rattle.std.proofs.Common.{◌≡◌, drop}
use Rattle.page_tool.specs.ServeReading.{said_read}
use Rattle.page_tool.specs.ServeWords.{nothing_said, said_after}
use Rattle.page_tool.specs.Words.{texts}
use Rattle.page_tool.proofs.serve_words.read_words.Given as goal

-- what the words to come say, after what is said, is what all say
abbrev pub invariant-loop-word : goal.invariant-loop-word
invariant-loop-word l = said_after (said_read l.said) (texts (drop l.word-index l.words)) ≡ said_after nothing_said (texts l.words)
