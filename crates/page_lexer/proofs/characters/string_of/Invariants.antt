use Rattle.std.proofs.Common.{◌≡◌, ◌++◌, drop, string_bytes}
use Rattle.page_lexer.specs.Characters.{shown_within, shown_characters}
use Rattle.page_lexer.proofs.characters.string_of.Given as goal

abbrev pub invariant-loop-turn : goal.invariant-loop-turn
invariant-loop-turn l = string_bytes l.out ++ shown_within l.references (drop l._turn-index l.bytes) l.rest ≡ shown_characters l.fn.references l.fn.bytes
