use Rattle.std.proofs.Common.{false, true, arith}
use Rattle.html_words.proofs.Lengths.{character_within}
use Rattle.html_words.proofs.character.next_in_value.Goals as goal

pub returns-else-cut-clause-some : goal.returns-else-cut-clause-some
returns-else-cut-clause-some c = rw c.character_at.ensures (character_within true false c.in-Some.byte.now c.in-Some.rest.now).some

pub returns-else-cut-clause-bound : goal.returns-else-cut-clause-bound
returns-else-cut-clause-bound c = rw c.character_at.ensures (omega (arith, (character_within true false c.in-Some.byte.now c.in-Some.rest.now).most, c.in-Some.ensures.cases.1))
