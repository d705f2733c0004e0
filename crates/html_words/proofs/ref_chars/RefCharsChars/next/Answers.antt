use Rattle.std.proofs.Common.{true}
use Rattle.html_words.proofs.Lengths.{first_of_rest}
use Rattle.html_words.proofs.ref_chars.RefCharsChars.next.Goals as goal

pub returns-in-Some-clause-next : goal.returns-in-Some-clause-next
returns-in-Some-clause-next c = first_of_rest true c.args.self.now.cut c.args.self.now.at c.args.self.now.rest.now c.split_at.result.1.now c.in-Some.code c.in-Some.len c.in-Some.ensures.first c.split_at.ensures.back
