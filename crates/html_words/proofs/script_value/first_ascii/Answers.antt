use Rattle.html_words.proofs.FirstBytes.{ascii_found, other_found}
use Rattle.std.proofs.Common.{arith}
use Rattle.html_words.proofs.script_value.first_ascii.Goals as goal

pub returns-then-code-ge128-clause-first : goal.returns-then-code-ge128-clause-first
returns-then-code-ge128-clause-first c = other_found c.args.value.now c.in-Some.code c.in-Some.len c.in-Some.ensures.first (omega arith)

pub returns-else-code-ge128-clause-first : goal.returns-else-code-ge128-clause-first
returns-else-code-ge128-clause-first c = ascii_found c.args.value.now c.split_at.result.1.now c.in-Some.code c.in-Some.len c.in-Some.ensures.first (omega arith) c.split_at.ensures.back
