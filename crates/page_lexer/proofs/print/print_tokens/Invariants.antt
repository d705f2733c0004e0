use Rattle.std.proofs.Common.{◌≡◌, ◌++◌, drop}
use Rattle.page_lexer.specs.Printing.{printed_tokens}
use Rattle.page_lexer.proofs.print.print_tokens.Given as goal

abbrev pub invariant-loop-token : goal.invariant-loop-token
invariant-loop-token l = l.out ++ printed_tokens l.page (drop l.token-index l.token-items) ≡ printed_tokens l.page l.token-items
