use Rattle.std.proofs.Common.{◌-◌, ◌≤◌, length}
use Rattle.tpl_token.specs.Grammar.{lexer_beginning, TokensRead}
use Rattle.tpl_token.proofs.lexer.tokens.Given as goal

abbrev pub invariant-loop-token : goal.invariant-loop-token
invariant-loop-token l = record {
  within : l.cursor.at ≤ length l.text;
  reads : TokensRead l.text lexer_beginning l.tokens l.cursor;
}

abbrev pub decreases-loop-token : goal.decreases-loop-token
decreases-loop-token l = length l.text - l.cursor.at
