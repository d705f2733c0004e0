use Rattle.std.proofs.Common.{arith}
use Rattle.js_step.proofs.text.next_trail.Goals as goal

pub returns-clause-fits : goal.returns-clause-fits
returns-clause-fits c = λ k h. record {
  brace = omega (arith, c.next_brace.ensures.most, h.brace);
  bracket = omega (arith, c.next_bracket.ensures.most, h.bracket);
  literal = omega (arith, c.next_literal.ensures.most, h.literal);
}
