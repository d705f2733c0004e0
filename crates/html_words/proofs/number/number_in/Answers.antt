use Rattle.std.proofs.Common.{arith}
use Rattle.html_words.proofs.Numbers.{digit_more}
use Rattle.html_words.proofs.number.number_in.Goals as goal

pub loop-digit-preserved : goal.loop-digit-preserved
loop-digit-preserved c = record {
  left = digit_more c.args.base c.loop-digit.number c.loop-digit.digit-index c.digit_of.result c.min-number.result c.args.digits.now _ _ c.requires.base c.loop-digit-test.true c.digit_of.ensures.value c.min-number.ensures c.loop-digit.invariant.left;
  most = omega arith;
}
