use Rattle.std.proofs.Common.{arith, refl}
use Rattle.html_words.proofs.Followed.{followed_on}
use Rattle.html_words.proofs.utf8.followed.Goals as goal

pub loop-at-preserved : goal.loop-at-preserved
loop-at-preserved c = record {
  left = followed_on c.loop-at.needed c.loop-at.lower c.loop-at.upper c.loop-at.bits _ _ c.loop-at.at c.from.result _ c.args.rest.now _ c.loop-at-test.true refl c.if-byte-lower.false c.if-upper-byte.false c.if-needed-eq1.false c.from.ensures c.loop-at.invariant.left;
  some = omega arith;
  few = omega arith;
  lower = omega arith;
  upper = omega arith;
  first = omega arith;
  second = λ more. omega arith;
  third = λ more. omega arith;
}
