use Rattle.std.proofs.Common.{[], ◌∷◌, sym}
use Rattle.page_script.proofs.WhiteBytes.{other-behind-e1, other-behind-e3, other-behind-ef, other-three}
use Rattle.page_script.proofs.white.three.Goals as goal

pub returns-then-first-eq225-clause-is : goal.returns-then-first-eq225-clause-is
returns-then-first-eq225-clause-is c = rw c.if-first-eq225.true (sym (other-behind-e1 c.args.second (c.args.third ∷ []) c.if-second-eq154.false))

pub returns-then-first-eq227-clause-is : goal.returns-then-first-eq227-clause-is
returns-then-first-eq227-clause-is c = rw c.if-first-eq227.true (sym (other-behind-e3 c.args.second (c.args.third ∷ []) c.if-second-eq128.false))

pub returns-then-first-eq239-clause-is : goal.returns-then-first-eq239-clause-is
returns-then-first-eq239-clause-is c = rw c.if-first-eq239.true (sym (other-behind-ef c.args.second (c.args.third ∷ []) c.if-second-eq187.false))

pub returns-clause-is : goal.returns-clause-is
returns-clause-is c = sym (other-three c.args.first c.args.second c.args.third c.if-first-eq225.false c.if-first-eq226.false c.if-first-eq227.false c.if-first-eq239.false)
