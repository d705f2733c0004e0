use Rattle.std.proofs.Common.{[], ◌∷◌, sym}
use Rattle.page_script.proofs.WhiteBytes.{other-first, other-behind-c2, other-behind-e1, other-behind-e2, other-behind-e3, other-behind-ef}
use Rattle.page_script.proofs.white.two.Goals as goal

pub returns-else-second-eq160 : goal.returns-else-second-eq160
returns-else-second-eq160 c = rw c.if-first-eq194.true (sym (other-behind-c2 c.args.second [] c.if-second-eq160.false))

pub returns-else-second-eq154 : goal.returns-else-second-eq154
returns-else-second-eq154 c = rw c.if-first-eq225.true (sym (other-behind-e1 c.args.second [] c.if-second-eq154.false))

pub returns-else-second-eq129 : goal.returns-else-second-eq129
returns-else-second-eq129 c = rw c.if-first-eq226.true (sym (other-behind-e2 c.args.second [] c.if-second-eq128.false c.if-second-eq129.false))

pub returns-else-second-eq128-2 : goal.returns-else-second-eq128-2
returns-else-second-eq128-2 c = rw c.if-first-eq227.true (sym (other-behind-e3 c.args.second [] c.if-second-eq128-2.false))

pub returns-else-second-eq187 : goal.returns-else-second-eq187
returns-else-second-eq187 c = rw c.if-first-eq239.true (sym (other-behind-ef c.args.second [] c.if-second-eq187.false))

pub returns : goal.returns
returns c =
    sym (other-first c.args.first (c.args.second ∷ []) c.if-first-eq194.false c.if-first-eq225.false c.if-first-eq226.false c.if-first-eq227.false c.if-first-eq239.false)
