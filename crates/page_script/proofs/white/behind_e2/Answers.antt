use Rattle.std.proofs.Common.{[], ◌∷◌, sym}
use Rattle.page_script.proofs.WhiteBytes.{other-behind-e2}
use Rattle.page_script.proofs.white.behind_e2.Goals as goal

pub returns-clause-is : goal.returns-clause-is
returns-clause-is c = sym (other-behind-e2 c.args.second (c.args.third ∷ []) c.if-second-eq128.false c.if-second-eq129.false)
