use Rattle.std.proofs.Common.{append_assoc}
use Rattle.tpl_symbol.proofs.Puts.{joined-apart}
use Rattle.tpl_symbol.proofs.joining.put_joined.Goals as goal

pub returns-in_ok-put_one-in_default : goal.returns-in_ok-put_one-in_default
returns-in_ok-put_one-in_default c =
    rw (joined-apart c.args.last c.args.symbol c.in_default.not-Text) (rw (c.in_ok-put_one-in_default.ensures, append_assoc) at c.put_one-in_default-2.ensures)
