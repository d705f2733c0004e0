use Rattle.text_norm.proofs.Emits.{where-nothing-is-pending}
use Rattle.text_norm.proofs.laws.stands_where_nothing_is_pending.Goals as goal

pub returns : goal.returns
returns c = where-nothing-is-pending
