use Rattle.std.proofs.Common.{arith}
use Rattle.page_datum.proofs.Smaller.{item_below}
use Rattle.san_js.proofs.data.+push.Goals as goal

pub push_list-push_datum-requires : goal.push_list-push_datum-requires
push_list-push_datum-requires t c = (omega (arith, c.decreases, item_below c.args.values.now c.loop-value.value-index c.value-item.result c.loop-value-test.true c.value-item.is), tt)
