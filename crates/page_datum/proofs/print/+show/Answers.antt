use Rattle.std.proofs.Common.{arith}
use Rattle.page_datum.proofs.Smaller.{item_below}
use Rattle.page_datum.proofs.print.+show.Goals as goal

pub show_list-show-requires : goal.show_list-show-requires
show_list-show-requires t c = (omega (arith, c.decreases, item_below c.args.values.now c.loop-value.value-index c.value-item.result c.loop-value-test.true c.value-item.is), tt)
