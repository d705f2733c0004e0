use Rattle.page_datum.proofs.Puts.{pair_put}
use Rattle.page_datum.proofs.pairs.sort.Goals as goal

pub loop-key-preserved : goal.loop-key-preserved
loop-key-preserved c =
    let l = c.loop-key in
    pair_put l.key-iterator.rest.items c.next.new.self.rest.items l.sorted.entries _ c.in-Some.key c.in-Some.value _
    c.in-Some.ensures.steps.0 c.in_ok-put.ensures l.invariant
