use Rattle.std.proofs.Common.{◌≡◌, length}
use Rattle.page_http.specs.Closing.{lists_close}
use Rattle.page_http.proofs.connection.lists_close.Given as goal

abbrev pub invariant-loop-at : goal.invariant-loop-at
invariant-loop-at l = lists_close l.rest ≡ lists_close l.value

abbrev pub decreases-loop-at : goal.decreases-loop-at
decreases-loop-at l = length l.rest
