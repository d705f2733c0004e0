use Rattle.std.proofs.Common.{◌≡◌, take}
use Rattle.place_trace.proofs.calls.same_calls.Given as goal

abbrev pub invariant-loop-i : goal.invariant-loop-i
invariant-loop-i l = take l.i l.a ≡ take l.i l.b
