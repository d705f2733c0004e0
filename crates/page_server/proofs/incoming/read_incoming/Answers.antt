use Rattle.std.proofs.Common.{arith, List, ℕ, ◌∙◌, subst}
use Rattle.page_server.specs.Waiting.{IsWaiting}
use Rattle.page_server.proofs.Lengths.{waiting_short}
use Rattle.page_server.proofs.Ranges.{reads_twice}
use Rattle.page_server.proofs.incoming.read_incoming.Goals as goal

pub read_on-requires : goal.read_on-requires
read_on-requires g c = subst (λ (z : List ℕ). IsWaiting z) c.as_slice.ensures c.in-None.ensures

pub loop-incoming-smaller : goal.loop-incoming-smaller
loop-incoming-smaller g c =
    omega (arith, waiting_short _ (subst (λ (z : List ℕ). IsWaiting z) c.as_slice.ensures c.in-None.ensures), c.in-Ok.ensures.more)

pub loop-incoming-preserved : goal.loop-incoming-preserved
loop-incoming-preserved g c = record {
  read = reads_twice _ _ _ _ _ _ c.loop-incoming.invariant.read c.read_on.ensures.read;
  taken = c.read_on.ensures.taken ∙ c.loop-incoming.invariant.taken;
  later = omega (arith, c.read_on.ensures.later, c.loop-incoming.invariant.later);
}

pub returns-in-Err-clause-read : goal.returns-in-Err-clause-read
returns-in-Err-clause-read g c = reads_twice _ _ _ _ _ _ c.loop-incoming.invariant.read c.read_on.ensures.read
