use Rattle.std.proofs.Common.{arith, ◌∙◌}
use Rattle.std.proofs.Math.Seq.{take-add}
use Rattle.page_io.proofs.Known.{Appends-twice}
use Rattle.page_net.proofs.link.write_all.Goals as goal

pub loop-done-preserved : goal.loop-done-preserved
loop-done-preserved g c = record {
  inside = omega (arith, c.in_ok-done.ensures.bound, c.split_at.ensures.back_len);
  taken = rw (take-add, ← c.split_at.ensures.back) (Appends-twice _ _ _ _ _ c.loop-done.invariant.taken c.in_ok-done.ensures.bytes);
  left = c.write.ensures.left ∙ c.loop-done.invariant.left;
  later = omega (arith, c.write.ensures.cause.later);
}
