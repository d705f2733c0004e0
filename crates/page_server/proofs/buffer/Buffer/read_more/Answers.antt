use Rattle.std.proofs.Common.{ap, ◌∙◌, take, List, ℕ}
use Rattle.page_server.proofs.Ranges.{part_kept, reads_more, reads_none}
use Rattle.page_server.proofs.buffer.Buffer.read_more.Goals as goal

pub returns-in-Ok-clause-read : goal.returns-in-Ok-clause-read
returns-in-Ok-clause-read g c =
    reads_more _ _ _ _ _ _ _ _ _ (c.read_behind.auto.room ∙ c.as_mut_slice.ensures.len) c.args.self.now.order
    (c.read_behind.ensures.kept ∙ ap (λ (z : List ℕ). take c.args.self.now.end z) c.as_mut_slice.ensures.value) c.in-Ok.ensures.read

pub returns-in-Err-clause-read : goal.returns-in-Err-clause-read
returns-in-Err-clause-read g c =
    reads_none _ _ _ _ c.in-Err.ensures.stays
    (part_kept _ _ _ _ _ _ (c.read_behind.auto.room ∙ c.as_mut_slice.ensures.len) c.args.self.now.order
    (c.read_behind.ensures.kept ∙ ap (λ (z : List ℕ). take c.args.self.now.end z) c.as_mut_slice.ensures.value))

pub returns-in-Err-clause-kept : goal.returns-in-Err-clause-kept
returns-in-Err-clause-kept g c =
    part_kept _ _ _ _ _ _ (c.read_behind.auto.room ∙ c.as_mut_slice.ensures.len) c.args.self.now.order
    (c.read_behind.ensures.kept ∙ ap (λ (z : List ℕ). take c.args.self.now.end z) c.as_mut_slice.ensures.value)
