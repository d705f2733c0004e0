use Rattle.std.proofs.Common.{arith, ap, ◌≤◌, ◌∙◌, length, take, List, ℕ}
use Rattle.page_server.proofs.Ranges.{prefix_kept}
use Rattle.page_server.proofs.buffer.grow.Goals as goal

pub returns-in-Ok-clause-kept : goal.returns-in-Ok-clause-kept
returns-in-Ok-clause-kept c =
    let greater : length c.args.room.now.items ≤ c.saturating_add.result =
    omega (arith, c.args.room.now.small, c.args.room.now.ok.0, c.args.room.now.ok.1, c.len-2.ensures, c.saturating_add.ensures) in
    ap (λ (z : List ℕ). take c.args.end z) c.in-Ok.ensures.items ∙ prefix_kept _ _ _ _ greater c.requires

pub returns-in-Ok-clause-room : goal.returns-in-Ok-clause-room
returns-in-Ok-clause-room c =
    let now = c.resize.new.self.ok.0 in
    let small = c.args.room.now.small in
    let before = c.args.room.now.ok in
    let size = c.saturating_add.ensures in
    omega (arith, c.requires, c.in-Ok.ensures.len, now, small, before.0, before.1, c.len-2.ensures, c.len-3.ensures, c.max.ensures, size)
