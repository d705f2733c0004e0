use Rattle.std.proofs.Common.{◌≡◌, length, string_bytes, rules}
use Rattle.esc_table.proofs.KeptRuns.{all_written}
use Rattle.esc_table.proofs.replacing.push_replaced.Goals as goal

pub returns : goal.returns
returns g c =
    let none : length c.loop-rest.rest.now ≡ 0 = search rules in
    all_written c.args.table.now c.args.text.now c.loop-rest.rest.now (string_bytes c.args.out.now) (string_bytes c.loop-rest.out) none c.loop-rest.invariant.written
