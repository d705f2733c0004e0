use Rattle.std.proofs.Common.{w64, to_z, of_z}
use Rattle.std.proofs.Math.Facts.{to_z-of_z}
use Rattle.tpl_value.proofs.Cuts.{slice_list}
use Rattle.tpl_value.proofs.cut.slice.Goals as goal

pub returns-in-List : goal.returns-in-List
returns-in-List c =
    let from = to_z w64 (of_z w64 c.args.from) in
    let to = to_z w64 (of_z w64 c.args.to) in
    rw c.in-List.is (slice_list c.in-List.values.now c.args.from c.args.to from to c.slice_values.result (to_z-of_z c.ranges.from) (to_z-of_z c.ranges.to) c.slice_values.ensures)
