use Rattle.std.proofs.Common.{◌≡◌, ◌&&◌, false, rules}
use Rattle.std.specs.BTreeMap.{get}
use Rattle.std.specs.Cmp.Lexicographic.{slice_cmp}
use Rattle.std.specs.Option.{is_some}
use Rattle.std.specs.Ordering.{nat_cmp}
use Rattle.tpl_build.proofs.Standing.{stays, comes}
use Rattle.tpl_build.proofs.gathering.add.Goals as goal

pub returns-then-contains_key : goal.returns-then-contains_key
returns-then-contains_key c = stays c.args.def c.args.trees.now (search rules) (search rules)

pub returns : goal.returns
returns c =
    let open_to : (c.args.def.blank && is_some (get (slice_cmp nat_cmp) c.args.trees.now c.args.def.name)) ≡ false = search rules in
    comes c.args.def c.args.trees.now c.insert.new.self open_to c.in_ok-insert.ensures.updates
