use Rattle.std.proofs.Common.{◌≡◌, ◌<◌, true, nat_lt, length, arith}
use Rattle.std.proofs.lemmas.Bool.Decides.{nat_tests}
use Rattle.tpl_tree.proofs.Listings.{set-more}
use Rattle.tpl_tree.proofs.body.link.Goals as goal

pub returns-then-last-count : goal.returns-then-last-count
returns-then-last-count c =
    let within : c.args.last < length c.args.entries.now.items = omega arith in
    let test : nat_lt c.args.last c.args.count ≡ true = grind (arith, nat_tests) in
    rw test (set-more c.args.entries.now.items c.args.last c.index_mut.result.now within c.index_mut.ensures.value)
