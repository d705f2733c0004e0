use Rattle.std.proofs.Common.{◌≡◌, ◌<◌, arith, get_or, length, rules}
use Rattle.std.proofs.lemmas.Str.{IsCharBoundary-after_ascii}
use Rattle.san_css.proofs.undone.push_escaped.Goals as goal

pub range_from-requires : goal.range_from-requires
range_from-requires c =
    let some : 0 < length c.args.text.now = search rules in
    let backslash : get_or c.args.text.now 0 0 ≡ 92 = search rules in
    λ _. IsCharBoundary-after_ascii c.args.text.now 0 c.utf8.text some (omega (arith, backslash))
