use Rattle.std.proofs.Common.{◌≡◌, ◌<◌, get_or, length, rules, true}
use Rattle.std.specs.Char.{is_ascii_whitespace}
use Rattle.std.proofs.lemmas.Str.{IsCharBoundary-after_ascii}
use Rattle.san_css.proofs.Ascii.{blank-low}
use Rattle.san_css.proofs.undone.behind_blank.Goals as goal

pub range_from-requires : goal.range_from-requires
range_from-requires c =
    let some : 0 < length c.args.text.now = search rules in
    let blank : is_ascii_whitespace (get_or c.args.text.now 0 0) ≡ true = search rules in
    λ _. IsCharBoundary-after_ascii c.args.text.now 0 c.utf8.text some (blank-low (get_or c.args.text.now 0 0) blank)
