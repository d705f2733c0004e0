use Rattle.std.proofs.Common.{drop, ap, sym, ◌∙◌}
use Rattle.page_url.proofs.Schemes.{cut_behind}
use Rattle.page_url.proofs.reading.letters_of.Goals as goal

pub split_at-requires-in-Some : goal.split_at-requires-in-Some
split_at-requires-in-Some c =
    cut_behind c.as_bytes.result.now c.split_at.result.1.now c.in-Some.at c.as_bytes.ensures.utf8 c.in-Some.ensures.inside c.in-Some.ensures.ascii
    (c.split_at.ensures.back ∙ ap (drop c.in-Some.at) (sym c.as_bytes.ensures.value))
