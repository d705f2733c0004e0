use Rattle.std.proofs.Common.{List, ℕ, subst}
use Rattle.std.proofs.lemmas.Str.{IsCharBoundary-before_ascii}
use Rattle.std.specs.Str.{IsCharBoundary}
use Rattle.page_url.proofs.reading.front_of_colon.Goals as goal

pub split_at-requires : goal.split_at-requires
split_at-requires c =
    subst (λ (bytes : List ℕ). IsCharBoundary bytes c.in-Some.at) c.as_bytes.ensures.value
    (IsCharBoundary-before_ascii c.as_bytes.result.now c.in-Some.at c.in-Some.ensures.inside c.in-Some.ensures.ascii)
