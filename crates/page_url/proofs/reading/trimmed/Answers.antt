use Rattle.std.proofs.Common.{List, ℕ, subst}
use Rattle.std.proofs.lemmas.Str.{IsCharBoundary-after_ascii}
use Rattle.std.specs.Str.{IsCharBoundary}
use Rattle.page_url.proofs.reading.trimmed.Goals as goal

pub split_at-requires : goal.split_at-requires
split_at-requires c =
    subst (λ (bytes : List ℕ). IsCharBoundary bytes 1) c.as_bytes.ensures.value
    (IsCharBoundary-after_ascii c.as_bytes.result.now 0 c.as_bytes.ensures.utf8
    (c.begins_blank.ensures.inside c.loop-rest-test.true) (c.begins_blank.ensures.ascii c.loop-rest-test.true))
