-- Line feeds are counted part by part.
use Rattle.std.proofs.Common.{◌≡◌, ℕ, ◌+◌, List, ◌++◌, cond, eqb}
use Rattle.std.proofs.lemmas.List.Sums.{sum_by-append}
use Rattle.page_io.specs.Lines.{line_feeds}

pub line_feeds-append : (xs ys : List ℕ) → line_feeds (xs ++ ys) ≡ line_feeds xs + line_feeds ys
line_feeds-append xs ys = sum_by-append (λ (b : ℕ). cond (eqb b 10) 1 0) xs ys
