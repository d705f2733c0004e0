-- A section more, of those to come.
use Rattle.std.proofs.Common.{◌≡◌, ◌<◌, ◌+◌, ◌-◌, ℕ, suc, List, [], ◌∷◌, ◌++◌, append_assoc, arith}
use Rattle.page_tool.specs.Sections.{number_following, section_at, sections_from}

pub one_more : (old new all : List ℕ) (n at number next : ℕ) → at < n → next ≡ number_following number
    → new ≡ old ++ (section_at next ++ 10 ∷ []) → old ++ sections_from (n - at) number ≡ all
    → new ++ sections_from (n - (at + 1)) next ≡ all
one_more old new all n at number next l step is all_is =
    let more : n - at ≡ suc (n - (at + 1)) = omega (arith, l) in
    let rest = sections_from (n - (at + 1)) (number_following number) in
    let section = section_at (number_following number) in
    rw (is, step, append_assoc old (section ++ 10 ∷ []) rest, append_assoc section (10 ∷ []) rest) (rw more at all_is)
