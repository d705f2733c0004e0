-- A byte that goes on with a character.
use Rattle.std.proofs.Common.{◌≡◌, ℕ, ◌+◌, ◌-◌, ◌*◌, ◌<◌, ◌≤◌, List, length, drop, get_or, Option}
use Rattle.std.proofs.lemmas.Bool.{and_from, le-leb, ne_eqb}
use Rattle.std.proofs.lemmas.List.{drop_more}
use Rattle.place_core.specs.page.Utf8.{utf8_followed}

pub followed_on : (needed lower upper bits seen b at more d : ℕ) (all : List ℕ) (z : Option (ℕ × ℕ)) → at < length all → b ≡ get_or all at d → lower ≤ b → b ≤ upper → (needed ≡ 1 → ⊥) → more ≡ b - 128 → utf8_followed (record { needed = needed; lower = lower; upper = upper; bits = bits; seen = seen }) (drop at all) ≡ z → utf8_followed (record { needed = needed - 1; lower = 128; upper = 191; bits = bits * 64 + more; seen = seen + 1 }) (drop (at + 1) all) ≡ z
followed_on needed lower upper bits seen b at more d all z within is least most other e f =
    let here = rw (drop_more all at d within, ← is, and_from _ _ (le-leb lower b least) (le-leb b upper most), ne_eqb needed 1 other) at f in
    rw e here
