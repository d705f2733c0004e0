use Rattle.std.proofs.Common.{◌≡◌, ℕ, [], ◌∷◌, ◌++◌, ◌-◌, replicate}
use Rattle.tpl_format.proofs.fill.push_times.Given as goal

abbrev pub invariant-loop : goal.invariant-loop
invariant-loop l = (b : ℕ) → l.mark ≡ b ∷ [] → l.out ++ replicate (l.times - l.counter) b ≡ l.fn.out ++ replicate l.times b
