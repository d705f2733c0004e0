use Rattle.std.proofs.Common.{◌≡◌, ◌++◌, true, drop}
use Rattle.std.specs.Prelude.{map}
use Rattle.html_step.specs.Sets.{member, member_set_text}
use Rattle.html_step.proofs.sets.push_set.Given as goal

abbrev pub invariant-loop-row : goal.invariant-loop-row
invariant-loop-row l = l.out ++ member_set_text l.first (map (λ m. member m.0 m.1.now) (drop l.row-index l.members)) ≡ l.fn.out ++ member_set_text true (map (λ m. member m.0 m.1.now) l.members)
