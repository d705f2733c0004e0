use Rattle.std.proofs.Common.{◌≡◌, ◌++◌}
use Rattle.std.specs.Prelude.{drop}
use Rattle.place_infer.specs.Inferring.{root_numbers}
use Rattle.place_infer.proofs.roots.root_numbers.Given as goal

abbrev pub invariant-loop-name : goal.invariant-loop-name
invariant-loop-name l = l.numbers.items ++ root_numbers l.forest (drop l.name-index l.name-items) ≡ root_numbers l.forest l.roots
