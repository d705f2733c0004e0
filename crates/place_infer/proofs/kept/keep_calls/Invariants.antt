use Rattle.std.proofs.Common.{ℕ, List, ◌≤◌, length}
use Rattle.place_core.specs.declared.place.Place.{Place}
use Rattle.place_infer.specs.Kept.{AreKept}
use Rattle.place_chart.specs.declared.summary.Summary.{Summary}
use Rattle.place_infer.proofs.kept.keep_calls.Given as goal

abbrev pub invariant-loop-number : goal.invariant-loop-number
invariant-loop-number l = record {
  kept : (roots : List ℕ) (first : Place) (whole : List Summary) → AreKept l.flows roots first whole l.initial.all l.initial.kept → AreKept l.flows roots first whole l.all l.kept;
  length : length l.initial.kept ≤ length l.kept;
}
