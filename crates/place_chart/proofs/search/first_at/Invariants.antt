use Rattle.std.proofs.Common.{◌≡◌, drop}
use Rattle.place_chart.specs.Numbers.{number_in_list}
use Rattle.place_chart.proofs.search.first_at.Given as goal

abbrev pub invariant-loop-number : goal.invariant-loop-number
invariant-loop-number l = number_in_list l.summaries (drop l.number-index l.numbers) l.entry ≡ number_in_list l.summaries l.numbers l.entry
