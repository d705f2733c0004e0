use Rattle.std.proofs.Common.{◌<◌, get_or, subst}
use Rattle.place_explain.proofs.Marks.{marks_below}
use Rattle.place_explain.specs.Numbers.{NumbersData}
use Rattle.place_explain.proofs.numbers.Numbers.into_list.Goals as goal

pub returns-clause-below : goal.returns-clause-below
returns-clause-below c = λ k d lt. subst (λ (v : NumbersData). get_or c.self.inside.list.items k d < v.limit) c.self.view_is
    (marks_below c.self.inside.list.items c.self.inside.marks.items c.self.invariant k d lt)
