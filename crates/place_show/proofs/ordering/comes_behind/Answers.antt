use Rattle.std.proofs.Common.{ℕ, List, sym, ap₂, ◌∙◌}
use Rattle.std.specs.Cmp.Lexicographic.{slice_cmp}
use Rattle.std.specs.Ordering.{is_gt, nat_cmp}
use Rattle.place_show.proofs.Orders.{not-both-greater}
use Rattle.place_show.specs.PathTexts.{path_text}
use Rattle.place_show.proofs.ordering.comes_behind.Goals as goal

pub returns-clause-behind : goal.returns-clause-behind
returns-clause-behind c = λ h.
    let same = ap₂ (λ (a b : List ℕ). is_gt (slice_cmp nat_cmp a b)) c.in_ok-text.ensures c.in_ok-other_text.ensures in
    not-both-greater (path_text c.args.path.now) (path_text c.args.other.now) (sym same ∙ sym c.gt.ensures ∙ h)
