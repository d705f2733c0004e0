use Rattle.std.proofs.Common.{List, [], false, ◌≡◌, ℕ, replicate, rules, sym, subst}
use Rattle.place_explain.proofs.Marks.{marks_none}
use Rattle.place_explain.specs.Numbers.{AreMarked}
use Rattle.place_explain.proofs.numbers.Numbers.new.Goals as goal

pub invariant_of-result : goal.invariant_of-result
invariant_of-result c =
    let marks : c.in_ok-vec.field-0.items ≡ replicate c.args.limit false = search (rules, c.in_ok-vec.ensures.items_if_clones_equal) in
    subst (λ (list : List ℕ). AreMarked list c.in_ok-vec.field-0.items) (sym c.new.ensures.items) (subst (AreMarked []) (sym marks) (marks_none c.args.limit))
