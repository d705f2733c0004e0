use Rattle.std.proofs.Common.{◌≡◌, List, ℕ, false, true, sym, subst, ◌∙◌}
use Rattle.std.specs.BTreeSet.{contains, Updates}
use Rattle.std.specs.Cmp.Lexicographic.{slice_cmp}
use Rattle.std.specs.Ordering.{nat_cmp}
use Rattle.tpl_parse.proofs.SeenNames.{second_line-blank, second_line-new, second_line-seen, was_false, was_true}
use Rattle.tpl_parse.proofs.ending.second_line.Goals as goal
use Rattle.tpl_parse.proofs.ending.second_line.Goals.{then-not-one+in_ok-copy_of+in_ok-is_new+else-not-is_new, else-not-one}

pub returns-then-not-is_new : goal.returns-then-not-is_new
returns-then-not-is_new c =
    let names = c.loop-one.names in
    let copied = c.in_ok-copy_of.ensures ∙ c.as_str.ensures in
    let seen : contains (slice_cmp nat_cmp) names c.in_ok-copy_of.field-0 ≡ true = was_true _ (sym c.if-not-is_new.true ∙ c.in_ok-is_new.ensures.added) in
    sym (second_line-seen names c.args.found.now c.loop-one.one-index c.one-item.result c.loop-one-test.true c.one-item.is c.if-not-one.true (subst (λ (n : List ℕ). contains (slice_cmp nat_cmp) names n ≡ true) copied seen)) ∙ c.loop-one.invariant

pub loop-one-preserved : goal.loop-one-preserved
loop-one-preserved c =
    let names = c.loop-one.names in
    elim c.if-not-one.branch [
      | then-not-one+in_ok-copy_of+in_ok-is_new+else-not-is_new w ↦
          let copied = w.in_ok-copy_of.ensures ∙ w.as_str.ensures in
          let unseen : contains (slice_cmp nat_cmp) names w.in_ok-copy_of.field-0 ≡ false = was_false _ (sym w.if-not-is_new.false ∙ w.in_ok-is_new.ensures.added) in
          rw (w.names-is)
          (sym (second_line-new names w.insert.new.self c.args.found.now c.loop-one.one-index c.one-item.result c.loop-one-test.true c.one-item.is w.if-not-one.true
          (subst (λ (n : List ℕ). contains (slice_cmp nat_cmp) names n ≡ false) copied unseen)
          (subst (λ (n : List ℕ). Updates (slice_cmp nat_cmp) names w.insert.new.self n true) copied w.in_ok-is_new.ensures.updates))
          ∙ c.loop-one.invariant)
      | else-not-one w ↦
          rw (w.names-is)
          (sym (second_line-blank names c.args.found.now c.loop-one.one-index c.one-item.result c.loop-one-test.true c.one-item.is w.if-not-one.false) ∙ c.loop-one.invariant)
    ]
