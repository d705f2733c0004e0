use Rattle.std.proofs.Common.{◌≡◌, ℕ, List, Option, Some, None, All, nat_cmp, sym, ap, ◌∙◌, subst}
use Rattle.std.proofs.lemmas.List.Elements.{All-cons, All-head, All-nil, All-tail}
use Rattle.std.proofs.lemmas.Map.Entries.{All-lookup}
use Rattle.std.specs.BTreeMap.{is_at}
use Rattle.std.specs.Map.{lookup}
use Rattle.std.specs.Prelude.{IfSome}
use Rattle.place_flow.specs.PointStates.{IsConflictFree}
use Rattle.place_flow.specs.declared.point_state.PointState.{PointState}
use Rattle.place_chart.specs.Summaries.{found_state}
use Rattle.place_chart.proofs.inner_states.InnerStates.has_conflict.Goals as goal

found_free : (o : Option PointState) → IfSome o IsConflictFree → IsConflictFree (found_state o)
found_free None h = tt
found_free (Some s) h = h

pub loop-number-init : goal.loop-number-init
loop-number-init c =
    let gives = c.into_iter-number-iterator.ensures.into_iter_gives in
    let entries = c.self.inside.states.entries in
    let self = c.args.self.now in (
      λ all. subst (All (λ (e : ℕ × PointState). IsConflictFree e.1)) (gives.0 ∙ c.self.view_is) all,
      subst (All (λ (e : ℕ × PointState). lookup (is_at (nat_cmp e.0)) self ≡ Some e.1)) (sym gives.0)
          (subst (λ (s : List (ℕ × PointState)). All (λ (e : ℕ × PointState). lookup (is_at (nat_cmp e.0)) s ≡ Some e.1) entries) c.self.view_is gives.6),
    )

pub returns-then-is_conflict-clause-conflict : goal.returns-then-is_conflict-clause-conflict
returns-then-is_conflict-clause-conflict c = λ _.
    let self = c.args.self.now in
    let x : ℕ × PointState = (c.in-Some._number.now, c.in-Some.point_state.now) in
    let found = All-head (λ (e : ℕ × PointState). lookup (is_at (nat_cmp e.0)) self ≡ Some e.1) x c.next.new.self
    (subst (All (λ (e : ℕ × PointState). lookup (is_at (nat_cmp e.0)) self ≡ Some e.1)) c.in-Some.ensures.steps c.loop-number.invariant.1) in
    record { number = x.0; conflict = ap found_state found ∙ c.is_conflict.ensures.conflict c.if-is_conflict.true }

pub loop-number-preserved : goal.loop-number-preserved
loop-number-preserved c =
    let self = c.args.self.now in
    let x : ℕ × PointState = (c.in-Some._number.now, c.in-Some.point_state.now) in
    let new = c.next.new.self in
    let free = c.is_conflict.ensures.conflict_free c.if-is_conflict.false in (
      λ all. c.loop-number.invariant.0 (subst (All (λ (e : ℕ × PointState). IsConflictFree e.1)) (sym c.in-Some.ensures.steps) (All-cons (λ (e : ℕ × PointState). IsConflictFree e.1) x new free all)),
      All-tail (λ (e : ℕ × PointState). lookup (is_at (nat_cmp e.0)) self ≡ Some e.1) x new
          (subst (All (λ (e : ℕ × PointState). lookup (is_at (nat_cmp e.0)) self ≡ Some e.1)) c.in-Some.ensures.steps c.loop-number.invariant.1),
    )

pub returns-clause-conflict_free : goal.returns-clause-conflict_free
returns-clause-conflict_free c = λ _ i.
    let self = c.args.self.now in
    let all = c.loop-number.invariant.0 (subst (All (λ (e : ℕ × PointState). IsConflictFree e.1)) (sym c.in-None.ensures.steps.0) (All-nil (λ (e : ℕ × PointState). IsConflictFree e.1))) in
    found_free (lookup (is_at (nat_cmp i)) self) (All-lookup IsConflictFree (is_at (nat_cmp i)) self all)
