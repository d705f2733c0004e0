use Rattle.std.proofs.Common.{◌≡◌, ℕ, false, Option, Some, None, refl, sym, ◌∙◌}
use Rattle.std.specs.Prelude.{is_some}
use Rattle.place_infer.proofs.KeptLaws.{kept_taken}
use Rattle.place_infer.proofs.kept.keep_pair.Goals as goal

none_by : (o : Option ℕ) → is_some o ≡ false → o ≡ None
none_by None e = refl
none_by (Some n) e = cc

pub returns-clause-kept : goal.returns-clause-kept
returns-clause-kept c = λ forest roots first whole kept reached.
    let summary = c.taken-summary.result in
    let t = c.taken-summary.ensures.template in
    let e = c.taken-summary.ensures.entry in
    let none = sym c.find.ensures.number ∙ none_by c.find.result (sym c.is_some.ensures ∙ c.if-is_some.false) in
    rw c.in_ok-push.ensures.ok
    (kept_taken forest roots first whole c.args.all.now c.taken-summary.new.all c.args.kept.now summary kept (rw (t, e) none) (λ k. rw (t, e) (c.taken-summary.ensures.same k)) c.taken-summary.ensures.left (rw (t, e) reached))
