use Rattle.std.proofs.Common.{◌≡◌, ◌≤◌, ◌+◌, ℕ, [], length, Option, Some, None, refl, ◌∙◌, subst, arith}
use Rattle.std.specs.Prelude.{IfSome}
use Rattle.place_core.specs.place.Errors.{PathCause, nothing_read}
use Rattle.html_scan.specs.ClassViews.{class_at}
use Rattle.html_scan.specs.ScanViews.{scan_at}
use Rattle.html_scan.specs.Scans.{At}
use Rattle.html_step.specs.Steps.{stepped}
use Rattle.html_step.proofs.TextReads.{TextReads, reads-end, reads-next, reads-refused}
use Rattle.html_step.proofs.steps.stepped.Goals as goal

pub loop-index-init : goal.loop-index-init
loop-index-init c = (record { fed = []; reads = tt; steps = refl }, omega arith, omega arith, omega arith, tt)

some-more : (k : ℕ) (o : Option ℕ) → IfSome o (λ (n : ℕ). n ≤ k) → IfSome o (λ (n : ℕ). n ≤ k + 1)
some-more k None h = tt
some-more k (Some n) h = (let l : n ≤ k = h in omega (arith, l))

pub loop-index-preserved : goal.loop-index-preserved
loop-index-preserved c =
    let text = c.args.text.now in
    let k = c.loop-index.index in
    let known = c.loop-index.known in
    let after = c.behind-known in (
      reads-next text k known.begins known.since known.deep (scan_at text k c.loop-index.scan) (scan_at text (k + 1) c.next-scan.result)
          (class_at c.class_of-class.result) (stepped 0 nothing_read text (At c.args.place)) after.result.since after.result.begins after.result.deep
          (omega (arith, c.loop-index-test.true)) c.class_of-class.ensures c.in-None.ensures.refusal after.ensures.since after.ensures.begins
          after.ensures.deep c.next-scan.ensures.scan c.loop-index.invariant.0,
      c.next-scan.ensures.pending,
      omega (arith, after.ensures.bound.0),
      omega (arith, after.ensures.bound.1),
      some-more k after.result.deep after.ensures.within,
    )

pub returns-in-Some-clause-place : goal.returns-in-Some-clause-place
returns-in-Some-clause-place c =
    let text = c.args.text.now in
    let k = c.loop-index.index in
    let known = c.loop-index.known in
    let e : PathCause = record { code = c.in-Some.cause.code; back = c.in-Some.cause.back; shown = c.in-Some.cause.shown } in
    rw (c.refused.ensures.code, c.refused.ensures.at, c.refused.ensures.shown)
    (reads-refused text k known.begins known.since known.deep (scan_at text k c.loop-index.scan) (class_at c.class_of-class.result)
    (stepped 0 nothing_read text (At c.args.place)) e (omega (arith, c.loop-index-test.true)) c.class_of-class.ensures c.in-Some.ensures.refusal
    c.loop-index.invariant.0)

pub returns-in-Some-refused_at_end-clause-place : goal.returns-in-Some-refused_at_end-clause-place
returns-in-Some-refused_at_end-clause-place c =
    let text = c.args.text.now in
    let known = c.loop-index.known in
    let whole = stepped 0 nothing_read text (At c.args.place) in
    let x = c.in-Some-refused_at_end.cause in
    let e : PathCause = record { code = x.code; back = x.back; shown = x.shown } in
    let end : c.loop-index.index ≡ length text = omega (arith, c.loop-index-test.false, c.loop-index.auto.index-end) in
    let there = subst (λ (m : ℕ). TextReads text known.begins m (scan_at text m c.loop-index.scan) known.since known.deep whole) end c.loop-index.invariant.0 in
    let o = c.refused-in-Some-refused_at_end.ensures in
    rw (o.code, o.at, o.shown)
    (reads-end text (length text) known.begins known.since known.deep (scan_at text (length text) c.loop-index.scan) whole (Some e) refl
    c.in-Some-refused_at_end.ensures.refusal there)

pub returns-in-None-refused_at_end-clause-place : goal.returns-in-None-refused_at_end-clause-place
returns-in-None-refused_at_end-clause-place c =
    let text = c.args.text.now in
    let known = c.loop-index.known in
    let whole = stepped 0 nothing_read text (At c.args.place) in
    let end : c.loop-index.index ≡ length text = omega (arith, c.loop-index-test.false, c.loop-index.auto.index-end) in
    let there = subst (λ (m : ℕ). TextReads text known.begins m (scan_at text m c.loop-index.scan) known.since known.deep whole) end c.loop-index.invariant.0 in
    c.ended.ensures.place
    ∙ reads-end text (length text) known.begins known.since known.deep (scan_at text (length text) c.loop-index.scan) whole None refl
    c.in-None-refused_at_end.ensures.refusal there
