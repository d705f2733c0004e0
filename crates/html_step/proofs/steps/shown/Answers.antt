use Rattle.std.proofs.Common.{◌≡◌, ◌+◌, ◌-◌, ℕ, Option, Some, arith, ap, sym, ◌∙◌, drop}
use Rattle.place_core.specs.declared.place.Place.{Place}
use Rattle.html_scan.specs.ClassViews.{class_at}
use Rattle.html_scan.specs.ScanViews.{scan_at}
use Rattle.html_scan.specs.Scans.{At, scan_shown}
use Rattle.html_step.specs.Steps.{or_shown, shown_scan}
use Rattle.html_step.proofs.ShownTexts.{shown-at, shown-before, shown-from, shown-here, shown-more}
use Rattle.html_step.proofs.steps.shown.Goals as goal
use Rattle.html_step.proofs.steps.shown.Goals.{then-is_shown, else-is_shown, then-is_shown-2, else-is_shown-2}

pub loop-index-init : goal.loop-index-init
loop-index-init c =
    let all : c.args.at - 0 ≡ c.args.at = omega arith in
    (ap (λ (n : ℕ). shown_scan n c.args.text.now (At c.args.place) (Some c.args.place)) all, omega arith, omega arith, omega arith)

pub loop-index-preserved : goal.loop-index-preserved
loop-index-preserved c =
    let text = c.args.text.now in
    let i = c.loop-index.index in
    let f = scan_at text i c.loop-index.scan in
    let left = drop i text in
    let before = scan_shown (scan_at text c.loop-index.end c.loop-index.last) (drop c.loop-index.end text) in
    let more =
    λ (after : Option Place). shown-more c.args.at i 0 text (class_at c.class_of.result) f (scan_at text (i + 1) c.next-scan.result) before after
    (shown_scan c.args.at text (At c.args.place) (Some c.args.place)) (omega (arith, c.loop-index-test.true)) c.requires.inside c.class_of.ensures
    c.next-scan.ensures.scan in
    elim c.if-is_shown.branch [
      | then-is_shown w ↦ rw (w.last-is, w.end-is) (
        more (scan_shown f left) (shown-here (scan_shown f left) before (sym w.if-is_shown.true ∙ c.is_shown.ensures)) c.loop-index.invariant.0,
        c.next-scan.ensures.pending,
        c.loop-index.invariant.1,
        omega arith,
      )
      | else-is_shown w ↦ rw (w.last-is, w.end-is) (
        more before (shown-before (scan_shown f left) before (sym w.if-is_shown.false ∙ c.is_shown.ensures)) c.loop-index.invariant.0,
        c.next-scan.ensures.pending,
        c.loop-index.invariant.2,
        omega (arith, c.loop-index.invariant.3),
      )
    ]

pub returns-in-Some : goal.returns-in-Some
returns-in-Some c =
    let text = c.args.text.now in
    let f = λ (k : ℕ). scan_at text k c.loop-index.scan in
    let here = scan_shown (f c.args.at) (drop c.args.at text) in
    let before = scan_shown (scan_at text c.loop-index.end c.loop-index.last) (drop c.loop-index.end text) in
    let shown = scan_shown (scan_at text c.if-is_shown-2.end c.if-is_shown-2.last) (drop c.if-is_shown-2.end text) in
    let z = shown_scan c.args.at text (At c.args.place) (Some c.args.place) in
    let last =
    λ (after : Option Place). shown-at c.args.at c.loop-index.index text f before after z
    (omega (arith, c.loop-index-test.false, c.loop-index.auto.index-end)) in
    let tells = c.is_shown-2.ensures in
    let is : shown ≡ z =
    elim c.if-is_shown-2.branch [
      | then-is_shown-2 w ↦ rw (w.last-is, w.end-is) (last here (shown-here here before (sym w.if-is_shown-2.true ∙ tells)) c.loop-index.invariant.0)
      | else-is_shown-2 w ↦ rw (w.last-is, w.end-is) (last before (shown-before here before (sym w.if-is_shown-2.false ∙ tells)) c.loop-index.invariant.0)
    ] in
    ap (λ (o : Option Place). or_shown o c.args.place) (sym c.in-Some.is ∙ c.shown_place.ensures ∙ is ∙ shown-from c.args.at text c.args.place)

pub returns-in-None : goal.returns-in-None
returns-in-None c =
    let text = c.args.text.now in
    let f = λ (k : ℕ). scan_at text k c.loop-index.scan in
    let here = scan_shown (f c.args.at) (drop c.args.at text) in
    let before = scan_shown (scan_at text c.loop-index.end c.loop-index.last) (drop c.loop-index.end text) in
    let shown = scan_shown (scan_at text c.if-is_shown-2.end c.if-is_shown-2.last) (drop c.if-is_shown-2.end text) in
    let z = shown_scan c.args.at text (At c.args.place) (Some c.args.place) in
    let last =
    λ (after : Option Place). shown-at c.args.at c.loop-index.index text f before after z
    (omega (arith, c.loop-index-test.false, c.loop-index.auto.index-end)) in
    let tells = c.is_shown-2.ensures in
    let is : shown ≡ z =
    elim c.if-is_shown-2.branch [
      | then-is_shown-2 w ↦ rw (w.last-is, w.end-is) (last here (shown-here here before (sym w.if-is_shown-2.true ∙ tells)) c.loop-index.invariant.0)
      | else-is_shown-2 w ↦ rw (w.last-is, w.end-is) (last before (shown-before here before (sym w.if-is_shown-2.false ∙ tells)) c.loop-index.invariant.0)
    ] in
    ap (λ (o : Option Place). or_shown o c.args.place) (sym c.in-None.is ∙ c.shown_place.ensures ∙ is ∙ shown-from c.args.at text c.args.place)
