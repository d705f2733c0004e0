use Rattle.std.proofs.Common.{◌≡◌, ◌<◌, ◌+◌, ℕ, refl, sym, subst, ◌∙◌, arith, length}
use Rattle.html_scan.specs.ClassViews.{class_at}
use Rattle.html_scan.specs.ScanViews.{scan_at}
use Rattle.html_scan.specs.Scans.{At}
use Rattle.html_step.specs.ApartScans.{AnswersLast}
use Rattle.html_step.proofs.LastApartScans.{AreAt, at-more, last-before, last-end, last-here, last-whole}
use Rattle.html_step.proofs.last_point.last_by_scans.Goals as goal
use Rattle.html_step.proofs.last_point.last_by_scans.Goals.{then-are_apart, else-are_apart}

pub loop-index-init : goal.loop-index-init
loop-index-init c =
    (omega arith, omega arith, record { one = refl; other = refl }, λ m h t. absurd (let never : ⊥ = omega (arith, h) in never))

pub loop-index-preserved : goal.loop-index-preserved
loop-index-preserved c =
    let text = c.args.text.now in
    let i = c.loop-index.index in
    let f = At c.args.one in
    let g = At c.args.other in
    let x = scan_at text i c.loop-index.one in
    let y = scan_at text i c.loop-index.other in
    let here : AreAt i text f g x y = c.loop-index.invariant.2 in
    let inside : i < length text = omega (arith, c.loop-index-test.true, c.min-end.ensures) in
    let last : AnswersLast (i + 1) text f g c.if-are_apart.last =
    elim c.if-are_apart.branch [
      | then-are_apart w ↦ rw w.last-is (last-here i text f g x y here (c.are_apart.ensures.0 w.if-are_apart.true))
      | else-are_apart w ↦ rw w.last-is (
          last-before i text f g x y c.loop-index.last here (λ h. let apart = sym w.if-are_apart.false ∙ c.are_apart.ensures.1 h in cc)
          c.loop-index.invariant.3
          )
    ] in (
      c.next-one.ensures.pending,
      c.next-other.ensures.pending,
      at-more i 0 text (class_at c.class_of-class.result) f g x y (scan_at text (i + 1) c.next-one.result)
          (scan_at text (i + 1) c.next-other.result) inside c.class_of-class.ensures here c.next-one.ensures.scan c.next-other.ensures.scan,
      last,
    )

pub returns-then-are_apart-2 : goal.returns-then-are_apart-2
returns-then-are_apart-2 c =
    let text = c.args.text.now in
    let end = c.min-end.result in
    let f = At c.args.one in
    let g = At c.args.other in
    let x = λ (k : ℕ). scan_at text k c.loop-index.one in
    let y = λ (k : ℕ). scan_at text k c.loop-index.other in
    let e : c.loop-index.index ≡ end = omega (arith, c.loop-index-test.false, c.loop-index.auto.index-end) in
    let here = subst (λ (k : ℕ). AreAt k text f g (x k) (y k)) e c.loop-index.invariant.2 in
    last-end c.args.upto end text f g (x end) (y end) c.min-end.ensures here (c.are_apart-2.ensures.0 c.if-are_apart-2.true)

pub returns : goal.returns
returns c =
    let text = c.args.text.now in
    let end = c.min-end.result in
    let f = At c.args.one in
    let g = At c.args.other in
    let x = λ (k : ℕ). scan_at text k c.loop-index.one in
    let y = λ (k : ℕ). scan_at text k c.loop-index.other in
    let last = c.loop-index.last in
    let e : c.loop-index.index ≡ end = omega (arith, c.loop-index-test.false, c.loop-index.auto.index-end) in
    let here = subst (λ (k : ℕ). AreAt k text f g (x k) (y k)) e c.loop-index.invariant.2 in
    last-whole c.args.upto end text f g (x end) (y end) last c.min-end.ensures here
    (λ h. let apart = sym c.if-are_apart-2.false ∙ c.are_apart-2.ensures.1 h in cc)
    (subst (λ (k : ℕ). AnswersLast k text f g last) e c.loop-index.invariant.3)
