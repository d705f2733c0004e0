use Rattle.std.proofs.Common.{◌≡◌, ℕ, ap, arith, get_or, drop, length, sym, ◌∙◌, ◌+◌}
use Rattle.std.proofs.lemmas.List.{drop_more}
use Rattle.html_scan.specs.ClassViews.{class_at}
use Rattle.html_scan.specs.ScanViews.{scan_at}
use Rattle.html_scan.specs.Scans.{At}
use Rattle.html_step.specs.OriginViews.{evidence_at, origin_at}
use Rattle.html_step.specs.Origins.{end_shows, script_end_shown, shows}
use Rattle.html_step.proofs.OriginSteps.{evidence-ends, evidence-then, through-same}
use Rattle.html_step.proofs.showing.evidence.Goals as goal

pub loop-index-init : goal.loop-index-init
loop-index-init c = (through-same (origin_at c.same-origins.result) c.same-origins.ensures (shows c.args.text.now (At c.args.place)), omega arith)

pub loop-index-preserved : goal.loop-index-preserved
loop-index-preserved c =
    let text = c.args.text.now in
    let i = c.loop-index.index in (
      evidence-then (origin_at c.loop-index.origins) (origin_at c.then-origins.result) (evidence_at c.loop-index.apart) (evidence_at c.of_apart-apart.result) (scan_at text i c.loop-index.scan) (scan_at text (i + 1) c.next-scan.result) (class_at c.class_of-class.result)
          (get_or text i 0) (drop i text) (drop (i + 1) text) c.at_byte.result (shows text (At c.args.place)) (drop_more text i 0 (omega (arith, c.loop-index-test.true)))
          c.class_of-class.ensures c.at_byte.ensures.error (sym c.is_some.ensures ∙ c.if-is_some.false) (sym c.in_default.ensures) c.then-origins.ensures (c.of_apart-apart.ensures text i)
          c.next-scan.ensures.scan c.loop-index.invariant.0,
      c.next-scan.ensures.pending,
    )

pub returns-in-None : goal.returns-in-None
returns-in-None c =
    let text = c.args.text.now in
    let i = c.loop-index.index in
    let scan = c.loop-index.scan in
    let same : i ≡ length text = omega (arith, c.loop-index.auto.index-end, c.loop-index-test.false) in
    evidence-ends (origin_at c.loop-index.origins) (evidence_at c.loop-index.apart) text (scan_at text i scan) i c.of.result (shows text (At c.args.place)) (omega (arith, same))
    (ap (λ (k : ℕ). script_end_shown (scan_at text k scan)) same ∙ sym c.in-None.ensures)
    (c.of.ensures ∙ ap (origin_at c.loop-index.origins) (c.end_shows.ensures ∙ ap (λ (k : ℕ). end_shows (scan_at text k scan)) (sym same))) c.loop-index.invariant.0
