use Rattle.std.proofs.Common.{◌≡◌, ◌∷◌, ◌++◌, [], get_or, option_map, subst, sym, true}
use Rattle.js_step.specs.ScriptScanViews.{script_scan_at}
use Rattle.place_core.specs.page.Contents.{pending_bytes}
use Rattle.place_core.specs.page.States.{Nothing, PendingLess}
use Rattle.html_scan.specs.ClassViews.{class_at}
use Rattle.html_scan.specs.ScanViews.{script_pending_at}
use Rattle.html_scan.specs.ScriptStepViews.{script_step_at}
use Rattle.html_step.specs.OriginViews.{evidence_at}
use Rattle.html_step.specs.Origins.{ends_by_step, script_told_shown, step_asked}
use Rattle.html_step.proofs.ScriptElementShowing.{told-by, told-reads}
use Rattle.html_step.proofs.script_element_showing.told.Goals as goal

pub returns-in-Releases : goal.returns-in-Releases
returns-in-Releases c =
    let text = c.args.text.now in
    let i = c.args.index in
    let n = script_scan_at c.args.script in
    let h = script_pending_at text i c.args.pending in
    let b = get_or text i 0 in
    let o = option_map evidence_at c.of_last.result in
    told-by c.may_end.result n h (class_at c.args.class) b (script_step_at text i h b c.script_step.result) o c.script_step.ensures.step c.may_end.ensures
    (subst (λ z. o ≡ script_told_shown true (ends_by_step (script_step_at text i h b z)) (step_asked (script_step_at text i h b z)) n) (sym c.in-Releases.is)
    (told-reads (pending_bytes h) PendingLess n o c.of_last.ensures))

pub returns-in-Reads : goal.returns-in-Reads
returns-in-Reads c =
    let text = c.args.text.now in
    let i = c.args.index in
    let n = script_scan_at c.args.script in
    let h = script_pending_at text i c.args.pending in
    let b = get_or text i 0 in
    let o = option_map evidence_at c.of_last-in-Reads.result in
    told-by c.may_end.result n h (class_at c.args.class) b (script_step_at text i h b c.script_step.result) o c.script_step.ensures.step c.may_end.ensures
    (subst (λ z. o ≡ script_told_shown true (ends_by_step (script_step_at text i h b z)) (step_asked (script_step_at text i h b z)) n) (sym c.in-Reads.is)
    (told-reads (pending_bytes h ++ b ∷ []) Nothing n o c.of_last-in-Reads.ensures))
