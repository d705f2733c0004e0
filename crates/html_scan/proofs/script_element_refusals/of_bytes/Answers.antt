use Rattle.std.proofs.Common.{◌≡◌, ◌+◌, ◌-◌, ◌∙◌, sym, ap, drop, get_or, length, arith, Option}
use Rattle.js_step.specs.ScriptScans.{ScriptScan}
use Rattle.js_step.specs.ScriptScanViews.{script_scan_at}
use Rattle.place_core.specs.place.Errors.{PathCause, first_cause, read_error}
use Rattle.html_scan.specs.Scans.{all_element_scripts, script_fed_byte}
use Rattle.html_scan.proofs.ScriptElements.{read_at}
use Rattle.html_scan.proofs.script_element_refusals.of_bytes.Goals as goal

pub returns-in-Some-clause-error : goal.returns-in-Some-clause-error
returns-in-Some-clause-error c =
    let i = c.loop-byte.byte-index in let b = get_or c.args.bytes.now i 0 in let fed = script_scan_at c.loop-byte.fed in
    let rest = read_error all_element_scripts (script_fed_byte fed b) (drop (i + 1) c.args.bytes.now) c.args.behind in
    let left : c.loop-byte.left - 1 + (i + 1) ≡ length c.args.bytes.now + c.args.behind = omega (arith, c.loop-byte.invariant.left, c.loop-byte-test.true) in
    ap (λ (o : Option PathCause). first_cause o rest) c.in-Some.ensures.error
    ∙ sym (read_at all_element_scripts fed c.args.bytes.now i c.args.behind (c.loop-byte.left - 1) c.loop-byte-test.true left)
    ∙ c.loop-byte.invariant.error

pub loop-byte-preserved : goal.loop-byte-preserved
loop-byte-preserved c =
    let i = c.loop-byte.byte-index in let b = get_or c.args.bytes.now i 0 in let fed = script_scan_at c.loop-byte.fed in
    let rest = read_error all_element_scripts (script_fed_byte fed b) (drop (i + 1) c.args.bytes.now) c.args.behind in
    let left : c.loop-byte.left - 1 + (i + 1) ≡ length c.args.bytes.now + c.args.behind = omega (arith, c.loop-byte.invariant.left, c.loop-byte-test.true) in
    record {
      error = ap (λ (s : ScriptScan). read_error all_element_scripts s (drop (i + 1) c.args.bytes.now) c.args.behind) c.after_byte-fed.ensures.fed
          ∙ ap (λ (o : Option PathCause). first_cause o rest) c.in-None.ensures.error
          ∙ sym (read_at all_element_scripts fed c.args.bytes.now i c.args.behind (c.loop-byte.left - 1) c.loop-byte-test.true left)
          ∙ c.loop-byte.invariant.error;
      left = left;
      reach = omega (arith, c.after_byte-fed.ensures.reach, c.loop-byte.invariant.reach);
    }
