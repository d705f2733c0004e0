use Rattle.std.proofs.Common.{◌≡◌, ◌+◌, ◌≤◌, length, ap, arith}
use Rattle.js_step.specs.ScriptScanViews.{script_scan_at}
use Rattle.place_core.specs.place.Errors.{PathCause}
use Rattle.html_scan.specs.ScriptStepViews.{pending_opens}
use Rattle.html_scan.specs.ScanViews.{cause_at, script_pending_at, script_reach}
use Rattle.html_scan.proofs.ScriptElements.{bound_within, letters_refused, opens_refused}
use Rattle.html_scan.proofs.script_element_refusals.of_pending.Goals as goal

pub returns-in-Some : goal.returns-in-Some
returns-in-Some c =
    let h = script_pending_at c.args.text.now c.args.index c.args.back in
    let opens = c.opening-opens.ensures.bytes c.args.text.now c.args.index in
    let cause : PathCause = record { code = c.in-Some.cause.code; back = c.in-Some.cause.back; shown = c.in-Some.cause.shown } in
    let long : length c.opening-opens.result.now ≡ length (pending_opens h) = ap length opens in
    let all = c.letters_of-letters.ensures.len in
    let back : c.in-Some.cause.back ≤ c.args.index = omega (arith, c.in-Some.ensures.bound.0, long, all, c.requires.pending) in
    let shown : c.in-Some.cause.shown ≤ c.args.index = omega (arith, c.in-Some.ensures.bound.1, long, all, c.requires.pending) in
    record {
      error = opens_refused (script_scan_at c.args.script) h c.opening-opens.result.now c.letters_of-letters.result.now cause opens
          c.letters_of-letters.ensures.letters c.in-Some.ensures.error;
      bound = (back, shown);
    }

pub returns-in-None : goal.returns-in-None
returns-in-None c =
    let h = script_pending_at c.args.text.now c.args.index c.args.back in
    let opens = c.opening-opens.ensures.bytes c.args.text.now c.args.index in
    let long : length c.opening-opens.result.now ≡ length (pending_opens h) = ap length opens in
    let within : script_reach c.after_bytes.result + length c.letters_of-letters.result.now + 1 ≤ c.args.index + 1 =
    omega (arith, c.after_bytes.ensures.reach, long, c.letters_of-letters.ensures.len, c.requires.pending) in
    record {
      error = letters_refused (script_scan_at c.args.script) (script_scan_at c.after_bytes.result) h c.opening-opens.result.now
          c.letters_of-letters.result.now (cause_at c.of_bytes-in-None.result) opens c.letters_of-letters.ensures.letters c.in-None.ensures.error
          c.after_bytes.ensures.fed c.of_bytes-in-None.ensures.error;
      bound = bound_within (script_reach c.after_bytes.result + length c.letters_of-letters.result.now + 1) c.args.index c.of_bytes-in-None.result within
          c.of_bytes-in-None.ensures.bound;
    }
