use Rattle.std.proofs.Common.{◌≡◌, ℕ, ◌<◌, ◌&&◌, not, false, List, get_or, refl, sym, ap, ◌∙◌, arith}
use Rattle.js_lexer.specs.Written.{is_hidden_in_script}
use Rattle.js_step.specs.ScriptScanViews.{script_scan_at}
use Rattle.html_scan.specs.Scans.{script_fed_byte, script_scan_may_end}
use Rattle.html_scan.specs.Slices.{pending}
use Rattle.text_norm.proofs.ScriptRunKept.{run-ends, run-feeds, run-goes-on}
use Rattle.text_norm.proofs.script_writer.write_read.Goals as goal

pub loop-at-init : goal.loop-at-init
loop-at-init c = record { from = omega arith; to = c.requires.order; reach = c.requires.reach; fed = refl; written = λ kept. (kept, refl) }

pub write_script_byte-requires-clause-kept : goal.write_script_byte-requires-clause-kept
write_script_byte-requires-clause-kept c = (c.loop-at.invariant.written c.requires.kept).0

pub loop-at-preserved : goal.loop-at-preserved
loop-at-preserved c =
    let text = c.args.text.now in
    let at = c.loop-at.at in
    let more : at < c.args.to = omega (arith, c.loop-at-test.true) in
    let n = script_scan_at c.loop-at.read in
    let fed = c.after_byte-next.ensures.fed ∙ ap (λ (bytes : List ℕ). script_fed_byte n (get_or bytes at 0)) c.as_bytes-bytes.ensures.value in
    record {
      from = omega (arith, c.loop-at.invariant.from);
      to = omega (arith, more);
      reach = omega (arith, c.after_byte-next.ensures.reach, c.loop-at.invariant.reach);
      fed = run-feeds text at c.args.to n (script_scan_at c.after_byte-next.result) more c.requires.inside fed ∙ c.loop-at.invariant.fed;
      written = λ kept.
          let before = c.loop-at.invariant.written kept in
          run-goes-on text c.loop-at.out c.write_script_byte.new.out _ before.0.free at c.args.to c.in_ok-written.written n (script_scan_at c.after_byte-next.result) more c.requires.inside fed (c.in_ok-written.ensures before.0) before.1;
    }

pub returns : goal.returns
returns c kept =
    let text = c.args.text.now in
    let n = script_scan_at c.args.script in
    let here : c.loop-at.at ≡ c.args.to = omega (arith, c.loop-at-test.false, c.loop-at.invariant.to) in
    let plain : (not (script_scan_may_end n) && is_hidden_in_script (pending text c.args.from c.args.to)) ≡ false =
    ap (λ (bytes : List ℕ). not (script_scan_may_end n) && is_hidden_in_script (pending bytes c.args.from c.args.to)) (sym c.as_bytes-bytes.ensures.value) ∙ sym c.is_hidden.ensures ∙ c.if-is_hidden.false in
    run-ends text c.args.out.now c.loop-at.out kept.free c.args.from c.loop-at.at c.args.to c.loop-at.written n (script_scan_at c.loop-at.read) here c.loop-at.invariant.fed plain (c.loop-at.invariant.written kept)
