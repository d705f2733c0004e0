use Rattle.std.proofs.Common.{◌≡◌, ◌<◌, ℕ, length}
use Rattle.std.specs.Prelude.{slice_index_or}
use Rattle.html_step.specs.OriginViews.{all_members, origin_at}
use Rattle.html_step.specs.Origins.{script_origin}
use Rattle.place_core.specs.declared.member.Member.TheVariants as member
use Rattle.js_step.specs.ScriptScanViews.{script_scan_at}
use Rattle.html_step.proofs.origins.Origins.then_script.Given as goal

abbrev pub invariant-loop-number : goal.invariant-loop-number
invariant-loop-number l = record {
  count : length l.before ≡ 32;
  origins : (n : ℕ) → n < l.number → slice_index_or l.before n member.Whole
      ≡ origin_at l.self (script_origin (script_scan_at l.script) (slice_index_or all_members n member.Whole));
}
