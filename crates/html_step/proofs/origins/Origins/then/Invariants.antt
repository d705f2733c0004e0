use Rattle.std.proofs.Common.{◌≡◌, ◌<◌, ℕ, length}
use Rattle.std.specs.Prelude.{get_or, slice_index_or}
use Rattle.html_scan.specs.ClassViews.{class_at}
use Rattle.html_scan.specs.ScanViews.{scan_at}
use Rattle.html_step.specs.OriginViews.{all_members, origin_at}
use Rattle.html_step.specs.Origins.{behind_origin}
use Rattle.place_core.specs.declared.member.Member.TheVariants as member
use Rattle.html_step.proofs.origins.Origins.then.Given as goal

abbrev pub invariant-loop-number : goal.invariant-loop-number
invariant-loop-number l = record {
  count : length l.before ≡ 32;
  origins : (n : ℕ) → n < l.number → slice_index_or l.before n member.Whole
      ≡ origin_at l.fed (behind_origin (scan_at l.text l.index l.scan) (class_at l.class) (get_or l.text l.index 0)
      (slice_index_or all_members n member.Whole));
}
