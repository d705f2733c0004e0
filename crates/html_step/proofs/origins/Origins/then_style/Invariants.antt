use Rattle.std.proofs.Common.{◌≡◌, ◌<◌, ℕ, length}
use Rattle.std.specs.Prelude.{slice_index_or}
use Rattle.html_step.specs.OriginViews.{all_members, origin_at}
use Rattle.html_step.specs.Origins.{style_byte_origin}
use Rattle.place_core.specs.declared.member.Member.TheVariants as member
use Rattle.css_step.specs.StyleScanViews.{style_scan_at}
use Rattle.html_step.proofs.origins.Origins.then_style.Given as goal

abbrev pub invariant-loop-number : goal.invariant-loop-number
invariant-loop-number l = record {
  count : length l.before ≡ 32;
  origins : (n : ℕ) → n < l.number → slice_index_or l.before n member.Whole
      ≡ origin_at l.self (style_byte_origin (style_scan_at l.style) l.byte (slice_index_or all_members n member.Whole));
}
