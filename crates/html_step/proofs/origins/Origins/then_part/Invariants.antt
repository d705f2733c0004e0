use Rattle.std.proofs.Common.{◌≡◌, ◌<◌, ℕ, length}
use Rattle.std.specs.Prelude.{slice_index_or}
use Rattle.html_step.specs.OriginViews.{all_members, origin_at}
use Rattle.html_step.specs.Origins.{part_origin}
use Rattle.place_core.specs.declared.member.Member.TheVariants as member
use Rattle.url_lexer.specs.Classes.{url_class_of}
use Rattle.html_step.proofs.origins.Origins.then_part.Given as goal

abbrev pub invariant-loop-number : goal.invariant-loop-number
invariant-loop-number l = record {
  count : length l.before ≡ 32;
  origins : (n : ℕ) → n < l.number → slice_index_or l.before n member.Whole
      ≡ origin_at l.self (part_origin l.parts (url_class_of l.byte) (slice_index_or all_members n member.Whole));
}
