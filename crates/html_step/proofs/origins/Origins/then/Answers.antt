use Rattle.std.proofs.Common.{◌≡◌, ◌∙◌, ℕ, List, set, sym, ap, subst, arith}
use Rattle.std.proofs.lemmas.List.{length-set}
use Rattle.std.proofs.lemmas.List.Edits.{fill_by_more}
use Rattle.std.specs.Prelude.{get_or, slice_index_or}
use Rattle.html_scan.specs.ClassViews.{class_at}
use Rattle.html_scan.specs.ScanViews.{scan_at}
use Rattle.html_step.proofs.OriginSteps.{member-at, number-below}
use Rattle.html_step.specs.OriginViews.{all_members, member_number, origin_at}
use Rattle.html_step.specs.Origins.{behind_origin}
use Rattle.place_core.specs.declared.member.Member.{Member}
use Rattle.place_core.specs.declared.member.Member.TheVariants as member
use Rattle.html_step.proofs.origins.Origins.then.Goals as goal

pub loop-number-preserved : goal.loop-number-preserved
loop-number-preserved c =
    let before = c.loop-number.before in
    let i = c.loop-number.number in
    let inv = c.loop-number.invariant in
    let v = c.of.result in
    let fed = c.behind_byte-fed.result in
    let count = inv.count in
    let below = c.loop-number-test.true in
    let text = c.args.text.now in
    let k = c.args.index in
    record {
      count = length-set before i v ∙ count;
      origins = λ n lt. (
          let f : ℕ → Member = λ m. origin_at fed (behind_origin (scan_at text k c.args.scan) (class_at c.args.class) (get_or text k 0) (slice_index_or all_members m member.Whole)) in
          let is : v ≡ f i = c.of.ensures ∙ ap (origin_at fed) c.behind_origin.ensures
          ∙ ap (λ (xs : List Member). origin_at fed (behind_origin (scan_at text k c.args.scan) (class_at c.args.class) (get_or text k 0) (slice_index_or xs i member.Whole))) c.members-members.ensures in
          subst (λ (w : Member). slice_index_or (set before i w) n member.Whole ≡ f n) (sym is)
          (fill_by_more f before i member.Whole (omega (arith, count, below)) (λ m less. inv.origins m less) n lt));
    }

pub returns : goal.returns
returns c = λ y.
    let below = number-below y in
    let end = c.loop-number-test.false in
    let text = c.args.text.now in
    let k = c.args.index in
    c.loop-number.invariant.origins (member_number y) (omega (arith, below, end))
    ∙ member-at (λ m. origin_at c.behind_byte-fed.result (behind_origin (scan_at text k c.args.scan) (class_at c.args.class) (get_or text k 0) m)) y
    ∙ c.behind_byte-fed.ensures (behind_origin (scan_at text k c.args.scan) (class_at c.args.class) (get_or text k 0) y)
