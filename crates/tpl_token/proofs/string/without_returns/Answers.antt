use Rattle.std.proofs.Common.{◌+◌, ◌++◌, List, ℕ, drop, ap, ◌∙◌, length, arith}
use Rattle.std.proofs.lemmas.List.{length-drop}
use Rattle.std.proofs.lemmas.Str.{IsCharBoundary-start}
use Rattle.std.specs.List.{prefix_len}
use Rattle.tpl_token.specs.Strings.{is_kept_plain}
use Rattle.tpl_token.specs.Scanning.{without_returns}
use Rattle.tpl_token.proofs.Cuts.{cut_after_run, cut_after_stop}
use Rattle.tpl_token.proofs.Marks.{stops_at}
use Rattle.tpl_token.proofs.Raws.{kept_ascii, copied_run, copied_return}
use Rattle.tpl_token.proofs.string.without_returns.Goals as goal

pub loop-at-init : goal.loop-at-init
loop-at-init c = record {
  within = omega arith;
  cut = IsCharBoundary-start c.args.text.now c.utf8.text;
  copied = ap (λ (xs : List ℕ). xs ++ without_returns c.args.text.now) c.new-copy.ensures.bytes;
}

pub range-requires-clause-end_boundary : goal.range-requires-clause-end_boundary
range-requires-clause-end_boundary c =
    let rest = c.split_at.ensures.back ∙ ap (drop c.loop-at.at) c.as_bytes.ensures.value in
    cut_after_run is_kept_plain c.args.text.now c.loop-at.at c.bytes_until-run.result kept_ascii (c.bytes_until-run.ensures.len ∙ ap (prefix_len is_kept_plain) rest)
    (omega (arith, c.bytes_until-run.ensures.bound, ap length rest, length-drop c.loop-at.at c.args.text.now, c.loop-at.invariant.within))

pub loop-at-preserved-then-at-text : goal.loop-at-preserved-then-at-text
loop-at-preserved-then-at-text c =
    let text = c.args.text.now in
    let at = c.loop-at.at + c.bytes_until-run.result in
    let rest = c.split_at.ensures.back ∙ ap (drop c.loop-at.at) c.as_bytes.ensures.value in
    let run = c.bytes_until-run.ensures.len ∙ ap (prefix_len is_kept_plain) rest in
    let stops = stops_at is_kept_plain text c.loop-at.at c.bytes_until-run.result run in
    record {
      within = omega (arith, c.if-at-text.true);
      cut = cut_after_stop is_kept_plain text at c.utf8.text kept_ascii stops c.if-at-text.true;
      copied = copied_return text _ _ at stops (copied_run text _ _ _ _ c.loop-at.at c.bytes_until-run.result run c.in_ok-push_str.ensures.bytes c.range.ensures.value c.loop-at.invariant.copied);
    }

pub loop-at-preserved : goal.loop-at-preserved
loop-at-preserved c =
    let text = c.args.text.now in
    let rest = c.split_at.ensures.back ∙ ap (drop c.loop-at.at) c.as_bytes.ensures.value in
    let run = c.bytes_until-run.ensures.len ∙ ap (prefix_len is_kept_plain) rest in
    record {
      within = omega (arith, c.bytes_until-run.ensures.bound, ap length rest, length-drop c.loop-at.at text, c.loop-at.invariant.within);
      cut = cut_after_run is_kept_plain text c.loop-at.at c.bytes_until-run.result kept_ascii run (omega (arith, c.bytes_until-run.ensures.bound, ap length rest, length-drop c.loop-at.at text, c.loop-at.invariant.within));
      copied = copied_run text _ _ _ _ c.loop-at.at c.bytes_until-run.result run c.in_ok-push_str.ensures.bytes c.range.ensures.value c.loop-at.invariant.copied;
    }
