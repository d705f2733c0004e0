use Rattle.std.proofs.Common.{drop, ap, ◌∙◌, length, arith}
use Rattle.std.proofs.lemmas.List.{length-drop}
use Rattle.std.specs.List.{prefix_len}
use Rattle.tpl_token.specs.Strings.{is_plain_byte}
use Rattle.tpl_token.proofs.Cuts.{cut_after_run, plain_ascii}
use Rattle.tpl_token.proofs.Marks.{stops_at}
use Rattle.tpl_token.proofs.QuotedStrings.{after_run}
use Rattle.tpl_token.proofs.string.push_plain.Goals as goal

pub range-requires-clause-end_boundary : goal.range-requires-clause-end_boundary
range-requires-clause-end_boundary c =
    let rest = c.split_at.ensures.back ∙ ap (drop c.args.at) c.as_bytes.ensures.value in
    cut_after_run is_plain_byte c.args.text.now c.args.at c.plain_len-run.result plain_ascii (c.plain_len-run.ensures.len ∙ ap (prefix_len is_plain_byte) rest)
    (omega (arith, c.plain_len-run.ensures.bound, ap length rest, length-drop c.args.at c.args.text.now, c.requires.within))

pub returns-clause-cut : goal.returns-clause-cut
returns-clause-cut c =
    let rest = c.split_at.ensures.back ∙ ap (drop c.args.at) c.as_bytes.ensures.value in
    cut_after_run is_plain_byte c.args.text.now c.args.at c.plain_len-run.result plain_ascii (c.plain_len-run.ensures.len ∙ ap (prefix_len is_plain_byte) rest)
    (omega (arith, c.plain_len-run.ensures.bound, ap length rest, length-drop c.args.at c.args.text.now, c.requires.within))

pub returns-clause-stops : goal.returns-clause-stops
returns-clause-stops c =
    let rest = c.split_at.ensures.back ∙ ap (drop c.args.at) c.as_bytes.ensures.value in
    stops_at is_plain_byte c.args.text.now c.args.at c.plain_len-run.result (c.plain_len-run.ensures.len ∙ ap (prefix_len is_plain_byte) rest)

pub returns-clause-copied : goal.returns-clause-copied
returns-clause-copied c =
    let rest = c.split_at.ensures.back ∙ ap (drop c.args.at) c.as_bytes.ensures.value in
    after_run c.args.text.now _ _ _ c.args.at c.plain_len-run.result (c.plain_len-run.ensures.len ∙ ap (prefix_len is_plain_byte) rest) c.in_ok-push_str.ensures.bytes c.range.ensures.value
