use Rattle.std.proofs.Common.{◌+◌, drop, ap, ◌∙◌, length, arith}
use Rattle.std.proofs.lemmas.List.{length-drop}
use Rattle.std.proofs.lemmas.Str.{IsCharBoundary-after_ascii}
use Rattle.std.specs.List.{prefix_len}
use Rattle.tpl_token.specs.Strings.{is_raw}
use Rattle.tpl_token.proofs.Cuts.{cut_after_run, raw_ascii}
use Rattle.tpl_token.proofs.string.raw_at.Goals as goal

pub range-requires-clause-start_boundary : goal.range-requires-clause-start_boundary
range-requires-clause-start_boundary c = λ _. IsCharBoundary-after_ascii c.args.text.now c.args.start c.utf8.text c.requires.within (omega (arith, c.requires.quote))

pub range-requires-clause-end_boundary : goal.range-requires-clause-end_boundary
range-requires-clause-end_boundary c =
    let rest = c.split_at.ensures.back ∙ ap (drop (c.args.start + 1)) c.as_bytes.ensures.value in
    cut_after_run is_raw c.args.text.now (c.args.start + 1) c.bytes_until-len.result raw_ascii (c.bytes_until-len.ensures.len ∙ ap (prefix_len is_raw) rest)
    (omega (arith, c.bytes_until-len.ensures.bound, ap length rest, length-drop (c.args.start + 1) c.args.text.now, c.requires.within))
