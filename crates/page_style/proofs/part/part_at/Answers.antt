use Rattle.std.proofs.Common.{◌≡◌, ◌+◌, ℕ, drop, sym, ap, ◌∙◌, subst}
use Rattle.std.specs.Str.{IsCharBoundary}
use Rattle.page_style.specs.Parts.{part_len}
use Rattle.page_style.proofs.PartReads.{cut_part}
use Rattle.page_style.proofs.part.part_at.Goals as goal

pub returns-clause-cut : goal.returns-clause-cut
returns-clause-cut c =
    let len : c.part_len.result ≡ part_len (drop c.args.from c.args.text.now) = c.part_len.ensures.len ∙ ap part_len (c.split_at.ensures.back ∙ ap (drop c.args.from) c.as_bytes.ensures.value) in
    subst (λ (n : ℕ). IsCharBoundary c.args.text.now (c.args.from + n)) (sym len) (cut_part c.args.text.now c.args.from c.utf8.text c.requires.within)
