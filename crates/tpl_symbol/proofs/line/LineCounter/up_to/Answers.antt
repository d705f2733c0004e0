use Rattle.std.proofs.Common.{◌-◌, ap, ◌∙◌, arith, take, drop, List, ℕ}
use Rattle.page_io.specs.Lines.{line_feeds}
use Rattle.tpl_symbol.proofs.LineLaws.{line_of-later}
use Rattle.tpl_symbol.proofs.line.LineCounter.up_to.Goals as goal

pub returns-clause-line : goal.returns-clause-line
returns-clause-line c =
    let between = c.split_at-2.ensures.front ∙ ap (λ (xs : List ℕ). take (c.args.offset - c.args.self.at) xs) (c.split_at.ensures.back ∙ ap (drop c.args.self.at) c.as_bytes.ensures.value) in
    omega (arith, line_of-later c.args.text.now c.args.self.at c.args.offset c.requires.later, c.line_feeds.ensures.count ∙ ap line_feeds between, c.requires.counted)
