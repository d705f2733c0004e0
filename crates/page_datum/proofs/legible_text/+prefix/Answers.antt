use Rattle.std.proofs.Common.{ap, sym, ◌∙◌, take, true≢false}
use Rattle.page_datum.proofs.Boundaries.{stays, falls, none}
use Rattle.page_datum.proofs.legible_text.+prefix.Goals as goal

pub returns-then-most-eq0 : goal.returns-then-most-eq0
returns-then-most-eq0 t c = none c.args.text.now c.args.most c.if-most-eq0.true

pub returns-then-is_char_boundary : goal.returns-then-is_char_boundary
returns-then-is_char_boundary t c = rw (stays c.args.text.now c.args.most c.requires.1.1 (c.is_char_boundary.ensures.test.0 c.if-is_char_boundary.true)) c.split_at.ensures.front

pub returns : goal.returns
returns t c = c.prefix.ensures ∙ ap (λ n. take n c.args.text.now) (falls c.args.text.now c.args.most c.if-most-eq0.false c.requires.1.1 (λ is. true≢false (sym (c.is_char_boundary.ensures.test.1 is) ∙ c.if-is_char_boundary.false)))
