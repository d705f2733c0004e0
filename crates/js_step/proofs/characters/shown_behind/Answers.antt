use Rattle.std.proofs.Common.{◌∙◌, arith, length, ap}
use Rattle.js_step.proofs.ShownText.{read_past}
use Rattle.js_step.proofs.characters.shown_behind.Goals as goal

pub loop-code-preserved : goal.loop-code-preserved
loop-code-preserved g c = (
  read_past _ _ _ _ _ _ _ _ c.after_character-read.ensures.read c.scalar-character.ensures c.len_utf8-len.ensures.len (omega (arith, c.if-ahead-len.false)) c.in-Some.ensures.next
      ∙ c.loop-code.invariant.0,
  c.after_character-read.ensures.fits,
  omega (arith, c.after_character-read.ensures.count, c.loop-code.invariant.2, ap length c.in-Some.ensures.next),
)
