use Rattle.std.proofs.Common.{◌≡◌, sym, subst, [], ◌∷◌, ℕ}
use Rattle.js_lexer.specs.States.{NoLineYet}
use Rattle.js_lexer.specs.Trails as trails
use Rattle.js_step.proofs.LineBytes.{first-of-three, other-alone}
use Rattle.js_step.proofs.text.line_alone.Goals as goal

pub returns-then-byte-eq226 : goal.returns-then-byte-eq226
returns-then-byte-eq226 c = sym (subst (λ (b : ℕ). trails.lines_of (b ∷ []) ≡ NoLineYet (0xE2 ∷ [])) (sym c.if-byte-eq226.true) first-of-three)

pub returns : goal.returns
returns c = sym (other-alone c.args.byte c.if-byte-eq10.false c.if-byte-eq13.false c.if-byte-eq226.false)
