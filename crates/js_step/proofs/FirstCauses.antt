-- The first of two causes.
use Rattle.std.proofs.Common.{◌≡◌, Option, Some, None, option_map}
use Rattle.js_lexer.specs.Refusals.{Cause, first_script_cause}
use Rattle.js_step.specs.ScriptScanViews.{script_cause_at}
use Rattle.js_step.specs.declared.cause.ScriptCause.{ScriptCause}

pub the-next : (o e : Option Cause) (r : Option ScriptCause) → None ≡ option_map script_cause_at o → r ≡ option_map script_cause_at e → r ≡ option_map script_cause_at (first_script_cause o e)
the-next None e r h i = i
the-next (Some x) e r h i = cc

pub the-first : (o e : Option Cause) (r : Option ScriptCause) → r ≡ option_map script_cause_at o → (r ≡ None → ⊥) → r ≡ option_map script_cause_at (first_script_cause o e)
the-first None e r h i = absurd (i h)
the-first (Some x) e r h i = h
