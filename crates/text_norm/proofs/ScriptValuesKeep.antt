-- A value that is a script: the laws of scripts, in which what they tell is told inside a value.
use Rattle.std.proofs.Common.{◌≡◌, ℕ, false, List, [], Option, Some, None, option_map, refl, ap}
use Rattle.js_lexer.specs.Events.{ScriptEvent}
use Rattle.js_lexer.specs.Laws.{ScriptLaws}
use Rattle.js_lexer.specs.Refusals.{Cause, script_refuses}
use Rattle.js_lexer.specs.States.{ScriptState}
use Rattle.js_lexer.proofs.Keeps.{scripts-keep}
use Rattle.place_core.specs.page.Events.{LexEvent, told_in_script}
use Rattle.place_core.specs.page.Tags.{OfScript, StatesAlike, emits_state, emits_value_settled, ends_state, feed_value, refuses_in_value, script_code}
use Rattle.html_step.proofs.OnePath.{some}

pub script-laws : ScriptLaws
script-laws = scripts-keep

-- what is not refused of a script
not-refused : (o : Option Cause) → option_map (λ (e : Cause). script_code e.refusal) o ≡ None → o ≡ None
not-refused None n = refl
not-refused (Some e) n = absurd (some _ n)

-- scripts that tell the same tell the same in a value
told : (es fs : List ScriptEvent) (t : List LexEvent) → es ≡ fs → told_in_script es t ≡ told_in_script fs t
told es fs t e = ap (λ (z : List ScriptEvent). told_in_script z t) e

-- each law, of two scripts that are alike
pub script-emits : (s r : ScriptState) (b : ℕ) (t : List LexEvent) → StatesAlike (OfScript s) (OfScript r) → refuses_in_value (OfScript s) b ≡ None
    → emits_state (OfScript r) b t ≡ emits_state (OfScript s) b t
script-emits s r b t a n = told _ _ t (script-laws.emits false s r b [] a (not-refused (script_refuses false s b) n))

pub script-feeds : (s r : ScriptState) (b : ℕ) → StatesAlike (OfScript s) (OfScript r) → refuses_in_value (OfScript s) b ≡ None
    → StatesAlike (feed_value (OfScript s) b) (feed_value (OfScript r) b)
script-feeds s r b a n = script-laws.feeds false s r b a (not-refused (script_refuses false s b) n)

pub script-ends : (s r : ScriptState) (t : List LexEvent) → StatesAlike (OfScript s) (OfScript r)
    → ends_state (OfScript r) t ≡ ends_state (OfScript s) t
script-ends s r t a = told _ _ t (script-laws.ends s r [] a)

pub script-settles : (s r : ScriptState) (t : List LexEvent) → StatesAlike (OfScript s) (OfScript r)
    → emits_value_settled (OfScript r) t ≡ emits_value_settled (OfScript s) t
script-settles s r t a = told _ _ t (script-laws.settles s r [] a)
