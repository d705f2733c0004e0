-- What a slash would be is stepped sense by sense, and united.
use Rattle.std.proofs.Common.{◌≡◌, ◌∙◌, ℕ, Bool, true, false, ◌||◌, List, [], ◌∷◌, Option, None, refl, sym, ap}
use Rattle.js_lexer.specs.Classes.{class_of}
use Rattle.js_lexer.specs.Feeding.{tells_white_apart, feed_script}
use Rattle.js_lexer.specs.Refusals.{Cause, first_script_cause, refusal_outside}
use Rattle.js_lexer.specs.States.{At, Trail, ScriptState}
use Rattle.js_lexer.specs.declared.class.ScriptClass.{ScriptClass}
use Rattle.js_lexer.specs.declared.sense.Sense.{Sense}
use Rattle.js_lexer.specs.declared.sense.Sense.TheVariants as sense
use Rattle.place_core.specs.declared.senses.Senses.{Senses}
use Rattle.place_core.specs.place.LanguagePlaces.{both_senses}
use Rattle.js_step.specs.ScriptScans.{ScriptScan, script_one_sense, script_at_in, script_in_sense, script_sense_at, script_sense_next, script_senses_next, script_two_senses, script_senses_differ, script_tails_error, script_scan_error}
use Rattle.js_step.specs.ScriptSetLaws.{KeepsSense, keeps_code, keeps_line, keeps_block, script_has_sense, script_of_sense, ScriptSensesUnite}
use Rattle.js_step.proofs.OneScriptPath.{senses-alone}
use Rattle.js_step.proofs.SharedStates.{script-senses-share}
use Rattle.place_core.specs.place.ScriptParts.{script_senses}

no-sense : false ≡ true → ⊥
no-sense e = cc

-- sets that have a set
or-first : (a b : Bool) → (a || (a || b)) ≡ (a || b)
or-first true b = refl
or-first false b = refl

or-second : (a x b : Bool) → (a || (x || (a || b))) ≡ (x || (a || b))
or-second true true b = refl
or-second true false b = refl
or-second false x b = refl

or-third : (a x y : Bool) → (a || (x || (y || a))) ≡ (x || (y || a))
or-third true true y = refl
or-third true false true = refl
or-third true false false = refl
or-third false x y = refl

pub set-of : (s t : Senses) → s.re ≡ t.re → s.div ≡ t.div → s.brace ≡ t.brace → s ≡ t
set-of s t e f g =
    ap (λ (z : Bool). record { re = z; div = s.div; brace = s.brace }) e
    ∙ (ap (λ (z : Bool). record { re = t.re; div = z; brace = s.brace }) f
    ∙ ap (λ (z : Bool). record { re = t.re; div = t.div; brace = z }) g)

first-in : (a b : Senses) → both_senses a (both_senses a b) ≡ both_senses a b
first-in a b = set-of (both_senses a (both_senses a b)) (both_senses a b) (or-first a.re b.re) (or-first a.div b.div) (or-first a.brace b.brace)

second-in : (a x b : Senses) → both_senses a (both_senses x (both_senses a b)) ≡ both_senses x (both_senses a b)
second-in a x b =
    set-of (both_senses a (both_senses x (both_senses a b))) (both_senses x (both_senses a b)) (or-second a.re x.re b.re) (or-second a.div x.div b.div) (or-second a.brace x.brace b.brace)

third-in : (a x y : Senses) → both_senses a (both_senses x (both_senses y a)) ≡ both_senses x (both_senses y a)
third-in a x y =
    set-of (both_senses a (both_senses x (both_senses y a))) (both_senses x (both_senses y a)) (or-third a.re x.re y.re) (or-third a.div x.div y.div) (or-third a.brace x.brace y.brace)

abbrev sense-next : Sense → ScriptState → ℕ → Senses
sense-next r v b = script_senses (script_sense_at (feed_script (script_in_sense r v) b).at)

sense-in : (re div brace : Bool) (r : Sense) (v : ScriptState) (b : ℕ) → script_has_sense (record { re = re; div = div; brace = brace }) r ≡ true
    → both_senses (sense-next r v b) (both_senses (script_sense_next re sense.Re v b) (both_senses (script_sense_next div sense.Div v b) (script_sense_next brace sense.Brace v b)))
    ≡ both_senses (script_sense_next re sense.Re v b) (both_senses (script_sense_next div sense.Div v b) (script_sense_next brace sense.Brace v b))
sense-in true div brace sense.Re v b h = first-in (sense-next sense.Re v b) (both_senses (script_sense_next div sense.Div v b) (script_sense_next brace sense.Brace v b))
sense-in false div brace sense.Re v b h = absurd (no-sense h)
sense-in re true brace sense.Div v b h = second-in (sense-next sense.Div v b) (script_sense_next re sense.Re v b) (script_sense_next brace sense.Brace v b)
sense-in re false brace sense.Div v b h = absurd (no-sense h)
sense-in re div true sense.Brace v b h = third-in (sense-next sense.Brace v b) (script_sense_next re sense.Re v b) (script_sense_next div sense.Div v b)
sense-in re div false sense.Brace v b h = absurd (no-sense h)

-- what is refused does not depend on the sense
pub white-in : (a : At) → KeepsSense a → (s r : Sense) → tells_white_apart (script_at_in s a) ≡ tells_white_apart (script_at_in r a)
white-in _ (keeps_code z) s r = refl
white-in _ (keeps_line z) s r = refl
white-in _ (keeps_block z star) s r = refl

pub no-two : (k : Bool) (fs : List ℕ) (a : At) → KeepsSense a → (c : ScriptClass) → script_two_senses k fs a c ≡ None
no-two true [] _ (keeps_code z) c = refl
no-two true [] _ (keeps_line z) c = refl
no-two true [] _ (keeps_block z star) c = refl
no-two true (n ∷ fs) a i c = refl
no-two false fs a i c = refl

pub outside-in : (fs : List ℕ) (a : At) (h : List ℕ) (t : Trail) → KeepsSense a → (s r : Sense) (element : Bool) (c : ScriptClass) (b : ℕ)
    → refusal_outside fs element (script_in_sense s (record { literals = fs; at = a; held = h; trail = t })) c b
    ≡ refusal_outside fs element (script_in_sense r (record { literals = fs; at = a; held = h; trail = t })) c b
outside-in [] _ h t (keeps_code z) s r element c b = refl
outside-in [] _ h t (keeps_line z) s r element c b = refl
outside-in [] _ h t (keeps_block z star) s r element c b = refl
outside-in (n ∷ fs) _ h t (keeps_code z) s r element c b = refl
outside-in (n ∷ fs) _ h t (keeps_line z) s r element c b = refl
outside-in (n ∷ fs) _ h t (keeps_block z star) s r element c b = refl

pub tails-in : (m : ScriptScan) → KeepsSense m.state.at → (r : Sense) (c : ScriptClass) (b : ℕ) → script_tails_error (script_of_sense m r) c b ≡ script_tails_error m c b
tails-in m i r c b = rw (white-in m.state.at i (script_one_sense (script_senses r)) (script_one_sense m.senses)) refl

same-error : (m : ScriptScan) (r : Sense) → KeepsSense m.state.at → (element : Bool) (b : ℕ) → script_scan_error element (script_of_sense m r) b ≡ script_scan_error element m b
same-error m r i element b =
    ap (λ (o : Option Cause). first_script_cause o (first_script_cause (script_two_senses (script_senses_differ (script_senses r)) m.state.literals m.state.at (class_of b))
    (refusal_outside m.state.literals element (script_in_sense (script_one_sense (script_senses r)) m.state) (class_of b) b))) (tails-in m i r (class_of b) b)
    ∙ (ap (λ (o : Option Cause). first_script_cause (script_tails_error m (class_of b) b)
    (first_script_cause o (refusal_outside m.state.literals element (script_in_sense (script_one_sense (script_senses r)) m.state) (class_of b) b)))
    (no-two (script_senses_differ (script_senses r)) m.state.literals m.state.at i (class_of b)
    ∙ sym (no-two (script_senses_differ m.senses) m.state.literals m.state.at i (class_of b)))
    ∙ ap (λ (o : Option Cause). first_script_cause (script_tails_error m (class_of b) b)
    (first_script_cause (script_two_senses (script_senses_differ m.senses) m.state.literals m.state.at (class_of b)) o))
    (outside-in m.state.literals m.state.at m.state.held m.state.trail i (script_one_sense (script_senses r)) (script_one_sense m.senses) element (class_of b) b))

pub script-senses-unite : ScriptSensesUnite
script-senses-unite m r i h = record {
  error = λ element b. same-error m r i element b;
  state = λ b. script-senses-share m.state i (script_one_sense (script_senses r)) (script_one_sense m.senses) b;
  senses = λ b. ap (λ (z : Senses). both_senses z (script_senses_next m.senses m.state b)) (senses-alone r m.state b)
      ∙ sense-in m.senses.re m.senses.div m.senses.brace r m.state b h;
}
