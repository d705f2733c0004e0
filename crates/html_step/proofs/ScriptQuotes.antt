-- No script refuses a quotation mark where a text begins.
use Rattle.std.proofs.Common.{◌≡◌, ◌<◌, ◌≤◌, ◌==◌, ◌||◌, ◌⊎◌, inl, inr, ℕ, Bool, true, false, not, [], Option, None, refl, sym, ap, ◌∙◌, subst}
use Rattle.std.proofs.lemmas.Bool.{agree_below, agree_below_at, cases_lt, eqb-true}
use Rattle.js_lexer.specs.Classes as script
use Rattle.js_lexer.specs.Refusals.{Cause, first_script_cause}
use Rattle.js_lexer.specs.States.{Code, LineComment, BlockComment}
use Rattle.js_lexer.specs.WhiteSpace as white
use Rattle.js_lexer.specs.declared.class.ScriptClass.{ScriptClass}
use Rattle.js_lexer.specs.declared.class.ScriptClass.TheVariants as class
use Rattle.js_lexer.specs.declared.sense.Sense.{Sense}
use Rattle.js_step.specs.ScriptScans.{script_one_sense, script_scan_error, script_scan_start, script_senses_differ, script_two_senses}
use Rattle.place_core.proofs.Bytes.{class-high}
use Rattle.place_core.specs.page.Classes.{Class, QuotationMark, Apostrophe, OtherByte, class_of}
use Rattle.place_core.specs.declared.js.Js.{Js}
use Rattle.place_core.specs.declared.js.Js.TheVariants as js

abbrev is_html_quotation : Class → Bool
is_html_quotation QuotationMark = true
is_html_quotation c = false

abbrev is_html_apostrophe : Class → Bool
is_html_apostrophe Apostrophe = true
is_html_apostrophe c = false

quotation-low : agree_below (λ (b : ℕ). not (is_html_quotation (class_of b)) || (b == 34)) (λ (b : ℕ). true) 128 ≡ true
unfolding class_of
quotation-low = refl

apostrophe-low : agree_below (λ (b : ℕ). not (is_html_apostrophe (class_of b)) || (b == 39)) (λ (b : ℕ). true) 128 ≡ true
unfolding class_of
apostrophe-low = refl

other-quotation : OtherByte ≡ QuotationMark → ⊥
other-quotation h = cc

other-apostrophe : OtherByte ≡ Apostrophe → ⊥
other-apostrophe h = cc

quotation-by : (b : ℕ) → class_of b ≡ QuotationMark → (b < 128) ⊎ (128 ≤ b) → b ≡ 34
quotation-by b h (inl small) =
    eqb-true b 34 (subst (λ (c : Class). (not (is_html_quotation c) || (b == 34)) ≡ true) h
    (agree_below_at (λ (z : ℕ). not (is_html_quotation (class_of z)) || (z == 34)) (λ (z : ℕ). true) 128 b quotation-low small))
quotation-by b h (inr large) = absurd (other-quotation (sym (class-high b large) ∙ h))

apostrophe-by : (b : ℕ) → class_of b ≡ Apostrophe → (b < 128) ⊎ (128 ≤ b) → b ≡ 39
apostrophe-by b h (inl small) =
    eqb-true b 39 (subst (λ (c : Class). (not (is_html_apostrophe c) || (b == 39)) ≡ true) h
    (agree_below_at (λ (z : ℕ). not (is_html_apostrophe (class_of z)) || (z == 39)) (λ (z : ℕ). true) 128 b apostrophe-low small))
apostrophe-by b h (inr large) = absurd (other-apostrophe (sym (class-high b large) ∙ h))

-- it is no slash there that is held back
two-code : (d : Bool) (s : Sense) (c : ScriptClass) → script_two_senses d [] (Code s) c ≡ None
two-code true s c = refl
two-code false s c = refl

two-line : (d : Bool) (s : Sense) (c : ScriptClass) → script_two_senses d [] (LineComment s) c ≡ None
two-line true s c = refl
two-line false s c = refl

two-block : (d : Bool) (s : Sense) (c : ScriptClass) → script_two_senses d [] (BlockComment s false) c ≡ None
two-block true s c = refl
two-block false s c = refl

takes-quotation : (j : Js) → script_scan_error false (script_scan_start j) 34 ≡ None
unfolding script.class_of white.released
takes-quotation (js.Code s x) = ap (λ (o : Option Cause). first_script_cause o None) (two-code (script_senses_differ s) (script_one_sense s) class.QuotationMark)
takes-quotation js.Dq = refl
takes-quotation js.Sq = refl
takes-quotation (js.Regexp slash) = refl
takes-quotation (js.Line s) = ap (λ (o : Option Cause). first_script_cause o None) (two-line (script_senses_differ s) (script_one_sense s) class.QuotationMark)
takes-quotation (js.Block s star) = ap (λ (o : Option Cause). first_script_cause o None) (two-block (script_senses_differ s) (script_one_sense s) class.QuotationMark)

takes-apostrophe : (j : Js) → script_scan_error false (script_scan_start j) 39 ≡ None
unfolding script.class_of white.released
takes-apostrophe (js.Code s x) = ap (λ (o : Option Cause). first_script_cause o None) (two-code (script_senses_differ s) (script_one_sense s) class.Apostrophe)
takes-apostrophe js.Dq = refl
takes-apostrophe js.Sq = refl
takes-apostrophe (js.Regexp slash) = refl
takes-apostrophe (js.Line s) = ap (λ (o : Option Cause). first_script_cause o None) (two-line (script_senses_differ s) (script_one_sense s) class.Apostrophe)
takes-apostrophe (js.Block s star) = ap (λ (o : Option Cause). first_script_cause o None) (two-block (script_senses_differ s) (script_one_sense s) class.Apostrophe)

pub script-takes-quotes : (j : Js) (b : ℕ) → (class_of b ≡ QuotationMark) ⊎ (class_of b ≡ Apostrophe) → script_scan_error false (script_scan_start j) b ≡ None
script-takes-quotes j b (inl h) =
    subst (λ (x : ℕ). script_scan_error false (script_scan_start j) x ≡ None) (sym (quotation-by b h (cases_lt b 128))) (takes-quotation j)
script-takes-quotes j b (inr h) =
    subst (λ (x : ℕ). script_scan_error false (script_scan_start j) x ≡ None) (sym (apostrophe-by b h (cases_lt b 128))) (takes-apostrophe j)
