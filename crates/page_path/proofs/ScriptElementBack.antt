-- What a sanitizer writes for a value in the element of a script keeps what it promises, and reads back wherever a hole has it.
use Rattle.std.proofs.Common.{◌≡◌, ℕ, Bool, true, false, List, ◌&&◌, if◌then◌else◌, IsUtf8, refl, sym, ap, ◌∙◌, subst}
use Rattle.std.proofs.lemmas.Bool.{and_parts}
use Rattle.js_lexer.specs.BackLaws.{in_code}
use Rattle.js_lexer.specs.Elements.{script_may_end}
use Rattle.js_lexer.specs.Holes.{script_settled}
use Rattle.js_lexer.specs.Sanitizers.{js_regexp, js_string, js_value}
use Rattle.js_lexer.specs.ScriptBack.{IsBackInScriptCode, IsBackInScriptRegexp, IsBackInScriptString}
use Rattle.js_lexer.specs.States.{At, BlockComment, LineComment, ScriptState, Trail}
use Rattle.page_datum.specs.Data.{Data}
use Rattle.page_datum.specs.Printed.{printed}
use Rattle.page_path.proofs.ScriptBack.{IsHere, WrittenInScripts, open-state, page-here, san_at, script-reads}
use Rattle.page_path.specs.Pages.{datum_bytes}
use Rattle.page_path.specs.Soundness.{IsBack, IsScriptElementBack}
use Rattle.page_path.specs.Textual.{IsTextFor}
use Rattle.place_core.specs.page.Contents.{pending_bytes, settles}
use Rattle.place_core.specs.page.Events.{LexEvent}
use Rattle.place_core.specs.page.Plain.{settled_state}
use Rattle.place_core.specs.page.States.{Config, InContent, InLanguage, LexState, Nothing, Pending}
use Rattle.place_core.specs.page.Tags.{OfScript, ValueState, fed_state, languages}
use Rattle.place_core.specs.place.ScriptParts.{is_new_part, is_trail_of_cut, may_begin_text_at, script_may_begin_text}
use Rattle.place_core.specs.declared.element.Element.{Element}
use Rattle.place_core.specs.declared.element.Element.TheVariants as element
use Rattle.place_core.specs.declared.san.San.{San}
use Rattle.place_core.specs.declared.san.San.TheVariants as san
use Rattle.san_js.proofs.JsonReads.{script-code-back-by}
use Rattle.san_js.proofs.WrittenLess.{HasNoLess, regexp-none, string-none, value-none}
use Rattle.text_norm.proofs.ScriptElementHoles.{IsScriptReadTo, script-content-read}
use Rattle.text_norm.proofs.ScriptElementStands.{script-there}
use Rattle.text_norm.proofs.ScriptHoles.{IsComment}
use Rattle.text_norm.specs.HoleLaws.{IsBackInElement}
use Rattle.text_norm.specs.Standing.{TextStands, in_element}

-- what is promised: in code, in a string, and in a regular expression
pub in-code : WrittenInScripts → (datum : Data) → IsTextFor san.JsValue datum → IsBackInElement (IsBackInScriptCode datum) (js_value datum)
in-code laws datum u = record { there = script-code-back-by laws.values datum u.1 u.0; apart = value-none datum }

pub in-string : WrittenInScripts → (text : List ℕ) → IsBackInElement (IsBackInScriptString text) (js_string text)
in-string laws text = record {
  there = record { plain = λ r t is. laws.texts.plain_strings r t text is; reads = laws.texts.strings text };
  apart = string-none text;
}

pub in-regexp : WrittenInScripts → (text : List ℕ) → IsBackInElement (IsBackInScriptRegexp text) (js_regexp text)
in-regexp laws text = record {
  there = record {
    plain = λ t is. laws.texts.plain_regexps t text is;
    first = λ t is. laws.texts.plain_first t text is;
    reads = laws.texts.regexps text;
  };
  apart = regexp-none text;
}

abbrev pub in_script_element : ScriptState → LexState ValueState
in_script_element s = in_element element.Script (OfScript s) Nothing

-- A page that stands for a path there is in the element too; its script has read what is pending before the value.
record IsInElement (x : San) (d : Config ValueState) : Type 0 where
  script : ScriptState
  there : settled_state languages d.at ≡ in_script_element (script_settled script)
  here : IsHere x script

settled-in : (there w : ScriptState) (held : Pending) → IsScriptReadTo there held w
    → settled_state languages (in_element element.Script (OfScript there) held) ≡ in_script_element (script_settled w)
settled-in there w held is =
    ap (λ (z : Bool).
    if z then InContent element.Script (InLanguage (languages.settled (fed_state languages (OfScript there) (pending_bytes held)))) Nothing
    else InContent element.Script (InLanguage (OfScript there)) held) is.settles
    ∙ ap (λ (v : ValueState). InContent element.Script (InLanguage (languages.settled v)) Nothing) is.is

-- in no comment
drops : (a : At) → IsComment a → san_at a ≡ san.Drop
drops (LineComment s) h = refl
drops (BlockComment s star) h = refl
drops a h = absurd h

in-code-state : (x : San) (a : At) (trail : Trail) → (x ≡ san.Drop → ⊥) → is_trail_of_cut trail && may_begin_text_at a trail.markup ≡ true
    → IsHere x (in_code a trail) → (t : List LexEvent) (d : Config ValueState) → TextStands languages (in_script_element (in_code a trail)) t d → IsInElement x d
in-code-state x a trail own m h t d l =
    let both = and_parts (is_trail_of_cut trail) (may_begin_text_at a trail.markup) m in
    let fresh = and_parts trail.fresh _ both.0 in
    let g = script-there element.Script a trail t d fresh.0 both.1 (λ c. own (sym h.at ∙ drops a c)) l.1 in
    record {
      script = g.read;
      there = ap (λ (c : Config ValueState). settled_state languages c.at) g.at ∙ settled-in g.there g.read g.held g.is_read;
      here = page-here x (in_code a trail) g.read h g.alike;
    }

abbrev InElementFrom : San → ScriptState → Type 0
InElementFrom x s =
    script_may_begin_text s ≡ true → IsHere x s → (t : List LexEvent) (d : Config ValueState) → TextStands languages (in_script_element s) t d → IsInElement x d

in-state : (x : San) (s : ScriptState) → (x ≡ san.Drop → ⊥) → script_may_begin_text s ≡ true → IsHere x s
    → (t : List LexEvent) (d : Config ValueState) → TextStands languages (in_script_element s) t d → IsInElement x d
in-state x s own m h =
    open-state (InElementFrom x) s h.literals h.held (λ n k t d l. in-code-state x s.at s.trail own n k t d l) m h

-- Bytes without a `<`: where the path has their sanitizer, they read back on each page that stands for it.
script-element-back : WrittenInScripts → (x : San) (s : ScriptState) (datum : Data) → (x ≡ san.Html → ⊥) → (x ≡ san.Drop → ⊥) → IsHere x s
    → script_may_begin_text s ≡ true → IsTextFor x datum → HasNoLess (datum_bytes x datum)
    → (t : List LexEvent) (d : Config ValueState) → TextStands languages (in_script_element s) t d
    → IsBack (settled_state languages d.at) datum (datum_bytes x datum)
script-element-back laws x s datum own shown here m u apart t d l =
    let bytes = datum_bytes x datum in
    let page = in-state x s shown m here t d l in
    let back : IsScriptElementBack element.Script (script_settled page.script) datum bytes = record {
      goes_on = script-content-read element.Script bytes (script_settled page.script) apart;
      reads = script-reads laws x page.script datum own page.here u;
    } in
    subst (λ (z : LexState ValueState). IsBack z datum bytes) (sym page.there) back

-- so in code, in a string, and in a regular expression
pub code-back : WrittenInScripts → (s : ScriptState) → IsHere san.JsValue s → script_may_begin_text s ≡ true
    → (datum : Data) → IsTextFor san.JsValue datum → (t : List LexEvent) (d : Config ValueState) → TextStands languages (in_script_element s) t d
    → IsBack (settled_state languages d.at) datum (js_value datum)
code-back laws s here m datum u t d l = script-element-back laws san.JsValue s datum (λ e. cc) (λ e. cc) here m u (value-none datum) t d l

pub string-back : WrittenInScripts → (s : ScriptState) → IsHere san.JsString s → script_may_begin_text s ≡ true
    → (datum : Data) → IsUtf8 (printed datum) → (t : List LexEvent) (d : Config ValueState) → TextStands languages (in_script_element s) t d
    → IsBack (settled_state languages d.at) datum (js_string (printed datum))
string-back laws s here m datum u t d l = script-element-back laws san.JsString s datum (λ e. cc) (λ e. cc) here m u (string-none (printed datum)) t d l

pub regexp-back : WrittenInScripts → (s : ScriptState) → IsHere san.JsRegexp s → script_may_begin_text s ≡ true
    → (datum : Data) → IsUtf8 (printed datum) → (t : List LexEvent) (d : Config ValueState) → TextStands languages (in_script_element s) t d
    → IsBack (settled_state languages d.at) datum (js_regexp (printed datum))
regexp-back laws s here m datum u t d l = script-element-back laws san.JsRegexp s datum (λ e. cc) (λ e. cc) here m u (regexp-none (printed datum)) t d l
