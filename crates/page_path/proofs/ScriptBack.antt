-- What a chain writes for a value in a script keeps what it promises, and reads back wherever a hole has that chain.
use Rattle.std.proofs.Common.{◌≡◌, ℕ, Bool, true, false, List, [], ◌∷◌, ◌&&◌, if◌then◌else◌, Option, Some, None, IsUtf8, inl, inr, refl, sym, ap, ◌∙◌, subst}
use Rattle.std.proofs.lemmas.Str.{IsUtf8-nil}
use Rattle.html_step.specs.Holes.{last_of}
use Rattle.js_lexer.specs.Alike.{IsPassed, IsSame, ScriptsAlike}
use Rattle.js_lexer.specs.BackLaws.{DataArePlain, TakesData, TextsReadBack, in_code}
use Rattle.js_lexer.specs.Events.{ScriptEvent}
use Rattle.js_lexer.specs.Feeding.{feed_script, read_on, script_emits, script_reading}
use Rattle.js_lexer.specs.Holes.{as_page, script_after_cut, script_settled}
use Rattle.js_lexer.specs.Plain.{IsDataBack}
use Rattle.js_lexer.specs.Refusals.{is_cut_markup, within_escape}
use Rattle.js_lexer.specs.Sanitizers.{js_regexp, js_string, js_value}
use Rattle.js_lexer.specs.ScriptBack.{IsBackInScriptCode, IsBackInScriptRegexp, IsBackInScriptString}
use Rattle.js_lexer.specs.Spots.{BlockSpot, CodeSpot, LineSpot, RegexpSpot, Spot, StringSpot, script_spot, spot_at, unless_within}
use Rattle.js_lexer.specs.States.{At, BlockComment, Code, InRegexp, InString, InTemplate, LineComment, Minuses, Number, Pluses, ScriptState, Slash, TooDeep, Trail, Word, no_trail, script_start}
use Rattle.js_lexer.specs.Trails.{is_empty}
use Rattle.js_lexer.specs.declared.sense.Sense.TheVariants as sense
use Rattle.page_datum.specs.Data.{Data}
use Rattle.page_datum.specs.Printed.{printed}
use Rattle.page_path.proofs.UrlBack.{by-last, last-reads, last_bytes, url-text}
use Rattle.page_path.specs.Pages.{datum_bytes}
use Rattle.page_path.specs.Soundness.{IsBack, IsScriptBack, ReadsBackAt}
use Rattle.page_path.specs.Textual.{IsTextFor}
use Rattle.place_core.specs.page.Events.{LexEvent}
use Rattle.place_core.specs.page.Plain.{settled_state}
use Rattle.place_core.specs.page.States.{BeforeAttributeValue, Config, LexState, config}
use Rattle.place_core.specs.page.Tags.{OfKind, OfScript, OfStyle, OfUrl, Quoting, StatesAlike, Tag, Unquoted, Value, ValueOf, ValueState, languages}
use Rattle.place_core.specs.place.StatePlaces.{quotes_at}
use Rattle.place_core.specs.declared.kind.Kind.TheVariants as kind
use Rattle.place_core.specs.declared.san.San.{San}
use Rattle.place_core.specs.declared.san.San.TheVariants as san
use Rattle.san_html.proofs.UnquotedValues.{unquoted-back}
use Rattle.san_html.specs.ReadBack.{in_value, read_as_text, read_value}
use Rattle.san_js.proofs.JsonReads.{script-code-back-by}
use Rattle.san_js.proofs.WrittenScripts.{HaveNoNul, regexp-no-nul, regexp-utf8, string-no-nul, string-utf8, value-no-nul}
use Rattle.text_norm.specs.HoleLaws.{IsBackInLanguage}
use Rattle.text_norm.specs.Standing.{TextStands}

-- the laws of scripts on what is written of a value there
pub record WrittenInScripts : Type 0 where
  pub values : DataArePlain
  pub texts : TextsReadBack

-- characters without NUL are read as they are
as-they-are : (bs : List ℕ) → HaveNoNul bs → read_as_text bs ≡ bs
as-they-are [] h = refl
as-they-are (b ∷ bs) h = rw (h.0, as-they-are bs h.1) refl

-- what is promised: in code, in a string, and in a regular expression
pub in-code : WrittenInScripts → (q : Quoting) (datum : Data) → IsTextFor san.JsValue datum
    → IsBackInLanguage (IsBackInScriptCode datum) (last_of (quotes_at q)) (last_bytes q (js_value datum))
in-code laws q datum u = record {
  characters = js_value datum;
  there = script-code-back-by laws.values datum u.1 u.0;
  as_they_are = as-they-are (js_value datum) (value-no-nul datum);
  written = by-last q (js_value datum) u.0;
}

pub in-string : WrittenInScripts → (q : Quoting) (text : List ℕ) → IsUtf8 text
    → IsBackInLanguage (IsBackInScriptString text) (last_of (quotes_at q)) (last_bytes q (js_string text))
in-string laws q text u = record {
  characters = js_string text;
  there = record { plain = λ r t is. laws.texts.plain_strings r t text is; reads = laws.texts.strings text };
  as_they_are = as-they-are (js_string text) (string-no-nul text);
  written = by-last q (js_string text) (string-utf8 text u);
}

pub in-regexp : WrittenInScripts → (q : Quoting) (text : List ℕ) → IsUtf8 text
    → IsBackInLanguage (IsBackInScriptRegexp text) (last_of (quotes_at q)) (last_bytes q (js_regexp text))
in-regexp laws q text u = record {
  characters = js_regexp text;
  there = record {
    plain = λ t is. laws.texts.plain_regexps t text is;
    first = λ t is. laws.texts.plain_first t text is;
    reads = laws.texts.regexps text;
  };
  as_they_are = as-they-are (js_regexp text) (regexp-no-nul text);
  written = by-last q (js_regexp text) (regexp-utf8 text u);
}

-- The sanitizer of a value, without that of its quotes, by where a path is in a script, and by the state there. Where no value may be it is one
-- that no script has.
abbrev pub spot_san : Spot → San
spot_san (CodeSpot s x) = san.JsValue
spot_san (StringSpot q) = san.JsString
spot_san (RegexpSpot slash) = san.JsRegexp
spot_san (LineSpot s) = san.Drop
spot_san (BlockSpot s star) = san.Drop

abbrev pub san_at : At → San
san_at (Code s) = san.JsValue
san_at (Word w) = san.JsValue
san_at Number = san.JsValue
san_at (Pluses odd) = san.JsValue
san_at (Minuses odd) = san.JsValue
san_at (Slash sense.Re) = san.JsRegexp
san_at (Slash s) = san.JsValue
san_at (LineComment s) = san.Drop
san_at (BlockComment s star) = san.Drop
san_at (InString q e) = san.JsString
san_at (InRegexp k e) = san.JsRegexp
san_at (InTemplate e dollar) = san.Html
san_at TooDeep = san.Html

within-is : (x : Bool) (p r : Spot) → unless_within x p ≡ Some r → p ≡ r
within-is true p r e = cc
within-is false p r e = cc

some-is : (p r : Spot) → Some p ≡ Some r → p ≡ r
some-is p r e = cc

spot-there : (a : At) (t : Trail) (p : Spot) → spot_at a t ≡ Some p → san_at a ≡ spot_san p
spot-there (Code s) t p e = ap spot_san (within-is (is_cut_markup t.markup) _ p e)
spot-there (Word w) t p e = ap spot_san (some-is _ p e)
spot-there Number t p e = ap spot_san (some-is _ p e)
spot-there (Pluses odd) t p e = ap spot_san (some-is _ p e)
spot-there (Minuses odd) t p e = ap spot_san (within-is (is_cut_markup t.markup) _ p e)
spot-there (Slash sense.Re) t p e = ap spot_san (within-is (is_cut_markup t.markup) _ p e)
spot-there (Slash sense.Div) t p e = ap spot_san (some-is _ p e)
spot-there (Slash sense.Brace) t p e = cc
spot-there (LineComment s) t p e = ap spot_san (some-is _ p e)
spot-there (BlockComment s star) t p e = ap spot_san (some-is _ p e)
spot-there (InString q h) t p e = ap spot_san (within-is (within_escape t) _ p e)
spot-there (InRegexp true h) t p e = cc
spot-there (InRegexp false h) t p e = ap spot_san (within-is _ _ p e)
spot-there (InTemplate h dollar) t p e = cc
spot-there TooDeep t p e = cc

-- a state in no template literal, with nothing held back, where a value has this sanitizer
pub record IsHere (x : San) (s : ScriptState) : Type 0 where
  pub literals : s.literals ≡ []
  pub held : s.held ≡ []
  pub at : san_at s.at ≡ x

open-spot : (literals held : List ℕ) (o : Option Spot) (p : Spot) → (if is_empty literals && is_empty held then o else None) ≡ Some p
    → (literals ≡ []) × ((held ≡ []) × (o ≡ Some p))
open-spot [] [] o p e = (refl, (refl, e))
open-spot [] (h ∷ hs) o p e = cc
open-spot (n ∷ ns) hs o p e = cc

pub spot-here : (s : ScriptState) (p : Spot) → script_spot s ≡ Some p → IsHere (spot_san p) s
spot-here s p e =
    let is = open-spot s.literals s.held (spot_at s.at s.trail) p e in
    record { literals = is.0; held = is.1.0; at = spot-there s.at s.trail p is.1.1 }

-- a page that stands for the path is at such a state too
paged-san : (a : At) → san_at (as_page a) ≡ san_at a
paged-san (Code s) = refl
paged-san (Word w) = refl
paged-san Number = refl
paged-san (Pluses odd) = refl
paged-san (Minuses odd) = refl
paged-san (Slash sense.Re) = refl
paged-san (Slash sense.Div) = refl
paged-san (Slash sense.Brace) = refl
paged-san (LineComment s) = refl
paged-san (BlockComment s star) = refl
paged-san (InString q e) = refl
paged-san (InRegexp k e) = refl
paged-san (InTemplate e dollar) = refl
paged-san TooDeep = refl

same-here : (x : San) (v w : ScriptState) → IsHere x v → IsSame v w → IsHere x w
same-here x v w h same = record {
  literals = same.literals ∙ h.literals;
  held = same.held ∙ h.held;
  at = sym (paged-san w.at) ∙ ap san_at same.at ∙ paged-san v.at ∙ h.at;
}

passed-here : (x : San) (v w : ScriptState) → IsHere x v → IsPassed v w → IsHere x w
passed-here x v w h passed = record {
  literals = passed.literals ∙ h.literals;
  held = passed.page_held;
  at = sym (paged-san w.at) ∙ ap san_at passed.page ∙ sym (ap san_at passed.path) ∙ paged-san v.at ∙ h.at;
}

pub page-here : (x : San) (v w : ScriptState) → IsHere x v → ScriptsAlike v w → IsHere x w
page-here x v w h (escape, inl same) = same-here x v w h same
page-here x v w h (escape, inr passed) = passed-here x v w h passed

-- What is told does not depend on the trail.
abbrev state_of : List ℕ → At → List ℕ → Trail → ScriptState
state_of literals a held t = record { literals = literals; at = a; held = held; trail = t }

told-alike : (bytes literals held : List ℕ) (a : At) (u v : Trail) (t : List ScriptEvent)
    → (read_on bytes (script_reading (state_of literals a held u) t)).told
    ≡ (read_on bytes (script_reading (state_of literals a held v) t)).told
told-alike [] literals held a u v t = refl
told-alike (b ∷ bs) literals held a u v t =
    let next = feed_script (state_of literals a held u) b in
    told-alike bs next.literals next.held next.at next.trail (feed_script (state_of literals a held v) b).trail
    (script_emits (state_of literals a held u) b t)

-- What is written reads back there: of a datum in code, by its tokens too; of a text; and in a comment nothing.
data-back : WrittenInScripts → (a : At) (t : Trail) (datum : Data) → TakesData a → IsTextFor san.JsValue datum
    → IsDataBack datum (js_value datum) (read_on (js_value datum) (script_reading (script_settled (in_code a t)) [])).told
data-back laws a t datum takes u =
    let back = script-code-back-by laws.values datum u.1 u.0 in
    let there = script_settled (in_code a t) in
    record {
      json = back.json;
      tokens = told-alike (js_value datum) there.literals there.held there.at t no_trail []
          ∙ back.told a no_trail takes (record { none = refl; closed = refl });
    }

abbrev ReadsThere : San → ScriptState → Data → Type 0
ReadsThere x s datum =
    (let characters = datum_bytes x datum in
    ReadsBackAt (script_settled s).at datum characters (read_on characters (script_reading (script_settled s) [])).told)

reads-own : WrittenInScripts → (a : At) (t : Trail) (datum : Data) → (san_at a ≡ san.Html → ⊥) → IsTextFor (san_at a) datum
    → ReadsThere (san_at a) (in_code a t) datum
reads-own laws (Code s) t datum own u = data-back laws (Code s) t datum tt u
reads-own laws (Word w) t datum own u = data-back laws (Word w) t datum tt u
reads-own laws Number t datum own u = data-back laws Number t datum tt u
reads-own laws (Pluses odd) t datum own u = data-back laws (Pluses odd) t datum tt u
reads-own laws (Minuses odd) t datum own u = data-back laws (Minuses odd) t datum tt u
reads-own laws (Slash sense.Re) t datum own u = laws.texts.regexps (printed datum)
reads-own laws (Slash sense.Div) t datum own u = data-back laws (Slash sense.Div) t datum tt u
reads-own laws (Slash sense.Brace) t datum own u = data-back laws (Slash sense.Brace) t datum tt u
reads-own laws (LineComment s) t datum own u = refl
reads-own laws (BlockComment s star) t datum own u = refl
reads-own laws (InString q e) t datum own u = laws.texts.strings (printed datum)
reads-own laws (InRegexp k e) t datum own u = laws.texts.regexps (printed datum)
reads-own laws (InTemplate e dollar) t datum own u = absurd (own refl)
reads-own laws TooDeep t datum own u = absurd (own refl)

pub open-state : (P : ScriptState → Type 0) (s : ScriptState) → s.literals ≡ [] → s.held ≡ [] → P (in_code s.at s.trail) → P s
open-state P s e f h =
    subst (λ (literals : List ℕ). P (state_of literals s.at s.held s.trail)) (sym e)
    (subst (λ (held : List ℕ). P (state_of [] s.at held s.trail)) (sym f) h)

pub script-reads : WrittenInScripts → (x : San) (s : ScriptState) (datum : Data) → (x ≡ san.Html → ⊥) → IsHere x s → IsTextFor x datum
    → ReadsThere x s datum
script-reads laws x s datum own here u =
    open-state (λ (w : ScriptState). ReadsThere x w datum) s here.literals here.held
    (subst (λ (y : San). (y ≡ san.Html → ⊥) → IsTextFor y datum → ReadsThere y (in_code s.at s.trail) datum) here.at
    (reads-own laws s.at s.trail datum) own u)

abbrev pub in_script : Quoting → Tag → ScriptState → LexState ValueState
in_script q tag s = in_value q tag (ValueOf (OfScript s))

-- such a page
record IsInScript (q : Quoting) (tag : Tag) (x : San) (d : Config ValueState) : Type 0 where
  script : ScriptState
  there : d.at ≡ in_script q tag script
  here : IsHere x script

in-script-by : (q : Quoting) (tag : Tag) (x : San) (s : ScriptState) (w : ValueState) (t : List LexEvent) (d : Config ValueState)
    → StatesAlike (OfScript s) w → d ≡ config (in_value q tag (ValueOf w)) t → IsHere x s → IsInScript q tag x d
in-script-by q tag x s (OfScript r) t d a e h =
    record { script = r; there = ap (λ (c : Config ValueState). c.at) e; here = page-here x s r h a }
in-script-by q tag x s (OfKind k) t d a e h = absurd a
in-script-by q tag x s (OfUrl u) t d a e h = absurd a
in-script-by q tag x s (OfStyle v) t d a e h = absurd a

in-script : (q : Quoting) (tag : Tag) (x : San) (s : ScriptState) (t : List LexEvent) (d : Config ValueState)
    → TextStands languages (in_script q tag s) t d → IsHere x s → IsInScript q tag x d
in-script q tag x s t d l h = in-script-by q tag x s l.there t d l.alike l.stands h

-- Characters without NUL, in a value that has begun: where the path has their sanitizer, they read back on each page that stands for it.
script-back : WrittenInScripts → (x : San) (q : Quoting) (tag : Tag) (s : ScriptState) (datum : Data) → (x ≡ san.Html → ⊥) → IsHere x s
    → IsTextFor x datum → IsUtf8 (datum_bytes x datum) → read_as_text (datum_bytes x datum) ≡ datum_bytes x datum
    → (t : List LexEvent) (d : Config ValueState) → TextStands languages (in_script q tag s) t d
    → IsBack (settled_state languages d.at) datum (last_bytes q (datum_bytes x datum))
script-back laws x q tag s datum own at u utf8 same t d l =
    let characters = datum_bytes x datum in
    let page = in-script q tag x s t d l at in
    let script = script_settled page.script in
    let w : Value ValueState = ValueOf (OfScript script) in
    let back : IsScriptBack q tag script (in_value q tag w) datum (last_bytes q characters) = record {
      characters = characters;
      goes_on = last-reads q tag w characters (last_bytes q characters) (by-last q characters utf8)
          ∙ ap (λ (xs : List ℕ). read_value q tag w xs []) (url-text q characters same);
      reads = script-reads laws x page.script datum own page.here u;
    } in
    subst (λ (z : LexState ValueState). IsBack (settled_state languages z) datum (last_bytes q characters)) (sym page.there) back

-- so in code, in a string, in a regular expression, and in a comment
pub code-back : WrittenInScripts → (q : Quoting) (tag : Tag) (s : ScriptState)
    → IsHere san.JsValue s → (datum : Data) → IsTextFor san.JsValue datum
    → (t : List LexEvent) (d : Config ValueState) → TextStands languages (in_script q tag s) t d
    → IsBack (settled_state languages d.at) datum (last_bytes q (js_value datum))
code-back laws q tag s here datum u t d l =
    script-back laws san.JsValue q tag s datum (λ e. cc) here u u.0 (as-they-are (js_value datum) (value-no-nul datum)) t d l

pub string-back : WrittenInScripts → (q : Quoting) (tag : Tag) (s : ScriptState)
    → IsHere san.JsString s → (datum : Data) → IsUtf8 (printed datum)
    → (t : List LexEvent) (d : Config ValueState) → TextStands languages (in_script q tag s) t d
    → IsBack (settled_state languages d.at) datum (last_bytes q (js_string (printed datum)))
string-back laws q tag s here datum u t d l =
    let text = printed datum in
    let own = as-they-are (js_string text) (string-no-nul text) in
    script-back laws san.JsString q tag s datum (λ e. cc) here u (string-utf8 text u) own t d l

pub regexp-back : WrittenInScripts → (q : Quoting) (tag : Tag) (s : ScriptState)
    → IsHere san.JsRegexp s → (datum : Data) → IsUtf8 (printed datum)
    → (t : List LexEvent) (d : Config ValueState) → TextStands languages (in_script q tag s) t d
    → IsBack (settled_state languages d.at) datum (last_bytes q (js_regexp (printed datum)))
regexp-back laws q tag s here datum u t d l =
    let text = printed datum in
    let own = as-they-are (js_regexp text) (regexp-no-nul text) in
    script-back laws san.JsRegexp q tag s datum (λ e. cc) here u (regexp-utf8 text u) own t d l

pub comment-back : WrittenInScripts → (q : Quoting) (tag : Tag) (s : ScriptState) → IsHere san.Drop s → (datum : Data)
    → (t : List LexEvent) (d : Config ValueState) → TextStands languages (in_script q tag s) t d
    → IsBack (settled_state languages d.at) datum (last_bytes q [])
comment-back laws q tag s here datum t d l = script-back laws san.Drop q tag s datum (λ e. cc) here tt IsUtf8-nil refl t d l

-- and where a value without quotes is to begin
pub unbegun-script-back : WrittenInScripts → (tag : Tag) (datum : Data) → IsTextFor san.JsValue datum
    → IsScriptBack Unquoted tag (script_after_cut script_start) (BeforeAttributeValue tag kind.Script) datum
    (last_bytes Unquoted (js_value datum))
unbegun-script-back laws tag datum u =
    let characters = js_value datum in
    let script = script_after_cut script_start in
    let own = as-they-are characters (value-no-nul datum) in
    let written = unquoted-back characters u.0 in
    record {
      characters = characters;
      goes_on = written.reads_unbegun tag kind.Script []
          ∙ ap (λ (xs : List ℕ). read_value Unquoted tag (ValueOf (OfScript script)) xs []) (url-text Unquoted characters own);
      reads = data-back laws script.at script.trail datum tt u;
    }
