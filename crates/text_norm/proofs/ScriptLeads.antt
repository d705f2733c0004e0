-- What a chain promises in a script leads the page's reading of bytes alone beside its reading with marks, and tells what fills the mark. What is told
-- does not depend on the trail of a state, so it is the promise at a state with none that counts, wherever the page stands.
use Rattle.std.proofs.Common.{◌≡◌, ◌≢◌, ℕ, Bool, true, false, List, [], ◌∷◌, ◌++◌, inl, inr, refl, sym, ap, ◌∙◌, subst, true≢false}
use Rattle.js_lexer.specs.Alike.{IsSame, ScriptsAlike}
use Rattle.js_lexer.specs.BackLaws.{TakesData, in_code, in_regexp, in_string}
use Rattle.js_lexer.specs.Classes as scripts
use Rattle.js_lexer.specs.Events.{ScriptEvent}
use Rattle.js_lexer.specs.Feeding.{points, ScriptReading, read_on, script_reading}
use Rattle.js_lexer.specs.Holes.{IsBetweenEscapes, as_page, fresh_trail, paged, script_emits_settled, script_has_mark, script_has_mark_at, script_settled, settled_at}
use Rattle.js_lexer.specs.Plain.{IsPlainInScript}
use Rattle.js_lexer.specs.ScriptBack.{IsBackInScriptCode, IsBackInScriptRegexp, IsBackInScriptString}
use Rattle.js_lexer.specs.States.{At, BlockComment, Code, InRegexp, InString, InTemplate, LineComment, Minuses, NoEscape, Number, Pluses, ScriptPoint, ScriptState, Slash, TooDeep, Trail, Word, no_trail, point}
use Rattle.js_lexer.specs.WhiteSpace.{classed_as, held_after, released}
use Rattle.js_lexer.specs.declared.class.ScriptClass.TheVariants as class
use Rattle.js_lexer.specs.declared.sense.Sense.{Sense}
use Rattle.js_lexer.specs.declared.sense.Sense.TheVariants as sense
use Rattle.js_lexer.proofs.Keeps.{scripts-keep}
use Rattle.page_datum.specs.Data.{Data}
use Rattle.page_datum.specs.Printed.{printed}
use Rattle.place_core.specs.page.Events.{LexEvent, Mark, told_in_script}
use Rattle.place_core.specs.page.Html.{read}
use Rattle.place_core.specs.page.Shape.{marked}
use Rattle.place_core.specs.page.States.{BeforeAttributeValue, Config, LexState, Page, config}
use Rattle.place_core.specs.page.Tags.{DoubleQuoted, OfKind, OfScript, OfStyle, OfUrl, Quoting, SingleQuoted, Tag, Unquoted, Value, ValueOf, ValueState, languages, mark_if}
use Rattle.place_core.specs.place.StatePlaces.{quotes_at}
use Rattle.place_core.specs.declared.kind.Kind.TheVariants as kind
use Rattle.place_core.specs.declared.san.San.TheVariants as san
use Rattle.html_step.specs.Holes.{last_of}
use Rattle.san_html.specs.ReadBack.{in_value, read_as_text, read_value}
use Rattle.san_html.specs.Sanitizers.{failsafe}
use Rattle.text_norm.proofs.FilledEvents.{fills-keep, fills-mark}
use Rattle.text_norm.proofs.FilledMarks.{Filled, Leads, LeadsOn, RawBeside, RawStands, led, leads-on, marked-is, raw-there}
use Rattle.text_norm.proofs.ScriptLeadsTells.{read-onto, read-state, run_told, same-back, same-fed, same-settles, same-then, script-read-told, script-run, script-value-fed, script_fed, script_told, told-over}
use Rattle.text_norm.proofs.SureStates.{script-told}
use Rattle.text_norm.proofs.UrlHoles.{last-read, url-value}
use Rattle.text_norm.specs.Fillings.{Filling, Fills, FitsAt, IsLiteralRun, IsRegexpRun, IsScriptStringRun, MarkSite, ScriptCodeSite, ScriptRegexpSite, ScriptStringSite, filling, script_run, url_bytes, value_fillings}
use Rattle.text_norm.specs.HoleLaws.{IsBackByLast, IsBackInLanguage}

abbrev pub in_script : Quoting → Tag → ScriptState → LexState ValueState
in_script q tag s = in_value q tag (ValueOf (OfScript s))

-- The bytes of the page are read in a script as these characters.
abbrev pub AreReadInScript : Quoting → (bytes characters : List ℕ) → Type 0
AreReadInScript q bytes bs = (tag : Tag) (s : ScriptState) (t : List LexEvent) → read Page bytes (config (in_script q tag s) t)
    ≡ config (in_script q tag (script_fed s bs)) (script_told s bs t)

script-value : (q : Quoting) (tag : Tag) (s : ScriptState) (bs : List ℕ) (t : List LexEvent)
    → read_value q tag (ValueOf (OfScript s)) bs t ≡ config (in_script q tag (script_fed s bs)) (script_told s bs t)
script-value q tag s bs t = ap (λ (z : Value ValueState). config (in_value q tag z) (script_told s bs t)) (script-value-fed s bs)

pub read-in-script : (q : Quoting) (chars bytes : List ℕ) → read_as_text chars ≡ chars → IsBackByLast (last_of (quotes_at q)) chars bytes
    → AreReadInScript q bytes (url_bytes q chars)
read-in-script q chars bytes e k tag s t = last-read q chars bytes e k tag (ValueOf (OfScript s)) t ∙ script-value q tag s (url_bytes q chars) t

-- A state with no trail, in no template literal and with nothing held back, and one of a page that is the same but for the trail.
abbrev model : At → ScriptState
model a = in_code a no_trail

settled-paged : (a : At) → as_page (settled_at a) ≡ as_page (settled_at (as_page a))
settled-paged (Code sense.Re) = refl
settled-paged (Code sense.Div) = refl
settled-paged (Code sense.Brace) = refl
settled-paged (Word w) = refl
settled-paged Number = refl
settled-paged (Pluses odd) = refl
settled-paged (Minuses odd) = refl
settled-paged (Slash sense.Re) = refl
settled-paged (Slash sense.Div) = refl
settled-paged (Slash sense.Brace) = refl
settled-paged (LineComment sense.Re) = refl
settled-paged (LineComment sense.Div) = refl
settled-paged (LineComment sense.Brace) = refl
settled-paged (BlockComment sense.Re star) = refl
settled-paged (BlockComment sense.Div star) = refl
settled-paged (BlockComment sense.Brace star) = refl
settled-paged (InString q e) = refl
settled-paged (InRegexp k e) = refl
settled-paged (InTemplate e d) = refl
settled-paged TooDeep = refl

settled-of : (a d : At) → as_page d ≡ as_page a → as_page (settled_at d) ≡ as_page (settled_at a)
settled-of a d e = settled-paged d ∙ ap (λ (x : At). as_page (settled_at x)) e ∙ sym (settled-paged a)

none-released : (fs held : List ℕ) (a : At) → fs ≡ [] → held ≡ [] → points (classed_as class.Letter held) (point fs a) ≡ point [] a
none-released fs held a e f = rw (e, f) refl

settled-same : (a : At) (w : ScriptState) → IsSame (model a) w → IsSame (script_settled (model a)) (script_settled w)
settled-same a w s =
    let p = none-released w.literals w.held w.at s.literals s.held in
    record {
      literals = ap (λ (q : ScriptPoint). q.literals) p;
      held = refl;
      at = ap (λ (q : ScriptPoint). as_page (settled_at q.at)) p ∙ settled-of a w.at s.at;
    }

-- No token of what stands before lies partly in the bytes: so the page, which has not told what is pending, reads them as the reading with marks, which
-- has.
abbrev IsApart : ScriptState → List ℕ → Type 0
IsApart s bs = read_on bs (script_reading s []) ≡ read_on bs (script_reading (script_settled s) (script_emits_settled s []))

same-behind : (a : At) (w r : ScriptState) (bs : List ℕ) → IsApart (model a) bs → IsSame (model a) w → IsSame w r
    → IsSame (script_fed (script_settled w) bs) (script_fed r bs)
same-behind a w r bs p i s =
    let before = script_settled (model a) in
    let own : script_fed (model a) bs ≡ script_fed before bs =
    ap (λ (x : ScriptReading). x.state) p ∙ read-state bs before (script_emits_settled (model a) []) [] in
    same-then (script_fed (script_settled w) bs) (script_fed before bs) (script_fed r bs)
    (same-back (script_fed before bs) (script_fed (script_settled w) bs) (same-fed bs before (script_settled w) [] (settled-same a w i)).0)
    (subst (λ (x : ScriptState). IsSame x (script_fed r bs)) own (same-fed bs (model a) r [] (same-then (model a) w r i s)).0)

told-behind : (a : At) (w r : ScriptState) (bs : List ℕ) (u : List LexEvent) → IsApart (model a) bs → IsSame (model a) w → IsSame w r
    → script_told r bs u ≡ told_in_script (run_told (script_settled (model a)) bs) (told_in_script (script_emits_settled w []) u)
told-behind a w r bs u p i s =
    let before = script_settled (model a) in
    let pending = script_emits_settled (model a) [] in
    let told : run_told r bs ≡ run_told before bs ++ script_emits_settled w [] =
    (same-fed bs (model a) r [] (same-then (model a) w r i s)).1
    ∙ ap (λ (x : ScriptReading). x.told) p
    ∙ read-onto bs before pending
    ∙ ap (λ (z : List ScriptEvent). run_told before bs ++ z) (sym (same-settles (model a) w [] i)) in
    script-read-told r bs [] u
    ∙ ap (λ (z : List ScriptEvent). told_in_script z u) told
    ∙ told-over (run_told before bs) (script_emits_settled w []) u

-- What characters have to show in the place of a path, of a page that stands there.
pub record IsFilledScript (more : List Filling → List Filling) (bs : List ℕ) (w : ScriptState) : Type 0 where
  pub there : At
  pub same : IsSame (model there) w
  pub apart : IsApart (model there) bs
  pub fills : (vs : List Filling) (t u : List LexEvent) → Fills t vs u
      → Fills (mark_if (script_has_mark w) t) (more vs) (told_in_script (run_told (script_settled (model there)) bs) u)

pub script-goes : (more : List Filling → List Filling) (bs : List ℕ) (w r : ScriptState) → IsFilledScript more bs w
    → (vs : List Filling) (t u : List LexEvent) → IsSame w r → Fills t vs u
    → IsSame (script_fed (script_settled w) bs) (script_fed r bs)
    × Fills (mark_if (script_has_mark w) (told_in_script (script_emits_settled w []) t)) (more vs) (script_told r bs u)
script-goes more bs w r k vs t u s f =
    let pending = script_emits_settled w [] in (
      same-behind k.there w r bs k.apart k.same s,
      subst (Fills (mark_if (script_has_mark w) (told_in_script pending t)) (more vs)) (sym (told-behind k.there w r bs u k.apart k.same s))
          (k.fills vs (told_in_script pending t) (told_in_script pending u) (script-told (Filled vs) (fills-keep vs) pending t u f)),
    )

-- So both readings come over the hole.
script-led : (q : Quoting) (tag : Tag) (more : List Filling → List Filling) (bytes bs : List ℕ) (w : ScriptState) (z : ValueState)
    → AreReadInScript q bytes bs → IsFilledScript more bs w
    → (vs : List Filling) (t : List LexEvent) (d : Config ValueState) → d.at ≡ in_value q tag (ValueOf z) → RawBeside vs (OfScript w) z d.emitted
    → Fills t vs d.emitted
    → RawStands (more vs) (marked bytes (config (in_script q tag w) t)) (read Page bytes d)
script-led q tag more bytes bs w (OfKind j) reads k vs t d e b f = absurd b
script-led q tag more bytes bs w (OfUrl u) reads k vs t d e b f = absurd b
script-led q tag more bytes bs w (OfStyle s) reads k vs t d e b f = absurd b
script-led q tag more bytes bs w (OfScript r) reads k vs t d e b f =
    let g = script-goes more bs w r k vs t d.emitted b f in
    led (more vs) _ _
    (config (in_script q tag (script_fed (script_settled w) bs)) (mark_if (script_has_mark w) (told_in_script (script_emits_settled w []) t)))
    (config (in_script q tag (script_fed r bs)) (script_told r bs d.emitted))
    (marked-is (in_script q tag w) (in_script q tag (script_fed (script_settled w) bs)) bytes t _ (reads tag (script_settled w) []))
    (ap (λ (s : LexState ValueState). read Page bytes (config s d.emitted)) e ∙ reads tag r d.emitted)
    (OfScript (script_fed r bs), refl, (g.0, g.1))

abbrev pub AreFilledAt : Quoting → ScriptState → (text characters : List ℕ) → Type 0
AreFilledAt q s text bs =
    (w : ScriptState) → ScriptsAlike s w → IsFilledScript (λ vs. value_fillings (ValueOf (OfScript s)) q text vs) bs w

script-raw : (q : Quoting) (tag : Tag) (s : ScriptState) (text bytes bs : List ℕ) → AreReadInScript q bytes bs → AreFilledAt q s text bs
    → (v : ValueState) (vs : List Filling) (t : List LexEvent) (m d : Config ValueState)
    → languages.AreAlike (OfScript s) v → m ≡ config (in_value q tag (ValueOf v)) t → RawStands vs m d
    → RawStands (value_fillings (ValueOf (OfScript s)) q text vs) (marked bytes m) (read Page bytes d)
script-raw q tag s text bytes bs reads k (OfKind j) vs t m d a e r = absurd a
script-raw q tag s text bytes bs reads k (OfUrl u) vs t m d a e r = absurd a
script-raw q tag s text bytes bs reads k (OfStyle z) vs t m d a e r = absurd a
script-raw q tag s text bytes bs reads k (OfScript w) vs t m d a e r =
    let p = subst (λ (z : Config ValueState). RawStands vs z d) e r in
    subst (λ (z : Config ValueState). RawStands (value_fillings (ValueOf (OfScript s)) q text vs) (marked bytes z) (read Page bytes d)) (sym e)
    (script-led q tag (λ vs. value_fillings (ValueOf (OfScript s)) q text vs) bytes bs w p.0 reads (k w a) vs t d p.1 p.2.0 p.2.1)

script-leads : (q : Quoting) (tag : Tag) (s : ScriptState) (text bytes bs : List ℕ) → AreReadInScript q bytes bs → AreFilledAt q s text bs
    → Leads (in_script q tag s) text bytes
script-leads q tag s text bytes bs reads k =
    leads-on (in_script q tag s) text bytes tt (λ vs t m d l r. script-raw q tag s text bytes bs reads k l.there vs t m d l.alike l.stands r)

-- Where there is a mark the page is where the path is.
mark-paged : (a : At) → script_has_mark_at a ≡ script_has_mark_at (as_page a)
mark-paged (Code s) = refl
mark-paged (Word w) = refl
mark-paged Number = refl
mark-paged (Pluses odd) = refl
mark-paged (Minuses odd) = refl
mark-paged (Slash s) = refl
mark-paged (LineComment s) = refl
mark-paged (BlockComment s star) = refl
mark-paged (InString q e) = refl
mark-paged (InRegexp k e) = refl
mark-paged (InTemplate e d) = refl
mark-paged TooDeep = refl

marked-same : (a : At) (t : Trail) (w : ScriptState) → script_has_mark_at a ≡ true → ScriptsAlike (in_code a t) w → IsSame (model a) w
marked-same a t w m (i, inl s) = record { literals = s.literals; held = s.held; at = s.at }
marked-same a t w m (i, inr s) = absurd (true≢false (sym m ∙ mark-paged a ∙ ap script_has_mark_at s.path))

-- by the state of the path, which has a mark there
abbrev pub SiteFills : At → Quoting → MarkSite → Type 0
SiteFills a q site =
    (t : Trail) (text : List ℕ) (vs : List Filling) → value_fillings (ValueOf (OfScript (in_code a t))) q text vs ≡ filling site text ∷ vs

site-fills : (a : At) (t : Trail) (q : Quoting) (site : MarkSite) → SiteFills a q site → script_has_mark_at a ≡ true
    → (text bs : List ℕ) → IsApart (model a) bs
    → ((before : List LexEvent) → FitsAt site text before (told_in_script (run_told (script_settled (model a)) bs) []))
    → AreFilledAt q (in_code a t) text bs
site-fills a t q site own m text bs p fits w i =
    let run = run_told (script_settled (model a)) bs in
    let has : script_has_mark w ≡ true = scripts-keep.marks (in_code a t) w i ∙ m in
    record {
      there = a;
      same = marked-same a t w m i;
      apart = p;
      fills = λ vs before u f.
          subst (λ (ws : List Filling). Fills (mark_if (script_has_mark w) before) ws (told_in_script run u)) (sym (own t text vs))
          (subst (λ (y : Bool). Fills (mark_if y before) (filling site text ∷ vs) (told_in_script run u)) (sym has)
          (subst (Fills (Mark ∷ before) (filling site text ∷ vs)) (sym (script-run run u))
          (fills-mark (filling site text) vs (told_in_script run []) before u (fits u) f)));
    }

-- In code, where a datum is told as the tokens of its literal: it has a byte, since behind a word it leads on.
some-bytes : (q : Quoting) (chars : List ℕ) → chars ≢ [] → url_bytes q chars ≡ chars
some-bytes DoubleQuoted chars n = refl
some-bytes SingleQuoted chars n = refl
some-bytes Unquoted [] n = absurd (n refl)
some-bytes Unquoted (b ∷ bs) n = refl

between : IsBetweenEscapes no_trail
between = record { none = refl; closed = refl }

no-word : Word [] ≡ Code sense.Div → ⊥
no-word e = cc

code-some : (datum : Data) (chars : List ℕ) → IsBackInScriptCode datum chars → chars ≢ []
code-some datum [] k e = no-word (k.plain (Word []) no_trail tt between).leads.at
code-some datum (b ∷ bs) k e = cc

abbrev ReadsInCode : Quoting → Data → List ℕ → Type 0
ReadsInCode q datum bytes = IsBackInLanguage (IsBackInScriptCode datum) (last_of (quotes_at q)) bytes

code-fits : (a : At) → TakesData a → (datum : Data) (chars : List ℕ) → IsBackInScriptCode datum chars
    → IsLiteralRun (printed datum) (told_in_script (run_told (script_settled (model a)) chars) [])
code-fits a h datum chars k = record {
  datum = datum;
  prints = refl;
  emitted = ap (λ (es : List ScriptEvent). told_in_script es []) (k.told a no_trail h between);
}

pub code-filled : (a : At) (t : Trail) → TakesData a → script_has_mark_at a ≡ true → (q : Quoting) → SiteFills a q ScriptCodeSite
    → (datum : Data) (chars : List ℕ) → IsBackInScriptCode datum chars
    → AreFilledAt q (in_code a t) (printed datum) chars
code-filled a t h m q own datum chars k =
    site-fills a t q ScriptCodeSite own m (printed datum) chars (k.plain a no_trail h between).apart (λ before. code-fits a h datum chars k)

pub code-leads : (a : At) (t : Trail) → TakesData a → script_has_mark_at a ≡ true → (q : Quoting) → SiteFills a q ScriptCodeSite
    → (tag : Tag) (datum : Data) (bytes : List ℕ) → ReadsInCode q datum bytes → Leads (in_script q tag (in_code a t)) (printed datum) bytes
code-leads a t h m q own tag datum bytes k =
    script-leads q tag (in_code a t) (printed datum) bytes k.characters
    (subst (AreReadInScript q bytes) (some-bytes q k.characters (code-some datum k.characters k.there))
    (read-in-script q k.characters bytes k.as_they_are k.written))
    (code-filled a t h m q own datum k.characters k.there)

-- in a string, which may be empty between quotes
string-failsafe : (j : Bool) → IsPlainInScript failsafe (in_string j no_trail)
unfolding scripts.class_of released held_after
string-failsafe true = record {
  apart = refl;
  leads = record {
    at = refl;
    outside = refl;
    within = refl;
    whole_before = between;
    whole_after = record { none = refl; closed = refl };
    settled = refl;
    released = refl;
  };
  tells = refl;
  written = tt;
}
string-failsafe false = record {
  apart = refl;
  leads = record {
    at = refl;
    outside = refl;
    within = refl;
    whole_before = between;
    whole_after = record { none = refl; closed = refl };
    settled = refl;
    released = refl;
  };
  tells = refl;
  written = tt;
}

either : (q : Quoting) (chars : List ℕ) (P : List ℕ → Type 0) → P chars → P failsafe → P (url_bytes q chars)
either DoubleQuoted chars P p f = p
either SingleQuoted chars P p f = p
either Unquoted [] P p f = f
either Unquoted (b ∷ bs) P p f = p

run-is : (s : ScriptState) (bs : List ℕ) → told_in_script (run_told s bs) [] ≡ script_run s bs
run-is s bs = sym (script-read-told s bs [] [])

pub string-filled : (j : Bool) (t : Trail) (q : Quoting) → SiteFills (InString j NoEscape) q (ScriptStringSite q j) → (text chars : List ℕ)
    → IsBackInScriptString text chars → AreFilledAt q (in_string j t) text (url_bytes q chars)
string-filled j t q own text chars k =
    let bs = url_bytes q chars in
    let plain = either q chars (λ cs. IsPlainInScript cs (in_string j no_trail)) (k.plain j no_trail between) (string-failsafe j) in
    let fits : IsScriptStringRun q j text (told_in_script (run_told (in_string j no_trail) bs) []) = record {
      bytes = chars;
      emitted = run-is (in_string j no_trail) bs;
      plain = plain;
      reads = k.reads;
    } in
    site-fills (InString j NoEscape) t q (ScriptStringSite q j) own refl text bs plain.apart (λ before. fits)

pub string-leads : (j : Bool) (t : Trail) (q : Quoting) → SiteFills (InString j NoEscape) q (ScriptStringSite q j) → (tag : Tag) (text bytes : List ℕ)
    → IsBackInLanguage (IsBackInScriptString text) (last_of (quotes_at q)) bytes
    → Leads (in_script q tag (in_string j t)) text bytes
string-leads j t q own tag text bytes k =
    script-leads q tag (in_string j t) text bytes (url_bytes q k.characters) (read-in-script q k.characters bytes k.as_they_are k.written)
    (string-filled j t q own text k.characters k.there)

-- in a regular expression, and behind the slash that begins it
abbrev pub IsInRegexp : At → Type 0
IsInRegexp a = script_settled (model a) ≡ in_regexp no_trail

regexp-fits : (a : At) → IsInRegexp a → (text chars : List ℕ) → IsBackInScriptRegexp text chars
    → IsRegexpRun text (told_in_script (run_told (script_settled (model a)) chars) [])
regexp-fits a e text chars k = record {
  bytes = chars;
  emitted = ap (λ (s : ScriptState). told_in_script (run_told s chars) []) e ∙ run-is (in_regexp no_trail) chars;
  plain = k.plain no_trail between;
  reads = k.reads;
}

pub regexp-filled : (a : At) (t : Trail) → IsInRegexp a → script_has_mark_at a ≡ true → (q : Quoting) → SiteFills a q ScriptRegexpSite
    → ((text chars : List ℕ) → IsBackInScriptRegexp text chars → IsPlainInScript chars (model a))
    → (text chars : List ℕ) → IsBackInScriptRegexp text chars → AreFilledAt q (in_code a t) text chars
regexp-filled a t e m q own plain text chars k =
    site-fills a t q ScriptRegexpSite own m text chars (plain text chars k).apart (λ before. regexp-fits a e text chars k)

pub regexp-leads : (a : At) (t : Trail) → IsInRegexp a → script_has_mark_at a ≡ true → (q : Quoting) → SiteFills a q ScriptRegexpSite
    → ((text chars : List ℕ) → IsBackInScriptRegexp text chars → IsPlainInScript chars (model a))
    → (tag : Tag) (text bytes : List ℕ) → IsBackInLanguage (IsBackInScriptRegexp text) (last_of (quotes_at q)) bytes
    → Leads (in_script q tag (in_code a t)) text bytes
regexp-leads a t e m q own plain tag text bytes k =
    script-leads q tag (in_code a t) text bytes k.characters
    (subst (AreReadInScript q bytes) (some-bytes q k.characters (k.there.plain no_trail between).written)
    (read-in-script q k.characters bytes k.as_they_are k.written))
    (regexp-filled a t e m q own plain text k.characters k.there)

pub plain-within : (text chars : List ℕ) → IsBackInScriptRegexp text chars → IsPlainInScript chars (model (InRegexp false NoEscape))
plain-within text chars k = k.plain no_trail between

pub plain-first : (text chars : List ℕ) → IsBackInScriptRegexp text chars → IsPlainInScript chars (model (Slash sense.Re))
plain-first text chars k = k.first no_trail between

-- In a comment, where the value is left out, and the failsafe of a value without quotes tells nothing.
line-told : (s : Sense) (q : Quoting) → run_told (model (LineComment s)) (url_bytes q []) ≡ []
unfolding scripts.class_of released held_after
line-told s DoubleQuoted = refl
line-told s SingleQuoted = refl
line-told s Unquoted = refl

block-told : (s : Sense) (star : Bool) (q : Quoting) → run_told (model (BlockComment s star)) (url_bytes q []) ≡ []
unfolding scripts.class_of released held_after
block-told s star DoubleQuoted = refl
block-told s star SingleQuoted = refl
block-told s true Unquoted = refl
block-told s false Unquoted = refl

abbrev IsCommentHere : At → ScriptState → Type 0
IsCommentHere a w =
    (script_has_mark_at a ≡ false) × (script_settled (model a) ≡ model a) × (script_emits_settled (model a) [] ≡ []) × IsSame (model a) w

no-mark : (a : At) (w : ScriptState) → script_has_mark_at a ≡ false → IsSame (model a) w → script_has_mark w ≡ false
no-mark a w m s = mark-paged w.at ∙ ap script_has_mark_at s.at ∙ sym (mark-paged a) ∙ m

comment-here : (a : At) (w : ScriptState) (bs : List ℕ) → IsCommentHere a w → run_told (model a) bs ≡ [] → IsFilledScript (λ vs. vs) bs w
comment-here a w bs h e = record {
  there = a;
  same = h.3;
  apart = sym (ap (λ (s : ScriptState). read_on bs (script_reading s (script_emits_settled (model a) []))) h.1
      ∙ ap (λ (t : List ScriptEvent). read_on bs (script_reading (model a) t)) h.2);
  fills = λ vs t u f.
      subst (λ (y : Bool). Fills (mark_if y t) vs (told_in_script (run_told (script_settled (model a)) bs) u)) (sym (no-mark a w h.0 h.3))
      (subst (λ (es : List ScriptEvent). Fills t vs (told_in_script es u)) (sym (ap (λ (s : ScriptState). run_told s bs) h.1 ∙ e)) f);
}

not-passed-line : (s r : Sense) → as_page (LineComment s) ≡ BlockComment r true → ⊥
not-passed-line s r e = cc

line-filled : (s : Sense) (t : Trail) (q : Quoting) (text : List ℕ) → AreFilledAt q (in_code (LineComment s) t) text (url_bytes q [])
line-filled s t q text w (i, inl h) =
    comment-here (LineComment s) w (url_bytes q []) (refl, refl, refl, record { literals = h.literals; held = h.held; at = h.at }) (line-told s q)
line-filled s t q text w (i, inr h) = absurd (not-passed-line s h.sense h.path)

abbrev sense_in : At → Sense
sense_in (BlockComment s star) = s
sense_in a = sense.Re

block-filled : (s : Sense) (star : Bool) (t : Trail) (q : Quoting) (text : List ℕ) → AreFilledAt q (in_code (BlockComment s star) t) text (url_bytes q [])
block-filled s star t q text w (i, inl h) =
    comment-here (BlockComment s star) w (url_bytes q [])
    (refl, refl, refl, record { literals = h.literals; held = h.held; at = h.at }) (block-told s star q)
block-filled s star t q text w (i, inr h) =
    let own : h.sense ≡ paged s = sym (ap sense_in h.path) in
    comment-here (BlockComment s false) w (url_bytes q [])
    (refl, refl, refl, record { literals = h.literals; held = h.page_held; at = h.page ∙ ap (λ (x : Sense). BlockComment x false) own })
    (block-told s false q)

pub line-leads : (s : Sense) (t : Trail) (q : Quoting) (tag : Tag) (text bytes : List ℕ) → IsBackByLast (last_of (quotes_at q)) [] bytes
    → Leads (in_script q tag (in_code (LineComment s) t)) text bytes
line-leads s t q tag text bytes k =
    script-leads q tag (in_code (LineComment s) t) text bytes (url_bytes q [])
    (read-in-script q [] bytes refl k) (line-filled s t q text)

pub block-leads : (s : Sense) (star : Bool) (t : Trail) (q : Quoting) (tag : Tag) (text bytes : List ℕ) → IsBackByLast (last_of (quotes_at q)) [] bytes
    → Leads (in_script q tag (in_code (BlockComment s star) t)) text bytes
block-leads s star t q tag text bytes k =
    script-leads q tag (in_code (BlockComment s star) t) text bytes (url_bytes q [])
    (read-in-script q [] bytes refl k) (block-filled s star t q text)

-- where a script without quotes is to begin
abbrev begun : ScriptState
begun = in_code (Code sense.Re) (fresh_trail no_trail)

begun-read : (tag : Tag) (chars bytes : List ℕ) → read_as_text chars ≡ chars → IsBackByLast san.AttrNospace chars bytes → (t : List LexEvent)
    → read Page bytes (config (BeforeAttributeValue tag kind.Script) t)
    ≡ config (in_script Unquoted tag (script_fed begun (url_bytes Unquoted chars))) (script_told begun (url_bytes Unquoted chars) t)
begun-read tag chars bytes e k t =
    k.reads_unbegun tag kind.Script t ∙ ap (λ (z : List ℕ). read_value Unquoted tag (ValueOf (OfScript begun)) z t) (url-value chars e)
    ∙ script-value Unquoted tag begun (url_bytes Unquoted chars) t

begun-alike : ScriptsAlike begun begun
begun-alike = (record { escape = refl; brace = refl }, inl (record { literals = refl; held = refl; at = refl }))

begun-leads : (tag : Tag) (datum : Data) (bytes bs : List ℕ)
    → ((t : List LexEvent) → read Page bytes (config (BeforeAttributeValue tag kind.Script) t)
    ≡ config (in_script Unquoted tag (script_fed begun bs)) (script_told begun bs t))
    → AreFilledAt Unquoted begun (printed datum) bs
    → LeadsOn (BeforeAttributeValue tag kind.Script) (printed datum) bytes
begun-leads tag datum bytes bs reads filled vs t m d l r =
    let s : LexState ValueState = BeforeAttributeValue tag kind.Script in
    let own = raw-there s vs t m d tt l r in
    let g = script-goes (λ vs. value_fillings (ValueOf (OfScript begun)) Unquoted (printed datum) vs) bs begun begun
    (filled begun begun-alike) vs t d.emitted (record { literals = refl; held = refl; at = refl }) own.1 in
    led (value_fillings (ValueOf (OfScript begun)) Unquoted (printed datum) vs) _ _
    (config (in_script Unquoted tag (script_fed begun bs)) (Mark ∷ t))
    (config (in_script Unquoted tag (script_fed begun bs)) (script_told begun bs d.emitted))
    (ap (marked bytes) l ∙ marked-is s (in_script Unquoted tag (script_fed begun bs)) bytes t _ (reads []))
    (ap (read Page bytes) own.0 ∙ reads d.emitted)
    (OfScript (script_fed begun bs), refl, (g.0, g.1))

pub script-begun-leads : (tag : Tag) (datum : Data) (bytes : List ℕ) → IsBackInLanguage (IsBackInScriptCode datum) san.AttrNospace bytes
    → LeadsOn (BeforeAttributeValue tag kind.Script) (printed datum) bytes
script-begun-leads tag datum bytes k =
    let chars = k.characters in
    let some = some-bytes Unquoted chars (code-some datum chars k.there) in
    begun-leads tag datum bytes chars
    (λ t. begun-read tag chars bytes k.as_they_are k.written t
    ∙ ap (λ (z : List ℕ). config (in_script Unquoted tag (script_fed begun z)) (script_told begun z t)) some)
    (code-filled (Code sense.Re) (fresh_trail no_trail) tt refl Unquoted (λ t text vs. refl) datum chars k.there)
