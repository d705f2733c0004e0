-- From the scan state of a path in a script, a byte and the end of a text are as on the path.
use Rattle.std.proofs.Common.{◌≡◌, ℕ, ◌+◌, ◌-◌, Bool, true, false, List, [], ◌∷◌, length, Option, Some, None, if◌then◌else◌, refl, sym, ap, subst, ◌∙◌}
use Rattle.std.specs.Prelude.{◌||◌, ◌&&◌}
use Rattle.std.specs.Option.{option_map}
use Rattle.js_lexer.specs.Holes.{script_after_cut}
use Rattle.js_lexer.specs.Refusals.{Cause, is_cut_markup, within_escape}
use Rattle.js_lexer.specs.Spots.{CodeSpot, MinusTail, RegexpSpot, Spot, StringSpot, script_spot, shown_at, spot_at, spot_before, tail_of, unless_within}
use Rattle.js_lexer.specs.States.{At as ScriptAt, Code, Word, Number, Pluses, Minuses, Slash, LineComment, BlockComment, InString, InRegexp, InTemplate, TooDeep, ScriptState, Trail, script_start}
use Rattle.js_lexer.specs.Steps.{sense_if_odd}
use Rattle.js_lexer.specs.Trails.{is_empty}
use Rattle.js_lexer.specs.declared.sense.Sense.TheVariants as sense
use Rattle.js_step.proofs.ScriptPaths.{script-paths-are-scanned}
use Rattle.js_step.specs.ScriptScans.{ScriptScan, script_scan_cut_error, script_scan_shown, script_scan_start}
use Rattle.place_core.proofs.Semilattices.{none_some}
use Rattle.place_core.specs.page.Classes.{Class, White, QuotationMark, Apostrophe, LessThan, EqualsSign, GreaterThan, GraveAccent, class_of, is_equals_sign}
use Rattle.place_core.specs.place.Errors.{PathCause, at_hand, bare_error, byte_error, cut_places, fed_error, fed_places, first_byte_error, first_cause, first_places, flushed_error, is_written, language_error, place_before_bytes, placed_bytes, places_with, quotes_error, script_fed, script_fed_refusal, script_refusal_at, value_before}
use Rattle.place_core.specs.page.Html.{next, next_before_value, ends_value}
use Rattle.place_core.specs.page.References.{Reference, settled, undone_byte, as_it_stands, Closed, Open, Form, ReferenceStep, Grows, Closes, Breaks, turn, flushed, next_reference}
use Rattle.place_core.specs.place.ScriptParts.{script_body, script_body_before, script_may_begin_text, script_place}
use Rattle.place_core.specs.place.StatePlaces.{quotes_at, unbegun, value_body, value_body_before, value_spot}
use Rattle.place_core.specs.page.States.{Template, BeforeAttributeValue, AttributeValue}
use Rattle.place_core.specs.page.Tags.{Tag, Value, ValueOf, Deciding, ValueState, OfKind, OfUrl, OfStyle, OfScript, languages, feeding, feed_bytes, refuses_cut_of, script_code, with_bytes, Quoting, DoubleQuoted, SingleQuoted, Unquoted, cut_value}
use Rattle.place_core.specs.declared.body.Body.{Body}
use Rattle.place_core.specs.declared.body.Body.TheVariants as body
use Rattle.place_core.specs.declared.js.Js.{Js}
use Rattle.place_core.specs.declared.kind.Kind.TheVariants as kind
use Rattle.place_core.specs.declared.place.Place.{Place}
use Rattle.place_core.specs.declared.place.Place.TheVariants as place
use Rattle.place_core.specs.declared.quotes.Quotes.{Quotes}
use Rattle.place_core.specs.declared.value_place.ValuePlace.{ValuePlace}
use Rattle.html_scan.specs.Scans.{Scan, At, InScript, all_scripts, quoted_error, scan_next, scan_shown, script_before_turn, script_cause, script_fed_byte, script_fed_next, script_feeding, script_value_next, value_next, with_body, with_script}
use Rattle.html_step.proofs.FedAlike.{beside, fed-alike, fed-beside, first-byte-alike, first-caused, language-alike, undone-beside}
use Rattle.html_step.proofs.PathScans.{Agrees, Ends, IsShown, ScriptsAgree, TakesEnd, WhereScanned, same-with, scanned, script_there, script_unless_placed, script_value_scanned, some, tag-ends, value_scanned, with-fed}
use Rattle.html_step.proofs.ScriptPaths.{IsScriptAt, begins-scanned, deep-place, empty_js, ending-refusal, first-unrefused, kept_script_scanned, one-script, one-stand, places-refusal, refusal-none, script_value, scripts-alike, some-fed, with-no-body}
use Rattle.html_step.proofs.StylePaths.{has-value, quoted-at}
use Rattle.url_lexer.specs.Triples.{NoTriple}

-- what the bytes that are fed make of the scan state
script-there : (q : Quoting) (t : Tag) (z : Value ValueState) (n : ScriptScan) (r : Reference) → IsScriptAt z n → (r ≡ Closed → value_body z ≡ None)
    → value_scanned q t z r ≡ Some (InScript (script_value t (quotes_at q)) n r)
script-there q t (ValueOf (OfScript v)) n Closed i h =
    ap (λ (o : Option Body). script_unless_placed q t o (kept_script_scanned v)) (h refl) ∙ ap (λ (o : Option ScriptScan). script_there q t o Closed) i
script-there q t (ValueOf (OfScript v)) n (Open f bytes) i h = ap (λ (o : Option ScriptScan). script_there q t o (Open f bytes)) i
script-there q t (ValueOf (OfKind k)) n r i h = absurd i
script-there q t (ValueOf (OfUrl u)) n r i h = absurd i
script-there q t (ValueOf (OfStyle v)) n r i h = absurd i
script-there q t (Deciding k before) n r i h = absurd i

script-goes : (q : Quoting) (t : Tag) (s : ScriptState) (n : ScriptScan) (r : Reference) (c : Class) (b : ℕ) → kept_script_scanned s ≡ Some n
    → language_error script_feeding false n r c b ≡ None
    → value_scanned q t (with_bytes languages (ValueOf (OfScript s)) (undone_byte true r c b)) (next_reference r c b)
    ≡ Some (script_fed_next (script_value t (quotes_at q)) n r c b)
script-goes q t s n r c b i e =
    let bytes = undone_byte true r c b in
    let z = with_bytes languages (ValueOf (OfScript s)) bytes in
    script-there q t z (feed_bytes script_feeding n bytes) (next_reference r c b)
    (subst (λ (y : Value ValueState). IsScriptAt y (feed_bytes script_feeding n bytes)) (sym (with-fed (ValueOf (OfScript s)) bytes))
    (undone-beside (beside scripts-alike) r c b (ValueOf (OfScript s)) n i e))
    (λ h. with-no-body bytes s (some-fed r c b h))

script-next : (q : Quoting) (t : Tag) (s : ScriptState) (n : ScriptScan) (r : Reference) (c : Class) (b : ℕ) → kept_script_scanned s ≡ Some n
    → language_error script_feeding (ends_value q c) n r c b ≡ None → at_hand (quotes_error t.tag (quotes_at q) c) ≡ None
    → scanned (next languages Template (AttributeValue q t (ValueOf (OfScript s)) r) c b)
    ≡ Some (script_value_next (script_value t (quotes_at q)) n r c b)
script-next DoubleQuoted t s n r QuotationMark b i l e = rw (same-with t (settled true r) (OfScript s)) refl
script-next DoubleQuoted t s n r c b i l e = script-goes DoubleQuoted t s n r c b i l
script-next SingleQuoted t s n r Apostrophe b i l e = rw (same-with t (settled true r) (OfScript s)) refl
script-next SingleQuoted t s n r c b i l e = script-goes SingleQuoted t s n r c b i l
script-next Unquoted t s n r White b i l e = rw (same-with t (settled true r) (OfScript s)) refl
script-next Unquoted t s n r GreaterThan b i l e = rw (same-with t (settled true r) (OfScript s)) (tag-ends t.tag)
script-next Unquoted t s n r QuotationMark b i l e = absurd (some _ e)
script-next Unquoted t s n r Apostrophe b i l e = absurd (some _ e)
script-next Unquoted t s n r LessThan b i l e = absurd (some _ e)
script-next Unquoted t s n r EqualsSign b i l e = absurd (some _ e)
script-next Unquoted t s n r GraveAccent b i l e = absurd (some _ e)
script-next Unquoted t s n r c b i l e = script-goes Unquoted t s n r c b i l

-- what is refused
script-errors : (q : Quoting) (t : Tag) (s : ScriptState) (n : ScriptScan) (r : Reference) (c : Class) (b : ℕ) → kept_script_scanned s ≡ Some n
    → byte_error (AttributeValue q t (ValueOf (OfScript s)) r) c b ≡ script_cause (script_value t (quotes_at q)) n r c b
script-errors q t s n r c b i =
    let own = language_error (feeding languages) (ends_value q c) (ValueOf (OfScript s)) r c b in
    ap (λ (x : Tag). first_cause own (at_hand (quotes_error x.tag (quotes_at q) c))) (same-with t (settled true r) (OfScript s))
    ∙ ap (λ (o : Option PathCause). first_cause o (at_hand (quotes_error t.tag (quotes_at q) c)))
    (language-alike scripts-alike (ends_value q c) r c b (ValueOf (OfScript s)) n i ∙ sym (quoted-at script_feeding q n r c b))

script-places : (q : Quoting) (t : Tag) (s : ScriptState) (n : ScriptScan) (r : Reference) (c : Class) (b k : ℕ) (places : List ℕ) → kept_script_scanned s ≡ Some n
    → ScriptsAgree k places (AttributeValue q t (ValueOf (OfScript s)) r) (InScript (script_value t (quotes_at q)) n r) c b
script-places DoubleQuoted t s n r c b k places i =
    let ends = ends_value DoubleQuoted c in
    (places-refusal ends k places s n (fed_places ends k r c b) i, refl, λ h. deep-place ends k places s n (fed_places ends k r c b) i h)
script-places SingleQuoted t s n r c b k places i =
    let ends = ends_value SingleQuoted c in
    (places-refusal ends k places s n (fed_places ends k r c b) i, refl, λ h. deep-place ends k places s n (fed_places ends k r c b) i h)
script-places Unquoted t s n r c b k places i =
    let ends = ends_value Unquoted c in
    (places-refusal ends k places s n (fed_places ends k r c b) i, refl, λ h. deep-place ends k places s n (fed_places ends k r c b) i h)

pub script-steps : (q : Quoting) (t : Tag) (s : ScriptState) (n : ScriptScan) (r : Reference) (c : Class) (b : ℕ) → kept_script_scanned s ≡ Some n
    → Agrees (AttributeValue q t (ValueOf (OfScript s)) r) (InScript (script_value t (quotes_at q)) n r) c b
script-steps q t s n r c b i = record {
  errors = script-errors q t s n r c b i;
  scripts = λ k places w. script-places q t s n r c b k places i;
  steps = λ e.
      let p = first-caused (quoted_error script_feeding (quotes_at q) n r c b) (at_hand (quotes_error t.tag (quotes_at q) c)) e in
      script-next q t s n r c b i (sym (quoted-at script_feeding q n r c b) ∙ p.0) p.1;
}

-- where a text begins: at a place
abbrev script_at : Tag → Quotes → Js → ValuePlace
script_at t q c = record { tag = t.tag; typed = t.typed; quotes = q; body = body.Js c }

placed-next : (q : Quoting) (t : Tag) (j : Js) (c : Class) (b : ℕ) → at_hand (quotes_error t.tag (quotes_at q) c) ≡ None
    → script_value_next (script_value t (quotes_at q)) (script_scan_start j) Closed c b ≡ scan_next (At (place.Value (script_at t (quotes_at q) j))) c b
placed-next DoubleQuoted t j QuotationMark b e = refl
placed-next DoubleQuoted t j c b e = refl
placed-next SingleQuoted t j Apostrophe b e = refl
placed-next SingleQuoted t j c b e = refl
placed-next Unquoted t j White b e = refl
placed-next Unquoted t j GreaterThan b e = refl
placed-next Unquoted t j QuotationMark b e = absurd (some _ e)
placed-next Unquoted t j Apostrophe b e = absurd (some _ e)
placed-next Unquoted t j c b e = refl

placed-places : (q : Quoting) (t : Tag) (s : ScriptState) (j : Js) (c : Class) (b k : ℕ) → kept_script_scanned s ≡ Some (script_scan_start j)
    → ScriptsAgree k [] (AttributeValue q t (ValueOf (OfScript s)) Closed) (At (place.Value (script_at t (quotes_at q) j))) c b
placed-places DoubleQuoted t s j c b k i =
    let ends = ends_value DoubleQuoted c in
    let n = script_scan_start j in
    (places-refusal ends k [] s n (fed_places ends k Closed c b) i, refl, λ h. deep-place ends k [] s n (fed_places ends k Closed c b) i h)
placed-places SingleQuoted t s j c b k i =
    let ends = ends_value SingleQuoted c in
    let n = script_scan_start j in
    (places-refusal ends k [] s n (fed_places ends k Closed c b) i, refl, λ h. deep-place ends k [] s n (fed_places ends k Closed c b) i h)
placed-places Unquoted t s j c b k i =
    let ends = ends_value Unquoted c in
    let n = script_scan_start j in
    (places-refusal ends k [] s n (fed_places ends k Closed c b) i, refl, λ h. deep-place ends k [] s n (fed_places ends k Closed c b) i h)

pub placed-script-steps : (q : Quoting) (t : Tag) (s : ScriptState) (j : Js) (c : Class) (b : ℕ) → script_body s ≡ Some (body.Js j)
    → Agrees (AttributeValue q t (ValueOf (OfScript s)) Closed) (At (place.Value (script_at t (quotes_at q) j))) c b
placed-script-steps q t s j c b h =
    let i = (one-stand s j h).scanned in
    let n = script_scan_start j in
    record {
      errors = script-errors q t s n Closed c b i;
      scripts = λ k places w.
          subst (λ (x : List ℕ). ScriptsAgree k x (AttributeValue q t (ValueOf (OfScript s)) Closed) (At (place.Value (script_at t (quotes_at q) j))) c b)
          (sym (w (body.Js j) h)) (placed-places q t s j c b k i);
      steps = λ e.
          let p = first-caused (quoted_error script_feeding (quotes_at q) n Closed c b) (at_hand (quotes_error t.tag (quotes_at q) c)) e in
          script-next q t s n Closed c b i (sym (quoted-at script_feeding q n Closed c b) ∙ p.0) p.1 ∙ ap Some (placed-next q t j c b p.1);
    }

-- where a value begins
abbrev begun_script : ScriptScan
begun_script = script_scan_start empty_js

begin-script : (t : Tag) (c : Class) (b : ℕ) → first_byte_error script_feeding begun_script c b ≡ None
    → at_hand (bare_error t.tag (record { uq = false; unbegun = true }) c) ≡ None
    → scanned (next_before_value languages c b t kind.Script) ≡ Some (value_next (script_value t unbegun) NoTriple Closed c b)
begin-script t White b l n = refl
begin-script t QuotationMark b l n = refl
begin-script t Apostrophe b l n = refl
begin-script t GreaterThan b l n = tag-ends t.tag
begin-script t LessThan b l n = absurd (some _ n)
begin-script t EqualsSign b l n = absurd (some _ n)
begin-script t GraveAccent b l n = absurd (some _ n)
begin-script t c b l n = script-goes Unquoted t (script_after_cut script_start) begun_script Closed c b begins-scanned l

pub begin-script-steps : (t : Tag) (c : Class) (b : ℕ) → Agrees (BeforeAttributeValue t kind.Script) (At (place.Value (script_value t unbegun))) c b
begin-script-steps t c b =
    let quotes = at_hand (bare_error t.tag (record { uq = false; unbegun = true }) c) in
    record {
      errors = ap (λ (o : Option PathCause). first_cause o quotes)
          (first-byte-alike scripts-alike c b (ValueOf (OfScript (script_after_cut script_start))) begun_script begins-scanned);
      scripts = λ k places w.
          (places-refusal false k [] (script_after_cut script_start) begun_script (first_places k c b) begins-scanned, refl, λ h. refl);
      steps = λ e. (let p = first-caused (first_byte_error script_feeding begun_script c b) quotes e in begin-script t c b p.0 p.1);
    }

-- by what the scan state is
where-there : (q : Quoting) (t : Tag) (s : ScriptState) (r : Reference) (P : Scan → Type 0) (o : Option ScriptScan) → kept_script_scanned s ≡ o
    → ((n : ScriptScan) → kept_script_scanned s ≡ Some n → P (InScript (script_value t (quotes_at q)) n r)) → WhereScanned (script_there q t o r) P
where-there q t s r P None e g = tt
where-there q t s r P (Some n) e g = g n e

where-placed : (q : Quoting) (t : Tag) (s : ScriptState) (P : Scan → Type 0) (o : Option Body) → script_body s ≡ o
    → ((j : Js) → script_body s ≡ Some (body.Js j) → P (At (place.Value (script_at t (quotes_at q) j))))
    → ((n : ScriptScan) → kept_script_scanned s ≡ Some n → P (InScript (script_value t (quotes_at q)) n Closed))
    → WhereScanned (script_unless_placed q t o (kept_script_scanned s)) P
where-placed q t s P None e f g = where-there q t s Closed P (kept_script_scanned s) refl g
where-placed q t s P (Some x) e f g =
    let j = script-paths-are-scanned.is_script s x e in
    subst (λ (y : Body). P (At (place.Value (record { tag = t.tag; typed = t.typed; quotes = quotes_at q; body = y })))) (sym j.1) (f j.0 (e ∙ ap Some j.1))

pub where-scripted : (q : Quoting) (t : Tag) (s : ScriptState) (r : Reference) (P : Scan → Type 0)
    → ((j : Js) → r ≡ Closed → script_body s ≡ Some (body.Js j) → P (At (place.Value (script_at t (quotes_at q) j))))
    → ((n : ScriptScan) → kept_script_scanned s ≡ Some n → P (InScript (script_value t (quotes_at q)) n r))
    → WhereScanned (script_value_scanned q t s r) P
where-scripted q t s Closed P f g = where-placed q t s P (script_body s) refl (λ j e. f j refl e) g
where-scripted q t s (Open x bytes) P f g = where-there q t s (Open x bytes) P (kept_script_scanned s) refl g

pub value-script-steps : (q : Quoting) (t : Tag) (s : ScriptState) (r : Reference) (c : Class) (b : ℕ)
    → WhereScanned (script_value_scanned q t s r) (λ f. Agrees (AttributeValue q t (ValueOf (OfScript s)) r) f c b)
value-script-steps q t s r c b =
    where-scripted q t s r (λ f. Agrees (AttributeValue q t (ValueOf (OfScript s)) r) f c b)
    (λ j e h. subst (λ (x : Reference). Agrees (AttributeValue q t (ValueOf (OfScript s)) x) (At (place.Value (script_at t (quotes_at q) j))) c b) (sym e)
    (placed-script-steps q t s j c b h))
    (λ n h. script-steps q t s n r c b h)

-- the end of a text in a script
abbrev at_script : Tag → Quoting → ScriptScan → Place
at_script t q n = with_script (script_value t (quotes_at q)) n

script-cut-place : (q : Quoting) (t : Tag) (z : Value ValueState) (n : ScriptScan) → IsScriptAt z n → script_scan_cut_error n ≡ None
    → value_spot t (quotes_at q) (value_body (cut_value languages z)) ≡ Some (at_script t q n)
script-cut-place q t (ValueOf (OfScript v)) n i e =
    (let o = one-script v n i in ap (value_spot t (quotes_at q)) (o.stands (sym o.cut_error ∙ e)))
script-cut-place q t (ValueOf (OfKind k)) n i e = absurd i
script-cut-place q t (ValueOf (OfUrl u)) n i e = absurd i
script-cut-place q t (ValueOf (OfStyle v)) n i e = absurd i
script-cut-place q t (Deciding k before) n i e = absurd i

script-cut-whole : (z : Value ValueState) (n : ScriptScan) → IsScriptAt z n → script_scan_cut_error n ≡ None → refuses_cut_of languages z ≡ None
script-cut-whole (ValueOf (OfScript v)) n i e =
    ap (option_map (λ (x : Cause). script_code x.refusal)) (sym (one-script v n i).cut_error ∙ e)
script-cut-whole (ValueOf (OfKind k)) n i e = absurd i
script-cut-whole (ValueOf (OfUrl u)) n i e = absurd i
script-cut-whole (ValueOf (OfStyle v)) n i e = absurd i
script-cut-whole (Deciding k before) n i e = absurd i

fed-there : (s : ScriptState) (n : ScriptScan) (bytes : List ℕ) (written : Bool) (back : ℕ) → kept_script_scanned s ≡ Some n
    → fed_error script_feeding n bytes written back ≡ None → IsScriptAt (with_bytes languages (ValueOf (OfScript s)) bytes) (feed_bytes script_feeding n bytes)
fed-there s n bytes written back i e =
    subst (λ (z : Value ValueState). IsScriptAt z (feed_bytes script_feeding n bytes)) (sym (with-fed (ValueOf (OfScript s)) bytes))
    (fed-beside (beside scripts-alike) bytes written back (ValueOf (OfScript s)) n i e).1

fed-placed : (w : Bool) (bytes : List ℕ) (k : ℕ) (n : ScriptScan) → script_fed all_scripts n (placed_bytes w k bytes) ≡ feed_bytes script_feeding n bytes
fed-placed w [] k n = refl
fed-placed w (b ∷ bs) k n = fed-placed w bs (if w then k + 1 else k) (script_fed_byte n b)

cut-none : (v : ValuePlace) (n : ScriptScan) (r : Reference) → TakesEnd (InScript v n r)
    → script_scan_cut_error (feed_bytes script_feeding n (as_it_stands r)) ≡ None
cut-none v n r e =
    let xs = cut_places e.at r in
    let own = script_scan_cut_error (script_fed all_scripts n xs) in
    let p = first-unrefused (script_fed_refusal all_scripts e.places n xs) (script_refusal_at (e.at ∷ places_with xs e.places) own) e.scripts in
    ap script_scan_cut_error (sym (fed-placed true (as_it_stands r) (e.at - length (as_it_stands r)) n))
    ∙ refusal-none (e.at ∷ places_with xs e.places) own p.1

-- the place that is shown
spot-shown : (t : Tag) (q : Quoting) (o : Option Spot)
    → value_spot t (quotes_at q) (option_map body.Js (option_map script_place o))
    ≡ option_map (λ (j : Js). with_body (script_value t (quotes_at q)) (body.Js j)) (option_map script_place o)
spot-shown t q (Some p) = refl
spot-shown t q None = refl

script-shown-at : (q : Quoting) (t : Tag) (z : Value ValueState) (n : ScriptScan) → IsScriptAt z n
    → value_spot t (quotes_at q) (value_body_before z)
    ≡ option_map (λ (j : Js). with_body (script_value t (quotes_at q)) (body.Js j)) (script_scan_shown n)
script-shown-at q t (ValueOf (OfScript v)) n i =
    spot-shown t q (spot_before v)
    ∙ ap (option_map (λ (j : Js). with_body (script_value t (quotes_at q)) (body.Js j))) (sym (one-script v n i).shown)
script-shown-at q t (ValueOf (OfKind k)) n i = absurd i
script-shown-at q t (ValueOf (OfUrl u)) n i = absurd i
script-shown-at q t (ValueOf (OfStyle v)) n i = absurd i
script-shown-at q t (Deciding k before) n i = absurd i

script-turned : (z : ReferenceStep) (q : Quoting) (t : Tag) (s : ScriptState) (n : ScriptScan) (c : Class) (f : Form) (bytes : List ℕ) → kept_script_scanned s ≡ Some n
    → (z ≡ Breaks → flushed_error script_feeding n (is_equals_sign c) f bytes ≡ None)
    → value_spot t (quotes_at q) (value_body_before (value_before z (ValueOf (OfScript s)) c f bytes))
    ≡ option_map (λ (j : Js). with_body (script_value t (quotes_at q)) (body.Js j)) (script_scan_shown (script_before_turn z n c f bytes))
script-turned Breaks q t s n c f bytes i e =
    let broken = flushed true (is_equals_sign c) f bytes in
    script-shown-at q t (with_bytes languages (ValueOf (OfScript s)) broken) (feed_bytes script_feeding n broken)
    (fed-there s n broken (is_written (is_equals_sign c) f bytes) (length bytes + 1) i (e refl))
script-turned (Grows g) q t s n c f bytes i e = script-shown-at q t (ValueOf (OfScript s)) n i
script-turned Closes q t s n c f bytes i e = script-shown-at q t (ValueOf (OfScript s)) n i

script-shown : (q : Quoting) (t : Tag) (s : ScriptState) (n : ScriptScan) (r : Reference) (bs : List ℕ) → kept_script_scanned s ≡ Some n
    → IsShown (InScript (script_value t (quotes_at q)) n r) bs
    → place_before_bytes (AttributeValue q t (ValueOf (OfScript s)) r) bs ≡ scan_shown (InScript (script_value t (quotes_at q)) n r) bs
script-shown q t s n Closed bs i h = script-shown-at q t (ValueOf (OfScript s)) n i
script-shown q t s n (Open f bytes) [] i h =
    script-shown-at q t (with_bytes languages (ValueOf (OfScript s)) (38 ∷ bytes)) (feed_bytes script_feeding n (38 ∷ bytes))
    (fed-there s n (38 ∷ bytes) true (length (38 ∷ bytes)) i h)
script-shown q t s n (Open f bytes) (b ∷ bs) i h = script-turned (turn (class_of b) f) q t s n (class_of b) f bytes i h

pub script-ends : (q : Quoting) (t : Tag) (s : ScriptState) (n : ScriptScan) (r : Reference) → kept_script_scanned s ≡ Some n
    → Ends (AttributeValue q t (ValueOf (OfScript s)) r) (InScript (script_value t (quotes_at q)) n r)
script-ends q t s n r i =
    let w = script_value t (quotes_at q) in
    let bytes = as_it_stands r in
    let z = with_bytes languages (ValueOf (OfScript s)) bytes in
    let m = feed_bytes script_feeding n bytes in
    record {
      errors = fed-alike scripts-alike bytes true (length bytes) (ValueOf (OfScript s)) n i;
      scripts = λ k places. ending-refusal k places s n (cut_places k r) i;
      facts = (has-value q, refl);
      lexeme = λ e. script-cut-whole z m (fed-there s n bytes true (length bytes) i e.cut) (cut-none w n r e);
      reference = refl;
      place = λ e. script-cut-place q t z m (fed-there s n bytes true (length bytes) i e.cut) (cut-none w n r e);
      shown = λ bs h. script-shown q t s n r bs i h;
    }

-- Where a text begins, it is that of the place.
unless-shown : (x : Bool) (s p : Spot) → unless_within x s ≡ Some p → Some s ≡ Some p
unless-shown true s p e = absurd (none_some p e)
unless-shown false s p e = e

at-shown : (a : ScriptAt) (t : Trail) (p : Spot) → spot_at a t ≡ Some p → shown_at a t ≡ Some p
at-shown (Code s) t p e = unless-shown (is_cut_markup t.markup) (CodeSpot s (tail_of t.markup)) p e
at-shown (Minuses odd) t p e = unless-shown (is_cut_markup t.markup) (CodeSpot (sense_if_odd odd) MinusTail) p e
at-shown (Slash sense.Re) t p e = unless-shown (is_cut_markup t.markup) (RegexpSpot true) p e
at-shown (InString q x) t p e = unless-shown (within_escape t) (StringSpot q) p e
at-shown (InRegexp false x) t p e = unless-shown (within_escape t || is_cut_markup t.markup) (RegexpSpot false) p e
at-shown (InRegexp true x) t p e = absurd (none_some p e)
at-shown (Slash sense.Div) t p e = e
at-shown (Slash sense.Brace) t p e = e
at-shown (Word w) t p e = e
at-shown Number t p e = e
at-shown (Pluses odd) t p e = e
at-shown (LineComment s) t p e = e
at-shown (BlockComment s star) t p e = e
at-shown (InTemplate x d) t p e = e
at-shown TooDeep t p e = e

before-by : (x y : Bool) (o u : Option Spot) (p : Spot) → (o ≡ Some p → u ≡ Some p) → (if x && y then o else None) ≡ Some p
    → (if x then u else None) ≡ Some p
before-by true true o u p h e = h e
before-by true false o u p h e = absurd (none_some p e)
before-by false y o u p h e = absurd (none_some p e)

body-by : (x : Bool) (o u : Option Spot) (y : Body) → ((p : Spot) → o ≡ Some p → u ≡ Some p)
    → option_map body.Js (if x then option_map script_place o else None) ≡ Some y
    → option_map body.Js (option_map script_place u) ≡ Some y
body-by true (Some p) u y h e = ap (λ (z : Option Spot). option_map body.Js (option_map script_place z)) (h p refl) ∙ e
body-by true None u y h e = absurd (none_some y e)
body-by false o u y h e = absurd (none_some y e)

pub placed-shown : (s : ScriptState) (j : Js) → script_body s ≡ Some (body.Js j) → script_body_before s ≡ Some (body.Js j)
placed-shown s j e =
    body-by (script_may_begin_text s) (script_spot s) (spot_before s) (body.Js j)
    (λ p h. before-by (is_empty s.literals) (is_empty s.held) (spot_at s.at s.trail) (shown_at s.at s.trail) p (at-shown s.at s.trail p) h) e

pub placed-script-ends : (q : Quoting) (t : Tag) (s : ScriptState) (j : Js) → script_body s ≡ Some (body.Js j)
    → Ends (AttributeValue q t (ValueOf (OfScript s)) Closed) (At (place.Value (script_at t (quotes_at q) j)))
placed-script-ends q t s j h =
    let o = one-stand s j h in
    record {
      errors = refl;
      scripts = λ k places. ap (script_refusal_at (k ∷ places)) o.cut_error;
      facts = tt;
      lexeme = λ e. ap (option_map (λ (x : Cause). script_code x.refusal)) o.cut_error;
      reference = refl;
      place = λ e. ap (λ (x : ScriptState). value_spot t (quotes_at q) (script_body x)) o.kept ∙ ap (value_spot t (quotes_at q)) h;
      shown = λ bs i. ap (value_spot t (quotes_at q)) (placed-shown s j h);
    }

pub value-script-ends : (q : Quoting) (t : Tag) (s : ScriptState) (r : Reference)
    → WhereScanned (script_value_scanned q t s r) (Ends (AttributeValue q t (ValueOf (OfScript s)) r))
value-script-ends q t s r =
    where-scripted q t s r (Ends (AttributeValue q t (ValueOf (OfScript s)) r))
    (λ j e h. subst (λ (x : Reference). Ends (AttributeValue q t (ValueOf (OfScript s)) x) (At (place.Value (script_at t (quotes_at q) j)))) (sym e)
    (placed-script-ends q t s j h))
    (λ n h. script-ends q t s n r h)

-- a path that has a place is at it
placed-at : (q : Quoting) (t : Tag) (s : ScriptState) (p : Place) (o : Option Body) → script_body s ≡ o → value_spot t (quotes_at q) o ≡ Some p
    → script_value_scanned q t s Closed ≡ Some (At p)
placed-at q t s p None h e = absurd (none_some p e)
placed-at q t s p (Some x) h e = ap (λ (y : Option Body). script_unless_placed q t y (kept_script_scanned s)) h ∙ ap (option_map At) e

pub script-at-place : (q : Quoting) (t : Tag) (s : ScriptState) (p : Place) → value_spot t (quotes_at q) (script_body s) ≡ Some p
    → script_value_scanned q t s Closed ≡ Some (At p)
script-at-place q t s p e = placed-at q t s p (script_body s) refl e
