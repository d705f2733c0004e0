-- The bytes that are written of a datum in code are plain there.
use Rattle.std.proofs.Common.{◌≡◌, ℕ, ◌||◌, Bool, true, false, codes, List, [], ◌∷◌, ◌++◌, reverse, if◌then◌else◌, refl, sym, ap, subst, ◌∙◌}
use Rattle.std.specs.Fmt.{signed_decimal}
use Rattle.page_datum.specs.Data.{Data, null, truth, int, text, list, dict, DataList, DataDict}
use Rattle.js_lexer.specs.BackLaws.{in_code, TakesData}
use Rattle.js_lexer.specs.Classes.{class_of}
use Rattle.js_lexer.specs.Events.{ScriptEvent, PunctuatorBegins, ScriptByte}
use Rattle.js_lexer.specs.Feeding.{ScriptReading, script_reading, read_on}
use Rattle.js_lexer.specs.Holes.{paged, as_page, script_settled, LeadsPlainAt, IsBetweenEscapes, ScriptLeadsPlain}
use Rattle.js_lexer.specs.Plain.{punctuator_event, literal_events, IsPlainInScript}
use Rattle.js_lexer.specs.Sanitizers.{escaped, text_rows, json, json_items, json_entries, json_text, begins_joined, js_value}
use Rattle.js_lexer.specs.States.{At, Code, Word, Number, Pluses, Minuses, Slash, LineComment, BlockComment, InString, InRegexp, InTemplate, TooDeep, Trail, PartLines}
use Rattle.js_lexer.specs.WhiteSpace.{released, held_after}
use Rattle.js_lexer.specs.declared.sense.Sense.{Sense}
use Rattle.js_lexer.specs.declared.sense.Sense.TheVariants as sense
use Rattle.js_lexer.proofs.OpenBytes.{open_at, between_escapes, between}
use Rattle.js_lexer.proofs.JsonText.{IsRead, Reads, then-reads}
use Rattle.js_lexer.proofs.DataRead.{code-blank, word-blank, number-blank, IsOpen, code-opens, word-opens, number-opens, pluses-open, minuses-open, number-reads, null-reads, true-reads, false-reads, text-reads, items-read, entries-read}
use Rattle.js_lexer.proofs.Spaces.{number-spaced}

-- between spaces, or not
in-spaces : (a : At) → (start : IsOpen a) → (c : At) (e : Sense) (bytes : List ℕ) (u : List ScriptEvent)
    → Reads (Code start.settles) c bytes [] u → ((t : List ScriptEvent) → Reads c (Code e) (32 ∷ []) t t) → Reads a (Code e) (32 ∷ (bytes ++ 32 ∷ [])) [] u
in-spaces a start c e bytes u inner blank =
    then-reads a (Code start.settles) (Code e) (32 ∷ []) (bytes ++ 32 ∷ []) [] [] u (start.blank [])
    (then-reads (Code start.settles) c (Code e) bytes (32 ∷ []) [] u u inner (blank u))

either-way : (a : At) → (start : IsOpen a) → (x : Bool) (e : Sense) (bytes : List ℕ) (u : List ScriptEvent)
    → Reads a (Code e) bytes [] u → Reads (Code start.settles) (Code e) bytes [] u → Reads a (Code e) (if x then 32 ∷ (bytes ++ 32 ∷ []) else bytes) [] u
either-way a start true e bytes u outer inner = in-spaces a start (Code e) e bytes u inner (code-blank e)
either-way a start false e bytes u outer inner = outer

list-reads : (a : At) → IsOpen a → (items : DataList) → Reads a (Code sense.Div) (json (list items)) [] (literal_events (list items) [])
list-reads a start items =
    then-reads a (Code sense.Re) (Code sense.Div) (91 ∷ []) (json_items items ++ 93 ∷ []) [] (punctuator_event 91 []) (literal_events (list items) [])
    (start.bracket []) (items-read items (punctuator_event 91 []))

dict-reads : (a : At) → IsOpen a → (pairs : DataDict) → Reads a (Code sense.Brace) (json (dict pairs)) [] (literal_events (dict pairs) [])
dict-reads a start pairs =
    then-reads a (Code sense.Re) (Code sense.Brace) (123 ∷ []) (json_entries pairs ++ 125 ∷ []) [] (punctuator_event 123 []) (literal_events (dict pairs) [])
    (start.brace []) (entries-read pairs (punctuator_event 123 []))

-- the value is read whole, and a slash divides behind it
pub record IsReadWhole (a : At) (d : Data) : Type 0 where
  pub settles : Sense
  pub divides : paged settles ≡ sense.Div
  pub reads : Reads a (Code settles) (js_value d) [] (literal_events d [])

whole : (a : At) → IsOpen a → (d : Data) → IsReadWhole a d
whole a start null = record {
  settles = sense.Div;
  divides = refl;
  reads = in-spaces a start (Word (codes "null")) sense.Div (codes "null") (literal_events null []) (null-reads start.settles []) (word-blank (codes "null"));
}
whole a start (truth true) = record {
  settles = sense.Div;
  divides = refl;
  reads = in-spaces a start (Word (codes "true")) sense.Div (codes "true") (literal_events (truth true) []) (true-reads start.settles []) (word-blank (codes "true"));
}
whole a start (truth false) = record {
  settles = sense.Div;
  divides = refl;
  reads = in-spaces a start (Word (codes "false")) sense.Div (codes "false") (literal_events (truth false) []) (false-reads start.settles []) (word-blank (codes "false"));
}
whole a start (int n) = record {
  settles = sense.Div;
  divides = refl;
  reads =
      subst (λ (bytes : List ℕ). Reads a (Code sense.Div) bytes [] (literal_events (int n) [])) (sym (number-spaced n))
      (in-spaces a start Number sense.Div (signed_decimal n) (literal_events (int n) []) (number-reads start.settles n []) number-blank);
}
whole a start (text bytes) = record {
  settles = sense.Div;
  divides = refl;
  reads =
      either-way a start (begins_joined (json_text bytes) || begins_joined (reverse (json_text bytes))) sense.Div (json_text bytes) (literal_events (text bytes) [])
      (text-reads a start bytes []) (text-reads (Code start.settles) (code-opens start.settles) bytes []);
}
whole a start (list items) = record {
  settles = sense.Div;
  divides = refl;
  reads =
      either-way a start (begins_joined (json (list items)) || begins_joined (reverse (json (list items)))) sense.Div (json (list items)) (literal_events (list items) [])
      (list-reads a start items) (list-reads (Code start.settles) (code-opens start.settles) items);
}
whole a start (dict pairs) = record {
  settles = sense.Brace;
  divides = refl;
  reads =
      either-way a start (begins_joined (json (dict pairs)) || begins_joined (reverse (json (dict pairs)))) sense.Brace (json (dict pairs)) (literal_events (dict pairs) [])
      (dict-reads a start pairs) (dict-reads (Code start.settles) (code-opens start.settles) pairs);
}

read-leads : (a : At) (f : Bool) (m : List ℕ) (k l : ℕ) (z : PartLines) → ((after : At) → as_page after ≡ Code sense.Div → LeadsPlainAt a after)
    → (e : Sense) → paged e ≡ sense.Div → (u : List ScriptEvent) (r : ScriptReading) → IsRead (Code e) u r → ScriptLeadsPlain (open_at a (between_escapes f m k l z)) r.state
read-leads a f m k l z leads e divides u r is = record {
  at = leads r.state.at (ap (λ (q : ScriptReading). as_page q.state.at) is.is ∙ ap (λ (s : Sense). Code s) divides);
  outside = refl;
  within = ap (λ (q : ScriptReading). q.state.literals) is.is;
  whole_before = record { none = refl; closed = refl };
  whole_after = record { none = ap (λ (q : ScriptReading). q.state.trail.escape) is.is; closed = ap (λ (q : ScriptReading). q.state.trail.brace) is.is };
  settled = refl;
  released = ap (λ (q : ScriptReading). q.state.held) is.is;
}

-- the reading of a datum there, and what it tells
read-whole : (a : At) (f : Bool) (m : List ℕ) (k l : ℕ) (z : PartLines) → ((after : At) → as_page after ≡ Code sense.Div → LeadsPlainAt a after) → IsOpen a → (d : Data)
    → ScriptLeadsPlain (open_at a (between_escapes f m k l z)) (read_on (js_value d) (script_reading (open_at a (between_escapes f m k l z)) [])).state
    × ((read_on (js_value d) (script_reading (open_at a (between_escapes f m k l z)) [])).told ≡ literal_events d [])
read-whole a f m k l z leads start d =
    let w = whole a start d in
    let is = w.reads f m k l z in (
      read-leads a f m k l z leads w.settles w.divides (literal_events d []) (read_on (js_value d) (script_reading (open_at a (between_escapes f m k l z)) [])) is,
      ap (λ (q : ScriptReading). q.told) is.is,
    )

-- A slash that divides is told before the value, as it is where it is told with the first byte.
abbrev IsApart : List ℕ → Sense → Trail → Type 0
IsApart bytes s t =
    read_on bytes (script_reading (in_code (Slash s) t) []) ≡ read_on bytes (script_reading (in_code (Code sense.Re) t) (ScriptByte 47 ∷ PunctuatorBegins ∷ []))

blank-apart : (bytes : List ℕ) (s : Sense) (t : Trail) → TakesData (Slash s) → IsApart (32 ∷ bytes) s t
unfolding class_of released held_after
blank-apart bytes sense.Re t h = absurd h
blank-apart bytes sense.Div t h = refl
blank-apart bytes sense.Brace t h = refl

quote-apart : (bytes : List ℕ) (s : Sense) (t : Trail) → TakesData (Slash s) → IsApart (34 ∷ bytes) s t
unfolding class_of released held_after
quote-apart bytes sense.Re t h = absurd h
quote-apart bytes sense.Div t h = refl
quote-apart bytes sense.Brace t h = refl

bracket-apart : (bytes : List ℕ) (s : Sense) (t : Trail) → TakesData (Slash s) → IsApart (91 ∷ bytes) s t
unfolding class_of released held_after
bracket-apart bytes sense.Re t h = absurd h
bracket-apart bytes sense.Div t h = refl
bracket-apart bytes sense.Brace t h = refl

brace-apart : (bytes : List ℕ) (s : Sense) (t : Trail) → TakesData (Slash s) → IsApart (123 ∷ bytes) s t
unfolding class_of released held_after
brace-apart bytes sense.Re t h = absurd h
brace-apart bytes sense.Div t h = refl
brace-apart bytes sense.Brace t h = refl

either-apart : (x : Bool) (bytes : List ℕ) (s : Sense) (t : Trail) → TakesData (Slash s) → IsApart bytes s t → IsApart (if x then 32 ∷ (bytes ++ 32 ∷ []) else bytes) s t
either-apart true bytes s t h e = blank-apart (bytes ++ 32 ∷ []) s t h
either-apart false bytes s t h e = e

value-apart : (d : Data) (s : Sense) (t : Trail) → TakesData (Slash s) → IsApart (js_value d) s t
value-apart null s t h = blank-apart (codes "null" ++ 32 ∷ []) s t h
value-apart (truth true) s t h = blank-apart (codes "true" ++ 32 ∷ []) s t h
value-apart (truth false) s t h = blank-apart (codes "false" ++ 32 ∷ []) s t h
value-apart (int n) s t h = subst (λ (bytes : List ℕ). IsApart bytes s t) (sym (number-spaced n)) (blank-apart (signed_decimal n ++ 32 ∷ []) s t h)
value-apart (text bytes) s t h =
    either-apart (begins_joined (json_text bytes) || begins_joined (reverse (json_text bytes))) (json_text bytes) s t h
    (quote-apart (escaped text_rows bytes ++ 34 ∷ []) s t h)
value-apart (list items) s t h =
    either-apart (begins_joined (json (list items)) || begins_joined (reverse (json (list items)))) (json (list items)) s t h
    (bracket-apart (json_items items ++ 93 ∷ []) s t h)
value-apart (dict pairs) s t h =
    either-apart (begins_joined (json (dict pairs)) || begins_joined (reverse (json (dict pairs)))) (json (dict pairs)) s t h
    (brace-apart (json_entries pairs ++ 125 ∷ []) s t h)

abbrev IsPlainAt : At → Data → Trail → Type 0
IsPlainAt a d t = IsPlainInScript (js_value d) (in_code a t)

plain-here : (a : At) → TakesData a → (d : Data) (f : Bool) (m : List ℕ) (k l : ℕ) (z : PartLines) → IsPlainAt a d (between_escapes f m k l z)
plain-here (Code s) h d f m k l z =
    let is = read-whole (Code s) f m k l z (λ after e. e) (code-opens s) d in
    record { apart = refl; leads = is.0; tells = (d, is.1); written = (d, refl) }
plain-here (Word w) h d f m k l z =
    let is = read-whole (Word w) f m k l z (λ after e. e) (word-opens w) d in
    record { apart = refl; leads = is.0; tells = (d, is.1); written = (d, refl) }
plain-here Number h d f m k l z =
    let is = read-whole Number f m k l z (λ after e. e) number-opens d in
    record { apart = refl; leads = is.0; tells = (d, is.1); written = (d, refl) }
plain-here (Pluses odd) h d f m k l z =
    let is = read-whole (Pluses odd) f m k l z (λ after e. e) (pluses-open odd) d in
    record { apart = refl; leads = is.0; tells = (d, is.1); written = (d, refl) }
plain-here (Minuses odd) h d f m k l z =
    let is = read-whole (Minuses odd) f m k l z (λ after e. e) (minuses-open odd) d in
    record { apart = refl; leads = is.0; tells = (d, is.1); written = (d, refl) }
plain-here (Slash sense.Re) h d f m k l z = absurd h
plain-here (Slash sense.Div) h d f m k l z =
    let is = read-whole (Code sense.Re) f m k l z (λ after e. e) (code-opens sense.Re) d in
    record { apart = value-apart d sense.Div (between_escapes f m k l z) tt; leads = is.0; tells = (d, is.1); written = (d, refl) }
plain-here (Slash sense.Brace) h d f m k l z =
    let is = read-whole (Code sense.Re) f m k l z (λ after e. e) (code-opens sense.Re) d in
    record { apart = value-apart d sense.Brace (between_escapes f m k l z) tt; leads = is.0; tells = (d, is.1); written = (d, refl) }
plain-here (LineComment s) h d f m k l z = absurd h
plain-here (BlockComment s star) h d f m k l z = absurd h
plain-here (InString q e) h d f m k l z = absurd h
plain-here (InRegexp r e) h d f m k l z = absurd h
plain-here (InTemplate e dollar) h d f m k l z = absurd h
plain-here TooDeep h d f m k l z = absurd h

-- A slash that is held back is told before.
abbrev IsTold : At → Data → Trail → Type 0
IsTold a d t = (read_on (js_value d) (script_reading (script_settled (in_code a t)) [])).told ≡ literal_events d []

told-here : (a : At) → TakesData a → (d : Data) (f : Bool) (m : List ℕ) (k l : ℕ) (z : PartLines) → IsTold a d (between_escapes f m k l z)
told-here (Code s) h d f m k l z = (read-whole (Code s) f m k l z (λ after e. e) (code-opens s) d).1
told-here (Word w) h d f m k l z = (read-whole (Word w) f m k l z (λ after e. e) (word-opens w) d).1
told-here Number h d f m k l z = (read-whole Number f m k l z (λ after e. e) number-opens d).1
told-here (Pluses odd) h d f m k l z = (read-whole (Pluses odd) f m k l z (λ after e. e) (pluses-open odd) d).1
told-here (Minuses odd) h d f m k l z = (read-whole (Minuses odd) f m k l z (λ after e. e) (minuses-open odd) d).1
told-here (Slash sense.Re) h d f m k l z = absurd h
told-here (Slash sense.Div) h d f m k l z = (read-whole (Code sense.Re) f m k l z (λ after e. e) (code-opens sense.Re) d).1
told-here (Slash sense.Brace) h d f m k l z = (read-whole (Code sense.Re) f m k l z (λ after e. e) (code-opens sense.Re) d).1
told-here (LineComment s) h d f m k l z = absurd h
told-here (BlockComment s star) h d f m k l z = absurd h
told-here (InString q e) h d f m k l z = absurd h
told-here (InRegexp r e) h d f m k l z = absurd h
told-here (InTemplate e dollar) h d f m k l z = absurd h
told-here TooDeep h d f m k l z = absurd h

pub data-told : (a : At) (t : Trail) (d : Data) → TakesData a → IsBetweenEscapes t
    → (read_on (js_value d) (script_reading (script_settled (in_code a t)) [])).told ≡ literal_events d []
data-told a t d takes is = between (IsTold a d) (λ f m k l z. told-here a takes d f m k l z) t is

pub data-plain : (a : At) (t : Trail) (d : Data) → TakesData a → IsBetweenEscapes t → IsPlainInScript (js_value d) (in_code a t)
data-plain a t d takes is = between (IsPlainAt a d) (λ f m k l z. plain-here a takes d f m k l z) t is
