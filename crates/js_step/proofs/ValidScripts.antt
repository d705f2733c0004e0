-- Places stay valid, and a text of no bytes keeps them.
use Rattle.std.proofs.Common.{◌≡◌, ℕ, Bool, true, false, ◌||◌, [], Option, Some, None, refl}
use Rattle.js_lexer.specs.Feeding.{feed_script}
use Rattle.js_lexer.specs.Refusals.{Cause, first_script_cause, cut_refusal_at}
use Rattle.js_lexer.specs.States.{At, Code, Word, Number, Pluses, Minuses, Slash, LineComment, BlockComment, InString, InRegexp, InTemplate, TooDeep, ScriptState}
use Rattle.js_lexer.specs.declared.sense.Sense.{Sense}
use Rattle.js_lexer.specs.declared.sense.Sense.TheVariants as sense
use Rattle.place_core.specs.declared.js.Js.{Js}
use Rattle.place_core.specs.declared.js.Js.TheVariants as js
use Rattle.place_core.specs.declared.js_tails.JsTails.{JsTails}
use Rattle.place_core.specs.declared.senses.Senses.{Senses}
use Rattle.place_core.specs.place.LanguagePlaces.{IsValidJs, some_sense, both_senses}
use Rattle.js_step.specs.ScriptScans.{script_no_senses, script_in_sense, script_sense_at, script_sense_next, script_slash_place, script_place_at, script_scan_start, script_before_end, script_star_end, script_at_hole, script_one_sense, script_begun_trail, script_senses_differ, script_slash_error}
use Rattle.js_step.specs.ScriptSetLaws.{KeepsScript, EmptyTextsKeepScripts}
use Rattle.js_step.specs.ScriptValidity.{IsScriptScan, ScriptsStayValid}
use Rattle.place_core.specs.place.ScriptParts.{script_senses, script_quote_place}

start-valid : (c : Js) → IsValidJs c → IsScriptScan (script_scan_start c)
start-valid (js.Code s x) h = h
start-valid js.Dq h = refl
start-valid js.Sq h = refl
start-valid (js.Regexp slash) h = refl
start-valid (js.Line s) h = h
start-valid (js.Block s star) h = h

one-some : (s : Sense) → some_sense (script_senses s) ≡ true
one-some sense.Re = refl
one-some sense.Div = refl
one-some sense.Brace = refl

or-first : (x y : Bool) → x ≡ true → (x || y) ≡ true
or-first true y h = refl
or-first false y h = cc

or-second : (x y : Bool) → y ≡ true → (x || y) ≡ true
or-second true y h = refl
or-second false y h = h

grouped : (a b c d e f : Bool) → ((a || d) || ((b || e) || (c || f))) ≡ ((a || (b || c)) || (d || (e || f)))
grouped true b c d e f = refl
grouped false true c true e f = refl
grouped false true c false e f = refl
grouped false false true true e f = refl
grouped false false true false true f = refl
grouped false false true false false f = refl
grouped false false false d e f = refl

pub both-some-left : (s t : Senses) → some_sense s ≡ true → some_sense (both_senses s t) ≡ true
both-some-left s t h = rw (grouped s.re s.div s.brace t.re t.div t.brace) (or-first (some_sense s) (some_sense t) h)

both-some-right : (s t : Senses) → some_sense t ≡ true → some_sense (both_senses s t) ≡ true
both-some-right s t h = rw (grouped s.re s.div s.brace t.re t.div t.brace) (or-second (some_sense s) (some_sense t) h)

abbrev re-next : ScriptState → ℕ → Senses
re-next v b = script_senses (script_sense_at (feed_script (script_in_sense sense.Re v) b).at)

abbrev div-next : ScriptState → ℕ → Senses
div-next v b = script_senses (script_sense_at (feed_script (script_in_sense sense.Div v) b).at)

abbrev brace-next : Bool → ScriptState → ℕ → Senses
brace-next k v b = script_sense_next k sense.Brace v b

next-some : (re div brace : Bool) (v : ScriptState) (b : ℕ) → (re || (div || brace)) ≡ true
    → some_sense (both_senses (script_sense_next re sense.Re v b) (both_senses (script_sense_next div sense.Div v b) (script_sense_next brace sense.Brace v b))) ≡ true
next-some true div brace v b h =
    both-some-left (re-next v b) (both_senses (script_sense_next div sense.Div v b) (brace-next brace v b)) (one-some (script_sense_at (feed_script (script_in_sense sense.Re v) b).at))
next-some false true brace v b h =
    both-some-right script_no_senses (both_senses (div-next v b) (brace-next brace v b))
    (both-some-left (div-next v b) (brace-next brace v b) (one-some (script_sense_at (feed_script (script_in_sense sense.Div v) b).at)))
next-some false false true v b h =
    both-some-right script_no_senses (both_senses script_no_senses (brace-next true v b))
    (both-some-right script_no_senses (brace-next true v b) (one-some (script_sense_at (feed_script (script_in_sense sense.Brace v) b).at)))
next-some false false false v b h = cc

slash-valid : (re : Bool) (x : JsTails) → IsValidJs (script_slash_place re x)
slash-valid true x = tt
slash-valid false x = refl

quote-valid : (q : Bool) → IsValidJs (script_quote_place q)
quote-valid true = tt
quote-valid false = tt

pub place-valid : (s : Senses) (x : JsTails) (star : Bool) (a : At) → some_sense s ≡ true → IsValidJs (script_place_at s x star a)
place-valid s x star (Code t) h = h
place-valid s x star (Word w) h = h
place-valid s x star Number h = h
place-valid s x star (Pluses odd) h = h
place-valid s x star (Minuses odd) h = h
place-valid s x star (Slash t) h = slash-valid s.re x
place-valid s x star (LineComment t) h = h
place-valid s x star (BlockComment t z) h = h
place-valid s x star (InString q e) h = quote-valid q
place-valid s x star (InRegexp k e) h = tt
place-valid s x star (InTemplate e d) h = h
place-valid s x star TooDeep h = h

hole-valid : (c : Js) → IsValidJs c → IsValidJs (script_at_hole c)
hole-valid (js.Code s x) h = refl
hole-valid js.Dq h = tt
hole-valid js.Sq h = tt
hole-valid (js.Regexp slash) h = tt
hole-valid (js.Line s) h = h
hole-valid (js.Block s star) h = h

pub scripts-stay-valid : ScriptsStayValid
scripts-stay-valid = record {
  start = start-valid;
  next = λ n b h. next-some n.senses.re n.senses.div n.senses.brace n.state b h;
  place = λ n h. place-valid n.senses (script_before_end n) (script_star_end n) n.state.at h;
  at_hole = hole-valid;
}

-- a text of no bytes
cut-kept : (differ : Bool) (s : Sense) → first_script_cause (script_slash_error differ [] (Code s)) (cut_refusal_at (Code s) script_begun_trail) ≡ None
cut-kept true s = refl
cut-kept false s = refl

code-slash : (differ : Bool) (s : Sense) → script_slash_error differ [] (Code s) ≡ None
code-slash true s = refl
code-slash false s = refl

line-slash : (differ : Bool) (s : Sense) → script_slash_error differ [] (LineComment s) ≡ None
line-slash true s = refl
line-slash false s = refl

block-slash : (differ : Bool) (s : Sense) → script_slash_error differ [] (BlockComment s false) ≡ None
block-slash true s = refl
block-slash false s = refl

behind-none : (o e : Option Cause) → o ≡ None → e ≡ None → first_script_cause o e ≡ None
behind-none None e f g = g
behind-none (Some x) e f g = cc

regexp-kept : (slash : Bool) → KeepsScript (js.Regexp slash)
regexp-kept true = record { place = refl; cut_error = refl; end_error = refl }
regexp-kept false = record { place = refl; cut_error = refl; end_error = refl }

pub empty-texts-keep-scripts : EmptyTextsKeepScripts
empty-texts-keep-scripts (js.Code s x) = record {
  place = refl;
  cut_error = cut-kept (script_senses_differ s) (script_one_sense s);
  end_error = behind-none _ _ (code-slash (script_senses_differ s) (script_one_sense s)) refl;
}
empty-texts-keep-scripts js.Dq = record { place = refl; cut_error = refl; end_error = refl }
empty-texts-keep-scripts js.Sq = record { place = refl; cut_error = refl; end_error = refl }
empty-texts-keep-scripts (js.Regexp slash) = regexp-kept slash
empty-texts-keep-scripts (js.Line s) = record {
  place = refl;
  cut_error = behind-none _ _ (line-slash (script_senses_differ s) (script_one_sense s)) refl;
  end_error = behind-none _ _ (line-slash (script_senses_differ s) (script_one_sense s)) refl;
}
empty-texts-keep-scripts (js.Block s star) = record {
  place = refl;
  cut_error = behind-none _ _ (block-slash (script_senses_differ s) (script_one_sense s)) refl;
  end_error = behind-none _ _ (block-slash (script_senses_differ s) (script_one_sense s)) refl;
}
