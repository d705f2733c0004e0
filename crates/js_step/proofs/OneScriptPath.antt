-- From the place of one path, the step is the path's own.
use Rattle.std.proofs.Common.{◌≡◌, ◌∙◌, ℕ, Bool, true, false, ◌&&◌, List, [], ◌∷◌, Option, Some, None, if◌then◌else◌, refl, sym, ap}
use Rattle.js_lexer.specs.Classes.{class_of}
use Rattle.js_lexer.specs.Feeding.{feed_script}
use Rattle.js_lexer.specs.Holes.{script_after_cut, script_after_hole}
use Rattle.js_lexer.specs.Refusals.{Cause, first_script_cause, refusal_outside, split_refusal, whole_cut_refusal, unless_in_character, script_refuses, refuses_end}
use Rattle.js_lexer.specs.Spots.{Spot, unless_within, spot_at, script_spot}
use Rattle.js_lexer.specs.States.{At, Code, Word, Number, Pluses, Minuses, Slash, LineComment, BlockComment, InString, InRegexp, InTemplate, TooDeep, Trail, ScriptState}
use Rattle.js_lexer.specs.Trails.{is_empty}
use Rattle.js_lexer.specs.declared.class.ScriptClass.{ScriptClass}
use Rattle.js_lexer.specs.declared.sense.Sense.{Sense}
use Rattle.js_lexer.specs.declared.sense.Sense.TheVariants as sense
use Rattle.place_core.specs.declared.js.Js.{Js}
use Rattle.place_core.specs.declared.js_tails.JsTails.{JsTails}
use Rattle.place_core.specs.declared.senses.Senses.{Senses}
use Rattle.place_core.specs.place.LanguagePlaces.{both_senses}
use Rattle.js_step.specs.ScriptScans.{ScriptScan, script_scan, script_begun, script_no_senses, script_one_sense, script_at_in, script_in_sense, script_shared, script_sense_at, script_tail_at, script_star_at, script_senses_next, script_tails_next, script_scan_next, script_tails_error, script_senses_differ, script_two_senses, script_slash_error, script_scan_start, script_scan_error, script_place_at, script_scan_place, script_at_hole}
use Rattle.js_step.specs.ScriptScanLaws.{script_alone, script_begun_at, script_alone_before, OneScript, IsExactOnOneScript}
use Rattle.place_core.specs.place.ScriptParts.{script_tails, script_no_tails, script_senses, script_place}

pub given : {A : Type 0} (a : A) → Some a ≡ None → ⊥
given a e = cc

pub none-given : {A : Type 0} (a : A) → None ≡ Some a → ⊥
none-given a e = cc

pub some-same : {A : Type 0} (x y : A) → Some x ≡ Some y → x ≡ y
some-same x y e = cc

-- one sense
one : (s : Sense) → script_one_sense (script_senses s) ≡ s
one sense.Re = refl
one sense.Div = refl
one sense.Brace = refl

pub alone-differ : (s : Sense) → script_senses_differ (script_senses s) ≡ false
alone-differ sense.Re = refl
alone-differ sense.Div = refl
alone-differ sense.Brace = refl

own-at : (a : At) → script_at_in (script_sense_at a) a ≡ a
own-at (Code s) = refl
own-at (Word w) = refl
own-at Number = refl
own-at (Pluses odd) = refl
own-at (Minuses odd) = refl
own-at (Slash s) = refl
own-at (LineComment s) = refl
own-at (BlockComment s star) = refl
own-at (InString q e) = refl
own-at (InRegexp k e) = refl
own-at (InTemplate e d) = refl
own-at TooDeep = refl

pub own-sense : (v : ScriptState) → script_in_sense (script_sense_at v.at) v ≡ v
own-sense v = ap (λ (a : At). record { literals = v.literals; at = a; held = v.held; trail = v.trail }) (own-at v.at)

pub own : (v : ScriptState) → script_shared (script_alone v) ≡ v
own v = ap (λ (s : Sense). script_in_sense s v) (one (script_sense_at v.at)) ∙ own-sense v

alone-first : (s : Sense) → both_senses (script_senses s) (both_senses script_no_senses script_no_senses) ≡ script_senses s
alone-first sense.Re = refl
alone-first sense.Div = refl
alone-first sense.Brace = refl

alone-second : (s : Sense) → both_senses script_no_senses (both_senses (script_senses s) script_no_senses) ≡ script_senses s
alone-second sense.Re = refl
alone-second sense.Div = refl
alone-second sense.Brace = refl

pub senses-alone : (s : Sense) (v : ScriptState) (b : ℕ) → script_senses_next (script_senses s) v b ≡ script_senses (script_sense_at (feed_script (script_in_sense s v) b).at)
senses-alone sense.Re v b = alone-first (script_sense_at (feed_script (script_in_sense sense.Re v) b).at)
senses-alone sense.Div v b = alone-second (script_sense_at (feed_script (script_in_sense sense.Div v) b).at)
senses-alone sense.Brace v b = refl

-- a byte
abbrev moved : Senses → ScriptState → ScriptScan
moved s w = script_scan s (script_tails_next w.trail.fresh script_no_tails) (w.trail.fresh && false) w

none-kept : (fresh : Bool) (s : Senses) (w : ScriptState) → script_scan s (script_tails_next fresh script_no_tails) (fresh && false) w ≡ script_scan s script_no_tails false w
none-kept true s w = refl
none-kept false s w = refl

alone-next : (v : ScriptState) (b : ℕ) → script_scan_next (script_alone v) b ≡ script_alone (feed_script v b)
alone-next v b =
    ap (λ (s : Senses). moved s (feed_script (script_shared (script_alone v)) b)) (senses-alone (script_sense_at v.at) v b)
    ∙ (ap (λ (w : ScriptState). moved (script_senses (script_sense_at (feed_script w b).at)) (feed_script (script_shared (script_alone v)) b)) (own-sense v)
    ∙ (ap (λ (w : ScriptState). moved (script_senses (script_sense_at (feed_script v b).at)) (feed_script w b)) (own v)
    ∙ none-kept (feed_script v b).trail.fresh (script_senses (script_sense_at (feed_script v b).at)) (feed_script v b)))

within-text : (v : ScriptState) (b : ℕ) → v.trail.fresh ≡ false → (feed_script v b).trail.fresh ≡ false
within-text v b h = rw h refl

-- what is refused
tails-error : (v : ScriptState) (c : ScriptClass) (b : ℕ) → v.trail.fresh ≡ false → script_tails_error (script_alone v) c b ≡ None
tails-error v c b h = rw h refl

split-error : (v : ScriptState) (c : ScriptClass) (b : ℕ) → v.trail.fresh ≡ false → split_refusal v c b ≡ None
split-error v c b h = rw h refl

pub two-senses : (k : Bool) (fs : List ℕ) (a : At) (c : ScriptClass) → k ≡ false → script_two_senses k fs a c ≡ None
two-senses true fs a c h = cc
two-senses false fs a c h = refl

pub slash-error : (k : Bool) (fs : List ℕ) (a : At) → k ≡ false → script_slash_error k fs a ≡ None
slash-error true fs a h = cc
slash-error false fs a h = refl

alone-error : (element : Bool) (v : ScriptState) (b : ℕ) → v.trail.fresh ≡ false → script_scan_error element (script_alone v) b ≡ script_refuses element v b
alone-error element v b h =
    ap (λ (o : Option Cause). first_script_cause o (first_script_cause (script_two_senses (script_senses_differ (script_senses (script_sense_at v.at))) v.literals v.at (class_of b))
    (refusal_outside v.literals element (script_shared (script_alone v)) (class_of b) b))) (tails-error v (class_of b) b h)
    ∙ (ap (λ (o : Option Cause). first_script_cause o (refusal_outside v.literals element (script_shared (script_alone v)) (class_of b) b))
    (two-senses _ v.literals v.at (class_of b) (alone-differ (script_sense_at v.at)))
    ∙ (ap (λ (w : ScriptState). refusal_outside v.literals element w (class_of b) b) (own v)
    ∙ sym (ap (λ (o : Option Cause). first_script_cause o (refusal_outside v.literals element v (class_of b) b)) (split-error v (class_of b) b h))))

abbrev pub cut-of : ScriptState → Option Cause
cut-of v = whole_cut_refusal v.literals v.at v.trail

alone-cut-error : (v : ScriptState) → first_script_cause (script_slash_error (script_senses_differ (script_senses (script_sense_at v.at))) v.literals v.at) (cut-of (script_shared (script_alone v))) ≡ cut-of v
alone-cut-error v =
    ap (λ (o : Option Cause). first_script_cause o (cut-of (script_shared (script_alone v)))) (slash-error _ v.literals v.at (alone-differ (script_sense_at v.at)))
    ∙ ap cut-of (own v)

alone-end-error : (v : ScriptState) → first_script_cause (script_slash_error (script_senses_differ (script_senses (script_sense_at v.at))) v.literals v.at) (refuses_end (script_shared (script_alone v))) ≡ refuses_end v
alone-end-error v =
    ap (λ (o : Option Cause). first_script_cause o (refuses_end (script_shared (script_alone v)))) (slash-error _ v.literals v.at (alone-differ (script_sense_at v.at)))
    ∙ ap refuses_end (own v)

-- the place of a path, by where it ends
abbrev pub own-place : At → Trail → Js
own-place a t = script_place_at (script_senses (script_sense_at a)) (script_tails (script_tail_at a t.markup)) (script_star_at a) a

within-spot : (k : Bool) (x p : Spot) → unless_within k x ≡ Some p → x ≡ p
within-spot true x p h = absurd (none-given p h)
within-spot false x p h = some-same x p h

shown : (x p : Spot) (c : Js) → x ≡ p → script_place x ≡ c → script_place p ≡ c
shown x p c h e = sym (ap script_place h) ∙ e

pub place-at : (a : At) (t : Trail) (p : Spot) → spot_at a t ≡ Some p → script_place p ≡ own-place a t
place-at (Code s) t p h = shown _ p _ (within-spot _ _ p h) refl
place-at (Word w) t p h = shown _ p _ (some-same _ p h) refl
place-at Number t p h = shown _ p _ (some-same _ p h) refl
place-at (Pluses odd) t p h = shown _ p _ (some-same _ p h) refl
place-at (Minuses odd) t p h = shown _ p _ (within-spot _ _ p h) refl
place-at (Slash sense.Re) t p h = shown _ p _ (within-spot _ _ p h) refl
place-at (Slash sense.Div) t p h = shown _ p _ (some-same _ p h) refl
place-at (Slash sense.Brace) t p h = absurd (none-given p h)
place-at (LineComment s) t p h = shown _ p _ (some-same _ p h) refl
place-at (BlockComment s star) t p h = shown _ p _ (some-same _ p h) refl
place-at (InString q e) t p h = shown _ p _ (within-spot _ _ p h) refl
place-at (InRegexp true e) t p h = absurd (none-given p h)
place-at (InRegexp false e) t p h = shown _ p _ (within-spot _ _ p h) refl
place-at (InTemplate e d) t p h = absurd (none-given p h)
place-at TooDeep t p h = absurd (none-given p h)

abbrev own-begun : At → Trail → ScriptScan
own-begun a t = script_begun (script_senses (script_sense_at (script_begun_at a))) (script_tails (script_tail_at a t.markup)) (script_star_at a) (script_begun_at a) []

begun-code : (s : Sense) (x : JsTails) → script_begun (script_senses s) x false (Code s) [] ≡ script_begun (script_senses s) x false (Code (script_one_sense (script_senses s))) []
begun-code s x = ap (λ (z : Sense). script_begun (script_senses s) x false (Code z) []) (sym (one s))

pub start-at : (a : At) (t : Trail) (p : Spot) → spot_at a t ≡ Some p → own-begun a t ≡ script_scan_start (own-place a t)
start-at (Code s) t p h = begun-code s _
start-at (Word w) t p h = begun-code _ _
start-at Number t p h = refl
start-at (Pluses odd) t p h = begun-code _ _
start-at (Minuses odd) t p h = begun-code _ _
start-at (Slash sense.Re) t p h = refl
start-at (Slash sense.Div) t p h = refl
start-at (Slash sense.Brace) t p h = absurd (none-given p h)
start-at (LineComment s) t p h = ap (λ (z : Sense). script_begun (script_senses s) script_no_tails false (LineComment z) []) (sym (one s))
start-at (BlockComment s star) t p h = ap (λ (z : Sense). script_begun (script_senses s) script_no_tails star (BlockComment z false) []) (sym (one s))
start-at (InString true e) t p h = refl
start-at (InString false e) t p h = refl
start-at (InRegexp true e) t p h = absurd (none-given p h)
start-at (InRegexp false e) t p h = refl
start-at (InTemplate e d) t p h = absurd (none-given p h)
start-at TooDeep t p h = absurd (none-given p h)

-- and behind a hole
abbrev held-none : List ℕ → At → Trail → ScriptState
held-none fs a t = record { literals = fs; at = a; held = []; trail = t }

pub hole-at : (fs : List ℕ) (a : At) (t : Trail) (p : Spot) → spot_at a t ≡ Some p → script_alone_before (script_after_hole (held-none fs a t)) ≡ script_scan_start (script_at_hole (own-place a t))
hole-at fs (Code s) t p h = refl
hole-at fs (Word w) t p h = refl
hole-at fs Number t p h = refl
hole-at fs (Pluses odd) t p h = refl
hole-at fs (Minuses odd) t p h = refl
hole-at fs (Slash sense.Re) t p h = refl
hole-at fs (Slash sense.Div) t p h = refl
hole-at fs (Slash sense.Brace) t p h = absurd (none-given p h)
hole-at fs (LineComment s) t p h = ap (λ (z : Sense). script_begun (script_senses s) script_no_tails false (LineComment z) []) (sym (one s))
hole-at fs (BlockComment s star) t p h = ap (λ (z : Sense). script_begun (script_senses s) script_no_tails star (BlockComment z false) []) (sym (one s))
hole-at fs (InString true e) t p h = refl
hole-at fs (InString false e) t p h = refl
hole-at fs (InRegexp true e) t p h = absurd (none-given p h)
hole-at fs (InRegexp false e) t p h = refl
hole-at fs (InTemplate e d) t p h = absurd (none-given p h)
hole-at fs TooDeep t p h = absurd (none-given p h)

-- where a path has a place nothing is held back
spot-given : (x y : Bool) (o : Option Spot) (p : Spot) → (if x && y then o else None) ≡ Some p → o ≡ Some p
spot-given true true o p h = h
spot-given true false o p h = absurd (none-given p h)
spot-given false y o p h = absurd (none-given p h)

held-empty : (x : Bool) (held : List ℕ) (o : Option Spot) (p : Spot) → (if x && is_empty held then o else None) ≡ Some p → held ≡ []
held-empty true [] o p h = refl
held-empty false [] o p h = refl
held-empty true (b ∷ bs) o p h = absurd (none-given p h)
held-empty false (b ∷ bs) o p h = absurd (none-given p h)

pub own-spot : (v : ScriptState) (p : Spot) → script_spot v ≡ Some p → spot_at v.at v.trail ≡ Some p
own-spot v p h = spot-given (is_empty v.literals) (is_empty v.held) (spot_at v.at v.trail) p h

pub own-held : (v : ScriptState) (p : Spot) → script_spot v ≡ Some p → v.held ≡ []
own-held v p h = held-empty (is_empty v.literals) v.held (spot_at v.at v.trail) p h

placed : (v : ScriptState) → v.trail.fresh ≡ false → script_scan_place (script_alone v) ≡ own-place v.at v.trail
placed v f = rw f refl

abbrev holding : ScriptState → List ℕ → ScriptState
holding v h = record { literals = v.literals; at = v.at; held = h; trail = v.trail }

alone-after-cut : (v : ScriptState) (p : Spot) → v.trail.fresh ≡ false → script_spot v ≡ Some p → script_alone_before (script_after_cut v) ≡ script_scan_start (script_scan_place (script_alone v))
alone-after-cut v p f h =
    ap (λ (z : List ℕ). script_alone_before (script_after_cut (holding v z))) (own-held v p h)
    ∙ (start-at v.at v.trail p (own-spot v p h) ∙ ap script_scan_start (sym (placed v f)))

alone-after-hole : (v : ScriptState) (p : Spot) → v.trail.fresh ≡ false → script_spot v ≡ Some p
    → script_alone_before (script_after_hole v) ≡ script_scan_start (script_at_hole (script_scan_place (script_alone v)))
alone-after-hole v p f h =
    ap (λ (z : List ℕ). script_alone_before (script_after_hole (holding v z))) (own-held v p h)
    ∙ (hole-at v.literals v.at v.trail p (own-spot v p h) ∙ ap (λ (c : Js). script_scan_start (script_at_hole c)) (sym (placed v f)))

one-script : (v : ScriptState) → v.trail.fresh ≡ false → OneScript v
one-script v f = record {
  error = λ element b. alone-error element v b f;
  next = λ b. alone-next v b;
  within = λ b. within-text v b f;
  cut_error = ap (unless_in_character v.held) (alone-cut-error v);
  end_error = alone-end-error v;
  place = λ p h. place-at v.at v.trail p (own-spot v p h) ∙ sym (placed v f);
  after_cut = λ p h. alone-after-cut v p f h;
  after_hole = λ p h. alone-after-hole v p f h;
}

pub exact-on-one-script : IsExactOnOneScript
exact-on-one-script = record { begins = refl; goes_on = one-script }
