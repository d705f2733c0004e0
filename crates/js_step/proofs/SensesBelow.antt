-- Sets of senses that are one in the other, and what does not look at the sense of the state that paths share.
use Rattle.std.proofs.Common.{◌≡◌, ◌∙◌, ℕ, Bool, true, false, ◌||◌, ◌&&◌, List, [], ◌∷◌, Option, if◌then◌else◌, refl, sym, ap, ap₂, subst}
use Rattle.js_lexer.specs.Classes.{class_of}
use Rattle.js_lexer.specs.Feeding.{tells_white_apart, read_at, feed_script}
use Rattle.js_lexer.specs.Refusals.{Cause, first_script_cause, refusal_outside, whole_cut_refusal, unless_in_character, end_refusal_at}
use Rattle.js_lexer.specs.Spots.{Tail}
use Rattle.js_lexer.specs.States.{At, Code, Slash, LineComment, BlockComment, ScriptState}
use Rattle.js_lexer.specs.declared.class.ScriptClass.{ScriptClass}
use Rattle.js_lexer.specs.declared.class.ScriptClass.TheVariants as class
use Rattle.js_lexer.specs.declared.sense.Sense.{Sense}
use Rattle.js_lexer.specs.declared.sense.Sense.TheVariants as sense
use Rattle.place_core.specs.declared.js.Js.{Js}
use Rattle.place_core.specs.declared.senses.Senses.{Senses}
use Rattle.place_core.specs.place.LanguagePlaces.{both_senses, some_sense}
use Rattle.place_core.specs.place.ScriptParts.{script_tails, script_senses}
use Rattle.js_step.specs.ScriptScanOrder.{ScriptScanBelow, GrowsScriptScan}
use Rattle.js_step.specs.ScriptScans.{ScriptScan, script_scan, script_no_senses, script_one_sense, script_at_in, script_in_sense, script_sense_at, script_tail_at, script_star_at, script_sense_next, script_senses_next, script_tails_next, script_scan_next, script_first_goes_on, script_senses_differ, script_two_senses, script_scan_error, script_before_end, script_star_end, script_place_at, script_scan_place, script_slash_error, script_scan_cut_error, script_scan_end_error}
use Rattle.js_step.specs.ScriptSetLaws.{ScriptBelow, script_has_sense}
use Rattle.js_step.proofs.TailsGrowth.{senses-same, split-if}
use Rattle.js_step.proofs.UnitedSenses.{set-of}
use Rattle.js_step.proofs.ValidScripts.{both-some-left}

no : true ≡ false → ⊥
no e = cc

-- sets
or-right : (x : Bool) → (x || false) ≡ x
or-right true = refl
or-right false = refl

pub left-unit : (s : Senses) → both_senses script_no_senses s ≡ s
left-unit s = set-of (both_senses script_no_senses s) s refl refl refl

pub right-unit : (s : Senses) → both_senses s script_no_senses ≡ s
right-unit s = set-of (both_senses s script_no_senses) s (or-right s.re) (or-right s.div) (or-right s.brace)

or-three : (a b c d e f : Bool) → (a || d) ≡ d → (b || e) ≡ e → (c || f) ≡ f → ((a || (b || c)) || (d || (e || f))) ≡ (d || (e || f))
or-three true b c true e f h i j = refl
or-three true b c false e f h i j = absurd (no h)
or-three false true c true true f h i j = refl
or-three false true c false true f h i j = refl
or-three false true c d false f h i j = absurd (no i)
or-three false false true true e f h i j = refl
or-three false false true false true true h i j = refl
or-three false false true false false true h i j = refl
or-three false false true d e false h i j = absurd (no j)
or-three false false false d e f h i j = refl

three-below : (a b c d e f : Senses) → both_senses a d ≡ d → both_senses b e ≡ e → both_senses c f ≡ f
    → both_senses (both_senses a (both_senses b c)) (both_senses d (both_senses e f)) ≡ both_senses d (both_senses e f)
three-below a b c d e f h i j =
    set-of _ _ (or-three a.re b.re c.re d.re e.re f.re (ap (λ (z : Senses). z.re) h) (ap (λ (z : Senses). z.re) i) (ap (λ (z : Senses). z.re) j))
    (or-three a.div b.div c.div d.div e.div f.div (ap (λ (z : Senses). z.div) h) (ap (λ (z : Senses). z.div) i) (ap (λ (z : Senses). z.div) j))
    (or-three a.brace b.brace c.brace d.brace e.brace f.brace (ap (λ (z : Senses). z.brace) h) (ap (λ (z : Senses). z.brace) i) (ap (λ (z : Senses). z.brace) j))

sense-below : (p q : Bool) → (p || q) ≡ q → (r : Sense) (v : ScriptState) (b : ℕ) → both_senses (script_sense_next p r v b) (script_sense_next q r v b) ≡ script_sense_next q r v b
sense-below true true h r v b = senses-same (script_sense_next true r v b)
sense-below true false h r v b = absurd (no h)
sense-below false q h r v b = left-unit (script_sense_next q r v b)

-- fewer senses come to fewer
pub senses-below : (s t : Senses) → both_senses s t ≡ t → (v : ScriptState) (b : ℕ) → both_senses (script_senses_next s v b) (script_senses_next t v b) ≡ script_senses_next t v b
senses-below s t h v b =
    three-below (script_sense_next s.re sense.Re v b) (script_sense_next s.div sense.Div v b) (script_sense_next s.brace sense.Brace v b)
    (script_sense_next t.re sense.Re v b) (script_sense_next t.div sense.Div v b) (script_sense_next t.brace sense.Brace v b)
    (sense-below s.re t.re (ap (λ (z : Senses). z.re) h) sense.Re v b) (sense-below s.div t.div (ap (λ (z : Senses). z.div) h) sense.Div v b)
    (sense-below s.brace t.brace (ap (λ (z : Senses). z.brace) h) sense.Brace v b)

pub some-more : (s t : Senses) → some_sense s ≡ true → both_senses s t ≡ t → some_sense t ≡ true
some-more s t h e = sym (ap some_sense e) ∙ both-some-left s t h

-- senses that all come to one
abbrev pub picked : Bool → Senses → Senses
picked true s = s
picked false s = script_no_senses

united : (p q r : Bool) (s : Senses) → (p || (q || r)) ≡ true → both_senses (picked p s) (both_senses (picked q s) (picked r s)) ≡ s
united true true true s h = ap (both_senses s) (senses-same s) ∙ senses-same s
united true true false s h = ap (both_senses s) (right-unit s) ∙ senses-same s
united true false true s h = ap (both_senses s) (left-unit s) ∙ senses-same s
united true false false s h = right-unit s
united false true true s h = left-unit (both_senses s s) ∙ senses-same s
united false true false s h = left-unit (both_senses s script_no_senses) ∙ right-unit s
united false false true s h = left-unit (both_senses script_no_senses s) ∙ left-unit s
united false false false s h = absurd (no (sym h))

sense-picked : (p : Bool) (r : Sense) (v : ScriptState) (b : ℕ) (s : Senses) → script_senses (script_sense_at (feed_script (script_in_sense r v) b).at) ≡ s
    → script_sense_next p r v b ≡ picked p s
sense-picked true r v b s h = h
sense-picked false r v b s h = refl

pub next-united : (s : Senses) → some_sense s ≡ true → (v : ScriptState) (b : ℕ) (a : At) → ((r : Sense) → (feed_script (script_in_sense r v) b).at ≡ a)
    → script_senses_next s v b ≡ script_senses (script_sense_at a)
next-united s h v b a f =
    let all : Senses = script_senses (script_sense_at a) in
    let one : ((r : Sense) → script_senses (script_sense_at (feed_script (script_in_sense r v) b).at) ≡ all) = λ r. ap (λ (z : At). script_senses (script_sense_at z)) (f r) in
    ap₂ both_senses (sense-picked s.re sense.Re v b all (one sense.Re))
    (ap₂ both_senses (sense-picked s.div sense.Div v b all (one sense.Div)) (sense-picked s.brace sense.Brace v b all (one sense.Brace)))
    ∙ united s.re s.div s.brace all h

-- a sense of a set, and of one that has the set
sense-of : (p q w : Bool) → (p || (q || w)) ≡ true → (r : Sense) × (script_has_sense (record { re = p; div = q; brace = w }) r ≡ true)
sense-of true q w h = (sense.Re, refl)
sense-of false true w h = (sense.Div, refl)
sense-of false false true h = (sense.Brace, refl)
sense-of false false false h = absurd (no (sym h))

pub a-sense : (s : Senses) → some_sense s ≡ true → (r : Sense) × (script_has_sense s r ≡ true)
a-sense s h = sense-of s.re s.div s.brace h

or-has : (p q : Bool) → (p || q) ≡ q → p ≡ true → q ≡ true
or-has true q h e = sym h
or-has false q h e = absurd (no (sym e))

pub has-more : (s t : Senses) → both_senses s t ≡ t → (r : Sense) → script_has_sense s r ≡ true → script_has_sense t r ≡ true
has-more s t h sense.Re e = or-has s.re t.re (ap (λ (z : Senses). z.re) h) e
has-more s t h sense.Div e = or-has s.div t.div (ap (λ (z : Senses). z.div) h) e
has-more s t h sense.Brace e = or-has s.brace t.brace (ap (λ (z : Senses). z.brace) h) e

-- A scan with the shared state in one sense: nothing looks at that sense.
pub in-twice : (r s : Sense) (a : At) → script_at_in r (script_at_in s a) ≡ script_at_in r a
in-twice r s (Code t) = refl
in-twice r s (Slash t) = refl
in-twice r s (LineComment t) = refl
in-twice r s (BlockComment t star) = refl
in-twice r s a = refl

abbrev with_at : ScriptState → At → ScriptState
with_at v a = record { literals = v.literals; at = a; held = v.held; trail = v.trail }

pub sense-twice : (r s : Sense) (v : ScriptState) → script_in_sense r (script_in_sense s v) ≡ script_in_sense r v
sense-twice r s v = ap (with_at v) (in-twice r s v.at)

abbrev pub plain-scan : ScriptScan → ScriptScan
plain-scan n = script_scan n.senses n.before n.star (script_in_sense sense.Re n.state)

two-plain : (k : Bool) (fs : List ℕ) (a : At) (c : ScriptClass) → script_two_senses k fs (script_at_in sense.Re a) c ≡ script_two_senses k fs a c
two-plain true [] (Slash s) class.Solidus = refl
two-plain true [] (Slash s) class.Asterisk = refl
two-plain true [] (Slash s) _ = refl
two-plain true [] a c = refl
two-plain true (n ∷ fs) a c = refl
two-plain false fs a c = refl

slash-plain : (k : Bool) (fs : List ℕ) (a : At) → script_slash_error k fs (script_at_in sense.Re a) ≡ script_slash_error k fs a
slash-plain true [] (Slash s) = refl
slash-plain true [] a = refl
slash-plain true (n ∷ fs) a = refl
slash-plain false fs a = refl

abbrev error-of : Bool → ScriptScan → ScriptClass → ℕ → ScriptState → Option Cause → Option Cause
error-of element n c b v o =
    first_script_cause (split-if (n.state.trail.fresh && script_first_goes_on n.before n.star (read_at (tells_white_apart v.at) n.state.held c b)) n.state.held)
    (first_script_cause o (refusal_outside n.state.literals element v c b))

pub error-plain : (element : Bool) (n : ScriptScan) (b : ℕ) → script_scan_error element (plain-scan n) b ≡ script_scan_error element n b
error-plain element n b =
    ap₂ (λ (v : ScriptState) (o : Option Cause). error-of element n (class_of b) b v o) (sense-twice (script_one_sense n.senses) sense.Re n.state)
    (two-plain (script_senses_differ n.senses) n.state.literals n.state.at (class_of b))

sense-next-plain : (p : Bool) (r : Sense) (v : ScriptState) (b : ℕ) → script_sense_next p r (script_in_sense sense.Re v) b ≡ script_sense_next p r v b
sense-next-plain true r v b = ap (λ (w : ScriptState). script_senses (script_sense_at (feed_script w b).at)) (sense-twice r sense.Re v)
sense-next-plain false r v b = refl

pub senses-plain : (s : Senses) (v : ScriptState) (b : ℕ) → script_senses_next s (script_in_sense sense.Re v) b ≡ script_senses_next s v b
senses-plain s v b =
    ap₂ both_senses (sense-next-plain s.re sense.Re v b) (ap₂ both_senses (sense-next-plain s.div sense.Div v b) (sense-next-plain s.brace sense.Brace v b))

abbrev next-of : ScriptScan → ℕ → Senses → ScriptState → ScriptScan
next-of n b s w = script_scan s (script_tails_next (feed_script w b).trail.fresh n.before) ((feed_script w b).trail.fresh && n.star) (feed_script w b)

pub next-plain : (n : ScriptScan) (b : ℕ) → script_scan_next (plain-scan n) b ≡ script_scan_next n b
next-plain n b = ap₂ (λ (s : Senses) (w : ScriptState). next-of n b s w) (senses-plain n.senses n.state b) (sense-twice (script_one_sense n.senses) sense.Re n.state)

pub cut-plain : (n : ScriptScan) → script_scan_cut_error (plain-scan n) ≡ script_scan_cut_error n
cut-plain n =
    ap₂ (λ (o : Option Cause) (a : At). unless_in_character n.state.held (first_script_cause o (whole_cut_refusal n.state.literals a n.state.trail)))
    (slash-plain (script_senses_differ n.senses) n.state.literals n.state.at) (in-twice (script_one_sense n.senses) sense.Re n.state.at)

pub end-plain : (n : ScriptScan) → script_scan_end_error (plain-scan n) ≡ script_scan_end_error n
end-plain n =
    ap₂ (λ (o : Option Cause) (a : At). first_script_cause o (end_refusal_at n.state.literals a n.state.trail))
    (slash-plain (script_senses_differ n.senses) n.state.literals n.state.at) (in-twice (script_one_sense n.senses) sense.Re n.state.at)

place-in : (n : ScriptScan) (k : Bool) (a : At) → script_place_at n.senses (script_before_end n) k (script_at_in sense.Re a) ≡ script_place_at n.senses (script_before_end n) k a
place-in n k (Code s) = refl
place-in n k (Slash s) = refl
place-in n k (LineComment s) = refl
place-in n k (BlockComment s star) = refl
place-in n k a = refl

tail-in : (a : At) (m : List ℕ) → script_tail_at (script_at_in sense.Re a) m ≡ script_tail_at a m
tail-in (Code s) m = refl
tail-in (Slash s) m = refl
tail-in (LineComment s) m = refl
tail-in (BlockComment s star) m = refl
tail-in a m = refl

star-in : (a : At) → script_star_at (script_at_in sense.Re a) ≡ script_star_at a
star-in (Code s) = refl
star-in (Slash s) = refl
star-in (LineComment s) = refl
star-in (BlockComment s star) = refl
star-in a = refl

pub place-plain : (n : ScriptScan) → script_scan_place (plain-scan n) ≡ script_scan_place n
place-plain n =
    let fresh : Bool = n.state.trail.fresh in
    ap₂ (λ (t : Tail) (k : Bool). script_place_at n.senses (if fresh then n.before else script_tails t) (if fresh then n.star else k) (script_at_in sense.Re n.state.at))
    (tail-in n.state.at n.state.trail.markup) (star-in n.state.at)
    ∙ place-in n (script_star_end n) n.state.at

pub from-plain : (n m : ScriptScan) → GrowsScriptScan (plain-scan n) (plain-scan m) → GrowsScriptScan n m
from-plain n m g = record {
  error = λ element b e. sym (error-plain element n b) ∙ g.error element b (error-plain element m b ∙ e);
  next = λ element b e. subst (λ (z : ScriptScan). ScriptScanBelow z (script_scan_next m b)) (next-plain n b)
      (subst (λ (z : ScriptScan). ScriptScanBelow (script_scan_next (plain-scan n) b) z) (next-plain m b) (g.next element b (error-plain element m b ∙ e)));
  cut_error = λ e. sym (cut-plain n) ∙ g.cut_error (cut-plain m ∙ e);
  end_error = λ e. sym (end-plain n) ∙ g.end_error (end-plain m ∙ e);
  place = λ e. subst (λ (z : Js). ScriptBelow z (script_scan_place m)) (place-plain n)
      (subst (λ (z : Js). ScriptBelow (script_scan_place (plain-scan n)) z) (place-plain m) (g.place (cut-plain m ∙ e)));
}
