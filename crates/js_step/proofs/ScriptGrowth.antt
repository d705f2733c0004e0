-- Below a place at which paths differ in more, in what a slash would be and in what they have ended in before the text.
use Rattle.std.proofs.Common.{◌≡◌, ◌∙◌, ◌⊎◌, inl, inr, ℕ, Bool, true, false, ◌||◌, ◌&&◌, List, [], Option, Some, None, refl, sym, ap, ap₂, subst}
use Rattle.js_lexer.specs.Feeding.{tells_white_apart, held_at, feed_script}
use Rattle.js_lexer.specs.Refusals.{Cause, first_script_cause, whole_cut_refusal, unless_in_character, end_refusal_at}
use Rattle.js_lexer.specs.States.{At, Code, Slash, LineComment, BlockComment, Trail, ScriptPoint, ScriptState}
use Rattle.js_lexer.specs.declared.class.ScriptClass.{ScriptClass}
use Rattle.js_lexer.specs.declared.class.ScriptClass.TheVariants as class
use Rattle.js_lexer.specs.declared.sense.Sense.{Sense}
use Rattle.js_lexer.specs.declared.sense.Sense.TheVariants as sense
use Rattle.place_core.specs.declared.js.Js.{Js}
use Rattle.place_core.specs.declared.js.Js.TheVariants as js
use Rattle.place_core.specs.declared.js_tails.JsTails.{JsTails}
use Rattle.place_core.specs.declared.senses.Senses.{Senses}
use Rattle.place_core.specs.place.LanguagePlaces.{IsValidJs, both_js_tails, both_senses, some_sense}
use Rattle.place_core.specs.place.ScriptParts.{script_tails, script_senses}
use Rattle.js_step.specs.ScriptScanOrder.{MayDifferInSense, differ_within, differ_behind_slash, ScriptScanBelow, GrowsScriptScan, ScriptsGrow}
use Rattle.js_step.specs.ScriptScans.{ScriptScan, script_scan, script_one_sense, script_at_in, script_in_sense, script_tail_at, script_slash_tail, script_tails_next, script_scan_next, script_senses_differ, script_slash_error, script_scan_place, script_scan_start}
use Rattle.js_step.specs.ScriptSetLaws.{ScriptBelow, ScriptTailsBelow, tails_below, GrowsScriptTails, KeepsSense, keeps_code, keeps_line, keeps_block, StepsSense, script_of_sense}
use Rattle.js_step.specs.ScriptValidity.{IsScriptScan}
use Rattle.js_step.proofs.OneScriptPath.{given}
use Rattle.js_step.proofs.SensePoints.{SenseLeads, leads_within, leads_behind_slash, leads_alike, sense-point, sense-leads}
use Rattle.js_step.proofs.SensesBelow.{senses-below, some-more, next-united, a-sense, has-more, plain-scan, from-plain}
use Rattle.js_step.proofs.SlashComments.{slash-state, slash-error, comment-error, solidus-error, asterisk-error, comment-at, comment-by, comment-plain, comment-leads-at, comment-outside, IsUnclear, unclear-byte, unclear-cut, unclear-end, same-or-unclear}
use Rattle.js_step.proofs.TailsGrowth.{senses-same, tails-by, or-same, goes-grows, error-grows, next-tails, next-star, end-tails, end-star, tails-grow, hole-below}
use Rattle.js_step.proofs.UnitedSenses.{script-senses-unite}
use Rattle.js_step.proofs.ValidScripts.{scripts-stay-valid}

no : true ≡ false → ⊥
no e = cc

-- a state outside of literals, by its parts
abbrev pub state-of : List ℕ → At → List ℕ → Trail → ScriptState
state-of fs a h u = record { literals = fs; at = a; held = h; trail = u }

-- with the same senses
from-tails : (n m : ScriptScan) → IsScriptScan n → ScriptTailsBelow n m → ScriptScanBelow n m
from-tails _ _ i (tails_below s x y k l v h e) = record { some = i; senses = senses-same s; before = h; star = e; state = refl; apart = inl refl }

same-senses : (s : Senses) (x y : JsTails) (k l : Bool) (v : ScriptState) → some_sense s ≡ true → both_js_tails x y ≡ y → (k || l) ≡ l
    → GrowsScriptScan (script_scan s x k v) (script_scan s y l v)
same-senses s x y k l v i h e =
    let g : GrowsScriptTails (script_scan s x k v) (script_scan s y l v) = tails-grow (script_scan s x k v) (script_scan s y l v) (tails_below s x y k l v h e) in
    record {
      error = λ element b n. g.error element b n;
      next = λ element b n. from-tails _ _ (scripts-stay-valid.next (script_scan s x k v) b i) (g.next b);
      cut_error = λ n. g.cut_error ∙ n;
      end_error = λ n. g.end_error ∙ n;
      place = λ n. g.place;
    }

-- Behind a byte one is below where the shared states are the same, and the senses are or may differ.
abbrev ApartBehind : Senses → ScriptScan → ScriptScan → ℕ → Type 0
ApartBehind s n m b =
    ((script_scan_next n b).senses ≡ (script_scan_next m b).senses)
    ⊎ (((script_scan_next m b).state.literals ≡ []) × MayDifferInSense (script_scan_next m b).state.at (script_scan_next m b).state.held)

below-behind : (s t : Senses) (x y : JsTails) (k l : Bool) (v : ScriptState) (b : ℕ) → some_sense s ≡ true → both_senses s t ≡ t → both_js_tails x y ≡ y → (k || l) ≡ l
    → script_in_sense sense.Re (script_scan_next (script_scan s x k v) b).state ≡ script_in_sense sense.Re (script_scan_next (script_scan t y l v) b).state
    → ApartBehind s (script_scan s x k v) (script_scan t y l v) b
    → ScriptScanBelow (script_scan_next (script_scan s x k v) b) (script_scan_next (script_scan t y l v) b)
below-behind s t x y k l v b i j h e g d =
    let one : ScriptState = (script_scan_next (script_scan s x k v) b).state in
    let other : ScriptState = (script_scan_next (script_scan t y l v) b).state in
    let f : one.trail.fresh ≡ other.trail.fresh = ap (λ (w : ScriptState). w.trail.fresh) g in
    record {
      some = scripts-stay-valid.next (script_scan s x k v) b i;
      senses = senses-below s t j v b;
      before = subst (λ (z : Bool). both_js_tails (script_tails_next z x) (script_tails_next other.trail.fresh y) ≡ script_tails_next other.trail.fresh y) (sym f) (next-tails other.trail.fresh x y h);
      star = subst (λ (z : Bool). ((z && k) || (other.trail.fresh && l)) ≡ (other.trail.fresh && l)) (sym f) (next-star other.trail.fresh k l e);
      state = g;
      apart = d;
    }

-- in code and in comments
pub keeps-in : (r : Sense) (a : At) → KeepsSense a → KeepsSense (script_at_in r a)
keeps-in r _ (keeps_code s) = keeps_code r
keeps-in r _ (keeps_line s) = keeps_line r
keeps-in r _ (keeps_block s star) = keeps_block r star

apart-by : (s t : Senses) (x y : JsTails) (k l : Bool) (a : At) (h : List ℕ) (u : Trail) (b : ℕ) → some_sense s ≡ true → both_senses s t ≡ t
    → SenseLeads (sense-point a h b) (held_at (tells_white_apart (script_at_in (script_one_sense t) a)) h b)
    → ApartBehind s (script_scan s x k (state-of [] a h u)) (script_scan t y l (state-of [] a h u)) b
apart-by s t x y k l a h u b i j (leads_within d keeps f) =
    let one : Sense = script_one_sense t in
    let held : List ℕ = held_at (tells_white_apart (script_at_in one a)) h b in
    inr (
      ap (λ (p : ScriptPoint). p.literals) (f one),
      subst (λ (z : At). MayDifferInSense z held) (sym (ap (λ (p : ScriptPoint). p.at) (f one))) (differ_within (script_at_in one d) held (keeps-in one d keeps)),
    )
apart-by s t x y k l a h u b i j (leads_behind_slash e f) =
    let one : Sense = script_one_sense t in
    let held : List ℕ = held_at (tells_white_apart (script_at_in one a)) h b in
    inr (
      ap (λ (p : ScriptPoint). p.literals) (f one),
      subst (λ (z : At). MayDifferInSense z held) (sym (ap (λ (p : ScriptPoint). p.at) (f one)))
          (subst (λ (z : List ℕ). MayDifferInSense (Slash one) z) (sym e) (differ_behind_slash one)),
    )
apart-by s t x y k l a h u b i j (leads_alike p f) =
    inl (
    next-united s i (state-of [] a h u) b p.at (λ r. ap (λ (z : ScriptPoint). z.at) (f r))
    ∙ sym (next-united t (some-more s t i j) (state-of [] a h u) b p.at (λ r. ap (λ (z : ScriptPoint). z.at) (f r)))
    )

pub kept-slash : (d : Bool) (a : At) → KeepsSense a → script_slash_error d [] a ≡ None
kept-slash true _ (keeps_code s) = refl
kept-slash true _ (keeps_line s) = refl
kept-slash true _ (keeps_block s star) = refl
kept-slash false a i = refl

pub kept-cut : (r s : Sense) (a : At) (u : Trail) → KeepsSense a → whole_cut_refusal [] (script_at_in r a) u ≡ whole_cut_refusal [] (script_at_in s a) u
kept-cut r s _ u (keeps_code z) = refl
kept-cut r s _ u (keeps_line z) = refl
kept-cut r s _ u (keeps_block z star) = refl

pub kept-end : (r s : Sense) (a : At) (u : Trail) → KeepsSense a → end_refusal_at [] (script_at_in r a) u ≡ end_refusal_at [] (script_at_in s a) u
kept-end r s _ u (keeps_code z) = refl
kept-end r s _ u (keeps_line z) = refl
kept-end r s _ u (keeps_block z star) = refl

kept-place : (s t : Senses) (x y : JsTails) (k l : Bool) (a : At) (h : List ℕ) (u : Trail) → KeepsSense a → both_senses s t ≡ t → both_js_tails x y ≡ y → (k || l) ≡ l
    → ScriptBelow (script_scan_place (script_scan s x k (state-of [] a h u))) (script_scan_place (script_scan t y l (state-of [] a h u)))
kept-place s t x y k l _ h u (keeps_code z) j i e =
    ap₂ (λ (w : Senses) (r : JsTails). Some (js.Code w r)) j (end-tails u.fresh x y (script_tails (script_tail_at (Code z) u.markup)) i)
kept-place s t x y k l _ h u (keeps_line z) j i e = ap (λ (w : Senses). Some (js.Line w)) j
kept-place s t x y k l _ h u (keeps_block z star) j i e =
    ap₂ (λ (w : Senses) (r : Bool). Some (js.Block w r)) j (end-star u.fresh k l star e)

kept-grows : (s t : Senses) (x y : JsTails) (k l : Bool) (a : At) (h : List ℕ) (u : Trail) → KeepsSense a → some_sense s ≡ true → both_senses s t ≡ t
    → both_js_tails x y ≡ y → (k || l) ≡ l → GrowsScriptScan (script_scan s x k (state-of [] a h u)) (script_scan t y l (state-of [] a h u))
kept-grows s t x y k l a h u keeps i j f e =
    let v : ScriptState = state-of [] a h u in
    let n : ScriptScan = script_scan s x k v in
    let m : ScriptScan = script_scan t y l v in
    let one = a-sense s i in
    let of_n : StepsSense n one.0 = script-senses-unite n one.0 keeps one.1 in
    let of_m : StepsSense m one.0 = script-senses-unite m one.0 keeps (has-more s t j one.0 one.1) in
    let g : GrowsScriptTails (script_of_sense n one.0) (script_of_sense m one.0) =
    tails-grow (script_of_sense n one.0) (script_of_sense m one.0) (tails_below (script_senses one.0) x y k l v f e) in
    let slash : script_slash_error (script_senses_differ s) [] a ≡ script_slash_error (script_senses_differ t) [] a =
    kept-slash (script_senses_differ s) a keeps ∙ sym (kept-slash (script_senses_differ t) a keeps) in
    record {
      error = λ element b o. sym (of_n.error element b) ∙ g.error element b (of_m.error element b ∙ o);
      next = λ element b o. below-behind s t x y k l v b i j f e (sym (of_n.state b) ∙ of_m.state b)
          (apart-by s t x y k l a h u b i j (sense-leads a keeps h b (script_one_sense t)));
      cut_error = λ o.
          ap₂ (λ (p q : Option Cause). unless_in_character h (first_script_cause p q)) slash (kept-cut (script_one_sense s) (script_one_sense t) a u keeps) ∙ o;
      end_error = λ o. ap₂ first_script_cause slash (kept-end (script_one_sense s) (script_one_sense t) a u keeps) ∙ o;
      place = λ o. kept-place s t x y k l a h u keeps j f e;
    }

-- behind a slash that is held back, where it is unclear
pub by-byte : (P : ℕ → Type 0) (b : ℕ) → (b ≡ 47) ⊎ (b ≡ 42) → P 47 → P 42 → P b
by-byte P b (inl e) f g = subst P (sym e) f
by-byte P b (inr e) f g = subst P (sym e) g

abbrev ErrorGrows : (s t : Senses) (x y : JsTails) (k l : Bool) → Sense → Trail → Bool → ℕ → Type 0
ErrorGrows s t x y k l z u element b =
    slash-error (script_senses_differ t) (script_one_sense t) y l z u element b ≡ None → slash-error (script_senses_differ s) (script_one_sense s) x k z u element b ≡ None

comment-grows : (c : ScriptClass) (b : ℕ) (x y : JsTails) (k l : Bool) (u : Trail) → both_js_tails x y ≡ y → (k || l) ≡ l → comment-error c b y l u ≡ None
    → comment-error c b x k u ≡ None
comment-grows c b x y k l u h e o = error-grows u.fresh _ _ (goes-grows x y k l h e c) [] _ o

slash-error-grows : (s t : Senses) (x y : JsTails) (k l : Bool) (z : Sense) (u : Trail) (element : Bool) (b : ℕ) → both_js_tails x y ≡ y → (k || l) ≡ l
    → (b ≡ 47) ⊎ (b ≡ 42) → ErrorGrows s t x y k l z u element b
slash-error-grows s t x y k l z u element b h e d =
    by-byte (ErrorGrows s t x y k l z u element) b d
    (λ o. solidus-error (script_senses_differ s) (script_one_sense s) x k z u element
    ∙ comment-grows class.Solidus 47 x y k l u h e (sym (solidus-error (script_senses_differ t) (script_one_sense t) y l z u element) ∙ o))
    (λ o. asterisk-error (script_senses_differ s) (script_one_sense s) x k z u element
    ∙ comment-grows class.Asterisk 42 x y k l u h e (sym (asterisk-error (script_senses_differ t) (script_one_sense t) y l z u element) ∙ o))

pub comment-keeps : (line : Bool) (o : Sense) → KeepsSense (comment-at line o)
comment-keeps true o = keeps_line o
comment-keeps false o = keeps_block o false

comment-below : (line : Bool) (s t : Senses) (x y : JsTails) (k l : Bool) (z : Sense) (u : Trail) → some_sense s ≡ true → both_senses s t ≡ t
    → both_js_tails x y ≡ y → (k || l) ≡ l
    → ScriptScanBelow (script_scan_next (script_scan s x k (slash-state z u)) (comment-by line)) (script_scan_next (script_scan t y l (slash-state z u)) (comment-by line))
comment-below line s t x y k l z u i j h e =
    let one : Sense = script_one_sense t in
    let w : ScriptState = feed_script (slash-state one u) (comment-by line) in
    below-behind s t x y k l (slash-state z u) (comment-by line) i j h e (comment-plain line (script_one_sense s) one u)
    (inr (
      comment-outside line one u,
      subst (λ (c : At). MayDifferInSense c w.held) (sym (comment-leads-at line one u)) (differ_within (comment-at line one) w.held (comment-keeps line one)),
    ))

unclear-grows : (s t : Senses) (x y : JsTails) (k l : Bool) (z : Sense) (u : Trail) → IsUnclear t → some_sense s ≡ true → both_senses s t ≡ t
    → both_js_tails x y ≡ y → (k || l) ≡ l → GrowsScriptScan (script_scan s x k (slash-state z u)) (script_scan t y l (slash-state z u))
unclear-grows s t x y k l z u d i j h e = record {
  error = λ element b o. slash-error-grows s t x y k l z u element b h e (unclear-byte t y l z u element b d o) o;
  next = λ element b o. by-byte (λ (c : ℕ). ScriptScanBelow (script_scan_next (script_scan s x k (slash-state z u)) c) (script_scan_next (script_scan t y l (slash-state z u)) c)) b
      (unclear-byte t y l z u element b d o) (comment-below true s t x y k l z u i j h e) (comment-below false s t x y k l z u i j h e);
  cut_error = λ o. absurd (unclear-cut t z u d o);
  end_error = λ o. absurd (unclear-end t z u d o);
  place = λ o. absurd (unclear-cut t z u d o);
}

same-by : (s t : Senses) (x y : JsTails) (k l : Bool) (v : ScriptState) → s ≡ t → some_sense s ≡ true → both_js_tails x y ≡ y → (k || l) ≡ l
    → GrowsScriptScan (script_scan s x k v) (script_scan t y l v)
same-by s t x y k l v d i h e = subst (λ (z : Senses). GrowsScriptScan (script_scan s x k v) (script_scan z y l v)) d (same-senses s x y k l v i h e)

slash-by : (s t : Senses) (x y : JsTails) (k l : Bool) (z : Sense) (u : Trail) → (s ≡ t) ⊎ IsUnclear t → some_sense s ≡ true → both_senses s t ≡ t
    → both_js_tails x y ≡ y → (k || l) ≡ l → GrowsScriptScan (script_scan s x k (slash-state z u)) (script_scan t y l (slash-state z u))
slash-by s t x y k l z u (inl d) i j h e = same-by s t x y k l (slash-state z u) d i h e
slash-by s t x y k l z u (inr d) i j h e = unclear-grows s t x y k l z u d i j h e

differ-grows : (s t : Senses) (x y : JsTails) (k l : Bool) (a : At) (h : List ℕ) (u : Trail) → MayDifferInSense a h → some_sense s ≡ true → both_senses s t ≡ t
    → both_js_tails x y ≡ y → (k || l) ≡ l → GrowsScriptScan (script_scan s x k (state-of [] a h u)) (script_scan t y l (state-of [] a h u))
differ-grows s t x y k l _ _ u (differ_within a h keeps) i j f e = kept-grows s t x y k l a h u keeps i j f e
differ-grows s t x y k l _ _ u (differ_behind_slash z) i j f e = slash-by s t x y k l z u (same-or-unclear s t i j) i j f e

parts-grow : (s t : Senses) (x y : JsTails) (k l : Bool) (fs : List ℕ) (a : At) (h : List ℕ) (u : Trail) → (s ≡ t) ⊎ ((fs ≡ []) × MayDifferInSense a h)
    → some_sense s ≡ true → both_senses s t ≡ t → both_js_tails x y ≡ y → (k || l) ≡ l
    → GrowsScriptScan (script_scan s x k (state-of fs a h u)) (script_scan t y l (state-of fs a h u))
parts-grow s t x y k l fs a h u (inl d) i j f e = same-by s t x y k l (state-of fs a h u) d i f e
parts-grow s t x y k l fs a h u (inr d) i j f e =
    subst (λ (z : List ℕ). GrowsScriptScan (script_scan s x k (state-of z a h u)) (script_scan t y l (state-of z a h u))) (sym d.0)
    (differ-grows s t x y k l a h u d.1 i j f e)

pub differ-plain : (a : At) (h : List ℕ) → MayDifferInSense a h → MayDifferInSense (script_at_in sense.Re a) h
differ-plain _ _ (differ_within a h keeps) = differ_within (script_at_in sense.Re a) h (keeps-in sense.Re a keeps)
differ-plain _ _ (differ_behind_slash z) = differ_behind_slash sense.Re

pub apart-plain : (s t : Senses) (v : ScriptState) → (s ≡ t) ⊎ ((v.literals ≡ []) × MayDifferInSense v.at v.held)
    → (s ≡ t) ⊎ ((v.literals ≡ []) × MayDifferInSense (script_at_in sense.Re v.at) v.held)
apart-plain s t v (inl d) = inl d
apart-plain s t v (inr d) = inr (d.0, differ-plain v.at v.held d.1)

pub scan-grows : (n m : ScriptScan) → ScriptScanBelow n m → GrowsScriptScan n m
scan-grows n m b =
    from-plain n m (subst (λ (w : ScriptState). GrowsScriptScan (script_scan n.senses n.before n.star w) (plain-scan m)) (sym b.state)
    (parts-grow n.senses m.senses n.before m.before n.star m.star m.state.literals (script_at_in sense.Re m.state.at) m.state.held m.state.trail
    (apart-plain n.senses m.senses m.state b.apart) b.some b.senses b.before b.star))

same-below : (n : ScriptScan) → IsScriptScan n → ScriptScanBelow n n
same-below n i = record { some = i; senses = senses-same n.senses; before = tails-by n.before; star = or-same n.star; state = refl; apart = inl refl }

-- the beginning of a text
code-senses : (s t : Senses) (x y : JsTails) → Some (js.Code s x) ≡ Some (js.Code t y) → s ≡ t
code-senses s t x y e = cc

code-tails : (s t : Senses) (x y : JsTails) → Some (js.Code s x) ≡ Some (js.Code t y) → x ≡ y
code-tails s t x y e = cc

line-senses : (s t : Senses) → Some (js.Line s) ≡ Some (js.Line t) → s ≡ t
line-senses s t e = cc

block-senses : (s t : Senses) (x y : Bool) → Some (js.Block s x) ≡ Some (js.Block t y) → s ≡ t
block-senses s t x y e = cc

block-star : (s t : Senses) (x y : Bool) → Some (js.Block s x) ≡ Some (js.Block t y) → x ≡ y
block-star s t x y e = cc

regexp-slash : (x y : Bool) → Some (js.Regexp x) ≡ Some (js.Regexp y) → x ≡ y
regexp-slash x y e = cc

slash-tails : (x y : Bool) → (x || y) ≡ y → both_js_tails (script_slash_tail x) (script_slash_tail y) ≡ script_slash_tail y
slash-tails true true e = refl
slash-tails true false e = absurd (no e)
slash-tails false true e = refl
slash-tails false false e = refl

start-below : (c d : Js) → IsValidJs c → ScriptBelow c d → ScriptScanBelow (script_scan_start c) (script_scan_start d)
start-below (js.Code s x) (js.Code t y) i h = record {
  some = i;
  senses = code-senses _ _ _ _ h;
  before = code-tails _ _ _ _ h;
  star = refl;
  state = refl;
  apart = inr (refl, differ_within (Code (script_one_sense t)) [] (keeps_code (script_one_sense t)));
}
start-below js.Dq js.Dq i h = same-below (script_scan_start js.Dq) refl
start-below js.Sq js.Sq i h = same-below (script_scan_start js.Sq) refl
start-below (js.Regexp x) (js.Regexp y) i h =
    record { some = refl; senses = refl; before = slash-tails x y (regexp-slash _ _ h); star = refl; state = refl; apart = inl refl }
start-below (js.Line s) (js.Line t) i h = record {
  some = i;
  senses = line-senses _ _ h;
  before = refl;
  star = refl;
  state = refl;
  apart = inr (refl, differ_within (LineComment (script_one_sense t)) [] (keeps_line (script_one_sense t)));
}
start-below (js.Block s x) (js.Block t y) i h = record {
  some = i;
  senses = block-senses _ _ _ _ h;
  before = refl;
  star = block-star _ _ _ _ h;
  state = refl;
  apart = inr (refl, differ_within (BlockComment (script_one_sense t) false) [] (keeps_block (script_one_sense t) false));
}
start-below _ d i h = absurd (given d (sym h))

pub scripts-grow : ScriptsGrow
scripts-grow = record { scans = scan-grows; same = same-below; start = start-below; at_hole = hole-below }
