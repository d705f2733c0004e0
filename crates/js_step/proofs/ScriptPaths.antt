-- The scan state of a path in a script.
use Rattle.std.proofs.Common.{◌≡◌, ◌∙◌, inl, inr, ℕ, ◌==◌, ◌||◌, ◌&&◌, nat_eq, Bool, true, false, bytes_eq, codes, nat_lt, length, List, [], ◌∷◌, Option, Some, None, option_map, if◌then◌else◌, refl, sym, ap, subst, arith}
use Rattle.std.proofs.lemmas.Bool.{eqb-true, ltb-false, and_parts, or_cases}
use Rattle.std.proofs.lemmas.Slice.Eq.{bytes_eq-Decides}
use Rattle.std.specs.List.{starts_with}
use Rattle.js_lexer.specs.Classes.{class_of}
use Rattle.js_lexer.specs.Feeding.{tells_white_apart, feed_script}
use Rattle.js_lexer.specs.Holes.{script_after_cut, script_after_hole}
use Rattle.js_lexer.specs.Refusals.{JSTemplate, Cause, first_script_cause, split_refusal, refusal_outside, script_refuses, is_one_of, is_cut_markup, SplitToken, cause, within_escape, cut_refusal_at, escape_refusal, cut_markup_refusal, whole_cut_refusal, unless_in_character, script_refuses_cut}
use Rattle.js_lexer.specs.Spots.{Spot, CodeSpot, StringSpot, RegexpSpot, LineSpot, BlockSpot, WordTail, NumberTail, PlusTail, MinusTail, SlashTail, tail_of, unless_within, spot_at, script_spot, shown_at, spot_before}
use Rattle.js_lexer.specs.States.{ScriptEscape, NoEscape, AfterBackslash, AfterX, AfterX3, AfterCarriageReturn, At, Code, Word, Number, Pluses, Minuses, Slash, LineComment, BlockComment, InString, InRegexp, InTemplate, TooDeep, PartLines, HasLine, NoLineYet, Trail, ScriptState}
use Rattle.js_lexer.specs.Steps.{sense_if_odd}
use Rattle.js_lexer.specs.Trails.{is_empty}
use Rattle.js_lexer.specs.Words.{sense_after}
use Rattle.js_lexer.specs.declared.sense.Sense.{Sense}
use Rattle.js_lexer.specs.declared.sense.Sense.TheVariants as sense
use Rattle.place_core.specs.declared.body.Body.{Body}
use Rattle.place_core.specs.declared.body.Body.TheVariants as body
use Rattle.place_core.specs.declared.js.Js.{Js}
use Rattle.place_core.specs.place.ScriptParts.{is_new_part, script_tails, script_no_tails, script_senses, script_place, is_no_script_escape, may_begin_text_at, is_trail_of_cut, script_may_begin_text, script_body}
use Rattle.js_step.specs.ScriptScanLaws.{script_alone, script_alone_before, OneScript, EndsBefore, ends_code, ends_less, ends_hash, ends_word, ends_number, ends_pluses, ends_minuses, ends_minus, ends_two_minuses, ends_regexp_slash, ends_slash, ends_line, ends_block, ends_string, ends_regexp, script_before, IsBeforeText, before_text, OneScriptBefore}
use Rattle.js_step.specs.ScriptPaths.{script_markup_fits, script_escape_fits, script_trail_fits, is_script_within, is_script_before, script_scanned_if, script_scanned, OneScriptPath, OneScriptPlace, ScriptPathsAreScanned}
use Rattle.js_step.specs.ScriptScans.{ScriptScan, script_sense_at, script_tail_at, script_star_at, script_scan_start, script_scan_next, script_scan_place, script_shown_at, script_scan_shown, script_at_hole}
use Rattle.js_step.proofs.FirstCharacter.{scripts-begin-as-one, begun-state, begun-fed, begun-place}
use Rattle.js_step.proofs.OneScriptPath.{exact-on-one-script, given, own-held}
use Rattle.js_step.proofs.ScriptWithin.{parts, among, none-among, within-fed}

no : true ≡ false → ⊥
no e = cc

no-more : false ≡ true → ⊥
no-more e = cc

none-given : {A : Type 0} (a : A) → None ≡ Some a → ⊥
none-given a e = cc

some-same : {A : Type 0} (x y : A) → Some x ≡ Some y → x ≡ y
some-same x y e = cc

-- words among words, as in `ScriptWithin`
same-bytes : (bytes word : List ℕ) → bytes_eq bytes word ≡ true → bytes ≡ word
same-bytes bytes word h = (bytes_eq-Decides bytes word).0 h

empty-is : (m : List ℕ) → is_empty m ≡ true → m ≡ []
empty-is [] h = refl
empty-is (x ∷ m) h = absurd (no-more h)

-- Before the first character: which lexemes, with what is held back and the bytes of markup.
abbrev held-fits : At → (h m : List ℕ) → Bool
held-fits a h m = is_empty h || (tells_white_apart a && is_empty m)

abbrev Ends : At → (h m : List ℕ) → Type 0
Ends a h m = EndsBefore a h m

-- with bytes of markup nothing is held back
nothing-held : (h : List ℕ) (x : Bool) → x ≡ false → (is_empty h || x) ≡ true → h ≡ []
nothing-held [] x e k = refl
nothing-held (z ∷ h) x e k = absurd (no (sym k ∙ e))

less-before : (s : Sense) (h m : List ℕ) → held-fits (Code s) h m ≡ true → m ≡ codes "<" → EndsBefore (Code s) h m
less-before s h m k e =
    subst (λ (z : List ℕ). EndsBefore (Code s) h z) (sym e)
    (subst (λ (z : List ℕ). EndsBefore (Code s) z (codes "<")) (sym (nothing-held h (is_empty m) (ap is_empty e) k)) (ends_less s))

hash-before : (s : Sense) (h m : List ℕ) → held-fits (Code s) h m ≡ true → m ≡ codes "#" → EndsBefore (Code s) h m
hash-before s h m k e =
    subst (λ (z : List ℕ). EndsBefore (Code s) h z) (sym e)
    (subst (λ (z : List ℕ). EndsBefore (Code s) z (codes "#")) (sym (nothing-held h (is_empty m) (ap is_empty e) k)) (ends_hash s))

minus-before : (odd : Bool) (h m : List ℕ) → held-fits (Minuses odd) h m ≡ true → m ≡ codes "-" → EndsBefore (Minuses odd) h m
minus-before odd h m k e =
    subst (λ (z : List ℕ). EndsBefore (Minuses odd) h z) (sym e)
    (subst (λ (z : List ℕ). EndsBefore (Minuses odd) z (codes "-")) (sym (nothing-held h (is_empty m) (ap is_empty e) k)) (ends_minus odd))

minuses-before : (odd : Bool) (h m : List ℕ) → held-fits (Minuses odd) h m ≡ true → m ≡ codes "--" → EndsBefore (Minuses odd) h m
minuses-before odd h m k e =
    subst (λ (z : List ℕ). EndsBefore (Minuses odd) h z) (sym e)
    (subst (λ (z : List ℕ). EndsBefore (Minuses odd) z (codes "--")) (sym (nothing-held h (is_empty m) (ap is_empty e) k)) (ends_two_minuses odd))

clear-before : (a : At) (h m : List ℕ) → is_empty m ≡ true → EndsBefore a h [] → EndsBefore a h m
clear-before a h m f e = subst (λ (z : List ℕ). EndsBefore a h z) (sym (empty-is m f)) e

-- where nothing is ever held back
bare-before : (a : At) (h m : List ℕ) → tells_white_apart a ≡ false → is_empty m ≡ true → held-fits a h m ≡ true → EndsBefore a [] [] → EndsBefore a h m
bare-before a h m w f k e =
    subst (λ (z : List ℕ). EndsBefore a h z) (sym (empty-is m f))
    (subst (λ (z : List ℕ). EndsBefore a z []) (sym (nothing-held h (tells_white_apart a && is_empty m) (ap (λ (x : Bool). x && is_empty m) w) k)) e)

string-before : (q : Bool) (e : ScriptEscape) (h m : List ℕ) → (is_no_script_escape e && is_empty m) ≡ true → held-fits (InString q e) h m ≡ true → EndsBefore (InString q e) h m
string-before q NoEscape h m f k = bare-before (InString q NoEscape) h m refl f k (ends_string q)
string-before q AfterBackslash h m f k = absurd (no-more f)
string-before q AfterX h m f k = absurd (no-more f)
string-before q AfterX3 h m f k = absurd (no-more f)
string-before q AfterCarriageReturn h m f k = absurd (no-more f)

regexp-before : (e : ScriptEscape) (h m : List ℕ) → (is_no_script_escape e && is_empty m) ≡ true → held-fits (InRegexp false e) h m ≡ true → EndsBefore (InRegexp false e) h m
regexp-before NoEscape h m f k = bare-before (InRegexp false NoEscape) h m refl f k ends_regexp
regexp-before AfterBackslash h m f k = absurd (no-more f)
regexp-before AfterX h m f k = absurd (no-more f)
regexp-before AfterX3 h m f k = absurd (no-more f)
regexp-before AfterCarriageReturn h m f k = absurd (no-more f)

ends-before : (a : At) (h m : List ℕ) → may_begin_text_at a m ≡ true → held-fits a h m ≡ true → EndsBefore a h m
ends-before (Code s) h m f k = elim (or_cases (is_empty m) (bytes_eq m (codes "<") || bytes_eq m (codes "#")) f) [
  | inl e ↦ clear-before (Code s) h m e (ends_code s h)
  | inr g ↦ elim (or_cases (bytes_eq m (codes "<")) (bytes_eq m (codes "#")) g) [
    | inl e ↦ less-before s h m k (same-bytes m (codes "<") e)
    | inr e ↦ hash-before s h m k (same-bytes m (codes "#") e)
  ]
]
ends-before (Word w) h m f k = clear-before (Word w) h m f (ends_word w h)
ends-before Number h m f k = clear-before Number h m f (ends_number h)
ends-before (Pluses odd) h m f k = clear-before (Pluses odd) h m f (ends_pluses odd h)
ends-before (Minuses odd) h m f k = elim (or_cases (is_empty m) (bytes_eq m (codes "-") || bytes_eq m (codes "--")) f) [
  | inl e ↦ clear-before (Minuses odd) h m e (ends_minuses odd h)
  | inr g ↦ elim (or_cases (bytes_eq m (codes "-")) (bytes_eq m (codes "--")) g) [
    | inl e ↦ minus-before odd h m k (same-bytes m (codes "-") e)
    | inr e ↦ minuses-before odd h m k (same-bytes m (codes "--") e)
  ]
]
ends-before (Slash sense.Re) h m f k = bare-before (Slash sense.Re) h m refl f k ends_regexp_slash
ends-before (Slash sense.Div) h m f k = clear-before (Slash sense.Div) h m f (ends_slash h)
ends-before (Slash sense.Brace) h m f k = absurd (no-more f)
ends-before (LineComment s) h m f k = clear-before (LineComment s) h m f (ends_line s h)
ends-before (BlockComment s star) h m f k = bare-before (BlockComment s star) h m refl f k (ends_block s star)
ends-before (InString q e) h m f k = string-before q e h m f k
ends-before (InRegexp true e) h m f k = absurd (no-more f)
ends-before (InRegexp false e) h m f k = regexp-before e h m f k
ends-before (InTemplate e d) h m f k = absurd (no-more f)
ends-before TooDeep h m f k = absurd (no-more f)

zero-is : (n : ℕ) → (n == 0) ≡ true → n ≡ 0
zero-is n h = eqb-true n 0 h

-- a state by its parts, with the part of a comment
abbrev whole-state : List ℕ → At → (h m e : List ℕ) → (f : Bool) → (n k l : ℕ) → PartLines → ScriptState
whole-state fs a h m e f n k l z = record {
  literals = fs;
  at = a;
  held = h;
  trail = record { fresh = f; markup = m; escape = e; brace = n; bracket = k; literal = l; lines = z };
}

new-part-is : (z : PartLines) → is_new_part z ≡ true → z ≡ NoLineYet []
new-part-is HasLine h = absurd (no-more h)
new-part-is (NoLineYet begun) h = ap NoLineYet (empty-is begun h)

before-of : (fs : List ℕ) (a : At) (h m e : List ℕ) (f : Bool) (n k l : ℕ) (z : PartLines) → is_script_before (whole-state fs a h m e f n k l z) ≡ true
    → IsBeforeText (whole-state fs a h m e f n k l z)
before-of fs a h m e f n k l z i =
    let t = (whole-state fs a h m e f n k l z).trail in
    let x = and_parts (is_empty fs) ((is_trail_of_cut t && may_begin_text_at a m) && held-fits a h m) i in
    let y = and_parts (is_trail_of_cut t && may_begin_text_at a m) (held-fits a h m) x.1 in
    let w = and_parts (is_trail_of_cut t) (may_begin_text_at a m) y.0 in
    let p = and_parts f (is_empty e && (n == 0 && (k == 0 && (l == 0 && is_new_part z)))) w.0 in
    let q = and_parts (is_empty e) (n == 0 && (k == 0 && (l == 0 && is_new_part z))) p.1 in
    let r = and_parts (n == 0) (k == 0 && (l == 0 && is_new_part z)) q.1 in
    let s = and_parts (k == 0) (l == 0 && is_new_part z) r.1 in
    let u = and_parts (l == 0) (is_new_part z) s.1 in
    let same : script_before a h m ≡ whole-state fs a h m e f n k l z = λ j.
    whole-state (sym (empty-is fs x.0) j) a h m (sym (empty-is e q.0) j) (sym p.0 j) (sym (zero-is n r.0) j) (sym (zero-is k s.0) j) (sym (zero-is l u.0) j)
    (sym (new-part-is z u.1) j) in
    subst IsBeforeText same (before_text a h m (ends-before a h m w.1 y.1))

pub is-before : (v : ScriptState) → is_script_before v ≡ true → IsBeforeText v
is-before v i = before-of v.literals v.at v.held v.trail.markup v.trail.escape v.trail.fresh v.trail.brace v.trail.bracket v.trail.literal v.trail.lines i

or-true : (x : Bool) → (x || true) ≡ true
or-true true = refl
or-true false = refl

before-fits : (a : At) (h m : List ℕ) → EndsBefore a h m → is_script_before (script_before a h m) ≡ true
before-fits _ _ _ (ends_code s h) = or-true (is_empty h)
before-fits _ _ _ (ends_less s) = refl
before-fits _ _ _ (ends_hash s) = refl
before-fits _ _ _ (ends_word w h) = or-true (is_empty h)
before-fits _ _ _ (ends_number h) = or-true (is_empty h)
before-fits _ _ _ (ends_pluses odd h) = or-true (is_empty h)
before-fits _ _ _ (ends_minuses odd h) = or-true (is_empty h)
before-fits _ _ _ (ends_minus odd) = refl
before-fits _ _ _ (ends_two_minuses odd) = refl
before-fits _ _ _ ends_regexp_slash = refl
before-fits _ _ _ (ends_slash h) = or-true (is_empty h)
before-fits _ _ _ (ends_line s h) = or-true (is_empty h)
before-fits _ _ _ (ends_block s star) = refl
before-fits _ _ _ (ends_string q) = refl
before-fits _ _ _ ends_regexp = refl

pub scanned-before : (v : ScriptState) → IsBeforeText v → script_scanned v ≡ Some (script_alone_before v)
scanned-before _ (before_text a h m e) = ap (λ (x : Bool). script_scanned_if x (script_alone_before (script_before a h m))) (before-fits a h m e)

pub scanned-within : (v : ScriptState) → v.trail.fresh ≡ false → is_script_within v ≡ true → script_scanned v ≡ Some (script_alone v)
scanned-within v f i =
    ap (λ (x : Bool). if x then script_scanned_if (is_script_before v) (script_alone_before v) else script_scanned_if (is_script_within v) (script_alone v)) f
    ∙ ap (λ (x : Bool). script_scanned_if x (script_alone v)) i

-- Behind the first character.
fits-code : (s : Sense) → script_markup_fits (Code s) [] ≡ true
fits-code sense.Re = refl
fits-code sense.Div = refl
fits-code sense.Brace = refl

held-and : (h : List ℕ) (y : Bool) → y ≡ true → ((is_empty h || true) && y) ≡ true
held-and [] y e = e
held-and (z ∷ h) y e = e

begun-within : (a : At) (h m : List ℕ) → EndsBefore a h m → is_script_within (begun-state a h m) ≡ true
begun-within _ _ _ (ends_code s h) = held-and h _ (fits-code s)
begun-within _ _ _ (ends_less s) = fits-code s
begun-within _ _ _ (ends_hash s) = fits-code s
begun-within _ _ _ (ends_word w h) = held-and h _ (fits-code (sense_after w))
begun-within _ _ _ (ends_number h) = held-and h _ refl
begun-within _ _ _ (ends_pluses odd h) = held-and h _ (fits-code (sense_if_odd odd))
begun-within _ _ _ (ends_minuses odd h) = held-and h _ (fits-code (sense_if_odd odd))
begun-within _ _ _ (ends_minus odd) = fits-code (sense_if_odd odd)
begun-within _ _ _ (ends_two_minuses odd) = fits-code (sense_if_odd odd)
begun-within _ _ _ ends_regexp_slash = refl
begun-within _ _ _ (ends_slash h) = held-and h _ refl
begun-within _ _ _ (ends_line s h) = held-and h _ refl
begun-within _ _ _ (ends_block s star) = refl
begun-within _ _ _ (ends_string q) = refl
begun-within _ _ _ ends_regexp = refl

first-within : (a : At) (h m : List ℕ) → EndsBefore a h m → (element : Bool) (b : ℕ) → script_refuses element (script_before a h m) b ≡ None
    → (feed_script (script_before a h m) b).trail.fresh ≡ false → is_script_within (feed_script (script_before a h m) b) ≡ true
first-within a h m e element b r f =
    let x = begun-fed a h m e element b r f in
    subst (λ (w : ScriptState). is_script_within w ≡ true) x.1 (within-fed element (begun-state a h m) b (begun-within a h m e) x.0)

-- What both show.
shown-within : (a : At) (t : Trail) → script_shown_at (script_senses (script_sense_at a)) (script_tails (script_tail_at a t.markup)) (script_star_at a) a ≡ option_map script_place (shown_at a t)
shown-within (Code s) t = refl
shown-within (Word w) t = refl
shown-within Number t = refl
shown-within (Pluses odd) t = refl
shown-within (Minuses odd) t = refl
shown-within (Slash sense.Re) t = refl
shown-within (Slash sense.Div) t = refl
shown-within (Slash sense.Brace) t = refl
shown-within (LineComment s) t = refl
shown-within (BlockComment s star) t = refl
shown-within (InString q e) t = refl
shown-within (InRegexp k e) t = refl
shown-within (InTemplate e d) t = refl
shown-within TooDeep t = refl

shown-by : (fs : List ℕ) (o : Option Js) (p : Option Spot) → o ≡ option_map script_place p
    → (if is_empty fs then o else None) ≡ option_map script_place (if is_empty fs then p else None)
shown-by [] o p h = h
shown-by (j ∷ fs) o p h = refl

alone-shown : (v : ScriptState) → v.trail.fresh ≡ false → script_scan_shown (script_alone v) ≡ option_map script_place (spot_before v)
alone-shown v f =
    ap (λ (x : Bool). if is_empty v.literals then
    script_shown_at (script_senses (script_sense_at v.at)) (if x then script_no_tails else script_tails (script_tail_at v.at v.trail.markup)) (if x then false else script_star_at v.at) v.at
    else None) f
    ∙ shown-by v.literals _ (shown_at v.at v.trail) (shown-within v.at v.trail)

before-shown : (a : At) (h m : List ℕ) → EndsBefore a h m → script_scan_shown (script_alone_before (script_before a h m)) ≡ option_map script_place (spot_before (script_before a h m))
before-shown _ _ _ (ends_code s h) = refl
before-shown _ _ _ (ends_less s) = refl
before-shown _ _ _ (ends_hash s) = refl
before-shown _ _ _ (ends_word w h) = refl
before-shown _ _ _ (ends_number h) = refl
before-shown _ _ _ (ends_pluses odd h) = refl
before-shown _ _ _ (ends_minuses odd h) = refl
before-shown _ _ _ (ends_minus odd) = refl
before-shown _ _ _ (ends_two_minuses odd) = refl
before-shown _ _ _ ends_regexp_slash = refl
before-shown _ _ _ (ends_slash h) = refl
before-shown _ _ _ (ends_line s h) = refl
before-shown _ _ _ (ends_block s star) = refl
before-shown _ _ _ (ends_string true) = refl
before-shown _ _ _ (ends_string false) = refl
before-shown _ _ _ ends_regexp = refl

-- The end of a node: what is open there, where it is not refused.
record CutHere (a : At) (t : Trail) : Type 0 where
  may : may_begin_text_at a t.markup ≡ true
  escape : t.escape ≡ []
  brace : t.brace ≡ 0
  bracket : t.bracket ≡ 0
  spot : Spot
  is : spot_at a t ≡ Some spot

record Whole (t : Trail) : Type 0 where
  escape : t.escape ≡ []
  brace : t.brace ≡ 0
  bracket : t.bracket ≡ 0

whole-of : (t : Trail) → (is_empty t.escape && (t.brace == 0 && t.bracket == 0)) ≡ true → Whole t
whole-of t h =
    let x = and_parts (is_empty t.escape) (t.brace == 0 && t.bracket == 0) h in
    let y = and_parts (t.brace == 0) (t.bracket == 0) x.1 in
    record { escape = empty-is t.escape x.0; brace = zero-is t.brace y.0; bracket = zero-is t.bracket y.1 }

cut-test : (x : Bool) (o : Option Cause) (c : Cause) → o ≡ Some c → (if x then o else None) ≡ None → x ≡ false
cut-test true o c e h = absurd (given c (sym e ∙ h))
cut-test false o c e h = refl

not-cut : (t : Trail) → cut_markup_refusal t ≡ None → is_cut_markup t.markup ≡ false
not-cut t h = cut-test (is_cut_markup t.markup) (cause SplitToken 0 (length t.markup)) _ refl h

here : (a : At) (t : Trail) → Whole t → may_begin_text_at a t.markup ≡ true → (p : Spot) → spot_at a t ≡ Some p → CutHere a t
here a t w m p i = record { may = m; escape = w.escape; brace = w.brace; bracket = w.bracket; spot = p; is = i }

none-of : (x y : Bool) → x ≡ false → y ≡ false → (x || y) ≡ false
none-of true y e f = absurd (no e)
none-of false y e f = f

or-left : (x y : Bool) → x ≡ true → (x || y) ≡ true
or-left true y e = refl
or-left false y e = absurd (no-more e)

within-some : (x : Bool) (p : Spot) → x ≡ false → unless_within x p ≡ Some p
within-some true p e = absurd (no e)
within-some false p e = refl

-- of these bytes of markup, those that a node may not end in are refused
re-may : (m : List ℕ) → is_one_of ([] ∷ codes "<" ∷ codes "<!" ∷ []) m ≡ true → is_cut_markup m ≡ false → may_begin_text_at (Code sense.Re) m ≡ true
re-may m f h =
    among (λ (z : List ℕ). is_cut_markup z ≡ false → may_begin_text_at (Code sense.Re) z ≡ true) [] (codes "<" ∷ codes "<!" ∷ []) m f (λ x. refl) (λ g.
    among (λ (z : List ℕ). is_cut_markup z ≡ false → may_begin_text_at (Code sense.Re) z ≡ true) (codes "<") (codes "<!" ∷ []) m g (λ x. refl) (λ i.
    among (λ (z : List ℕ). is_cut_markup z ≡ false → may_begin_text_at (Code sense.Re) z ≡ true) (codes "<!") [] m i (λ x. absurd (no x)) (none-among m _))) h

div-may : (m : List ℕ) → is_one_of ([] ∷ codes "#" ∷ []) m ≡ true → may_begin_text_at (Code sense.Div) m ≡ true
div-may m f =
    among (λ (z : List ℕ). may_begin_text_at (Code sense.Div) z ≡ true) [] (codes "#" ∷ []) m f refl (λ g.
    among (λ (z : List ℕ). may_begin_text_at (Code sense.Div) z ≡ true) (codes "#") [] m g refl (none-among m _))

empty-may : (m : List ℕ) → is_empty m ≡ true → may_begin_text_at (Code sense.Brace) m ≡ true
empty-may m f = subst (λ (z : List ℕ). may_begin_text_at (Code sense.Brace) z ≡ true) (sym (empty-is m f)) refl

minus-may : (odd : Bool) (m : List ℕ) → is_one_of ([] ∷ codes "-" ∷ codes "--" ∷ codes "<!-" ∷ []) m ≡ true → is_cut_markup m ≡ false → may_begin_text_at (Minuses odd) m ≡ true
minus-may odd m f h =
    among (λ (z : List ℕ). is_cut_markup z ≡ false → may_begin_text_at (Minuses odd) z ≡ true) [] (codes "-" ∷ codes "--" ∷ codes "<!-" ∷ []) m f (λ x. refl) (λ g.
    among (λ (z : List ℕ). is_cut_markup z ≡ false → may_begin_text_at (Minuses odd) z ≡ true) (codes "-") (codes "--" ∷ codes "<!-" ∷ []) m g (λ x. refl) (λ i.
    among (λ (z : List ℕ). is_cut_markup z ≡ false → may_begin_text_at (Minuses odd) z ≡ true) (codes "--") (codes "<!-" ∷ []) m i (λ x. refl) (λ j.
    among (λ (z : List ℕ). is_cut_markup z ≡ false → may_begin_text_at (Minuses odd) z ≡ true) (codes "<!-") [] m j (λ x. absurd (no x)) (none-among m _)))) h

slash-may : (m : List ℕ) → is_one_of ([] ∷ codes "</" ∷ []) m ≡ true → is_cut_markup m ≡ false → may_begin_text_at (Slash sense.Re) m ≡ true
slash-may m f h =
    among (λ (z : List ℕ). is_cut_markup z ≡ false → may_begin_text_at (Slash sense.Re) z ≡ true) [] (codes "</" ∷ []) m f (λ x. refl) (λ g.
    among (λ (z : List ℕ). is_cut_markup z ≡ false → may_begin_text_at (Slash sense.Re) z ≡ true) (codes "</") [] m g (λ x. absurd (no x)) (none-among m _)) h

-- `</` and more is cut markup
cut-tag : (m : List ℕ) (x y : Bool) → starts_with nat_eq m (codes "</") ≡ true → (x || (y || starts_with nat_eq m (codes "</"))) ≡ false → ⊥
cut-tag m true y f h = no h
cut-tag m false true f h = no h
cut-tag m false false f h = no (sym f ∙ h)

tag-none : (m : List ℕ) → (is_empty m || starts_with nat_eq m (codes "</")) ≡ true → is_cut_markup m ≡ false → is_empty m ≡ true
tag-none m f h = elim (or_cases (is_empty m) (starts_with nat_eq m (codes "</")) f) [
  | inl e ↦ e
  | inr e ↦ absurd (cut-tag m (bytes_eq m (codes "<!")) (bytes_eq m (codes "<!-")) e h)
]

-- in an escape a node may not end
record NoneOpen (t : Trail) : Type 0 where
  escape : t.escape ≡ []
  brace : t.brace ≡ 0

test-none : (x : Bool) (c : Cause) (o : Option Cause) → (if x then Some c else o) ≡ None → x ≡ false
test-none true c o h = absurd (given c h)
test-none false c o h = refl

test-rest : (x : Bool) (c : Cause) (o : Option Cause) → (if x then Some c else o) ≡ None → o ≡ None
test-rest true c o h = absurd (given c h)
test-rest false c o h = h

zero-of : (n : ℕ) → nat_lt 0 n ≡ false → n ≡ 0
zero-of n h = omega (arith, ltb-false 0 n h)

empty-of : (e : List ℕ) (c : Cause) → (if is_empty e then None else Some c) ≡ None → e ≡ []
empty-of [] c h = refl
empty-of (x ∷ e) c h = absurd (given c h)

none-open : (t : Trail) → escape_refusal t ≡ None → NoneOpen t
none-open t h = record { escape = empty-of t.escape _ (test-rest (nat_lt 0 t.brace) _ _ h); brace = zero-of t.brace (test-none (nat_lt 0 t.brace) _ _ h) }

no-escape : (e : ScriptEscape) (y : List ℕ) → y ≡ [] → script_escape_fits e y ≡ true → is_no_script_escape e ≡ true
no-escape NoEscape y h f = refl
no-escape AfterBackslash y h f = absurd (no-more (sym (ap (λ (z : List ℕ). bytes_eq z (codes "\\")) h) ∙ f))
no-escape AfterX y h f = absurd (no-more (sym (ap (λ (z : List ℕ). bytes_eq z (codes "\\x")) h) ∙ f))
no-escape AfterX3 y h f = absurd (no-more (sym (ap (λ (z : List ℕ). bytes_eq z (codes "\\x3")) h) ∙ f))
no-escape AfterCarriageReturn y h f = absurd (no-more (sym (ap (λ (z : List ℕ). bytes_eq z (codes "\\\r")) h) ∙ f))

first-none : (o p : Option Cause) → first_script_cause o p ≡ None → o ≡ None
first-none None p h = refl
first-none (Some x) p h = absurd (given x h)

next-none : (o p : Option Cause) → first_script_cause o p ≡ None → p ≡ None
next-none None p h = h
next-none (Some x) p h = absurd (given x h)

closed-within : (t : Trail) → NoneOpen t → within_escape t ≡ false
closed-within t w = rw (w.escape, w.brace) refl

both-true : (x y : Bool) → x ≡ true → y ≡ true → (x && y) ≡ true
both-true true y e f = f
both-true false y e f = absurd (no-more e)

string-here : (q : Bool) (e : ScriptEscape) (t : Trail) → script_trail_fits (InString q e) t.escape t.brace t.bracket ≡ true → is_empty t.markup ≡ true → escape_refusal t ≡ None → CutHere (InString q e) t
string-here q e t f g h =
    let w = none-open t h in
    let x = and_parts (script_escape_fits e t.escape) (t.bracket == 0) f in
    record {
      may = both-true (is_no_script_escape e) (is_empty t.markup) (no-escape e t.escape w.escape x.0) g;
      escape = w.escape;
      brace = w.brace;
      bracket = zero-is t.bracket x.1;
      spot = StringSpot q;
      is = within-some (within_escape t) (StringSpot q) (closed-within t w);
    }

regexp-here : (e : ScriptEscape) (t : Trail) → script_trail_fits (InRegexp false e) t.escape t.brace t.bracket ≡ true → script_markup_fits (InRegexp false e) t.markup ≡ true
    → first_script_cause (escape_refusal t) (cut_markup_refusal t) ≡ None → CutHere (InRegexp false e) t
regexp-here e t f g h =
    let w = none-open t (first-none (escape_refusal t) (cut_markup_refusal t) h) in
    let c = not-cut t (next-none (escape_refusal t) (cut_markup_refusal t) h) in
    let x = and_parts (script_escape_fits e t.escape) (t.bracket == 0) f in
    let m = tag-none t.markup g c in
    record {
      may = both-true (is_no_script_escape e) (is_empty t.markup) (no-escape e t.escape w.escape x.0) m;
      escape = w.escape;
      brace = w.brace;
      bracket = zero-is t.bracket x.1;
      spot = RegexpSpot false;
      is = within-some (within_escape t || is_cut_markup t.markup) (RegexpSpot false) (none-of (within_escape t) (is_cut_markup t.markup) (closed-within t w) c);
    }

cut-here : (a : At) (t : Trail) → script_trail_fits a t.escape t.brace t.bracket ≡ true → script_markup_fits a t.markup ≡ true → cut_refusal_at a t ≡ None → CutHere a t
cut-here (Code sense.Re) t f g h =
    here (Code sense.Re) t (whole-of t f) (re-may t.markup g (not-cut t h)) (CodeSpot sense.Re (tail_of t.markup))
    (within-some (is_cut_markup t.markup) (CodeSpot sense.Re (tail_of t.markup)) (not-cut t h))
cut-here (Code sense.Div) t f g h =
    here (Code sense.Div) t (whole-of t f) (div-may t.markup g) (CodeSpot sense.Div (tail_of t.markup))
    (within-some (is_cut_markup t.markup) (CodeSpot sense.Div (tail_of t.markup)) (not-cut t h))
cut-here (Code sense.Brace) t f g h =
    here (Code sense.Brace) t (whole-of t f) (empty-may t.markup g) (CodeSpot sense.Brace (tail_of t.markup))
    (within-some (is_cut_markup t.markup) (CodeSpot sense.Brace (tail_of t.markup)) (not-cut t h))
cut-here (Word w) t f g h = here (Word w) t (whole-of t f) g (CodeSpot (sense_after w) WordTail) refl
cut-here Number t f g h = here Number t (whole-of t f) g (CodeSpot sense.Div NumberTail) refl
cut-here (Pluses odd) t f g h = here (Pluses odd) t (whole-of t f) g (CodeSpot (sense_if_odd odd) PlusTail) refl
cut-here (Minuses odd) t f g h =
    here (Minuses odd) t (whole-of t f) (minus-may odd t.markup g (not-cut t h)) (CodeSpot (sense_if_odd odd) MinusTail)
    (within-some (is_cut_markup t.markup) (CodeSpot (sense_if_odd odd) MinusTail) (not-cut t h))
cut-here (Slash sense.Re) t f g h =
    here (Slash sense.Re) t (whole-of t f) (slash-may t.markup g (not-cut t h)) (RegexpSpot true) (within-some (is_cut_markup t.markup) (RegexpSpot true) (not-cut t h))
cut-here (Slash sense.Div) t f g h = here (Slash sense.Div) t (whole-of t f) g (CodeSpot sense.Re SlashTail) refl
cut-here (Slash sense.Brace) t f g h = absurd (given _ h)
cut-here (LineComment s) t f g h = here (LineComment s) t (whole-of t f) g (LineSpot s) refl
cut-here (BlockComment s star) t f g h = here (BlockComment s star) t (whole-of t f) g (BlockSpot s star) refl
cut-here (InString q e) t f g h = string-here q e t f g h
cut-here (InRegexp true e) t f g h = absurd (given _ h)
cut-here (InRegexp false e) t f g h = regexp-here e t f g h
cut-here (InTemplate e d) t f g h = absurd (no-more g)
cut-here TooDeep t f g h = absurd (no-more g)

-- A path that has a place at the end of a node: there the next text begins.
record AtCut (v : ScriptState) : Type 0 where
  before : is_script_before (script_after_cut v) ≡ true
  may : script_may_begin_text (script_after_cut v) ≡ true
  spot : Spot
  is : script_spot v ≡ Some spot

held-of : (h : List ℕ) (o : Option Cause) → unless_in_character h o ≡ None → h ≡ []
held-of [] o k = refl
held-of (z ∷ h) o k = absurd (given _ k)

within-cut : (fs : List ℕ) (a : At) (h m e : List ℕ) (f : Bool) (n k l : ℕ) → is_script_within (parts fs a h m e f n k l) ≡ true → script_refuses_cut (parts fs a h m e f n k l) ≡ None
    → AtCut (parts fs a h m e f n k l)
within-cut [] a [] m e f n k l i r =
    let t = (parts [] a [] m e f n k l).trail in
    let x = and_parts (l == 0) (script_trail_fits a e n k && script_markup_fits a m) i in
    let y = and_parts (script_trail_fits a e n k) (script_markup_fits a m) x.1 in
    let c = cut-here a t y.0 y.1 r in
    let may = both-true (is_empty e && (n == 0 && (k == 0 && (l == 0 && true)))) (may_begin_text_at a m)
    (both-true (is_empty e) (n == 0 && (k == 0 && (l == 0 && true))) (ap is_empty c.escape)
    (both-true (n == 0) (k == 0 && (l == 0 && true)) (ap (λ (z : ℕ). z == 0) c.brace)
    (both-true (k == 0) (l == 0 && true) (ap (λ (z : ℕ). z == 0) c.bracket) (both-true (l == 0) true x.0 refl))))
    c.may in
    record {
      before = both-true (script_may_begin_text (script_after_cut (parts [] a [] m e f n k l))) true may refl;
      may = may;
      spot = c.spot;
      is = c.is;
    }
within-cut [] a (z ∷ h) m e f n k l i r = absurd (given _ r)
within-cut (j ∷ fs) a [] m e f n k l i r = absurd (given _ r)
within-cut (j ∷ fs) a (z ∷ h) m e f n k l i r = absurd (given _ r)

-- what is refused at the end of a node does not depend on the part of a comment
abbrev without-part : Trail → Trail
without-part t = record { fresh = t.fresh; markup = t.markup; escape = t.escape; brace = t.brace; bracket = t.bracket; literal = t.literal; lines = NoLineYet [] }

refusal-without-part : (a : At) (t : Trail) → cut_refusal_at a (without-part t) ≡ cut_refusal_at a t
refusal-without-part (Code s) t = refl
refusal-without-part (Word w) t = refl
refusal-without-part Number t = refl
refusal-without-part (Pluses odd) t = refl
refusal-without-part (Minuses odd) t = refl
refusal-without-part (Slash sense.Re) t = refl
refusal-without-part (Slash sense.Div) t = refl
refusal-without-part (Slash sense.Brace) t = refl
refusal-without-part (LineComment s) t = refl
refusal-without-part (BlockComment s star) t = refl
refusal-without-part (InString q e) t = refl
refusal-without-part (InRegexp true e) t = refl
refusal-without-part (InRegexp false e) t = refl
refusal-without-part (InTemplate e d) t = refl
refusal-without-part TooDeep t = refl

cut-without-part : (v : ScriptState) → unless_in_character v.held (whole_cut_refusal v.literals v.at (without-part v.trail)) ≡ script_refuses_cut v
cut-without-part v = ap (λ (o : Option Cause). unless_in_character v.held (if is_empty v.literals then o else cause JSTemplate 0 v.trail.literal)) (refusal-without-part v.at v.trail)

-- the place behind the end of a node
spot-cut : (a : At) (t : Trail) → spot_at a (record { fresh = true; markup = t.markup; escape = t.escape; brace = t.brace; bracket = t.bracket; literal = t.literal; lines = NoLineYet [] }) ≡ spot_at a t
spot-cut (Code s) t = refl
spot-cut (Word w) t = refl
spot-cut Number t = refl
spot-cut (Pluses odd) t = refl
spot-cut (Minuses odd) t = refl
spot-cut (Slash sense.Re) t = refl
spot-cut (Slash sense.Div) t = refl
spot-cut (Slash sense.Brace) t = refl
spot-cut (LineComment s) t = refl
spot-cut (BlockComment s star) t = refl
spot-cut (InString q e) t = refl
spot-cut (InRegexp true e) t = refl
spot-cut (InRegexp false e) t = refl
spot-cut (InTemplate e d) t = refl
spot-cut TooDeep t = refl

cut-spot : (v : ScriptState) → script_spot (script_after_cut v) ≡ script_spot v
cut-spot v = ap (λ (o : Option Spot). if is_empty v.literals && is_empty v.held then o else None) (spot-cut v.at v.trail)

at-cut : (v : ScriptState) → is_script_within v ≡ true → script_refuses_cut v ≡ None → AtCut v
at-cut v i r =
    let x = within-cut v.literals v.at v.held v.trail.markup v.trail.escape v.trail.fresh v.trail.brace v.trail.bracket v.trail.literal i (cut-without-part v ∙ r) in
    record { before = x.before; may = x.may; spot = x.spot; is = sym (cut-spot v) ∙ (cut-spot (parts v.literals v.at v.held v.trail.markup v.trail.escape v.trail.fresh v.trail.brace v.trail.bracket v.trail.literal) ∙ x.is) }

before-spot : (a : At) (h m : List ℕ) → EndsBefore a h m → (p : Spot) × (spot_at a (script_before a h m).trail ≡ Some p)
before-spot _ _ _ (ends_code s h) = (_, refl)
before-spot _ _ _ (ends_less s) = (_, refl)
before-spot _ _ _ (ends_hash s) = (_, refl)
before-spot _ _ _ (ends_word w h) = (_, refl)
before-spot _ _ _ (ends_number h) = (_, refl)
before-spot _ _ _ (ends_pluses odd h) = (_, refl)
before-spot _ _ _ (ends_minuses odd h) = (_, refl)
before-spot _ _ _ (ends_minus odd) = (_, refl)
before-spot _ _ _ (ends_two_minuses odd) = (_, refl)
before-spot _ _ _ ends_regexp_slash = (_, refl)
before-spot _ _ _ (ends_slash h) = (_, refl)
before-spot _ _ _ (ends_line s h) = (_, refl)
before-spot _ _ _ (ends_block s star) = (_, refl)
before-spot _ _ _ (ends_string q) = (_, refl)
before-spot _ _ _ ends_regexp = (_, refl)

before-may : (a : At) (h m : List ℕ) → EndsBefore a h m → script_may_begin_text (script_before a h m) ≡ true
before-may _ _ _ (ends_code s h) = refl
before-may _ _ _ (ends_less s) = refl
before-may _ _ _ (ends_hash s) = refl
before-may _ _ _ (ends_word w h) = refl
before-may _ _ _ (ends_number h) = refl
before-may _ _ _ (ends_pluses odd h) = refl
before-may _ _ _ (ends_minuses odd h) = refl
before-may _ _ _ (ends_minus odd) = refl
before-may _ _ _ (ends_two_minuses odd) = refl
before-may _ _ _ ends_regexp_slash = refl
before-may _ _ _ (ends_slash h) = refl
before-may _ _ _ (ends_line s h) = refl
before-may _ _ _ (ends_block s star) = refl
before-may _ _ _ (ends_string q) = refl
before-may _ _ _ ends_regexp = refl

before-cut : (a : At) (h m : List ℕ) → EndsBefore a h m → script_refuses_cut (script_before a h m) ≡ None → AtCut (script_before a h m)
before-cut a h m e r =
    let o = whole_cut_refusal [] a (script_before a h m).trail in
    record {
      before = before-fits a h m e;
      may = before-may a h m e;
      spot = (before-spot a h m e).0;
      is = ap (λ (z : List ℕ). if is_empty z then spot_at a (script_before a h m).trail else None) (held-of h o r) ∙ (before-spot a h m e).1;
    }

-- the body behind the end of a node
body-of : (v : ScriptState) (p : Spot) (c : Js) → script_may_begin_text v ≡ true → script_spot v ≡ Some p → script_place p ≡ c → script_body v ≡ Some (body.Js c)
body-of v p c m s e =
    ap (λ (x : Bool). option_map body.Js (if x then option_map script_place (script_spot v) else None)) m
    ∙ (ap (λ (o : Option Spot). option_map body.Js (option_map script_place o)) s ∙ ap (λ (z : Js). Some (body.Js z)) e)

body-at-cut : (v : ScriptState) (c : Js) → (x : AtCut v) → script_place x.spot ≡ c → script_body (script_after_cut v) ≡ Some (body.Js c)
body-at-cut v c x e = body-of (script_after_cut v) x.spot c x.may (cut-spot v ∙ x.is) e

start-at-cut : (v : ScriptState) (n : ScriptScan) → AtCut v → script_alone_before (script_after_cut v) ≡ n → script_scanned (script_after_cut v) ≡ Some n
start-at-cut v n x e = scanned-before (script_after_cut v) (is-before (script_after_cut v) x.before) ∙ ap Some e

-- One path, within a text and before the first character.
one-within : (v : ScriptState) → v.trail.fresh ≡ false → is_script_within v ≡ true → OneScriptPath v (script_alone v)
one-within v f i =
    let one : OneScript v = exact-on-one-script.goes_on v f in
    record {
      error = one.error;
      next = λ element b r.
          scanned-within (feed_script v b) (one.within b)
          (within-fed element v b i (next-none (split_refusal v (class_of b) b) (refusal_outside v.literals element v (class_of b) b) r))
          ∙ ap Some (sym (one.next b));
      shown = alone-shown v f;
      cut_error = one.cut_error;
      end_error = one.end_error;
      stands = λ r. (let x = at-cut v i r in body-at-cut v (script_scan_place (script_alone v)) x (one.place x.spot x.is));
      after_cut = λ r. (let x = at-cut v i r in start-at-cut v (script_scan_start (script_scan_place (script_alone v))) x (one.after_cut x.spot x.is));
    }

next-before : (x : Bool) (v : ScriptState) (i : IsBeforeText v) (element : Bool) (b : ℕ) → script_refuses element v b ≡ None → (feed_script v b).trail.fresh ≡ x
    → (x ≡ false → is_script_within (feed_script v b) ≡ true) → script_scanned (feed_script v b) ≡ Some (script_scan_next (script_alone_before v) b)
next-before true v i element b r f w =
    let one : OneScriptBefore v = scripts-begin-as-one v i in
    scanned-before (feed_script v b) (one.held b f) ∙ ap Some (sym (one.holds b f))
next-before false v i element b r f w =
    let one : OneScriptBefore v = scripts-begin-as-one v i in
    scanned-within (feed_script v b) f (w refl) ∙ ap Some (sym (one.next element b r f))

one-before : (a : At) (h m : List ℕ) → EndsBefore a h m → OneScriptPath (script_before a h m) (script_alone_before (script_before a h m))
one-before a h m e =
    let v : ScriptState = script_before a h m in
    let i : IsBeforeText v = before_text a h m e in
    let one : OneScriptBefore v = scripts-begin-as-one v i in
    record {
      error = one.error;
      next = λ element b r. next-before (feed_script v b).trail.fresh v i element b r refl (λ f. first-within a h m e element b r f);
      shown = before-shown a h m e;
      cut_error = one.cut_error;
      end_error = one.end_error;
      stands = λ r. (let x = before-cut a h m e r in body-at-cut v (script_scan_place (script_alone_before v)) x (one.place x.spot x.is));
      after_cut = λ r. (let x = before-cut a h m e r in start-at-cut v (script_scan_start (script_scan_place (script_alone_before v))) x (one.after_cut x.spot x.is));
    }

one-at : (v : ScriptState) → IsBeforeText v → OneScriptPath v (script_alone_before v)
one-at _ (before_text a h m e) = one-before a h m e

scanned-true : (x : Bool) (m n : ScriptScan) → script_scanned_if x m ≡ Some n → x ≡ true
scanned-true true m n h = refl
scanned-true false m n h = absurd (none-given n h)

scanned-same : (x : Bool) (m n : ScriptScan) → script_scanned_if x m ≡ Some n → m ≡ n
scanned-same true m n h = some-same m n h
scanned-same false m n h = absurd (none-given n h)

scanned-by : (f : Bool) (v : ScriptState) (n : ScriptScan) → v.trail.fresh ≡ f
    → (if f then script_scanned_if (is_script_before v) (script_alone_before v) else script_scanned_if (is_script_within v) (script_alone v)) ≡ Some n → OneScriptPath v n
scanned-by true v n f h =
    subst (OneScriptPath v) (scanned-same (is_script_before v) (script_alone_before v) n h)
    (one-at v (is-before v (scanned-true (is_script_before v) (script_alone_before v) n h)))
scanned-by false v n f h =
    subst (OneScriptPath v) (scanned-same (is_script_within v) (script_alone v) n h)
    (one-within v f (scanned-true (is_script_within v) (script_alone v) n h))

-- A path that has a place.
cut-none : (a : At) (h m : List ℕ) → EndsBefore a h m → whole_cut_refusal [] a (script_before a h m).trail ≡ None
cut-none _ _ _ (ends_code s h) = refl
cut-none _ _ _ (ends_less s) = refl
cut-none _ _ _ (ends_hash s) = refl
cut-none _ _ _ (ends_word w h) = refl
cut-none _ _ _ (ends_number h) = refl
cut-none _ _ _ (ends_pluses odd h) = refl
cut-none _ _ _ (ends_minuses odd h) = refl
cut-none _ _ _ (ends_minus odd) = refl
cut-none _ _ _ (ends_two_minuses odd) = refl
cut-none _ _ _ ends_regexp_slash = refl
cut-none _ _ _ (ends_slash h) = refl
cut-none _ _ _ (ends_line s h) = refl
cut-none _ _ _ (ends_block s star) = refl
cut-none _ _ _ (ends_string q) = refl
cut-none _ _ _ ends_regexp = refl

hole-body : (a : At) (h m : List ℕ) → EndsBefore a h m → script_body (script_after_hole (script_before a [] m)) ≡ Some (body.Js (script_at_hole (begun-place a m)))
hole-body _ _ _ (ends_code s h) = refl
hole-body _ _ _ (ends_less s) = refl
hole-body _ _ _ (ends_hash s) = refl
hole-body _ _ _ (ends_word w h) = refl
hole-body _ _ _ (ends_number h) = refl
hole-body _ _ _ (ends_pluses odd h) = refl
hole-body _ _ _ (ends_minuses odd h) = refl
hole-body _ _ _ (ends_minus odd) = refl
hole-body _ _ _ (ends_two_minuses odd) = refl
hole-body _ _ _ ends_regexp_slash = refl
hole-body _ _ _ (ends_slash h) = refl
hole-body _ _ _ (ends_line s h) = refl
hole-body _ _ _ (ends_block s star) = refl
hole-body _ _ _ (ends_string true) = refl
hole-body _ _ _ (ends_string false) = refl
hole-body _ _ _ ends_regexp = refl

held-place : (a : At) (h m : List ℕ) → h ≡ [] → begun-place a m ≡ script_scan_place (script_alone_before (script_before a h m))
held-place a h m e = ap (λ (z : List ℕ). script_scan_place (script_alone_before (script_before a z m))) (sym e)

stands-before : (v : ScriptState) (p : Spot) → IsBeforeText v → script_spot v ≡ Some p → OneScriptPlace v (script_place p)
stands-before _ p (before_text a h m e) s =
    let v : ScriptState = script_before a h m in
    let one : OneScriptBefore v = scripts-begin-as-one v (before_text a h m e) in
    let held : h ≡ [] = own-held v p s in
    record {
      scanned = scanned-before v (before_text a h m e) ∙ ap Some (one.after_cut p s ∙ ap script_scan_start (sym (one.place p s)));
      kept = refl;
      cut_error = ap (λ (z : List ℕ). unless_in_character z (whole_cut_refusal [] a v.trail)) held ∙ cut-none a h m e;
      behind_hole =
          ap (λ (z : List ℕ). script_body (script_after_hole (script_before a z m))) held
          ∙ (hole-body a h m e ∙ ap (λ (c : Js). Some (body.Js (script_at_hole c))) (held-place a h m held ∙ sym (one.place p s)));
    }

-- what a state has that has a body
record BodyBy (k : Bool) (o : Option Spot) (x : Body) : Type 0 where
  may : k ≡ true
  spot : Spot
  is : o ≡ Some spot
  whole : x ≡ body.Js (script_place spot)

body-by : (k : Bool) (o : Option Spot) (x : Body) → option_map body.Js (if k then option_map script_place o else None) ≡ Some x → BodyBy k o x
body-by true (Some p) x h = record { may = refl; spot = p; is = refl; whole = sym (some-same (body.Js (script_place p)) x h) }
body-by true None x h = absurd (none-given x h)
body-by false o x h = absurd (none-given x h)

abbrev HasBody : ScriptState → Body → Type 0
HasBody v x = BodyBy (script_may_begin_text v) (script_spot v) x

has-body : (v : ScriptState) (x : Body) → script_body v ≡ Some x → HasBody v x
has-body v x h = body-by (script_may_begin_text v) (script_spot v) x h

spot-outside : (fs : List ℕ) (y : Bool) (o : Option Spot) (p : Spot) → (if is_empty fs && y then o else None) ≡ Some p → is_empty fs ≡ true
spot-outside [] y o p h = refl
spot-outside (j ∷ fs) y o p h = absurd (none-given p h)

body-before : (v : ScriptState) (x : Body) → HasBody v x → IsBeforeText v
body-before v x y =
    is-before v
    (both-true (is_empty v.literals) (script_may_begin_text v && held-fits v.at v.held v.trail.markup)
    (spot-outside v.literals (is_empty v.held) (spot_at v.at v.trail) y.spot y.is)
    (both-true (script_may_begin_text v) (held-fits v.at v.held v.trail.markup) y.may
    (or-left (is_empty v.held) (tells_white_apart v.at && is_empty v.trail.markup) (ap is_empty (own-held v y.spot y.is)))))

one-js : (c d : Js) → body.Js c ≡ body.Js d → c ≡ d
one-js c d h = cc

stands-at : (v : ScriptState) (c : Js) → script_body v ≡ Some (body.Js c) → OneScriptPlace v c
stands-at v c h =
    let y = has-body v (body.Js c) h in
    subst (OneScriptPlace v) (sym (one-js c (script_place y.spot) y.whole)) (stands-before v y.spot (body-before v (body.Js c) y) y.is)

pub script-paths-are-scanned : ScriptPathsAreScanned
script-paths-are-scanned = record {
  begins = refl;
  goes_on = λ v n h. scanned-by v.trail.fresh v n refl h;
  stands = stands-at;
  is_script = λ v x h. (let y = has-body v x h in (script_place y.spot, y.whole));
}
