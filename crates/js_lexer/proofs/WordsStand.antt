-- What is written of `<script`, `</script` and `<!--` in the text of a token, and of what begins one where the node ends, leads a page where the word
-- leads the path.
use Rattle.std.proofs.Common.{◌≡◌, inl, inr, ℕ, ◌==◌, ◌||◌, ◌&&◌, Bool, true, false, codes, List, [], ◌∷◌, ◌++◌, None, refl, sym, ap, ap₂, ◌∙◌, subst, true≢false, eqb-true}
use Rattle.std.proofs.lemmas.Bool.{and_parts, cases_Bool}
use Rattle.std.specs.List.{list_all}
use Rattle.js_lexer.specs.Classes.{class_of}
use Rattle.js_lexer.specs.Elements.{is_code_or_comment, script_may_end}
use Rattle.js_lexer.specs.Events.{ScriptEvent}
use Rattle.js_lexer.specs.Feeding.{tells_white_apart, read_at, feed_script, script_emits, point_of}
use Rattle.js_lexer.specs.PageScripts.{PageScript, page_script, told_inside, read_in_page, ScriptStandsAt, ScriptStands, ScriptStandsLaws, ScriptTakes, are_behind_less, is_byte_of_word}
use Rattle.js_lexer.specs.States.{ScriptEscape, At, Slash, InString, InRegexp, InTemplate, TooDeep, point, Trail, ScriptState}
use Rattle.js_lexer.specs.Steps.{is_taken_in_script, is_taken_in_string, next_regexp, next_script_string, next_template}
use Rattle.js_lexer.specs.Refusals.{script_refuses_cut}
use Rattle.js_lexer.specs.Trails.{is_empty, is_markup_code}
use Rattle.js_lexer.specs.Written.{escaped_less, is_hidden_in_script, is_slash, is_taken_at, is_text, script_hides, waiting_slash}
use Rattle.js_lexer.specs.declared.class.ScriptClass.TheVariants as class
use Rattle.js_lexer.specs.declared.sense.Sense.TheVariants as sense
use Rattle.js_lexer.proofs.CommentBlanks.{SameInPage, regexp-slash, same-alike, same-steps, string-slash, template-slash}
use Rattle.js_lexer.proofs.InnerWords.{IsHiddenWord, hidden-word, inner-cut, inner-word, is_inner}
use Rattle.js_lexer.proofs.LessReads.{less-reads, taken-reads, text_state}
use Rattle.js_lexer.proofs.PageScriptsStand.{alike-same, at-slash, byte-at, cut-at, deep-stands, elsewhere-stands, ends-at, hole-at, slash-cut}
use Rattle.js_lexer.proofs.ScriptKinds.{PointKind, Elsewhere, Deep, kind, kind_of}
use Rattle.js_lexer.proofs.ScriptReleases.{Outcome, Goes, Sinks, Slashes, deep-stays, outcome}
use Rattle.js_lexer.proofs.WrittenKeeps.{same-then}

-- Where nothing waits: elsewhere, or in literals that nest too deep.
data Open : PointKind → Type 0 where
  OpenHere : Open Elsewhere
  OpenDeep : Open Deep

open-kind : {E : Type 0} (inside : ScriptEvent → E) (k : PointKind) (v : ScriptState) (t : List E) (p : PageScript E) → Open k → kind_of (point_of v) ≡ k → SameInPage E v t p → ScriptStands E inside v t p
open-kind inside k v t p OpenHere e h = elsewhere-stands inside v.literals v.at v t p e (same-alike v t p h)
open-kind inside k v t p OpenDeep e h = deep-stands inside v.literals v.at v t p e

no-solidus : (b : ℕ) → b ≡ 47 → (b == 47) ≡ false → ⊥
no-solidus b e f = true≢false (sym (ap (λ (c : ℕ). c == 47) e) ∙ f)

outcome-open : (b : ℕ) (k : PointKind) → Outcome b k → (b == 47) ≡ false → Open k
outcome-open b k Goes f = OpenHere
outcome-open b k Sinks f = OpenDeep
outcome-open b k (Slashes e) f = absurd (no-solidus b e f)

open-step : (k : PointKind) (v : ScriptState) (b : ℕ) → Open k → kind_of (point_of v) ≡ k → (b == 47) ≡ false → Open (kind_of (point_of (feed_script v b)))
open-step k v b OpenHere e f = outcome-open b _ (outcome (tells_white_apart v.at) v.held b (point_of v) e) f
open-step k v b OpenDeep e f = subst Open (sym (deep-stays (read_at (tells_white_apart v.at) v.held (class_of b) b) (point_of v) e)) OpenDeep

word-byte : (b : ℕ) → is_byte_of_word b ≡ true → (b == 47) ≡ false
word-byte b e = elim (cases_Bool (b == 47)) [
  | inl f ↦ absurd (true≢false (sym e ∙ ap is_byte_of_word (eqb-true b 47 f)))
  | inr f ↦ f
]

open-steps : {E : Type 0} (inside : ScriptEvent → E) (bs : List ℕ) (v : ScriptState) (t : List E) → Open (kind_of (point_of v)) → list_all is_byte_of_word bs ≡ true
    → Open (kind_of (point_of (read_in_page inside bs (page_script v t)).state))
open-steps inside [] v t o e = o
open-steps inside (b ∷ bs) v t o e =
    let p = and_parts _ _ e in
    open-steps inside bs (feed_script v b) (told_inside inside (script_emits v b []) t) (open-step _ v b o refl (word-byte b p.0)) p.1

-- Behind a `<` a token goes on; behind a `/` too, or it ends.
abbrev is_token : At → Bool
is_token (InString q e) = true
is_token (InRegexp k e) = true
is_token (InTemplate e d) = true
is_token a = false

token-elsewhere : (fs : List ℕ) (a : At) → is_token a ≡ true → kind fs a ≡ Elsewhere
token-elsewhere [] (InString q e) i = refl
token-elsewhere (n ∷ fs) (InString q e) i = refl
token-elsewhere [] (InRegexp k e) i = refl
token-elsewhere (n ∷ fs) (InRegexp k e) i = refl
token-elsewhere [] (InTemplate e d) i = refl
token-elsewhere (n ∷ fs) (InTemplate e d) i = refl
token-elsewhere fs (Slash s) i = absurd (true≢false (sym i))
token-elsewhere fs a i = absurd (true≢false (sym i))

string-goes : (taken q : Bool) (e : ScriptEscape) (fs : List ℕ) → is_token (next_script_string taken q e class.LessThan 60 fs).at ≡ true
string-goes true q e fs = refl
string-goes false true e fs = refl
string-goes false false e fs = refl

regexp-goes : (taken k : Bool) (e : ScriptEscape) (fs : List ℕ) → is_token (next_regexp taken k e class.LessThan 60 fs).at ≡ true
regexp-goes true k e fs = refl
regexp-goes false true e fs = refl
regexp-goes false false e fs = refl

template-goes : (taken : Bool) (e : ScriptEscape) (d : Bool) (fs : List ℕ) → is_token (next_template taken e d class.LessThan 60 fs).at ≡ true
template-goes true e d fs = refl
template-goes false e true fs = refl
template-goes false e false fs = refl

less-goes : (fs : List ℕ) (a : At) (held : List ℕ) (trail : Trail) → is_text a ≡ true → is_token (feed_script (text_state fs a held trail) 60).at ≡ true
unfolding class_of
less-goes fs (InString q e) held trail i = string-goes (is_taken_in_string e 60) q e fs
less-goes fs (InRegexp k e) held trail i = regexp-goes (is_taken_in_script e) k e fs
less-goes fs (InTemplate e d) held trail i = template-goes (is_taken_in_script e) e d fs
less-goes fs (Slash sense.Re) held trail i = refl
less-goes fs (Slash s) held trail i = absurd (true≢false (sym i))
less-goes fs a held trail i = absurd (true≢false (sym i))

solidus-none : (fs : List ℕ) (a : At) (held : List ℕ) (trail : Trail) → is_token a ≡ true → is_slash (feed_script (text_state fs a held trail) 47).at ≡ false
unfolding class_of
solidus-none fs (InString q e) held trail i = string-slash (is_taken_in_string e 47) q e fs
solidus-none fs (InRegexp k e) held trail i = regexp-slash (is_taken_in_script e) k e fs
solidus-none fs (InTemplate e d) held trail i = template-slash (is_taken_in_script e) e d fs
solidus-none fs (Slash s) held trail i = absurd (true≢false (sym i))
solidus-none fs a held trail i = absurd (true≢false (sym i))

solidus-open-by : (k : PointKind) (fs : List ℕ) (a : At) → Outcome 47 k → kind fs a ≡ k → is_slash a ≡ false → Open k
solidus-open-by k fs a Goes e f = OpenHere
solidus-open-by k fs a Sinks e f = OpenDeep
solidus-open-by k fs a (Slashes i) e f = absurd (true≢false (sym (ap is_slash (at-slash fs a e).at) ∙ f))

solidus-open : (v : ScriptState) → is_token v.at ≡ true → Open (kind_of (point_of (feed_script v 47)))
solidus-open v i =
    let u = feed_script v 47 in
    solidus-open-by _ u.literals u.at (outcome (tells_white_apart v.at) v.held 47 (point_of v) (token-elsewhere v.literals v.at i)) refl (solidus-none v.literals v.at v.held v.trail i)

first-open : (v : ScriptState) (b : ℕ) → is_token v.at ≡ true → (b == 47 || is_byte_of_word b) ≡ true → Open (kind_of (point_of (feed_script v b)))
first-open v b i e = elim (cases_Bool (b == 47)) [
  | inl f ↦ subst (λ (c : ℕ). Open (kind_of (point_of (feed_script v c)))) (sym (eqb-true b 47 f)) (solidus-open v i)
  | inr f ↦ open-step _ v b (subst Open (sym (token-elsewhere v.literals v.at i)) OpenHere) refl f
]

behind-open : {E : Type 0} (inside : ScriptEvent → E) (bs : List ℕ) (v : ScriptState) (t : List E) → is_token v.at ≡ true → are_behind_less bs ≡ true
    → Open (kind_of (point_of (read_in_page inside bs (page_script v t)).state))
behind-open inside [] v t i e = subst Open (sym (token-elsewhere v.literals v.at i)) OpenHere
behind-open inside (b ∷ bs) v t i e =
    let p = and_parts _ _ e in
    open-steps inside bs (feed_script v b) (told_inside inside (script_emits v b []) t) (first-open v b i p.0) p.1

-- The `<` as it is written.
same-through : {E : Type 0} (u : ScriptState) (r : PageScript E) (t : List E) (q : PageScript E) → SameInPage E u t r → SameInPage E r.state r.told q → SameInPage E u t q
same-through u r t q h g = record {
  escape = record { escape = g.escape.escape ∙ h.escape.escape; brace = g.escape.brace ∙ h.escape.brace };
  same = same-then u r.state q.state h.same g.same;
  told = g.told ∙ h.told;
}

less-same : {E : Type 0} (inside : ScriptEvent → E) (x : Bool) (v : ScriptState) (t : List E) (q : PageScript E) → is_taken_at v.at ≡ x → is_text v.at ≡ true → SameInPage E v t q
    → SameInPage E (feed_script v 60) (told_inside inside (script_emits v 60 []) t) (read_in_page inside (escaped_less x) q)
less-same inside true v t q e i h =
    same-through (feed_script v 60) (read_in_page inside (codes "x3C") (page_script v t)) _ (read_in_page inside (codes "x3C") q)
    (taken-reads inside v.literals v.at v.held v.trail t e) (same-steps inside (codes "x3C") v t q h)
less-same inside false v t q e i h =
    same-through (feed_script v 60) (read_in_page inside (codes "\\x3C") (page_script v t)) _ (read_in_page inside (codes "\\x3C") q)
    (less-reads inside v.literals v.at v.held v.trail t i e) (same-steps inside (codes "\\x3C") v t q h)

text-base : {E : Type 0} (inside : ScriptEvent → E) (fs : List ℕ) (a : At) (held : List ℕ) (trail : Trail) (t : List E) (p : PageScript E) → ScriptStandsAt fs a E inside (text_state fs a held trail) t p
    → is_text a ≡ true → SameInPage E (text_state fs a held trail) t (read_in_page inside (waiting_slash (text_state fs a held trail)) p)
text-base inside [] (InString q e) held trail t p h i = alike-same (text_state [] (InString q e) held trail) t p refl h
text-base inside (n ∷ fs) (InString q e) held trail t p h i = alike-same (text_state (n ∷ fs) (InString q e) held trail) t p refl h
text-base inside [] (InRegexp k e) held trail t p h i = alike-same (text_state [] (InRegexp k e) held trail) t p refl h
text-base inside (n ∷ fs) (InRegexp k e) held trail t p h i = alike-same (text_state (n ∷ fs) (InRegexp k e) held trail) t p refl h
text-base inside [] (InTemplate e d) held trail t p h i = alike-same (text_state [] (InTemplate e d) held trail) t p refl h
text-base inside (n ∷ fs) (InTemplate e d) held trail t p h i = alike-same (text_state (n ∷ fs) (InTemplate e d) held trail) t p refl h
text-base inside [] (Slash s) held trail t p h i =
    let v = text_state [] (Slash s) held trail in
    alike-same v t (read_in_page inside (waiting_slash v) p) refl (slash-cut inside _ s held trail t p refl h)
text-base inside (n ∷ fs) (Slash s) held trail t p h i = alike-same (text_state (n ∷ fs) (Slash s) held trail) t p refl h
text-base inside fs a held trail t p h i = absurd (true≢false (sym i))

read-append : {E : Type 0} (inside : ScriptEvent → E) (xs ys : List ℕ) (p : PageScript E) → read_in_page inside (xs ++ ys) p ≡ read_in_page inside ys (read_in_page inside xs p)
read-append inside [] ys p = refl
read-append inside (x ∷ xs) ys p = read-append inside xs ys (read_in_page inside (x ∷ []) p)

-- what is to be shown of a word
abbrev pub Hidden : {E : Type 0} → (ScriptEvent → E) → ScriptState → List ℕ → List E → PageScript E → Type 0
Hidden {E} inside v bytes t p = (let r = read_in_page inside bytes (page_script v t) in ScriptStands E inside r.state r.told (read_in_page inside (script_hides v bytes) p))

pub text-hidden : {E : Type 0} (inside : ScriptEvent → E) (v : ScriptState) (bs : List ℕ) (t : List E) (p : PageScript E) → ScriptStands E inside v t p → is_text v.at ≡ true
    → are_behind_less bs ≡ true → Hidden inside v (60 ∷ bs) t p
text-hidden {E} inside v bs t p h i e =
    let q = read_in_page inside (waiting_slash v) p in
    let less = escaped_less (is_taken_at v.at) in
    let u = feed_script v 60 in
    let told = told_inside inside (script_emits v 60 []) t in
    let r = read_in_page inside bs (page_script u told) in
    let same = same-steps inside bs u told (read_in_page inside less q) (less-same inside (is_taken_at v.at) v t q refl i (text-base inside v.literals v.at v.held v.trail t p h i)) in
    subst (λ (d : PageScript E). ScriptStands E inside r.state r.told d)
    (sym (read-append inside (waiting_slash v) (less ++ bs) p ∙ read-append inside less bs q))
    (open-kind inside _ r.state r.told (read_in_page inside bs (read_in_page inside less q))
    (behind-open inside bs u told (less-goes v.literals v.at v.held v.trail i) e) refl same)

-- In literals that nest too deep nothing is owed.
deep-steps : {E : Type 0} (inside : ScriptEvent → E) (bs : List ℕ) (v : ScriptState) (t : List E) → kind_of (point_of v) ≡ Deep → kind_of (point_of (read_in_page inside bs (page_script v t)).state) ≡ Deep
deep-steps inside [] v t e = e
deep-steps inside (b ∷ bs) v t e =
    deep-steps inside bs (feed_script v b) (told_inside inside (script_emits v b []) t) (deep-stays (read_at (tells_white_apart v.at) v.held (class_of b) b) (point_of v) e)

deep-hidden : {E : Type 0} (inside : ScriptEvent → E) (v : ScriptState) (bytes : List ℕ) (t : List E) (p : PageScript E) → kind_of (point_of v) ≡ Deep → Hidden inside v bytes t p
deep-hidden inside v bytes t p e = (let r = read_in_page inside bytes (page_script v t) in deep-stands inside r.state.literals r.state.at r.state r.told _ (deep-steps inside bytes v t e))

-- Where no end tag may end the script, the path is in the text of a token, in such literals, or in the code of a literal.
data Within : List ℕ → At → Type 0 where
  InText : (fs : List ℕ) (a : At) → is_text a ≡ true → Within fs a
  InDeep : (fs : List ℕ) (a : At) → kind fs a ≡ Deep → Within fs a
  InCode : (fs : List ℕ) (a : At) → is_inner (point fs a) ≡ true → is_markup_code true a ≡ true → Within fs a

within : {E : Type 0} (inside : ScriptEvent → E) (fs : List ℕ) (a : At) (v : ScriptState) (t : List E) (p : PageScript E) → ScriptStandsAt fs a E inside v t p
    → (is_empty fs && is_code_or_comment a) ≡ false → Within fs a
within inside fs (InString q e) v t p h m = InText fs (InString q e) refl
within inside fs (InRegexp k e) v t p h m = InText fs (InRegexp k e) refl
within inside fs (InTemplate e d) v t p h m = InText fs (InTemplate e d) refl
within inside fs (Slash sense.Re) v t p h m = InText fs (Slash sense.Re) refl
within inside [] TooDeep v t p h m = absurd h
within inside (n ∷ fs) TooDeep v t p h m = InDeep (n ∷ fs) TooDeep refl
within inside [] (Slash sense.Div) v t p h m = absurd (true≢false m)
within inside [] (Slash sense.Brace) v t p h m = absurd (true≢false m)
within inside [] a v t p h m = absurd (true≢false m)
within inside (n ∷ fs) (Slash sense.Div) v t p h m = InCode (n ∷ fs) (Slash sense.Div) refl refl
within inside (n ∷ fs) (Slash sense.Brace) v t p h m = InCode (n ∷ fs) (Slash sense.Brace) refl refl
within inside (n ∷ fs) a v t p h m = InCode (n ∷ fs) a refl refl

word-within : {E : Type 0} (inside : ScriptEvent → E) (v : ScriptState) (bytes : List ℕ) (t : List E) (p : PageScript E) (fs : List ℕ) (a : At) → v.literals ≡ fs → v.at ≡ a → Within fs a
    → ScriptStands E inside v t p → IsHiddenWord bytes → ScriptTakes v bytes → Hidden inside v bytes t p
word-within inside v bytes t p fs a e f (InText gs d i) h w k = subst (λ (bs : List ℕ). Hidden inside v bs t p) (sym w.is) (text-hidden inside v w.rest t p h (ap is_text f ∙ i) w.behind)
word-within inside v bytes t p fs a e f (InDeep gs d i) h w k = deep-hidden inside v bytes t p (ap₂ kind e f ∙ i)
word-within inside v bytes t p fs a e f (InCode gs d i m) h w k =
    absurd (inner-word v bytes w (ap is_inner (ap₂ point e f) ∙ i) (ap (is_markup_code true) f ∙ m) k)

pub word-stands : {E : Type 0} (inside : ScriptEvent → E) (v : ScriptState) (bytes : List ℕ) (t : List E) (p : PageScript E) → ScriptStands E inside v t p → script_may_end v ≡ false
    → is_hidden_in_script bytes ≡ true → ScriptTakes v bytes → Hidden inside v bytes t p
word-stands inside v bytes t p h m w k = word-within inside v bytes t p v.literals v.at refl refl (within inside v.literals v.at v t p h m) h (hidden-word bytes w) k

begun-within : {E : Type 0} (inside : ScriptEvent → E) (v : ScriptState) (bs : List ℕ) (t : List E) (p : PageScript E) (fs : List ℕ) (a : At) → v.literals ≡ fs → v.at ≡ a → Within fs a
    → ScriptStands E inside v t p → are_behind_less bs ≡ true → script_refuses_cut (read_in_page inside (60 ∷ bs) (page_script v t)).state ≡ None → Hidden inside v (60 ∷ bs) t p
begun-within inside v bs t p fs a e f (InText gs d i) h w n = text-hidden inside v bs t p h (ap is_text f ∙ i) w
begun-within inside v bs t p fs a e f (InDeep gs d i) h w n = deep-hidden inside v (60 ∷ bs) t p (ap₂ kind e f ∙ i)
begun-within inside v bs t p fs a e f (InCode gs d i m) h w n = absurd (inner-cut inside bs v t (ap is_inner (ap₂ point e f) ∙ i) w n)

pub begun-stands : {E : Type 0} (inside : ScriptEvent → E) (v : ScriptState) (bs : List ℕ) (t : List E) (p : PageScript E) → ScriptStands E inside v t p → script_may_end v ≡ false
    → are_behind_less bs ≡ true → script_refuses_cut (read_in_page inside (60 ∷ bs) (page_script v t)).state ≡ None → Hidden inside v (60 ∷ bs) t p
begun-stands inside v bs t p h m w n = begun-within inside v bs t p v.literals v.at refl refl (within inside v.literals v.at v t p h m) h w n

pub script-stands : {E : Type 0} (inside : ScriptEvent → E) → ScriptStandsLaws E inside
script-stands inside = record {
  begins = λ t. record { alike = (record { escape = refl; brace = refl }, inl (record { literals = refl; held = refl; at = refl })); told = refl };
  byte = λ v b t p h n. byte-at inside v.literals v.at v.held v.trail b t p h n;
  word = word-stands inside;
  begun = begun-stands inside;
  cut = λ v t p h n. cut-at inside v.literals v.at v.held v.trail t p h;
  ends = λ v t p h m. ends-at inside v.literals v.at v.held v.trail t p h m;
  hole = λ v t p h e. hole-at inside v.literals v.at v.held v.trail t p h e;
}
