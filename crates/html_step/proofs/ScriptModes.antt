-- Where an end tag may end a script, on several paths together: where a `<` is not refused it may so on all of them, or on none. Where nothing is pending
-- it does not matter what the byte at hand does.
use Rattle.std.proofs.Common.{◌≡◌, ◌<◌, ◌≤◌, ◌⊎◌, inl, inr, ℕ, Bool, true, false, ◌&&◌, ◌||◌, List, [], ◌∷◌, Option, Some, None, refl, sym, ap, ◌∙◌, subst, arith}
use Rattle.std.proofs.lemmas.Bool.{agree_below, agree_below_at, cases_lt, le-ltb}
use Rattle.std.specs.Char.{to_ascii_lowercase}
use Rattle.js_lexer.specs.Classes as script
use Rattle.js_lexer.specs.Elements.{is_code_or_comment}
use Rattle.js_lexer.specs.Refusals.{Cause, first_script_cause, refusal_outside}
use Rattle.js_lexer.specs.States.{At, Code, Word, Number, Pluses, Minuses, Slash, LineComment, BlockComment, InString, InRegexp, InTemplate, TooDeep, ScriptState}
use Rattle.js_lexer.specs.Trails.{is_empty}
use Rattle.js_lexer.specs.declared.class.ScriptClass.{ScriptClass}
use Rattle.js_lexer.specs.declared.class.ScriptClass.TheVariants as class
use Rattle.js_lexer.specs.declared.sense.Sense.{Sense}
use Rattle.js_lexer.specs.declared.sense.Sense.TheVariants as sense
use Rattle.js_step.specs.ScriptEvidence.{script_with_brace}
use Rattle.js_step.specs.ScriptScanOrder.{ScriptScanBelow}
use Rattle.js_step.specs.ScriptScans.{ScriptScan, script_at_in, script_in_sense, script_one_sense, script_scan_error, script_senses_differ, script_tails_error, script_two_senses}
use Rattle.place_core.specs.page.Classes.{Class, LessThan, class_of}
use Rattle.place_core.specs.page.Contents.{InWord, IsWord, BeginsWord, NoWord, in_word, script_step, step_in_token, step_loose}
use Rattle.place_core.specs.page.States.{Pending, Nothing}
use Rattle.place_core.specs.place.LanguagePlaces.{both_senses}
use Rattle.place_core.specs.declared.element.Element.{Element}
use Rattle.place_core.specs.declared.element.Element.TheVariants as element
use Rattle.place_core.specs.declared.senses.Senses.{Senses}
use Rattle.place_core.proofs.Bytes.{eq-high}
use Rattle.html_scan.specs.Scans.{script_scan_may_end, script_scan_step}
use Rattle.html_step.proofs.ScriptOrder.{ScriptUnder, under_below, under_same}

no : false ≡ true → ⊥
no e = cc

given : {A : Type 0} (a : A) → Some a ≡ None → ⊥
given a e = cc

-- The first byte of what may be a word is a `<`, and is held back everywhere.
abbrev agrees : InWord → Class → Bool
agrees NoWord c = true
agrees BeginsWord LessThan = true
agrees w c = false

low-bytes : agree_below (λ (b : ℕ). agrees (in_word (b ∷ [])) (class_of b)) (λ (b : ℕ). true) 128 ≡ true
unfolding class_of in_word
low-bytes = refl

lower-high : (b : ℕ) → 128 ≤ b → to_ascii_lowercase b ≡ b
lower-high b h = rw (le-ltb b 65 (omega (arith, h)), le-ltb b 91 (omega (arith, h))) refl

high-byte : (b : ℕ) → 128 ≤ b → in_word (b ∷ []) ≡ NoWord
unfolding in_word
high-byte b h = rw (lower-high b h, eq-high b 60 h (omega arith)) refl

byte-agrees : (b : ℕ) → (b < 128) ⊎ (128 ≤ b) → agrees (in_word (b ∷ [])) (class_of b) ≡ true
byte-agrees b (inl l) = agree_below_at (λ (x : ℕ). agrees (in_word (x ∷ [])) (class_of x)) (λ (x : ℕ). true) 128 b low-bytes l
byte-agrees b (inr h) = ap (λ (w : InWord). agrees w (class_of b)) (high-byte b h)

token-begins : (w : InWord) (c : Class) (b : ℕ) → agrees w c ≡ true → step_in_token w Nothing c b ≡ step_loose [] c b
token-begins NoWord c b h = refl
token-begins BeginsWord LessThan b h = refl
token-begins BeginsWord c b h = absurd (no h)
token-begins IsWord c b h = absurd (no h)

pub step-of-nothing : (may_end : Bool) (e : Element) (b : ℕ) → script_step may_end e Nothing (class_of b) b ≡ step_loose [] (class_of b) b
step-of-nothing true e b = refl
step-of-nothing false e b = token-begins (in_word (b ∷ [])) (class_of b) b (byte-agrees b (cases_lt b 128))

-- In states that differ in what a slash would be only: behind one that has been read it must be the same.
abbrev IsSlashAt : At → Type 0
IsSlashAt (Slash s) = Unit {0}
IsSlashAt a = ⊥

slash-kept : (s : Sense) (a : At) → IsSlashAt (script_at_in s a) → IsSlashAt a
slash-kept s (Slash x) h = tt
slash-kept s _ h = h

slash-goes : (s : Sense) (a : At) → IsSlashAt a → IsSlashAt (script_at_in s a)
slash-goes s (Slash x) h = tt
slash-goes s _ h = absurd h

slash-is : (s : Sense) (a : At) → IsSlashAt a → script_at_in s a ≡ Slash s
slash-is s (Slash x) h = refl
slash-is s _ h = absurd h

other-sense : (a : At) (s t : Sense) → (IsSlashAt a → ⊥) → is_code_or_comment (script_at_in s a) ≡ is_code_or_comment (script_at_in t a)
other-sense (Code x) s t n = refl
other-sense (Word w) s t n = refl
other-sense Number s t n = refl
other-sense (Pluses odd) s t n = refl
other-sense (Minuses odd) s t n = refl
other-sense (Slash x) s t n = absurd (n tt)
other-sense (LineComment x) s t n = refl
other-sense (BlockComment x star) s t n = refl
other-sense (InString q e) s t n = refl
other-sense (InRegexp k e) s t n = refl
other-sense (InTemplate e d) s t n = refl
other-sense TooDeep s t n = refl

slash-or-not : (a : At) → IsSlashAt a ⊎ (IsSlashAt a → ⊥)
slash-or-not (Slash s) = inl tt
slash-or-not _ = inr (λ h. h)

at-alike : (a d : At) (s t : Sense) → script_at_in sense.Re a ≡ script_at_in sense.Re d → (IsSlashAt d → s ≡ t) → IsSlashAt d ⊎ (IsSlashAt d → ⊥)
    → is_code_or_comment (script_at_in s a) ≡ is_code_or_comment (script_at_in t d)
at-alike a d s t e f (inl h) =
    let there : IsSlashAt a = slash-kept sense.Re a (subst IsSlashAt (sym e) (slash-goes sense.Re d h)) in
    ap is_code_or_comment (slash-is s a there ∙ ap Slash (f h) ∙ sym (slash-is t d h))
at-alike a d s t e f (inr n) =
    other-sense a s sense.Re (λ h. n (slash-kept sense.Re d (subst IsSlashAt e (slash-goes sense.Re a h)))) ∙ ap is_code_or_comment e
    ∙ other-sense d sense.Re t n

ends-alike : (n m : ScriptScan) (fs : List ℕ) → m.state.literals ≡ fs → script_in_sense sense.Re n.state ≡ script_in_sense sense.Re m.state
    → (fs ≡ [] → IsSlashAt m.state.at → script_one_sense n.senses ≡ script_one_sense m.senses) → script_scan_may_end n ≡ script_scan_may_end m
ends-alike n m [] i e f =
    ap (λ (x : List ℕ). is_empty x && is_code_or_comment (script_at_in (script_one_sense n.senses) n.state.at)) (ap (λ (v : ScriptState). v.literals) e ∙ i)
    ∙ at-alike n.state.at m.state.at (script_one_sense n.senses) (script_one_sense m.senses) (ap (λ (v : ScriptState). v.at) e) (f refl) (slash-or-not m.state.at)
    ∙ sym (ap (λ (x : List ℕ). is_empty x && is_code_or_comment (script_at_in (script_one_sense m.senses) m.state.at)) i)
ends-alike n m (x ∷ xs) i e f =
    ap (λ (z : List ℕ). is_empty z && is_code_or_comment (script_at_in (script_one_sense n.senses) n.state.at)) (ap (λ (v : ScriptState). v.literals) e ∙ i)
    ∙ sym (ap (λ (z : List ℕ). is_empty z && is_code_or_comment (script_at_in (script_one_sense m.senses) m.state.at)) i)

-- A `<` behind a slash that is not refused: all paths have the one sense.
first-none : (o p : Option Cause) → first_script_cause o p ≡ None → (o ≡ None) × (p ≡ None)
first-none None p h = (refl, h)
first-none (Some x) p h = absurd (given x h)

slash-taken : (s : Senses) (v : ScriptState) (t : Sense) (differ : Bool) → t ≡ script_one_sense s → differ ≡ script_senses_differ s
    → script_two_senses differ [] (Slash t) class.LessThan ≡ None → refusal_outside [] true (record { literals = []; at = Slash t; held = v.held; trail = v.trail }) class.LessThan 60 ≡ None
    → (t ≡ sense.Brace → ⊥) × (script_senses_differ s ≡ false)
slash-taken s v t true i j h k = absurd (given _ h)
slash-taken s v sense.Re false i j h k = (λ (e : sense.Re ≡ sense.Brace). (cc), sym j)
slash-taken s v sense.Div false i j h k = (λ (e : sense.Div ≡ sense.Brace). (cc), sym j)
slash-taken s v sense.Brace false i j h k = absurd (given _ k)

one-by : (a d r : Bool) (nr nd nb : Bool) → (script_one_sense (record { re = r; div = d; brace = a }) ≡ sense.Brace → ⊥) → (r && d) ≡ false
    → both_senses (record { re = nr; div = nd; brace = nb }) (record { re = r; div = d; brace = a }) ≡ record { re = r; div = d; brace = a }
    → (nr || (nd || nb)) ≡ true → script_one_sense (record { re = nr; div = nd; brace = nb }) ≡ script_one_sense (record { re = r; div = d; brace = a })
one-by true d r nr nd nb h k l o = absurd (h refl)
one-by false true true nr nd nb h k l o = absurd (no (sym k))
one-by false d r nr nd true h k l o = absurd (no (sym (ap (λ (x : Senses). x.brace) l)))
one-by false true false true nd false h k l o = absurd (no (sym (ap (λ (x : Senses). x.re) l)))
one-by false true false false true false h k l o = refl
one-by false true false false false false h k l o = absurd (no o)
one-by false false true nr true false h k l o = absurd (no (sym (ap (λ (x : Senses). x.div) l)))
one-by false false true nr false false h k l o = refl
one-by false false false true nd false h k l o = absurd (no (sym (ap (λ (x : Senses). x.re) l)))
one-by false false false false true false h k l o = absurd (no (sym (ap (λ (x : Senses). x.div) l)))
one-by false false false false false false h k l o = refl

no-cons : (f : ℕ) (fs : List ℕ) → (f ∷ fs) ≡ [] → ⊥
no-cons f fs e = cc

slash-two : (d : Bool) (fs : List ℕ) (t x : Sense) (c : ScriptClass) → script_two_senses d fs (Slash t) c ≡ script_two_senses d fs (Slash x) c
slash-two true [] t x class.Solidus = refl
slash-two true [] t x class.Asterisk = refl
slash-two true [] t x c = refl
slash-two true (f ∷ fs) t x c = refl
slash-two false fs t x c = refl

two-same : (d : Bool) (fs : List ℕ) (t : Sense) (a : At) (x : Sense) → a ≡ Slash x → (c : ScriptClass) → script_two_senses d fs (Slash t) c ≡ script_two_senses d fs a c
two-same d fs t a x e c = slash-two d fs t x c ∙ ap (λ (z : At). script_two_senses d fs z c) (sym e)

-- its own sense
slash-one : (m : ScriptScan) (fs : List ℕ) (a : At) → m.state.literals ≡ fs → m.state.at ≡ a → fs ≡ [] → IsSlashAt a → script_scan_error true m 60 ≡ None
    → (script_one_sense m.senses ≡ sense.Brace → ⊥) × (script_senses_differ m.senses ≡ false)
unfolding script.class_of
slash-one m [] (Slash x) i j e s h =
    let rest = first-none (script_tails_error m class.LessThan 60) _ h in
    let two = first-none (script_two_senses (script_senses_differ m.senses) m.state.literals m.state.at class.LessThan) _ rest.1 in
    slash-taken m.senses m.state (script_one_sense m.senses) (script_senses_differ m.senses) refl refl
    (ap (λ (z : List ℕ). script_two_senses (script_senses_differ m.senses) z (Slash (script_one_sense m.senses)) class.LessThan) (sym i)
    ∙ two-same (script_senses_differ m.senses) m.state.literals (script_one_sense m.senses) m.state.at x j class.LessThan ∙ two.0)
    (ap (λ (z : List ℕ). refusal_outside z true (record { literals = z; at = Slash (script_one_sense m.senses); held = m.state.held; trail = m.state.trail }) class.LessThan 60) (sym i)
    ∙ ap (λ (z : At). refusal_outside m.state.literals true (record { literals = m.state.literals; at = script_at_in (script_one_sense m.senses) z; held = m.state.held; trail = m.state.trail })
    class.LessThan 60) (sym j) ∙ two.1)
slash-one m (f ∷ fs) a i j e s h = absurd (no-cons f fs e)
slash-one m [] a i j e s h = absurd s

pub may-end-below : (n m : ScriptScan) → ScriptScanBelow n m → script_scan_error true m 60 ≡ None → script_scan_may_end n ≡ script_scan_may_end m
may-end-below n m l h =
    ends-alike n m m.state.literals refl l.state
    (λ e s. let d = slash-one m m.state.literals m.state.at refl refl e s h in
    one-by m.senses.brace m.senses.div m.senses.re n.senses.re n.senses.div n.senses.brace d.0 d.1 l.senses l.some)

pub may-end-under : (n m : ScriptScan) → ScriptUnder n m → script_scan_error true m 60 ≡ None → script_scan_may_end n ≡ script_scan_may_end m
may-end-under n m (under_same e) h = ap script_scan_may_end e
may-end-under n m (under_below l) h = may-end-below n m l h

-- Where paths differ there, they are behind no slash.
differ-no : (x : Bool) → x ≡ true → x ≡ false → ⊥
differ-no x h k = no (sym k ∙ h)

pub may-end-brace : (n m : ScriptScan) → ScriptScanBelow n (script_with_brace m) → script_senses_differ m.senses ≡ true → script_scan_error true m 60 ≡ None
    → script_scan_may_end n ≡ script_scan_may_end m
may-end-brace n m l d h =
    ends-alike n m m.state.literals refl l.state
    (λ e s. absurd (differ-no (script_senses_differ m.senses) d (slash-one m m.state.literals m.state.at refl refl e s h).1))

-- So the byte does the same.
abbrev pub TakesLess : Pending → ScriptScan → Type 0
TakesLess h m = (h ≡ Nothing) ⊎ (script_scan_error true m 60 ≡ None)

pub step-alike : (n m : ScriptScan) (h : Pending) (b : ℕ) → (script_scan_error true m 60 ≡ None → script_scan_may_end n ≡ script_scan_may_end m) → TakesLess h m
    → script_scan_step n h (class_of b) b ≡ script_scan_step m h (class_of b) b
step-alike n m h b f (inl e) =
    rw e (step-of-nothing (script_scan_may_end n) element.Script b ∙ sym (step-of-nothing (script_scan_may_end m) element.Script b))
step-alike n m h b f (inr e) = ap (λ (x : Bool). script_step x element.Script h (class_of b) b) (f e)

pub step-under : (n m : ScriptScan) (h : Pending) (b : ℕ) → ScriptUnder n m → TakesLess h m
    → script_scan_step n h (class_of b) b ≡ script_scan_step m h (class_of b) b
step-under n m h b l t = step-alike n m h b (may-end-under n m l) t

pub step-brace : (n m : ScriptScan) (h : Pending) (b : ℕ) → ScriptScanBelow n (script_with_brace m) → script_senses_differ m.senses ≡ true → TakesLess h m
    → script_scan_step n h (class_of b) b ≡ script_scan_step m h (class_of b) b
step-brace n m h b l d t = step-alike n m h b (may-end-brace n m l d) t
