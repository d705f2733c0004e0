-- What is pending back in the element `script` before some bytes, and is no end tag, is read at one of them or at the end of the text: where a text is
-- taken up to a byte, nothing is refused of what is pending before it. So the place that is shown there is that behind it.
use Rattle.std.proofs.Common.{◌≡◌, ◌<◌, ◌≤◌, ◌⊎◌, inl, inr, ℕ, ◌+◌, ◌-◌, zero, suc, Bool, true, false, List, [], ◌∷◌, ◌++◌, codes, length, Option, Some, None, Result, refl, sym, ap, ◌∙◌, subst, arith, length-append}
use Rattle.std.proofs.lemmas.Bool.{agree_below, agree_below_at, cases_lt, le-ltb}
use Rattle.std.specs.Char.{to_ascii_lowercase}
use Rattle.js_lexer.specs.Refusals.{Cause}
use Rattle.js_step.specs.ScriptScans.{ScriptScan}
use Rattle.place_core.specs.page.Classes.{Class, White, ExclamationMark, HyphenMinus, Solidus, LessThan, GreaterThan, Letter, class_of}
use Rattle.place_core.specs.page.Contents.{InWord, IsWord, BeginsWord, NoWord, ScriptStep, Reads, in_word, is_name_of, may_be_name_of, pending_bytes, script_step, step_bang, step_end_name, step_in_token, step_less, step_loose, word_goes_on}
use Rattle.place_core.specs.page.States.{Pending, Nothing, PendingLess, LessAtCut, PendingName, PendingBang, PendingBangDash, PendingOpening}
use Rattle.place_core.specs.place.Errors.{PathCause, PathRefusal, TextRead, asks_back, first_cause, name_goes_on, pending_before, unless_it_goes_on, read_error, script_cause_back, script_read, step_asks, step_error}
use Rattle.place_core.specs.declared.element.Element.TheVariants as element
use Rattle.place_core.specs.declared.place.Place.{Place}
use Rattle.place_core.proofs.Bytes.{eq-high}
use Rattle.html_scan.specs.Scans.{InScriptElement, all_element_scripts, scan_by_step, scan_cut_error, scan_lexeme_error, scan_place, script_scan_may_end, script_scan_step}
use Rattle.html_step.specs.Steps.{scan_read_behind, stepped, unless_broken_off, unless_refused, unless_too_deep}
use Rattle.html_step.proofs.FedAlike.{first-caused}
use Rattle.html_step.proofs.PathScans.{IsShown, NoPendingCut}
use Rattle.html_step.proofs.ScriptContents.{back-none, back-not}
use Rattle.html_step.proofs.ScriptShown.{Reaches}

no : false ≡ true → ⊥
no e = cc

-- A byte of the first bytes that is refused stands so far back.
reads-part : (ps qs : List ℕ) (x y : ℕ) (n : ScriptScan) → read_error all_element_scripts n (ps ++ qs) x ≡ None → read_error all_element_scripts n ps y ≡ None
reads-part [] qs x y n e = refl
reads-part (b ∷ bs) qs x y n e =
    let m = all_element_scripts.feed n b in
    let o = all_element_scripts.refuses n b in
    let p = first-caused (script_cause_back (length (bs ++ qs) + x) o) (read_error all_element_scripts m (bs ++ qs) x) e in
    ap (λ (c : Option PathCause). first_cause c (read_error all_element_scripts m bs y))
    (back-not (length bs + y) o (back-none (length (bs ++ qs) + x) o p.0))
    ∙ reads-part bs qs x y m p.1

abbrev FarBack : ℕ → PathCause → Type 0
FarBack l c = (l ≤ c.back) × (l ≤ c.shown)

some-same : (c d : PathCause) → Some c ≡ Some d → c ≡ d
some-same c d e = cc

far : (o : Option Cause) (back l : ℕ) (rest : Option PathCause) (c : PathCause) → l ≤ back → first_cause (script_cause_back back o) rest ≡ Some c
    → ((o ≡ None) × (rest ≡ Some c)) ⊎ FarBack l c
far None back l rest c i e = inl (refl, e)
far (Some x) back l rest c i e =
    inr (subst (FarBack l) (some-same _ c e) (omega (arith, i), omega (arith, i)))

part-far : (ps qs : List ℕ) (x y : ℕ) (n : ScriptScan) (c : PathCause) → read_error all_element_scripts n (ps ++ qs) x ≡ Some c
    → (read_error all_element_scripts n ps y ≡ None) ⊎ FarBack (length qs + x) c
part-far [] qs x y n c e = inl refl
part-far (b ∷ bs) qs x y n c e =
    let m = all_element_scripts.feed n b in
    let o = all_element_scripts.refuses n b in
    let l = length-append bs qs in
    elim (far o (length (bs ++ qs) + x) (length qs + x) (read_error all_element_scripts m (bs ++ qs) x) c (omega (arith, l)) e) [
      | inr f ↦ inr f
      | inl p ↦ elim (part-far bs qs x y m c p.1) [
        | inr f ↦ inr f
        | inl i ↦ inl (ap (λ (d : Option PathCause). first_cause d (read_error all_element_scripts m bs y)) (back-not (length bs + y) o p.0) ∙ i)
      ]
    ]

not-there : {A : Type 0} (k j m l back : ℕ) → l ≡ suc m → l ≤ back → suc k + j ≤ (suc k + m) - back → A
not-there k j m l back e i r = absurd (omega (arith, e, i, r))

part-taken : (o : Option PathCause) (k j m : ℕ) (ps qs : List ℕ) (x : ℕ) (n : ScriptScan) (r : Result Place PathRefusal)
    → read_error all_element_scripts n (ps ++ qs) x ≡ o → length qs + x ≡ suc m → Reaches (suc k + j) (unless_refused (suc k + m) o r)
    → read_error all_element_scripts n ps 1 ≡ None
part-taken None k j m ps qs x n r e l h = reads-part ps qs x 1 n e
part-taken (Some c) k j m ps qs x n r e l h =
    elim (part-far ps qs x 1 n c e) [
      | inl i ↦ i
      | inr f ↦ elim h [
        | inl a ↦ not-there k j m (length qs + x) c.back l f.0 a
        | inr a ↦ not-there k j m (length qs + x) c.shown l f.1 a
      ]
    ]

append-none : (ps : List ℕ) → ps ++ [] ≡ ps
append-none [] = refl
append-none (p ∷ ps) = ap (λ (z : List ℕ). p ∷ z) (append-none ps)

-- What is pending, and is no end tag: it is held back with one byte more, or read with one.
abbrev Stays : Bool → Pending → Type 0
Stays may_end Nothing = ⊥
Stays may_end LessAtCut = ⊥
Stays true PendingLess = ⊥
Stays true (PendingName letters) = ⊥
Stays may_end h = Unit {0}

data StepForm (may_end : Bool) (h : Pending) : ScriptStep → Type 0 where
  form_holds : (g : Pending) (d : ℕ) → pending_bytes g ≡ pending_bytes h ++ d ∷ [] → Stays may_end g → step_asks [] g ≡ []
      → StepForm may_end h (Reads [] g)
  form_asks : (bytes : List ℕ) (g : Pending) (d : ℕ) → step_asks bytes g ≡ pending_bytes h ++ d ∷ [] → asks_back g ≡ 0
      → StepForm may_end h (Reads bytes g)

loose-form : (may_end : Bool) (h : Pending) (c : Class) (b : ℕ) → StepForm may_end h (step_loose (pending_bytes h) c b)
loose-form may_end h LessThan b = form_asks (pending_bytes h) PendingLess 60 refl refl
loose-form may_end h c b = form_asks (pending_bytes h ++ b ∷ []) Nothing b refl refl

abbrev NoSolidus : Class → Type 0
NoSolidus Solidus = ⊥
NoSolidus c = Unit {0}

less-form : (c : Class) (b : ℕ) → NoSolidus c → StepForm true PendingLess (step_less c b)
less-form Solidus b s = absurd s
less-form ExclamationMark b s = form_holds PendingBang 33 refl tt refl
less-form LessThan b s = loose-form true PendingLess LessThan b
less-form c b s = form_asks (codes "<" ++ b ∷ []) Nothing b refl refl

name-form : (grows whole : Bool) (c : Class) (b : ℕ) (letters : List ℕ) → name_goes_on grows whole c ≡ false
    → StepForm true (PendingName letters) (step_end_name grows whole c b letters)
name-form true whole (Letter l) b letters e = absurd (no (sym e))
name-form true true White b letters e = absurd (no (sym e))
name-form true true Solidus b letters e = absurd (no (sym e))
name-form true true GreaterThan b letters e = absurd (no (sym e))
name-form true true LessThan b letters e = loose-form true (PendingName letters) LessThan b
name-form true true c b letters e = form_asks ((codes "</" ++ letters) ++ b ∷ []) Nothing b refl refl
name-form true false LessThan b letters e = loose-form true (PendingName letters) LessThan b
name-form true false c b letters e = form_asks ((codes "</" ++ letters) ++ b ∷ []) Nothing b refl refl
name-form false true White b letters e = absurd (no (sym e))
name-form false true Solidus b letters e = absurd (no (sym e))
name-form false true GreaterThan b letters e = absurd (no (sym e))
name-form false true LessThan b letters e = loose-form true (PendingName letters) LessThan b
name-form false true c b letters e = form_asks ((codes "</" ++ letters) ++ b ∷ []) Nothing b refl refl
name-form false false LessThan b letters e = loose-form true (PendingName letters) LessThan b
name-form false false c b letters e = form_asks ((codes "</" ++ letters) ++ b ∷ []) Nothing b refl refl

bang-form : (c : Class) (b : ℕ) → StepForm true PendingBang (step_bang c b)
bang-form HyphenMinus b = form_holds PendingBangDash 45 refl tt refl
bang-form LessThan b = loose-form true PendingBang LessThan b
bang-form c b = form_asks (codes "<!" ++ b ∷ []) Nothing b refl refl

-- `<!-` begins a word with no byte more but the last.
abbrev begins-none : InWord → Bool
begins-none BeginsWord = false
begins-none w = true

low-dash : agree_below (λ (b : ℕ). begins-none (in_word (60 ∷ 33 ∷ 45 ∷ b ∷ []))) (λ (b : ℕ). true) 128 ≡ true
unfolding in_word
low-dash = refl

lower-high : (b : ℕ) → 128 ≤ b → to_ascii_lowercase b ≡ b
lower-high b h = rw (le-ltb b 65 (omega (arith, h)), le-ltb b 91 (omega (arith, h))) refl

high-dash : (b : ℕ) → 128 ≤ b → in_word (60 ∷ 33 ∷ 45 ∷ b ∷ []) ≡ NoWord
unfolding in_word
high-dash b h = rw (lower-high b h, eq-high b 45 h (omega arith)) refl

dash-ends : (b : ℕ) → (b < 128) ⊎ (128 ≤ b) → begins-none (in_word (60 ∷ 33 ∷ 45 ∷ b ∷ [])) ≡ true
dash-ends b (inl l) = agree_below_at (λ (x : ℕ). begins-none (in_word (60 ∷ 33 ∷ 45 ∷ x ∷ []))) (λ (x : ℕ). true) 128 b low-dash l
dash-ends b (inr h) = ap begins-none (high-dash b h)

begins-form : (h : Pending) (c : Class) (b : ℕ) → Stays false h → begins-none (in_word (pending_bytes h ++ b ∷ [])) ≡ false
    → StepForm false h (Reads [] (word_goes_on h c b))
begins-form Nothing c b s e = absurd s
begins-form LessAtCut c b s e = absurd s
begins-form PendingLess Solidus b s e = form_holds (PendingName []) 47 refl tt refl
begins-form PendingLess ExclamationMark b s e = form_holds PendingBang 33 refl tt refl
begins-form PendingLess c b s e = form_holds (PendingOpening (b ∷ [])) b refl tt refl
begins-form (PendingName letters) c b s e = form_holds (PendingName (letters ++ b ∷ [])) b refl tt refl
begins-form PendingBang c b s e = form_holds PendingBangDash 45 refl tt refl
begins-form PendingBangDash c b s e = absurd (no (sym e ∙ dash-ends b (cases_lt b 128)))
begins-form (PendingOpening letters) c b s e = form_holds (PendingOpening (letters ++ b ∷ [])) b refl tt refl

token-form : (w : InWord) (h : Pending) (c : Class) (b : ℕ) → Stays false h → in_word (pending_bytes h ++ b ∷ []) ≡ w
    → StepForm false h (step_in_token w h c b)
token-form IsWord h c b s e = form_asks (pending_bytes h ++ b ∷ []) Nothing b refl refl
token-form BeginsWord h c b s e = begins-form h c b s (ap begins-none e)
token-form NoWord h c b s e = loose-form false h c b

step-form : (may_end : Bool) (h : Pending) (c : Class) (b : ℕ) → Stays may_end h → StepForm may_end h (script_step may_end element.Script h c b)
step-form true Nothing c b s = absurd s
step-form true LessAtCut c b s = absurd s
step-form true PendingLess c b s = absurd s
step-form true (PendingName letters) c b s = absurd s
step-form true PendingBang c b s = bang-form c b
step-form true PendingBangDash c b s = loose-form true PendingBangDash c b
step-form true (PendingOpening letters) c b s = loose-form true (PendingOpening letters) c b
step-form false h c b s = token-form (in_word (pending_bytes h ++ b ∷ [])) h c b s refl

-- Where it stays pending up to a byte at which a text is taken, it is read there.
record Held (k j m : ℕ) (ps : List ℕ) (n : ScriptScan) (h : Pending) : Type 0 where
  more : List ℕ
  is : pending_bytes h ≡ ps ++ more
  long : length more ≡ m
  stays : Stays (script_scan_may_end n) h

append-one : (ps qs : List ℕ) (d : ℕ) → (ps ++ qs) ++ d ∷ [] ≡ ps ++ (qs ++ d ∷ [])
append-one [] qs d = refl
append-one (p ∷ ps) qs d = ap (λ (z : List ℕ). p ∷ z) (append-one ps qs d)

one-longer : (qs : List ℕ) (d m : ℕ) → length qs ≡ m → length (qs ++ d ∷ []) ≡ suc m
one-longer qs d m e = (let l = length-append qs (d ∷ []) in omega (arith, l, e))

end-taken : (o q : Option PathCause) (k j m : ℕ) (ps qs : List ℕ) (x : ℕ) (n : ScriptScan) (r : Result Place PathRefusal)
    → read_error all_element_scripts n (ps ++ qs) x ≡ o → length qs + x ≡ suc m → Reaches (suc k + j) (unless_refused (suc k + m) (first_cause o q) r)
    → read_error all_element_scripts n ps 1 ≡ None
end-taken None q k j m ps qs x n r e l h = reads-part ps qs x 1 n e
end-taken (Some c) q k j m ps qs x n r e l h = part-taken (Some c) k j m ps qs x n r e l h

one-on : (k j m p : ℕ) (since : TextRead) (bs : List ℕ) (n : ScriptScan) (h : Pending) → p ≡ suc k + suc m
    → Reaches (suc k + j) (stepped p since bs (InScriptElement n h)) → Reaches (suc k + j) (stepped (suc k + suc m) since bs (InScriptElement n h))
one-on k j m p since bs n h e r = subst (λ (x : ℕ). Reaches (suc k + j) (stepped x since bs (InScriptElement n h))) e r

goes-by : (o : Option PathCause) (p k : ℕ) (r : Result Place PathRefusal) → o ≡ None → Reaches k (unless_refused p o r) → Reaches k r
goes-by o p k r e h = subst (λ (x : Option PathCause). Reaches k (unless_refused p x r)) e h

step-taken : (bs : List ℕ) (k j m : ℕ) (since : TextRead) (x : ScriptStep) (c : Class) (ps : List ℕ) (n : ScriptScan) (h : Pending) → Held k j m ps n h
    → ((g : Pending) → Held k j (suc m) ps n g → Reaches (suc k + j) (stepped (suc k + suc m) since bs (InScriptElement n g))
    → read_error all_element_scripts n ps 1 ≡ None)
    → StepForm (script_scan_may_end n) h x
    → Reaches (suc k + j) (unless_refused (suc k + m) (step_error all_element_scripts n x) (stepped (suc k + m + 1) since bs (scan_by_step n x c)))
    → read_error all_element_scripts n ps 1 ≡ None
step-taken bs k j m since _ c ps n h w on (form_holds g d e s a) r =
    on g
    (record {
      more = w.more ++ d ∷ [];
      is = e ∙ ap (λ (z : List ℕ). z ++ d ∷ []) w.is ∙ append-one ps w.more d;
      long = one-longer w.more d m w.long;
      stays = s;
    })
    (one-on k j m (suc k + m + 1) since bs n g (omega arith)
    (goes-by (step_error all_element_scripts n (Reads [] g)) (suc k + m) (suc k + j) (stepped (suc k + m + 1) since bs (InScriptElement n g))
    (ap (λ (z : List ℕ). read_error all_element_scripts n z (asks_back g)) a) r))
step-taken bs k j m since _ c ps n h w on (form_asks bytes g d e a) r =
    part-taken (step_error all_element_scripts n (Reads bytes g)) k j m ps (w.more ++ d ∷ []) 0 n
    (stepped (suc k + m + 1) since bs (scan_by_step n (Reads bytes g) c))
    (ap (λ (z : List ℕ). read_error all_element_scripts n z 0) (sym (append-one ps w.more d) ∙ ap (λ (z : List ℕ). z ++ d ∷ []) (sym w.is) ∙ sym e)
    ∙ ap (read_error all_element_scripts n (step_asks bytes g)) (sym a))
    (let l = one-longer w.more d m w.long in omega (arith, l)) r

held-taken : (bytes : List ℕ) (k j m : ℕ) (since : TextRead) (ps : List ℕ) (n : ScriptScan) (h : Pending) → Held k j m ps n h
    → Reaches (suc k + j) (stepped (suc k + m) since bytes (InScriptElement n h)) → read_error all_element_scripts n ps 1 ≡ None
held-taken [] k j m since ps n h w r =
    end-taken (read_error all_element_scripts n (pending_bytes h) 1)
    (script_cause_back 0 (all_element_scripts.refuses_cut (script_read all_element_scripts n (pending_bytes h)))) k j m ps w.more 1 n
    (unless_too_deep (suc k + m) since.deep
    (unless_broken_off (suc k + m) since.last (scan_lexeme_error (InScriptElement n h)) (scan_place (InScriptElement n h))))
    (ap (λ (z : List ℕ). read_error all_element_scripts n z 1) (sym w.is)) (let l = w.long in omega (arith, l)) r
held-taken (b ∷ bs) k j m since ps n h w r =
    let later = scan_read_behind (suc k + m) since (InScriptElement n h) (class_of b) b in
    step-taken bs k j m later (script_scan_step n h (class_of b) b) (class_of b) ps n h w (λ g w r. held-taken bs k j (suc m) later ps n g w r)
    (step-form (script_scan_may_end n) h (class_of b) b w.stays) r

-- What is pending before a byte, where it is shown behind it.
first-taken : (bs : List ℕ) (k j : ℕ) (since : TextRead) (x : ScriptStep) (c : Class) (n : ScriptScan) (h : Pending)
    → StepForm (script_scan_may_end n) h x
    → Reaches (suc k + j) (unless_refused (suc k) (step_error all_element_scripts n x) (stepped (suc k + 1) since bs (scan_by_step n x c)))
    → read_error all_element_scripts n (pending_bytes h) 1 ≡ None
first-taken bs k j since _ c n h (form_holds g d e s a) r =
    held-taken bs k j 1 since (pending_bytes h) n g (record { more = d ∷ []; is = e; long = refl; stays = s })
    (one-on k j 0 (suc k + 1) since bs n g (omega arith)
    (goes-by (step_error all_element_scripts n (Reads [] g)) (suc k) (suc k + j) (stepped (suc k + 1) since bs (InScriptElement n g))
    (ap (λ (z : List ℕ). read_error all_element_scripts n z (asks_back g)) a) r))
first-taken bs k j since _ c n h (form_asks bytes g d e a) r =
    part-taken (step_error all_element_scripts n (Reads bytes g)) k j 0 (pending_bytes h) (d ∷ []) 0 n
    (stepped (suc k + 1) since bs (scan_by_step n (Reads bytes g) c))
    (ap (λ (z : List ℕ). read_error all_element_scripts n z 0) (sym e) ∙ ap (read_error all_element_scripts n (step_asks bytes g)) (sym a)) (omega arith)
    (subst (λ (p : ℕ). Reaches (suc k + j) (unless_refused p (step_error all_element_scripts n (Reads bytes g))
    (stepped (suc k + 1) since bs (scan_by_step n (Reads bytes g) c)))) (omega arith) r)

-- by what is pending, and the byte
abbrev Shows : Bool → Pending → Class → ℕ → Type 0
Shows may_end h c b =
    (pending_before element.Script h c b ≡ Nothing)
    ⊎ ((pending_before element.Script h c b ≡ h) × StepForm may_end h (script_step may_end element.Script h c b))

less-shows : (may_end : Bool) (c : Class) (b : ℕ) → Shows may_end PendingLess c b
less-shows may_end Solidus b = inl refl
less-shows true ExclamationMark b = inr (refl, less-form ExclamationMark b tt)
less-shows true c b = inr (refl, less-form c b tt)
less-shows false ExclamationMark b = inr (refl, step-form false PendingLess ExclamationMark b tt)
less-shows false c b = inr (refl, step-form false PendingLess c b tt)

name-shows : (may_end x : Bool) (c : Class) (b : ℕ) (letters : List ℕ)
    → name_goes_on (may_be_name_of element.Script (letters ++ b ∷ [])) (is_name_of element.Script letters) c ≡ x
    → Shows may_end (PendingName letters) c b
name-shows may_end true c b letters e = inl (ap (λ (y : Bool). unless_it_goes_on y (PendingName letters)) e)
name-shows true false c b letters e =
    inr (
      ap (λ (y : Bool). unless_it_goes_on y (PendingName letters)) e,
      name-form (may_be_name_of element.Script (letters ++ b ∷ [])) (is_name_of element.Script letters) c b letters e,
    )
name-shows false false c b letters e =
    inr (ap (λ (y : Bool). unless_it_goes_on y (PendingName letters)) e, step-form false (PendingName letters) c b tt)

shows : (may_end : Bool) (h : Pending) (c : Class) (b : ℕ) → NoPendingCut h → Shows may_end h c b
shows may_end Nothing c b n = inl refl
shows may_end PendingLess c b n = less-shows may_end c b
shows may_end LessAtCut c b n = absurd n
shows may_end (PendingName letters) c b n =
    name-shows may_end (name_goes_on (may_be_name_of element.Script (letters ++ b ∷ [])) (is_name_of element.Script letters) c) c b letters refl
shows true PendingBang c b n = inr (refl, step-form true PendingBang c b tt)
shows true PendingBangDash c b n = inr (refl, step-form true PendingBangDash c b tt)
shows true (PendingOpening letters) c b n = inr (refl, step-form true (PendingOpening letters) c b tt)
shows false PendingBang c b n = inr (refl, step-form false PendingBang c b tt)
shows false PendingBangDash c b n = inr (refl, step-form false PendingBangDash c b tt)
shows false (PendingOpening letters) c b n = inr (refl, step-form false (PendingOpening letters) c b tt)

abbrev IsTakenPending : ScriptScan → Pending → Type 0
IsTakenPending n h = read_error all_element_scripts n (pending_bytes h) 1 ≡ None

pub script-between : (n : ScriptScan) (h : Pending) (bs : List ℕ) → h ≡ Nothing → IsShown (InScriptElement n h) bs
script-between n h [] e = subst (IsTakenPending n) (sym e) refl
script-between n h (b ∷ bs) e =
    subst (λ (x : Pending). IsTakenPending n (pending_before element.Script x (class_of b) b)) (sym e) refl

pub script-element-shown : (k j : ℕ) (since : TextRead) (bytes : List ℕ) (n : ScriptScan) (h : Pending) → NoPendingCut h → (k ≡ 0 → h ≡ Nothing)
    → Reaches (k + j) (stepped k since bytes (InScriptElement n h)) → IsShown (InScriptElement n h) bytes
script-element-shown zero j since bytes n h w c r = script-between n h bytes (c refl)
script-element-shown (suc k) j since [] n h w c r =
    end-taken (read_error all_element_scripts n (pending_bytes h) 1)
    (script_cause_back 0 (all_element_scripts.refuses_cut (script_read all_element_scripts n (pending_bytes h)))) k j 0 (pending_bytes h) [] 1 n
    (unless_too_deep (suc k) since.deep
    (unless_broken_off (suc k) since.last (scan_lexeme_error (InScriptElement n h)) (scan_place (InScriptElement n h))))
    (ap (λ (z : List ℕ). read_error all_element_scripts n z 1) (append-none (pending_bytes h))) (omega arith)
    (subst (λ (p : ℕ). Reaches (suc k + j) (unless_refused p (scan_cut_error (InScriptElement n h)) (unless_too_deep (suc k) since.deep
    (unless_broken_off (suc k) since.last (scan_lexeme_error (InScriptElement n h)) (scan_place (InScriptElement n h)))))) (omega arith) r)
script-element-shown (suc k) j since (b ∷ bs) n h w c r =
    elim (shows (script_scan_may_end n) h (class_of b) b w) [
      | inl e ↦ subst (IsTakenPending n) (sym e) refl
      | inr f ↦ subst (IsTakenPending n) (sym f.0)
          (first-taken bs k j (scan_read_behind (suc k) since (InScriptElement n h) (class_of b) b) (script_scan_step n h (class_of b) b) (class_of b) n h f.1 r)
    ]
