-- What shows that a text is refused in the element `script`: at a byte, by what the script refuses of the bytes that it is asked, or of the end that the end
-- tag makes, and at the end of the text.
use Rattle.std.proofs.Common.{◌≡◌, ℕ, ◌+◌, true, List, [], ◌∷◌, length, Option, Some, None, option_map, refl, sym, ap, ◌∙◌}
use Rattle.js_lexer.specs.Refusals.{Cause, Refusal, PartialCharset, PartialEscape, SlashAmbig, JSTemplate, SplitToken, BadString, HtmlInScript}
use Rattle.js_step.specs.ScriptEvidence.{script_shown_by, script_split_shows}
use Rattle.js_step.specs.ScriptScans.{ScriptScan, script_scan_cut_error, script_scan_end_error, script_scan_error}
use Rattle.place_core.specs.page.Contents.{ScriptStep, Reads, EndsContent, pending_bytes}
use Rattle.place_core.specs.page.States.{Pending}
use Rattle.place_core.specs.page.Tags.{feed_bytes, script_code}
use Rattle.place_core.specs.place.Errors.{PathCause, asks_back, first_cause, read_error, script_cause_back, script_content_cut_error, script_read, step_asks, step_error}
use Rattle.place_core.specs.declared.code.Code.TheVariants as code
use Rattle.place_core.specs.declared.member.Member.{Member}
use Rattle.place_core.specs.declared.member.Member.TheVariants as member
use Rattle.place_core.proofs.Semilattices.{none_some, one_value}
use Rattle.html_scan.specs.Scans.{all_element_scripts, script_fed_byte, script_feeding}
use Rattle.html_step.specs.Laws.{EvidenceData, one, two}
use Rattle.html_step.specs.Origins.{ends_by_step, first_shown, script_evidence, script_told_shown, step_asked}
use Rattle.html_step.proofs.FedAlike.{first-caused}
use Rattle.html_step.proofs.ScriptAlike.{Alike, TakesIn}
use Rattle.html_step.proofs.ScriptTold.{taken-told}

given : {A : Type 0} (a : A) → Some a ≡ None → ⊥
given a e = cc

-- Scan states that refuse the same of the bytes, and of the end behind them, refuse the same at a byte of the text.
causes-alike : (o p : Option Cause) (x y : Option PathCause) (n : ℕ) → o ≡ p → (p ≡ None → x ≡ y)
    → first_cause (script_cause_back n o) x ≡ first_cause (script_cause_back n p) y
causes-alike o None x y n e f = ap (λ (z : Option Cause). first_cause (script_cause_back n z) x) e ∙ f refl
causes-alike o (Some r) x y n e f = ap (λ (z : Option Cause). first_cause (script_cause_back n z) x) e

pub read-alike : (bytes : List ℕ) (ends : ScriptScan → Option Cause) (n m : ScriptScan) (back : ℕ) → Alike true bytes ends n m
    → read_error all_element_scripts n bytes back ≡ read_error all_element_scripts m bytes back
read-alike [] ends n m back h = refl
read-alike (b ∷ bs) ends n m back h =
    causes-alike (script_scan_error true n b) (script_scan_error true m b) (read_error all_element_scripts (script_fed_byte n b) bs back)
    (read_error all_element_scripts (script_fed_byte m b) bs back) (length bs + back) h.0
    (λ e. read-alike bs ends (script_fed_byte n b) (script_fed_byte m b) back (h.1 e))

pub step-error-alike : (step : ScriptStep) (n m : ScriptScan) → Alike true (step_asked step) (ends_by_step step) n m
    → step_error all_element_scripts n step ≡ step_error all_element_scripts m step
step-error-alike (Reads bytes h) n m a = read-alike (step_asks bytes h) (ends_by_step (Reads bytes h)) n m (asks_back h) a
step-error-alike (EndsContent letters) n m a = ap (script_cause_back (length letters + 2)) a

-- None of the bytes is refused.
no-cause : (n : ℕ) (o : Option Cause) → script_cause_back n o ≡ None → o ≡ None
no-cause n None e = refl
no-cause n (Some x) e = absurd (given _ e)

pub read-taken : (bytes : List ℕ) (m : ScriptScan) (back : ℕ) → read_error all_element_scripts m bytes back ≡ None → TakesIn true bytes m
read-taken [] m back e = tt
read-taken (b ∷ bs) m back e =
    let p = first-caused (script_cause_back (length bs + back) (script_scan_error true m b)) (read_error all_element_scripts (script_fed_byte m b) bs back) e in
    (no-cause (length bs + back) (script_scan_error true m b) p.0, read-taken bs (script_fed_byte m b) back p.1)

pub step-taken : (step : ScriptStep) (m : ScriptScan) → step_error all_element_scripts m step ≡ None
    → script_told_shown true (ends_by_step step) (step_asked step) m ≡ None
step-taken (Reads bytes h) m e =
    taken-told true (step_asks bytes h) (ends_by_step (Reads bytes h)) m (read-taken (step_asks bytes h) m (asks_back h) e) refl
step-taken (EndsContent letters) m e = ap (option_map _) (no-cause (length letters + 2) (script_scan_end_error m) e)

-- The end of a text, where what is pending is read.
pub script-read-fed : (bytes : List ℕ) (m : ScriptScan) → script_read all_element_scripts m bytes ≡ feed_bytes script_feeding m bytes
script-read-fed [] m = refl
script-read-fed (b ∷ bs) m = script-read-fed bs (script_fed_byte m b)

abbrev cut_of : List ℕ → ScriptScan → Option PathCause
cut_of bytes m =
    first_cause (read_error all_element_scripts m bytes 1) (script_cause_back 0 (script_scan_cut_error (script_read all_element_scripts m bytes)))

behind-alike : (bytes : List ℕ) (n m : ScriptScan) → Alike true bytes script_scan_cut_error n m → read_error all_element_scripts m bytes 1 ≡ None
    → script_scan_cut_error (script_read all_element_scripts n bytes) ≡ script_scan_cut_error (script_read all_element_scripts m bytes)
behind-alike [] n m a e = a
behind-alike (b ∷ bs) n m a e =
    let p = first-caused (script_cause_back (length bs + 1) (script_scan_error true m b)) (read_error all_element_scripts (script_fed_byte m b) bs 1) e in
    behind-alike bs (script_fed_byte n b) (script_fed_byte m b) (a.1 (no-cause (length bs + 1) (script_scan_error true m b) p.0)) p.1

path-causes-alike : (o p x y : Option PathCause) → o ≡ p → (p ≡ None → x ≡ y) → first_cause o x ≡ first_cause p y
path-causes-alike o None x y e f = ap (λ (z : Option PathCause). first_cause z x) e ∙ f refl
path-causes-alike o (Some r) x y e f = ap (λ (z : Option PathCause). first_cause z x) e

pub cut-alike : (h : Pending) (n m : ScriptScan) → Alike true (pending_bytes h) script_scan_cut_error n m
    → script_content_cut_error all_element_scripts n h ≡ script_content_cut_error all_element_scripts m h
cut-alike h n m a =
    let bytes = pending_bytes h in
    path-causes-alike (read_error all_element_scripts n bytes 1) (read_error all_element_scripts m bytes 1)
    (script_cause_back 0 (script_scan_cut_error (script_read all_element_scripts n bytes)))
    (script_cause_back 0 (script_scan_cut_error (script_read all_element_scripts m bytes))) (read-alike bytes script_scan_cut_error n m 1 a)
    (λ e. ap (script_cause_back 0) (behind-alike bytes n m a e))

pub cut-taken : (h : Pending) (m : ScriptScan) → script_content_cut_error all_element_scripts m h ≡ None
    → script_told_shown true script_scan_cut_error (pending_bytes h) m ≡ None
cut-taken h m e =
    let bytes = pending_bytes h in
    let p = first-caused (read_error all_element_scripts m bytes 1) (script_cause_back 0 (script_scan_cut_error (script_read all_element_scripts m bytes))) e in
    taken-told true bytes script_scan_cut_error m (read-taken bytes m 1 p.0)
    (ap script_scan_cut_error (sym (script-read-fed bytes m)) ∙ no-cause 0 (script_scan_cut_error (script_read all_element_scripts m bytes)) p.1)

-- Two members show a slash alone.
one-two : (w x y : Member) → Some (one w) ≡ Some (two x y) → ⊥
one-two w x y e = cc

slash-code : (m : ScriptScan) (split x y : Member) (r : Refusal) → Some (script_evidence (script_shown_by m split r)) ≡ Some (two x y)
    → script_code r ≡ code.SlashAmbig
slash-code m split x y SlashAmbig h = refl
slash-code m split x y SplitToken h = absurd (one-two split x y h)
slash-code m split x y PartialCharset h = absurd (one-two member.Whole x y h)
slash-code m split x y PartialEscape h = absurd (one-two member.Whole x y h)
slash-code m split x y JSTemplate h = absurd (one-two member.Whole x y h)
slash-code m split x y BadString h = absurd (one-two member.Whole x y h)
slash-code m split x y HtmlInScript h = absurd (one-two member.Whole x y h)

-- the code of what is refused, where two members show it
first-code : (m : ScriptScan) (split x y : Member) (n : ℕ) (o : Option Cause) (rest : Option EvidenceData) (later : Option PathCause) (e : PathCause)
    → first_shown (option_map (λ z. script_evidence (script_shown_by m split z.refusal)) o) rest ≡ Some (two x y)
    → first_cause (script_cause_back n o) later ≡ Some e → (rest ≡ Some (two x y) → later ≡ Some e → e.code ≡ code.SlashAmbig) → e.code ≡ code.SlashAmbig
first-code m split x y n None rest later e h i f = f h i
first-code m split x y n (Some z) rest later e h i f =
    sym (ap (λ (u : PathCause). u.code) (one_value (record { code = script_code z.refusal; back = z.back + n; shown = z.shown + n }) e i))
    ∙ slash-code m split x y z.refusal h

pub read-code : (bytes : List ℕ) (ends : ScriptScan → Option Cause) (m : ScriptScan) (x y : Member) (n back : ℕ) (e : PathCause)
    → script_told_shown true ends bytes m ≡ Some (two x y)
    → first_cause (read_error all_element_scripts m bytes back) (script_cause_back n (ends (script_read all_element_scripts m bytes))) ≡ Some e
    → e.code ≡ code.SlashAmbig
read-code [] ends m x y n back e h i =
    first-code m member.Whole x y n (ends m) None None e (or-none (option_map _ (ends m)) (two x y) h) (cause-or-none (script_cause_back n (ends m)) e i)
    (λ z o. absurd (none_some (two x y) z))
  where
    or-none : (o : Option EvidenceData) (z : EvidenceData) → o ≡ Some z → first_shown o None ≡ Some z
    or-none (Some u) z h = h
    or-none None z h = h

    cause-or-none : (o : Option PathCause) (z : PathCause) → o ≡ Some z → first_cause o None ≡ Some z
    cause-or-none (Some u) z h = h
    cause-or-none None z h = h
read-code (b ∷ bs) ends m x y n back e h i =
    let later = read_error all_element_scripts (script_fed_byte m b) bs back in
    let last = script_cause_back n (ends (script_read all_element_scripts (script_fed_byte m b) bs)) in
    first-code m (script_split_shows m b) x y (length bs + back) (script_scan_error true m b) (script_told_shown true ends bs (script_fed_byte m b))
    (first_cause later last) e h (sym (first-of-three (script_cause_back (length bs + back) (script_scan_error true m b)) later last) ∙ i)
    (λ z o. read-code bs ends (script_fed_byte m b) x y n back e z o)
  where
    first-of-three : (o p q : Option PathCause) → first_cause (first_cause o p) q ≡ first_cause o (first_cause p q)
    first-of-three (Some u) p q = refl
    first-of-three None p q = refl

last-none : (o : Option PathCause) → first_cause o None ≡ o
last-none (Some u) = refl
last-none None = refl

pub step-code-slash : (step : ScriptStep) (m : ScriptScan) (x y : Member) (e : PathCause)
    → script_told_shown true (ends_by_step step) (step_asked step) m ≡ Some (two x y) → step_error all_element_scripts m step ≡ Some e
    → e.code ≡ code.SlashAmbig
step-code-slash (Reads bytes h) m x y e t i =
    read-code (step_asks bytes h) (ends_by_step (Reads bytes h)) m x y 0 (asks_back h) e t
    (last-none (read_error all_element_scripts m (step_asks bytes h) (asks_back h)) ∙ i)
step-code-slash (EndsContent letters) m x y e t i = read-code [] script_scan_end_error m x y (length letters + 2) 0 e t i

pub cut-code-slash : (h : Pending) (m : ScriptScan) (x y : Member) (e : PathCause)
    → script_told_shown true script_scan_cut_error (pending_bytes h) m ≡ Some (two x y) → script_content_cut_error all_element_scripts m h ≡ Some e
    → e.code ≡ code.SlashAmbig
cut-code-slash h m x y e t i = read-code (pending_bytes h) script_scan_cut_error m x y 0 1 e t i
