-- What shows a refusal in the element `script`, as the code finds it: by what was pending back, which begins with some bytes and goes on with letters, and
-- then by the byte at hand or an end.
use Rattle.std.proofs.Common.{◌≡◌, ℕ, Bool, true, List, [], ◌∷◌, ◌++◌, Option, Some, None, refl, sym, ap, ap₂, ◌∙◌, subst}
use Rattle.js_lexer.specs.Refusals.{Cause}
use Rattle.js_step.specs.ScriptScans.{ScriptScan, script_scan_start}
use Rattle.place_core.specs.page.Classes.{Class}
use Rattle.place_core.specs.page.Contents.{ScriptStep, Reads, pending_bytes, script_step}
use Rattle.place_core.specs.page.States.{Pending, Nothing, PendingLess, LessAtCut, PendingName, PendingBang, PendingBangDash, PendingOpening}
use Rattle.place_core.specs.page.Tags.{feed_bytes}
use Rattle.place_core.specs.place.Errors.{step_asks}
use Rattle.place_core.specs.declared.element.Element.TheVariants as element
use Rattle.place_core.specs.declared.js.Js.{Js}
use Rattle.place_core.specs.declared.member.Member.{Member}
use Rattle.place_core.specs.declared.place.Place.{Place}
use Rattle.place_core.specs.declared.place.Place.TheVariants as place
use Rattle.html_scan.specs.Scans.{At, script_feeding, script_scan_may_end, script_scan_step}
use Rattle.html_scan.specs.ScriptStepViews.{pending_letters, pending_opens}
use Rattle.html_step.specs.Laws.{EvidenceData}
use Rattle.html_step.specs.Origins.{ends_by_step, first_shown, script_byte_shown, script_shown, script_step_shown, script_told_shown, step_asked, step_origin}
use Rattle.html_step.specs.ScriptShowing.{script_end_shows, script_fed_shown}
use Rattle.html_step.proofs.ScriptShowing.{shown-more, told-split}

pending-parts : (h : Pending) → pending_bytes h ≡ pending_opens h ++ pending_letters h
pending-parts Nothing = refl
pending-parts PendingLess = refl
pending-parts LessAtCut = refl
pending-parts (PendingName letters) = refl
pending-parts PendingBang = refl
pending-parts PendingBangDash = refl
pending-parts (PendingOpening letters) = refl

pub pending-is : (h : Pending) (xs ys : List ℕ) → xs ≡ pending_opens h → ys ≡ pending_letters h → pending_bytes h ≡ xs ++ ys
pending-is h xs ys e i = pending-parts h ∙ sym (ap₂ (λ (u v : List ℕ). u ++ v) e i)

-- bytes of which the first ones are refused, or not
pub some-part : (xs ys bs : List ℕ) (n : ScriptScan) (z : EvidenceData) → bs ≡ xs ++ ys
    → Some z ≡ script_fed_shown true xs n → Some z ≡ script_fed_shown true bs n
some-part xs ys bs n z e h =
    ap (λ (o : Option EvidenceData). first_shown o (script_fed_shown true ys (feed_bytes script_feeding n xs))) h ∙ sym (shown-more true xs ys n)
    ∙ ap (λ (w : List ℕ). script_fed_shown true w n) (sym e)

pub none-part : (xs ys bs : List ℕ) (n m : ScriptScan) (o : Option EvidenceData) → bs ≡ xs ++ ys → None ≡ script_fed_shown true xs n
    → m ≡ feed_bytes script_feeding n xs → o ≡ script_fed_shown true ys m → o ≡ script_fed_shown true bs n
none-part xs ys bs n m o e h i j =
    j ∙ ap (script_fed_shown true ys) i ∙ ap (λ (w : Option EvidenceData). first_shown w (script_fed_shown true ys (feed_bytes script_feeding n xs))) h
    ∙ sym (shown-more true xs ys n) ∙ ap (λ (w : List ℕ). script_fed_shown true w n) (sym e)

shown-alone : (o : Option EvidenceData) → first_shown o None ≡ o
shown-alone (Some z) = refl
shown-alone None = refl

pub one-byte : (b : ℕ) (n : ScriptScan) (o : Option EvidenceData) → o ≡ script_byte_shown true n b → o ≡ script_fed_shown true (b ∷ []) n
one-byte b n o h = h ∙ sym (shown-alone (script_byte_shown true n b))

-- and then an end
pub some-told : (ends : ScriptScan → Option Cause) (bs : List ℕ) (n : ScriptScan) (z : EvidenceData) → Some z ≡ script_fed_shown true bs n
    → Some z ≡ script_told_shown true ends bs n
some-told ends bs n z h =
    let m = feed_bytes script_feeding n bs in
    ap (λ (o : Option EvidenceData). first_shown o (script_end_shows (ends m) m)) h ∙ sym (told-split true ends bs n)

pub none-told : (ends : ScriptScan → Option Cause) (bs : List ℕ) (n m : ScriptScan) (o : Option EvidenceData) → None ≡ script_fed_shown true bs n
    → m ≡ feed_bytes script_feeding n bs → o ≡ script_end_shows (ends m) m → o ≡ script_told_shown true ends bs n
none-told ends bs n m o h i j =
    let k = feed_bytes script_feeding n bs in
    j ∙ ap (λ (s : ScriptScan). script_end_shows (ends s) s) i ∙ ap (λ (w : Option EvidenceData). first_shown w (script_end_shows (ends k) k)) h
    ∙ sym (told-split true ends bs n)

-- by what the byte does
step-is : (m : Bool) (n : ScriptScan) (h : Pending) (c : Class) (b : ℕ) (s : ScriptStep) → s ≡ script_step m element.Script h c b → m ≡ script_scan_may_end n
    → script_scan_step n h c b ≡ s
step-is m n h c b s e i = sym (e ∙ ap (λ (x : Bool). script_step x element.Script h c b) i)

abbrev TellsStep : ScriptScan → Option EvidenceData → ScriptStep → Type 0
TellsStep n o step = o ≡ script_told_shown true (ends_by_step step) (step_asked step) n

pub told-by : (m : Bool) (n : ScriptScan) (h : Pending) (c : Class) (b : ℕ) (s : ScriptStep) (o : Option EvidenceData) → s ≡ script_step m element.Script h c b
    → m ≡ script_scan_may_end n → o ≡ script_told_shown true (ends_by_step s) (step_asked s) n
    → o ≡ script_told_shown true (ends_by_step (script_scan_step n h c b)) (step_asked (script_scan_step n h c b)) n
told-by m n h c b s o e i t = subst (TellsStep n o) (sym (step-is m n h c b s e i)) t

pub told-reads : (bytes : List ℕ) (k : Pending) (n : ScriptScan) (o : Option EvidenceData) → o ≡ script_fed_shown true (step_asks bytes k) n
    → o ≡ script_told_shown true (ends_by_step (Reads bytes k)) (step_asked (Reads bytes k)) n
told-reads bytes k n o h =
    h ∙ sym (shown-alone (script_fed_shown true (step_asks bytes k) n)) ∙ sym (told-split true (ends_by_step (Reads bytes k)) (step_asks bytes k) n)

-- the origin of a member there
pub origin-by : (m : Bool) (n : ScriptScan) (h : Pending) (c : Class) (b : ℕ) (s : ScriptStep) (x y : Member) → s ≡ script_step m element.Script h c b
    → m ≡ script_scan_may_end n → x ≡ step_origin s y → x ≡ step_origin (script_scan_step n h c b) y
origin-by m n h c b s x y e i t = t ∙ ap (λ (z : ScriptStep). step_origin z y) (sym (step-is m n h c b s e i))

-- where a text begins
pub begun-element : (p : Place) (j : Js) (n : ScriptScan) (c : Class) (b : ℕ) (o : Option EvidenceData) → p ≡ place.Script j → n ≡ script_scan_start j
    → o ≡ script_step_shown (script_scan_step n Nothing c b) n → o ≡ script_shown (At p) c b
begun-element p j n c b o d e h =
    h ∙ ap (λ (s : ScriptScan). script_step_shown (script_scan_step s Nothing c b) s) e ∙ sym (ap (λ (x : Place). script_shown (At x) c b) d)
