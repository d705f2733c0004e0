-- The element `script`: where a byte leads that the script reads, and what is refused of bytes that it reads at once.
use Rattle.std.proofs.Common.{◌≡◌, ℕ, ◌+◌, ◌-◌, ◌<◌, ◌≤◌, Bool, Option, Some, None, List, [], ◌∷◌, ◌++◌, length, drop, refl, sym, ap, ◌∙◌, arith}
use Rattle.std.proofs.lemmas.List.{length-append, length-drop, drop_more}
use Rattle.std.specs.Prelude.{IfSome, get_or}
use Rattle.js_step.specs.ScriptScans.{ScriptScan}
use Rattle.place_core.specs.page.Classes.{Class}
use Rattle.place_core.specs.page.Contents.{ScriptStep, Reads, EndsContent, script_step, pending_bytes}
use Rattle.place_core.specs.page.States.{Pending, Nothing, PendingLess, LessAtCut, PendingName, PendingBang, PendingBangDash, PendingOpening}
use Rattle.place_core.specs.page.Tags.{feed_bytes}
use Rattle.place_core.specs.place.Errors.{PathCause, ScriptFeeding, first_cause, read_error, script_cause_back, script_content_cut_error, script_content_error, script_read, step_error}
use Rattle.place_core.specs.declared.element.Element.TheVariants as element
use Rattle.html_scan.specs.Scans.{InScriptElement, all_element_scripts, scan_by_step, script_element_next, script_fed_byte, script_feeding, script_scan_may_end}
use Rattle.html_scan.specs.ScriptStepViews.{pending_letters, pending_opens}
use Rattle.html_scan.specs.Slices.{pending}
use Rattle.html_scan.specs.declared.cause.Cause.{Cause as ReadCause}
use Rattle.html_scan.proofs.PendingNames.{length_pending}
use Rattle.html_scan.proofs.UrlsFed.{feed_more}

pub element_reads : (n w : ScriptScan) (m : Bool) (h : Pending) (c : Class) (b : ℕ) → m ≡ script_scan_may_end n
    → Reads (pending_bytes h ++ b ∷ []) Nothing ≡ script_step m element.Script h c b
    → w ≡ script_fed_byte (feed_bytes script_feeding n (pending_bytes h)) b → InScriptElement w Nothing ≡ script_element_next n h c b
element_reads n w m h c b e s f =
    let fed : w ≡ feed_bytes script_feeding n (pending_bytes h ++ b ∷ []) = f ∙ sym (feed_more script_feeding n (pending_bytes h) (b ∷ [])) in
    let stepped : Reads (pending_bytes h ++ b ∷ []) Nothing ≡ script_step (script_scan_may_end n) element.Script h c b =
    s ∙ ap (λ (x : Bool). script_step x element.Script h c b) e in
    ap (λ (x : ScriptScan). InScriptElement x Nothing) fed ∙ ap (λ (x : ScriptStep). scan_by_step n x c) stepped

-- what is refused of bytes that a script reads
first_of_three : (o p q : Option PathCause) → first_cause o (first_cause p q) ≡ first_cause (first_cause o p) q
first_of_three (Some e) p q = refl
first_of_three None p q = refl

or_none : (o : Option PathCause) → first_cause o None ≡ o
or_none (Some e) = refl
or_none None = refl

pub read_more : {S : Type 0} (m : ScriptFeeding S) (s : S) (xs ys : List ℕ) (n : ℕ)
    → read_error m s (xs ++ ys) n ≡ first_cause (read_error m s xs (length ys + n)) (read_error m (script_read m s xs) ys n)
read_more m s [] ys n = refl
read_more m s (x ∷ xs) ys n =
    let back : length (xs ++ ys) + n ≡ length xs + (length ys + n) = omega (arith, length-append xs ys) in
    let this = script_cause_back (length xs + (length ys + n)) (m.refuses s x) in
    let rest = read_error m (m.feed s x) xs (length ys + n) in
    let last = read_error m (script_read m (m.feed s x) xs) ys n in
    ap (λ k. first_cause (script_cause_back k (m.refuses s x)) (read_error m (m.feed s x) (xs ++ ys) n)) back
    ∙ ap (λ (o : Option PathCause). first_cause this o) (read_more m (m.feed s x) xs ys n)
    ∙ first_of_three this rest last

pub read_as_fed : (n : ScriptScan) (xs : List ℕ) → script_read all_element_scripts n xs ≡ feed_bytes script_feeding n xs
read_as_fed n [] = refl
read_as_fed n (x ∷ xs) = read_as_fed (script_fed_byte n x) xs

pub read_at : {S : Type 0} (m : ScriptFeeding S) (s : S) (bytes : List ℕ) (i behind left : ℕ) → i < length bytes → left + (i + 1) ≡ length bytes + behind
    → read_error m s (drop i bytes) behind
    ≡ first_cause (script_cause_back left (m.refuses s (get_or bytes i 0))) (read_error m (m.feed s (get_or bytes i 0)) (drop (i + 1) bytes) behind)
read_at m s bytes i behind left h e =
    let long = length-drop (i + 1) bytes in
    let back : length (drop (i + 1) bytes) + behind ≡ left = omega (arith, long, h, e) in
    let b = get_or bytes i 0 in
    ap (λ (xs : List ℕ). read_error m s xs behind) (drop_more bytes i 0 h)
    ∙ ap (λ k. first_cause (script_cause_back k (m.refuses s b)) (read_error m (m.feed s b) (drop (i + 1) bytes) behind)) back

-- of a byte behind others
pub read_last : (n v : ScriptScan) (xs : List ℕ) (b : ℕ) → None ≡ read_error all_element_scripts n xs 1 → v ≡ feed_bytes script_feeding n xs
    → script_cause_back 0 (all_element_scripts.refuses v b) ≡ read_error all_element_scripts n (xs ++ b ∷ []) 0
read_last n v xs b e f =
    let behind : v ≡ script_read all_element_scripts n xs = f ∙ sym (read_as_fed n xs) in
    let last = read_error all_element_scripts (script_read all_element_scripts n xs) (b ∷ []) 0 in
    ap (λ (w : ScriptScan). script_cause_back 0 (all_element_scripts.refuses w b)) behind
    ∙ sym (or_none (script_cause_back 0 (all_element_scripts.refuses (script_read all_element_scripts n xs) b)))
    ∙ ap (λ (o : Option PathCause). first_cause o last) e
    ∙ sym (read_more all_element_scripts n xs (b ∷ []) 0)

pub read_before : (n : ScriptScan) (xs : List ℕ) (b : ℕ) (e : PathCause) → Some e ≡ read_error all_element_scripts n xs 1
    → Some e ≡ read_error all_element_scripts n (xs ++ b ∷ []) 0
read_before n xs b e h =
    let last = read_error all_element_scripts (script_read all_element_scripts n xs) (b ∷ []) 0 in
    ap (λ (o : Option PathCause). first_cause o last) h ∙ sym (read_more all_element_scripts n xs (b ∷ []) 0)

pub byte_alone : (n : ScriptScan) (b : ℕ) → script_cause_back 0 (all_element_scripts.refuses n b) ≡ read_error all_element_scripts n (b ∷ []) 0
byte_alone n b = sym (or_none (script_cause_back 0 (all_element_scripts.refuses n b)))

-- of what is pending: its marks, and its letters
parts_of : (h : Pending) → pending_opens h ++ pending_letters h ≡ pending_bytes h
parts_of Nothing = refl
parts_of PendingLess = refl
parts_of LessAtCut = refl
parts_of (PendingName letters) = refl
parts_of PendingBang = refl
parts_of PendingBangDash = refl
parts_of (PendingOpening letters) = refl

pub opens_refused : (n : ScriptScan) (h : Pending) (opens letters : List ℕ) (e : PathCause) → opens ≡ pending_opens h → letters ≡ pending_letters h
    → Some e ≡ read_error all_element_scripts n opens (length letters + 1) → Some e ≡ read_error all_element_scripts n (pending_bytes h) 1
opens_refused n h opens letters e o l f =
    let rest = read_error all_element_scripts (script_read all_element_scripts n opens) letters 1 in
    let whole : opens ++ letters ≡ pending_bytes h = rw (o, l) (parts_of h) in
    ap (λ (x : Option PathCause). first_cause x rest) f
    ∙ sym (read_more all_element_scripts n opens letters 1)
    ∙ ap (λ (xs : List ℕ). read_error all_element_scripts n xs 1) whole

pub letters_refused : (n v : ScriptScan) (h : Pending) (opens letters : List ℕ) (e : Option PathCause) → opens ≡ pending_opens h
    → letters ≡ pending_letters h → None ≡ read_error all_element_scripts n opens (length letters + 1) → v ≡ feed_bytes script_feeding n opens
    → e ≡ read_error all_element_scripts v letters 1 → e ≡ read_error all_element_scripts n (pending_bytes h) 1
letters_refused n v h opens letters e o l f g i =
    let rest = read_error all_element_scripts (script_read all_element_scripts n opens) letters 1 in
    let whole : opens ++ letters ≡ pending_bytes h = rw (o, l) (parts_of h) in
    i ∙ ap (λ (w : ScriptScan). read_error all_element_scripts w letters 1) (g ∙ sym (read_as_fed n opens))
    ∙ ap (λ (x : Option PathCause). first_cause x rest) f
    ∙ sym (read_more all_element_scripts n opens letters 1)
    ∙ ap (λ (xs : List ℕ). read_error all_element_scripts n xs 1) whole

pub bound_within : (k n : ℕ) (o : Option ReadCause) → k ≤ n + 1 → IfSome o (λ (e : ReadCause). (e.back < k) × (e.shown < k))
    → IfSome o (λ (e : ReadCause). (e.back ≤ n) × (e.shown ≤ n))
bound_within k n None h i = tt
bound_within k n (Some e) h i =
    (let back : e.back ≤ n = omega (arith, h, i.0) in let shown : e.shown ≤ n = omega (arith, h, i.1) in (back, shown))

-- at the end of a text
pub cut_refused : (n v : ScriptScan) (h : Pending) → None ≡ read_error all_element_scripts n (pending_bytes h) 1
    → v ≡ feed_bytes script_feeding n (pending_bytes h)
    → script_cause_back 0 (all_element_scripts.refuses_cut v) ≡ script_content_cut_error all_element_scripts n h
cut_refused n v h e f =
    let last = script_cause_back 0 (all_element_scripts.refuses_cut (script_read all_element_scripts n (pending_bytes h))) in
    ap (λ (w : ScriptScan). script_cause_back 0 (all_element_scripts.refuses_cut w)) (f ∙ sym (read_as_fed n (pending_bytes h)))
    ∙ ap (λ (o : Option PathCause). first_cause o last) e

-- at a byte
pub step_refused : (n : ScriptScan) (m : Bool) (h : Pending) (c : Class) (b : ℕ) (s : ScriptStep) → m ≡ script_scan_may_end n
    → s ≡ script_step m element.Script h c b → step_error all_element_scripts n s ≡ script_content_error all_element_scripts element.Script n h c b
step_refused n m h c b s e f =
    ap (λ (x : ScriptStep). step_error all_element_scripts n x) (f ∙ ap (λ (x : Bool). script_step x element.Script h c b) e)

pub less_asked : (n : ScriptScan) → script_cause_back 0 (all_element_scripts.refuses n 60) ≡ step_error all_element_scripts n (Reads [] PendingLess)
less_asked n = sym (or_none (script_cause_back 0 (all_element_scripts.refuses n 60)))

pub end_refused : (n : ScriptScan) (text : List ℕ) (letters k : ℕ) → letters ≤ k → k ≤ length text
    → script_cause_back (letters + 2) (all_element_scripts.refuses_end n)
    ≡ step_error all_element_scripts n (EndsContent (pending text (k - letters) k))
end_refused n text letters k h i =
    let long : letters ≡ length (pending text (k - letters) k) = omega (arith, length_pending text (k - letters) k i, h) in
    ap (λ l. script_cause_back (l + 2) (all_element_scripts.refuses_end n)) long

pub bound_alone : (n : ℕ) (o : Option ReadCause) → IfSome o (λ (e : ReadCause). (e.back ≤ n + 0) × (e.shown ≤ n + 0))
    → IfSome o (λ (e : ReadCause). (e.back ≤ n) × (e.shown ≤ n))
bound_alone n None h = tt
bound_alone n (Some e) h = (let back : e.back ≤ n = omega (arith, h.0) in let shown : e.shown ≤ n = omega (arith, h.1) in (back, shown))
