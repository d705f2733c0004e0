-- What is written in the element `script`: by a path and by its scan state the same, and by a scan state and one above it.
use Rattle.std.proofs.Common.{◌≡◌, ℕ, ◌+◌, ◌&&◌, ◌||◌, ◌==◌, Bool, true, false, not, codes, length, List, [], ◌∷◌, ◌++◌, ◌⊎◌, inl, inr, Option, Some, None, option_map, if◌then◌else◌, refl, sym, ap, ap₂, ◌∙◌, subst}
use Rattle.std.specs.Prelude.{⊤}
use Rattle.std.specs.Char.{to_ascii_lowercase}
use Rattle.js_lexer.specs.Elements.{script_may_end}
use Rattle.js_lexer.specs.Refusals.{Cause}
use Rattle.js_lexer.specs.States.{ScriptState}
use Rattle.js_lexer.specs.Written.{is_hidden_in_script, script_hides, script_written, script_written_at_cut}
use Rattle.js_step.specs.ScriptScans.{ScriptScan, script_scan_cut_error, script_scan_error, script_shared}
use Rattle.place_core.specs.page.Classes.{Class, LessThan, class_of}
use Rattle.place_core.specs.page.Contents.{ScriptStep, Reads, EndsContent, pending_bytes, script_step, step_loose}
use Rattle.place_core.specs.page.States.{Pending, Nothing, PendingLess}
use Rattle.place_core.specs.place.Errors.{PathCause, first_cause, read_error, script_cause_back, script_content_cut_error, script_content_error, script_read, step_asks, step_error}
use Rattle.place_core.specs.declared.element.Element.{Element}
use Rattle.html_scan.specs.Scans.{all_element_scripts, script_fed_byte, script_scan_may_end}
use Rattle.html_step.proofs.ScriptContents.{IsKeptAs}
use Rattle.html_step.proofs.ScriptElementOrder.{DoesAlike}
use Rattle.html_step.proofs.ScriptModes.{may-end-under, step-of-nothing}
use Rattle.html_step.proofs.ScriptOrder.{ScriptUnder, script-grows, under_below, under_same}
use Rattle.html_step.proofs.ScriptPaths.{one-script}
use Rattle.js_step.specs.KeptWords.{kept_scan}
use Rattle.js_step.specs.ScriptPaths.{script_scanned}
use Rattle.place_core.proofs.Semilattices.{none_some, one_value}
use Rattle.text_norm.proofs.ScriptScansWrite.{below-cuts, below-hides, below-writes, kept-cuts, kept-hides, kept-writes, path-cuts, path-hides, path-writes}
use Rattle.text_norm.specs.Scanned.{scripts_writing}
use Rattle.text_norm.specs.Written.{ScriptWriting, path_script, script_bytes_out, script_cut_out, script_end_state, script_out, script_read_out, script_step_out}

-- A script that is written beside a scan state.
pub record WritesAsScans {S : Type 0} (w : ScriptWriting S) (R : S → ScriptScan → Type 0) : Type 0 where
  pub fed : (s : S) (n : ScriptScan) (b : ℕ) → R s n → script_scan_error true n b ≡ None → R (w.feed s b) (script_fed_byte n b)
  pub bytes : (s : S) (n : ScriptScan) (b : ℕ) → R s n → script_scan_error true n b ≡ None → w.byte s b ≡ script_written (script_shared n) b
  pub hides : (s : S) (n : ScriptScan) (word : List ℕ) → R s n → w.hides s word ≡ script_hides (script_shared n) word
  pub cuts : (s : S) (n : ScriptScan) → R s n → w.cut s ≡ script_written_at_cut (script_shared n)

-- bytes that are not refused
abbrev pub AllTaken : ScriptScan → List ℕ → Type 0
AllTaken n [] = ⊤
AllTaken n (b ∷ bs) = (script_scan_error true n b ≡ None) × AllTaken (script_fed_byte n b) bs

no-cause : (e : PathCause) → Some e ≡ None → ⊥
no-cause e h = cc

none-first : (o p : Option PathCause) → first_cause o p ≡ None → (o ≡ None) × (p ≡ None)
none-first None p h = (refl, h)
none-first (Some e) p h = absurd (no-cause e h)

none-back : (k : ℕ) (o : Option Cause) → script_cause_back k o ≡ None → o ≡ None
none-back k None h = refl
none-back k (Some e) h = absurd (no-cause _ h)

taken-of : (bs : List ℕ) (n : ScriptScan) (k : ℕ) → read_error all_element_scripts n bs k ≡ None → AllTaken n bs
taken-of [] n k h = tt
taken-of (b ∷ bs) n k h =
    let p = none-first (script_cause_back (length bs + k) (script_scan_error true n b)) (read_error all_element_scripts (script_fed_byte n b) bs k) h in
    (none-back (length bs + k) (script_scan_error true n b) p.0, taken-of bs (script_fed_byte n b) k p.1)

taken-before : (bs more : List ℕ) (n : ScriptScan) → AllTaken n (bs ++ more) → AllTaken n bs
taken-before [] more n h = tt
taken-before (b ∷ bs) more n h = (h.0, taken-before bs more (script_fed_byte n b) h.1)

asked-taken : (h : Pending) (bs : List ℕ) (n : ScriptScan) → AllTaken n (step_asks bs h) → AllTaken n bs
asked-taken PendingLess bs n k = taken-before bs (codes "<") n k
asked-taken h bs n k = k

bytes-same : {S : Type 0} {w : ScriptWriting S} {R : S → ScriptScan → Type 0} → WritesAsScans w R → (bs : List ℕ) (s : S) (n : ScriptScan) → R s n → AllTaken n bs
    → script_bytes_out w s bs ≡ script_bytes_out scripts_writing n bs
bytes-same a [] s n r h = refl
bytes-same {w = w} a (b ∷ bs) s n r h =
    ap₂ (λ (y z : List ℕ). y ++ z) (a.bytes s n b r h.0) (bytes-same a bs (w.feed s b) (script_fed_byte n b) (a.fed s n b r h.0) h.1)

behind-bytes : {S : Type 0} {w : ScriptWriting S} {R : S → ScriptScan → Type 0} → WritesAsScans w R → (bs : List ℕ) (s : S) (n : ScriptScan) → R s n → AllTaken n bs
    → R (script_end_state w s bs) (script_end_state scripts_writing n bs)
behind-bytes a [] s n r h = r
behind-bytes {w = w} a (b ∷ bs) s n r h = behind-bytes a bs (w.feed s b) (script_fed_byte n b) (a.fed s n b r h.0) h.1

-- Where the modes may differ, no word is read.
never-and : (x : Bool) → (x && false) ≡ false
never-and true = refl
never-and false = refl

plain-out : {S : Type 0} (w : ScriptWriting S) (s : S) (bs : List ℕ) → is_hidden_in_script bs ≡ false → script_read_out w s bs ≡ script_bytes_out w s bs
plain-out w s bs h =
    ap (λ (x : Bool). if not (w.may_end s) && x then w.hides s bs else script_bytes_out w s bs) h
    ∙ ap (λ (x : Bool). if x then w.hides s bs else script_bytes_out w s bs) (never-and (not (w.may_end s)))

by-mode : {S : Type 0} {w : ScriptWriting S} {R : S → ScriptScan → Type 0} → WritesAsScans w R → (bs : List ℕ) (s : S) (n : ScriptScan) → R s n → AllTaken n bs
    → w.may_end s ≡ script_scan_may_end n → script_read_out w s bs ≡ script_read_out scripts_writing n bs
by-mode {w = w} a bs s n r h e =
    ap (λ (x : Bool). if not x && is_hidden_in_script bs then w.hides s bs else script_bytes_out w s bs) e
    ∙ ap₂ (λ (y z : List ℕ). if not (script_scan_may_end n) && is_hidden_in_script bs then y else z) (a.hides s n bs r) (bytes-same a bs s n r h)

read-same : {S : Type 0} {w : ScriptWriting S} {R : S → ScriptScan → Type 0} → WritesAsScans w R → (bs : List ℕ) (s : S) (n : ScriptScan) → R s n → AllTaken n bs
    → (w.may_end s ≡ script_scan_may_end n) ⊎ (is_hidden_in_script bs ≡ false) → script_read_out w s bs ≡ script_read_out scripts_writing n bs
read-same a bs s n r h (inl e) = by-mode a bs s n r h e
read-same {w = w} a bs s n r h (inr e) = plain-out w s bs e ∙ bytes-same a bs s n r h ∙ sym (plain-out scripts_writing n bs e)

step-same : {S : Type 0} {w : ScriptWriting S} {R : S → ScriptScan → Type 0} → WritesAsScans w R → (x : ScriptStep) (b : ℕ) (s : S) (n : ScriptScan) → R s n
    → step_error all_element_scripts n x ≡ None → w.may_end s ≡ script_scan_may_end n → script_step_out w s x b ≡ script_step_out scripts_writing n x b
step-same a (Reads bs h) b s n r k e = read-same a bs s n r (asked-taken h bs n (taken-of (step_asks bs h) n _ k)) (inl e)
step-same a (EndsContent letters) b s n r k e = ap (λ (y : List ℕ). y ++ ((codes "</" ++ letters) ++ b ∷ [])) (a.cuts s n r)

-- Where nothing is pending the two step alike in both modes.
one-by : (x : Bool) → ((x && false) || ((x && false) || ((x && false) || false))) ≡ false
one-by true = refl
one-by false = refl

one-shown : (b : ℕ) → is_hidden_in_script (b ∷ []) ≡ false
one-shown b = one-by (to_ascii_lowercase b == 60)

loose-same : {S : Type 0} {w : ScriptWriting S} {R : S → ScriptScan → Type 0} → WritesAsScans w R → (c : Class) (b : ℕ) (s : S) (n : ScriptScan) → R s n
    → step_error all_element_scripts n (step_loose [] c b) ≡ None → script_step_out w s (step_loose [] c b) b ≡ script_step_out scripts_writing n (step_loose [] c b) b
loose-same a LessThan b s n r k = read-same a [] s n r tt (inr refl)
loose-same a c b s n r k = read-same a (b ∷ []) s n r (taken-of (b ∷ []) n 0 k) (inr (one-shown b))

abbrev pub SameMode : {S : Type 0} → ScriptWriting S → S → ScriptScan → Pending → Type 0
SameMode w s n h = (h ≡ Nothing) ⊎ (w.may_end s ≡ script_scan_may_end n)

at-nothing : {S : Type 0} {w : ScriptWriting S} {R : S → ScriptScan → Type 0} → WritesAsScans w R → (e : Element) (b : ℕ) (s : S) (n : ScriptScan) → R s n
    → script_content_error all_element_scripts e n Nothing (class_of b) b ≡ None → script_out w Nothing (class_of b) b e s ≡ script_out scripts_writing Nothing (class_of b) b e n
at-nothing {w = w} a e b s n r k =
    ap (λ (x : ScriptStep). script_step_out w s x b) (step-of-nothing (w.may_end s) e b)
    ∙ loose-same a (class_of b) b s n r (ap (step_error all_element_scripts n) (sym (step-of-nothing (script_scan_may_end n) e b)) ∙ k)
    ∙ ap (λ (x : ScriptStep). script_step_out scripts_writing n x b) (sym (step-of-nothing (script_scan_may_end n) e b))

with-mode : {S : Type 0} {w : ScriptWriting S} {R : S → ScriptScan → Type 0} → WritesAsScans w R → (e : Element) (h : Pending) (c : Class) (b : ℕ) (s : S) (n : ScriptScan) → R s n
    → w.may_end s ≡ script_scan_may_end n → script_content_error all_element_scripts e n h c b ≡ None → script_out w h c b e s ≡ script_out scripts_writing h c b e n
with-mode {w = w} a e h c b s n r m k =
    ap (λ (x : Bool). script_step_out w s (script_step x e h c b) b) m
    ∙ step-same a (script_step (script_scan_may_end n) e h c b) b s n r k m

pub script-out-same : {S : Type 0} {w : ScriptWriting S} {R : S → ScriptScan → Type 0} → WritesAsScans w R → (e : Element) (h : Pending) (c : Class) (b : ℕ) (s : S) (n : ScriptScan) → R s n
    → class_of b ≡ c → SameMode w s n h → script_content_error all_element_scripts e n h c b ≡ None → script_out w h c b e s ≡ script_out scripts_writing h c b e n
script-out-same {w = w} a e h c b s n r i (inl m) k =
    subst (λ (g : Pending). script_content_error all_element_scripts e n g c b ≡ None → script_out w g c b e s ≡ script_out scripts_writing g c b e n) (sym m)
    (subst (λ (d : Class). script_content_error all_element_scripts e n Nothing d b ≡ None → script_out w Nothing d b e s ≡ script_out scripts_writing Nothing d b e n) i (at-nothing a e b s n r)) k
script-out-same a e h c b s n r i (inr m) k = with-mode a e h c b s n r m k

-- at the end of a text
cut-mode : {S : Type 0} {w : ScriptWriting S} {R : S → ScriptScan → Type 0} → WritesAsScans w R → (bs : List ℕ) (s : S) (n : ScriptScan) → R s n → AllTaken n bs
    → w.may_end s ≡ script_scan_may_end n
    → (if w.may_end s then script_bytes_out w s bs else w.hides s bs) ≡ (if script_scan_may_end n then script_bytes_out scripts_writing n bs else script_hides (script_shared n) bs)
cut-mode {w = w} a bs s n r h e =
    ap (λ (x : Bool). if x then script_bytes_out w s bs else w.hides s bs) e
    ∙ ap₂ (λ (y z : List ℕ). if script_scan_may_end n then y else z) (bytes-same a bs s n r h) (a.hides s n bs r)

pub none-either : {A : Type 0} (x : Bool) (y : A) → (if x then y else y) ≡ y
none-either true y = refl
none-either false y = refl

cut-nothing : {S : Type 0} {w : ScriptWriting S} {R : S → ScriptScan → Type 0} → WritesAsScans w R → (s : S) (n : ScriptScan) → R s n
    → (if w.may_end s then [] else w.hides s []) ≡ (if script_scan_may_end n then [] else script_hides (script_shared n) [])
cut-nothing {w = w} a s n r =
    ap (λ (y : List ℕ). if w.may_end s then [] else y) (a.hides s n [] r) ∙ none-either (w.may_end s) [] ∙ sym (none-either (script_scan_may_end n) [])

cut-by : {S : Type 0} {w : ScriptWriting S} {R : S → ScriptScan → Type 0} → WritesAsScans w R → (h : Pending) (s : S) (n : ScriptScan) → R s n → SameMode w s n h → AllTaken n (pending_bytes h)
    → (if w.may_end s then script_bytes_out w s (pending_bytes h) else w.hides s (pending_bytes h))
    ≡ (if script_scan_may_end n then script_bytes_out scripts_writing n (pending_bytes h) else script_hides (script_shared n) (pending_bytes h))
cut-by {w = w} a h s n r (inl m) k =
    subst (λ (g : Pending). (if w.may_end s then script_bytes_out w s (pending_bytes g) else w.hides s (pending_bytes g))
    ≡ (if script_scan_may_end n then script_bytes_out scripts_writing n (pending_bytes g) else script_hides (script_shared n) (pending_bytes g))) (sym m) (cut-nothing a s n r)
cut-by a h s n r (inr m) k = cut-mode a (pending_bytes h) s n r k m

pub script-cut-same : {S : Type 0} {w : ScriptWriting S} {R : S → ScriptScan → Type 0} → WritesAsScans w R → (h : Pending) (s : S) (n : ScriptScan) → R s n → SameMode w s n h
    → script_content_cut_error all_element_scripts n h ≡ None → script_cut_out w h s ≡ script_cut_out scripts_writing h n
script-cut-same {w = w} a h s n r m k =
    let bs = pending_bytes h in
    let p = none-first (read_error all_element_scripts n bs 1) (script_cause_back 0 (script_scan_cut_error (script_read all_element_scripts n bs))) k in
    let t = taken-of bs n 1 p.0 in
    ap₂ (λ (y z : List ℕ). y ++ z) (cut-by a h s n r m t) (a.cuts (script_end_state w s bs) (script_end_state scripts_writing n bs) (behind-bytes a bs s n r t))

-- A path and its scan state.
kept-of : (o : Option ScriptScan) (n : ScriptScan) → option_map kept_scan o ≡ Some n → (m : ScriptScan) × (o ≡ Some m) × (kept_scan m ≡ n)
kept-of None n e = absurd (none_some n e)
kept-of (Some m) n e = (m, refl, one_value (kept_scan m) n e)

path-bytes : (v : ScriptState) (n : ScriptScan) (b : ℕ) → IsKeptAs v n → script_scan_error true n b ≡ None → script_written v b ≡ script_written (script_shared n) b
path-bytes v n b i e =
    let k = kept-of (script_scanned v) n i in
    path-writes v k.0 b k.1 (sym ((one-script v n i).error true b) ∙ e)
    ∙ sym (kept-writes k.0 b)
    ∙ ap (λ (m : ScriptScan). script_written (script_shared m) b) k.2

path-words : (v : ScriptState) (n : ScriptScan) (word : List ℕ) → IsKeptAs v n → script_hides v word ≡ script_hides (script_shared n) word
path-words v n word i =
    let k = kept-of (script_scanned v) n i in
    path-hides v k.0 word k.1 ∙ sym (kept-hides k.0 word) ∙ ap (λ (m : ScriptScan). script_hides (script_shared m) word) k.2

pub path-ends : (v : ScriptState) (n : ScriptScan) → IsKeptAs v n → script_written_at_cut v ≡ script_written_at_cut (script_shared n)
path-ends v n i =
    let k = kept-of (script_scanned v) n i in
    path-cuts v k.0 k.1 ∙ sym (kept-cuts k.0) ∙ ap (λ (m : ScriptScan). script_written_at_cut (script_shared m)) k.2

pub script-paths-write : WritesAsScans path_script IsKeptAs
script-paths-write = record {
  fed = λ v n b i e. (one-script v n i).next true b (sym ((one-script v n i).error true b) ∙ e);
  bytes = path-bytes;
  hides = path-words;
  cuts = path-ends;
}

pub path-mode : (v : ScriptState) (n : ScriptScan) (h : Pending) → IsKeptAs v n → SameMode path_script v n h
path-mode v n h i = inr (sym (one-script v n i).may_end)

-- A scan state and one above it.
under-bytes : (n m : ScriptScan) (b : ℕ) → ScriptUnder n m → script_scan_error true m b ≡ None → script_written (script_shared n) b ≡ script_written (script_shared m) b
under-bytes n m b (under_same e) k = ap (λ (x : ScriptScan). script_written (script_shared x) b) e
under-bytes n m b (under_below h) k = below-writes n m b h k

under-words : (n m : ScriptScan) (word : List ℕ) → ScriptUnder n m → script_hides (script_shared n) word ≡ script_hides (script_shared m) word
under-words n m word (under_same e) = ap (λ (x : ScriptScan). script_hides (script_shared x) word) e
under-words n m word (under_below h) = below-hides n m word h

pub under-ends : (n m : ScriptScan) → ScriptUnder n m → script_written_at_cut (script_shared n) ≡ script_written_at_cut (script_shared m)
under-ends n m (under_same e) = ap (λ (x : ScriptScan). script_written_at_cut (script_shared x)) e
under-ends n m (under_below h) = below-cuts n m h

pub script-scans-write : WritesAsScans scripts_writing ScriptUnder
script-scans-write = record {
  fed = λ n m b u e. (script-grows n m u).next true b e;
  bytes = under-bytes;
  hides = under-words;
  cuts = under-ends;
}

pub under-mode : (n m : ScriptScan) (h : Pending) → ScriptUnder n m → DoesAlike n m h → SameMode scripts_writing n m h
under-mode n m h u (inl e) = inr (ap script_scan_may_end e)
under-mode n m h u (inr (inl e)) = inl e
under-mode n m h u (inr (inr t)) = inr (may-end-under n m u t)

-- where nothing is pending at the end of a text
pub nothing-cut : (v : ScriptState) → script_cut_out path_script Nothing v ≡ script_written_at_cut v
nothing-cut v = ap (λ (xs : List ℕ). xs ++ script_written_at_cut v) (none-either (script_may_end v) [])
