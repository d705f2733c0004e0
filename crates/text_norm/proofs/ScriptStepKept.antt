-- A byte of a script in its element, by what it does there: bytes are read and written, or are pending, or the end tag ends the script.
use Rattle.std.proofs.Common.{◌≡◌, ℕ, ◌+◌, ◌-◌, ◌<◌, ◌≤◌, ◌&&◌, not, if◌then◌else◌, Bool, true, false, codes, List, [], ◌∷◌, ◌++◌, length, get_or, Option, None, IfSome, true≢false, refl, sym, ap, ap₂, ◌∙◌, subst, arith}
use Rattle.std.proofs.lemmas.List.{append-nil, append_assoc}
use Rattle.std.specs.Char.{is_ascii_alphabetic}
use Rattle.std.specs.List.{list_all}
use Rattle.js_lexer.specs.Written.{is_hidden_in_script, script_written_at_cut}
use Rattle.js_step.specs.ScriptScans.{ScriptScan, script_scan_start, script_shared}
use Rattle.place_core.proofs.ScriptSteps.{MayBePending, ends_name, step-ends, step-keeps, token-goes-on}
use Rattle.place_core.specs.page.Classes.{Class, White, Solidus, GreaterThan, class_of}
use Rattle.place_core.specs.page.Contents.{ScriptStep, Reads, EndsContent, pending_bytes, script_step}
use Rattle.place_core.specs.page.References.{Reference, Closed, as_it_stands}
use Rattle.place_core.specs.page.States.{Pending, PendingName}
use Rattle.place_core.specs.page.Tags.{feed_bytes}
use Rattle.place_core.specs.declared.element.Element.TheVariants as element
use Rattle.place_core.specs.declared.js.Js.{Js}
use Rattle.place_core.specs.declared.js.Js.TheVariants as js
use Rattle.place_core.specs.declared.place.Place.TheVariants as place
use Rattle.html_scan.proofs.PendingNames.{pending_grows}
use Rattle.html_scan.specs.ScanViews.{pending_from, pending_length, script_pending_at}
use Rattle.html_scan.specs.Scans.{Scan, At, InScriptElement, scan_by_step, scan_next, script_element_next, script_feeding, script_scan_may_end}
use Rattle.html_scan.specs.Slices.{pending}
use Rattle.html_scan.specs.declared.script_pending.ScriptPending.{ScriptPending}
use Rattle.html_scan.specs.declared.script_pending.ScriptPending.TheVariants as back
use Rattle.text_norm.specs.InScripts.{back_of_scan, script_of_scan}
use Rattle.text_norm.specs.Kept.{IsPlaced, IsProgressKept, IsScriptKept, ProgressReads, ScriptEnds, ScriptReadsOn, bears, end_letters, held_in_line, hides, in_style_comment, is_in_script, is_script_comment, less_kept, reference_of, scan_of, script_waits}
use Rattle.text_norm.specs.ReferenceViews.{reference_view}
use Rattle.text_norm.specs.Scanned.{scan_open, scan_out, scripts_writing}
use Rattle.text_norm.specs.Written.{script_out, script_read_out, script_step_out}
use Rattle.text_norm.specs.declared.pending.WriteProgress.{WriteProgress}
use Rattle.text_norm.specs.declared.reference.Opened.{Opened}
use Rattle.text_norm.proofs.ScriptBacks.{back-length}
use Rattle.text_norm.proofs.Slices.{first_byte, parted, pending_joins}
use Rattle.text_norm.proofs.Steps.{byte_at, next_of}

abbrev never : {A : Type 0} → false ≡ true → A
never e = absurd (true≢false (sym e))

-- Of a scan state in the element, by its script and what is pending back.
pub record InScriptAt (f : Scan) (n : ScriptScan) (h : Pending) : Type 0 where
  pub less : less_kept f ≡ script_waits (script_shared n) ++ pending_bytes h
  pub hides : hides f ≡ is_script_comment (script_shared n)
  pub next : (c : Class) (b : ℕ) → scan_next f c b ≡ script_element_next n h c b
  pub out : (c : Class) (b : ℕ) (r : Reference) → scan_out f c b r ≡ script_out scripts_writing h c b element.Script n
  pub opens : (c : Class) (b : ℕ) (r : Reference) → scan_open f c b r ≡ Closed
  pub bears : bears f ≡ false

start-waits : (j : Js) → script_waits (script_shared (script_scan_start j)) ≡ []
start-waits (js.Code s x) = refl
start-waits js.Dq = refl
start-waits js.Sq = refl
start-waits (js.Regexp slash) = refl
start-waits (js.Line s) = refl
start-waits (js.Block s star) = refl

pub in-script-at : (f : Scan) → is_in_script f ≡ true → InScriptAt f (script_of_scan f) (back_of_scan f)
in-script-at (At (place.Script j)) e = record {
  less = sym (append-nil (script_waits (script_shared (script_scan_start j))) ∙ start-waits j);
  hides = refl;
  next = λ c b. refl;
  out = λ c b r. refl;
  opens = λ c b r. refl;
  bears = refl;
}
in-script-at (InScriptElement n h) e = record {
  less = sym (append_assoc _ (held_in_line (script_shared n)) (pending_bytes h));
  hides = refl;
  next = λ c b. refl;
  out = λ c b r. refl;
  opens = λ c b r. refl;
  bears = refl;
}
in-script-at (At p) e = never e
in-script-at f e = never e

-- What waits in the script, without what is pending.
all-parts : (text : List ℕ) (index : ℕ) (x : WriteProgress) (n : ScriptScan) (h : Pending) → InScriptAt (scan_of text index x) n h → (kept : IsProgressKept text index x)
    → (kept.free ++ script_waits (script_shared n)) ++ pending_bytes h ≡ pending text x.done index
all-parts text index x n h i kept =
    append_assoc kept.free (script_waits (script_shared n)) (pending_bytes h)
    ∙ ap (λ (xs : List ℕ). kept.free ++ xs) (sym i.less)
    ∙ ap (λ (r : Reference). kept.free ++ (as_it_stands r ++ less_kept (scan_of text index x))) (sym (kept.closed i.bears))
    ∙ kept.parts

pub record PendingAt (text : List ℕ) (index from done : ℕ) (n : ScriptScan) (h : Pending) (free : List ℕ) : Type 0 where
  pub order : done ≤ from
  pub before : free ++ script_waits (script_shared n) ≡ pending text done from
  pub behind : pending text from index ≡ pending_bytes h

pub pending-at : (text : List ℕ) (index from : ℕ) (x : WriteProgress) (n : ScriptScan) (h : Pending) → InScriptAt (scan_of text index x) n h → (kept : IsProgressKept text index x)
    → from + length (pending_bytes h) ≡ index → index ≤ length text → PendingAt text index from x.done n h kept.free
pending-at text index from x n h i kept e inside =
    let p = parted text x.done index (kept.free ++ script_waits (script_shared n)) (pending_bytes h) kept.done inside (all-parts text index x n h i kept) in
    let here : index - length (pending_bytes h) ≡ from = omega (arith, e) in
    record {
      order = omega (arith, p.start, here);
      before = sym (ap (pending text x.done) (sym here) ∙ p.before);
      behind = ap (λ (at : ℕ). pending text at index) (sym here) ∙ p.behind;
    }

abbrev pub element-kept : (text : List ℕ) (index from : ℕ) (x : WriteProgress) (n : ScriptScan) (h : Pending) → InScriptAt (scan_of text index x) n h → (kept : IsProgressKept text index x)
    → from + length (pending_bytes h) ≡ index → index ≤ length text → IsScriptKept text from (script_shared n) x.done
element-kept text index from x n h i kept e inside =
    let p = pending-at text index from x n h i kept e inside in
    record {
      free = kept.free;
      parts = p.before;
      order = p.order;
      hidden = λ k. kept.hidden (i.hides ∙ k);
      cut = λ k. kept.cut (i.hides ∙ k);
    }

pub may-be-pending : (text : List ℕ) (k : ℕ) (m : Bool) (p : ScriptPending) → MayBePending m (script_pending_at text k p)
may-be-pending text k m p = by m p
  where
    by : (m : Bool) (p : ScriptPending) → MayBePending m (script_pending_at text k p)
    by true p = tt
    by false back.Nothing = tt
    by false back.Less = tt
    by false (back.Name letters) = tt
    by false back.Bang = tt
    by false back.BangDash = tt
    by false (back.Opening letters) = tt

-- The bytes that a step reads, and those that are pending behind it.
pub record StepAt (text : List ℕ) (index from to : ℕ) (bs : List ℕ) (g : Pending) : Type 0 where
  pub read : pending text from to ≡ bs
  pub behind : pending text to (index + 1) ≡ pending_bytes g
  pub order : from ≤ to
  pub end : to + length (pending_bytes g) ≡ index + 1

pub step-at : (text : List ℕ) (index from : ℕ) (m : Bool) (h g : Pending) (bs : List ℕ) → index < length text → MayBePending m h → from ≤ index → pending text from index ≡ pending_bytes h
    → script_step m element.Script h (class_of (byte_at text index)) (byte_at text index) ≡ Reads bs g → StepAt text index from (from + length bs) bs g
step-at text index from m h g bs inside may order e s =
    let keeps = step-keeps m element.Script h g (class_of (byte_at text index)) (byte_at text index) bs refl may s in
    let whole : bs ++ pending_bytes g ≡ pending text from (index + 1) =
    keeps ∙ ap (λ (xs : List ℕ). xs ++ byte_at text index ∷ []) (sym e) ∙ sym (pending_grows text from index order inside) in
    let p = parted text from (index + 1) bs (pending_bytes g) (omega (arith, order)) (omega (arith, inside)) whole in
    record {
      read = ap (pending text from) (sym p.start) ∙ p.before;
      behind = ap (λ (at : ℕ). pending text at (index + 1)) (sym p.start) ∙ p.behind;
      order = omega arith;
      end = omega (arith, p.start, p.end);
    }

no-reference : (text : List ℕ) (start index : ℕ) (o : Option Opened) → o ≡ None → IfSome o (IsPlaced start index)
no-reference text start index o e = subst (λ (q : Option Opened). IfSome q (IsPlaced start index)) (sym e) tt

pub read-kept : (text old new : List ℕ) (index to : ℕ) (x y : WriteProgress) (n : ScriptScan) (h g : Pending) (bs : List ℕ) → InScriptAt (scan_of text index x) n h → (kept : IsProgressKept text index x)
    → index < length text → scan_of text (index + 1) y ≡ next_of text index x → script_step (script_scan_may_end n) element.Script h (class_of (byte_at text index)) (byte_at text index) ≡ Reads bs g
    → pending text to (index + 1) ≡ pending_bytes g → to + length (pending_bytes g) ≡ index + 1
    → y.reference ≡ None → pending_from y.scan ≤ index + 1
    → ScriptReadsOn text to (script_shared (feed_bytes script_feeding n bs)) y.done kept.free (script_read_out scripts_writing n bs) old new
    → ProgressReads text index x y kept.free old new
read-kept text old new index to x y n h g bs i kept inside scan step behind end none named r =
    let c = class_of (byte_at text index) in
    let b = byte_at text index in
    let u = feed_bytes script_feeding n bs in
    let there : scan_of text (index + 1) y ≡ InScriptElement u g = scan ∙ i.next c b ∙ ap (λ (z : ScriptStep). scan_by_step n z c) step in
    let closed : reference_of text y ≡ Closed = ap (reference_view text) none in
    let us = script_shared u in
    let less : less_kept (scan_of text (index + 1) y) ≡ script_waits us ++ pending_bytes g = ap less_kept there ∙ sym (append_assoc _ (held_in_line us) (pending_bytes g)) in
    record {
      scan = scan;
      reference = closed ∙ sym (i.opens c b (reference_of text x));
      kept = record {
        free = r.kept.free;
        parts = ap₂ (λ (q : Reference) (xs : List ℕ). r.kept.free ++ (as_it_stands q ++ xs)) closed less
            ∙ sym (append_assoc r.kept.free (script_waits us) (pending_bytes g))
            ∙ ap₂ (λ (xs ys : List ℕ). xs ++ ys) r.kept.parts (sym behind)
            ∙ sym (pending_joins text y.done to (index + 1) r.kept.order (omega (arith, end)) (omega (arith, inside)));
        placed = no-reference text (y.done + length r.kept.free) (index + 1) y.reference none;
        named = named;
        done = omega (arith, r.kept.order, end);
        closed = λ k. closed;
        hidden = λ k. r.kept.hidden (sym (ap hides there) ∙ k);
        alone = λ k. never (sym (ap in_style_comment there) ∙ k);
        letters = ap (λ (f : Scan). list_all is_ascii_alphabetic (end_letters f)) there;
        cut = λ k. r.kept.cut (sym (ap hides there) ∙ k);
      };
      bytes = r.bytes ∙ ap (λ (xs : List ℕ). old ++ (kept.free ++ xs)) (sym (i.out c b (reference_of text x) ∙ ap (λ (z : ScriptStep). script_step_out scripts_writing n z b) step));
    }

-- Nothing is read.
same-either : {A : Type 0} (x : Bool) (y : A) → (if x then y else y) ≡ y
same-either true y = refl
same-either false y = refl

nothing-out : (n : ScriptScan) → script_read_out scripts_writing n [] ≡ []
nothing-out n = same-either (not (script_scan_may_end n) && is_hidden_in_script []) []

pub nothing-read : (text old : List ℕ) (from done : ℕ) (n : ScriptScan) → (kept : IsScriptKept text from (script_shared n) done)
    → ScriptReadsOn text from (script_shared (feed_bytes script_feeding n [])) done kept.free (script_read_out scripts_writing n []) old old
nothing-read text old from done n kept = record { kept = kept; bytes = ap (λ (xs : List ℕ). old ++ xs) (sym (append-nil kept.free) ∙ ap (λ (xs : List ℕ). kept.free ++ xs) (sym (nothing-out n))) }

-- The end tag ends the script.
pub record EndsAt (text : List ℕ) (from index : ℕ) (h : Pending) (letters : List ℕ) (c : Class) : Type 0 where
  pub name : h ≡ PendingName letters
  pub ends : ends_name c ≡ true
  pub less : get_or text from 0 ≡ 60

ends-by : (m : Bool) (h : Pending) (c : Class) (b : ℕ) (letters : List ℕ) → script_step m element.Script h c b ≡ EndsContent letters → (h ≡ PendingName letters) × (ends_name c ≡ true)
ends-by true h c b letters s = (let e = step-ends element.Script h c b letters s in (e.0, e.2))
ends-by false h c b letters s = absurd (token-goes-on element.Script h c b letters s)

pub ends-at : (text : List ℕ) (from index : ℕ) (m : Bool) (h : Pending) (letters : List ℕ) → index < length text → from + length (pending_bytes h) ≡ index → pending text from index ≡ pending_bytes h
    → script_step m element.Script h (class_of (byte_at text index)) (byte_at text index) ≡ EndsContent letters → EndsAt text from index h letters (class_of (byte_at text index))
ends-at text from index m h letters inside e p s =
    let k = ends-by m h (class_of (byte_at text index)) (byte_at text index) letters s in
    record {
      name = k.0;
      ends = k.1;
      less = first_byte text from index 60 (47 ∷ letters) (omega (arith, e, ap (λ (g : Pending). length (pending_bytes g)) k.0)) (p ∙ ap pending_bytes k.0);
    }

abbrev Loose : Scan → Type 0
Loose f = (less_kept f ≡ []) × ((hides f ≡ false) × ((in_style_comment f ≡ false) × (end_letters f ≡ [])))

loose-behind : (n : ScriptScan) (letters : List ℕ) (c : Class) → ends_name c ≡ true → Loose (scan_by_step n (EndsContent letters) c)
loose-behind n letters White e = (refl, (refl, (refl, refl)))
loose-behind n letters Solidus e = (refl, (refl, (refl, refl)))
loose-behind n letters GreaterThan e = (refl, (refl, (refl, refl)))
loose-behind n letters c e = never e

pub end-kept : (text old new : List ℕ) (index from : ℕ) (x y : WriteProgress) (n : ScriptScan) (h : Pending) (letters : List ℕ) → InScriptAt (scan_of text index x) n h → (kept : IsProgressKept text index x)
    → index < length text → scan_of text (index + 1) y ≡ next_of text index x → script_step (script_scan_may_end n) element.Script h (class_of (byte_at text index)) (byte_at text index) ≡ EndsContent letters
    → EndsAt text from index h letters (class_of (byte_at text index)) → from ≤ index → pending text from index ≡ pending_bytes h → y.reference ≡ None → pending_from y.scan ≤ index + 1
    → ScriptEnds text from y.done kept.free (script_written_at_cut (script_shared n)) old new → ProgressReads text index x y kept.free old new
end-kept text old new index from x y n h letters i kept inside scan step ends order behind none named r =
    let c = class_of (byte_at text index) in
    let b = byte_at text index in
    let there : scan_of text (index + 1) y ≡ scan_by_step n (EndsContent letters) c = scan ∙ i.next c b ∙ ap (λ (z : ScriptStep). scan_by_step n z c) step in
    let loose = subst Loose (sym there) (loose-behind n letters c ends.ends) in
    let closed : reference_of text y ≡ Closed = ap (reference_view text) none in
    let name = (codes "</" ++ letters) ++ b ∷ [] in
    let cut = script_written_at_cut (script_shared n) in
    let whole : pending text y.done (index + 1) ≡ pending text y.done from ++ name =
    pending_grows text y.done index (omega (arith, r.order, order)) inside
    ∙ ap (λ (xs : List ℕ). xs ++ b ∷ []) (pending_joins text y.done from index r.order order (omega (arith, inside)) ∙ ap (λ (xs : List ℕ). pending text y.done from ++ xs) (behind ∙ ap pending_bytes ends.name))
    ∙ append_assoc (pending text y.done from) (codes "</" ++ letters) (b ∷ []) in
    record {
      scan = scan;
      reference = closed ∙ sym (i.opens c b (reference_of text x));
      kept = record {
        free = pending text y.done (index + 1);
        parts = ap₂ (λ (q : Reference) (xs : List ℕ). pending text y.done (index + 1) ++ (as_it_stands q ++ xs)) closed loose.0 ∙ append-nil (pending text y.done (index + 1));
        placed = no-reference text (y.done + length (pending text y.done (index + 1))) (index + 1) y.reference none;
        named = named;
        done = omega (arith, r.order, order);
        closed = λ k. closed;
        hidden = λ k. never (sym loose.1.0 ∙ k);
        alone = λ k. never (sym loose.1.1.0 ∙ k);
        letters = ap (list_all is_ascii_alphabetic) loose.1.1.1;
        cut = λ k. r.cut;
      };
      bytes = ap (λ (xs : List ℕ). new ++ xs) whole
          ∙ sym (append_assoc new (pending text y.done from) name)
          ∙ ap (λ (xs : List ℕ). xs ++ name) r.bytes
          ∙ append_assoc old (kept.free ++ cut) name
          ∙ ap (λ (xs : List ℕ). old ++ xs) (append_assoc kept.free cut name)
          ∙ ap (λ (xs : List ℕ). old ++ (kept.free ++ xs)) (sym (i.out c b (reference_of text x) ∙ ap (λ (z : ScriptStep). script_step_out scripts_writing n z b) step));
    }

-- By what the code says of the script, of what is pending, and of the step.
pub record StepHere (text : List ℕ) (index from : ℕ) (x : WriteProgress) (n : ScriptScan) (h : Pending) : Type 0 where
  pub script : InScriptAt (scan_of text index x) n h
  pub end : from + length (pending_bytes h) ≡ index

pub step-here : (text : List ℕ) (index from : ℕ) (x : WriteProgress) (n : ScriptScan) (p : ScriptPending) → is_in_script (scan_of text index x) ≡ true → n ≡ script_of_scan (scan_of text index x)
    → script_pending_at text index p ≡ back_of_scan (scan_of text index x) → from ≡ index - pending_length p → pending_length p ≤ index → index ≤ length text → StepHere text index from x n (script_pending_at text index p)
step-here text index from x n p is script held e fits inside = record {
  script = subst (λ (m : ScriptScan). InScriptAt (scan_of text index x) m (script_pending_at text index p)) (sym script)
      (subst (InScriptAt (scan_of text index x) (script_of_scan (scan_of text index x))) (sym held) (in-script-at (scan_of text index x) is));
  end = omega (arith, e, fits, back-length text index p fits inside);
}

pub step-is : (X : List ℕ → ScriptStep) (bytes text : List ℕ) (index : ℕ) (p : ScriptPending) (m : Bool) (n : ScriptScan) (k : Class) → bytes ≡ text → m ≡ script_scan_may_end n → k ≡ class_of (byte_at text index)
    → X bytes ≡ script_step m element.Script (script_pending_at bytes index p) k (get_or bytes index 0)
    → script_step (script_scan_may_end n) element.Script (script_pending_at text index p) (class_of (byte_at text index)) (byte_at text index) ≡ X text
step-is X bytes text index p m n k same mode class e =
    sym (subst (λ (xs : List ℕ). X xs ≡ script_step m element.Script (script_pending_at xs index p) k (get_or xs index 0)) same e
    ∙ ap₂ (λ (z : Bool) (c : Class). script_step z element.Script (script_pending_at text index p) c (byte_at text index)) mode class)

step-to : (text : List ℕ) (index from to : ℕ) (x : WriteProgress) (n : ScriptScan) (p : ScriptPending) (g : Pending) (bs : List ℕ) → StepHere text index from x n (script_pending_at text index p)
    → (kept : IsProgressKept text index x) → index < length text
    → script_step (script_scan_may_end n) element.Script (script_pending_at text index p) (class_of (byte_at text index)) (byte_at text index) ≡ Reads bs g → to ≡ from + length bs → StepAt text index from to bs g
step-to text index from to x n p g bs here kept inside step e =
    let h = script_pending_at text index p in
    let q = pending-at text index from x n h here.script kept here.end (omega (arith, inside)) in
    subst (λ (z : ℕ). StepAt text index from z bs g) (sym e)
    (step-at text index from (script_scan_may_end n) h g bs inside (may-be-pending text index (script_scan_may_end n) p) (omega (arith, here.end)) q.behind step)

pub step-wrote : (text old new : List ℕ) (index from to : ℕ) (x y : WriteProgress) (n : ScriptScan) (p : ScriptPending) (g : Pending) (bs : List ℕ) → StepHere text index from x n (script_pending_at text index p)
    → (kept : IsProgressKept text index x) → index < length text → scan_of text (index + 1) y ≡ next_of text index x
    → script_step (script_scan_may_end n) element.Script (script_pending_at text index p) (class_of (byte_at text index)) (byte_at text index) ≡ Reads bs g → to ≡ from + length bs
    → y.reference ≡ None → pending_from y.scan ≤ index + 1
    → ScriptReadsOn text to (script_shared (feed_bytes script_feeding n (pending text from to))) y.done kept.free (script_read_out scripts_writing n (pending text from to)) old new
    → ProgressReads text index x y kept.free old new
step-wrote text old new index from to x y n p g bs here kept inside scan step e none named r =
    let s = step-to text index from to x n p g bs here kept inside step e in
    read-kept text old new index to x y n (script_pending_at text index p) g bs here.script kept inside scan step s.behind s.end none named
    (subst (λ (xs : List ℕ). ScriptReadsOn text to (script_shared (feed_bytes script_feeding n xs)) y.done kept.free (script_read_out scripts_writing n xs) old new) s.read r)

pub step-held : (text old : List ℕ) (index from : ℕ) (x y : WriteProgress) (n : ScriptScan) (p : ScriptPending) (g : Pending) → StepHere text index from x n (script_pending_at text index p)
    → (kept : IsProgressKept text index x) → index < length text → scan_of text (index + 1) y ≡ next_of text index x
    → script_step (script_scan_may_end n) element.Script (script_pending_at text index p) (class_of (byte_at text index)) (byte_at text index) ≡ Reads [] g
    → y.reference ≡ None → pending_from y.scan ≤ index + 1 → y.done ≡ x.done → ProgressReads text index x y kept.free old old
step-held text old index from x y n p g here kept inside scan step none named done =
    let h = script_pending_at text index p in
    let s = step-to text index from from x n p g [] here kept inside step (omega arith) in
    read-kept text old old index from x y n h g [] here.script kept inside scan step s.behind s.end none named
    (subst (λ (d : ℕ). ScriptReadsOn text from (script_shared (feed_bytes script_feeding n [])) d kept.free (script_read_out scripts_writing n []) old old) (sym done)
    (nothing-read text old from x.done n (element-kept text index from x n h here.script kept here.end (omega (arith, inside)))))

pub step-ended : (text old new : List ℕ) (index from : ℕ) (x y : WriteProgress) (n : ScriptScan) (p : ScriptPending) (letters : List ℕ) → StepHere text index from x n (script_pending_at text index p)
    → (kept : IsProgressKept text index x) → index < length text → scan_of text (index + 1) y ≡ next_of text index x
    → script_step (script_scan_may_end n) element.Script (script_pending_at text index p) (class_of (byte_at text index)) (byte_at text index) ≡ EndsContent letters
    → y.reference ≡ None → pending_from y.scan ≤ index + 1
    → ScriptEnds text from y.done kept.free (script_written_at_cut (script_shared n)) old new → ProgressReads text index x y kept.free old new
step-ended text old new index from x y n p letters here kept inside scan step none named r =
    let h = script_pending_at text index p in
    let q = pending-at text index from x n h here.script kept here.end (omega (arith, inside)) in
    end-kept text old new index from x y n h letters here.script kept inside scan step (ends-at text from index (script_scan_may_end n) h letters inside here.end q.behind step) (omega (arith, here.end)) q.behind none named r

pub end-less : (text : List ℕ) (index from : ℕ) (x : WriteProgress) (n : ScriptScan) (p : ScriptPending) (letters : List ℕ) → StepHere text index from x n (script_pending_at text index p)
    → (kept : IsProgressKept text index x) → index < length text
    → script_step (script_scan_may_end n) element.Script (script_pending_at text index p) (class_of (byte_at text index)) (byte_at text index) ≡ EndsContent letters → get_or text from 0 ≡ 60
end-less text index from x n p letters here kept inside step =
    let h = script_pending_at text index p in
    let q = pending-at text index from x n h here.script kept here.end (omega (arith, inside)) in
    (ends-at text from index (script_scan_may_end n) h letters inside here.end q.behind step).less
