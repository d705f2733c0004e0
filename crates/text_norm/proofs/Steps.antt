-- A byte that stays as it is.
use Rattle.std.proofs.Common.{◌≡◌, ℕ, ◌+◌, ◌-◌, ◌<◌, ◌≤◌, Bool, true, false, List, [], ◌∷◌, ◌++◌, length, get_or, Option, Some, None, IfSome, refl, sym, ap, ◌∙◌, subst, arith, inl, inr, ◌⊎◌}
use Rattle.std.proofs.lemmas.List.{append_assoc, length-append}
use Rattle.std.specs.Str.{IsCharBoundary}
use Rattle.place_core.specs.page.Classes.{Class, class_of}
use Rattle.place_core.specs.page.References.{Reference, as_it_stands}
use Rattle.html_scan.proofs.PendingNames.{pending_grows}
use Rattle.html_scan.specs.ClassViews.{class_at}
use Rattle.html_scan.specs.ScanViews.{scan_at, pending_from}
use Rattle.html_scan.specs.declared.class.Class.{Class as ReadClass}
use Rattle.html_scan.specs.declared.scan.Scan.{Scan as ReadScan}
use Rattle.html_scan.specs.Scans.{Scan, scan_next}
use Rattle.html_scan.specs.Slices.{pending}
use Rattle.text_norm.specs.Scanned.{scan_open, scan_out}
use Rattle.text_norm.specs.Kept.{Continues, IsReferenceBegun, IsProgressKept, IsLonger, IsPlaced, ProgressReads, change_of, scan_of, less_kept, reference_kept, reference_of, stays}
use Rattle.text_norm.specs.ReferenceViews.{reference_view}
use Rattle.text_norm.specs.declared.pending.Change.{Change}
use Rattle.text_norm.specs.declared.pending.Change.TheVariants as change
use Rattle.text_norm.specs.declared.reference.Opened.{Opened}
use Rattle.text_norm.specs.declared.pending.WriteProgress.{WriteProgress}
use Rattle.text_norm.proofs.ByteLaws.{KeepsBytes, LawOf, Law, law}
use Rattle.text_norm.proofs.Slices.{length-pending}
use Rattle.text_norm.proofs.Spelled.{is_read, spelled}

no : false ≡ true → ⊥
no h = cc

abbrev pub byte_at : List ℕ → ℕ → ℕ
byte_at text index = get_or text index 0

abbrev pub next_of : List ℕ → ℕ → WriteProgress → Scan
next_of text index x = scan_next (scan_of text index x) (class_of (byte_at text index)) (byte_at text index)

abbrev pub open_of : List ℕ → ℕ → WriteProgress → Reference
open_of text index x = scan_open (scan_of text index x) (class_of (byte_at text index)) (byte_at text index) (reference_of text x)

abbrev pub out_of : List ℕ → ℕ → WriteProgress → List ℕ
out_of text index x = scan_out (scan_of text index x) (class_of (byte_at text index)) (byte_at text index) (reference_of text x)

-- the next scan state, of the code
pub scan_is : (bytes text : List ℕ) (index : ℕ) (before after : ReadScan) (class : ReadClass) → bytes ≡ text → class_at class ≡ class_of (byte_at text index) → scan_at bytes (index + 1) after ≡ scan_next (scan_at bytes index before) (class_at class) (byte_at bytes index) → scan_at text (index + 1) after ≡ scan_next (scan_at text index before) (class_of (byte_at text index)) (byte_at text index)
scan_is bytes text index before after class same is scan =
    subst (λ (xs : List ℕ). scan_at xs (index + 1) after ≡ scan_next (scan_at xs index before) (class_at class) (byte_at xs index)) same scan
    ∙ ap (λ (c : Class). scan_next (scan_at text index before) c (byte_at text index)) is

-- the law of a byte, of what the code does
abbrev pub LawHere : Change → List ℕ → ℕ → WriteProgress → WriteProgress → Type 0
LawHere ch text index x y = LawOf ch (scan_of text index x) (scan_of text (index + 1) y) (reference_of text x) (open_of text index x) (class_of (byte_at text index)) (byte_at text index) (out_of text index x)

pub law_here : (ch : Change) (text : List ℕ) (index : ℕ) (x y : WriteProgress) → IsProgressKept text index x → scan_of text (index + 1) y ≡ next_of text index x → ch ≡ change_of (scan_of text index x) (scan_of text (index + 1) y) → LawHere ch text index x y
law_here ch text index x y kept scan is =
    let whole = law (scan_of text index x) (class_of (byte_at text index)) (byte_at text index) (reference_of text x) (is_read text index x.scan kept.letters) (spelled (byte_at text index)) kept.closed in
    subst (λ (c : Change). LawHere c text index x y) (sym is) (subst (λ (g : Scan). Law (scan_of text index x) g (reference_of text x) (open_of text index x) (class_of (byte_at text index)) (byte_at text index) (out_of text index x)) (sym scan) whole)

keep_parts : (text : List ℕ) (done index : ℕ) (free a less out more : List ℕ) → done ≤ index → index < length text → free ++ (a ++ less) ≡ pending text done index → a ++ (less ++ byte_at text index ∷ []) ≡ out ++ more → (free ++ out) ++ more ≡ pending text done (index + 1)
keep_parts text done index free a less out more h i parts bytes =
    append_assoc free out more
    ∙ ap (λ (xs : List ℕ). free ++ xs) (sym bytes)
    ∙ ap (λ (xs : List ℕ). free ++ xs) (sym (append_assoc a less (byte_at text index ∷ [])))
    ∙ sym (append_assoc free (a ++ less) (byte_at text index ∷ []))
    ∙ ap (λ (xs : List ℕ). xs ++ byte_at text index ∷ []) parts
    ∙ sym (pending_grows text done index h i)

placed_longer : (start later index : ℕ) (reference : Option Opened) → later ≡ start → IfSome reference (IsPlaced start index) → IfSome reference (IsPlaced later (index + 1))
placed_longer start later index None e h = h
placed_longer start later index (Some o) e h = record { from = omega (arith, h.from, e); order = h.order; inside = omega (arith, h.inside) }

from_longer : (start later index : ℕ) (before : Option Opened) (o : Opened) → IsLonger before o → IfSome before (IsPlaced start index) → ((p : Opened) → before ≡ Some p → o.from ≡ p.from → IsPlaced start index p → later ≡ start) → o.from ≡ later + 1
from_longer start later index None o h placed longer = absurd h
from_longer start later index (Some p) o h placed longer = omega (arith, h, placed.from, longer p refl h placed)

from_origin : (c : Class) (start later index : ℕ) (before : Option Opened) (o : Opened) → IsReferenceBegun c index o ⊎ IsLonger before o → IfSome before (IsPlaced start index) → (IsReferenceBegun c index o → later ≡ index) → ((p : Opened) → before ≡ Some p → o.from ≡ p.from → IsPlaced start index p → later ≡ start) → o.from ≡ later + 1
from_origin c start later index before o (inl h) placed begun longer = omega (arith, h.from, begun h)
from_origin c start later index before o (inr h) placed begun longer = from_longer start later index before o h placed longer

pub placed_after : (stay : Bool) (c : Class) (start later index : ℕ) (before after : Option Opened) → Continues stay c index before after → IfSome before (IsPlaced start index) → (stay ≡ true → later ≡ start) → ((o : Opened) → stay ≡ false → after ≡ Some o → o.to ≡ index + 1 → IsReferenceBegun c index o → later ≡ index) → ((o p : Opened) → before ≡ Some p → after ≡ Some o → o.to ≡ index + 1 → o.from ≡ p.from → IsPlaced start index p → later ≡ start) → IfSome after (IsPlaced later (index + 1))
placed_after true c start later index before after so placed stayed begun longer = subst (λ (o : Option Opened). IfSome o (IsPlaced later (index + 1))) (sym so) (placed_longer start later index before (stayed refl) placed)
placed_after false c start later index before None so placed stayed begun longer = tt
placed_after false c start later index before (Some o) so placed stayed begun longer = record {
  from = from_origin c start later index before o so.origin placed (λ h. begun o refl refl so.to h) (λ p is from. longer o p is refl so.to from);
  order = omega (arith, so.order, so.to);
  inside = omega (arith, so.to);
}

pub length-open : (text : List ℕ) (o : Opened) → o.to ≤ length text → length (as_it_stands (reference_view text (Some o))) ≡ 1 + (o.to - o.from)
length-open text o h = omega (arith, length-pending text o.from o.to h)

keep_placed : (text : List ℕ) (index : ℕ) (x y : WriteProgress) → (kept : IsProgressKept text index x) → index < length text → KeepsBytes (scan_of text index x) (scan_of text (index + 1) y) (reference_of text x) (open_of text index x) (class_of (byte_at text index)) (byte_at text index) (out_of text index x) → reference_of text y ≡ open_of text index x → Continues (stays (scan_of text index x) (scan_of text (index + 1) y)) (class_of (byte_at text index)) index x.reference y.reference → y.done ≡ x.done → IfSome y.reference (IsPlaced (y.done + length (kept.free ++ out_of text index x)) (index + 1))
keep_placed text index x y kept inside here reference so done =
    let f = scan_of text index x in
    let g = scan_of text (index + 1) y in
    let a = as_it_stands (reference_of text x) in
    let z = as_it_stands (open_of text index x) in
    let total : length kept.free + (length a + length (less_kept f)) ≡ index - x.done = omega (arith, sym (length-append kept.free (a ++ less_kept f)), length-append a (less_kept f), ap length kept.parts, length-pending text x.done index (omega (arith, inside))) in
    let grown : length a + (length (less_kept f) + 1) ≡ length (out_of text index x) + (length z + length (less_kept g)) = omega (arith, ap length here.bytes, length-append a (less_kept f ++ byte_at text index ∷ []), length-append (less_kept f) (byte_at text index ∷ []), length-append (out_of text index x) (z ++ less_kept g), length-append z (less_kept g)) in
    let free = length-append kept.free (out_of text index x) in
    placed_after (stays f g) (class_of (byte_at text index)) (x.done + length kept.free) (y.done + length (kept.free ++ out_of text index x)) index x.reference y.reference so kept.placed
    (λ stay. omega (arith, free, done, ap length (here.out stay)))
    (λ o moves is to begun.
    let zs : length z ≡ 1 + (o.to - o.from) = ap (λ (r : Reference). length (as_it_stands r)) (sym reference) ∙ ap (λ (q : Option Opened). length (as_it_stands (reference_view text q))) is ∙ length-open text o (omega (arith, to, inside)) in
    omega (arith, free, done, total, grown, zs, to, begun.from, ap length (here.alone moves begun.by), kept.done))
    (λ o p was is to from placed.
    let zs : length z ≡ 1 + (o.to - o.from) = ap (λ (r : Reference). length (as_it_stands r)) (sym reference) ∙ ap (λ (q : Option Opened). length (as_it_stands (reference_view text q))) is ∙ length-open text o (omega (arith, to, inside)) in
    let ones : length a ≡ 1 + (p.to - p.from) = ap (λ (q : Option Opened). length (as_it_stands (reference_view text q))) was ∙ length-open text p (omega (arith, placed.inside, inside)) in
    omega (arith, free, done, total, grown, zs, ones, to, from, placed.from, placed.order, placed.inside, kept.done))

pub keeps : (text : List ℕ) (index : ℕ) (x y : WriteProgress) (out : List ℕ) (kept : IsProgressKept text index x) → index < length text → scan_of text (index + 1) y ≡ next_of text index x → change.Keeps ≡ change_of (scan_of text index x) (scan_of text (index + 1) y) → reference_of text y ≡ reference_kept (stays (scan_of text index x) (scan_of text (index + 1) y)) (scan_of text index x) (class_of (byte_at text index)) (byte_at text index) (reference_of text x) → Continues (stays (scan_of text index x) (scan_of text (index + 1) y)) (class_of (byte_at text index)) index x.reference y.reference → pending_from y.scan ≤ index + 1 → y.done ≡ x.done → ProgressReads text index x y kept.free out out
keeps text index x y out kept inside scan is reference so named done =
    let here = law_here change.Keeps text index x y kept scan is in
    let same : reference_of text y ≡ open_of text index x = reference ∙ here.kept in
    record {
      scan = scan;
      reference = same;
      kept = record {
        free = kept.free ++ out_of text index x;
        parts = ap (λ (r : Reference). (kept.free ++ out_of text index x) ++ (as_it_stands r ++ less_kept (scan_of text (index + 1) y))) same
            ∙ keep_parts text x.done index kept.free (as_it_stands (reference_of text x)) (less_kept (scan_of text index x)) (out_of text index x) (as_it_stands (open_of text index x) ++ less_kept (scan_of text (index + 1) y)) kept.done inside kept.parts here.bytes
            ∙ ap (λ (d : ℕ). pending text d (index + 1)) (sym done);
        placed = keep_placed text index x y kept inside here same so done;
        named = named;
        done = omega (arith, done, kept.done);
        closed = λ h. same ∙ here.closed h;
        hidden = λ h. absurd (no (sym here.shown ∙ h));
        alone = λ h. rw (kept.alone (here.comment h).0, (here.comment h).1) refl;
        letters = here.letters;
        cut = λ h. subst (IsCharBoundary text) (sym done) (kept.cut here.before);
      };
      bytes = refl;
    }
