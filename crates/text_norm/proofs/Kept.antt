-- What is pending back, and where it stands.
use Rattle.std.proofs.Common.{◌≡◌, ℕ, ◌+◌, ◌-◌, ◌<◌, ◌≤◌, List, [], ◌∷◌, ◌++◌, length, get_or, Option, Some, None, IfSome, refl, ap, ◌∙◌, subst, arith}
use Rattle.std.proofs.lemmas.List.{append_assoc, length-append}
use Rattle.std.proofs.lemmas.Str.{IsCharBoundary-after_ascii, IsCharBoundary-before_ascii}
use Rattle.std.specs.Str.{IsCharBoundary, IsUtf8}
use Rattle.place_core.specs.page.References.{as_it_stands}
use Rattle.html_scan.specs.Slices.{pending}
use Rattle.text_norm.specs.Kept.{IsProgressKept, IsPlaced, scan_of, less_kept, reference_of}
use Rattle.text_norm.specs.ReferenceViews.{reference_view}
use Rattle.text_norm.specs.declared.reference.Opened.{Opened}
use Rattle.text_norm.specs.declared.pending.WriteProgress.{WriteProgress}
use Rattle.text_norm.proofs.Slices.{IsParted, first_byte, length-pending, parted}

-- before what is pending back of a `<`
pub less_parted : (text : List ℕ) (index : ℕ) (x : WriteProgress) (kept : IsProgressKept text index x) → index ≤ length text → IsParted text x.done (index - length (less_kept (scan_of text index x))) index (kept.free ++ as_it_stands (reference_of text x)) (less_kept (scan_of text index x))
less_parted text index x kept inside = parted text x.done index (kept.free ++ as_it_stands (reference_of text x)) (less_kept (scan_of text index x)) kept.done inside (append_assoc kept.free (as_it_stands (reference_of text x)) (less_kept (scan_of text index x)) ∙ kept.parts)

-- an open reference
pub record IsOpenAt (text : List ℕ) (done : ℕ) (free : List ℕ) (opened : Opened) (end : ℕ) : Type 0 where
  pub begun : 0 < opened.from
  pub order : done ≤ opened.from - 1
  pub sign : get_or text (opened.from - 1) 0 ≡ 38
  pub before : pending text done (opened.from - 1) ≡ free
  pub to : opened.to ≡ end
  pub bytes : opened.from ≤ end

open_parts : (text : List ℕ) (done index : ℕ) (free less : List ℕ) (opened : Opened) → done ≤ index → index ≤ length text → free ++ (as_it_stands (reference_view text (Some opened)) ++ less) ≡ pending text done index → IsPlaced (done + length free) index opened → IsOpenAt text done free opened (index - length less)
open_parts text done index free less opened h i parts placed =
    let bytes = pending text opened.from opened.to in
    let p = parted text done index free (38 ∷ (bytes ++ less)) h i parts in
    let here : index - length (38 ∷ (bytes ++ less)) ≡ opened.from - 1 = omega (arith, p.start, placed.from) in
    let lengths : length (bytes ++ less) ≡ opened.to - opened.from + length less = omega (arith, length-append bytes less, length-pending text opened.from opened.to (omega (arith, placed.inside))) in
    record {
      begun = omega (arith, placed.from);
      order = omega (arith, placed.from);
      sign = subst (λ (at : ℕ). get_or text at 0 ≡ 38) here (first_byte text (index - length (38 ∷ (bytes ++ less))) index 38 (bytes ++ less) (omega (arith, p.end)) p.behind);
      before = subst (λ (at : ℕ). pending text done at ≡ free) here p.before;
      to = omega (arith, lengths, p.start, p.end, placed.from, placed.order);
      bytes = omega (arith, lengths, p.start, p.end, placed.from, placed.order);
    }

pub open_at : (text : List ℕ) (index : ℕ) (x : WriteProgress) (opened : Opened) (kept : IsProgressKept text index x) → index ≤ length text → x.reference ≡ Some opened → IsOpenAt text x.done kept.free opened (index - length (less_kept (scan_of text index x)))
open_at text index x opened kept inside is = open_parts text x.done index kept.free (less_kept (scan_of text index x)) opened kept.done inside (subst (λ (o : Option Opened). kept.free ++ (as_it_stands (reference_view text o) ++ less_kept (scan_of text index x)) ≡ pending text x.done index) is kept.parts) (subst (λ (o : Option Opened). IfSome o (IsPlaced (x.done + length kept.free) index)) is kept.placed)

pub cut_sign : (text : List ℕ) (done end : ℕ) (free : List ℕ) (opened : Opened) → IsOpenAt text done free opened end → end ≤ length text → IsCharBoundary text (opened.from - 1)
cut_sign text done end free opened o h = IsCharBoundary-before_ascii text (opened.from - 1) (omega (arith, o.begun, o.bytes)) (omega (arith, o.sign))

pub cut_bytes : (text : List ℕ) (done end : ℕ) (free : List ℕ) (opened : Opened) → IsUtf8 text → IsOpenAt text done free opened end → end ≤ length text → IsCharBoundary text opened.from
cut_bytes text done end free opened utf8 o h =
    let here : opened.from - 1 + 1 ≡ opened.from = omega (arith, o.begun) in
    subst (IsCharBoundary text) here (IsCharBoundary-after_ascii text (opened.from - 1) utf8 (omega (arith, o.begun, o.bytes)) (omega (arith, o.sign)))

reaches_end : (end index : ℕ) (o : Option Opened) → end ≡ index → ((opened : Opened) → o ≡ Some opened → opened.to ≡ end) → IfSome o (λ opened. opened.to ≡ index)
reaches_end end index None e h = tt
reaches_end end index (Some opened) e h = h opened refl ∙ e

-- where no `<` is pending back, an open reference has gone up to the byte
pub reaches : (text : List ℕ) (index : ℕ) (x : WriteProgress) (kept : IsProgressKept text index x) → index ≤ length text → less_kept (scan_of text index x) ≡ [] → IfSome x.reference (λ opened. opened.to ≡ index)
reaches text index x kept inside none = reaches_end (index - length (less_kept (scan_of text index x))) index x.reference (omega (arith, ap length none)) (λ opened is. (open_at text index x opened kept inside is).to)
