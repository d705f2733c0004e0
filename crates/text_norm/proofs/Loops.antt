-- From one byte to a whole text.
use Rattle.std.proofs.Common.{◌≡◌, ℕ, suc, ◌+◌, ◌<◌, ◌≤◌, List, [], ◌∷◌, ◌++◌, length, drop, drop-cons, None, refl, sym, ap, ◌∙◌, arith}
use Rattle.std.proofs.lemmas.List.{append_assoc, drop_all}
use Rattle.std.proofs.lemmas.Str.{IsCharBoundary-start}
use Rattle.std.specs.Str.{IsUtf8}
use Rattle.place_core.specs.page.References.{Reference}
use Rattle.place_core.specs.declared.place.Place.{Place}
use Rattle.html_scan.proofs.PendingNames.{pending_nothing}
use Rattle.html_scan.specs.Scans.{Scan}
use Rattle.html_scan.specs.declared.scan.Scan.TheVariants as scan
use Rattle.text_norm.specs.Scanned.{scan_cut_out, written_from}
use Rattle.text_norm.specs.Kept.{IsProgressKept, ProgressReads, scan_of, reference_of}
use Rattle.text_norm.specs.declared.pending.WriteProgress.{WriteProgress}
use Rattle.text_norm.proofs.Steps.{byte_at, next_of, open_of, out_of}

abbrev pub first : Place → WriteProgress
first p = record { scan = scan.At p; reference = None; done = 0 }

abbrev pub begins : (text : List ℕ) (p : Place) → IsUtf8 text → IsProgressKept text 0 (first p)
begins text p utf8 = record {
  free = [];
  parts = sym (pending_nothing text 0);
  placed = tt;
  named = omega arith;
  done = omega arith;
  closed = λ h. refl;
  hidden = λ h. refl;
  alone = λ h. refl;
  letters = refl;
  cut = λ h. IsCharBoundary-start text utf8;
}

-- what is written, and what is still to be
abbrev pub left_of : List ℕ → ℕ → WriteProgress → List ℕ
left_of text index x = written_from (drop index text) (scan_of text index x) (reference_of text x)

left_next : (text : List ℕ) (index : ℕ) (x y : WriteProgress) → index < length text → scan_of text (index + 1) y ≡ next_of text index x → reference_of text y ≡ open_of text index x → left_of text index x ≡ out_of text index x ++ left_of text (index + 1) y
left_next text index x y inside scan reference =
    let one : suc index ≡ index + 1 = omega arith in
    ap (λ (bs : List ℕ). written_from bs (scan_of text index x) (reference_of text x)) (drop-cons text index 0 inside ∙ ap (λ (n : ℕ). byte_at text index ∷ drop n text) one)
    ∙ ap (λ (f : Scan). out_of text index x ++ written_from (drop (index + 1) text) f (open_of text index x)) (sym scan)
    ∙ ap (λ (r : Reference). out_of text index x ++ written_from (drop (index + 1) text) (scan_of text (index + 1) y) r) (sym reference)

pub reads_more : (text whole : List ℕ) (index : ℕ) (x y : WriteProgress) (free old new : List ℕ) (reads : ProgressReads text index x y free old new) → index < length text → old ++ (free ++ left_of text index x) ≡ whole → new ++ (reads.kept.free ++ left_of text (index + 1) y) ≡ whole
reads_more text whole index x y free old new reads inside before =
    let more = left_of text (index + 1) y in
    sym (append_assoc new reads.kept.free more)
    ∙ ap (λ (xs : List ℕ). xs ++ more) reads.bytes
    ∙ append_assoc old (free ++ out_of text index x) more
    ∙ ap (λ (xs : List ℕ). old ++ xs) (append_assoc free (out_of text index x) more)
    ∙ ap (λ (xs : List ℕ). old ++ (free ++ xs)) (sym (left_next text index x y inside reads.scan reads.reference))
    ∙ before

pub left_end : (text : List ℕ) (index : ℕ) (x : WriteProgress) → length text ≤ index → left_of text index x ≡ scan_cut_out (scan_of text index x) (reference_of text x)
left_end text index x h = ap (λ (bs : List ℕ). written_from bs (scan_of text index x) (reference_of text x)) (drop_all index text h)
