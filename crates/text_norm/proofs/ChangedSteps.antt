-- A byte after a `<` that begins nothing, a byte that begins a comment, and one in a comment.
use Rattle.std.proofs.Common.{◌≡◌, ℕ, ◌+◌, ◌-◌, ◌<◌, ◌≤◌, true, false, codes, List, [], ◌∷◌, ◌++◌, ◌⊎◌, inl, inr, length, get_or, Option, Some, None, IfSome, refl, sym, ap, ap₂, ◌∙◌, subst, arith}
use Rattle.std.proofs.lemmas.List.{append_assoc, append-nil, length-append}
use Rattle.std.proofs.lemmas.Str.{IsCharBoundary-after_ascii, IsCharBoundary-before_ascii}
use Rattle.std.specs.Char.{is_ascii_alphabetic}
use Rattle.std.specs.List.{list_all}
use Rattle.std.specs.Str.{IsCharBoundary, IsUtf8}
use Rattle.place_core.specs.page.Classes.{class_of}
use Rattle.place_core.specs.page.References.{Reference, Closed, as_it_stands, begin_reference}
use Rattle.html_scan.proofs.PendingNames.{pending_begins, pending_grows, pending_nothing}
use Rattle.html_scan.specs.ScanViews.{pending_from}
use Rattle.html_scan.specs.Slices.{pending}
use Rattle.text_norm.specs.Kept.{IsWriteEnd, IsProgressKept, IsPlaced, IsReadTo, ProgressReads, change_of, in_style_comment, scan_of, hides, less_kept, reference_of}
use Rattle.text_norm.specs.ReferenceViews.{reference_view}
use Rattle.text_norm.specs.Written.{text_escaped}
use Rattle.text_norm.specs.declared.pending.Change.TheVariants as change
use Rattle.text_norm.specs.declared.reference.Opened.{Opened}
use Rattle.text_norm.specs.declared.pending.WriteProgress.{WriteProgress}
use Rattle.text_norm.proofs.ByteLaws.{no-name}
use Rattle.text_norm.proofs.Kept.{less_parted}
use Rattle.text_norm.proofs.Slices.{behind_first, first_byte, parted}
use Rattle.text_norm.proofs.Spelled.{greater_ascii}
use Rattle.text_norm.proofs.Steps.{byte_at, law_here, length-open, next_of, open_of, out_of, placed_after}

no : false ≡ true → ⊥
no h = cc

nothing : (o : Opened) → None ≡ Some o → ⊥
nothing o h = cc

-- where a `<` stands that is pending back
pub record IsLessAt (text : List ℕ) (index at : ℕ) (x : WriteProgress) (free more : List ℕ) : Type 0 where
  pub order : x.done ≤ at
  pub end : at + (1 + length more) ≡ index
  pub byte : get_or text at 0 ≡ 60
  pub before : pending text x.done at ≡ free ++ as_it_stands (reference_of text x)
  pub behind : pending text (at + 1) index ≡ more

pub less_at : (text : List ℕ) (index : ℕ) (x : WriteProgress) (more : List ℕ) (kept : IsProgressKept text index x) → index ≤ length text → less_kept (scan_of text index x) ≡ 60 ∷ more → IsLessAt text index (index - length (less_kept (scan_of text index x))) x kept.free more
less_at text index x more kept inside less =
    let p = less_parted text index x kept inside in
    let at = index - length (less_kept (scan_of text index x)) in
    record {
      order = omega (arith, p.start);
      end = omega (arith, p.end, ap length less);
      byte = first_byte text at index 60 more (omega (arith, p.end, ap length less)) (p.behind ∙ less);
      before = p.before;
      behind = behind_first text at index 60 more (p.behind ∙ less);
    }

pub ends_at_less : (text : List ℕ) (index : ℕ) (x : WriteProgress) (more : List ℕ) (kept : IsProgressKept text index x) → index ≤ length text → less_kept (scan_of text index x) ≡ 60 ∷ more → hides (scan_of text index x) ≡ false → IsWriteEnd text index x
ends_at_less text index x more kept inside less shown =
    let l = less_at text index x more kept inside less in
    record {
      shown = shown;
      cut = IsCharBoundary-before_ascii text (index - length (less_kept (scan_of text index x))) (omega (arith, l.end, inside)) (omega (arith, l.byte));
    }

escape_bytes : (old new free r again out : List ℕ) → new ≡ old ++ ((free ++ r) ++ codes "&lt;") → out ≡ r ++ (codes "&lt;" ++ again) → new ++ again ≡ old ++ (free ++ out)
escape_bytes old new free r again out wrote is =
    ap (λ (xs : List ℕ). xs ++ again) wrote
    ∙ append_assoc old ((free ++ r) ++ codes "&lt;") again
    ∙ ap (λ (xs : List ℕ). old ++ xs) (append_assoc (free ++ r) (codes "&lt;") again ∙ append_assoc free r (codes "&lt;" ++ again) ∙ ap (λ (xs : List ℕ). free ++ xs) (sym is))

pub escapes : (text : List ℕ) (index less : ℕ) (x y : WriteProgress) (old new : List ℕ) (kept : IsProgressKept text index x) → index < length text → IsUtf8 text → scan_of text (index + 1) y ≡ next_of text index x → change.EscapesLess ≡ change_of (scan_of text index x) (scan_of text (index + 1) y) → reference_of text y ≡ begin_reference (class_of (byte_at text index)) → IfSome y.reference (IsReadTo (class_of (byte_at text index)) index None) → pending_from y.scan ≤ index + 1 → less ≡ index - length (less_kept (scan_of text index x)) → y.done ≡ less + 1 → new ≡ old ++ (pending text x.done less ++ codes "&lt;") → ProgressReads text index x y kept.free old new
escapes text index less x y old new kept inside utf8 scan is reference so named where_less done wrote =
    let here = law_here change.EscapesLess text index x y kept scan is in
    let f = scan_of text index x in
    let g = scan_of text (index + 1) y in
    let z = as_it_stands (open_of text index x) in
    let same : reference_of text y ≡ open_of text index x = reference ∙ sym here.reference in
    let l = subst (λ (at : ℕ). IsLessAt text index at x kept.free here.more) (sym where_less) (less_at text index x here.more kept (omega (arith, inside)) here.less) in
    let lengths : length here.again + (length z + length (less_kept g)) ≡ length here.more + 1 = omega (arith, ap length here.bytes, length-append here.more (byte_at text index ∷ []), length-append here.again (z ++ less_kept g), length-append z (less_kept g)) in
    record {
      scan = scan;
      reference = same;
      kept = record {
        free = here.again;
        parts = ap (λ (r : Reference). here.again ++ (as_it_stands r ++ less_kept g)) same
            ∙ here.bytes
            ∙ ap (λ (xs : List ℕ). xs ++ byte_at text index ∷ []) (sym l.behind)
            ∙ sym (pending_grows text (less + 1) index (omega (arith, l.end)) inside)
            ∙ ap (λ (d : ℕ). pending text d (index + 1)) (sym done);
        placed = placed_after false (class_of (byte_at text index)) 0 (y.done + length here.again) index None y.reference so tt
            (λ h. absurd (no h))
            (λ o moves is to begun.
            let zs : length z ≡ 1 + (o.to - o.from) = ap (λ (r : Reference). length (as_it_stands r)) (sym same) ∙ ap (λ (q : Option Opened). length (as_it_stands (reference_view text q))) is ∙ length-open text o (omega (arith, to, inside)) in
            omega (arith, done, lengths, zs, to, begun.from, ap length (here.alone begun.by), l.end))
            (λ o p was. absurd (nothing p was));
        named = named;
        done = omega (arith, done, l.end);
        closed = λ h. same ∙ here.closed h;
        hidden = λ h. absurd (no (sym here.shown ∙ h));
        alone = λ h. absurd (no (sym here.comment ∙ h));
        letters = ap (list_all is_ascii_alphabetic) here.letters;
        cut = λ h. subst (IsCharBoundary text) (sym done) (IsCharBoundary-after_ascii text less utf8 (omega (arith, l.end, inside)) (omega (arith, l.byte)));
      };
      bytes = escape_bytes old new kept.free (as_it_stands (reference_of text x)) here.again (out_of text index x) (wrote ∙ ap (λ (xs : List ℕ). old ++ (xs ++ codes "&lt;")) l.before) here.out;
    }

-- after a byte that is left out
abbrev left_out : (text : List ℕ) (index : ℕ) (y : WriteProgress) → index < length text → y.reference ≡ None → y.done ≡ index + 1 → pending_from y.scan ≤ index + 1 → less_kept (scan_of text (index + 1) y) ≡ [] → (hides (scan_of text (index + 1) y) ≡ false → IsCharBoundary text (index + 1)) → IsProgressKept text (index + 1) y
left_out text index y inside reference done named loose cut = record {
  free = [];
  parts = ap (λ (o : Option Opened). as_it_stands (reference_view text o) ++ less_kept (scan_of text (index + 1) y)) reference ∙ loose ∙ sym (pending_nothing text (index + 1)) ∙ ap (λ (d : ℕ). pending text d (index + 1)) (sym done);
  placed = subst (λ (o : Option Opened). IfSome o (IsPlaced (y.done + 0) (index + 1))) (sym reference) tt;
  named = named;
  done = omega (arith, done);
  closed = λ h. ap (reference_view text) reference;
  hidden = λ h. refl;
  alone = λ h. refl;
  letters = no-name (scan_of text (index + 1) y) loose;
  cut = λ h. subst (IsCharBoundary text) (sym done) (cut h);
}

pub opens : (text : List ℕ) (index : ℕ) (x y : WriteProgress) (old new : List ℕ) (kept : IsProgressKept text index x) → index < length text → scan_of text (index + 1) y ≡ next_of text index x → change.OpensComment ≡ change_of (scan_of text index x) (scan_of text (index + 1) y) → y.reference ≡ None → pending_from y.scan ≤ index + 1 → y.done ≡ index + 1 → new ≡ old ++ (kept.free ++ text_escaped (reference_of text x)) → ProgressReads text index x y kept.free old new
opens text index x y old new kept inside scan is reference named done wrote =
    let here = law_here change.OpensComment text index x y kept scan is in
    record {
      scan = scan;
      reference = ap (reference_view text) reference ∙ sym here.reference;
      kept = left_out text index y inside reference done named here.loose (λ h. absurd (no (sym h ∙ here.hidden)));
      bytes = append-nil new ∙ wrote ∙ ap (λ (xs : List ℕ). old ++ (kept.free ++ xs)) (sym here.out);
    }

nothing_free : (text : List ℕ) (index : ℕ) (x : WriteProgress) (kept : IsProgressKept text index x) → (hides (scan_of text index x) ≡ true) ⊎ (in_style_comment (scan_of text index x) ≡ true) → kept.free ≡ []
nothing_free text index x kept (inl h) = kept.hidden h
nothing_free text index x kept (inr h) = kept.alone h

pub leaves : (text : List ℕ) (index : ℕ) (x y : WriteProgress) (out : List ℕ) (kept : IsProgressKept text index x) → index < length text → IsUtf8 text → scan_of text (index + 1) y ≡ next_of text index x → change.LeavesOut ≡ change_of (scan_of text index x) (scan_of text (index + 1) y) → y.reference ≡ None → pending_from y.scan ≤ index + 1 → y.done ≡ index + 1 → ProgressReads text index x y kept.free out out
leaves text index x y out kept inside utf8 scan is reference named done =
    let here = law_here change.LeavesOut text index x y kept scan is in
    let none = nothing_free text index x kept here.before in
    record {
      scan = scan;
      reference = ap (reference_view text) reference ∙ sym here.reference;
      kept = left_out text index y inside reference done named here.loose (λ h. IsCharBoundary-after_ascii text index utf8 inside (greater_ascii (byte_at text index) (here.ends h)));
      bytes = ap (λ (xs : List ℕ). out ++ xs) (sym (ap (λ (xs : List ℕ). xs ++ out_of text index x) none ∙ here.out));
    }

-- In a style: where the `/` stands with which a comment begins.
pub record IsSolidusAt (text : List ℕ) (index at : ℕ) (x : WriteProgress) (free more : List ℕ) : Type 0 where
  pub order : x.done ≤ at
  pub end : at + 1 ≡ index
  pub cut : IsCharBoundary text at
  pub before : pending text x.done at ≡ free ++ more

pub solidus_at : (text : List ℕ) (index : ℕ) (x : WriteProgress) (more : List ℕ) (kept : IsProgressKept text index x) → index ≤ length text → less_kept (scan_of text index x) ≡ more ++ codes "/" → reference_of text x ≡ Closed → IsSolidusAt text index (index - 1) x kept.free more
solidus_at text index x more kept inside less none =
    let p = parted text x.done index (kept.free ++ more) (codes "/") kept.done inside
    (append_assoc kept.free more (codes "/") ∙ sym (ap₂ (λ (r : Reference) (xs : List ℕ). kept.free ++ (as_it_stands r ++ xs)) none less) ∙ kept.parts) in
    record {
      order = omega (arith, p.start);
      end = p.end;
      cut = IsCharBoundary-before_ascii text (index - 1) (omega (arith, p.end, inside)) (omega (arith, first_byte text (index - 1) index 47 [] (omega (arith, p.end)) p.behind));
      before = p.before;
    }

pub opens_style : (text : List ℕ) (index : ℕ) (x y : WriteProgress) (old new : List ℕ) (kept : IsProgressKept text index x) → index < length text → scan_of text (index + 1) y ≡ next_of text index x → change.OpensStyleComment ≡ change_of (scan_of text index x) (scan_of text (index + 1) y) → y.reference ≡ None → pending_from y.scan ≤ index + 1 → y.done ≡ index + 1 → new ≡ old ++ pending text x.done (index - 1) → ProgressReads text index x y kept.free old new
opens_style text index x y old new kept inside scan is reference named done wrote =
    let here = law_here change.OpensStyleComment text index x y kept scan is in
    let s = solidus_at text index x here.more kept (omega (arith, inside)) here.less here.none in
    record {
      scan = scan;
      reference = ap (reference_view text) reference ∙ sym here.reference;
      kept = left_out text index y inside reference done named here.loose (λ h. absurd (no (sym h ∙ here.hidden)));
      bytes = append-nil new ∙ wrote ∙ ap (λ (xs : List ℕ). old ++ xs) s.before ∙ ap (λ (xs : List ℕ). old ++ (kept.free ++ xs)) (sym here.out);
    }

pub ends_style : (text : List ℕ) (index : ℕ) (x y : WriteProgress) (old new : List ℕ) (kept : IsProgressKept text index x) → index < length text → IsUtf8 text → scan_of text (index + 1) y ≡ next_of text index x → change.EndsStyleComment ≡ change_of (scan_of text index x) (scan_of text (index + 1) y) → y.reference ≡ None → pending_from y.scan ≤ index + 1 → y.done ≡ index + 1 → new ≡ old ++ codes " " → ProgressReads text index x y kept.free old new
ends_style text index x y old new kept inside utf8 scan is reference named done wrote =
    let here = law_here change.EndsStyleComment text index x y kept scan is in
    record {
      scan = scan;
      reference = ap (reference_view text) reference ∙ sym here.reference;
      kept = left_out text index y inside reference done named here.loose (λ h. IsCharBoundary-after_ascii text index utf8 inside (omega (arith, here.byte)));
      bytes = append-nil new ∙ wrote ∙ ap (λ (xs : List ℕ). old ++ xs) (sym (ap₂ (λ (xs ys : List ℕ). xs ++ ys) (kept.alone here.before) here.out));
    }

pub leaves_pending : (text : List ℕ) (index : ℕ) (x y : WriteProgress) (out : List ℕ) (kept : IsProgressKept text index x) → index < length text → scan_of text (index + 1) y ≡ next_of text index x → change.LeavesPending ≡ change_of (scan_of text index x) (scan_of text (index + 1) y) → y.reference ≡ None → pending_from y.scan ≤ index + 1 → y.done ≡ index → ProgressReads text index x y kept.free out out
leaves_pending text index x y out kept inside scan is reference named done =
    let here = law_here change.LeavesPending text index x y kept scan is in
    let g = scan_of text (index + 1) y in
    record {
      scan = scan;
      reference = ap (reference_view text) reference ∙ sym here.reference;
      kept = record {
        free = [];
        parts = ap (λ (o : Option Opened). as_it_stands (reference_view text o) ++ less_kept g) reference ∙ here.less ∙ sym (pending_begins text index inside) ∙ ap (λ (d : ℕ). pending text d (index + 1)) (sym done);
        placed = subst (λ (o : Option Opened). IfSome o (IsPlaced (y.done + 0) (index + 1))) (sym reference) tt;
        named = named;
        done = omega (arith, done);
        closed = λ h. ap (reference_view text) reference;
        hidden = λ h. absurd (no (sym here.shown ∙ h));
        alone = λ h. refl;
        letters = ap (list_all is_ascii_alphabetic) here.letters;
        cut = λ h. subst (IsCharBoundary text) (sym done) (IsCharBoundary-before_ascii text index inside (omega (arith, here.byte)));
      };
      bytes = ap (λ (xs : List ℕ). out ++ xs) (sym (ap₂ (λ (xs ys : List ℕ). xs ++ ys) (kept.alone here.before) here.out));
    }

pub ends_in_style : (text : List ℕ) (index : ℕ) (x y : WriteProgress) (old new : List ℕ) (kept : IsProgressKept text index x) → index < length text → scan_of text (index + 1) y ≡ next_of text index x → change.EndsInStyleComment ≡ change_of (scan_of text index x) (scan_of text (index + 1) y) → y.reference ≡ None → pending_from y.scan ≤ index + 1 → y.done ≡ x.done → new ≡ old ++ codes " " → ProgressReads text index x y kept.free old new
ends_in_style text index x y old new kept inside scan is reference named done wrote =
    let here = law_here change.EndsInStyleComment text index x y kept scan is in
    let f = scan_of text index x in
    let g = scan_of text (index + 1) y in
    let tag = less_kept f ++ byte_at text index ∷ [] in
    let none = kept.alone here.before in
    let whole : less_kept f ≡ pending text x.done index = sym (ap₂ (λ (xs : List ℕ) (r : Reference). xs ++ (as_it_stands r ++ less_kept f)) none here.none) ∙ kept.parts in
    record {
      scan = scan;
      reference = ap (reference_view text) reference ∙ sym here.reference;
      kept = record {
        free = tag;
        parts = ap₂ (λ (o : Option Opened) (xs : List ℕ). tag ++ (as_it_stands (reference_view text o) ++ xs)) reference here.loose ∙ append-nil tag
            ∙ ap (λ (xs : List ℕ). xs ++ byte_at text index ∷ []) whole ∙ sym (pending_grows text x.done index kept.done inside) ∙ ap (λ (d : ℕ). pending text d (index + 1)) (sym done);
        placed = subst (λ (o : Option Opened). IfSome o (IsPlaced (y.done + length tag) (index + 1))) (sym reference) tt;
        named = named;
        done = omega (arith, done, kept.done);
        closed = λ h. ap (reference_view text) reference;
        hidden = λ h. absurd (no (sym here.shown ∙ h));
        alone = λ h. absurd (no (sym here.comment ∙ h));
        letters = no-name g here.loose;
        cut = λ h. subst (IsCharBoundary text) (sym done) (kept.cut here.cut);
      };
      bytes = ap (λ (xs : List ℕ). xs ++ tag) wrote ∙ append_assoc old (codes " ") tag ∙ ap (λ (xs : List ℕ). old ++ xs) (sym (ap₂ (λ (xs ys : List ℕ). xs ++ ys) none here.out));
    }
