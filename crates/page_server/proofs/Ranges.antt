-- Parts of a room that is read into.
use Rattle.std.proofs.Common.{ℕ, ◌≡◌, ◌+◌, ◌-◌, ◌≤◌, List, [], ◌++◌, length, take, drop, slice_range, Option, arith, ap}
use Rattle.std.proofs.Common.{sym, ◌∙◌, subst, append-nil, append_assoc}
use Rattle.std.proofs.lemmas.List.{drop-take, drop-drop, take_at, take_all, take-append-le, length-take}
use Rattle.std.proofs.Math.Seq.{take-add}
use Rattle.std.specs.Io.KnownBytes.{Consumes}
use Rattle.std.proofs.KnownBytes.{Consumes-nil}
use Rattle.page_io.proofs.Known.{Consumes-twice}
use Rattle.page_server.specs.Buffers.{IsReadBehind}

pub range_dropped : (xs : List ℕ) (start used end : ℕ) → used ≤ length (slice_range xs start end)
    → slice_range xs (start + used) end ≡ drop used (slice_range xs start end)
range_dropped xs start used end h =
    let m : used + (end - (start + used)) ≡ end - start = omega (arith, h, length-take (end - start) (drop start xs)) in
    ap (λ (z : List ℕ). take (end - (start + used)) z) (sym (drop-drop used start xs))
    ∙ sym (drop-take used (end - (start + used)) (drop start xs))
    ∙ ap (λ (k : ℕ). drop used (take k (drop start xs))) m

-- what a part is, by the bytes up to its end
part_is : (xs : List ℕ) (start end : ℕ) → start ≤ end → slice_range xs start end ≡ drop start (take end xs)
part_is xs start end h =
    let m : start + (end - start) ≡ end = omega arith in
    sym (drop-take start (end - start) xs) ∙ ap (λ (k : ℕ). drop start (take k xs)) m

same_part : (old new : List ℕ) (start end : ℕ) → start ≤ end → take end new ≡ take end old
    → slice_range new start end ≡ slice_range old start end
same_part old new start end h same =
    part_is new start end h ∙ ap (λ (z : List ℕ). drop start z) same ∙ sym (part_is old start end h)

-- a room whose first bytes were kept, as the vector has it
pub part_kept : (old new back : List ℕ) (n start end : ℕ) → length new ≡ n → start ≤ end → take end new ≡ take end old
    → slice_range (take n (new ++ back)) start end ≡ slice_range old start end
part_kept old new back n start end len h same =
    ap (λ (z : List ℕ). slice_range z start end) (take_at new back n len) ∙ same_part old new start end h same

pub part_grown : (old new back : List ℕ) (n start end count : ℕ) → length new ≡ n → start ≤ end → take end new ≡ take end old
    → slice_range (take n (new ++ back)) start (end + count) ≡ slice_range old start end ++ take count (drop end new)
part_grown old new back n start end count len h same =
    let m : (end + count) - start ≡ (end - start) + count = omega arith in
    let e : start + (end - start) ≡ end = omega arith in
    ap (λ (z : List ℕ). slice_range z start (end + count)) (take_at new back n len)
    ∙ ap (λ (k : ℕ). take k (drop start new)) m
    ∙ take-add (end - start) count (drop start new)
    ∙ ap (λ (z : List ℕ). z ++ take count (drop (end - start) (drop start new))) (same_part old new start end h same)
    ∙ ap (λ (z : List ℕ). slice_range old start end ++ take count z)
    (drop-drop (end - start) start new ∙ ap (λ (k : ℕ). drop k new) e)

pub reads_more : (left0 left : Option (List ℕ)) (old new back : List ℕ) (n start end count : ℕ) → length new ≡ n → start ≤ end
    → take end new ≡ take end old → Consumes left0 left (take count (drop end new))
    → IsReadBehind left0 left (slice_range old start end) (slice_range (take n (new ++ back)) start (end + count))
reads_more left0 left old new back n start end count len h same came = record {
  more = take count (drop end new);
  grown = part_grown old new back n start end count len h same;
  came = came;
}

pub reads_none : (left0 left : Option (List ℕ)) (old new : List ℕ) → left ≡ left0 → new ≡ old → IsReadBehind left0 left old new
reads_none left0 left old new same kept = record {
  more = [];
  grown = kept ∙ sym (append-nil old);
  came = subst (λ (z : Option (List ℕ)). Consumes left0 z []) (sym same) (Consumes-nil left0);
}

pub reads_twice : (l0 l1 l2 : Option (List ℕ)) (a b c : List ℕ) → IsReadBehind l0 l1 a b → IsReadBehind l1 l2 b c → IsReadBehind l0 l2 a c
reads_twice l0 l1 l2 a b c r s = record {
  more = r.more ++ s.more;
  grown = s.grown ∙ ap (λ (z : List ℕ). z ++ s.more) r.grown ∙ append_assoc a r.more s.more;
  came = Consumes-twice l0 l1 l2 r.more s.more r.came s.came;
}

-- a room that was made greater
pub prefix_kept : (xs more : List ℕ) (n end : ℕ) → length xs ≤ n → end ≤ length xs → take end (take n xs ++ more) ≡ take end xs
prefix_kept xs more n end greater within =
    ap (λ (z : List ℕ). take end (z ++ more)) (take_all n xs greater) ∙ take-append-le end xs more within
