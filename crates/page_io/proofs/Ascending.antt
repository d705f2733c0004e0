-- What a binary search finds among entries whose keys ascend.
use Rattle.std.proofs.Common.{◌≡◌, ℕ, zero, suc, ◌<◌, ◌≤◌, List, [], ◌∷◌, length, get_or, true, false, bytes_eq, Some, None, option_map, Ordering, Less, Equal, Greater, refl, sym, ap, ◌∙◌, ⊎_elim, arith}
use Rattle.std.proofs.Math.Nat.{eq-or-lt_of_le}
use Rattle.std.proofs.lemmas.Bool.{cases_lt}
use Rattle.std.proofs.lemmas.Cmp.{nat_list_cmp_total, alike_right}
use Rattle.std.specs.Cmp.Lexicographic.{slice_cmp, texts_ties}
use Rattle.std.specs.List.{AllByRecursion}
use Rattle.std.specs.List.Sorted.{IsStrictlySortedBy, IsNonDecreasingBy, IsPartitionPoint}
use Rattle.std.specs.Map.{keys_of}
use Rattle.std.specs.Ordering.{nat_cmp, ordering_index, is_eq}
use Rattle.page_io.specs.Keys.{HaveAscendingKeys, key_number}

abbrev pub cmp : List ℕ → List ℕ → Ordering
cmp = slice_cmp nat_cmp

-- a smaller key compares no higher
rise : (a b key : List ℕ) (o : Ordering) → cmp a b ≡ Less → cmp b key ≡ o → ordering_index (cmp a key) ≤ ordering_index o
rise a b key Less below is = rw (nat_list_cmp_total.trans a b key below is) (omega arith)
rise a b key Equal below is = rw (sym (alike_right nat_list_cmp_total b key a is) ∙ below) (omega arith)
rise a b key Greater below is = most (cmp a key)
  where
    most : (o : Ordering) → ordering_index o ≤ 2
    most Less = omega arith
    most Equal = omega arith
    most Greater = omega arith

module _ {V : Type 0} where
  first_above : (key : List ℕ) (es : List (List ℕ × V)) (i : ℕ) (d : List ℕ × V) → AllByRecursion (λ y. cmp key y ≡ Less) (keys_of es) → i < length es → cmp key (get_or es i d).0 ≡ Less
  first_above key [] i d up lt = absurd (omega arith)
  first_above key (e ∷ es) zero d up lt = up.0
  first_above key (e ∷ es) (suc i) d up lt = first_above key es i d up.1 (omega arith)

  -- of two entries the earlier has the smaller key
  ascend : (es : List (List ℕ × V)) (i j : ℕ) (d : List ℕ × V) → HaveAscendingKeys es → i < j → j < length es → cmp (get_or es i d).0 (get_or es j d).0 ≡ Less
  unfolding IsStrictlySortedBy
  ascend [] i j d up lt inside = absurd (omega arith)
  ascend (e ∷ es) i zero d up lt inside = absurd (omega arith)
  ascend (e ∷ es) zero (suc j) d up lt inside = first_above e.0 es j d up.0 (omega arith)
  ascend (e ∷ es) (suc i) (suc j) d up lt inside = ascend es i j d up.1 (omega arith) (omega arith)

  -- so the comparisons with a key rise, as a binary search asks
  pub comparisons_rise : (key : List ℕ) (es : List (List ℕ × V)) → HaveAscendingKeys es → IsNonDecreasingBy (λ e. ordering_index (cmp e.0 key)) es
  comparisons_rise key es up i j d le inside = ⊎_elim
      (λ (same : i ≡ j). rw same (omega arith))
      (λ (lt : i < j). rise (get_or es i d).0 (get_or es j d).0 key (cmp (get_or es j d).0 key) (ascend es i j d up lt inside) refl)
      (eq-or-lt_of_le le)

  -- the place of an entry with the key is its number
  pub key_number-found : (key : List ℕ) (es : List (List ℕ × V)) (i : ℕ) → HaveAscendingKeys es → i < length es → ((d : List ℕ × V) → cmp (get_or es i d).0 key ≡ Equal) → key_number key es ≡ Some i
  unfolding IsStrictlySortedBy
  key_number-found key [] i up lt is = absurd (omega arith)
  key_number-found key (e ∷ es) zero up lt is =
      let same : bytes_eq e.0 key ≡ true = texts_ties e.0 key ∙ ap is_eq (is e) in
      rw same refl
  key_number-found key (e ∷ es) (suc i) up lt is =
      let less : cmp e.0 key ≡ Less = sym (alike_right nat_list_cmp_total (get_or es i e).0 key e.0 (is e)) ∙ first_above e.0 es i e up.0 (omega arith) in
      let other : bytes_eq e.0 key ≡ false = texts_ties e.0 key ∙ ap is_eq less in
      rw other (ap (option_map suc) (key_number-found key es i up.1 (omega arith) is))

  none_at : (key : List ℕ) (es : List (List ℕ × V)) → ((k : ℕ) (d : List ℕ × V) → k < length es → is_eq (cmp (get_or es k d).0 key) ≡ false) → key_number key es ≡ None
  none_at key [] h = refl
  none_at key (e ∷ es) h =
      let other : bytes_eq e.0 key ≡ false = texts_ties e.0 key ∙ h 0 e (omega arith) in
      rw other (ap (option_map suc) (none_at key es (λ k d lt. h (suc k) d (omega arith))))

  -- between the smaller and the greater keys there is none
  pub key_number-absent : (key : List ℕ) (es : List (List ℕ × V)) (i : ℕ) → IsPartitionPoint (λ e. cmp e.0 key ≡ Less) (λ e. cmp e.0 key ≡ Greater) es i → key_number key es ≡ None
  key_number-absent key es i parted = none_at key es (λ k d lt. ⊎_elim
      (λ (below : k < i). ap is_eq (parted.0 k d (omega arith) below))
      (λ (above : i ≤ k). ap is_eq (parted.1 k d above lt))
      (cases_lt k i))
