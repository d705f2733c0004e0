-- Where a text is greater than another one, the other is not greater.
use Rattle.std.proofs.Common.{◌≡◌, ℕ, true, false, List, Ordering, Less, Equal, Greater, refl, ap}
use Rattle.std.proofs.lemmas.Cmp.{nat_list_cmp_total}
use Rattle.std.specs.Cmp.Lexicographic.{slice_cmp}
use Rattle.std.specs.Ordering.{is_gt, nat_cmp, ordering_reverse}

turned : (o p : Ordering) → o ≡ ordering_reverse p → is_gt o ≡ true → is_gt p ≡ false
turned o Less e h = refl
turned o Equal e h = refl
turned o Greater e h = (let f = ap is_gt e in cc)

pub not-both-greater : (a b : List ℕ) → is_gt (slice_cmp nat_cmp a b) ≡ true → is_gt (slice_cmp nat_cmp b a) ≡ false
not-both-greater a b h = turned (slice_cmp nat_cmp a b) (slice_cmp nat_cmp b a) (nat_list_cmp_total.antisymm a b) h
