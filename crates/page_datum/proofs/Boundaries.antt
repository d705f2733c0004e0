-- Where characters begin.
use Rattle.std.proofs.Common.{◌≡◌, ◌≢◌, ℕ, zero, suc, ◌-◌, ◌<◌, ◌≤◌, List, [], length, get_or, take, true, false, refl, arith}
use Rattle.std.specs.Str.{IsCharBoundary}
use Rattle.std.specs.Fmt.{is_char_start}
use Rattle.std.specs.Fmt.Cut.{floor_char_boundary}
use Rattle.std.proofs.lemmas.Bool.Decides.{nat_tests}

starts : (bytes : List ℕ) (n : ℕ) → n < length bytes → IsCharBoundary bytes n → is_char_start (get_or bytes n 0) ≡ true
starts bytes n h is = let high = is.1 h in grind (arith, nat_tests)

-- a place where a character begins is the last one up to itself
pub stays : (bytes : List ℕ) (n : ℕ) → n < length bytes → IsCharBoundary bytes n → floor_char_boundary bytes n ≡ n
unfolding floor_char_boundary
stays bytes zero h is = refl
stays bytes (suc n) h is = rw (starts bytes (suc n) h is) refl

goes_on : (bytes : List ℕ) (n : ℕ) → n < length bytes → (IsCharBoundary bytes n → ⊥) → is_char_start (get_or bytes n 0) ≡ false
goes_on bytes n h is = let no : (128 ≤ get_or bytes n 0 → 192 ≤ get_or bytes n 0) → ⊥ = λ high. is (omega arith, λ _. high) in grind (arith, nat_tests)

-- and another has the one of the place before it
pub falls : (bytes : List ℕ) (n : ℕ) → n ≢ 0 → n < length bytes → (IsCharBoundary bytes n → ⊥) → floor_char_boundary bytes (n - 1) ≡ floor_char_boundary bytes n
unfolding floor_char_boundary
falls bytes zero some h is = absurd (some refl)
falls bytes (suc n) some h is = let e : suc n - 1 ≡ n = omega arith in rw (e, goes_on bytes (suc n) h is) refl

pub none : (bytes : List ℕ) (n : ℕ) → n ≡ 0 → [] ≡ take (floor_char_boundary bytes n) bytes
unfolding floor_char_boundary
none bytes n e = rw e refl
