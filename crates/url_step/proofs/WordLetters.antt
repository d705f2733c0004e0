-- The letter of a word behind so many is the one at that place.
use Rattle.std.proofs.Common.{◌≡◌, ◌<◌, ◌≤◌, ℕ, zero, suc, List, [], ◌∷◌, Some, None, length, get_or, refl, sym, ap, arith}
use Rattle.url_lexer.specs.Prefixes.{letter_behind}

pub letter-there : (xs : List ℕ) (n x : ℕ) → n < length xs → x ≡ get_or xs n x → letter_behind xs n ≡ Some x
letter-there [] n x h k = absurd (omega arith)
letter-there (y ∷ ys) zero x h k = ap Some (sym k)
letter-there (y ∷ ys) (suc n) x h k = letter-there ys n x (omega arith) k

pub letter-none : (xs : List ℕ) (n : ℕ) → length xs ≤ n → letter_behind xs n ≡ None
letter-none [] n h = refl
letter-none (y ∷ ys) zero h = absurd (omega arith)
letter-none (y ∷ ys) (suc n) h = letter-none ys n (omega arith)
