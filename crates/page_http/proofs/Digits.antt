-- A number that is held at a limit while its digits are read.
use Rattle.std.proofs.Common.{ℕ, ◌+◌, ◌-◌, ◌*◌, ◌≡◌, Bool, true, ◌&&◌, List, [], ◌∷◌, min, arith, ap, sym, rules}
use Rattle.std.specs.List.{list_all}
use Rattle.std.specs.Char.{digit_value, is_ascii_digit}
use Rattle.std.specs.Str.Parse.{digits_value_after}

-- numbers that are one up to the limit are so with the same digits behind them
pub after_same : (m a b : ℕ) (ds : List ℕ) → min a m ≡ min b m
    → min (digits_value_after 10 a ds) m ≡ min (digits_value_after 10 b ds) m
after_same m a b [] h = h
after_same m a b (d ∷ ds) h =
    after_same m (a * 10 + digit_value d) (b * 10 + digit_value d) ds (omega (arith, h))

pub one_digit : (d : ℕ) (ds : List ℕ) → is_ascii_digit d ≡ true
    → list_all is_ascii_digit ds ≡ list_all is_ascii_digit (d ∷ ds)
one_digit d ds h = sym (ap (λ (z : Bool). z && list_all is_ascii_digit ds) h)

pub digit_is : (d : ℕ) → is_ascii_digit d ≡ true → digit_value d ≡ d - 48
digit_is d h = search rules
