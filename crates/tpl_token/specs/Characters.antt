-- The characters of actions. Letters and digits are ASCII's.
use Rattle.std.specs.Prelude.{ℕ, Bool, false, not, ◌||◌, ◌&&◌, ◌==◌, nat_eq, List, [], ◌∷◌}
use Rattle.std.specs.Char.{is_ascii_alphabetic, is_ascii_alphanumeric}
use Rattle.std.specs.List.{list_all, starts_with}

-- the bytes begin with this mark
abbrev pub begins : List ℕ → List ℕ → Bool
begins mark bytes = starts_with nat_eq bytes mark

-- there is a first byte, and it passes
abbrev pub first_is : (ℕ → Bool) → List ℕ → Bool
first_is p [] = false
first_is p (b ∷ bs) = p b

-- any byte but this one
abbrev pub is_other : ℕ → ℕ → Bool
is_other byte b = not (b == byte)

-- white space: space, tab, carriage return, line feed
abbrev pub is_white : ℕ → Bool
is_white b = (b == 32) || ((b == 9) || ((b == 13) || (b == 10)))

-- a letter or `_`
abbrev pub is_word_start : ℕ → Bool
is_word_start b = is_ascii_alphabetic b || (b == 95)

-- a letter, a digit or `_`
abbrev pub is_word_byte : ℕ → Bool
is_word_byte b = is_ascii_alphanumeric b || (b == 95)

-- a letter or `_`, then letters, digits and `_`
abbrev pub is_name_byte : List ℕ → Bool
is_name_byte bytes = first_is is_word_start bytes && list_all is_word_byte bytes

-- `+` or `-`
abbrev pub is_sign : ℕ → Bool
is_sign b = (b == 43) || (b == 45)
