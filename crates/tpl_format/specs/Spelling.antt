-- How a verb is spelled after its `%`: flags, a width and a letter (Go's package `fmt`, "Printing", in a profile). What is
-- read is proved to be what is spelled so.
use Rattle.std.specs.Prelude.{◌≡◌, ℕ, ◌+◌, ◌*◌, ◌-◌, ◌≤◌, Bool, true, ◌&&◌, ◌||◌, ◌==◌, if◌then◌else◌, nat_le, List, [], ◌∷◌, ◌++◌}
use Rattle.tpl_format.specs.declared.verb.Verb.{Verb}
use Rattle.tpl_format.specs.declared.verb.Conversion.{Conversion}
use Rattle.tpl_format.specs.declared.verb.Conversion.TheVariants.{Decimal, Hex, Itself, Truth, Any}

-- how often a byte stands in bytes
abbrev pub times : ℕ → List ℕ → ℕ
times c [] = 0
times c (b ∷ bytes) = (if b == c then 1 else 0) + times c bytes

abbrev pub once_if : Bool → ℕ
once_if wanted = if wanted then 1 else 0

-- `-`, `+` and `0`
abbrev pub are_flags : List ℕ → Bool
are_flags [] = true
are_flags (b ∷ bytes) = (b == 45 || b == 43 || b == 48) && are_flags bytes

abbrev pub are_digits : List ℕ → Bool
are_digits [] = true
are_digits (b ∷ bytes) = (nat_le 48 b && nat_le b 57) && are_digits bytes

-- the number that digits spell after one that was read
abbrev pub value : ℕ → List ℕ → ℕ
value before [] = before
value before (b ∷ bytes) = value (before * 10 + (b - 48)) bytes

abbrev pub BeginsWithZero : List ℕ → Type 0
BeginsWithZero [] = ⊥
BeginsWithZero (b ∷ bytes) = b ≡ 48

abbrev pub letter_of : Conversion → ℕ
letter_of Decimal = 100
letter_of Hex = 120
letter_of Itself = 115
letter_of Truth = 116
letter_of Any = 118

-- the flags of a verb, in any order, each once where the verb has it and else never
pub record HasFlags (verb : Verb) (flags : List ℕ) : Type 0 where
  pub only : are_flags flags ≡ true
  pub left : times 45 flags ≡ once_if verb.left
  pub plus : times 43 flags ≡ once_if verb.plus
  pub zeros : times 48 flags ≡ once_if verb.zeros

-- the width of a verb, at most 1,000 in digits of which the first is not 0, or none
pub record HasWidth (verb : Verb) (digits : List ℕ) : Type 0 where
  pub only : are_digits digits ≡ true
  pub first : BeginsWithZero digits → ⊥
  pub is : value 0 digits ≡ verb.width
  pub most : verb.width ≤ 1000

-- bytes are a verb that takes an operand, and a rest; `%%` is none of these
pub record IsVerb (verb : Verb) (conversion : Conversion) (bytes rest : List ℕ) : Type 0 where
  pub flags : List ℕ
  pub digits : List ℕ
  pub has_flags : HasFlags verb flags
  pub has_width : HasWidth verb digits
  pub spelled : bytes ≡ flags ++ (digits ++ (letter_of conversion ∷ rest))
