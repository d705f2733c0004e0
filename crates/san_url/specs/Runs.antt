-- A run of bytes, and what is written for a text up to a place.
use Rattle.std.specs.Prelude.{◌≡◌, ℕ, ◌-◌, ◌++◌, List, take, drop}

-- the bytes of a text between two places
abbrev pub run_between : List ℕ → ℕ → ℕ → List ℕ
run_between text start end = take (end - start) (drop start text)

-- What was written before the place `start` is read and what is written at the place `end`, each before what is defined for the rest of the
-- text from there on, come to the same.
abbrev pub IsWrittenBetween : (List ℕ → List ℕ) → List ℕ → ℕ → ℕ → List ℕ → List ℕ → Type 0
IsWrittenBetween defined text start end before after = after ++ defined (drop end text) ≡ before ++ defined (drop start text)
