-- What stands before the first `:`, behind bytes that have been passed.
use Rattle.std.proofs.Common.{◌≡◌, ℕ, List, ◌++◌, Option, Some, None, drop, take}
use Rattle.url_lexer.specs.Sanitizers.{before_colon}

abbrev passed : List ℕ → Option (List ℕ) → Option (List ℕ)
passed front None = None
passed front (Some more) = Some (front ++ more)

-- searching on is searching the whole
abbrev pub IsPassed : List ℕ → ℕ → Type 0
IsPassed text at = passed (take at text) (before_colon (drop at text)) ≡ before_colon text
