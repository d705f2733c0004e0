-- Where tokens stand.
use Rattle.std.specs.Prelude.{ℕ, ◌<◌, ◌≤◌, List, [], ◌∷◌, ⊤}
use Rattle.std.specs.Str.{IsCharBoundary}
use Rattle.tpl_token.specs.declared.refused.TokenRefused.{TokenRefused}
use Rattle.tpl_token.specs.declared.refused.TokenRefused.TheVariants as refused
use Rattle.tpl_token.specs.declared.token.Token.{Token}

-- The tokens stand one after another, from `at` on, none of them empty, and none passes `end`. Nothing is said of what lies between.
abbrev pub Ascend : ℕ → ℕ → List Token → Type 0
Ascend at end [] = ⊤
Ascend at end (token ∷ tokens) = (at ≤ token.start) × (token.start < token.end) × (token.end ≤ end) × Ascend token.end end tokens

-- Each token begins and ends where the text may be cut, between characters.
abbrev pub AreCuts : List ℕ → List Token → Type 0
AreCuts text [] = ⊤
AreCuts text (token ∷ tokens) = IsCharBoundary text token.start × IsCharBoundary text token.end × AreCuts text tokens

-- The offset that a refusal has is one where the text may be cut.
abbrev pub IsCutAt : List ℕ → TokenRefused → Type 0
IsCutAt text (refused.UnclosedAction offset) = IsCharBoundary text offset
IsCutAt text (refused.BadCharacter offset) = IsCharBoundary text offset
IsCutAt text (refused.UnclosedString offset) = IsCharBoundary text offset
IsCutAt text (refused.UnclosedComment offset) = IsCharBoundary text offset
IsCutAt text (refused.BadNumber offset) = IsCharBoundary text offset
IsCutAt text (refused.BadDelimiter offset) = IsCharBoundary text offset
IsCutAt text (refused.BadEscape offset) = IsCharBoundary text offset
IsCutAt text refused.Memory = ⊤
