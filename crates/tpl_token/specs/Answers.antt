-- How reading the tokens of a text answers.
use Rattle.std.specs.Prelude.{◌≡◌, ◌⊎◌, ℕ, ◌^◌, List, Result, Ok, Err, ⊤}
use Rattle.tpl_token.specs.Grammar.{AreTokens}
use Rattle.tpl_token.specs.Refusals.{IsTokenRefused}
use Rattle.tpl_token.specs.declared.refused.TokenRefused.{TokenRefused}
use Rattle.tpl_token.specs.declared.refused.TokenRefused.TheVariants as refused
use Rattle.tpl_token.specs.declared.token.Token.{Token}

-- the most bytes of a text
abbrev pub max_template_text : ℕ
max_template_text = 2 ^ 20

-- The text has tokens, or it is refused.
abbrev pub HasTokenAnswer : List ℕ → Type 0
HasTokenAnswer text = ((tokens : List Token) × AreTokens text tokens) ⊎ ((why : TokenRefused) × IsTokenRefused text why)

-- at most one value is such
abbrev pub AtMostOne : {A : Type 0} → (A → Type 0) → Type 0
AtMostOne {A} P = (a b : A) → P a → P b → a ≡ b

-- no value is such while another one is so
abbrev pub Exclude : {A B : Type 0} → (A → Type 0) → (B → Type 0) → Type 0
Exclude {A} {B} P Q = (a : A) (b : B) → P a → Q b → ⊥

-- The tokens of the text, or why it has none. Out of memory may come instead.
abbrev pub TokensAnswers : List ℕ → Result (List Token) TokenRefused → Type 0
TokensAnswers text (Ok tokens) = AreTokens text tokens
TokensAnswers text (Err refused.Memory) = ⊤
TokensAnswers text (Err why) = IsTokenRefused text why

-- What was returned is this, or memory ran out.
abbrev pub IsOrOutOfMemory : {X : Type 0} → Result X TokenRefused → Result X TokenRefused → Type 0
IsOrOutOfMemory (Err refused.Memory) wanted = Unit {0}
IsOrOutOfMemory (Err why) wanted = wanted ≡ Err why
IsOrOutOfMemory (Ok x) wanted = wanted ≡ Ok x
