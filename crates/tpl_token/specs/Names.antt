-- The names of the causes for which a text has no tokens, as they are printed; out of memory is printed nowhere.
use Rattle.std.specs.Prelude.{ℕ, codes, List, []}
use Rattle.tpl_token.specs.declared.refused.TokenRefused.{TokenRefused}
use Rattle.tpl_token.specs.declared.refused.TokenRefused.TheVariants as refused

abbrev pub token_refusal_name : TokenRefused → List ℕ
token_refusal_name (refused.UnclosedAction offset) = codes "UnclosedAction"
token_refusal_name (refused.BadCharacter offset) = codes "BadCharacter"
token_refusal_name (refused.UnclosedString offset) = codes "UnclosedString"
token_refusal_name (refused.UnclosedComment offset) = codes "UnclosedComment"
token_refusal_name (refused.BadNumber offset) = codes "BadNumber"
token_refusal_name (refused.BadDelimiter offset) = codes "BadDelimiter"
token_refusal_name (refused.BadEscape offset) = codes "BadEscape"
token_refusal_name refused.Memory = []
