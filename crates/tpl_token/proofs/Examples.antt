-- The definitions computed on small texts.
use Rattle.std.proofs.Common.{[], ◌∷◌, Ok, Err, pos, neg_ℤ, refl, codes}
use Rattle.tpl_token.specs.Grammar.{AreTokens}
use Rattle.tpl_token.specs.Refusals.{IsTokenRefused}
use Rattle.tpl_token.specs.declared.refused.TokenRefused.TheVariants as refused
use Rattle.tpl_token.specs.declared.token.TokenKind.TheVariants as kind
use Rattle.tpl_token.proofs.NextFound.{token}
use Rattle.tpl_token.proofs.OneAnswer.{computed}

-- text, a number between trimming delimiters, text
trimmed : AreTokens (codes "a {{- 3 -}} b") (token kind.Text 0 1 ∷ token kind.Open 2 5 ∷ token (kind.Number (pos 3)) 6 7 ∷ token kind.Close 8 11 ∷ token kind.Text 12 13 ∷ [])
trimmed = computed 9 (codes "a {{- 3 -}} b") (Ok (token kind.Text 0 1 ∷ token kind.Open 2 5 ∷ token (kind.Number (pos 3)) 6 7 ∷ token kind.Close 8 11 ∷ token kind.Text 12 13 ∷ [])) refl

-- one white space serves both marks, and nothing is left of the texts
all_trimmed : AreTokens (codes " {{- -}} ") (token kind.Open 1 4 ∷ token kind.Close 5 8 ∷ [])
all_trimmed = computed 9 (codes " {{- -}} ") (Ok (token kind.Open 1 4 ∷ token kind.Close 5 8 ∷ [])) refl

-- a comment ends at the first `*/`
comment : AreTokens (codes "{{/*{{*/}}") (token kind.Open 0 2 ∷ token kind.Comment 2 8 ∷ token kind.Close 8 10 ∷ [])
comment = computed 9 (codes "{{/*{{*/}}") (Ok (token kind.Open 0 2 ∷ token kind.Comment 2 8 ∷ token kind.Close 8 10 ∷ [])) refl

-- `}}` in a string does not end the action
string : AreTokens (codes "{{\"}}\"}}") (token kind.Open 0 2 ∷ token (kind.Str (codes "}}")) 2 6 ∷ token kind.Close 6 8 ∷ [])
string = computed 9 (codes "{{\"}}\"}}") (Ok (token kind.Open 0 2 ∷ token (kind.Str (codes "}}")) 2 6 ∷ token kind.Close 6 8 ∷ [])) refl

-- an escaped quote does not end a string
escapes : AreTokens (codes "{{\"\\\"\\x41\"}}") (token kind.Open 0 2 ∷ token (kind.Str (codes "\"A")) 2 10 ∷ token kind.Close 10 12 ∷ [])
unfolding lib.Utf8.encode
escapes = computed 9 (codes "{{\"\\\"\\x41\"}}") (Ok (token kind.Open 0 2 ∷ token (kind.Str (codes "\"A")) 2 10 ∷ token kind.Close 10 12 ∷ [])) refl

-- tokens that touch, and do not run together
touching : AreTokens (codes "{{1-2$a.b}}") (token kind.Open 0 2 ∷ token (kind.Number (pos 1)) 2 3 ∷ token (kind.Number (neg_ℤ (pos 2))) 3 5 ∷ token kind.Variable 5 7 ∷ token kind.Field 7 9 ∷ token kind.Close 9 11 ∷ [])
touching = computed 9 (codes "{{1-2$a.b}}") (Ok (token kind.Open 0 2 ∷ token (kind.Number (pos 1)) 2 3 ∷ token (kind.Number (neg_ℤ (pos 2))) 3 5 ∷ token kind.Variable 5 7 ∷ token kind.Field 7 9 ∷ token kind.Close 9 11 ∷ [])) refl

-- the least number
least : AreTokens (codes "{{-0x8000000000000000}}") (token kind.Open 0 2 ∷ token (kind.Number (neg_ℤ (pos 0x8000000000000000))) 2 21 ∷ token kind.Close 21 23 ∷ [])
least = computed 9 (codes "{{-0x8000000000000000}}") (Ok (token kind.Open 0 2 ∷ token (kind.Number (neg_ℤ (pos 0x8000000000000000))) 2 21 ∷ token kind.Close 21 23 ∷ [])) refl

-- the text ends in an action
unclosed_action : IsTokenRefused (codes "a{{b ") (refused.UnclosedAction 1)
unclosed_action = computed 9 (codes "a{{b ") (Err (refused.UnclosedAction 1)) refl

-- a character that begins no token
bad_character : IsTokenRefused (codes "{{a}}{{#") (refused.BadCharacter 7)
bad_character = computed 9 (codes "{{a}}{{#") (Err (refused.BadCharacter 7)) refl

-- the line ends in a string
unclosed_string : IsTokenRefused (codes "{{\"a\n\"}}") (refused.UnclosedString 2)
unclosed_string = computed 9 (codes "{{\"a\n\"}}") (Err (refused.UnclosedString 2)) refl

-- `/*/` does not close itself
unclosed_comment : IsTokenRefused (codes "{{/*/}}") (refused.UnclosedComment 0)
unclosed_comment = computed 9 (codes "{{/*/}}") (Err (refused.UnclosedComment 0)) refl

-- 64 bits with sign do not hold this number
too_large : IsTokenRefused (codes "{{9223372036854775808}}") (refused.BadNumber 2)
too_large = computed 9 (codes "{{9223372036854775808}}") (Err (refused.BadNumber 2)) refl

-- no floats
float : IsTokenRefused (codes "{{1.5}}") (refused.BadNumber 2)
float = computed 9 (codes "{{1.5}}") (Err (refused.BadNumber 2)) refl

-- nothing stands between a comment and its delimiter
bad_delimiter : IsTokenRefused (codes "{{/**/ }}") (refused.BadDelimiter 6)
bad_delimiter = computed 9 (codes "{{/**/ }}") (Err (refused.BadDelimiter 6)) refl

-- an escape that is none comes before the end of its string
bad_escape : IsTokenRefused (codes "{{\"a\\q") (refused.BadEscape 4)
bad_escape = computed 9 (codes "{{\"a\\q") (Err (refused.BadEscape 4)) refl
