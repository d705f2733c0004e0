-- The definitions computed on small files.
use Rattle.std.proofs.Common.{◌≡◌, ℕ, true, false, codes, [], ◌∷◌, refl}
use Rattle.tpl_symbol.specs.Symbols.{symbols_of}
use Rattle.tpl_symbol.specs.declared.symbol.SymbolKind.TheVariants as symbol
use Rattle.tpl_symbol.specs.declared.word.Word.TheVariants as word
use Rattle.tpl_token.specs.declared.token.Token.{Token}
use Rattle.tpl_token.specs.declared.token.TokenKind.{TokenKind}
use Rattle.tpl_token.specs.declared.token.TokenKind.TheVariants as kind

abbrev token : TokenKind → ℕ → ℕ → Token
token what start end = record { kind = what; start = start; end = end }

-- texts around a comment, the second on another line
joined : symbols_of (codes "a\n{{/*c*/}}b") (token kind.Text 0 2 ∷ token kind.Open 2 4 ∷ token kind.Comment 4 9 ∷ token kind.Close 9 11 ∷ token kind.Text 11 12 ∷ [])
    ≡ record { kind = symbol.Text (codes "a\nb") (record { at = 2; line = 2 } ∷ []); line = 1; touches = true } ∷ []
joined = refl

-- an action with a word and a variable
action : symbols_of (codes "\n{{if $x}}") (token kind.Text 0 1 ∷ token kind.Open 1 3 ∷ token kind.Name 3 5 ∷ token kind.Variable 6 8 ∷ token kind.Close 8 10 ∷ [])
    ≡ record { kind = symbol.Text (codes "\n") []; line = 1; touches = true }
    ∷ record { kind = symbol.Open 1 1; line = 2; touches = true }
    ∷ record { kind = symbol.Word word.If; line = 2; touches = true }
    ∷ record { kind = symbol.Variable (codes "x"); line = 2; touches = false }
    ∷ record { kind = symbol.Close 10; line = 2; touches = true } ∷ []
action = refl
