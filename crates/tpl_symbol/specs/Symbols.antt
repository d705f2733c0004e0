-- The symbols of a text with these tokens.
use Rattle.std.specs.Prelude.{ℕ, ◌+◌, ◌^◌, ◌<◌, ◌≤◌, ◌==◌, Bool, false, List, [], ◌∷◌, length, ⊤}
use Rattle.std.specs.List.{All}
use Rattle.tpl_symbol.specs.Joins.{put_kind}
use Rattle.tpl_symbol.specs.Kinds.{token_begins_comment, is_comment, symbol_kind_at}
use Rattle.tpl_symbol.specs.Lines.{line_of}
use Rattle.tpl_symbol.specs.declared.symbol.Seam.{Seam}
use Rattle.tpl_symbol.specs.declared.symbol.Symbol.{Symbol}
use Rattle.tpl_symbol.specs.declared.symbol.SymbolKind.{SymbolKind}
use Rattle.tpl_symbol.specs.declared.symbol.SymbolKind.TheVariants as symbol
use Rattle.tpl_token.specs.declared.token.Token.{Token}

-- Symbols with that of one more token, where the token before it ends at `end`, and a comment comes right before or right
-- after it, or not.
abbrev pub add : List ℕ → List Symbol → ℕ → Bool → Bool → Token → List Symbol
add text symbols end before after t = put_kind symbols (symbol_kind_at text t before after) (line_of text t.start) (t.start == end)

-- symbols with those of all these tokens
abbrev pub symbols_from : List ℕ → List Symbol → ℕ → Bool → List Token → List Symbol
symbols_from text symbols end before [] = symbols
symbols_from text symbols end before (t ∷ tokens) = symbols_from text (add text symbols end before (token_begins_comment tokens) t) t.end (is_comment t) tokens

-- the symbols of a text with these tokens
abbrev pub symbols_of : List ℕ → List Token → List Symbol
symbols_of text tokens = symbols_from text [] 0 false tokens

-- a text with its line and its seams: it is neither empty nor longer than a file may be, and its length plus its line, or the
-- line of a seam, is below 2 ^ 32
pub record IsFineTextSymbol (bytes : List ℕ) (begins : ℕ) (breaks : List Seam) : Type 0 where
  pub some : 0 < length bytes
  pub bound : length bytes ≤ 2 ^ 20
  pub line : begins + length bytes < 2 ^ 32
  pub seams : All (λ s. s.line + length bytes < 2 ^ 32) breaks

-- where it is a text, it is a fine one
abbrev pub IsFineKind : SymbolKind → ℕ → Type 0
IsFineKind (symbol.Text bytes seams) line = IsFineTextSymbol bytes line seams
IsFineKind kind line = ⊤

abbrev pub IsFineSymbol : Symbol → Type 0
IsFineSymbol s = IsFineKind s.kind s.line
