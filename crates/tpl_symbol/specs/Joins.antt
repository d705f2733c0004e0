-- How symbols stand after one another: a text that comes after a text goes on it.
use Rattle.std.specs.Prelude.{ℕ, Bool, List, [], ◌∷◌, ◌++◌, length, Option, Some, None}
use Rattle.tpl_symbol.specs.declared.symbol.Symbol.{Symbol}
use Rattle.tpl_symbol.specs.declared.symbol.SymbolKind.{SymbolKind}
use Rattle.tpl_symbol.specs.declared.symbol.SymbolKind.TheVariants as symbol

-- two symbols; of two texts one, with a seam where the second begins
abbrev pub joined_symbol_kinds : SymbolKind → SymbolKind → Symbol → Symbol → List Symbol
joined_symbol_kinds (symbol.Text bytes seams) (symbol.Text more _) first second =
    record {
      kind = symbol.Text (bytes ++ more) (seams ++ record { at = length bytes; line = second.line } ∷ []);
      line = first.line;
      touches = first.touches;
    } ∷ []
joined_symbol_kinds _ _ first second = first ∷ second ∷ []

abbrev pub joined_symbols : Symbol → Symbol → List Symbol
joined_symbols first second = joined_symbol_kinds first.kind second.kind first second

-- a symbol of this kind
abbrev pub symbol_at : SymbolKind → ℕ → Bool → Symbol
symbol_at kind line touches = record { kind = kind; line = line; touches = touches }

-- symbols and then one of this kind, as it is
abbrev pub put_apart : List Symbol → SymbolKind → ℕ → Bool → List Symbol
put_apart symbols kind line touches = symbols ++ symbol_at kind line touches ∷ []

-- symbols with one more after them
abbrev pub put_symbol : List Symbol → Symbol → List Symbol
put_symbol [] new = new ∷ []
put_symbol (last ∷ []) new = joined_symbols last new
put_symbol (first ∷ second ∷ symbols) new = first ∷ put_symbol (second ∷ symbols) new

-- with one more of this kind, where there is one
abbrev pub put_kind : List Symbol → Option SymbolKind → ℕ → Bool → List Symbol
put_kind symbols None line touches = symbols
put_kind symbols (Some kind) line touches = put_symbol symbols (symbol_at kind line touches)
