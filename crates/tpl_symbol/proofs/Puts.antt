-- A symbol is put after others by what the last of them is.
use Rattle.std.proofs.Common.{◌≡◌, ◌≢◌, ℕ, List, [], ◌∷◌, ◌++◌, refl, ap}
use Rattle.tpl_symbol.specs.Joins.{joined_symbols, joined_symbol_kinds, put_symbol}
use Rattle.tpl_symbol.specs.declared.symbol.Seam.{Seam}
use Rattle.tpl_symbol.specs.declared.symbol.Symbol.{Symbol}
use Rattle.tpl_symbol.specs.declared.symbol.SymbolKind.{SymbolKind}
use Rattle.tpl_symbol.specs.declared.symbol.SymbolKind.TheVariants as symbol

pub put-last : (symbols : List Symbol) (last new : Symbol) → put_symbol (symbols ++ last ∷ []) new ≡ symbols ++ joined_symbols last new
put-last [] last new = refl
put-last (s ∷ []) last new = refl
put-last (s ∷ t ∷ symbols) last new = ap (λ (xs : List Symbol). s ∷ xs) (put-last (t ∷ symbols) last new)

apart : (kind other : SymbolKind) (last new : Symbol) → ((bytes : List ℕ) (seams : List Seam) → kind ≢ symbol.Text bytes seams) → joined_symbol_kinds kind other last new ≡ last ∷ new ∷ []
apart (symbol.Text bytes seams) other last new differs = absurd (differs bytes seams refl)
apart kind other last new differs = refl

-- what is no text stays as it is
pub joined-apart : (last new : Symbol) → ((bytes : List ℕ) (seams : List Seam) → last.kind ≢ symbol.Text bytes seams) → joined_symbols last new ≡ last ∷ new ∷ []
joined-apart last new differs = apart last.kind new.kind last new differs

apart_after : (kind other : SymbolKind) (last new : Symbol) → ((bytes : List ℕ) (seams : List Seam) → other ≢ symbol.Text bytes seams) → joined_symbol_kinds kind other last new ≡ last ∷ new ∷ []
apart_after (symbol.Text _ _) (symbol.Text bytes seams) last new differs = absurd (differs bytes seams refl)
apart_after (symbol.Text _ _) other last new differs = refl
apart_after kind other last new differs = refl

-- what is no text is put after the others as it is
pub put-apart : (symbols : List Symbol) (new : Symbol) → ((bytes : List ℕ) (seams : List Seam) → new.kind ≢ symbol.Text bytes seams) → put_symbol symbols new ≡ symbols ++ new ∷ []
put-apart [] new differs = refl
put-apart (last ∷ []) new differs = apart_after last.kind new.kind last new differs
put-apart (s ∷ t ∷ symbols) new differs = ap (λ (xs : List Symbol). s ∷ xs) (put-apart (t ∷ symbols) new differs)
