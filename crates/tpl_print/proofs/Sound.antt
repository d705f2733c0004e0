-- What holds of the symbols of any text.
use Rattle.std.proofs.Common.{◌≡◌, ◌≢◌, ℕ, ◌<◌, ◌^◌, ◌⊎◌, true, List, [], ◌∷◌, ℤ, pos, negsuc, subst}
use Rattle.std.specs.Bool.{⊤}
use Rattle.tpl_pipe.specs.Grammar.{SymbolStands, Touching, AreFields}
use Rattle.tpl_symbol.specs.declared.symbol.Symbol.{Symbol}
use Rattle.tpl_symbol.specs.declared.symbol.SymbolKind.{SymbolKind}
use Rattle.tpl_symbol.specs.declared.symbol.SymbolKind.TheVariants as kind
use Rattle.tpl_token.specs.Characters.{is_name_byte}

-- 64 bits with sign hold the number
abbrev pub IsSmall : ℤ → Type 0
IsSmall (pos n) = n < 2 ^ 63
IsSmall (negsuc n) = n < 2 ^ 63

abbrev pub IsSound : SymbolKind → Type 0
IsSound (kind.Text bytes seams) = bytes ≢ []
IsSound (kind.Field n) = is_name_byte n ≡ true
IsSound (kind.Variable n) = (n ≡ []) ⊎ (is_name_byte n ≡ true)
IsSound (kind.Number n) = IsSmall n
IsSound _ = ⊤

-- not two texts
abbrev pub AreApart : SymbolKind → SymbolKind → Type 0
AreApart (kind.Text bytes seams) (kind.Text more others) = ⊥
AreApart _ _ = ⊤

abbrev pub IsApart : SymbolKind → List Symbol → Type 0
IsApart k [] = ⊤
IsApart k (s ∷ symbols) = AreApart k s.kind

-- texts are not empty and not after one another, names are names, and numbers small
abbrev pub Sound : List Symbol → Type 0
Sound [] = ⊤
Sound (s ∷ symbols) = IsSound s.kind × IsApart s.kind symbols × Sound symbols

pub stands_sound : (k : SymbolKind) (symbols rest : List Symbol) → SymbolStands k symbols rest → Sound symbols → IsSound k × Sound rest
stands_sound k [] rest h sound = absurd h
stands_sound k (s ∷ symbols) rest h sound = (subst IsSound h.0 sound.0, subst Sound h.1 sound.2)

-- names of fields
abbrev pub AreNames : List (List ℕ) → Type 0
AreNames [] = ⊤
AreNames (n ∷ names) = (is_name_byte n ≡ true) × AreNames names

touching_sound : (n : List ℕ) (symbols rest : List Symbol) → Touching n symbols rest → Sound symbols → (is_name_byte n ≡ true) × Sound rest
touching_sound n [] rest h sound = absurd h
touching_sound n (s ∷ symbols) rest h sound = (subst IsSound h.0 sound.0, subst Sound h.2 sound.2)

pub fields_sound : (names : List (List ℕ)) (symbols rest : List Symbol) → AreFields names symbols rest → Sound symbols → AreNames names × Sound rest
fields_sound [] symbols rest h sound = (tt, subst Sound h.0 sound)
fields_sound (n ∷ names) symbols rest h sound =
    let one = touching_sound n symbols h.0 h.1 sound in
    let more = fields_sound names h.0 rest h.2 one.1 in
    ((one.0, more.0), more.1)
