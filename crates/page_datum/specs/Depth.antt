-- How deep the brackets of a text nest, counted over its bytes before anything is read.
use Rattle.std.specs.Prelude.{ℕ, ◌+◌, ◌-◌, ◌==◌, Bool, true, false, ◌||◌, nat_lt, List, [], ◌∷◌}
use Rattle.std.specs.Prelude.{if◌then◌else◌}
use Rattle.page_datum.specs.declared.depth.StringState.{StringState}
use Rattle.page_datum.specs.declared.depth.StringState.TheVariants.{Outside, Inside, Escaped}

-- the most brackets that may be open at once
abbrev pub max_depth : ℕ
max_depth = 100

-- where the byte after this one stands: a string goes from a quote to the next quote that no
-- backslash takes
abbrev pub state_after : StringState → ℕ → StringState
state_after Outside b = if b == 34 then Inside else Outside
state_after Inside b = if b == 34 then Outside else if b == 92 then Escaped else Inside
state_after Escaped b = Inside

-- a bracket or a brace that opens, and one that closes
abbrev pub opens : ℕ → Bool
opens b = (b == 91) || (b == 123)

abbrev pub closes : ℕ → Bool
closes b = (b == 93) || (b == 125)

-- how many are open after a byte; one that closes with none open counts nothing
abbrev pub open_after : StringState → ℕ → ℕ → ℕ
open_after Outside opened b =
    if opens b then opened + 1 else if closes b then opened - 1 else opened
open_after Inside opened b = opened
open_after Escaped opened b = opened

-- somewhere more are open than may be
abbrev pub deepens : StringState → ℕ → List ℕ → Bool
deepens place opened [] = false
deepens place opened (b ∷ bs) =
    if nat_lt max_depth (open_after place opened b) then true
    else deepens (state_after place b) (open_after place opened b) bs

abbrev pub is_too_deep : List ℕ → Bool
is_too_deep bytes = deepens Outside 0 bytes
