-- What a verb of a format is: `%`, flags, a width and a letter (Go's package `fmt`, "Printing", in a profile).
use Rattle.std.specs.Prelude.{ℕ, ◌+◌, ◌*◌, ◌-◌, Bool, true, false, not, ◌&&◌, ◌||◌, ◌==◌, if◌then◌else◌, nat_lt, nat_le}
use Rattle.tpl_format.specs.declared.verb.Verb.{Verb}
use Rattle.tpl_format.specs.declared.verb.VerbState.{VerbState}
use Rattle.tpl_format.specs.declared.verb.VerbState.TheVariants.{More, Percent, Takes, Bad}
use Rattle.tpl_format.specs.declared.verb.Conversion.TheVariants.{Decimal, Hex, Itself, Truth, Any}

-- A verb is read byte by byte after its `%`. A width of 0 stands for none, since no width begins with 0.

-- no flags and no width
abbrev pub bare : Verb
bare = record { left = false; zeros = false; plus = false; width = 0 }

abbrev pub is_bare : Verb → Bool
is_bare verb = not verb.left && not verb.zeros && not verb.plus && (verb.width == 0)

-- one more flag, unless it is refused: each stands once, and before the width
abbrev pub with_flag : Bool → Verb → VerbState
with_flag refused verb = if refused then Bad else More verb

-- one more digit of the width, which is at most 1,000
abbrev pub with_digit : Verb → ℕ → VerbState
with_digit verb digit = let width = verb.width * 10 + digit in if nat_lt 1000 width then Bad else More (record verb { width = width })

-- `d`, `x`, `s`, `t`, `v`
abbrev pub letter : ℕ → VerbState
letter b =
    if b == 100 then Takes Decimal else
    if b == 120 then Takes Hex else
    if b == 115 then Takes Itself else
    if b == 116 then Takes Truth else
    if b == 118 then Takes Any else Bad

-- what a byte is to the verb so far: `-`, `+`, `0`, a digit, `%` or a letter
abbrev pub read_flag : Verb → ℕ → VerbState
read_flag verb b =
    let has_width = nat_lt 0 verb.width in
    if b == 45 then with_flag (verb.left || has_width) (record verb { left = true }) else
    if b == 43 then with_flag (verb.plus || has_width) (record verb { plus = true }) else
    if (b == 48) && not has_width then with_flag verb.zeros (record verb { zeros = true }) else
    if nat_le 48 b && nat_le b 57 then with_digit verb (b - 48) else
    if b == 37 then (if is_bare verb then Percent else Bad) else
    letter b
