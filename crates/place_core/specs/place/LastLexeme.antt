-- Where the lexeme begins in which a text ends unfinished, a percent triple of a URL or an escape of a style: at the last byte of the text that may begin
-- one, a `%` or a `\`. None is open where a text begins. Behind the `%` of an unfinished triple stands at most one hexadecimal digit, and behind the `\`
-- of an unfinished escape at most six hexadecimal digits or a carriage return: so neither byte stands behind it once more, nor a reference to one. In a URL
-- and in a style that are values a reference to such a byte is one, and stands at its `&`; in an element there are none, and elsewhere it does not matter.
use Rattle.std.specs.Prelude.{ℕ, ◌+◌, ◌-◌, ◌==◌, Bool, true, ◌||◌, bytes_eq, encode_utf8, List, [], ◌∷◌, length, if◌then◌else◌}
use Rattle.place_core.specs.page.Classes.{Class, is_equals_sign}
use Rattle.place_core.specs.page.References.{Form, Reference, Closed, Open, ReferenceStep, Grows, Closes, Breaks, turn, meaning, flushed}
use Rattle.place_core.specs.page.States.{LexState, AttributeValue}
use Rattle.place_core.specs.page.Tags.{ValueOf, ValueState, OfUrl, OfStyle}

-- the bytes that an open reference is found to be at the byte that ends it; none where it goes on
abbrev pub ended_reference : ReferenceStep → Class → Form → List ℕ → List ℕ
ended_reference (Grows g) c f bytes = []
ended_reference Closes c f bytes = encode_utf8 (meaning f bytes)
ended_reference Breaks c f bytes = flushed true (is_equals_sign c) f bytes

-- whether they are one byte that may begin such a lexeme
abbrev pub is_lexeme_start : List ℕ → Bool
is_lexeme_start bytes = bytes_eq bytes (37 ∷ []) || bytes_eq bytes (92 ∷ [])

-- where they are, the place of its `&`
abbrev pub start_in_reference : ℕ → ℕ → Reference → Class → ℕ
start_in_reference k before Closed c = before
start_in_reference k before (Open f bytes) c =
    if is_lexeme_start (ended_reference (turn c f) c f bytes) then k - (length bytes + 1) else before

-- the place of the last such byte up to the one that stands at `k`, by the one before it, or 0, and the reference that is open there
abbrev pub last_lexeme_start : ℕ → ℕ → Reference → Class → ℕ → ℕ
last_lexeme_start k before r c b = if b == 37 || b == 92 then k else start_in_reference k before r c

-- the reference that is open on a path in a URL or a style; elsewhere none
abbrev pub language_reference : LexState ValueState → Reference
language_reference (AttributeValue q t (ValueOf (OfUrl u)) r) = r
language_reference (AttributeValue q t (ValueOf (OfStyle s)) r) = r
language_reference s = Closed
