-- What a reference that no semicolon ends is in the value of an attribute: a character, or text as it stands.
use Rattle.std.specs.Prelude.{◌≡◌, ℕ, Bool, true, List, ◌∷◌, Option, Some, None, encode_utf8}
use Rattle.place_core.specs.page.References.{Form, flushed}

abbrev pub BreaksTo : Bool → Form → List ℕ → Option ℕ → Type 0
BreaksTo equals f bytes None = flushed true equals f bytes ≡ 38 ∷ bytes
BreaksTo equals f bytes (Some code) = flushed true equals f bytes ≡ encode_utf8 code
