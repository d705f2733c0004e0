-- A text is in the part `bad` exactly where its scheme is code.
use Rattle.std.specs.Prelude.{◌≡◌, ◌↔◌, ℕ, true, List, Option, Some, None}
use Rattle.url_lexer.specs.Parts.{UrlBad}
use Rattle.url_lexer.specs.SchemeOf.{scheme_of}
use Rattle.url_lexer.specs.Schemes.{is_code_scheme}
use Rattle.url_lexer.specs.States.{url_start, feed_all}

abbrev pub IsCode : Option (List ℕ) → Type 0
IsCode None = ⊥
IsCode (Some name) = is_code_scheme name ≡ true

abbrev pub CodeIsBad : Type 0
CodeIsBad = (bytes : List ℕ) → ((feed_all url_start bytes).part ≡ UrlBad) ↔ IsCode (scheme_of bytes)
