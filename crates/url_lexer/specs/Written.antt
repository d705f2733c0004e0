-- What is written for a value in a URL is plain in its place, and reads back.
use Rattle.std.specs.Prelude.{⊤, ◌≡◌, ℕ, nat_lt, true, List, [], ◌∷◌, None}
use Rattle.url_lexer.specs.Alike.{UrlsAlike}
use Rattle.url_lexer.specs.Back.{ReadsBack}
use Rattle.url_lexer.specs.Parts.{UrlPart}
use Rattle.url_lexer.specs.Plain.{IsPlainInUrl}
use Rattle.url_lexer.specs.Refusals.{url_refuses_hole, refuses_hole_in}
use Rattle.url_lexer.specs.Sanitizers.{written_in}
use Rattle.url_lexer.specs.States.{Url}
use Rattle.url_lexer.specs.Triples.{NoTriple}

abbrev pub AreBytes : List ℕ → Type 0
AreBytes [] = ⊤
AreBytes (b ∷ bs) = (nat_lt b 256 ≡ true) × AreBytes bs

-- The path, at `v`, accepts a hole and is not inside a percent triple; the page, at `w`, may be in any state that is alike.
abbrev pub WrittenIsPlain : Type 0
WrittenIsPlain = (v w : Url) (text : List ℕ) → AreBytes text → UrlsAlike v w → v.triple ≡ NoTriple → url_refuses_hole v ≡ None → IsPlainInUrl (written_in v.part text) w

-- in each part where a hole is accepted
abbrev pub WrittenReadsBack : Type 0
WrittenReadsBack = (p : UrlPart) (text : List ℕ) → AreBytes text → refuses_hole_in p ≡ None → ReadsBack p text (written_in p text)
