-- What each sanitizer promises of its bytes in a part of a URL: they are plain there, and read back.
use Rattle.std.specs.Prelude.{◌≡◌, List, ℕ}
use Rattle.url_lexer.specs.Alike.{UrlsAlike}
use Rattle.url_lexer.specs.Back.{ReadsBack}
use Rattle.url_lexer.specs.Parts.{UrlPart}
use Rattle.url_lexer.specs.Plain.{IsPlainInUrl}
use Rattle.url_lexer.specs.States.{Url}
use Rattle.url_lexer.specs.Triples.{NoTriple}

-- A path, at `v`, has come in this part and is not inside a percent triple. The bytes are plain in every state `w` of a page that is alike, and read
-- back as the text.
pub record IsBackInPart (p : UrlPart) (text bytes : List ℕ) : Type 0 where
  pub plain : (v w : Url) → v.part ≡ p → UrlsAlike v w → v.triple ≡ NoTriple → IsPlainInUrl bytes w
  pub reads : ReadsBack p text bytes
