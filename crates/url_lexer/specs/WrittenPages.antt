-- The scheme of every page that an accepted path gives, whatever the values.
use Rattle.std.specs.Prelude.{⊤, ◌≡◌, ℕ, List, [], ◌∷◌}
use Rattle.url_lexer.specs.Events.{told_scheme}
use Rattle.url_lexer.specs.Holes.{url_after_cut, url_after_hole}
use Rattle.url_lexer.specs.Pages.{UrlPiece, TextPiece, HolePiece, bytes_of, path_over, IsAccepted, HasSchemeOf}
use Rattle.url_lexer.specs.Parts.{UrlPart}
use Rattle.url_lexer.specs.Sanitizers.{written_in}
use Rattle.url_lexer.specs.SchemeOf.{scheme_of}
use Rattle.url_lexer.specs.States.{Url, url_start, feed_all}
use Rattle.url_lexer.specs.Written.{AreBytes}

-- the bytes of a hole are what the sanitizers of its part write for some value
pub record IsWritten (p : UrlPart) (bytes : List ℕ) : Type 0 where
  pub text : List ℕ
  pub are_bytes : AreBytes text
  pub is : bytes ≡ written_in p text

abbrev pub AreWritten : Url → List UrlPiece → Type 0
AreWritten u [] = ⊤
AreWritten u (TextPiece bytes ∷ pieces) = AreWritten (url_after_cut (feed_all u bytes)) pieces
AreWritten u (HolePiece bytes ∷ pieces) = IsWritten u.part bytes × AreWritten (url_after_hole u) pieces

abbrev pub WrittenPagesHaveSchemes : Type 0
WrittenPagesHaveSchemes = (pieces : List UrlPiece) → IsAccepted url_start pieces → AreWritten url_start pieces
    → HasSchemeOf (path_over url_start pieces).free (told_scheme (path_over url_start pieces).free (path_over url_start pieces).scheme) (scheme_of (bytes_of pieces))
