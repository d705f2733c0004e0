-- A URL whole, as the path of a template and as a page of it, and what scheme the page has.
use Rattle.std.specs.Prelude.{⊤, ◌≡◌, ℕ, Bool, true, false, List, [], ◌∷◌, ◌++◌, Option, Some, None}
use Rattle.url_lexer.specs.Events.{ToldScheme, told_scheme}
use Rattle.url_lexer.specs.Holes.{url_after_cut, url_after_hole, url_behind, url_settled}
use Rattle.url_lexer.specs.Plain.{IsPlainInUrl}
use Rattle.url_lexer.specs.Refusals.{url_refuses, url_refuses_cut, url_refuses_hole}
use Rattle.url_lexer.specs.SchemeOf.{scheme_of, told_name}
use Rattle.url_lexer.specs.Schemes.{is_safe_scheme}
use Rattle.url_lexer.specs.States.{Url, url_start, feed_url, feed_all}

-- a piece: the text of a node, or a hole with the bytes of its value
pub data UrlPiece : Type 0 where
  TextPiece : List ℕ → UrlPiece
  HolePiece : List ℕ → UrlPiece

abbrev pub bytes_of : List UrlPiece → List ℕ
bytes_of [] = []
bytes_of (TextPiece bytes ∷ pieces) = bytes ++ bytes_of pieces
bytes_of (HolePiece bytes ∷ pieces) = bytes ++ bytes_of pieces

-- the path, which does not look at the values
abbrev pub path_over : Url → List UrlPiece → Url
path_over u [] = u
path_over u (TextPiece bytes ∷ pieces) = path_over (url_after_cut (feed_all u bytes)) pieces
path_over u (HolePiece bytes ∷ pieces) = path_over (url_after_hole u) pieces

-- the page
abbrev pub page_over : Url → List UrlPiece → Url
page_over u [] = u
page_over u (TextPiece bytes ∷ pieces) = page_over (feed_all u bytes) pieces
page_over u (HolePiece bytes ∷ pieces) = page_over (url_behind (url_settled u) (feed_all (url_settled u) bytes)) pieces

-- The path refuses nothing.
abbrev pub UrlPiecesAccepted : Url → List ℕ → Type 0
UrlPiecesAccepted u [] = ⊤
UrlPiecesAccepted u (b ∷ bs) = (url_refuses u b ≡ None) × UrlPiecesAccepted (feed_url u b) bs

-- The end of a node's text, where more of the URL follows it. The last text ends no node inside the URL: the URL may end before its node does, and a
-- percent triple that has begun there is not refused.
abbrev pub IsCutAccepted : Url → List UrlPiece → Type 0
IsCutAccepted u [] = ⊤
IsCutAccepted u (piece ∷ pieces) = url_refuses_cut u ≡ None

abbrev pub IsAccepted : Url → List UrlPiece → Type 0
IsAccepted u [] = ⊤
IsAccepted u (TextPiece bytes ∷ pieces) = UrlPiecesAccepted u bytes × IsCutAccepted (feed_all u bytes) pieces × IsAccepted (url_after_cut (feed_all u bytes)) pieces
IsAccepted u (HolePiece bytes ∷ pieces) = (url_refuses_hole u ≡ None) × IsAccepted (url_after_hole u) pieces

-- Each value is plain where the page has come.
abbrev pub UrlPiecesPlain : Url → List UrlPiece → Type 0
UrlPiecesPlain u [] = ⊤
UrlPiecesPlain u (TextPiece bytes ∷ pieces) = UrlPiecesPlain (feed_all u bytes) pieces
UrlPiecesPlain u (HolePiece bytes ∷ pieces) = IsPlainInUrl bytes u × UrlPiecesPlain (url_behind (url_settled u) (feed_all (url_settled u) bytes)) pieces

-- none, or one that data may choose
abbrev pub IsNoneOrSafe : Option (List ℕ) → Type 0
IsNoneOrSafe None = ⊤
IsNoneOrSafe (Some name) = is_safe_scheme name ≡ true

-- The scheme of all bytes of the page: where a hole is the first of the URL, it is none, or one that data may choose; else it is the one that the
-- texts of the path have, whatever the values.
abbrev pub HasSchemeOf : Bool → ToldScheme → Option (List ℕ) → Type 0
HasSchemeOf true told name = IsNoneOrSafe name
HasSchemeOf false told name = told_name name ≡ told

abbrev pub PagesHaveSchemes : Type 0
PagesHaveSchemes = (pieces : List UrlPiece) → IsAccepted url_start pieces → UrlPiecesPlain url_start pieces
    → HasSchemeOf (path_over url_start pieces).free (told_scheme (path_over url_start pieces).free (path_over url_start pieces).scheme) (scheme_of (bytes_of pieces))
