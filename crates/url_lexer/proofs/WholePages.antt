-- What scheme a whole page has.
use Rattle.std.proofs.Common.{◌≡◌, ℕ, Bool, true, List, [], ◌∷◌, ◌++◌, Option, Some, None, refl, sym, ap, ◌∙◌, subst}
use Rattle.url_lexer.specs.Alike.{UrlsAlike, SchemesAlike, at_start, in_beginning, behind_letters, behind_slash, behind_first, decided, decided_by_data}
use Rattle.url_lexer.specs.Events.{scheme_at_end, told_scheme}
use Rattle.url_lexer.specs.Holes.{url_after_cut, url_after_hole, url_behind, url_settled}
use Rattle.url_lexer.specs.Pages.{UrlPiece, TextPiece, HolePiece, bytes_of, path_over, page_over, UrlPiecesAccepted, IsAccepted, UrlPiecesPlain, IsNoneOrSafe, HasSchemeOf, PagesHaveSchemes}
use Rattle.url_lexer.specs.Parts.{UrlPart}
use Rattle.url_lexer.specs.Plain.{IsHarmless}
use Rattle.url_lexer.specs.SchemeOf.{scheme_of, told_name}
use Rattle.url_lexer.specs.Schemes.{UrlScheme, SchemeAhead, SchemeSoFar, SchemeIs, SchemeAbsent, SchemeUnknown, is_safe_scheme}
use Rattle.url_lexer.specs.States.{Url, url_start, feed_url, feed_all}
use Rattle.url_lexer.proofs.Language.{language-laws}
use Rattle.url_lexer.proofs.Reading.{scheme_over, fed-scheme, scheme-append, reads-first}

pub bytes-alike : (bs : List ℕ) (v w : Url) → UrlsAlike v w → UrlPiecesAccepted v bs → UrlsAlike (feed_all v bs) (feed_all w bs)
bytes-alike [] v w a t = a
bytes-alike (b ∷ bs) v w a t = bytes-alike bs (feed_url v b) (feed_url w b) (language-laws.feeds v w b a t.0) t.1

-- The last text may end in a percent triple that is open on the page, and no longer on the path; the schemes are alike all the same.
abbrev EndsAlike : Url → Url → Type 0
EndsAlike v w = SchemesAlike v.part v.free v.scheme w.scheme

pages-alike : (pieces : List UrlPiece) (v w : Url) → UrlsAlike v w → IsAccepted v pieces → UrlPiecesPlain w pieces → EndsAlike (path_over v pieces) (page_over w pieces)
pages-alike [] v w a t p = a.schemes
pages-alike (TextPiece bs ∷ []) v w a t p = (bytes-alike bs v w a t.0).schemes
pages-alike (TextPiece bs ∷ q ∷ ps) v w a t p =
    pages-alike (q ∷ ps) (url_after_cut (feed_all v bs)) (feed_all w bs)
    (language-laws.after_cut (feed_all v bs) (feed_all w bs) (bytes-alike bs v w a t.0) t.1) t.2 p
pages-alike (HolePiece bs ∷ ps) v w a t p =
    pages-alike ps (url_after_hole v) (url_behind (url_settled w) (feed_all (url_settled w) bs)) (language-laws.hole v w (feed_all (url_settled w) bs) a p.0.leads) t.1 p.1

-- the scheme of a page is that of its bytes, whatever the holes
past-piece : (w : Url) (bs rest : List ℕ) → scheme_over (feed_all w bs).scheme rest ≡ scheme_over w.scheme (bs ++ rest)
past-piece w bs rest = ap (λ (s : UrlScheme). scheme_over s rest) (fed-scheme w bs) ∙ sym (scheme-append w.scheme bs rest)

page-scheme : (pieces : List UrlPiece) (w : Url) → (page_over w pieces).scheme ≡ scheme_over w.scheme (bytes_of pieces)
page-scheme [] w = refl
page-scheme (TextPiece bs ∷ ps) w = page-scheme ps (feed_all w bs) ∙ past-piece w bs (bytes_of ps)
page-scheme (HolePiece bs ∷ ps) w = page-scheme ps (url_behind (url_settled w) (feed_all (url_settled w) bs)) ∙ past-piece w bs (bytes_of ps)

harmless-name : (s : UrlScheme) (name : Option (List ℕ)) → IsHarmless s → told_name name ≡ scheme_at_end s → IsNoneOrSafe name
harmless-name s None h e = tt
harmless-name SchemeAhead (Some n) h e = cc
harmless-name (SchemeSoFar l) (Some n) h e = cc
harmless-name SchemeAbsent (Some n) h e = cc
harmless-name SchemeUnknown (Some n) h e = absurd h
harmless-name (SchemeIs l) (Some n) h e = let same : n ≡ l = cc in subst (λ (m : List ℕ). is_safe_scheme m ≡ true) (sym same) h

alike-name : (p : UrlPart) (f : Bool) (s r : UrlScheme) (name : Option (List ℕ)) → SchemesAlike p f s r → told_name name ≡ scheme_at_end r → HasSchemeOf f (told_scheme f s) name
alike-name p f s r name at_start e = e
alike-name p f s r name (in_beginning q l) e = e
alike-name p f s r name (behind_letters l) e = e
alike-name p f s r name behind_slash e = e
alike-name p f s r name (behind_first t h) e = harmless-name t name h e
alike-name p f s r name (decided q t g h) e = e
alike-name p f s r name (decided_by_data q t g h k) e = harmless-name t name k e

pub pages-have : PagesHaveSchemes
pages-have pieces t p =
    let v = path_over url_start pieces in
    let w = page_over url_start pieces in
    let a = pages-alike pieces url_start url_start language-laws.begins t p in
    alike-name v.part v.free v.scheme w.scheme (scheme_of (bytes_of pieces)) a
    (sym (reads-first (bytes_of pieces)) ∙ ap scheme_at_end (sym (page-scheme pieces url_start)))
