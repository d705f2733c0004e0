-- Every page that an accepted path gives, whatever the values, has the scheme of the path's texts, or one that data may choose.
use Rattle.std.proofs.Common.{◌≡◌, ℕ, List, [], ◌∷◌, refl, sym, subst}
use Rattle.url_lexer.specs.Alike.{UrlsAlike}
use Rattle.url_lexer.specs.Holes.{url_after_cut, url_after_hole, url_behind, url_settled}
use Rattle.url_lexer.specs.Pages.{UrlPiece, TextPiece, HolePiece, IsAccepted, UrlPiecesPlain}
use Rattle.url_lexer.specs.Plain.{IsPlainInUrl}
use Rattle.url_lexer.specs.States.{Url, url_start, feed_all}
use Rattle.url_lexer.specs.Triples.{NoTriple}
use Rattle.url_lexer.specs.WrittenPages.{AreWritten, WrittenPagesHaveSchemes}
use Rattle.url_lexer.proofs.Language.{language-laws}
use Rattle.url_lexer.proofs.WholePages.{bytes-alike, pages-have}
use Rattle.url_lexer.proofs.WrittenBytes.{written-plain}

all-plain : (pieces : List UrlPiece) (v w : Url) → v.triple ≡ NoTriple → UrlsAlike v w → IsAccepted v pieces → AreWritten v pieces → UrlPiecesPlain w pieces
all-plain [] v w n a t x = tt
all-plain (TextPiece bs ∷ []) v w n a t x = tt
all-plain (TextPiece bs ∷ q ∷ ps) v w n a t x =
    all-plain (q ∷ ps) (url_after_cut (feed_all v bs)) (feed_all w bs) refl
    (language-laws.after_cut (feed_all v bs) (feed_all w bs) (bytes-alike bs v w a t.0) t.1) t.2 x
all-plain (HolePiece bs ∷ ps) v w n a t x =
    let p : IsPlainInUrl bs w = subst (λ (z : List ℕ). IsPlainInUrl z w) (sym x.0.is) (written-plain v w x.0.text x.0.are_bytes a n t.0) in
    (p, all-plain ps (url_after_hole v) (url_behind (url_settled w) (feed_all (url_settled w) bs)) refl (language-laws.hole v w (feed_all (url_settled w) bs) a p.leads) t.1 x.1)

pub written-pages : WrittenPagesHaveSchemes
written-pages pieces t x = pages-have pieces t (all-plain pieces url_start url_start refl language-laws.begins t x)
