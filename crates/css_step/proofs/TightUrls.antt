-- The same in URLs, and so behind each byte where no set is kept.
use Rattle.std.proofs.Common.{ℕ, true, sym, subst}
use Rattle.css_lexer.specs.Escapes.{StyleEscape, NoEscape, is_taken_in_style}
use Rattle.css_lexer.specs.States.{Quote, DoubleQuote, SingleQuote}
use Rattle.css_lexer.specs.declared.class.StyleClass.{StyleClass}
use Rattle.css_lexer.specs.declared.class.StyleClass.TheVariants as class
use Rattle.place_core.proofs.JoinParts.{parts_union}
use Rattle.place_core.specs.declared.parts.Parts.{Parts}
use Rattle.place_core.specs.place.UrlParts.{parts_of}
use Rattle.url_lexer.specs.Classes.{url_class_of}
use Rattle.url_lexer.specs.Parts.{UrlPart, UrlStart, next_part}
use Rattle.url_lexer.specs.Triples.{Triple, NoTriple, next_triple}
use Rattle.url_lexer.specs.declared.class.UrlClass.{UrlClass}
use Rattle.url_step.specs.PartSets.{PartsBelow, HasPart, parts_next}
use Rattle.url_step.proofs.OnePath.{one-next}
use Rattle.css_step.specs.StyleOrigins.{IsStyleBehind}
use Rattle.css_step.specs.StyleScans.{StyleScan, ScanCode, ScanWord, ScanSplitEscape, ScanSolidus, ScanLessThan, ScanComment, ScanStarBefore, ScanString, ScanFresh, ScanBareUrl, ScanQuotedUrl, ScanEnded, style_fresh_next, style_scan_next}
use Rattle.css_step.proofs.PathSteps.{HasNoSet}
use Rattle.css_step.proofs.StyleCases.{below-cases, PathScan}
use Rattle.css_step.proofs.StylePathOrigins.{SamePart, two-parts, has-own, part-bare, part-quoted}
use Rattle.css_step.proofs.TightScans.{IsTight, tight, tight-between, tight-between-next, tight-split-next, tight-word, tight-solidus, tight-comment, tight-string, tight-ended}

-- the parts of one path
one-part : (p q : UrlPart) → HasPart (parts_of q) p → SamePart (parts_of q) p q
one-part p q i = two-parts (parts_of q) p q i (parts_union.same (parts_of q)) (has-own (parts_of q) p i)

tight-bare : (q : UrlPart) (t : Triple) → IsTight (ScanBareUrl (parts_of q) t)
tight-bare q t w a h =
    below-cases (λ (k : StyleScan). PathScan w k → IsStyleBehind (ScanBareUrl (parts_of q) t) (ScanBareUrl (parts_of q) t) k) a _ h
    (λ r i p. subst (λ (z : Parts). IsStyleBehind (ScanBareUrl (parts_of q) t) (ScanBareUrl (parts_of q) t) (ScanBareUrl z t)) (sym p.2)
    (part-bare t (parts_of q) p.0 q (one-part p.0 q (subst (λ (z : Parts). PartsBelow z (parts_of q)) p.2 i))))

tight-quoted : (c : Quote) (e : StyleEscape) (q : UrlPart) (t : Triple) → IsTight (ScanQuotedUrl c e (parts_of q) t)
tight-quoted c e q t w a h =
    below-cases (λ (k : StyleScan). PathScan w k → IsStyleBehind (ScanQuotedUrl c e (parts_of q) t) (ScanQuotedUrl c e (parts_of q) t) k) a _ h
    (λ r i p. subst (λ (z : Parts). IsStyleBehind (ScanQuotedUrl c e (parts_of q) t) (ScanQuotedUrl c e (parts_of q) t) (ScanQuotedUrl c e z t)) (sym p.2)
    (part-quoted c e t (parts_of q) p.0 q (one-part p.0 q (subst (λ (z : Parts). PartsBelow z (parts_of q)) p.2 i))))

begun-bare : (c : UrlClass) (b : ℕ) (t : Triple) → IsTight (ScanBareUrl (parts_next (parts_of UrlStart) c b) t)
begun-bare c b t = subst (λ (z : Parts). IsTight (ScanBareUrl z t)) (sym (one-next UrlStart c b)) (tight-bare (next_part UrlStart c b) t)

tight-fresh : (c : StyleClass) (b : ℕ) → IsTight (style_fresh_next c b)
tight-fresh class.Blank b = tight ScanFresh tt
tight-fresh class.Newline b = tight ScanFresh tt
tight-fresh class.QuotationMark b = tight-quoted DoubleQuote NoEscape UrlStart NoTriple
tight-fresh class.Apostrophe b = tight-quoted SingleQuote NoEscape UrlStart NoTriple
tight-fresh class.RightParenthesis b = tight-between
tight-fresh _ b = begun-bare (url_class_of b) b (next_triple NoTriple (url_class_of b))

pub tight-next : (n : StyleScan) (c : StyleClass) (b : ℕ) → HasNoSet n → IsTight (style_scan_next n c b)
tight-next (ScanCode x) c b i = absurd i
tight-next (ScanBareUrl s t) c b i = absurd i
tight-next (ScanQuotedUrl q e s t) c b i = absurd i
tight-next (ScanWord x e) c b i = tight-word x e c b
tight-next (ScanSplitEscape e) c b i = tight-split-next e c b
tight-next ScanSolidus c b i = tight-solidus c b
tight-next ScanLessThan c b i = tight-between-next c b
tight-next (ScanComment star) c b i = tight-comment star c
tight-next ScanStarBefore c b i = tight-comment true c
tight-next (ScanString q e) c b i = tight-string (is_taken_in_style e b) q e c b
tight-next ScanFresh c b i = tight-fresh c b
tight-next ScanEnded c b i = tight-ended c
