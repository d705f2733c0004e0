-- Behind a byte, each path among those for which a scan stands is that scan, but for a word from before the text and the prefixes of URLs.
use Rattle.std.proofs.Common.{◌≡◌, ℕ, Bool, true, false, ◌||◌, refl, sym, ap, subst}
use Rattle.std.specs.Bool.{⊤}
use Rattle.css_lexer.specs.Escapes.{StyleEscape, NoEscape, AfterBackslash, behind_taken, behind_taken_in_string, behind_byte}
use Rattle.css_lexer.specs.States.{Quote, DoubleQuote, SingleQuote, UrlWord, SpellsUrl, SpellsOther, Style}
use Rattle.css_lexer.specs.Steps.{first_letter, next_letter}
use Rattle.css_lexer.specs.declared.class.StyleClass.{StyleClass}
use Rattle.css_lexer.specs.declared.class.StyleClass.TheVariants as class
use Rattle.place_core.specs.declared.css_tails.CssTails.{CssTails}
use Rattle.place_core.specs.place.LanguagePlaces.{both_css_tails}
use Rattle.url_lexer.specs.States.{Url}
use Rattle.css_step.specs.StyleOrigins.{IsStyleBehind, behind_itself, behind_split_word}
use Rattle.css_step.specs.StyleScans.{StyleScan, ScanCode, ScanWord, ScanSplitEscape, ScanSolidus, ScanLessThan, ScanComment, ScanStarBefore, ScanString, ScanFresh, ScanBareUrl, ScanQuotedUrl, ScanEnded, style_between, style_split_word, style_between_next, style_split_next, style_code_next, style_word_next, style_solidus_next, style_comment_next, style_string_next, style_ended_next}
use Rattle.css_step.specs.StyleSetLaws.{StyleScanBelow}
use Rattle.place_core.specs.place.StyleParts.{style_tails}
use Rattle.css_step.proofs.StyleCases.{BelowCases, below-cases, PathScan}

no : true ≡ false → ⊥
no e = cc

not-true : (y : Bool) → (y || false) ≡ false → y ≡ false
not-true true e = e
not-true false e = refl

abbrev pub IsTight : StyleScan → Type 0
IsTight m = (w : Style Url) (a : StyleScan) → StyleScanBelow a m → PathScan w a → IsStyleBehind m m a

-- where there is only the scan itself below
abbrev HasOnlyItself : StyleScan → Type 0
HasOnlyItself (ScanCode x) = ⊥
HasOnlyItself (ScanSplitEscape e) = ⊥
HasOnlyItself ScanStarBefore = ⊥
HasOnlyItself (ScanBareUrl s t) = ⊥
HasOnlyItself (ScanQuotedUrl q e s t) = ⊥
HasOnlyItself n = ⊤

only-itself : (n : StyleScan) → HasOnlyItself n → BelowCases n (IsStyleBehind n n)
only-itself (ScanCode x) i = absurd i
only-itself (ScanSplitEscape e) i = absurd i
only-itself ScanStarBefore i = absurd i
only-itself (ScanBareUrl s t) i = absurd i
only-itself (ScanQuotedUrl q e s t) i = absurd i
only-itself n i = behind_itself n n

pub tight : (n : StyleScan) → HasOnlyItself n → IsTight n
tight n i w a h p = below-cases (IsStyleBehind n n) a n h (only-itself n i)

tails-false : (w s l : Bool) → w ≡ false → s ≡ false → l ≡ false → style_tails w s l ≡ style_tails false false false
tails-false false false false h i j = refl
tails-false true s l h i j = absurd (no h)
tails-false false true l h i j = absurd (no i)
tails-false false false true h i j = absurd (no j)

none-below : (z : CssTails) → both_css_tails z (style_tails false false false) ≡ style_tails false false false → z ≡ style_tails false false false
none-below z j =
    tails-false z.word z.slash z.lt (not-true z.word (ap (λ (x : CssTails). x.word) j)) (not-true z.slash (ap (λ (x : CssTails). x.slash) j)) (not-true z.lt (ap (λ (x : CssTails). x.lt) j))

pub tight-between : IsTight style_between
tight-between w a h p =
    below-cases (IsStyleBehind style_between style_between) a style_between h (
      λ z j. subst (λ (x : CssTails). IsStyleBehind style_between style_between (ScanCode x)) (sym (none-below z j)) (behind_itself style_between style_between),
      λ w j. absurd (no (sym (ap (λ (x : CssTails). x.word) j))),
    )

tight-split-word : (e : StyleEscape) → IsTight (style_split_word e)
tight-split-word e w a h p = behind_split_word e a h

pub tight-between-next : (c : StyleClass) (b : ℕ) → IsTight (style_between_next c b)
tight-between-next class.WordByte b = tight (ScanWord (first_letter b) NoEscape) tt
tight-between-next class.ReverseSolidus b = tight (ScanWord SpellsOther AfterBackslash) tt
tight-between-next class.QuotationMark b = tight (ScanString DoubleQuote NoEscape) tt
tight-between-next class.Apostrophe b = tight (ScanString SingleQuote NoEscape) tt
tight-between-next class.Solidus b = tight ScanSolidus tt
tight-between-next class.LessThan b = tight ScanLessThan tt
tight-between-next _ b = tight-between

pub tight-split-next : (e : StyleEscape) (c : StyleClass) (b : ℕ) → IsTight (style_split_next e c b)
tight-split-next AfterBackslash c b = tight-split-word (behind_taken b)
tight-split-next e class.WordByte b = tight-split-word (behind_byte e b)
tight-split-next e class.ReverseSolidus b = tight-split-word AfterBackslash
tight-split-next e c b = tight-between-next c b

pub tight-code : (word : Bool) (c : StyleClass) (b : ℕ) → IsTight (style_code_next word c b)
tight-code true c b = tight-split-next NoEscape c b
tight-code false c b = tight-between-next c b

pub tight-word : (x : UrlWord) (e : StyleEscape) (c : StyleClass) (b : ℕ) → IsTight (style_word_next x e c b)
tight-word x AfterBackslash c b = tight (ScanWord SpellsOther (behind_taken b)) tt
tight-word x e class.WordByte b = tight (ScanWord (next_letter x b) (behind_byte e b)) tt
tight-word x e class.ReverseSolidus b = tight (ScanWord SpellsOther AfterBackslash) tt
tight-word SpellsUrl e class.LeftParenthesis b = tight ScanFresh tt
tight-word x e c b = tight-between-next c b

pub tight-solidus : (c : StyleClass) (b : ℕ) → IsTight (style_solidus_next c b)
tight-solidus class.Asterisk b = tight (ScanComment false) tt
tight-solidus c b = tight-between-next c b

pub tight-comment : (star : Bool) (c : StyleClass) → IsTight (style_comment_next star c)
tight-comment true class.Solidus = tight-between
tight-comment star class.Asterisk = tight (ScanComment true) tt
tight-comment star c = tight (ScanComment false) tt

pub tight-string : (taken : Bool) (q : Quote) (e : StyleEscape) (c : StyleClass) (b : ℕ) → IsTight (style_string_next taken q e c b)
tight-string true q e c b = tight (ScanString q (behind_taken_in_string e b)) tt
tight-string false DoubleQuote e class.QuotationMark b = tight-between
tight-string false SingleQuote e class.Apostrophe b = tight-between
tight-string false q e class.ReverseSolidus b = tight (ScanString q AfterBackslash) tt
tight-string false q e c b = tight (ScanString q (behind_byte e b)) tt

pub tight-ended : (c : StyleClass) → IsTight (style_ended_next c)
tight-ended class.RightParenthesis = tight-between
tight-ended _ = tight ScanEnded tt
