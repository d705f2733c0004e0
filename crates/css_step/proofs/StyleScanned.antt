-- The scan state of a path, as a relation and as a function.
use Rattle.std.proofs.Common.{◌≡◌, Bool, true, false, not, ◌&&◌, Some, None, if◌then◌else◌, refl, subst, sym}
use Rattle.css_lexer.specs.PartSpots.{is_at_start, is_scheme_ahead, is_no_triple, has_read_nothing}
use Rattle.css_lexer.specs.States.{Between, AfterLessThan, Word, AfterSolidus, Comment, InString, BadUrl, BehindHole, SplitWord, SolidusAtCut, LessThanAtCut, StarAtCut, Fresh, Bare, Quoted, Ended, Style, Out, InUrl}
use Rattle.url_lexer.specs.Parts.{UrlPart, UrlStart}
use Rattle.url_lexer.specs.Schemes.{UrlScheme, SchemeAhead}
use Rattle.url_lexer.specs.States.{Url, url_at, url_start}
use Rattle.url_lexer.specs.Triples.{Triple, NoTriple}
use Rattle.css_step.specs.StyleScans.{StyleScan, ScanFresh}
use Rattle.css_step.specs.StyleScanLaws.{IsStyleScan, scans_between, scans_less_than, scans_word, scans_solidus, scans_comment, scans_string, scans_behind_hole, scans_split_word, scans_solidus_before, scans_less_than_before, scans_star_before, scans_fresh, scans_bare, scans_quoted, scans_ended, style_scanned}

pub scanned : (v : Style Url) (n : StyleScan) → IsStyleScan v n → style_scanned v ≡ Some n
scanned _ _ (scans_between k) = refl
scanned _ _ scans_less_than = refl
scanned _ _ (scans_word w e) = refl
scanned _ _ (scans_solidus k) = refl
scanned _ _ (scans_comment star) = refl
scanned _ _ (scans_string q e) = refl
scanned _ _ (scans_behind_hole s l) = refl
scanned _ _ (scans_split_word e) = refl
scanned _ _ (scans_solidus_before k) = refl
scanned _ _ scans_less_than_before = refl
scanned _ _ scans_star_before = refl
scanned _ _ scans_fresh = refl
scanned _ _ (scans_bare u) = refl
scanned _ _ (scans_quoted q e u) = refl
scanned _ _ (scans_ended u) = refl

some-same : (n m : StyleScan) → Some n ≡ Some m → n ≡ m
some-same n m e = cc

known : (v : Style Url) (m n : StyleScan) → IsStyleScan v m → Some m ≡ Some n → IsStyleScan v n
known v m n i e = subst (λ (z : StyleScan). IsStyleScan v z) (some-same m n e) i

none-known : (n : StyleScan) → None ≡ Some n → ⊥
none-known n e = cc

-- before a URL of which nothing has been read
nothing-read : (p : UrlPart) (s : UrlScheme) (f : Bool) (t : Triple) → (is_at_start p && (is_scheme_ahead s && (not f && is_no_triple t))) ≡ true → url_at p s f t ≡ url_start
nothing-read UrlStart SchemeAhead false NoTriple h = refl
nothing-read p s f t h = cc

fresh : (u : Url) (n : StyleScan) (read : Bool) → has_read_nothing u ≡ read → (if read then Some ScanFresh else None) ≡ Some n → IsStyleScan (InUrl Fresh u) n
fresh u n true h e =
    known (InUrl Fresh u) ScanFresh n (subst (λ (z : Url). IsStyleScan (InUrl Fresh z) ScanFresh) (sym (nothing-read u.part u.scheme u.free u.triple h)) scans_fresh) e
fresh u n false h e = absurd (none-known n e)

pub has-scan : (v : Style Url) (n : StyleScan) → style_scanned v ≡ Some n → IsStyleScan v n
has-scan (Out (Between k)) n e = known _ _ n (scans_between k) e
has-scan (Out AfterLessThan) n e = known _ _ n scans_less_than e
has-scan (Out (Word w z)) n e = known _ _ n (scans_word w z) e
has-scan (Out (AfterSolidus k)) n e = known _ _ n (scans_solidus k) e
has-scan (Out (Comment star)) n e = known _ _ n (scans_comment star) e
has-scan (Out (InString q z)) n e = known _ _ n (scans_string q z) e
has-scan (Out BadUrl) n e = absurd (none-known n e)
has-scan (Out (BehindHole s l)) n e = known _ _ n (scans_behind_hole s l) e
has-scan (Out (SplitWord z)) n e = known _ _ n (scans_split_word z) e
has-scan (Out (SolidusAtCut k)) n e = known _ _ n (scans_solidus_before k) e
has-scan (Out LessThanAtCut) n e = known _ _ n scans_less_than_before e
has-scan (Out StarAtCut) n e = known _ _ n scans_star_before e
has-scan (InUrl Fresh u) n e = fresh u n (has_read_nothing u) refl e
has-scan (InUrl Bare u) n e = known _ _ n (scans_bare u) e
has-scan (InUrl (Quoted q z) u) n e = known _ _ n (scans_quoted q z u) e
has-scan (InUrl Ended u) n e = known _ _ n (scans_ended u) e
