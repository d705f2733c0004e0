-- A byte that a place in a style refuses is refused on paths that are at it: outside URLs.
use Rattle.std.proofs.Common.{◌≡◌, ℕ, Bool, true, false, Some, refl, sym, ap, ◌∙◌, subst}
use Rattle.css_lexer.specs.Escapes.{StyleEscape}
use Rattle.css_lexer.specs.RefusalCodes.{RefusalCode, SplitToken}
use Rattle.css_lexer.specs.Refusals.{split_if}
use Rattle.css_lexer.specs.States.{Style}
use Rattle.css_lexer.specs.declared.class.StyleClass.{StyleClass}
use Rattle.css_lexer.specs.declared.class.StyleClass.TheVariants as class
use Rattle.place_core.proofs.Semilattices.{none_some}
use Rattle.place_core.specs.declared.css_tails.CssTails.{CssTails}
use Rattle.place_core.specs.declared.member.Member.{Member}
use Rattle.place_core.specs.declared.member.Member.TheVariants as member
use Rattle.url_lexer.specs.States.{Url}
use Rattle.css_step.specs.StyleOrigins.{style_scan_has, StyleEvidence, style_on_one}
use Rattle.css_step.specs.StyleScans.{StyleScan, ScanCode, ScanSplitEscape, ScanStarBefore, style_scan_error, style_tails_error}
use Rattle.css_step.specs.StyleSetLaws.{StyleScanBelow}
use Rattle.css_step.proofs.OneStylePath.{one-style}
use Rattle.css_step.proofs.StyleCases.{below-cases, PathScan, path-scan}
use Rattle.css_step.proofs.StyleOrigins.{bears-alone}

no : false ≡ true → ⊥
no e = cc

-- Refused on whatever path bears a member, over scans.
pub shown-by : (n : StyleScan) (c : StyleClass) (b : ℕ) (e : RefusalCode) (x : Member) → style_scan_has n x ≡ true
    → ((v : Style Url) (k : StyleScan) → StyleScanBelow k n → PathScan v k → style_scan_has k x ≡ true → style_scan_error k c b ≡ Some e) → StyleEvidence n c b e
shown-by n c b e x h f =
    style_on_one x h
    (λ v i j. sym ((one-style v i.alone i.is_alone).error c b) ∙ f v i.alone i.below (path-scan v i.alone i.is_alone) (bears-alone n v x i j))

pub only-shown : (n : StyleScan) (c : StyleClass) (b : ℕ) (e : RefusalCode) → ((k : StyleScan) → StyleScanBelow k n → n ≡ k) → style_scan_error n c b ≡ Some e → StyleEvidence n c b e
only-shown n c b e only h = shown-by n c b e member.Whole refl (λ v k i p j. subst (λ (z : StyleScan). style_scan_error z c b ≡ Some e) (only k i) h)

-- in code, and behind what some path has from before the text
split-some : (y : Bool) (e : RefusalCode) → split_if y ≡ Some e → (y ≡ true) × (Some SplitToken ≡ Some e)
split-some true e h = (refl, h)
split-some false e h = absurd (none_some e h)

pub code-shown : (x : CssTails) (c : StyleClass) (b : ℕ) (e : RefusalCode) → style_tails_error x c ≡ Some e → StyleEvidence (ScanCode x) c b e
code-shown x class.Asterisk b e h =
    let s = split-some x.slash e h in
    shown-by (ScanCode x) class.Asterisk b e member.CssSlash s.0
    (λ v k i p. below-cases (λ (k : StyleScan). style_scan_has k member.CssSlash ≡ true → style_scan_error k class.Asterisk b ≡ Some e) k _ i
    (λ z j k. ap split_if k ∙ s.1, λ w j k. absurd (no k)))
code-shown x class.Solidus b e h =
    let s = split-some x.lt e h in
    shown-by (ScanCode x) class.Solidus b e member.CssLt s.0
    (λ v k i p. below-cases (λ (k : StyleScan). style_scan_has k member.CssLt ≡ true → style_scan_error k class.Solidus b ≡ Some e) k _ i
    (λ z j k. ap split_if k ∙ s.1, λ w j k. absurd (no k)))
code-shown x class.LeftParenthesis b e h =
    let s = split-some x.word e h in
    shown-by (ScanCode x) class.LeftParenthesis b e member.CssWord s.0
    (λ v k i p. below-cases (λ (k : StyleScan). style_scan_has k member.CssWord ≡ true → style_scan_error k class.LeftParenthesis b ≡ Some e) k _ i
    (λ z j k. ap split_if k ∙ s.1, λ w j k. absurd (no k)))
code-shown x _ b e h = absurd (none_some e h)

pub split-shown : (z : StyleEscape) (c : StyleClass) (b : ℕ) (e : RefusalCode) → style_scan_error (ScanSplitEscape z) c b ≡ Some e → StyleEvidence (ScanSplitEscape z) c b e
split-shown z c b e h =
    shown-by (ScanSplitEscape z) c b e member.CssWord refl
    (λ v k i p. below-cases (λ (k : StyleScan). style_scan_has k member.CssWord ≡ true → style_scan_error k c b ≡ Some e) k _ i (λ j. h, λ w j k. absurd (no k)))

pub star-shown : (c : StyleClass) (b : ℕ) (e : RefusalCode) → style_scan_error ScanStarBefore c b ≡ Some e → StyleEvidence ScanStarBefore c b e
star-shown c b e h =
    shown-by ScanStarBefore c b e member.CssStar refl
    (λ v k i p. below-cases (λ (k : StyleScan). style_scan_has k member.CssStar ≡ true → style_scan_error k c b ≡ Some e) k _ i (λ j. h, λ j. absurd (no j)))
