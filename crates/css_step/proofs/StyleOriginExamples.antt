-- Worked examples of what a scan keeps as a set; and what is not so of the paths that come to a place in a style.
use Rattle.std.proofs.Common.{◌≡◌, ℕ, Bool, true, false, ◌||◌, ◌&&◌, None, refl, sym, ap, ◌∙◌, subst}
use Rattle.css_lexer.specs.Escapes.{NoEscape, HexDigits}
use Rattle.css_lexer.specs.States.{UrlWord, Between, BehindHole, SolidusAtCut, SplitWord, SpellsUrl, Style, Out}
use Rattle.css_lexer.specs.declared.class.StyleClass.{StyleClass}
use Rattle.css_lexer.specs.declared.class.StyleClass.TheVariants as class
use Rattle.place_core.specs.declared.css.Css.TheVariants as css
use Rattle.place_core.specs.declared.css_tails.CssTails.{CssTails}
use Rattle.place_core.specs.place.LanguagePlaces.{both_css_tails}
use Rattle.place_core.specs.declared.member.Member.TheVariants as member
use Rattle.url_lexer.specs.States.{Url}
use Rattle.css_step.specs.StyleOrigins.{IsStyleUnder, StylePathOrigin, style_scan_has, style_scan_after_hole}
use Rattle.css_step.specs.StyleScans.{StyleScan, ScanCode, ScanWord, ScanSplitEscape, style_between, style_code_next, style_scan_start, style_scan_next, style_scan_error}
use Rattle.css_step.specs.StyleScanLaws.{scans_between, scans_behind_hole, scans_solidus_before, scans_split_word}
use Rattle.css_step.specs.StyleSetLaws.{StyleScanBelow, below_itself, below_tails, HasStyle}
use Rattle.place_core.specs.place.StyleParts.{style_tails}
use Rattle.css_step.proofs.StyleCases.{below-cases, PathScan, path-scan}

no : true ≡ false → ⊥
no e = cc

one-code : (x y : CssTails) → ScanCode x ≡ ScanCode y → x ≡ y
one-code x y e = cc

-- A word from before the text is a member as long as it goes on, in its escapes too; one of this text is none. A `*` of a comment is one at the
-- beginning of a text alone.
word_from_before : style_scan_has (ScanSplitEscape (HexDigits 2)) member.CssWord ≡ true
word_from_before = refl

word_of_this_text : style_scan_has (ScanWord SpellsUrl NoEscape) member.CssWord ≡ false
word_of_this_text = refl

star_before : style_scan_has (style_scan_start (css.Comment true)) member.CssStar ≡ true
star_before = refl

star_of_this_text : style_scan_has (style_scan_next (style_scan_start (css.Comment true)) class.Asterisk 42) member.CssStar ≡ false
star_of_this_text = refl

-- It is not so that each path behind a byte is the very one that some path before it comes to: behind `u`, where some path has a word before it, the
-- place stands for a path between tokens, and no path is there.
abbrev ComesExactly : Type 0
ComesExactly = (n : StyleScan) (c : StyleClass) (b : ℕ) (v w : Style Url) → style_scan_error n c b ≡ None → HasStyle n v → (h : HasStyle (style_scan_next n c b) w)
    → (o : Style Url) × (k : HasStyle n o) × (style_scan_next k.alone c b ≡ h.alone)

behind-u : (word : Bool) → style_code_next word class.WordByte 117 ≡ style_between → ⊥
behind-u true e = no (ap (λ (z : CssTails). z.word) (one-code (style_tails true false false) (style_tails false false false) e))
behind-u false e = cc

behind-word : (w : UrlWord) → style_scan_next (ScanWord w NoEscape) class.WordByte 117 ≡ style_between → ⊥
behind-word w e = cc

none-comes : (k : StyleScan) → StyleScanBelow k (ScanCode (style_tails true false false)) → style_scan_next k class.WordByte 117 ≡ style_between → ⊥
none-comes k h =
    below-cases (λ (z : StyleScan). style_scan_next z class.WordByte 117 ≡ style_between → ⊥) k (ScanCode (style_tails true false false)) h
    (λ z j e. behind-u z.word e, λ w j e. behind-word w e)

not_exactly : ComesExactly → ⊥
not_exactly f =
    let o = f (ScanCode (style_tails true false false)) class.WordByte 117 (Out (SplitWord NoEscape)) (Out (Between false)) refl
    (record { alone = ScanCode (style_tails true false false); is_alone = scans_split_word NoEscape; below = below_itself _ })
    (record { alone = style_between; is_alone = scans_between false; below = below_tails _ _ refl })
    in
    none-comes o.1.alone o.1.below o.2

-- Nor is it so that each path behind a hole is among those that one path comes to: before it paths ended in a `/` and in a `<`, and a path behind it
-- that ended in both comes from neither.
abbrev ComesFromOne : Type 0
ComesFromOne = (n : StyleScan) (v w : Style Url) → HasStyle n v → (h : HasStyle (style_scan_after_hole n) w)
    → StylePathOrigin n style_scan_after_hole IsStyleUnder h.alone

word-code : (w : UrlWord) (y : CssTails) → ScanWord w NoEscape ≡ ScanCode y → ⊥
word-code w y e = cc

and-true : (x y : Bool) → true ≡ x → true ≡ y → (x && y) ≡ true
and-true true true h k = refl
and-true false y h k = absurd (no h)
and-true true false h k = absurd (no k)

not-true : (y : Bool) → (y || false) ≡ false → y ≡ false
not-true true e = e
not-true false e = refl

has-both : (x : CssTails) → both_css_tails (style_tails true true true) x ≡ x → (x.slash && x.lt) ≡ true
has-both x j = and-true x.slash x.lt (ap (λ (z : CssTails). z.slash) j) (ap (λ (z : CssTails). z.lt) j)

above-both : (x : CssTails) → StyleScanBelow (ScanCode (style_tails true true true)) (ScanCode x) → (x.slash && x.lt) ≡ true
above-both x h =
    below-cases (λ (k : StyleScan). k ≡ ScanCode (style_tails true true true) → (x.slash && x.lt) ≡ true) (ScanCode (style_tails true true true)) (ScanCode x) h
    (λ z j e. has-both x (subst (λ (y : CssTails). both_css_tails y x ≡ x) (one-code z (style_tails true true true) e) j), λ w j e. absurd (word-code w _ e)) refl

none-has-both : (v : Style Url) (k : StyleScan) → PathScan v k → StyleScanBelow k (ScanCode (style_tails false true true))
    → IsStyleUnder (style_scan_after_hole k) (ScanCode (style_tails true true true)) → ⊥
none-has-both v k p h =
    below-cases (λ (k : StyleScan). PathScan v k → IsStyleUnder (style_scan_after_hole k) (ScanCode (style_tails true true true)) → ⊥)
    k (ScanCode (style_tails false true true)) h (
      λ z j p i.
          no (sym (above-both (style_tails true z.slash z.lt) i)
          ∙ p (not-true z.word (ap (λ (x : CssTails). x.word) j))),
      λ w j. absurd (no (sym (ap (λ (x : CssTails). x.word) j))),
    )
    p

not_from_one : ComesFromOne → ⊥
not_from_one f =
    let o = f (ScanCode (style_tails false true true)) (Out (SolidusAtCut false)) (Out (BehindHole true true))
    (record { alone = ScanCode (style_tails false true false); is_alone = scans_solidus_before false; below = below_tails _ _ refl })
    (record { alone = ScanCode (style_tails true true true); is_alone = scans_behind_hole true true; below = below_itself _ })
    in
    none-has-both o.path o.has.alone (path-scan o.path o.has.alone o.has.is_alone) o.has.below o.leads
