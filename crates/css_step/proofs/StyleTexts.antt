-- The members of a place in a style behind a whole text come from members of the place where it begins.
use Rattle.std.proofs.Common.{◌≡◌, ℕ, true, List, [], ◌∷◌, sym, ◌∙◌}
use Rattle.css_lexer.specs.Classes.{style_class}
use Rattle.css_lexer.specs.Paths.{style_after_cut, style_after_hole}
use Rattle.css_lexer.specs.RefusalCodes.{RefusalCode}
use Rattle.css_lexer.specs.States.{Style}
use Rattle.css_lexer.specs.Steps.{style_next}
use Rattle.css_lexer.specs.Urls.{urls}
use Rattle.place_core.specs.declared.css.Css.{Css}
use Rattle.place_core.specs.declared.member.Member.{Member}
use Rattle.url_lexer.specs.States.{Url}
use Rattle.css_step.specs.StyleOrigins.{style_scan_has, IsStyleOrigin, StyleEvidence, style_on_one, style_on_apart}
use Rattle.css_step.specs.StyleScans.{StyleScan, style_scan_start, style_scan_next, style_scan_place, style_at_hole}
use Rattle.css_step.specs.StyleSetLaws.{HasStyle}
use Rattle.css_step.specs.StyleTexts.{style_scan_text, style_text, TakesStyle, IsStyleTextOrigin, StyleTextEvidence, text_on_one, text_on_apart, StyleTextsComeFrom}
use Rattle.css_step.proofs.ShownStyleHoles.{style-refusal-is-shown}
use Rattle.css_step.proofs.StyleComesFrom.{styles-come-from}
use Rattle.css_step.proofs.StyleGrowth.{covers-styles}
use Rattle.css_step.proofs.StyleHolePaths.{styles-come-from-hole}

-- a path stays among those that are stepped
pub stays : (bytes : List ℕ) (n : StyleScan) (v : Style Url) → TakesStyle bytes n → HasStyle n v → HasStyle (style_scan_text bytes n) (style_text bytes v)
stays [] n v t h = h
stays (b ∷ bytes) n v t h = stays bytes (style_scan_next n (style_class b) b) (style_next urls v (style_class b) b) t.1 ((covers-styles n v h).next (style_class b) b t.0)

-- byte after byte
text-from : (bytes : List ℕ) (n : StyleScan) (y : Member) → TakesStyle bytes n → style_scan_has (style_scan_text bytes n) y ≡ true
    → (x : Member) × IsStyleOrigin n (style_text bytes) y x
text-from [] n y t h = (y, record { has = h; leads = λ v i k. k })
text-from (b ∷ bytes) n y t h =
    let o = text-from bytes (style_scan_next n (style_class b) b) y t.1 h in
    let p = styles-come-from.members n (style_class b) b o.0 t.0 o.1.has in (
      p.0,
      record {
        has = p.1.has;
        leads = λ v i k. o.1.leads (style_next urls v (style_class b) b) ((covers-styles n v i).next (style_class b) b t.0) (p.1.leads v i k);
      },
    )

-- from the beginning, and on to what is behind the text
begun : (c : Css) (bytes : List ℕ) (step : Style Url → Style Url) (y z : Member) → TakesStyle bytes (style_scan_start c)
    → IsStyleOrigin (style_scan_text bytes (style_scan_start c)) step y z → (x : Member) × IsStyleTextOrigin c (λ v. step (style_text bytes v)) y x
begun c bytes step y z t o =
    let p = text-from bytes (style_scan_start c) z t o.has in (
      p.0,
      record {
        has = sym (styles-come-from.begins c p.0) ∙ p.1.has;
        leads = λ v i k. o.leads (style_text bytes v) (stays bytes (style_scan_start c) v t i) (p.1.leads v i k);
      },
    )

text-shown : (c : Css) (bytes : List ℕ) (b : ℕ) (e : RefusalCode) → TakesStyle bytes (style_scan_start c)
    → StyleEvidence (style_scan_text bytes (style_scan_start c)) (style_class b) b e → StyleTextEvidence c bytes b e
text-shown c bytes b e t (style_on_one z h f) =
    let p = text-from bytes (style_scan_start c) z t h in
    text_on_one p.0 (sym (styles-come-from.begins c p.0) ∙ p.1.has)
    (λ v i k. f (style_text bytes v) (stays bytes (style_scan_start c) v t i) (p.1.leads v i k))
text-shown c bytes b e t (style_on_apart s i d u r) = text_on_apart s i d u r

pub style-texts-come-from : StyleTextsComeFrom
style-texts-come-from c bytes t =
    let n : StyleScan = style_scan_text bytes (style_scan_start c) in
    record {
      cut_members = λ y e h.
          let o = styles-come-from-hole.cut_members n y e (styles-come-from.begins (style_scan_place n) y ∙ h) in
          begun c bytes (λ v. style_after_cut urls v) y o.0 t o.1;
      hole_members = λ y e r h.
          let o = styles-come-from-hole.hole_members n y e r (styles-come-from.begins (style_at_hole (style_scan_place n)) y ∙ h) in
          begun c bytes (λ v. style_after_hole urls v) y o.0 t o.1;
      refused = λ b e h. text-shown c bytes b e t (style-refusal-is-shown.byte n (style_class b) b e h);
      cut_refused = λ v i. style-refusal-is-shown.cut n (style_text bytes v) (stays bytes (style_scan_start c) v t i);
    }
