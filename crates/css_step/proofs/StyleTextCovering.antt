-- Where a place accepts characters: each path there is accepted, and each member behind them comes from one before.
use Rattle.std.proofs.Common.{◌≡◌, ◌++◌, ℕ, List, [], ◌∷◌, Option, None, option_map, Ok, refl, sym, ap, ◌∙◌, subst}
use Rattle.std.specs.Prelude.{encode_utf8}
use Rattle.css_lexer.specs.Classes.{style_class}
use Rattle.css_lexer.specs.RefusalCodes.{RefusalCode, StyleCutRefusal}
use Rattle.css_lexer.specs.Refusals.{style_refuses_cut}
use Rattle.css_lexer.specs.States.{Style}
use Rattle.css_lexer.specs.Steps.{style_next}
use Rattle.css_lexer.specs.Urls.{urls}
use Rattle.place_core.specs.page.Tags.{style_code}
use Rattle.place_core.specs.declared.css.Css.{Css}
use Rattle.place_core.specs.declared.mode.Mode.{Mode}
use Rattle.place_core.specs.declared.mode.Mode.TheVariants as mode
use Rattle.place_core.specs.declared.step.Step.TheVariants as step
use Rattle.place_core.proofs.JoinParts.{css_partial}
use Rattle.url_lexer.specs.States.{Url}
use Rattle.url_step.specs.PartTexts.{place_behind, scalar_of, unless_byte_refused}
use Rattle.url_step.specs.TextLaws.{text_bytes}
use Rattle.url_step.proofs.TextGrowth.{unless-none}
use Rattle.css_step.specs.StyleCharacters.{StylePoint, style_point_next, style_point_behind, style_point_start, style_bytes_error, style_text_end, style_characters_from}
use Rattle.css_step.specs.StyleCharacterLaws.{style_path_error, style_path_end_error, StyleTextsCover, StyleCharactersComeFrom}
use Rattle.css_step.specs.StyleScans.{StyleScan, style_scan_start, style_scan_next, style_scan_error, style_scan_place, style_scan_cut_error}
use Rattle.css_step.specs.StyleSetLaws.{StyleBelow, HasStyle}
use Rattle.css_step.specs.StyleTexts.{style_scan_text, style_text, TakesStyle, StyleHas}
use Rattle.css_step.proofs.OneStylePath.{one-style}
use Rattle.css_step.proofs.StyleBodies.{body-after-cut}
use Rattle.css_step.proofs.StyleGrowth.{styles-grow, covers-styles}
use Rattle.css_step.proofs.StyleTextGrowth.{style-named, style-accepts, node-inside, end-inside}
use Rattle.css_step.proofs.StyleTexts.{stays, style-texts-come-from}

-- of one byte after another
behind-scan : (bs : List ℕ) (x : StylePoint) → (style_point_behind x bs).scan ≡ style_scan_text bs x.scan
behind-scan [] x = refl
behind-scan (b ∷ bs) x = behind-scan bs (style_point_next x b)

scan-append : (xs ys : List ℕ) (n : StyleScan) → style_scan_text (xs ++ ys) n ≡ style_scan_text ys (style_scan_text xs n)
scan-append [] ys n = refl
scan-append (x ∷ xs) ys n = scan-append xs ys (style_scan_next n (style_class x) x)

takes-append : (xs ys : List ℕ) (n : StyleScan) → TakesStyle xs n → TakesStyle ys (style_scan_text xs n) → TakesStyle (xs ++ ys) n
takes-append [] ys n h k = k
takes-append (x ∷ xs) ys n h k = (h.0, takes-append xs ys (style_scan_next n (style_class x) x) h.1 k)

takes-bytes : (bs : List ℕ) (n : StyleScan) → style_bytes_error n bs ≡ None → TakesStyle bs n
takes-bytes [] n h = tt
takes-bytes (b ∷ bs) n h =
    let c = style_class b in
    let both = unless-none (option_map style_code (style_scan_error n c b)) (style_bytes_error (style_scan_next n c b) bs) h in
    (style-named (style_scan_error n c b) both.0, takes-bytes bs (style_scan_next n c b) both.1)

path-accepted : (bs : List ℕ) (n : StyleScan) (v : Style Url) → TakesStyle bs n → HasStyle n v → style_path_error v bs ≡ None
path-accepted [] n v t h = refl
path-accepted (b ∷ bs) n v t h =
    let c = style_class b in
    let covers = covers-styles n v h in
    ap (λ (o : Option RefusalCode). unless_byte_refused (option_map style_code o) (style_path_error (style_next urls v c b) bs)) (covers.error c b t.0)
    ∙ path-accepted bs (style_scan_next n c b) (style_next urls v c b) t.1 (covers.next c b t.0)

-- Characters that are accepted: none of their bytes is refused, they come to the place behind these, and a node may end there, if it does.
abbrev end_error : Mode → StyleScan → Option StyleCutRefusal
end_error mode.Whole n = None
end_error mode.Open n = style_scan_cut_error n
end_error mode.Element n = style_scan_cut_error n

record TakesCharacters (m : Mode) (bs : List ℕ) (n : StyleScan) (b : Css) : Type 0 where
  takes : TakesStyle bs n
  ends : end_error m (style_scan_text bs n) ≡ None
  place : style_scan_place (style_scan_text bs n) ≡ b

end-none : (m : Mode) (end : ℕ) (x : StylePoint) (b : Css) → style_text_end m end x ≡ Ok (step.Inside b) → end_error m x.scan ≡ None
end-none mode.Whole end x b h = refl
end-none mode.Open end x b h = (node-inside (style_scan_cut_error x.scan) end x b h).0
end-none mode.Element end x b h = (node-inside (style_scan_cut_error x.scan) end x b h).0

characters-inside : (m : Mode) (cs : List (ℕ × ℕ)) (end : ℕ) (x : StylePoint) (b : Css) → style_characters_from m end cs x ≡ Ok (step.Inside b)
    → TakesCharacters m (text_bytes cs) x.scan b
characters-inside m [] end x b h = record { takes = tt; ends = end-none m end x b h; place = end-inside m end x b h }
characters-inside m (c ∷ cs) end x b h =
    let bs = encode_utf8 (scalar_of c.0) in
    let both = style-accepts (style_bytes_error x.scan bs) c.1 (style_scan_place x.scan) b (style_characters_from m (place_behind c.1) cs (style_point_behind x bs)) h in
    let rest : TakesCharacters m (text_bytes cs) (style_scan_text bs x.scan) b =
    subst (λ (n : StyleScan). TakesCharacters m (text_bytes cs) n b) (behind-scan bs x)
    (characters-inside m cs (place_behind c.1) (style_point_behind x bs) b both.1) in
    let same = scan-append bs (text_bytes cs) x.scan in
    record {
      takes = takes-append bs (text_bytes cs) x.scan (takes-bytes bs x.scan both.0) rest.takes;
      ends = ap (end_error m) same ∙ rest.ends;
      place = ap style_scan_place same ∙ rest.place;
    }

-- a path at the end
path-end : (m : Mode) (n : StyleScan) (v : Style Url) → HasStyle n v → end_error m n ≡ None → style_path_end_error m v ≡ None
path-end mode.Whole n v h e = refl
path-end mode.Open n v h e = (covers-styles n v h).cut_error e
path-end mode.Element n v h e = (covers-styles n v h).cut_error e

set-end : (n : StyleScan) (v : Style Url) (h : HasStyle n v) → style_refuses_cut urls v ≡ None → style_scan_cut_error n ≡ None
set-end n v h e = sym (styles-grow.scans h.alone n h.below).cut_error ∙ ((one-style v h.alone h.is_alone).cut_error ∙ e)

pub style-texts-cover : StyleTextsCover
style-texts-cover m cs c b v i k =
    let bs = text_bytes cs in
    let t = characters-inside m cs 0 (style_point_start c) b k in
    let n : StyleScan = style_scan_text bs (style_scan_start c) in
    let w : Style Url = style_text bs v in
    let h : HasStyle n w = stays bs (style_scan_start c) v t.takes i in
    record {
      accepted = path-accepted bs (style_scan_start c) v t.takes i;
      ends = path-end m n w h t.ends;
      own = style_scan_place h.alone;
      stands = body-after-cut w h.alone h.is_alone;
      below = subst (λ (z : Css). StyleBelow (style_scan_place h.alone) z) t.place (styles-grow.scans h.alone n h.below).place;
      next = λ e. (covers-styles n w h).after_cut b (set-end n w h e) (subst (λ (z : Css). StyleBelow (style_scan_place n) z) t.place (css_partial.same (style_scan_place n)));
    }

pub style-characters-come-from : StyleCharactersComeFrom
style-characters-come-from cs c b y e h =
    let t = characters-inside mode.Open cs 0 (style_point_start c) b e in
    (style-texts-come-from c (text_bytes cs) t.takes).cut_members y t.ends (subst (λ (z : Css). StyleHas z y) (sym t.place) h)
