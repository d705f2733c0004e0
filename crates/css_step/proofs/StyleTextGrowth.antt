-- Where a place accepts characters, one below it accepts them.
use Rattle.std.proofs.Common.{◌≡◌, ℕ, List, [], ◌∷◌, Option, Some, None, option_map, Ok, refl, ap, ◌∙◌, subst}
use Rattle.std.specs.Prelude.{encode_utf8}
use Rattle.css_lexer.specs.Classes.{style_class}
use Rattle.css_lexer.specs.RefusalCodes.{RefusalCode, StyleCutRefusal}
use Rattle.place_core.specs.page.Tags.{style_code}
use Rattle.place_core.specs.declared.code.Code.{Code}
use Rattle.place_core.specs.declared.css.Css.{Css}
use Rattle.place_core.specs.declared.mode.Mode.{Mode}
use Rattle.place_core.specs.declared.mode.Mode.TheVariants as mode
use Rattle.place_core.specs.declared.step.Step.TheVariants as step
use Rattle.url_step.specs.PartTexts.{place_behind, scalar_of, unless_byte_refused}
use Rattle.url_step.proofs.TextGrowth.{unless-none}
use Rattle.css_step.specs.StyleCharacters.{StyleText, StylePoint, style_point_next, style_point_behind, style_point_start, style_bytes_error, style_node_end, style_text_end, unless_style_refused, style_characters_from}
use Rattle.css_step.specs.StyleCharacterLaws.{StyleTextsGrow}
use Rattle.css_step.specs.StyleScans.{style_scan_next, style_scan_error, style_scan_place, style_scan_cut_error}
use Rattle.css_step.specs.StyleSetLaws.{StyleBelow, StyleScanBelow}
use Rattle.css_step.proofs.StyleGrowth.{styles-grow}

-- what accepts
pub style-named : (o : Option RefusalCode) → option_map style_code o ≡ None → o ≡ None
style-named None h = refl
style-named (Some e) h = cc

pub style-accepts : (o : Option Code) (at : ℕ) (c b : Css) (r : StyleText) → unless_style_refused o at c r ≡ Ok (step.Inside b)
    → (o ≡ None) × (r ≡ Ok (step.Inside b))
style-accepts None at c b r h = (refl, h)
style-accepts (Some e) at c b r h = cc

same-inside : (a b : Css) (r : StyleText) → r ≡ Ok (step.Inside a) → r ≡ Ok (step.Inside b) → a ≡ b
same-inside a b r h k = cc

pub node-inside : (o : Option StyleCutRefusal) (end : ℕ) (x : StylePoint) (b : Css) → style_node_end o end x ≡ Ok (step.Inside b)
    → (o ≡ None) × (style_scan_place x.scan ≡ b)
node-inside None end x b h = (refl, same-inside (style_scan_place x.scan) b (Ok (step.Inside (style_scan_place x.scan))) refl h)
node-inside (Some r) end x b h = cc

pub end-inside : (m : Mode) (end : ℕ) (x : StylePoint) (b : Css) → style_text_end m end x ≡ Ok (step.Inside b) → style_scan_place x.scan ≡ b
end-inside mode.Whole end x b h = same-inside (style_scan_place x.scan) b (Ok (step.Inside (style_scan_place x.scan))) refl h
end-inside mode.Open end x b h = (node-inside (style_scan_cut_error x.scan) end x b h).1
end-inside mode.Element end x b h = (node-inside (style_scan_cut_error x.scan) end x b h).1

bytes-grow : (bs : List ℕ) (x y : StylePoint) → StyleScanBelow x.scan y.scan → style_bytes_error y.scan bs ≡ None
    → (style_bytes_error x.scan bs ≡ None) × StyleScanBelow (style_point_behind x bs).scan (style_point_behind y bs).scan
bytes-grow [] x y g h = (refl, g)
bytes-grow (b ∷ bs) x y g h =
    let c = style_class b in
    let both = unless-none (option_map style_code (style_scan_error y.scan c b)) (style_bytes_error (style_scan_next y.scan c b) bs) h in
    let none = style-named (style_scan_error y.scan c b) both.0 in
    let grows = styles-grow.scans x.scan y.scan g in
    let rest = bytes-grow bs (style_point_next x b) (style_point_next y b) (grows.next c b none) both.1 in
    (ap (λ (o : Option RefusalCode). unless_byte_refused (option_map style_code o) (style_bytes_error (style_scan_next x.scan c b) bs)) (grows.error c b none) ∙ rest.0, rest.1)

node-grows : (end : ℕ) (x y : StylePoint) (b : Css) → StyleScanBelow x.scan y.scan
    → style_node_end (style_scan_cut_error y.scan) end y ≡ Ok (step.Inside b)
    → (a : Css) × (style_node_end (style_scan_cut_error x.scan) end x ≡ Ok (step.Inside a)) × StyleBelow a b
node-grows end x y b g h =
    let i = node-inside (style_scan_cut_error y.scan) end y b h in
    let grows = styles-grow.scans x.scan y.scan g in (
      style_scan_place x.scan,
      ap (λ (o : Option StyleCutRefusal). style_node_end o end x) (grows.cut_error ∙ i.0),
      subst (λ (z : Css). StyleBelow (style_scan_place x.scan) z) i.1 grows.place,
    )

end-grows : (m : Mode) (end : ℕ) (x y : StylePoint) (b : Css) → StyleScanBelow x.scan y.scan → style_text_end m end y ≡ Ok (step.Inside b)
    → (a : Css) × (style_text_end m end x ≡ Ok (step.Inside a)) × StyleBelow a b
end-grows mode.Whole end x y b g h =
    (style_scan_place x.scan, refl, subst (λ (z : Css). StyleBelow (style_scan_place x.scan) z) (end-inside mode.Whole end y b h) (styles-grow.scans x.scan y.scan g).place)
end-grows mode.Open end x y b g h = node-grows end x y b g h
end-grows mode.Element end x y b g h = node-grows end x y b g h

characters-grow : (m : Mode) (cs : List (ℕ × ℕ)) (end : ℕ) (x y : StylePoint) (b : Css) → StyleScanBelow x.scan y.scan
    → style_characters_from m end cs y ≡ Ok (step.Inside b) → (a : Css) × (style_characters_from m end cs x ≡ Ok (step.Inside a)) × StyleBelow a b
characters-grow m [] end x y b g h = end-grows m end x y b g h
characters-grow m (c ∷ cs) end x y b g h =
    let bs = encode_utf8 (scalar_of c.0) in
    let both = style-accepts (style_bytes_error y.scan bs) c.1 (style_scan_place y.scan) b (style_characters_from m (place_behind c.1) cs (style_point_behind y bs)) h in
    let bytes = bytes-grow bs x y g both.0 in
    let rest = characters-grow m cs (place_behind c.1) (style_point_behind x bs) (style_point_behind y bs) b bytes.1 both.1 in (
      rest.0,
      ap (λ (o : Option Code). unless_style_refused o c.1 (style_scan_place x.scan) (style_characters_from m (place_behind c.1) cs (style_point_behind x bs))) bytes.0
          ∙ rest.1,
      rest.2,
    )

pub style-texts-grow : StyleTextsGrow
style-texts-grow m cs c d b g h = characters-grow m cs 0 (style_point_start c) (style_point_start d) b (styles-grow.places c d g).start h
