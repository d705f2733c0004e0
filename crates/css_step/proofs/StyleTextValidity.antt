-- Characters bring a place whose URLs have valid parts to such places, and so is the one before an open escape or percent triple.
use Rattle.std.proofs.Common.{ℕ, Bool, true, false, List, [], ◌∷◌, Option, Some, None}
use Rattle.std.specs.Prelude.{encode_utf8}
use Rattle.css_lexer.specs.Classes.{style_class}
use Rattle.css_lexer.specs.RefusalCodes.{StyleCutRefusal}
use Rattle.place_core.specs.place.LanguagePlaces.{IsValidCss}
use Rattle.place_core.specs.declared.code.Code.{Code}
use Rattle.place_core.specs.declared.css.Css.{Css}
use Rattle.place_core.specs.declared.mode.Mode.{Mode}
use Rattle.place_core.specs.declared.mode.Mode.TheVariants as mode
use Rattle.url_step.specs.PartTexts.{place_behind, scalar_of}
use Rattle.css_step.specs.StyleCharacters.{StyleText, StylePoint, begins_style_lexeme, style_since, style_point_next, style_point_behind, style_point_start, style_bytes_error, style_node_end, style_text_end, unless_style_refused, style_characters_from}
use Rattle.css_step.specs.StyleCharacterLaws.{IsValidStyleText, StyleTextsStayValid}
use Rattle.css_step.specs.StyleScans.{style_scan_place, style_scan_cut_error}
use Rattle.css_step.proofs.StyleParts.{styles-stay-valid}

record IsValidStylePoint (x : StylePoint) : Type 0 where
  place : IsValidCss (style_scan_place x.scan)
  since : IsValidCss x.since

since-valid : (z : Bool) (here before : Css) → IsValidCss here → IsValidCss before → IsValidCss (style_since z here before)
since-valid true here before v w = v
since-valid false here before v w = w

bytes-valid : (bs : List ℕ) (x : StylePoint) → IsValidStylePoint x → IsValidStylePoint (style_point_behind x bs)
bytes-valid [] x v = v
bytes-valid (b ∷ bs) x v =
    bytes-valid bs (style_point_next x b) (record {
      place = styles-stay-valid.next x.scan (style_class b) b v.place;
      since = since-valid (begins_style_lexeme b) (style_scan_place x.scan) x.since v.place v.since;
    })

node-valid : (o : Option StyleCutRefusal) (end : ℕ) (x : StylePoint) → IsValidStylePoint x → IsValidStyleText (style_node_end o end x)
node-valid None end x v = v.place
node-valid (Some r) end x v = v.since

end-valid : (m : Mode) (end : ℕ) (x : StylePoint) → IsValidStylePoint x → IsValidStyleText (style_text_end m end x)
end-valid mode.Whole end x v = v.place
end-valid mode.Open end x v = node-valid (style_scan_cut_error x.scan) end x v
end-valid mode.Element end x v = node-valid (style_scan_cut_error x.scan) end x v

unless-valid : (o : Option Code) (at : ℕ) (c : Css) (r : StyleText) → IsValidCss c → IsValidStyleText r
    → IsValidStyleText (unless_style_refused o at c r)
unless-valid None at c r v w = w
unless-valid (Some e) at c r v w = v

characters-valid : (m : Mode) (cs : List (ℕ × ℕ)) (end : ℕ) (x : StylePoint) → IsValidStylePoint x
    → IsValidStyleText (style_characters_from m end cs x)
characters-valid m [] end x v = end-valid m end x v
characters-valid m (c ∷ cs) end x v =
    let bs = encode_utf8 (scalar_of c.0) in
    unless-valid (style_bytes_error x.scan bs) c.1 (style_scan_place x.scan) (style_characters_from m (place_behind c.1) cs (style_point_behind x bs)) v.place
    (characters-valid m cs (place_behind c.1) (style_point_behind x bs) (bytes-valid bs x v))

pub style-texts-stay-valid : StyleTextsStayValid
style-texts-stay-valid m cs c v = characters-valid m cs 0 (style_point_start c) (record { place = styles-stay-valid.start c v; since = v })
