-- Characters bring a valid set to valid ones, and so do those before an open percent triple.
use Rattle.std.proofs.Common.{◌≡◌, ℕ, List, [], ◌∷◌, Option, Some, None}
use Rattle.std.specs.Prelude.{encode_utf8, ⊤}
use Rattle.place_core.specs.place.LanguagePlaces.{IsValidParts}
use Rattle.place_core.specs.declared.code.Code.{Code}
use Rattle.place_core.specs.declared.mode.Mode.{Mode}
use Rattle.place_core.specs.declared.mode.Mode.TheVariants as mode
use Rattle.place_core.specs.declared.parts.Parts.{Parts}
use Rattle.url_lexer.specs.Classes.{url_class_of}
use Rattle.url_lexer.specs.declared.class.UrlClass.{UrlClass}
use Rattle.url_lexer.specs.declared.class.UrlClass.TheVariants as class
use Rattle.url_step.specs.PartTexts.{UrlText, triple_next, point_next, point_behind, bytes_error, scalar_of, node_end, text_end, place_behind, unless_character_refused, characters_from}
use Rattle.url_step.specs.TextLaws.{IsValidText, TextsStayValid}
use Rattle.url_step.specs.declared.text_point.OpenTriple.{OpenTriple}
use Rattle.url_step.specs.declared.text_point.OpenTriple.TheVariants as triple
use Rattle.url_step.specs.declared.text_point.TextPoint.{TextPoint}
use Rattle.url_step.proofs.ValidParts.{parts-stay-valid}

-- the parts before an open triple
abbrev IsValidTriple : OpenTriple → Type 0
IsValidTriple triple.None = ⊤
IsValidTriple (triple.Percent p) = IsValidParts p
IsValidTriple (triple.Digit p) = IsValidParts p

record IsValidPoint (x : TextPoint) : Type 0 where
  parts : IsValidParts x.parts
  open_triple : IsValidTriple x.triple

triple-valid : (t : OpenTriple) (s : Parts) (c : UrlClass) → IsValidTriple t → IsValidParts s → IsValidTriple (triple_next t s c)
triple-valid triple.None s class.Percent w v = v
triple-valid (triple.Percent p) s class.Percent w v = v
triple-valid (triple.Digit p) s class.Percent w v = v
triple-valid (triple.Percent p) s class.Hexadecimal w v = w
triple-valid triple.None s _ w v = tt
triple-valid (triple.Percent p) s _ w v = tt
triple-valid (triple.Digit p) s _ w v = tt

bytes-valid : (bs : List ℕ) (x : TextPoint) → IsValidPoint x → IsValidPoint (point_behind x bs)
bytes-valid [] x v = v
bytes-valid (b ∷ bs) x v =
    bytes-valid bs (point_next x b) (record {
      parts = (parts-stay-valid x.parts v.parts).next (url_class_of b) b;
      open_triple = triple-valid x.triple x.parts (url_class_of b) v.open_triple v.parts;
    })

node-valid : (t : OpenTriple) (end : ℕ) (s : Parts) → IsValidParts s → IsValidTriple t → IsValidText (node_end t end s)
node-valid triple.None end s v w = v
node-valid (triple.Percent p) end s v w = w
node-valid (triple.Digit p) end s v w = w

end-valid : (m : Mode) (end : ℕ) (x : TextPoint) → IsValidPoint x → IsValidText (text_end m end x)
end-valid mode.Whole end x v = v.parts
end-valid mode.Open end x v = node-valid x.triple end x.parts v.parts v.open_triple
end-valid mode.Element end x v = node-valid x.triple end x.parts v.parts v.open_triple

unless-valid : (o : Option Code) (at : ℕ) (s : Parts) (r : UrlText) → IsValidParts s → IsValidText r → IsValidText (unless_character_refused o at s r)
unless-valid None at s r v w = w
unless-valid (Some e) at s r v w = v

characters-valid : (m : Mode) (cs : List (ℕ × ℕ)) (end : ℕ) (x : TextPoint) → IsValidPoint x → IsValidText (characters_from m end cs x)
characters-valid m [] end x v = end-valid m end x v
characters-valid m (c ∷ cs) end x v =
    let bs = encode_utf8 (scalar_of c.0) in
    unless-valid (bytes_error x.parts bs) c.1 x.parts (characters_from m (place_behind c.1) cs (point_behind x bs)) v.parts
    (characters-valid m cs (place_behind c.1) (point_behind x bs) (bytes-valid bs x v))

pub texts-stay-valid : TextsStayValid
texts-stay-valid m cs s v = characters-valid m cs 0 (record { parts = s; triple = triple.None }) (record { parts = v; open_triple = tt })
