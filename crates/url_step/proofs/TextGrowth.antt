-- Where a set accepts characters, one below it accepts them: percent triples begin and end with the bytes, whatever the parts.
use Rattle.std.proofs.Common.{◌≡◌, ℕ, List, [], ◌∷◌, Option, Some, None, option_map, Ok, refl, sym, ap, ◌∙◌, subst}
use Rattle.std.specs.Prelude.{encode_utf8}
use Rattle.place_core.specs.page.Tags.{refusal_code}
use Rattle.place_core.specs.declared.code.Code.{Code}
use Rattle.place_core.specs.declared.mode.Mode.{Mode}
use Rattle.place_core.specs.declared.mode.Mode.TheVariants as mode
use Rattle.place_core.specs.declared.parts.Parts.{Parts}
use Rattle.place_core.specs.declared.step.Step.TheVariants as step
use Rattle.url_lexer.specs.Classes.{url_class_of}
use Rattle.url_lexer.specs.Refusals.{UrlRefusal}
use Rattle.url_lexer.specs.Triples.{Triple, NoTriple, AfterPercent, AfterDigit, next_triple}
use Rattle.url_lexer.specs.declared.class.UrlClass.{UrlClass}
use Rattle.url_lexer.specs.declared.class.UrlClass.TheVariants as class
use Rattle.url_step.specs.PartSets.{PartsBelow, parts_next, parts_error}
use Rattle.url_step.specs.PartTexts.{UrlText, triple_next, point_next, point_behind, unless_byte_refused, bytes_error, scalar_of, node_end, text_end, place_behind, unless_character_refused, characters_from}
use Rattle.url_step.specs.TextLaws.{TextsGrow}
use Rattle.url_step.specs.declared.text_point.OpenTriple.{OpenTriple}
use Rattle.url_step.specs.declared.text_point.OpenTriple.TheVariants as triple
use Rattle.url_step.specs.declared.text_point.TextPoint.{TextPoint}
use Rattle.url_step.proofs.Growth.{parts-grow}

-- the triple without the parts before it
abbrev pub form : OpenTriple → Triple
form triple.None = NoTriple
form (triple.Percent p) = AfterPercent
form (triple.Digit p) = AfterDigit

form-next : (t : OpenTriple) (s : Parts) (c : UrlClass) → form (triple_next t s c) ≡ next_triple (form t) c
form-next triple.None s class.Percent = refl
form-next triple.None s _ = refl
form-next (triple.Percent p) s class.Percent = refl
form-next (triple.Percent p) s class.Hexadecimal = refl
form-next (triple.Percent p) s _ = refl
form-next (triple.Digit p) s class.Percent = refl
form-next (triple.Digit p) s _ = refl

pub record PointsBelow (x y : TextPoint) : Type 0 where
  pub below : PartsBelow x.parts y.parts
  pub alike : form x.triple ≡ form y.triple

-- what accepts
pub unless-none : (o r : Option Code) → unless_byte_refused o r ≡ None → (o ≡ None) × (r ≡ None)
unless-none None r h = (refl, h)
unless-none (Some e) r h = cc

pub none-named : (o : Option UrlRefusal) → option_map refusal_code o ≡ None → o ≡ None
none-named None h = refl
none-named (Some e) h = cc

pub accepts : (o : Option Code) (at : ℕ) (s b : Parts) (r : UrlText) → unless_character_refused o at s r ≡ Ok (step.Inside b) → (o ≡ None) × (r ≡ Ok (step.Inside b))
accepts None at s b r h = (refl, h)
accepts (Some e) at s b r h = cc

pub same-inside : (a b : Parts) (r : UrlText) → r ≡ Ok (step.Inside a) → r ≡ Ok (step.Inside b) → a ≡ b
same-inside a b r h k = cc

bytes-grow : (bs : List ℕ) (x y : TextPoint) → PointsBelow x y → bytes_error y.parts bs ≡ None
    → (bytes_error x.parts bs ≡ None) × PointsBelow (point_behind x bs) (point_behind y bs)
bytes-grow [] x y g h = (refl, g)
bytes-grow (b ∷ bs) x y g h =
    let c = url_class_of b in
    let both = unless-none (option_map refusal_code (parts_error y.parts c)) (bytes_error (parts_next y.parts c b) bs) h in
    let none = none-named (parts_error y.parts c) both.0 in
    let grows = parts-grow x.parts y.parts g.below in
    let next : PointsBelow (point_next x b) (point_next y b) = record {
      below = grows.next c b none;
      alike = form-next x.triple x.parts c ∙ ap (λ (t : Triple). next_triple t c) g.alike ∙ sym (form-next y.triple y.parts c);
    } in
    let rest = bytes-grow bs (point_next x b) (point_next y b) next both.1 in
    (ap (λ (o : Option UrlRefusal). unless_byte_refused (option_map refusal_code o) (bytes_error (parts_next x.parts c b) bs)) (grows.error c none) ∙ rest.0, rest.1)

node-grows : (t w : OpenTriple) (end : ℕ) (s r b : Parts) → form t ≡ form w → PartsBelow s r → node_end w end r ≡ Ok (step.Inside b)
    → (a : Parts) × (node_end t end s ≡ Ok (step.Inside a)) × PartsBelow a b
node-grows triple.None triple.None end s r b k g h = (s, refl, subst (PartsBelow s) (same-inside r b (Ok (step.Inside r)) refl h) g)
node-grows (triple.Percent p) triple.None end s r b k g h = cc
node-grows (triple.Digit p) triple.None end s r b k g h = cc
node-grows t (triple.Percent p) end s r b k g h = cc
node-grows t (triple.Digit p) end s r b k g h = cc

end-grows : (m : Mode) (end : ℕ) (x y : TextPoint) (b : Parts) → PointsBelow x y → text_end m end y ≡ Ok (step.Inside b)
    → (a : Parts) × (text_end m end x ≡ Ok (step.Inside a)) × PartsBelow a b
end-grows mode.Whole end x y b g h = (x.parts, refl, subst (PartsBelow x.parts) (same-inside y.parts b (Ok (step.Inside y.parts)) refl h) g.below)
end-grows mode.Open end x y b g h = node-grows x.triple y.triple end x.parts y.parts b g.alike g.below h
end-grows mode.Element end x y b g h = node-grows x.triple y.triple end x.parts y.parts b g.alike g.below h

characters-grow : (m : Mode) (cs : List (ℕ × ℕ)) (end : ℕ) (x y : TextPoint) (b : Parts) → PointsBelow x y → characters_from m end cs y ≡ Ok (step.Inside b)
    → (a : Parts) × (characters_from m end cs x ≡ Ok (step.Inside a)) × PartsBelow a b
characters-grow m [] end x y b g h = end-grows m end x y b g h
characters-grow m (c ∷ cs) end x y b g h =
    let bs = encode_utf8 (scalar_of c.0) in
    let both = accepts (bytes_error y.parts bs) c.1 y.parts b (characters_from m (place_behind c.1) cs (point_behind y bs)) h in
    let bytes = bytes-grow bs x y g both.0 in
    let rest = characters-grow m cs (place_behind c.1) (point_behind x bs) (point_behind y bs) b bytes.1 both.1 in (
      rest.0,
      ap (λ (o : Option Code). unless_character_refused o c.1 x.parts (characters_from m (place_behind c.1) cs (point_behind x bs))) bytes.0 ∙ rest.1,
      rest.2,
    )

pub texts-grow : TextsGrow
texts-grow m cs s t b g h =
    characters-grow m cs 0 (record { parts = s; triple = triple.None }) (record { parts = t; triple = triple.None }) b (record { below = g; alike = refl }) h
