-- What is promised of a hole: the bytes that its chain gives for a value keep the shape.
use Rattle.std.specs.List.{list_any}
use Rattle.std.specs.Prelude.{◌≡◌, ℕ, ◌==◌, Bool, true, false, List, [], ◌∷◌, Ok, take}
use Rattle.page_datum.specs.Data.{Data}
use Rattle.page_datum.specs.Printed.{printed}
use Rattle.place_core.specs.page.Events.{LexEvent}
use Rattle.place_core.specs.place.Membership.{IsIn}
use Rattle.place_core.specs.page.Paths.{at_hole, mark_in}
use Rattle.place_core.specs.place.Places.{IsValid}
use Rattle.place_core.specs.page.Plain.{IsPlain}
use Rattle.place_core.specs.page.Shape.{ShapePart, HolePart, PageReads}
use Rattle.place_core.specs.page.States.{LexState, Config}
use Rattle.place_core.specs.page.Tags.{ValueState, languages}
use Rattle.css_lexer.specs.ReadBack.{IsBackInCode, IsBackInString}
use Rattle.css_lexer.specs.StaysInUrl.{StaysInUrl}
use Rattle.css_lexer.specs.Urls.{urls}
use Rattle.js_lexer.specs.ScriptBack.{IsBackInScriptCode, IsBackInScriptRegexp, IsBackInScriptString}
use Rattle.place_core.specs.declared.chain.Chain.{Chain}
use Rattle.place_core.specs.declared.place.Place.{Place}
use Rattle.place_core.specs.declared.san.San.{San}
use Rattle.place_core.specs.declared.san.San.TheVariants as san
use Rattle.html_step.specs.Holes.{after_hole}
use Rattle.san_html.specs.ReadBack.{IsBackInText, IsBackInRcdata, IsBackInBlock, IsBackInQuoted, IsBackInUnquoted, IsBackInTag, read_as_text}
use Rattle.san_url.specs.Back.{IsBackInPart}
use Rattle.url_lexer.specs.Parts.{UrlStart, UrlOpen, UrlOpenhole, UrlPrequery, UrlQuery}
use Rattle.url_lexer.specs.Prefixes.{Prefix}
use Rattle.text_norm.specs.Standing.{TextStands}

-- the sanitizers of a chain, in order
abbrev pub sanitizers : Chain → List San
sanitizers c = take c.count c.sans

-- a promise of a sanitizer that has none behind it in its chain
abbrev pub Alone : List San → Type 0 → Type 0
Alone [] promise = promise
Alone (y ∷ ys) promise = ⊥

-- one of a sanitizer that has one behind it, which is the last, or none, as in the element of a style or a script (`alone`); and of one that has `url_norm` behind
-- it before that
abbrev pub BeforeLast : List San → (alone : Type 0) → (San → Type 0) → Type 0
BeforeLast [] alone Promise = alone
BeforeLast (last ∷ []) alone Promise = Promise last
BeforeLast (x ∷ y ∷ ys) alone Promise = ⊥

abbrev pub BehindNorm : San → Type 0 → Type 0
BehindNorm san.UrlNorm promise = promise
BehindNorm x promise = ⊥

abbrev pub BeforeNorm : List San → (alone : Type 0) → (San → Type 0) → Type 0
BeforeNorm [] alone Promise = ⊥
BeforeNorm (x ∷ behind) alone Promise = BehindNorm x (BeforeLast behind alone Promise)

-- The sanitizer of a value's quotes, of the characters that come to it.
abbrev pub IsBackByLast : San → List ℕ → List ℕ → Type 0
IsBackByLast san.Attr characters bytes = IsBackInQuoted characters bytes
IsBackByLast san.AttrNospace characters bytes = IsBackInUnquoted characters bytes
IsBackByLast last characters bytes = ⊥

-- In a URL: the characters that the sanitizers of its part give are plain in each part where a hole has these sanitizers, and read back there; in a
-- style they stay in its url token. The last sanitizer reads them as they are, since none is NUL.
pub record IsBackInUrl (IsBackThere : List ℕ → Type 0) (last : San) (bytes : List ℕ) : Type 0 where
  pub characters : List ℕ
  pub there : IsBackThere characters
  pub stays : StaysInUrl urls characters
  pub as_they_are : read_as_text characters ≡ characters
  pub written : IsBackByLast last characters bytes

-- In a style outside its URLs, and in a script: the characters that its sanitizer gives are plain wherever a hole has it, and read back there.
pub record IsBackInLanguage (IsBackThere : List ℕ → Type 0) (last : San) (bytes : List ℕ) : Type 0 where
  pub characters : List ℕ
  pub there : IsBackThere characters
  pub as_they_are : read_as_text characters ≡ characters
  pub written : IsBackByLast last characters bytes

-- In the element of a style or a script the bytes themselves are so; and no end tag begins with one of them.
abbrev pub is_less_than : ℕ → Bool
is_less_than b = b == 60

pub record IsBackInElement (IsBackThere : List ℕ → Type 0) (bytes : List ℕ) : Type 0 where
  pub there : IsBackThere bytes
  pub apart : list_any is_less_than bytes ≡ false

pub record IsBackInElementUrl (IsBackThere : List ℕ → Type 0) (bytes : List ℕ) : Type 0 where
  pub there : IsBackThere bytes
  pub stays : StaysInUrl urls bytes
  pub apart : list_any is_less_than bytes ≡ false

-- A value that is dropped has no characters; the last sanitizer, if there is one, gives what it gives for none.
abbrev pub IsDropped : List San → List ℕ → Type 0
IsDropped [] bytes = bytes ≡ []
IsDropped (x ∷ behind) bytes = BeforeLast (x ∷ behind) (bytes ≡ []) (λ last. IsBackByLast last [] bytes)

-- in the beginning, whatever it spells, and behind a hole in it
pub record IsBackInBeginning (text characters : List ℕ) : Type 0 where
  pub in_open : (p : Prefix) → IsBackInPart (UrlOpen p) text characters
  pub in_openhole : IsBackInPart UrlOpenhole text characters

-- What a chain promises of its bytes for a datum, by its first sanitizer and those behind it. The text of a datum is what is printed of it.
abbrev pub IsBackByFirst : San → List San → Data → List ℕ → Type 0
IsBackByFirst san.Html behind datum bytes = Alone behind (IsBackInText (printed datum) bytes × IsBackInRcdata (printed datum) bytes × IsBackInBlock (printed datum) bytes)
IsBackByFirst san.Attr behind datum bytes = Alone behind (IsBackInQuoted (printed datum) bytes)
IsBackByFirst san.AttrNospace behind datum bytes = Alone behind (IsBackInUnquoted (printed datum) bytes)
IsBackByFirst san.AttrName behind datum bytes = Alone behind (IsBackInTag (printed datum) bytes)
IsBackByFirst san.Drop behind datum bytes = IsDropped behind bytes
IsBackByFirst san.UrlFilter behind datum bytes =
    BeforeNorm behind (IsBackInElementUrl (IsBackInPart UrlStart (printed datum)) bytes) (λ last. IsBackInUrl (IsBackInPart UrlStart (printed datum)) last bytes)
IsBackByFirst san.UrlOpen behind datum bytes =
    BeforeLast behind (IsBackInElementUrl (IsBackInBeginning (printed datum)) bytes) (λ last. IsBackInUrl (IsBackInBeginning (printed datum)) last bytes)
IsBackByFirst san.UrlNorm behind datum bytes =
    BeforeLast behind (IsBackInElementUrl (IsBackInPart UrlPrequery (printed datum)) bytes) (λ last. IsBackInUrl (IsBackInPart UrlPrequery (printed datum)) last bytes)
IsBackByFirst san.UrlQuery behind datum bytes =
    BeforeLast behind (IsBackInElementUrl (IsBackInPart UrlQuery (printed datum)) bytes) (λ last. IsBackInUrl (IsBackInPart UrlQuery (printed datum)) last bytes)
IsBackByFirst san.CssValue behind datum bytes =
    BeforeLast behind (IsBackInElement (IsBackInCode urls (printed datum)) bytes) (λ last. IsBackInLanguage (IsBackInCode urls (printed datum)) last bytes)
IsBackByFirst san.CssString behind datum bytes =
    BeforeLast behind (IsBackInElement (IsBackInString urls (printed datum)) bytes) (λ last. IsBackInLanguage (IsBackInString urls (printed datum)) last bytes)
IsBackByFirst san.JsValue behind datum bytes =
    BeforeLast behind (IsBackInElement (IsBackInScriptCode datum) bytes) (λ last. IsBackInLanguage (IsBackInScriptCode datum) last bytes)
IsBackByFirst san.JsString behind datum bytes =
    BeforeLast behind (IsBackInElement (IsBackInScriptString (printed datum)) bytes) (λ last. IsBackInLanguage (IsBackInScriptString (printed datum)) last bytes)
IsBackByFirst san.JsRegexp behind datum bytes =
    BeforeLast behind (IsBackInElement (IsBackInScriptRegexp (printed datum)) bytes) (λ last. IsBackInLanguage (IsBackInScriptRegexp (printed datum)) last bytes)

abbrev pub IsBackByList : List San → Data → List ℕ → Type 0
IsBackByList [] datum bytes = ⊥
IsBackByList (x ∷ behind) datum bytes = IsBackByFirst x behind datum bytes

-- what a chain promises of its bytes for a datum, in all contexts where a hole has that chain
abbrev pub IsBackBy : Chain → Data → List ℕ → Type 0
IsBackBy c datum bytes = IsBackByList (sanitizers c) datum bytes

-- A chain leaves the value out where it is the sanitizer Drop alone. With another sanitizer after Drop the value is what that one gives
-- for no bytes, as the failsafe in a value without quotes.
abbrev pub is_drop : San → Bool
is_drop san.Drop = true
is_drop x = false

abbrev pub drops_alone : List San → Bool
drops_alone [] = false
drops_alone (x ∷ []) = is_drop x
drops_alone (x ∷ y ∷ xs) = false

abbrev pub leaves_out : Chain → Bool
leaves_out c = drops_alone (sanitizers c)

-- a value that is left out has no part in the page, and any other has its bytes
abbrev pub parts_unless : Bool → List ℕ → List ShapePart
parts_unless true bytes = []
parts_unless false bytes = HolePart bytes ∷ []

abbrev pub hole_parts : Chain → List ℕ → List ShapePart
hole_parts c bytes = parts_unless (leaves_out c) bytes

-- likewise, there are no bytes of it, and those of any other are plain
abbrev pub ArePlainUnless : Bool → List ℕ → Config ValueState → Type 0
ArePlainUnless true bytes d = bytes ≡ []
ArePlainUnless false bytes d = IsPlain bytes d

abbrev pub ArePlain : Chain → List ℕ → Config ValueState → Type 0
ArePlain c bytes d = ArePlainUnless (leaves_out c) bytes d

-- Where a page's reading stands for a path before a hole, the bytes of the hole are plain in their place, and the reading of the hole as a part
-- leads to where it stands for the path after the hole: the place after the hole stands for the path's state, and the page has told the same.
abbrev pub KeepsHole : Type 0
KeepsHole = (p q : Place) (x : Chain) (datum : Data) (bytes : List ℕ) (s : LexState ValueState) (t : List LexEvent) (d : Config ValueState) → IsValid p → IsIn p s
    → after_hole p ≡ Ok (q, x) → IsBackBy x datum bytes → TextStands languages s t d
    → IsIn q (at_hole languages s) × ArePlain x bytes d
    × ((e : Config ValueState) × PageReads (hole_parts x bytes) d e × TextStands languages (at_hole languages s) (mark_in languages s t) e)
