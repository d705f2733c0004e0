-- What a style owes for a value in a URL: what is written of it by the rules of URLs stays in its url token.
use Rattle.std.specs.Prelude.{◌≡◌, ℕ, nat_lt, Bool, true, IsTrue, List, [], ◌∷◌, ⊤}
use Rattle.std.specs.List.{list_all}
use Rattle.css_lexer.specs.Escapes.{NoEscape}
use Rattle.css_lexer.specs.Plain.{MayStandInUrl, only_url}
use Rattle.css_lexer.specs.States.{UrlForm, Fresh, Bare, Quoted, InUrl}
use Rattle.css_lexer.specs.Steps.{style_reading, read_style}
use Rattle.css_lexer.specs.UrlReading.{UrlReading}
use Rattle.url_lexer.specs.Parts.{UrlPart}
use Rattle.url_lexer.specs.Sanitizers.{written_in}

-- In a url token, where a hole may be: before the URL, in it, and in its quotes with no escape open.
abbrev pub UrlTakesHole : UrlForm → Type 0
UrlTakesHole Fresh = ⊤
UrlTakesHole Bare = ⊤
UrlTakesHole (Quoted q NoEscape) = ⊤
UrlTakesHole f = ⊥

-- bytes begin the URL that has not begun
abbrev pub begun : UrlForm → UrlForm
begun Fresh = Bare
begun f = f

abbrev pub form_behind : UrlForm → List ℕ → UrlForm
form_behind f [] = f
form_behind f (b ∷ bs) = begun f

-- where bytes lead a URL by itself
abbrev pub fed : {U E : Type 0} → UrlReading U E → U → List ℕ → U
fed x u [] = u
fed x u (b ∷ bs) = fed x (x.feed u b) bs

-- These bytes stay in the URL and are all read by its language, with quotes and without: what is plain for that is plain in the style.
pub record StaysInUrl {U E : Type 0} (x : UrlReading U E) (bytes : List ℕ) : Type 0 where
  pub allowed : MayStandInUrl bytes
  pub leads : (f : UrlForm) (u : U) → UrlTakesHole f → (read_style x bytes (style_reading (InUrl f u) [])).at ≡ InUrl (form_behind f bytes) (fed x u bytes)
  pub tells : (f : UrlForm) (u : U) → UrlTakesHole f → IsTrue (only_url (read_style x bytes (style_reading (InUrl f u) [])).told)

abbrev pub is_byte : ℕ → Bool
is_byte b = nat_lt b 256

-- so it is for what is written in any part of a URL, whatever the text
abbrev pub ValuesStayInUrls : {U E : Type 0} → UrlReading U E → Type 0
ValuesStayInUrls x = (p : UrlPart) (text : List ℕ) → list_all is_byte text ≡ true → StaysInUrl x (written_in p text)
