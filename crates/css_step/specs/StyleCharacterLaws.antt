-- What the characters of a style promise: of one place below another, of one path, of the paths at a place, and of the members of a place.
use Rattle.std.specs.Prelude.{◌≡◌, ◌++◌, ◌⊎◌, ℕ, encode_utf8, length, List, [], ◌∷◌, Option, None, Some, option_map, Ok, Err}
use Rattle.css_lexer.specs.Classes.{style_class}
use Rattle.css_lexer.specs.Paths.{style_after_cut}
use Rattle.css_lexer.specs.RefusalCodes.{StyleCutRefusal}
use Rattle.css_lexer.specs.Refusals.{style_refuses, style_refuses_cut}
use Rattle.css_lexer.specs.States.{Style}
use Rattle.css_lexer.specs.Steps.{style_next}
use Rattle.css_lexer.specs.Urls.{urls}
use Rattle.place_core.specs.page.Tags.{style_code}
use Rattle.place_core.specs.place.LanguagePlaces.{IsValidCss}
use Rattle.place_core.specs.place.StyleParts.{style_body}
use Rattle.place_core.specs.declared.body.Body.TheVariants as body
use Rattle.place_core.specs.declared.code.Code.{Code}
use Rattle.place_core.specs.declared.css.Css.{Css}
use Rattle.place_core.specs.declared.member.Member.{Member}
use Rattle.place_core.specs.declared.mode.Mode.{Mode}
use Rattle.place_core.specs.declared.mode.Mode.TheVariants as mode
use Rattle.place_core.specs.declared.step.Step.TheVariants as step
use Rattle.place_core.specs.declared.step_err.StepErr.{StepErr}
use Rattle.url_lexer.specs.States.{Url}
use Rattle.url_step.specs.PartTexts.{scalar_of, unless_byte_refused}
use Rattle.url_step.specs.TextLaws.{text_bytes, place_after}
use Rattle.css_step.specs.StyleCharacters.{StyleText, after_style_characters}
use Rattle.css_step.specs.StyleScans.{style_scan_start}
use Rattle.css_step.specs.StyleScanLaws.{IsStyleScan}
use Rattle.css_step.specs.StyleSetLaws.{StyleBelow, HasStyle}
use Rattle.css_step.specs.StyleTexts.{style_text, StyleHas, IsStyleTextOrigin}

-- Where a place accepts characters, one below it accepts them, and comes to one below.
abbrev pub StyleTextsGrow : Type 0
StyleTextsGrow = (m : Mode) (cs : List (ℕ × ℕ)) (c d b : Css) → StyleBelow c d → after_style_characters m cs d ≡ Ok (step.Inside b)
    → (a : Css) × (after_style_characters m cs c ≡ Ok (step.Inside a)) × StyleBelow a b

-- the first of bytes that is refused on a path; and its end, which is refused in a node alone
abbrev pub style_path_error : Style Url → List ℕ → Option Code
style_path_error v [] = None
style_path_error v (b ∷ bs) =
    unless_byte_refused (option_map style_code (style_refuses urls v b)) (style_path_error (style_next urls v (style_class b) b) bs)

abbrev pub style_path_end_error : Mode → Style Url → Option StyleCutRefusal
style_path_end_error mode.Whole v = None
style_path_end_error m v = style_refuses_cut urls v

-- the place of a path, where a text ends with it
abbrev pub StandsInStyle : Style Url → Css → Type 0
StandsInStyle v c = style_body (style_after_cut urls v) ≡ Some (body.Css c)

-- Nothing is refused on the path, which comes to this place.
pub record StyleAccepts (m : Mode) (cs : List (ℕ × ℕ)) (v : Style Url) (after : Css) : Type 0 where
  pub stands : StandsInStyle (style_text (text_bytes cs) v) after
  pub accepted : style_path_error v (text_bytes cs) ≡ None
  pub ends : style_path_end_error m (style_text (text_bytes cs) v) ≡ None

-- A byte of a character is refused on the path, and none before that character.
pub record RefusesStyleCharacter (cs : List (ℕ × ℕ)) (v : Style Url) (e : StepErr Css) : Type 0 where
  pub read : List (ℕ × ℕ)
  pub character : ℕ × ℕ
  pub rest : List (ℕ × ℕ)
  pub whole : cs ≡ read ++ character ∷ rest
  pub accepted : style_path_error v (text_bytes read) ≡ None
  pub refused : style_path_error (style_text (text_bytes read) v) (encode_utf8 (scalar_of character.0)) ≡ Some e.code
  pub place : e.at ≡ character.1
  pub before : StandsInStyle (style_text (text_bytes read) v) e.before

-- No byte is, and the node may not end there: in an escape or a percent triple. It is shown at the place before that.
pub record RefusesStyleEnd (m : Mode) (cs : List (ℕ × ℕ)) (v : Style Url) (e : StepErr Css) : Type 0 where
  pub read : List ℕ
  pub lexeme : List ℕ
  pub cut : StyleCutRefusal
  pub whole : text_bytes cs ≡ read ++ lexeme
  pub accepted : style_path_error v (text_bytes cs) ≡ None
  pub refused : style_path_end_error m (style_text (text_bytes cs) v) ≡ Some cut
  pub shown : length lexeme ≡ cut.shown
  pub named : e.code ≡ style_code cut.code
  pub place : e.at ≡ place_after 0 cs
  pub before : StandsInStyle (style_text read v) e.before

-- From the place of one path, where a text begins as on the path, the answer is the path's own.
abbrev pub StyleAnswers : Mode → List (ℕ × ℕ) → Style Url → StyleText → Type 0
StyleAnswers m cs v (Ok (step.Inside c)) = StyleAccepts m cs v c
StyleAnswers m cs v (Ok (step.Ends n)) = ⊥
StyleAnswers m cs v (Err e) = RefusesStyleCharacter cs v e ⊎ RefusesStyleEnd m cs v e

abbrev pub IsExactOnOneStyleText : Type 0
IsExactOnOneStyleText = (m : Mode) (cs : List (ℕ × ℕ)) (v : Style Url) (c : Css) → IsStyleScan v (style_scan_start c)
    → StyleAnswers m cs v (after_style_characters m cs c)

-- Where a place accepts characters, a path there is refused neither in them nor at their end, and comes to a place below the one behind them; where
-- the node may end on it, it is among those with which the next text begins there.
pub record CoversStyleCharacters (m : Mode) (cs : List (ℕ × ℕ)) (v : Style Url) (after : Css) : Type 0 where
  pub accepted : style_path_error v (text_bytes cs) ≡ None
  pub ends : style_path_end_error m (style_text (text_bytes cs) v) ≡ None
  pub own : Css
  pub stands : StandsInStyle (style_text (text_bytes cs) v) own
  pub below : StyleBelow own after
  pub next : style_refuses_cut urls (style_text (text_bytes cs) v) ≡ None
      → HasStyle (style_scan_start after) (style_after_cut urls (style_text (text_bytes cs) v))

abbrev pub StyleTextsCover : Type 0
StyleTextsCover = (m : Mode) (cs : List (ℕ × ℕ)) (c b : Css) (v : Style Url) → HasStyle (style_scan_start c) v
    → after_style_characters m cs c ≡ Ok (step.Inside b) → CoversStyleCharacters m cs v b

-- A place whose URLs have valid parts comes to such places, and so is the one that is shown with a refusal.
abbrev pub IsValidStyleText : StyleText → Type 0
IsValidStyleText (Ok (step.Inside c)) = IsValidCss c
IsValidStyleText (Ok (step.Ends n)) = ⊥
IsValidStyleText (Err e) = IsValidCss e.before

abbrev pub StyleTextsStayValid : Type 0
StyleTextsStayValid = (m : Mode) (cs : List (ℕ × ℕ)) (c : Css) → IsValidCss c → IsValidStyleText (after_style_characters m cs c)

-- A member of the place behind characters that end with the node comes from one before them, on whatever path at that place bears it.
abbrev pub StyleCharactersComeFrom : Type 0
StyleCharactersComeFrom = (cs : List (ℕ × ℕ)) (c b : Css) (y : Member) → after_style_characters mode.Open cs c ≡ Ok (step.Inside b) → StyleHas b y
    → (x : Member) × IsStyleTextOrigin c (λ v. style_after_cut urls (style_text (text_bytes cs) v)) y x
