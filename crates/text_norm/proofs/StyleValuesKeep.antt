-- A value that is a style: the laws of styles, in which what they tell is told inside a value.
use Rattle.std.proofs.Common.{◌≡◌, ℕ, List, [], Option, Some, None, option_map, refl, ap}
use Rattle.css_lexer.specs.Events.{StyleEvent}
use Rattle.css_lexer.specs.Laws.{StyleLaws}
use Rattle.css_lexer.specs.RefusalCodes.{RefusalCode, StyleCutRefusal}
use Rattle.css_lexer.specs.Refusals.{style_refuses, style_refuses_cut}
use Rattle.css_lexer.specs.States.{Style}
use Rattle.css_lexer.specs.Urls.{urls}
use Rattle.css_lexer.proofs.StylesOfUrls.{styles-of-urls-keep}
use Rattle.place_core.specs.page.Events.{LexEvent, told_in_style}
use Rattle.place_core.specs.page.Tags.{OfStyle, StatesAlike, emits_state, emits_value_settled, ends_state, feed_value, refuses_in_value, refuses_value_cut, style_code, value_after_cut}
use Rattle.url_lexer.specs.Events.{UrlEvent}
use Rattle.url_lexer.specs.States.{Url}
use Rattle.url_lexer.proofs.Language.{language-laws}
use Rattle.html_step.proofs.OnePath.{some}

pub style-laws : StyleLaws Url UrlEvent urls
style-laws = styles-of-urls-keep language-laws

-- what is not refused of a style
not-refused : (o : Option RefusalCode) → option_map style_code o ≡ None → o ≡ None
not-refused None n = refl
not-refused (Some e) n = absurd (some _ n)

not-cut : (o : Option StyleCutRefusal) → option_map (λ (e : StyleCutRefusal). style_code e.code) o ≡ None → o ≡ None
not-cut None n = refl
not-cut (Some e) n = absurd (some _ n)

-- styles that tell the same tell the same in a value
told : (es fs : List (StyleEvent UrlEvent)) (t : List LexEvent) → es ≡ fs → told_in_style es t ≡ told_in_style fs t
told es fs t e = ap (λ (z : List (StyleEvent UrlEvent)). told_in_style z t) e

-- each law, of two styles that are alike
pub style-emits : (s r : Style Url) (b : ℕ) (t : List LexEvent) → StatesAlike (OfStyle s) (OfStyle r) → refuses_in_value (OfStyle s) b ≡ None
    → emits_state (OfStyle r) b t ≡ emits_state (OfStyle s) b t
style-emits s r b t a n = told _ _ t (style-laws.emits s r b [] a (not-refused (style_refuses urls s b) n))

pub style-feeds : (s r : Style Url) (b : ℕ) → StatesAlike (OfStyle s) (OfStyle r) → refuses_in_value (OfStyle s) b ≡ None
    → StatesAlike (feed_value (OfStyle s) b) (feed_value (OfStyle r) b)
style-feeds s r b a n = style-laws.feeds s r b a (not-refused (style_refuses urls s b) n)

pub style-ends : (s r : Style Url) (t : List LexEvent) → StatesAlike (OfStyle s) (OfStyle r) → ends_state (OfStyle r) t ≡ ends_state (OfStyle s) t
style-ends s r t a = told _ _ t (style-laws.ends s r [] a)

pub style-after-cut : (s r : Style Url) → StatesAlike (OfStyle s) (OfStyle r) → refuses_value_cut (OfStyle s) ≡ None
    → StatesAlike (value_after_cut (OfStyle s)) (OfStyle r)
style-after-cut s r a n = style-laws.after_cut s r a (not-cut (style_refuses_cut urls s) n)

pub style-settles : (s r : Style Url) (t : List LexEvent) → StatesAlike (OfStyle s) (OfStyle r)
    → emits_value_settled (OfStyle r) t ≡ emits_value_settled (OfStyle s) t
style-settles s r t a = told _ _ t (style-laws.settles s r [] a)
