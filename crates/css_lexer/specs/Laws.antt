-- What a language of values owes, for styles, and what it owes it to: the language of the URLs in it.
use Rattle.std.specs.Prelude.{◌≡◌, ℕ, List, None}
use Rattle.css_lexer.specs.Alike.{StylesAlike}
use Rattle.css_lexer.specs.Events.{StyleEvent}
use Rattle.css_lexer.specs.Paths.{style_after_cut, style_settled, style_emits_settled, has_mark, style_after_hole, style_behind}
use Rattle.css_lexer.specs.Plain.{StyleLeadsPlain}
use Rattle.css_lexer.specs.Refusals.{style_refuses, style_refuses_cut}
use Rattle.css_lexer.specs.States.{Style, style_start}
use Rattle.css_lexer.specs.Steps.{feed_style, style_emits, style_ends}
use Rattle.css_lexer.specs.UrlReading.{UrlReading}

-- Of URLs: the state of the path comes first, then that of the page.
pub record UrlReadingLaws (U E : Type 0) (x : UrlReading U E) : Type 0 where
  pub begins : x.AreAlike x.start x.start
  pub emits : (u w : U) (b : ℕ) → x.AreAlike u w → x.refuses u b ≡ None → x.emits w b ≡ x.emits u b
  pub feeds : (u w : U) (b : ℕ) → x.AreAlike u w → x.refuses u b ≡ None → x.AreAlike (x.feed u b) (x.feed w b)
  pub ends : (u w : U) → x.AreAlike u w → x.ends w ≡ x.ends u
  pub after_cut : (u w : U) → x.AreAlike u w → x.refuses_cut u ≡ None → x.AreAlike (x.after_cut u) w
  pub hole : (u w after : U) → x.AreAlike u w → x.LeadsPlain w after → x.AreAlike (x.after_hole u) (x.behind w after)

-- Of styles.
-- - A style begins in both in the same state, which is alike to itself.
-- - A byte that is not refused on the path tells in the page what it tells on the path (`emits`), and leads to states that are alike
--   (`feeds`).
-- - The end of the value tells the same (`ends`).
-- - The end of a node that is not refused leads the path alone to another state, which is still alike to the page's (`after_cut`).
-- - A hole: what is pending before it tells the same (`settles`), and it has a mark on both or on neither (`marks`). Bytes that are plain
--   in the page lead it, from where it has told that, to a state behind the hole to which the path's state after the hole is alike
--   (`hole`).
pub record StyleLaws (U E : Type 0) (x : UrlReading U E) : Type 0 where
  pub begins : StylesAlike x style_start style_start
  pub emits : (v w : Style U) (b : ℕ) (t : List (StyleEvent E)) → StylesAlike x v w → style_refuses x v b ≡ None → style_emits x w b t ≡ style_emits x v b t
  pub feeds : (v w : Style U) (b : ℕ) → StylesAlike x v w → style_refuses x v b ≡ None → StylesAlike x (feed_style x v b) (feed_style x w b)
  pub ends : (v w : Style U) (t : List (StyleEvent E)) → StylesAlike x v w → style_ends x w t ≡ style_ends x v t
  pub after_cut : (v w : Style U) → StylesAlike x v w → style_refuses_cut x v ≡ None → StylesAlike x (style_after_cut x v) w
  pub settles : (v w : Style U) (t : List (StyleEvent E)) → StylesAlike x v w → style_emits_settled w t ≡ style_emits_settled v t
  pub marks : (v w : Style U) → StylesAlike x v w → has_mark w ≡ has_mark v
  pub hole : (v w after : Style U) → StylesAlike x v w → StyleLeadsPlain x (style_settled w) after → StylesAlike x (style_after_hole x v) (style_behind x (style_settled w) after)
