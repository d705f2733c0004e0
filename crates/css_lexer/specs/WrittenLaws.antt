-- In the element a page reads what is written, and a path what the template has: comments too. What the page owes the path there.
use Rattle.std.specs.Prelude.{◌≡◌, ℕ, true, List, [], ◌∷◌, None}
use Rattle.css_lexer.specs.Alike.{StylesAlike}
use Rattle.css_lexer.specs.Events.{StyleEvent}
use Rattle.css_lexer.specs.Paths.{style_after_cut}
use Rattle.css_lexer.specs.Refusals.{style_refuses, style_refuses_cut}
use Rattle.css_lexer.specs.States.{Outside, Between, AfterSolidus, Comment, StarAtCut, Style, Out, InUrl, style_start}
use Rattle.css_lexer.specs.Steps.{feed_style, style_emits, style_ends, StyleReading, style_reading, read_style}
use Rattle.css_lexer.specs.UrlReading.{UrlReading}
use Rattle.css_lexer.specs.Written.{style_written, style_written_at_cut}

-- the page is in a state that is alike to the path's, and has told the same
pub record StandsAt {U E : Type 0} (x : UrlReading U E) (v : Style U) (t : List (StyleEvent E)) (d : StyleReading U E) : Type 0 where
  pub alike : StylesAlike x v d.at
  pub told : d.told ≡ t

-- Where the path is behind a `/`, the page stands before it: it would be alike behind one. Where the path is in a comment, the page
-- stands before the space of its part, or behind the one of an earlier part: it would come to the same behind a space.
abbrev pub StandsOutside : {U E : Type 0} → UrlReading U E → Outside → List (StyleEvent E) → StyleReading U E → Type 0
StandsOutside x (AfterSolidus k) t d = StandsAt x (Out (AfterSolidus k)) t (read_style x (47 ∷ []) d)
StandsOutside x (Comment star) t d = read_style x (32 ∷ []) d ≡ style_reading (Out (Between true)) t
StandsOutside x StarAtCut t d = read_style x (32 ∷ []) d ≡ style_reading (Out (Between true)) t
StandsOutside x s t d = StandsAt x (Out s) t d

abbrev pub Stands : {U E : Type 0} → UrlReading U E → Style U → List (StyleEvent E) → StyleReading U E → Type 0
Stands x (Out s) t d = StandsOutside x s t d
Stands x (InUrl f u) t d = StandsAt x (InUrl f u) t d

-- What is written keeps it: of a byte that is not refused, and of a node's end that is not; and at the end of the element the page tells
-- what the path tells.
pub record StyleWrittenLaws (U E : Type 0) (x : UrlReading U E) : Type 0 where
  pub begins : Stands x style_start [] (style_reading style_start [])
  pub byte : (v : Style U) (b : ℕ) (t : List (StyleEvent E)) (d : StyleReading U E) → Stands x v t d → style_refuses x v b ≡ None → Stands x (feed_style x v b) (style_emits x v b t) (read_style x (style_written x v b) d)
  pub cut : (v : Style U) (t : List (StyleEvent E)) (d : StyleReading U E) → Stands x v t d → style_refuses_cut x v ≡ None → Stands x (style_after_cut x v) t (read_style x (style_written_at_cut v) d)
  pub ends : (v : Style U) (t : List (StyleEvent E)) (d : StyleReading U E) → Stands x v t d → style_ends x (read_style x (style_written_at_cut v) d).at (read_style x (style_written_at_cut v) d).told ≡ style_ends x v t
