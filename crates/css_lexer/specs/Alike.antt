-- When a page reads the texts of a path as the path does, though its state is another one: behind a node's end, which the page does not
-- see, and behind a hole, whose value the path does not see.
use Rattle.std.specs.Prelude.{Bool, false, ⊤}
use Rattle.css_lexer.specs.Escapes.{StyleEscape, NoEscape}
use Rattle.css_lexer.specs.States.{UrlWord, Outside, Between, AfterLessThan, Word, AfterSolidus, Comment, BehindHole, SplitWord, SolidusAtCut, LessThanAtCut, StarAtCut, UrlForm, Fresh, Bare, Ended, Style, Out, InUrl}
use Rattle.css_lexer.specs.UrlReading.{UrlReading}

-- a state in which a page may be: the others are of paths alone
abbrev pub IsOfPage : Outside → Type 0
IsOfPage (BehindHole solidus less) = ⊥
IsOfPage (SplitWord e) = ⊥
IsOfPage (SolidusAtCut k) = ⊥
IsOfPage LessThanAtCut = ⊥
IsOfPage StarAtCut = ⊥
IsOfPage s = ⊤

-- the state of the path, and that of the page
pub data AreAlikeOutside : Outside → Outside → Type 0 where
  the_same : (s : Outside) → IsOfPage s → AreAlikeOutside s s
  -- behind a hole: in whatever word the page is, or in none
  hole_between : (solidus less : Bool) → AreAlikeOutside (BehindHole solidus less) (Between false)
  hole_less_than : (solidus less : Bool) → AreAlikeOutside (BehindHole solidus less) AfterLessThan
  hole_word : (solidus less : Bool) (w : UrlWord) → AreAlikeOutside (BehindHole solidus less) (Word w NoEscape)
  -- in a word over a node's end or over a hole
  split_word : (w : UrlWord) (e : StyleEscape) → AreAlikeOutside (SplitWord e) (Word w e)
  -- behind a node's end
  cut_solidus : (k : Bool) → AreAlikeOutside (SolidusAtCut k) (AfterSolidus k)
  cut_less_than : AreAlikeOutside LessThanAtCut AfterLessThan
  -- in a comment, whether or not a value has come between the `*` and what follows
  cut_star : (star : Bool) → AreAlikeOutside StarAtCut (Comment star)

pub data StylesAlike {U E : Type 0} (x : UrlReading U E) : Style U → Style U → Type 0 where
  outside : {s r : Outside} → AreAlikeOutside s r → StylesAlike x (Out s) (Out r)
  in_url : (f : UrlForm) {u w : U} → x.AreAlike u w → StylesAlike x (InUrl f u) (InUrl f w)
  -- the value was empty, so that no URL has begun on the page
  unbegun : {u w : U} → x.AreAlike u w → StylesAlike x (InUrl Bare u) (InUrl Fresh w)
  unbegun_ended : {u w : U} → x.AreAlike u w → StylesAlike x (InUrl Ended u) (InUrl Fresh w)
