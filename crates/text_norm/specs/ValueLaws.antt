-- What a language of values owes, so that a page may be in another state of it than the path, after the bytes of a hole. All that is asked of two
-- states that are alike is that the path's texts are read alike in both.
use Rattle.std.specs.Prelude.{◌≡◌, ℕ, List, None}
use Rattle.place_core.specs.page.Events.{LexEvent}
use Rattle.place_core.specs.page.Tags.{ValueLanguage}
use Rattle.place_core.specs.declared.kind.Kind.{Kind}

-- `v` is the state of the path, and `w` that of the page.
-- - A value of a kind begins in both in the same state, which is alike to itself.
-- - A byte that is not refused on the path tells in the page what it tells on the path (`emits`), and leads to states that are alike (`feeds`).
--   Of a byte that is refused nothing is asked, since no page has it.
-- - The end of the value tells the same (`ends`).
-- - The end of a node that is not refused leads the path alone to another state, which is still alike to the page's (`after_cut`).
-- - A hole: what is pending back before it tells the same (`settles`), and it has a mark on both or on neither (`marks`). Bytes that are plain in the
--   page lead it, from where it has told that, to a state behind the hole to which the path's state after the hole is alike (`hole`).
pub record ValueLanguageLaws (B : Type 0) (x : ValueLanguage B) : Type 0 where
  pub begins : (k : Kind) → x.AreAlike (x.start k) (x.start k)
  pub emits : (v w : B) (b : ℕ) (t : List LexEvent) → x.AreAlike v w → x.refuses v b ≡ None → x.emits w b t ≡ x.emits v b t
  pub feeds : (v w : B) (b : ℕ) → x.AreAlike v w → x.refuses v b ≡ None → x.AreAlike (x.feed v b) (x.feed w b)
  pub ends : (v w : B) (t : List LexEvent) → x.AreAlike v w → x.ends w t ≡ x.ends v t
  pub after_cut : (v w : B) → x.AreAlike v w → x.refuses_cut v ≡ None → x.AreAlike (x.after_cut v) w
  pub settles : (v w : B) (t : List LexEvent) → x.AreAlike v w → x.emits_settled w t ≡ x.emits_settled v t
  pub marks : (v w : B) → x.AreAlike v w → x.has_mark w ≡ x.has_mark v
  pub hole : (v w after : B) (bytes : List ℕ) → x.AreAlike v w → x.LeadsPlain (x.settled w) bytes after
      → x.AreAlike (x.after_hole v) (x.behind (x.settled w) after)
