-- How a style goes on over the end of a node and over a hole: on a path of a template, which knows no value, and on a page, whose bytes a
-- value has given.
use Rattle.std.specs.Prelude.{◌∷◌, Bool, true, false, List}
use Rattle.css_lexer.specs.Escapes.{NoEscape}
use Rattle.css_lexer.specs.Events.{StyleEvent, RunByte}
use Rattle.css_lexer.specs.States.{Outside, Between, AfterLessThan, Word, AfterSolidus, Comment, InString, BehindHole, SplitWord, SolidusAtCut, LessThanAtCut, StarAtCut, UrlForm, Bare, Quoted, Style, Out, InUrl}
use Rattle.css_lexer.specs.UrlReading.{UrlReading}

-- The end of a node, on a path: what the next text may not go on with is remembered. A word goes on, but is not known to be `url` any
-- more. Before and behind the URL of a url token it is not the URL that is cut. An escape that has begun is refused there, so that none is
-- open behind the end.
abbrev pub out_after_cut : Outside → Outside
out_after_cut (Word w e) = SplitWord NoEscape
out_after_cut (AfterSolidus k) = SolidusAtCut k
out_after_cut AfterLessThan = LessThanAtCut
out_after_cut (Comment true) = StarAtCut
out_after_cut (InString q e) = InString q NoEscape
out_after_cut (SplitWord e) = SplitWord NoEscape
out_after_cut s = s

abbrev pub style_after_cut : {U E : Type 0} → UrlReading U E → Style U → Style U
style_after_cut x (Out s) = Out (out_after_cut s)
style_after_cut x (InUrl Bare u) = InUrl Bare (x.after_cut u)
style_after_cut x (InUrl (Quoted q e) u) = InUrl (Quoted q NoEscape) (x.after_cut u)
style_after_cut x (InUrl f u) = InUrl f u

-- Before a hole a `/` that is not told yet is told, whatever the value begins with: no comment may begin with a value.
abbrev pub out_settled : Outside → Outside
out_settled (AfterSolidus k) = Between false
out_settled (SolidusAtCut k) = Between false
out_settled s = s

abbrev pub style_settled : {U : Type 0} → Style U → Style U
style_settled (Out s) = Out (out_settled s)
style_settled (InUrl f u) = InUrl f u

abbrev pub style_emits_settled : {U E : Type 0} → Style U → List (StyleEvent E) → List (StyleEvent E)
style_emits_settled (Out (AfterSolidus k)) t = RunByte 47 ∷ t
style_emits_settled (Out (SolidusAtCut k)) t = RunByte 47 ∷ t
style_emits_settled s t = t

-- A hole, on a path. In code the value is a part of the run, and may be empty: what stood before it still counts. In a string, a comment
-- and a URL the path stays there.
abbrev pub out_after_hole : Outside → Outside
out_after_hole (Between k) = BehindHole false false
out_after_hole AfterLessThan = BehindHole false true
out_after_hole (Word w e) = BehindHole false false
out_after_hole (AfterSolidus k) = BehindHole true false
out_after_hole (Comment true) = StarAtCut
out_after_hole (SplitWord e) = BehindHole false false
out_after_hole (SolidusAtCut k) = BehindHole true false
out_after_hole LessThanAtCut = BehindHole false true
out_after_hole s = s

-- A URL begins with the value, if it has not begun. Behind the URL a hole is refused; whatever it led to, no text would follow.
abbrev pub form_after_hole : UrlForm → UrlForm
form_after_hole (Quoted q e) = Quoted q e
form_after_hole f = Bare

abbrev pub style_after_hole : {U E : Type 0} → UrlReading U E → Style U → Style U
style_after_hole x (Out s) = Out (out_after_hole s)
style_after_hole x (InUrl f u) = InUrl (form_after_hole f) (x.after_hole u)

-- Whether a hole there has a mark: in a comment it has none, since nothing of a comment is told.
abbrev pub out_has_mark : Outside → Bool
out_has_mark (Comment star) = false
out_has_mark StarAtCut = false
out_has_mark s = true

abbrev pub has_mark : {U : Type 0} → Style U → Bool
has_mark (Out s) = out_has_mark s
has_mark (InUrl f u) = true

-- A hole, on a page: what the bytes of the value have led to. A blank that they have told is no longer the last that was told, since the
-- value stands there. A URL is behind the value as its language says.
abbrev pub style_behind : {U E : Type 0} → UrlReading U E → Style U → Style U → Style U
style_behind x before (Out (Between k)) = Out (Between false)
style_behind x before (Out s) = Out s
style_behind x (InUrl f u) (InUrl g w) = InUrl g (x.behind u w)
style_behind x before (InUrl g w) = InUrl g w
