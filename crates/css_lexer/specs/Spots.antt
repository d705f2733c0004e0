-- The place of a path in a style: what is kept where a node ends, and where the next text or hole begins.
use Rattle.std.specs.Prelude.{Bool, true, false, Option, Some, None}
use Rattle.css_lexer.specs.States.{Quote, Outside, Between, AfterLessThan, Word, AfterSolidus, Comment, InString, BadUrl, BehindHole, SplitWord, SolidusAtCut, LessThanAtCut, StarAtCut, UrlForm, Fresh, Bare, Quoted, Ended, Style, Out, InUrl}

pub data StyleSpot (U : Type 0) : Type 0 where
  -- between tokens, in words and plain text: whether they ended in a word or a hole, whose value may be one; in a `/`; and in a `<`. Before
  -- a hole a `/` or a `<` still counts, since the value may be empty.
  CodeSpot : (word solidus less : Bool) → StyleSpot U
  -- in a string
  StringSpot : Quote → StyleSpot U
  -- behind `url(`; in a URL without quotes, and in quotes; behind a URL. The whole state of the URL is kept: two of these are one place
  -- where `part_spot` of `PartSpots.antt` is the same.
  FreshSpot : StyleSpot U
  UrlSpot : U → StyleSpot U
  QuotedUrlSpot : Quote → U → StyleSpot U
  EndedSpot : StyleSpot U
  -- in a comment, which may have ended in a `*`
  CommentSpot : (star : Bool) → StyleSpot U

abbrev pub spot_outside : {U : Type 0} → Outside → Option (StyleSpot U)
spot_outside (Between k) = Some (CodeSpot false false false)
spot_outside AfterLessThan = Some (CodeSpot false false true)
spot_outside (Word w e) = Some (CodeSpot true false false)
spot_outside (AfterSolidus k) = Some (CodeSpot false true false)
spot_outside (Comment star) = Some (CommentSpot star)
spot_outside (InString q e) = Some (StringSpot q)
spot_outside BadUrl = None
spot_outside (BehindHole solidus less) = Some (CodeSpot true solidus less)
spot_outside (SplitWord e) = Some (CodeSpot true false false)
spot_outside (SolidusAtCut k) = Some (CodeSpot false true false)
spot_outside LessThanAtCut = Some (CodeSpot false false true)
spot_outside StarAtCut = Some (CommentSpot true)

abbrev pub spot_in_url : {U : Type 0} → UrlForm → U → StyleSpot U
spot_in_url Fresh u = FreshSpot
spot_in_url Bare u = UrlSpot u
spot_in_url (Quoted q e) u = QuotedUrlSpot q u
spot_in_url Ended u = EndedSpot

-- The place where a node ends in this state; none in a url that is none, which no path comes to.
abbrev pub style_spot : {U : Type 0} → Style U → Option (StyleSpot U)
style_spot (Out s) = spot_outside s
style_spot (InUrl f u) = Some (spot_in_url f u)
