-- What the step of a set of parts promises of the parts of each path.
use Rattle.std.specs.Prelude.{◌≡◌, ℕ, false, None}
use Rattle.url_lexer.specs.Classes.{url_class_of}
use Rattle.url_lexer.specs.Holes.{url_after_cut, url_after_hole}
use Rattle.url_lexer.specs.Parts.{UrlPart, next_part, part_at_hole}
use Rattle.url_lexer.specs.Refusals.{url_refuses, url_refuses_class, url_refuses_hole, refuses_hole_in}
use Rattle.url_lexer.specs.States.{Url, feed_url}
use Rattle.url_lexer.specs.TwoPaths.{are_apart, refuses_hole_on_two}
use Rattle.url_lexer.specs.declared.class.UrlClass.{UrlClass}
use Rattle.url_lexer.specs.declared.class.UrlClass.TheVariants as class
use Rattle.place_core.specs.declared.parts.Parts.{Parts}
use Rattle.place_core.specs.place.UrlParts.{parts_of}
use Rattle.url_step.specs.PartSets.{PartsBelow, HasPart, parts_next, parts_error, parts_at_hole, parts_hole_error}
use Rattle.place_core.specs.place.LanguagePlaces.{IsValidParts}

-- On the set of one path the step is the path's own, and so is what is refused; likewise at a hole.
pub record OnePart (p : UrlPart) : Type 0 where
  pub error : (c : UrlClass) → parts_error (parts_of p) c ≡ url_refuses_class p c
  pub next : (c : UrlClass) (b : ℕ) → parts_next (parts_of p) c b ≡ parts_of (next_part p c b)
  pub hole_error : parts_hole_error (parts_of p) ≡ refuses_hole_in p
  pub at_hole : parts_at_hole (parts_of p) ≡ parts_of (part_at_hole p)

abbrev pub IsExactOnOnePart : Type 0
IsExactOnOnePart = (p : UrlPart) → OnePart p

-- Where a set refuses nothing, no part in it is refused, and each comes to a part in the next set.
pub record CoversPart (s : Parts) (p : UrlPart) : Type 0 where
  pub error : (c : UrlClass) → parts_error s c ≡ None → url_refuses_class p c ≡ None
  pub next : (c : UrlClass) (b : ℕ) → parts_error s c ≡ None → HasPart (parts_next s c b) (next_part p c b)
  pub hole_error : parts_hole_error s ≡ None → refuses_hole_in p ≡ None
  pub at_hole : parts_hole_error s ≡ None → HasPart (parts_at_hole s) (part_at_hole p)

abbrev pub CoversParts : Type 0
CoversParts = (s : Parts) (p : UrlPart) → HasPart s p → CoversPart s p

-- The same of a whole path, at a byte, at a hole, and at the end of a node, which moves no part.
pub record CoversUrl (s : Parts) (u : Url) : Type 0 where
  pub error : (b : ℕ) → parts_error s (url_class_of b) ≡ None → url_refuses u b ≡ None
  pub next : (b : ℕ) → parts_error s (url_class_of b) ≡ None → HasPart (parts_next s (url_class_of b) b) (feed_url u b).part
  pub hole_error : parts_hole_error s ≡ None → url_refuses_hole u ≡ None
  pub at_hole : parts_hole_error s ≡ None → HasPart (parts_at_hole s) (url_after_hole u).part
  pub at_cut : HasPart s (url_after_cut u).part

abbrev pub CoversUrls : Type 0
CoversUrls = (s : Parts) (u : Url) → HasPart s u.part → CoversUrl s u

-- Where a set refuses nothing, no two parts in it are refused together: at a `:` they have not spelled different things, and at a hole they are
-- the same.
pub record AgreeParts (s : Parts) (p q : UrlPart) : Type 0 where
  pub colon : parts_error s class.Colon ≡ None → are_apart p q ≡ false
  pub hole : parts_hole_error s ≡ None → refuses_hole_on_two p q ≡ None

abbrev pub PartsAgree : Type 0
PartsAgree = (s : Parts) (p q : UrlPart) → HasPart s p → HasPart s q → AgreeParts s p q

-- A set below one that is accepted is accepted, and comes to one below.
pub record GrowsParts (s t : Parts) : Type 0 where
  pub error : (c : UrlClass) → parts_error t c ≡ None → parts_error s c ≡ None
  pub next : (c : UrlClass) (b : ℕ) → parts_error t c ≡ None → PartsBelow (parts_next s c b) (parts_next t c b)
  pub hole_error : parts_hole_error t ≡ None → parts_hole_error s ≡ None
  pub at_hole : PartsBelow (parts_at_hole s) (parts_at_hole t)

abbrev pub PartsGrow : Type 0
PartsGrow = (s t : Parts) → PartsBelow s t → GrowsParts s t

-- A set with a part, and with a word of which no more is spelled than there is, comes to such ones.
pub record StaysValidParts (s : Parts) : Type 0 where
  pub next : (c : UrlClass) (b : ℕ) → IsValidParts (parts_next s c b)
  pub at_hole : IsValidParts (parts_at_hole s)

abbrev pub PartsStayValid : Type 0
PartsStayValid = (s : Parts) → IsValidParts s → StaysValidParts s
