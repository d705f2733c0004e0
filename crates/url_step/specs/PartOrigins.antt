-- The members of a set of parts come from members before, and what it refuses is refused on paths that are in it.
use Rattle.std.specs.Prelude.{◌≡◌, ℕ, true, Some, None}
use Rattle.place_core.specs.declared.member.Member.{Member}
use Rattle.place_core.specs.declared.parts.Parts.{Parts}
use Rattle.place_core.specs.declared.prefix.Prefix.TheVariants as prefix
use Rattle.place_core.specs.place.LanguagePlaces.{parts_have}
use Rattle.url_lexer.specs.Parts.{UrlPart, next_part, part_at_hole}
use Rattle.url_lexer.specs.Refusals.{UrlRefusal, url_refuses_class, refuses_hole_in}
use Rattle.url_lexer.specs.TwoPaths.{refuses_hole_on_two}
use Rattle.url_lexer.specs.declared.class.UrlClass.{UrlClass}
use Rattle.url_lexer.specs.declared.class.UrlClass.TheVariants as class
use Rattle.place_core.specs.place.UrlParts.{parts_of}
use Rattle.url_step.specs.PartSets.{HasPart, parts_next, parts_error, parts_at_hole, parts_hole_error}

-- the part of a path is this member, whatever the beginning spells
abbrev pub PartBears : UrlPart → Member → Type 0
PartBears p x = parts_have (parts_of p) x ≡ true

-- A member of the next set comes from one before the byte, on whatever path of the set bears that one.
pub record IsPartOrigin (s : Parts) (c : UrlClass) (b : ℕ) (y x : Member) : Type 0 where
  pub has : parts_have s x ≡ true
  pub leads : (p : UrlPart) → HasPart s p → PartBears p x → PartBears (next_part p c b) y

abbrev pub PartsComeFrom : Type 0
PartsComeFrom = (s : Parts) (c : UrlClass) (b : ℕ) (y : Member) → parts_error s c ≡ None → parts_have (parts_next s c b) y ≡ true
    → (x : Member) × IsPartOrigin s c b y x

-- Likewise behind a hole.
pub record IsPartHoleOrigin (s : Parts) (y x : Member) : Type 0 where
  pub has : parts_have s x ≡ true
  pub leads : (p : UrlPart) → PartBears p x → PartBears (part_at_hole p) y

abbrev pub PartsComeFromHole : Type 0
PartsComeFromHole = (s : Parts) (y : Member) → parts_have (parts_at_hole s) y ≡ true → (x : Member) × IsPartHoleOrigin s y x

-- A refused `:` is refused on whatever path bears some member; or the prefixes of paths differ.
pub data PartColonEvidence (s : Parts) (e : UrlRefusal) : Type 0 where
  on_one : (x : Member) → parts_have s x ≡ true → ((p : UrlPart) → PartBears p x → url_refuses_class p class.Colon ≡ Some e) → PartColonEvidence s e
  on_apart : s.opened ≡ Some prefix.Differs → PartColonEvidence s e

abbrev pub ColonIsShown : Type 0
ColonIsShown = (s : Parts) (e : UrlRefusal) → parts_error s class.Colon ≡ Some e → PartColonEvidence s e

-- A refused hole is refused on whatever path bears some member, or on any two that bear two members.
pub data PartHoleEvidence (s : Parts) (e : UrlRefusal) : Type 0 where
  hole_on_one : (x : Member) → parts_have s x ≡ true → ((p : UrlPart) → PartBears p x → refuses_hole_in p ≡ Some e) → PartHoleEvidence s e
  hole_on_two : (x y : Member) → parts_have s x ≡ true → parts_have s y ≡ true
      → ((p q : UrlPart) → PartBears p x → PartBears q y → refuses_hole_on_two p q ≡ Some e) → PartHoleEvidence s e

abbrev pub HoleIsShown : Type 0
HoleIsShown = (s : Parts) (e : UrlRefusal) → parts_hole_error s ≡ Some e → PartHoleEvidence s e
