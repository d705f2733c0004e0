-- When a page, which has read the bytes of holes that the path has passed over, reads on as the path does.
use Rattle.std.specs.Prelude.{⊤, ◌≡◌, ℕ, Bool, true, false, List}
use Rattle.url_lexer.specs.Parts.{UrlPart, UrlStart, UrlOpen, UrlOpenhole, UrlPrequery, UrlQuery, UrlBad}
use Rattle.url_lexer.specs.Plain.{IsHarmless}
use Rattle.url_lexer.specs.Prefixes.{Prefix}
use Rattle.url_lexer.specs.Schemes.{UrlScheme, SchemeAhead, SchemeSoFar, SchemeIs, SchemeAbsent, SchemeUnknown}
use Rattle.url_lexer.specs.States.{Url}

-- a scheme can end no more
abbrev pub SchemeIsDecided : UrlScheme → Type 0
SchemeIsDecided SchemeAhead = ⊥
SchemeIsDecided (SchemeSoFar letters) = ⊥
SchemeIsDecided (SchemeIs letters) = ⊤
SchemeIsDecided SchemeAbsent = ⊤
SchemeIsDecided SchemeUnknown = ⊥

abbrev pub IsPastBeginning : UrlPart → Type 0
IsPastBeginning UrlStart = ⊥
IsPastBeginning (UrlOpen p) = ⊥
IsPastBeginning UrlOpenhole = ⊥
IsPastBeginning UrlPrequery = ⊤
IsPastBeginning UrlQuery = ⊤
IsPastBeginning UrlBad = ⊤

-- The part, whether the scheme is free, and the scheme on the path and on the page.
-- - Before any hole of the beginning both have read the same.
-- - Behind a hole in the beginning the path does not know the letters. The page has them, with those of the data, or knows that there is none; where
--   the hole was the first of the URL, a scheme may have ended that data may choose.
-- - Past the beginning the scheme is decided, and the same on both; where it is free, the page has none, or one that data may choose.
pub data SchemesAlike : UrlPart → Bool → UrlScheme → UrlScheme → Type 0 where
  at_start : SchemesAlike UrlStart false SchemeAhead SchemeAhead
  in_beginning : (p : Prefix) (letters : List ℕ) → SchemesAlike (UrlOpen p) false (SchemeSoFar letters) (SchemeSoFar letters)
  behind_letters : (letters : List ℕ) → SchemesAlike UrlOpenhole false SchemeUnknown (SchemeSoFar letters)
  behind_slash : SchemesAlike UrlOpenhole false SchemeUnknown SchemeAbsent
  behind_first : (s : UrlScheme) → IsHarmless s → SchemesAlike UrlOpenhole true SchemeUnknown s
  decided : (p : UrlPart) (s : UrlScheme) → IsPastBeginning p → SchemeIsDecided s → SchemesAlike p false s s
  decided_by_data : (p : UrlPart) (s : UrlScheme) → IsPastBeginning p → SchemeIsDecided s → IsHarmless s → SchemesAlike p true SchemeAbsent s

-- the path's state, and the page's
pub record UrlsAlike (v w : Url) : Type 0 where
  pub part : w.part ≡ v.part
  pub free : w.free ≡ v.free
  pub triple : w.triple ≡ v.triple
  pub schemes : SchemesAlike v.part v.free v.scheme w.scheme
