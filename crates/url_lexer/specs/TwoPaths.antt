-- What is refused on two paths that meet in one URL.
use Rattle.std.specs.Prelude.{ℕ, ◌&&◌, ◌||◌, not, Bool, true, false, List, [], ◌∷◌, Option, Some, None}
use Rattle.url_lexer.specs.Classes.{url_class_of}
use Rattle.url_lexer.specs.Parts.{UrlPart, UrlStart, UrlOpen, UrlOpenhole, UrlPrequery, UrlQuery, UrlBad, next_part}
use Rattle.url_lexer.specs.Prefixes.{same_url_prefix, joined_prefix}
use Rattle.url_lexer.specs.Refusals.{UrlRefusal, AmbigContext}

-- whether the parts are the same, whatever the beginning spells
abbrev pub same_part : UrlPart → UrlPart → Bool
same_part UrlStart UrlStart = true
same_part (UrlOpen p) (UrlOpen q) = true
same_part UrlOpenhole UrlOpenhole = true
same_part UrlPrequery UrlPrequery = true
same_part UrlQuery UrlQuery = true
same_part UrlBad UrlBad = true
same_part _ _ = false

-- A hole where two paths are in different parts: no one chain of sanitizers fits both.
abbrev pub unless_same : Bool → Option UrlRefusal
unless_same true = None
unless_same false = Some AmbigContext

abbrev pub refuses_hole_on_two : UrlPart → UrlPart → Option UrlRefusal
refuses_hole_on_two p q = unless_same (same_part p q)

-- Two paths that go one common way meet at each of its bytes. Where both are in the beginning at such a point, and have spelled different things, they
-- are apart: from there on, as long as they stay in the beginning, a `:` is refused, since what has been spelled is no longer known.
abbrev pub are_apart : UrlPart → UrlPart → Bool
are_apart (UrlOpen p) (UrlOpen q) = not (same_url_prefix p q)
are_apart _ _ = false

abbrev pub part_after : UrlPart → List ℕ → UrlPart
part_after p [] = p
part_after p (b ∷ bs) = part_after (next_part p (url_class_of b) b) bs

abbrev pub is_open : UrlPart → Bool
is_open UrlStart = false
is_open (UrlOpen p) = true
is_open UrlOpenhole = false
is_open UrlPrequery = false
is_open UrlQuery = false
is_open UrlBad = false

-- the parts where they met first, and the bytes of text that both have read since: whether they were apart at some point, and are still in the
-- beginning at the `:` that follows
abbrev pub came_apart : UrlPart → UrlPart → List ℕ → Bool
came_apart p q [] = are_apart p q
came_apart p q (b ∷ bs) = are_apart p q || came_apart (next_part p (url_class_of b) b) (next_part q (url_class_of b) b) bs

abbrev pub clashes_at_colon : UrlPart → UrlPart → List ℕ → Bool
clashes_at_colon p q since = came_apart p q since && (is_open (part_after p since) && is_open (part_after q since))

-- the part that stands for two paths that are in the same part, whatever the beginning spells
abbrev pub joined_part : UrlPart → UrlPart → Option UrlPart
joined_part UrlStart UrlStart = Some UrlStart
joined_part (UrlOpen p) (UrlOpen q) = Some (UrlOpen (joined_prefix p q))
joined_part UrlOpenhole UrlOpenhole = Some UrlOpenhole
joined_part UrlPrequery UrlPrequery = Some UrlPrequery
joined_part UrlQuery UrlQuery = Some UrlQuery
joined_part UrlBad UrlBad = Some UrlBad
joined_part _ _ = None
