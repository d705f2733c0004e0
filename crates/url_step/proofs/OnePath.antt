-- On the set of one path the step is the path's own.
use Rattle.std.proofs.Common.{◌≡◌, ℕ, Bool, true, false, ◌||◌, not, None, refl, ap, ◌∙◌}
use Rattle.url_lexer.specs.Parts.{UrlPart, UrlStart, UrlOpen, UrlOpenhole, UrlPrequery, UrlQuery, UrlBad, next_part, part_behind_scheme, part_at_hole}
use Rattle.url_lexer.specs.Prefixes.{Prefix, Off, Javascript, Vbscript, DataScheme, Differs, is_whole_word, prefix_with_letter}
use Rattle.url_lexer.specs.Refusals.{url_refuses_class, refuses_hole_in}
use Rattle.url_lexer.specs.declared.class.UrlClass.{UrlClass}
use Rattle.url_lexer.specs.declared.class.UrlClass.TheVariants as class
use Rattle.place_core.specs.declared.parts.Parts.{Parts}
use Rattle.url_step.specs.PartLaws.{IsExactOnOnePart}
use Rattle.place_core.specs.place.UrlParts.{placed_prefix, parts_of}
use Rattle.url_step.specs.PartSets.{spelled_prefix, parts_next, parts_error, parts_at_hole, parts_hole_error}

pub spelled-placed : (p : Prefix) → spelled_prefix (placed_prefix p) ≡ p
spelled-placed Off = refl
spelled-placed (Javascript n) = refl
spelled-placed (Vbscript n) = refl
spelled-placed (DataScheme n) = refl
spelled-placed Differs = refl

-- behind the `:` of a scheme that is code or not
abbrev behind_colon : Bool → Parts
behind_colon x = record { start = false; opened = None; openhole = false; prequery = not x || false; query = false; bad = x || false }

colon-by : (x : Bool) → behind_colon x ≡ parts_of (part_behind_scheme x)
colon-by true = refl
colon-by false = refl

opened-letter : (p : Prefix) (b : ℕ) → parts_of (UrlOpen (prefix_with_letter (spelled_prefix (placed_prefix p)) b)) ≡ parts_of (UrlOpen (prefix_with_letter p b))
opened-letter p b = ap (λ (z : Prefix). parts_of (UrlOpen (prefix_with_letter z b))) (spelled-placed p)

open-next : (p : Prefix) (c : UrlClass) (b : ℕ) → parts_next (parts_of (UrlOpen p)) c b ≡ parts_of (next_part (UrlOpen p) c b)
open-next p class.TabOrNewline b = refl
open-next p class.Colon b = ap (λ (z : Prefix). behind_colon (is_whole_word z)) (spelled-placed p) ∙ colon-by (is_whole_word p)
open-next p class.Slash b = refl
open-next p class.QueryMark b = refl
open-next p _ b = opened-letter p b

start-next : (c : UrlClass) (b : ℕ) → parts_next (parts_of UrlStart) c b ≡ parts_of (next_part UrlStart c b)
start-next class.TabOrNewline b = refl
start-next class.ControlOrSpace b = refl
start-next class.Colon b = refl
start-next class.Slash b = refl
start-next class.QueryMark b = refl
start-next _ b = refl

openhole-next : (c : UrlClass) (b : ℕ) → parts_next (parts_of UrlOpenhole) c b ≡ parts_of (next_part UrlOpenhole c b)
openhole-next class.TabOrNewline b = refl
openhole-next class.ControlOrSpace b = refl
openhole-next class.Colon b = refl
openhole-next class.Slash b = refl
openhole-next class.QueryMark b = refl
openhole-next _ b = refl

prequery-next : (c : UrlClass) (b : ℕ) → parts_next (parts_of UrlPrequery) c b ≡ parts_of (next_part UrlPrequery c b)
prequery-next class.TabOrNewline b = refl
prequery-next class.ControlOrSpace b = refl
prequery-next class.Colon b = refl
prequery-next class.Slash b = refl
prequery-next class.QueryMark b = refl
prequery-next _ b = refl

query-next : (c : UrlClass) (b : ℕ) → parts_next (parts_of UrlQuery) c b ≡ parts_of (next_part UrlQuery c b)
query-next class.TabOrNewline b = refl
query-next class.ControlOrSpace b = refl
query-next class.Colon b = refl
query-next class.Slash b = refl
query-next class.QueryMark b = refl
query-next _ b = refl

bad-next : (c : UrlClass) (b : ℕ) → parts_next (parts_of UrlBad) c b ≡ parts_of (next_part UrlBad c b)
bad-next class.TabOrNewline b = refl
bad-next class.ControlOrSpace b = refl
bad-next class.Colon b = refl
bad-next class.Slash b = refl
bad-next class.QueryMark b = refl
bad-next _ b = refl

pub one-next : (p : UrlPart) (c : UrlClass) (b : ℕ) → parts_next (parts_of p) c b ≡ parts_of (next_part p c b)
one-next UrlStart c b = start-next c b
one-next (UrlOpen p) c b = open-next p c b
one-next UrlOpenhole c b = openhole-next c b
one-next UrlPrequery c b = prequery-next c b
one-next UrlQuery c b = query-next c b
one-next UrlBad c b = bad-next c b

open-colon : (p : Prefix) → parts_error (parts_of (UrlOpen p)) class.Colon ≡ url_refuses_class (UrlOpen p) class.Colon
open-colon Off = refl
open-colon (Javascript n) = refl
open-colon (Vbscript n) = refl
open-colon (DataScheme n) = refl
open-colon Differs = refl

one-colon : (p : UrlPart) → parts_error (parts_of p) class.Colon ≡ url_refuses_class p class.Colon
one-colon UrlStart = refl
one-colon (UrlOpen p) = open-colon p
one-colon UrlOpenhole = refl
one-colon UrlPrequery = refl
one-colon UrlQuery = refl
one-colon UrlBad = refl

pub one-error : (p : UrlPart) (c : UrlClass) → parts_error (parts_of p) c ≡ url_refuses_class p c
one-error p class.Colon = one-colon p
one-error p _ = refl

pub one-hole-error : (p : UrlPart) → parts_hole_error (parts_of p) ≡ refuses_hole_in p
one-hole-error UrlStart = refl
one-hole-error (UrlOpen p) = refl
one-hole-error UrlOpenhole = refl
one-hole-error UrlPrequery = refl
one-hole-error UrlQuery = refl
one-hole-error UrlBad = refl

pub one-at-hole : (p : UrlPart) → parts_at_hole (parts_of p) ≡ parts_of (part_at_hole p)
one-at-hole UrlStart = refl
one-at-hole (UrlOpen p) = refl
one-at-hole UrlOpenhole = refl
one-at-hole UrlPrequery = refl
one-at-hole UrlQuery = refl
one-at-hole UrlBad = refl

pub exact-on-one : IsExactOnOnePart
exact-on-one p = record { error = one-error p; next = one-next p; hole_error = one-hole-error p; at_hole = one-at-hole p }
