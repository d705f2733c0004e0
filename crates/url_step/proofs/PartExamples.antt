-- Worked examples of sets of parts: what texts and holes make of them, what is refused, and what is not so.
use Rattle.std.proofs.Common.{◌≡◌, ℕ, true, false, codes, List, [], ◌∷◌, Some, None, refl, ap}
use Rattle.place_core.specs.place.LanguagePlaces.{both_parts}
use Rattle.place_core.specs.declared.parts.Parts.{Parts}
use Rattle.url_lexer.specs.Classes.{url_class_of}
use Rattle.url_lexer.specs.Parts.{UrlStart, UrlOpen, UrlOpenhole, UrlPrequery, UrlQuery, UrlBad}
use Rattle.url_lexer.specs.Prefixes.{Off, Javascript, DataScheme, Differs}
use Rattle.url_lexer.specs.Refusals.{AmbigContext, BadHTML}
use Rattle.url_lexer.specs.declared.class.UrlClass.TheVariants as class
use Rattle.place_core.specs.place.UrlParts.{parts_of}
use Rattle.url_step.specs.PartSets.{HasPart, parts_next, parts_error, parts_at_hole, parts_hole_error, spells_apart}

-- a set behind a text
abbrev behind : Parts → List ℕ → Parts
behind s [] = s
behind s (b ∷ bs) = behind (parts_next s (url_class_of b) b) bs

abbrev two : Parts
two = both_parts (behind (parts_of UrlStart) (codes "java")) (behind (parts_of UrlStart) (codes "data"))

-- one path: a scheme that is code, in any case and with a tab in it; another scheme; a query
code_of_one : behind (parts_of UrlStart) (codes " Java\tScript:") ≡ parts_of UrlBad
unfolding url_class_of
code_of_one = refl

scheme_of_one : behind (parts_of UrlStart) (codes "http:") ≡ parts_of UrlPrequery
unfolding url_class_of
scheme_of_one = refl

query_of_one : behind (parts_of UrlStart) (codes "/list?") ≡ parts_of UrlQuery
unfolding url_class_of
query_of_one = refl

-- `{{if .x}}java{{else}}data{{end}}` and a slash, or a `:`
two_differ : two ≡ parts_of (UrlOpen Differs)
unfolding url_class_of
two_differ = refl

two_behind_a_slash : behind two (codes "x/") ≡ parts_of UrlPrequery
unfolding url_class_of
two_behind_a_slash = refl

two_at_a_colon : parts_error two class.Colon ≡ Some AmbigContext
unfolding url_class_of
two_at_a_colon = refl

-- `{{if .x}}java{{end}}` and a letter of a script: one path begins with it, and the other goes on
begun_beside_open : behind (both_parts (parts_of UrlStart) (parts_of (UrlOpen (Javascript 4)))) (codes "s") ≡ parts_of (UrlOpen Differs)
unfolding url_class_of
begun_beside_open = refl

-- `{{if .x}}{{.a}}{{end}}` and a mark of a query
hole_beside_start : behind (both_parts (parts_of UrlStart) (parts_of UrlOpenhole)) (codes "?") ≡ parts_of UrlQuery
unfolding url_class_of
hole_beside_start = refl

-- a hole in the beginning; behind a scheme that is code; on two paths
hole_in_the_beginning : parts_at_hole two ≡ parts_of UrlOpenhole
unfolding url_class_of
hole_in_the_beginning = refl

hole_in_code : parts_hole_error (parts_of UrlBad) ≡ Some BadHTML
hole_in_code = refl

hole_on_two : parts_hole_error (both_parts (parts_of UrlPrequery) (parts_of UrlQuery)) ≡ Some AmbigContext
hole_on_two = refl

hole_on_code_beside_another : parts_hole_error (both_parts (parts_of UrlBad) (parts_of UrlQuery)) ≡ Some AmbigContext
hole_on_code_beside_another = refl

-- a set whose prefix is the one that differs has paths with any prefix
any_prefix : HasPart (parts_of (UrlOpen Differs)) (UrlOpen (DataScheme 3))
any_prefix = refl

no : true ≡ false → ⊥
no e = cc

-- What is not so: another prefix or another part is not in a set; behind `/` no path is in the beginning; what a tab parts is still one word;
-- a `:` is not accepted behind a hole; two prefixes that differ do not become one again, though both paths spell nothing.
other_prefix : HasPart (parts_of (UrlOpen (Javascript 4))) (UrlOpen Off) → ⊥
other_prefix h = no (ap (λ (z : Parts). spells_apart z.opened) h)

other_part : HasPart (both_parts (parts_of UrlStart) (parts_of UrlQuery)) UrlPrequery → ⊥
other_part h = no (ap (λ (z : Parts). z.prequery) h)

open_behind_a_slash : HasPart (behind two (codes "/")) (UrlOpen Differs) → ⊥
unfolding url_class_of
open_behind_a_slash h = cc

tab_in_code : HasPart (behind (parts_of UrlStart) (codes "da\tta:")) UrlPrequery → ⊥
unfolding url_class_of
tab_in_code h = cc

colon_behind_a_hole : parts_error (both_parts (parts_of UrlOpenhole) (parts_of UrlQuery)) class.Colon ≡ None → ⊥
colon_behind_a_hole h = cc

one_again : behind two (codes "xyz") ≡ parts_of (UrlOpen Off) → ⊥
unfolding url_class_of
one_again h = no (ap (λ (z : Parts). spells_apart z.opened) h)
