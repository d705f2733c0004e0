-- What fields ask of the set, and say of the kind of the body.
use Rattle.std.specs.Prelude.{ℕ, List, [], ◌∷◌, codes, if◌then◌else◌}
use Rattle.page_http.specs.Fields.{begins_with_name}
use Rattle.page_http.specs.Numbers.{number_said}
use Rattle.page_http.specs.declared.number.Number.{Number}
use Rattle.page_http.specs.declared.number.Number.TheVariants as number
use Rattle.page_http.specs.declared.request.AtLeast.{AtLeast}
use Rattle.page_http.specs.declared.request.AtLeast.TheVariants as least
use Rattle.page_http.specs.declared.request.BodyKind.{BodyKind}
use Rattle.page_http.specs.declared.request.BodyKind.TheVariants as kind

-- the greatest number of 64 bits
abbrev pub max_number : ℕ
max_number = 18446744073709551615

abbrev pub least_by_number : Number → AtLeast
least_by_number (number.Value n) = least.Number n
least_by_number number.TooGreat = least.Bad
least_by_number number.NotDigits = least.Bad

-- the least number that the values of `Set-At-Least` ask for; several are as bad as one that is no
-- number
abbrev pub at_least_said : List (List ℕ) → AtLeast
at_least_said [] = least.Absent
at_least_said (v ∷ []) = least_by_number (number_said max_number v)
at_least_said (v ∷ w ∷ more) = least.Bad

-- the kind of a body by its media type (RFC 9110, section 8.3.1)
abbrev pub kind_by_type : List ℕ → BodyKind
kind_by_type v =
    if begins_with_name v (codes "application/json") then kind.Json
    else (if begins_with_name v (codes "application/x-www-form-urlencoded") then kind.Form
    else kind.Other)

-- the kind by the values of `Content-Type`
abbrev pub kind_said : List (List ℕ) → BodyKind
kind_said [] = kind.Other
kind_said (v ∷ []) = kind_by_type v
kind_said (v ∷ w ∷ more) = kind.Other
