-- Names in lower case.
use Rattle.std.proofs.Common.{◌≡◌, ℕ, List, [], ◌∷◌, refl}
use Rattle.std.specs.Str.{str_to_ascii_lowercase}
use Rattle.std.proofs.lemmas.Str.Ascii.{lowercase-lowercase}
use Rattle.place_core.specs.page.Words.{kind_of}
use Rattle.place_core.specs.declared.element.Element.{Element}

pub lower_twice : (name : List ℕ) → str_to_ascii_lowercase (str_to_ascii_lowercase name) ≡ str_to_ascii_lowercase name
lower_twice [] = refl
lower_twice (b ∷ bs) = rw (lowercase-lowercase b, lower_twice bs) refl

-- the kind of a name does not depend on the case of its letters
pub kind_lowered : (e : Element) (name : List ℕ) → kind_of e name ≡ kind_of e (str_to_ascii_lowercase name)
kind_lowered e name = rw (lower_twice name) refl
