-- Names in lower case, and what they begin with.
use Rattle.std.proofs.Common.{◌≡◌, ℕ, ◌==◌, false, List, [], ◌∷◌, length, take, drop, bytes_eq, codes, refl, arith}
use Rattle.std.proofs.lemmas.Bool.Decides.{nat_tests}
use Rattle.std.proofs.lemmas.List.{take-map, drop-map, nil_from_length}
use Rattle.std.specs.Char.{to_ascii_lowercase}
use Rattle.std.specs.Str.{str_to_ascii_lowercase}
use Rattle.place_core.specs.page.Words.{prefix_length, kind_after_prefix, kind_of_name}

-- no other byte is a colon in lower case
colon_stays : (b : ℕ) → (to_ascii_lowercase b == 58) ≡ (b == 58)
colon_stays b = grind (arith, nat_tests)

pub prefix_length-lower : (name : List ℕ) → prefix_length (str_to_ascii_lowercase name) ≡ prefix_length name
prefix_length-lower [] = refl
prefix_length-lower (b ∷ bs) = rw (colon_stays b, prefix_length-lower bs) refl

pub behind_prefix-lower : (name : List ℕ) → drop (prefix_length (str_to_ascii_lowercase name)) (str_to_ascii_lowercase name) ≡ str_to_ascii_lowercase (drop (prefix_length name) name)
behind_prefix-lower name = rw (prefix_length-lower name) (drop-map to_ascii_lowercase (prefix_length name) name)

pub prefix-lower : (name : List ℕ) → take (prefix_length (str_to_ascii_lowercase name)) (str_to_ascii_lowercase name) ≡ str_to_ascii_lowercase (take (prefix_length name) name)
prefix-lower name = rw (prefix_length-lower name) (take-map to_ascii_lowercase (prefix_length name) name)

pub behind_data-lower : (name : List ℕ) → drop 5 (str_to_ascii_lowercase name) ≡ str_to_ascii_lowercase (drop 5 name)
behind_data-lower name = drop-map to_ascii_lowercase 5 name

-- the kind of a name without a colon, of a declaration of a namespace, and of a name after another prefix
pub no_prefix : (name rest : List ℕ) → rest ≡ drop (prefix_length name) name → length rest ≡ 0 → kind_after_prefix (str_to_ascii_lowercase name) (drop (prefix_length (str_to_ascii_lowercase name)) (str_to_ascii_lowercase name)) ≡ kind_of_name (str_to_ascii_lowercase name)
no_prefix name rest e none = rw (behind_prefix-lower name, ← e, nil_from_length rest none) refl

pub some_prefix : (name front behind rest : List ℕ) (b : ℕ) → front ≡ take (prefix_length name) name → behind ≡ drop (prefix_length name) name → behind ≡ b ∷ rest → bytes_eq (str_to_ascii_lowercase front) (codes "xmlns") ≡ false → kind_after_prefix (str_to_ascii_lowercase name) (drop (prefix_length (str_to_ascii_lowercase name)) (str_to_ascii_lowercase name)) ≡ kind_of_name (str_to_ascii_lowercase rest)
some_prefix name front behind rest b e f g other = rw (behind_prefix-lower name, ← f, g, prefix-lower name, ← e, other) refl
