-- The fields of a head by their names (RFC 9110, section 5), as pairs of name and value.
use Rattle.std.specs.Prelude.{◌≡◌, ℕ, ◌≤◌, Bool, ◌&&◌, ◌==◌, nat_le, List, [], ◌∷◌, length, map, take, codes, if◌then◌else◌}
use Rattle.std.specs.Char.{to_ascii_lowercase}
use Rattle.std.specs.List.{slice_split}
use Rattle.std.specs.Str.{bytes_eq}
use Rattle.page_http.specs.declared.fields.Found.{Found}
use Rattle.page_http.specs.declared.fields.Found.TheVariants as found
use Rattle.page_http.specs.declared.fields.KnownFields.{KnownFields}

-- names are the same in any case (RFC 9110, section 5.1)
abbrev pub same_name : List ℕ → List ℕ → Bool
same_name a b = bytes_eq (map to_ascii_lowercase a) (map to_ascii_lowercase b)

-- a value begins with a name, in any case
abbrev pub begins_with_name : List ℕ → List ℕ → Bool
begins_with_name value name =
    nat_le (length name) (length value) && same_name (take (length name) value) name

-- the values of the fields with a name, in their order
abbrev pub values : List ℕ → List (List ℕ × List ℕ) → List (List ℕ)
values name [] = []
values name (f ∷ fs) = if same_name f.0 name then f.1 ∷ values name fs else values name fs

-- a comma
abbrev pub is_comma : ℕ → Bool
is_comma b = b == 44

-- the elements of a list, which stand between commas (RFC 9110, section 5.6.1)
abbrev pub list_elements : List ℕ → List (List ℕ)
list_elements value = slice_split is_comma value

-- the values, as far as it matters how many they are
abbrev pub SaysValues : List (List ℕ) → Found → Type 0
SaysValues vs found.Nothing = vs ≡ []
SaysValues vs (found.Once v) = vs ≡ v.now ∷ []
SaysValues vs found.Often = 2 ≤ length vs

-- of the values of all fields: those of the fields that are left, and what was found before them
abbrev pub SoFar : List (List ℕ) → List (List ℕ) → Found → Type 0
SoFar all left found.Nothing = all ≡ left
SoFar all left (found.Once v) = all ≡ v.now ∷ left
SoFar all left found.Often = 2 ≤ length all

-- the fields of a head, by the names that a request is read by
pub record SaysKnown (fields : List (List ℕ × List ℕ)) (k : KnownFields) : Type 0 where
  pub transfer_encoding : SaysValues (values (codes "transfer-encoding") fields) k.transfer_encoding
  pub content_length : SaysValues (values (codes "content-length") fields) k.content_length
  pub content_type : SaysValues (values (codes "content-type") fields) k.content_type
  pub set_at_least : SaysValues (values (codes "set-at-least") fields) k.set_at_least

-- of all fields: those that are left, and what was found before them
pub record KnownSoFar (all left : List (List ℕ × List ℕ)) (k : KnownFields) : Type 0 where
  pub transfer_encoding : SoFar (values (codes "transfer-encoding") all) (values (codes "transfer-encoding") left) k.transfer_encoding
  pub content_length : SoFar (values (codes "content-length") all) (values (codes "content-length") left) k.content_length
  pub content_type : SoFar (values (codes "content-type") all) (values (codes "content-type") left) k.content_type
  pub set_at_least : SoFar (values (codes "set-at-least") all) (values (codes "set-at-least") left) k.set_at_least
