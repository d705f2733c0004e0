-- Bytes that stand as they are in a URL.
use Rattle.std.specs.Prelude.{ℕ, ◌==◌, ◌||◌, ◌&&◌, Bool, true, false, codes, List, [], ◌∷◌}
use Rattle.std.specs.Char.{is_ascii_alphanumeric, is_ascii_hexdigit}
use Rattle.std.specs.List.{list_any}

-- RFC 3986, section 2.3
abbrev pub is_unreserved : ℕ → Bool
is_unreserved b = is_ascii_alphanumeric b || list_any (λ k. k == b) (codes "-._~")

-- RFC 3986, section 2.2: the delimiters of parts, without the parentheses and the apostrophe, which styles and scripts read
abbrev pub is_delimiter : ℕ → Bool
is_delimiter b = list_any (λ k. k == b) (codes "!#$&*+,/:;=?@[]")

abbrev pub is_kept_in_url : ℕ → Bool
is_kept_in_url b = is_unreserved b || is_delimiter b

-- whether two hexadecimal digits stand first
abbrev pub begins_with_digits : List ℕ → Bool
begins_with_digits (x ∷ y ∷ bs) = is_ascii_hexdigit x && is_ascii_hexdigit y
begins_with_digits _ = false

-- whether a byte, before these, begins a percent triple (RFC 3986, section 2.1)
abbrev pub begins_triple : ℕ → List ℕ → Bool
begins_triple b bs = b == 37 && begins_with_digits bs

-- unreserved bytes and percent triples, and no others
abbrev pub are_unreserved : List ℕ → Bool
are_unreserved [] = true
are_unreserved (b ∷ bs) = (is_unreserved b || begins_triple b bs) && are_unreserved bs
