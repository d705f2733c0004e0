-- What the bytes that are written for a value mean, with their percent triples undone (RFC 3986, section 2.4).
use Rattle.std.specs.Prelude.{◌≡◌, ℕ, zero, suc, ◌+◌, ◌-◌, ◌*◌, nat_le, Bool, true, false, codes, List, [], ◌∷◌, if◌then◌else◌}
use Rattle.url_lexer.specs.Kept.{begins_triple}
use Rattle.url_lexer.specs.Parts.{UrlPart, UrlStart, UrlOpen, UrlOpenhole, UrlPrequery, UrlQuery, UrlBad}
use Rattle.url_lexer.specs.Sanitizers.{before_colon, is_filtered}

-- the number of a hexadecimal digit, and that of the two digits that stand first
abbrev pub hexadecimal_value : ℕ → ℕ
hexadecimal_value b = if nat_le b 57 then b - 48 else (if nat_le b 70 then b - 55 else b - 87)

abbrev pub triple_value : List ℕ → ℕ
triple_value (x ∷ y ∷ bs) = hexadecimal_value x * 16 + hexadecimal_value y
triple_value _ = 0

-- The bytes with their triples undone; so many of the first are digits of a triple that has been undone.
abbrev pub undone_behind : ℕ → List ℕ → List ℕ
undone_behind n [] = []
undone_behind zero (b ∷ bs) = if begins_triple b bs then triple_value bs ∷ undone_behind 2 bs else b ∷ undone_behind 0 bs
undone_behind (suc n) (b ∷ bs) = undone_behind n bs

abbrev pub triples_undone : List ℕ → List ℕ
triples_undone bytes = undone_behind 0 bytes

-- Where a hole is the first of a URL, the failsafe stands exactly where the filter says; else the bytes are the text's, with the triples of both
-- undone. In the query they are the text as it is.
abbrev pub ReadsBackUnless : Bool → List ℕ → List ℕ → Type 0
ReadsBackUnless true text bytes = bytes ≡ codes "#ZgotmplZ"
ReadsBackUnless false text bytes = triples_undone bytes ≡ triples_undone text

abbrev pub ReadsBack : UrlPart → List ℕ → List ℕ → Type 0
ReadsBack UrlStart text bytes = ReadsBackUnless (is_filtered (before_colon text)) text bytes
ReadsBack (UrlOpen p) text bytes = triples_undone bytes ≡ triples_undone text
ReadsBack UrlOpenhole text bytes = triples_undone bytes ≡ triples_undone text
ReadsBack UrlPrequery text bytes = triples_undone bytes ≡ triples_undone text
ReadsBack UrlQuery text bytes = triples_undone bytes ≡ text
ReadsBack UrlBad text bytes = ⊥
