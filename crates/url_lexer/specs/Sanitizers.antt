-- What is written for a value in a URL. A text is bytes of UTF-8.
use Rattle.std.specs.Prelude.{ℕ, ◌+◌, ◌/◌, ◌%◌, ◌==◌, ◌||◌, nat_lt, Bool, true, false, codes, List, [], ◌∷◌, ◌++◌, Option, Some, None, if◌then◌else◌}
use Rattle.std.specs.Str.{str_to_ascii_lowercase}
use Rattle.url_lexer.specs.Classes.{url_class_of}
use Rattle.url_lexer.specs.Kept.{begins_triple, is_kept_in_url, is_unreserved}
use Rattle.url_lexer.specs.Parts.{UrlPart, UrlStart, UrlOpen, UrlOpenhole, UrlPrequery, UrlQuery, UrlBad}
use Rattle.url_lexer.specs.Schemes.{is_safe_scheme}
use Rattle.url_lexer.specs.declared.class.UrlClass.{UrlClass}
use Rattle.url_lexer.specs.declared.class.UrlClass.TheVariants as class

-- a percent triple, with digits in lower case
abbrev pub hexadecimal_digit : ℕ → ℕ
hexadecimal_digit n = if nat_lt n 10 then 48 + n else 87 + n

abbrev pub triple : ℕ → List ℕ
triple b = 37 ∷ hexadecimal_digit (b / 16) ∷ hexadecimal_digit (b % 16) ∷ []

-- what stands before the first `:` where no `/` stands before that
abbrev pub before_colon_at : Bool → Bool → ℕ → Option (List ℕ) → Option (List ℕ)
before_colon_at true slash b rest = Some []
before_colon_at false true b rest = None
before_colon_at false false b None = None
before_colon_at false false b (Some front) = Some (b ∷ front)

abbrev pub before_colon : List ℕ → Option (List ℕ)
before_colon [] = None
before_colon (b ∷ bs) = before_colon_at (b == 58) (b == 47) b (before_colon bs)

abbrev pub is_filtered : Option (List ℕ) → Bool
is_filtered None = false
is_filtered (Some front) = if is_safe_scheme (str_to_ascii_lowercase front) then false else true

-- The failsafe, where a text has a `:`, no `/` stands before the first one, and what stands before that is no safe scheme in any case. Else the text.
abbrev pub url_filter : List ℕ → List ℕ
url_filter text = if is_filtered (before_colon text) then codes "#ZgotmplZ" else text

-- What may stand in a URL is kept, percent triples too. Every other byte is a percent triple.
abbrev pub url_norm : List ℕ → List ℕ
url_norm [] = []
url_norm (b ∷ bs) = (if is_kept_in_url b || begins_triple b bs then b ∷ [] else triple b) ++ url_norm bs

-- A `:` that no `/`, `?` or `#` precedes in the text is written as a triple: as it is, it could end a scheme.
abbrev pub without_scheme_at : UrlClass → ℕ → List ℕ → List ℕ → List ℕ
without_scheme_at class.Slash b bs rest = b ∷ bs
without_scheme_at class.QueryMark b bs rest = b ∷ bs
without_scheme_at class.Colon b bs rest = codes "%3a" ++ rest
without_scheme_at c b bs rest = b ∷ rest

abbrev pub without_scheme : List ℕ → List ℕ
without_scheme [] = []
without_scheme (b ∷ bs) = without_scheme_at (url_class_of b) b bs (without_scheme bs)

abbrev pub url_open : List ℕ → List ℕ
url_open text = url_norm (without_scheme text)

-- Unreserved bytes alone are kept.
abbrev pub url_query : List ℕ → List ℕ
url_query [] = []
url_query (b ∷ bs) = (if is_unreserved b then b ∷ [] else triple b) ++ url_query bs

-- What is written in each part for a text; behind a scheme that is code no hole stands.
abbrev pub written_in : UrlPart → List ℕ → List ℕ
written_in UrlStart text = url_norm (url_filter text)
written_in (UrlOpen p) text = url_open text
written_in UrlOpenhole text = url_open text
written_in UrlPrequery text = url_norm text
written_in UrlQuery text = url_query text
written_in UrlBad text = []
