-- How long a body is (RFC 9112, section 6).
use Rattle.std.specs.Prelude.{◌≡◌, ◌⊎◌, ⊤, ℕ, Bool, true, false, List, [], ◌∷◌, codes}
use Rattle.std.specs.Str.{bytes_eq}
use Rattle.page_http.specs.Fields.{values}
use Rattle.page_http.specs.Numbers.{number_said}
use Rattle.page_http.specs.declared.number.Number.{Number}
use Rattle.page_http.specs.declared.number.Number.TheVariants as number
use Rattle.page_http.specs.declared.body_length.BodyLength.{BodyLength}
use Rattle.page_http.specs.declared.body_length.BodyLength.TheVariants as body

-- the most bytes that a body may have
abbrev pub max_body : ℕ
max_body = 1048576

-- the length by what the value of `Content-Length` says (RFC 9110, section 8.6)
abbrev pub length_by_number : Number → BodyLength
length_by_number (number.Value n) = body.Bytes n
length_by_number number.TooGreat = body.Refused 413
length_by_number number.NotDigits = body.Refused 400

-- the length by the values of `Content-Length`; a POST has to have one
abbrev pub length_by_values : Bool → List (List ℕ) → BodyLength
length_by_values true [] = body.Refused 400
length_by_values false [] = body.Bytes 0
length_by_values is_post (v ∷ []) = length_by_number (number_said max_body v)
length_by_values is_post (v ∷ w ∷ more) = body.Refused 400

-- the length by the method and the fields; no coding of a body is known (RFC 9112, section 6.1)
abbrev pub length_said : List ℕ → List (List ℕ × List ℕ) → BodyLength
length_said method fields = by_codings (values (codes "transfer-encoding") fields)
  where
    by_codings : List (List ℕ) → BodyLength
    by_codings [] =
        length_by_values (bytes_eq method (codes "POST")) (values (codes "content-length") fields)
    by_codings (v ∷ more) = body.Refused 501

-- the statuses that refuse a request before it is read
abbrev pub IsReadStatus : ℕ → Type 0
IsReadStatus status = (status ≡ 400) ⊎ ((status ≡ 413) ⊎ ((status ≡ 431) ⊎ (status ≡ 501)))

abbrev pub IsKnownRefusal : BodyLength → Type 0
IsKnownRefusal (body.Bytes n) = ⊤
IsKnownRefusal (body.Refused status) = IsReadStatus status
