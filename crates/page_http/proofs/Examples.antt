-- The definitions, computed on small values: what holds, and what does not.
use Rattle.std.proofs.Common.{◌≡◌, ℕ, true, false, List, [], ◌∷◌, codes, refl}
use Rattle.std.specs.List.{before_first, after_first}
use Rattle.page_http.specs.Numbers.{number_said}
use Rattle.page_http.specs.Bodies.{length_said, max_body}
use Rattle.page_http.specs.Contents.{at_least_said, kind_said, max_number}
use Rattle.page_http.specs.Closing.{ends_connection, lists_close}
use Rattle.page_http.specs.Requests.{is_question}
use Rattle.page_http.specs.declared.number.Number.TheVariants as number
use Rattle.page_http.specs.declared.body_length.BodyLength.TheVariants as body
use Rattle.page_http.specs.declared.request.AtLeast.TheVariants as least
use Rattle.page_http.specs.declared.request.BodyKind.TheVariants as kind

-- digits of any length, and nothing else
five : number_said max_body (codes "0005") ≡ number.Value 5
five = refl

most : number_said max_body (codes "1048576") ≡ number.Value 1048576
most = refl

over : number_said max_body (codes "1048577") ≡ number.TooGreat
over = refl

past_64_bits : number_said max_body (codes "18446744073709551621") ≡ number.TooGreat
past_64_bits = refl

no_digit : number_said max_body [] ≡ number.NotDigits
no_digit = refl

sign : number_said max_body (codes "+5") ≡ number.NotDigits
sign = refl

blank : number_said max_body (codes "5 ") ≡ number.NotDigits
blank = refl

list : number_said max_body (codes "5,5") ≡ number.NotDigits
list = refl

-- a coding is refused before a length is looked at, and two lengths are no length
abbrev fields : List ℕ → List ℕ → List (List ℕ × List ℕ)
fields length coding = (codes "Content-Length", length) ∷ (coding, codes "chunked") ∷ []

coded : length_said (codes "POST") (fields (codes "1048577") (codes "TRANSFER-encoding")) ≡ body.Refused 501
coded = refl

not_coded : length_said (codes "POST") (fields (codes "1048577") (codes "Transfer-Encodings")) ≡ body.Refused 413
not_coded = refl

twice : length_said (codes "GET") ((codes "content-length", codes "5") ∷ (codes "Content-Length", codes "5") ∷ []) ≡ body.Refused 400
twice = refl

post_without : length_said (codes "POST") [] ≡ body.Refused 400
post_without = refl

get_without : length_said (codes "GET") [] ≡ body.Bytes 0
get_without = refl

-- methods are the same in the same case alone
other_post : length_said (codes "post") [] ≡ body.Bytes 0
other_post = refl

-- the greatest number of 64 bits, one more, and several
greatest : at_least_said (codes "18446744073709551615" ∷ []) ≡ least.Number max_number
greatest = refl

one_more : at_least_said (codes "18446744073709551616" ∷ []) ≡ least.Bad
one_more = refl

several : at_least_said (codes "1" ∷ codes "1" ∷ []) ≡ least.Bad
several = refl

none : at_least_said [] ≡ least.Absent
none = refl

-- a media type by how it begins
json : kind_said (codes "Application/JSON; charset=utf-8" ∷ []) ≡ kind.Json
json = refl

form : kind_said (codes "application/x-www-form-urlencoded" ∷ []) ≡ kind.Form
form = refl

text_json : kind_said (codes "text/json" ∷ []) ≡ kind.Other
text_json = refl

two_types : kind_said (codes "application/json" ∷ codes "application/json" ∷ []) ≡ kind.Other
two_types = refl

short_type : kind_said (codes "application/jso" ∷ []) ≡ kind.Other
short_type = refl

-- `close` is an element of a list
listed : lists_close (codes "keep-alive,\t Close ,") ≡ true
listed = refl

not_listed : lists_close (codes "closed, not-close,c lose") ≡ false
not_listed = refl

one_zero : ends_connection 0 (codes "GET") ((codes "Connection", codes "keep-alive") ∷ []) ≡ true
one_zero = refl

head : ends_connection 1 (codes "HEAD") [] ≡ true
head = refl

stays : ends_connection 1 (codes "GET") ((codes "Connection", codes "keep-alive") ∷ (codes "Close", codes "close") ∷ []) ≡ false
stays = refl

second_field : ends_connection 1 (codes "GET") ((codes "Connection", codes "keep-alive") ∷ (codes "connection", codes "close") ∷ []) ≡ true
second_field = refl

-- the path and the query
path : before_first is_question (codes "/p/a?b?c") ≡ codes "/p/a"
path = refl

query : after_first is_question (codes "/p/a?b?c") ≡ codes "b?c"
query = refl

no_query : after_first is_question (codes "/p/a") ≡ []
no_query = refl
