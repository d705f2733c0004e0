-- What a head says, by what was found of its fields: the rules of `Bodies.antt` and `Contents.antt`
-- as the code takes them, which knows of several values only that they are several.
use Rattle.std.specs.Prelude.{Bool, []}
use Rattle.page_http.specs.Bodies.{length_by_number, length_by_values, max_body}
use Rattle.page_http.specs.Contents.{kind_by_type, least_by_number, max_number}
use Rattle.page_http.specs.Numbers.{number_said}
use Rattle.page_http.specs.declared.body_length.BodyLength.{BodyLength}
use Rattle.page_http.specs.declared.body_length.BodyLength.TheVariants as body
use Rattle.page_http.specs.declared.fields.Found.{Found}
use Rattle.page_http.specs.declared.fields.Found.TheVariants as found
use Rattle.page_http.specs.declared.request.AtLeast.{AtLeast}
use Rattle.page_http.specs.declared.request.AtLeast.TheVariants as least
use Rattle.page_http.specs.declared.request.BodyKind.{BodyKind}
use Rattle.page_http.specs.declared.request.BodyKind.TheVariants as kind

-- the length of the body by what was found of `Content-Length`
abbrev pub length_by_found : Bool → Found → BodyLength
length_by_found is_post found.Nothing = length_by_values is_post []
length_by_found is_post (found.Once v) = length_by_number (number_said max_body v.now)
length_by_found is_post found.Often = body.Refused 400

-- the length of the body by what was found of `Transfer-Encoding` and of `Content-Length`
abbrev pub length_found : Bool → Found → Found → BodyLength
length_found is_post found.Nothing lengths = length_by_found is_post lengths
length_found is_post (found.Once v) lengths = body.Refused 501
length_found is_post found.Often lengths = body.Refused 501

-- the least number that is asked for, by what was found of `Set-At-Least`
abbrev pub least_found : Found → AtLeast
least_found found.Nothing = least.Absent
least_found (found.Once v) = least_by_number (number_said max_number v.now)
least_found found.Often = least.Bad

-- the kind of a body by what was found of `Content-Type`
abbrev pub kind_found : Found → BodyKind
kind_found found.Nothing = kind.Other
kind_found (found.Once v) = kind_by_type v.now
kind_found found.Often = kind.Other
