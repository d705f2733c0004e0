-- The first request of some bytes (RFC 9112, sections 2 to 6), its head as `httparse` has it.
use Rattle.std.specs.Prelude.{◌≡◌, ℕ, ◌+◌, ◌<◌, ◌≤◌, ◌⊎◌, ◌==◌, Bool, List, length, take, drop, map, codes, Result, Ok, Err, ⊤}
use Rattle.std.specs.List.{before_first, after_first}
use Rattle.httparse.specs.Grammar.{RequestHead, ReadsRequest, print_request, HasNoRequest, NeverHasRequest, MayBecomeRequest}
use Rattle.httparse.specs.Spans.{name_and_value, RequestOverflows, RequestExceeds}
use Rattle.page_http.specs.Fields.{values}
use Rattle.page_http.specs.Bodies.{IsReadStatus, length_said}
use Rattle.page_http.specs.Contents.{at_least_said, kind_said}
use Rattle.page_http.specs.Closing.{ends_connection}
use Rattle.page_http.specs.declared.body_length.BodyLength.{BodyLength}
use Rattle.page_http.specs.declared.body_length.BodyLength.TheVariants as body
use Rattle.page_http.specs.declared.request.Request.{Request}
use Rattle.page_http.specs.declared.read.ReadOne.{ReadOne}
use Rattle.page_http.specs.declared.read.ReadOne.TheVariants as one

-- the most bytes and the most fields of a head
abbrev pub max_head : ℕ
max_head = 16384

abbrev pub max_fields : ℕ
max_fields = 64

-- what of the bytes a head may be in
abbrev pub front : List ℕ → List ℕ
front bytes = take max_head bytes

-- the bytes begin with this head
pub record BeginsWith (bytes : List ℕ) (h : RequestHead) : Type 0 where
  pub reads : ReadsRequest (front bytes) h (drop (length (print_request h)) (front bytes))
  pub fields : length h.fields ≤ max_fields

-- what a head says of the length of the body
abbrev pub body_length_of : RequestHead → BodyLength
body_length_of h = length_said h.method (map name_and_value h.fields)

-- a question mark, at which a query begins (RFC 3986, section 3.4)
abbrev pub is_question : ℕ → Bool
is_question b = b == 63

-- what the parts of a head say of a request
pub record SaysRequest
    (method target : List ℕ) (minor : ℕ) (fields : List (List ℕ × List ℕ)) (r : Request)
    : Type 0 where
  pub method_is : r.method ≡ method
  pub path : r.path ≡ before_first is_question target
  pub query : r.query ≡ after_first is_question target
  pub at_least : r.at_least ≡ at_least_said (values (codes "set-at-least") fields)
  pub body_kind : r.body_kind ≡ kind_said (values (codes "content-type") fields)
  pub close : r.close ≡ ends_connection minor method fields

-- the whole of a request stands there, and takes so many bytes
pub record IsWhole (bytes : List ℕ) (r : Request) (used : ℕ) (h : RequestHead) : Type 0 where
  pub head : BeginsWith bytes h
  pub says : SaysRequest h.method h.target h.minor (map name_and_value h.fields) r
  pub length_is : body_length_of h ≡ body.Bytes (length r.body)
  pub body_is : r.body ≡ take (length r.body) (drop (length (print_request h)) bytes)
  pub used_is : used ≡ length (print_request h) + length r.body
  pub within : used ≤ length bytes

-- the head stands there, and a part of the body, which has n bytes
pub record IsCutOff (bytes : List ℕ) (h : RequestHead) (n : ℕ) : Type 0 where
  pub head : BeginsWith bytes h
  pub length_is : body_length_of h ≡ body.Bytes n
  pub less : length bytes < length (print_request h) + n

-- no head stands there, and more bytes may make one, or a target has begun and not ended, even one
-- that is no UTF-8
pub record IsPart (bytes : List ℕ) : Type 0 where
  pub none : HasNoRequest (front bytes)
  pub may : MayBecomeRequest (front bytes)

-- a part of a request stands there
abbrev pub IsMore : List ℕ → Type 0
IsMore bytes =
    (IsPart bytes × (length bytes < max_head)) ⊎ ((h : RequestHead) × (n : ℕ) × IsCutOff bytes h n)

-- the causes of a status that refuses the bytes: a head has too many fields, or is too long; there
-- is no head, whatever follows; or the head says so of its body
pub data Refuses (bytes : List ℕ) : ℕ → Type 0 where
  many : RequestOverflows max_fields (front bytes) → RequestExceeds max_fields (front bytes)
      → Refuses bytes 431
  long : max_head ≤ length bytes → IsPart bytes → Refuses bytes 431
  malformed : NeverHasRequest (front bytes) → Refuses bytes 400
  by_length : (h : RequestHead) (status : ℕ) → BeginsWith bytes h
      → body_length_of h ≡ body.Refused status → Refuses bytes status

-- what reading the first request answers, and why
abbrev pub RequestAnswers : {E : Type 0} → List ℕ → Result ReadOne E → Type 0
RequestAnswers bytes (Ok (one.Whole r used)) = (h : RequestHead) × IsWhole bytes r used h
RequestAnswers bytes (Ok one.More) = IsMore bytes
RequestAnswers bytes (Ok (one.Refused status)) = Refuses bytes status
RequestAnswers bytes (Err e) = ⊤

-- the status of a refusal is one of four
abbrev pub HasReadStatus : {E : Type 0} → Result ReadOne E → Type 0
HasReadStatus (Ok (one.Whole r used)) = ⊤
HasReadStatus (Ok one.More) = ⊤
HasReadStatus (Ok (one.Refused status)) = IsReadStatus status
HasReadStatus (Err e) = ⊤
