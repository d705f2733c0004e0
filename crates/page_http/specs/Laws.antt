-- The answers of reading a request exclude each other, and stay where more bytes come.
use Rattle.std.specs.Prelude.{◌≡◌, ℕ, ◌⊎◌, List, ◌++◌}
use Rattle.httparse.specs.Grammar.{RequestHead, HasNoRequest, NeverHasRequest, EndsInTarget}
use Rattle.httparse.specs.Spans.{RequestExceeds}
use Rattle.page_http.specs.Requests.{front, max_fields, IsWhole, IsMore, Refuses}
use Rattle.page_http.specs.declared.request.Request.{Request}

-- no head stands there, and either more field lines than a head may have do, or a target that is no
-- text, whatever follows, goes on: here `httparse` may ask for more or refuse, with either status
pub record HasChoice (bytes : List ℕ) : Type 0 where
  pub none : HasNoRequest (front bytes)
  pub why : RequestExceeds max_fields (front bytes)
      ⊎ (EndsInTarget (front bytes) × NeverHasRequest (front bytes))

pub record HasOneAnswer (bytes : List ℕ) : Type 0 where
  pub one_whole : (r s : Request) (m n : ℕ) (h k : RequestHead)
      → IsWhole bytes r m h → IsWhole bytes s n k
      → (r ≡ s) × (m ≡ n) × (h ≡ k)
  pub whole_more : (r : Request) (n : ℕ) (h : RequestHead) → IsWhole bytes r n h → IsMore bytes → ⊥
  pub whole_refused : (r : Request) (n : ℕ) (h : RequestHead) (status : ℕ)
      → IsWhole bytes r n h → Refuses bytes status → ⊥
  pub more_refused : (status : ℕ) → IsMore bytes → Refuses bytes status → HasChoice bytes
  pub one_status : (status other : ℕ) → Refuses bytes status → Refuses bytes other
      → (status ≡ other) ⊎ HasChoice bytes

abbrev pub AnswersExclude : Type 0
AnswersExclude = (bytes : List ℕ) → HasOneAnswer bytes

-- a request and a refusal stay, whatever bytes follow
pub record StaysAnswered (bytes more : List ℕ) : Type 0 where
  pub whole : (r : Request) (n : ℕ) (h : RequestHead) → IsWhole bytes r n h
      → IsWhole (bytes ++ more) r n h
  pub refused : (status : ℕ) → Refuses bytes status → Refuses (bytes ++ more) status

abbrev pub AnswersStay : Type 0
AnswersStay = (bytes more : List ℕ) → StaysAnswered bytes more
