-- The summary of the links that were served.
use Rattle.std.specs.Prelude.{◌≡◌, ◌==◌, ◌+◌, cond, ℕ, List, [], ◌∷◌, length}
use Rattle.page_server.specs.declared.end.LinkEnd.{LinkEnd}
use Rattle.page_worker.specs.LinksServed.{LinkServed}
use Rattle.page_worker.specs.declared.work_end.WorkEnd.{WorkEnd}

-- how many requests were answered on these links
abbrev pub requests_on : {L : Type 0} → List (LinkServed L) → ℕ
requests_on [] = 0
requests_on (s ∷ links) = s.end.requests + requests_on links

-- the number in the last reply on one more link, where it was this one before; without a request that was answered there is no reply
abbrev pub number_behind : ℕ → LinkEnd → ℕ
number_behind number end = cond (end.requests == 0) number end.last

-- the number in the last reply on these links, or this one without a reply
abbrev pub last_number_on : {L : Type 0} → ℕ → List (LinkServed L) → ℕ
last_number_on number [] = number
last_number_on number (s ∷ links) = last_number_on (number_behind number s.end) links

-- how many links there were, how many requests were answered on them, and the number in the last reply on them, or 0 without one
pub record IsSummaryOf {L : Type 0} (links : List (LinkServed L)) (end : WorkEnd) : Type 0 where
  pub count : end.links ≡ length links
  pub requests : end.requests ≡ requests_on links
  pub last : end.last ≡ last_number_on 0 links
