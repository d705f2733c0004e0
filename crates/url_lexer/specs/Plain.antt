-- When the bytes of a hole are plain in a URL.
use Rattle.std.specs.Prelude.{⊤, ◌≡◌, ℕ, true, List}
use Rattle.url_lexer.specs.Kept.{are_unreserved}
use Rattle.url_lexer.specs.Holes.{url_settled}
use Rattle.url_lexer.specs.Parts.{UrlPart, UrlStart, UrlOpen, UrlOpenhole, UrlPrequery, UrlQuery, UrlBad}
use Rattle.url_lexer.specs.Schemes.{UrlScheme, SchemeAhead, SchemeSoFar, SchemeIs, SchemeAbsent, SchemeUnknown, is_safe_scheme}
use Rattle.url_lexer.specs.States.{Url, feed_all}
use Rattle.url_lexer.specs.Triples.{NoTriple}

-- The bytes between two states of a page end no scheme. (Of a page the scheme is never unknown.)
abbrev pub IsNotEnded : UrlScheme → Type 0
IsNotEnded SchemeAhead = ⊤
IsNotEnded (SchemeSoFar letters) = ⊤
IsNotEnded (SchemeIs letters) = ⊥
IsNotEnded SchemeAbsent = ⊤
IsNotEnded SchemeUnknown = ⊥

abbrev pub IsBegunNotEnded : UrlScheme → Type 0
IsBegunNotEnded SchemeAhead = ⊥
IsBegunNotEnded s = IsNotEnded s

abbrev pub EndsNoScheme : UrlScheme → UrlScheme → Type 0
EndsNoScheme SchemeAhead after = IsNotEnded after
EndsNoScheme (SchemeSoFar letters) after = IsBegunNotEnded after
EndsNoScheme (SchemeIs letters) after = after ≡ SchemeIs letters
EndsNoScheme SchemeAbsent after = after ≡ SchemeAbsent
EndsNoScheme SchemeUnknown after = ⊥

-- No scheme has ended, or one that data may choose.
abbrev pub IsHarmless : UrlScheme → Type 0
IsHarmless SchemeAhead = ⊤
IsHarmless (SchemeSoFar letters) = ⊤
IsHarmless (SchemeIs letters) = is_safe_scheme letters ≡ true
IsHarmless SchemeAbsent = ⊤
IsHarmless SchemeUnknown = ⊥

abbrev pub EndsSafeScheme : UrlScheme → UrlScheme → Type 0
EndsSafeScheme SchemeAhead after = IsHarmless after
EndsSafeScheme before after = EndsNoScheme before after

-- Where a hole is the first of a URL, data may choose a safe scheme; behind a scheme that is code no bytes are plain; elsewhere they end none.
abbrev pub SchemeLeads : UrlPart → UrlScheme → UrlScheme → Type 0
SchemeLeads UrlStart before after = EndsSafeScheme before after
SchemeLeads (UrlOpen p) before after = EndsNoScheme before after
SchemeLeads UrlOpenhole before after = EndsNoScheme before after
SchemeLeads UrlPrequery before after = EndsNoScheme before after
SchemeLeads UrlQuery before after = EndsNoScheme before after
SchemeLeads UrlBad before after = ⊥

-- Bytes that are plain may lead from the one state to the other. No percent triple is open where they begin or end, even where it would come to
-- nothing (`%` before an `x`).
pub record UrlLeadsPlain (before after : Url) : Type 0 where
  pub scheme : SchemeLeads before.part before.scheme after.scheme
  pub whole_before : before.triple ≡ NoTriple
  pub whole_after : after.triple ≡ NoTriple

-- In the query they are unreserved bytes and percent triples.
abbrev pub ArePlainBytes : UrlPart → List ℕ → Type 0
ArePlainBytes UrlStart bytes = ⊤
ArePlainBytes (UrlOpen p) bytes = ⊤
ArePlainBytes UrlOpenhole bytes = ⊤
ArePlainBytes UrlPrequery bytes = ⊤
ArePlainBytes UrlQuery bytes = are_unreserved bytes ≡ true
ArePlainBytes UrlBad bytes = ⊥

-- plain in the place where a page has come
pub record IsPlainInUrl (bytes : List ℕ) (u : Url) : Type 0 where
  pub leads : UrlLeadsPlain (url_settled u) (feed_all (url_settled u) bytes)
  pub allowed : ArePlainBytes u.part bytes
