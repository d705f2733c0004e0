-- What a URL tells as it is read: each of its bytes, and at its end the scheme.
use Rattle.std.specs.Prelude.{ℕ, Bool, true, false, List, [], ◌∷◌, if◌then◌else◌}
use Rattle.url_lexer.specs.Schemes.{UrlScheme, SchemeAhead, SchemeSoFar, SchemeIs, SchemeAbsent, SchemeUnknown, is_safe_scheme}
use Rattle.url_lexer.specs.States.{Url, feed_url}

-- a scheme by its letters, none, or none or one that data chooses
pub data ToldScheme : Type 0 where
  Named : List ℕ → ToldScheme
  NoScheme : ToldScheme
  Free : ToldScheme

pub data UrlEvent : Type 0 where
  UrlByte : ℕ → UrlEvent
  UrlEnds : ToldScheme → UrlEvent

-- Events are told the last first.
abbrev pub url_emits : Url → ℕ → List UrlEvent → List UrlEvent
url_emits u b t = UrlByte b ∷ t

abbrev pub emits_all : Url → List ℕ → List UrlEvent → List UrlEvent
emits_all u [] t = t
emits_all u (b ∷ bs) t = emits_all (feed_url u b) bs (url_emits u b t)

-- what has not ended in a `:` is no scheme
abbrev pub scheme_at_end : UrlScheme → ToldScheme
scheme_at_end SchemeAhead = NoScheme
scheme_at_end (SchemeSoFar letters) = NoScheme
scheme_at_end (SchemeIs letters) = Named letters
scheme_at_end SchemeAbsent = NoScheme
scheme_at_end SchemeUnknown = NoScheme

-- behind a hole that was the first of the URL: none, or one that data may choose; any other that had ended there would be told by its letters
abbrev pub free_scheme : UrlScheme → ToldScheme
free_scheme (SchemeIs letters) = if is_safe_scheme letters then Free else Named letters
free_scheme s = Free

abbrev pub told_scheme : Bool → UrlScheme → ToldScheme
told_scheme true s = free_scheme s
told_scheme false s = scheme_at_end s

abbrev pub url_ends : Url → List UrlEvent → List UrlEvent
url_ends u t = UrlEnds (told_scheme u.free u.scheme) ∷ t
