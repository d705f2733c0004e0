-- The scheme of a URL (RFC 3986, section 3.1; URL Standard, section 4.4, "scheme start state" and "scheme state"): what stands before the first `:`
-- that no `/`, `?` or `#` precedes, without leading bytes up to space and without tab, LF and CR, in lower case. All bytes move it, those of
-- data too.
use Rattle.std.specs.Prelude.{ℕ, ◌||◌, bytes_eq, Bool, true, false, codes, List, [], ◌∷◌, ◌++◌}
use Rattle.std.specs.Char.{to_ascii_lowercase}
use Rattle.url_lexer.specs.declared.class.UrlClass.{UrlClass}
use Rattle.url_lexer.specs.declared.class.UrlClass.TheVariants as class

-- still ahead: nothing but blanks has been read; the letters so far; there is this one; there is none. On a path alone: unknown, since a hole stands
-- in the beginning.
pub data UrlScheme : Type 0 where
  SchemeAhead : UrlScheme
  SchemeSoFar : List ℕ → UrlScheme
  SchemeIs : List ℕ → UrlScheme
  SchemeAbsent : UrlScheme
  SchemeUnknown : UrlScheme

abbrev pub with_letter : List ℕ → ℕ → List ℕ
with_letter letters b = letters ++ to_ascii_lowercase b ∷ []

abbrev pub next_scheme : UrlScheme → UrlClass → ℕ → UrlScheme
next_scheme SchemeAhead class.TabOrNewline b = SchemeAhead
next_scheme SchemeAhead class.ControlOrSpace b = SchemeAhead
next_scheme SchemeAhead class.Colon b = SchemeIs []
next_scheme SchemeAhead class.Slash b = SchemeAbsent
next_scheme SchemeAhead class.QueryMark b = SchemeAbsent
next_scheme SchemeAhead c b = SchemeSoFar (with_letter [] b)
next_scheme (SchemeSoFar letters) class.TabOrNewline b = SchemeSoFar letters
next_scheme (SchemeSoFar letters) class.Colon b = SchemeIs letters
next_scheme (SchemeSoFar letters) class.Slash b = SchemeAbsent
next_scheme (SchemeSoFar letters) class.QueryMark b = SchemeAbsent
next_scheme (SchemeSoFar letters) c b = SchemeSoFar (with_letter letters b)
next_scheme (SchemeIs letters) c b = SchemeIs letters
next_scheme SchemeAbsent c b = SchemeAbsent
next_scheme SchemeUnknown class.Slash b = SchemeAbsent
next_scheme SchemeUnknown class.QueryMark b = SchemeAbsent
next_scheme SchemeUnknown c b = SchemeUnknown

-- what a path knows of the scheme behind a hole
abbrev pub scheme_at_hole : UrlScheme → UrlScheme
scheme_at_hole SchemeAhead = SchemeUnknown
scheme_at_hole (SchemeSoFar letters) = SchemeUnknown
scheme_at_hole (SchemeIs letters) = SchemeIs letters
scheme_at_hole SchemeAbsent = SchemeAbsent
scheme_at_hole SchemeUnknown = SchemeUnknown

-- A hole where the scheme is still ahead makes it free: data chooses it.
abbrev pub is_ahead : UrlScheme → Bool
is_ahead SchemeAhead = true
is_ahead (SchemeSoFar letters) = false
is_ahead (SchemeIs letters) = false
is_ahead SchemeAbsent = false
is_ahead SchemeUnknown = false

-- The schemes that data may choose, and those that are code or a page of their own. The names are in lower case.
abbrev pub is_safe_scheme : List ℕ → Bool
is_safe_scheme name = bytes_eq name (codes "http") || (bytes_eq name (codes "https") || bytes_eq name (codes "mailto"))

abbrev pub is_code_scheme : List ℕ → Bool
is_code_scheme name = bytes_eq name (codes "javascript") || (bytes_eq name (codes "vbscript") || bytes_eq name (codes "data"))
