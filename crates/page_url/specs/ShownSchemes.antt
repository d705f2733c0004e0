-- The scheme of a URL as a token of a page shows it. What the scheme of bytes is, is `scheme_of` of `url_lexer`.
use Rattle.std.specs.Prelude.{ℕ, List, Option, Some, None}
use Rattle.page_url.specs.declared.scheme.Scheme.{Scheme}
use Rattle.page_url.specs.declared.scheme.Scheme.TheVariants as shown

abbrev pub shown_scheme : Option (List ℕ) → Scheme
shown_scheme None = shown.Nothing
shown_scheme (Some name) = shown.Named name
