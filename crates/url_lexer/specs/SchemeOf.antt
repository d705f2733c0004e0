-- The scheme of whole bytes, in the words of the standards (RFC 3986, section 3.1; URL Standard, section 4.4), and the theorem that reading byte by
-- byte finds it.
use Rattle.std.specs.Prelude.{◌≡◌, ℕ, List, [], ◌∷◌, Option, Some, None, option_map}
use Rattle.std.specs.Char.{to_ascii_lowercase}
use Rattle.url_lexer.specs.Classes.{url_class_of}
use Rattle.url_lexer.specs.Events.{ToldScheme, Named, NoScheme, scheme_at_end}
use Rattle.url_lexer.specs.States.{url_start, feed_all}
use Rattle.url_lexer.specs.declared.class.UrlClass.{UrlClass}
use Rattle.url_lexer.specs.declared.class.UrlClass.TheVariants as class

-- what stands before the first `:` that no `/`, `?` or `#` precedes
abbrev pub front_by : UrlClass → ℕ → Option (List ℕ) → Option (List ℕ)
front_by class.Colon b rest = Some []
front_by class.Slash b rest = None
front_by class.QueryMark b rest = None
front_by c b rest = option_map (λ front. b ∷ front) rest

abbrev pub front_of_colon : List ℕ → Option (List ℕ)
front_of_colon [] = None
front_of_colon (b ∷ bs) = front_by (url_class_of b) b (front_of_colon bs)

-- without leading bytes up to space
abbrev pub trimmed_by : UrlClass → ℕ → List ℕ → List ℕ → List ℕ
trimmed_by class.TabOrNewline b bs rest = rest
trimmed_by class.ControlOrSpace b bs rest = rest
trimmed_by c b bs rest = b ∷ bs

abbrev pub trimmed : List ℕ → List ℕ
trimmed [] = []
trimmed (b ∷ bs) = trimmed_by (url_class_of b) b bs (trimmed bs)

-- without tab, LF and CR, in lower case
abbrev pub letters_by : UrlClass → ℕ → List ℕ → List ℕ
letters_by class.TabOrNewline b rest = rest
letters_by c b rest = to_ascii_lowercase b ∷ rest

abbrev pub letters_of : List ℕ → List ℕ
letters_of [] = []
letters_of (b ∷ bs) = letters_by (url_class_of b) b (letters_of bs)

abbrev pub scheme_of : List ℕ → Option (List ℕ)
scheme_of bytes = option_map (λ front. letters_of (trimmed front)) (front_of_colon bytes)

abbrev pub told_name : Option (List ℕ) → ToldScheme
told_name None = NoScheme
told_name (Some name) = Named name

abbrev pub SchemeIsRead : Type 0
SchemeIsRead = (bytes : List ℕ) → scheme_at_end (feed_all url_start bytes).scheme ≡ told_name (scheme_of bytes)
