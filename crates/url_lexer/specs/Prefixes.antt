-- How far the beginning of a URL spells a scheme that is code, `javascript`, `vbscript` or `data`, in any case, with tab, LF and CR left out.
use Rattle.std.specs.Prelude.{ℕ, zero, suc, ◌==◌, Bool, true, false, codes, List, [], ◌∷◌, Option, Some, None, is_none, if◌then◌else◌}
use Rattle.std.specs.Char.{to_ascii_lowercase}
use Rattle.url_lexer.specs.declared.class.UrlClass.{UrlClass}
use Rattle.url_lexer.specs.declared.class.UrlClass.TheVariants as class

-- None of them; so many letters of one; and, where two paths have met, that they spelled different things. A number is at least 1.
pub data Prefix : Type 0 where
  Off : Prefix
  Javascript : ℕ → Prefix
  Vbscript : ℕ → Prefix
  DataScheme : ℕ → Prefix
  Differs : Prefix

-- the first letter: `j`, `v`, `d`
abbrev pub prefix_of_first : ℕ → Prefix
prefix_of_first b =
    if to_ascii_lowercase b == 106 then Javascript 1
    else (if to_ascii_lowercase b == 118 then Vbscript 1
    else (if to_ascii_lowercase b == 100 then DataScheme 1
    else Off))

-- the letter of a word behind so many, where there is one; whether a byte is that letter, in any case
abbrev pub letter_behind : List ℕ → ℕ → Option ℕ
letter_behind [] n = None
letter_behind (x ∷ xs) zero = Some x
letter_behind (x ∷ xs) (suc n) = letter_behind xs n

abbrev pub is_letter : Option ℕ → ℕ → Bool
is_letter None b = false
is_letter (Some x) b = x == to_ascii_lowercase b

abbrev pub longer : Bool → Prefix → Prefix
longer true p = p
longer false p = Off

abbrev pub prefix_with_letter : Prefix → ℕ → Prefix
prefix_with_letter Off b = Off
prefix_with_letter (Javascript n) b = longer (is_letter (letter_behind (codes "javascript") n) b) (Javascript (suc n))
prefix_with_letter (Vbscript n) b = longer (is_letter (letter_behind (codes "vbscript") n) b) (Vbscript (suc n))
prefix_with_letter (DataScheme n) b = longer (is_letter (letter_behind (codes "data") n) b) (DataScheme (suc n))
prefix_with_letter Differs b = Differs

abbrev pub next_prefix : Prefix → UrlClass → ℕ → Prefix
next_prefix p class.TabOrNewline b = p
next_prefix p c b = prefix_with_letter p b

-- the whole word has been spelled, and nothing behind it
abbrev pub is_whole_word : Prefix → Bool
is_whole_word Off = false
is_whole_word (Javascript n) = is_none (letter_behind (codes "javascript") n)
is_whole_word (Vbscript n) = is_none (letter_behind (codes "vbscript") n)
is_whole_word (DataScheme n) = is_none (letter_behind (codes "data") n)
is_whole_word Differs = false

-- what two paths that meet have spelled
abbrev pub same_url_prefix : Prefix → Prefix → Bool
same_url_prefix Off Off = true
same_url_prefix (Javascript n) (Javascript m) = n == m
same_url_prefix (Vbscript n) (Vbscript m) = n == m
same_url_prefix (DataScheme n) (DataScheme m) = n == m
same_url_prefix Differs Differs = true
same_url_prefix _ _ = false

abbrev pub joined_prefix : Prefix → Prefix → Prefix
joined_prefix p q = if same_url_prefix p q then p else Differs
