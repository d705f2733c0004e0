-- Which bytes of a text stay what they are, by tables, and what is written for the others.
use Rattle.std.specs.Prelude.{◌≡◌, ◌<◌, ◌==◌, ◌||◌, ◌&&◌, ℕ, Bool, not, IsTrue, codes, List, [], ◌∷◌, if◌then◌else◌}
use Rattle.std.specs.List.{list_any}
use Rattle.esc_table.specs.Kept.{is_kept_byte}
use Rattle.url_lexer.specs.Kept.{begins_triple, is_kept_in_url}
use Rattle.url_lexer.specs.Sanitizers.{triple}

-- what ends the beginning of a URL (RFC 3986, sections 3.3 to 3.5)
abbrev pub ends_beginning : ℕ → Bool
ends_beginning b = list_any (λ k. k == b) (codes "/?#")

-- what stays in the beginning of a URL and does not end it: what may stand in a URL, without `:`, `/`, `?` and `#`
abbrev pub stays_in_beginning : ℕ → Bool
stays_in_beginning b = is_kept_in_url b && not (b == 58 || ends_beginning b)

-- The table has of each byte whether it passes the test. Those that do are of ASCII.
pub record IsTableOf (test : ℕ → Bool) (table : List Bool) : Type 0 where
  pub value : (b : ℕ) → b < 256 → is_kept_byte table b ≡ test b
  pub ascii : (b : ℕ) → b < 256 → IsTrue (is_kept_byte table b) → b < 128

-- what is written for a byte, before these, that stays nowhere by itself: itself where it begins a percent triple, else its triple
abbrev pub unkept_written : ℕ → List ℕ → List ℕ
unkept_written b bs = if begins_triple b bs then b ∷ [] else triple b
