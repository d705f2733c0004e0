-- No escape that more bytes may go on with has five bytes behind the backslash.
use Rattle.std.proofs.Common.{◌≡◌, ℕ, ◌==◌, ◌||◌, ◌&&◌, Bool, false, [], ◌∷◌, if◌then◌else◌, not, arith, refl}
use Rattle.std.specs.Char.{is_ascii_digit, is_ascii_hexdigit}
use Rattle.std.specs.List.{list_all}
use Rattle.js_lexer.specs.Trails.{is_unfinished_after, next_unfinished}

never : (x y z u v w : Bool) → ((x && (u && false)) || ((y && (v && false)) || ((z && (w && false)) || false))) ≡ false
never x y z u v w = grind arith

pub five_end : (regexp : Bool) (a b c d e : ℕ) → is_unfinished_after regexp (a ∷ b ∷ c ∷ d ∷ e ∷ []) ≡ false
five_end regexp a b c d e = never (a == 120) (a == 117) (is_ascii_digit a) (list_all is_ascii_hexdigit (b ∷ c ∷ d ∷ e ∷ [])) (list_all is_ascii_hexdigit (b ∷ c ∷ d ∷ e ∷ [])) (list_all is_ascii_digit (b ∷ c ∷ d ∷ e ∷ []))

pub behind_five : (regexp : Bool) (a b c d e : ℕ) → next_unfinished regexp (92 ∷ a ∷ b ∷ c ∷ d ∷ []) e ≡ (if (e == 92) && not false then e ∷ [] else [])
behind_five regexp a b c d e = rw (five_end regexp a b c d e) refl
