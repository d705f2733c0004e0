-- One part that stands for two paths on one common way is enough: a `:` clashes exactly where its prefix says that they differ.
use Rattle.std.specs.Prelude.{◌≡◌, ◌≢◌, ◌↔◌, ℕ, true, List, [], ◌∷◌, Option, Some, None, option_map}
use Rattle.url_lexer.specs.Classes.{url_class_of}
use Rattle.url_lexer.specs.Parts.{UrlPart, UrlOpen, next_part}
use Rattle.url_lexer.specs.Prefixes.{Differs}
use Rattle.url_lexer.specs.TwoPaths.{clashes_at_colon, joined_part}

-- what stood for both and has been moved by a byte, joined with what stands for both now
abbrev pub joined_again : Option UrlPart → Option UrlPart → Option UrlPart
joined_again None now = now
joined_again (Some before) None = None
joined_again (Some before) (Some now) = joined_part before now

-- over the bytes that both read, joined again at each
abbrev pub joined_over : Option UrlPart → UrlPart → UrlPart → List ℕ → Option UrlPart
joined_over both p q [] = both
joined_over both p q (b ∷ bs) =
    joined_over
    (joined_again (option_map (λ r. next_part r (url_class_of b) b) both) (joined_part (next_part p (url_class_of b) b) (next_part q (url_class_of b) b)))
    (next_part p (url_class_of b) b) (next_part q (url_class_of b) b) bs

-- The first is a path that has met no other.
abbrev pub ClashesAreJoined : Type 0
ClashesAreJoined = (p q : UrlPart) (since : List ℕ) → p ≢ UrlOpen Differs
    → (clashes_at_colon p q since ≡ true) ↔ (joined_over (joined_part p q) p q since ≡ Some (UrlOpen Differs))
