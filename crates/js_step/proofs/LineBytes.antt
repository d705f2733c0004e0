-- Which bytes are the end of a line in a block comment, and which may begin one.
use Rattle.std.proofs.Common.{◌≡◌, ◌≢◌, ℕ, Bool, true, false, [], ◌∷◌, nat_eq, if◌then◌else◌, refl}
use Rattle.std.proofs.lemmas.Bool.{ne_eqb}
use Rattle.js_lexer.specs.States.{PartLines, HasLine, NoLineYet}
use Rattle.js_lexer.specs.Trails.{lines_of, lines_with, may_end_line}

differ : (k b : ℕ) → b ≢ k → nat_eq b k ≡ false
differ k b h = ne_eqb b k h

either : (x : Bool) (l : PartLines) → (if x then l else l) ≡ l
either true l = refl
either false l = refl

pub other-alone : (b : ℕ) → b ≢ 10 → b ≢ 13 → b ≢ 0xE2 → lines_of (b ∷ []) ≡ NoLineYet []
unfolding lib.Utf8.encode
other-alone b h i j = rw (differ 10 b h, differ 13 b i, differ 0xE2 b j) refl

pub line-feed : lines_of (10 ∷ []) ≡ HasLine
unfolding lib.Utf8.encode
line-feed = refl

pub carriage-return : lines_of (13 ∷ []) ≡ HasLine
unfolding lib.Utf8.encode
carriage-return = refl

pub first-of-three : lines_of (0xE2 ∷ []) ≡ NoLineYet (0xE2 ∷ [])
unfolding lib.Utf8.encode
first-of-three = refl

pub from-none : (b : ℕ) → lines_with (NoLineYet []) b ≡ lines_of (b ∷ [])
from-none b = either (may_end_line (b ∷ [])) (lines_of (b ∷ []))

pub other-second : (b : ℕ) → b ≢ 0x80 → lines_with (NoLineYet (0xE2 ∷ [])) b ≡ lines_of (b ∷ [])
unfolding lib.Utf8.encode
other-second b h = rw (differ 0x80 b h) refl

pub second-of-three : lines_with (NoLineYet (0xE2 ∷ [])) 0x80 ≡ NoLineYet (0xE2 ∷ 0x80 ∷ [])
unfolding lib.Utf8.encode
second-of-three = refl

pub other-third : (b : ℕ) → b ≢ 0xA8 → b ≢ 0xA9 → lines_with (NoLineYet (0xE2 ∷ 0x80 ∷ [])) b ≡ lines_of (b ∷ [])
unfolding lib.Utf8.encode
other-third b h i = rw (differ 0xA8 b h, differ 0xA9 b i) refl

pub line-separator : lines_with (NoLineYet (0xE2 ∷ 0x80 ∷ [])) 0xA8 ≡ HasLine
unfolding lib.Utf8.encode
line-separator = refl

pub paragraph-separator : lines_with (NoLineYet (0xE2 ∷ 0x80 ∷ [])) 0xA9 ≡ HasLine
unfolding lib.Utf8.encode
paragraph-separator = refl

pub ruleset line_rules = (other-alone, line-feed, carriage-return, first-of-three, from-none, other-second, second-of-three, other-third, line-separator, paragraph-separator)
