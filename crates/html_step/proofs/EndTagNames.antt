-- What is pending back in the element `style`: no byte of it is a `:`, or a `(`.
use Rattle.std.proofs.Common.{◌≡◌, ◌≤◌, ℕ, zero, suc, Bool, true, false, List, [], ◌∷◌, ◌++◌, codes, length, take, refl, sym, ap, ◌∙◌, subst, arith}
use Rattle.std.specs.Char.{to_ascii_lowercase}
use Rattle.std.specs.Str.{str_to_ascii_lowercase}
use Rattle.std.proofs.lemmas.Slice.Eq.{bytes_eq-Decides}
use Rattle.place_core.specs.page.Classes.{Class, Letter, LetterClass, class_of}
use Rattle.place_core.specs.page.Contents.{may_be_name_of, name_of, pending_bytes}
use Rattle.place_core.specs.page.States.{Pending, Nothing, PendingLess, LessAtCut, PendingName, PendingBang, PendingBangDash, PendingOpening}
use Rattle.place_core.specs.declared.element.Element.TheVariants as element
use Rattle.html_step.proofs.Characters.{NoColon, colon-byte}
use Rattle.html_step.proofs.Parentheses.{IsNoOpening, NoOpening, OpensLast, opening-byte}
use Rattle.html_step.proofs.ScanOrder.{IsPendingName}
use Rattle.url_lexer.specs.Classes.{url_class_of}
use Rattle.url_lexer.specs.declared.class.UrlClass.TheVariants as class

-- small letters
abbrev AreSmall : List ℕ → Type 0
AreSmall [] = Unit {0}
AreSmall (b ∷ bs) = (97 ≤ b) × AreSmall bs

take-small : (k : ℕ) (bytes : List ℕ) → AreSmall bytes → AreSmall (take k bytes)
take-small zero bytes h = tt
take-small (suc k) [] h = tt
take-small (suc k) (b ∷ bs) h = (h.0, take-small k bs h.1)

name-small : AreSmall (name_of element.Style)
name-small = (omega arith, (omega arith, (omega arith, (omega arith, (omega arith, tt)))))

letters-small : (letters : List ℕ) → may_be_name_of element.Style letters ≡ true → AreSmall (str_to_ascii_lowercase letters)
letters-small letters h =
    let low = str_to_ascii_lowercase letters in
    let k = length low in
    subst AreSmall (sym ((bytes_eq-Decides low (take k (name_of element.Style))).0 h)) (take-small k (name_of element.Style) name-small)

small-no-colon : (b : ℕ) → 97 ≤ to_ascii_lowercase b → url_class_of b ≡ class.Colon → ⊥
small-no-colon b l e = let m = subst (λ (z : ℕ). 97 ≤ to_ascii_lowercase z) (colon-byte b e) l in omega (arith, m)

small-no-opening : (b : ℕ) → 97 ≤ to_ascii_lowercase b → IsNoOpening b
small-no-opening b l e = let m = subst (λ (z : ℕ). 97 ≤ to_ascii_lowercase z) (opening-byte b e) l in omega (arith, m)

small-plain : (letters : List ℕ) → AreSmall (str_to_ascii_lowercase letters) → NoColon letters × NoOpening letters
small-plain [] h = (tt, tt)
small-plain (b ∷ bs) h = (let r = small-plain bs h.1 in ((small-no-colon b h.0, r.0), (small-no-opening b h.0, r.1)))

-- and the bytes before them
not-colon : (b : ℕ) → 59 ≤ b → url_class_of b ≡ class.Colon → ⊥
not-colon b l e = let m = colon-byte b e in omega (arith, m, l)

low-not-colon : (b : ℕ) → b ≤ 57 → url_class_of b ≡ class.Colon → ⊥
low-not-colon b l e = let m = colon-byte b e in omega (arith, m, l)

not-opening : (b : ℕ) → 41 ≤ b → IsNoOpening b
not-opening b l e = let m = opening-byte b e in omega (arith, m, l)

low-not-opening : (b : ℕ) → b ≤ 39 → IsNoOpening b
low-not-opening b l e = let m = opening-byte b e in omega (arith, m, l)

pub pending-no-colon : (h : Pending) → IsPendingName h → NoColon (pending_bytes h)
pending-no-colon Nothing n = tt
pending-no-colon PendingLess n = (not-colon 60 (omega arith), tt)
pending-no-colon LessAtCut n = (not-colon 60 (omega arith), tt)
pending-no-colon (PendingName letters) n =
    (not-colon 60 (omega arith), (low-not-colon 47 (omega arith), (small-plain letters (letters-small letters n)).0))
pending-no-colon PendingBang n = (not-colon 60 (omega arith), (low-not-colon 33 (omega arith), tt))
pending-no-colon PendingBangDash n = (not-colon 60 (omega arith), (low-not-colon 33 (omega arith), (low-not-colon 45 (omega arith), tt)))
pending-no-colon (PendingOpening letters) n = absurd n

pub pending-no-opening : (h : Pending) → IsPendingName h → NoOpening (pending_bytes h)
pending-no-opening Nothing n = tt
pending-no-opening PendingLess n = (not-opening 60 (omega arith), tt)
pending-no-opening LessAtCut n = (not-opening 60 (omega arith), tt)
pending-no-opening (PendingName letters) n =
    (not-opening 60 (omega arith), (not-opening 47 (omega arith), (small-plain letters (letters-small letters n)).1))
pending-no-opening PendingBang n = (not-opening 60 (omega arith), (low-not-opening 33 (omega arith), tt))
pending-no-opening PendingBangDash n = (not-opening 60 (omega arith), (low-not-opening 33 (omega arith), (not-opening 45 (omega arith), tt)))
pending-no-opening (PendingOpening letters) n = absurd n

-- Of bytes without a `(`, and a byte more.
pub less-opens-none : IsNoOpening 60
less-opens-none = not-opening 60 (omega arith)

pub solidus-opens-none : IsNoOpening 47
solidus-opens-none = not-opening 47 (omega arith)

pub hyphen-opens-none : IsNoOpening 45
hyphen-opens-none = not-opening 45 (omega arith)

pub no-opening-more : (bytes : List ℕ) (b : ℕ) → NoOpening bytes → IsNoOpening b → NoOpening (bytes ++ b ∷ [])
no-opening-more [] b n h = (h, tt)
no-opening-more (x ∷ xs) b n h = (n.0, no-opening-more xs b n.1 h)

pub no-opening-nil : (bytes : List ℕ) → NoOpening bytes → NoOpening (bytes ++ [])
no-opening-nil [] n = tt
no-opening-nil (x ∷ xs) n = (n.0, no-opening-nil xs n.1)

pub opens-last : (bytes : List ℕ) → NoOpening bytes → OpensLast bytes
opens-last [] n = tt
opens-last (b ∷ []) n = tt
opens-last (b ∷ c ∷ bs) n = (n.0, opens-last (c ∷ bs) n.1)

pub opens-behind : (bytes : List ℕ) (b : ℕ) → NoOpening bytes → OpensLast (bytes ++ b ∷ [])
opens-behind [] b n = tt
opens-behind (x ∷ []) b n = (n.0, tt)
opens-behind (x ∷ y ∷ xs) b n = (n.0, opens-behind (y ∷ xs) b n.1)

pub last-nil : (bytes : List ℕ) → OpensLast bytes → OpensLast (bytes ++ [])
last-nil [] n = tt
last-nil (b ∷ []) n = tt
last-nil (b ∷ c ∷ bs) n = (n.0, last-nil (c ∷ bs) n.1)

-- a letter more of the name
abbrev is_letter : Class → Bool
is_letter (Letter l) = true
is_letter c = false

opening-no-letter : is_letter (class_of 40) ≡ false
unfolding class_of
opening-no-letter = refl

no : false ≡ true → ⊥
no e = cc

letter-no-opening : (b : ℕ) (l : LetterClass) → class_of b ≡ Letter l → IsNoOpening b
letter-no-opening b l h e =
    no (sym opening-no-letter ∙ ap (λ (x : ℕ). is_letter (class_of x)) (sym (opening-byte b e)) ∙ ap is_letter h)

pub name-opens-none : (letters : List ℕ) (b : ℕ) (l : LetterClass) → class_of b ≡ Letter l → NoOpening (codes "</" ++ letters)
    → NoOpening (codes "</" ++ (letters ++ b ∷ []))
name-opens-none letters b l h n = (n.0, (n.1.0, no-opening-more letters b n.1.1 (letter-no-opening b l h)))
