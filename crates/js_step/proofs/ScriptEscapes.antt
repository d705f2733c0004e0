-- The bytes of an escape fit what is held back of it, byte by byte.
use Rattle.std.proofs.Common.{◌≡◌, ◌∙◌, ℕ, ◌==◌, ◌||◌, ◌&&◌, not, Bool, true, false, bytes_eq, codes, List, [], ◌∷◌, ◌++◌, if◌then◌else◌, refl, sym, ap, subst}
use Rattle.std.proofs.lemmas.Bool.{eqb-true}
use Rattle.std.proofs.lemmas.Slice.Eq.{bytes_eq-Decides}
use Rattle.std.specs.Char.{is_ascii_digit, is_ascii_hexdigit}
use Rattle.std.specs.List.{list_all}
use Rattle.js_lexer.specs.States.{ScriptEscape, NoEscape, AfterBackslash, AfterX, AfterX3, AfterCarriageReturn}
use Rattle.js_lexer.specs.Steps.{next_escape}
use Rattle.js_lexer.specs.Trails.{is_empty, are_few, is_unfinished_after, is_unfinished, next_unfinished}
use Rattle.js_step.specs.ScriptPaths.{script_escape_fits}

no : true ≡ false → ⊥
no e = cc

and-none : (x : Bool) → (x && false) ≡ false
and-none true = refl
and-none false = refl

all-ends : (f : ℕ → Bool) (bs : List ℕ) (b : ℕ) → f b ≡ false → list_all f (bs ++ b ∷ []) ≡ false
all-ends f [] b h = rw h refl
all-ends f (x ∷ bs) b h = rw (all-ends f bs b h) (and-none (f x))

few-ends : (f : ℕ → Bool) (most : ℕ) (bs : List ℕ) (b : ℕ) → f b ≡ false → are_few f most (bs ++ b ∷ []) ≡ false
few-ends f most bs b h = rw (all-ends f bs b h) refl

last-some : (bs : List ℕ) (b : ℕ) → is_empty (bs ++ b ∷ []) ≡ false
last-some [] b = refl
last-some (x ∷ bs) b = refl

-- A backslash goes on with no escape.
ors-none : (x y z k : Bool) → ((x && false) || ((y && false) || ((z && false) || (false && k)))) ≡ false
ors-none x y z k = rw (and-none x, and-none y, and-none z) refl

backslash-behind : (regexp : Bool) (x : ℕ) (bs : List ℕ) → is_unfinished_after regexp (x ∷ (bs ++ 92 ∷ [])) ≡ false
backslash-behind regexp x bs =
    rw (few-ends is_ascii_hexdigit 1 bs 92 refl, few-ends is_ascii_hexdigit 3 bs 92 refl, few-ends is_ascii_digit 1 bs 92 refl, last-some bs 92)
    (ors-none (x == 120) (x == 117) (is_ascii_digit x) (if regexp then x == 99 else x == 13))

lone-behind : (regexp : Bool) → is_unfinished_after regexp (92 ∷ []) ≡ false
lone-behind true = refl
lone-behind false = refl

backslash-ends : (regexp : Bool) (bs : List ℕ) → is_unfinished_after regexp (bs ++ 92 ∷ []) ≡ false
backslash-ends regexp [] = lone-behind regexp
backslash-ends regexp (x ∷ bs) = backslash-behind regexp x bs

backslash-grows : (regexp : Bool) (x : ℕ) (bs : List ℕ) → is_unfinished regexp ((x ∷ bs) ++ 92 ∷ []) ≡ false
backslash-grows regexp x bs = rw (backslash-ends regexp bs) (and-none (x == 92))

-- it begins one, but behind a lone one
pub backslash-begins : (regexp : Bool) (bytes : List ℕ) → bytes_eq bytes (codes "\\") ≡ false → next_unfinished regexp bytes 92 ≡ codes "\\"
backslash-begins regexp [] h = refl
backslash-begins regexp (x ∷ bs) h = rw (backslash-grows regexp x bs, h) refl

-- another byte leaves no lone backslash
not-lone : (bytes : List ℕ) (b : ℕ) → (b == 92) ≡ false → bytes_eq (bytes ++ b ∷ []) (codes "\\") ≡ false
not-lone [] b h = rw h refl
not-lone (x ∷ []) b h = and-none (x == 92)
not-lone (x ∷ y ∷ bs) b h = and-none (x == 92)

if-lone : (x : Bool) (bytes : List ℕ) → bytes_eq bytes (codes "\\") ≡ false → not (bytes_eq (if x then bytes else []) (codes "\\")) ≡ true
if-lone true bytes h = rw h refl
if-lone false bytes h = refl

pub other-goes : (regexp : Bool) (bytes : List ℕ) (b : ℕ) → (b == 92) ≡ false → script_escape_fits NoEscape (next_unfinished regexp bytes b) ≡ true
other-goes regexp bytes b h = rw h (if-lone (is_unfinished regexp (bytes ++ b ∷ [])) (bytes ++ b ∷ []) (not-lone bytes b h))

same-bytes : (bytes word : List ℕ) → bytes_eq bytes word ≡ true → bytes ≡ word
same-bytes bytes word h = (bytes_eq-Decides bytes word).0 h

-- by what is held back before the byte
none-next : (x : Bool) (regexp : Bool) (bytes : List ℕ) (b : ℕ) → (b == 92) ≡ x → bytes_eq bytes (codes "\\") ≡ false
    → script_escape_fits (next_escape NoEscape b) (next_unfinished regexp bytes b) ≡ true
none-next true regexp bytes b e h =
    subst (λ (k : ℕ). script_escape_fits (next_escape NoEscape k) (next_unfinished regexp bytes k) ≡ true) (sym (eqb-true b 92 e)) (rw (backslash-begins regexp bytes h) refl)
none-next false regexp bytes b e h =
    ap (λ (x : Bool). script_escape_fits (if x then AfterBackslash else NoEscape) (next_unfinished regexp bytes b)) e ∙ other-goes regexp bytes b e

x-goes : (regexp : Bool) → script_escape_fits AfterX (next_unfinished regexp (codes "\\") 120) ≡ true
x-goes true = refl
x-goes false = refl

lone-goes : (regexp : Bool) → script_escape_fits NoEscape (next_unfinished regexp (codes "\\") 92) ≡ true
lone-goes true = refl
lone-goes false = refl

backslash-next : (x y z : Bool) (regexp : Bool) (b : ℕ) → (b == 92) ≡ x → (b == 120) ≡ y → (b == 13) ≡ z → (regexp && z) ≡ false
    → script_escape_fits (next_escape AfterBackslash b) (next_unfinished regexp (codes "\\") b) ≡ true
backslash-next true y z regexp b e f g h =
    subst (λ (k : ℕ). script_escape_fits (next_escape AfterBackslash k) (next_unfinished regexp (codes "\\") k) ≡ true) (sym (eqb-true b 92 e)) (lone-goes regexp)
backslash-next false true z regexp b e f g h =
    subst (λ (k : ℕ). script_escape_fits (next_escape AfterBackslash k) (next_unfinished regexp (codes "\\") k) ≡ true) (sym (eqb-true b 120 f)) (x-goes regexp)
backslash-next false false true true b e f g h = absurd (no h)
backslash-next false false true false b e f g h =
    subst (λ (k : ℕ). script_escape_fits (next_escape AfterBackslash k) (next_unfinished false (codes "\\") k) ≡ true) (sym (eqb-true b 13 g)) refl
backslash-next false false false regexp b e f g h =
    ap (λ (x : Bool). script_escape_fits (if x then AfterX else (if b == 13 then AfterCarriageReturn else NoEscape)) (next_unfinished regexp (codes "\\") b)) f
    ∙ (ap (λ (x : Bool). script_escape_fits (if x then AfterCarriageReturn else NoEscape) (next_unfinished regexp (codes "\\") b)) g ∙ other-goes regexp (codes "\\") b e)

three-goes : (regexp : Bool) → script_escape_fits AfterX3 (next_unfinished regexp (codes "\\x") 51) ≡ true
three-goes true = refl
three-goes false = refl

x-next : (x y : Bool) (regexp : Bool) (b : ℕ) → (b == 92) ≡ x → (b == 51) ≡ y → script_escape_fits (next_escape AfterX b) (next_unfinished regexp (codes "\\x") b) ≡ true
x-next true y regexp b e f =
    subst (λ (k : ℕ). script_escape_fits (next_escape AfterX k) (next_unfinished regexp (codes "\\x") k) ≡ true) (sym (eqb-true b 92 e))
    (ap (script_escape_fits AfterBackslash) (backslash-begins regexp (codes "\\x") refl))
x-next false true regexp b e f =
    subst (λ (k : ℕ). script_escape_fits (next_escape AfterX k) (next_unfinished regexp (codes "\\x") k) ≡ true) (sym (eqb-true b 51 f)) (three-goes regexp)
x-next false false regexp b e f =
    ap (λ (x : Bool). script_escape_fits (if x then AfterX3 else (if b == 92 then AfterBackslash else NoEscape)) (next_unfinished regexp (codes "\\x") b)) f
    ∙ (ap (λ (x : Bool). script_escape_fits (if x then AfterBackslash else NoEscape) (next_unfinished regexp (codes "\\x") b)) e ∙ other-goes regexp (codes "\\x") b e)

x3-next : (x : Bool) (regexp : Bool) (b : ℕ) → (b == 92) ≡ x → script_escape_fits (next_escape AfterX3 b) (next_unfinished regexp (codes "\\x3") b) ≡ true
x3-next true regexp b e =
    subst (λ (k : ℕ). script_escape_fits (next_escape AfterX3 k) (next_unfinished regexp (codes "\\x3") k) ≡ true) (sym (eqb-true b 92 e))
    (ap (script_escape_fits AfterBackslash) (backslash-begins regexp (codes "\\x3") refl))
x3-next false regexp b e =
    ap (λ (x : Bool). script_escape_fits (if x then AfterBackslash else NoEscape) (next_unfinished regexp (codes "\\x3") b)) e ∙ other-goes regexp (codes "\\x3") b e

return-next : (x : Bool) (regexp : Bool) (b : ℕ) → (b == 92) ≡ x → script_escape_fits (next_escape AfterCarriageReturn b) (next_unfinished regexp (codes "\\\r") b) ≡ true
return-next true regexp b e =
    subst (λ (k : ℕ). script_escape_fits (next_escape AfterCarriageReturn k) (next_unfinished regexp (codes "\\\r") k) ≡ true) (sym (eqb-true b 92 e))
    (ap (script_escape_fits AfterBackslash) (backslash-begins regexp (codes "\\\r") refl))
return-next false regexp b e =
    ap (λ (x : Bool). script_escape_fits (if x then AfterBackslash else NoEscape) (next_unfinished regexp (codes "\\\r") b)) e ∙ other-goes regexp (codes "\\\r") b e

-- In a regular expression the byte ends no line.
abbrev fits-next : (regexp : Bool) → ScriptEscape → List ℕ → ℕ → Type 0
fits-next regexp e bytes b = script_escape_fits (next_escape e b) (next_unfinished regexp bytes b) ≡ true

not-so : (x : Bool) → not x ≡ true → x ≡ false
not-so true e = absurd (no (sym e))
not-so false e = refl

pub escape-goes : (regexp : Bool) (e : ScriptEscape) (bytes : List ℕ) (b : ℕ) → (regexp && b == 13) ≡ false → script_escape_fits e bytes ≡ true
    → script_escape_fits (next_escape e b) (next_unfinished regexp bytes b) ≡ true
escape-goes regexp NoEscape bytes b h f = none-next (b == 92) regexp bytes b refl (not-so _ f)
escape-goes regexp AfterBackslash bytes b h f =
    subst (λ (z : List ℕ). fits-next regexp AfterBackslash z b) (sym (same-bytes bytes (codes "\\") f)) (backslash-next (b == 92) (b == 120) (b == 13) regexp b refl refl refl h)
escape-goes regexp AfterX bytes b h f =
    subst (λ (z : List ℕ). fits-next regexp AfterX z b) (sym (same-bytes bytes (codes "\\x") f)) (x-next (b == 92) (b == 51) regexp b refl refl)
escape-goes regexp AfterX3 bytes b h f =
    subst (λ (z : List ℕ). fits-next regexp AfterX3 z b) (sym (same-bytes bytes (codes "\\x3") f)) (x3-next (b == 92) regexp b refl)
escape-goes regexp AfterCarriageReturn bytes b h f =
    subst (λ (z : List ℕ). fits-next regexp AfterCarriageReturn z b) (sym (same-bytes bytes (codes "\\\r") f)) (return-next (b == 92) regexp b refl)
