-- What may still become a comment or a doctype holds no `&` and no `<`.
use Rattle.std.proofs.Common.{◌≡◌, ℕ, ◌==◌, Bool, true, false, ◌||◌, ◌&&◌, nat_eq, bytes_eq, codes, List, [], ◌∷◌, ◌++◌, if◌then◌else◌, refl, sym, ap, ◌∙◌, subst}
use Rattle.std.proofs.lemmas.Bool.{eqb-true}
use Rattle.std.specs.List.{starts_with}
use Rattle.std.specs.Char.{is_ascii_alphabetic, is_ascii_digit, is_ascii_hexdigit, is_ascii_whitespace, to_ascii_lowercase}
use Rattle.std.specs.Str.{str_to_ascii_lowercase}
use Rattle.place_core.specs.page.Classes.{Class, Ampersand, LessThan, class_of}
use Rattle.place_core.specs.page.Events.{LexEvent, TextByte}
use Rattle.place_core.specs.page.References.{Closed}
use Rattle.place_core.specs.page.States.{Text, config}
use Rattle.place_core.specs.page.Tags.{ValueLanguage}
use Rattle.text_norm.specs.Standing.{page}
use Rattle.place_core.specs.page.Comments.{OpensComment, OpensDoctype, OpensNothing, Undecided, declared_by}

skip : {A : Type 0} (x : Bool) (a c y : A) → (a ≡ c → ⊥) → (if x then a else y) ≡ c → y ≡ c
skip true a c y n e = absurd (n e)
skip false a c y n e = e

found : {A : Type 0} (x : Bool) (c y : A) → (y ≡ c → ⊥) → (if x then c else y) ≡ c → x ≡ true
found true c y n e = refl
found false c y n e = absurd (n e)

-- whether a byte is one of these
abbrev has : List ℕ → ℕ → Bool
has [] b = false
has (y ∷ ys) b = nat_eq b y || has ys b

no-and : (x : Bool) → (x && false) ≡ false
no-and true = refl
no-and false = refl

false-left : (x y : Bool) → (x || y) ≡ false → x ≡ false
false-left true y e = cc
false-left false y e = refl

false-right : (x y : Bool) → (x || y) ≡ false → y ≡ false
false-right true y e = cc
false-right false y e = e

not-begun : (w pending : List ℕ) (b : ℕ) → has w b ≡ false → starts_with nat_eq w (pending ++ b ∷ []) ≡ false
not-begun [] [] b n = refl
not-begun [] (x ∷ pending) b n = refl
not-begun (y ∷ w) [] b n = rw (false-left (nat_eq b y) (has w b) n) refl
not-begun (y ∷ w) (x ∷ pending) b n = rw (not-begun w pending b (false-right (nat_eq b y) (has w b) n)) (no-and (nat_eq x y))

no : true ≡ false → ⊥
no e = cc

comment : OpensComment ≡ Undecided → ⊥
comment e = cc

doctype : OpensDoctype ≡ Undecided → ⊥
doctype e = cc

nothing : OpensNothing ≡ Undecided → ⊥
nothing e = cc

lower-append : (pending : List ℕ) (b : ℕ) → str_to_ascii_lowercase (pending ++ b ∷ []) ≡ str_to_ascii_lowercase pending ++ str_to_ascii_lowercase (b ∷ [])
lower-append [] b = refl
lower-append (x ∷ pending) b = rw (lower-append pending b) refl

is-false : (x y : Bool) → (x || y) ≡ true → x ≡ false → y ≡ false → ⊥
is-false x y e f g = no (sym e ∙ rw (f, g) refl)

neither : (pending : List ℕ) (b : ℕ) → has (codes "--") b ≡ false → has (codes "doctype") (to_ascii_lowercase b) ≡ false → declared_by (pending ++ b ∷ []) ≡ Undecided → ⊥
neither pending b n m e =
    let bytes = pending ++ b ∷ [] in
    let dashes = starts_with nat_eq (codes "--") bytes in
    let letters = starts_with nat_eq (codes "doctype") (str_to_ascii_lowercase bytes) in
    let one = skip (bytes_eq bytes (codes "--")) OpensComment Undecided (if bytes_eq (str_to_ascii_lowercase bytes) (codes "doctype") then OpensDoctype else (if dashes || letters then Undecided else OpensNothing)) (λ k. comment k) e in
    let two = skip (bytes_eq (str_to_ascii_lowercase bytes) (codes "doctype")) OpensDoctype Undecided (if dashes || letters then Undecided else OpensNothing) (λ k. doctype k) one in
    is-false dashes letters (found (dashes || letters) Undecided OpensNothing (λ k. nothing k) two) (not-begun (codes "--") pending b n)
    (rw (lower-append pending b) (not-begun (codes "doctype") (str_to_ascii_lowercase pending) (to_ascii_lowercase b) m))

-- the classes of `&` and of `<` are theirs alone
next-if : {A : Type 0} (x : Bool) {a c y : A} → (a ≡ c → ⊥) → (if x then a else y) ≡ c → y ≡ c
next-if x {a} {c} {y} n e = skip x a c y n e

none-of : {A : Type 0} (x : Bool) {a c y : A} → (a ≡ c → ⊥) → (y ≡ c → ⊥) → (if x then a else y) ≡ c → ⊥
none-of x n m e = m (next-if x n e)

is_amp : Class → Bool
is_amp Ampersand = true
is_amp _ = false

is_less : Class → Bool
is_less LessThan = true
is_less _ = false

apart : {c : Class} → is_amp c ≡ false → c ≡ Ampersand → ⊥
unfolding is_amp
apart {c} f e = no (sym (ap is_amp e) ∙ f)

amp-only : (b : ℕ) → class_of b ≡ Ampersand → (b == 38) ≡ true
unfolding class_of is_amp
amp-only b e =
    found (b == 38) Ampersand _
    (none-of (b == 39) (apart refl) (none-of (b == 45) (apart refl) (none-of (b == 47) (apart refl) (none-of (is_ascii_digit b) (apart refl) (none-of (b == 59) (apart refl) (none-of (b == 60) (apart refl) (none-of (b == 61) (apart refl) (none-of (b == 62) (apart refl)
    (none-of (b == 63) (apart refl) (none-of (b == 96) (apart refl) (none-of (is_ascii_hexdigit b) (apart refl) (none-of (b == 88 || b == 120) (apart refl) (none-of (is_ascii_alphabetic b) (apart refl) (apart refl))))))))))))))
    (next-if (b == 35) (apart refl) (next-if (b == 34) (apart refl) (next-if (b == 33) (apart refl) (next-if (is_ascii_whitespace b) (apart refl) e))))

apart-less : {c : Class} → is_less c ≡ false → c ≡ LessThan → ⊥
unfolding is_less
apart-less {c} f e = no (sym (ap is_less e) ∙ f)

less-only : (b : ℕ) → class_of b ≡ LessThan → (b == 60) ≡ true
unfolding class_of is_less
less-only b e =
    found (b == 60) LessThan _
    (none-of (b == 61) (apart-less refl) (none-of (b == 62) (apart-less refl) (none-of (b == 63) (apart-less refl) (none-of (b == 96) (apart-less refl) (none-of (is_ascii_hexdigit b) (apart-less refl)
    (none-of (b == 88 || b == 120) (apart-less refl) (none-of (is_ascii_alphabetic b) (apart-less refl) (apart-less refl))))))))
    (next-if (b == 59) (apart-less refl) (next-if (is_ascii_digit b) (apart-less refl) (next-if (b == 47) (apart-less refl) (next-if (b == 45) (apart-less refl) (next-if (b == 39) (apart-less refl)
    (next-if (b == 38) (apart-less refl) (next-if (b == 35) (apart-less refl) (next-if (b == 34) (apart-less refl) (next-if (b == 33) (apart-less refl) (next-if (is_ascii_whitespace b) (apart-less refl) e))))))))))

-- so a byte with which that goes on is one of text
not-amp : (pending : List ℕ) (b : ℕ) → (b == 38) ≡ true → declared_by (pending ++ b ∷ []) ≡ Undecided → ⊥
not-amp pending b e u = neither pending 38 refl refl (subst (λ (z : ℕ). declared_by (pending ++ z ∷ []) ≡ Undecided) (eqb-true b 38 e) u)

not-less : (pending : List ℕ) (b : ℕ) → (b == 60) ≡ true → declared_by (pending ++ b ∷ []) ≡ Undecided → ⊥
not-less pending b e u = neither pending 60 refl refl (subst (λ (z : ℕ). declared_by (pending ++ z ∷ []) ≡ Undecided) (eqb-true b 60 e) u)

own-class : {B : Type 0} (x : ValueLanguage B) (c : Class) (b : ℕ) (u : List LexEvent) → class_of b ≡ c → (c ≡ Ampersand → ⊥) → (c ≡ LessThan → ⊥) → page x (b ∷ []) (config (Text Closed) u) ≡ config (Text Closed) (TextByte b ∷ u)
own-class x Ampersand b u e m n = absurd (m refl)
own-class x LessThan b u e m n = absurd (n refl)
own-class x _ b u e m n = rw e refl

pub undecided-own : {B : Type 0} (x : ValueLanguage B) (pending : List ℕ) (b : ℕ) (u : List LexEvent) → declared_by (pending ++ b ∷ []) ≡ Undecided → page x (b ∷ []) (config (Text Closed) u) ≡ config (Text Closed) (TextByte b ∷ u)
undecided-own x pending b u k = own-class x (class_of b) b u refl (λ e. not-amp pending b (amp-only b e) k) (λ e. not-less pending b (less-only b e) k)
