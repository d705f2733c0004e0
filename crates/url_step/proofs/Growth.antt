-- A set of parts below one that is accepted is accepted, and comes to one below.
use Rattle.std.proofs.Common.{◌≡◌, ◌≤◌, ℕ, Bool, true, false, ◌||◌, Option, Some, None, option_map, is_some, nat_lt, if◌then◌else◌, refl, sym, ap, ◌∙◌, subst, arith, ltb-false, le-ltb}
use Rattle.place_core.specs.place.LanguagePlaces.{both_prefixes, same_prefix}
use Rattle.place_core.specs.declared.parts.Parts.{Parts}
use Rattle.place_core.specs.declared.prefix.Prefix.{Prefix}
use Rattle.place_core.specs.declared.prefix.Prefix.TheVariants as prefix
use Rattle.place_core.proofs.JoinParts.{prefixes_union}
use Rattle.place_core.proofs.Semilattices.{IsUnion, one_value, or_same}
use Rattle.url_lexer.specs.Refusals.{AmbigContext}
use Rattle.url_lexer.specs.declared.class.UrlClass.{UrlClass}
use Rattle.url_lexer.specs.declared.class.UrlClass.TheVariants as class
use Rattle.url_step.specs.PartLaws.{PartsGrow}
use Rattle.url_step.specs.PartSets.{PartsBelow, first_spelled, next_spelled, spells_code, spells_no_code, spells_apart, parts_next, if_ambiguous, parts_error, parts_at_hole, one_if, part_count, if_bad, parts_hole_error}

abbrev Under : Bool → Bool → Type 0
Under x y = (x || y) ≡ y

abbrev Within : Option Prefix → Option Prefix → Type 0
Within o r = both_prefixes o r ≡ r

no : true ≡ false → ⊥
no e = cc

some-none : (p : Prefix) → Some p ≡ None → ⊥
some-none p e = cc

below-of : (s t : Parts) → Under s.start t.start → Within s.opened t.opened → Under s.openhole t.openhole → Under s.prequery t.prequery → Under s.query t.query
    → Under s.bad t.bad → PartsBelow s t
below-of s t a o h p q b = rw (a, o, h, p, q, b) refl

under-either : (a b c d : Bool) → Under a b → Under c d → Under (a || c) (b || d)
under-either true true c d e f = refl
under-either true false c d e f = absurd (no e)
under-either false true true d e f = refl
under-either false true false d e f = refl
under-either false false c d e f = f

under-false : (x y : Bool) → Under x y → y ≡ false → x ≡ false
under-false true true e f = f
under-false true false e f = e
under-false false y e f = refl

-- prefixes
some-under : (o r : Option Prefix) → Within o r → Under (is_some o) (is_some r)
some-under None r h = refl
some-under (Some p) (Some q) h = refl
some-under (Some p) None h = absurd (some-none p h)

differs-above : (p : Prefix) → Within (Some p) (Some prefix.Differs)
differs-above prefix.Off = refl
differs-above (prefix.Javascript n) = refl
differs-above (prefix.Vbscript n) = refl
differs-above (prefix.DataScheme n) = refl
differs-above prefix.Differs = refl

-- what is within a prefix is that prefix, or that prefix is the one that differs
pub data Inside : Prefix → Prefix → Type 0 where
  itself : (p : Prefix) → Inside p p
  apart : (p : Prefix) → Inside p prefix.Differs

inside-by : (p q : Prefix) (x : Bool) → same_prefix p q ≡ x → (if x then p else prefix.Differs) ≡ q → Inside p q
inside-by p q true s h = subst (Inside p) h (itself p)
inside-by p q false s h = subst (Inside p) h (apart p)

pub inside : (p q : Prefix) → Within (Some p) (Some q) → Inside p q
inside p q h = inside-by p q (same_prefix p q) refl (one_value (if same_prefix p q then p else prefix.Differs) q h)

spelled-inside : (b : ℕ) (p q : Prefix) → Inside p q → Within (Some (next_spelled b p)) (Some (next_spelled b q))
spelled-inside b p q (itself r) = prefixes_union.same (Some (next_spelled b r))
spelled-inside b p q (apart r) = differs-above (next_spelled b r)

spelled-grow : (b : ℕ) (o r : Option Prefix) → Within o r → Within (option_map (next_spelled b) o) (option_map (next_spelled b) r)
spelled-grow b None r h = refl
spelled-grow b (Some p) None h = absurd (some-none p h)
spelled-grow b (Some p) (Some q) h = spelled-inside b p q (inside p q h)

first-grow : (b : ℕ) (x y : Bool) → Under x y → Within (first_spelled x b) (first_spelled y b)
first-grow b false y h = refl
first-grow b true true h = prefixes_union.same (first_spelled true b)
first-grow b true false h = absurd (no h)

union-four : {A : Type 0} (f : A → A → A) (u : IsUnion f) (a b c d : A) → f a b ≡ b → f c d ≡ d → f (f a c) (f b d) ≡ f b d
union-four f u a b c d h k =
    u.grouped a c (f b d)
    ∙ ap (f a) (ap (f c) (u.swapped b d) ∙ sym (u.grouped c d b) ∙ ap (λ z. f z b) k ∙ u.swapped d b)
    ∙ sym (u.grouped a b d)
    ∙ ap (λ z. f z d) h

or-true : (x : Bool) → Under x true
or-true true = refl
or-true false = refl

apart-inside : (p q : Prefix) → Inside p q → Under (spells_apart (Some p)) (spells_apart (Some q))
apart-inside p q (itself r) = or_same (spells_apart (Some r))
apart-inside p q (apart r) = or-true (spells_apart (Some r))

apart-under : (o r : Option Prefix) → Within o r → Under (spells_apart o) (spells_apart r)
apart-under None r h = refl
apart-under (Some p) None h = absurd (some-none p h)
apart-under (Some p) (Some q) h = apart-inside p q (inside p q h)

code-inside : (p q : Prefix) → Inside p q → spells_apart (Some q) ≡ false
    → Under (spells_code (Some p)) (spells_code (Some q)) × Under (spells_no_code (Some p)) (spells_no_code (Some q))
code-inside p q (itself r) e = (or_same (spells_code (Some r)), or_same (spells_no_code (Some r)))
code-inside p q (apart r) e = absurd (no e)

code-under : (o r : Option Prefix) → Within o r → spells_apart r ≡ false → Under (spells_code o) (spells_code r) × Under (spells_no_code o) (spells_no_code r)
code-under None r h e = (refl, refl)
code-under (Some p) None h e = absurd (some-none p h)
code-under (Some p) (Some q) h e = code-inside p q (inside p q h) e

-- what a `:` refuses
pub if-none : (x : Bool) → if_ambiguous x ≡ None → x ≡ false
if-none false e = refl
if-none true e = cc

none-of : (x : Bool) → x ≡ false → if_ambiguous x ≡ None
none-of x e = ap if_ambiguous e

pub not-apart : (x y : Bool) → (x || y) ≡ false → y ≡ false
not-apart false y e = e
not-apart true y e = absurd (no e)

-- the members of a set below
pub opened-below : (s t : Parts) → PartsBelow s t → Within s.opened t.opened
opened-below s t h = ap (λ (z : Parts). z.opened) h

start-below : (s t : Parts) → PartsBelow s t → Under s.start t.start
start-below s t h = ap (λ (z : Parts). z.start) h

openhole-below : (s t : Parts) → PartsBelow s t → Under s.openhole t.openhole
openhole-below s t h = ap (λ (z : Parts). z.openhole) h

prequery-below : (s t : Parts) → PartsBelow s t → Under s.prequery t.prequery
prequery-below s t h = ap (λ (z : Parts). z.prequery) h

query-below : (s t : Parts) → PartsBelow s t → Under s.query t.query
query-below s t h = ap (λ (z : Parts). z.query) h

bad-below : (s t : Parts) → PartsBelow s t → Under s.bad t.bad
bad-below s t h = ap (λ (z : Parts). z.bad) h

error-grows : (s t : Parts) → PartsBelow s t → (c : UrlClass) → parts_error t c ≡ None → parts_error s c ≡ None
error-grows s t h class.Colon e =
    none-of (s.openhole || spells_apart s.opened)
    (under-false (s.openhole || spells_apart s.opened) (t.openhole || spells_apart t.opened)
    (under-either s.openhole t.openhole (spells_apart s.opened) (spells_apart t.opened) (openhole-below s t h) (apart-under s.opened t.opened (opened-below s t h)))
    (if-none (t.openhole || spells_apart t.opened) e))
error-grows s t h _ e = refl

next-grows : (s t : Parts) → PartsBelow s t → (c : UrlClass) (b : ℕ) → parts_error t c ≡ None → PartsBelow (parts_next s c b) (parts_next t c b)
next-grows s t h class.TabOrNewline b e = h
next-grows s t h class.ControlOrSpace b e =
    below-of (parts_next s class.ControlOrSpace b) (parts_next t class.ControlOrSpace b) (start-below s t h) (spelled-grow b s.opened t.opened (opened-below s t h))
    (openhole-below s t h) (prequery-below s t h) (query-below s t h) (bad-below s t h)
next-grows s t h class.Colon b e =
    let k = code-under s.opened t.opened (opened-below s t h) (not-apart t.openhole (spells_apart t.opened) (if-none (t.openhole || spells_apart t.opened) e)) in
    below-of (parts_next s class.Colon b) (parts_next t class.Colon b) refl refl (openhole-below s t h)
    (under-either s.start t.start _ _ (start-below s t h) (under-either (spells_no_code s.opened) (spells_no_code t.opened) _ _ k.1 (prequery-below s t h)))
    (query-below s t h) (under-either (spells_code s.opened) (spells_code t.opened) _ _ k.0 (bad-below s t h))
next-grows s t h class.Slash b e =
    below-of (parts_next s class.Slash b) (parts_next t class.Slash b) refl refl refl
    (under-either s.start t.start _ _ (start-below s t h) (under-either (is_some s.opened) (is_some t.opened) _ _ (some-under s.opened t.opened (opened-below s t h))
    (under-either s.openhole t.openhole _ _ (openhole-below s t h) (prequery-below s t h))))
    (query-below s t h) (bad-below s t h)
next-grows s t h class.QueryMark b e =
    below-of (parts_next s class.QueryMark b) (parts_next t class.QueryMark b) refl refl refl refl
    (under-either s.start t.start _ _ (start-below s t h) (under-either (is_some s.opened) (is_some t.opened) _ _ (some-under s.opened t.opened (opened-below s t h))
    (under-either s.openhole t.openhole _ _ (openhole-below s t h) (under-either s.prequery t.prequery _ _ (prequery-below s t h) (query-below s t h)))))
    (bad-below s t h)
next-grows s t h c b e =
    below-of (parts_next s c b) (parts_next t c b) refl
    (union-four both_prefixes prefixes_union (first_spelled s.start b) (first_spelled t.start b) (option_map (next_spelled b) s.opened) (option_map (next_spelled b) t.opened)
    (first-grow b s.start t.start (start-below s t h)) (spelled-grow b s.opened t.opened (opened-below s t h)))
    (openhole-below s t h) (prequery-below s t h) (query-below s t h) (bad-below s t h)

-- holes
at-hole-grows : (s t : Parts) → PartsBelow s t → PartsBelow (parts_at_hole s) (parts_at_hole t)
at-hole-grows s t h =
    below-of (parts_at_hole s) (parts_at_hole t) refl refl
    (under-either s.start t.start _ _ (start-below s t h) (under-either (is_some s.opened) (is_some t.opened) _ _ (some-under s.opened t.opened (opened-below s t h)) (openhole-below s t h)))
    (prequery-below s t h) (query-below s t h) (bad-below s t h)

one-grows : (x y : Bool) → Under x y → one_if x ≤ one_if y
one-grows true true e = omega arith
one-grows true false e = absurd (no e)
one-grows false true e = omega arith
one-grows false false e = omega arith

count-grows : (s t : Parts) → PartsBelow s t → part_count s ≤ part_count t
count-grows s t h =
    let a = one-grows s.start t.start (start-below s t h) in
    let o = one-grows (is_some s.opened) (is_some t.opened) (some-under s.opened t.opened (opened-below s t h)) in
    let i = one-grows s.openhole t.openhole (openhole-below s t h) in
    let p = one-grows s.prequery t.prequery (prequery-below s t h) in
    let q = one-grows s.query t.query (query-below s t h) in
    let b = one-grows s.bad t.bad (bad-below s t h) in
    omega arith

pub hole-none : (x y : Bool) → (if x then Some AmbigContext else if_bad y) ≡ None → (x ≡ false) × (y ≡ false)
hole-none true y e = cc
hole-none false false e = (refl, refl)
hole-none false true e = cc

none-hole : (x y : Bool) → x ≡ false → y ≡ false → (if x then Some AmbigContext else if_bad y) ≡ None
none-hole false false e f = refl
none-hole true y e f = absurd (no e)
none-hole false true e f = absurd (no f)

hole-error-grows : (s t : Parts) → PartsBelow s t → parts_hole_error t ≡ None → parts_hole_error s ≡ None
hole-error-grows s t h e =
    let n = hole-none (nat_lt 1 (part_count t)) t.bad e in
    let few = ltb-false 1 (part_count t) n.0 in
    let less = count-grows s t h in
    none-hole (nat_lt 1 (part_count s)) s.bad (le-ltb _ _ (omega arith)) (under-false s.bad t.bad (bad-below s t h) n.1)

pub parts-grow : PartsGrow
parts-grow s t h = record { error = error-grows s t h; next = next-grows s t h; hole_error = hole-error-grows s t h; at_hole = at-hole-grows s t h }
