-- A set of parts below one of which all paths are in one part has that part.
use Rattle.std.proofs.Common.{◌≡◌, ◌≤◌, ◌+◌, Bool, true, false, ◌||◌, Option, Some, None, is_some, nat_lt, if◌then◌else◌, List, [], ◌∷◌, ◌++◌, refl, sym, ap, ◌∙◌, arith, ltb-false}
use Rattle.place_core.specs.place.LanguagePlaces.{both_prefixes, some_part}
use Rattle.place_core.specs.declared.parts.Parts.{Parts}
use Rattle.place_core.specs.declared.prefix.Prefix.{Prefix}
use Rattle.place_core.specs.declared.san.San.{San}
use Rattle.html_step.specs.Holes.{url_chain}
use Rattle.place_core.specs.declared.san.San.TheVariants as san
use Rattle.html_step.proofs.PlaceParts.{Under}
use Rattle.html_step.proofs.PathScans.{some}
use Rattle.url_step.specs.Chains.{chain_of}
use Rattle.url_step.specs.PartSets.{PartsBelow, one_if, part_count, part_sans, parts_hole_error}
use Rattle.url_step.proofs.Growth.{hole-none}

no : false ≡ true → ⊥
no e = cc

one-grows : (x y : Bool) → Under x y → one_if x ≤ one_if y
one-grows true true e = omega arith
one-grows true false e = absurd (no (sym e))
one-grows false true e = omega arith
one-grows false false e = omega arith

one-same : (x y : Bool) → one_if x ≡ one_if y → x ≡ y
one-same true true e = refl
one-same false false e = refl
one-same true false e = cc
one-same false true e = cc

some-under : (o r : Option Prefix) → both_prefixes o r ≡ r → Under (is_some o) (is_some r)
some-under None r h = refl
some-under (Some p) (Some q) h = refl
some-under (Some p) None h = absurd (some p h)

some-count : (a o h p q b : Bool) → (a || (o || (h || (p || (q || b))))) ≡ true → 1 ≤ one_if a + (one_if o + (one_if h + (one_if p + (one_if q + one_if b))))
some-count true o h p q b e = omega arith
some-count false true h p q b e = omega arith
some-count false false true p q b e = omega arith
some-count false false false true q b e = omega arith
some-count false false false false true b e = omega arith
some-count false false false false false true e = omega arith
some-count false false false false false false e = absurd (no e)

-- the members by which a chain is told
pub record SameParts (s t : Parts) : Type 0 where
  pub start : s.start ≡ t.start
  pub prequery : s.prequery ≡ t.prequery
  pub query : s.query ≡ t.query

pub same-parts : (s t : Parts) → some_part s ≡ true → PartsBelow s t → parts_hole_error t ≡ None → SameParts s t
same-parts s t v h e =
    let few = ltb-false 1 (part_count t) (hole-none (nat_lt 1 (part_count t)) t.bad e).0 in
    let one = some-count s.start (is_some s.opened) s.openhole s.prequery s.query s.bad v in
    let a = one-grows s.start t.start (ap (λ (z : Parts). z.start) h) in
    let o = one-grows (is_some s.opened) (is_some t.opened) (some-under s.opened t.opened (ap (λ (z : Parts). z.opened) h)) in
    let i = one-grows s.openhole t.openhole (ap (λ (z : Parts). z.openhole) h) in
    let p = one-grows s.prequery t.prequery (ap (λ (z : Parts). z.prequery) h) in
    let q = one-grows s.query t.query (ap (λ (z : Parts). z.query) h) in
    let b = one-grows s.bad t.bad (ap (λ (z : Parts). z.bad) h) in
    record {
      start = one-same s.start t.start (omega arith);
      prequery = one-same s.prequery t.prequery (omega arith);
      query = one-same s.query t.query (omega arith);
    }

abbrev sans_by : Bool → Bool → Bool → List San
sans_by a p q = if a then san.UrlFilter ∷ san.UrlNorm ∷ [] else (if p then san.UrlNorm ∷ [] else (if q then san.UrlQuery ∷ [] else san.UrlOpen ∷ []))

sans-by : (a p q b r u : Bool) → a ≡ b → p ≡ r → q ≡ u → sans_by a p q ≡ sans_by b r u
sans-by a p q b r u e f g = rw (e, f, g) refl

-- so they have one chain
pub same-sans : (s t : Parts) → some_part s ≡ true → PartsBelow s t → parts_hole_error t ≡ None → part_sans s ≡ part_sans t
same-sans s t v h n =
    let m = same-parts s t v h n in
    sans-by s.start s.prequery s.query t.start t.prequery t.query m.start m.prequery m.query

pub same-chain : (s t : Parts) (x y : San) → x ≡ y → some_part s ≡ true → PartsBelow s t → parts_hole_error t ≡ None → url_chain s x ≡ url_chain t y
same-chain s t x y e v h n =
    ap (url_chain s) e ∙ ap (λ (z : List San). chain_of (z ++ y ∷ [])) (same-sans s t v h n)
