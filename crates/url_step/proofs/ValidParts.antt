-- A valid set of parts comes to valid ones: what the beginning spells is at most a whole word, and some part is there.
use Rattle.std.proofs.Common.{◌≡◌, ◌<◌, ◌==◌, ℕ, zero, suc, Bool, true, false, ◌||◌, not, codes, List, [], ◌∷◌, Option, Some, None, option_map, is_some, length, if◌then◌else◌, refl, ap, ◌∙◌, arith}
use Rattle.std.specs.Char.{to_ascii_lowercase}
use Rattle.place_core.specs.place.LanguagePlaces.{both_prefixes, IsSpelled, IsValidParts}
use Rattle.place_core.specs.declared.parts.Parts.{Parts}
use Rattle.place_core.specs.declared.prefix.Prefix.{Prefix}
use Rattle.place_core.specs.declared.prefix.Prefix.TheVariants as prefix
use Rattle.url_lexer.specs.Prefixes as spelling
use Rattle.url_lexer.specs.Prefixes.{is_letter, letter_behind, longer, is_whole_word}
use Rattle.url_lexer.specs.declared.class.UrlClass.{UrlClass}
use Rattle.url_lexer.specs.declared.class.UrlClass.TheVariants as class
use Rattle.url_step.specs.PartLaws.{PartsStayValid}
use Rattle.place_core.specs.place.UrlParts.{placed_prefix}
use Rattle.place_core.proofs.JoinValid.{prefixes_valid}
use Rattle.url_step.specs.PartSets.{spelled_prefix, first_spelled, next_spelled, spells_code, spells_no_code, parts_next}

no : false ≡ true → ⊥
no e = cc

-- prefixes
letter-bound : (xs : List ℕ) (n b : ℕ) → is_letter (letter_behind xs n) b ≡ true → n < length xs
letter-bound [] n b h = absurd (no h)
letter-bound (y ∷ ys) zero b h = omega arith
letter-bound (y ∷ ys) (suc n) b h = (let r = letter-bound ys n b h in omega arith)

javascript-valid : (n b : ℕ) (k : Bool) → is_letter (letter_behind (codes "javascript") n) b ≡ k
    → IsSpelled (Some (placed_prefix (longer k (spelling.Javascript (suc n)))))
javascript-valid n b true h = (let r : n < 10 = letter-bound (codes "javascript") n b h in (omega arith, omega arith))
javascript-valid n b false h = tt

vbscript-valid : (n b : ℕ) (k : Bool) → is_letter (letter_behind (codes "vbscript") n) b ≡ k
    → IsSpelled (Some (placed_prefix (longer k (spelling.Vbscript (suc n)))))
vbscript-valid n b true h = (let r : n < 8 = letter-bound (codes "vbscript") n b h in (omega arith, omega arith))
vbscript-valid n b false h = tt

data-valid : (n b : ℕ) (k : Bool) → is_letter (letter_behind (codes "data") n) b ≡ k
    → IsSpelled (Some (placed_prefix (longer k (spelling.DataScheme (suc n)))))
data-valid n b true h = (let r : n < 4 = letter-bound (codes "data") n b h in (omega arith, omega arith))
data-valid n b false h = tt

next-valid : (b : ℕ) (p : Prefix) → IsSpelled (Some (next_spelled b p))
next-valid b prefix.Off = tt
next-valid b (prefix.Javascript n) = javascript-valid n b (is_letter (letter_behind (codes "javascript") n) b) refl
next-valid b (prefix.Vbscript n) = vbscript-valid n b (is_letter (letter_behind (codes "vbscript") n) b) refl
next-valid b (prefix.DataScheme n) = data-valid n b (is_letter (letter_behind (codes "data") n) b) refl
next-valid b prefix.Differs = tt

mapped-valid : (b : ℕ) (o : Option Prefix) → IsSpelled (option_map (next_spelled b) o)
mapped-valid b None = tt
mapped-valid b (Some p) = next-valid b p

first-by : (x y z : Bool) → IsSpelled (Some (placed_prefix
    (if x then spelling.Javascript 1 else (if y then spelling.Vbscript 1 else (if z then spelling.DataScheme 1 else spelling.Off)))))
first-by true y z = (omega arith, omega arith)
first-by false true z = (omega arith, omega arith)
first-by false false true = (omega arith, omega arith)
first-by false false false = tt

first-valid : (b : ℕ) (x : Bool) → IsSpelled (first_spelled x b)
first-valid b true = first-by (to_ascii_lowercase b == 106) (to_ascii_lowercase b == 118) (to_ascii_lowercase b == 100)
first-valid b false = tt

-- some part is there
blank-some : (b : ℕ) (o : Option Prefix) → is_some (option_map (next_spelled b) o) ≡ is_some o
blank-some b None = refl
blank-some b (Some p) = refl

begun-some : (b : ℕ) (x : Bool) (o : Option Prefix) → is_some (both_prefixes (first_spelled x b) (option_map (next_spelled b) o)) ≡ (x || is_some o)
begun-some b true None = refl
begun-some b true (Some p) = refl
begun-some b false None = refl
begun-some b false (Some p) = refl

two-some : (a o r : Bool) → (a || (o || r)) ≡ true → ((a || o) || r) ≡ true
two-some true o r h = refl
two-some false o r h = h

slash-some : (a o h p r : Bool) → (a || (o || (h || (p || r)))) ≡ true → ((a || (o || (h || p))) || r) ≡ true
slash-some true o h p r e = refl
slash-some false true h p r e = refl
slash-some false false true p r e = refl
slash-some false false false p r e = e

mark-some : (a o h p q b : Bool) → (a || (o || (h || (p || (q || b))))) ≡ true → ((a || (o || (h || (p || q)))) || b) ≡ true
mark-some true o h p q b e = refl
mark-some false o h p q b e = slash-some o h p q b e

hole-some : (a o h r : Bool) → (a || (o || (h || r))) ≡ true → ((a || (o || h)) || r) ≡ true
hole-some true o h r e = refl
hole-some false true h r e = refl
hole-some false false h r e = e

or-true : (x : Bool) → (x || true) ≡ true
or-true true = refl
or-true false = refl

scheme-some : (h p q b w : Bool) → (h || ((not w || p) || (q || (w || b)))) ≡ true
scheme-some true p q b w = refl
scheme-some false p q b false = refl
scheme-some false true q b true = refl
scheme-some false false true b true = refl
scheme-some false false false b true = refl

colon-some : (a : Bool) (o : Option Prefix) (h p q b : Bool) → (a || (is_some o || (h || (p || (q || b))))) ≡ true
    → (h || ((a || (spells_no_code o || p)) || (q || (spells_code o || b)))) ≡ true
colon-some true o h p q b e = or-true h
colon-some false (Some x) h p q b e = scheme-some h p q b (is_whole_word (spelled_prefix x))
colon-some false None h p q b e = e

valid-next : (s : Parts) → IsValidParts s → (c : UrlClass) (b : ℕ) → IsValidParts (parts_next s c b)
valid-next s v class.TabOrNewline b = v
valid-next s v class.ControlOrSpace b =
    (ap (λ (z : Bool). s.start || (z || (s.openhole || (s.prequery || (s.query || s.bad))))) (blank-some b s.opened) ∙ v.0, mapped-valid b s.opened)
valid-next s v class.Colon b = (colon-some s.start s.opened s.openhole s.prequery s.query s.bad v.0, tt)
valid-next s v class.Slash b = (slash-some s.start (is_some s.opened) s.openhole s.prequery (s.query || s.bad) v.0, tt)
valid-next s v class.QueryMark b = (mark-some s.start (is_some s.opened) s.openhole s.prequery s.query s.bad v.0, tt)
valid-next s v _ b = (
  ap (λ (z : Bool). z || (s.openhole || (s.prequery || (s.query || s.bad)))) (begun-some b s.start s.opened)
      ∙ two-some s.start (is_some s.opened) (s.openhole || (s.prequery || (s.query || s.bad))) v.0,
  prefixes_valid (first_spelled s.start b) (option_map (next_spelled b) s.opened) (first-valid b s.start) (mapped-valid b s.opened),
)

pub parts-stay-valid : PartsStayValid
parts-stay-valid s v = record {
  next = valid-next s v;
  at_hole = (hole-some s.start (is_some s.opened) s.openhole (s.prequery || (s.query || s.bad)) v.0, tt);
}
