-- Sets of parts of a URL of which a `:` is refused, and sets in which paths have spelled different things: how bytes lead to them.
use Rattle.std.proofs.Common.{◌≡◌, ◌≤◌, ℕ, zero, suc, ◌-◌, Bool, true, false, ◌||◌, not, codes, List, [], ◌∷◌, Option, Some, None, option_map, is_some, if◌then◌else◌, refl, sym, ap, ◌∙◌, subst, arith, eq-eqb}
use Rattle.std.specs.Char.{to_ascii_lowercase}
use Rattle.std.specs.Prelude.{◌==◌}
use Rattle.std.proofs.lemmas.Bool.{eqb-true}
use Rattle.place_core.specs.page.Tags.{feed_bytes, refusal_code}
use Rattle.place_core.specs.place.ApartPlaces.{spell_apart}
use Rattle.place_core.specs.place.Errors.{PathCause, cause_back, fed_error, first_cause}
use Rattle.place_core.specs.place.LanguagePlaces.{both_prefixes, same_prefix}
use Rattle.place_core.specs.place.PathPairs.{unknown_part}
use Rattle.place_core.specs.place.UrlParts.{parts_of, placed_prefix}
use Rattle.place_core.specs.declared.code.Code.TheVariants as code
use Rattle.place_core.specs.declared.parts.Parts.{Parts}
use Rattle.place_core.specs.declared.prefix.Prefix.{Prefix}
use Rattle.place_core.specs.declared.prefix.Prefix.TheVariants as prefix
use Rattle.place_core.proofs.Semilattices.{none_some, one_value}
use Rattle.html_scan.specs.Scans.{parts_feeding}
use Rattle.html_step.proofs.Characters.{IsCharacter, IsNoLetter, NoColon, blank-low, is_blank, nothing, several, single}
use Rattle.html_step.proofs.FromParts.{or-behind, same-opened}
use Rattle.url_lexer.specs.Classes.{url_class_of}
use Rattle.url_lexer.specs.Parts.{UrlPart, UrlStart, UrlOpen, UrlOpenhole, UrlPrequery, UrlQuery, UrlBad}
use Rattle.url_lexer.specs.Prefixes as spelling
use Rattle.url_lexer.specs.Prefixes.{Differs, is_letter, letter_behind, longer, prefix_of_first, prefix_with_letter}
use Rattle.url_lexer.specs.Refusals.{UrlRefusal, AmbigContext}
use Rattle.url_lexer.specs.TwoPaths.{is_open}
use Rattle.url_lexer.specs.declared.class.UrlClass.{UrlClass}
use Rattle.url_lexer.specs.declared.class.UrlClass.TheVariants as class
use Rattle.url_step.specs.PartSets.{PartsBelow, first_spelled, if_ambiguous, next_spelled, parts_error, parts_next, spells_apart}
use Rattle.url_step.proofs.Growth.{Inside, apart, inside, itself}
use Rattle.url_step.proofs.OnePath.{one-next, spelled-placed}

no : false ≡ true → ⊥
no e = cc

-- whether paths have spelled different things, as an equation on what is spelled
pub differs-of : (o : Option Prefix) → spells_apart o ≡ true → o ≡ Some prefix.Differs
differs-of (Some prefix.Differs) h = refl
differs-of (Some prefix.Off) h = absurd (no h)
differs-of (Some (prefix.Javascript n)) h = absurd (no h)
differs-of (Some (prefix.Vbscript n)) h = absurd (no h)
differs-of (Some (prefix.DataScheme n)) h = absurd (no h)
differs-of None h = absurd (no h)

pub of-differs : (o : Option Prefix) → o ≡ Some prefix.Differs → spells_apart o ≡ true
of-differs o h = ap spells_apart h

-- A `:` is refused.
abbrev pub IsAmbiguous : Parts → Type 0
IsAmbiguous t = (t.openhole || spells_apart t.opened) ≡ true

if-is : (x : Bool) (e : UrlRefusal) → if_ambiguous x ≡ Some e → (e ≡ AmbigContext) × (x ≡ true)
if-is true e h = (sym (one_value AmbigContext e h), refl)
if-is false e h = absurd (none_some e h)

record ErrorShown (s : Parts) (c : UrlClass) (e : UrlRefusal) : Type 0 where
  is : e ≡ AmbigContext
  colon : c ≡ class.Colon
  there : IsAmbiguous s
  refuses : (t : Parts) → IsAmbiguous t → parts_error t c ≡ Some e

error-shown : (s : Parts) (c : UrlClass) (e : UrlRefusal) → parts_error s c ≡ Some e → ErrorShown s c e
error-shown s class.Colon e h =
    let i = if-is (s.openhole || spells_apart s.opened) e h in
    record { is = i.0; colon = refl; there = i.1; refuses = λ t k. ap if_ambiguous k ∙ ap Some (sym i.0) }
error-shown s _ e h = absurd (none_some e h)

pub no-error : (t : Parts) (c : UrlClass) → (c ≡ class.Colon → ⊥) → parts_error t c ≡ None
no-error t class.Colon f = absurd (f refl)
no-error t _ f = refl

pub no-colon-fed : (bytes : List ℕ) (s : Parts) (written : Bool) (back : ℕ) → NoColon bytes → fed_error parts_feeding s bytes written back ≡ None
no-colon-fed [] s written back n = refl
no-colon-fed (b ∷ bs) s written back n =
    let next = if written then back - 1 else back in
    ap (λ (o : Option UrlRefusal). first_cause (cause_back back (option_map refusal_code o)) (fed_error parts_feeding (parts_next s (url_class_of b) b) bs written next))
    (no-error s (url_class_of b) n.0)
    ∙ no-colon-fed bs (parts_next s (url_class_of b) b) written next n.1

-- what is refused of the bytes of one character is a `:` alone
pub record ColonShown (bytes : List ℕ) (s : Parts) (written : Bool) (back : ℕ) (e : PathCause) : Type 0 where
  pub is : e ≡ record { code = code.AmbigContext; back = back; shown = back }
  pub there : IsAmbiguous s
  pub refuses : (t : Parts) → IsAmbiguous t → fed_error parts_feeding t bytes written back ≡ Some e

one-byte-by : (b : ℕ) (s : Parts) (written : Bool) (back : ℕ) (e : PathCause) (o : Option UrlRefusal) → parts_error s (url_class_of b) ≡ o
    → first_cause (cause_back back (option_map refusal_code o)) None ≡ Some e → ColonShown (b ∷ []) s written back e
one-byte-by b s written back e (Some x) i h =
    let d = error-shown s (url_class_of b) x i in
    let same : record { code = refusal_code x; back = back; shown = back } ≡ e = one_value (record { code = refusal_code x; back = back; shown = back }) e h in
    record {
      is = sym same ∙ ap (λ (y : UrlRefusal). record { code = refusal_code y; back = back; shown = back }) d.is;
      there = d.there;
      refuses = λ t k. ap (λ (o : Option UrlRefusal). first_cause (cause_back back (option_map refusal_code o)) None) (d.refuses t k) ∙ h;
    }
one-byte-by b s written back e None i h = absurd (none_some e h)

pub one-byte : (b : ℕ) (s : Parts) (written : Bool) (back : ℕ) (e : PathCause) → fed_error parts_feeding s (b ∷ []) written back ≡ Some e
    → ColonShown (b ∷ []) s written back e
one-byte b s written back e h = one-byte-by b s written back e (parts_error s (url_class_of b)) refl h

pub character-shown : (bytes : List ℕ) (s : Parts) (written : Bool) (back : ℕ) (e : PathCause) → IsCharacter bytes
    → fed_error parts_feeding s bytes written back ≡ Some e → ColonShown bytes s written back e
character-shown bytes s written back e (nothing i) h =
    absurd (none_some e (subst (λ (x : List ℕ). fed_error parts_feeding s x written back ≡ Some e) i h))
character-shown bytes s written back e (single b i) h =
    subst (λ (x : List ℕ). ColonShown x s written back e) (sym i)
    (one-byte b s written back e (subst (λ (x : List ℕ). fed_error parts_feeding s x written back ≡ Some e) i h))
character-shown bytes s written back e (several b bs i l n c) h =
    absurd (none_some e (sym (no-colon-fed (b ∷ bs) s written back c) ∙ subst (λ (x : List ℕ). fed_error parts_feeding s x written back ≡ Some e) i h))

-- A set in which paths are before the URL or in its beginning.
abbrev pub is_inside : Parts → Bool
is_inside s = s.start || is_some s.opened

apart-some : (o : Option Prefix) → spells_apart o ≡ true → is_some o ≡ true
apart-some (Some p) h = refl
apart-some None h = absurd (no h)

pub apart-inside : (s : Parts) → spells_apart s.opened ≡ true → is_inside s ≡ true
apart-inside s h = or-behind s.start (is_some s.opened) (apart-some s.opened h)

pub mapped-some : (b : ℕ) (o : Option Prefix) → is_some (option_map (next_spelled b) o) ≡ is_some o
mapped-some b None = refl
mapped-some b (Some p) = refl

pub joined-some : (x : Bool) (b : ℕ) (o : Option Prefix) → is_some (both_prefixes (first_spelled x b) (option_map (next_spelled b) o)) ≡ true
    → (x || is_some o) ≡ true
joined-some true b o h = refl
joined-some false b o h = sym (mapped-some b o) ∙ h

pub inside-before : (s : Parts) (c : UrlClass) (b : ℕ) → is_inside (parts_next s c b) ≡ true → is_inside s ≡ true
inside-before s class.TabOrNewline b h = h
inside-before s class.ControlOrSpace b h = ap (λ (x : Bool). s.start || x) (sym (mapped-some b s.opened)) ∙ h
inside-before s class.Colon b h = absurd (no h)
inside-before s class.Slash b h = absurd (no h)
inside-before s class.QueryMark b h = absurd (no h)
inside-before s _ b h = joined-some s.start b s.opened h

pub inside-bytes : (bytes : List ℕ) (s : Parts) → is_inside (feed_bytes parts_feeding s bytes) ≡ true → is_inside s ≡ true
inside-bytes [] s h = h
inside-bytes (b ∷ bs) s h = inside-before s (url_class_of b) b (inside-bytes bs (parts_next s (url_class_of b) b) h)

-- what stays behind bytes that did not end the beginning
above-differs : (p : Prefix) → both_prefixes (Some p) (Some prefix.Differs) ≡ Some prefix.Differs
above-differs prefix.Off = refl
above-differs (prefix.Javascript n) = refl
above-differs (prefix.Vbscript n) = refl
above-differs (prefix.DataScheme n) = refl
above-differs prefix.Differs = refl

first-differs : (x : Bool) (b : ℕ) → both_prefixes (first_spelled x b) (Some prefix.Differs) ≡ Some prefix.Differs
first-differs true b = above-differs (placed_prefix (prefix_of_first b))
first-differs false b = refl

pub record Stays (t u : Parts) : Type 0 where
  pub hole : t.openhole ≡ true → u.openhole ≡ true
  pub back : u.openhole ≡ true → t.openhole ≡ true
  pub met : spells_apart t.opened ≡ true → spells_apart u.opened ≡ true

character-met : (t : Parts) (b : ℕ) → spells_apart t.opened ≡ true
    → spells_apart (both_prefixes (first_spelled t.start b) (option_map (next_spelled b) t.opened)) ≡ true
character-met t b h =
    ap spells_apart
    (ap (λ (o : Option Prefix). both_prefixes (first_spelled t.start b) (option_map (next_spelled b) o)) (differs-of t.opened h) ∙ first-differs t.start b)

next-stays : (s t : Parts) (c : UrlClass) (b : ℕ) → is_inside (parts_next s c b) ≡ true → Stays t (parts_next t c b)
next-stays s t class.TabOrNewline b h = record { hole = λ k. k; back = λ k. k; met = λ k. k }
next-stays s t class.ControlOrSpace b h = record {
  hole = λ k. k;
  back = λ k. k;
  met = λ k. ap (λ (o : Option Prefix). spells_apart (option_map (next_spelled b) o)) (differs-of t.opened k);
}
next-stays s t class.Colon b h = absurd (no h)
next-stays s t class.Slash b h = absurd (no h)
next-stays s t class.QueryMark b h = absurd (no h)
next-stays s t _ b h = record { hole = λ k. k; back = λ k. k; met = character-met t b }

pub bytes-stay : (bytes : List ℕ) (s t : Parts) → is_inside (feed_bytes parts_feeding s bytes) ≡ true → Stays t (feed_bytes parts_feeding t bytes)
bytes-stay [] s t h = record { hole = λ k. k; back = λ k. k; met = λ k. k }
bytes-stay (b ∷ bs) s t h =
    let n = next-stays s t (url_class_of b) b (inside-bytes bs (parts_next s (url_class_of b) b) h) in
    let m = bytes-stay bs (parts_next s (url_class_of b) b) (parts_next t (url_class_of b) b) h in
    record { hole = λ k. m.hole (n.hole k); back = λ k. n.back (m.back k); met = λ k. m.met (n.met k) }

-- behind bytes a path is behind a hole if it was before
hole-next : (s : Parts) (c : UrlClass) (b : ℕ) → (parts_next s c b).openhole ≡ true → s.openhole ≡ true
hole-next s class.Slash b h = absurd (no h)
hole-next s class.QueryMark b h = absurd (no h)
hole-next s class.TabOrNewline b h = h
hole-next s class.ControlOrSpace b h = h
hole-next s class.Colon b h = h
hole-next s _ b h = h

pub hole-before : (bytes : List ℕ) (s : Parts) → (feed_bytes parts_feeding s bytes).openhole ≡ true → s.openhole ≡ true
hole-before [] s h = h
hole-before (b ∷ bs) s h = hole-next s (url_class_of b) b (hole-before bs (parts_next s (url_class_of b) b) h)

hole-goes : (s t : Parts) (c : UrlClass) (b : ℕ) → (parts_next s c b).openhole ≡ true → t.openhole ≡ true → (parts_next t c b).openhole ≡ true
hole-goes s t class.Slash b h k = absurd (no h)
hole-goes s t class.QueryMark b h k = absurd (no h)
hole-goes s t class.TabOrNewline b h k = k
hole-goes s t class.ControlOrSpace b h k = k
hole-goes s t class.Colon b h k = k
hole-goes s t _ b h k = k

pub hole-bytes : (bytes : List ℕ) (s t : Parts) → (feed_bytes parts_feeding s bytes).openhole ≡ true → t.openhole ≡ true
    → (feed_bytes parts_feeding t bytes).openhole ≡ true
hole-bytes [] s t h k = k
hole-bytes (b ∷ bs) s t h k =
    hole-bytes bs (parts_next s (url_class_of b) b) (parts_next t (url_class_of b) b) h
    (hole-goes s t (url_class_of b) b (hole-before bs (parts_next s (url_class_of b) b) h) k)

-- A byte at which paths come apart: some begin the URL with it, and others go on in the beginning.
longer-apart : (k : Bool) (p : spelling.Prefix) → spells_apart (Some (placed_prefix p)) ≡ false → spells_apart (Some (placed_prefix (longer k p))) ≡ false
longer-apart true p h = h
longer-apart false p h = refl

mapped-apart : (b : ℕ) (o : Option Prefix) → spells_apart o ≡ false → spells_apart (option_map (next_spelled b) o) ≡ false
mapped-apart b None h = refl
mapped-apart b (Some prefix.Off) h = refl
mapped-apart b (Some (prefix.Javascript n)) h = longer-apart (is_letter (letter_behind (codes "javascript") n) b) (spelling.Javascript (suc n)) refl
mapped-apart b (Some (prefix.Vbscript n)) h = longer-apart (is_letter (letter_behind (codes "vbscript") n) b) (spelling.Vbscript (suc n)) refl
mapped-apart b (Some (prefix.DataScheme n)) h = longer-apart (is_letter (letter_behind (codes "data") n) b) (spelling.DataScheme (suc n)) refl
mapped-apart b (Some prefix.Differs) h = absurd (no (sym h))

first-by : (x y z : Bool) → spells_apart (Some (placed_prefix
    (if x then spelling.Javascript 1 else (if y then spelling.Vbscript 1 else (if z then spelling.DataScheme 1 else spelling.Off))))) ≡ false
first-by true y z = refl
first-by false true z = refl
first-by false false true = refl
first-by false false false = refl

first-apart : (b : ℕ) → spells_apart (Some (placed_prefix (prefix_of_first b))) ≡ false
first-apart b = first-by (to_ascii_lowercase b == 106) (to_ascii_lowercase b == 118) (to_ascii_lowercase b == 100)

joined-apart : (p q : Prefix) (x : Bool) → same_prefix p q ≡ x → spells_apart (Some p) ≡ false
    → spells_apart (Some (if x then p else prefix.Differs)) ≡ true → same_prefix p q ≡ false
joined-apart p q true s n h = absurd (no (sym n ∙ h))
joined-apart p q false s n h = s

apart-of : (p q : Prefix) → same_prefix p q ≡ false → spells_apart (Some p) ≡ false → spells_apart (Some q) ≡ false → spell_apart p q ≡ true
apart-of prefix.Differs q s n m = absurd (no (sym n))
apart-of p prefix.Differs s n m = absurd (no (sym m))
apart-of prefix.Off prefix.Off s n m = absurd (no (sym s))
apart-of (prefix.Javascript x) (prefix.Javascript y) s n m = ap not s
apart-of (prefix.Vbscript x) (prefix.Vbscript y) s n m = ap not s
apart-of (prefix.DataScheme x) (prefix.DataScheme y) s n m = ap not s
apart-of p q s n m = refl

pub record Arise (s : Parts) (c : UrlClass) (b : ℕ) : Type 0 where
  pub start : s.start ≡ true
  pub spelled : Prefix
  pub opened : s.opened ≡ Some spelled
  pub first : parts_next (parts_of UrlStart) c b ≡ parts_of (UrlOpen (prefix_of_first b))
  pub goes : (p : spelling.Prefix) → parts_next (parts_of (UrlOpen p)) c b ≡ parts_of (UrlOpen (prefix_with_letter p b))
  pub differ : spell_apart (placed_prefix (prefix_of_first b)) (next_spelled b spelled) ≡ true

record Begins (s : Parts) (b : ℕ) : Type 0 where
  start : s.start ≡ true
  spelled : Prefix
  opened : s.opened ≡ Some spelled
  differ : spell_apart (placed_prefix (prefix_of_first b)) (next_spelled b spelled) ≡ true

begins-by : (s : Parts) (b : ℕ) (x : Bool) (o : Option Prefix) → s.start ≡ x → s.opened ≡ o → spells_apart o ≡ false
    → spells_apart (both_prefixes (first_spelled x b) (option_map (next_spelled b) o)) ≡ true → Begins s b
begins-by s b false o i j n h = absurd (no (sym (mapped-apart b o n) ∙ h))
begins-by s b true None i j n h = absurd (no (sym (first-apart b) ∙ h))
begins-by s b true (Some p) i j n h =
    let f = placed_prefix (prefix_of_first b) in
    let g = next_spelled b p in
    record {
      start = i;
      spelled = p;
      opened = j;
      differ = apart-of f g (joined-apart f g (same_prefix f g) refl (first-apart b) h) (first-apart b) (mapped-apart b (Some p) n);
    }

begins : (s : Parts) (b : ℕ) → spells_apart s.opened ≡ false
    → spells_apart (both_prefixes (first_spelled s.start b) (option_map (next_spelled b) s.opened)) ≡ true → Begins s b
begins s b n h = begins-by s b s.start s.opened refl refl n h

pub arise : (s : Parts) (c : UrlClass) (b : ℕ) → spells_apart s.opened ≡ false → spells_apart (parts_next s c b).opened ≡ true → Arise s c b
arise s class.TabOrNewline b n h = absurd (no (sym n ∙ h))
arise s class.ControlOrSpace b n h = absurd (no (sym (mapped-apart b s.opened n) ∙ h))
arise s class.Colon b n h = absurd (no h)
arise s class.Slash b n h = absurd (no h)
arise s class.QueryMark b n h = absurd (no h)
arise s class.Percent b n h =
    let g = begins s b n h in
    record { start = g.start; spelled = g.spelled; opened = g.opened; first = one-next UrlStart class.Percent b; goes = λ p. one-next (UrlOpen p) class.Percent b; differ = g.differ }
arise s class.Hexadecimal b n h =
    let g = begins s b n h in
    record { start = g.start; spelled = g.spelled; opened = g.opened; first = one-next UrlStart class.Hexadecimal b; goes = λ p. one-next (UrlOpen p) class.Hexadecimal b; differ = g.differ }
arise s class.Other b n h =
    let g = begins s b n h in
    record { start = g.start; spelled = g.spelled; opened = g.opened; first = one-next UrlStart class.Other b; goes = λ p. one-next (UrlOpen p) class.Other b; differ = g.differ }

-- a path that is in the beginning spells there what the set does
pub opens-apart : (s : Parts) (c : UrlClass) (b : ℕ) (q : spelling.Prefix) (a : Arise s c b) → spells_apart s.opened ≡ false → PartsBelow (parts_of (UrlOpen q)) s
    → spell_apart (placed_prefix (prefix_of_first b)) (placed_prefix (prefix_with_letter q b)) ≡ true
opens-apart s c b q a n l =
    let own : Some (placed_prefix q) ≡ s.opened = same-opened (Some (placed_prefix q)) s.opened refl n (ap (λ (z : Parts). z.opened) l) in
    let same : placed_prefix q ≡ a.spelled = one_value (placed_prefix q) a.spelled (own ∙ a.opened) in
    ap (λ (z : spelling.Prefix). spell_apart (placed_prefix (prefix_of_first b)) (placed_prefix (prefix_with_letter z b))) (sym (spelled-placed q))
    ∙ ap (λ (z : Prefix). spell_apart (placed_prefix (prefix_of_first b)) (next_spelled b z)) same ∙ a.differ

-- Where no path is before the URL none come apart; and so behind several bytes of one character, of which the first is no letter.
pub or-not : (x : Bool) → (x ≡ true → ⊥) → x ≡ false
or-not true h = absurd (h refl)
or-not false h = refl

begun-start : (s : Parts) (c : UrlClass) (b : ℕ) → s.start ≡ false → (parts_next s c b).start ≡ false
begun-start s class.TabOrNewline b i = i
begun-start s class.ControlOrSpace b i = i
begun-start s class.Colon b i = refl
begun-start s class.Slash b i = refl
begun-start s class.QueryMark b i = refl
begun-start s _ b i = refl

begun-next : (s : Parts) (c : UrlClass) (b : ℕ) → s.start ≡ false → spells_apart s.opened ≡ false
    → ((parts_next s c b).start ≡ false) × (spells_apart (parts_next s c b).opened ≡ false)
begun-next s c b i n = (begun-start s c b i, or-not (spells_apart (parts_next s c b).opened) (λ h. no (sym i ∙ (arise s c b n h).start)))

begun-bytes : (bytes : List ℕ) (s : Parts) → s.start ≡ false → spells_apart s.opened ≡ false → spells_apart (feed_bytes parts_feeding s bytes).opened ≡ false
begun-bytes [] s i n = n
begun-bytes (b ∷ bs) s i n = (let m = begun-next s (url_class_of b) b i n in begun-bytes bs (parts_next s (url_class_of b) b) m.0 m.1)

not-letter : (b k : ℕ) → IsNoLetter b → 97 ≤ k → k ≤ 122 → (to_ascii_lowercase b == k) ≡ false
not-letter b k n l m = or-not (to_ascii_lowercase b == k) (λ h. n k l m (eqb-true (to_ascii_lowercase b) k h))

no-first : (b : ℕ) → IsNoLetter b → prefix_of_first b ≡ spelling.Off
no-first b n = rw (not-letter b 106 n (omega arith) (omega arith), not-letter b 118 n (omega arith) (omega arith), not-letter b 100 n (omega arith) (omega arith)) refl

abbrev AreLetters : List ℕ → Type 0
AreLetters [] = Unit {0}
AreLetters (x ∷ xs) = (97 ≤ x) × (x ≤ 122) × AreLetters xs

no-behind : (word : List ℕ) (n b : ℕ) → AreLetters word → IsNoLetter b → is_letter (letter_behind word n) b ≡ false
no-behind [] n b a m = refl
no-behind (x ∷ xs) zero b a m = or-not (x == to_ascii_lowercase b) (λ h. m x a.0 a.1 (sym (eqb-true x (to_ascii_lowercase b) h)))
no-behind (x ∷ xs) (suc n) b a m = no-behind xs n b a.2 m

no-next : (b : ℕ) (p : Prefix) → IsNoLetter b → spells_apart (Some p) ≡ false → next_spelled b p ≡ prefix.Off
no-next b prefix.Off n h = refl
no-next b (prefix.Javascript k) n h =
    ap (λ (x : Bool). placed_prefix (longer x (spelling.Javascript (suc k)))) (no-behind (codes "javascript") k b (omega arith, omega arith, (omega arith, omega arith, (omega arith, omega arith, (omega arith, omega arith, (omega arith, omega arith, (omega arith, omega arith, (omega arith, omega arith, (omega arith, omega arith, (omega arith, omega arith, (omega arith, omega arith, tt)))))))))) n)
no-next b (prefix.Vbscript k) n h =
    ap (λ (x : Bool). placed_prefix (longer x (spelling.Vbscript (suc k)))) (no-behind (codes "vbscript") k b (omega arith, omega arith, (omega arith, omega arith, (omega arith, omega arith, (omega arith, omega arith, (omega arith, omega arith, (omega arith, omega arith, (omega arith, omega arith, (omega arith, omega arith, tt)))))))) n)
no-next b (prefix.DataScheme k) n h = ap (λ (x : Bool). placed_prefix (longer x (spelling.DataScheme (suc k)))) (no-behind (codes "data") k b (omega arith, omega arith, (omega arith, omega arith, (omega arith, omega arith, (omega arith, omega arith, tt)))) n)
no-next b prefix.Differs n h = absurd (no (sym h))

no-letter-apart : (s : Parts) (c : UrlClass) (b : ℕ) → IsNoLetter b → spells_apart s.opened ≡ false → spells_apart (parts_next s c b).opened ≡ false
no-letter-apart s c b n m =
    or-not (spells_apart (parts_next s c b).opened)
    (λ h. let a = arise s c b m h in
    let first : placed_prefix (prefix_of_first b) ≡ prefix.Off = ap placed_prefix (no-first b n) in
    let next : next_spelled b a.spelled ≡ prefix.Off = no-next b a.spelled n (ap spells_apart (sym a.opened) ∙ m) in
    no (sym (ap (λ (p : Prefix). spell_apart p (next_spelled b a.spelled)) first
    ∙ ap (λ (p : Prefix). spell_apart prefix.Off p) next) ∙ a.differ))

started : (s : Parts) (c : UrlClass) (b : ℕ) → is_blank c ≡ false → (parts_next s c b).start ≡ false
started s class.TabOrNewline b h = absurd (no (sym h))
started s class.ControlOrSpace b h = absurd (no (sym h))
started s class.Colon b h = refl
started s class.Slash b h = refl
started s class.QueryMark b h = refl
started s _ b h = refl

pub several-apart : (b : ℕ) (bs : List ℕ) (s : Parts) → 33 ≤ b → IsNoLetter b → spells_apart s.opened ≡ false
    → spells_apart (feed_bytes parts_feeding s (b ∷ bs)).opened ≡ false
several-apart b bs s l n m =
    begun-bytes bs (parts_next s (url_class_of b) b)
    (started s (url_class_of b) b (or-not (is_blank (url_class_of b)) (λ h. let k = blank-low b h in omega (arith, l, k))))
    (no-letter-apart s (url_class_of b) b n m)

pub record AriseIn (bytes : List ℕ) (s : Parts) : Type 0 where
  pub byte : ℕ
  pub is : bytes ≡ byte ∷ []
  pub arise : Arise s (url_class_of byte) byte

pub arise-in : (bytes : List ℕ) (s : Parts) → IsCharacter bytes → spells_apart s.opened ≡ false
    → spells_apart (feed_bytes parts_feeding s bytes).opened ≡ true → AriseIn bytes s
arise-in bytes s (nothing i) n h =
    absurd (no (sym n ∙ subst (λ (x : List ℕ). spells_apart (feed_bytes parts_feeding s x).opened ≡ true) i h))
arise-in bytes s (single b i) n h = record {
  byte = b;
  is = i;
  arise = arise s (url_class_of b) b n (subst (λ (x : List ℕ). spells_apart (feed_bytes parts_feeding s x).opened ≡ true) i h);
}
arise-in bytes s (several b bs i l m c) n h =
    absurd (no (sym (several-apart b bs s l m n) ∙ subst (λ (x : List ℕ). spells_apart (feed_bytes parts_feeding s x).opened ≡ true) i h))

-- Bytes behind which a path may still be before the URL: each path stays where it is.
pub record Waits (bytes : List ℕ) (s : Parts) : Type 0 where
  pub start : s.start ≡ true
  pub opened : is_some (feed_bytes parts_feeding s bytes).opened ≡ true → is_some s.opened ≡ true
  pub first : feed_bytes parts_feeding (parts_of UrlStart) bytes ≡ parts_of UrlStart
  pub goes : (p : spelling.Prefix) → (q : spelling.Prefix) × (feed_bytes parts_feeding (parts_of (UrlOpen p)) bytes ≡ parts_of (UrlOpen q))

record Waiting (s : Parts) (c : UrlClass) (b : ℕ) : Type 0 where
  start : s.start ≡ true
  opened : is_some (parts_next s c b).opened ≡ true → is_some s.opened ≡ true
  first : parts_next (parts_of UrlStart) c b ≡ parts_of UrlStart
  goes : (p : spelling.Prefix) → (q : spelling.Prefix) × (parts_next (parts_of (UrlOpen p)) c b ≡ parts_of (UrlOpen q))

waiting : (s : Parts) (c : UrlClass) (b : ℕ) → (parts_next s c b).start ≡ true → Waiting s c b
waiting s class.TabOrNewline b h = record { start = h; opened = λ k. k; first = refl; goes = λ p. (p, refl) }
waiting s class.ControlOrSpace b h = record {
  start = h;
  opened = λ k. sym (mapped-some b s.opened) ∙ k;
  first = refl;
  goes = λ p. (prefix_with_letter p b, one-next (UrlOpen p) class.ControlOrSpace b);
}
waiting s class.Colon b h = absurd (no h)
waiting s class.Slash b h = absurd (no h)
waiting s class.QueryMark b h = absurd (no h)
waiting s _ b h = absurd (no h)

pub waits : (bytes : List ℕ) (s : Parts) → (feed_bytes parts_feeding s bytes).start ≡ true → Waits bytes s
waits [] s h = record { start = h; opened = λ k. k; first = refl; goes = λ p. (p, refl) }
waits (b ∷ bs) s h =
    let m = waits bs (parts_next s (url_class_of b) b) h in
    let n = waiting s (url_class_of b) b m.start in
    record {
      start = n.start;
      opened = λ k. n.opened (m.opened k);
      first = ap (λ (z : Parts). feed_bytes parts_feeding z bs) n.first ∙ m.first;
      goes = λ p. let q = n.goes p in let r = m.goes q.0 in (r.0, ap (λ (z : Parts). feed_bytes parts_feeding z bs) q.1 ∙ r.1);
    }

-- The part of a path of which it is not known what it spells is in a set in which paths have spelled different things.
pub unknown-below : (x : UrlPart) (s : Parts) → is_open x ≡ true → spells_apart s.opened ≡ true → PartsBelow (parts_of (unknown_part x)) s
unknown-below (UrlOpen p) s i h =
    let e = differs-of s.opened h in
    ap (λ (o : Option Prefix). record { start = s.start; opened = o; openhole = s.openhole; prequery = s.prequery; query = s.query; bad = s.bad })
    (ap (both_prefixes (Some prefix.Differs)) e ∙ sym e)
unknown-below UrlStart s i h = absurd (no i)
unknown-below UrlOpenhole s i h = absurd (no i)
unknown-below UrlPrequery s i h = absurd (no i)
unknown-below UrlQuery s i h = absurd (no i)
unknown-below UrlBad s i h = absurd (no i)

-- two different prefixes are in such a set only
never-apart : (p : Prefix) → spell_apart p p ≡ true → ⊥
never-apart prefix.Off h = no h
never-apart (prefix.Javascript n) h = no (sym (ap not (eq-eqb n n refl)) ∙ h)
never-apart (prefix.Vbscript n) h = no (sym (ap not (eq-eqb n n refl)) ∙ h)
never-apart (prefix.DataScheme n) h = no (sym (ap not (eq-eqb n n refl)) ∙ h)
never-apart prefix.Differs h = no h

both-by : (p q r : Prefix) → spell_apart p q ≡ true → Inside p r → Inside q r → spells_apart (Some r) ≡ true
both-by p q r s (itself x) (itself y) = absurd (never-apart r s)
both-by p q r s (apart x) k = refl
both-by p q r s k (apart y) = refl

pub both-apart : (p q : Prefix) (o : Option Prefix) → spell_apart p q ≡ true → both_prefixes (Some p) o ≡ o → both_prefixes (Some q) o ≡ o → spells_apart o ≡ true
both-apart p q None s h k = absurd (none_some p (sym h))
both-apart p q (Some r) s h k = both-by p q r s (inside p r h) (inside q r k)
