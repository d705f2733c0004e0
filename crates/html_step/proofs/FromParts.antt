-- Each part of a URL behind bytes comes from one part before them, for all the sets of parts below one.
use Rattle.std.proofs.Common.{◌≡◌, ℕ, ◌-◌, Bool, true, false, ◌||◌, List, [], ◌∷◌, ◌++◌, Option, Some, None, option_map, is_some, if◌then◌else◌, refl, sym, ap, ◌∙◌, subst}
use Rattle.place_core.specs.page.Classes.{Class}
use Rattle.place_core.specs.page.References.{Form, Reference, Closed, Open, ReferenceStep, Grows, Closes, Breaks, turn, turn_bytes, undone_byte}
use Rattle.place_core.specs.page.Tags.{feed_bytes, refusal_code}
use Rattle.place_core.specs.place.Errors.{PathCause, cause_back, fed_error, first_cause, language_error, turned_error}
use Rattle.place_core.specs.place.LanguagePlaces.{both_prefixes, parts_have}
use Rattle.place_core.specs.declared.code.Code.{Code}
use Rattle.place_core.specs.declared.member.Member.{Member}
use Rattle.place_core.specs.declared.member.Member.TheVariants as member
use Rattle.place_core.specs.declared.parts.Parts.{Parts}
use Rattle.place_core.specs.declared.prefix.Prefix.{Prefix}
use Rattle.place_core.proofs.Semilattices.{no_map, none_some}
use Rattle.html_scan.specs.Scans.{parts_feeding}
use Rattle.html_step.specs.Origins.{fed_origin, part_origin}
use Rattle.url_lexer.specs.Classes.{url_class_of}
use Rattle.url_lexer.specs.declared.class.UrlClass.{UrlClass}
use Rattle.url_lexer.specs.declared.class.UrlClass.TheVariants as class
use Rattle.url_step.specs.PartSets.{PartsBelow, first_spelled, next_spelled, parts_error, parts_next, spells_apart, spells_code, spells_no_code}
use Rattle.url_step.proofs.Growth.{Inside, apart, if-none, inside, itself, not-apart, opened-below, parts-grow}

no : false ≡ true → ⊥
no e = cc

pub or-first : (x y : Bool) → x ≡ true → (x || y) ≡ true
or-first true y h = refl
or-first false y h = absurd (no h)

pub or-behind : (x y : Bool) → y ≡ true → (x || y) ≡ true
or-behind true y h = refl
or-behind false y h = h

-- either is true
pub or-either : (P : Type 0) (x y : Bool) → (x || y) ≡ true → (x ≡ true → P) → (y ≡ true → P) → P
or-either P true y h f g = f refl
or-either P false y h f g = g h

-- what the beginning spells
some-of-mapped : (b : ℕ) (o : Option Prefix) → is_some (option_map (next_spelled b) o) ≡ true → is_some o ≡ true
some-of-mapped b (Some p) h = refl
some-of-mapped b None h = h

mapped-of-some : (b : ℕ) (o : Option Prefix) → is_some o ≡ true → is_some (option_map (next_spelled b) o) ≡ true
mapped-of-some b (Some p) h = refl
mapped-of-some b None h = h

begun-some : (b : ℕ) (x : Bool) (o : Option Prefix) → x ≡ true → is_some (both_prefixes (first_spelled x b) (option_map (next_spelled b) o)) ≡ true
begun-some b true (Some p) h = refl
begun-some b true None h = refl
begun-some b false o h = absurd (no h)

opened-some : (b : ℕ) (x : Bool) (o : Option Prefix) → is_some o ≡ true → is_some (both_prefixes (first_spelled x b) (option_map (next_spelled b) o)) ≡ true
opened-some b true (Some p) h = refl
opened-some b false (Some p) h = refl
opened-some b x None h = absurd (no h)

code-some : (o : Option Prefix) → spells_code o ≡ true → is_some o ≡ true
code-some (Some p) h = refl
code-some None h = h

no-code-some : (o : Option Prefix) → spells_no_code o ≡ true → is_some o ≡ true
no-code-some (Some p) h = refl
no-code-some None h = h

-- where no prefixes differ, a set below has the prefix of the set
same-inside : (p q : Prefix) → Inside p q → spells_apart (Some q) ≡ false → Some p ≡ Some q
same-inside p q (itself r) n = refl
same-inside p q (apart r) n = absurd (no (sym n))

pub same-opened : (o r : Option Prefix) → is_some o ≡ true → spells_apart r ≡ false → both_prefixes o r ≡ r → o ≡ r
same-opened (Some p) (Some q) h n w = same-inside p q (inside p q w) n
same-opened (Some p) None h n w = absurd (none_some p (sym w))
same-opened None r h n w = absurd (no h)

-- a part behind a byte comes from this one before it
pub record PartFrom (s : Parts) (c : UrlClass) (b : ℕ) (y x : Member) : Type 0 where
  pub there : parts_have s x ≡ true
  pub leads : (t : Parts) → PartsBelow t s → parts_have t x ≡ true → parts_have (parts_next t c b) y ≡ true

from-blank : (s : Parts) (b : ℕ) (y : Member) → parts_have (parts_next s class.ControlOrSpace b) y ≡ true → PartFrom s class.ControlOrSpace b y y
from-blank s b member.PartStart h = record { there = h; leads = λ t l k. k }
from-blank s b member.PartOpen h = record { there = some-of-mapped b s.opened h; leads = λ t l k. mapped-of-some b t.opened k }
from-blank s b member.PartOpenhole h = record { there = h; leads = λ t l k. k }
from-blank s b member.PartPrequery h = record { there = h; leads = λ t l k. k }
from-blank s b member.PartQuery h = record { there = h; leads = λ t l k. k }
from-blank s b member.PartBad h = record { there = h; leads = λ t l k. k }
from-blank s b _ h = absurd (no h)

colon-prequery : (s : Parts) (b : ℕ) (x p : Bool) → s.start ≡ x → s.prequery ≡ p → spells_apart s.opened ≡ false → (x || (spells_no_code s.opened || p)) ≡ true
    → PartFrom s class.Colon b member.PartPrequery (if x then member.PartStart else (if p then member.PartPrequery else member.PartOpen))
colon-prequery s b true p e f n h = record { there = e; leads = λ t l k. or-first t.start (spells_no_code t.opened || t.prequery) k }
colon-prequery s b false true e f n h =
    record { there = f; leads = λ t l k. or-behind t.start (spells_no_code t.opened || t.prequery) (or-behind (spells_no_code t.opened) t.prequery k) }
colon-prequery s b false false e f n h =
    let other : spells_no_code s.opened ≡ true = or-either (spells_no_code s.opened ≡ true) (spells_no_code s.opened) false h (λ k. k) (λ k. absurd (no k)) in
    record {
      there = no-code-some s.opened other;
      leads = λ t l k. or-behind t.start (spells_no_code t.opened || t.prequery)
          (or-first (spells_no_code t.opened) t.prequery
          (subst (λ (o : Option Prefix). spells_no_code o ≡ true) (sym (same-opened t.opened s.opened k n (opened-below t s l))) other));
    }

colon-bad : (s : Parts) (b : ℕ) (x : Bool) → s.bad ≡ x → spells_apart s.opened ≡ false → (spells_code s.opened || x) ≡ true
    → PartFrom s class.Colon b member.PartBad (if x then member.PartBad else member.PartOpen)
colon-bad s b true e n h = record { there = e; leads = λ t l k. or-behind (spells_code t.opened) t.bad k }
colon-bad s b false e n h =
    let whole : spells_code s.opened ≡ true = or-either (spells_code s.opened ≡ true) (spells_code s.opened) false h (λ k. k) (λ k. absurd (no k)) in
    record {
      there = code-some s.opened whole;
      leads = λ t l k. or-first (spells_code t.opened) t.bad
          (subst (λ (o : Option Prefix). spells_code o ≡ true) (sym (same-opened t.opened s.opened k n (opened-below t s l))) whole);
    }

from-colon : (s : Parts) (b : ℕ) (y : Member) → spells_apart s.opened ≡ false → parts_have (parts_next s class.Colon b) y ≡ true
    → PartFrom s class.Colon b y (part_origin s class.Colon y)
from-colon s b member.PartOpenhole n h = record { there = h; leads = λ t l k. k }
from-colon s b member.PartPrequery n h = colon-prequery s b s.start s.prequery refl refl n h
from-colon s b member.PartQuery n h = record { there = h; leads = λ t l k. k }
from-colon s b member.PartBad n h = colon-bad s b s.bad refl n h
from-colon s b _ n h = absurd (no h)

slash-prequery : (s : Parts) (b : ℕ) (x o u : Bool) → s.start ≡ x → is_some s.opened ≡ o → s.openhole ≡ u → (x || (o || (u || s.prequery))) ≡ true
    → PartFrom s class.Slash b member.PartPrequery
    (if x then member.PartStart else (if o then member.PartOpen else (if u then member.PartOpenhole else member.PartPrequery)))
slash-prequery s b true o u e f g h = record { there = e; leads = λ t l k. or-first t.start (is_some t.opened || (t.openhole || t.prequery)) k }
slash-prequery s b false true u e f g h = record {
  there = f;
  leads = λ t l k. or-behind t.start (is_some t.opened || (t.openhole || t.prequery)) (or-first (is_some t.opened) (t.openhole || t.prequery) k);
}
slash-prequery s b false false true e f g h = record {
  there = g;
  leads = λ t l k. or-behind t.start (is_some t.opened || (t.openhole || t.prequery))
      (or-behind (is_some t.opened) (t.openhole || t.prequery) (or-first t.openhole t.prequery k));
}
slash-prequery s b false false false e f g h = record {
  there = h;
  leads = λ t l k. or-behind t.start (is_some t.opened || (t.openhole || t.prequery))
      (or-behind (is_some t.opened) (t.openhole || t.prequery) (or-behind t.openhole t.prequery k));
}

from-slash : (s : Parts) (b : ℕ) (y : Member) → parts_have (parts_next s class.Slash b) y ≡ true → PartFrom s class.Slash b y (part_origin s class.Slash y)
from-slash s b member.PartPrequery h = slash-prequery s b s.start (is_some s.opened) s.openhole refl refl refl h
from-slash s b member.PartQuery h = record { there = h; leads = λ t l k. k }
from-slash s b member.PartBad h = record { there = h; leads = λ t l k. k }
from-slash s b _ h = absurd (no h)

mark-query : (s : Parts) (b : ℕ) (x o u p : Bool) → s.start ≡ x → is_some s.opened ≡ o → s.openhole ≡ u → s.prequery ≡ p
    → (x || (o || (u || (p || s.query)))) ≡ true
    → PartFrom s class.QueryMark b member.PartQuery
    (if x then member.PartStart else
    (if o then member.PartOpen else (if u then member.PartOpenhole else (if p then member.PartPrequery else member.PartQuery))))
mark-query s b true o u p e f g i h = record { there = e; leads = λ t l k. or-first t.start (is_some t.opened || (t.openhole || (t.prequery || t.query))) k }
mark-query s b false true u p e f g i h = record {
  there = f;
  leads = λ t l k. or-behind t.start (is_some t.opened || (t.openhole || (t.prequery || t.query)))
      (or-first (is_some t.opened) (t.openhole || (t.prequery || t.query)) k);
}
mark-query s b false false true p e f g i h = record {
  there = g;
  leads = λ t l k. or-behind t.start (is_some t.opened || (t.openhole || (t.prequery || t.query)))
      (or-behind (is_some t.opened) (t.openhole || (t.prequery || t.query)) (or-first t.openhole (t.prequery || t.query) k));
}
mark-query s b false false false true e f g i h = record {
  there = i;
  leads = λ t l k. or-behind t.start (is_some t.opened || (t.openhole || (t.prequery || t.query)))
      (or-behind (is_some t.opened) (t.openhole || (t.prequery || t.query))
      (or-behind t.openhole (t.prequery || t.query) (or-first t.prequery t.query k)));
}
mark-query s b false false false false e f g i h = record {
  there = h;
  leads = λ t l k. or-behind t.start (is_some t.opened || (t.openhole || (t.prequery || t.query)))
      (or-behind (is_some t.opened) (t.openhole || (t.prequery || t.query))
      (or-behind t.openhole (t.prequery || t.query) (or-behind t.prequery t.query k)));
}

from-mark : (s : Parts) (b : ℕ) (y : Member) → parts_have (parts_next s class.QueryMark b) y ≡ true
    → PartFrom s class.QueryMark b y (part_origin s class.QueryMark y)
from-mark s b member.PartQuery h = mark-query s b s.start (is_some s.opened) s.openhole s.prequery refl refl refl refl h
from-mark s b member.PartBad h = record { there = h; leads = λ t l k. k }
from-mark s b _ h = absurd (no h)

-- another character
character-open : (s : Parts) (b : ℕ) (x : Bool) → s.start ≡ x → is_some (both_prefixes (first_spelled x b) (option_map (next_spelled b) s.opened)) ≡ true
    → PartFrom s class.Other b member.PartOpen (if x then member.PartStart else member.PartOpen)
character-open s b true e h = record { there = e; leads = λ t l k. begun-some b t.start t.opened k }
character-open s b false e h = record { there = some-of-mapped b s.opened h; leads = λ t l k. opened-some b t.start t.opened k }

from-character : (s : Parts) (b : ℕ) (y : Member) → parts_have (parts_next s class.Other b) y ≡ true → PartFrom s class.Other b y (part_origin s class.Other y)
from-character s b member.PartOpen h = character-open s b s.start refl h
from-character s b member.PartOpenhole h = record { there = h; leads = λ t l k. k }
from-character s b member.PartPrequery h = record { there = h; leads = λ t l k. k }
from-character s b member.PartQuery h = record { there = h; leads = λ t l k. k }
from-character s b member.PartBad h = record { there = h; leads = λ t l k. k }
from-character s b _ h = absurd (no h)

none-apart : (s : Parts) → parts_error s class.Colon ≡ None → spells_apart s.opened ≡ false
none-apart s e = not-apart s.openhole (spells_apart s.opened) (if-none (s.openhole || spells_apart s.opened) e)

pub part-from : (s : Parts) (c : UrlClass) (b : ℕ) (y : Member) → parts_error s c ≡ None → parts_have (parts_next s c b) y ≡ true
    → PartFrom s c b y (part_origin s c y)
part-from s class.TabOrNewline b y e h = record { there = h; leads = λ t l k. k }
part-from s class.ControlOrSpace b y e h = from-blank s b y h
part-from s class.Colon b y e h = from-colon s b y (none-apart s e) h
part-from s class.Slash b y e h = from-slash s b y h
part-from s class.QueryMark b y e h = from-mark s b y h
part-from s class.Percent b y e h = (let r = from-character s b y h in record { there = r.there; leads = r.leads })
part-from s class.Hexadecimal b y e h = (let r = from-character s b y h in record { there = r.there; leads = r.leads })
part-from s class.Other b y e h = from-character s b y h

-- Several bytes, of which none is refused.
abbrev pub AreTaken : List ℕ → Parts → Type 0
AreTaken [] s = Unit {0}
AreTaken (b ∷ bs) s = (parts_error s (url_class_of b) ≡ None) × AreTaken bs (parts_next s (url_class_of b) b)

pub record FedFrom (bytes : List ℕ) (s : Parts) (y x : Member) : Type 0 where
  pub there : parts_have s x ≡ true
  pub leads : (t : Parts) → PartsBelow t s → parts_have t x ≡ true → parts_have (feed_bytes parts_feeding t bytes) y ≡ true

pub fed-from : (bytes : List ℕ) (s : Parts) (y : Member) → AreTaken bytes s → parts_have (feed_bytes parts_feeding s bytes) y ≡ true
    → FedFrom bytes s y (fed_origin bytes s y)
fed-from [] s y a h = record { there = h; leads = λ t l k. k }
fed-from (b ∷ bs) s y a h =
    let r = fed-from bs (parts_next s (url_class_of b) b) y a.1 h in
    let o = part-from s (url_class_of b) b (fed_origin bs (parts_next s (url_class_of b) b) y) a.0 r.there in
    record {
      there = o.there;
      leads = λ t l k. r.leads (parts_next t (url_class_of b) b) ((parts-grow t s l).next (url_class_of b) b a.0) (o.leads t l k);
    }

-- a member that is no part comes from itself
part-whole : (s : Parts) (c : UrlClass) → part_origin s c member.Whole ≡ member.Whole
part-whole s class.TabOrNewline = refl
part-whole s class.ControlOrSpace = refl
part-whole s class.Colon = refl
part-whole s class.Slash = refl
part-whole s class.QueryMark = refl
part-whole s _ = refl

part-typed : (s : Parts) (c : UrlClass) → part_origin s c member.Typed ≡ member.Typed
part-typed s class.TabOrNewline = refl
part-typed s class.ControlOrSpace = refl
part-typed s class.Colon = refl
part-typed s class.Slash = refl
part-typed s class.QueryMark = refl
part-typed s _ = refl

pub fed-whole : (bytes : List ℕ) (s : Parts) → fed_origin bytes s member.Whole ≡ member.Whole
fed-whole [] s = refl
fed-whole (b ∷ bs) s =
    ap (part_origin s (url_class_of b)) (fed-whole bs (parts_next s (url_class_of b) b)) ∙ part-whole s (url_class_of b)

pub fed-typed : (bytes : List ℕ) (s : Parts) → fed_origin bytes s member.Typed ≡ member.Typed
fed-typed [] s = refl
fed-typed (b ∷ bs) s =
    ap (part_origin s (url_class_of b)) (fed-typed bs (parts_next s (url_class_of b) b)) ∙ part-typed s (url_class_of b)

part-quoted : (s : Parts) (c : UrlClass)
    → (part_origin s c member.UnquotedValue ≡ member.UnquotedValue) × (part_origin s c member.UnbegunValue ≡ member.UnbegunValue)
part-quoted s class.TabOrNewline = (refl, refl)
part-quoted s class.ControlOrSpace = (refl, refl)
part-quoted s class.Colon = (refl, refl)
part-quoted s class.Slash = (refl, refl)
part-quoted s class.QueryMark = (refl, refl)
part-quoted s _ = (refl, refl)

pub fed-quoted : (bytes : List ℕ) (s : Parts)
    → (fed_origin bytes s member.UnquotedValue ≡ member.UnquotedValue) × (fed_origin bytes s member.UnbegunValue ≡ member.UnbegunValue)
fed-quoted [] s = (refl, refl)
fed-quoted (b ∷ bs) s =
    let more = fed-quoted bs (parts_next s (url_class_of b) b) in
    let one = part-quoted s (url_class_of b) in
    (ap (part_origin s (url_class_of b)) more.0 ∙ one.0, ap (part_origin s (url_class_of b)) more.1 ∙ one.1)

-- of bytes of which none is refused none is an error
pub first-no-cause : (o p : Option PathCause) → first_cause o p ≡ None → (o ≡ None) × (p ≡ None)
first-no-cause None p h = (refl, h)
first-no-cause (Some e) p h = absurd (none_some e (sym h))

pub no-cause-back : (back : ℕ) (o : Option Code) → cause_back back o ≡ None → o ≡ None
no-cause-back back None h = refl
no-cause-back back (Some e) h = absurd (none_some _ (sym h))

pub fed-taken : (bytes : List ℕ) (s : Parts) (written : Bool) (back : ℕ) → fed_error parts_feeding s bytes written back ≡ None → AreTaken bytes s
fed-taken [] s written back h = tt
fed-taken (b ∷ bs) s written back h =
    let f = first-no-cause (cause_back back (option_map refusal_code (parts_error s (url_class_of b))))
    (fed_error parts_feeding (parts_next s (url_class_of b) b) bs written (if written then back - 1 else back)) h in (
      no_map refusal_code (parts_error s (url_class_of b)) (no-cause-back back (option_map refusal_code (parts_error s (url_class_of b))) f.0),
      fed-taken bs
          (parts_next s (url_class_of b) b) written (if written then back - 1 else back) f.1,
    )

taken-append : (xs ys : List ℕ) (s : Parts) → AreTaken xs s → AreTaken ys (feed_bytes parts_feeding s xs) → AreTaken (xs ++ ys) s
taken-append [] ys s h k = k
taken-append (x ∷ xs) ys s h k = (h.0, taken-append xs ys (parts_next s (url_class_of x) x) h.1 k)

turned-taken : (x : ReferenceStep) (f : Form) (bytes : List ℕ) (s : Parts) (c : Class) (b : ℕ) → turned_error parts_feeding s x f bytes c b ≡ None
    → AreTaken (turn_bytes true x f bytes c b) s
turned-taken (Grows g) f bytes s c b h = tt
turned-taken Closes f bytes s c b h = fed-taken _ s _ _ (first-no-cause _ _ h).1
turned-taken Breaks f bytes s c b h =
    (let n = first-no-cause _ _ h in taken-append _ _ s (fed-taken _ s _ _ n.0) (fed-taken _ _ _ _ n.1))

pub language-taken : (r : Reference) (s : Parts) (c : Class) (b : ℕ) → language_error parts_feeding false s r c b ≡ None → AreTaken (undone_byte true r c b) s
language-taken Closed s c b h = fed-taken _ s _ _ h
language-taken (Open f bytes) s c b h = turned-taken (turn c f) f bytes s c b h
