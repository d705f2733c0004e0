-- Each member of the next set comes from a member of the set before.
use Rattle.std.proofs.Common.{◌≡◌, ℕ, Bool, true, false, ◌||◌, not, Option, Some, None, option_map, is_some, refl, sym, ap, ◌∙◌, subst}
use Rattle.place_core.specs.place.LanguagePlaces.{both_prefixes, parts_have}
use Rattle.place_core.specs.declared.member.Member.{Member}
use Rattle.place_core.specs.declared.member.Member.TheVariants as member
use Rattle.place_core.specs.declared.parts.Parts.{Parts}
use Rattle.place_core.specs.declared.prefix.Prefix.{Prefix as PlacedPrefix}
use Rattle.url_lexer.specs.Parts.{UrlPart, UrlStart, UrlOpen, UrlOpenhole, UrlPrequery, UrlQuery, UrlBad, next_part, part_at_hole, part_behind_scheme}
use Rattle.url_lexer.specs.Prefixes.{Prefix, is_whole_word}
use Rattle.url_lexer.specs.declared.class.UrlClass.{UrlClass}
use Rattle.url_lexer.specs.declared.class.UrlClass.TheVariants as class
use Rattle.url_step.specs.PartOrigins.{PartBears, IsPartOrigin, IsPartHoleOrigin, PartsComeFrom, PartsComeFromHole}
use Rattle.place_core.specs.place.UrlParts.{placed_prefix, parts_of}
use Rattle.url_step.specs.PartSets.{spelled_prefix, HasPart, first_spelled, next_spelled, spells_code, spells_no_code, spells_apart, parts_next, parts_error}
use Rattle.url_step.proofs.Growth.{Inside, itself, apart, inside, if-none, not-apart, opened-below}
use Rattle.url_step.proofs.OnePath.{spelled-placed}

no : false ≡ true → ⊥
no e = cc

-- which path bears a member
pub bears-start : (p : UrlPart) → PartBears p member.PartStart → p ≡ UrlStart
bears-start UrlStart h = refl
bears-start _ h = absurd (no h)

pub bears-open : (p : UrlPart) → PartBears p member.PartOpen → (x : Prefix) × (p ≡ UrlOpen x)
bears-open (UrlOpen x) h = (x, refl)
bears-open _ h = absurd (no h)

pub bears-openhole : (p : UrlPart) → PartBears p member.PartOpenhole → p ≡ UrlOpenhole
bears-openhole UrlOpenhole h = refl
bears-openhole _ h = absurd (no h)

pub bears-prequery : (p : UrlPart) → PartBears p member.PartPrequery → p ≡ UrlPrequery
bears-prequery UrlPrequery h = refl
bears-prequery _ h = absurd (no h)

pub bears-query : (p : UrlPart) → PartBears p member.PartQuery → p ≡ UrlQuery
bears-query UrlQuery h = refl
bears-query _ h = absurd (no h)

pub bears-bad : (p : UrlPart) → PartBears p member.PartBad → p ≡ UrlBad
bears-bad UrlBad h = refl
bears-bad _ h = absurd (no h)

abbrev From : Parts → UrlClass → ℕ → Member → Type 0
From s c b y = (x : Member) × IsPartOrigin s c b y x

by-start : (s : Parts) (c : UrlClass) (b : ℕ) (y : Member) → s.start ≡ true → PartBears (next_part UrlStart c b) y → From s c b y
by-start s c b y h k =
    (member.PartStart, record { has = h; leads = λ p i m. subst (λ (z : UrlPart). PartBears (next_part z c b) y) (sym (bears-start p m)) k })

by-open : (s : Parts) (c : UrlClass) (b : ℕ) (y : Member) → is_some s.opened ≡ true
    → ((x : Prefix) → HasPart s (UrlOpen x) → PartBears (next_part (UrlOpen x) c b) y) → From s c b y
by-open s c b y h k = (
  member.PartOpen,
  record {
    has = h;
    leads = λ p i m.
        let o = bears-open p m in
        subst (λ (z : UrlPart). PartBears (next_part z c b) y) (sym o.1) (k o.0 (subst (HasPart s) o.1 i));
  },
)

by-openhole : (s : Parts) (c : UrlClass) (b : ℕ) (y : Member) → s.openhole ≡ true → PartBears (next_part UrlOpenhole c b) y → From s c b y
by-openhole s c b y h k =
    (member.PartOpenhole, record { has = h; leads = λ p i m. subst (λ (z : UrlPart). PartBears (next_part z c b) y) (sym (bears-openhole p m)) k })

by-prequery : (s : Parts) (c : UrlClass) (b : ℕ) (y : Member) → s.prequery ≡ true → PartBears (next_part UrlPrequery c b) y → From s c b y
by-prequery s c b y h k =
    (member.PartPrequery, record { has = h; leads = λ p i m. subst (λ (z : UrlPart). PartBears (next_part z c b) y) (sym (bears-prequery p m)) k })

by-query : (s : Parts) (c : UrlClass) (b : ℕ) (y : Member) → s.query ≡ true → PartBears (next_part UrlQuery c b) y → From s c b y
by-query s c b y h k =
    (member.PartQuery, record { has = h; leads = λ p i m. subst (λ (z : UrlPart). PartBears (next_part z c b) y) (sym (bears-query p m)) k })

by-bad : (s : Parts) (c : UrlClass) (b : ℕ) (y : Member) → s.bad ≡ true → PartBears (next_part UrlBad c b) y → From s c b y
by-bad s c b y h k =
    (member.PartBad, record { has = h; leads = λ p i m. subst (λ (z : UrlPart). PartBears (next_part z c b) y) (sym (bears-bad p m)) k })

pub either : (P : Type 0) (x y : Bool) → (x || y) ≡ true → (x ≡ true → P) → (y ≡ true → P) → P
either P true y h f g = f refl
either P false y h f g = g h

some-mapped : (b : ℕ) (o : Option PlacedPrefix) → is_some (option_map (next_spelled b) o) ≡ true → is_some o ≡ true
some-mapped b (Some p) h = refl
some-mapped b None h = h

some-either : (b : ℕ) (x : Bool) (o : Option PlacedPrefix) → is_some (both_prefixes (first_spelled x b) (option_map (next_spelled b) o)) ≡ true → (x || is_some o) ≡ true
some-either b true o h = refl
some-either b false o h = some-mapped b o h

-- behind a `:`, where prefixes do not differ, each path in the beginning has spelled what the set says
not-both : true ≡ false → ⊥
not-both e = cc

spelled-inside : (x : Prefix) (p q : PlacedPrefix) → Inside p q → p ≡ placed_prefix x → spells_apart (Some q) ≡ false → spelled_prefix q ≡ x
spelled-inside x p q (itself r) e n = ap spelled_prefix e ∙ spelled-placed x
spelled-inside x p q (apart r) e n = absurd (not-both n)

whole-of : (s : Parts) (o : Option PlacedPrefix) (x : Prefix) → both_prefixes (Some (placed_prefix x)) o ≡ o → spells_apart o ≡ false
    → (spells_code o ≡ true → is_whole_word x ≡ true) × (spells_no_code o ≡ true → not (is_whole_word x) ≡ true)
whole-of s None x h n = (λ e. absurd (no e), λ e. absurd (no e))
whole-of s (Some q) x h n =
    let e = spelled-inside x (placed_prefix x) q (inside (placed_prefix x) q h) refl n in
    (λ k. sym (ap is_whole_word e) ∙ k, λ k. sym (ap (λ (z : Prefix). not (is_whole_word z)) e) ∙ k)

code-some : (o : Option PlacedPrefix) → spells_code o ≡ true → is_some o ≡ true
code-some (Some p) h = refl
code-some None h = h

no-code-some : (o : Option PlacedPrefix) → spells_no_code o ≡ true → is_some o ≡ true
no-code-some (Some p) h = refl
no-code-some None h = h

scheme-bad : (x : Bool) → x ≡ true → PartBears (part_behind_scheme x) member.PartBad
scheme-bad true e = refl
scheme-bad false e = e

scheme-prequery : (x : Bool) → not x ≡ true → PartBears (part_behind_scheme x) member.PartPrequery
scheme-prequery false e = refl
scheme-prequery true e = e

none-apart : (s : Parts) → parts_error s class.Colon ≡ None → spells_apart s.opened ≡ false
none-apart s e = not-apart s.openhole (spells_apart s.opened) (if-none (s.openhole || spells_apart s.opened) e)

from-tab : (s : Parts) (b : ℕ) (y : Member) → parts_have s y ≡ true → From s class.TabOrNewline b y
from-tab s b member.PartStart h = by-start s class.TabOrNewline b member.PartStart h refl
from-tab s b member.PartOpen h = by-open s class.TabOrNewline b member.PartOpen h (λ x i. refl)
from-tab s b member.PartOpenhole h = by-openhole s class.TabOrNewline b member.PartOpenhole h refl
from-tab s b member.PartPrequery h = by-prequery s class.TabOrNewline b member.PartPrequery h refl
from-tab s b member.PartQuery h = by-query s class.TabOrNewline b member.PartQuery h refl
from-tab s b member.PartBad h = by-bad s class.TabOrNewline b member.PartBad h refl
from-tab s b _ h = absurd (no h)

from-blank : (s : Parts) (b : ℕ) (y : Member) → parts_have (parts_next s class.ControlOrSpace b) y ≡ true → From s class.ControlOrSpace b y
from-blank s b member.PartStart h = by-start s class.ControlOrSpace b member.PartStart h refl
from-blank s b member.PartOpen h = by-open s class.ControlOrSpace b member.PartOpen (some-mapped b s.opened h) (λ x i. refl)
from-blank s b member.PartOpenhole h = by-openhole s class.ControlOrSpace b member.PartOpenhole h refl
from-blank s b member.PartPrequery h = by-prequery s class.ControlOrSpace b member.PartPrequery h refl
from-blank s b member.PartQuery h = by-query s class.ControlOrSpace b member.PartQuery h refl
from-blank s b member.PartBad h = by-bad s class.ControlOrSpace b member.PartBad h refl
from-blank s b _ h = absurd (no h)

from-colon : (s : Parts) (b : ℕ) (y : Member) → spells_apart s.opened ≡ false → parts_have (parts_next s class.Colon b) y ≡ true → From s class.Colon b y
from-colon s b member.PartOpenhole n h = by-openhole s class.Colon b member.PartOpenhole h refl
from-colon s b member.PartPrequery n h =
    let y = member.PartPrequery in
    either (From s class.Colon b y) s.start (spells_no_code s.opened || s.prequery) h
    (λ k. by-start s class.Colon b y k refl)
    (λ k. either (From s class.Colon b y) (spells_no_code s.opened) s.prequery k
    (λ l. by-open s class.Colon b y (no-code-some s.opened l)
    (λ x i. scheme-prequery (is_whole_word x) ((whole-of s s.opened x (opened-below (parts_of (UrlOpen x)) s i) n).1 l)))
    (λ l. by-prequery s class.Colon b y l refl))
from-colon s b member.PartQuery n h = by-query s class.Colon b member.PartQuery h refl
from-colon s b member.PartBad n h =
    let y = member.PartBad in
    either (From s class.Colon b y) (spells_code s.opened) s.bad h
    (λ l. by-open s class.Colon b y (code-some s.opened l)
    (λ x i. scheme-bad (is_whole_word x) ((whole-of s s.opened x (opened-below (parts_of (UrlOpen x)) s i) n).0 l)))
    (λ l. by-bad s class.Colon b y l refl)
from-colon s b _ n h = absurd (no h)

from-slash : (s : Parts) (b : ℕ) (y : Member) → parts_have (parts_next s class.Slash b) y ≡ true → From s class.Slash b y
from-slash s b member.PartPrequery h =
    let y = member.PartPrequery in
    let P = From s class.Slash b y in
    either P s.start (is_some s.opened || (s.openhole || s.prequery)) h (λ k. by-start s class.Slash b y k refl)
    (λ k. either P (is_some s.opened) (s.openhole || s.prequery) k (λ l. by-open s class.Slash b y l (λ x i. refl))
    (λ l. either P s.openhole s.prequery l (λ m. by-openhole s class.Slash b y m refl) (λ m. by-prequery s class.Slash b y m refl)))
from-slash s b member.PartQuery h = by-query s class.Slash b member.PartQuery h refl
from-slash s b member.PartBad h = by-bad s class.Slash b member.PartBad h refl
from-slash s b _ h = absurd (no h)

from-mark : (s : Parts) (b : ℕ) (y : Member) → parts_have (parts_next s class.QueryMark b) y ≡ true → From s class.QueryMark b y
from-mark s b member.PartQuery h =
    let y = member.PartQuery in
    let P = From s class.QueryMark b y in
    either P s.start (is_some s.opened || (s.openhole || (s.prequery || s.query))) h (λ k. by-start s class.QueryMark b y k refl)
    (λ k. either P (is_some s.opened) (s.openhole || (s.prequery || s.query)) k (λ l. by-open s class.QueryMark b y l (λ x i. refl))
    (λ l. either P s.openhole (s.prequery || s.query) l (λ m. by-openhole s class.QueryMark b y m refl)
    (λ m. either P s.prequery s.query m (λ r. by-prequery s class.QueryMark b y r refl) (λ r. by-query s class.QueryMark b y r refl))))
from-mark s b member.PartBad h = by-bad s class.QueryMark b member.PartBad h refl
from-mark s b _ h = absurd (no h)

-- another character
abbrev IsLetter : UrlClass → Type 0
IsLetter c = (s : Parts) (b : ℕ) (y : Member) → parts_have (parts_next s c b) y ≡ true → From s c b y

from-percent : IsLetter class.Percent
from-percent s b member.PartOpen h =
    either (From s class.Percent b member.PartOpen) s.start (is_some s.opened) (some-either b s.start s.opened h)
    (λ k. by-start s class.Percent b member.PartOpen k refl) (λ k. by-open s class.Percent b member.PartOpen k (λ x i. refl))
from-percent s b member.PartOpenhole h = by-openhole s class.Percent b member.PartOpenhole h refl
from-percent s b member.PartPrequery h = by-prequery s class.Percent b member.PartPrequery h refl
from-percent s b member.PartQuery h = by-query s class.Percent b member.PartQuery h refl
from-percent s b member.PartBad h = by-bad s class.Percent b member.PartBad h refl
from-percent s b _ h = absurd (no h)

from-hexadecimal : IsLetter class.Hexadecimal
from-hexadecimal s b member.PartOpen h =
    either (From s class.Hexadecimal b member.PartOpen) s.start (is_some s.opened) (some-either b s.start s.opened h)
    (λ k. by-start s class.Hexadecimal b member.PartOpen k refl) (λ k. by-open s class.Hexadecimal b member.PartOpen k (λ x i. refl))
from-hexadecimal s b member.PartOpenhole h = by-openhole s class.Hexadecimal b member.PartOpenhole h refl
from-hexadecimal s b member.PartPrequery h = by-prequery s class.Hexadecimal b member.PartPrequery h refl
from-hexadecimal s b member.PartQuery h = by-query s class.Hexadecimal b member.PartQuery h refl
from-hexadecimal s b member.PartBad h = by-bad s class.Hexadecimal b member.PartBad h refl
from-hexadecimal s b _ h = absurd (no h)

from-other : IsLetter class.Other
from-other s b member.PartOpen h =
    either (From s class.Other b member.PartOpen) s.start (is_some s.opened) (some-either b s.start s.opened h)
    (λ k. by-start s class.Other b member.PartOpen k refl) (λ k. by-open s class.Other b member.PartOpen k (λ x i. refl))
from-other s b member.PartOpenhole h = by-openhole s class.Other b member.PartOpenhole h refl
from-other s b member.PartPrequery h = by-prequery s class.Other b member.PartPrequery h refl
from-other s b member.PartQuery h = by-query s class.Other b member.PartQuery h refl
from-other s b member.PartBad h = by-bad s class.Other b member.PartBad h refl
from-other s b _ h = absurd (no h)

pub parts-come-from : PartsComeFrom
parts-come-from s class.TabOrNewline b y e h = from-tab s b y h
parts-come-from s class.ControlOrSpace b y e h = from-blank s b y h
parts-come-from s class.Colon b y e h = from-colon s b y (none-apart s e) h
parts-come-from s class.Slash b y e h = from-slash s b y h
parts-come-from s class.QueryMark b y e h = from-mark s b y h
parts-come-from s class.Percent b y e h = from-percent s b y h
parts-come-from s class.Hexadecimal b y e h = from-hexadecimal s b y h
parts-come-from s class.Other b y e h = from-other s b y h

-- behind a hole
abbrev Behind : Parts → Member → Type 0
Behind s y = (x : Member) × IsPartHoleOrigin s y x

hole-start : (s : Parts) → s.start ≡ true → Behind s member.PartOpenhole
hole-start s h =
    (member.PartStart, record { has = h; leads = λ p m. subst (λ (z : UrlPart). PartBears (part_at_hole z) member.PartOpenhole) (sym (bears-start p m)) refl })

hole-open : (s : Parts) → is_some s.opened ≡ true → Behind s member.PartOpenhole
hole-open s h =
    (member.PartOpen, record { has = h; leads = λ p m. subst (λ (z : UrlPart). PartBears (part_at_hole z) member.PartOpenhole) (sym ((bears-open p m).1)) refl })

hole-openhole : (s : Parts) → s.openhole ≡ true → Behind s member.PartOpenhole
hole-openhole s h =
    (member.PartOpenhole, record { has = h; leads = λ p m. subst (λ (z : UrlPart). PartBears (part_at_hole z) member.PartOpenhole) (sym (bears-openhole p m)) refl })

pub parts-come-from-hole : PartsComeFromHole
parts-come-from-hole s member.PartOpenhole h =
    let P = Behind s member.PartOpenhole in
    either P s.start (is_some s.opened || s.openhole) h (hole-start s) (λ k. either P (is_some s.opened) s.openhole k (hole-open s) (hole-openhole s))
parts-come-from-hole s member.PartPrequery h =
    (member.PartPrequery, record { has = h; leads = λ p m. subst (λ (z : UrlPart). PartBears (part_at_hole z) member.PartPrequery) (sym (bears-prequery p m)) refl })
parts-come-from-hole s member.PartQuery h =
    (member.PartQuery, record { has = h; leads = λ p m. subst (λ (z : UrlPart). PartBears (part_at_hole z) member.PartQuery) (sym (bears-query p m)) refl })
parts-come-from-hole s member.PartBad h =
    (member.PartBad, record { has = h; leads = λ p m. subst (λ (z : UrlPart). PartBears (part_at_hole z) member.PartBad) (sym (bears-bad p m)) refl })
parts-come-from-hole s _ h = absurd (no h)
