-- What a set of parts refuses is refused on paths that are in it.
use Rattle.std.proofs.Common.{◌≡◌, ◌+◌, Bool, true, false, ◌||◌, nat_lt, Option, Some, is_some, if◌then◌else◌, refl, sym, subst}
use Rattle.place_core.specs.declared.member.Member.{Member}
use Rattle.place_core.specs.declared.member.Member.TheVariants as member
use Rattle.place_core.specs.declared.parts.Parts.{Parts}
use Rattle.place_core.specs.declared.prefix.Prefix.{Prefix}
use Rattle.place_core.specs.declared.prefix.Prefix.TheVariants as prefix
use Rattle.place_core.proofs.Semilattices.{none_some, one_value}
use Rattle.url_lexer.specs.Parts.{UrlPart, UrlStart, UrlOpen, UrlOpenhole, UrlPrequery, UrlQuery, UrlBad}
use Rattle.url_lexer.specs.Refusals.{UrlRefusal, AmbigContext, BadHTML, url_refuses_class, refuses_hole_in}
use Rattle.url_lexer.specs.TwoPaths.{refuses_hole_on_two}
use Rattle.url_lexer.specs.declared.class.UrlClass.TheVariants as class
use Rattle.url_step.specs.PartOrigins.{PartBears, PartColonEvidence, on_one, on_apart, ColonIsShown, PartHoleEvidence, hole_on_one, hole_on_two, HoleIsShown}
use Rattle.url_step.specs.PartSets.{spells_apart, if_ambiguous, one_if, part_count, if_bad}
use Rattle.url_step.proofs.Origins.{bears-openhole, bears-bad}

no : false ≡ true → ⊥
no e = cc

-- a `:`
apart-is : (o : Option Prefix) → spells_apart o ≡ true → o ≡ Some prefix.Differs
apart-is (Some prefix.Differs) h = refl
apart-is _ h = absurd (no h)

on-openhole : (s : Parts) → s.openhole ≡ true → PartColonEvidence s AmbigContext
on-openhole s h =
    on_one member.PartOpenhole h (λ p m. subst (λ (z : UrlPart). url_refuses_class z class.Colon ≡ Some AmbigContext) (sym (bears-openhole p m)) refl)

colon-by : (s : Parts) (e : UrlRefusal) (x y : Bool) → s.openhole ≡ x → spells_apart s.opened ≡ y → if_ambiguous (x || y) ≡ Some e → PartColonEvidence s e
colon-by s e true y h k r = subst (PartColonEvidence s) (one_value AmbigContext e r) (on-openhole s h)
colon-by s e false true h k r = on_apart (apart-is s.opened k)
colon-by s e false false h k r = absurd (none_some e r)

pub colon-shown : ColonIsShown
colon-shown s e h = colon-by s e s.openhole (spells_apart s.opened) refl refl h

-- two members of a set
abbrev Pair : Member → Member → Type 0
Pair x y = (p q : UrlPart) → PartBears p x → PartBears q y → refuses_hole_on_two p q ≡ Some AmbigContext

start-open : Pair member.PartStart member.PartOpen
start-open UrlStart (UrlOpen y) h k = refl
start-open UrlStart _ h k = absurd (no k)
start-open _ q h k = absurd (no h)

start-openhole : Pair member.PartStart member.PartOpenhole
start-openhole UrlStart UrlOpenhole h k = refl
start-openhole UrlStart _ h k = absurd (no k)
start-openhole _ q h k = absurd (no h)

start-prequery : Pair member.PartStart member.PartPrequery
start-prequery UrlStart UrlPrequery h k = refl
start-prequery UrlStart _ h k = absurd (no k)
start-prequery _ q h k = absurd (no h)

start-query : Pair member.PartStart member.PartQuery
start-query UrlStart UrlQuery h k = refl
start-query UrlStart _ h k = absurd (no k)
start-query _ q h k = absurd (no h)

start-bad : Pair member.PartStart member.PartBad
start-bad UrlStart UrlBad h k = refl
start-bad UrlStart _ h k = absurd (no k)
start-bad _ q h k = absurd (no h)

open-openhole : Pair member.PartOpen member.PartOpenhole
open-openhole (UrlOpen x) UrlOpenhole h k = refl
open-openhole (UrlOpen x) _ h k = absurd (no k)
open-openhole _ q h k = absurd (no h)

open-prequery : Pair member.PartOpen member.PartPrequery
open-prequery (UrlOpen x) UrlPrequery h k = refl
open-prequery (UrlOpen x) _ h k = absurd (no k)
open-prequery _ q h k = absurd (no h)

open-query : Pair member.PartOpen member.PartQuery
open-query (UrlOpen x) UrlQuery h k = refl
open-query (UrlOpen x) _ h k = absurd (no k)
open-query _ q h k = absurd (no h)

open-bad : Pair member.PartOpen member.PartBad
open-bad (UrlOpen x) UrlBad h k = refl
open-bad (UrlOpen x) _ h k = absurd (no k)
open-bad _ q h k = absurd (no h)

openhole-prequery : Pair member.PartOpenhole member.PartPrequery
openhole-prequery UrlOpenhole UrlPrequery h k = refl
openhole-prequery UrlOpenhole _ h k = absurd (no k)
openhole-prequery _ q h k = absurd (no h)

openhole-query : Pair member.PartOpenhole member.PartQuery
openhole-query UrlOpenhole UrlQuery h k = refl
openhole-query UrlOpenhole _ h k = absurd (no k)
openhole-query _ q h k = absurd (no h)

openhole-bad : Pair member.PartOpenhole member.PartBad
openhole-bad UrlOpenhole UrlBad h k = refl
openhole-bad UrlOpenhole _ h k = absurd (no k)
openhole-bad _ q h k = absurd (no h)

prequery-query : Pair member.PartPrequery member.PartQuery
prequery-query UrlPrequery UrlQuery h k = refl
prequery-query UrlPrequery _ h k = absurd (no k)
prequery-query _ q h k = absurd (no h)

prequery-bad : Pair member.PartPrequery member.PartBad
prequery-bad UrlPrequery UrlBad h k = refl
prequery-bad UrlPrequery _ h k = absurd (no k)
prequery-bad _ q h k = absurd (no h)

query-bad : Pair member.PartQuery member.PartBad
query-bad UrlQuery UrlBad h k = refl
query-bad UrlQuery _ h k = absurd (no k)
query-bad _ q h k = absurd (no h)

-- the first two that are there
several-by : (s : Parts) (a o h p q b : Bool) → s.start ≡ a → is_some s.opened ≡ o → s.openhole ≡ h → s.prequery ≡ p → s.query ≡ q → s.bad ≡ b
    → nat_lt 1 (one_if a + (one_if o + (one_if h + (one_if p + (one_if q + one_if b))))) ≡ true → PartHoleEvidence s AmbigContext
several-by s true true h p q b x0 x1 x2 x3 x4 x5 k = hole_on_two member.PartStart member.PartOpen x0 x1 start-open
several-by s true false true p q b x0 x1 x2 x3 x4 x5 k = hole_on_two member.PartStart member.PartOpenhole x0 x2 start-openhole
several-by s true false false true q b x0 x1 x2 x3 x4 x5 k = hole_on_two member.PartStart member.PartPrequery x0 x3 start-prequery
several-by s true false false false true b x0 x1 x2 x3 x4 x5 k = hole_on_two member.PartStart member.PartQuery x0 x4 start-query
several-by s true false false false false true x0 x1 x2 x3 x4 x5 k = hole_on_two member.PartStart member.PartBad x0 x5 start-bad
several-by s false true true p q b x0 x1 x2 x3 x4 x5 k = hole_on_two member.PartOpen member.PartOpenhole x1 x2 open-openhole
several-by s false true false true q b x0 x1 x2 x3 x4 x5 k = hole_on_two member.PartOpen member.PartPrequery x1 x3 open-prequery
several-by s false true false false true b x0 x1 x2 x3 x4 x5 k = hole_on_two member.PartOpen member.PartQuery x1 x4 open-query
several-by s false true false false false true x0 x1 x2 x3 x4 x5 k = hole_on_two member.PartOpen member.PartBad x1 x5 open-bad
several-by s false false true true q b x0 x1 x2 x3 x4 x5 k = hole_on_two member.PartOpenhole member.PartPrequery x2 x3 openhole-prequery
several-by s false false true false true b x0 x1 x2 x3 x4 x5 k = hole_on_two member.PartOpenhole member.PartQuery x2 x4 openhole-query
several-by s false false true false false true x0 x1 x2 x3 x4 x5 k = hole_on_two member.PartOpenhole member.PartBad x2 x5 openhole-bad
several-by s false false false true true b x0 x1 x2 x3 x4 x5 k = hole_on_two member.PartPrequery member.PartQuery x3 x4 prequery-query
several-by s false false false true false true x0 x1 x2 x3 x4 x5 k = hole_on_two member.PartPrequery member.PartBad x3 x5 prequery-bad
several-by s false false false false true true x0 x1 x2 x3 x4 x5 k = hole_on_two member.PartQuery member.PartBad x4 x5 query-bad
several-by s true false false false false false x0 x1 x2 x3 x4 x5 k = absurd (no k)
several-by s false true false false false false x0 x1 x2 x3 x4 x5 k = absurd (no k)
several-by s false false true false false false x0 x1 x2 x3 x4 x5 k = absurd (no k)
several-by s false false false true false false x0 x1 x2 x3 x4 x5 k = absurd (no k)
several-by s false false false false true false x0 x1 x2 x3 x4 x5 k = absurd (no k)
several-by s false false false false false true x0 x1 x2 x3 x4 x5 k = absurd (no k)
several-by s false false false false false false x0 x1 x2 x3 x4 x5 k = absurd (no k)

bad-by : (s : Parts) (e : UrlRefusal) (x : Bool) → s.bad ≡ x → if_bad x ≡ Some e → PartHoleEvidence s e
bad-by s e true h r =
    subst (PartHoleEvidence s) (one_value BadHTML e r)
    (hole_on_one member.PartBad h (λ p m. subst (λ (z : UrlPart). refuses_hole_in z ≡ Some BadHTML) (sym (bears-bad p m)) refl))
bad-by s e false h r = absurd (none_some e r)

hole-by : (s : Parts) (e : UrlRefusal) (x : Bool) → nat_lt 1 (part_count s) ≡ x → (if x then Some AmbigContext else if_bad s.bad) ≡ Some e → PartHoleEvidence s e
hole-by s e true h r =
    subst (PartHoleEvidence s) (one_value AmbigContext e r)
    (several-by s s.start (is_some s.opened) s.openhole s.prequery s.query s.bad refl refl refl refl refl refl h)
hole-by s e false h r = bad-by s e s.bad refl r

pub hole-shown : HoleIsShown
hole-shown s e h = hole-by s e (nat_lt 1 (part_count s)) refl h
