-- A hole in a URL that is refused is refused on the paths behind a scheme that is code, or on any two in the first two parts that are there.
use Rattle.std.proofs.Common.{◌≡◌, ◌+◌, Bool, true, false, nat_lt, Option, Some, None, option_map, is_some, if◌then◌else◌, refl, sym, ap, ◌∙◌}
use Rattle.place_core.specs.page.Tags.{refusal_code}
use Rattle.place_core.specs.place.LanguagePlaces.{parts_have}
use Rattle.place_core.specs.declared.code.Code.{Code}
use Rattle.place_core.specs.declared.code.Code.TheVariants as code
use Rattle.place_core.specs.declared.member.Member.{Member}
use Rattle.place_core.specs.declared.member.Member.TheVariants as member
use Rattle.place_core.specs.declared.parts.Parts.{Parts}
use Rattle.html_step.specs.HoleOrigins.{url_hole_shows}
use Rattle.html_step.specs.Laws.{EvidenceData, one, two}
use Rattle.url_lexer.specs.Parts.{UrlPart, UrlStart, UrlOpen, UrlOpenhole, UrlPrequery, UrlQuery, UrlBad}
use Rattle.url_lexer.specs.Refusals.{UrlRefusal, AmbigContext}
use Rattle.url_lexer.specs.TwoPaths.{refuses_hole_on_two, same_part, unless_same}
use Rattle.url_step.specs.PartOrigins.{PartBears}
use Rattle.url_step.specs.PartSets.{if_bad, one_if, part_count, parts_at_hole, parts_hole_error, parts_or_refusal}

no : false ≡ true → ⊥
no e = cc

-- the member of a part, which it alone bears
abbrev member_of : UrlPart → Member
member_of UrlStart = member.PartStart
member_of (UrlOpen p) = member.PartOpen
member_of UrlOpenhole = member.PartOpenhole
member_of UrlPrequery = member.PartPrequery
member_of UrlQuery = member.PartQuery
member_of UrlBad = member.PartBad

its-member : (p : UrlPart) (x : Member) → PartBears p x → x ≡ member_of p
its-member UrlStart member.PartStart h = refl
its-member UrlStart _ h = absurd (no h)
its-member (UrlOpen z) member.PartOpen h = refl
its-member (UrlOpen z) _ h = absurd (no h)
its-member UrlOpenhole member.PartOpenhole h = refl
its-member UrlOpenhole _ h = absurd (no h)
its-member UrlPrequery member.PartPrequery h = refl
its-member UrlPrequery _ h = absurd (no h)
its-member UrlQuery member.PartQuery h = refl
its-member UrlQuery _ h = absurd (no h)
its-member UrlBad member.PartBad h = refl
its-member UrlBad _ h = absurd (no h)

not-same : (p q : UrlPart) → (member_of p ≡ member_of q → ⊥) → same_part p q ≡ false
not-same UrlStart UrlStart n = absurd (n refl)
not-same (UrlOpen x) (UrlOpen y) n = absurd (n refl)
not-same UrlOpenhole UrlOpenhole n = absurd (n refl)
not-same UrlPrequery UrlPrequery n = absurd (n refl)
not-same UrlQuery UrlQuery n = absurd (n refl)
not-same UrlBad UrlBad n = absurd (n refl)
not-same _ _ n = refl

-- What a refused hole is shown by: one member, or two.
pub data HoleShown (s : Parts) (e : Code) : EvidenceData → Type 0 where
  on_bad : s.bad ≡ true → e ≡ code.BadHTML → HoleShown s e (one member.PartBad)
  on_two : (x y : Member) → parts_have s x ≡ true → parts_have s y ≡ true
      → ((p q : UrlPart) → PartBears p x → PartBears q y → option_map refusal_code (refuses_hole_on_two p q) ≡ Some e) → HoleShown s e (two x y)

pair : (s : Parts) (x y : Member) → (x ≡ y → ⊥) → parts_have s x ≡ true → parts_have s y ≡ true → HoleShown s code.AmbigContext (two x y)
pair s x y n h k =
    on_two x y h k
    (λ p q i j. ap (λ (z : Bool). option_map refusal_code (unless_same z))
    (not-same p q (λ e. n (its-member p x i ∙ e ∙ sym (its-member q y j)))))

abbrev two_of : Bool → Bool → Bool → Bool → Bool → EvidenceData
two_of a o h p q =
    if a then two member.PartStart (if o then member.PartOpen else (if h then member.PartOpenhole else (if p then member.PartPrequery
    else (if q then member.PartQuery else member.PartBad))))
    else (if o then two member.PartOpen (if h then member.PartOpenhole else (if p then member.PartPrequery else (if q then member.PartQuery else member.PartBad)))
    else (if h then two member.PartOpenhole (if p then member.PartPrequery else (if q then member.PartQuery else member.PartBad))
    else (if p then two member.PartPrequery (if q then member.PartQuery else member.PartBad) else two member.PartQuery member.PartBad)))

two-by : (s : Parts) (a o h p q b : Bool) → s.start ≡ a → is_some s.opened ≡ o → s.openhole ≡ h → s.prequery ≡ p → s.query ≡ q → s.bad ≡ b
    → nat_lt 1 (one_if a + (one_if o + (one_if h + (one_if p + (one_if q + one_if b))))) ≡ true → HoleShown s code.AmbigContext (two_of a o h p q)
two-by s true true h p q b x0 x1 x2 x3 x4 x5 k = pair s member.PartStart member.PartOpen (λ e. cc) x0 x1
two-by s true false true p q b x0 x1 x2 x3 x4 x5 k = pair s member.PartStart member.PartOpenhole (λ e. cc) x0 x2
two-by s true false false true q b x0 x1 x2 x3 x4 x5 k = pair s member.PartStart member.PartPrequery (λ e. cc) x0 x3
two-by s true false false false true b x0 x1 x2 x3 x4 x5 k = pair s member.PartStart member.PartQuery (λ e. cc) x0 x4
two-by s true false false false false true x0 x1 x2 x3 x4 x5 k = pair s member.PartStart member.PartBad (λ e. cc) x0 x5
two-by s false true true p q b x0 x1 x2 x3 x4 x5 k = pair s member.PartOpen member.PartOpenhole (λ e. cc) x1 x2
two-by s false true false true q b x0 x1 x2 x3 x4 x5 k = pair s member.PartOpen member.PartPrequery (λ e. cc) x1 x3
two-by s false true false false true b x0 x1 x2 x3 x4 x5 k = pair s member.PartOpen member.PartQuery (λ e. cc) x1 x4
two-by s false true false false false true x0 x1 x2 x3 x4 x5 k = pair s member.PartOpen member.PartBad (λ e. cc) x1 x5
two-by s false false true true q b x0 x1 x2 x3 x4 x5 k = pair s member.PartOpenhole member.PartPrequery (λ e. cc) x2 x3
two-by s false false true false true b x0 x1 x2 x3 x4 x5 k = pair s member.PartOpenhole member.PartQuery (λ e. cc) x2 x4
two-by s false false true false false true x0 x1 x2 x3 x4 x5 k = pair s member.PartOpenhole member.PartBad (λ e. cc) x2 x5
two-by s false false false true true b x0 x1 x2 x3 x4 x5 k = pair s member.PartPrequery member.PartQuery (λ e. cc) x3 x4
two-by s false false false true false true x0 x1 x2 x3 x4 x5 k = pair s member.PartPrequery member.PartBad (λ e. cc) x3 x5
two-by s false false false false true true x0 x1 x2 x3 x4 x5 k = pair s member.PartQuery member.PartBad (λ e. cc) x4 x5
two-by s true false false false false false x0 x1 x2 x3 x4 x5 k = absurd (no k)
two-by s false true false false false false x0 x1 x2 x3 x4 x5 k = absurd (no k)
two-by s false false true false false false x0 x1 x2 x3 x4 x5 k = absurd (no k)
two-by s false false false true false false x0 x1 x2 x3 x4 x5 k = absurd (no k)
two-by s false false false false true false x0 x1 x2 x3 x4 x5 k = absurd (no k)
two-by s false false false false false true x0 x1 x2 x3 x4 x5 k = absurd (no k)
two-by s false false false false false false x0 x1 x2 x3 x4 x5 k = absurd (no k)

-- where several parts are there, and else where a path is behind a scheme that is code
abbrev pub ShownWhere : Parts → Option UrlRefusal → Type 0
ShownWhere s None = Unit {0}
ShownWhere s (Some e) = HoleShown s (refusal_code e) (url_hole_shows (parts_or_refusal (Some e) (parts_at_hole s)) s)

bad-where : (s : Parts) (x : Bool) → s.bad ≡ x → ShownWhere s (if_bad x)
bad-where s true h = on_bad h refl
bad-where s false h = tt

several-where : (s : Parts) (x : Bool) → nat_lt 1 (part_count s) ≡ x → ShownWhere s (if x then Some AmbigContext else if_bad s.bad)
several-where s true h = two-by s s.start (is_some s.opened) s.openhole s.prequery s.query s.bad refl refl refl refl refl refl h
several-where s false h = bad-where s s.bad refl

pub hole-where : (s : Parts) → ShownWhere s (parts_hole_error s)
hole-where s = several-where s (nat_lt 1 (part_count s)) refl
