-- Each part of a URL behind a byte is that of a path before it, or the prefixes of paths differ; so it is of the scans in URLs.
use Rattle.std.proofs.Common.{◌≡◌, ℕ, true, Option, Some, None, is_some, ◌⊎◌, inl, inr, refl, sym, ap, ◌∙◌, subst}
use Rattle.css_lexer.specs.Escapes.{StyleEscape}
use Rattle.css_lexer.specs.States.{Quote}
use Rattle.place_core.specs.declared.member.Member.{Member}
use Rattle.place_core.specs.declared.member.Member.TheVariants as member
use Rattle.place_core.specs.declared.parts.Parts.{Parts}
use Rattle.place_core.specs.declared.prefix.Prefix.{Prefix as PlacedPrefix}
use Rattle.place_core.specs.declared.prefix.Prefix.TheVariants as prefix
use Rattle.place_core.specs.place.LanguagePlaces.{both_prefixes, parts_have}
use Rattle.place_core.specs.place.UrlParts.{placed_prefix, parts_of}
use Rattle.url_lexer.specs.Classes.{url_class_of}
use Rattle.url_lexer.specs.Parts.{UrlPart, UrlStart, UrlOpen, UrlOpenhole, UrlPrequery, UrlQuery, UrlBad, next_part}
use Rattle.url_lexer.specs.Prefixes.{Prefix}
use Rattle.url_lexer.specs.Triples.{Triple}
use Rattle.url_lexer.specs.declared.class.UrlClass.{UrlClass}
use Rattle.url_step.specs.PartOrigins.{PartBears}
use Rattle.url_step.specs.PartSets.{PartsBelow, HasPart, spelled_prefix, parts_next, parts_error}
use Rattle.url_step.proofs.Covering.{covers-parts}
use Rattle.url_step.proofs.Growth.{Inside, itself, apart, inside, opened-below}
use Rattle.url_step.proofs.OnePath.{spelled-placed, one-next}
use Rattle.url_step.proofs.Origins.{bears-start, bears-open, bears-openhole, bears-prequery, bears-query, bears-bad, parts-come-from}
use Rattle.css_step.specs.StyleOrigins.{IsStyleBehind, behind_itself, behind_bare, behind_quoted}
use Rattle.css_step.specs.StyleScans.{StyleScan, ScanBareUrl, ScanQuotedUrl, style_url_error}
use Rattle.css_step.proofs.BornePaths.{part-borne}
use Rattle.css_step.proofs.StyleGrowth.{url-none}

-- Two parts with one member, in one set: they are the same, or the prefix of the set is the one that differs.
pub data SamePart (s : Parts) : UrlPart → UrlPart → Type 0 where
  same_part : (p : UrlPart) → SamePart s p p
  spelled_apart : (x y : Prefix) → s.opened ≡ Some prefix.Differs → SamePart s (UrlOpen x) (UrlOpen y)

inside-or : (p q : PlacedPrefix) → Inside p q → (p ≡ q) ⊎ (q ≡ prefix.Differs)
inside-or _ _ (itself p) = inl refl
inside-or _ _ (apart p) = inr refl

some-none : (p : PlacedPrefix) → Some p ≡ None → ⊥
some-none p e = cc

placed-one : (x y : Prefix) → placed_prefix x ≡ placed_prefix y → x ≡ y
placed-one x y e = sym (spelled-placed x) ∙ (ap spelled_prefix e ∙ spelled-placed y)

same-open : (s : Parts) (o : Option PlacedPrefix) (x y : Prefix) → s.opened ≡ o → both_prefixes (Some (placed_prefix x)) o ≡ o → both_prefixes (Some (placed_prefix y)) o ≡ o
    → SamePart s (UrlOpen x) (UrlOpen y)
same-open s None x y e h k = absurd (some-none (placed_prefix x) h)
same-open s (Some r) x y e h k =
    elim (inside-or (placed_prefix x) r (inside (placed_prefix x) r h)) [
      | inr d ↦ spelled_apart x y (e ∙ ap Some d)
      | inl i ↦ elim (inside-or (placed_prefix y) r (inside (placed_prefix y) r k)) [
        | inr d ↦ spelled_apart x y (e ∙ ap Some d)
        | inl j ↦ subst (λ (z : Prefix). SamePart s (UrlOpen x) (UrlOpen z)) (placed-one x y (i ∙ sym j)) (same_part (UrlOpen x))
      ]
    ]

-- the member that a part bears
abbrev pub own-member : UrlPart → Member
own-member UrlStart = member.PartStart
own-member (UrlOpen x) = member.PartOpen
own-member UrlOpenhole = member.PartOpenhole
own-member UrlPrequery = member.PartPrequery
own-member UrlQuery = member.PartQuery
own-member UrlBad = member.PartBad

pub two-parts : (s : Parts) (p q : UrlPart) → HasPart s p → HasPart s q → PartBears q (own-member p) → SamePart s p q
two-parts s UrlStart q i j h = subst (SamePart s UrlStart) (sym (bears-start q h)) (same_part UrlStart)
two-parts s (UrlOpen x) q i j h =
    let o = bears-open q h in
    subst (SamePart s (UrlOpen x)) (sym o.1)
    (same-open s s.opened x o.0 refl (opened-below (parts_of (UrlOpen x)) s i) (opened-below (parts_of (UrlOpen o.0)) s (subst (HasPart s) o.1 j)))
two-parts s UrlOpenhole q i j h = subst (SamePart s UrlOpenhole) (sym (bears-openhole q h)) (same_part UrlOpenhole)
two-parts s UrlPrequery q i j h = subst (SamePart s UrlPrequery) (sym (bears-prequery q h)) (same_part UrlPrequery)
two-parts s UrlQuery q i j h = subst (SamePart s UrlQuery) (sym (bears-query q h)) (same_part UrlQuery)
two-parts s UrlBad q i j h = subst (SamePart s UrlBad) (sym (bears-bad q h)) (same_part UrlBad)

some-above : (o : Option PlacedPrefix) (p : PlacedPrefix) → both_prefixes (Some p) o ≡ o → is_some o ≡ true
some-above None p h = absurd (some-none p h)
some-above (Some r) p h = refl

pub has-own : (s : Parts) (p : UrlPart) → HasPart s p → parts_have s (own-member p) ≡ true
has-own s UrlStart i = sym (ap (λ (z : Parts). z.start) i)
has-own s (UrlOpen x) i = some-above s.opened (placed_prefix x) (opened-below (parts_of (UrlOpen x)) s i)
has-own s UrlOpenhole i = sym (ap (λ (z : Parts). z.openhole) i)
has-own s UrlPrequery i = sym (ap (λ (z : Parts). z.prequery) i)
has-own s UrlQuery i = sym (ap (λ (z : Parts). z.query) i)
has-own s UrlBad i = sym (ap (λ (z : Parts). z.bad) i)

part-origin : (s : Parts) (c : UrlClass) (b : ℕ) (p : UrlPart) → parts_error s c ≡ None → HasPart (parts_next s c b) p
    → (q : UrlPart) × HasPart s q × SamePart (parts_next s c b) p (next_part q c b)
part-origin s c b p e i =
    let o = parts-come-from s c b (own-member p) e (has-own (parts_next s c b) p i) in
    let w = part-borne s o.0 o.1.has in
    (w.0, w.1, two-parts (parts_next s c b) p (next_part w.0 c b) i ((covers-parts s w.0 w.1).next c b e) (o.1.leads w.0 w.1 w.2))

-- A scan with parts behind, `a`, comes from a part before, where `g` is the scan behind these parts.
abbrev pub PartOrigin : Parts → (Parts → StyleScan) → ((one a : StyleScan) → Type 0) → StyleScan → Type 0
PartOrigin s g R a = (q : UrlPart) × HasPart s q × R (g (parts_of q)) a

pub part-bare : (t : Triple) (s : Parts) (p q : UrlPart) → SamePart s p q → IsStyleBehind (ScanBareUrl s t) (ScanBareUrl (parts_of q) t) (ScanBareUrl (parts_of p) t)
part-bare t s _ _ (same_part p) = behind_itself (ScanBareUrl s t) (ScanBareUrl (parts_of p) t)
part-bare t s _ _ (spelled_apart x y d) = behind_bare s y x t d

pub part-quoted : (c : Quote) (z : StyleEscape) (t : Triple) (s : Parts) (p q : UrlPart) → SamePart s p q
    → IsStyleBehind (ScanQuotedUrl c z s t) (ScanQuotedUrl c z (parts_of q) t) (ScanQuotedUrl c z (parts_of p) t)
part-quoted c z t s _ _ (same_part p) = behind_itself (ScanQuotedUrl c z s t) (ScanQuotedUrl c z (parts_of p) t)
part-quoted c z t s _ _ (spelled_apart x y d) = behind_quoted c z s y x t d

-- the part behind the byte, in a scan that `k` makes of it
pub fed-part : (k : Parts → StyleScan) (R : (one a : StyleScan) → Type 0) (s : Parts) (b : ℕ)
    → ((p q : UrlPart) → SamePart (parts_next s (url_class_of b) b) p q → R (k (parts_of q)) (k (parts_of p)))
    → style_url_error s b ≡ None → (r : Parts) (p : UrlPart) → r ≡ parts_of p → PartsBelow r (parts_next s (url_class_of b) b)
    → PartOrigin s (λ r. k (parts_next r (url_class_of b) b)) R (k r)
fed-part k R s b f e r p h i =
    let o = part-origin s (url_class_of b) b p (url-none (parts_error s (url_class_of b)) e) (subst (λ (z : Parts). PartsBelow z (parts_next s (url_class_of b) b)) h i) in (
      o.0,
      o.1,
      subst (λ (z : Parts). R (k (parts_next (parts_of o.0) (url_class_of b) b)) (k z)) (sym h)
          (subst (λ (z : Parts). R (k z) (k (parts_of p))) (sym (one-next o.0 (url_class_of b) b)) (f p (next_part o.0 (url_class_of b) b) o.2)),
    )
