-- The laws of the language of URLs.
use Rattle.std.proofs.Common.{◌≡◌, ℕ, Bool, true, false, ◌||◌, List, [], ◌∷◌, Some, None, refl, sym, ap, ◌∙◌, subst}
use Rattle.std.specs.Prelude.{⊤}
use Rattle.url_lexer.specs.Alike.{UrlsAlike, SchemesAlike, SchemeIsDecided, IsPastBeginning, at_start, in_beginning, behind_letters, behind_slash, behind_first, decided, decided_by_data}
use Rattle.url_lexer.specs.Classes.{url_class_of}
use Rattle.url_lexer.specs.Events.{Free, UrlEvent, UrlEnds, free_scheme, told_scheme}
use Rattle.url_lexer.specs.Holes.{url_after_cut, url_after_hole, url_behind, url_settled}
use Rattle.url_lexer.specs.Laws.{UrlLanguageLaws}
use Rattle.url_lexer.specs.Parts.{UrlPart, UrlStart, UrlOpen, UrlOpenhole, UrlPrequery, UrlQuery, UrlBad, next_part, part_at_hole, part_behind_scheme}
use Rattle.url_lexer.specs.Plain.{UrlLeadsPlain, SchemeLeads, EndsNoScheme, IsHarmless}
use Rattle.url_lexer.specs.Prefixes.{Prefix, prefix_of_first, next_prefix, is_whole_word}
use Rattle.url_lexer.specs.Refusals.{url_refuses, url_refuses_class, url_refuses_cut, refuses_cut_in, UrlRefusal}
use Rattle.url_lexer.specs.Schemes.{UrlScheme, SchemeAhead, SchemeSoFar, SchemeIs, SchemeAbsent, SchemeUnknown, next_scheme, scheme_at_hole, is_ahead, with_letter}
use Rattle.url_lexer.specs.States.{Url, feed_url, url_start}
use Rattle.url_lexer.specs.Triples.{Triple, NoTriple, AfterPercent, AfterDigit, next_triple}
use Rattle.url_lexer.specs.declared.class.UrlClass.{UrlClass}
use Rattle.url_lexer.specs.declared.class.UrlClass.TheVariants as class

start-alike : UrlsAlike url_start url_start
start-alike = record { part = refl; free = refl; triple = refl; schemes = at_start }

-- a byte, by its class
decided-goes : (s : UrlScheme) (c : UrlClass) (b : ℕ) → SchemeIsDecided s → SchemeIsDecided (next_scheme s c b)
decided-goes (SchemeIs l) c b h = tt
decided-goes SchemeAbsent c b h = tt
decided-goes SchemeAhead c b h = absurd h
decided-goes (SchemeSoFar l) c b h = absurd h
decided-goes SchemeUnknown c b h = absurd h

abbrev IsNoColon : UrlClass → Type 0
IsNoColon class.Colon = ⊥
IsNoColon c = ⊤

abbrev Decides : UrlClass → Type 0
Decides class.Slash = ⊤
Decides class.QueryMark = ⊤
Decides c = ⊥

past-goes : (p : UrlPart) (c : UrlClass) (b : ℕ) → IsPastBeginning p → IsPastBeginning (next_part p c b)
past-goes UrlPrequery class.QueryMark b h = tt
past-goes UrlPrequery _ b h = tt
past-goes UrlQuery c b h = tt
past-goes UrlBad c b h = tt
past-goes UrlStart c b h = absurd h
past-goes (UrlOpen p) c b h = absurd h
past-goes UrlOpenhole c b h = absurd h

past-scheme : (x : Bool) → IsPastBeginning (part_behind_scheme x)
past-scheme true = tt
past-scheme false = tt

-- a slash or the query's mark decides
decides : (s : UrlScheme) (c : UrlClass) (b : ℕ) → Decides c → IsHarmless s → SchemeIsDecided (next_scheme s c b) × IsHarmless (next_scheme s c b)
decides SchemeAhead class.Slash b d h = (tt, tt)
decides (SchemeSoFar l) class.Slash b d h = (tt, tt)
decides (SchemeIs l) class.Slash b d h = (tt, h)
decides SchemeAbsent class.Slash b d h = (tt, tt)
decides SchemeAhead class.QueryMark b d h = (tt, tt)
decides (SchemeSoFar l) class.QueryMark b d h = (tt, tt)
decides (SchemeIs l) class.QueryMark b d h = (tt, h)
decides SchemeAbsent class.QueryMark b d h = (tt, tt)
decides SchemeUnknown c b d h = absurd h
decides s _ b d h = absurd d

-- without a `:` no scheme ends
harmless-goes : (s : UrlScheme) (c : UrlClass) (b : ℕ) → IsNoColon c → IsHarmless s → IsHarmless (next_scheme s c b)
harmless-goes SchemeAhead class.TabOrNewline b n h = tt
harmless-goes SchemeAhead class.ControlOrSpace b n h = tt
harmless-goes SchemeAhead class.Colon b n h = absurd n
harmless-goes SchemeAhead class.Slash b n h = tt
harmless-goes SchemeAhead class.QueryMark b n h = tt
harmless-goes SchemeAhead _ b n h = tt
harmless-goes (SchemeSoFar l) class.TabOrNewline b n h = tt
harmless-goes (SchemeSoFar l) class.Colon b n h = absurd n
harmless-goes (SchemeSoFar l) class.Slash b n h = tt
harmless-goes (SchemeSoFar l) class.QueryMark b n h = tt
harmless-goes (SchemeSoFar l) _ b n h = tt
harmless-goes (SchemeIs l) c b n h = h
harmless-goes SchemeAbsent c b n h = tt
harmless-goes SchemeUnknown c b n h = absurd h

harmless-stays : (s : UrlScheme) (c : UrlClass) (b : ℕ) → SchemeIsDecided s → IsHarmless s → IsHarmless (next_scheme s c b)
harmless-stays (SchemeIs l) c b d h = h
harmless-stays SchemeAbsent c b d h = tt
harmless-stays SchemeAhead c b d h = absurd d
harmless-stays (SchemeSoFar l) c b d h = absurd d
harmless-stays SchemeUnknown c b d h = absurd d

no : (r : UrlRefusal) → Some r ≡ None → ⊥
no r e = cc

start-goes : (c : UrlClass) (b : ℕ) → SchemesAlike (next_part UrlStart c b) false (next_scheme SchemeAhead c b) (next_scheme SchemeAhead c b)
start-goes class.TabOrNewline b = at_start
start-goes class.ControlOrSpace b = at_start
start-goes class.Colon b = decided UrlPrequery (SchemeIs []) tt tt
start-goes class.Slash b = decided UrlPrequery SchemeAbsent tt tt
start-goes class.QueryMark b = decided UrlQuery SchemeAbsent tt tt
start-goes _ b = in_beginning (prefix_of_first b) (with_letter [] b)

open-goes : (p : Prefix) (l : List ℕ) (c : UrlClass) (b : ℕ) → SchemesAlike (next_part (UrlOpen p) c b) false (next_scheme (SchemeSoFar l) c b) (next_scheme (SchemeSoFar l) c b)
open-goes p l class.Colon b = decided (part_behind_scheme (is_whole_word p)) (SchemeIs l) (past-scheme (is_whole_word p)) tt
open-goes p l class.Slash b = decided UrlPrequery SchemeAbsent tt tt
open-goes p l class.QueryMark b = decided UrlQuery SchemeAbsent tt tt
open-goes p l class.TabOrNewline b = in_beginning (next_prefix p class.TabOrNewline b) l
open-goes p l c b = in_beginning (next_prefix p c b) (with_letter l b)

letters-go : (l : List ℕ) (c : UrlClass) (b : ℕ) → url_refuses_class UrlOpenhole c ≡ None → SchemesAlike (next_part UrlOpenhole c b) false (next_scheme SchemeUnknown c b) (next_scheme (SchemeSoFar l) c b)
letters-go l class.Colon b e = absurd (no _ e)
letters-go l class.Slash b e = decided UrlPrequery SchemeAbsent tt tt
letters-go l class.QueryMark b e = decided UrlQuery SchemeAbsent tt tt
letters-go l class.TabOrNewline b e = behind_letters l
letters-go l _ b e = behind_letters (with_letter l b)

slash-goes : (c : UrlClass) (b : ℕ) → url_refuses_class UrlOpenhole c ≡ None → SchemesAlike (next_part UrlOpenhole c b) false (next_scheme SchemeUnknown c b) (next_scheme SchemeAbsent c b)
slash-goes class.Colon b e = absurd (no _ e)
slash-goes class.Slash b e = decided UrlPrequery SchemeAbsent tt tt
slash-goes class.QueryMark b e = decided UrlQuery SchemeAbsent tt tt
slash-goes _ b e = behind_slash

first-goes : (s : UrlScheme) (c : UrlClass) (b : ℕ) → IsHarmless s → url_refuses_class UrlOpenhole c ≡ None → SchemesAlike (next_part UrlOpenhole c b) true (next_scheme SchemeUnknown c b) (next_scheme s c b)
first-goes s class.Colon b h e = absurd (no _ e)
first-goes s class.Slash b h e = let d = decides s class.Slash b tt h in decided_by_data UrlPrequery (next_scheme s class.Slash b) tt d.0 d.1
first-goes s class.QueryMark b h e = let d = decides s class.QueryMark b tt h in decided_by_data UrlQuery (next_scheme s class.QueryMark b) tt d.0 d.1
first-goes s c b h e = behind_first (next_scheme s c b) (harmless-goes s c b tt h)

schemes-go : (p : UrlPart) (f : Bool) (s r : UrlScheme) (c : UrlClass) (b : ℕ) → SchemesAlike p f s r → url_refuses_class p c ≡ None → SchemesAlike (next_part p c b) f (next_scheme s c b) (next_scheme r c b)
schemes-go p f s r c b at_start e = start-goes c b
schemes-go p f s r c b (in_beginning q l) e = open-goes q l c b
schemes-go p f s r c b (behind_letters l) e = letters-go l c b e
schemes-go p f s r c b behind_slash e = slash-goes c b e
schemes-go p f s r c b (behind_first t h) e = first-goes t c b h e
schemes-go p f s r c b (decided q t g h) e = decided (next_part q c b) (next_scheme t c b) (past-goes q c b g) (decided-goes t c b h)
schemes-go p f s r c b (decided_by_data q t g h k) e = decided_by_data (next_part q c b) (next_scheme t c b) (past-goes q c b g) (decided-goes t c b h) (harmless-stays t c b h k)

byte-alike : (v w : Url) (b : ℕ) → UrlsAlike v w → url_refuses v b ≡ None → UrlsAlike (feed_url v b) (feed_url w b)
byte-alike v w b a e = record {
  part = ap (λ (p : UrlPart). next_part p (url_class_of b) b) a.part;
  free = a.free;
  triple = ap (λ (t : Triple). next_triple t (url_class_of b)) a.triple;
  schemes = schemes-go v.part v.free v.scheme w.scheme (url_class_of b) b a.schemes e;
}

-- the end of the URL: behind a hole that was its first, data may have chosen the scheme that has ended
pub free-harmless : (s : UrlScheme) → IsHarmless s → free_scheme s ≡ Free
free-harmless SchemeAhead h = refl
free-harmless (SchemeSoFar l) h = refl
free-harmless (SchemeIs l) h = rw h refl
free-harmless SchemeAbsent h = refl
free-harmless SchemeUnknown h = refl

schemes-end : (p : UrlPart) (f : Bool) (s r : UrlScheme) → SchemesAlike p f s r → told_scheme f r ≡ told_scheme f s
schemes-end p f s r at_start = refl
schemes-end p f s r (in_beginning q l) = refl
schemes-end p f s r (behind_letters l) = refl
schemes-end p f s r behind_slash = refl
schemes-end p f s r (behind_first t h) = free-harmless t h
schemes-end p f s r (decided q t g h) = refl
schemes-end p f s r (decided_by_data q t g h k) = free-harmless t k

end-alike : (v w : Url) (t : List UrlEvent) → UrlsAlike v w → UrlEnds (told_scheme w.free w.scheme) ∷ t ≡ UrlEnds (told_scheme v.free v.scheme) ∷ t
end-alike v w t a =
    ap (λ (f : Bool). UrlEnds (told_scheme f w.scheme) ∷ t) a.free
    ∙ ap (λ (x : _). UrlEnds x ∷ t) (schemes-end v.part v.free v.scheme w.scheme a.schemes)

-- the end of a node
pub no-triple : (t : Triple) → refuses_cut_in t ≡ None → t ≡ NoTriple
no-triple NoTriple e = refl
no-triple AfterPercent e = cc
no-triple AfterDigit e = cc

cut-alike : (v w : Url) → UrlsAlike v w → url_refuses_cut v ≡ None → UrlsAlike (url_after_cut v) w
cut-alike v w a e = record { part = a.part; free = a.free; triple = a.triple ∙ no-triple v.triple e; schemes = a.schemes }

-- a hole
harmless-hole : (s r : UrlScheme) → IsHarmless s → EndsNoScheme s r → IsHarmless r
harmless-hole SchemeAhead SchemeAhead h e = tt
harmless-hole SchemeAhead (SchemeSoFar l) h e = tt
harmless-hole SchemeAhead SchemeAbsent h e = tt
harmless-hole SchemeAhead (SchemeIs l) h e = absurd e
harmless-hole SchemeAhead SchemeUnknown h e = absurd e
harmless-hole (SchemeSoFar k) (SchemeSoFar l) h e = tt
harmless-hole (SchemeSoFar k) SchemeAbsent h e = tt
harmless-hole (SchemeSoFar k) SchemeAhead h e = absurd e
harmless-hole (SchemeSoFar k) (SchemeIs l) h e = absurd e
harmless-hole (SchemeSoFar k) SchemeUnknown h e = absurd e
harmless-hole (SchemeIs l) r h e = subst IsHarmless (sym e) h
harmless-hole SchemeAbsent r h e = subst IsHarmless (sym e) tt
harmless-hole SchemeUnknown r h e = absurd h

at-start : (after : UrlScheme) → SchemeLeads UrlStart SchemeAhead after → SchemesAlike UrlOpenhole true SchemeUnknown after
at-start after e = behind_first after e

in-beginning : (l : List ℕ) (after : UrlScheme) → EndsNoScheme (SchemeSoFar l) after → SchemesAlike UrlOpenhole false SchemeUnknown after
in-beginning l (SchemeSoFar k) e = behind_letters k
in-beginning l SchemeAbsent e = behind_slash
in-beginning l SchemeAhead e = absurd e
in-beginning l (SchemeIs k) e = absurd e
in-beginning l SchemeUnknown e = absurd e

behind-slash : (after : UrlScheme) → after ≡ SchemeAbsent → SchemesAlike UrlOpenhole false SchemeUnknown after
behind-slash after e = subst (λ (r : UrlScheme). SchemesAlike UrlOpenhole false SchemeUnknown r) (sym e) behind_slash

stays : (s after : UrlScheme) → SchemeIsDecided s → EndsNoScheme s after → after ≡ s
stays (SchemeIs l) after h e = e
stays SchemeAbsent after h e = e
stays SchemeAhead after h e = absurd h
stays (SchemeSoFar l) after h e = absurd h
stays SchemeUnknown after h e = absurd h

first-hole : (s after : UrlScheme) → IsHarmless s → EndsNoScheme s after → SchemesAlike UrlOpenhole true SchemeUnknown after
first-hole s after h e = behind_first after (harmless-hole s after h e)

ends-none : (p : UrlPart) (s after : UrlScheme) → IsPastBeginning p → SchemeLeads p s after → EndsNoScheme s after
ends-none UrlPrequery s after h e = e
ends-none UrlQuery s after h e = e
ends-none UrlBad s after h e = absurd e
ends-none UrlStart s after h e = absurd h
ends-none (UrlOpen p) s after h e = absurd h
ends-none UrlOpenhole s after h e = absurd h

past-hole : (p : UrlPart) → IsPastBeginning p → IsPastBeginning (part_at_hole p)
past-hole UrlPrequery h = tt
past-hole UrlQuery h = tt
past-hole UrlBad h = tt
past-hole UrlStart h = absurd h
past-hole (UrlOpen p) h = absurd h
past-hole UrlOpenhole h = absurd h

decided-hole : (p : UrlPart) (s after : UrlScheme) → IsPastBeginning p → SchemeIsDecided s → after ≡ s → SchemesAlike (part_at_hole p) (false || is_ahead s) (scheme_at_hole s) after
decided-hole p (SchemeIs l) after g h e = subst (λ (r : UrlScheme). SchemesAlike (part_at_hole p) false (SchemeIs l) r) (sym e) (decided (part_at_hole p) (SchemeIs l) (past-hole p g) tt)
decided-hole p SchemeAbsent after g h e = subst (λ (r : UrlScheme). SchemesAlike (part_at_hole p) false SchemeAbsent r) (sym e) (decided (part_at_hole p) SchemeAbsent (past-hole p g) tt)
decided-hole p SchemeAhead after g h e = absurd h
decided-hole p (SchemeSoFar l) after g h e = absurd h
decided-hole p SchemeUnknown after g h e = absurd h

data-hole : (p : UrlPart) (s after : UrlScheme) → IsPastBeginning p → SchemeIsDecided s → IsHarmless s → after ≡ s → SchemesAlike (part_at_hole p) true SchemeAbsent after
data-hole p s after g h k e = subst (λ (r : UrlScheme). SchemesAlike (part_at_hole p) true SchemeAbsent r) (sym e) (decided_by_data (part_at_hole p) s (past-hole p g) h k)

schemes-hole : (p : UrlPart) (f : Bool) (s r after : UrlScheme) → SchemesAlike p f s r → SchemeLeads p r after → SchemesAlike (part_at_hole p) (f || is_ahead s) (scheme_at_hole s) after
schemes-hole p f s r after at_start e = at-start after e
schemes-hole p f s r after (in_beginning q l) e = in-beginning l after e
schemes-hole p f s r after (behind_letters l) e = in-beginning l after e
schemes-hole p f s r after behind_slash e = behind-slash after e
schemes-hole p f s r after (behind_first t h) e = first-hole t after h e
schemes-hole p f s r after (decided q t g h) e = decided-hole q t after g h (stays t after h (ends-none q t after g e))
schemes-hole p f s r after (decided_by_data q t g h k) e = data-hole q t after g h k (stays t after h (ends-none q t after g e))

-- a hole makes the scheme free on the page where it does on the path
free-hole : (p : UrlPart) (f : Bool) (s r : UrlScheme) → SchemesAlike p f s r → (f || is_ahead r) ≡ (f || is_ahead s)
free-hole p f s r at_start = refl
free-hole p f s r (in_beginning q l) = refl
free-hole p f s r (behind_letters l) = refl
free-hole p f s r behind_slash = refl
free-hole p f s r (behind_first t h) = refl
free-hole p f s r (decided q t g h) = refl
free-hole p f s r (decided_by_data q t g h k) = refl

hole-alike : (v w after : Url) → UrlsAlike v w → UrlLeadsPlain (url_settled w) after → UrlsAlike (url_after_hole v) (url_behind (url_settled w) after)
hole-alike v w after a l = record {
  part = ap part_at_hole a.part;
  free = ap (λ (f : Bool). f || is_ahead w.scheme) a.free ∙ free-hole v.part v.free v.scheme w.scheme a.schemes;
  triple = l.whole_after;
  schemes = schemes-hole v.part v.free v.scheme w.scheme after.scheme a.schemes
      (subst (λ (p : UrlPart). SchemeLeads p w.scheme after.scheme) a.part l.scheme);
}

pub language-laws : UrlLanguageLaws
language-laws = record {
  begins = start-alike;
  emits = λ v w b t a e. refl;
  feeds = byte-alike;
  ends = end-alike;
  after_cut = cut-alike;
  settles = λ v w t a. refl;
  hole = hole-alike;
}
