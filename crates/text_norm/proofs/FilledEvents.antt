-- One more event on both sides of a page that fills a path: an event of HTML's own, a mark with its run, and the scheme at the end of a URL.
use Rattle.std.proofs.Common.{◌≡◌, ℕ, Bool, true, false, List, [], ◌∷◌, ◌++◌, inl, if◌then◌else◌, refl, sym, ap, subst}
use Rattle.css_lexer.specs.Events.{RunBlank, InsideUrl}
use Rattle.place_core.specs.page.Events.{InsideStyle, LexEvent, Mark, ValueScheme}
use Rattle.text_norm.proofs.EmittedAlike.{IsOwn}
use Rattle.text_norm.specs.Fillings.{Filling, Fills, HtmlFits, ToldAlike}
use Rattle.url_lexer.specs.Classes.{url_class_of}
use Rattle.url_lexer.specs.Events.{Free, Named, UrlEnds, scheme_at_end, told_scheme}
use Rattle.url_lexer.specs.Schemes.{UrlScheme, SchemeAhead, SchemeSoFar, SchemeIs, SchemeAbsent, SchemeUnknown, is_safe_scheme, next_scheme}
use Rattle.url_lexer.specs.States.{Url, feed_all, feed_url}

-- where the page has the path's own
pub fills-keep : (vs : List Filling) (e : LexEvent) (t u : List LexEvent) → IsOwn e → Fills t vs u → Fills (e ∷ t) vs (e ∷ u)
fills-keep vs Mark t u n f = absurd n
fills-keep vs (ValueScheme s) t u n f = absurd n
fills-keep vs (InsideStyle RunBlank) t u n f = inl (InsideStyle RunBlank, u, refl, refl, f)
fills-keep vs (InsideStyle (InsideUrl (UrlEnds s))) t u n f = absurd n
fills-keep vs e t u n f = (e, u, refl, refl, f)

pub fills-mark : (v : Filling) (vs : List Filling) (run t u : List LexEvent) → HtmlFits v u run → Fills t vs u → Fills (Mark ∷ t) (v ∷ vs) (run ++ u)
fills-mark v vs run t u fits f = (v, vs, run, u, refl, refl, fits, f)

-- A URL in the reading with marks, and in that of bytes alone, where no hole is known: data moves the part, and no hole makes the scheme
-- free. The scheme is moved by all bytes in both.
pub record SchemesSame (u w : Url) : Type 0 where
  pub scheme : w.scheme ≡ u.scheme
  pub bound : w.free ≡ false

pub fed-same : (bs : List ℕ) (u w : Url) → SchemesSame u w → SchemesSame (feed_all u bs) (feed_all w bs)
fed-same [] u w a = a
fed-same (b ∷ bs) u w a = fed-same bs (feed_url u b) (feed_url w b)
    (record { scheme = ap (λ (s : UrlScheme). next_scheme s (url_class_of b) b) a.scheme; bound = a.bound })

-- the scheme that the end of a URL tells
told-by-safe : (safe : Bool) (letters : List ℕ) → is_safe_scheme letters ≡ safe → ToldAlike (if safe then Free else Named letters) (Named letters)
told-by-safe true letters e = e
told-by-safe false letters e = refl

told-alike : (free : Bool) (s : UrlScheme) → ToldAlike (told_scheme free s) (scheme_at_end s)
told-alike true SchemeAhead = tt
told-alike true (SchemeSoFar letters) = tt
told-alike true (SchemeIs letters) = told-by-safe (is_safe_scheme letters) letters refl
told-alike true SchemeAbsent = tt
told-alike true SchemeUnknown = tt
told-alike false SchemeAhead = refl
told-alike false (SchemeSoFar letters) = refl
told-alike false (SchemeIs letters) = refl
told-alike false SchemeAbsent = refl
told-alike false SchemeUnknown = refl

raw-told : (u w : Url) → SchemesSame u w → ToldAlike (told_scheme u.free u.scheme) (told_scheme w.free w.scheme)
raw-told u w a =
    subst (λ (f : Bool). ToldAlike (told_scheme u.free u.scheme) (told_scheme f w.scheme)) (sym a.bound)
    (subst (λ (s : UrlScheme). ToldAlike (told_scheme u.free u.scheme) (scheme_at_end s)) (sym a.scheme) (told-alike u.free u.scheme))

pub fills-scheme : (vs : List Filling) (z y : Url) (t u : List LexEvent) → SchemesSame z y → Fills t vs u
    → Fills (ValueScheme (told_scheme z.free z.scheme) ∷ t) vs (ValueScheme (told_scheme y.free y.scheme) ∷ u)
fills-scheme vs z y t u a f = (_, u, refl, (told_scheme y.free y.scheme, refl, raw-told z y a), f)

-- so it is where the URL stands in a style
abbrev pub scheme_in_style : Url → LexEvent
scheme_in_style z = InsideStyle (InsideUrl (UrlEnds (told_scheme z.free z.scheme)))

pub fills-style-scheme : (vs : List Filling) (z y : Url) (t u : List LexEvent) → SchemesSame z y → Fills t vs u
    → Fills (scheme_in_style z ∷ t) vs (scheme_in_style y ∷ u)
fills-style-scheme vs z y t u a f = (_, u, refl, (told_scheme y.free y.scheme, refl, raw-told z y a), f)
