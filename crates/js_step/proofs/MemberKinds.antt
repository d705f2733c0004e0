-- Which sets of a place in a script a member may be in: one kind of set alone.
use Rattle.std.proofs.Common.{◌≡◌, ◌∙◌, ◌⊎◌, inl, inr, Bool, true, false, ◌||◌, refl, sym}
use Rattle.js_lexer.specs.States.{At, Code, Slash, LineComment, BlockComment, InString, InRegexp}
use Rattle.js_lexer.specs.declared.sense.Sense.TheVariants as sense
use Rattle.place_core.specs.declared.js_tails.JsTails.{JsTails}
use Rattle.place_core.specs.declared.member.Member.{Member}
use Rattle.place_core.specs.declared.member.Member.TheVariants as member
use Rattle.place_core.specs.declared.senses.Senses.{Senses}
use Rattle.place_core.specs.place.LanguagePlaces.{js_star_has, js_tails_have, regexp_has, senses_have}
use Rattle.place_core.specs.place.ScriptParts.{script_no_tails}
use Rattle.js_step.specs.ScriptOrigins.{script_but_slash, script_senses_at, script_tails_at, script_set_at}
use Rattle.js_step.specs.ScriptScans.{script_at_in, script_tails_held}

no : true ≡ false → ⊥
no e = cc

pub data MemberKind : Type 0 where
  kind_sense : MemberKind
  kind_tail : MemberKind
  kind_star : MemberKind
  kind_none : MemberKind

abbrev pub kind-of : Member → MemberKind
kind-of member.SenseRe = kind_sense
kind-of member.SenseDiv = kind_sense
kind-of member.SenseBrace = kind_sense
kind-of member.JsWord = kind_tail
kind-of member.JsNum = kind_tail
kind-of member.JsLt = kind_tail
kind-of member.JsSlash = kind_tail
kind-of member.JsPlus = kind_tail
kind-of member.JsMinus = kind_tail
kind-of member.JsHash = kind_tail
kind-of member.RegexpSlash = kind_tail
kind-of member.JsStar = kind_star
kind-of m = kind_none

pub sense-kind : (s : Senses) (y : Member) → senses_have s y ≡ true → kind-of y ≡ kind_sense
sense-kind s member.SenseRe h = refl
sense-kind s member.SenseDiv h = refl
sense-kind s member.SenseBrace h = refl
sense-kind s _ h = absurd (no (sym h))

pub tail-kind : (x : JsTails) (y : Member) → js_tails_have x y ≡ true → kind-of y ≡ kind_tail
tail-kind x member.JsWord h = refl
tail-kind x member.JsNum h = refl
tail-kind x member.JsLt h = refl
tail-kind x member.JsSlash h = refl
tail-kind x member.JsPlus h = refl
tail-kind x member.JsMinus h = refl
tail-kind x member.JsHash h = refl
tail-kind x _ h = absurd (no (sym h))

pub regexp-kind : (k : Bool) (y : Member) → regexp_has k y ≡ true → kind-of y ≡ kind_tail
regexp-kind k member.RegexpSlash h = refl
regexp-kind k _ h = absurd (no (sym h))

pub star-kind : (k : Bool) (y : Member) → js_star_has k y ≡ true → kind-of y ≡ kind_star
star-kind k member.JsStar h = refl
star-kind k _ h = absurd (no (sym h))

pub or-cases : (p q : Bool) → (p || q) ≡ true → (p ≡ true) ⊎ (q ≡ true)
or-cases true q h = inl refl
or-cases false q h = inr h

pub or-left : (p q : Bool) → p ≡ true → (p || q) ≡ true
or-left true q h = refl
or-left false q h = absurd (no (sym h))

pub or-right-of : (p q : Bool) → q ≡ true → (p || q) ≡ true
or-right-of true q h = refl
or-right-of false q h = h

-- by the kind of a member it is in one of the three sets
pub senses-at-kind : (s : Senses) (a : At) (y : Member) → script_senses_at s a y ≡ true → kind-of y ≡ kind_sense
senses-at-kind s (InString q e) y h = absurd (no (sym h))
senses-at-kind s (InRegexp k e) y h = absurd (no (sym h))
senses-at-kind s a y h = sense-kind s y h

both-kinds : (k : Bool) (x : JsTails) (y : Member) → (regexp_has k y ≡ true) ⊎ (js_tails_have x y ≡ true) → kind-of y ≡ kind_tail
both-kinds k x y (inl h) = regexp-kind k y h
both-kinds k x y (inr h) = tail-kind x y h

pub tails-at-kind : (x : JsTails) (a : At) (y : Member) → script_tails_at x a y ≡ true → kind-of y ≡ kind_tail
tails-at-kind x (InRegexp k e) y h = both-kinds x.slash (script_but_slash x) y (or-cases _ _ h)
tails-at-kind x (Slash s) y h = both-kinds x.slash x y (or-cases _ _ h)
tails-at-kind x a y h = tail-kind x y h

pub data SetCases (s : Senses) (x : JsTails) (star : Bool) (a : At) (y : Member) : Type 0 where
  set_sense : script_senses_at s a y ≡ true → kind-of y ≡ kind_sense → SetCases s x star a y
  set_tail : script_tails_at x a y ≡ true → kind-of y ≡ kind_tail → SetCases s x star a y
  set_star : js_star_has star y ≡ true → kind-of y ≡ kind_star → SetCases s x star a y

tails-or-star : (s : Senses) (x : JsTails) (star : Bool) (a : At) (y : Member) → (script_tails_at x a y ≡ true) ⊎ (js_star_has star y ≡ true) → SetCases s x star a y
tails-or-star s x star a y (inl h) = set_tail h (tails-at-kind x a y h)
tails-or-star s x star a y (inr h) = set_star h (star-kind star y h)

cases-of : (s : Senses) (x : JsTails) (star : Bool) (a : At) (y : Member)
    → (script_senses_at s a y ≡ true) ⊎ ((script_tails_at x a y || js_star_has star y) ≡ true) → SetCases s x star a y
cases-of s x star a y (inl h) = set_sense h (senses-at-kind s a y h)
cases-of s x star a y (inr h) = tails-or-star s x star a y (or-cases _ _ h)

pub set-cases : (s : Senses) (x : JsTails) (star : Bool) (a : At) (y : Member) → script_set_at s x star a y ≡ true → SetCases s x star a y
set-cases s x star a y h = cases-of s x star a y (or-cases _ _ h)

sense-not-tail : kind_sense ≡ kind_tail → ⊥
sense-not-tail e = cc

sense-not-star : kind_sense ≡ kind_star → ⊥
sense-not-star e = cc

tail-not-star : kind_tail ≡ kind_star → ⊥
tail-not-star e = cc

only-sense : (s : Senses) (x : JsTails) (star : Bool) (a : At) (y : Member) → SetCases s x star a y → kind-of y ≡ kind_sense → script_senses_at s a y ≡ true
only-sense s x star a y (set_sense h k) e = h
only-sense s x star a y (set_tail h k) e = absurd (sense-not-tail (sym e ∙ k))
only-sense s x star a y (set_star h k) e = absurd (sense-not-star (sym e ∙ k))

only-tail : (s : Senses) (x : JsTails) (star : Bool) (a : At) (y : Member) → SetCases s x star a y → kind-of y ≡ kind_tail → script_tails_at x a y ≡ true
only-tail s x star a y (set_sense h k) e = absurd (sense-not-tail (sym k ∙ e))
only-tail s x star a y (set_tail h k) e = h
only-tail s x star a y (set_star h k) e = absurd (tail-not-star (sym e ∙ k))

only-star : (s : Senses) (x : JsTails) (star : Bool) (a : At) (y : Member) → SetCases s x star a y → kind-of y ≡ kind_star → js_star_has star y ≡ true
only-star s x star a y (set_sense h k) e = absurd (sense-not-star (sym k ∙ e))
only-star s x star a y (set_tail h k) e = absurd (tail-not-star (sym k ∙ e))
only-star s x star a y (set_star h k) e = h

pub sense-of-set : (s : Senses) (x : JsTails) (star : Bool) (a : At) (y : Member) → script_set_at s x star a y ≡ true → kind-of y ≡ kind_sense → script_senses_at s a y ≡ true
sense-of-set s x star a y h e = only-sense s x star a y (set-cases s x star a y h) e

pub tail-of-set : (s : Senses) (x : JsTails) (star : Bool) (a : At) (y : Member) → script_set_at s x star a y ≡ true → kind-of y ≡ kind_tail → script_tails_at x a y ≡ true
tail-of-set s x star a y h e = only-tail s x star a y (set-cases s x star a y h) e

pub star-of-set : (s : Senses) (x : JsTails) (star : Bool) (a : At) (y : Member) → script_set_at s x star a y ≡ true → kind-of y ≡ kind_star → js_star_has star y ≡ true
star-of-set s x star a y h e = only-star s x star a y (set-cases s x star a y h) e

pub set-of-sense : (s : Senses) (x : JsTails) (star : Bool) (a : At) (y : Member) → script_senses_at s a y ≡ true → script_set_at s x star a y ≡ true
set-of-sense s x star a y h = or-left _ _ h

pub set-of-tail : (s : Senses) (x : JsTails) (star : Bool) (a : At) (y : Member) → script_tails_at x a y ≡ true → script_set_at s x star a y ≡ true
set-of-tail s x star a y h = or-right-of (script_senses_at s a y) _ (or-left _ _ h)

pub set-of-star : (s : Senses) (x : JsTails) (star : Bool) (a : At) (y : Member) → js_star_has star y ≡ true → script_set_at s x star a y ≡ true
set-of-star s x star a y h = or-right-of (script_senses_at s a y) _ (or-right-of (script_tails_at x a y) _ h)

-- none of them looks at the sense of the state
pub set-plain : (s : Senses) (x : JsTails) (star : Bool) (a : At) (y : Member) → script_set_at s x star (script_at_in sense.Re a) y ≡ script_set_at s x star a y
set-plain s x star (Code t) y = refl
set-plain s x star (Slash t) y = refl
set-plain s x star (LineComment t) y = refl
set-plain s x star (BlockComment t z) y = refl
set-plain s x star a y = refl

-- where a place has a sense
pub senses-there : (s t : Senses) (a : At) (y : Member) → script_senses_at s a y ≡ true → senses_have t y ≡ true → script_senses_at t a y ≡ true
senses-there s t (InString q e) y h i = absurd (no (sym h))
senses-there s t (InRegexp k e) y h i = absurd (no (sym h))
senses-there s t a y h i = i

pub senses-have : (s : Senses) (a : At) (y : Member) → script_senses_at s a y ≡ true → senses_have s y ≡ true
senses-have s (InString q e) y h = absurd (no (sym h))
senses-have s (InRegexp k e) y h = absurd (no (sym h))
senses-have s a y h = h

-- while a byte is held back: what is kept of the tails is what there was, and of two the same is kept
held-was : (x : JsTails) (y : Member) → js_tails_have (script_tails_held x) y ≡ true → js_tails_have x y ≡ true
held-was x member.JsWord h = h
held-was x member.JsNum h = h
held-was x member.JsLt h = absurd (no (sym h))
held-was x member.JsSlash h = h
held-was x member.JsPlus h = h
held-was x member.JsMinus h = h
held-was x member.JsHash h = absurd (no (sym h))
held-was x _ h = absurd (no (sym h))

held-keeps : (x z : JsTails) (y : Member) → js_tails_have (script_tails_held x) y ≡ true → js_tails_have z y ≡ true → js_tails_have (script_tails_held z) y ≡ true
held-keeps x z member.JsWord h i = i
held-keeps x z member.JsNum h i = i
held-keeps x z member.JsLt h i = absurd (no (sym h))
held-keeps x z member.JsSlash h i = i
held-keeps x z member.JsPlus h i = i
held-keeps x z member.JsMinus h i = i
held-keeps x z member.JsHash h i = absurd (no (sym h))
held-keeps x z _ h i = absurd (no (sym h))

or-maps : (p q r s : Bool) → (p ≡ true → r ≡ true) → (q ≡ true → s ≡ true) → (p || q) ≡ true → (r || s) ≡ true
or-maps true q r s f g h = or-left r s (f refl)
or-maps false q r s f g h = or-right-of r s (g h)

pub tails-were : (x : JsTails) (a : At) (y : Member) → script_tails_at (script_tails_held x) a y ≡ true → script_tails_at x a y ≡ true
tails-were x (InRegexp k e) y h =
    or-maps _ (js_tails_have (script_tails_held (script_but_slash x)) y) _ (js_tails_have (script_but_slash x) y) (λ i. i) (λ i. held-was (script_but_slash x) y i) h
tails-were x (Slash s) y h = or-maps _ (js_tails_have (script_tails_held x) y) _ (js_tails_have x y) (λ i. i) (λ i. held-was x y i) h
tails-were x a y h = held-was x y h

-- a slash of a regular expression is no tail of code
regexp-or-tail : (x z : JsTails) (y : Member) → (regexp_has x.slash y || js_tails_have (script_tails_held x) y) ≡ true → (regexp_has z.slash y || js_tails_have z y) ≡ true
    → (regexp_has z.slash y || js_tails_have (script_tails_held z) y) ≡ true
regexp-or-tail x z member.JsWord h i = i
regexp-or-tail x z member.JsNum h i = i
regexp-or-tail x z member.JsLt h i = absurd (no (sym h))
regexp-or-tail x z member.JsSlash h i = i
regexp-or-tail x z member.JsPlus h i = i
regexp-or-tail x z member.JsMinus h i = i
regexp-or-tail x z member.JsHash h i = absurd (no (sym h))
regexp-or-tail x z member.RegexpSlash h i = i
regexp-or-tail x z _ h i = i

but-or-tail : (x z : JsTails) (y : Member) → (regexp_has x.slash y || js_tails_have (script_but_slash (script_tails_held x)) y) ≡ true
    → (regexp_has z.slash y || js_tails_have (script_but_slash z) y) ≡ true
    → (regexp_has z.slash y || js_tails_have (script_but_slash (script_tails_held z)) y) ≡ true
but-or-tail x z member.JsWord h i = i
but-or-tail x z member.JsNum h i = i
but-or-tail x z member.JsLt h i = absurd (no (sym h))
but-or-tail x z member.JsSlash h i = i
but-or-tail x z member.JsPlus h i = i
but-or-tail x z member.JsMinus h i = i
but-or-tail x z member.JsHash h i = absurd (no (sym h))
but-or-tail x z member.RegexpSlash h i = i
but-or-tail x z _ h i = i

pub tails-keep : (x z : JsTails) (a : At) (y : Member) → script_tails_at (script_tails_held x) a y ≡ true → script_tails_at z a y ≡ true
    → script_tails_at (script_tails_held z) a y ≡ true
tails-keep x z (InRegexp k e) y h i = but-or-tail x z y h i
tails-keep x z (Slash s) y h i = regexp-or-tail x z y h i
tails-keep x z a y h i = held-keeps x z y h i

no-tails-have : (y : Member) → js_tails_have script_no_tails y ≡ true → ⊥
no-tails-have member.JsWord h = no (sym h)
no-tails-have member.JsNum h = no (sym h)
no-tails-have member.JsLt h = no (sym h)
no-tails-have member.JsSlash h = no (sym h)
no-tails-have member.JsPlus h = no (sym h)
no-tails-have member.JsMinus h = no (sym h)
no-tails-have member.JsHash h = no (sym h)
no-tails-have _ h = no (sym h)

no-slash-has : (y : Member) → regexp_has false y ≡ true → ⊥
no-slash-has member.RegexpSlash h = no (sym h)
no-slash-has _ h = no (sym h)

no-tails-there : (y : Member) → (regexp_has false y ≡ true) ⊎ (js_tails_have script_no_tails y ≡ true) → ⊥
no-tails-there y (inl h) = no-slash-has y h
no-tails-there y (inr h) = no-tails-have y h

pub no-tails-at : (a : At) (y : Member) → script_tails_at script_no_tails a y ≡ true → ⊥
no-tails-at (InRegexp k e) y h = no-tails-there y (or-cases _ _ h)
no-tails-at (Slash s) y h = no-tails-there y (or-cases _ _ h)
no-tails-at a y h = no-tails-have y h
