-- The first character of a text goes on with what a path has ended in: which member shows it.
use Rattle.std.proofs.Common.{◌≡◌, ◌∙◌, ℕ, nat_lt, Bool, true, false, ◌||◌, List, [], ◌∷◌, if◌then◌else◌, refl, sym, ap, ap₂}
use Rattle.js_lexer.specs.Classes.{class_of}
use Rattle.js_lexer.specs.States.{At, Slash, InRegexp}
use Rattle.js_lexer.specs.WhiteSpace.{PastAscii, IsSpace, IsSeparator, BeginsWhite, IsOther, past_ascii, ClassedByte, classed, released_alone, released_past_ascii, released_by, released}
use Rattle.js_lexer.specs.declared.class.ScriptClass.{ScriptClass}
use Rattle.js_lexer.specs.declared.class.ScriptClass.TheVariants as class
use Rattle.place_core.specs.declared.js_tails.JsTails.{JsTails}
use Rattle.place_core.specs.declared.member.Member.{Member}
use Rattle.place_core.specs.declared.member.Member.TheVariants as member
use Rattle.place_core.specs.declared.senses.Senses.{Senses}
use Rattle.place_core.specs.place.Places.{is_whole}
use Rattle.js_step.specs.ScriptEvidence.{script_slash_member, script_tail_shows, script_first_shows}
use Rattle.js_step.specs.ScriptOrigins.{script_tails_at, script_set_at}
use Rattle.js_step.specs.ScriptScans.{script_goes_on, script_first_goes_on}
use Rattle.js_step.proofs.MemberKinds.{kind_sense, kind_tail, kind_star, kind_none, kind-of, SetCases, set_sense, set_tail, set_star, set-cases, or-left, or-right-of, tail-of-set, star-of-set, set-of-tail, set-of-star}

no : true ≡ false → ⊥
no e = cc

-- the members as fields
at-word : (x : JsTails) (a : At) → script_tails_at x a member.JsWord ≡ x.word
at-word x (InRegexp k e) = refl
at-word x (Slash s) = refl
at-word x a = refl

at-num : (x : JsTails) (a : At) → script_tails_at x a member.JsNum ≡ x.num
at-num x (InRegexp k e) = refl
at-num x (Slash s) = refl
at-num x a = refl

at-lt : (x : JsTails) (a : At) → script_tails_at x a member.JsLt ≡ x.lt
at-lt x (InRegexp k e) = refl
at-lt x (Slash s) = refl
at-lt x a = refl

at-plus : (x : JsTails) (a : At) → script_tails_at x a member.JsPlus ≡ x.plus
at-plus x (InRegexp k e) = refl
at-plus x (Slash s) = refl
at-plus x a = refl

at-minus : (x : JsTails) (a : At) → script_tails_at x a member.JsMinus ≡ x.minus
at-minus x (InRegexp k e) = refl
at-minus x (Slash s) = refl
at-minus x a = refl

at-hash : (x : JsTails) (a : At) → script_tails_at x a member.JsHash ≡ x.hash
at-hash x (InRegexp k e) = refl
at-hash x (Slash s) = refl
at-hash x a = refl

or-no : (p : Bool) → (p || false) ≡ p
or-no true = refl
or-no false = refl

at-slash : (x : JsTails) (a : At) → script_tails_at x a (script_slash_member a) ≡ x.slash
at-slash x (InRegexp k e) = or-no x.slash
at-slash x (Slash s) = refl
at-slash x a = refl

slash-kind : (a : At) → kind-of (script_slash_member a) ≡ kind_tail
slash-kind (InRegexp k e) = refl
slash-kind a = refl

-- one member
one-there : (t : Senses) (y : JsTails) (l : Bool) (a : At) (u : Member) (f : Bool) → script_tails_at y a u ≡ f → f ≡ true → script_set_at t y l a u ≡ true
one-there t y l a u f e h = set-of-tail t y l a u (e ∙ h)

one-shown : (s : Senses) (x : JsTails) (k : Bool) (a : At) (u : Member) (f : Bool) → script_tails_at x a u ≡ f → kind-of u ≡ kind_tail → script_set_at s x k a u ≡ true → f ≡ true
one-shown s x k a u f e i h = sym e ∙ tail-of-set s x k a u h i

-- the one or the other
two-there : (t : Senses) (y : JsTails) (l : Bool) (a : At) (u w : Member) (f g p : Bool) → script_tails_at y a u ≡ f → script_tails_at y a w ≡ g → f ≡ p → (f || g) ≡ true
    → script_set_at t y l a (if p then u else w) ≡ true
two-there t y l a u w f g true d e i h = set-of-tail t y l a u (d ∙ i)
two-there t y l a u w f g false d e i h = set-of-tail t y l a w (e ∙ (sym (ap (λ (z : Bool). z || g) i) ∙ h))

two-shown : (s : Senses) (x : JsTails) (k : Bool) (a : At) (u w : Member) (f g p : Bool) → script_tails_at x a u ≡ f → script_tails_at x a w ≡ g
    → kind-of u ≡ kind_tail → kind-of w ≡ kind_tail → script_set_at s x k a (if p then u else w) ≡ true → (f || g) ≡ true
two-shown s x k a u w f g true d e i j h = or-left f g (sym d ∙ tail-of-set s x k a u h i)
two-shown s x k a u w f g false d e i j h = or-right-of f g (sym e ∙ tail-of-set s x k a w h j)

-- a slash: a `<`, a slash or a `*` before it
slash-there : (t : Senses) (y : JsTails) (l : Bool) (a : At) (p q : Bool) → y.lt ≡ p → y.slash ≡ q → (y.lt || (y.slash || l)) ≡ true
    → script_set_at t y l a (if p then member.JsLt else (if q then script_slash_member a else member.JsStar)) ≡ true
slash-there t y l a true q d e h = set-of-tail t y l a member.JsLt (at-lt y a ∙ d)
slash-there t y l a false true d e h = set-of-tail t y l a (script_slash_member a) (at-slash y a ∙ e)
slash-there t y l a false false d e h = set-of-star t y l a member.JsStar (sym (ap₂ (λ (z w : Bool). z || (w || l)) d e) ∙ h)

slash-shown : (s : Senses) (x : JsTails) (k : Bool) (a : At) (p q : Bool) → script_set_at s x k a (if p then member.JsLt else (if q then script_slash_member a else member.JsStar)) ≡ true
    → (x.lt || (x.slash || k)) ≡ true
slash-shown s x k a true q h = or-left x.lt (x.slash || k) (sym (at-lt x a) ∙ tail-of-set s x k a member.JsLt h refl)
slash-shown s x k a false true h =
    or-right-of x.lt (x.slash || k) (or-left x.slash k (sym (at-slash x a) ∙ tail-of-set s x k a (script_slash_member a) h (slash-kind a)))
slash-shown s x k a false false h = or-right-of x.lt (x.slash || k) (or-right-of x.slash k (star-of-set s x k a member.JsStar h refl))

-- by class
goes-there : (t : Senses) (y : JsTails) (l : Bool) (a : At) (c : ScriptClass) → script_goes_on y l c ≡ true → script_set_at t y l a (script_tail_shows y a c) ≡ true
goes-there t y l a class.Letter h = two-there t y l a member.JsWord member.JsNum y.word y.num y.word (at-word y a) (at-num y a) refl h
goes-there t y l a class.Digit h = two-there t y l a member.JsWord member.JsNum y.word y.num y.word (at-word y a) (at-num y a) refl h
goes-there t y l a class.Dollar h = two-there t y l a member.JsWord member.JsNum y.word y.num y.word (at-word y a) (at-num y a) refl h
goes-there t y l a class.Backslash h = two-there t y l a member.JsWord member.JsNum y.word y.num y.word (at-word y a) (at-num y a) refl h
goes-there t y l a class.Dot h = one-there t y l a member.JsNum y.num (at-num y a) h
goes-there t y l a class.Plus h = one-there t y l a member.JsPlus y.plus (at-plus y a) h
goes-there t y l a class.Minus h = one-there t y l a member.JsMinus y.minus (at-minus y a) h
goes-there t y l a class.GreaterThan h = one-there t y l a member.JsMinus y.minus (at-minus y a) h
goes-there t y l a class.Solidus h = slash-there t y l a y.lt y.slash refl refl h
goes-there t y l a class.Asterisk h = one-there t y l a (script_slash_member a) y.slash (at-slash y a) h
goes-there t y l a class.ExclamationMark h = two-there t y l a member.JsLt member.JsHash y.lt y.hash y.lt (at-lt y a) (at-hash y a) refl h
goes-there t y l a _ h = absurd (no (sym h))

goes-shown : (s : Senses) (x y : JsTails) (k l : Bool) (a : At) (c : ScriptClass) → script_goes_on y l c ≡ true → script_set_at s x k a (script_tail_shows y a c) ≡ true
    → script_goes_on x k c ≡ true
goes-shown s x y k l a class.Letter h i = two-shown s x k a member.JsWord member.JsNum x.word x.num y.word (at-word x a) (at-num x a) refl refl i
goes-shown s x y k l a class.Digit h i = two-shown s x k a member.JsWord member.JsNum x.word x.num y.word (at-word x a) (at-num x a) refl refl i
goes-shown s x y k l a class.Dollar h i = two-shown s x k a member.JsWord member.JsNum x.word x.num y.word (at-word x a) (at-num x a) refl refl i
goes-shown s x y k l a class.Backslash h i = two-shown s x k a member.JsWord member.JsNum x.word x.num y.word (at-word x a) (at-num x a) refl refl i
goes-shown s x y k l a class.Dot h i = one-shown s x k a member.JsNum x.num (at-num x a) refl i
goes-shown s x y k l a class.Plus h i = one-shown s x k a member.JsPlus x.plus (at-plus x a) refl i
goes-shown s x y k l a class.Minus h i = one-shown s x k a member.JsMinus x.minus (at-minus x a) refl i
goes-shown s x y k l a class.GreaterThan h i = one-shown s x k a member.JsMinus x.minus (at-minus x a) refl i
goes-shown s x y k l a class.Solidus h i = slash-shown s x k a y.lt y.slash i
goes-shown s x y k l a class.Asterisk h i = one-shown s x k a (script_slash_member a) x.slash (at-slash x a) (slash-kind a) i
goes-shown s x y k l a class.ExclamationMark h i = two-shown s x k a member.JsLt member.JsHash x.lt x.hash y.lt (at-lt x a) (at-hash x a) refl refl i
goes-shown s x y k l a _ h i = absurd (no (sym h))

pub first-there : (t : Senses) (y : JsTails) (l : Bool) (a : At) (xs : List ClassedByte) → script_first_goes_on y l xs ≡ true → script_set_at t y l a (script_first_shows y a xs) ≡ true
first-there t y l a [] h = absurd (no (sym h))
first-there t y l a (z ∷ zs) h = goes-there t y l a z.class h

pub first-shown : (s : Senses) (x y : JsTails) (k l : Bool) (a : At) (xs : List ClassedByte) → script_first_goes_on y l xs ≡ true
    → script_set_at s x k a (script_first_shows y a xs) ≡ true → script_first_goes_on x k xs ≡ true
first-shown s x y k l a [] h i = absurd (no (sym h))
first-shown s x y k l a (z ∷ zs) h i = goes-shown s x y k l a z.class h i

-- A byte before which nothing is held back, and which goes on with something, is read by its own class.
alone-by : (f : PastAscii) (y : JsTails) (l : Bool) (b : ℕ) → script_first_goes_on y l (released_alone f b) ≡ true → released_alone f b ≡ classed (class_of b) b ∷ []
alone-by IsSpace y l b h = refl
alone-by IsSeparator y l b h = refl
alone-by BeginsWhite y l b h = absurd (no (sym h))
alone-by IsOther y l b h = refl

past-by : (f : PastAscii) (y : JsTails) (l : Bool) (b : ℕ) → script_first_goes_on y l (released_past_ascii f [] b) ≡ true → released_past_ascii f [] b ≡ classed (class_of b) b ∷ []
past-by IsSpace y l b h = absurd (no (sym h))
past-by IsSeparator y l b h = absurd (no (sym h))
past-by BeginsWhite y l b h = absurd (no (sym h))
past-by IsOther y l b h = alone-by (past_ascii (b ∷ [])) y l b h

read-by : (p : Bool) (y : JsTails) (l : Bool) (b : ℕ) → script_first_goes_on y l (released_by p [] b) ≡ true → released_by p [] b ≡ classed (class_of b) b ∷ []
read-by true y l b h = refl
read-by false y l b h = past-by (past_ascii (b ∷ [])) y l b h

pub alone-read : (y : JsTails) (l : Bool) (b : ℕ) → script_first_goes_on y l (released [] b) ≡ true → released [] b ≡ classed (class_of b) b ∷ []
unfolding released
alone-read y l b h = read-by (nat_lt b 128) y l b h

-- no member of a set is the whole
whole-kind : (z : Member) → is_whole z ≡ true → kind-of z ≡ kind_none
whole-kind member.Whole h = refl
whole-kind _ h = absurd (no (sym h))

sense-some : kind_none ≡ kind_sense → ⊥
sense-some e = cc

tail-some : kind_none ≡ kind_tail → ⊥
tail-some e = cc

star-some : kind_none ≡ kind_star → ⊥
star-some e = cc

cases-not-whole : (s : Senses) (x : JsTails) (k : Bool) (a : At) (z : Member) → SetCases s x k a z → kind-of z ≡ kind_none → ⊥
cases-not-whole s x k a z (set_sense h i) e = sense-some (sym e ∙ i)
cases-not-whole s x k a z (set_tail h i) e = tail-some (sym e ∙ i)
cases-not-whole s x k a z (set_star h i) e = star-some (sym e ∙ i)

pub set-not-whole : (s : Senses) (x : JsTails) (k : Bool) (a : At) (z : Member) → script_set_at s x k a z ≡ true → is_whole z ≡ true → ⊥
set-not-whole s x k a z h i = cases-not-whole s x k a z (set-cases s x k a z h) (whole-kind z i)
