-- No path is apart from itself.
use Rattle.std.proofs.Common.{◌≡◌, ℕ, zero, suc, true, false, not, List, [], ◌∷◌, Option, Some, None, sym, ap, ◌∙◌, subst, ◌⊎◌, inl, inr}
use Rattle.html_step.proofs.OwnClash.{no-own-clash}
use Rattle.js_lexer.specs.declared.sense.Sense.{Sense}
use Rattle.js_lexer.specs.declared.sense.Sense.TheVariants as sense
use Rattle.place_core.proofs.JoinParts.{prefix_itself}
use Rattle.place_core.proofs.Semilattices.{one_value}
use Rattle.place_core.specs.page.Classes.{class_of}
use Rattle.place_core.specs.page.Html.{next}
use Rattle.place_core.specs.page.States.{LexState, Template}
use Rattle.place_core.specs.page.Tags.{ValueState, languages}
use Rattle.place_core.specs.place.ApartPlaces.{ArePlacesApart, opened_apart, beginning_at, spell_apart}
use Rattle.place_core.specs.place.LanguagePlaces.{same_prefix}
use Rattle.place_core.specs.place.PathPairs.{ApartBefore, Clashes, ClashesApart, ClashesInText, PartWithin, senses_part, slash_sense, state_before}
use Rattle.place_core.specs.declared.code.Code.{Code}
use Rattle.place_core.specs.declared.place.Place.{Place}
use Rattle.place_core.specs.declared.prefix.Prefix.{Prefix}
use Rattle.place_core.specs.declared.prefix.Prefix.TheVariants as prefix

no : false ≡ true → ⊥
no e = cc

never : (p : Prefix) → not (same_prefix p p) ≡ true → ⊥
never p h = no (ap not (sym (prefix_itself p)) ∙ h)

one-spelling : (p : Prefix) → spell_apart p p ≡ true → ⊥
one-spelling prefix.Off h = never prefix.Off h
one-spelling (prefix.Javascript n) h = never (prefix.Javascript n) h
one-spelling (prefix.Vbscript n) h = never (prefix.Vbscript n) h
one-spelling (prefix.DataScheme n) h = never (prefix.DataScheme n) h
one-spelling prefix.Differs h = no h

one-opened : (o : Option Prefix) → opened_apart o o ≡ true → ⊥
one-opened (Some p) h = one-spelling p h
one-opened None h = no h

own-place : (a b : Place) → a ≡ b → ArePlacesApart a b → ⊥
own-place a b same h = one-opened (beginning_at a) (subst (λ (x : Place). ArePlacesApart a x) (sym same) h)

pub own-apart : (bytes : List ℕ) (s : LexState ValueState) → ApartBefore bytes s s → ⊥
own-apart bytes s h = own-place h.own h.other_own (one_value h.own h.other_own (sym h.stands ∙ h.other_stands)) h.apart

pub own-parts : (bytes : List ℕ) (s : LexState ValueState) → PartWithin bytes s s → ⊥
own-parts [] s h = h
own-parts (b ∷ bs) s (inl h) = own-apart bs (next languages Template s (class_of b) b) h.0
own-parts (b ∷ bs) s (inr h) = own-parts bs (next languages Template s (class_of b) b) h

-- no path clashes with itself, also behind bytes behind which it does not
not-later : (bytes : List ℕ) (s : LexState ValueState) (e : Code) (at : ℕ) → (ClashesInText bytes s s e at → ⊥)
    → (ApartBefore bytes s s × ClashesApart bytes (state_before s bytes) (state_before s bytes) e at) ⊎ ClashesInText bytes s s e at → ⊥
not-later bytes s e at none (inl h) = own-apart bytes s h.0
not-later bytes s e at none (inr h) = none h

not-within : (bytes : List ℕ) (s : LexState ValueState) (e : Code) (at : ℕ) → ClashesInText bytes s s e at → ⊥
not-within [] s e at c = c
not-within (b ∷ bs) s e zero c = no-own-clash s (class_of b) e c
not-within (b ∷ bs) s e (suc at) c =
    not-later bs (next languages Template s (class_of b) b) e at (not-within bs (next languages Template s (class_of b) b) e at) c.2

-- on one path a slash would be one thing
one-sense : (o : Option Sense) → senses_part o o ≡ true → ⊥
one-sense None h = no h
one-sense (Some sense.Re) h = no h
one-sense (Some sense.Div) h = no h
one-sense (Some sense.Brace) h = no h

pub not-twice : (bytes : List ℕ) (s : LexState ValueState) (e : Code) (at : ℕ) → Clashes bytes s s e at → ⊥
not-twice bytes s e at (inl c) = not-within bytes s e at c
not-twice bytes s e at (inr c) = one-sense (slash_sense s) c.part
