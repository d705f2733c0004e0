-- The content of an element that a language reads: bytes one after the other, and that they make of it what they make of a value.
use Rattle.std.proofs.Common.{◌≡◌, ℕ, Bool, List, [], ◌∷◌, ◌++◌, refl, ap}
use Rattle.place_core.specs.page.Events.{LexEvent}
use Rattle.place_core.specs.page.Tags.{ValueLanguage, ValueOf, feeding, language_feeding, fed_state, emits_fed, with_bytes, emitted_bytes}
use Rattle.place_core.specs.place.Errors.{fed_error, first_cause, cause_back}

pub fed-append : {B : Type 0} (l : ValueLanguage B) (v : B) (xs ys : List ℕ) → fed_state l v (xs ++ ys) ≡ fed_state l (fed_state l v xs) ys
fed-append l v [] ys = refl
fed-append l v (x ∷ xs) ys = fed-append l (l.feed v x) xs ys

pub emits-fed-append : {B : Type 0} (l : ValueLanguage B) (v : B) (xs ys : List ℕ) (t : List LexEvent)
    → emits_fed l v (xs ++ ys) t ≡ emits_fed l (fed_state l v xs) ys (emits_fed l v xs t)
emits-fed-append l v [] ys t = refl
emits-fed-append l v (x ∷ xs) ys t = emits-fed-append l (l.feed v x) xs ys (l.emits v x t)

pub value-fed : {B : Type 0} (l : ValueLanguage B) (v : B) (bs : List ℕ) → with_bytes l (ValueOf v) bs ≡ ValueOf (fed_state l v bs)
value-fed l v [] = refl
value-fed l v (b ∷ bs) = value-fed l (l.feed v b) bs

pub value-emits-fed : {B : Type 0} (l : ValueLanguage B) (v : B) (bs : List ℕ) (t : List LexEvent) → emitted_bytes l (ValueOf v) bs t ≡ emits_fed l v bs t
value-emits-fed l v [] t = refl
value-emits-fed l v (b ∷ bs) t = value-emits-fed l (l.feed v b) bs (l.emits v b t)

pub value-fed-error : {B : Type 0} (l : ValueLanguage B) (v : B) (bs : List ℕ) (written : Bool) (back : ℕ)
    → fed_error (feeding l) (ValueOf v) bs written back ≡ fed_error (language_feeding l) v bs written back
value-fed-error l v [] written back = refl
value-fed-error l v (b ∷ bs) written back =
    ap (first_cause (cause_back back (l.refuses v b))) (value-fed-error l (l.feed v b) bs written _)
