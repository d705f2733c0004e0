-- A slash that is one thing on some paths and another on others is refused by its code: it stands before the byte by which that is known, and so
-- before what else is refused there.
use Rattle.std.proofs.Common.{◌≡◌, ◌<◌, ◌≤◌, ℕ, ◌+◌, ◌-◌, nat_lt, Bool, true, false, ◌&&◌, List, [], ◌∷◌, ◌++◌, length, Option, Some, None, Result, Err, option_map, if◌then◌else◌, encode_utf8, refl, sym, ap, ◌∙◌, subst, ◌⊎◌, inl, inr, arith, lt-ltb, eqb-true}
use Rattle.js_lexer.specs.Classes as script
use Rattle.js_lexer.specs.Refusals.{Cause, Refusal, SlashAmbig, SplitToken, first_script_cause, refusal_outside}
use Rattle.js_lexer.specs.States.{At, Slash}
use Rattle.js_lexer.specs.declared.class.ScriptClass.{ScriptClass}
use Rattle.js_lexer.specs.declared.class.ScriptClass.TheVariants as class
use Rattle.js_lexer.specs.declared.sense.Sense.{Sense}
use Rattle.js_lexer.specs.declared.sense.Sense.TheVariants as sense
use Rattle.js_step.specs.ScriptEvidence.{ScriptSensesFit, script_shown_by, script_split_shows}
use Rattle.js_step.specs.ScriptScans.{ScriptScan, script_scan_error, script_scan_start, script_senses_differ, script_shared, script_tails_error, script_two_senses}
use Rattle.place_core.proofs.Semilattices.{none_some}
use Rattle.place_core.specs.page.Classes.{Class, Ampersand, White, QuotationMark, Apostrophe, GreaterThan, is_equals_sign}
use Rattle.place_core.specs.page.Html.{ends_value}
use Rattle.place_core.specs.page.References.{Form, Named, Reference, Closed, Open, ReferenceStep, Grows, Closes, Breaks, begin_reference, flushed, meaning, named_in, names, next_reference, plain_bytes, reference_turned, replacement, turn, undone_byte}
use Rattle.place_core.specs.page.Tags.{Unquoted, feed_bytes, script_code}
use Rattle.place_core.specs.place.Errors.{FedByte, PathCause, PathRefusal, at_hand, before_cause, cause_back, fed_error, fed_places, first_byte_error, first_cause, first_path_refusal, first_places, flushed_error, flushed_places, is_unknown_name, is_written, language_error, name_error, place_back, placed_bytes, places_with, script_fed, script_fed_refusal, script_refusal_at, turned_error, turned_places}
use Rattle.place_core.specs.place.ScriptParts.{script_senses}
use Rattle.place_core.specs.declared.code.Code.{Code}
use Rattle.place_core.specs.declared.code.Code.TheVariants as code
use Rattle.place_core.specs.declared.js.Js.{Js}
use Rattle.place_core.specs.declared.member.Member.{Member}
use Rattle.place_core.specs.declared.member.Member.TheVariants as member
use Rattle.place_core.specs.declared.place.Place.{Place}
use Rattle.place_core.specs.declared.quotes.Quotes.{Quotes}
use Rattle.place_core.specs.declared.quotes.Quotes.TheVariants as quotes
use Rattle.html_scan.specs.Scans.{all_scripts, ends_quoted, quoted_error, quoted_places, script_fed_byte, script_feeding, script_step_refusal}
use Rattle.html_step.specs.Laws.{EvidenceData, two}
use Rattle.html_step.specs.Origins.{bytes_of_places, first_shown, script_evidence, script_told_shown, script_value_ends}
use Rattle.html_step.specs.Steps.{unless_refused_in_script}
use Rattle.html_step.proofs.ScriptEnds.{bytes-both, bytes-placed, fed-none, fed-state, quoted-taken}
use Rattle.html_step.proofs.ScriptPlaces.{AreBelow, FedBelow, ReferenceBelow, flushed-below, more-below, with-below}
use Rattle.html_step.proofs.SlashCauses.{IsSlash, late-bytes, late-no, slash-byte, slash-end, starts-no}

no : false ≡ true → ⊥
no e = cc

given : {A : Type 0} (a : A) → Some a ≡ None → ⊥
given a e = cc

-- the cause that is told
pub record SlashCause (o : Option Cause) : Type 0 where
  pub cause : Cause
  pub is : o ≡ Some cause
  pub ambig : cause.refusal ≡ SlashAmbig

abbrev pub SlashTold : (ScriptScan → Option Cause) → List ℕ → ScriptScan → Type 0
SlashTold ends [] m = SlashCause (ends m)
SlashTold ends (b ∷ bs) m =
    SlashCause (script_scan_error false m b) ⊎ ((script_scan_error false m b ≡ None) × SlashTold ends bs (script_fed_byte m b))

shown-none : (m : ScriptScan) (w : Member) (r : Refusal) → script_shown_by m w r ≡ None → r ≡ SlashAmbig
shown-none m w SlashAmbig h = refl
shown-none m w SplitToken h = absurd (given w h)
shown-none m w _ h = absurd (given member.Whole h)

evidence-none : (z : Option Member) (x y : Member) → Some (script_evidence z) ≡ Some (two x y) → z ≡ None
evidence-none (Some w) x y e = cc
evidence-none None x y e = refl

end-told : (m : ScriptScan) (x y : Member) (o : Option Cause)
    → option_map (λ e. script_evidence (script_shown_by m member.Whole e.refusal)) o ≡ Some (two x y) → SlashCause o
end-told m x y (Some e) h =
    record { cause = e; is = refl; ambig = shown-none m member.Whole e.refusal (evidence-none (script_shown_by m member.Whole e.refusal) x y h) }
end-told m x y None h = absurd (none_some (two x y) h)

byte-told : (m : ScriptScan) (b : ℕ) (x y : Member) (o : Option Cause) (rest : Option EvidenceData) (P : Type 0) → script_scan_error false m b ≡ o
    → first_shown (option_map (λ e. script_evidence (script_shown_by m (script_split_shows m b) e.refusal)) o) rest ≡ Some (two x y)
    → (rest ≡ Some (two x y) → P) → SlashCause (script_scan_error false m b) ⊎ ((script_scan_error false m b ≡ None) × P)
byte-told m b x y (Some e) rest P i h f =
    let w = script_split_shows m b in
    inl (record { cause = e; is = i; ambig = shown-none m w e.refusal (evidence-none (script_shown_by m w e.refusal) x y h) })
byte-told m b x y None rest P i h f = inr (i, f h)

pub told-slash : (bytes : List ℕ) (ends : ScriptScan → Option Cause) (m : ScriptScan) (x y : Member) → script_told_shown false ends bytes m ≡ Some (two x y)
    → SlashTold ends bytes m
told-slash [] ends m x y h = end-told m x y (ends m) h
told-slash (b ∷ bs) ends m x y h =
    byte-told m b x y (script_scan_error false m b) (script_told_shown false ends bs (script_fed_byte m b)) (SlashTold ends bs (script_fed_byte m b)) refl h
    (λ i. told-slash bs ends (script_fed_byte m b) x y i)

-- What the script refuses of the bytes that it is fed, with their places.
data FedTold (ends : ScriptScan → Option Cause) (xs : List FedByte) (places : List ℕ) (m : ScriptScan) : Type 0 where
  fed_byte : (z : PathRefusal) → script_fed_refusal all_scripts places m xs ≡ Some z → z.code ≡ code.SlashAmbig → FedTold ends xs places m
  fed_end : script_fed_refusal all_scripts places m xs ≡ None → SlashCause (ends (script_fed all_scripts m xs)) → FedTold ends xs places m

refusal-some : (places : List ℕ) (o : Option Cause) (c : SlashCause o)
    → script_refusal_at places o ≡ Some (record { code = script_code c.cause.refusal; at = place_back c.cause.back places; shown = place_back c.cause.shown places })
refusal-some places o c = ap (script_refusal_at places) c.is

later-told : (x : FedByte) (xs : List FedByte) (places : List ℕ) (m : ScriptScan) (ends : ScriptScan → Option Cause) → script_scan_error false m x.byte ≡ None
    → FedTold ends xs (x.place ∷ places) (script_fed_byte m x.byte) → FedTold ends (x ∷ xs) places m
later-told x xs places m ends e (fed_byte z i d) =
    let later = x.place ∷ places in
    fed_byte z (ap (λ (o : Option Cause). first_path_refusal (script_refusal_at later o) (script_fed_refusal all_scripts later (script_fed_byte m x.byte) xs)) e ∙ i) d
later-told x xs places m ends e (fed_end i c) =
    let later = x.place ∷ places in
    fed_end (ap (λ (o : Option Cause). first_path_refusal (script_refusal_at later o) (script_fed_refusal all_scripts later (script_fed_byte m x.byte) xs)) e ∙ i) c

fed-told : (xs : List FedByte) (places : List ℕ) (m : ScriptScan) (ends : ScriptScan → Option Cause) → SlashTold ends (bytes_of_places xs) m → FedTold ends xs places m
fed-told [] places m ends t = fed_end refl t
fed-told (x ∷ xs) places m ends (inl c) =
    let later = x.place ∷ places in
    fed_byte (record { code = script_code c.cause.refusal; at = place_back c.cause.back later; shown = place_back c.cause.shown later })
    (ap (λ (o : Option PathRefusal). first_path_refusal o (script_fed_refusal all_scripts later (script_fed_byte m x.byte) xs)) (refusal-some later (script_scan_error false m x.byte) c))
    (ap script_code c.ambig)
fed-told (x ∷ xs) places m ends (inr t) =
    later-told x xs places m ends t.0 (fed-told xs (x.place ∷ places) (script_fed_byte m x.byte) ends t.1)

-- What the language of the value refuses of them: that, or nothing; or the name of a reference.
data ErrorTold (stops : Bool) (k : ℕ) (r : Reference) (o : Option PathCause) (xs : List FedByte) : Type 0 where
  error_code : (e : PathCause) → o ≡ Some e → e.code ≡ code.SlashAmbig → ErrorTold stops k r o xs
  error_none : o ≡ None → ErrorTold stops k r o xs
  error_name : (f : Form) (bytes : List ℕ) → stops ≡ false → r ≡ Open f bytes → is_unknown_name f bytes ≡ true
      → o ≡ Some (record { code = code.BadHTML; back = length bytes + 1; shown = length bytes + 1 })
      → xs ≡ placed_bytes false (k - (length bytes + 1)) (encode_utf8 (meaning f bytes)) → ErrorTold stops k r o xs

abbrev ErrorCode : Option PathCause → Type 0
ErrorCode None = ⊥
ErrorCode (Some e) = e.code ≡ code.SlashAmbig

code-error : (stops : Bool) (k : ℕ) (r : Reference) (o : Option PathCause) (xs : List FedByte) → ErrorCode o → ErrorTold stops k r o xs
code-error stops k r (Some e) xs h = error_code e refl h
code-error stops k r None xs h = absurd h

fine-error : (stops : Bool) (k : ℕ) (r : Reference) (o : Option PathCause) (xs : List FedByte) → ErrorCode o ⊎ (o ≡ None) → ErrorTold stops k r o xs
fine-error stops k r o xs (inl h) = code-error stops k r o xs h
fine-error stops k r o xs (inr h) = error_none h

abbrev error_with : ℕ → Option Cause → Option PathCause → Option PathCause
error_with back o rest = first_cause (cause_back back (option_map (λ (e : Cause). script_code e.refusal) o)) rest

here-code : (back : ℕ) (o : Option Cause) (rest : Option PathCause) → SlashCause o → ErrorCode (error_with back o rest)
here-code back o rest c = subst (λ (x : Option Cause). ErrorCode (error_with back x rest)) (sym c.is) (ap script_code c.ambig)

later-code : (back : ℕ) (o : Option Cause) (rest : Option PathCause) (P : Type 0) → o ≡ None → ErrorCode rest ⊎ ((rest ≡ None) × P)
    → ErrorCode (error_with back o rest) ⊎ ((error_with back o rest ≡ None) × P)
later-code back o rest P e (inl h) = inl (subst (λ (x : Option Cause). ErrorCode (error_with back x rest)) (sym e) h)
later-code back o rest P e (inr h) = inr (ap (λ (x : Option Cause). error_with back x rest) e ∙ h.0, h.1)

both-error : (xs ys : List ℕ) (m : ScriptScan) (w : Bool) (back : ℕ) (ends : ScriptScan → Option Cause) → SlashTold ends (xs ++ ys) m
    → ErrorCode (fed_error script_feeding m xs w back)
    ⊎ ((fed_error script_feeding m xs w back ≡ None) × SlashTold ends ys (feed_bytes script_feeding m xs))
both-error [] ys m w back ends t = inr (refl, t)
both-error (x ∷ xs) ys m w back ends (inl c) =
    inl (here-code back (script_scan_error false m x) (fed_error script_feeding (script_fed_byte m x) xs w (if w then back - 1 else back)) c)
both-error (x ∷ xs) ys m w back ends (inr t) =
    let after = if w then back - 1 else back in
    later-code back (script_scan_error false m x) (fed_error script_feeding (script_fed_byte m x) xs w after)
    (SlashTold ends ys (feed_bytes script_feeding (script_fed_byte m x) xs)) t.0 (both-error xs ys (script_fed_byte m x) w after ends t.1)

error-told : (xs : List ℕ) (m : ScriptScan) (w : Bool) (back : ℕ) (ends : ScriptScan → Option Cause) → SlashTold ends xs m
    → ErrorCode (fed_error script_feeding m xs w back) ⊎ (fed_error script_feeding m xs w back ≡ None)
error-told [] m w back ends t = inr refl
error-told (x ∷ xs) m w back ends (inl c) =
    inl (here-code back (script_scan_error false m x) (fed_error script_feeding (script_fed_byte m x) xs w (if w then back - 1 else back)) c)
error-told (x ∷ xs) m w back ends (inr t) = only-code back (script_scan_error false m x) _ t.0 (error-told xs (script_fed_byte m x) w (if w then back - 1 else back) ends t.1)
  where
    only-code : (back : ℕ) (o : Option Cause) (rest : Option PathCause) → o ≡ None → ErrorCode rest ⊎ (rest ≡ None)
        → ErrorCode (error_with back o rest) ⊎ (error_with back o rest ≡ None)
    only-code back o rest e (inl h) = inl (subst (λ (x : Option Cause). ErrorCode (error_with back x rest)) (sym e) h)
    only-code back o rest e (inr h) = inr (ap (λ (x : Option Cause). error_with back x rest) e ∙ h)

placed-told : (w at : Bool) (k back : ℕ) (bytes : List ℕ) (m : ScriptScan) (ends : ScriptScan → Option Cause) → SlashTold ends (bytes_of_places (placed_bytes at k bytes)) m
    → ErrorCode (fed_error script_feeding m bytes w back) ⊎ (fed_error script_feeding m bytes w back ≡ None)
placed-told w at k back bytes m ends t =
    error-told bytes m w back ends (subst (λ (xs : List ℕ). SlashTold ends xs m) (bytes-placed at k bytes) t)

first-code : (o p : Option PathCause) (P : Type 0) → ErrorCode o ⊎ ((o ≡ None) × P) → (P → ErrorCode p ⊎ (p ≡ None)) → ErrorCode (first_cause o p) ⊎ (first_cause o p ≡ None)
first-code (Some e) p P (inl h) f = inl h
first-code (Some e) p P (inr h) f = absurd (given e h.0)
first-code None p P (inl h) f = absurd h
first-code None p P (inr h) f = f h.1

closes-told : (x : Bool) (k : ℕ) (f : Form) (bytes : List ℕ) (m : ScriptScan) (ends : ScriptScan → Option Cause) → is_unknown_name f bytes ≡ x
    → SlashTold ends (bytes_of_places (placed_bytes false (k - (length bytes + 1)) (encode_utf8 (meaning f bytes)))) m
    → ErrorTold false k (Open f bytes) (first_cause (name_error x (length bytes + 1)) (fed_error script_feeding m (encode_utf8 (meaning f bytes)) false (length bytes + 1)))
    (placed_bytes false (k - (length bytes + 1)) (encode_utf8 (meaning f bytes)))
closes-told true k f bytes m ends u t = error_name f bytes refl refl u refl refl
closes-told false k f bytes m ends u t =
    fine-error false k (Open f bytes) _ _ (placed-told false false (k - (length bytes + 1)) (length bytes + 1) (encode_utf8 (meaning f bytes)) m ends t)

turned-told : (z : ReferenceStep) (k : ℕ) (f : Form) (bytes : List ℕ) (c : Class) (b : ℕ) (m : ScriptScan) (ends : ScriptScan → Option Cause)
    → SlashTold ends (bytes_of_places (turned_places k z f bytes c b)) m
    → ErrorTold false k (Open f bytes) (turned_error script_feeding m z f bytes c b) (turned_places k z f bytes c b)
turned-told (Grows g) k f bytes c b m ends t = error_none refl
turned-told Closes k f bytes c b m ends t =
    subst (λ (x : Bool). ErrorTold false k (Open f bytes) (first_cause (name_error x (length bytes + 1))
    (fed_error script_feeding m (encode_utf8 (meaning f bytes)) false (length bytes + 1)))
    (placed_bytes false (k - (length bytes + 1)) (encode_utf8 (meaning f bytes)))) refl
    (closes-told (is_unknown_name f bytes) k f bytes m ends refl t)
turned-told Breaks k f bytes c b m ends t =
    let xs = flushed true (is_equals_sign c) f bytes in
    let w = is_written (is_equals_sign c) f bytes in
    let zs = placed_bytes false k (plain_bytes c b) in
    let all : SlashTold ends (xs ++ plain_bytes c b) m =
    subst (λ (us : List ℕ). SlashTold ends us m)
    (bytes-both (flushed_places k (is_equals_sign c) f bytes) zs ∙ ap (λ (us : List ℕ). us ++ bytes_of_places zs) (bytes-placed w (k - (length bytes + 1)) xs)
    ∙ ap (λ (us : List ℕ). xs ++ us) (bytes-placed false k (plain_bytes c b))) t in
    fine-error false k (Open f bytes) (turned_error script_feeding m Breaks f bytes c b) (turned_places k Breaks f bytes c b)
    (first-code (flushed_error script_feeding m (is_equals_sign c) f bytes) (fed_error script_feeding (feed_bytes script_feeding m xs) (plain_bytes c b) false 0)
    (SlashTold ends (plain_bytes c b) (feed_bytes script_feeding m xs)) (both-error xs (plain_bytes c b) m w (length bytes + 1) ends all)
    (λ u. error-told (plain_bytes c b) (feed_bytes script_feeding m xs) false 0 ends u))

language-told : (stops : Bool) (k : ℕ) (r : Reference) (c : Class) (b : ℕ) (m : ScriptScan) (ends : ScriptScan → Option Cause)
    → SlashTold ends (bytes_of_places (fed_places stops k r c b)) m → ErrorTold stops k r (language_error script_feeding stops m r c b) (fed_places stops k r c b)
language-told true k Closed c b m ends t = error_none refl
language-told true k (Open f bytes) c b m ends t =
    let w = is_written false f bytes in
    fine-error true k (Open f bytes) _ _ (placed-told w w (k - (length bytes + 1)) (length bytes + 1) (flushed true false f bytes) m ends t)
language-told false k Closed c b m ends t = fine-error false k Closed _ _ (placed-told false false k 0 (plain_bytes c b) m ends t)
language-told false k (Open f bytes) c b m ends t = turned-told (turn c f) k f bytes c b m ends t

first-told : (k : ℕ) (c : Class) (b : ℕ) (m : ScriptScan) (ends : ScriptScan → Option Cause) → SlashTold ends (bytes_of_places (first_places k c b)) m
    → ErrorCode (first_byte_error script_feeding m c b) ⊎ (first_byte_error script_feeding m c b ≡ None)
first-told k White b m ends t = inr refl
first-told k QuotationMark b m ends t = inr refl
first-told k Apostrophe b m ends t = inr refl
first-told k GreaterThan b m ends t = inr refl
first-told k c b m ends t = placed-told false false k 0 (plain_bytes c b) m ends t

bare-told : (u : Bool) (k : ℕ) (r : Reference) (c : Class) (b : ℕ) (m : ScriptScan) (ends : ScriptScan → Option Cause)
    → SlashTold ends (bytes_of_places (if u then fed_places (ends_value Unquoted c) k r c b else first_places k c b)) m
    → ErrorTold (u && ends_value Unquoted c) k r (if u then language_error script_feeding (ends_value Unquoted c) m r c b else first_byte_error script_feeding m c b)
    (if u then fed_places (ends_value Unquoted c) k r c b else first_places k c b)
bare-told true k r c b m ends t = language-told (ends_value Unquoted c) k r c b m ends t
bare-told false k r c b m ends t = fine-error false k r _ _ (first-told k c b m ends t)

quoted-told : (q : Quotes) (k : ℕ) (r : Reference) (c : Class) (b : ℕ) (m : ScriptScan) (ends : ScriptScan → Option Cause)
    → SlashTold ends (bytes_of_places (quoted_places q k r c b)) m
    → ErrorTold (ends_quoted q c) k r (quoted_error script_feeding q m r c b) (quoted_places q k r c b)
quoted-told quotes.Dq k r c b m ends t = language-told (ends_quoted quotes.Dq c) k r c b m ends t
quoted-told quotes.Sq k r c b m ends t = language-told (ends_quoted quotes.Sq c) k r c b m ends t
quoted-told (quotes.Bare x) k r c b m ends t = bare-told x.uq k r c b m ends t

-- What is kept of the bytes that have been read fits the state that they have led to: a slash has been read of one of them, and where a reference is open
-- they stand before it.
abbrev open_length : Reference → ℕ
open_length Closed = 0
open_length (Open f bytes) = length bytes + 1

abbrev SlashFed : At → List ℕ → Type 0
SlashFed a [] = IsSlash a → ⊥
SlashFed a (p ∷ ps) = Unit {0}

pub record FedFits (k : ℕ) (places : List ℕ) (m : ScriptScan) (r : Reference) : Type 0 where
  pub below : AreBelow (k - open_length r) places
  pub reference : ReferenceBelow k r
  pub fed : SlashFed m.state.at places

below-up : (j k : ℕ) (places : List ℕ) → j ≤ k → AreBelow j places → AreBelow k places
below-up j k [] l h = tt
below-up j k (p ∷ ps) l h = (let i : p < j = h.0 in omega (arith, i, l), below-up j k ps l h.1)

-- where it stands
one-back : (n k p : ℕ) (ps : List ℕ) → n ≡ 1 → AreBelow k (p ∷ ps) → (q : ℕ) → place_back n (q ∷ p ∷ ps) < k
one-back n k p [] e h q = subst (λ (i : ℕ). place_back i (q ∷ p ∷ []) < k) (sym e) h.0
one-back n k p (s ∷ ps) e h q = subst (λ (i : ℕ). place_back i (q ∷ p ∷ s ∷ ps) < k) (sym e) h.0

slash-back : (a : At) (n k q : ℕ) (places : List ℕ) → n ≡ 1 → IsSlash a → SlashFed a places → AreBelow k places → place_back n (q ∷ places) < k
slash-back a n k q [] e s f h = absurd (f s)
slash-back a n k q (p ∷ ps) e s f h = one-back n k p ps e h q

slash-with : (xs : List FedByte) (places : List ℕ) (m : ScriptScan) → SlashFed m.state.at places
    → SlashFed (script_fed all_scripts m xs).state.at (places_with xs places)
slash-with [] places m h = h
slash-with (x ∷ xs) places m h = slash-with xs (x.place ∷ places) (script_fed_byte m x.byte) tt

-- before a name of which it is not known for what it stands
two-refuses : (m : ScriptScan) (a : At) (x : Bool) (fs : List ℕ) (o p : Option Cause) → IsSlash a → x ≡ true → fs ≡ []
    → first_script_cause o (first_script_cause (script_two_senses x fs a class.Letter) p) ≡ None → ⊥
two-refuses m (Slash s) true [] (Some e) p i h k n = given e n
two-refuses m (Slash s) true [] None p i h k n = given _ n
two-refuses m (Slash s) true (f ∷ fs) o p i h k n = absurd (cons-no f fs k)
  where
    cons-no : (f : ℕ) (fs : List ℕ) → f ∷ fs ≡ [] → ⊥
    cons-no f fs e = cc
two-refuses m (Slash s) false fs o p i h k n = no h
two-refuses m _ x fs o p i h k n = i

letter-239 : script.class_of 239 ≡ class.Letter
unfolding script.class_of
letter-239 = refl

first-refused : (m : ScriptScan) → script_senses_differ m.senses ≡ true → m.state.literals ≡ [] → script_scan_error false m 239 ≡ None → IsSlash m.state.at → ⊥
first-refused m d l e i =
    let c = script.class_of 239 in
    two-refuses m m.state.at (script_senses_differ m.senses) m.state.literals (script_tails_error m c 239)
    (refusal_outside m.state.literals false (script_shared m) c 239) i d l
    (ap (λ (x : ScriptClass). first_script_cause (script_tails_error m c 239)
    (first_script_cause (script_two_senses (script_senses_differ m.senses) m.state.literals m.state.at x) (refusal_outside m.state.literals false (script_shared m) c 239)))
    (sym letter-239) ∙ e)

some-one : (a b : PathRefusal) → Some a ≡ Some b → a ≡ b
some-one a b e = cc

name-below : (m : ScriptScan) (p : ℕ) (places : List ℕ) (z : PathRefusal) → script_senses_differ m.senses ≡ true → m.state.literals ≡ [] → SlashFed m.state.at places
    → AreBelow p places → SlashTold (script_value_ends false) (239 ∷ 191 ∷ 189 ∷ []) m
    → script_fed_refusal all_scripts places m (placed_bytes false p (239 ∷ 191 ∷ 189 ∷ [])) ≡ Some z → z.at < p
name-below m p places z d l f h (inl c) e =
    let s = slash-byte m 239 c.cause c.is c.ambig in
    let later = p ∷ places in
    let is = ap (λ (o : Option PathRefusal). first_path_refusal o (script_fed_refusal all_scripts later (script_fed_byte m 239) (placed_bytes false p (191 ∷ 189 ∷ []))))
    (sym (refusal-some later (script_scan_error false m 239) c)) ∙ e in
    subst (λ (w : PathRefusal). w.at < p) (some-one _ z is) (slash-back m.state.at c.cause.back p p places s.0 s.1 f h)
name-below m p places z d l f h (inr t) e =
    let one = script_fed_byte m 239 in
    let none : IsSlash one.state.at → ⊥ = late-no m 239 late-bytes.1 (first-refused m d l t.0) in
    absurd (never one none t.1)
  where
    third : (n : ScriptScan) → (IsSlash n.state.at → ⊥) → SlashTold (script_value_ends false) (189 ∷ []) n → ⊥
    third n i (inl c) = i (slash-byte n 189 c.cause c.is c.ambig).1
    third n i (inr t) = none_some t.1.cause t.1.is

    never : (n : ScriptScan) → (IsSlash n.state.at → ⊥) → SlashTold (script_value_ends false) (191 ∷ 189 ∷ []) n → ⊥
    never n i (inl c) = i (slash-byte n 191 c.cause c.is c.ambig).1
    never n i (inr t) = third (script_fed_byte n 191) (late-no n 191 late-bytes.2 i) t.1

unknown-code : (f : Form) (bytes : List ℕ) → is_unknown_name f bytes ≡ true → encode_utf8 (meaning f bytes) ≡ 239 ∷ 191 ∷ 189 ∷ []
unfolding is_unknown_name meaning
unknown-code Named bytes h = ap encode_utf8 (eqb-true (named_in names bytes) replacement h) ∙ late-bytes.0
unknown-code _ bytes h = absurd (no h)

-- the bytes before the end of a value
if-fed-below : (x : Bool) (k : ℕ) (r : Reference) (c : Class) (b : ℕ) → x ≡ true → ReferenceBelow k r → FedBelow k (fed_places x k r c b)
if-fed-below true k Closed c b e h = tt
if-fed-below true k (Open f bytes) c b e h = flushed-below false f bytes k h
if-fed-below false k r c b e h = absurd (no e)

bare-fed-below : (u : Bool) (k : ℕ) (r : Reference) (c : Class) (b : ℕ) → (u && ends_value Unquoted c) ≡ true → ReferenceBelow k r
    → FedBelow k (if u then fed_places (ends_value Unquoted c) k r c b else first_places k c b)
bare-fed-below true k r c b e h = if-fed-below (ends_value Unquoted c) k r c b e h
bare-fed-below false k r c b e h = absurd (no e)

ending-below : (q : Quotes) (k : ℕ) (r : Reference) (c : Class) (b : ℕ) → ends_quoted q c ≡ true → ReferenceBelow k r → FedBelow k (quoted_places q k r c b)
ending-below quotes.Dq k r c b e h = if-fed-below (ends_quoted quotes.Dq c) k r c b e h
ending-below quotes.Sq k r c b e h = if-fed-below (ends_quoted quotes.Sq c) k r c b e h
ending-below (quotes.Bare x) k r c b e h = bare-fed-below x.uq k r c b e h

-- what is refused first
before-code : (x : Bool) (k : ℕ) (z : PathRefusal) (e : PathCause) → z.code ≡ code.SlashAmbig → e.code ≡ code.SlashAmbig
    → (if x then z else record { code = e.code; at = k - e.back; shown = k - e.shown }).code ≡ code.SlashAmbig
before-code true k z e h i = h
before-code false k z e h i = i

before-first : (k : ℕ) (z : PathRefusal) (e : PathCause) → z.at < k - e.back → before_cause k z (Some e) ≡ z
before-first k z e h =
    ap (λ (x : Bool). if x then z else record { code = e.code; at = k - e.back; shown = k - e.shown }) (lt-ltb z.at (k - e.back) h)

hand-code : (k : ℕ) (z : PathRefusal) (o : Option Code) → z.code ≡ code.SlashAmbig → z.at < k → (before_cause k z (at_hand o)).code ≡ code.SlashAmbig
hand-code k z None h l = h
hand-code k z (Some d) h l =
    ap (λ (x : PathRefusal). x.code) (before-first k z (record { code = d; back = 0; shown = 0 }) (omega (arith, l))) ∙ h

err-code : (x : Result Place PathRefusal) (a e : PathRefusal) → x ≡ Err a → x ≡ Err e → a ≡ e
err-code x a e h i = cc

as-refused : (k : ℕ) (x : Option PathRefusal) (z : PathRefusal) (o u : Option PathCause) (rest : Result Place PathRefusal) (e : PathRefusal) → x ≡ Some z → o ≡ u
    → unless_refused_in_script k x o rest ≡ Err e → (before_cause k z u).code ≡ code.SlashAmbig → e.code ≡ code.SlashAmbig
as-refused k x z o u rest e i j h c =
    ap (λ (w : PathRefusal). w.code)
    (sym (err-code (unless_refused_in_script k x o rest) (before_cause k z u) e
    (ap (λ (w : Option PathRefusal). unless_refused_in_script k w o rest) i ∙ ap (λ (w : Option PathCause). unless_refused_in_script k (Some z) w rest) j) h))
    ∙ c

one-sense : (r : Sense) → script_senses_differ (script_senses r) ≡ true → ⊥
one-sense sense.Re h = no h
one-sense sense.Div h = no h
one-sense sense.Brace h = no h

no-literals : (m : ScriptScan) → ScriptSensesFit m → script_senses_differ m.senses ≡ true → m.state.literals ≡ []
no-literals m (inl (r, e)) h = absurd (one-sense r (sym (ap script_senses_differ e) ∙ h))
no-literals m (inr f) h = f.0

-- the end of a value
ends-case : (x : Bool) (k q : ℕ) (places : List ℕ) (n : ScriptScan) (c : SlashCause (script_value_ends x n)) → SlashFed n.state.at places → AreBelow k places
    → place_back c.cause.back (q ∷ places) < k
ends-case true k q places n c f h = (let s = slash-end n c.cause c.is c.ambig in slash-back n.state.at c.cause.back k q places s.0 s.1 f h)
ends-case false k q places n c f h = absurd (none_some c.cause c.is)

ends-true : (x : Bool) (n : ScriptScan) → SlashCause (script_value_ends x n) → x ≡ true
ends-true true n c = refl
ends-true false n c = absurd (none_some c.cause c.is)

never-both : (x : Bool) → x ≡ false → x ≡ true → ⊥
never-both true e f = no (sym e)
never-both false e f = no f

abbrev step-error : Quotes → ScriptScan → Reference → Class → ℕ → Option Code → Option PathCause
step-error q m r c b other = first_cause (quoted_error script_feeding q m r c b) (at_hand other)

step-by : (q : Quotes) (k : ℕ) (places : List ℕ) (m : ScriptScan) (r : Reference) (c : Class) (b : ℕ) (other : Option Code) (rest : Result Place PathRefusal) (e : PathRefusal)
    → FedFits k places m r → ScriptSensesFit m → script_senses_differ m.senses ≡ true
    → SlashTold (script_value_ends (ends_quoted q c)) (bytes_of_places (quoted_places q k r c b)) m
    → FedTold (script_value_ends (ends_quoted q c)) (quoted_places q k r c b) places m
    → ErrorTold (ends_quoted q c) k r (quoted_error script_feeding q m r c b) (quoted_places q k r c b)
    → unless_refused_in_script k (script_step_refusal q k places m r c b) (step-error q m r c b other) rest ≡ Err e → e.code ≡ code.SlashAmbig
step-by q k places m r c b other rest e w fit d t (fed_byte z i s) (error_code x o j) h =
    let xs = quoted_places q k r c b in
    as-refused k (script_step_refusal q k places m r c b) z (step-error q m r c b other) (Some x) rest e
    (ap (λ (u : Option PathRefusal). first_path_refusal u (script_refusal_at (k ∷ places_with xs places) (script_value_ends (ends_quoted q c) (script_fed all_scripts m xs)))) i)
    (ap (λ (u : Option PathCause). first_cause u (at_hand other)) o) h (before-code (nat_lt z.at (k - x.back)) k z x s j)
step-by q k places m r c b other rest e w fit d t (fed_byte z i s) (error_none o) h =
    absurd (none_some z (sym (fed-none (quoted_places q k r c b) places m (quoted-taken q k r m c b o)) ∙ i))
step-by q k places m r c b other rest e w fit d t (fed_byte z i s) (error_name f bytes stops is u o p) h =
    let xs = quoted_places q k r c b in
    let start = k - (length bytes + 1) in
    let same : xs ≡ placed_bytes false start (239 ∷ 191 ∷ 189 ∷ []) = p ∙ ap (placed_bytes false start) (unknown-code f bytes u) in
    let told : SlashTold (script_value_ends false) (239 ∷ 191 ∷ 189 ∷ []) m =
    subst (λ (y : Bool). SlashTold (script_value_ends y) (239 ∷ 191 ∷ 189 ∷ []) m) stops
    (subst (λ (ys : List FedByte). SlashTold (script_value_ends (ends_quoted q c)) (bytes_of_places ys) m) same t) in
    let under : AreBelow start places = subst (λ (y : Reference). AreBelow (k - open_length y) places) is w.below in
    let at = name-below m start places z d (no-literals m fit d) w.fed under told (ap (script_fed_refusal all_scripts places m) (sym same) ∙ i) in
    let x : PathCause = record { code = code.BadHTML; back = length bytes + 1; shown = length bytes + 1 } in
    as-refused k (script_step_refusal q k places m r c b) z (step-error q m r c b other) (Some x) rest e
    (ap (λ (y : Option PathRefusal). first_path_refusal y (script_refusal_at (k ∷ places_with xs places) (script_value_ends (ends_quoted q c) (script_fed all_scripts m xs)))) i)
    (ap (λ (y : Option PathCause). first_cause y (at_hand other)) o) h (ap (λ (y : PathRefusal). y.code) (before-first k z x at) ∙ s)
step-by q k places m r c b other rest e w fit d t (fed_end i s) (error_code x o j) h =
    let xs = quoted_places q k r c b in
    let there = k ∷ places_with xs places in
    let z : PathRefusal = record { code = script_code s.cause.refusal; at = place_back s.cause.back there; shown = place_back s.cause.shown there } in
    as-refused k (script_step_refusal q k places m r c b) z (step-error q m r c b other) (Some x) rest e
    (ap (λ (u : Option PathRefusal). first_path_refusal u (script_refusal_at there (script_value_ends (ends_quoted q c) (script_fed all_scripts m xs)))) i
    ∙ refusal-some there (script_value_ends (ends_quoted q c) (script_fed all_scripts m xs)) s)
    (ap (λ (u : Option PathCause). first_cause u (at_hand other)) o) h (before-code (nat_lt z.at (k - x.back)) k z x (ap script_code s.ambig) j)
step-by q k places m r c b other rest e w fit d t (fed_end i s) (error_none o) h =
    let xs = quoted_places q k r c b in
    let n = script_fed all_scripts m xs in
    let there = k ∷ places_with xs places in
    let z : PathRefusal = record { code = script_code s.cause.refusal; at = place_back s.cause.back there; shown = place_back s.cause.shown there } in
    let ends = ends-true (ends_quoted q c) n s in
    let under = with-below k xs places (below-up (k - open_length r) k places (omega arith) w.below) (ending-below q k r c b ends w.reference) in
    as-refused k (script_step_refusal q k places m r c b) z (step-error q m r c b other) (at_hand other) rest e
    (ap (λ (u : Option PathRefusal). first_path_refusal u (script_refusal_at there (script_value_ends (ends_quoted q c) n))) i
    ∙ refusal-some there (script_value_ends (ends_quoted q c) n) s)
    (ap (λ (u : Option PathCause). first_cause u (at_hand other)) o) h
    (hand-code k z other (ap script_code s.ambig) (ends-case (ends_quoted q c) k k (places_with xs places) n s (slash-with xs places m w.fed) under))
step-by q k places m r c b other rest e w fit d t (fed_end i s) (error_name f bytes stops is u o p) h =
    absurd (never-both (ends_quoted q c) stops (ends-true (ends_quoted q c) (script_fed all_scripts m (quoted_places q k r c b)) s))

-- at a byte of a value
pub step-code : (q : Quotes) (k : ℕ) (places : List ℕ) (m : ScriptScan) (r : Reference) (c : Class) (b : ℕ) (other : Option Code) (rest : Result Place PathRefusal) (e : PathRefusal)
    → FedFits k places m r → ScriptSensesFit m → script_senses_differ m.senses ≡ true
    → SlashTold (script_value_ends (ends_quoted q c)) (bytes_of_places (quoted_places q k r c b)) m
    → unless_refused_in_script k (script_step_refusal q k places m r c b) (step-error q m r c b other) rest ≡ Err e → e.code ≡ code.SlashAmbig
step-code q k places m r c b other rest e w fit d t h =
    let ends = script_value_ends (ends_quoted q c) in
    step-by q k places m r c b other rest e w fit d t (fed-told (quoted_places q k r c b) places m ends t) (quoted-told q k r c b m ends t) h

-- at the end of a text
cause-code : (k : ℕ) (z : PathRefusal) (o : Option PathCause) → ErrorCode o ⊎ (o ≡ None) → z.code ≡ code.SlashAmbig → (before_cause k z o).code ≡ code.SlashAmbig
cause-code k z (Some x) (inl j) s = before-code (nat_lt z.at (k - x.back)) k z x s j
cause-code k z (Some x) (inr j) s = absurd (given x j)
cause-code k z None j s = s

end-by : (k : ℕ) (places there : List ℕ) (m : ScriptScan) (ends : ScriptScan → Option Cause) (xs : List FedByte) (o : Option PathCause) (rest : Result Place PathRefusal) (e : PathRefusal)
    → FedTold ends xs places m → ErrorCode o ⊎ (o ≡ None)
    → unless_refused_in_script k (first_path_refusal (script_fed_refusal all_scripts places m xs) (script_refusal_at there (ends (script_fed all_scripts m xs)))) o rest ≡ Err e
    → e.code ≡ code.SlashAmbig
end-by k places there m ends xs o rest e (fed_byte z i s) c h =
    as-refused k (first_path_refusal (script_fed_refusal all_scripts places m xs) (script_refusal_at there (ends (script_fed all_scripts m xs)))) z o o rest e
    (ap (λ (u : Option PathRefusal). first_path_refusal u (script_refusal_at there (ends (script_fed all_scripts m xs)))) i) refl h (cause-code k z o c s)
end-by k places there m ends xs o rest e (fed_end i s) c h =
    let z : PathRefusal = record { code = script_code s.cause.refusal; at = place_back s.cause.back there; shown = place_back s.cause.shown there } in
    as-refused k (first_path_refusal (script_fed_refusal all_scripts places m xs) (script_refusal_at there (ends (script_fed all_scripts m xs)))) z o o rest e
    (ap (λ (u : Option PathRefusal). first_path_refusal u (script_refusal_at there (ends (script_fed all_scripts m xs)))) i
    ∙ refusal-some there (ends (script_fed all_scripts m xs)) s) refl h (cause-code k z o c (ap script_code s.ambig))

pub end-code : (k : ℕ) (places bytes : List ℕ) (m : ScriptScan) (ends : ScriptScan → Option Cause) (back start : ℕ) (rest : Result Place PathRefusal) (e : PathRefusal)
    → SlashTold ends bytes m
    → unless_refused_in_script k (first_path_refusal (script_fed_refusal all_scripts places m (placed_bytes true start bytes))
    (script_refusal_at (k ∷ places_with (placed_bytes true start bytes) places) (ends (script_fed all_scripts m (placed_bytes true start bytes)))))
    (fed_error script_feeding m bytes true back) rest ≡ Err e → e.code ≡ code.SlashAmbig
end-code k places bytes m ends back start rest e t h =
    let xs = placed_bytes true start bytes in
    end-by k places (k ∷ places_with xs places) m ends xs (fed_error script_feeding m bytes true back) rest e
    (fed-told xs places m ends (subst (λ (ys : List ℕ). SlashTold ends ys m) (sym (bytes-placed true start bytes)) t)) (error-told bytes m true back ends t) h

-- It fits behind a byte too.
begin-below : (c : Class) (b k : ℕ) (places : List ℕ) → AreBelow k places → AreBelow (k + 1 - open_length (begin_reference c)) (places_with (placed_bytes false k (plain_bytes c b)) places)
begin-below Ampersand b k places h = below-up k (k + 1 - 1) places (omega arith) h
begin-below _ b k places h = (let p : AreBelow (k + 1) (k ∷ places) = (omega arith, more-below k places h) in below-up (k + 1) (k + 1 - 0) (k ∷ places) (omega arith) p)

snoc-length : (xs : List ℕ) (b : ℕ) → length (xs ++ b ∷ []) ≡ length xs + 1
snoc-length [] b = refl
snoc-length (x ∷ xs) b = (let e = snoc-length xs b in omega (arith, e))

with-append : (xs ys : List FedByte) (places : List ℕ) → places_with (xs ++ ys) places ≡ places_with ys (places_with xs places)
with-append [] ys places = refl
with-append (x ∷ xs) ys places = with-append xs ys (x.place ∷ places)

flat-fed : (bs : List ℕ) (j k : ℕ) → j < k → FedBelow k (placed_bytes false j bs)
flat-fed [] j k h = tt
flat-fed (b ∷ bs) j k h = (h, flat-fed bs j k h)

turned-fits : (z : ReferenceStep) (f : Form) (bytes : List ℕ) (c : Class) (b k : ℕ) (places : List ℕ) → length bytes < k → AreBelow (k - (length bytes + 1)) places
    → AreBelow (k + 1 - open_length (reference_turned z bytes c b)) (places_with (turned_places k z f bytes c b) places)
turned-fits (Grows g) f bytes c b k places l h =
    (let e = snoc-length bytes b in below-up (k - (length bytes + 1)) (k + 1 - (length (bytes ++ b ∷ []) + 1)) places (omega (arith, e)) h)
turned-fits Closes f bytes c b k places l h =
    with-below (k + 1 - 0) (placed_bytes false (k - (length bytes + 1)) (encode_utf8 (meaning f bytes))) places
    (below-up (k - (length bytes + 1)) (k + 1 - 0) places (omega arith) h) (flat-fed (encode_utf8 (meaning f bytes)) (k - (length bytes + 1)) (k + 1 - 0) (omega arith))
turned-fits Breaks f bytes c b k places l h =
    let xs = flushed_places k (is_equals_sign c) f bytes in
    let ys = placed_bytes false k (plain_bytes c b) in
    subst (λ (ps : List ℕ). AreBelow (k + 1 - open_length (begin_reference c)) ps) (sym (with-append xs ys places))
    (begin-below c b k (places_with xs places)
    (with-below k xs places (below-up (k - (length bytes + 1)) k places (omega arith) h) (flushed-below (is_equals_sign c) f bytes k l)))

next-fits : (r : Reference) (c : Class) (b k : ℕ) (places : List ℕ) → ReferenceBelow k r → AreBelow (k - open_length r) places
    → AreBelow (k + 1 - open_length (next_reference r c b)) (places_with (fed_places false k r c b) places)
next-fits Closed c b k places l h = begin-below c b k places (below-up (k - 0) k places (omega arith) h)
next-fits (Open f bytes) c b k places l h = turned-fits (turn c f) f bytes c b k places l h

begins-reference : (c : Class) (k : ℕ) → ReferenceBelow (k + 1) (begin_reference c)
begins-reference Ampersand k = omega arith
begins-reference _ k = tt

turned-reference : (z : ReferenceStep) (bytes : List ℕ) (c : Class) (b k : ℕ) → length bytes < k → ReferenceBelow (k + 1) (reference_turned z bytes c b)
turned-reference (Grows g) bytes c b k h = (let e = snoc-length bytes b in omega (arith, e, h))
turned-reference Closes bytes c b k h = tt
turned-reference Breaks bytes c b k h = begins-reference c k

reference-fits : (r : Reference) (c : Class) (b k : ℕ) → ReferenceBelow k r → ReferenceBelow (k + 1) (next_reference r c b)
reference-fits Closed c b k h = begins-reference c k
reference-fits (Open f bytes) c b k h = turned-reference (turn c f) bytes c b k h

pub fits-behind : (k : ℕ) (places : List ℕ) (m : ScriptScan) (r : Reference) (c : Class) (b : ℕ) → bytes_of_places (fed_places false k r c b) ≡ undone_byte true r c b
    → FedFits k places m r
    → FedFits (k + 1) (places_with (fed_places false k r c b) places) (feed_bytes script_feeding m (undone_byte true r c b)) (next_reference r c b)
fits-behind k places m r c b e w =
    let xs = fed_places false k r c b in
    record {
      below = next-fits r c b k places w.reference w.below;
      reference = reference-fits r c b k w.reference;
      fed = subst (λ (n : ScriptScan). SlashFed n.state.at (places_with xs places)) (fed-state xs m ∙ ap (feed_bytes script_feeding m) e) (slash-with xs places m w.fed);
    }

-- where a text begins
pub starts-fit : (k : ℕ) (j : Js) → FedFits k [] (script_scan_start j) Closed
starts-fit k j = record { below = tt; reference = tt; fed = starts-no j }
