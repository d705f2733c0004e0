-- In a script, up to the byte that is refused, what stands before the bytes that are left is not refused: so the place is shown behind it.
use Rattle.std.proofs.Common.{◌≡◌, ◌<◌, ◌≤◌, ◌⊎◌, inl, inr, ℕ, ◌+◌, ◌-◌, nat_lt, Bool, true, false, List, [], ◌∷◌, ◌++◌, length, Option, Some, None, option_map, Result, Ok, Err, if◌then◌else◌, refl, sym, ap, ◌∙◌, subst, arith}
use Rattle.std.specs.Prelude.{⊤}
use Rattle.js_lexer.specs.Refusals.{Cause}
use Rattle.js_step.specs.ScriptScans.{ScriptScan, script_scan_error}
use Rattle.place_core.proofs.Semilattices.{none_some}
use Rattle.place_core.specs.page.Classes.{Class, is_equals_sign}
use Rattle.place_core.specs.page.Html.{ends_value}
use Rattle.place_core.specs.page.References.{Form, Reference, Open, ReferenceStep, Breaks, flushed, plain_bytes, turn}
use Rattle.place_core.specs.page.Tags.{Quoting, DoubleQuoted, SingleQuoted, Unquoted, script_code}
use Rattle.place_core.specs.place.Errors.{FedByte, PathCause, PathRefusal, ScriptFeeding, at_hand, before_cause, cause_back, cut_places, fed_error, fed_places, first_cause, first_path_refusal, flushed_error, flushed_places, is_written, language_error, at_value_end, placed_bytes, places_with, script_ending_refusal, script_fed, script_fed_refusal, script_places_refusal, script_refusal_at, turned_places, value_end_cause, value_error}
use Rattle.place_core.specs.declared.place.Place.{Place}
use Rattle.place_core.specs.declared.quotes.Quotes.{Quotes}
use Rattle.place_core.specs.declared.quotes.Quotes.TheVariants as quotes
use Rattle.place_core.specs.declared.value_place.ValuePlace.{ValuePlace}
use Rattle.html_scan.specs.Scans.{InScript, all_scripts, ends_quoted, quoted_error, quoted_places, scan_script_cut_refusal, script_cause, script_fed_byte, script_feeding, script_step_refusal, written_error}
use Rattle.html_step.specs.Steps.{unless_refused_in_script}
use Rattle.html_step.proofs.ScriptPaths.{refusal-none, first-unrefused}
use Rattle.html_step.proofs.ScriptPlaces.{AreBelow, RefusalBelow, cut-below, fed-below, flushed-below}
use Rattle.html_step.proofs.StylePaths.{HasValue, StandsHere, ends-no-equals, first-here, language-here, written-here}

-- an answer that takes the text up to a byte
abbrev pub Reaches : ℕ → Result Place PathRefusal → Type 0
Reaches at (Ok q) = ⊤
Reaches at (Err r) = (at ≤ r.at) ⊎ (at ≤ r.shown)

-- the quotes of a value that has begun on each path
record QuotedAs (p : Quotes) : Type 0 where
  quoting : Quoting
  errors : (n : ScriptScan) (r : Reference) (c : Class) (b : ℕ) → quoted_error script_feeding p n r c b ≡ language_error script_feeding (ends_value quoting c) n r c b
  places : (k : ℕ) (r : Reference) (c : Class) (b : ℕ) → quoted_places p k r c b ≡ fed_places (ends_value quoting c) k r c b

quoted-as : (p : Quotes) → HasValue p → QuotedAs p
quoted-as quotes.Dq h = record { quoting = DoubleQuoted; errors = λ n r c b. refl; places = λ k r c b. refl }
quoted-as quotes.Sq h = record { quoting = SingleQuoted; errors = λ n r c b. refl; places = λ k r c b. refl }
quoted-as (quotes.Bare x) h = record { quoting = Unquoted; errors = λ n r c b. rw h refl; places = λ k r c b. rw h refl }

-- what is refused first stands first
first-some : (o p u : Option PathRefusal) (x : PathRefusal) → first_path_refusal o p ≡ Some x → (p ≡ Some x → u ≡ Some x) → first_path_refusal o u ≡ Some x
first-some None p u x e h = h e
first-some (Some y) p u x e h = e

append-refused : {S : Type 0} (m : ScriptFeeding S) (xs ys : List FedByte) (places : List ℕ) (s : S) (x : PathRefusal)
    → script_fed_refusal m places s xs ≡ Some x → script_fed_refusal m places s (xs ++ ys) ≡ Some x
append-refused m [] ys places s x e = absurd (none_some x e)
append-refused m (y ∷ xs) ys places s x e =
    let later = y.place ∷ places in
    first-some (script_refusal_at later (m.refuses s y.byte)) (script_fed_refusal m later (m.feed s y.byte) xs)
    (script_fed_refusal m later (m.feed s y.byte) (xs ++ ys)) x e (λ h. append-refused m xs ys later (m.feed s y.byte) x h)

-- where nothing of it is refused as a script, nothing is refused
fed-none : (bs : List ℕ) (w x : Bool) (k back : ℕ) (places : List ℕ) (n : ScriptScan) → script_fed_refusal all_scripts places n (placed_bytes w k bs) ≡ None
    → fed_error script_feeding n bs x back ≡ None
fed-none [] w x k back places n h = refl
fed-none (b ∷ bs) w x k back places n h =
    let p = first-unrefused (script_refusal_at (k ∷ places) (script_scan_error false n b))
    (script_fed_refusal all_scripts (k ∷ places) (script_fed_byte n b) (placed_bytes w (if w then k + 1 else k) bs)) h in
    let own = refusal-none (k ∷ places) (script_scan_error false n b) p.0 in
    ap (λ (o : Option Cause). first_cause (cause_back back (option_map (λ (e : Cause). script_code e.refusal) o))
    (fed_error script_feeding (script_fed_byte n b) bs x (if x then back - 1 else back))) own
    ∙ fed-none bs w x (if w then k + 1 else k) (if x then back - 1 else back) (k ∷ places) (script_fed_byte n b) p.1

-- What is refused before the byte at hand is not reached; so what is refused is the other one, at hand.
not-reached : {A : Type 0} (k n : ℕ) (x : PathRefusal) → (x.at < k) × (x.shown < k) → Reaches (k + n) (Err x) → A
not-reached k n x h (inl l) = (let i : x.at < k = h.0 in absurd (omega (arith, i, l)))
not-reached k n x h (inr l) = (let i : x.shown < k = h.1 in absurd (omega (arith, i, l)))

at-hand-by : (k n back : ℕ) → 0 < k → k + n ≤ k - back → back ≡ 0
at-hand-by k n back h l = omega (arith, h, l)

reached-by : (y : Bool) (k n : ℕ) (x : PathRefusal) (e : PathCause) → 0 < k → (x.at < k) × (x.shown < k)
    → Reaches (k + n) (Err (if y then x else record { code = e.code; at = k - e.back; shown = k - e.shown })) → StandsHere (Some e)
reached-by true k n x e z h r = not-reached k n x h r
reached-by false k n x e z h (inl l) = inl (at-hand-by k n e.back z l)
reached-by false k n x e z h (inr l) = inr (at-hand-by k n e.shown z l)

reached : (k n : ℕ) (x : PathRefusal) (o : Option PathCause) → 0 < k → (x.at < k) × (x.shown < k) → Reaches (k + n) (Err (before_cause k x o)) → StandsHere o
reached k n x None z h r = tt
reached k n x (Some e) z h r = reached-by (nat_lt x.at (k - e.back)) k n x e z h r

reaches : (k n : ℕ) (x : Option PathRefusal) (y : PathRefusal) (o : Option PathCause) (r : Result Place PathRefusal) → x ≡ Some y → 0 < k
    → (y.at < k) × (y.shown < k) → Reaches (k + n) (unless_refused_in_script k x o r) → StandsHere o
reaches k n x y o r e z h w = reached k n y o z h (subst (λ (u : Option PathRefusal). Reaches (k + n) (unless_refused_in_script k u o r)) e w)

some-below : (k : ℕ) (o : Option PathRefusal) (x : PathRefusal) → o ≡ Some x → RefusalBelow k o → RefusalBelow k (Some x)
some-below k o x e h = subst (RefusalBelow k) e h

-- so it is the one of the byte, and of the end of the text
refused-first : (ends : Bool) (k : ℕ) (places : List ℕ) (m : ScriptScan) (xs : List FedByte) (y : PathRefusal)
    → script_fed_refusal all_scripts places m xs ≡ Some y → script_places_refusal all_scripts ends k places m xs ≡ Some y
refused-first ends k places m xs y e =
    ap (λ (o : Option PathRefusal). first_path_refusal o
    (script_refusal_at (k ∷ places_with xs places) (at_value_end (value_end_cause all_scripts ends (script_fed all_scripts m xs))))) e

ending-first : (k : ℕ) (places : List ℕ) (m : ScriptScan) (xs : List FedByte) (y : PathRefusal)
    → script_fed_refusal all_scripts places m xs ≡ Some y → script_ending_refusal all_scripts k places m xs ≡ Some y
ending-first k places m xs y e =
    ap (λ (o : Option PathRefusal). first_path_refusal o
    (script_refusal_at (k ∷ places_with xs places) (all_scripts.refuses_cut (script_fed all_scripts m xs)))) e

-- a reference that the byte breaks
broken : (v : ValuePlace) (q : QuotedAs v.quotes) (n : ScriptScan) (f : Form) (bytes : List ℕ) (c : Class) (b : ℕ) → turn c f ≡ Breaks
    → StandsHere (script_cause v n (Open f bytes) c b) → flushed_error script_feeding n (is_equals_sign c) f bytes ≡ None
broken v q n f bytes c b k h =
    language-here script_feeding (ends_value q.quoting c) n f bytes c b k (ends-no-equals q.quoting c)
    (subst StandsHere (q.errors n (Open f bytes) c b) (first-here (quoted_error script_feeding v.quotes n (Open f bytes) c b) (at_hand (value_error v c)) h))

-- the bytes that it is, and the byte behind them
turned-first : (x : Bool) (f : Form) (bytes : List ℕ) (c : Class) (b k : ℕ) (places : List ℕ) (n : ScriptScan) (y : PathRefusal) → turn c f ≡ Breaks
    → (x ≡ true → is_equals_sign c ≡ false)
    → script_fed_refusal all_scripts places n (flushed_places k (is_equals_sign c) f bytes) ≡ Some y
    → script_fed_refusal all_scripts places n (fed_places x k (Open f bytes) c b) ≡ Some y
turned-first true f bytes c b k places n y t g e =
    ap (λ (z : Bool). script_fed_refusal all_scripts places n (flushed_places k z f bytes)) (sym (g refl)) ∙ e
turned-first false f bytes c b k places n y t g e =
    ap (λ (z : ReferenceStep). script_fed_refusal all_scripts places n (turned_places k z f bytes c b)) t
    ∙ append-refused all_scripts (flushed_places k (is_equals_sign c) f bytes) (placed_bytes false k (plain_bytes c b)) places n y e

broken-by : (o : Option PathRefusal) (k n : ℕ) (places : List ℕ) (v : ValuePlace) (q : QuotedAs v.quotes) (m : ScriptScan) (f : Form) (bytes : List ℕ)
    (c : Class) (b : ℕ) (r : Result Place PathRefusal) → turn c f ≡ Breaks → length bytes < k → AreBelow k places
    → script_fed_refusal all_scripts places m (flushed_places k (is_equals_sign c) f bytes) ≡ o
    → Reaches (k + n) (unless_refused_in_script k (script_step_refusal v.quotes k places m (Open f bytes) c b) (script_cause v m (Open f bytes) c b) r)
    → flushed_error script_feeding m (is_equals_sign c) f bytes ≡ None
broken-by None k n places v q m f bytes c b r t l h e w =
    fed-none (flushed true (is_equals_sign c) f bytes) (is_written (is_equals_sign c) f bytes) (is_written (is_equals_sign c) f bytes)
    (k - (length bytes + 1)) (length bytes + 1) places m e
broken-by (Some y) k n places v q m f bytes c b r t l h e w =
    let first = turned-first (ends_value q.quoting c) f bytes c b k places m y t (ends-no-equals q.quoting c) e in
    let there : script_step_refusal v.quotes k places m (Open f bytes) c b ≡ Some y =
    refused-first (ends_quoted v.quotes c) k places m (quoted_places v.quotes k (Open f bytes) c b) y
    (ap (script_fed_refusal all_scripts places m) (q.places k (Open f bytes) c b) ∙ first) in
    broken v q m f bytes c b t
    (reaches k n (script_step_refusal v.quotes k places m (Open f bytes) c b) y (script_cause v m (Open f bytes) c b) r there (omega (arith, l))
    (some-below k (script_fed_refusal all_scripts places m (flushed_places k (is_equals_sign c) f bytes)) y e
    (fed-below all_scripts k (flushed_places k (is_equals_sign c) f bytes) places m h (flushed-below (is_equals_sign c) f bytes k l))) w)

pub script-broken : (k n : ℕ) (places : List ℕ) (v : ValuePlace) (m : ScriptScan) (f : Form) (bytes : List ℕ) (c : Class) (b : ℕ)
    (r : Result Place PathRefusal) → HasValue v.quotes → turn c f ≡ Breaks → length bytes < k → AreBelow k places
    → Reaches (k + n) (unless_refused_in_script k (script_step_refusal v.quotes k places m (Open f bytes) c b) (script_cause v m (Open f bytes) c b) r)
    → flushed_error script_feeding m (is_equals_sign c) f bytes ≡ None
script-broken k n places v m f bytes c b r g t l h w =
    broken-by (script_fed_refusal all_scripts places m (flushed_places k (is_equals_sign c) f bytes)) k n places v (quoted-as v.quotes g) m f bytes c b r t l h
    refl w

-- and the end of the text
end-by : (o : Option PathRefusal) (k n : ℕ) (places : List ℕ) (v : ValuePlace) (m : ScriptScan) (f : Form) (bytes : List ℕ) (r : Result Place PathRefusal)
    → length bytes < k → AreBelow k places → script_fed_refusal all_scripts places m (cut_places k (Open f bytes)) ≡ o
    → Reaches (k + n) (unless_refused_in_script k (scan_script_cut_refusal k places (InScript v m (Open f bytes))) (written_error script_feeding m (38 ∷ bytes)) r)
    → written_error script_feeding m (38 ∷ bytes) ≡ None
end-by None k n places v m f bytes r l h e w =
    fed-none (38 ∷ bytes) true true (k - length (38 ∷ bytes)) (length (38 ∷ bytes)) places m e
end-by (Some y) k n places v m f bytes r l h e w =
    let x = scan_script_cut_refusal k places (InScript v m (Open f bytes)) in
    let there : x ≡ Some y = ending-first k places m (cut_places k (Open f bytes)) y e in
    let here = reaches k n x y (written_error script_feeding m (38 ∷ bytes)) r there (omega (arith, l))
    (some-below k (script_fed_refusal all_scripts places m (cut_places k (Open f bytes))) y e
    (fed-below all_scripts k (cut_places k (Open f bytes)) places m h (cut-below (Open f bytes) k l))) w in
    let most : length (38 ∷ bytes) ≤ length (38 ∷ bytes) = omega arith in
    written-here script_feeding (38 ∷ bytes) (length (38 ∷ bytes)) m most here

pub script-end : (k n : ℕ) (places : List ℕ) (v : ValuePlace) (m : ScriptScan) (f : Form) (bytes : List ℕ) (r : Result Place PathRefusal)
    → length bytes < k → AreBelow k places
    → Reaches (k + n) (unless_refused_in_script k (scan_script_cut_refusal k places (InScript v m (Open f bytes))) (written_error script_feeding m (38 ∷ bytes)) r)
    → written_error script_feeding m (38 ∷ bytes) ≡ None
script-end k n places v m f bytes r l h w =
    end-by (script_fed_refusal all_scripts places m (cut_places k (Open f bytes))) k n places v m f bytes r l h refl w
