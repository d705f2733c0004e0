-- Where what is refused of a script stands in the text: not behind the byte at hand.
use Rattle.std.proofs.Common.{◌≡◌, ◌<◌, ◌≤◌, ℕ, ◌+◌, ◌-◌, zero, suc, Bool, true, false, List, [], ◌∷◌, ◌++◌, length, Option, Some, None, encode_utf8, refl, ap, arith}
use Rattle.js_lexer.specs.Refusals.{Cause}
use Rattle.place_core.specs.page.Classes.{Class, White, QuotationMark, Apostrophe, GreaterThan, is_equals_sign}
use Rattle.place_core.specs.page.References.{Form, Reference, Closed, Open, ReferenceStep, Grows, Closes, Breaks, flushed, meaning, plain_bytes, turn}
use Rattle.place_core.specs.place.Errors.{FedByte, PathRefusal, ScriptFeeding, at_value_end, cut_places, fed_places, first_path_refusal, first_places, flushed_places, is_written, place_back, placed_bytes, places_with, script_ending_refusal, script_fed, script_fed_refusal, script_places_refusal, script_refusal_at, turned_places, value_end_cause}
use Rattle.html_step.proofs.StylePaths.{written-is}

-- places before a byte
abbrev pub AreBelow : ℕ → List ℕ → Type 0
AreBelow k [] = Unit {0}
AreBelow k (p ∷ ps) = (p < k) × AreBelow k ps

abbrev pub FedBelow : ℕ → List FedByte → Type 0
FedBelow k [] = Unit {0}
FedBelow k (x ∷ xs) = (x.place < k) × FedBelow k xs

abbrev pub RefusalBelow : ℕ → Option PathRefusal → Type 0
RefusalBelow k None = Unit {0}
RefusalBelow k (Some x) = (x.at < k) × (x.shown < k)

-- the `&` of a reference stands before the byte
abbrev pub ReferenceBelow : ℕ → Reference → Type 0
ReferenceBelow k Closed = Unit {0}
ReferenceBelow k (Open f bytes) = length bytes < k

back-below : (n k p : ℕ) (ps : List ℕ) → AreBelow k (p ∷ ps) → place_back n (p ∷ ps) < k
back-below n k p [] h = h.0
back-below zero k p (q ∷ ps) h = h.0
back-below (suc n) k p (q ∷ ps) h = back-below n k q ps h.1

at-below : (k p : ℕ) (ps : List ℕ) (o : Option Cause) → AreBelow k (p ∷ ps) → RefusalBelow k (script_refusal_at (p ∷ ps) o)
at-below k p ps None h = tt
at-below k p ps (Some e) h = (back-below e.back k p ps h, back-below e.shown k p ps h)

first-below : (k : ℕ) (o p : Option PathRefusal) → RefusalBelow k o → RefusalBelow k p → RefusalBelow k (first_path_refusal o p)
first-below k None p h i = i
first-below k (Some x) p h i = h

pub fed-below : {S : Type 0} (m : ScriptFeeding S) (k : ℕ) (xs : List FedByte) (places : List ℕ) (s : S) → AreBelow k places → FedBelow k xs
    → RefusalBelow k (script_fed_refusal m places s xs)
fed-below m k [] places s h i = tt
fed-below m k (x ∷ xs) places s h i =
    first-below k (script_refusal_at (x.place ∷ places) (m.refuses s x.byte)) (script_fed_refusal m (x.place ∷ places) (m.feed s x.byte) xs)
    (at-below k x.place places (m.refuses s x.byte) (i.0, h)) (fed-below m k xs (x.place ∷ places) (m.feed s x.byte) (i.0, h) i.1)

pub with-below : (k : ℕ) (xs : List FedByte) (places : List ℕ) → AreBelow k places → FedBelow k xs → AreBelow k (places_with xs places)
with-below k [] places h i = h
with-below k (x ∷ xs) places h i = with-below k xs (x.place ∷ places) (i.0, h) i.1

pub more-below : (k : ℕ) (places : List ℕ) → AreBelow k places → AreBelow (k + 1) places
more-below k [] h = tt
more-below k (p ∷ ps) h = (let l : p < k = h.0 in omega (arith, l), more-below k ps h.1)

more-fed : (k : ℕ) (xs : List FedByte) → FedBelow k xs → FedBelow (k + 1) xs
more-fed k [] h = tt
more-fed k (x ∷ xs) h = (let l : x.place < k = h.0 in omega (arith, l), more-fed k xs h.1)

here-below : (k : ℕ) (xs : List FedByte) (places : List ℕ) → AreBelow k places → FedBelow (k + 1) xs → AreBelow (k + 1) (k ∷ places_with xs places)
here-below k xs places h i = (omega arith, with-below (k + 1) xs places (more-below k places h) i)

pub places-below : {S : Type 0} (m : ScriptFeeding S) (ends : Bool) (k : ℕ) (places : List ℕ) (s : S) (xs : List FedByte) → AreBelow k places
    → FedBelow (k + 1) xs → RefusalBelow (k + 1) (script_places_refusal m ends k places s xs)
places-below m ends k places s xs h i =
    let o = at_value_end (value_end_cause m ends (script_fed m s xs)) in
    first-below (k + 1) (script_fed_refusal m places s xs) (script_refusal_at (k ∷ places_with xs places) o)
    (fed-below m (k + 1) xs places s (more-below k places h) i) (at-below (k + 1) k (places_with xs places) o (here-below k xs places h i))

pub ending-below : {S : Type 0} (m : ScriptFeeding S) (k : ℕ) (places : List ℕ) (s : S) (xs : List FedByte) → AreBelow k places
    → FedBelow (k + 1) xs → RefusalBelow (k + 1) (script_ending_refusal m k places s xs)
ending-below m k places s xs h i =
    let o = m.refuses_cut (script_fed m s xs) in
    first-below (k + 1) (script_fed_refusal m places s xs) (script_refusal_at (k ∷ places_with xs places) o)
    (fed-below m (k + 1) xs places s (more-below k places h) i) (at-below (k + 1) k (places_with xs places) o (here-below k xs places h i))

-- the bytes that a byte of the text feeds
flat-below : (bs : List ℕ) (j k : ℕ) → j < k → FedBelow k (placed_bytes false j bs)
flat-below [] j k h = tt
flat-below (b ∷ bs) j k h = (h, flat-below bs j k h)

written-below : (bs : List ℕ) (j k : ℕ) → j + length bs ≤ k → FedBelow k (placed_bytes true j bs)
written-below [] j k h = tt
written-below (b ∷ bs) j k h =
    let l : j + length (b ∷ bs) ≤ k = h in (omega (arith, l), written-below bs (j + 1) k (omega (arith, l)))

flushed-by : (x equals : Bool) (f : Form) (bytes : List ℕ) (k : ℕ) → is_written equals f bytes ≡ x → length bytes < k
    → FedBelow k (placed_bytes x (k - (length bytes + 1)) (flushed true equals f bytes))
flushed-by true equals f bytes k e h =
    let l : length (flushed true equals f bytes) ≡ length (38 ∷ bytes) = ap length (written-is equals f bytes e) in
    written-below (flushed true equals f bytes) (k - (length bytes + 1)) k (omega (arith, l, h))
flushed-by false equals f bytes k e h = flat-below (flushed true equals f bytes) (k - (length bytes + 1)) k (omega (arith, h))

pub flushed-below : (equals : Bool) (f : Form) (bytes : List ℕ) (k : ℕ) → length bytes < k → FedBelow k (flushed_places k equals f bytes)
flushed-below equals f bytes k h = flushed-by (is_written equals f bytes) equals f bytes k refl h

append-below : (k : ℕ) (xs ys : List FedByte) → FedBelow k xs → FedBelow k ys → FedBelow k (xs ++ ys)
append-below k [] ys h i = i
append-below k (x ∷ xs) ys h i = (h.0, append-below k xs ys h.1 i)

at-hand-below : (k : ℕ) (bs : List ℕ) → FedBelow (k + 1) (placed_bytes false k bs)
at-hand-below k bs = flat-below bs k (k + 1) (omega arith)

turned-below : (z : ReferenceStep) (f : Form) (bytes : List ℕ) (c : Class) (b k : ℕ) → length bytes < k → FedBelow (k + 1) (turned_places k z f bytes c b)
turned-below (Grows g) f bytes c b k h = tt
turned-below Closes f bytes c b k h = flat-below (encode_utf8 (meaning f bytes)) (k - (length bytes + 1)) (k + 1) (omega (arith, h))
turned-below Breaks f bytes c b k h =
    append-below (k + 1) (flushed_places k (is_equals_sign c) f bytes) (placed_bytes false k (plain_bytes c b))
    (more-fed k (flushed_places k (is_equals_sign c) f bytes) (flushed-below (is_equals_sign c) f bytes k h)) (at-hand-below k (plain_bytes c b))

pub bytes-below : (ends : Bool) (r : Reference) (c : Class) (b k : ℕ) → ReferenceBelow k r → FedBelow (k + 1) (fed_places ends k r c b)
bytes-below true Closed c b k h = tt
bytes-below true (Open f bytes) c b k h = more-fed k (flushed_places k false f bytes) (flushed-below false f bytes k h)
bytes-below false Closed c b k h = at-hand-below k (plain_bytes c b)
bytes-below false (Open f bytes) c b k h = turned-below (turn c f) f bytes c b k h

pub first-places-below : (c : Class) (b k : ℕ) → FedBelow (k + 1) (first_places k c b)
first-places-below White b k = tt
first-places-below QuotationMark b k = tt
first-places-below Apostrophe b k = tt
first-places-below GreaterThan b k = tt
first-places-below c b k = at-hand-below k (plain_bytes c b)

pub cut-below : (r : Reference) (k : ℕ) → ReferenceBelow k r → FedBelow k (cut_places k r)
cut-below Closed k h = tt
cut-below (Open f bytes) k h = written-below (38 ∷ bytes) (k - length (38 ∷ bytes)) k (omega (arith, h))
