-- What a text feeds a script, byte by byte.
use Rattle.std.proofs.Common.{◌≡◌, ℕ, zero, suc, ◌+◌, ◌-◌, ◌≤◌, ◌<◌, false, List, [], ◌∷◌, ◌++◌, length, take, drop, refl, sym, ap, ◌∙◌, arith}
use Rattle.std.proofs.lemmas.List.{append-nil, append_assoc, length-append, get_or-append_right}
use Rattle.std.specs.Prelude.{get_or}
use Rattle.place_core.specs.page.Classes.{class_of}
use Rattle.place_core.specs.page.References.{Reference, next_reference}
use Rattle.place_core.specs.place.Errors.{FedByte, fed_places}
use Rattle.html_scan.specs.ScriptPlaces.{fed_of, places_fed, reference_behind}
use Rattle.html_scan.specs.Slices.{pending}
use Rattle.html_scan.proofs.FedRuns.{length_places, places_more}
use Rattle.html_scan.proofs.PendingNames.{pending_nothing}

-- the bytes from one on, of those before an index: the first of them, and the others
taken_first : (text : List ℕ) (k n : ℕ) → k < n → n ≤ length text → drop k (take n text) ≡ get_or text k 0 ∷ drop (suc k) (take n text)
taken_first [] k n h i = absurd (omega (arith, h, i))
taken_first (x ∷ text) k zero h i = absurd (omega (arith, h))
taken_first (x ∷ text) zero (suc n) h i = refl
taken_first (x ∷ text) (suc k) (suc n) h i = taken_first text k n (omega (arith, h)) (omega (arith, i))

pub pending_first : (text : List ℕ) (k n : ℕ) → k < n → n ≤ length text → pending text k n ≡ get_or text k 0 ∷ pending text (k + 1) n
pending_first text k n h i = (let next : k + 1 ≡ suc k = omega arith in rw next (taken_first text k n h i))

pub fed_first : (text : List ℕ) (k n : ℕ) (r : Reference) → k < n → n ≤ length text
    → fed_of k r (pending text k n) ≡ fed_places false k r (class_of (get_or text k 0)) (get_or text k 0)
    ++ fed_of (k + 1) (next_reference r (class_of (get_or text k 0)) (get_or text k 0)) (pending text (k + 1) n)
fed_first text k n r h i = rw (pending_first text k n h i) refl

-- one byte more
pub fed_last_byte : (k : ℕ) (r : Reference) (bytes : List ℕ) (b : ℕ)
    → fed_of k r (bytes ++ b ∷ []) ≡ fed_of k r bytes ++ fed_places false (k + length bytes) (reference_behind r bytes) (class_of b) b
fed_last_byte k r [] b = (let same : k + 0 ≡ k = omega arith in rw same (append-nil (fed_places false k r (class_of b) b)))
fed_last_byte k r (x ∷ bytes) b =
    let far : k + 1 + length bytes ≡ k + suc (length bytes) = omega arith in
    let step = fed_places false k r (class_of x) x in
    ap (λ (ys : List FedByte). step ++ ys)
    (fed_last_byte (k + 1) (next_reference r (class_of x) x) bytes b ∙ rw far refl)
    ∙ sym (append_assoc step (fed_of (k + 1) (next_reference r (class_of x) x) bytes) _)

pub behind_last_byte : (r : Reference) (bytes : List ℕ) (b : ℕ) → reference_behind r (bytes ++ b ∷ []) ≡ next_reference (reference_behind r bytes) (class_of b) b
behind_last_byte r [] b = refl
behind_last_byte r (x ∷ bytes) b = behind_last_byte (next_reference r (class_of x) x) bytes b

-- places among those of a byte, and behind them
pub read_first : (xs ys : List ℕ) (i j k : ℕ) → i < length xs → get_or (xs ++ ys) i k ≡ get_or xs i j
read_first [] ys i j k h = absurd (omega (arith, h))
read_first (x ∷ xs) ys zero j k h = refl
read_first (x ∷ xs) ys (suc i) j k h = read_first xs ys i j k (omega (arith, h))

pub read_later : (xs ys : List ℕ) (i k : ℕ) → length xs ≤ i → get_or (xs ++ ys) i k ≡ get_or ys (i - length xs) k
read_later xs ys i k h = get_or-append_right xs ys (length xs) i k refl h

-- A step of the loops over a text: how many bytes are fed, and where the byte of a number stands.
abbrev fed_here : List ℕ → ℕ → Reference → List FedByte
fed_here text k r = fed_places false k r (class_of (get_or text k 0)) (get_or text k 0)

abbrev fed_left : List ℕ → ℕ → ℕ → Reference → List FedByte
fed_left text k n r = fed_of (k + 1) (next_reference r (class_of (get_or text k 0)) (get_or text k 0)) (pending text (k + 1) n)

pub count_step : (text : List ℕ) (k n : ℕ) (r s : Reference) (fed count total : ℕ) (run : List ℕ) → k < n → n ≤ length text
    → run ≡ places_fed (fed_here text k r) → count ≡ length run → s ≡ next_reference r (class_of (get_or text k 0)) (get_or text k 0)
    → fed + length (fed_of k r (pending text k n)) ≡ total → fed + count + length (fed_of (k + 1) s (pending text (k + 1) n)) ≡ total
count_step text k n r s fed count total run h i e c t whole =
    let long : length (fed_of k r (pending text k n)) ≡ length (fed_here text k r) + length (fed_left text k n r) =
    ap length (fed_first text k n r h i) ∙ length-append (fed_here text k r) (fed_left text k n r) in
    let here : count ≡ length (fed_here text k r) = c ∙ ap length e ∙ length_places (fed_here text k r) in
    let same : length (fed_of (k + 1) s (pending text (k + 1) n)) ≡ length (fed_left text k n r) = rw t refl in
    omega (arith, long, here, same, whole)

whole_places : (text : List ℕ) (k n : ℕ) (r : Reference) (current : List ℕ) → k < n → n ≤ length text
    → places_fed (fed_of k r (pending text k n)) ++ current ≡ places_fed (fed_here text k r) ++ (places_fed (fed_left text k n r) ++ current)
whole_places text k n r current h i =
    ap (λ (xs : List FedByte). places_fed xs ++ current) (fed_first text k n r h i)
    ∙ ap (λ (ps : List ℕ). ps ++ current) (places_more (fed_here text k r) (fed_left text k n r))
    ∙ append_assoc (places_fed (fed_here text k r)) (places_fed (fed_left text k n r)) current

pub place_found : (text : List ℕ) (k n left want : ℕ) (r : Reference) (run current : List ℕ) → k < n → n ≤ length text
    → run ≡ places_fed (fed_here text k r) → left < length run
    → get_or (places_fed (fed_of k r (pending text k n)) ++ current) left n ≡ want → get_or run left k ≡ want
place_found text k n left want r run current h i e less whole =
    rw e
    (sym (read_first (places_fed (fed_here text k r)) (places_fed (fed_left text k n r) ++ current) left k n (rw e at less))
    ∙ ap (λ (ps : List ℕ). get_or ps left n) (sym (whole_places text k n r current h i)) ∙ whole)

pub place_later : (text : List ℕ) (k n left want count : ℕ) (r s : Reference) (run current : List ℕ) → k < n → n ≤ length text
    → run ≡ places_fed (fed_here text k r) → count ≡ length run → s ≡ next_reference r (class_of (get_or text k 0)) (get_or text k 0) → count ≤ left
    → get_or (places_fed (fed_of k r (pending text k n)) ++ current) left n ≡ want
    → get_or (places_fed (fed_of (k + 1) s (pending text (k + 1) n)) ++ current) (left - count) n ≡ want
place_later text k n left want count r s run current h i e c t more whole =
    let here : count ≡ length (places_fed (fed_here text k r)) = c ∙ ap length e in
    rw (t, here)
    (sym (read_later (places_fed (fed_here text k r)) (places_fed (fed_left text k n r) ++ current) left n (rw here at more))
    ∙ ap (λ (ps : List ℕ). get_or ps left n) (sym (whole_places text k n r current h i)) ∙ whole)

pub nothing_left : (text : List ℕ) (k : ℕ) (r : Reference) → fed_of k r (pending text k k) ≡ []
nothing_left text k r = rw (pending_nothing text k) refl
