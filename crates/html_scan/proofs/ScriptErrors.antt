-- What a script refuses of the bytes that a byte of a text feeds it.
use Rattle.std.proofs.Common.{◌≡◌, ℕ, suc, ◌+◌, ◌-◌, ◌≤◌, ◌<◌, Bool, true, false, List, [], ◌∷◌, ◌++◌, length, encode_utf8, refl, sym, ap, ◌∙◌, arith, if◌then◌else◌}
use Rattle.std.proofs.lemmas.List.{append-nil, get_or-append_right}
use Rattle.std.proofs.lemmas.Slice.Eq.{bytes_eq-Decides}
use Rattle.std.specs.Prelude.{get_or, Option, Some, None, option_map, ⊤}
use Rattle.js_step.specs.ScriptScans.{ScriptScan}
use Rattle.place_core.specs.page.Classes.{Class, White, QuotationMark, Apostrophe, GreaterThan, is_equals_sign}
use Rattle.place_core.specs.page.Html.{ends_value}
use Rattle.place_core.specs.page.References.{Form, Reference, Closed, Open, ReferenceStep, Grows, Closes, Breaks, turn, meaning, flushed, plain_bytes, as_it_stands}
use Rattle.place_core.specs.page.Tags.{Feeding, feed_bytes, Unquoted}
use Rattle.place_core.specs.place.Errors.{FedByte, PathCause, cut_places, fed_error, fed_places, first_byte_error, first_cause, first_places, flushed_error, is_unknown_name, is_written, language_error, name_error, placed_bytes, turned_error, turned_places}
use Rattle.place_core.specs.declared.quotes.Quotes.{Quotes}
use Rattle.place_core.specs.declared.quotes.Quotes.TheVariants as quotes
use Rattle.html_scan.specs.ScanViews.{open_reference_at, reference_from, script_from}
use Rattle.html_scan.specs.Scans.{quoted_error, quoted_places, script_feeding, written_error}
use Rattle.html_scan.specs.ScriptPlaces.{begins_nothing, bytes_fed, closed_name_error, first_refused, located_cause, name_closes, places_fed, read_between, run_places, stops}
use Rattle.html_scan.specs.declared.references.OpenReference.{OpenReference}
use Rattle.html_scan.specs.declared.script_refusals.RefusedByte.{RefusedByte}
use Rattle.html_scan.proofs.FedRuns.{bytes_more, bytes_placed, places_more, places_run, run_read, run_read_written}
use Rattle.html_scan.proofs.PendingNames.{length_pending}
use Rattle.html_scan.proofs.ScriptCauses.{both_located, char_located, first_more, located, located_by, or_refused, text_located}

-- between quotes, as in a value that has begun
bare_language : {S : Type 0} (m : Feeding S) (x : Bool) (n : S) (r : Reference) (c : Class) (b : ℕ)
    → (if x then language_error m (ends_value Unquoted c) n r c b else first_byte_error m n c b)
    ≡ language_error m (if x then ends_value Unquoted c else begins_nothing c) n (if x then r else Closed) c b
bare_language m true n r c b = refl
bare_language m false n r White b = refl
bare_language m false n r QuotationMark b = refl
bare_language m false n r Apostrophe b = refl
bare_language m false n r GreaterThan b = refl
bare_language m false n r _ b = refl

pub quoted_language : {S : Type 0} (m : Feeding S) (q : Quotes) (n : S) (r : Reference) (c : Class) (b : ℕ)
    → quoted_error m q n r c b ≡ language_error m (stops q c) n (read_between q r) c b
quoted_language m quotes.Dq n r c b = refl
quoted_language m quotes.Sq n r c b = refl
quoted_language m (quotes.Bare x) n r c b = bare_language m x.uq n r c b

bare_fed : (x : Bool) (k : ℕ) (r : Reference) (c : Class) (b : ℕ)
    → (if x then fed_places (ends_value Unquoted c) k r c b else first_places k c b)
    ≡ fed_places (if x then ends_value Unquoted c else begins_nothing c) k (if x then r else Closed) c b
bare_fed true k r c b = refl
bare_fed false k r White b = refl
bare_fed false k r QuotationMark b = refl
bare_fed false k r Apostrophe b = refl
bare_fed false k r GreaterThan b = refl
bare_fed false k r _ b = refl

pub quoted_fed : (q : Quotes) (k : ℕ) (r : Reference) (c : Class) (b : ℕ) → quoted_places q k r c b ≡ fed_places (stops q c) k (read_between q r) c b
quoted_fed quotes.Dq k r c b = refl
quoted_fed quotes.Sq k r c b = refl
quoted_fed (quotes.Bare x) k r c b = bare_fed x.uq k r c b

-- Bytes, the first of which stands `back` bytes before the one at `k`, with others behind.
read_placed : (written : Bool) (k i : ℕ) (from : ℕ) (xs post : List ℕ) → i < length xs
    → get_or (places_fed (placed_bytes written from xs) ++ post) i k ≡ (if written then from + i else from)
read_placed true k i from xs post h = rw (places_run true from xs) (run_read_written from (length xs) i k post h)
read_placed false k i from xs post h = rw (places_run false from xs) (run_read from (length xs) i k post h)

from_zero : (place : ℕ → ℕ) (i p : ℕ) → place i ≡ p → place (0 + i) ≡ p
from_zero place i p h = (let same : 0 + i ≡ i = omega arith in rw same h)

placed_located : (k back : ℕ) (written : Bool) (n : ScriptScan) (xs post : List ℕ) → back ≤ k → (written ≡ true → length xs ≤ back)
    → fed_error script_feeding n xs written back
    ≡ option_map (located k (λ i. get_or (places_fed (placed_bytes written (k - back) xs) ++ post) i k)) (first_refused n 0 xs)
placed_located k back true n xs post h long =
    let place : ℕ → ℕ = λ i. get_or (places_fed (placed_bytes true (k - back) xs) ++ post) i k in
    text_located k back 0 place n xs h (long refl) (λ i less. from_zero place i (k - back + i) (read_placed true k i (k - back) xs post less))
placed_located k back false n xs post h long =
    let place : ℕ → ℕ = λ i. get_or (places_fed (placed_bytes false (k - back) xs) ++ post) i k in
    char_located k back 0 place n xs h (λ i less. from_zero place i (k - back) (read_placed false k i (k - back) xs post less))

read_behind_them : (k i : ℕ) (before xs : List ℕ) → i < length xs → get_or (before ++ run_places false k (length xs)) (length before + i) k ≡ k - 0
read_behind_them k i before xs h =
    let behind : length before + i - length before ≡ i = omega arith in
    let whole : k ≡ k - 0 = omega arith in
    get_or-append_right before (run_places false k (length xs)) (length before) (length before + i) k refl (omega arith)
    ∙ ap (λ j. get_or (run_places false k (length xs)) j k) behind
    ∙ ap (λ (ps : List ℕ). get_or ps i k) (sym (append-nil (run_places false k (length xs))))
    ∙ run_read k (length xs) i k [] h ∙ whole

plain_located : (k j : ℕ) (before : List ℕ) (n : ScriptScan) (xs : List ℕ) → j ≡ length before
    → fed_error script_feeding n xs false 0
    ≡ option_map (located k (λ i. get_or (before ++ places_fed (placed_bytes false k xs)) i k)) (first_refused n j xs)
plain_located k j before n xs e =
    char_located k 0 j _ n xs (omega arith)
    (λ i less. rw (places_run false k xs, e) (read_behind_them k i before xs less))

written_long : (equals : Bool) (f : Form) (read : List ℕ) → is_written equals f read ≡ true → length (flushed true equals f read) ≤ length read + 1
unfolding is_written
written_long equals f read e =
    let same : flushed true equals f read ≡ 38 ∷ read = (bytes_eq-Decides (flushed true equals f read) (38 ∷ read)).0 e in
    let long : length (flushed true equals f read) ≡ suc (length read) = ap length same in omega (arith, long)

lengths_alike : (xs : List FedByte) → length (bytes_fed xs) ≡ length (places_fed xs)
lengths_alike [] = refl
lengths_alike (x ∷ xs) = ap suc (lengths_alike xs)

first_whole : (n : ScriptScan) (xs ys : List ℕ)
    → first_refused n 0 (xs ++ ys) ≡ or_refused (first_refused n 0 xs) (first_refused (feed_bytes script_feeding n xs) (length xs) ys)
first_whole n xs ys =
    let index : 0 + length xs ≡ length xs = omega arith in
    first_more n 0 xs ys ∙ ap (λ i. or_refused (first_refused n 0 xs) (first_refused (feed_bytes script_feeding n xs) i ys)) index

-- By what the byte does to the reference.
abbrev cause_of : ℕ → (places : List FedByte) → ScriptScan → Option PathCause
cause_of k xs n = located_cause k (places_fed xs) (first_refused n 0 (bytes_fed xs))

flushed_located : (k : ℕ) (equals : Bool) (n : ScriptScan) (f : Form) (read : List ℕ) → length read + 1 ≤ k
    → flushed_error script_feeding n equals f read
    ≡ cause_of k (placed_bytes (is_written equals f read) (k - (length read + 1)) (flushed true equals f read)) n
flushed_located k equals n f read h =
    let w = is_written equals f read in let xs = flushed true equals f read in let back = length read + 1 in
    placed_located k back w n xs [] h (written_long equals f read)
    ∙ located_by k (places_fed (placed_bytes w (k - back) xs) ++ []) (first_refused n 0 xs)
    ∙ rw (append-nil (places_fed (placed_bytes w (k - back) xs)), bytes_placed w (k - back) xs) refl

broken_located : (k : ℕ) (n : ScriptScan) (f : Form) (read : List ℕ) (c : Class) (b : ℕ) → length read + 1 ≤ k
    → turned_error script_feeding n Breaks f read c b ≡ cause_of k (turned_places k Breaks f read c b) n
broken_located k n f read c b h =
    let w = is_written (is_equals_sign c) f read in let xs = flushed true (is_equals_sign c) f read in let back = length read + 1 in
    let first = placed_bytes w (k - back) xs in let plain = placed_bytes false k (plain_bytes c b) in
    let place : ℕ → ℕ = λ i. get_or (places_fed first ++ places_fed plain) i k in
    let behind = feed_bytes script_feeding n xs in
    let long : length xs ≡ length (places_fed first) = ap length (sym (bytes_placed w (k - back) xs)) ∙ lengths_alike first in
    let one = placed_located k back w n xs (places_fed plain) h (written_long (is_equals_sign c) f read) in
    let two = plain_located k (length xs) (places_fed first) behind (plain_bytes c b) long in
    rw (one, two)
    (both_located k place (first_refused n 0 xs) (first_refused behind (length xs) (plain_bytes c b))
    ∙ ap (λ (x : Option RefusedByte). option_map (located k place) x) (sym (first_whole n xs (plain_bytes c b)))
    ∙ located_by k (places_fed first ++ places_fed plain) (first_refused n 0 (xs ++ plain_bytes c b))
    ∙ rw (places_more first plain, bytes_more first plain, bytes_placed w (k - back) xs, bytes_placed false k (plain_bytes c b)) refl)

closed_located : (k : ℕ) (n : ScriptScan) (f : Form) (read : List ℕ) (c : Class) (b : ℕ) → length read + 1 ≤ k
    → turned_error script_feeding n Closes f read c b
    ≡ first_cause (name_error (is_unknown_name f read) (length read + 1)) (cause_of k (turned_places k Closes f read c b) n)
closed_located k n f read c b h =
    let xs = encode_utf8 (meaning f read) in let back = length read + 1 in
    ap (λ (o : Option PathCause). first_cause (name_error (is_unknown_name f read) back) o)
    (placed_located k back false n xs [] h (λ e. absurd cc)
    ∙ located_by k (places_fed (placed_bytes false (k - back) xs) ++ []) (first_refused n 0 xs)
    ∙ rw (append-nil (places_fed (placed_bytes false (k - back) xs)), bytes_placed false (k - back) xs) refl)

turned_located : (k : ℕ) (n : ScriptScan) (s : ReferenceStep) (f : Form) (read : List ℕ) (c : Class) (b : ℕ) → length read + 1 ≤ k
    → turned_error script_feeding n s f read c b ≡ first_cause (name_closes s f read) (cause_of k (turned_places k s f read c b) n)
turned_located k n (Grows g) f read c b h = refl
turned_located k n Closes f read c b h = closed_located k n f read c b h
turned_located k n Breaks f read c b h = broken_located k n f read c b h

-- the bytes of the reference that is open have been read
abbrev pub HasRead : ℕ → Reference → Type 0
HasRead k Closed = ⊤
HasRead k (Open f bytes) = length bytes + 1 ≤ k

pub language_located : (k : ℕ) (ends : Bool) (n : ScriptScan) (r : Reference) (c : Class) (b : ℕ) → HasRead k r
    → language_error script_feeding ends n r c b
    ≡ first_cause (closed_name_error ends c r) (located_cause k (places_fed (fed_places ends k r c b)) (first_refused n 0 (bytes_fed (fed_places ends k r c b))))
language_located k true n Closed c b h = refl
language_located k true n (Open f bytes) c b h = flushed_located k false n f bytes h
language_located k false n Closed c b h =
    plain_located k 0 [] n (plain_bytes c b) refl
    ∙ located_by k (places_fed (placed_bytes false k (plain_bytes c b))) (first_refused n 0 (plain_bytes c b))
    ∙ rw (bytes_placed false k (plain_bytes c b)) refl
language_located k false n (Open f bytes) c b h = turned_located k n (turn c f) f bytes c b h

pub cut_located : (k : ℕ) (n : ScriptScan) (r : Reference) → length (as_it_stands r) ≤ k
    → written_error script_feeding n (as_it_stands r) ≡ located_cause k (places_fed (cut_places k r)) (first_refused n 0 (as_it_stands r))
cut_located k n r h =
    let xs = as_it_stands r in
    placed_located k (length xs) true n xs [] h (λ e. omega arith)
    ∙ located_by k (places_fed (placed_bytes true (k - length xs) xs) ++ []) (first_refused n 0 xs)
    ∙ rw (append-nil (places_fed (placed_bytes true (k - length xs) xs))) refl

-- The same where no name is refused, between quotes.
pub quoted_located : (k : ℕ) (q : Quotes) (n : ScriptScan) (r : Reference) (c : Class) (b : ℕ) → HasRead k (read_between q r)
    → None ≡ closed_name_error (stops q c) c (read_between q r)
    → located_cause k (places_fed (fed_places (stops q c) k (read_between q r) c b)) (first_refused n 0 (bytes_fed (fed_places (stops q c) k (read_between q r) c b)))
    ≡ quoted_error script_feeding q n r c b
quoted_located k q n r c b h e =
    let whole = language_located k (stops q c) n (read_between q r) c b h in
    let named = rw (← e) at whole in
    sym named ∙ sym (quoted_language script_feeding q n r c b)

pub from_pending : (count k : ℕ) (o : Option OpenReference) → script_from count o ≤ k → reference_from o ≤ k
from_pending count k None h = omega arith
from_pending count k (Some x) h = omega (arith, h)

pub has_read : (text : List ℕ) (k : ℕ) (o : Option OpenReference) → reference_from o ≤ k → k ≤ length text → HasRead k (open_reference_at text k o)
has_read text k None h i = tt
has_read text k (Some x) h i = (let long = length_pending text (x.from + 1) k i in omega (arith, h, long))

pub stands_within : (text : List ℕ) (k : ℕ) (o : Option OpenReference) → reference_from o ≤ k → k ≤ length text → length (as_it_stands (open_reference_at text k o)) ≤ k
stands_within text k None h i = omega arith
stands_within text k (Some x) h i = (let long = length_pending text (x.from + 1) k i in omega (arith, h, long))

-- Which byte is the first, by what the byte at hand does to the reference.
pub closes_first : (k : ℕ) (n : ScriptScan) (f : Form) (read : List ℕ) (c : Class) (b : ℕ) → Closes ≡ turn c f
    → first_refused n 0 (encode_utf8 (meaning f read)) ≡ first_refused n 0 (bytes_fed (turned_places k (turn c f) f read c b))
closes_first k n f read c b t = rw (← t, bytes_placed false (k - (length read + 1)) (encode_utf8 (meaning f read))) refl

broken_bytes : (k : ℕ) (f : Form) (read : List ℕ) (c : Class) (b : ℕ)
    → bytes_fed (turned_places k Breaks f read c b) ≡ flushed true (is_equals_sign c) f read ++ plain_bytes c b
broken_bytes k f read c b =
    let w = is_written (is_equals_sign c) f read in let xs = flushed true (is_equals_sign c) f read in
    bytes_more (placed_bytes w (k - (length read + 1)) xs) (placed_bytes false k (plain_bytes c b))
    ∙ rw (bytes_placed w (k - (length read + 1)) xs, bytes_placed false k (plain_bytes c b)) refl

broken_first : (k : ℕ) (n : ScriptScan) (f : Form) (read : List ℕ) (c : Class) (b : ℕ) → Breaks ≡ turn c f
    → or_refused (first_refused n 0 (flushed true (is_equals_sign c) f read))
    (first_refused (feed_bytes script_feeding n (flushed true (is_equals_sign c) f read)) (length (flushed true (is_equals_sign c) f read)) (plain_bytes c b))
    ≡ first_refused n 0 (bytes_fed (turned_places k (turn c f) f read c b))
broken_first k n f read c b t =
    sym (first_whole n (flushed true (is_equals_sign c) f read) (plain_bytes c b))
    ∙ ap (λ (xs : List ℕ). first_refused n 0 xs) (sym (broken_bytes k f read c b))
    ∙ ap (λ (s : ReferenceStep). first_refused n 0 (bytes_fed (turned_places k s f read c b))) t

pub breaks_found : (k : ℕ) (n : ScriptScan) (f : Form) (read : List ℕ) (c : Class) (b : ℕ) (x : RefusedByte) → Breaks ≡ turn c f
    → Some x ≡ first_refused n 0 (flushed true (is_equals_sign c) f read) → Some x ≡ first_refused n 0 (bytes_fed (turned_places k (turn c f) f read c b))
breaks_found k n f read c b x t e = rw (← e) at (broken_first k n f read c b t)

pub breaks_behind : (k : ℕ) (n : ScriptScan) (f : Form) (read : List ℕ) (c : Class) (b : ℕ) (o : Option RefusedByte) → Breaks ≡ turn c f
    → None ≡ first_refused n 0 (flushed true (is_equals_sign c) f read)
    → o ≡ first_refused (feed_bytes script_feeding n (flushed true (is_equals_sign c) f read)) (length (flushed true (is_equals_sign c) f read)) (plain_bytes c b)
    → o ≡ first_refused n 0 (bytes_fed (turned_places k (turn c f) f read c b))
breaks_behind k n f read c b o t e p = p ∙ (rw (← e) at (broken_first k n f read c b t))

pub ends_first : (k : ℕ) (n : ScriptScan) (f : Form) (read : List ℕ) (c : Class) (b : ℕ)
    → first_refused n 0 (flushed true false f read) ≡ first_refused n 0 (bytes_fed (fed_places true k (Open f read) c b))
ends_first k n f read c b = rw (bytes_placed (is_written false f read) (k - (length read + 1)) (flushed true false f read)) refl
