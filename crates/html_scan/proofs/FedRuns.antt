-- What a byte feeds a script, as to where it stands.
use Rattle.std.proofs.Common.{◌≡◌, ℕ, zero, suc, ◌+◌, ◌-◌, ◌/◌, ◌≤◌, ◌<◌, Bool, true, false, List, [], ◌∷◌, ◌++◌, length, bytes_eq, encode_utf8, refl, sym, ap, ◌∙◌, arith, inl, inr, if◌then◌else◌}
use Rattle.std.proofs.lemmas.Bool.{cases_lt, lt-ltb, le-ltb}
use Rattle.std.proofs.lemmas.List.{append-nil, length-append, get_or-append_right}
use Rattle.std.proofs.lemmas.Slice.Eq.{bytes_eq-Decides}
use Rattle.std.specs.Prelude.{get_or}
use Rattle.place_core.specs.page.Classes.{Class, is_equals_sign}
use Rattle.place_core.specs.page.References.{Form, Closed, Open, Grows, Closes, Breaks, turn, meaning, flushed, plain_bytes, Reference, begin_reference, next_reference}
use Rattle.place_core.specs.place.Errors.{FedByte, cut_places, placed_bytes, fed_places, is_written}
use Rattle.html_scan.specs.ClassViews.{class_at}
use Rattle.html_scan.specs.ScriptPlaces.{run_places, itself_places, fed_at, flushed_run, places_fed, bytes_fed}
use Rattle.html_scan.specs.Slices.{pending}
use Rattle.html_scan.specs.declared.class.Class.{Class as ReadClass}
use Rattle.html_scan.specs.declared.class.Class.TheVariants as read
use Rattle.html_scan.specs.declared.fed_run.FedRun.{FedRun}
use Rattle.html_scan.proofs.PendingNames.{pending_grows}
use Rattle.html_scan.proofs.UrlsFed.{not-ampersand}

pub places_run : (written : Bool) (k : ℕ) (bs : List ℕ) → places_fed (placed_bytes written k bs) ≡ run_places written k (length bs)
places_run written k [] = refl
places_run written k (b ∷ bs) = ap (λ (ps : List ℕ). k ∷ ps) (places_run written (if written then k + 1 else k) bs)

pub bytes_placed : (written : Bool) (k : ℕ) (bs : List ℕ) → bytes_fed (placed_bytes written k bs) ≡ bs
bytes_placed written k [] = refl
bytes_placed written k (b ∷ bs) = ap (λ (cs : List ℕ). b ∷ cs) (bytes_placed written (if written then k + 1 else k) bs)

pub places_more : (xs ys : List FedByte) → places_fed (xs ++ ys) ≡ places_fed xs ++ places_fed ys
places_more [] ys = refl
places_more (x ∷ xs) ys = ap (λ (ps : List ℕ). x.place ∷ ps) (places_more xs ys)

pub bytes_more : (xs ys : List FedByte) → bytes_fed (xs ++ ys) ≡ bytes_fed xs ++ bytes_fed ys
bytes_more [] ys = refl
bytes_more (x ∷ xs) ys = ap (λ (cs : List ℕ). x.byte ∷ cs) (bytes_more xs ys)

pub length_places : (xs : List FedByte) → length (places_fed xs) ≡ length xs
length_places [] = refl
length_places (x ∷ xs) = ap suc (length_places xs)

pub length_run : (written : Bool) (k n : ℕ) → length (run_places written k n) ≡ n
length_run written k zero = refl
length_run written k (suc n) = ap suc (length_run written (if written then k + 1 else k) n)

length_itself : (itself : Bool) (k : ℕ) → length (itself_places itself k) ≡ (if itself then 1 else 0)
length_itself true k = refl
length_itself false k = refl

pub length_fed : (x : FedRun) (k : ℕ) → length (fed_at x k) ≡ x.count + (if x.itself then 1 else 0)
length_fed x k =
    length-append (run_places x.written x.from x.count) (itself_places x.itself k)
    ∙ rw (length_run x.written x.from x.count, length_itself x.itself k) refl

-- a byte that is fed itself
pub plain_itself : (c : ReadClass) (k b : ℕ) → (c ≡ read.Ampersand → ⊥) → itself_places true k ≡ places_fed (placed_bytes false k (plain_bytes (class_at c) b))
plain_itself read.Ampersand k b h = absurd (h refl)
plain_itself _ k b h = refl

-- A reference that is fed as a character: whether its bytes are the reference as it is written does not matter.
char_run : (code : ℕ) (read : List ℕ) (from : ℕ)
    → run_places (bytes_eq (encode_utf8 code) (38 ∷ read)) from (length (encode_utf8 code)) ≡ run_places false from (length (encode_utf8 code))
unfolding lib.Utf8.encode
char_run code read from = elim (cases_lt code 128) [
  | inl small ↦ rw (lt-ltb code 128 small) refl
  | inr h ↦ elim (cases_lt code 2048) [
    | inl two ↦ rw (le-ltb code 128 h, lt-ltb code 2048 two) (rw (not-ampersand (192 + code / 64) _ read (omega arith)) refl)
    | inr k ↦ elim (cases_lt code 65536) [
      | inl three ↦ rw (le-ltb code 128 h, le-ltb code 2048 k, lt-ltb code 65536 three) (rw (not-ampersand (224 + code / 4096) _ read (omega arith)) refl)
      | inr l ↦ rw (le-ltb code 128 h, le-ltb code 2048 k, le-ltb code 65536 l) (rw (not-ampersand (240 + code / 262144) _ read (omega arith)) refl)
    ]
  ]
]

pub char_flushed : (from : ℕ) (equals : Bool) (f : Form) (read : List ℕ) (code : ℕ) → flushed true equals f read ≡ encode_utf8 code
    → run_places false from (length (encode_utf8 code)) ≡ flushed_run from equals f read
unfolding is_written
char_flushed from equals f read code e = rw e (sym (char_run code read from))

pub written_flushed : (from n : ℕ) (equals : Bool) (f : Form) (read : List ℕ) → flushed true equals f read ≡ 38 ∷ read → n ≡ length read + 1
    → run_places true from n ≡ flushed_run from equals f read
unfolding is_written
written_flushed from n equals f read e long =
    let same : n ≡ length (38 ∷ read) = omega (arith, long) in
    rw (e, same) (ap (λ (w : Bool). run_places w from (length (38 ∷ read))) (sym ((bytes_eq-Decides (38 ∷ read) (38 ∷ read)).1 refl)))

-- By what the byte does to the reference.
from_back : (k from n : ℕ) → from + 1 + n ≡ k → k - (n + 1) ≡ from
from_back k from n e = omega (arith, e)

flushed_placed : (k from : ℕ) (equals : Bool) (f : Form) (read : List ℕ) → from + 1 + length read ≡ k
    → places_fed (placed_bytes (is_written equals f read) (k - (length read + 1)) (flushed true equals f read)) ≡ flushed_run from equals f read
flushed_placed k from equals f read e = rw (from_back k from (length read) e) (places_run (is_written equals f read) from (flushed true equals f read))

pub ended_places : (k from : ℕ) (f : Form) (read : List ℕ) (c : Class) (b : ℕ) → from + 1 + length read ≡ k
    → flushed_run from false f read ++ [] ≡ places_fed (fed_places true k (Open f read) c b)
ended_places k from f read c b e = append-nil (flushed_run from false f read) ∙ sym (flushed_placed k from false f read e)

pub grown_places : (k : ℕ) (f g : Form) (read : List ℕ) (c : Class) (b : ℕ) → Grows g ≡ turn c f
    → [] ≡ places_fed (fed_places false k (Open f read) c b)
grown_places k f g read c b e = rw (← e) refl

pub closed_places : (k from : ℕ) (f : Form) (read : List ℕ) (c : Class) (b : ℕ) → Closes ≡ turn c f → from + 1 + length read ≡ k
    → run_places false from (length (encode_utf8 (meaning f read))) ++ [] ≡ places_fed (fed_places false k (Open f read) c b)
closed_places k from f read c b t e =
    rw (← t, from_back k from (length read) e)
    (append-nil (run_places false from (length (encode_utf8 (meaning f read)))) ∙ sym (places_run false from (encode_utf8 (meaning f read))))

pub broken_places : (k from : ℕ) (f : Form) (read : List ℕ) (c : Class) (b : ℕ) (itself : List ℕ) → Breaks ≡ turn c f → from + 1 + length read ≡ k
    → itself ≡ places_fed (placed_bytes false k (plain_bytes c b))
    → flushed_run from (is_equals_sign c) f read ++ itself ≡ places_fed (fed_places false k (Open f read) c b)
broken_places k from f read c b itself t e same =
    rw (← t, same, ← flushed_placed k from (is_equals_sign c) f read e)
    (sym (places_more (placed_bytes (is_written (is_equals_sign c) f read) (k - (length read + 1)) (flushed true (is_equals_sign c) f read)) (placed_bytes false k (plain_bytes c b))))

-- the reference that is open behind the byte
pub grown_behind : (text read : List ℕ) (from k b : ℕ) (f g : Form) (c : Class) → from ≤ k → k < length text → b ≡ get_or text k 0 → read ≡ pending text from k
    → Grows g ≡ turn c f → Open g (pending text from (k + 1)) ≡ next_reference (Open f read) c b
grown_behind text read from k b f g c h i here same t =
    let longer : pending text from (k + 1) ≡ read ++ b ∷ [] = rw (same, here) (pending_grows text from k h i) in
    rw (longer, ← t) refl

pub closed_behind : (f : Form) (read : List ℕ) (c : Class) (b : ℕ) → Closes ≡ turn c f → Closed ≡ next_reference (Open f read) c b
closed_behind f read c b t = rw (← t) refl

pub broken_behind : (r : Reference) (f : Form) (read : List ℕ) (c : Class) (b : ℕ) → Breaks ≡ turn c f → r ≡ begin_reference c
    → r ≡ next_reference (Open f read) c b
broken_behind r f read c b t e = rw (e, ← t) refl

-- the places of a run
pub run_read : (from n i k : ℕ) (rest : List ℕ) → i < n → get_or (run_places false from n ++ rest) i k ≡ from
run_read from (suc n) zero k rest h = refl
run_read from (suc n) (suc i) k rest h = run_read from n i k rest (omega (arith, h))
run_read from zero i k rest h = absurd (omega (arith, h))

pub run_read_written : (from n i k : ℕ) (rest : List ℕ) → i < n → get_or (run_places true from n ++ rest) i k ≡ from + i
run_read_written from (suc n) zero k rest h = omega arith
run_read_written from (suc n) (suc i) k rest h =
    (let next : from + 1 + i ≡ from + suc i = omega arith in run_read_written (from + 1) n i k rest (omega (arith, h)) ∙ next)
run_read_written from zero i k rest h = absurd (omega (arith, h))

itself_read : (itself : Bool) (i k : ℕ) → k ≡ get_or (itself_places itself k) i k
itself_read true zero k = refl
itself_read true (suc i) k = refl
itself_read false i k = refl

pub past_read : (x : FedRun) (k number : ℕ) → x.count ≤ number → k ≡ get_or (fed_at x k) number k
past_read x k number h =
    itself_read x.itself (number - x.count) k
    ∙ sym (get_or-append_right (run_places x.written x.from x.count) (itself_places x.itself k) x.count number k (length_run x.written x.from x.count) h)

pub written_read : (x : FedRun) (k number : ℕ) → x.written ≡ true → number < x.count → x.from + number ≡ get_or (fed_at x k) number k
written_read x k number e h = rw e (sym (run_read_written x.from x.count number k (itself_places x.itself k) h))

pub char_read : (x : FedRun) (k number : ℕ) → x.written ≡ false → number < x.count → x.from ≡ get_or (fed_at x k) number k
char_read x k number e h = rw e (sym (run_read x.from x.count number k (itself_places x.itself k) h))

one_at_most : (itself : Bool) (k : ℕ) → length (itself_places itself k) ≤ 1
one_at_most true k = omega arith
one_at_most false k = omega arith

pub fed_most : (x : FedRun) (k : ℕ) → length (fed_at x k) ≤ x.count + 1
fed_most x k =
    omega (arith, length-append (run_places x.written x.from x.count) (itself_places x.itself k), length_run x.written x.from x.count, one_at_most x.itself k)

-- each byte of a reference with which a text ends
pub cut_placed : (k from count : ℕ) (f : Form) (bytes : List ℕ) → from + 1 + length bytes ≡ k → count ≡ k - from
    → run_places true from count ++ [] ≡ places_fed (cut_places k (Open f bytes))
cut_placed k from count f bytes e n =
    let first : k - suc (length bytes) ≡ from = omega (arith, e) in
    let long : count ≡ suc (length bytes) = omega (arith, e, n) in
    append-nil (run_places true from count) ∙ rw (long, first) (sym (places_run true from (38 ∷ bytes)))
