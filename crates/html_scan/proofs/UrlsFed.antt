-- What a byte makes of a URL, by what it does to the reference that is open; and what is refused of the bytes that the URL is fed.
use Rattle.std.proofs.Common.{◌≡◌, ℕ, ◌+◌, ◌==◌, ◌≤◌, ◌/◌, ◌<◌, Bool, true, false, List, [], ◌∷◌, ◌++◌, length, bytes_eq, encode_utf8, refl, sym, ap, ◌∙◌, arith, inl, inr}
use Rattle.std.proofs.lemmas.Bool.{cases_lt, lt-ltb, le-ltb}
use Rattle.std.proofs.lemmas.Bool.Decides.{nat_tests}
use Rattle.std.specs.Prelude.{get_or}
use Rattle.std.proofs.lemmas.Slice.Eq.{bytes_eq-Decides}
use Rattle.place_core.specs.page.Classes.{Class, is_equals_sign}
use Rattle.place_core.specs.page.References.{Form, Closed, Open, Grows, Closes, Breaks, turn, meaning, flushed, plain_bytes}
use Rattle.place_core.specs.page.Tags.{Feeding, feed_bytes}
use Rattle.place_core.specs.place.Errors.{fed_error, flushed_error, is_written}
use Rattle.place_core.specs.declared.body.Body.TheVariants as body
use Rattle.place_core.specs.declared.parts.Parts.{Parts}
use Rattle.place_core.specs.declared.quotes.Quotes.{Quotes}
use Rattle.place_core.specs.declared.value_place.ValuePlace.{ValuePlace}
use Rattle.url_lexer.specs.Classes.{url_class_of}
use Rattle.url_lexer.specs.Triples.{Triple, next_triple}
use Rattle.html_scan.specs.Scans.{parts_feeding, triple_behind, url_scan, with_parts, value_fed}
use Rattle.html_scan.specs.Slices.{pending}
use Rattle.html_scan.proofs.PendingNames.{pending_grows}

pub feed_more : {S : Type 0} (m : Feeding S) (s : S) (xs ys : List ℕ) → feed_bytes m s (xs ++ ys) ≡ feed_bytes m (feed_bytes m s xs) ys
feed_more m s [] ys = refl
feed_more m s (x ∷ xs) ys = feed_more m (m.feed s x) xs ys

triple_more : (t : Triple) (xs ys : List ℕ) → triple_behind t (xs ++ ys) ≡ triple_behind (triple_behind t xs) ys
triple_more t [] ys = refl
triple_more t (x ∷ xs) ys = triple_more (next_triple t (url_class_of x)) xs ys

fed_grows : (v : ValuePlace) (q : Quotes) (s : Parts) (t : Triple) (f g : Form) (read : List ℕ) (c : Class) (b : ℕ) → turn c f ≡ Grows g
    → url_scan (with_parts v q s) t (Open g (read ++ b ∷ [])) ≡ value_fed v q (body.Url s) t (Open f read) c b
fed_grows v q s t f g read c b e = rw e refl

pub fed_goes_on : (v : ValuePlace) (q : Quotes) (s : Parts) (t : Triple) (f g : Form) (text read : List ℕ) (from k b : ℕ) (c : Class) → from ≤ k
    → k < length text → b ≡ get_or text k 0 → read ≡ pending text from k → Grows g ≡ turn c f
    → url_scan (with_parts v q s) t (Open g (pending text from (k + 1))) ≡ value_fed v q (body.Url s) t (Open f read) c b
fed_goes_on v q s t f g text read from k b c h i here same e =
    let longer : pending text from (k + 1) ≡ read ++ b ∷ [] = rw (same, here) (pending_grows text from k h i) in
    ap (λ (bytes : List ℕ). url_scan (with_parts v q s) t (Open g bytes)) longer ∙ fed_grows v q s t f g read c b (sym e)

pub fed_closes : (v : ValuePlace) (q : Quotes) (s w : Parts) (t u : Triple) (f : Form) (read : List ℕ) (c : Class) (b : ℕ) → turn c f ≡ Closes
    → w ≡ feed_bytes parts_feeding s (encode_utf8 (meaning f read)) → u ≡ triple_behind t (encode_utf8 (meaning f read))
    → url_scan (with_parts v q w) u Closed ≡ value_fed v q (body.Url s) t (Open f read) c b
fed_closes v q s w t u f read c b e x y = rw (e, x, y) refl

pub fed_breaks : (v : ValuePlace) (q : Quotes) (s w : Parts) (t u : Triple) (f : Form) (read : List ℕ) (c : Class) (b : ℕ) (equals : Bool)
    → Breaks ≡ turn c f → equals ≡ is_equals_sign c
    → w ≡ feed_bytes parts_feeding s (flushed true equals f read) → u ≡ triple_behind t (flushed true equals f read)
    → value_fed v q (body.Url w) u Closed c b ≡ value_fed v q (body.Url s) t (Open f read) c b
fed_breaks v q s w t u f read c b equals e n x y =
    rw (← e, x, y, n)
    (let bytes = flushed true (is_equals_sign c) f read in let more = plain_bytes c b in rw (← feed_more parts_feeding s bytes more, ← triple_more t bytes more) refl)

-- A byte past ASCII is no ampersand.
pub not-ampersand : (b : ℕ) (bs read : List ℕ) → 128 ≤ b → bytes_eq (b ∷ bs) (38 ∷ read) ≡ false
not-ampersand b bs read h = (let other : (b == 38) ≡ false = grind (arith, nat_tests) in rw other refl)

-- The bytes of a character all stand where it begins: whether they are the reference as it is written does not matter then.
char-refused : {S : Type 0} (m : Feeding S) (s : S) (code : ℕ) (read : List ℕ) (back : ℕ)
    → fed_error m s (encode_utf8 code) (bytes_eq (encode_utf8 code) (38 ∷ read)) back ≡ fed_error m s (encode_utf8 code) false back
unfolding lib.Utf8.encode
char-refused m s code read back = elim (cases_lt code 128) [
  | inl small ↦ rw (lt-ltb code 128 small) refl
  | inr h ↦ elim (cases_lt code 2048) [
    | inl two ↦ rw (le-ltb code 128 h, lt-ltb code 2048 two) (rw (not-ampersand (192 + code / 64) _ read (omega arith)) refl)
    | inr k ↦ elim (cases_lt code 65536) [
      | inl three ↦ rw (le-ltb code 128 h, le-ltb code 2048 k, lt-ltb code 65536 three) (rw (not-ampersand (224 + code / 4096) _ read (omega arith)) refl)
      | inr l ↦ rw (le-ltb code 128 h, le-ltb code 2048 k, le-ltb code 65536 l) (rw (not-ampersand (240 + code / 262144) _ read (omega arith)) refl)
    ]
  ]
]

pub flushed_char : {S : Type 0} (m : Feeding S) (s : S) (equals : Bool) (f : Form) (read : List ℕ) (code : ℕ) → flushed true equals f read ≡ encode_utf8 code
    → fed_error m s (encode_utf8 code) false (length read + 1) ≡ flushed_error m s equals f read
unfolding is_written
flushed_char m s equals f read code e = rw e (sym (char-refused m s code read (length read + 1)))

pub flushed_written : {S : Type 0} (m : Feeding S) (s : S) (equals : Bool) (f : Form) (read : List ℕ) → flushed true equals f read ≡ 38 ∷ read
    → fed_error m s (38 ∷ read) true (length read + 1) ≡ flushed_error m s equals f read
unfolding is_written
flushed_written m s equals f read e = rw (e, (bytes_eq-Decides (38 ∷ read) (38 ∷ read)).1 refl) refl
