-- What a script refuses as any language does: the first of the bytes that it is fed, where that stands.
use Rattle.std.proofs.Common.{◌≡◌, ℕ, suc, ◌+◌, ◌-◌, ◌≤◌, ◌<◌, true, false, List, [], ◌∷◌, ◌++◌, length, refl, ap, ◌∙◌, arith}
use Rattle.std.specs.Prelude.{get_or, Option, Some, None, option_map}
use Rattle.js_lexer.specs.Refusals.{Cause}
use Rattle.js_step.specs.ScriptScans.{ScriptScan, script_scan_error}
use Rattle.js_step.specs.ScriptScanViews.{script_cause_at}
use Rattle.js_step.specs.declared.cause.ScriptCause.{ScriptCause}
use Rattle.place_core.specs.page.Tags.{feed_bytes, script_code}
use Rattle.place_core.specs.place.Errors.{PathCause, cause_back, fed_error, first_cause}
use Rattle.html_scan.specs.Scans.{script_fed_byte, script_feeding}
use Rattle.html_scan.specs.ScriptPlaces.{first_refused, located_cause, refused_or}
use Rattle.html_scan.specs.declared.script_refusals.RefusedByte.{RefusedByte}

-- one list of bytes behind another
abbrev pub or_refused : Option RefusedByte → Option RefusedByte → Option RefusedByte
or_refused (Some x) o = Some x
or_refused None o = o

refused_more : (j : ℕ) (o : Option ScriptCause) (rest last : Option RefusedByte)
    → refused_or j o (or_refused rest last) ≡ or_refused (refused_or j o rest) last
refused_more j None rest last = refl
refused_more j (Some e) rest last = refl

pub first_more : (n : ScriptScan) (j : ℕ) (xs ys : List ℕ)
    → first_refused n j (xs ++ ys) ≡ or_refused (first_refused n j xs) (first_refused (feed_bytes script_feeding n xs) (j + length xs) ys)
first_more n j [] ys = (let same : j ≡ j + 0 = omega arith in ap (λ i. first_refused n i ys) same)
first_more n j (x ∷ xs) ys =
    let index : j + 1 + length xs ≡ j + suc (length xs) = omega arith in
    ap (λ (o : Option RefusedByte). refused_or j (option_map script_cause_at (script_scan_error false n x)) o)
    (first_more (script_fed_byte n x) (j + 1) xs ys
    ∙ ap (λ i. or_refused (first_refused (script_fed_byte n x) (j + 1) xs) (first_refused (feed_bytes script_feeding (script_fed_byte n x) xs) i ys)) index)
    ∙ refused_more j (option_map script_cause_at (script_scan_error false n x)) (first_refused (script_fed_byte n x) (j + 1) xs) _

-- Where each byte stands, by its number.
abbrev pub located : ℕ → (place : ℕ → ℕ) → RefusedByte → PathCause
located k place x = record { code = x.cause.code; back = k - place x.number; shown = k - place x.number }

one_located : (k back j : ℕ) (place : ℕ → ℕ) (o : Option Cause) (other : Option PathCause) (left : Option RefusedByte) → back ≤ k → place j ≡ k - back
    → other ≡ option_map (located k place) left
    → first_cause (cause_back back (option_map (λ e. script_code e.refusal) o)) other ≡ option_map (located k place) (refused_or j (option_map script_cause_at o) left)
one_located k back j place None other left h p e = e
one_located k back j place (Some x) other left h p e =
    let again : k - (k - back) ≡ back = omega (arith, h) in rw (p, again) refl

pub char_located : (k back j : ℕ) (place : ℕ → ℕ) (n : ScriptScan) (xs : List ℕ) → back ≤ k → ((i : ℕ) → i < length xs → place (j + i) ≡ k - back)
    → fed_error script_feeding n xs false back ≡ option_map (located k place) (first_refused n j xs)
char_located k back j place n [] h p = refl
char_located k back j place n (x ∷ xs) h p =
    let here : place j ≡ k - back = (let none : j + 0 ≡ j = omega arith in rw none at (p 0 (omega arith))) in
    let each : (i : ℕ) → i < length xs → place (j + 1 + i) ≡ k - back =
    λ i less. (let next : j + suc i ≡ j + 1 + i = omega arith in rw next at (p (suc i) (omega (arith, less)))) in
    one_located k back j place (script_scan_error false n x) _ (first_refused (script_fed_byte n x) (j + 1) xs) h here
    (char_located k back (j + 1) place (script_fed_byte n x) xs h each)

pub text_located : (k back j : ℕ) (place : ℕ → ℕ) (n : ScriptScan) (xs : List ℕ) → back ≤ k → length xs ≤ back
    → ((i : ℕ) → i < length xs → place (j + i) ≡ k - back + i)
    → fed_error script_feeding n xs true back ≡ option_map (located k place) (first_refused n j xs)
text_located k back j place n [] h long p = refl
text_located k back j place n (x ∷ xs) h long p =
    let here : place j ≡ k - back =
    (let none : j + 0 ≡ j = omega arith in let same : k - back + 0 ≡ k - back = omega arith in rw (none, same) at (p 0 (omega arith))) in
    let each : (i : ℕ) → i < length xs → place (j + 1 + i) ≡ k - (back - 1) + i =
    λ i less.
    (let next : j + suc i ≡ j + 1 + i = omega arith in
    let later : k - back + suc i ≡ k - (back - 1) + i = omega (arith, h, long) in
    rw (next, later) at (p (suc i) (omega (arith, less)))) in
    one_located k back j place (script_scan_error false n x) _ (first_refused (script_fed_byte n x) (j + 1) xs) h here
    (text_located k (back - 1) (j + 1) place (script_fed_byte n x) xs (omega (arith, h)) (omega (arith, long)) each)

pub both_located : (k : ℕ) (place : ℕ → ℕ) (x y : Option RefusedByte)
    → first_cause (option_map (located k place) x) (option_map (located k place) y) ≡ option_map (located k place) (or_refused x y)
both_located k place None y = refl
both_located k place (Some x) y = refl

pub located_by : (k : ℕ) (places : List ℕ) (x : Option RefusedByte) → option_map (located k (λ i. get_or places i k)) x ≡ located_cause k places x
located_by k places None = refl
located_by k places (Some x) = refl
