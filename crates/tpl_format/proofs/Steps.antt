-- How a format is read in pieces: the bytes before a verb, and the verb.
use Rattle.std.proofs.Common.{◌≡◌, ℕ, zero, suc, ◌+◌, ◌<◌, ◌≤◌, Bool, true, false, List, [], ◌∷◌, ◌++◌, length, get_or, drop, drop-cons, Option, Some, None, option_map, Err, refl, sym, ap, ◌∙◌, arith, nat_lt, nat_le, append_assoc, add-one, Bor}
use Rattle.std.proofs.lemmas.Bool.{ne_eqb}
use Rattle.std.proofs.lemmas.Bool.Decides.{nat_tests}
use Rattle.std.proofs.lemmas.List.{length-append}
use Rattle.std.proofs.lemmas.Str.{IsCharBoundary-after_ascii}
use Rattle.std.specs.Str.{IsCharBoundary, IsUtf8}
use Rattle.std.proofs.lemmas.Str.Pattern.{IsSplitOnceResult, split_parts}
use Rattle.page_datum.specs.Data.{Data}
use Rattle.page_datum.specs.declared.datum_ref.DatumRef.{DatumRef}
use Rattle.page_datum.specs.declared.fault.FaultKind.TheVariants.{BadFormat}
use Rattle.tpl_format.specs.Answers.{datas, max_format_text}
use Rattle.tpl_format.specs.Formats.{format_ended, format_followed, formatted_from, verb_step}
use Rattle.tpl_format.specs.Making.{SplitsAtVerb, added, directed, outcome}
use Rattle.tpl_format.specs.Verbs.{bare, read_flag}
use Rattle.tpl_format.specs.declared.directive.Directive.{Directive}
use Rattle.tpl_format.specs.declared.verb.Verb.{Verb}
use Rattle.tpl_format.specs.declared.verb.VerbState.{VerbState}
use Rattle.tpl_format.specs.declared.verb.VerbState.TheVariants.{Bad}

-- either way
pub either : {P : Type 0} (b : Bool) → (b ≡ true → P) → (b ≡ false → P) → P
either true f g = f refl
either false f g = g refl

pub same : (o : Option (List ℕ)) → o ≡ option_map (λ more. [] ++ more) o
same None = refl
same (Some more) = refl

behind_byte : (b : ℕ) (front : List ℕ) (o : Option (List ℕ)) → option_map (λ more. (b ∷ []) ++ more) (option_map (λ more. front ++ more) o) ≡ option_map (λ more. (b ∷ front) ++ more) o
behind_byte b front None = refl
behind_byte b front (Some more) = refl

-- bytes without `%` stand for themselves
pub plain_run : (front behind : List ℕ) (left : List Data) → ((k : ℕ) → k < length front → get_or front k 0 ≡ 37 → ⊥) → formatted_from (front ++ behind) None left ≡ option_map (λ more. front ++ more) (formatted_from behind None left)
plain_run [] behind left h = same (formatted_from behind None left)
plain_run (b ∷ front) behind left h =
    rw (ne_eqb b 37 (h 0 (omega arith)))
    (ap (option_map (λ more. (b ∷ []) ++ more)) (plain_run front behind left (λ k l. h (suc k) (omega (arith, l)))) ∙ behind_byte b front (formatted_from behind None left))

-- and so they do up to the end
pub plain_end : (front : List ℕ) (left : List Data) → ((k : ℕ) → k < length front → get_or front k 0 ≡ 37 → ⊥) → formatted_from front None left ≡ option_map (λ more. front ++ more) (format_ended None left)
plain_end [] left h = same (format_ended None left)
plain_end (b ∷ front) left h =
    rw (ne_eqb b 37 (h 0 (omega arith)))
    (ap (option_map (λ more. (b ∷ []) ++ more)) (plain_end front left (λ k l. h (suc k) (omega (arith, l)))) ∙ behind_byte b front (format_ended None left))

-- the parts round the first `%`
pub splits : (format : List ℕ) (r : Option (Bor (List ℕ) × Bor (List ℕ))) → IsSplitOnceResult 37 format r → SplitsAtVerb format r
splits format None h = λ left. plain_end format left (split_parts 37 format None h (omega arith))
splits format (Some p) h =
    let m = split_parts 37 format (Some p) h (omega arith) in
    λ left. ap (λ (bytes : List ℕ). formatted_from bytes None left) m.0
    ∙ plain_run p.0.now (37 ∷ p.1.now) left m.1
    ∙ ap (option_map (λ more. p.0.now ++ more)) (sym (same (formatted_from p.1.now (Some bare) left)))

-- no verb goes on with a byte past ASCII
past_ascii : (verb : Verb) (b : ℕ) → 128 ≤ b → read_flag verb b ≡ Bad
past_ascii verb b h =
    let digit : nat_le b 57 ≡ false = grind (arith, nat_tests) in
    let high : nat_le 48 b ≡ true = grind (arith, nat_tests) in
    rw (ne_eqb b 45 (λ e. omega (arith, h, e)), ne_eqb b 43 (λ e. omega (arith, h, e)), ne_eqb b 48 (λ e. omega (arith, h, e)), high, digit, ne_eqb b 37 (λ e. omega (arith, h, e)), ne_eqb b 100 (λ e. omega (arith, h, e)), ne_eqb b 120 (λ e. omega (arith, h, e)), ne_eqb b 115 (λ e. omega (arith, h, e)), ne_eqb b 116 (λ e. omega (arith, h, e)), ne_eqb b 118 (λ e. omega (arith, h, e))) refl

pub reads_ascii : (verb : Verb) (b : ℕ) → (read_flag verb b ≡ Bad → ⊥) → b < 128
reads_ascii verb b h = either (nat_lt b 128) (λ t. grind (arith, nat_tests)) (λ f. absurd (h (past_ascii verb b (grind (arith, nat_tests)))))

-- one more byte of a verb
pub reads_on : (text : List ℕ) (at : ℕ) (verb : Verb) (r : VerbState) → at < length text → read_flag verb (get_or text at 0) ≡ r → (left : List Data) → formatted_from (drop at text) (Some verb) left ≡ format_followed (formatted_from (drop (at + 1) text)) (verb_step verb r left)
reads_on text at verb r inside e left =
    ap (λ bytes. formatted_from bytes (Some verb) left) (drop-cons text at 0 inside)
    ∙ ap (λ r. format_followed (formatted_from (drop (suc at) text)) (verb_step verb r left)) e
    ∙ ap (λ n. format_followed (formatted_from (drop n text)) (verb_step verb r left)) (sym (add-one at))

-- a format may be cut after a verb
pub cuts : (text bytes : List ℕ) (verb : Verb) (at : ℕ) (r : VerbState) → bytes ≡ text → IsUtf8 text → at < length bytes → r ≡ read_flag verb (get_or bytes at 0) → (r ≡ Bad → ⊥) → IsCharBoundary text (at + 1)
cuts text bytes verb at r same utf8 inside e some =
    let ascii : get_or bytes at 0 < 128 = reads_ascii verb (get_or bytes at 0) (λ h. some (e ∙ h)) in
    IsCharBoundary-after_ascii text at utf8 (omega (arith, inside, ap length same)) (omega (arith, ascii, ap (λ (xs : List ℕ). get_or xs at 0) same))

-- a text that is too long stays so
stays_long : (out more : List ℕ) → nat_lt max_format_text (length out) ≡ true → nat_lt max_format_text (length (out ++ more)) ≡ true
stays_long out more t = grind (arith, nat_tests, length-append)

-- what is added is no longer to come
pub outcome-added : (out piece : List ℕ) (rest : Option (List ℕ)) → outcome (added out piece) rest ≡ outcome out (option_map (λ more. piece ++ more) rest)
outcome-added out piece None = refl
outcome-added out piece (Some rest) = either (nat_lt max_format_text (length out))
    (λ t. rw (t, stays_long out rest t, stays_long out (piece ++ rest) t) refl)
    (λ f. rw (f, append_assoc out piece rest) refl)

-- the bytes before a verb and what the verb prints are made, and are no longer to come
pub outcome-verb : (out rest plain behind after text : List ℕ) (directive : Directive) (left others : List Data) → formatted_from rest None left ≡ option_map (λ more. plain ++ more) (formatted_from behind (Some bare) left) → formatted_from behind (Some bare) left ≡ format_followed (formatted_from after) (directed directive left) → directed directive left ≡ Some (record { written = text; place = None; left = others }) → outcome (added (added out plain) text) (formatted_from after None others) ≡ outcome out (formatted_from rest None left)
outcome-verb out rest plain behind after text directive left others split read prints =
    outcome-added (added out plain) text (formatted_from after None others)
    ∙ ap (outcome (added out plain)) (sym (read ∙ ap (format_followed (formatted_from after)) prints))
    ∙ outcome-added out plain (formatted_from behind (Some bare) left)
    ∙ ap (outcome out) (sym split)

-- operands that are left over fit no format
pub spare : (out bytes : List ℕ) (operands : List DatumRef) (used : ℕ) → used < length operands → ((left : List Data) → formatted_from bytes None left ≡ option_map (λ more. bytes ++ more) (format_ended None left)) → outcome out (formatted_from bytes None (datas (drop used operands))) ≡ Err BadFormat
spare out bytes [] used inside plain = absurd (omega (arith, inside))
spare out bytes (d ∷ operands) zero inside plain = ap (outcome out) (plain (datas (d ∷ operands)))
spare out bytes (d ∷ operands) (suc used) inside plain = spare out bytes operands used (omega (arith, inside)) plain
