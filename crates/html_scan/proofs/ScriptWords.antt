-- The bytes that are pending back in a token of a script, with the one at hand: one of the words that are text there, or the beginning of one.
use Rattle.std.proofs.Common.{◌≡◌, ℕ, ◌+◌, ◌-◌, ◌≤◌, ◌<◌, Bool, true, false, cond, List, [], ◌∷◌, ◌++◌, codes, length, nat_lt, nat_eq, refl, ap, subst, arith}
use Rattle.std.specs.Prelude.{◌==◌, ◌||◌, ◌&&◌, get_or}
use Rattle.std.proofs.lemmas.Bool.Decides.{nat_tests}
use Rattle.std.specs.Char.{to_ascii_lowercase}
use Rattle.std.specs.List.{starts_with}
use Rattle.std.specs.Str.{str_eq_ignore_ascii_case, str_to_ascii_lowercase}
use Rattle.js_lexer.specs.Elements.{in_lower_case}
use Rattle.js_lexer.specs.Written.{begins_hidden, is_hidden_in_script}
use Rattle.place_core.specs.page.Contents.{in_word}
use Rattle.html_scan.specs.ScanViews.{pending_length}
use Rattle.html_scan.specs.ScriptStepViews.{judged_word}
use Rattle.html_scan.specs.declared.script_pending.ScriptPending.{ScriptPending}
use Rattle.html_scan.specs.declared.script_pending.ScriptPending.TheVariants as back
use Rattle.html_scan.specs.Slices.{pending}
use Rattle.html_scan.proofs.PendingNames.{pending_grows}

lower_alike : (bytes : List ℕ) → in_lower_case bytes ≡ str_to_ascii_lowercase bytes
lower_alike [] = refl
lower_alike (b ∷ bs) = ap (λ (cs : List ℕ). to_ascii_lowercase b ∷ cs) (lower_alike bs)

-- no letter becomes a byte before the letters
lower_by : (s t : Bool) (b x : ℕ) → nat_lt b 65 ≡ s → nat_lt b 91 ≡ t → x < 65 → nat_eq (cond s b (cond t (b + 32) b)) x ≡ nat_eq b x
lower_by true t b x h i j = refl
lower_by false false b x h i j = refl
lower_by false true b x h i j = grind (arith, nat_tests)

lower_mark : (b x : ℕ) → x < 65 → nat_eq (to_ascii_lowercase b) x ≡ nat_eq b x
lower_mark b x h = lower_by (nat_lt b 65) (nat_lt b 91) b x refl refl h

-- after `<`, and after `</`
pub word_after_less : (bytes : List ℕ) → is_hidden_in_script (60 ∷ bytes)
    ≡ (str_eq_ignore_ascii_case bytes (codes "script")
    || (str_eq_ignore_ascii_case bytes (codes "/script") || (str_eq_ignore_ascii_case bytes (codes "!--") || false)))
word_after_less bytes = rw (lower_alike bytes) refl

pub begun_after_less : (bytes : List ℕ) → begins_hidden (60 ∷ bytes)
    ≡ (starts_with nat_eq (codes "script") (str_to_ascii_lowercase bytes)
    || (starts_with nat_eq (codes "/script") (str_to_ascii_lowercase bytes) || (starts_with nat_eq (codes "!--") (str_to_ascii_lowercase bytes) || false)))
begun_after_less bytes = rw (lower_alike bytes) refl

or_nothing : (x : Bool) → (x || false) ≡ x
or_nothing true = refl
or_nothing false = refl

pub word_after_solidus : (bytes : List ℕ) → is_hidden_in_script (60 ∷ 47 ∷ bytes) ≡ str_eq_ignore_ascii_case bytes (codes "script")
word_after_solidus bytes = rw (lower_alike bytes) (or_nothing (str_eq_ignore_ascii_case bytes (codes "script")))

pub begun_after_solidus : (bytes : List ℕ) → begins_hidden (60 ∷ 47 ∷ bytes) ≡ starts_with nat_eq (codes "script") (str_to_ascii_lowercase bytes)
begun_after_solidus bytes = rw (lower_alike bytes) (or_nothing (starts_with nat_eq (codes "script") (str_to_ascii_lowercase bytes)))

pub judged_in : (bytes : List ℕ) (is begins : Bool) → is ≡ is_hidden_in_script bytes → begins ≡ begins_hidden bytes → judged_word is begins ≡ in_word bytes
unfolding in_word
judged_in bytes is begins e h = rw (e, h) refl

-- where nothing is pending, after `<!` and after `<!-`
is_less : (x y : Bool) → x ≡ y
    → judged_word ((x && false) || ((x && false) || ((x && false) || false))) ((x && true) || ((x && true) || ((x && true) || false))) ≡ judged_word false y
is_less true y e = ap (judged_word false) e
is_less false y e = ap (judged_word false) e

pub word_alone : (b : ℕ) → in_word (b ∷ []) ≡ judged_word false (b == 60)
unfolding in_word
word_alone b = is_less (nat_eq (to_ascii_lowercase b) 60) (b == 60) (lower_mark b 60 (omega arith))

is_bang : (x y : Bool) → x ≡ y → judged_word ((x && false) || false) ((x && true) || false) ≡ judged_word false y
is_bang true y e = ap (judged_word false) e
is_bang false y e = ap (judged_word false) e

pub word_after_bang : (b : ℕ) → in_word (codes "<!" ++ b ∷ []) ≡ judged_word false (b == 45)
unfolding in_word
word_after_bang b = is_bang (nat_eq (to_ascii_lowercase b) 45) (b == 45) (lower_mark b 45 (omega arith))

is_dash : (x y : Bool) → x ≡ y → judged_word ((x && true) || false) ((x && true) || false) ≡ judged_word y false
is_dash true y e = rw (← e) refl
is_dash false y e = rw (← e) refl

pub word_after_dash : (b : ℕ) → in_word (codes "<!-" ++ b ∷ []) ≡ judged_word (b == 45) false
unfolding in_word
word_after_dash b = is_dash (nat_eq (to_ascii_lowercase b) 45) (b == 45) (lower_mark b 45 (omega arith))

-- the letters that are pending, with the byte at hand
pub letters_grow : (text : List ℕ) (letters k : ℕ) → letters ≤ k → k < length text
    → pending text (k - letters) (k + 1) ≡ pending text (k - letters) k ++ get_or text k 0 ∷ []
letters_grow text letters k h i = pending_grows text (k - letters) k (omega arith) i

pub letters_longer : (text : List ℕ) (letters k : ℕ) → letters ≤ k → k < length text
    → pending text (k + 1 - (letters + 1)) (k + 1) ≡ pending text (k - letters) k ++ get_or text k 0 ∷ []
letters_longer text letters k h i =
    let from : k + 1 - (letters + 1) ≡ k - letters = omega arith in
    rw from (letters_grow text letters k h i)

pub name_inside : (p : ScriptPending) (letters k : ℕ) → p ≡ back.Name letters → pending_length p ≤ k → letters ≤ k
name_inside p letters k e h =
    let inside : letters + 2 ≤ k = subst (λ (q : ScriptPending). pending_length q ≤ k) e h in omega (arith, inside)

pub opening_inside : (p : ScriptPending) (letters k : ℕ) → p ≡ back.Opening letters → pending_length p ≤ k → letters ≤ k
opening_inside p letters k e h =
    let inside : letters + 1 ≤ k = subst (λ (q : ScriptPending). pending_length q ≤ k) e h in omega (arith, inside)
