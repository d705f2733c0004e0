-- A token stays open over what is written of a text, where it does so over what each row writes and over each byte that no row is of.
use Rattle.std.proofs.Common.{◌≡◌, ◌||◌, ◌&&◌, ◌==◌, ℕ, zero, suc, Bool, true, false, not, arith, nat_le, List, [], ◌∷◌, ◌++◌, if◌then◌else◌, refl, sym, subst, ◌∙◌}
use Rattle.std.proofs.lemmas.Bool.Decides.{nat_tests}
use Rattle.std.specs.Bool.{⊤}
use Rattle.std.specs.Char.{is_ascii_alphabetic, is_ascii_digit}
use Rattle.js_lexer.specs.Classes.{is_space, is_line_terminator, class_of, script_opens}
use Rattle.js_lexer.specs.Events.{ScriptEvent}
use Rattle.js_lexer.specs.Feeding.{feed_script, script_emits, ScriptReading, script_reading, read_on}
use Rattle.js_lexer.specs.Holes.{IsBetweenEscapes}
use Rattle.js_lexer.specs.Plain.{only_bytes}
use Rattle.js_lexer.specs.Sanitizers.{Rows, script_stands_at, escaped_at, taken_at, escaped_from}
use Rattle.js_lexer.specs.States.{At, PartLines, Trail, ScriptState}
use Rattle.js_lexer.specs.declared.class.ScriptClass.{ScriptClass}
use Rattle.js_lexer.specs.declared.class.ScriptClass.TheVariants as class

-- in no template literal, with nothing held back
abbrev pub open_at : At → Trail → ScriptState
open_at a t = record { literals = []; at = a; held = []; trail = t }

-- between escapes
abbrev pub between_escapes : Bool → List ℕ → ℕ → ℕ → PartLines → Trail
between_escapes f m k l z = record { fresh = f; markup = m; escape = []; brace = 0; bracket = k; literal = l; lines = z }

pub between : (P : Trail → Type 0) → ((f : Bool) (m : List ℕ) (k l : ℕ) (z : PartLines) → P (between_escapes f m k l z)) → (t : Trail) → IsBetweenEscapes t → P t
between P h t is =
    subst (λ (e : List ℕ). P (record { fresh = t.fresh; markup = t.markup; escape = e; brace = t.brace; bracket = t.bracket; literal = t.literal; lines = t.lines })) (sym is.none)
    (subst (λ (n : ℕ). P (record { fresh = t.fresh; markup = t.markup; escape = []; brace = n; bracket = t.bracket; literal = t.literal; lines = t.lines })) (sym is.closed)
    (h t.fresh t.markup t.bracket t.literal t.lines))

-- a reading that stands there, and has told bytes alone
pub record IsWithin (a : At) (r : ScriptReading) : Type 0 where
  pub fresh : Bool
  pub markup : List ℕ
  pub bracket : ℕ
  pub literal : ℕ
  pub lines : PartLines
  pub stands : r.state ≡ open_at a (between_escapes fresh markup bracket literal lines)
  pub told : only_bytes r.told ≡ true

pub within : (a : At) (r : ScriptReading) → r.state ≡ open_at a (between_escapes r.state.trail.fresh r.state.trail.markup r.state.trail.bracket r.state.trail.literal r.state.trail.lines)
    → only_bytes r.told ≡ true → IsWithin a r
within a r e h = record { fresh = r.state.trail.fresh; markup = r.state.trail.markup; bracket = r.state.trail.bracket; literal = r.state.trail.literal; lines = r.state.trail.lines; stands = e; told = h }

-- bytes that lead from there to there
abbrev pub Stays : At → List ℕ → Type 0
Stays a bytes =
    (f : Bool) (m : List ℕ) (k l : ℕ) (z : PartLines) (t : List ScriptEvent) → only_bytes t ≡ true → IsWithin a (read_on bytes (script_reading (open_at a (between_escapes f m k l z)) t))

-- it holds of what each row writes
abbrev pub EachWritten : (List ℕ → Type 0) → Rows → Type 0
EachWritten P [] = ⊤
EachWritten P (row ∷ rows) = P row.1 × EachWritten P rows

pub no-true : false ≡ true → ⊥
no-true e = cc

pub never : (x : Bool) → x ≡ false → x ≡ true → ⊥
never x e h = no-true (sym e ∙ h)

-- A byte that ends no line, nor the token: in a string it is no quote; in a regular expression (true) no slash, it opens no `[ ]`, and is no `*`, which
-- right behind the slash would begin a comment.
abbrev pub is_fine : ScriptClass → Bool → Bool
is_fine class.LineEnd r = false
is_fine class.QuotationMark r = r
is_fine class.Apostrophe r = r
is_fine class.Solidus r = not r
is_fine class.Asterisk r = not r
is_fine class.OpenBracket r = not r
is_fine c r = true

fine-if : (r x : Bool) (c d : ScriptClass) → (x ≡ true → is_fine c r ≡ true) → is_fine d r ≡ true → is_fine (if x then c else d) r ≡ true
fine-if r true c d h k = h refl
fine-if r false c d h k = k

no-both : (r x : Bool) (c : ScriptClass) → x ≡ false → x ≡ true → is_fine c r ≡ true
no-both r x c e h = absurd (never x e h)

no-either : (x y : Bool) → x ≡ false → y ≡ false → x || y ≡ false
no-either x y e f = rw e f

pub byte-fine : (r : Bool) (b : ℕ) → b == 10 ≡ false → b == 13 ≡ false → (b == 34 ≡ true → r ≡ true) → (b == 39 ≡ true → r ≡ true)
    → (b == 47 ≡ true → not r ≡ true) → (b == 42 ≡ true → not r ≡ true) → (b == 91 ≡ true → not r ≡ true) → is_fine (class_of b) r ≡ true
unfolding class_of
byte-fine r b line return double quote slash star bracket =
    let fine-22 = fine-if r (script_opens b) class.Opens class.Closes (λ h. refl) refl in
    let class-22 : ScriptClass = if script_opens b then class.Opens else class.Closes in
    let fine-21 = fine-if r (b == 46) class.Dot class-22 (λ h. refl) fine-22 in
    let class-21 : ScriptClass = if b == 46 then class.Dot else class-22 in
    let fine-20 = fine-if r (b == 93) class.CloseBracket class-21 (λ h. refl) fine-21 in
    let class-20 : ScriptClass = if b == 93 then class.CloseBracket else class-21 in
    let fine-19 = fine-if r (b == 91) class.OpenBracket class-20 bracket fine-20 in
    let class-19 : ScriptClass = if b == 91 then class.OpenBracket else class-20 in
    let fine-18 = fine-if r (b == 125) class.CloseBrace class-19 (λ h. refl) fine-19 in
    let class-18 : ScriptClass = if b == 125 then class.CloseBrace else class-19 in
    let fine-17 = fine-if r (b == 123) class.OpenBrace class-18 (λ h. refl) fine-18 in
    let class-17 : ScriptClass = if b == 123 then class.OpenBrace else class-18 in
    let fine-16 = fine-if r (b == 33) class.ExclamationMark class-17 (λ h. refl) fine-17 in
    let class-16 : ScriptClass = if b == 33 then class.ExclamationMark else class-17 in
    let fine-15 = fine-if r (b == 35) class.NumberSign class-16 (λ h. refl) fine-16 in
    let class-15 : ScriptClass = if b == 35 then class.NumberSign else class-16 in
    let fine-14 = fine-if r (b == 62) class.GreaterThan class-15 (λ h. refl) fine-15 in
    let class-14 : ScriptClass = if b == 62 then class.GreaterThan else class-15 in
    let fine-13 = fine-if r (b == 60) class.LessThan class-14 (λ h. refl) fine-14 in
    let class-13 : ScriptClass = if b == 60 then class.LessThan else class-14 in
    let fine-12 = fine-if r (b == 45) class.Minus class-13 (λ h. refl) fine-13 in
    let class-12 : ScriptClass = if b == 45 then class.Minus else class-13 in
    let fine-11 = fine-if r (b == 43) class.Plus class-12 (λ h. refl) fine-12 in
    let class-11 : ScriptClass = if b == 43 then class.Plus else class-12 in
    let fine-10 = fine-if r (b == 42) class.Asterisk class-11 star fine-11 in
    let class-10 : ScriptClass = if b == 42 then class.Asterisk else class-11 in
    let fine-9 = fine-if r (b == 47) class.Solidus class-10 slash fine-10 in
    let class-9 : ScriptClass = if b == 47 then class.Solidus else class-10 in
    let fine-8 = fine-if r (b == 96) class.GraveAccent class-9 (λ h. refl) fine-9 in
    let class-8 : ScriptClass = if b == 96 then class.GraveAccent else class-9 in
    let fine-7 = fine-if r (b == 39) class.Apostrophe class-8 quote fine-8 in
    let class-7 : ScriptClass = if b == 39 then class.Apostrophe else class-8 in
    let fine-6 = fine-if r (b == 34) class.QuotationMark class-7 double fine-7 in
    let class-6 : ScriptClass = if b == 34 then class.QuotationMark else class-7 in
    let fine-5 = fine-if r (b == 92) class.Backslash class-6 (λ h. refl) fine-6 in
    let class-5 : ScriptClass = if b == 92 then class.Backslash else class-6 in
    let fine-4 = fine-if r (b == 36) class.Dollar class-5 (λ h. refl) fine-5 in
    let class-4 : ScriptClass = if b == 36 then class.Dollar else class-5 in
    let fine-3 = fine-if r (is_ascii_alphabetic b || (b == 95 || nat_le 128 b)) class.Letter class-4 (λ h. refl) fine-4 in
    let class-3 : ScriptClass = if is_ascii_alphabetic b || (b == 95 || nat_le 128 b) then class.Letter else class-4 in
    let fine-2 = fine-if r (is_ascii_digit b) class.Digit class-3 (λ h. refl) fine-3 in
    let class-2 : ScriptClass = if is_ascii_digit b then class.Digit else class-3 in
    let fine-1 = fine-if r (is_line_terminator b) class.LineEnd class-2 (no-both r (is_line_terminator b) class.LineEnd (no-either (b == 10) (b == 13) line return)) fine-2 in
    let class-1 : ScriptClass = if is_line_terminator b then class.LineEnd else class-2 in
    fine-if r (is_space b) class.Space class-1 (λ h. refl) fine-1

-- no row is of what stands there
abbrev pub leaves : Rows → List ℕ → Bool
leaves [] bytes = true
leaves (row ∷ rows) bytes = not (script_stands_at row.0 bytes) && leaves rows bytes

either : (P : List ℕ → Type 0) (x : Bool) (v w : List ℕ) → P v → (x ≡ false → P w) → P (if x then v else w)
either P true v w one other = one
either P false v w one other = other refl

left-by : (x y : Bool) → x ≡ false → y ≡ true → not x && y ≡ true
left-by x y e h = rw e h

pub written-at : (P : List ℕ → Type 0) (rows : Rows) (b : ℕ) (bs : List ℕ) → EachWritten P rows → (leaves rows (b ∷ bs) ≡ true → P (b ∷ [])) → P (escaped_at rows (b ∷ bs))
written-at P [] b bs each h = h refl
written-at P (row ∷ rows) b bs each h =
    either P (script_stands_at row.0 (b ∷ bs)) row.1 (escaped_at rows (b ∷ bs)) each.0
    (λ e. written-at P rows b bs each.1 (λ k. h (left-by (script_stands_at row.0 (b ∷ bs)) (leaves rows (b ∷ bs)) e k)))

pub apart-from : (rows : Rows) (n : ℕ) → ((bs : List ℕ) → leaves rows (n ∷ bs) ≡ false) → (b : ℕ) (bs : List ℕ) → leaves rows (b ∷ bs) ≡ true → (x : Bool) → b == n ≡ x → x ≡ false
apart-from rows n none b bs h true e =
    let same : b ≡ n = grind (arith, nat_tests) in
    absurd (no-true (sym (none bs) ∙ subst (λ (c : ℕ). leaves rows (c ∷ bs) ≡ true) same h))
apart-from rows n none b bs h false e = refl

pub read-append : (xs ys : List ℕ) (r : ScriptReading) → read_on (xs ++ ys) r ≡ read_on ys (read_on xs r)
read-append [] ys r = refl
read-append (x ∷ xs) ys r = read-append xs ys (script_reading (feed_script r.state x) (script_emits r.state x r.told))

append-stays : (a : At) (xs ys : List ℕ) → Stays a xs → Stays a ys → Stays a (xs ++ ys)
append-stays a xs ys one other f m k l z t h =
    let from = script_reading (open_at a (between_escapes f m k l z)) t in
    let is = one f m k l z t h in
    let there = other is.fresh is.markup is.bracket is.literal is.lines (read_on xs from).told is.told in
    subst (IsWithin a) (sym (read-append xs ys from))
    (subst (λ (s : ScriptState). IsWithin a (read_on ys (script_reading s (read_on xs from).told))) (sym is.stands) there)

pub escaped-stays : (a : At) (rows : Rows) → EachWritten (Stays a) rows → ((b : ℕ) (bs : List ℕ) → leaves rows (b ∷ bs) ≡ true → Stays a (b ∷ [])) → (n : ℕ) (bs : List ℕ)
    → Stays a (escaped_from rows n bs)
escaped-stays a rows each other zero [] f m k l z t h = within a (script_reading (open_at a (between_escapes f m k l z)) t) refl h
escaped-stays a rows each other (suc n) [] f m k l z t h = within a (script_reading (open_at a (between_escapes f m k l z)) t) refl h
escaped-stays a rows each other (suc n) (b ∷ bs) f m k l z t h = escaped-stays a rows each other n bs f m k l z t h
escaped-stays a rows each other zero (b ∷ bs) f m k l z t h =
    append-stays a (escaped_at rows (b ∷ bs)) (escaped_from rows (taken_at rows (b ∷ bs)) bs)
    (written-at (Stays a) rows b bs each (other b bs)) (escaped-stays a rows each other (taken_at rows (b ∷ bs)) bs) f m k l z t h
