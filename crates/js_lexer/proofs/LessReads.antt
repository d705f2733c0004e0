-- What is written of a word in the text of a token, whose `<` HTML would read, leads a page where the word leads the path.
use Rattle.std.proofs.Common.{◌≡◌, ℕ, zero, suc, ◌==◌, ◌&&◌, not, if◌then◌else◌, Bool, true, false, bytes_eq, codes, List, [], ◌∷◌, ◌++◌, refl, sym, ap, ◌∙◌, subst, true≢false, eqb-true}
use Rattle.std.proofs.lemmas.Bool.{and_left, and_right, or_from}
use Rattle.std.specs.Char.{is_ascii_digit, is_ascii_hexdigit}
use Rattle.std.specs.List.{list_all}
use Rattle.js_lexer.specs.Alike.{is_open_brace}
use Rattle.js_lexer.specs.Classes.{class_of}
use Rattle.js_lexer.specs.Events.{ScriptEvent}
use Rattle.js_lexer.specs.Feeding.{feed_script, script_emits}
use Rattle.js_lexer.specs.PageScripts.{page_script, told_inside, read_in_page}
use Rattle.js_lexer.specs.States.{NoEscape, AfterBackslash, AfterX, AfterX3, AfterCarriageReturn, At, Code, Word, Number, Pluses, Minuses, Slash, LineComment, BlockComment, InString, InRegexp, InTemplate, TooDeep, Trail, ScriptState}
use Rattle.js_lexer.specs.Trails.{is_empty, is_unfinished, is_unfinished_after, next_brace, next_unfinished}
use Rattle.js_lexer.specs.Written.{is_text, is_taken_at}
use Rattle.js_lexer.specs.declared.sense.Sense.TheVariants as sense
use Rattle.js_lexer.proofs.CommentBlanks.{SameInPage}

-- The escape that is open: neither a `<` nor `\x3C` goes on with one.
dull-hex : (bs : List ℕ) (b : ℕ) → is_ascii_hexdigit b ≡ false → list_all is_ascii_hexdigit (bs ++ b ∷ []) ≡ false
dull-hex [] b e = and_left (is_ascii_hexdigit b) true e
dull-hex (c ∷ bs) b e = and_right (is_ascii_hexdigit c) _ (dull-hex bs b e)

dull-digit : (bs : List ℕ) (b : ℕ) → is_ascii_digit b ≡ false → list_all is_ascii_digit (bs ++ b ∷ []) ≡ false
dull-digit [] b e = and_left (is_ascii_digit b) true e
dull-digit (c ∷ bs) b e = and_right (is_ascii_digit c) _ (dull-digit bs b e)

not-empty : (bs : List ℕ) (b : ℕ) → is_empty (bs ++ b ∷ []) ≡ false
not-empty [] b = refl
not-empty (c ∷ bs) b = refl

-- of the bytes behind the backslash, behind one of which such a byte stands
dull-after : (r : Bool) (c : ℕ) (bs : List ℕ) (b : ℕ) → is_ascii_hexdigit b ≡ false → is_ascii_digit b ≡ false → is_unfinished_after r (c ∷ (bs ++ b ∷ [])) ≡ false
dull-after r c bs b e f =
    or_from _ _ (and_right (c == 120) _ (and_left (list_all is_ascii_hexdigit (bs ++ b ∷ [])) _ (dull-hex bs b e)))
    (or_from _ _ (and_right (c == 117) _ (and_left (list_all is_ascii_hexdigit (bs ++ b ∷ [])) _ (dull-hex bs b e)))
    (or_from _ _ (and_right (is_ascii_digit c) _ (and_left (list_all is_ascii_digit (bs ++ b ∷ [])) _ (dull-digit bs b f)))
    (and_left (is_empty (bs ++ b ∷ [])) _ (not-empty bs b))))

less-alone : (r : Bool) → is_unfinished_after r (60 ∷ []) ≡ false
less-alone true = refl
less-alone false = refl

backslash-alone : (r : Bool) → is_unfinished_after r (92 ∷ []) ≡ false
backslash-alone true = refl
backslash-alone false = refl

less-finishes : (r : Bool) (m : List ℕ) → is_unfinished r (m ++ 60 ∷ []) ≡ false
less-finishes r [] = refl
less-finishes r (c ∷ []) = and_right (c == 92) _ (less-alone r)
less-finishes r (c ∷ d ∷ m) = and_right (c == 92) _ (dull-after r d m 60 refl refl)

backslash-finishes : (r : Bool) (c : ℕ) (m : List ℕ) → is_unfinished r (c ∷ (m ++ 92 ∷ [])) ≡ false
backslash-finishes r c [] = and_right (c == 92) _ (backslash-alone r)
backslash-finishes r c (d ∷ m) = and_right (c == 92) _ (dull-after r d m 92 refl refl)

less-none : (r : Bool) (m : List ℕ) → next_unfinished r m 60 ≡ []
less-none r m = rw (less-finishes r m) refl

abbrev behind_x : Bool → List ℕ → List ℕ
behind_x r m = next_unfinished r (next_unfinished r m 51) 67

spelled-none : (r : Bool) → behind_x r (next_unfinished r (codes "\\") 120) ≡ []
spelled-none true = refl
spelled-none false = refl

letters-none : (r : Bool) → behind_x r (next_unfinished r [] 120) ≡ []
letters-none true = refl
letters-none false = refl

none-by : (r x : Bool) → behind_x r (next_unfinished r (if x then codes "\\" else []) 120) ≡ []
none-by r true = spelled-none r
none-by r false = letters-none r

backslash-none : (r : Bool) (m : List ℕ) → behind_x r (next_unfinished r (next_unfinished r m 92) 120) ≡ []
backslash-none true [] = refl
backslash-none false [] = refl
backslash-none r (c ∷ m) =
    ap (λ (x : Bool). behind_x r (next_unfinished r (if x then (c ∷ m) ++ 92 ∷ [] else (if not (bytes_eq (c ∷ m) (codes "\\")) then codes "\\" else [])) 120)) (backslash-finishes r c m)
    ∙ none-by r (not (bytes_eq (c ∷ m) (codes "\\")))

less-escape : (r : Bool) (m : List ℕ) → behind_x r (next_unfinished r (next_unfinished r m 92) 120) ≡ next_unfinished r m 60
less-escape r m = backslash-none r m ∙ sym (less-none r m)

-- behind a backslash that is written already
x-by : (r x : Bool) (c : ℕ) → (c == 92) ≡ x → behind_x r (if (x && true) then c ∷ 120 ∷ [] else []) ≡ []
x-by true true c e = rw (eqb-true c 92 e) refl
x-by false true c e = rw (eqb-true c 92 e) refl
x-by true false c e = refl
x-by false false c e = refl

nothing-none : (r : Bool) → behind_x r [] ≡ []
nothing-none true = refl
nothing-none false = refl

x-none : (r : Bool) (m : List ℕ) → behind_x r (next_unfinished r m 120) ≡ []
x-none true [] = refl
x-none false [] = refl
x-none r (c ∷ []) = x-by r (c == 92) c refl
x-none r (c ∷ d ∷ m) =
    ap (λ (x : Bool). behind_x r (if x then (c ∷ d ∷ m) ++ 120 ∷ [] else [])) (and_right (c == 92) _ (dull-after r d m 120 refl refl))
    ∙ nothing-none r

taken-escape : (r : Bool) (m : List ℕ) → behind_x r (next_unfinished r m 120) ≡ next_unfinished r m 60
taken-escape r m = x-none r m ∙ sym (less-none r m)

-- A `\u{` stays open over them, and none begins.
none-opens : (m : List ℕ) (b : ℕ) → (b == 123) ≡ false → next_brace m zero b ≡ 0
none-opens m b e = rw (and_right (bytes_eq m (codes "\\u")) (b == 123) e) refl

still-none : (m : List ℕ) (b n : ℕ) → (b == 123) ≡ false → n ≡ 0 → next_brace m n b ≡ 0
still-none m b n e f = subst (λ (k : ℕ). next_brace m k b ≡ 0) (sym f) (none-opens m b e)

less-brace : (m k l j : List ℕ) (n : ℕ) → is_open_brace (next_brace j (next_brace l (next_brace k (next_brace m n 92) 120) 51) 67) ≡ is_open_brace (next_brace m n 60)
less-brace m k l j zero =
    ap is_open_brace (still-none j 67 _ refl (still-none l 51 _ refl (still-none k 120 _ refl (none-opens m 92 refl))))
    ∙ sym (ap is_open_brace (none-opens m 60 refl))
less-brace m k l j (suc n) = refl

taken-brace : (m l j : List ℕ) (n : ℕ) → is_open_brace (next_brace j (next_brace l (next_brace m n 120) 51) 67) ≡ is_open_brace (next_brace m n 60)
taken-brace m l j zero =
    ap is_open_brace (still-none j 67 _ refl (still-none l 51 _ refl (none-opens m 120 refl)))
    ∙ sym (ap is_open_brace (none-opens m 60 refl))
taken-brace m l j (suc n) = refl

abbrev spelled_to : Bool → List ℕ → List ℕ
spelled_to r m = next_unfinished r (next_unfinished r m 92) 120

less-open : (r : Bool) (m : List ℕ) (n : ℕ)
    → is_open_brace (next_brace (next_unfinished r (spelled_to r m) 51) (next_brace (spelled_to r m) (next_brace (next_unfinished r m 92) (next_brace m n 92) 120) 51) 67) ≡ is_open_brace (next_brace m n 60)
less-open r m n = less-brace m (next_unfinished r m 92) (spelled_to r m) (next_unfinished r (spelled_to r m) 51) n

taken-open : (r : Bool) (m : List ℕ) (n : ℕ)
    → is_open_brace (next_brace (next_unfinished r (next_unfinished r m 120) 51) (next_brace (next_unfinished r m 120) (next_brace m n 120) 51) 67) ≡ is_open_brace (next_brace m n 60)
taken-open r m n = taken-brace m (next_unfinished r m 120) (next_unfinished r (next_unfinished r m 120) 51) n

-- In the text of a token, where no backslash is open, `\x3C` leads to where a `<` does, and tells the same.
abbrev pub text_state : List ℕ → At → List ℕ → Trail → ScriptState
text_state fs a held trail = record { literals = fs; at = a; held = held; trail = trail }

abbrev pub ReadsAsLess : {E : Type 0} → (ScriptEvent → E) → List ℕ → ScriptState → List E → Type 0
ReadsAsLess {E} inside bytes v t = SameInPage E (feed_script v 60) (told_inside inside (script_emits v 60 []) t) (read_in_page inside bytes (page_script v t))

pub less-reads : {E : Type 0} (inside : ScriptEvent → E) (fs : List ℕ) (a : At) (held : List ℕ) (trail : Trail) (t : List E) → is_text a ≡ true → is_taken_at a ≡ false
    → ReadsAsLess inside (codes "\\x3C") (text_state fs a held trail) t
unfolding class_of
less-reads inside [] (InString true NoEscape) held trail t i o = record { escape = record { escape = less-escape false trail.escape; brace = less-open false trail.escape trail.brace }; same = record { literals = refl; held = refl; at = refl }; told = refl }
less-reads inside (n ∷ fs) (InString true NoEscape) held trail t i o = record { escape = record { escape = less-escape false trail.escape; brace = less-open false trail.escape trail.brace }; same = record { literals = refl; held = refl; at = refl }; told = refl }
less-reads inside [] (InString true AfterX) held trail t i o = record { escape = record { escape = less-escape false trail.escape; brace = less-open false trail.escape trail.brace }; same = record { literals = refl; held = refl; at = refl }; told = refl }
less-reads inside (n ∷ fs) (InString true AfterX) held trail t i o = record { escape = record { escape = less-escape false trail.escape; brace = less-open false trail.escape trail.brace }; same = record { literals = refl; held = refl; at = refl }; told = refl }
less-reads inside [] (InString true AfterX3) held trail t i o = record { escape = record { escape = less-escape false trail.escape; brace = less-open false trail.escape trail.brace }; same = record { literals = refl; held = refl; at = refl }; told = refl }
less-reads inside (n ∷ fs) (InString true AfterX3) held trail t i o = record { escape = record { escape = less-escape false trail.escape; brace = less-open false trail.escape trail.brace }; same = record { literals = refl; held = refl; at = refl }; told = refl }
less-reads inside [] (InString true AfterCarriageReturn) held trail t i o = record { escape = record { escape = less-escape false trail.escape; brace = less-open false trail.escape trail.brace }; same = record { literals = refl; held = refl; at = refl }; told = refl }
less-reads inside (n ∷ fs) (InString true AfterCarriageReturn) held trail t i o = record { escape = record { escape = less-escape false trail.escape; brace = less-open false trail.escape trail.brace }; same = record { literals = refl; held = refl; at = refl }; told = refl }
less-reads inside [] (InString false NoEscape) held trail t i o = record { escape = record { escape = less-escape false trail.escape; brace = less-open false trail.escape trail.brace }; same = record { literals = refl; held = refl; at = refl }; told = refl }
less-reads inside (n ∷ fs) (InString false NoEscape) held trail t i o = record { escape = record { escape = less-escape false trail.escape; brace = less-open false trail.escape trail.brace }; same = record { literals = refl; held = refl; at = refl }; told = refl }
less-reads inside [] (InString false AfterX) held trail t i o = record { escape = record { escape = less-escape false trail.escape; brace = less-open false trail.escape trail.brace }; same = record { literals = refl; held = refl; at = refl }; told = refl }
less-reads inside (n ∷ fs) (InString false AfterX) held trail t i o = record { escape = record { escape = less-escape false trail.escape; brace = less-open false trail.escape trail.brace }; same = record { literals = refl; held = refl; at = refl }; told = refl }
less-reads inside [] (InString false AfterX3) held trail t i o = record { escape = record { escape = less-escape false trail.escape; brace = less-open false trail.escape trail.brace }; same = record { literals = refl; held = refl; at = refl }; told = refl }
less-reads inside (n ∷ fs) (InString false AfterX3) held trail t i o = record { escape = record { escape = less-escape false trail.escape; brace = less-open false trail.escape trail.brace }; same = record { literals = refl; held = refl; at = refl }; told = refl }
less-reads inside [] (InString false AfterCarriageReturn) held trail t i o = record { escape = record { escape = less-escape false trail.escape; brace = less-open false trail.escape trail.brace }; same = record { literals = refl; held = refl; at = refl }; told = refl }
less-reads inside (n ∷ fs) (InString false AfterCarriageReturn) held trail t i o = record { escape = record { escape = less-escape false trail.escape; brace = less-open false trail.escape trail.brace }; same = record { literals = refl; held = refl; at = refl }; told = refl }
less-reads inside [] (InRegexp true NoEscape) held trail t i o = record { escape = record { escape = less-escape true trail.escape; brace = less-open true trail.escape trail.brace }; same = record { literals = refl; held = refl; at = refl }; told = refl }
less-reads inside (n ∷ fs) (InRegexp true NoEscape) held trail t i o = record { escape = record { escape = less-escape true trail.escape; brace = less-open true trail.escape trail.brace }; same = record { literals = refl; held = refl; at = refl }; told = refl }
less-reads inside [] (InRegexp true AfterX) held trail t i o = record { escape = record { escape = less-escape true trail.escape; brace = less-open true trail.escape trail.brace }; same = record { literals = refl; held = refl; at = refl }; told = refl }
less-reads inside (n ∷ fs) (InRegexp true AfterX) held trail t i o = record { escape = record { escape = less-escape true trail.escape; brace = less-open true trail.escape trail.brace }; same = record { literals = refl; held = refl; at = refl }; told = refl }
less-reads inside [] (InRegexp true AfterX3) held trail t i o = record { escape = record { escape = less-escape true trail.escape; brace = less-open true trail.escape trail.brace }; same = record { literals = refl; held = refl; at = refl }; told = refl }
less-reads inside (n ∷ fs) (InRegexp true AfterX3) held trail t i o = record { escape = record { escape = less-escape true trail.escape; brace = less-open true trail.escape trail.brace }; same = record { literals = refl; held = refl; at = refl }; told = refl }
less-reads inside [] (InRegexp true AfterCarriageReturn) held trail t i o = record { escape = record { escape = less-escape true trail.escape; brace = less-open true trail.escape trail.brace }; same = record { literals = refl; held = refl; at = refl }; told = refl }
less-reads inside (n ∷ fs) (InRegexp true AfterCarriageReturn) held trail t i o = record { escape = record { escape = less-escape true trail.escape; brace = less-open true trail.escape trail.brace }; same = record { literals = refl; held = refl; at = refl }; told = refl }
less-reads inside [] (InRegexp false NoEscape) held trail t i o = record { escape = record { escape = less-escape true trail.escape; brace = less-open true trail.escape trail.brace }; same = record { literals = refl; held = refl; at = refl }; told = refl }
less-reads inside (n ∷ fs) (InRegexp false NoEscape) held trail t i o = record { escape = record { escape = less-escape true trail.escape; brace = less-open true trail.escape trail.brace }; same = record { literals = refl; held = refl; at = refl }; told = refl }
less-reads inside [] (InRegexp false AfterX) held trail t i o = record { escape = record { escape = less-escape true trail.escape; brace = less-open true trail.escape trail.brace }; same = record { literals = refl; held = refl; at = refl }; told = refl }
less-reads inside (n ∷ fs) (InRegexp false AfterX) held trail t i o = record { escape = record { escape = less-escape true trail.escape; brace = less-open true trail.escape trail.brace }; same = record { literals = refl; held = refl; at = refl }; told = refl }
less-reads inside [] (InRegexp false AfterX3) held trail t i o = record { escape = record { escape = less-escape true trail.escape; brace = less-open true trail.escape trail.brace }; same = record { literals = refl; held = refl; at = refl }; told = refl }
less-reads inside (n ∷ fs) (InRegexp false AfterX3) held trail t i o = record { escape = record { escape = less-escape true trail.escape; brace = less-open true trail.escape trail.brace }; same = record { literals = refl; held = refl; at = refl }; told = refl }
less-reads inside [] (InRegexp false AfterCarriageReturn) held trail t i o = record { escape = record { escape = less-escape true trail.escape; brace = less-open true trail.escape trail.brace }; same = record { literals = refl; held = refl; at = refl }; told = refl }
less-reads inside (n ∷ fs) (InRegexp false AfterCarriageReturn) held trail t i o = record { escape = record { escape = less-escape true trail.escape; brace = less-open true trail.escape trail.brace }; same = record { literals = refl; held = refl; at = refl }; told = refl }
less-reads inside [] (InTemplate NoEscape true) held trail t i o = record { escape = record { escape = refl; brace = refl }; same = record { literals = refl; held = refl; at = refl }; told = refl }
less-reads inside (n ∷ fs) (InTemplate NoEscape true) held trail t i o = record { escape = record { escape = refl; brace = refl }; same = record { literals = refl; held = refl; at = refl }; told = refl }
less-reads inside [] (InTemplate NoEscape false) held trail t i o = record { escape = record { escape = refl; brace = refl }; same = record { literals = refl; held = refl; at = refl }; told = refl }
less-reads inside (n ∷ fs) (InTemplate NoEscape false) held trail t i o = record { escape = record { escape = refl; brace = refl }; same = record { literals = refl; held = refl; at = refl }; told = refl }
less-reads inside [] (InTemplate AfterX true) held trail t i o = record { escape = record { escape = refl; brace = refl }; same = record { literals = refl; held = refl; at = refl }; told = refl }
less-reads inside (n ∷ fs) (InTemplate AfterX true) held trail t i o = record { escape = record { escape = refl; brace = refl }; same = record { literals = refl; held = refl; at = refl }; told = refl }
less-reads inside [] (InTemplate AfterX false) held trail t i o = record { escape = record { escape = refl; brace = refl }; same = record { literals = refl; held = refl; at = refl }; told = refl }
less-reads inside (n ∷ fs) (InTemplate AfterX false) held trail t i o = record { escape = record { escape = refl; brace = refl }; same = record { literals = refl; held = refl; at = refl }; told = refl }
less-reads inside [] (InTemplate AfterX3 true) held trail t i o = record { escape = record { escape = refl; brace = refl }; same = record { literals = refl; held = refl; at = refl }; told = refl }
less-reads inside (n ∷ fs) (InTemplate AfterX3 true) held trail t i o = record { escape = record { escape = refl; brace = refl }; same = record { literals = refl; held = refl; at = refl }; told = refl }
less-reads inside [] (InTemplate AfterX3 false) held trail t i o = record { escape = record { escape = refl; brace = refl }; same = record { literals = refl; held = refl; at = refl }; told = refl }
less-reads inside (n ∷ fs) (InTemplate AfterX3 false) held trail t i o = record { escape = record { escape = refl; brace = refl }; same = record { literals = refl; held = refl; at = refl }; told = refl }
less-reads inside [] (InTemplate AfterCarriageReturn true) held trail t i o = record { escape = record { escape = refl; brace = refl }; same = record { literals = refl; held = refl; at = refl }; told = refl }
less-reads inside (n ∷ fs) (InTemplate AfterCarriageReturn true) held trail t i o = record { escape = record { escape = refl; brace = refl }; same = record { literals = refl; held = refl; at = refl }; told = refl }
less-reads inside [] (InTemplate AfterCarriageReturn false) held trail t i o = record { escape = record { escape = refl; brace = refl }; same = record { literals = refl; held = refl; at = refl }; told = refl }
less-reads inside (n ∷ fs) (InTemplate AfterCarriageReturn false) held trail t i o = record { escape = record { escape = refl; brace = refl }; same = record { literals = refl; held = refl; at = refl }; told = refl }
less-reads inside [] (Slash sense.Re) held trail t i o = record { escape = record { escape = less-escape true trail.escape; brace = less-open true trail.escape trail.brace }; same = record { literals = refl; held = refl; at = refl }; told = refl }
less-reads inside (n ∷ fs) (Slash sense.Re) held trail t i o = record { escape = record { escape = less-escape true trail.escape; brace = less-open true trail.escape trail.brace }; same = record { literals = refl; held = refl; at = refl }; told = refl }
less-reads inside fs (InString q AfterBackslash) held trail t i o = absurd (true≢false o)
less-reads inside fs (InRegexp k AfterBackslash) held trail t i o = absurd (true≢false o)
less-reads inside fs (InTemplate AfterBackslash d) held trail t i o = absurd (true≢false o)
less-reads inside fs (Code s) held trail t i o = absurd (true≢false (sym i))
less-reads inside fs (Word w) held trail t i o = absurd (true≢false (sym i))
less-reads inside fs Number held trail t i o = absurd (true≢false (sym i))
less-reads inside fs (Pluses odd) held trail t i o = absurd (true≢false (sym i))
less-reads inside fs (Minuses odd) held trail t i o = absurd (true≢false (sym i))
less-reads inside fs (Slash sense.Div) held trail t i o = absurd (true≢false (sym i))
less-reads inside fs (Slash sense.Brace) held trail t i o = absurd (true≢false (sym i))
less-reads inside fs (LineComment s) held trail t i o = absurd (true≢false (sym i))
less-reads inside fs (BlockComment s star) held trail t i o = absurd (true≢false (sym i))
less-reads inside fs TooDeep held trail t i o = absurd (true≢false (sym i))

-- and behind a backslash `x3C` does
pub taken-reads : {E : Type 0} (inside : ScriptEvent → E) (fs : List ℕ) (a : At) (held : List ℕ) (trail : Trail) (t : List E) → is_taken_at a ≡ true
    → ReadsAsLess inside (codes "x3C") (text_state fs a held trail) t
unfolding class_of
taken-reads inside [] (InString true AfterBackslash) held trail t o = record { escape = record { escape = taken-escape false trail.escape; brace = taken-open false trail.escape trail.brace }; same = record { literals = refl; held = refl; at = refl }; told = refl }
taken-reads inside (n ∷ fs) (InString true AfterBackslash) held trail t o = record { escape = record { escape = taken-escape false trail.escape; brace = taken-open false trail.escape trail.brace }; same = record { literals = refl; held = refl; at = refl }; told = refl }
taken-reads inside [] (InString false AfterBackslash) held trail t o = record { escape = record { escape = taken-escape false trail.escape; brace = taken-open false trail.escape trail.brace }; same = record { literals = refl; held = refl; at = refl }; told = refl }
taken-reads inside (n ∷ fs) (InString false AfterBackslash) held trail t o = record { escape = record { escape = taken-escape false trail.escape; brace = taken-open false trail.escape trail.brace }; same = record { literals = refl; held = refl; at = refl }; told = refl }
taken-reads inside [] (InRegexp true AfterBackslash) held trail t o = record { escape = record { escape = taken-escape true trail.escape; brace = taken-open true trail.escape trail.brace }; same = record { literals = refl; held = refl; at = refl }; told = refl }
taken-reads inside (n ∷ fs) (InRegexp true AfterBackslash) held trail t o = record { escape = record { escape = taken-escape true trail.escape; brace = taken-open true trail.escape trail.brace }; same = record { literals = refl; held = refl; at = refl }; told = refl }
taken-reads inside [] (InRegexp false AfterBackslash) held trail t o = record { escape = record { escape = taken-escape true trail.escape; brace = taken-open true trail.escape trail.brace }; same = record { literals = refl; held = refl; at = refl }; told = refl }
taken-reads inside (n ∷ fs) (InRegexp false AfterBackslash) held trail t o = record { escape = record { escape = taken-escape true trail.escape; brace = taken-open true trail.escape trail.brace }; same = record { literals = refl; held = refl; at = refl }; told = refl }
taken-reads inside [] (InTemplate AfterBackslash true) held trail t o = record { escape = record { escape = refl; brace = refl }; same = record { literals = refl; held = refl; at = refl }; told = refl }
taken-reads inside (n ∷ fs) (InTemplate AfterBackslash true) held trail t o = record { escape = record { escape = refl; brace = refl }; same = record { literals = refl; held = refl; at = refl }; told = refl }
taken-reads inside [] (InTemplate AfterBackslash false) held trail t o = record { escape = record { escape = refl; brace = refl }; same = record { literals = refl; held = refl; at = refl }; told = refl }
taken-reads inside (n ∷ fs) (InTemplate AfterBackslash false) held trail t o = record { escape = record { escape = refl; brace = refl }; same = record { literals = refl; held = refl; at = refl }; told = refl }
taken-reads inside fs (InString q NoEscape) held trail t o = absurd (true≢false (sym o))
taken-reads inside fs (InRegexp k NoEscape) held trail t o = absurd (true≢false (sym o))
taken-reads inside fs (InTemplate NoEscape d) held trail t o = absurd (true≢false (sym o))
taken-reads inside fs (InString q AfterX) held trail t o = absurd (true≢false (sym o))
taken-reads inside fs (InRegexp k AfterX) held trail t o = absurd (true≢false (sym o))
taken-reads inside fs (InTemplate AfterX d) held trail t o = absurd (true≢false (sym o))
taken-reads inside fs (InString q AfterX3) held trail t o = absurd (true≢false (sym o))
taken-reads inside fs (InRegexp k AfterX3) held trail t o = absurd (true≢false (sym o))
taken-reads inside fs (InTemplate AfterX3 d) held trail t o = absurd (true≢false (sym o))
taken-reads inside fs (InString q AfterCarriageReturn) held trail t o = absurd (true≢false (sym o))
taken-reads inside fs (InRegexp k AfterCarriageReturn) held trail t o = absurd (true≢false (sym o))
taken-reads inside fs (InTemplate AfterCarriageReturn d) held trail t o = absurd (true≢false (sym o))
taken-reads inside fs (Code s) held trail t o = absurd (true≢false (sym o))
taken-reads inside fs (Word w) held trail t o = absurd (true≢false (sym o))
taken-reads inside fs Number held trail t o = absurd (true≢false (sym o))
taken-reads inside fs (Pluses odd) held trail t o = absurd (true≢false (sym o))
taken-reads inside fs (Minuses odd) held trail t o = absurd (true≢false (sym o))
taken-reads inside fs (Slash s) held trail t o = absurd (true≢false (sym o))
taken-reads inside fs (LineComment s) held trail t o = absurd (true≢false (sym o))
taken-reads inside fs (BlockComment s star) held trail t o = absurd (true≢false (sym o))
taken-reads inside fs TooDeep held trail t o = absurd (true≢false (sym o))
