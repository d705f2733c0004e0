-- A reference that is read byte by byte is the one that is found by looking ahead.
use Rattle.std.proofs.Common.{◌≡◌, ℕ, zero, suc, ◌+◌, ◌-◌, ◌==◌, ◌||◌, Bool, true, false, cond, List, [], ◌∷◌, ◌++◌, length, drop, nat_eq, bytes_eq, encode_utf8, refl, sym, ap, ◌∙◌, subst, arith, append-nil, append_assoc, ◌&&◌, true≢false}
use Rattle.std.proofs.lemmas.Bool.{and_parts, cond-true, cond-false, eqb-true}
use Rattle.std.proofs.lemmas.Bool.Decides.{nat_tests}
use Rattle.std.proofs.lemmas.List.{drop-drop, drop_at, take-append-drop, drop-append-le}
use Rattle.std.specs.Char.{is_ascii_alphanumeric, is_ascii_digit, is_ascii_hexdigit}
use Rattle.std.specs.List.{list_all, prefix_len, starts_with}
use Rattle.place_core.specs.page.Characters.{itself, begins_at, whole_at, short_at, reference_name_at, semicolon_len, number_from, hashed_at, reference_at, letter_run, after_run, is_broken_number, is_broken_off}
use Rattle.place_core.specs.page.Classes.{class_of}
use Rattle.place_core.specs.page.References.{ReferenceRow, names, short_names, named_in, whole_in, begins_in, numbered_reference, number_in_reference, Form, Begun, Named, Hashed, Decimal, HexMark, Hexadecimal, Grows, Closes, Breaks, meaning, flushed, flushed_name, Closed, Open, begin_reference, plain_bytes}
use Rattle.html_words.proofs.Bytes.{turn_at, turns, undone_at, plain, equals}
use Rattle.html_words.proofs.Lengths.{front_fits}

pub either : {P : Type 0} (b : Bool) → (b ≡ true → P) → (b ≡ false → P) → P
either true f g = f refl
either false f g = g refl

-- Runs of bytes.

pub one_more : (n : ℕ) → 1 + n ≡ suc n
one_more n = omega arith

pub run_more : (p : ℕ → Bool) (b : ℕ) (bs : List ℕ) → p b ≡ true → letter_run p (b ∷ bs) ≡ b ∷ letter_run p bs
run_more p b bs e = rw (e, one_more (prefix_len p bs)) refl

pub behind_more : (p : ℕ → Bool) (b : ℕ) (bs : List ℕ) → p b ≡ true → after_run p (b ∷ bs) ≡ after_run p bs
behind_more p b bs e = rw (e, one_more (prefix_len p bs)) refl

pub run_none : (p : ℕ → Bool) (b : ℕ) (bs : List ℕ) → p b ≡ false → letter_run p (b ∷ bs) ≡ []
run_none p b bs e = rw e refl

pub behind_none : (p : ℕ → Bool) (b : ℕ) (bs : List ℕ) → p b ≡ false → after_run p (b ∷ bs) ≡ b ∷ bs
behind_none p b bs e = rw e refl

run-behind : (p : ℕ → Bool) (bytes : List ℕ) → letter_run p bytes ++ after_run p bytes ≡ bytes
run-behind p bytes = take-append-drop (prefix_len p bytes) bytes

abbrev first_is : (ℕ → Bool) → List ℕ → Bool
first_is p [] = false
first_is p (b ∷ bs) = p b

run_stops : (p : ℕ → Bool) (bytes : List ℕ) → first_is p (after_run p bytes) ≡ false
run_stops p [] = refl
run_stops p (b ∷ bs) = either (p b) (λ t. rw (t, one_more (prefix_len p bs)) (run_stops p bs)) (λ f. rw f f)

run_passes : (p : ℕ → Bool) (bytes : List ℕ) → list_all p (letter_run p bytes) ≡ true
run_passes p [] = refl
run_passes p (b ∷ bs) = either (p b) (λ t. rw (t, one_more (prefix_len p bs)) (rw t (run_passes p bs))) (λ f. rw f refl)

all-drop : (p : ℕ → Bool) (n : ℕ) (xs : List ℕ) → list_all p xs ≡ true → list_all p (drop n xs) ≡ true
all-drop p zero xs e = e
all-drop p (suc n) [] e = refl
all-drop p (suc n) (x ∷ xs) e = all-drop p n xs (and_parts (p x) (list_all p xs) e).1

behind_all : (xs rest : List ℕ) (k n : ℕ) → n ≡ length xs + k → drop n (xs ++ rest) ≡ drop k rest
behind_all xs rest k n e = rw e (sym (drop-drop k (length xs) (xs ++ rest)) ∙ ap (drop k) (drop_at xs rest (length xs) refl))

-- Steps of the machine.

grow : (cut attribute : Bool) (f g : Form) (held : List ℕ) (b : ℕ) (bs : List ℕ) → turn_at f b ≡ Grows g → undone_at cut attribute (Open f held) (b ∷ bs) ≡ undone_at cut attribute (Open g (held ++ b ∷ [])) bs
grow cut attribute f g held b bs e = rw (turns f b ∙ e) refl

close : (cut attribute : Bool) (f : Form) (held : List ℕ) (b : ℕ) (bs : List ℕ) → turn_at f b ≡ Closes → undone_at cut attribute (Open f held) (b ∷ bs) ≡ encode_utf8 (meaning f held) ++ undone_at cut attribute Closed bs
close cut attribute f held b bs e = rw (turns f b ∙ e) refl

-- what breaks a reference, or the end
abbrev Broken : Bool → Form → List ℕ → Type 0
Broken cut f [] = cut ≡ false
Broken cut f (b ∷ bs) = turn_at f b ≡ Breaks

-- no cut is at the beginning
abbrev Whole : Bool → List ℕ → Type 0
Whole cut [] = cut ≡ false
Whole cut (b ∷ bs) = Unit {0}

uncut : (cut : Bool) → (cut && true) ≡ false → cut ≡ false
uncut true e = e
uncut false e = refl

whole_run : (cut : Bool) (p : ℕ → Bool) (bytes : List ℕ) → (cut && list_all p bytes) ≡ false → Whole cut (after_run p bytes)
whole_run cut p [] e = uncut cut e
whole_run cut p (b ∷ bs) e = either (p b)
    (λ t. rw (behind_more p b bs t) (whole_run cut p bs (rw t at e)))
    (λ f. rw (behind_none p b bs f) tt)

abbrev equals_first : List ℕ → Bool
equals_first [] = false
equals_first (b ∷ bs) = b == 61

break : (cut attribute : Bool) (f : Form) (held rest : List ℕ) → Broken cut f rest → undone_at cut attribute (Open f held) rest ≡ flushed attribute (equals_first rest) f held ++ undone_at cut attribute Closed rest
break cut attribute f held [] h = rw h (sym (append-nil (flushed attribute false f held)))
break cut attribute f held (b ∷ bs) h = rw (turns f b ∙ h, equals b) (append_assoc (flushed attribute (b == 61) f held) (plain_bytes (class_of b) b) (undone_at cut attribute (begin_reference (class_of b)) bs))

grow_run : (cut attribute : Bool) (f : Form) (p : ℕ → Bool) → ((b : ℕ) → p b ≡ true → turn_at f b ≡ Grows f) → (held bytes : List ℕ) → undone_at cut attribute (Open f held) bytes ≡ undone_at cut attribute (Open f (held ++ letter_run p bytes)) (after_run p bytes)
grow_run cut attribute f p h held [] = ap (λ (xs : List ℕ). undone_at cut attribute (Open f xs) []) (sym (append-nil held))
grow_run cut attribute f p h held (b ∷ bs) = either (p b)
    (λ t. grow cut attribute f f held b bs (h b t)
    ∙ grow_run cut attribute f p h (held ++ b ∷ []) bs
    ∙ rw (run_more p b bs t, behind_more p b bs t) (ap (λ (xs : List ℕ). undone_at cut attribute (Open f xs) (after_run p bs)) (append_assoc held (b ∷ []) (letter_run p bs))))
    (λ e. rw (run_none p b bs e, behind_none p b bs e) (ap (λ (xs : List ℕ). undone_at cut attribute (Open f xs) (b ∷ bs)) (sym (append-nil held))))

-- letters and digits are plain
letter_is_plain : (b : ℕ) → is_ascii_alphanumeric b ≡ true → (b == 38) ≡ false
letter_is_plain b e = grind (arith, nat_tests)

plain_all : (cut attribute : Bool) (name rest : List ℕ) → list_all is_ascii_alphanumeric name ≡ true → undone_at cut attribute Closed (name ++ rest) ≡ name ++ undone_at cut attribute Closed rest
plain_all cut attribute [] rest e = refl
plain_all cut attribute (b ∷ bs) rest e =
    let h = and_parts (is_ascii_alphanumeric b) (list_all is_ascii_alphanumeric bs) e in
    plain cut attribute b (bs ++ rest) (letter_is_plain b h.0) ∙ ap (λ (xs : List ℕ). b ∷ xs) (plain_all cut attribute bs rest h.1)

-- What is told from an ampersand on is the character that was found, and then what stands after it.

abbrev pub Undone : Bool → Bool → List ℕ → List ℕ → ℕ × ℕ → Type 0
Undone cut attribute out bytes found = out ≡ encode_utf8 found.0 ++ undone_at cut attribute Closed (drop (found.1 - 1) bytes)

-- the same of what is found otherwise
otherwise : (cut attribute : Bool) (out bytes : List ℕ) (found other : ℕ × ℕ) → found ≡ other → Undone cut attribute out bytes other → Undone cut attribute out bytes found
otherwise cut attribute out bytes found other e h = subst (λ (x : ℕ × ℕ). Undone cut attribute out bytes x) (sym e) h

ampersand : encode_utf8 38 ≡ 38 ∷ []
unfolding lib.Utf8.encode
ampersand = refl

as_itself : (cut attribute : Bool) (out bytes : List ℕ) → out ≡ 38 ∷ undone_at cut attribute Closed bytes → Undone cut attribute out bytes itself
as_itself cut attribute out bytes e = rw ampersand e

-- Names.

whole_undone : (rows : List (ReferenceRow (List ℕ))) (cut attribute : Bool) (name rest : List ℕ) → list_all is_ascii_alphanumeric name ≡ true → Undone cut attribute (whole_in rows name ++ undone_at cut attribute Closed rest) (name ++ rest) (whole_at rows name)
whole_undone [] cut attribute name rest all = as_itself cut attribute _ (name ++ rest) (ap (λ (xs : List ℕ). 38 ∷ xs) (sym (plain_all cut attribute name rest all)))
whole_undone (r ∷ rows) cut attribute name rest all = either (bytes_eq r.key name)
    (λ t. rw t (ap (λ (xs : List ℕ). encode_utf8 r.code ++ undone_at cut attribute Closed xs) (sym (behind_all name rest 0 (length name + 1 - 1) (omega arith)))))
    (λ f. rw f (whole_undone rows cut attribute name rest all))

begins_undone : (rows : List (ReferenceRow (List ℕ))) (cut attribute : Bool) (name rest : List ℕ) → list_all is_ascii_alphanumeric name ≡ true → Undone cut attribute (begins_in rows name ++ undone_at cut attribute Closed rest) (name ++ rest) (begins_at rows name)
begins_undone [] cut attribute name rest all = as_itself cut attribute _ (name ++ rest) (ap (λ (xs : List ℕ). 38 ∷ xs) (sym (plain_all cut attribute name rest all)))
begins_undone (r ∷ rows) cut attribute name rest all = either (starts_with nat_eq name r.key)
    (λ t.
    let same : length r.key + 1 - 1 ≡ length r.key = omega arith in
    rw t (append_assoc (encode_utf8 r.code) (drop (length r.key) name) (undone_at cut attribute Closed rest)
    ∙ ap (λ (xs : List ℕ). encode_utf8 r.code ++ xs) (sym (rw (same, drop-append-le (length r.key) name rest (front_fits r.key name t)) (plain_all cut attribute (drop (length r.key) name) rest (all-drop is_ascii_alphanumeric (length r.key) name all))))))
    (λ f. rw f (begins_undone rows cut attribute name rest all))

short_undone : (cut attribute equals : Bool) (name rest : List ℕ) → list_all is_ascii_alphanumeric name ≡ true → Undone cut attribute (flushed_name attribute equals name ++ undone_at cut attribute Closed rest) (name ++ rest) (short_at attribute equals name)
short_undone cut true true name rest all = as_itself cut true _ (name ++ rest) (ap (λ (xs : List ℕ). 38 ∷ xs) (sym (plain_all cut true name rest all)))
short_undone cut true false name rest all = whole_undone short_names cut true name rest all
short_undone cut false equals name rest all = begins_undone short_names cut false name rest all

name_breaks : (b : ℕ) → is_ascii_alphanumeric b ≡ false → (b == 59) ≡ false → turn_at Named b ≡ Breaks
name_breaks b e f = rw (e, f) refl

name_closes : (b : ℕ) → is_ascii_alphanumeric b ≡ false → (b == 59) ≡ true → turn_at Named b ≡ Closes
name_closes b e f = rw (e, f) refl

name_undone : (cut attribute : Bool) (name rest : List ℕ) → list_all is_ascii_alphanumeric name ≡ true → first_is is_ascii_alphanumeric rest ≡ false → Whole cut rest → Undone cut attribute (undone_at cut attribute (Open Named name) rest) (name ++ rest) (reference_name_at attribute name rest)
unfolding meaning flushed
name_undone cut attribute name [] all ends whole = break cut attribute Named name [] whole ∙ short_undone cut attribute false name [] all
name_undone cut attribute name (b ∷ bs) all ends whole = either (b == 59)
    (λ t. rw t (close cut attribute Named name b bs (name_closes b ends t) ∙ ap (λ (xs : List ℕ). encode_utf8 (named_in names name) ++ undone_at cut attribute Closed xs) (sym (behind_all name (b ∷ bs) 1 (length name + 2 - 1) (omega arith)))))
    (λ f. rw f (break cut attribute Named name (b ∷ bs) (name_breaks b ends f) ∙ short_undone cut attribute (b == 61) name (b ∷ bs) all))

-- Numbers.

-- the end of a number, by a semicolon or without
number_ends : (cut attribute : Bool) (f : Form) (held : List ℕ) (p : ℕ → Bool) (rest : List ℕ) (code : ℕ) → meaning f held ≡ code → ((e : Bool) → flushed attribute e f held ≡ encode_utf8 code) → ((b : ℕ) → p b ≡ false → turn_at f b ≡ cond (b == 59) Closes Breaks) → first_is p rest ≡ false → Whole cut rest → undone_at cut attribute (Open f held) rest ≡ encode_utf8 code ++ undone_at cut attribute Closed (drop (semicolon_len rest) rest)
number_ends cut attribute f held p [] code m g h ends whole = break cut attribute f held [] whole ∙ ap (λ (xs : List ℕ). xs ++ []) (g false)
number_ends cut attribute f held p (b ∷ bs) code m g h ends whole = either (b == 59)
    (λ t. rw t (close cut attribute f held b bs (rw t at (h b ends)) ∙ ap (λ (c : ℕ). encode_utf8 c ++ undone_at cut attribute Closed bs) m))
    (λ e. rw e (break cut attribute f held (b ∷ bs) (rw e at (h b ends)) ∙ ap (λ (xs : List ℕ). xs ++ undone_at cut attribute Closed (b ∷ bs)) (g (b == 61))))

decimal_ends : (cut attribute : Bool) (digits rest : List ℕ) → first_is is_ascii_digit rest ≡ false → Whole cut rest → undone_at cut attribute (Open Decimal (35 ∷ digits)) rest ≡ encode_utf8 (numbered_reference (number_in_reference 10 0 digits)) ++ undone_at cut attribute Closed (drop (semicolon_len rest) rest)
unfolding meaning flushed
decimal_ends cut attribute digits rest ends whole = number_ends cut attribute Decimal (35 ∷ digits) is_ascii_digit rest (numbered_reference (number_in_reference 10 0 digits)) refl (λ e. refl) (λ b e. rw e refl) ends whole

hexadecimal_ends : (cut attribute : Bool) (x : ℕ) (digits rest : List ℕ) → first_is is_ascii_hexdigit rest ≡ false → Whole cut rest → undone_at cut attribute (Open Hexadecimal (35 ∷ x ∷ digits)) rest ≡ encode_utf8 (numbered_reference (number_in_reference 16 0 digits)) ++ undone_at cut attribute Closed (drop (semicolon_len rest) rest)
unfolding meaning flushed
hexadecimal_ends cut attribute x digits rest ends whole = number_ends cut attribute Hexadecimal (35 ∷ x ∷ digits) is_ascii_hexdigit rest (numbered_reference (number_in_reference 16 0 digits)) refl (λ e. refl) (λ b e. rw e refl) ends whole

-- a number is told, where its digits and what stands after them are all of the bytes after what stands before the digits
number_told : (cut attribute : Bool) (base front d : ℕ) (ds rest before all out : List ℕ) → front ≡ length before + 1 → before ++ ((d ∷ ds) ++ rest) ≡ all → out ≡ encode_utf8 (numbered_reference (number_in_reference base 0 (d ∷ ds))) ++ undone_at cut attribute Closed (drop (semicolon_len rest) rest) → Undone cut attribute out all (number_from base front (d ∷ ds) rest)
number_told cut attribute base front d ds rest before all out size e told =
    let len : front + (length (d ∷ ds) + semicolon_len rest) - 1 ≡ length before + (suc (length ds) + semicolon_len rest) = omega arith in
    rw (← e, len) (told ∙ ap (λ (xs : List ℕ). encode_utf8 (numbered_reference (number_in_reference base 0 (d ∷ ds))) ++ undone_at cut attribute Closed xs)
    (sym (behind_all before ((d ∷ ds) ++ rest) (suc (length ds) + semicolon_len rest) (length before + (suc (length ds) + semicolon_len rest)) refl
    ∙ behind_all (d ∷ ds) rest (semicolon_len rest) (suc (length ds) + semicolon_len rest) refl)))

from_run : (base front : ℕ) (p : ℕ → Bool) (b : ℕ) (bs : List ℕ) → p b ≡ true → number_from base front (letter_run p (b ∷ bs)) (after_run p (b ∷ bs)) ≡ number_from base front (b ∷ letter_run p bs) (after_run p bs)
from_run base front p b bs e = ap (λ (xs : List ℕ). number_from base front xs (after_run p (b ∷ bs))) (run_more p b bs e) ∙ ap (λ (xs : List ℕ). number_from base front (b ∷ letter_run p bs) xs) (behind_more p b bs e)

from_none : (base front : ℕ) (p : ℕ → Bool) (b : ℕ) (bs : List ℕ) → p b ≡ false → number_from base front (letter_run p (b ∷ bs)) (after_run p (b ∷ bs)) ≡ itself
from_none base front p b bs e = ap (λ (xs : List ℕ). number_from base front xs (after_run p (b ∷ bs))) (run_none p b bs e)

decimal_undone : (cut attribute : Bool) (b : ℕ) (bs : List ℕ) → (b == 88 || b == 120) ≡ false → (cut && list_all is_ascii_digit (b ∷ bs)) ≡ false → Undone cut attribute (undone_at cut attribute (Open Hashed (35 ∷ [])) (b ∷ bs)) (35 ∷ b ∷ bs) (number_from 10 2 (letter_run is_ascii_digit (b ∷ bs)) (after_run is_ascii_digit (b ∷ bs)))
unfolding flushed
decimal_undone cut attribute b bs other whole = either (is_ascii_digit b)
    (λ t. otherwise cut attribute _ (35 ∷ b ∷ bs) _ _ (from_run 10 2 is_ascii_digit b bs t)
    (number_told cut attribute 10 2 b (letter_run is_ascii_digit bs) (after_run is_ascii_digit bs) (35 ∷ []) (35 ∷ b ∷ bs) _ (omega arith)
    (ap (λ (xs : List ℕ). 35 ∷ b ∷ xs) (run-behind is_ascii_digit bs))
    (grow cut attribute Hashed Decimal (35 ∷ []) b bs (rw (other, t) refl)
    ∙ grow_run cut attribute Decimal is_ascii_digit (λ d e. rw e refl) (35 ∷ b ∷ []) bs
    ∙ decimal_ends cut attribute (b ∷ letter_run is_ascii_digit bs) (after_run is_ascii_digit bs) (run_stops is_ascii_digit bs) (whole_run cut is_ascii_digit bs (rw t at whole)))))
    (λ f. otherwise cut attribute _ (35 ∷ b ∷ bs) _ _ (from_none 10 2 is_ascii_digit b bs f)
    (as_itself cut attribute _ (35 ∷ b ∷ bs) (break cut attribute Hashed (35 ∷ []) (b ∷ bs) (rw (other, f) refl) ∙ ap (λ (xs : List ℕ). 38 ∷ xs) (sym (plain cut attribute 35 (b ∷ bs) refl)))))

mark_is_plain : (x : ℕ) → (x == 88 || x == 120) ≡ true → (x == 38) ≡ false
mark_is_plain x e = grind (arith, nat_tests)

hexadecimal_undone : (cut attribute : Bool) (x : ℕ) (bs : List ℕ) → (x == 88 || x == 120) ≡ true → (cut && list_all is_ascii_hexdigit bs) ≡ false → Undone cut attribute (undone_at cut attribute (Open HexMark (35 ∷ x ∷ [])) bs) (35 ∷ x ∷ bs) (number_from 16 3 (letter_run is_ascii_hexdigit bs) (after_run is_ascii_hexdigit bs))
unfolding flushed
hexadecimal_undone cut attribute x [] mark whole = as_itself cut attribute _ (35 ∷ x ∷ []) (break cut attribute HexMark (35 ∷ x ∷ []) [] (uncut cut whole) ∙ ap (λ (xs : List ℕ). 38 ∷ xs) (sym (plain cut attribute 35 (x ∷ []) refl ∙ ap (λ (xs : List ℕ). 35 ∷ xs) (plain cut attribute x [] (mark_is_plain x mark)))))
hexadecimal_undone cut attribute x (b ∷ bs) mark whole = either (is_ascii_hexdigit b)
    (λ t. otherwise cut attribute _ (35 ∷ x ∷ b ∷ bs) _ _ (from_run 16 3 is_ascii_hexdigit b bs t)
    (number_told cut attribute 16 3 b (letter_run is_ascii_hexdigit bs) (after_run is_ascii_hexdigit bs) (35 ∷ x ∷ []) (35 ∷ x ∷ b ∷ bs) _ (omega arith)
    (ap (λ (xs : List ℕ). 35 ∷ x ∷ b ∷ xs) (run-behind is_ascii_hexdigit bs))
    (grow cut attribute HexMark Hexadecimal (35 ∷ x ∷ []) b bs (rw t refl)
    ∙ grow_run cut attribute Hexadecimal is_ascii_hexdigit (λ d e. rw e refl) (35 ∷ x ∷ b ∷ []) bs
    ∙ hexadecimal_ends cut attribute x (b ∷ letter_run is_ascii_hexdigit bs) (after_run is_ascii_hexdigit bs) (run_stops is_ascii_hexdigit bs) (whole_run cut is_ascii_hexdigit bs (rw t at whole)))))
    (λ f. otherwise cut attribute _ (35 ∷ x ∷ b ∷ bs) _ _ (from_none 16 3 is_ascii_hexdigit b bs f)
    (as_itself cut attribute _ (35 ∷ x ∷ b ∷ bs) (break cut attribute HexMark (35 ∷ x ∷ []) (b ∷ bs) (rw f refl)
    ∙ ap (λ (xs : List ℕ). 38 ∷ xs) (sym (plain cut attribute 35 (x ∷ b ∷ bs) refl ∙ ap (λ (xs : List ℕ). 35 ∷ xs) (plain cut attribute x (b ∷ bs) (mark_is_plain x mark)))))))

hashed_undone : (cut attribute : Bool) (bs : List ℕ) → (cut && is_broken_number bs) ≡ false → Undone cut attribute (undone_at cut attribute (Open Hashed (35 ∷ [])) bs) (35 ∷ bs) (hashed_at bs)
unfolding flushed
hashed_undone cut attribute [] whole = as_itself cut attribute _ (35 ∷ []) (break cut attribute Hashed (35 ∷ []) [] (uncut cut whole) ∙ ap (λ (xs : List ℕ). 38 ∷ xs) (sym (plain cut attribute 35 [] refl)))
hashed_undone cut attribute (b ∷ bs) whole = either (b == 88 || b == 120)
    (λ t. rw t (grow cut attribute Hashed HexMark (35 ∷ []) b bs (rw t refl) ∙ hexadecimal_undone cut attribute b bs t (rw t at whole)))
    (λ f. rw f (decimal_undone cut attribute b bs f (rw f at whole)))

-- References.

-- a name of all letters and digits that stand there
named_at : (attribute : Bool) (b : ℕ) (bs : List ℕ) → (b == 35) ≡ false → is_ascii_alphanumeric b ≡ true → reference_at attribute (b ∷ bs) ≡ reference_name_at attribute (b ∷ letter_run is_ascii_alphanumeric bs) (after_run is_ascii_alphanumeric bs)
named_at attribute b bs f t =
    cond-false (b == 35) _ _ f
    ∙ cond-true (is_ascii_alphanumeric b) _ _ t
    ∙ ap (λ (xs : List ℕ). reference_name_at attribute xs (after_run is_ascii_alphanumeric (b ∷ bs))) (run_more is_ascii_alphanumeric b bs t)
    ∙ ap (λ (xs : List ℕ). reference_name_at attribute (b ∷ letter_run is_ascii_alphanumeric bs) xs) (behind_more is_ascii_alphanumeric b bs t)

name_all : (cut attribute : Bool) (b : ℕ) (bs : List ℕ) → is_ascii_alphanumeric b ≡ true → Whole cut (after_run is_ascii_alphanumeric bs) → Undone cut attribute (undone_at cut attribute (Open Named (b ∷ letter_run is_ascii_alphanumeric bs)) (after_run is_ascii_alphanumeric bs)) (b ∷ bs) (reference_name_at attribute (b ∷ letter_run is_ascii_alphanumeric bs) (after_run is_ascii_alphanumeric bs))
name_all cut attribute b bs t whole =
    subst (λ (all : List ℕ). Undone cut attribute (undone_at cut attribute (Open Named (b ∷ letter_run is_ascii_alphanumeric bs)) (after_run is_ascii_alphanumeric bs)) all (reference_name_at attribute (b ∷ letter_run is_ascii_alphanumeric bs) (after_run is_ascii_alphanumeric bs)))
    (ap (λ (xs : List ℕ). b ∷ xs) (run-behind is_ascii_alphanumeric bs))
    (name_undone cut attribute (b ∷ letter_run is_ascii_alphanumeric bs) (after_run is_ascii_alphanumeric bs) (rw t (run_passes is_ascii_alphanumeric bs)) (run_stops is_ascii_alphanumeric bs) whole)

reference_undone : (cut attribute : Bool) (bs : List ℕ) → (cut && is_broken_off bs) ≡ false → Undone cut attribute (undone_at cut attribute (Open Begun []) bs) bs (reference_at attribute bs)
unfolding flushed
reference_undone cut attribute [] whole = as_itself cut attribute _ [] (break cut attribute Begun [] [] (uncut cut whole))
reference_undone cut attribute (b ∷ bs) whole = either (b == 35)
    (λ t. let same : b ≡ 35 = eqb-true b 35 t in rw same (grow cut attribute Begun Hashed [] 35 bs refl ∙ hashed_undone cut attribute bs (rw t at whole)))
    (λ f. either (is_ascii_alphanumeric b)
    (λ t. otherwise cut attribute _ (b ∷ bs) _ _ (named_at attribute b bs f t)
    (grow cut attribute Begun Named [] b bs (rw (f, t) refl)
    ∙ grow_run cut attribute Named is_ascii_alphanumeric (λ d e. rw e refl) (b ∷ []) bs
    ∙ name_all cut attribute b bs t (whole_run cut is_ascii_alphanumeric bs (rw (f, t) at whole))))
    (λ g. rw (f, g) (as_itself cut attribute _ (b ∷ bs) (break cut attribute Begun [] (b ∷ bs) (rw (f, g) refl)))))

-- What only the end breaks off is held to the end.

held_on : (attribute : Bool) (f : Form) (p : ℕ → Bool) → ((b : ℕ) → p b ≡ true → turn_at f b ≡ Grows f) → (held bytes : List ℕ) → list_all p bytes ≡ true → undone_at true attribute (Open f held) bytes ≡ 38 ∷ (held ++ bytes)
held_on attribute f p h held [] all = ap (λ (xs : List ℕ). 38 ∷ xs) (sym (append-nil held))
held_on attribute f p h held (b ∷ bs) all =
    let parts = and_parts (p b) (list_all p bs) all in
    grow true attribute f f held b bs (h b parts.0) ∙ held_on attribute f p h (held ++ b ∷ []) bs parts.1 ∙ ap (λ (xs : List ℕ). 38 ∷ xs) (append_assoc held (b ∷ []) bs)

plain_run : (attribute : Bool) (p : ℕ → Bool) → ((b : ℕ) → p b ≡ true → (b == 38) ≡ false) → (bytes : List ℕ) → list_all p bytes ≡ true → undone_at true attribute Closed bytes ≡ bytes
plain_run attribute p h [] all = refl
plain_run attribute p h (b ∷ bs) all =
    let parts = and_parts (p b) (list_all p bs) all in
    plain true attribute b bs (h b parts.0) ∙ ap (λ (xs : List ℕ). b ∷ xs) (plain_run attribute p h bs parts.1)

digit_is_plain : (b : ℕ) → is_ascii_digit b ≡ true → (b == 38) ≡ false
digit_is_plain b e = grind (arith, nat_tests)

hexadecimal_is_plain : (b : ℕ) → is_ascii_hexdigit b ≡ true → (b == 38) ≡ false
hexadecimal_is_plain b e = grind (arith, nat_tests)

held_hexadecimal : (attribute : Bool) (x : ℕ) (bs : List ℕ) → list_all is_ascii_hexdigit bs ≡ true → undone_at true attribute (Open HexMark (35 ∷ x ∷ [])) bs ≡ 38 ∷ 35 ∷ x ∷ bs
held_hexadecimal attribute x [] all = refl
held_hexadecimal attribute x (b ∷ bs) all =
    let parts = and_parts (is_ascii_hexdigit b) (list_all is_ascii_hexdigit bs) all in
    grow true attribute HexMark Hexadecimal (35 ∷ x ∷ []) b bs (rw parts.0 refl) ∙ held_on attribute Hexadecimal is_ascii_hexdigit (λ d e. rw e refl) (35 ∷ x ∷ b ∷ []) bs parts.1

held_decimal : (attribute : Bool) (b : ℕ) (bs : List ℕ) → (b == 88 || b == 120) ≡ false → list_all is_ascii_digit (b ∷ bs) ≡ true → undone_at true attribute (Open Hashed (35 ∷ [])) (b ∷ bs) ≡ 38 ∷ 35 ∷ b ∷ bs
held_decimal attribute b bs other all =
    let parts = and_parts (is_ascii_digit b) (list_all is_ascii_digit bs) all in
    grow true attribute Hashed Decimal (35 ∷ []) b bs (rw (other, parts.0) refl) ∙ held_on attribute Decimal is_ascii_digit (λ d e. rw e refl) (35 ∷ b ∷ []) bs parts.1

held_number : (attribute : Bool) (bs : List ℕ) → is_broken_number bs ≡ true → undone_at true attribute (Open Hashed (35 ∷ [])) bs ≡ 38 ∷ 35 ∷ undone_at true attribute Closed bs
held_number attribute [] broken = refl
held_number attribute (b ∷ bs) broken = either (b == 88 || b == 120)
    (λ t. let all : list_all is_ascii_hexdigit bs ≡ true = rw t at broken in
    grow true attribute Hashed HexMark (35 ∷ []) b bs (rw t refl) ∙ held_hexadecimal attribute b bs all
    ∙ ap (λ (xs : List ℕ). 38 ∷ 35 ∷ xs) (sym (plain true attribute b bs (mark_is_plain b t) ∙ ap (λ (xs : List ℕ). b ∷ xs) (plain_run attribute is_ascii_hexdigit hexadecimal_is_plain bs all))))
    (λ f. let all : list_all is_ascii_digit (b ∷ bs) ≡ true = rw f at broken in
    held_decimal attribute b bs f all ∙ ap (λ (xs : List ℕ). 38 ∷ 35 ∷ xs) (sym (plain_run attribute is_ascii_digit digit_is_plain (b ∷ bs) all)))

held_name : (attribute : Bool) (b : ℕ) (bs : List ℕ) → (b == 35) ≡ false → list_all is_ascii_alphanumeric (b ∷ bs) ≡ true → undone_at true attribute (Open Begun []) (b ∷ bs) ≡ 38 ∷ b ∷ bs
held_name attribute b bs other all =
    let parts = and_parts (is_ascii_alphanumeric b) (list_all is_ascii_alphanumeric bs) all in
    grow true attribute Begun Named [] b bs (rw (other, parts.0) refl) ∙ held_on attribute Named is_ascii_alphanumeric (λ d e. rw e refl) (b ∷ []) bs parts.1

held_reference : (attribute : Bool) (bs : List ℕ) → is_broken_off bs ≡ true → undone_at true attribute (Open Begun []) bs ≡ 38 ∷ undone_at true attribute Closed bs
held_reference attribute [] broken = refl
held_reference attribute (b ∷ bs) broken = either (b == 35)
    (λ t. let same : b ≡ 35 = eqb-true b 35 t in
    rw same (grow true attribute Begun Hashed [] 35 bs refl ∙ held_number attribute bs (rw t at broken) ∙ ap (λ (xs : List ℕ). 38 ∷ xs) (sym (plain true attribute 35 bs refl))))
    (λ f. let all : list_all is_ascii_alphanumeric (b ∷ bs) ≡ true = rw f at broken in
    held_name attribute b bs f all ∙ ap (λ (xs : List ℕ). 38 ∷ xs) (sym (plain_run attribute is_ascii_alphanumeric letter_is_plain (b ∷ bs) all)))

-- what is found after an ampersand
abbrev pub ampersand_at : Bool → Bool → List ℕ → ℕ × ℕ
ampersand_at cut attribute bs = cond (cut && is_broken_off bs) itself (reference_at attribute bs)

broken_undone : (cut attribute : Bool) (bs : List ℕ) → (cut && is_broken_off bs) ≡ true → Undone cut attribute (undone_at cut attribute (Open Begun []) bs) bs itself
broken_undone true attribute bs broken = as_itself true attribute _ bs (held_reference attribute bs broken)
broken_undone false attribute bs broken = absurd (true≢false (sym broken))

ampersand_undone : (cut attribute : Bool) (bs : List ℕ) → Undone cut attribute (undone_at cut attribute (Open Begun []) bs) bs (ampersand_at cut attribute bs)
ampersand_undone cut attribute bs = either (cut && is_broken_off bs)
    (λ t. otherwise cut attribute _ bs _ _ (cond-true (cut && is_broken_off bs) _ _ t) (broken_undone cut attribute bs t))
    (λ f. otherwise cut attribute _ bs _ _ (cond-false (cut && is_broken_off bs) _ _ f) (reference_undone cut attribute bs f))

pub undone_ampersand : (cut attribute : Bool) (bs : List ℕ) → undone_at cut attribute Closed (38 ∷ bs) ≡ encode_utf8 (ampersand_at cut attribute bs).0 ++ undone_at cut attribute Closed (drop ((ampersand_at cut attribute bs).1 - 1) bs)
unfolding class_of
undone_ampersand cut attribute bs = ampersand_undone cut attribute bs
