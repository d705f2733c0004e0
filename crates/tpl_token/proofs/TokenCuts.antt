-- A text may be cut where its tokens begin and end.
use Rattle.std.proofs.Common.{◌≡◌, ℕ, ◌+◌, ◌-◌, ◌<◌, ◌≤◌, Bool, true, false, ◌⊎◌, inl, inr, List, [], ◌∷◌, ◌++◌, length, take, drop, get_or, nat_eq, reverse, refl, sym, ap, ◌∙◌, subst, arith, append_assoc, codes, ℤ, Some, Err}
use Rattle.std.proofs.lemmas.Bool.Decides.{nat_tests}
use Rattle.std.proofs.lemmas.List.{get_or-drop, get_or-append_right, length-append, length-drop, drop-drop, take-append-drop, length-take-le, get_or-take, get_or-reverse, take_at, drop_at}
use Rattle.std.proofs.lemmas.List.Sums.{prefix_len-le-length, prefix_len_passes, suffix_len-le-length}
use Rattle.std.proofs.lemmas.Str.{IsCharBoundary-after_ascii, IsCharBoundary-start}
use Rattle.std.proofs.lemmas.Str.Ascii.{IsAscii-nil, IsAscii-cons}
use Rattle.std.specs.List.{list_all, prefix_len, suffix_len}
use Rattle.std.specs.Str.{IsAscii, IsCharBoundary, IsUtf8}
use Rattle.tpl_token.specs.Answers.{TokensAnswers}
use Rattle.tpl_token.specs.Characters.{begins, first_is, is_name_byte, is_sign, is_white, is_word_byte, is_word_start}
use Rattle.tpl_token.specs.Grammar.{lexer_beginning, cursor, gap, open_len, close_mark, rest_at, IsTextToken, IsActionOpen, IsComment, IsClose, MayClose, IsInAction, IsInner, TokenStands, TokensRead, AreTokens}
use Rattle.tpl_token.specs.Lexemes.{IsLexeme}
use Rattle.tpl_token.specs.Numbers.{number}
use Rattle.tpl_token.specs.Refusals.{HasBadEscape, IsAtOffset, TokenMisses, TokenCause, IsTokenRefused}
use Rattle.tpl_token.specs.Spans.{AreCuts, IsCutAt}
use Rattle.tpl_token.specs.Strings.{spelling}
use Rattle.tpl_token.specs.Texts.{text_len, trims_before, kept_start, kept_end}
use Rattle.tpl_token.specs.declared.cursor.Cursor.{Cursor}
use Rattle.tpl_token.specs.declared.cursor.CursorState.{CursorState}
use Rattle.tpl_token.specs.declared.cursor.CursorState.TheVariants as state
use Rattle.tpl_token.specs.declared.refused.TokenRefused.{TokenRefused}
use Rattle.tpl_token.specs.declared.refused.TokenRefused.TheVariants as refused
use Rattle.tpl_token.specs.declared.token.Token.{Token}
use Rattle.tpl_token.specs.declared.token.TokenKind.{TokenKind}
use Rattle.tpl_token.specs.declared.token.TokenKind.TheVariants as kind
use Rattle.tpl_token.proofs.Cuts.{cut_before}
use Rattle.tpl_token.proofs.Marks.{begins-is, both, either, run_passes}
use Rattle.tpl_token.proofs.NumberLaws.{number_digital}
use Rattle.tpl_token.proofs.NextStands.{before_fits, before_lands}
use Rattle.tpl_token.proofs.OneAnswer.{onward}

-- bytes of ASCII
white_ascii : (bytes : List ℕ) → list_all is_white bytes ≡ true → IsAscii bytes
white_ascii [] all = IsAscii-nil
white_ascii (b ∷ bs) all =
    let h = both (is_white b) (list_all is_white bs) all in
    IsAscii-cons b bs (let w = h.0 in let e : b < 128 = grind (arith, nat_tests) in e) (white_ascii bs h.1)

word_ascii : (bytes : List ℕ) → list_all is_word_byte bytes ≡ true → IsAscii bytes
word_ascii [] all = IsAscii-nil
word_ascii (b ∷ bs) all =
    let h = both (is_word_byte b) (list_all is_word_byte bs) all in
    IsAscii-cons b bs (let w = h.0 in let e : b < 128 = grind (arith, nat_tests) in e) (word_ascii bs h.1)

-- after an ASCII byte
after_byte : (text : List ℕ) (at k next : ℕ) → IsUtf8 text → k < length (drop at text) → get_or (drop at text) k 0 < 128 → next ≡ at + k + 1 → IsCharBoundary text next
after_byte text at k next utf8 inside ascii is =
    let same : at + k + 1 ≡ next = omega (arith, is) in
    subst (IsCharBoundary text) same (IsCharBoundary-after_ascii text (at + k) utf8 (omega (arith, inside, length-drop at text)) (omega (arith, ascii, get_or-drop at text k 0)))

-- a byte of a prefix
front_byte : (xs ys : List ℕ) (i : ℕ) → i < length xs → get_or (xs ++ ys) i 0 ≡ get_or xs i 0
front_byte xs ys i inside = sym (get_or-take (length xs) (xs ++ ys) i 0 inside) ∙ ap (λ (zs : List ℕ). get_or zs i 0) (take_at xs ys (length xs) refl)

-- after bytes of ASCII, or none
after_run : (text : List ℕ) (at next : ℕ) (front more : List ℕ) → IsUtf8 text → IsCharBoundary text at → drop at text ≡ front ++ more → IsAscii front → next ≡ at + length front → IsCharBoundary text next
after_run text at next [] more utf8 cut is ascii len = let same : at ≡ next = omega (arith, len) in subst (IsCharBoundary text) same cut
after_run text at next (b ∷ bs) more utf8 cut is ascii len =
    let k = length bs in
    let there : get_or (drop at text) k 0 ≡ get_or (b ∷ bs) k 0 = ap (λ (xs : List ℕ). get_or xs k 0) is ∙ front_byte (b ∷ bs) more k (omega arith) in
    after_byte text at k next utf8 (omega (arith, ap length is, length-append (b ∷ bs) more)) (omega (arith, there, ascii k)) (omega (arith, len))

-- after an ASCII byte that ends other bytes
after_last : (text : List ℕ) (at next b : ℕ) (inner more : List ℕ) → IsUtf8 text → drop at text ≡ (inner ++ b ∷ []) ++ more → b < 128 → next ≡ at + length (inner ++ b ∷ []) → IsCharBoundary text next
after_last text at next b inner more utf8 is ascii len =
    let k = length inner in
    let whole = length-append inner (b ∷ []) in
    let there : get_or (drop at text) k 0 ≡ b = ap (λ (xs : List ℕ). get_or xs k 0) is ∙ front_byte (inner ++ b ∷ []) more k (omega (arith, whole)) ∙ get_or-append_right inner (b ∷ []) k k 0 refl (omega arith) ∙ at_zero k b in
    after_byte text at k next utf8 (omega (arith, ap length is, length-append (inner ++ b ∷ []) more, whole)) (omega (arith, there, ascii)) (omega (arith, len, whole))
  where
    at_zero : (k b : ℕ) → get_or (b ∷ []) (k - k) 0 ≡ b
    at_zero k b = let e : k - k ≡ 0 = omega arith in rw e refl

-- the bytes of a token of an action are ASCII, or end in it
EndsPlain : List ℕ → Type 0
EndsPlain bytes = IsAscii bytes ⊎ ((inner : List ℕ) × (b : ℕ) × (bytes ≡ inner ++ b ∷ []) × (b < 128))

after_token : (text : List ℕ) (at next : ℕ) (bytes more : List ℕ) → IsUtf8 text → IsCharBoundary text at → drop at text ≡ bytes ++ more → EndsPlain bytes → next ≡ at + length bytes → IsCharBoundary text next
unfolding EndsPlain
after_token text at next bytes more utf8 cut is (inl ascii) len = after_run text at next bytes more utf8 cut is ascii len
after_token text at next bytes more utf8 cut is (inr h) len = after_last text at next h.1 h.0 more utf8 (is ∙ ap (λ (xs : List ℕ). xs ++ more) h.2) h.3 (len ∙ ap (λ (xs : List ℕ). at + length xs) h.2)

name_ascii : (bytes : List ℕ) → is_name_byte bytes ≡ true → IsAscii bytes
name_ascii bytes e = word_ascii bytes (both (first_is is_word_start bytes) (list_all is_word_byte bytes) e).1

number_ascii : (bytes : List ℕ) (n : ℤ) → number bytes ≡ Some n → IsAscii bytes
number_ascii [] n e = IsAscii-nil
number_ascii (b ∷ bs) n e =
    let h = number_digital (b ∷ bs) n e in
    either (is_sign b)
    (λ t. let words : list_all is_word_byte bs ≡ true = rw t at h.words in IsAscii-cons b bs (let l : b < 128 = grind (arith, nat_tests) in l) (word_ascii bs words))
    (λ f. let words : list_all is_word_byte (b ∷ bs) ≡ true = rw f at h.words in word_ascii (b ∷ bs) words)

known_ascii : (bytes known : List ℕ) → bytes ≡ known → IsAscii known → IsAscii bytes
known_ascii bytes known is ascii = subst IsAscii (sym is) ascii

one_ascii : (b : ℕ) (bs : List ℕ) → b < 128 → IsAscii bs → IsAscii (b ∷ bs)
one_ascii b bs small ascii = IsAscii-cons b bs small ascii

quoted_plain : (q : ℕ) (bytes inner : List ℕ) → q < 128 → bytes ≡ q ∷ (inner ++ q ∷ []) → EndsPlain bytes
unfolding EndsPlain
quoted_plain q bytes inner small is = inr (q ∷ inner, q, is, small)

lexeme_plain : (what : TokenKind) (bytes rest : List ℕ) → IsLexeme what bytes rest → EndsPlain bytes
unfolding EndsPlain
lexeme_plain kind.Name bytes rest h = inl (name_ascii bytes h.0)
lexeme_plain kind.Field bytes rest h = inl (known_ascii bytes (46 ∷ h.0) h.1 (one_ascii 46 h.0 (omega arith) (name_ascii h.0 h.2)))
lexeme_plain kind.Dot bytes rest h = inl (known_ascii bytes (codes ".") h.0 (one_ascii 46 [] (omega arith) IsAscii-nil))
lexeme_plain kind.Variable bytes rest (inl h) = inl (known_ascii bytes (codes "$") h.0 (one_ascii 36 [] (omega arith) IsAscii-nil))
lexeme_plain kind.Variable bytes rest (inr h) = inl (known_ascii bytes (36 ∷ h.0) h.1 (one_ascii 36 h.0 (omega arith) (name_ascii h.0 h.2)))
lexeme_plain (kind.Number n) bytes rest h = inl (number_ascii bytes n h.0)
lexeme_plain (kind.Str value) bytes rest (inl h) = quoted_plain 34 bytes (spelling h.parts) (omega arith) h.spelled
lexeme_plain (kind.Str value) bytes rest (inr h) = quoted_plain 96 bytes h.inner (omega arith) h.spelled
lexeme_plain kind.Declare bytes rest h = inl (known_ascii bytes (codes ":=") h (one_ascii 58 (61 ∷ []) (omega arith) (one_ascii 61 [] (omega arith) IsAscii-nil)))
lexeme_plain kind.Assign bytes rest h = inl (known_ascii bytes (codes "=") h (one_ascii 61 [] (omega arith) IsAscii-nil))
lexeme_plain kind.Bar bytes rest h = inl (known_ascii bytes (codes "|") h (one_ascii 124 [] (omega arith) IsAscii-nil))
lexeme_plain kind.Comma bytes rest h = inl (known_ascii bytes (codes ",") h (one_ascii 44 [] (omega arith) IsAscii-nil))
lexeme_plain kind.Left bytes rest h = inl (known_ascii bytes (codes "(") h (one_ascii 40 [] (omega arith) IsAscii-nil))
lexeme_plain kind.Right bytes rest h = inl (known_ascii bytes (codes ")") h (one_ascii 41 [] (omega arith) IsAscii-nil))
lexeme_plain kind.Text bytes rest h = absurd h
lexeme_plain kind.Open bytes rest h = absurd h
lexeme_plain kind.Close bytes rest h = absurd h
lexeme_plain kind.Comment bytes rest h = absurd h

-- the text may be cut where it is read, and at the `{{` of the action there
pub record IsCutCursor (text : List ℕ) (c : Cursor) : Type 0 where
  pub here : IsCharBoundary text c.at
  pub opened : (offset : ℕ) → IsInAction c.state offset → IsCharBoundary text offset

-- a token's two cuts, and the cursor after it
pub record NextCuts (text : List ℕ) (start end : ℕ) (to : Cursor) : Type 0 where
  pub begins_at : IsCharBoundary text start
  pub ends_at : IsCharBoundary text end
  pub then : IsCutCursor text to

-- a new action, or the same one
action_cursor : (text : List ℕ) (opened at : ℕ) (to : Cursor) → to ≡ cursor (state.Action opened) at → IsCharBoundary text at → IsCharBoundary text opened → IsCutCursor text to
action_cursor text opened at to is cut offset = subst (IsCutCursor text) (sym is) (record { here = cut; opened = λ p e. subst (IsCharBoundary text) e offset })

cuts_inner : (what : TokenKind) (text : List ℕ) (from : Cursor) (start end : ℕ) (to : Cursor) → IsUtf8 text → IsCutCursor text from → IsInner what text from start end to → NextCuts text start end to
cuts_inner what text from start end to utf8 c h =
    let begun = after_run text from.at start h.between (h.lexeme ++ h.more) utf8 c.here h.spelled (white_ascii h.between h.white) h.starts in
    let rest : drop start text ≡ h.lexeme ++ h.more = dropped text from.at start h.between (h.lexeme ++ h.more) h.spelled h.starts in
    let ended = after_token text start end h.lexeme h.more utf8 begun rest (lexeme_plain what h.lexeme h.more h.lexeme_is) h.ends in
    record { begins_at = begun; ends_at = ended; then = action_cursor text h.opened end to h.goes ended (c.opened h.opened h.offset) }
  where
    dropped : (text : List ℕ) (at next : ℕ) (front more : List ℕ) → drop at text ≡ front ++ more → next ≡ at + length front → drop next text ≡ more
    dropped text at next front more is len = ap (λ (i : ℕ). drop i text) len ∙ sym (drop-drop (length front) at text) ∙ ap (drop (length front)) is ∙ drop_at front more (length front) refl

may_ascii : (m : CursorState) (between : List ℕ) (trims : Bool) → MayClose m between trims → IsAscii between
may_ascii (state.Text _) between trims h = absurd h
may_ascii (state.Opened _ _) between trims h = white_ascii between h.0
may_ascii (state.Action _) between trims h = white_ascii between h.0
may_ascii state.Commented between true h = known_ascii between (codes " ") h (one_ascii 32 [] (omega arith) IsAscii-nil)
may_ascii state.Commented between false h = known_ascii between [] h IsAscii-nil

close_ascii : (trims : Bool) → IsAscii (close_mark trims)
close_ascii true = one_ascii 45 (125 ∷ 125 ∷ []) (omega arith) (one_ascii 125 (125 ∷ []) (omega arith) (one_ascii 125 [] (omega arith) IsAscii-nil))
close_ascii false = one_ascii 125 (125 ∷ []) (omega arith) (one_ascii 125 [] (omega arith) IsAscii-nil)

gap_ascii : (trims : Bool) → IsAscii (gap trims)
gap_ascii true = one_ascii 32 [] (omega arith) IsAscii-nil
gap_ascii false = IsAscii-nil

open_mark : Bool → List ℕ
open_mark true = codes "{{-"
open_mark false = codes "{{"

-- a cursor in text, and one after a comment
text_cursor : (text : List ℕ) (trims : Bool) (at : ℕ) (to : Cursor) → to ≡ cursor (state.Text trims) at → IsCharBoundary text at → IsCutCursor text to
text_cursor text trims at to is cut = subst (IsCutCursor text) (sym is) (record { here = cut; opened = λ p e. absurd e })

commented_cursor : (text : List ℕ) (at : ℕ) (to : Cursor) → to ≡ cursor state.Commented at → IsCharBoundary text at → IsCutCursor text to
commented_cursor text at to is cut = subst (IsCutCursor text) (sym is) (record { here = cut; opened = λ p e. absurd e })

opened_cursor : (text : List ℕ) (trims : Bool) (start at : ℕ) (to : Cursor) → to ≡ cursor (state.Opened trims start) at → IsCharBoundary text at → IsCharBoundary text start → IsCutCursor text to
opened_cursor text trims start at to is cut offset = subst (IsCutCursor text) (sym is) (record { here = cut; opened = λ p e. subst (IsCharBoundary text) e offset })

dropped : (text : List ℕ) (at next : ℕ) (front more : List ℕ) → drop at text ≡ front ++ more → next ≡ at + length front → drop next text ≡ more
dropped text at next front more is len = ap (λ (i : ℕ). drop i text) len ∙ sym (drop-drop (length front) at text) ∙ ap (drop (length front)) is ∙ drop_at front more (length front) refl

cuts_close : (text : List ℕ) (from : Cursor) (start end : ℕ) (to : Cursor) → IsUtf8 text → IsCutCursor text from → IsClose text from start end to → NextCuts text start end to
cuts_close text from start end to utf8 c h =
    let begun = after_run text from.at start h.between (close_mark h.trims ++ h.more) utf8 c.here h.spelled (may_ascii from.state h.between h.trims h.allowed) h.starts in
    let rest = dropped text from.at start h.between (close_mark h.trims ++ h.more) h.spelled h.starts in
    let ended = after_run text start end (close_mark h.trims) h.more utf8 begun rest (close_ascii h.trims) h.ends in
    record { begins_at = begun; ends_at = ended; then = text_cursor text h.trims end to h.goes ended }

cuts_comment : (text : List ℕ) (from : Cursor) (start end : ℕ) (to : Cursor) → IsUtf8 text → IsCutCursor text from → IsComment text from start end to → NextCuts text start end to
cuts_comment text from start end to utf8 c h =
    let tail = 47 ∷ 42 ∷ (h.body ++ 42 ∷ 47 ∷ h.more) in
    let inner : List ℕ = 47 ∷ 42 ∷ (h.body ++ 42 ∷ []) in
    let begun = after_run text from.at start (gap h.trims) tail utf8 c.here h.spelled (gap_ascii h.trims) h.starts in
    let rest = dropped text from.at start (gap h.trims) tail h.spelled h.starts in
    let whole : tail ≡ (inner ++ 47 ∷ []) ++ h.more =
    ap (λ (xs : List ℕ). 47 ∷ 42 ∷ xs) (sym (append_assoc h.body (42 ∷ []) (47 ∷ h.more)) ∙ sym (append_assoc (h.body ++ 42 ∷ []) (47 ∷ []) h.more)) in
    let ended = after_last text start end 47 inner h.more utf8 (rest ∙ whole) (omega arith) (omega (arith, h.ends, length-append inner (47 ∷ []), length-append h.body (42 ∷ []))) in
    record { begins_at = begun; ends_at = ended; then = commented_cursor text end to h.goes ended }

-- where `{{` stands
at_open : (text : List ℕ) (at : ℕ) → at ≤ length text → begins (codes "{{") (drop at text) ≡ true → IsCharBoundary text at
at_open text at fits mark =
    let byte : get_or (drop at text) 0 0 ≡ 123 = ap (λ (xs : List ℕ). get_or xs 0 0) (begins-is (codes "{{") (drop at text) mark) in
    let same : get_or (drop at text) 0 0 ≡ get_or text at 0 = get_or-drop at text 0 0 ∙ ap (λ (i : ℕ). get_or text i 0) (let e : at + 0 ≡ at = omega arith in e) in
    cut_before text at fits (omega (arith, byte, same))

-- where a text ends
landing : (text : List ℕ) (at : ℕ) → at ≤ length text → IsCharBoundary text (at + text_len (drop at text))
landing text at fits =
    let rest = drop at text in
    let n = text_len rest in
    let there : drop n rest ≡ drop (at + n) text = drop-drop n at text in
    let within : at + n ≤ length text = omega (arith, before_fits (codes "{{") rest, length-drop at text, fits) in
    either (nat_eq (length (drop n rest)) 0)
    (λ t. let end : length (drop n rest) ≡ 0 = grind (arith, nat_tests) in (within, λ inside high. absurd (omega (arith, end, inside, length-drop n rest, length-drop at text, before_fits (codes "{{") rest))))
    (λ f. let some : 0 < length (drop n rest) = grind (arith, nat_tests) in at_open text (at + n) within (ap (begins (codes "{{")) (sym there) ∙ before_lands (codes "{{") rest some))

open_front : (trims : Bool) (rest : List ℕ) → begins (codes "{{") rest ≡ true → trims_before rest ≡ trims → (more : List ℕ) × (rest ≡ open_mark trims ++ more) × IsAscii (open_mark trims) × (open_len trims ≡ length (open_mark trims))
unfolding open_mark
open_front true rest mark e =
    (drop 3 rest, begins-is (codes "{{-") rest (both (begins (codes "{{-") rest) (first_is is_white (drop 3 rest)) e).0, one_ascii 123 (123 ∷ 45 ∷ []) (omega arith) (one_ascii 123 (45 ∷ []) (omega arith) (one_ascii 45 [] (omega arith) IsAscii-nil)), refl)
open_front false rest mark e = (drop 2 rest, begins-is (codes "{{") rest mark, one_ascii 123 (123 ∷ []) (omega arith) (one_ascii 123 [] (omega arith) IsAscii-nil), refl)

cuts_open : (text : List ℕ) (from : Cursor) (start end : ℕ) (to : Cursor) → IsUtf8 text → from.at ≤ length text → IsActionOpen text from start end to → NextCuts text start end to
cuts_open text from start end to utf8 fits h =
    let begun = subst (IsCharBoundary text) (sym h.no_text.up_to) (landing text from.at fits) in
    let f = open_front h.trims (drop start text) h.mark h.trimming in
    let ended = after_run text start end (open_mark h.trims) f.0 utf8 begun f.1 f.2 (omega (arith, h.ends, f.3)) in
    record { begins_at = begun; ends_at = ended; then = opened_cursor text h.trims start end to h.goes ended begun }

start_cut : (text : List ℕ) (trims : Bool) (at : ℕ) → IsUtf8 text → IsCharBoundary text at → IsCharBoundary text (at + kept_start trims (drop at text))
start_cut text false at utf8 here = subst (IsCharBoundary text) (let e : at ≡ at + 0 = omega arith in e) here
start_cut text true at utf8 here =
    let rest = drop at text in
    let part = take (text_len rest) rest in
    let n = prefix_len is_white part in
    let whole : rest ≡ take n part ++ (drop n part ++ drop (text_len rest) rest) =
    sym (take-append-drop (text_len rest) rest) ∙ ap (λ (xs : List ℕ). xs ++ drop (text_len rest) rest) (sym (take-append-drop n part)) ∙ append_assoc (take n part) (drop n part) (drop (text_len rest) rest) in
    after_run text at (at + n) (take n part) (drop n part ++ drop (text_len rest) rest) utf8 here whole (white_ascii (take n part) (run_passes is_white part)) (omega (arith, length-take-le n part (prefix_len-le-length is_white part)))

-- the white space at the end of a text begins with white space
white_tail : (part : List ℕ) → 0 < suffix_len is_white part → is_white (get_or part (length part - suffix_len is_white part) 0) ≡ true
white_tail part some =
    let s = suffix_len is_white part in
    let k = s - 1 in
    let passes = prefix_len_passes is_white (reverse part) k 0 (omega (arith, some)) in
    let there : get_or (reverse part) k 0 ≡ get_or part (length part - s) 0 =
    get_or-reverse part k 0 (omega (arith, some, suffix_len-le-length is_white part)) ∙ ap (λ (i : ℕ). get_or part i 0) (let e : length part - 1 - k ≡ length part - s = omega (arith, some, suffix_len-le-length is_white part) in e) in
    ap is_white (sym there) ∙ passes

end_cut : (text : List ℕ) (at : ℕ) → at ≤ length text → IsCharBoundary text (at + kept_end (drop at text))
end_cut text at fits =
    let rest = drop at text in
    let n = text_len rest in
    let part = take n rest in
    let s = suffix_len is_white part in
    let long : length part ≡ n = length-take-le n rest (before_fits (codes "{{") rest) in
    either (trims_before (drop n rest))
    (λ t. let kept : kept_end rest ≡ n - s = rw t refl in
    subst (λ (k : ℕ). IsCharBoundary text (at + k)) (sym kept)
    (either (nat_eq s 0)
    (λ z. let none : s ≡ 0 = grind (arith, nat_tests) in subst (λ (k : ℕ). IsCharBoundary text (at + k)) (let e : n ≡ n - s = omega (arith, none) in e) (landing text at fits))
    (λ z. let some : 0 < s = grind (arith, nat_tests) in
    let white = white_tail part some in
    let p = n - s in
    let same : get_or part (length part - s) 0 ≡ get_or text (at + p) 0 =
    ap (λ (i : ℕ). get_or part i 0) (let e : length part - s ≡ p = omega (arith, long) in e) ∙ get_or-take n rest p 0 (omega (arith, some, long, suffix_len-le-length is_white part)) ∙ get_or-drop at text p 0 in
    let small = white_small (get_or part (length part - s) 0) white in
    cut_before text (at + p) (omega (arith, before_fits (codes "{{") rest, length-drop at text, fits)) (omega (arith, small, same)))))
    (λ f. let kept : kept_end rest ≡ n = rw f refl in subst (λ (k : ℕ). IsCharBoundary text (at + k)) (sym kept) (landing text at fits))
  where
    white_small : (b : ℕ) → is_white b ≡ true → b < 128
    white_small b white = grind (arith, nat_tests)

cuts_text : (text : List ℕ) (from : Cursor) (start end : ℕ) (to : Cursor) → IsUtf8 text → IsCutCursor text from → from.at ≤ length text → IsTextToken text from start end to → NextCuts text start end to
cuts_text text from start end to utf8 c fits h = record {
  begins_at = subst (IsCharBoundary text) (sym h.starts) (start_cut text h.trims from.at utf8 c.here);
  ends_at = subst (IsCharBoundary text) (sym h.ends) (end_cut text from.at fits);
  then = text_cursor text false (from.at + text_len (rest_at text from)) to h.goes (landing text from.at fits);
}

next_cuts : (what : TokenKind) (text : List ℕ) (from : Cursor) (start end : ℕ) (to : Cursor) → IsUtf8 text → IsCutCursor text from → from.at ≤ length text → TokenStands what text from start end to → NextCuts text start end to
next_cuts kind.Text text from start end to utf8 c fits h = cuts_text text from start end to utf8 c fits h
next_cuts kind.Open text from start end to utf8 c fits h = cuts_open text from start end to utf8 fits h
next_cuts kind.Close text from start end to utf8 c fits h = cuts_close text from start end to utf8 c h
next_cuts kind.Comment text from start end to utf8 c fits h = cuts_comment text from start end to utf8 c h
next_cuts kind.Name text from start end to utf8 c fits h = cuts_inner kind.Name text from start end to utf8 c h
next_cuts kind.Field text from start end to utf8 c fits h = cuts_inner kind.Field text from start end to utf8 c h
next_cuts kind.Dot text from start end to utf8 c fits h = cuts_inner kind.Dot text from start end to utf8 c h
next_cuts kind.Variable text from start end to utf8 c fits h = cuts_inner kind.Variable text from start end to utf8 c h
next_cuts (kind.Number n) text from start end to utf8 c fits h = cuts_inner (kind.Number n) text from start end to utf8 c h
next_cuts (kind.Str value) text from start end to utf8 c fits h = cuts_inner (kind.Str value) text from start end to utf8 c h
next_cuts kind.Declare text from start end to utf8 c fits h = cuts_inner kind.Declare text from start end to utf8 c h
next_cuts kind.Assign text from start end to utf8 c fits h = cuts_inner kind.Assign text from start end to utf8 c h
next_cuts kind.Bar text from start end to utf8 c fits h = cuts_inner kind.Bar text from start end to utf8 c h
next_cuts kind.Comma text from start end to utf8 c fits h = cuts_inner kind.Comma text from start end to utf8 c h
next_cuts kind.Left text from start end to utf8 c fits h = cuts_inner kind.Left text from start end to utf8 c h
next_cuts kind.Right text from start end to utf8 c fits h = cuts_inner kind.Right text from start end to utf8 c h

reads_cuts : (text : List ℕ) (from : Cursor) (tokens : List Token) (to : Cursor) → IsUtf8 text → IsCutCursor text from → from.at ≤ length text → TokensRead text from tokens to → AreCuts text tokens × IsCutCursor text to
reads_cuts text from [] to utf8 c fits h = (tt, subst (IsCutCursor text) h c)
reads_cuts text from (t ∷ tokens) to utf8 c fits h =
    let n = next_cuts t.kind text from t.start t.end h.0 utf8 c fits h.1 in
    let more = reads_cuts text h.0 tokens to utf8 n.then (onward text from t h.0 fits h.1).within h.2 in
    ((n.begins_at, n.ends_at, more.0), more.1)

begun_cuts : (text : List ℕ) → IsUtf8 text → IsCutCursor text lexer_beginning
begun_cuts text utf8 = record { here = IsCharBoundary-start text utf8; opened = λ p e. absurd e }

-- The text may be cut at its tokens.
pub tokens_cut : (text : List ℕ) (tokens : List Token) → IsUtf8 text → AreTokens text tokens → AreCuts text tokens
tokens_cut text tokens utf8 h = (reads_cuts text lexer_beginning tokens h.last utf8 (begun_cuts text utf8) (omega arith) h.reads).0

-- an offset of an action after white space
at_cut : (text : List ℕ) (from : Cursor) (at : ℕ) (bytes : List ℕ) → IsUtf8 text → IsCutCursor text from → IsAtOffset text from at bytes → IsCharBoundary text at
at_cut text from at bytes utf8 c a = after_run text from.at at a.between bytes utf8 c.here a.spelled (white_ascii a.between a.white) a.stands

-- a backslash in a string
escape_cut : (text : List ℕ) (from : Cursor) (start n offset : ℕ) (bytes : List ℕ) → IsAtOffset text from start bytes → HasBadEscape bytes n → offset ≡ start + n → start ≤ length text → IsCharBoundary text offset
escape_cut text from start n offset bytes a b is fits =
    let front : List ℕ = 34 ∷ spelling b.parts in
    let whole : drop start text ≡ front ++ 92 ∷ b.more = dropped text from.at start a.between bytes a.spelled a.stands ∙ b.spelled in
    let long : length front ≡ n = omega (arith, b.offset) in
    let byte : get_or (drop start text) n 0 ≡ 92 = ap (λ (xs : List ℕ). get_or xs n 0) whole ∙ get_or-append_right front (92 ∷ b.more) n n 0 long (omega arith) ∙ ap (λ (i : ℕ). get_or (92 ∷ b.more) i 0) (let e : n - n ≡ 0 = omega arith in e) in
    cut_before text offset (omega (arith, is, long, ap length whole, length-append front (92 ∷ b.more), length-drop start text)) (omega (arith, byte, get_or-drop start text n 0, ap (λ (i : ℕ). get_or text i 0) is))

missed_cut : (why : TokenRefused) (text : List ℕ) (from : Cursor) (at : ℕ) (bytes : List ℕ) → IsUtf8 text → IsCutCursor text from → IsAtOffset text from at bytes → TokenMisses why at bytes → IsCutAt text why
missed_cut (refused.UnclosedAction p) text from at bytes utf8 c a h = absurd h
missed_cut (refused.UnclosedComment p) text from at bytes utf8 c a h = absurd h
missed_cut (refused.BadDelimiter p) text from at bytes utf8 c a h = absurd h
missed_cut refused.Memory text from at bytes utf8 c a h = absurd h
missed_cut (refused.BadCharacter p) text from at bytes utf8 c a h = subst (IsCharBoundary text) (sym h.0) (at_cut text from at bytes utf8 c a)
missed_cut (refused.BadNumber p) text from at bytes utf8 c a h = subst (IsCharBoundary text) (sym h.0) (at_cut text from at bytes utf8 c a)
missed_cut (refused.UnclosedString p) text from at bytes utf8 c a h = subst (IsCharBoundary text) (sym h.0) (at_cut text from at bytes utf8 c a)
missed_cut (refused.BadEscape p) text from at bytes utf8 c a h = escape_cut text from at h.0 p bytes a h.1 h.2 (at_cut text from at bytes utf8 c a).0

cause_cut : (why : TokenRefused) (text : List ℕ) (from : Cursor) → IsUtf8 text → IsCutCursor text from → TokenCause why text from → IsCutAt text why
cause_cut (refused.UnclosedAction p) text from utf8 c h = c.opened p h.0
cause_cut (refused.UnclosedComment p) text from utf8 c h = c.opened p h.0
cause_cut (refused.BadDelimiter p) text from utf8 c h = subst (IsCharBoundary text) (sym h.1) c.here
cause_cut (refused.BadCharacter p) text from utf8 c h = missed_cut (refused.BadCharacter p) text from h.0 h.1 utf8 c h.2 h.3
cause_cut (refused.BadNumber p) text from utf8 c h = missed_cut (refused.BadNumber p) text from h.0 h.1 utf8 c h.2 h.3
cause_cut (refused.UnclosedString p) text from utf8 c h = missed_cut (refused.UnclosedString p) text from h.0 h.1 utf8 c h.2 h.3
cause_cut (refused.BadEscape p) text from utf8 c h = missed_cut (refused.BadEscape p) text from h.0 h.1 utf8 c h.2 h.3
cause_cut refused.Memory text from utf8 c h = tt

-- The text may be cut where it is refused.
pub refused_cut : (text : List ℕ) (why : TokenRefused) → IsUtf8 text → IsTokenRefused text why → IsCutAt text why
refused_cut text why utf8 h = cause_cut why text h.last utf8 (reads_cuts text lexer_beginning h.tokens h.last utf8 (begun_cuts text utf8) (omega arith) h.reads).1 h.cause

pub answer_cut : (text : List ℕ) (why : TokenRefused) → IsUtf8 text → TokensAnswers text (Err why) → IsCutAt text why
answer_cut text refused.Memory utf8 a = tt
answer_cut text (refused.UnclosedAction p) utf8 a = refused_cut text (refused.UnclosedAction p) utf8 a
answer_cut text (refused.BadCharacter p) utf8 a = refused_cut text (refused.BadCharacter p) utf8 a
answer_cut text (refused.UnclosedString p) utf8 a = refused_cut text (refused.UnclosedString p) utf8 a
answer_cut text (refused.UnclosedComment p) utf8 a = refused_cut text (refused.UnclosedComment p) utf8 a
answer_cut text (refused.BadNumber p) utf8 a = refused_cut text (refused.BadNumber p) utf8 a
answer_cut text (refused.BadDelimiter p) utf8 a = refused_cut text (refused.BadDelimiter p) utf8 a
answer_cut text (refused.BadEscape p) utf8 a = refused_cut text (refused.BadEscape p) utf8 a
