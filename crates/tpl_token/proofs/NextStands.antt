-- What is found next stands there, and where nothing is found, it is said why.
use Rattle.std.proofs.Common.{◌≡◌, ◌≢◌, ℕ, suc, ◌+◌, ◌<◌, ◌≤◌, Bool, true, false, ◌&&◌, List, [], ◌∷◌, ◌++◌, length, take, drop, Option, Some, None, Ok, Err, nat_eq, nat_lt, refl, sym, ap, ◌∙◌, subst, arith, append-nil, true≢false, codes}
use Rattle.std.proofs.lemmas.Bool.Decides.{nat_tests}
use Rattle.std.proofs.lemmas.List.{drop-drop, length-drop, take-append-drop, length-take-le}
use Rattle.std.proofs.lemmas.List.Sums.{prefix_len-le-length}
use Rattle.std.specs.List.{list_all, prefix_len}
use Rattle.tpl_token.specs.Characters.{begins, first_is, is_white}
use Rattle.tpl_token.specs.Grammar.{cursor, gap, close_mark, MayClose, IsInAction, IsInner, TokenStands, Next, IsTokenEnd}
use Rattle.tpl_token.specs.Lexemes.{IsLexeme}
use Rattle.tpl_token.specs.Refusals.{text_begins_comment, IsAtOffset, TokenMisses, TokenCause}
use Rattle.tpl_token.specs.Scanning.{TokenAdvance, Found, ScanStep, some_next, scan_step, inner_step, lexeme_at, inner_at, inside_at, opened_at, comment_token_at, commented_at, open_at, text_token_at, token_advance}
use Rattle.tpl_token.specs.Texts.{bytes_before, text_len, trims_before, kept_start, kept_end}
use Rattle.tpl_token.specs.declared.cursor.Cursor.{Cursor}
use Rattle.tpl_token.specs.declared.cursor.CursorState.{CursorState}
use Rattle.tpl_token.specs.declared.cursor.CursorState.TheVariants as state
use Rattle.tpl_token.specs.declared.refused.TokenRefused.{TokenRefused}
use Rattle.tpl_token.specs.declared.refused.TokenRefused.TheVariants as refused
use Rattle.tpl_token.specs.declared.token.Token.{Token}
use Rattle.tpl_token.specs.declared.token.TokenKind.{TokenKind}
use Rattle.tpl_token.specs.declared.token.TokenKind.TheVariants as kind
use Rattle.tpl_token.proofs.LexemesStand.{SaysLexeme, says_lexeme}
use Rattle.tpl_token.proofs.Marks.{split, either, both, begins-is, one_more, run_passes, run_stops}

-- what a search for the next token says
abbrev pub SaysNext : List ℕ → Cursor → TokenAdvance → Type 0
SaysNext text from (Ok (Some x)) = Next text from x.0 x.1
SaysNext text from (Ok None) = IsTokenEnd text from
SaysNext text from (Err why) = TokenCause why text from

-- what stands after a text is an action, or nothing
pub before_lands : (mark bytes : List ℕ) → 0 < length (drop (bytes_before mark bytes) bytes) → begins mark (drop (bytes_before mark bytes) bytes) ≡ true
before_lands mark [] some = absurd (omega arith)
before_lands mark (b ∷ bs) some = either (begins mark (b ∷ bs))
    (λ t. let none : bytes_before mark (b ∷ bs) ≡ 0 = rw t refl in rw none t)
    (λ f. let next : bytes_before mark (b ∷ bs) ≡ suc (bytes_before mark bs) = rw f (one_more (bytes_before mark bs)) in rw next (before_lands mark bs (rw next at some)))

pub before_fits : (mark bytes : List ℕ) → bytes_before mark bytes ≤ length bytes
before_fits mark [] = omega arith
before_fits mark (b ∷ bs) = either (begins mark (b ∷ bs)) (λ t. rw t (omega arith)) (λ f. rw f (omega (arith, before_fits mark bs)))

-- what a test of numbers says
lesser : (n m : ℕ) → nat_lt n m ≡ true → n < m
lesser n m e = grind (arith, nat_tests)

no_lesser : (n m : ℕ) → nat_lt n m ≡ false → m ≤ n
no_lesser n m e = grind (arith, nat_tests)

none_left : (n : ℕ) → nat_eq n 0 ≡ true → n ≡ 0
none_left n e = grind (arith, nat_tests)

some_left : (n : ℕ) → nat_eq n 0 ≡ false → 0 < n
some_left n e = grind (arith, nat_tests)

says_open : (text : List ℕ) (trims : Bool) (at : ℕ) → at ≤ length text → kept_end (drop at text) ≤ kept_start trims (drop at text) → (o : Option (Token × Cursor))
    → open_at (at + text_len (drop at text)) (drop (text_len (drop at text)) (drop at text)) ≡ o → SaysNext text (cursor (state.Text trims) at) (Ok o)
says_open text trims at fits none o e =
    let rest = drop at text in
    let n = text_len rest in
    let there : drop n rest ≡ drop (at + n) text = drop-drop n at text in
    split (nat_eq (length (drop n rest)) 0) e
    (λ t e. let empty = none_left (length (drop n rest)) t in
    subst (λ o. SaysNext text (cursor (state.Text trims) at) (Ok o)) e
    (record { trims = trims; offset = refl; nothing_left = none; up_to = omega (arith, empty, length-drop n rest, length-drop at text, before_fits (codes "{{") rest, fits) }))
    (λ f e. let some = some_left (length (drop n rest)) f in
    subst (λ o. SaysNext text (cursor (state.Text trims) at) (Ok o)) e
    (record {
      trims = trims_before (drop n rest);
      no_text = record { trims = trims; offset = refl; nothing_left = none; up_to = refl };
      mark = ap (begins (codes "{{")) (sym there) ∙ before_lands (codes "{{") rest some;
      trimming = ap trims_before (sym there);
      ends = refl;
      goes = refl;
    }))

says_text : (text : List ℕ) (trims : Bool) (at : ℕ) → at ≤ length text → (o : Option (Token × Cursor)) → text_token_at trims at (drop at text) ≡ o → SaysNext text (cursor (state.Text trims) at) (Ok o)
says_text text trims at fits o e =
    let rest = drop at text in
    split (nat_lt (kept_start trims rest) (kept_end rest)) e
    (λ t e. subst (λ o. SaysNext text (cursor (state.Text trims) at) (Ok o)) e
    (record { trims = trims; offset = refl; starts = refl; ends = refl; not_empty = omega (arith, lesser (kept_start trims rest) (kept_end rest) t); goes = refl }))
    (λ f e. says_open text trims at fits (no_lesser (kept_start trims rest) (kept_end rest) f) o e)

-- an action may end after white space
may_close : (m : CursorState) (opened : ℕ) (between : List ℕ) (trims : Bool) → IsInAction m opened → list_all is_white between ≡ true → (trims ≡ true → between ≢ []) → MayClose m between trims
may_close (state.Text _) opened between trims h white some = absurd h
may_close (state.Opened _ _) opened between trims h white some = (white, some)
may_close (state.Action _) opened between trims h white some = (white, some)
may_close state.Commented opened between trims h white some = absurd h

-- a token of an action
pub inner_stands : (what : TokenKind) (bytes rest text : List ℕ) (from : Cursor) (start end : ℕ) (to : Cursor) → IsLexeme what bytes rest → IsInner what text from start end to → TokenStands what text from start end to
inner_stands kind.Text bytes rest text from start end to l h = absurd l
inner_stands kind.Open bytes rest text from start end to l h = absurd l
inner_stands kind.Close bytes rest text from start end to l h = absurd l
inner_stands kind.Comment bytes rest text from start end to l h = absurd l
inner_stands kind.Name bytes rest text from start end to l h = h
inner_stands kind.Field bytes rest text from start end to l h = h
inner_stands kind.Dot bytes rest text from start end to l h = h
inner_stands kind.Variable bytes rest text from start end to l h = h
inner_stands (kind.Number n) bytes rest text from start end to l h = h
inner_stands (kind.Str value) bytes rest text from start end to l h = h
inner_stands kind.Declare bytes rest text from start end to l h = h
inner_stands kind.Assign bytes rest text from start end to l h = h
inner_stands kind.Bar bytes rest text from start end to l h = h
inner_stands kind.Comma bytes rest text from start end to l h = h
inner_stands kind.Left bytes rest text from start end to l h = h
inner_stands kind.Right bytes rest text from start end to l h = h

-- what misses at an offset of an action is the cause
caused : (why : TokenRefused) (text : List ℕ) (from : Cursor) (at : ℕ) (bytes : List ℕ) → IsAtOffset text from at bytes → TokenMisses why at bytes → TokenCause why text from
caused (refused.UnclosedAction p) text from at bytes a h = absurd h
caused (refused.UnclosedComment p) text from at bytes a h = absurd h
caused (refused.BadDelimiter p) text from at bytes a h = absurd h
caused refused.Memory text from at bytes a h = absurd h
caused (refused.BadCharacter p) text from at bytes a h = (at, bytes, a, h)
caused (refused.UnclosedString p) text from at bytes a h = (at, bytes, a, h)
caused (refused.BadNumber p) text from at bytes a h = (at, bytes, a, h)
caused (refused.BadEscape p) text from at bytes a h = (at, bytes, a, h)

says_inner : (text : List ℕ) (m : CursorState) (at opened : ℕ) (between bytes : List ℕ) → IsInAction m opened → text_begins_comment m (drop at text) ≡ false → drop at text ≡ between ++ bytes → list_all is_white between ≡ true → first_is is_white bytes ≡ false
    → (r : Found) → SaysLexeme (at + length between) bytes r → SaysNext text (cursor m at) (some_next (inner_step opened (at + length between) r))
says_inner text m at opened between bytes h none is white stops (Ok x) f =
    let long : length (take x.1 bytes) ≡ x.1 = length-take-le x.1 bytes f.fits in
    inner_stands x.0 (take x.1 bytes) (drop x.1 bytes) text (cursor m at) (at + length between) (at + length between + x.1) (cursor (state.Action opened) (at + length between + x.1)) f.lexeme
    (record {
      opened = opened;
      offset = h;
      between = between;
      lexeme = take x.1 bytes;
      more = drop x.1 bytes;
      spelled = is ∙ ap (λ (xs : List ℕ). between ++ xs) (sym (take-append-drop x.1 bytes));
      white = white;
      lexeme_is = f.lexeme;
      starts = refl;
      ends = ap (λ (n : ℕ). at + length between + n) (sym long);
      goes = refl;
    })
says_inner text m at opened between bytes h none is white stops (Err why) f =
    caused why text (cursor m at) (at + length between) bytes (record { opened = opened; inside = h; no_comment = none; between = between; spelled = is; white = white; stops = stops; stands = refl }) f

says_close : (text : List ℕ) (m : CursorState) (at opened : ℕ) (between bytes : List ℕ) (trims : Bool) → IsInAction m opened → drop at text ≡ between ++ bytes → list_all is_white between ≡ true → (trims ≡ true → between ≢ []) → begins (close_mark trims) bytes ≡ true
    → SaysNext text (cursor m at) (Ok (Some (scan_step kind.Close (at + length between) (length (close_mark trims)) (state.Text trims))))
says_close text m at opened between bytes trims h is white some mark = record {
  trims = trims;
  between = between;
  more = drop (length (close_mark trims)) bytes;
  spelled = is ∙ ap (λ (xs : List ℕ). between ++ xs) (begins-is (close_mark trims) bytes mark);
  allowed = may_close m opened between trims h white some;
  starts = refl;
  ends = refl;
  goes = refl;
}

-- after white space
says_behind : (text : List ℕ) (m : CursorState) (at opened : ℕ) (between bytes : List ℕ) → IsInAction m opened → text_begins_comment m (drop at text) ≡ false → drop at text ≡ between ++ bytes → list_all is_white between ≡ true → first_is is_white bytes ≡ false
    → (r : ScanStep) → inner_at opened (length between) (at + length between) bytes ≡ r → SaysNext text (cursor m at) (some_next r)
says_behind text m at opened between bytes h none is white stops r e =
    split (nat_eq (length bytes) 0) e
    (λ t e. subst (λ r. SaysNext text (cursor m at) (some_next r)) e (h, ap (list_all is_white) (is ∙ ap (λ (xs : List ℕ). between ++ xs) (empty bytes (none_left (length bytes) t)) ∙ append-nil between) ∙ white))
    (λ f e. split (begins (codes "}}") bytes) e (λ t e. subst (λ r. SaysNext text (cursor m at) (some_next r)) e (says_close text m at opened between bytes false h is white (λ x. absurd (true≢false (sym x))) t))
    (λ _ e. split (nat_lt 0 (length between) && begins (codes "-}}") bytes) e
    (λ t e. let b = both (nat_lt 0 (length between)) (begins (codes "-}}") bytes) t in
    subst (λ r. SaysNext text (cursor m at) (some_next r)) e (says_close text m at opened between bytes true h is white (λ _ n. no_length between (lesser 0 (length between) b.0) n) b.1))
    (λ _ e. subst (λ r. SaysNext text (cursor m at) (some_next r)) e (says_inner text m at opened between bytes h none is white stops (lexeme_at (at + length between) bytes)
    (says_lexeme (at + length between) bytes (no_length bytes (some_left (length bytes) f)) (lexeme_at (at + length between) bytes) refl)))))
  where
    empty : (bytes : List ℕ) → length bytes ≡ 0 → bytes ≡ []
    empty [] e = refl
    empty (b ∷ bs) e = absurd (omega (arith, e))

    no_length : (bytes : List ℕ) → 0 < length bytes → bytes ≢ []
    no_length bytes some none = omega (arith, some, ap length none)

says_inside : (text : List ℕ) (m : CursorState) (at opened : ℕ) → IsInAction m opened → text_begins_comment m (drop at text) ≡ false → (r : ScanStep) → inside_at opened at (drop at text) ≡ r → SaysNext text (cursor m at) (some_next r)
says_inside text m at opened h none r e =
    let rest = drop at text in
    let n = prefix_len is_white rest in
    let long : length (take n rest) ≡ n = length-take-le n rest (prefix_len-le-length is_white rest) in
    says_behind text m at opened (take n rest) (drop n rest) h none (sym (take-append-drop n rest)) (run_passes is_white rest) (run_stops is_white rest) r (rw long e)

-- a comment, up to its end
body_is : (body : List ℕ) → bytes_before (codes "*/") body < length body → body ≡ take (bytes_before (codes "*/") body) body ++ (codes "*/" ++ drop 2 (drop (bytes_before (codes "*/") body) body))
body_is body inside =
    let n = bytes_before (codes "*/") body in
    sym (take-append-drop n body) ∙ ap (λ (xs : List ℕ). take n body ++ xs) (begins-is (codes "*/") (drop n body) (before_lands (codes "*/") body (omega (arith, length-drop n body, inside))))

says_comment : (text : List ℕ) (trims : Bool) (at opened : ℕ) (body : List ℕ) → drop at text ≡ gap trims ++ (codes "/*" ++ body) → text_begins_comment (state.Opened trims opened) (drop at text) ≡ true
    → (r : ScanStep) → comment_token_at opened (at + length (gap trims)) body ≡ r → SaysNext text (cursor (state.Opened trims opened) at) (some_next r)
says_comment text trims at opened body is begun r e =
    let n = bytes_before (codes "*/") body in
    split (nat_lt n (length body)) e
    (λ t e. let inside = lesser n (length body) t in
    let long : length (take n body) ≡ n = length-take-le n body (before_fits (codes "*/") body) in
    let whole = body_is body inside in
    subst (λ r. SaysNext text (cursor (state.Opened trims opened) at) (some_next r)) e
    (record {
      trims = trims;
      opened = opened;
      offset = refl;
      body = take n body;
      more = drop 2 (drop n body);
      spelled = is ∙ ap (λ (xs : List ℕ). gap trims ++ (codes "/*" ++ xs)) whole;
      first = ap (bytes_before (codes "*/")) (sym whole) ∙ sym long;
      starts = refl;
      ends = omega (arith, long);
      goes = refl;
    }))
    (λ f e. subst (λ r. SaysNext text (cursor (state.Opened trims opened) at) (some_next r)) e (refl, begun))

says_opened : (text : List ℕ) (trims : Bool) (at opened : ℕ) (r : ScanStep) → opened_at trims opened at (drop at text) ≡ r → SaysNext text (cursor (state.Opened trims opened) at) (some_next r)
says_opened text true at opened r e = split (begins (codes " /*") (drop at text)) e
    (λ t e. says_comment text true at opened (drop 3 (drop at text)) (begins-is (codes " /*") (drop at text) t) t r e)
    (λ f e. says_inside text (state.Opened true opened) at opened refl f r e)
says_opened text false at opened r e = split (begins (codes "/*") (drop at text)) e
    (λ t e. says_comment text false at opened (drop 2 (drop at text)) (begins-is (codes "/*") (drop at text) t) t r e)
    (λ f e. says_inside text (state.Opened false opened) at opened refl f r e)

says_commented : (text : List ℕ) (at : ℕ) (r : ScanStep) → commented_at at (drop at text) ≡ r → SaysNext text (cursor state.Commented at) (some_next r)
says_commented text at r e =
    let rest = drop at text in
    split (begins (codes "}}") rest) e
    (λ t e. subst (λ r. SaysNext text (cursor state.Commented at) (some_next r)) e (record { trims = false; between = []; more = drop 2 rest; spelled = begins-is (codes "}}") rest t; allowed = refl; starts = omega arith; ends = refl; goes = refl }))
    (λ _ e. split (begins (codes " -}}") rest) e
    (λ t e. subst (λ r. SaysNext text (cursor state.Commented at) (some_next r)) e (record { trims = true; between = codes " "; more = drop 4 rest; spelled = begins-is (codes " -}}") rest t; allowed = refl; starts = refl; ends = refl; goes = refl }))
    (λ _ e. subst (λ r. SaysNext text (cursor state.Commented at) (some_next r)) e (refl, refl)))

-- What is found next stands there, and where nothing is found, it is said why.
pub says_next : (text : List ℕ) (m : CursorState) (at : ℕ) → at ≤ length text → (r : TokenAdvance) → token_advance text (cursor m at) ≡ r → SaysNext text (cursor m at) r
says_next text (state.Text trims) at fits r e = subst (SaysNext text (cursor (state.Text trims) at)) e (says_text text trims at fits (text_token_at trims at (drop at text)) refl)
says_next text (state.Opened trims opened) at fits r e = subst (SaysNext text (cursor (state.Opened trims opened) at)) e (says_opened text trims at opened (opened_at trims opened at (drop at text)) refl)
says_next text (state.Action opened) at fits r e = subst (SaysNext text (cursor (state.Action opened) at)) e (says_inside text (state.Action opened) at opened refl refl (inside_at opened at (drop at text)) refl)
says_next text state.Commented at fits r e = subst (SaysNext text (cursor state.Commented at)) e (says_commented text at (commented_at at (drop at text)) refl)
