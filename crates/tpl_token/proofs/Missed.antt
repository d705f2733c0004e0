-- Where no token stands, its cause is found.
use Rattle.std.proofs.Common.{◌≡◌, ◌≢◌, ℕ, ◌+◌, ◌<◌, true, false, ◌&&◌, ◌⊎◌, inl, inr, IsTrue, List, [], ◌∷◌, ◌++◌, length, take, drop, Option, Some, None, option_map, Ok, Err, ℤ, nat_eq, nat_lt, refl, sym, ap, ◌∙◌, subst, arith, append-nil, true≢false, codes}
use Rattle.std.proofs.lemmas.Bool.Decides.{nat_tests}
use Rattle.std.proofs.lemmas.List.{take-append-drop}
use Rattle.std.specs.Char.{is_ascii_digit}
use Rattle.std.specs.List.{list_all}
use Rattle.tpl_token.specs.Characters.{begins, first_is, is_sign, is_white, is_word_start}
use Rattle.tpl_token.specs.Grammar.{cursor, gap, IsInAction}
use Rattle.tpl_token.specs.Numbers.{number}
use Rattle.tpl_token.specs.Refusals.{text_begins_comment, begins_number, begins_string, IsUnclosedString, HasBadEscape, IsAtOffset, TokenMisses, TokenCause}
use Rattle.tpl_token.specs.Scanning.{some_next, Found, cut, bad, after_part, quoted, escape_at, escape_len, string_found, raw_found, raw_len, without_returns, number_found, number_read, number_len, scan_step, lexeme_at, inner_at, inner_step, opened_at, comment_token_at, token_advance}
use Rattle.tpl_token.specs.Strings.{escaped_character, spelling}
use Rattle.tpl_token.specs.Texts.{bytes_before}
use Rattle.tpl_token.specs.declared.cursor.Cursor.{Cursor}
use Rattle.tpl_token.specs.declared.cursor.CursorState.{CursorState}
use Rattle.tpl_token.specs.declared.cursor.CursorState.TheVariants as state
use Rattle.tpl_token.specs.declared.refused.TokenRefused.{TokenRefused}
use Rattle.tpl_token.specs.declared.refused.TokenRefused.TheVariants as refused
use Rattle.tpl_token.specs.declared.token.Token.{Token}
use Rattle.tpl_token.specs.declared.token.TokenKind.{TokenKind}
use Rattle.tpl_token.specs.declared.token.TokenKind.TheVariants as kind
use Rattle.tpl_token.proofs.LexemesStand.{says_lexeme}
use Rattle.tpl_token.proofs.Marks.{either, begins-is, no_cons}
use Rattle.tpl_token.proofs.NextFound.{in_action, skips, comment_none}
use Rattle.tpl_token.proofs.QuotedStrings.{quoted_no_escape}
use Rattle.tpl_token.proofs.StringLaws.{parts_read}

-- nothing is found
abbrev Fails : ℕ → List ℕ → Type 0
Fails at bytes = (x : TokenKind × ℕ) → lexeme_at at bytes ≡ Ok x → ⊥

feed_cut : (more : List ℕ) → (more ≡ []) ⊎ IsTrue (begins (codes "\n") more) → quoted 0 more ≡ cut
feed_cut more (inl none) = ap (quoted 0) none
feed_cut more (inr feed) = ap (quoted 0) (begins-is (codes "\n") more feed)

missed_string : (at : ℕ) (bytes : List ℕ) → IsUnclosedString bytes → lexeme_at at bytes ≡ Err (refused.UnclosedString at)
missed_string at bytes u =
    let reads : quoted 0 (spelling u.parts ++ u.more) ≡ cut = parts_read u.parts u.value u.more u.mean ∙ ap (after_part u.value (length (spelling u.parts))) (feed_cut u.more u.cut) in
    ap (lexeme_at at) u.spelled ∙ ap (string_found at) reads

no_escape_at : (more : List ℕ) → ((bytes rest : List ℕ) → more ≡ bytes ++ rest → escaped_character bytes ≡ None) → escape_at more ≡ None
no_escape_at more none = ap (option_map (λ c. (c, escape_len more))) (none (take (escape_len more) more) (drop (escape_len more) more) (sym (take-append-drop (escape_len more) more)))

missed_escape : (at n offset : ℕ) (bytes : List ℕ) → HasBadEscape bytes n → offset ≡ at + n → lexeme_at at bytes ≡ Err (refused.BadEscape offset)
missed_escape at n offset bytes b is =
    let k = length (spelling b.parts) in
    let reads : quoted 0 (spelling b.parts ++ 92 ∷ b.more) ≡ bad (k + 0) = parts_read b.parts b.value (92 ∷ b.more) b.mean ∙ ap (after_part b.value k) (quoted_no_escape b.more (no_escape_at b.more b.no_escape)) in
    let there : at + 1 + (k + 0) ≡ offset = omega (arith, is, b.offset) in
    ap (lexeme_at at) b.spelled ∙ ap (string_found at) reads ∙ ap (λ (i : ℕ). Err (refused.BadEscape i)) there

missed_raw : (at : ℕ) (bytes : List ℕ) → begins (codes "`") bytes ≡ true → Fails at bytes → lexeme_at at bytes ≡ Err (refused.UnclosedString at)
missed_raw at bytes mark fails =
    let is = begins-is (codes "`") bytes mark in
    let body = drop 1 bytes in
    let reads : lexeme_at at bytes ≡ raw_found at body = ap (lexeme_at at) is in
    reads ∙ either (nat_lt (raw_len body) (length body)) (λ t. absurd (fails (kind.Str (without_returns (take (raw_len body) body)), raw_len body + 2) (reads ∙ rw t refl))) (λ f. rw f refl)

-- what begins as a number begins no name
number_start : (bytes : List ℕ) → begins_number bytes ≡ true → first_is is_word_start bytes ≡ false
number_start [] e = refl
number_start (b ∷ bs) e = either (is_ascii_digit b) (λ t. let h : is_word_start b ≡ false = grind (arith, nat_tests) in h)
    (λ d. either (is_sign b) (λ t. let h : is_word_start b ≡ false = grind (arith, nat_tests) in h)
    (λ s. either (begins (codes ".") (b ∷ bs)) (λ t. ap (first_is is_word_start) (begins-is (codes ".") (b ∷ bs) t)) (λ f. absurd (true≢false (sym e ∙ rw (d, s, f) refl)))))

missed_number : (at : ℕ) (bytes : List ℕ) → begins_number bytes ≡ true → Fails at bytes → lexeme_at at bytes ≡ Err (refused.BadNumber at)
missed_number at bytes begun fails =
    let reads : lexeme_at at bytes ≡ number_found at bytes = rw (number_start bytes begun, begun) refl in
    reads ∙ either (begins (codes ".") (drop (number_len bytes) bytes)) (λ t. rw t refl) (λ f. rw f (number_none at bytes (number (take (number_len bytes) bytes)) (λ x e. fails x (reads ∙ rw f e))))
  where
    number_none : (at : ℕ) (bytes : List ℕ) (o : Option ℤ) → ((x : TokenKind × ℕ) → number_read at (number_len bytes) o ≡ Ok x → ⊥) → number_read at (number_len bytes) o ≡ Err (refused.BadNumber at)
    number_none at bytes None fails = refl
    number_none at bytes (Some n) fails = absurd (fails (kind.Number n, number_len bytes) refl)

-- what begins neither a number nor a string misses as a character
other : (why : TokenRefused) (at : ℕ) (bytes : List ℕ) → begins_number bytes ≡ false → begins_string bytes ≡ false → TokenMisses why at bytes → why ≡ refused.BadCharacter at
other (refused.UnclosedAction p) at bytes number string h = absurd h
other (refused.UnclosedComment p) at bytes number string h = absurd h
other (refused.BadDelimiter p) at bytes number string h = absurd h
other refused.Memory at bytes number string h = absurd h
other (refused.BadCharacter p) at bytes number string h = ap refused.BadCharacter h.0
other (refused.BadNumber p) at bytes number string h = absurd (true≢false (sym h.1 ∙ number))
other (refused.BadEscape p) at bytes number string h = absurd (true≢false (sym (ap begins_string h.1.spelled) ∙ string))
other (refused.UnclosedString p) at bytes number string (e, inl u) = absurd (true≢false (sym (ap begins_string u.spelled) ∙ string))
other (refused.UnclosedString p) at bytes number string (e, inr mark) = absurd (true≢false (sym (ap begins_string (begins-is (codes "`") bytes mark)) ∙ string))

missed_other : (at : ℕ) (bytes : List ℕ) (r : Found) → bytes ≢ [] → begins_number bytes ≡ false → begins_string bytes ≡ false → Fails at bytes → lexeme_at at bytes ≡ r → lexeme_at at bytes ≡ Err (refused.BadCharacter at)
missed_other at bytes (Ok x) some number string fails e = absurd (fails x e)
missed_other at bytes (Err why) some number string fails e = e ∙ ap Err (other why at bytes number string (says_lexeme at bytes some (Err why) e))

missed : (why : TokenRefused) (at : ℕ) (bytes : List ℕ) → TokenMisses why at bytes → Fails at bytes → lexeme_at at bytes ≡ Err why
missed (refused.UnclosedAction p) at bytes h fails = absurd h
missed (refused.UnclosedComment p) at bytes h fails = absurd h
missed (refused.BadDelimiter p) at bytes h fails = absurd h
missed refused.Memory at bytes h fails = absurd h
missed (refused.BadCharacter p) at bytes h fails = missed_other at bytes (lexeme_at at bytes) h.1 h.2 h.3 fails refl ∙ ap (λ (i : ℕ). Err (refused.BadCharacter i)) (sym h.0)
missed (refused.BadNumber p) at bytes h fails = missed_number at bytes h.1 fails ∙ ap (λ (i : ℕ). Err (refused.BadNumber i)) (sym h.0)
missed (refused.BadEscape p) at bytes h fails = missed_escape at h.0 p bytes h.1 h.2
missed (refused.UnclosedString p) at bytes (e, inl u) fails = missed_string at bytes u ∙ ap (λ (i : ℕ). Err (refused.UnclosedString i)) (sym e)
missed (refused.UnclosedString p) at bytes (e, inr mark) fails = missed_raw at bytes mark fails ∙ ap (λ (i : ℕ). Err (refused.UnclosedString i)) (sym e)

-- no token is found
abbrev pub NoNext : List ℕ → CursorState → ℕ → Type 0
NoNext text m at = (x : Token × Cursor) → token_advance text (cursor m at) ≡ Ok (Some x) → ⊥

-- what misses is there
misses_some : (why : TokenRefused) (at : ℕ) (bytes : List ℕ) → TokenMisses why at bytes → nat_eq (length bytes) 0 ≡ false
misses_some why at (b ∷ bs) h = let some : 0 < length (b ∷ bs) = omega arith in grind (arith, nat_tests)
misses_some why at [] h = absurd (nothing why at h)
  where
    nothing : (why : TokenRefused) (at : ℕ) → TokenMisses why at [] → ⊥
    nothing (refused.UnclosedAction p) at h = h
    nothing (refused.UnclosedComment p) at h = h
    nothing (refused.BadDelimiter p) at h = h
    nothing refused.Memory at h = h
    nothing (refused.BadCharacter p) at h = h.1 refl
    nothing (refused.BadNumber p) at h = true≢false (sym h.1)
    nothing (refused.BadEscape p) at h = no_cons (sym h.1.spelled)
    nothing (refused.UnclosedString p) at (e, inl u) = no_cons (sym u.spelled)
    nothing (refused.UnclosedString p) at (e, inr mark) = true≢false (sym mark)

-- after white space
behind_missed : (opened spaces at : ℕ) (bytes : List ℕ) (why : TokenRefused) → ((x : Token × Cursor) → inner_at opened spaces at bytes ≡ Ok x → ⊥) → TokenMisses why at bytes → inner_at opened spaces at bytes ≡ Err why
behind_missed opened spaces at bytes why none h =
    let some = misses_some why at bytes h in
    either (begins (codes "}}") bytes) (λ t. absurd (none (scan_step kind.Close at 2 (state.Text false)) (rw (some, t) refl)))
    (λ f. either (nat_lt 0 spaces && begins (codes "-}}") bytes) (λ t. absurd (none (scan_step kind.Close at 3 (state.Text true)) (rw (some, f, t) refl)))
    (λ g. let reads : inner_at opened spaces at bytes ≡ inner_step opened at (lexeme_at at bytes) = rw (some, f, g) refl in
    reads ∙ ap (inner_step opened at) (missed why at bytes h (λ x e. none (scan_step x.0 at x.1 (state.Action opened)) (reads ∙ ap (inner_step opened at) e)))))

-- an offset of an action where nothing stands
inner_missed : (text : List ℕ) (m : CursorState) (from : ℕ) (why : TokenRefused) (at : ℕ) (bytes : List ℕ) → NoNext text m from → IsAtOffset text (cursor m from) at bytes → TokenMisses why at bytes → token_advance text (cursor m from) ≡ Err why
inner_missed text m from why at bytes none a h =
    let way = in_action m a.opened from (drop from text) a.inside a.no_comment ∙ ap some_next (skips a.opened from (drop from text) a.between bytes a.spelled a.white a.stops) in
    way ∙ ap some_next (behind_missed a.opened (length a.between) (from + length a.between) bytes why (λ x e. none x (way ∙ ap some_next e)) (subst (λ (i : ℕ). TokenMisses why i bytes) a.stands h))

-- the text ends in an action
action_missed : (text : List ℕ) (m : CursorState) (at opened : ℕ) → IsInAction m opened → list_all is_white (drop at text) ≡ true → token_advance text (cursor m at) ≡ Err (refused.UnclosedAction opened)
action_missed text m at opened h white =
    let rest = drop at text in
    let all = sym (append-nil rest) in
    in_action m opened at rest h (comment_none m opened rest rest [] h all white refl refl) ∙ ap some_next (skips opened at rest rest [] all white refl)

-- the text ends in a comment
comment_missed : (text : List ℕ) (m : CursorState) (at opened : ℕ) → NoNext text m at → IsInAction m opened → text_begins_comment m (drop at text) ≡ true → token_advance text (cursor m at) ≡ Err (refused.UnclosedComment opened)
comment_missed text (state.Text _) at opened none h begun = absurd h
comment_missed text (state.Action _) at opened none h begun = absurd (true≢false (sym begun))
comment_missed text state.Commented at opened none h begun = absurd h
comment_missed text (state.Opened trims offset) at opened none h begun =
    let rest = drop at text in
    let body = drop (length (gap trims) + 2) rest in
    let n = bytes_before (codes "*/") body in
    let reads : opened_at trims offset at rest ≡ comment_token_at offset (at + length (gap trims)) body = rw begun refl in
    ap some_next reads ∙ either (nat_lt n (length body)) (λ t. let found : opened_at trims offset at rest ≡ Ok (scan_step kind.Comment (at + length (gap trims)) (n + 4) state.Commented) = reads ∙ rw t refl in absurd (none (scan_step kind.Comment (at + length (gap trims)) (n + 4) state.Commented) (ap some_next found)))
    (λ f. rw f (ap (λ (i : ℕ). Err (refused.UnclosedComment i)) h))

-- a comment without its end
delimiter_missed : (text : List ℕ) (at : ℕ) → NoNext text state.Commented at → token_advance text (cursor state.Commented at) ≡ Err (refused.BadDelimiter at)
delimiter_missed text at none =
    let rest = drop at text in
    either (begins (codes "}}") rest) (λ t. absurd (none (scan_step kind.Close at 2 (state.Text false)) (rw t refl)))
    (λ f. either (begins (codes " -}}") rest) (λ t. absurd (none (scan_step kind.Close (at + 1) 3 (state.Text true)) (rw (f, t) refl))) (λ g. rw (f, g) refl))

-- The cause is found.
pub cause_found : (why : TokenRefused) (text : List ℕ) (from : Cursor) → NoNext text from.state from.at → TokenCause why text from → token_advance text from ≡ Err why
cause_found (refused.UnclosedAction offset) text from none h = action_missed text from.state from.at offset h.0 h.1
cause_found (refused.UnclosedComment offset) text from none h = comment_missed text from.state from.at offset none h.0 h.1
cause_found (refused.BadDelimiter offset) text from none h =
    let there : token_advance text (cursor state.Commented from.at) ≡ Err (refused.BadDelimiter from.at) = delimiter_missed text from.at (λ x e. none x (ap (λ m. token_advance text (cursor m from.at)) h.0 ∙ e)) in
    ap (λ m. token_advance text (cursor m from.at)) h.0 ∙ there ∙ ap (λ (i : ℕ). Err (refused.BadDelimiter i)) (sym h.1)
cause_found (refused.BadCharacter offset) text from none h = inner_missed text from.state from.at (refused.BadCharacter offset) h.0 h.1 none h.2 h.3
cause_found (refused.UnclosedString offset) text from none h = inner_missed text from.state from.at (refused.UnclosedString offset) h.0 h.1 none h.2 h.3
cause_found (refused.BadNumber offset) text from none h = inner_missed text from.state from.at (refused.BadNumber offset) h.0 h.1 none h.2 h.3
cause_found (refused.BadEscape offset) text from none h = inner_missed text from.state from.at (refused.BadEscape offset) h.0 h.1 none h.2 h.3
cause_found refused.Memory text from none h = inner_missed text from.state from.at refused.Memory h.0 h.1 none h.2 h.3
