-- The next token is found where the grammar has it.
use Rattle.std.proofs.Common.{◌≡◌, ◌≢◌, ℕ, ◌+◌, ◌<◌, ◌≤◌, Bool, true, false, ◌&&◌, ◌==◌, ◌⊎◌, inl, inr, List, [], ◌∷◌, ◌++◌, length, drop, Some, None, Ok, Err, nat_eq, nat_lt, refl, sym, ap, ◌∙◌, subst, arith, true≢false, codes}
use Rattle.std.proofs.lemmas.Bool.Decides.{nat_tests}
use Rattle.std.proofs.lemmas.List.{drop_at, drop-drop, drop_all, length-append}
use Rattle.std.specs.List.{list_all, prefix_len}
use Rattle.tpl_token.specs.Characters.{begins, first_is, is_white}
use Rattle.tpl_token.specs.Grammar.{gap, open_len, close_mark, rest_at, IsTextToken, HasNoText, IsActionOpen, IsComment, IsClose, MayClose, IsInAction, IsInner, TokenStands, Next, IsTokenEnd}
use Rattle.tpl_token.specs.Lexemes.{IsLexeme}
use Rattle.tpl_token.specs.Refusals.{text_begins_comment}
use Rattle.tpl_token.specs.Scanning.{scan_step, inner_step, lexeme_at, inner_at, inside_at, some_next, opened_at, comment_token_at, commented_at, open_at, text_token_at, advance_at, token_advance}
use Rattle.tpl_token.specs.Texts.{bytes_before, text_len, kept_start, kept_end}
use Rattle.tpl_token.specs.declared.cursor.Cursor.{Cursor}
use Rattle.tpl_token.specs.declared.cursor.CursorState.{CursorState}
use Rattle.tpl_token.specs.declared.cursor.CursorState.TheVariants as state
use Rattle.tpl_token.specs.declared.refused.TokenRefused.TheVariants as refused
use Rattle.tpl_token.specs.declared.token.Token.{Token}
use Rattle.tpl_token.specs.declared.token.TokenKind.{TokenKind}
use Rattle.tpl_token.specs.declared.token.TokenKind.TheVariants as kind
use Rattle.tpl_token.proofs.LexemesFound.{lexeme_found}
use Rattle.tpl_token.proofs.Marks.{both, either, begins-is, begins-length, run-is, heads, tails, tells}

-- a token, and how far the text is read with it
abbrev pub token : TokenKind → ℕ → ℕ → Token
token what start end = record { kind = what; start = start; end = end }

abbrev pub Finds : TokenKind → List ℕ → Cursor → ℕ → ℕ → Cursor → Type 0
Finds what text from start end to = token_advance text from ≡ Ok (Some (token what start end, to))

less : (n m : ℕ) → n < m → nat_lt n m ≡ true
less n m h = grind (arith, nat_tests)

not_less : (n m : ℕ) → m ≤ n → nat_lt n m ≡ false
not_less n m h = grind (arith, nat_tests)

not_empty : (b : ℕ) (bs : List ℕ) → nat_eq (length (b ∷ bs)) 0 ≡ false
not_empty b bs = let h : 0 < length (b ∷ bs) = omega arith in grind (arith, nat_tests)

found_text : (text : List ℕ) (from : Cursor) (start end : ℕ) (to : Cursor) → IsTextToken text from start end to → Finds kind.Text text from start end to
found_text text from start end to h =
    let rest = rest_at text from in
    let lt = less (kept_start h.trims rest) (kept_end rest) (omega (arith, h.starts, h.ends, h.not_empty)) in
    ap (λ m. advance_at m from.at rest) h.offset ∙ rw (h.starts, h.ends, h.goes) (rw lt refl)

-- without text, the next action or the end
no_text : (text : List ℕ) (from : Cursor) (at : ℕ) → HasNoText text from at → token_advance text from ≡ Ok (open_at at (drop at text))
no_text text from at h =
    let rest = rest_at text from in
    let ge = not_less (kept_start h.trims rest) (kept_end rest) h.nothing_left in
    let there : drop (text_len rest) rest ≡ drop at text = drop-drop (text_len rest) from.at text ∙ ap (λ (i : ℕ). drop i text) (sym h.up_to) in
    let none : text_token_at h.trims from.at rest ≡ open_at (from.at + text_len rest) (drop (text_len rest) rest) = rw ge refl in
    ap (λ m. advance_at m from.at rest) h.offset ∙ ap Ok (none ∙ ap (λ (i : ℕ). open_at i (drop (text_len rest) rest)) (sym h.up_to) ∙ ap (open_at at) there)

found_open : (text : List ℕ) (from : Cursor) (start end : ℕ) (to : Cursor) → IsActionOpen text from start end to → Finds kind.Open text from start end to
found_open text from start end to h =
    let some : nat_eq (length (drop start text)) 0 ≡ false = let l = begins-length (codes "{{") (drop start text) h.mark in grind (arith, nat_tests) in
    let opens : open_at start (drop start text) ≡ Some (scan_step kind.Open start (open_len h.trims) (state.Opened h.trims start)) = rw (some, h.trimming) refl in
    no_text text from start h.no_text ∙ ap Ok opens ∙ rw (h.goes, h.ends) refl

pub found_end : (text : List ℕ) (from : Cursor) → IsTokenEnd text from → token_advance text from ≡ Ok None
found_end text from h =
    let none : drop (length text) text ≡ [] = drop_all (length text) text (omega arith) in
    no_text text from (length text) h ∙ ap (λ (xs : List ℕ). Ok (open_at (length text) xs)) none

comment_read : (opened at : ℕ) (body more : List ℕ) → bytes_before (codes "*/") (body ++ 42 ∷ 47 ∷ more) ≡ length body → comment_token_at opened at (body ++ 42 ∷ 47 ∷ more) ≡ Ok (scan_step kind.Comment at (length body + 4) state.Commented)
comment_read opened at body more first =
    let lt = less (length body) (length (body ++ 42 ∷ 47 ∷ more)) (omega (arith, length-append body (42 ∷ 47 ∷ more))) in
    rw (first, lt) refl

comment_opened : (trims : Bool) (opened at : ℕ) (body more : List ℕ) → bytes_before (codes "*/") (body ++ 42 ∷ 47 ∷ more) ≡ length body
    → opened_at trims opened at (gap trims ++ 47 ∷ 42 ∷ (body ++ 42 ∷ 47 ∷ more)) ≡ Ok (scan_step kind.Comment (at + length (gap trims)) (length body + 4) state.Commented)
comment_opened true opened at body more first = comment_read opened (at + 1) body more first
comment_opened false opened at body more first = comment_read opened (at + 0) body more first

found_comment : (text : List ℕ) (from : Cursor) (start end : ℕ) (to : Cursor) → IsComment text from start end to → Finds kind.Comment text from start end to
found_comment text from start end to h =
    let reads = comment_opened h.trims h.opened from.at h.body h.more h.first in
    let last : start + length h.body + 4 ≡ start + (length h.body + 4) = omega arith in
    ap (λ m. advance_at m from.at (rest_at text from)) h.offset ∙ ap some_next (ap (opened_at h.trims h.opened from.at) h.spelled ∙ reads)
    ∙ ap (λ (i : ℕ). Ok (Some (scan_step kind.Comment i (length h.body + 4) state.Commented))) (sym h.starts) ∙ rw (h.goes, h.ends, last) refl

-- white space is skipped
pub skips : (opened at : ℕ) (rest between bytes : List ℕ) → rest ≡ between ++ bytes → list_all is_white between ≡ true → first_is is_white bytes ≡ false → inside_at opened at rest ≡ inner_at opened (length between) (at + length between) bytes
skips opened at rest between bytes is white stops =
    let run : prefix_len is_white rest ≡ length between = ap (prefix_len is_white) is ∙ run-is is_white between bytes white stops in
    let after : drop (length between) rest ≡ bytes = ap (drop (length between)) is ∙ drop_at between bytes (length between) refl in
    rw (run, after) refl

-- where no comment begins, a token of the action is looked for
pub in_action : (m : CursorState) (opened at : ℕ) (rest : List ℕ) → IsInAction m opened → text_begins_comment m rest ≡ false → advance_at m at rest ≡ some_next (inside_at opened at rest)
in_action (state.Text _) opened at rest h none = absurd h
in_action (state.Opened trims offset) opened at rest h none = rw none (ap (λ (p : ℕ). some_next (inside_at p at rest)) h)
in_action (state.Action offset) opened at rest h none = ap (λ (p : ℕ). some_next (inside_at p at rest)) h
in_action state.Commented opened at rest h none = absurd h

white_no_slash : (b : ℕ) → is_white b ≡ true → b ≡ 47 → ⊥
white_no_slash b white e = grind (arith, nat_tests)

-- no comment begins where white space and then another byte than `/` stand
no_comment : (trims : Bool) (between bytes : List ℕ) → list_all is_white between ≡ true → first_is is_white bytes ≡ false → first_is (λ b. b == 47) bytes ≡ false → begins (gap trims ++ codes "/*") (between ++ bytes) ≡ false
no_comment trims between bytes white stops slash = either (begins (gap trims ++ codes "/*") (between ++ bytes)) (λ t. absurd (comes trims between bytes white stops slash (begins-is (gap trims ++ codes "/*") (between ++ bytes) t))) (λ f. f)
  where
    comes : (trims : Bool) (between bytes : List ℕ) → list_all is_white between ≡ true → first_is is_white bytes ≡ false → first_is (λ b. b == 47) bytes ≡ false → between ++ bytes ≡ (gap trims ++ codes "/*") ++ drop (length (gap trims ++ codes "/*")) (between ++ bytes) → ⊥
    comes false [] bytes white stops slash is = true≢false (sym (ap (first_is (λ b. b == 47)) is) ∙ slash)
    comes false (b ∷ bs) bytes white stops slash is = white_no_slash b (both (is_white b) (list_all is_white bs) white).0 (heads is)
    comes true [] bytes white stops slash is = true≢false (sym (ap (first_is is_white) is) ∙ stops)
    comes true (b ∷ []) bytes white stops slash is = true≢false (sym (ap (first_is (λ b. b == 47)) (tails is)) ∙ slash)
    comes true (b ∷ d ∷ ds) bytes white stops slash is = white_no_slash d (both (is_white d) (list_all is_white ds) (both (is_white b) (list_all is_white (d ∷ ds)) white).1).0 (heads (tails is))

-- what stands before a token of an action is no delimiter, no comment and no white space
pub record Leads (bytes : List ℕ) : Type 0 where
  pub some : nat_eq (length bytes) 0 ≡ false
  pub no_white : first_is is_white bytes ≡ false
  pub no_slash : first_is (λ b. b == 47) bytes ≡ false
  pub no_close : begins (codes "}}") bytes ≡ false
  pub no_trimming : begins (codes "-}}") bytes ≡ false

-- a byte that begins no token
lone : (c at : ℕ) (bs : List ℕ) (x : TokenKind × ℕ) → lexeme_at at (c ∷ bs) ≡ Err (refused.BadCharacter at) → lexeme_at at (c ∷ bs) ≡ Ok x → ⊥
lone c at bs x err ok = let e : Err (refused.BadCharacter at) ≡ Ok x = sym err ∙ ok in cc

white_is : (b : ℕ) → is_white b ≡ true → (nat_eq b 32 ≡ true) ⊎ ((nat_eq b 9 ≡ true) ⊎ ((nat_eq b 13 ≡ true) ⊎ (nat_eq b 10 ≡ true)))
white_is b e = either (nat_eq b 32) (λ t. inl t) (λ f. either (nat_eq b 9) (λ t. inr (inl t)) (λ g. either (nat_eq b 13) (λ t. inr (inr (inl t))) (λ h. inr (inr (inr (let k : nat_eq b 10 ≡ true = grind (arith, nat_tests) in k))))))

same_head : (at b c : ℕ) (bs : List ℕ) (x : TokenKind × ℕ) → b ≡ c → lexeme_at at (b ∷ bs) ≡ Ok x → lexeme_at at (c ∷ bs) ≡ Ok x
same_head at b c bs x is e = subst (λ (d : ℕ). lexeme_at at (d ∷ bs) ≡ Ok x) is e

no_space : (at : ℕ) (bs : List ℕ) (x : TokenKind × ℕ) → lexeme_at at (32 ∷ bs) ≡ Ok x → ⊥
no_space at bs x e = lone 32 at bs x refl e

no_tab : (at : ℕ) (bs : List ℕ) (x : TokenKind × ℕ) → lexeme_at at (9 ∷ bs) ≡ Ok x → ⊥
no_tab at bs x e = lone 9 at bs x refl e

no_return : (at : ℕ) (bs : List ℕ) (x : TokenKind × ℕ) → lexeme_at at (13 ∷ bs) ≡ Ok x → ⊥
no_return at bs x e = lone 13 at bs x refl e

no_feed : (at : ℕ) (bs : List ℕ) (x : TokenKind × ℕ) → lexeme_at at (10 ∷ bs) ≡ Ok x → ⊥
no_feed at bs x e = lone 10 at bs x refl e

no_slash_here : (at : ℕ) (bs : List ℕ) (x : TokenKind × ℕ) → lexeme_at at (47 ∷ bs) ≡ Ok x → ⊥
no_slash_here at bs x e = lone 47 at bs x refl e

no_brace : (at : ℕ) (bs : List ℕ) (x : TokenKind × ℕ) → lexeme_at at (125 ∷ bs) ≡ Ok x → ⊥
no_brace at bs x e = lone 125 at bs x refl e

white_none : (b at : ℕ) (bs : List ℕ) (x : TokenKind × ℕ) → lexeme_at at (b ∷ bs) ≡ Ok x → (nat_eq b 32 ≡ true) ⊎ ((nat_eq b 9 ≡ true) ⊎ ((nat_eq b 13 ≡ true) ⊎ (nat_eq b 10 ≡ true))) → ⊥
white_none b at bs x e (inl t) = no_space at bs x (same_head at b 32 bs x (tells b 32 t) e)
white_none b at bs x e (inr (inl t)) = no_tab at bs x (same_head at b 9 bs x (tells b 9 t) e)
white_none b at bs x e (inr (inr (inl t))) = no_return at bs x (same_head at b 13 bs x (tells b 13 t) e)
white_none b at bs x e (inr (inr (inr t))) = no_feed at bs x (same_head at b 10 bs x (tells b 10 t) e)

-- a sign before `}` is no number
minus_none : (at : ℕ) (bs : List ℕ) (x : TokenKind × ℕ) → lexeme_at at (45 ∷ 125 ∷ bs) ≡ Ok x → ⊥
minus_none at bs x ok = let e : Err (refused.BadNumber at) ≡ Ok x = ok in cc

pub leads : (at : ℕ) (bytes : List ℕ) (x : TokenKind × ℕ) → lexeme_at at bytes ≡ Ok x → Leads bytes
leads at [] x e = let none : Err (refused.BadCharacter at) ≡ Ok x = e in cc
leads at (b ∷ bs) x e = record {
  some = not_empty b bs;
  no_white = either (is_white b) (λ t. absurd (white_none b at bs x e (white_is b t))) (λ f. f);
  no_slash = either (nat_eq b 47) (λ t. absurd (no_slash_here at bs x (same_head at b 47 bs x (tells b 47 t) e))) (λ f. f);
  no_close = either (begins (codes "}}") (b ∷ bs)) (λ t. absurd (no_brace at (125 ∷ drop 2 (b ∷ bs)) x (ap (lexeme_at at) (sym (begins-is (codes "}}") (b ∷ bs) t)) ∙ e))) (λ f. f);
  no_trimming = either (begins (codes "-}}") (b ∷ bs)) (λ t. absurd (minus_none at (125 ∷ drop 3 (b ∷ bs)) x (ap (lexeme_at at) (sym (begins-is (codes "-}}") (b ∷ bs) t)) ∙ e))) (λ f. f);
}

-- so no comment begins there
pub comment_none : (m : CursorState) (opened : ℕ) (rest between bytes : List ℕ) → IsInAction m opened → rest ≡ between ++ bytes → list_all is_white between ≡ true → first_is is_white bytes ≡ false → first_is (λ b. b == 47) bytes ≡ false → text_begins_comment m rest ≡ false
comment_none (state.Text _) opened rest between bytes h is white stops slash = refl
comment_none (state.Opened trims _) opened rest between bytes h is white stops slash = ap (begins (gap trims ++ codes "/*")) is ∙ no_comment trims between bytes white stops slash
comment_none (state.Action _) opened rest between bytes h is white stops slash = refl
comment_none state.Commented opened rest between bytes h is white stops slash = refl

and_false : (a b : Bool) → b ≡ false → (a && b) ≡ false
and_false true b e = e
and_false false b e = refl

-- a token of the action
inner_found : (what : TokenKind) (opened spaces at : ℕ) (bytes rest : List ℕ) → IsLexeme what bytes rest → inner_at opened spaces at (bytes ++ rest) ≡ Ok (scan_step what at (length bytes) (state.Action opened))
inner_found what opened spaces at bytes rest h =
    let found = lexeme_found what at bytes rest h in
    let l = leads at (bytes ++ rest) (what, length bytes) found in
    rw (l.some, l.no_close, and_false (nat_lt 0 spaces) (begins (codes "-}}") (bytes ++ rest)) l.no_trimming) (ap (inner_step opened at) found)

found_inner : (what : TokenKind) (text : List ℕ) (from : Cursor) (start end : ℕ) (to : Cursor) → IsInner what text from start end to → Finds what text from start end to
found_inner what text from start end to h =
    let l = leads start (h.lexeme ++ h.more) (what, length h.lexeme) (lexeme_found what start h.lexeme h.more h.lexeme_is) in
    let none = comment_none from.state h.opened (rest_at text from) h.between (h.lexeme ++ h.more) h.offset h.spelled h.white l.no_white l.no_slash in
    in_action from.state h.opened from.at (rest_at text from) h.offset none
    ∙ ap some_next (skips h.opened from.at (rest_at text from) h.between (h.lexeme ++ h.more) h.spelled h.white l.no_white
    ∙ inner_found what h.opened (length h.between) (from.at + length h.between) h.lexeme h.more h.lexeme_is)
    ∙ rw (h.goes, h.ends, h.starts) refl

-- the end of an action, after white space
close_found : (trims : Bool) (opened spaces at : ℕ) (more : List ℕ) → (trims ≡ true → 0 < spaces) → inner_at opened spaces at (close_mark trims ++ more) ≡ Ok (scan_step kind.Close at (length (close_mark trims)) (state.Text trims))
close_found true opened spaces at more some =
    let e = not_empty 45 (125 ∷ 125 ∷ more) in
    let lt = less 0 spaces (some refl) in
    rw (e, lt) refl
close_found false opened spaces at more some =
    let e = not_empty 125 (125 ∷ more) in
    rw e refl

close_no_white : (trims : Bool) (more : List ℕ) → first_is is_white (close_mark trims ++ more) ≡ false
close_no_white true more = refl
close_no_white false more = refl

close_no_slash : (trims : Bool) (more : List ℕ) → first_is (λ b. b == 47) (close_mark trims ++ more) ≡ false
close_no_slash true more = refl
close_no_slash false more = refl

some_bytes : (bytes : List ℕ) → bytes ≢ [] → 0 < length bytes
some_bytes [] some = absurd (some refl)
some_bytes (b ∷ bs) some = omega arith

close_inside : (m : CursorState) (opened at : ℕ) (rest between more : List ℕ) (trims : Bool) → IsInAction m opened → rest ≡ between ++ (close_mark trims ++ more) → list_all is_white between ≡ true → (trims ≡ true → between ≢ [])
    → advance_at m at rest ≡ Ok (Some (scan_step kind.Close (at + length between) (length (close_mark trims)) (state.Text trims)))
close_inside m opened at rest between more trims h is white some =
    let none = comment_none m opened rest between (close_mark trims ++ more) h is white (close_no_white trims more) (close_no_slash trims more) in
    in_action m opened at rest h none
    ∙ ap some_next (skips opened at rest between (close_mark trims ++ more) is white (close_no_white trims more)
    ∙ close_found trims opened (length between) (at + length between) more (λ t. some_bytes between (some t)))

close_commented : (at : ℕ) (more : List ℕ) (trims : Bool) → commented_at at (gap trims ++ (close_mark trims ++ more)) ≡ Ok (scan_step kind.Close (at + length (gap trims)) (length (close_mark trims)) (state.Text trims))
close_commented at more true = refl
close_commented at more false = ap (λ (i : ℕ). Ok (scan_step kind.Close i 2 (state.Text false))) (let e : at ≡ at + 0 = omega arith in e)

close_at : (m : CursorState) (at : ℕ) (rest between more : List ℕ) (trims : Bool) → MayClose m between trims → rest ≡ between ++ (close_mark trims ++ more)
    → advance_at m at rest ≡ Ok (Some (scan_step kind.Close (at + length between) (length (close_mark trims)) (state.Text trims)))
close_at (state.Text _) at rest between more trims h is = absurd h
close_at (state.Opened x opened) at rest between more trims h is = close_inside (state.Opened x opened) opened at rest between more trims refl is h.0 h.1
close_at (state.Action opened) at rest between more trims h is = close_inside (state.Action opened) opened at rest between more trims refl is h.0 h.1
close_at state.Commented at rest between more trims h is =
    ap some_next (ap (commented_at at) (is ∙ ap (λ (xs : List ℕ). xs ++ (close_mark trims ++ more)) h) ∙ close_commented at more trims)
    ∙ ap (λ (xs : List ℕ). Ok (Some (scan_step kind.Close (at + length xs) (length (close_mark trims)) (state.Text trims)))) (sym h)

found_close : (text : List ℕ) (from : Cursor) (start end : ℕ) (to : Cursor) → IsClose text from start end to → Finds kind.Close text from start end to
found_close text from start end to h = close_at from.state from.at (rest_at text from) h.between h.more h.trims h.allowed h.spelled ∙ rw (h.goes, h.ends, h.starts) refl

found : (what : TokenKind) (text : List ℕ) (from : Cursor) (start end : ℕ) (to : Cursor) → TokenStands what text from start end to → Finds what text from start end to
found kind.Text text from start end to h = found_text text from start end to h
found kind.Open text from start end to h = found_open text from start end to h
found kind.Close text from start end to h = found_close text from start end to h
found kind.Comment text from start end to h = found_comment text from start end to h
found kind.Name text from start end to h = found_inner kind.Name text from start end to h
found kind.Field text from start end to h = found_inner kind.Field text from start end to h
found kind.Dot text from start end to h = found_inner kind.Dot text from start end to h
found kind.Variable text from start end to h = found_inner kind.Variable text from start end to h
found (kind.Number n) text from start end to h = found_inner (kind.Number n) text from start end to h
found (kind.Str value) text from start end to h = found_inner (kind.Str value) text from start end to h
found kind.Declare text from start end to h = found_inner kind.Declare text from start end to h
found kind.Assign text from start end to h = found_inner kind.Assign text from start end to h
found kind.Bar text from start end to h = found_inner kind.Bar text from start end to h
found kind.Comma text from start end to h = found_inner kind.Comma text from start end to h
found kind.Left text from start end to h = found_inner kind.Left text from start end to h
found kind.Right text from start end to h = found_inner kind.Right text from start end to h

-- The next token is found.
pub next_found : (text : List ℕ) (from : Cursor) (t : Token) (to : Cursor) → Next text from t to → token_advance text from ≡ Ok (Some (t, to))
next_found text from t to h = found t.kind text from t.start t.end to h
