-- A text has one answer, and its tokens stand one after another.
use Rattle.std.proofs.Common.{◌≡◌, ℕ, zero, suc, ◌-◌, ◌+◌, ◌<◌, ◌≤◌, Bool, true, false, inl, inr, List, [], ◌∷◌, ◌++◌, length, drop, Some, Result, None, Ok, Err, refl, sym, ap, ◌∙◌, subst, arith, true≢false, codes}
use Rattle.std.proofs.lemmas.List.{length-append, length-drop}
use Rattle.tpl_token.specs.Answers.{TokensAnswers, IsOrOutOfMemory, HasTokenAnswer}
use Rattle.tpl_token.specs.Characters.{begins}
use Rattle.tpl_token.specs.Grammar.{lexer_beginning, gap, open_len, close_mark, rest_at, IsTextToken, IsActionOpen, IsComment, IsClose, IsInner, TokenStands, Next, TokensRead, IsTokenEnd, AreTokens}
use Rattle.tpl_token.specs.Lexemes.{IsLexeme}
use Rattle.tpl_token.specs.Refusals.{IsTokenRefused}
use Rattle.tpl_token.specs.Scanning.{TokenAdvance, token_advance, lexer_go_on, scan}
use Rattle.tpl_token.specs.Spans.{Ascend}
use Rattle.tpl_token.specs.Texts.{text_len, trims_before, kept_end}
use Rattle.tpl_token.specs.declared.cursor.Cursor.{Cursor}
use Rattle.tpl_token.specs.declared.refused.TokenRefused.{TokenRefused}
use Rattle.tpl_token.specs.declared.refused.TokenRefused.TheVariants as refused
use Rattle.tpl_token.specs.declared.token.Token.{Token}
use Rattle.tpl_token.specs.declared.token.TokenKind.{TokenKind}
use Rattle.tpl_token.specs.declared.token.TokenKind.TheVariants as kind
use Rattle.tpl_token.proofs.Marks.{begins-length, both, either, no_cons}
use Rattle.tpl_token.proofs.Missed.{NoNext, cause_found}
use Rattle.tpl_token.proofs.NextFound.{found_end, next_found}
use Rattle.tpl_token.proofs.NextStands.{before_fits, says_next}

-- no token of an action is empty
lexeme_some : (what : TokenKind) (rest : List ℕ) → IsLexeme what [] rest → ⊥
lexeme_some kind.Name rest h = true≢false (sym h.0)
lexeme_some kind.Field rest h = no_cons (sym h.1)
lexeme_some kind.Dot rest h = no_cons (sym h.0)
lexeme_some kind.Variable rest (inl h) = no_cons (sym h.0)
lexeme_some kind.Variable rest (inr h) = no_cons (sym h.1)
lexeme_some (kind.Number n) rest h = cc
lexeme_some (kind.Str value) rest (inl h) = no_cons (sym h.spelled)
lexeme_some (kind.Str value) rest (inr h) = no_cons (sym h.spelled)
lexeme_some kind.Declare rest h = no_cons (sym h)
lexeme_some kind.Assign rest h = no_cons (sym h)
lexeme_some kind.Bar rest h = no_cons (sym h)
lexeme_some kind.Comma rest h = no_cons (sym h)
lexeme_some kind.Left rest h = no_cons (sym h)
lexeme_some kind.Right rest h = no_cons (sym h)
lexeme_some kind.Text rest h = h
lexeme_some kind.Open rest h = h
lexeme_some kind.Close rest h = h
lexeme_some kind.Comment rest h = h

some_lexeme : (what : TokenKind) (bytes rest : List ℕ) → IsLexeme what bytes rest → 0 < length bytes
some_lexeme what [] rest h = absurd (lexeme_some what rest h)
some_lexeme what (b ∷ bs) rest h = omega arith

-- a token is not empty, stands where the text is read, and is read whole
pub record IsOnward (text : List ℕ) (from : Cursor) (start end : ℕ) (to : Cursor) : Type 0 where
  pub from_here : from.at ≤ start
  pub some : start < end
  pub whole : end ≤ to.at
  pub within : to.at ≤ length text

kept_within : (rest : List ℕ) → kept_end rest ≤ text_len rest
kept_within rest = either (trims_before (drop (text_len rest) rest)) (λ t. rw t (omega arith)) (λ f. rw f (omega arith))

onward_text : (text : List ℕ) (from : Cursor) (start end : ℕ) (to : Cursor) → from.at ≤ length text → IsTextToken text from start end to → IsOnward text from start end to
onward_text text from start end to fits h =
    let rest = rest_at text from in
    let there : to.at ≡ from.at + text_len rest = ap (λ (c : Cursor). c.at) h.goes in
    record {
      from_here = omega (arith, h.starts);
      some = h.not_empty;
      whole = omega (arith, h.ends, kept_within rest, there);
      within = omega (arith, there, before_fits (codes "{{") rest, length-drop from.at text, fits);
    }

open_within : (trims : Bool) (rest : List ℕ) → begins (codes "{{") rest ≡ true → trims_before rest ≡ trims → (2 ≤ open_len trims) × (open_len trims ≤ length rest)
open_within true rest mark e = (omega arith, begins-length (codes "{{-") rest (both (begins (codes "{{-") rest) _ e).0)
open_within false rest mark e = (omega arith, begins-length (codes "{{") rest mark)

onward_open : (text : List ℕ) (from : Cursor) (start end : ℕ) (to : Cursor) → from.at ≤ length text → IsActionOpen text from start end to → IsOnward text from start end to
onward_open text from start end to fits h =
    let there : to.at ≡ end = ap (λ (c : Cursor). c.at) h.goes in
    let len = open_within h.trims (drop start text) h.mark h.trimming in
    record {
      from_here = omega (arith, h.no_text.up_to);
      some = omega (arith, h.ends, len.0);
      whole = omega (arith, there);
      within = omega (arith, there, h.ends, len.0, len.1, length-drop start text);
    }

onward_comment : (text : List ℕ) (from : Cursor) (start end : ℕ) (to : Cursor) → from.at ≤ length text → IsComment text from start end to → IsOnward text from start end to
onward_comment text from start end to fits h =
    let there : to.at ≡ end = ap (λ (c : Cursor). c.at) h.goes in
    let tail = codes "/*" ++ (h.body ++ (codes "*/" ++ h.more)) in
    record {
      from_here = omega (arith, h.starts);
      some = omega (arith, h.ends);
      whole = omega (arith, there);
      within = omega (arith, there, h.ends, h.starts, ap length h.spelled, length-append (gap h.trims) tail, length-append h.body (codes "*/" ++ h.more), length-drop from.at text, fits);
    }

close_len : (trims : Bool) → 2 ≤ length (close_mark trims)
close_len true = omega arith
close_len false = omega arith

onward_close : (text : List ℕ) (from : Cursor) (start end : ℕ) (to : Cursor) → from.at ≤ length text → IsClose text from start end to → IsOnward text from start end to
onward_close text from start end to fits h =
    let there : to.at ≡ end = ap (λ (c : Cursor). c.at) h.goes in
    let len = close_len h.trims in
    record {
      from_here = omega (arith, h.starts);
      some = omega (arith, h.ends, len);
      whole = omega (arith, there);
      within = omega (arith, there, h.ends, h.starts, ap length h.spelled, length-append h.between (close_mark h.trims ++ h.more), length-append (close_mark h.trims) h.more, length-drop from.at text, fits);
    }

onward_inner : (what : TokenKind) (text : List ℕ) (from : Cursor) (start end : ℕ) (to : Cursor) → from.at ≤ length text → IsInner what text from start end to → IsOnward text from start end to
onward_inner what text from start end to fits h =
    let there : to.at ≡ end = ap (λ (c : Cursor). c.at) h.goes in
    record {
      from_here = omega (arith, h.starts);
      some = omega (arith, h.ends, some_lexeme what h.lexeme h.more h.lexeme_is);
      whole = omega (arith, there);
      within = omega (arith, there, h.ends, h.starts, ap length h.spelled, length-append h.between (h.lexeme ++ h.more), length-append h.lexeme h.more, length-drop from.at text, fits);
    }

onward_of : (what : TokenKind) (text : List ℕ) (from : Cursor) (start end : ℕ) (to : Cursor) → from.at ≤ length text → TokenStands what text from start end to → IsOnward text from start end to
onward_of kind.Text text from start end to fits h = onward_text text from start end to fits h
onward_of kind.Open text from start end to fits h = onward_open text from start end to fits h
onward_of kind.Close text from start end to fits h = onward_close text from start end to fits h
onward_of kind.Comment text from start end to fits h = onward_comment text from start end to fits h
onward_of kind.Name text from start end to fits h = onward_inner kind.Name text from start end to fits h
onward_of kind.Field text from start end to fits h = onward_inner kind.Field text from start end to fits h
onward_of kind.Dot text from start end to fits h = onward_inner kind.Dot text from start end to fits h
onward_of kind.Variable text from start end to fits h = onward_inner kind.Variable text from start end to fits h
onward_of (kind.Number n) text from start end to fits h = onward_inner (kind.Number n) text from start end to fits h
onward_of (kind.Str value) text from start end to fits h = onward_inner (kind.Str value) text from start end to fits h
onward_of kind.Declare text from start end to fits h = onward_inner kind.Declare text from start end to fits h
onward_of kind.Assign text from start end to fits h = onward_inner kind.Assign text from start end to fits h
onward_of kind.Bar text from start end to fits h = onward_inner kind.Bar text from start end to fits h
onward_of kind.Comma text from start end to fits h = onward_inner kind.Comma text from start end to fits h
onward_of kind.Left text from start end to fits h = onward_inner kind.Left text from start end to fits h
onward_of kind.Right text from start end to fits h = onward_inner kind.Right text from start end to fits h

pub onward : (text : List ℕ) (from : Cursor) (t : Token) (to : Cursor) → from.at ≤ length text → Next text from t to → IsOnward text from t.start t.end to
onward text from t to fits h = onward_of t.kind text from t.start t.end to fits h

-- the text is read within itself
reads_within : (text : List ℕ) (from : Cursor) (tokens : List Token) (to : Cursor) → from.at ≤ length text → TokensRead text from tokens to → to.at ≤ length text
reads_within text from [] to fits h = subst (λ (c : Cursor). c.at ≤ length text) h fits
reads_within text from (t ∷ tokens) to fits h = reads_within text h.0 tokens to (onward text from t h.0 fits h.1).within h.2

-- the tokens stand one after another
reads_ascend : (text : List ℕ) (at : ℕ) (from : Cursor) (tokens : List Token) (to : Cursor) → at ≤ from.at → from.at ≤ length text → TokensRead text from tokens to → Ascend at (length text) tokens
reads_ascend text at from [] to before fits h = tt
reads_ascend text at from (t ∷ tokens) to before fits h =
    let o = onward text from t h.0 fits h.1 in
    (omega (arith, before, o.from_here), o.some, omega (arith, o.whole, o.within), reads_ascend text t.end h.0 tokens to o.whole o.within h.2)

pub ascend : (text : List ℕ) (tokens : List Token) → AreTokens text tokens → Ascend 0 (length text) tokens
ascend text tokens h = reads_ascend text 0 lexer_beginning tokens h.last (omega arith) (omega arith) h.reads

-- one more token is read
pub reads_more : (text : List ℕ) (from : Cursor) (tokens : List Token) (to : Cursor) (t : Token) (next : Cursor) → TokensRead text from tokens to → Next text to t next → TokensRead text from (tokens ++ t ∷ []) next
reads_more text from [] to t next h n = (next, subst (λ (c : Cursor). Next text c t next) (sym h) n, refl)
reads_more text from (x ∷ tokens) to t next h n = (h.0, h.1, reads_more text h.0 tokens to t next h.2 n)

ok_token : (x y : Token) (n m : Cursor) → ◌≡◌ {A = TokenAdvance} (Ok (Some (x, n))) (Ok (Some (y, m))) → (x ≡ y) × (n ≡ m)
ok_token x y n m e = let p : ◌≡◌ {A = Token × Cursor} (x, n) (y, m) = cc in (ap (λ (z : Token × Cursor). z.0) p, ap (λ (z : Token × Cursor). z.1) p)

-- two readings that end are one
one_reading : (text : List ℕ) (from : Cursor) (a : List Token) (s : Cursor) (b : List Token) (t : Cursor) → NoNext text s.state s.at → NoNext text t.state t.at → TokensRead text from a s → TokensRead text from b t → (a ≡ b) × (s ≡ t)
one_reading text from [] s [] t ends ends' h k = (refl, sym h ∙ k)
one_reading text from [] s (y ∷ b) t ends ends' h k = absurd (ends (y, k.0) (next_found text s y k.0 (subst (λ (c : Cursor). Next text c y k.0) h k.1)))
one_reading text from (x ∷ a) s [] t ends ends' h k = absurd (ends' (x, h.0) (next_found text t x h.0 (subst (λ (c : Cursor). Next text c x h.0) k h.1)))
one_reading text from (x ∷ a) s (y ∷ b) t ends ends' h k =
    let same = ok_token x y h.0 k.0 (sym (next_found text from x h.0 h.1) ∙ next_found text from y k.0 k.1) in
    let more = one_reading text h.0 a s b t ends ends' h.2 (subst (λ (c : Cursor). TokensRead text c b t) (sym same.1) k.2) in
    (ap (λ (z : Token). z ∷ a) same.0 ∙ ap (λ (zs : List Token). y ∷ zs) more.0, more.1)

-- at the end there is no next token
end_no_next : (text : List ℕ) (s : Cursor) → IsTokenEnd text s → NoNext text s.state s.at
end_no_next text s h x e = let none : ◌≡◌ {A = TokenAdvance} (Ok None) (Ok (Some x)) = sym (found_end text s h) ∙ e in cc

refused_no_next : (text : List ℕ) (why : TokenRefused) (h : IsTokenRefused text why) → NoNext text h.last.state h.last.at
refused_no_next text why h x e = h.no_next x.0 x.1 (says_next text h.last.state h.last.at (reads_within text lexer_beginning h.tokens h.last (omega arith) h.reads) (Ok (Some x)) e)

-- A text has at most one list of tokens.
pub one_list : (text : List ℕ) (a b : List Token) → AreTokens text a → AreTokens text b → a ≡ b
one_list text a b h k = (one_reading text lexer_beginning a h.last b k.last (end_no_next text h.last h.end) (end_no_next text k.last k.end) h.reads k.reads).0

-- A text that has tokens is not refused.
pub not_refused : (text : List ℕ) (a : List Token) (why : TokenRefused) → AreTokens text a → IsTokenRefused text why → ⊥
not_refused text a why h k =
    let same = (one_reading text lexer_beginning a h.last k.tokens k.last (end_no_next text h.last h.end) (refused_no_next text why k) h.reads k.reads).1 in
    let e : ◌≡◌ {A = TokenAdvance} (Ok None) (Err why) = sym (found_end text h.last h.end) ∙ ap (token_advance text) same ∙ cause_found why text k.last (refused_no_next text why k) k.cause in
    cc

-- A text is refused for one cause.
pub one_refusal : (text : List ℕ) (a b : TokenRefused) → IsTokenRefused text a → IsTokenRefused text b → a ≡ b
one_refusal text a b h k =
    let same = (one_reading text lexer_beginning h.tokens h.last k.tokens k.last (refused_no_next text a h) (refused_no_next text b k) h.reads k.reads).1 in
    let e : ◌≡◌ {A = TokenAdvance} (Err a) (Err b) = sym (cause_found a text h.last (refused_no_next text a h) h.cause) ∙ ap (token_advance text) same ∙ cause_found b text k.last (refused_no_next text b k) k.cause in
    cc

-- what is found here refuses the text
pub refused_here : (text : List ℕ) (tokens : List Token) (last : Cursor) (why : TokenRefused) → last.at ≤ length text → TokensRead text lexer_beginning tokens last → token_advance text last ≡ Err why → IsTokenRefused text why
refused_here text tokens last why fits reads e = record {
  tokens = tokens;
  last = last;
  reads = reads;
  no_next = λ t to n. (let found : ◌≡◌ {A = TokenAdvance} (Err why) (Ok (Some (t, to))) = sym e ∙ next_found text last t to n in cc);
  cause = says_next text last.state last.at fits (Err why) e;
}

-- and is the answer, unless memory ran out
pub err_answers : (text : List ℕ) (tokens : List Token) (last : Cursor) (why : TokenRefused) → last.at ≤ length text → TokensRead text lexer_beginning tokens last → IsOrOutOfMemory (Err why) (token_advance text last) → TokensAnswers text (Err why)
err_answers text tokens last refused.Memory fits reads e = tt
err_answers text tokens last (refused.UnclosedAction p) fits reads e = refused_here text tokens last (refused.UnclosedAction p) fits reads e
err_answers text tokens last (refused.BadCharacter p) fits reads e = refused_here text tokens last (refused.BadCharacter p) fits reads e
err_answers text tokens last (refused.UnclosedString p) fits reads e = refused_here text tokens last (refused.UnclosedString p) fits reads e
err_answers text tokens last (refused.UnclosedComment p) fits reads e = refused_here text tokens last (refused.UnclosedComment p) fits reads e
err_answers text tokens last (refused.BadNumber p) fits reads e = refused_here text tokens last (refused.BadNumber p) fits reads e
err_answers text tokens last (refused.BadDelimiter p) fits reads e = refused_here text tokens last (refused.BadDelimiter p) fits reads e
err_answers text tokens last (refused.BadEscape p) fits reads e = refused_here text tokens last (refused.BadEscape p) fits reads e

-- A text that has tokens is refused for being out of memory alone.
pub err_accepted : (text : List ℕ) (why : TokenRefused) (list : List Token) → TokensAnswers text (Err why) → AreTokens text list → IsOrOutOfMemory (Err why) (Ok list)
err_accepted text refused.Memory list a h = tt
err_accepted text (refused.UnclosedAction p) list a h = absurd (not_refused text list (refused.UnclosedAction p) h a)
err_accepted text (refused.BadCharacter p) list a h = absurd (not_refused text list (refused.BadCharacter p) h a)
err_accepted text (refused.UnclosedString p) list a h = absurd (not_refused text list (refused.UnclosedString p) h a)
err_accepted text (refused.UnclosedComment p) list a h = absurd (not_refused text list (refused.UnclosedComment p) h a)
err_accepted text (refused.BadNumber p) list a h = absurd (not_refused text list (refused.BadNumber p) h a)
err_accepted text (refused.BadDelimiter p) list a h = absurd (not_refused text list (refused.BadDelimiter p) h a)
err_accepted text (refused.BadEscape p) list a h = absurd (not_refused text list (refused.BadEscape p) h a)

-- A text that is refused is refused for its cause, or when memory runs out.
pub err_refused : (text : List ℕ) (why wanted : TokenRefused) → TokensAnswers text (Err why) → IsTokenRefused text wanted → IsOrOutOfMemory {X = List Token} (Err why) (Err wanted)
err_refused text refused.Memory wanted a h = tt
err_refused text (refused.UnclosedAction p) wanted a h = ap Err (one_refusal text wanted (refused.UnclosedAction p) h a)
err_refused text (refused.BadCharacter p) wanted a h = ap Err (one_refusal text wanted (refused.BadCharacter p) h a)
err_refused text (refused.UnclosedString p) wanted a h = ap Err (one_refusal text wanted (refused.UnclosedString p) h a)
err_refused text (refused.UnclosedComment p) wanted a h = ap Err (one_refusal text wanted (refused.UnclosedComment p) h a)
err_refused text (refused.BadNumber p) wanted a h = ap Err (one_refusal text wanted (refused.BadNumber p) h a)
err_refused text (refused.BadDelimiter p) wanted a h = ap Err (one_refusal text wanted (refused.BadDelimiter p) h a)
err_refused text (refused.BadEscape p) wanted a h = ap Err (one_refusal text wanted (refused.BadEscape p) h a)

-- the text is read to its end
pub tokens_here : (text : List ℕ) (tokens : List Token) (last : Cursor) → last.at ≤ length text → TokensRead text lexer_beginning tokens last → token_advance text last ≡ Ok None → AreTokens text tokens
tokens_here text tokens last fits reads e = record { last = last; reads = reads; end = says_next text last.state last.at fits (Ok None) e }

-- reading goes on until there is an answer
answered : (m : ℕ) (text : List ℕ) (tokens : List Token) (last : Cursor) → last.at ≤ length text → length text - last.at ≤ m → TokensRead text lexer_beginning tokens last → (r : TokenAdvance) → token_advance text last ≡ r → HasTokenAnswer text
answered m text tokens last fits left reads (Ok None) e = inl (tokens, tokens_here text tokens last fits reads e)
answered m text tokens last fits left reads (Err why) e = inr (why, refused_here text tokens last why fits reads e)
answered zero text tokens last fits left reads (Ok (Some x)) e =
    let o = onward text last x.0 x.1 fits (says_next text last.state last.at fits (Ok (Some x)) e) in
    absurd (omega (arith, left, o.from_here, o.some, o.whole, o.within))
answered (suc m) text tokens last fits left reads (Ok (Some x)) e =
    let next = says_next text last.state last.at fits (Ok (Some x)) e in
    let o = onward text last x.0 x.1 fits next in
    answered m text (tokens ++ x.0 ∷ []) x.1 o.within (omega (arith, left, o.from_here, o.some, o.whole, o.within)) (reads_more text lexer_beginning tokens last x.0 x.1 reads next) (token_advance text x.1) refl

-- Every text has an answer.
pub has_answer : (text : List ℕ) → HasTokenAnswer text
has_answer text = answered (length text) text [] lexer_beginning (omega arith) (omega arith) refl (token_advance text lexer_beginning) refl

gives : (why : TokenRefused) (text : List ℕ) (last : Cursor) → token_advance text last ≡ Err why → IsOrOutOfMemory (Err why) (token_advance text last)
gives refused.Memory text last e = tt
gives (refused.UnclosedAction p) text last e = e
gives (refused.BadCharacter p) text last e = e
gives (refused.UnclosedString p) text last e = e
gives (refused.UnclosedComment p) text last e = e
gives (refused.BadNumber p) text last e = e
gives (refused.BadDelimiter p) text last e = e
gives (refused.BadEscape p) text last e = e

-- what computing gives is the answer
scan_answers : (n : ℕ) (text : List ℕ) (last : Cursor) (done : List Token) → last.at ≤ length text → TokensRead text lexer_beginning done last → (a : TokenAdvance) → token_advance text last ≡ a → (r : Result (List Token) TokenRefused)
    → lexer_go_on a done (scan n text) ≡ r → TokensAnswers text r
scan_answers n text last done fits reads (Ok None) e r is = subst (TokensAnswers text) is (tokens_here text done last fits reads e)
scan_answers n text last done fits reads (Err why) e r is = subst (TokensAnswers text) is (err_answers text done last why fits reads (gives why text last e))
scan_answers zero text last done fits reads (Ok (Some x)) e r is = subst (TokensAnswers text) is tt
scan_answers (suc n) text last done fits reads (Ok (Some x)) e r is =
    let next = says_next text last.state last.at fits (Ok (Some x)) e in
    let o = onward text last x.0 x.1 fits next in
    scan_answers n text x.1 (done ++ x.0 ∷ []) o.within (reads_more text lexer_beginning done last x.0 x.1 reads next) (token_advance text x.1) refl r is

-- What computing gives on a text is its answer.
pub computed : (n : ℕ) (text : List ℕ) (r : Result (List Token) TokenRefused) → scan (suc n) text lexer_beginning [] ≡ r → TokensAnswers text r
computed n text r is = scan_answers n text lexer_beginning [] (omega arith) refl (token_advance text lexer_beginning) refl r is
