-- The symbols of a text end outside actions.
use Rattle.std.proofs.Common.{◌≡◌, ℕ, Bool, true, false, not, if◌then◌else◌, List, [], ◌∷◌, Option, Some, None, Result, Ok, Err, inl, inr, refl, sym, ap, ◌∙◌, subst, true≢false}
use Rattle.std.specs.Prelude.{⊤}
use Rattle.tpl_parse.specs.Files.{IsFileOpen}
use Rattle.tpl_parse.specs.Laws.{ActionsEnd, UnclosedAreOpen}
use Rattle.tpl_parse.specs.State.{ParserState}
use Rattle.tpl_parse.specs.Steps.{Stepped, state, close_end, after_symbol, onward, inside, outside, parser_step, parser_run, step_and_then, parser_beginning}
use Rattle.tpl_parse.specs.Actions.{ActionRefusal, ActionAdvance, action_advance, action_kind_of}
use Rattle.tpl_build.specs.declared.action.ActionKind.{ActionKind}
use Rattle.tpl_parse.specs.declared.action.ActionState.{ActionState}
use Rattle.tpl_parse.specs.Phases.{Phase}
use Rattle.tpl_parse.specs.Phases as phase
use Rattle.tpl_build.specs.declared.action.Opening.{Opening}
use Rattle.tpl_build.specs.declared.builder.Builder.{Builder}
use Rattle.tpl_symbol.specs.Joins.{joined_symbol_kinds, put_symbol, put_kind}
use Rattle.tpl_symbol.specs.Kinds.{token_begins_comment, is_comment, is_comment_kind, token_bytes, symbol_kind_of}
use Rattle.tpl_symbol.specs.Names.{word_of, function_of, word_kind, function_kind}
use Rattle.tpl_symbol.specs.Symbols.{add, symbols_from, symbols_of}
use Rattle.tpl_symbol.specs.declared.func.Func.{Func}
use Rattle.tpl_symbol.specs.declared.symbol.Symbol.{Symbol}
use Rattle.tpl_symbol.specs.declared.symbol.SymbolKind.{SymbolKind}
use Rattle.tpl_symbol.specs.declared.symbol.SymbolKind.TheVariants as kind
use Rattle.tpl_symbol.specs.declared.word.Word.{Word}
use Rattle.tpl_token.specs.Grammar.{IsInAction, IsInner, TokenStands, Next, TokensRead, AreTokens}
use Rattle.tpl_token.specs.Grammar as tokens
use Rattle.tpl_token.specs.declared.cursor.Cursor.{Cursor}
use Rattle.tpl_token.specs.declared.cursor.CursorState.{CursorState as TokenState}
use Rattle.tpl_token.specs.declared.cursor.CursorState.TheVariants as token_state
use Rattle.tpl_token.specs.declared.token.Token.{Token}
use Rattle.tpl_token.specs.declared.token.TokenKind.{TokenKind}
use Rattle.tpl_token.specs.declared.token.TokenKind.TheVariants as token

-- whether an action is open after a symbol, and after symbols
abbrev open_following : SymbolKind → Bool → Bool
open_following (kind.Open _ _) b = true
open_following (kind.Close _) b = false
open_following _ b = b

abbrev is_open : Bool → List Symbol → Bool
is_open b [] = b
is_open b (s ∷ symbols) = is_open (open_following s.kind b) symbols

-- where texts are joined this stays
two : (k l : SymbolKind) (first second : Symbol) (b : Bool) → first.kind ≡ k → second.kind ≡ l → is_open b (first ∷ second ∷ []) ≡ open_following l (open_following k b)
two k l first second b e f = ap (λ (x : SymbolKind). open_following second.kind (open_following x b)) e ∙ ap (λ (x : SymbolKind). open_following x (open_following k b)) f

joins : (k l : SymbolKind) (first second : Symbol) (b : Bool) → first.kind ≡ k → second.kind ≡ l → is_open b (joined_symbol_kinds k l first second) ≡ open_following l (open_following k b)
joins (kind.Text bytes seams) (kind.Text more s) first second b e f = refl
joins (kind.Text bytes seams) l first second b e f = two (kind.Text bytes seams) l first second b e f
joins k l first second b e f = two k l first second b e f

puts : (symbols : List Symbol) (new : Symbol) (b : Bool) → is_open b (put_symbol symbols new) ≡ open_following new.kind (is_open b symbols)
puts [] new b = refl
puts (last ∷ []) new b = joins last.kind new.kind last new b refl refl
puts (first ∷ second ∷ symbols) new b = puts (second ∷ symbols) new (open_following first.kind b)

abbrev open_with : Option SymbolKind → Bool → Bool
open_with None b = b
open_with (Some k) b = open_following k b

puts_kind : (symbols : List Symbol) (o : Option SymbolKind) (line : ℕ) (touches : Bool) → is_open false (put_kind symbols o line touches) ≡ open_with o (is_open false symbols)
puts_kind symbols None line touches = refl
puts_kind symbols (Some k) line touches = puts symbols (record { kind = k; line = line; touches = touches }) false

-- the parser is in an action where one is open
abbrev is_inside : Phase → Bool
is_inside phase.Outside = false
is_inside (phase.Inside o h) = true

abbrev Says : Stepped → Bool → Type 0
Says (Ok next) b = is_inside next.phase ≡ b
Says (Err why) b = ⊤

says_outside : (k : SymbolKind) (line : ℕ) (n : Builder) → Says (outside k line n) (open_following k false)
says_outside (kind.Text bytes seams) line n = refl
says_outside (kind.Open start last) line n = refl
says_outside _ line n = tt

says_after : (r : Result ActionKind ActionRefusal) (o : Opening) (end : ℕ) (n : Builder) → Says (after_symbol r o end n) false
says_after (Ok d) o end n = refl
says_after (Err why) o end n = tt

says_onward : (t : ActionAdvance) (o : Opening) (n : Builder) → Says (onward t o n) true
says_onward (Ok h) o n = refl
says_onward (Err why) o n = tt

says_inside : (k : SymbolKind) (o : Opening) (h : ActionState) (s : Symbol) (n : Builder) → Says (inside (close_end k) o h s n) (open_following k true)
says_inside (kind.Close end) o h s n = says_after (action_kind_of h n s.line) o end n
says_inside _ o h s n = says_onward (action_advance h n s) o n

says_step : (n : Builder) (m : Phase) (s : Symbol) → Says (parser_step (state n m) s) (open_following s.kind (is_inside m))
says_step n phase.Outside s = says_outside s.kind s.line n
says_step n (phase.Inside o h) s = says_inside s.kind o h s n

abbrev stepped_to : ParserState → Stepped
stepped_to at = Ok at

abbrev stopped_by : ActionRefusal → Stepped
stopped_by why = Err why

same_state : {a b : ParserState} → stepped_to a ≡ Ok b → a ≡ b
same_state e = cc

no_state : {why : ActionRefusal} {at : ParserState} → stopped_by why ≡ Ok at → ⊥
no_state e = cc

goes_on : (r : Stepped) (b : Bool) (symbols : List Symbol) (at : ParserState) → Says r b → step_and_then r (λ next. parser_run next symbols) ≡ Ok at
    → ((n : Builder) (m : Phase) → parser_run (state n m) symbols ≡ Ok at → is_inside at.phase ≡ is_open (is_inside m) symbols) → is_inside at.phase ≡ is_open b symbols
goes_on (Ok next) b symbols at h e later = later next.builder next.phase e ∙ ap (λ b. is_open b symbols) h
goes_on (Err why) b symbols at h e later = absurd (no_state e)

runs : (symbols : List Symbol) (n : Builder) (m : Phase) (at : ParserState) → parser_run (state n m) symbols ≡ Ok at → is_inside at.phase ≡ is_open (is_inside m) symbols
runs [] n m at e = ap (λ (s : ParserState). is_inside s.phase) (sym (same_state e))
runs (s ∷ symbols) n m at e = goes_on (parser_step (state n m) s) (open_following s.kind (is_inside m)) symbols at (says_step n m s) e (λ n m. runs symbols n m at)

-- whether an action is open in a text, by what stands at an offset, and by the tokens before and after it: the symbols of an
-- action with a comment are none
abbrev Agrees : TokenState → List Token → Bool → Bool → Type 0
Agrees (token_state.Text _) more before b = b ≡ false
Agrees (token_state.Opened _ _) more before b = (before ≡ false) × (b ≡ not (token_begins_comment more))
Agrees (token_state.Action _) more before b = (before ≡ false) × (b ≡ true)
Agrees token_state.Commented more before b = (before ≡ true) × (b ≡ false)

opened : (c b : Bool) (start line : ℕ) → b ≡ false → open_with (if c then None else Some (kind.Open start line)) b ≡ not c
opened true b start line e = e
opened false b start line e = refl

commented : (m : TokenState) (more : List Token) (before b : Bool) → Agrees m more before b → before ≡ true → b ≡ false
commented (token_state.Text _) more before b a e = a
commented (token_state.Opened _ _) more before b a e = absurd (true≢false (sym e ∙ a.0))
commented (token_state.Action _) more before b a e = absurd (true≢false (sym e ∙ a.0))
commented token_state.Commented more before b a e = a.1

closed : (before b : Bool) (end : ℕ) → (before ≡ true → b ≡ false) → open_with (if before then None else Some (kind.Close end)) b ≡ false
closed true b end h = h refl
closed false b end h = refl

in_action : (m : TokenState) (opened : ℕ) (t : Token) (more : List Token) (before b : Bool) → IsInAction m opened → Agrees m (t ∷ more) before b → is_comment t ≡ false → b ≡ true
in_action (token_state.Text _) opened t more before b h a e = absurd h
in_action (token_state.Opened _ _) opened t more before b h a e = a.1 ∙ ap not e
in_action (token_state.Action _) opened t more before b h a e = a.1
in_action token_state.Commented opened t more before b h a e = absurd h

inner : (what : TokenKind) (text : List ℕ) (t : Token) (more : List Token) (from to : Cursor) (before b : Bool) → IsInner what text from t.start t.end to → Agrees from.state (t ∷ more) before b → is_comment t ≡ false
    → (c : Bool) → c ≡ b → Agrees to.state more false c
inner what text t more from to before b h a e c same =
    subst (λ (next : Cursor). Agrees next.state more false c) (sym h.goes) (refl, same ∙ in_action from.state h.opened t more before b h.offset a e)

named : (w : Option Word) (f : Option Func) (b : Bool) → open_following (word_kind w (function_kind f)) b ≡ b
named (Some w) f b = refl
named None (Some f) b = refl
named None None b = refl

-- one more token
agrees : (k : TokenKind) (text : List ℕ) (t : Token) (more : List Token) (from to : Cursor) (before b : Bool) → t.kind ≡ k → TokenStands k text from t.start t.end to → Agrees from.state (t ∷ more) before b
    → Agrees to.state more (is_comment_kind k) (open_with (symbol_kind_of k text t before (token_begins_comment more)) b)
agrees token.Text text t more from to before b k h a =
    subst (λ (next : Cursor). Agrees next.state more false b) (sym h.goes) (subst (λ m. Agrees m (t ∷ more) before b) h.offset a)
agrees token.Open text t more from to before b k h a =
    subst (λ (next : Cursor). Agrees next.state more false (open_with (symbol_kind_of token.Open text t before (token_begins_comment more)) b)) (sym h.goes)
    (refl, opened (token_begins_comment more) b t.start _ (subst (λ m. Agrees m (t ∷ more) before b) h.no_text.offset a))
agrees token.Close text t more from to before b k h a =
    subst (λ (next : Cursor). Agrees next.state more false (open_with (symbol_kind_of token.Close text t before (token_begins_comment more)) b)) (sym h.goes)
    (closed before b t.end (commented from.state (t ∷ more) before b a))
agrees token.Comment text t more from to before b k h a =
    let at_opened = subst (λ m. Agrees m (t ∷ more) before b) h.offset a in
    subst (λ (next : Cursor). Agrees next.state more true b) (sym h.goes) (refl, at_opened.1 ∙ ap (λ k. not (is_comment_kind k)) k)
agrees token.Name text t more from to before b k h a =
    inner token.Name text t more from to before b h a (ap is_comment_kind k) (open_following (word_kind (word_of (token_bytes text t)) (function_kind (function_of (token_bytes text t)))) b) (named (word_of (token_bytes text t)) (function_of (token_bytes text t)) b)
agrees token.Field text t more from to before b k h a = inner token.Field text t more from to before b h a (ap is_comment_kind k) b refl
agrees token.Dot text t more from to before b k h a = inner token.Dot text t more from to before b h a (ap is_comment_kind k) b refl
agrees token.Variable text t more from to before b k h a = inner token.Variable text t more from to before b h a (ap is_comment_kind k) b refl
agrees (token.Number n) text t more from to before b k h a = inner (token.Number n) text t more from to before b h a (ap is_comment_kind k) b refl
agrees (token.Str value) text t more from to before b k h a = inner (token.Str value) text t more from to before b h a (ap is_comment_kind k) b refl
agrees token.Declare text t more from to before b k h a = inner token.Declare text t more from to before b h a (ap is_comment_kind k) b refl
agrees token.Assign text t more from to before b k h a = inner token.Assign text t more from to before b h a (ap is_comment_kind k) b refl
agrees token.Bar text t more from to before b k h a = inner token.Bar text t more from to before b h a (ap is_comment_kind k) b refl
agrees token.Comma text t more from to before b k h a = inner token.Comma text t more from to before b h a (ap is_comment_kind k) b refl
agrees token.Left text t more from to before b k h a = inner token.Left text t more from to before b h a (ap is_comment_kind k) b refl
agrees token.Right text t more from to before b k h a = inner token.Right text t more from to before b h a (ap is_comment_kind k) b refl

-- all tokens
reads : (text : List ℕ) (list : List Token) (from to : Cursor) (symbols : List Symbol) (end : ℕ) (before : Bool) → TokensRead text from list to → Agrees from.state list before (is_open false symbols)
    → (last : Bool) × Agrees to.state [] last (is_open false (symbols_from text symbols end before list))
reads text [] from to symbols end before h a = (before, subst (λ (c : Cursor). Agrees c.state [] before (is_open false symbols)) h a)
reads text (t ∷ list) from to symbols end before h a =
    let with_it = add text symbols end before (token_begins_comment list) t in
    let o = symbol_kind_of t.kind text t before (token_begins_comment list) in
    let next = agrees t.kind text t list from h.0 before (is_open false symbols) refl h.1 a in
    let same : open_with o (is_open false symbols) ≡ is_open false with_it = sym (puts_kind symbols o _ _) in
    reads text list h.0 to with_it t.end (is_comment t) h.2 (subst (λ b. Agrees h.0.state list (is_comment t) b) same next)

outside_is : (m : Phase) → is_inside m ≡ false → m ≡ phase.Outside
outside_is phase.Outside e = refl
outside_is (phase.Inside o h) e = absurd (true≢false e)

pub actions_end : ActionsEnd
actions_end text list at are e =
    let all = reads text list tokens.lexer_beginning are.last [] 0 false are.reads refl in
    let none = subst (λ m. Agrees m [] all.0 (is_open false (symbols_of text list))) are.end.offset all.1 in
    outside_is at.phase (runs (symbols_of text list) parser_beginning.builder phase.Outside at e ∙ none)

still_open : (at : ParserState) → IsFileOpen at → at.phase ≡ phase.Outside → at.builder.frames ≡ [] → ⊥
still_open at (inl inside) outside none = inside outside
still_open at (inr open_frames) outside none = open_frames none

pub unclosed_are_open : UnclosedAreOpen
unclosed_are_open text list are unclosed none = still_open unclosed.at unclosed.still (actions_end text list unclosed.at are unclosed.leads) none
