-- Only the word `else` after `{{` leads after `else`.
use Rattle.std.proofs.Common.{◌≡◌, ℕ, ◌==◌, Bool, true, false, ◌||◌, List, [], ◌∷◌, Ok, Err, refl, sym, ◌∙◌, true≢false}
use Rattle.tpl_token.proofs.Marks.{either}
use Rattle.tpl_parse.proofs.ActionsSay.{is_else}
use Rattle.tpl_parse.specs.Actions.{ActionAdvance, plain, room_in, action_start, variable_state, pipe_advance, following_kind, control_word, else_word, end_word, jump_word, define_word, start_word, start_kind, by_variable, named_assign, named_comma, named, second, second_named, ends_if, else_advance, name_in, with_name, action_advance}
use Rattle.tpl_build.specs.declared.frame.OpenForm.{OpenForm}
use Rattle.tpl_parse.specs.declared.action.Before.{Before}
use Rattle.tpl_parse.specs.declared.action.Before.TheVariants as before
use Rattle.tpl_parse.specs.declared.action.ActionState.{ActionState}
use Rattle.tpl_parse.specs.declared.action.ActionState.TheVariants as action_state
use Rattle.tpl_build.specs.declared.action.Purpose.{Purpose}
use Rattle.tpl_build.specs.declared.action.Purpose.TheVariants as purpose
use Rattle.tpl_build.specs.declared.builder.Builder.{Builder}
use Rattle.tpl_pipe.specs.Reading.{PipeStep, variable_declared, read_pipe_symbol}
use Rattle.tpl_symbol.specs.declared.symbol.Symbol.{Symbol}
use Rattle.tpl_symbol.specs.declared.symbol.SymbolKind.{SymbolKind}
use Rattle.tpl_symbol.specs.declared.symbol.SymbolKind.TheVariants as kind
use Rattle.tpl_symbol.specs.declared.word.Word.{Word}
use Rattle.tpl_symbol.specs.declared.word.Word.TheVariants as word

abbrev pub is_start : ActionState → Bool
is_start action_state.Start = true
is_start _ = false

-- after `else`, or at the beginning of an action
abbrev pub is_special : ActionState → Bool
is_special h = is_else h || is_start h

abbrev pub gives_else : ActionAdvance → Bool
gives_else (Ok h) = is_special h
gives_else (Err why) = false

pipe_no_else : (p : Purpose) (line : ℕ) (r : PipeStep) → gives_else (pipe_advance p line r) ≡ false
pipe_no_else p line (Ok at) = refl
pipe_no_else p line (Err why) = refl

following_no_else : (n : Builder) (b : Before) (k : SymbolKind) (s : Symbol) → gives_else (following_kind k n b s) ≡ false
following_no_else n b (kind.Text _ _) s = pipe_no_else (plain b) s.line (read_pipe_symbol n.variables (action_start (room_in b n.room)) s)
following_no_else n b (kind.Open _ _) s = pipe_no_else (plain b) s.line (read_pipe_symbol n.variables (action_start (room_in b n.room)) s)
following_no_else n b (kind.Close _) s = pipe_no_else (plain b) s.line (read_pipe_symbol n.variables (action_start (room_in b n.room)) s)
following_no_else n b (kind.Word _) s = pipe_no_else (plain b) s.line (read_pipe_symbol n.variables (action_start (room_in b n.room)) s)
following_no_else n b (kind.Function _) s = pipe_no_else (plain b) s.line (read_pipe_symbol n.variables (action_start (room_in b n.room)) s)
following_no_else n b kind.Unknown s = pipe_no_else (plain b) s.line (read_pipe_symbol n.variables (action_start (room_in b n.room)) s)
following_no_else n b (kind.Field _) s = pipe_no_else (plain b) s.line (read_pipe_symbol n.variables (action_start (room_in b n.room)) s)
following_no_else n b kind.Dot s = pipe_no_else (plain b) s.line (read_pipe_symbol n.variables (action_start (room_in b n.room)) s)
following_no_else n b (kind.Variable _) s = refl
following_no_else n b (kind.Number _) s = pipe_no_else (plain b) s.line (read_pipe_symbol n.variables (action_start (room_in b n.room)) s)
following_no_else n b (kind.Str _) s = pipe_no_else (plain b) s.line (read_pipe_symbol n.variables (action_start (room_in b n.room)) s)
following_no_else n b kind.Declare s = pipe_no_else (plain b) s.line (read_pipe_symbol n.variables (action_start (room_in b n.room)) s)
following_no_else n b kind.Assign s = pipe_no_else (plain b) s.line (read_pipe_symbol n.variables (action_start (room_in b n.room)) s)
following_no_else n b kind.Bar s = pipe_no_else (plain b) s.line (read_pipe_symbol n.variables (action_start (room_in b n.room)) s)
following_no_else n b kind.Comma s = pipe_no_else (plain b) s.line (read_pipe_symbol n.variables (action_start (room_in b n.room)) s)
following_no_else n b kind.Left s = pipe_no_else (plain b) s.line (read_pipe_symbol n.variables (action_start (room_in b n.room)) s)
following_no_else n b kind.Right s = pipe_no_else (plain b) s.line (read_pipe_symbol n.variables (action_start (room_in b n.room)) s)

by_no_else : (n : Builder) (b : Before) (x : List ℕ) (line : ℕ) (s : Symbol) → gives_else (by_variable n b x line s) ≡ false
by_no_else n b x line s = either (variable_declared n.variables x) (λ t. rw t (pipe_no_else (plain b) s.line (read_pipe_symbol n.variables (variable_state (room_in b n.room) x) s))) (λ f. rw f refl)

assign_no_else : (n : Builder) (b : Before) (x : List ℕ) (line : ℕ) (s : Symbol) → gives_else (named_assign b n x line s) ≡ false
assign_no_else n before.Action x line s = either (variable_declared n.variables x) (λ t. rw t refl) (λ f. rw f refl)
assign_no_else n before.If x line s = by_no_else n before.If x line s
assign_no_else n before.ElseIf x line s = by_no_else n before.ElseIf x line s
assign_no_else n before.With x line s = by_no_else n before.With x line s
assign_no_else n before.Range x line s = by_no_else n before.Range x line s

comma_no_else : (n : Builder) (b : Before) (x : List ℕ) (line : ℕ) (s : Symbol) → gives_else (named_comma b n x line s) ≡ false
comma_no_else n before.Range x line s = refl
comma_no_else n before.Action x line s = by_no_else n before.Action x line s
comma_no_else n before.If x line s = by_no_else n before.If x line s
comma_no_else n before.ElseIf x line s = by_no_else n before.ElseIf x line s
comma_no_else n before.With x line s = by_no_else n before.With x line s

named_no_else : (n : Builder) (b : Before) (x : List ℕ) (line : ℕ) (k : SymbolKind) (s : Symbol) → gives_else (named k b n x line s) ≡ false
named_no_else n b x line (kind.Text _ _) s = by_no_else n b x line s
named_no_else n b x line (kind.Open _ _) s = by_no_else n b x line s
named_no_else n b x line (kind.Close _) s = by_no_else n b x line s
named_no_else n b x line (kind.Word _) s = by_no_else n b x line s
named_no_else n b x line (kind.Function _) s = by_no_else n b x line s
named_no_else n b x line kind.Unknown s = by_no_else n b x line s
named_no_else n b x line (kind.Field _) s = by_no_else n b x line s
named_no_else n b x line kind.Dot s = by_no_else n b x line s
named_no_else n b x line (kind.Variable _) s = by_no_else n b x line s
named_no_else n b x line (kind.Number _) s = by_no_else n b x line s
named_no_else n b x line (kind.Str _) s = by_no_else n b x line s
named_no_else n b x line kind.Declare s = refl
named_no_else n b x line kind.Assign s = assign_no_else n b x line s
named_no_else n b x line kind.Bar s = by_no_else n b x line s
named_no_else n b x line kind.Comma s = comma_no_else n b x line s
named_no_else n b x line kind.Left s = by_no_else n b x line s
named_no_else n b x line kind.Right s = by_no_else n b x line s

second_no_else : (i : List ℕ) (k : SymbolKind) (line : ℕ) → gives_else (second k i line) ≡ false
second_no_else i (kind.Text _ _) line = refl
second_no_else i (kind.Open _ _) line = refl
second_no_else i (kind.Close _) line = refl
second_no_else i (kind.Word _) line = refl
second_no_else i (kind.Function _) line = refl
second_no_else i kind.Unknown line = refl
second_no_else i (kind.Field _) line = refl
second_no_else i kind.Dot line = refl
second_no_else i (kind.Variable _) line = refl
second_no_else i (kind.Number _) line = refl
second_no_else i (kind.Str _) line = refl
second_no_else i kind.Declare line = refl
second_no_else i kind.Assign line = refl
second_no_else i kind.Bar line = refl
second_no_else i kind.Comma line = refl
second_no_else i kind.Left line = refl
second_no_else i kind.Right line = refl

last_no_else : (n : Builder) (i e : List ℕ) (line : ℕ) (k : SymbolKind) (now : ℕ) → gives_else (second_named k n i e line now) ≡ false
last_no_else n i e line (kind.Text _ _) now = refl
last_no_else n i e line (kind.Open _ _) now = refl
last_no_else n i e line (kind.Close _) now = refl
last_no_else n i e line (kind.Word _) now = refl
last_no_else n i e line (kind.Function _) now = refl
last_no_else n i e line kind.Unknown now = refl
last_no_else n i e line (kind.Field _) now = refl
last_no_else n i e line kind.Dot now = refl
last_no_else n i e line (kind.Variable _) now = refl
last_no_else n i e line (kind.Number _) now = refl
last_no_else n i e line (kind.Str _) now = refl
last_no_else n i e line kind.Declare now = refl
last_no_else n i e line kind.Assign now = refl
last_no_else n i e line kind.Bar now = refl
last_no_else n i e line kind.Comma now = refl
last_no_else n i e line kind.Left now = refl
last_no_else n i e line kind.Right now = refl

control_no_else : (n : Builder) (b : Before) (line : ℕ) → gives_else (control_word n b line) ≡ false
control_no_else n b line = either (n.room == 0) (λ t. rw t refl) (λ f. rw f refl)

else_if_no_else : (n : Builder) (line : ℕ) → gives_else (else_advance (kind.Word word.If) n line) ≡ false
else_if_no_else n line = either (ends_if n.frames) (λ t. rw t (control_no_else n before.ElseIf line)) (λ f. rw f refl)

else_word_no_else : (n : Builder) (w : Word) (line : ℕ) → gives_else (else_advance (kind.Word w) n line) ≡ false
else_word_no_else n word.If line = else_if_no_else n line
else_word_no_else n word.With line = refl
else_word_no_else n word.Range line = refl
else_word_no_else n word.Else line = refl
else_word_no_else n word.End line = refl
else_word_no_else n word.Break line = refl
else_word_no_else n word.Continue line = refl
else_word_no_else n word.Template line = refl
else_word_no_else n word.Define line = refl
else_word_no_else n word.Block line = refl
else_word_no_else n word.True line = refl
else_word_no_else n word.False line = refl
else_word_no_else n word.Nil line = refl

else_no_else : (n : Builder) (k : SymbolKind) (line : ℕ) → gives_else (else_advance k n line) ≡ false
else_no_else n (kind.Text _ _) line = refl
else_no_else n (kind.Open _ _) line = refl
else_no_else n (kind.Close _) line = refl
else_no_else n (kind.Word w) line = else_word_no_else n w line
else_no_else n (kind.Function _) line = refl
else_no_else n kind.Unknown line = refl
else_no_else n (kind.Field _) line = refl
else_no_else n kind.Dot line = refl
else_no_else n (kind.Variable _) line = refl
else_no_else n (kind.Number _) line = refl
else_no_else n (kind.Str _) line = refl
else_no_else n kind.Declare line = refl
else_no_else n kind.Assign line = refl
else_no_else n kind.Bar line = refl
else_no_else n kind.Comma line = refl
else_no_else n kind.Left line = refl
else_no_else n kind.Right line = refl

name_no_else : (k : SymbolKind) (line : ℕ) (h : List ℕ → ActionState) → ((n : List ℕ) → is_special (h n) ≡ false) → gives_else (with_name (name_in k line) h) ≡ false
name_no_else (kind.Text _ _) line h e = refl
name_no_else (kind.Open _ _) line h e = refl
name_no_else (kind.Close _) line h e = refl
name_no_else (kind.Word _) line h e = refl
name_no_else (kind.Function _) line h e = refl
name_no_else kind.Unknown line h e = refl
name_no_else (kind.Field _) line h e = refl
name_no_else kind.Dot line h e = refl
name_no_else (kind.Variable _) line h e = refl
name_no_else (kind.Number _) line h e = refl
name_no_else (kind.Str n) line h e = e n
name_no_else kind.Declare line h e = refl
name_no_else kind.Assign line h e = refl
name_no_else kind.Bar line h e = refl
name_no_else kind.Comma line h e = refl
name_no_else kind.Left line h e = refl
name_no_else kind.Right line h e = refl

pub no_else : (n : Builder) (h : ActionState) (s : Symbol) → is_start h ≡ false → gives_else (action_advance h n s) ≡ false
no_else n action_state.Start s e = absurd (true≢false e)
no_else n (action_state.AfterWord b) s e = following_no_else n b s.kind s
no_else n (action_state.Named b x line) s e = named_no_else n b x line s.kind s
no_else n (action_state.Second i) s e = second_no_else i s.kind s.line
no_else n (action_state.SecondNamed i x line) s e = last_no_else n i x line s.kind s.line
no_else n (action_state.Pipe p at) s e = pipe_no_else p s.line (read_pipe_symbol n.variables at s)
no_else n action_state.Else s e = else_no_else n s.kind s.line
no_else n action_state.End s e = refl
no_else n action_state.Break s e = refl
no_else n action_state.Continue s e = refl
no_else n action_state.Template s e = name_no_else s.kind s.line (λ n. action_state.TemplateNamed n) (λ n. refl)
no_else n (action_state.TemplateNamed name) s e = pipe_no_else (purpose.Template name) s.line (read_pipe_symbol n.variables (action_start n.room) s)
no_else n (action_state.Define line) s e = name_no_else s.kind s.line (λ n. action_state.DefineNamed n line) (λ n. refl)
no_else n (action_state.DefineNamed name line) s e = refl
no_else n (action_state.Block line) s e = name_no_else s.kind s.line (λ name. action_state.Pipe (purpose.Block name line) (action_start n.room)) (λ n. refl)

-- the word `else`, where it may stand
abbrev pub ElseBegins : Builder → Symbol → Type 0
ElseBegins n s = (s.kind ≡ kind.Word word.Else) × (gives_else (else_word n.frames s.line) ≡ true)

not_else : {P : Type 0} (t : ActionAdvance) → gives_else t ≡ false → gives_else t ≡ true → P
not_else t f e = absurd (true≢false (sym e ∙ f))

end_no_else : (frames : List OpenForm) (line : ℕ) → gives_else (end_word frames line) ≡ false
end_no_else [] line = refl
end_no_else (_ ∷ _) line = refl

define_no_else : (frames : List OpenForm) (line : ℕ) → gives_else (define_word frames line) ≡ false
define_no_else [] line = refl
define_no_else (_ ∷ _) line = refl

jump_no_else : (b : Bool) (h : ActionState) (line : ℕ) → is_special h ≡ false → gives_else (jump_word b h line) ≡ false
jump_no_else true h line e = e
jump_no_else false h line e = refl

word_else : (n : Builder) (w : Word) (s : Symbol) → s.kind ≡ kind.Word w → gives_else (start_word w n s) ≡ true → ElseBegins n s
word_else n word.Else s k e = (k, e)
word_else n word.If s k e = not_else _ (control_no_else n before.If s.line) e
word_else n word.With s k e = not_else _ (control_no_else n before.With s.line) e
word_else n word.Range s k e = not_else _ (control_no_else n before.Range s.line) e
word_else n word.End s k e = not_else _ (end_no_else n.frames s.line) e
word_else n word.Break s k e = not_else _ (jump_no_else n.in_range action_state.Break s.line refl) e
word_else n word.Continue s k e = not_else _ (jump_no_else n.in_range action_state.Continue s.line refl) e
word_else n word.Template s k e = absurd (true≢false (sym e))
word_else n word.Define s k e = not_else _ (define_no_else n.frames s.line) e
word_else n word.Block s k e = absurd (true≢false (sym e))
word_else n word.True s k e = not_else _ (following_no_else n before.Action s.kind s) e
word_else n word.False s k e = not_else _ (following_no_else n before.Action s.kind s) e
word_else n word.Nil s k e = not_else _ (following_no_else n before.Action s.kind s) e

pub start_else : (n : Builder) (k : SymbolKind) (s : Symbol) → s.kind ≡ k → gives_else (start_kind k n s) ≡ true → ElseBegins n s
start_else n (kind.Text _ _) s k e = not_else _ (following_no_else n before.Action s.kind s) e
start_else n (kind.Open _ _) s k e = not_else _ (following_no_else n before.Action s.kind s) e
start_else n (kind.Close _) s k e = not_else _ (following_no_else n before.Action s.kind s) e
start_else n (kind.Word w) s k e = word_else n w s k e
start_else n (kind.Function _) s k e = not_else _ (following_no_else n before.Action s.kind s) e
start_else n kind.Unknown s k e = not_else _ (following_no_else n before.Action s.kind s) e
start_else n (kind.Field _) s k e = not_else _ (following_no_else n before.Action s.kind s) e
start_else n kind.Dot s k e = not_else _ (following_no_else n before.Action s.kind s) e
start_else n (kind.Variable _) s k e = not_else _ (following_no_else n before.Action s.kind s) e
start_else n (kind.Number _) s k e = not_else _ (following_no_else n before.Action s.kind s) e
start_else n (kind.Str _) s k e = not_else _ (following_no_else n before.Action s.kind s) e
start_else n kind.Declare s k e = not_else _ (following_no_else n before.Action s.kind s) e
start_else n kind.Assign s k e = not_else _ (following_no_else n before.Action s.kind s) e
start_else n kind.Bar s k e = not_else _ (following_no_else n before.Action s.kind s) e
start_else n kind.Comma s k e = not_else _ (following_no_else n before.Action s.kind s) e
start_else n kind.Left s k e = not_else _ (following_no_else n before.Action s.kind s) e
start_else n kind.Right s k e = not_else _ (following_no_else n before.Action s.kind s) e
