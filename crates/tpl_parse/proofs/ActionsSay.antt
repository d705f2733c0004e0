-- What is read of an action stands there.
use Rattle.std.proofs.Common.{◌≡◌, ℕ, ◌-◌, ◌==◌, Bool, true, false, List, [], ◌∷◌, Option, Some, None, Result, Ok, Err, ◌⊎◌, inl, inr, refl, sym, ap, ◌∙◌, subst, true≢false}
use Rattle.std.specs.Prelude.{⊤}
use Rattle.tpl_token.proofs.Marks.{either}
use Rattle.tpl_parse.specs.Grammar.{StandsOn, Declares}
use Rattle.tpl_parse.specs.Actions.{ActionRefusal, ActionAdvance, plain, declaring, room_in, action_start, variable_state, pipe_advance, in_pipe, following_kind, control_word, has_first, else_word, end_word, jump_word, define_word, start_word, start_kind, by_variable, named_assign, named_comma, named, second, second_named, ends_if, else_advance, name_in, with_name, action_advance, piped, action_kind_of}
use Rattle.tpl_build.specs.declared.frame.Control.TheVariants as control
use Rattle.tpl_build.specs.declared.frame.OpenForm.{OpenForm}
use Rattle.tpl_build.specs.declared.frame.OpenForm.TheVariants as frame
use Rattle.tpl_parse.specs.declared.action.Before.{Before}
use Rattle.tpl_parse.specs.declared.action.Before.TheVariants as before
use Rattle.tpl_build.specs.declared.action.ActionKind.{ActionKind}
use Rattle.tpl_build.specs.declared.action.ActionKind.TheVariants as action_kind
use Rattle.tpl_parse.specs.declared.action.ActionState.{ActionState}
use Rattle.tpl_parse.specs.declared.action.ActionState.TheVariants as action_state
use Rattle.tpl_build.specs.declared.action.Purpose.{Purpose}
use Rattle.tpl_build.specs.declared.action.Purpose.TheVariants as purpose
use Rattle.tpl_build.specs.declared.builder.Builder.{Builder}
use Rattle.tpl_pipe.proofs.PipeSays.{pipe_stands}
use Rattle.tpl_pipe.specs.Grammar.{SymbolStands, IsPipe}
use Rattle.tpl_pipe.specs.Reading.{PipeStep, variable_declared, read_pipe_symbol, pipe_finish}
use Rattle.tpl_pipe.specs.Runs.{is_close, read_pipe}
use Rattle.tpl_pipe.specs.declared.pipe_state.PipeState.{PipeState}
use Rattle.tpl_pipe.specs.declared.refused.ParseRefused.{ParseRefused}
use Rattle.tpl_symbol.specs.declared.symbol.Symbol.{Symbol}
use Rattle.tpl_symbol.specs.declared.symbol.SymbolKind.{SymbolKind}
use Rattle.tpl_symbol.specs.declared.symbol.SymbolKind.TheVariants as kind
use Rattle.tpl_symbol.specs.declared.word.Word.{Word}
use Rattle.tpl_symbol.specs.declared.word.Word.TheVariants as word
use Rattle.tpl_tree.specs.Pipes.{PipeData}
use Rattle.tpl_tree.specs.declared.pipe.Pipe.{Pipe}

-- what an action says, up to its `}}`
abbrev pub Says : Type 1
Says = ActionKind → List Symbol → List Symbol → Type 0

-- the rest of a pipe
abbrev pub PipeRest : Builder → Purpose → PipeState → ActionKind → List Symbol → List Symbol → Type 0
PipeRest n p at d symbols mid = (q : Pipe) × (read_pipe n.variables at symbols ≡ Ok (q.commands, mid)) × (d ≡ action_kind.Piped p q)

-- a whole pipe
abbrev pub PipeSaid : Builder → Purpose → ℕ → ActionKind → List Symbol → List Symbol → Type 0
PipeSaid n p room d symbols mid = (q : Pipe) × IsPipe n.variables room q.commands symbols mid × (d ≡ action_kind.Piped p q)

pipe_said : (n : Builder) (p : Purpose) (room : ℕ) (d : ActionKind) (symbols mid : List Symbol) → PipeRest n p (action_start room) d symbols mid → PipeSaid n p room d symbols mid
pipe_said n p room d symbols mid h = (h.0, (pipe_stands n.variables room h.0.commands symbols mid h.1).0, h.2)

-- after `range $i, $e`, and after `range $i,`
abbrev pub LastRest : Builder → List ℕ → List ℕ → ActionKind → List Symbol → List Symbol → Type 0
LastRest n i e d symbols mid =
    (pipe : List Symbol) × SymbolStands kind.Declare symbols pipe × PipeSaid n (purpose.Control (control.Range (Some i) (Some e)) false) (n.room - 1) d pipe mid

abbrev pub SecondRest : Builder → List ℕ → ActionKind → List Symbol → List Symbol → Type 0
SecondRest n i d symbols mid = (e : List ℕ) × (following : List Symbol) × SymbolStands (kind.Variable e) symbols following × LastRest n i e d following mid

-- after a variable that may be declared
abbrev pub NamedRest : Builder → Before → List ℕ → ActionKind → List Symbol → List Symbol → Type 0
NamedRest n b x d symbols mid =
    ((variable_declared n.variables x ≡ true) × PipeRest n (plain b) (variable_state (room_in b n.room) x) d symbols mid)
    ⊎ (((pipe : List Symbol) × SymbolStands kind.Declare symbols pipe × PipeSaid n (declaring b x) (room_in b n.room) d pipe mid)
    ⊎ (((pipe : List Symbol) × (b ≡ before.Action) × (variable_declared n.variables x ≡ true) × SymbolStands kind.Assign symbols pipe × PipeSaid n (purpose.Assign x) n.room d pipe mid)
    ⊎ ((following : List Symbol) × (b ≡ before.Range) × SymbolStands kind.Comma symbols following × SecondRest n x d following mid)))

-- after `{{`, or after a control's word
abbrev pub BehindRest : Builder → Before → ActionKind → List Symbol → List Symbol → Type 0
BehindRest n b d symbols mid =
    ((x : List ℕ) × (following : List Symbol) × SymbolStands (kind.Variable x) symbols following × NamedRest n b x d following mid)
    ⊎ PipeSaid n (plain b) (room_in b n.room) d symbols mid

-- after `template "n"`
abbrev pub CallRest : Builder → List ℕ → ActionKind → List Symbol → List Symbol → Type 0
CallRest n name d symbols mid = ((d ≡ action_kind.Call name) × (symbols ≡ mid)) ⊎ PipeSaid n (purpose.Template name) n.room d symbols mid

abbrev pub DefineRest : List ℕ → ℕ → ActionKind → List Symbol → List Symbol → Type 0
DefineRest name line d symbols mid = (d ≡ action_kind.Define name line) × (symbols ≡ mid)

-- after `else`
abbrev pub ElseRest : Builder → ActionKind → List Symbol → List Symbol → Type 0
ElseRest n d symbols mid =
    ((d ≡ action_kind.Else) × (symbols ≡ mid))
    ⊎ ((following : List Symbol) × (ends_if n.frames ≡ true) × ((n.room == 0) ≡ false) × SymbolStands (kind.Word word.If) symbols following × BehindRest n before.ElseIf d following mid)

-- a control that begins an action
abbrev pub ControlRest : Builder → Word → Before → ActionKind → List Symbol → List Symbol → Type 0
ControlRest n w b d symbols mid = (following : List Symbol) × ((n.room == 0) ≡ false) × SymbolStands (kind.Word w) symbols following × BehindRest n b d following mid

-- a word alone
abbrev pub WordRest : Word → ActionKind → ActionKind → List Symbol → List Symbol → Type 0
WordRest w is d symbols mid = SymbolStands (kind.Word w) symbols mid × (d ≡ is)

-- what may begin with a word
pub data Beginning : Type 0 where
  pipe_begins : Beginning
  if_begins : Beginning
  with_begins : Beginning
  range_begins : Beginning
  ends : Beginning
  breaks : Beginning
  continues : Beginning
  calls : Beginning
  defines : Beginning
  blocks : Beginning

abbrev pub Begun : Builder → Beginning → ActionKind → List Symbol → List Symbol → Type 0
Begun n pipe_begins d symbols mid = BehindRest n before.Action d symbols mid
Begun n if_begins d symbols mid = ControlRest n word.If before.If d symbols mid
Begun n with_begins d symbols mid = ControlRest n word.With before.With d symbols mid
Begun n range_begins d symbols mid = ControlRest n word.Range before.Range d symbols mid
Begun n ends d symbols mid = (f : OpenForm) × (frames : List OpenForm) × (n.frames ≡ f ∷ frames) × WordRest word.End action_kind.End d symbols mid
Begun n breaks d symbols mid = (n.in_range ≡ true) × WordRest word.Break action_kind.Break d symbols mid
Begun n continues d symbols mid = (n.in_range ≡ true) × WordRest word.Continue action_kind.Continue d symbols mid
Begun n calls d symbols mid =
    (name : List ℕ) × (named following : List Symbol) × SymbolStands (kind.Word word.Template) symbols named × SymbolStands (kind.Str name) named following × CallRest n name d following mid
Begun n defines d symbols mid =
    (name : List ℕ) × (line : ℕ) × (named : List Symbol) × (n.frames ≡ []) × StandsOn (kind.Word word.Define) line symbols named × SymbolStands (kind.Str name) named mid × (d ≡ action_kind.Define name line)
Begun n blocks d symbols mid =
    (name : List ℕ) × (line : ℕ) × (named following : List Symbol) × StandsOn (kind.Word word.Block) line symbols named × SymbolStands (kind.Str name) named following × PipeSaid n (purpose.Block name line) n.room d following mid

-- after `{{`, other than `else`
abbrev pub StartRest : Builder → ActionKind → List Symbol → List Symbol → Type 0
StartRest n d symbols mid = (b : Beginning) × Begun n b d symbols mid

-- what is left of an action
abbrev pub Rests : Builder → ActionState → ActionKind → List Symbol → List Symbol → Type 0
Rests n action_state.Start d symbols mid = StartRest n d symbols mid
Rests n (action_state.AfterWord b) d symbols mid = BehindRest n b d symbols mid
Rests n (action_state.Named b x line) d symbols mid = NamedRest n b x d symbols mid
Rests n (action_state.Second i) d symbols mid = SecondRest n i d symbols mid
Rests n (action_state.SecondNamed i e line) d symbols mid = LastRest n i e d symbols mid
Rests n (action_state.Pipe p at) d symbols mid = PipeRest n p at d symbols mid
Rests n action_state.Else d symbols mid = ElseRest n d symbols mid
Rests n action_state.End d symbols mid = (d ≡ action_kind.End) × (symbols ≡ mid)
Rests n action_state.Break d symbols mid = (d ≡ action_kind.Break) × (symbols ≡ mid)
Rests n action_state.Continue d symbols mid = (d ≡ action_kind.Continue) × (symbols ≡ mid)
Rests n action_state.Template d symbols mid = (name : List ℕ) × (following : List Symbol) × SymbolStands (kind.Str name) symbols following × CallRest n name d following mid
Rests n (action_state.TemplateNamed name) d symbols mid = CallRest n name d symbols mid
Rests n (action_state.Define line) d symbols mid = (name : List ℕ) × (following : List Symbol) × SymbolStands (kind.Str name) symbols following × DefineRest name line d following mid
Rests n (action_state.DefineNamed name line) d symbols mid = DefineRest name line d symbols mid
Rests n (action_state.Block line) d symbols mid = (name : List ℕ) × (following : List Symbol) × SymbolStands (kind.Str name) symbols following × PipeSaid n (purpose.Block name line) n.room d following mid

abbrev pub is_else : ActionState → Bool
is_else action_state.Else = true
is_else _ = false

-- a name and then nothing
name_following : (name : List ℕ) (following symbols mid : List Symbol) → SymbolStands (kind.Str name) symbols following → following ≡ mid → SymbolStands (kind.Str name) symbols mid
name_following name following symbols mid h e = subst (SymbolStands (kind.Str name) symbols) e h

-- what is left after a symbol is left before it, if it leads there
abbrev pub Advanced : Builder → Symbol → List Symbol → ActionAdvance → Says → Type 0
Advanced n s symbols (Ok h) R = is_else h ≡ false → (d : ActionKind) (mid : List Symbol) → Rests n h d symbols mid → R d (s ∷ symbols) mid
Advanced n s symbols (Err why) R = ⊤

advanced_map : (n : Builder) (s : Symbol) (symbols : List Symbol) (t : ActionAdvance) (R R' : Says) → ((d : ActionKind) (mid : List Symbol) → R d (s ∷ symbols) mid → R' d (s ∷ symbols) mid) → Advanced n s symbols t R → Advanced n s symbols t R'
advanced_map n s symbols (Ok h) R R' f g = λ e d mid x. f d mid (g e d mid x)
advanced_map n s symbols (Err why) R R' f g = tt

advanced_read : (n : Builder) (p : Purpose) (at : PipeState) (r : PipeStep) (s : Symbol) (symbols : List Symbol) → is_close s.kind ≡ false → read_pipe_symbol n.variables at s ≡ r
    → Advanced n s symbols (pipe_advance p s.line r) (PipeRest n p at)
advanced_read n p at (Err why) s symbols inner e = tt
advanced_read n p at (Ok next) s symbols inner e = λ no d mid h. (h.0, (rw (inner, e) h.1), h.2)

advanced_pipe : (n : Builder) (p : Purpose) (at : PipeState) (s : Symbol) (symbols : List Symbol) → is_close s.kind ≡ false → Advanced n s symbols (in_pipe n p at s) (PipeRest n p at)
advanced_pipe n p at s symbols inner = advanced_read n p at (read_pipe_symbol n.variables at s) s symbols inner refl

advanced_said : (n : Builder) (p : Purpose) (room : ℕ) (s : Symbol) (symbols : List Symbol) → is_close s.kind ≡ false → Advanced n s symbols (in_pipe n p (action_start room) s) (PipeSaid n p room)
advanced_said n p room s symbols inner = advanced_map n s symbols (in_pipe n p (action_start room) s) (PipeRest n p (action_start room)) (PipeSaid n p room)
    (λ d mid h. pipe_said n p room d (s ∷ symbols) mid h) (advanced_pipe n p (action_start room) s symbols inner)

advanced_begins : (n : Builder) (b : Before) (s : Symbol) (symbols : List Symbol) → is_close s.kind ≡ false → Advanced n s symbols (in_pipe n (plain b) (action_start (room_in b n.room)) s) (BehindRest n b)
advanced_begins n b s symbols inner = advanced_map n s symbols (in_pipe n (plain b) (action_start (room_in b n.room)) s) (PipeSaid n (plain b) (room_in b n.room)) (BehindRest n b)
    (λ d mid h. inr h) (advanced_said n (plain b) (room_in b n.room) s symbols inner)

advanced_following : (n : Builder) (b : Before) (k : SymbolKind) (s : Symbol) (symbols : List Symbol) → is_close s.kind ≡ false → s.kind ≡ k → Advanced n s symbols (following_kind k n b s) (BehindRest n b)
advanced_following n b (kind.Text _ _) s symbols inner k = advanced_begins n b s symbols inner
advanced_following n b (kind.Open _ _) s symbols inner k = advanced_begins n b s symbols inner
advanced_following n b (kind.Close _) s symbols inner k = advanced_begins n b s symbols inner
advanced_following n b (kind.Word _) s symbols inner k = advanced_begins n b s symbols inner
advanced_following n b (kind.Function _) s symbols inner k = advanced_begins n b s symbols inner
advanced_following n b kind.Unknown s symbols inner k = advanced_begins n b s symbols inner
advanced_following n b (kind.Field _) s symbols inner k = advanced_begins n b s symbols inner
advanced_following n b kind.Dot s symbols inner k = advanced_begins n b s symbols inner
advanced_following n b (kind.Variable x) s symbols inner k = λ no d mid h. inl (x, symbols, (k, refl), h)
advanced_following n b (kind.Number _) s symbols inner k = advanced_begins n b s symbols inner
advanced_following n b (kind.Str _) s symbols inner k = advanced_begins n b s symbols inner
advanced_following n b kind.Declare s symbols inner k = advanced_begins n b s symbols inner
advanced_following n b kind.Assign s symbols inner k = advanced_begins n b s symbols inner
advanced_following n b kind.Bar s symbols inner k = advanced_begins n b s symbols inner
advanced_following n b kind.Comma s symbols inner k = advanced_begins n b s symbols inner
advanced_following n b kind.Left s symbols inner k = advanced_begins n b s symbols inner
advanced_following n b kind.Right s symbols inner k = advanced_begins n b s symbols inner

advanced_by : (n : Builder) (b : Before) (x : List ℕ) (line : ℕ) (s : Symbol) (symbols : List Symbol) → is_close s.kind ≡ false → Advanced n s symbols (by_variable n b x line s) (NamedRest n b x)
advanced_by n b x line s symbols inner = either (variable_declared n.variables x)
    (λ t. rw t (advanced_map n s symbols (in_pipe n (plain b) (variable_state (room_in b n.room) x) s) (PipeRest n (plain b) (variable_state (room_in b n.room) x)) (NamedRest n b x)
    (λ d mid h. inl (t, h)) (advanced_pipe n (plain b) (variable_state (room_in b n.room) x) s symbols inner)))
    (λ f. rw f tt)

advanced_assign : (n : Builder) (b : Before) (x : List ℕ) (line : ℕ) (s : Symbol) (symbols : List Symbol) → is_close s.kind ≡ false → s.kind ≡ kind.Assign → Advanced n s symbols (named_assign b n x line s) (NamedRest n b x)
advanced_assign n before.Action x line s symbols inner k = either (variable_declared n.variables x)
    (λ t. rw t (λ no d mid h. inr (inr (inl (symbols, refl, t, (k, refl), pipe_said n (purpose.Assign x) n.room d symbols mid h)))))
    (λ f. rw f tt)
advanced_assign n before.If x line s symbols inner k = advanced_by n before.If x line s symbols inner
advanced_assign n before.ElseIf x line s symbols inner k = advanced_by n before.ElseIf x line s symbols inner
advanced_assign n before.With x line s symbols inner k = advanced_by n before.With x line s symbols inner
advanced_assign n before.Range x line s symbols inner k = advanced_by n before.Range x line s symbols inner

advanced_comma : (n : Builder) (b : Before) (x : List ℕ) (line : ℕ) (s : Symbol) (symbols : List Symbol) → is_close s.kind ≡ false → s.kind ≡ kind.Comma → Advanced n s symbols (named_comma b n x line s) (NamedRest n b x)
advanced_comma n before.Range x line s symbols inner k = λ no d mid h. inr (inr (inr (symbols, refl, (k, refl), h)))
advanced_comma n before.Action x line s symbols inner k = advanced_by n before.Action x line s symbols inner
advanced_comma n before.If x line s symbols inner k = advanced_by n before.If x line s symbols inner
advanced_comma n before.ElseIf x line s symbols inner k = advanced_by n before.ElseIf x line s symbols inner
advanced_comma n before.With x line s symbols inner k = advanced_by n before.With x line s symbols inner

advanced_named : (n : Builder) (b : Before) (x : List ℕ) (line : ℕ) (k : SymbolKind) (s : Symbol) (symbols : List Symbol) → is_close s.kind ≡ false → s.kind ≡ k → Advanced n s symbols (named k b n x line s) (NamedRest n b x)
advanced_named n b x line (kind.Text _ _) s symbols inner k = advanced_by n b x line s symbols inner
advanced_named n b x line (kind.Open _ _) s symbols inner k = advanced_by n b x line s symbols inner
advanced_named n b x line (kind.Close _) s symbols inner k = advanced_by n b x line s symbols inner
advanced_named n b x line (kind.Word _) s symbols inner k = advanced_by n b x line s symbols inner
advanced_named n b x line (kind.Function _) s symbols inner k = advanced_by n b x line s symbols inner
advanced_named n b x line kind.Unknown s symbols inner k = advanced_by n b x line s symbols inner
advanced_named n b x line (kind.Field _) s symbols inner k = advanced_by n b x line s symbols inner
advanced_named n b x line kind.Dot s symbols inner k = advanced_by n b x line s symbols inner
advanced_named n b x line (kind.Variable _) s symbols inner k = advanced_by n b x line s symbols inner
advanced_named n b x line (kind.Number _) s symbols inner k = advanced_by n b x line s symbols inner
advanced_named n b x line (kind.Str _) s symbols inner k = advanced_by n b x line s symbols inner
advanced_named n b x line kind.Declare s symbols inner k = λ no d mid h. inr (inl (symbols, (k, refl), pipe_said n (declaring b x) (room_in b n.room) d symbols mid h))
advanced_named n b x line kind.Assign s symbols inner k = advanced_assign n b x line s symbols inner k
advanced_named n b x line kind.Bar s symbols inner k = advanced_by n b x line s symbols inner
advanced_named n b x line kind.Comma s symbols inner k = advanced_comma n b x line s symbols inner k
advanced_named n b x line kind.Left s symbols inner k = advanced_by n b x line s symbols inner
advanced_named n b x line kind.Right s symbols inner k = advanced_by n b x line s symbols inner

advanced_second : (n : Builder) (i : List ℕ) (k : SymbolKind) (s : Symbol) (symbols : List Symbol) → s.kind ≡ k → Advanced n s symbols (second k i s.line) (SecondRest n i)
advanced_second n i (kind.Text _ _) s symbols k = tt
advanced_second n i (kind.Open _ _) s symbols k = tt
advanced_second n i (kind.Close _) s symbols k = tt
advanced_second n i (kind.Word _) s symbols k = tt
advanced_second n i (kind.Function _) s symbols k = tt
advanced_second n i kind.Unknown s symbols k = tt
advanced_second n i (kind.Field _) s symbols k = tt
advanced_second n i kind.Dot s symbols k = tt
advanced_second n i (kind.Variable e) s symbols k = λ no d mid h. (e, symbols, (k, refl), h)
advanced_second n i (kind.Number _) s symbols k = tt
advanced_second n i (kind.Str _) s symbols k = tt
advanced_second n i kind.Declare s symbols k = tt
advanced_second n i kind.Assign s symbols k = tt
advanced_second n i kind.Bar s symbols k = tt
advanced_second n i kind.Comma s symbols k = tt
advanced_second n i kind.Left s symbols k = tt
advanced_second n i kind.Right s symbols k = tt

advanced_last : (n : Builder) (i e : List ℕ) (line : ℕ) (k : SymbolKind) (s : Symbol) (symbols : List Symbol) → s.kind ≡ k → Advanced n s symbols (second_named k n i e line s.line) (LastRest n i e)
advanced_last n i e line (kind.Text _ _) s symbols k = tt
advanced_last n i e line (kind.Open _ _) s symbols k = tt
advanced_last n i e line (kind.Close _) s symbols k = tt
advanced_last n i e line (kind.Word _) s symbols k = tt
advanced_last n i e line (kind.Function _) s symbols k = tt
advanced_last n i e line kind.Unknown s symbols k = tt
advanced_last n i e line (kind.Field _) s symbols k = tt
advanced_last n i e line kind.Dot s symbols k = tt
advanced_last n i e line (kind.Variable _) s symbols k = tt
advanced_last n i e line (kind.Number _) s symbols k = tt
advanced_last n i e line (kind.Str _) s symbols k = tt
advanced_last n i e line kind.Declare s symbols k = λ no d mid h. (symbols, (k, refl), pipe_said n (purpose.Control (control.Range (Some i) (Some e)) false) (n.room - 1) d symbols mid h)
advanced_last n i e line kind.Assign s symbols k = tt
advanced_last n i e line kind.Bar s symbols k = tt
advanced_last n i e line kind.Comma s symbols k = tt
advanced_last n i e line kind.Left s symbols k = tt
advanced_last n i e line kind.Right s symbols k = tt

advanced_control : (n : Builder) (w : Word) (b : Before) (s : Symbol) (symbols : List Symbol) → s.kind ≡ kind.Word w → Advanced n s symbols (control_word n b s.line) (ControlRest n w b)
advanced_control n w b s symbols k = either (n.room == 0) (λ t. rw t tt) (λ f. rw f (λ no d mid h. (symbols, f, (k, refl), h)))

advanced_else_if : (n : Builder) (s : Symbol) (symbols : List Symbol) → s.kind ≡ kind.Word word.If → Advanced n s symbols (else_advance (kind.Word word.If) n s.line) (ElseRest n)
advanced_else_if n s symbols k = either (ends_if n.frames)
    (λ t. rw t (advanced_map n s symbols (control_word n before.ElseIf s.line) (ControlRest n word.If before.ElseIf) (ElseRest n) (λ d mid h. inr (h.0, t, h.1, h.2, h.3)) (advanced_control n word.If before.ElseIf s symbols k)))
    (λ f. rw f tt)

advanced_else_word : (n : Builder) (w : Word) (s : Symbol) (symbols : List Symbol) → s.kind ≡ kind.Word w → Advanced n s symbols (else_advance (kind.Word w) n s.line) (ElseRest n)
advanced_else_word n word.If s symbols k = advanced_else_if n s symbols k
advanced_else_word n word.With s symbols k = tt
advanced_else_word n word.Range s symbols k = tt
advanced_else_word n word.Else s symbols k = tt
advanced_else_word n word.End s symbols k = tt
advanced_else_word n word.Break s symbols k = tt
advanced_else_word n word.Continue s symbols k = tt
advanced_else_word n word.Template s symbols k = tt
advanced_else_word n word.Define s symbols k = tt
advanced_else_word n word.Block s symbols k = tt
advanced_else_word n word.True s symbols k = tt
advanced_else_word n word.False s symbols k = tt
advanced_else_word n word.Nil s symbols k = tt

advanced_else : (n : Builder) (k : SymbolKind) (s : Symbol) (symbols : List Symbol) → s.kind ≡ k → Advanced n s symbols (else_advance k n s.line) (ElseRest n)
advanced_else n (kind.Text _ _) s symbols k = tt
advanced_else n (kind.Open _ _) s symbols k = tt
advanced_else n (kind.Close _) s symbols k = tt
advanced_else n (kind.Word w) s symbols k = advanced_else_word n w s symbols k
advanced_else n (kind.Function _) s symbols k = tt
advanced_else n kind.Unknown s symbols k = tt
advanced_else n (kind.Field _) s symbols k = tt
advanced_else n kind.Dot s symbols k = tt
advanced_else n (kind.Variable _) s symbols k = tt
advanced_else n (kind.Number _) s symbols k = tt
advanced_else n (kind.Str _) s symbols k = tt
advanced_else n kind.Declare s symbols k = tt
advanced_else n kind.Assign s symbols k = tt
advanced_else n kind.Bar s symbols k = tt
advanced_else n kind.Comma s symbols k = tt
advanced_else n kind.Left s symbols k = tt
advanced_else n kind.Right s symbols k = tt

advanced_template : (n : Builder) (k : SymbolKind) (s : Symbol) (symbols : List Symbol) → s.kind ≡ k → Advanced n s symbols (with_name (name_in k s.line) (λ n. action_state.TemplateNamed n)) (Rests n action_state.Template)
advanced_template n (kind.Text _ _) s symbols k = tt
advanced_template n (kind.Open _ _) s symbols k = tt
advanced_template n (kind.Close _) s symbols k = tt
advanced_template n (kind.Word _) s symbols k = tt
advanced_template n (kind.Function _) s symbols k = tt
advanced_template n kind.Unknown s symbols k = tt
advanced_template n (kind.Field _) s symbols k = tt
advanced_template n kind.Dot s symbols k = tt
advanced_template n (kind.Variable _) s symbols k = tt
advanced_template n (kind.Number _) s symbols k = tt
advanced_template n (kind.Str name) s symbols k = λ no d mid h. (name, symbols, (k, refl), h)
advanced_template n kind.Declare s symbols k = tt
advanced_template n kind.Assign s symbols k = tt
advanced_template n kind.Bar s symbols k = tt
advanced_template n kind.Comma s symbols k = tt
advanced_template n kind.Left s symbols k = tt
advanced_template n kind.Right s symbols k = tt

advanced_define : (n : Builder) (line : ℕ) (k : SymbolKind) (s : Symbol) (symbols : List Symbol) → s.kind ≡ k → Advanced n s symbols (with_name (name_in k s.line) (λ n. action_state.DefineNamed n line)) (Rests n (action_state.Define line))
advanced_define n line (kind.Text _ _) s symbols k = tt
advanced_define n line (kind.Open _ _) s symbols k = tt
advanced_define n line (kind.Close _) s symbols k = tt
advanced_define n line (kind.Word _) s symbols k = tt
advanced_define n line (kind.Function _) s symbols k = tt
advanced_define n line kind.Unknown s symbols k = tt
advanced_define n line (kind.Field _) s symbols k = tt
advanced_define n line kind.Dot s symbols k = tt
advanced_define n line (kind.Variable _) s symbols k = tt
advanced_define n line (kind.Number _) s symbols k = tt
advanced_define n line (kind.Str name) s symbols k = λ no d mid h. (name, symbols, (k, refl), h)
advanced_define n line kind.Declare s symbols k = tt
advanced_define n line kind.Assign s symbols k = tt
advanced_define n line kind.Bar s symbols k = tt
advanced_define n line kind.Comma s symbols k = tt
advanced_define n line kind.Left s symbols k = tt
advanced_define n line kind.Right s symbols k = tt

advanced_block : (n : Builder) (line : ℕ) (k : SymbolKind) (s : Symbol) (symbols : List Symbol) → s.kind ≡ k
    → Advanced n s symbols (with_name (name_in k s.line) (λ name. action_state.Pipe (purpose.Block name line) (action_start n.room))) (Rests n (action_state.Block line))
advanced_block n line (kind.Text _ _) s symbols k = tt
advanced_block n line (kind.Open _ _) s symbols k = tt
advanced_block n line (kind.Close _) s symbols k = tt
advanced_block n line (kind.Word _) s symbols k = tt
advanced_block n line (kind.Function _) s symbols k = tt
advanced_block n line kind.Unknown s symbols k = tt
advanced_block n line (kind.Field _) s symbols k = tt
advanced_block n line kind.Dot s symbols k = tt
advanced_block n line (kind.Variable _) s symbols k = tt
advanced_block n line (kind.Number _) s symbols k = tt
advanced_block n line (kind.Str name) s symbols k = λ no d mid h. (name, symbols, (k, refl), pipe_said n (purpose.Block name line) n.room d symbols mid h)
advanced_block n line kind.Declare s symbols k = tt
advanced_block n line kind.Assign s symbols k = tt
advanced_block n line kind.Bar s symbols k = tt
advanced_block n line kind.Comma s symbols k = tt
advanced_block n line kind.Left s symbols k = tt
advanced_block n line kind.Right s symbols k = tt

advanced_call : (n : Builder) (name : List ℕ) (s : Symbol) (symbols : List Symbol) → is_close s.kind ≡ false → Advanced n s symbols (in_pipe n (purpose.Template name) (action_start n.room) s) (CallRest n name)
advanced_call n name s symbols inner = advanced_map n s symbols (in_pipe n (purpose.Template name) (action_start n.room) s) (PipeSaid n (purpose.Template name) n.room) (CallRest n name)
    (λ d mid h. inr h) (advanced_said n (purpose.Template name) n.room s symbols inner)

advanced_end : (n : Builder) (frames : List OpenForm) (s : Symbol) (symbols : List Symbol) → n.frames ≡ frames → s.kind ≡ kind.Word word.End → Advanced n s symbols (end_word frames s.line) (StartRest n)
advanced_end n [] s symbols e k = tt
advanced_end n (f ∷ frames) s symbols e k = λ no d mid h. (ends, (f, frames, e, ((k, h.1), h.0)))

advanced_jump : (n : Builder) (now : Bool) (s : Symbol) (symbols : List Symbol) → n.in_range ≡ now → s.kind ≡ kind.Word word.Break → Advanced n s symbols (jump_word now action_state.Break s.line) (StartRest n)
advanced_jump n true s symbols e k = λ no d mid h. (breaks, (e, ((k, h.1), h.0)))
advanced_jump n false s symbols e k = tt

advanced_continue : (n : Builder) (now : Bool) (s : Symbol) (symbols : List Symbol) → n.in_range ≡ now → s.kind ≡ kind.Word word.Continue → Advanced n s symbols (jump_word now action_state.Continue s.line) (StartRest n)
advanced_continue n true s symbols e k = λ no d mid h. (continues, (e, ((k, h.1), h.0)))
advanced_continue n false s symbols e k = tt

advanced_define_word : (n : Builder) (frames : List OpenForm) (s : Symbol) (symbols : List Symbol) → n.frames ≡ frames → s.kind ≡ kind.Word word.Define → Advanced n s symbols (define_word frames s.line) (StartRest n)
advanced_define_word n [] s symbols e k = λ no d mid h. (defines, (h.0, s.line, symbols, e, (k, refl, refl), name_following h.0 h.1 symbols mid h.2 h.3.1, h.3.0))
advanced_define_word n (f ∷ frames) s symbols e k = tt

advanced_first : {X : Type 0} (n : Builder) (first : Option X) (s : Symbol) (symbols : List Symbol) → Advanced n s symbols (has_first first s.line) (StartRest n)
advanced_first n None s symbols = λ no. absurd (true≢false no)
advanced_first n (Some _) s symbols = tt

advanced_else_begins : (n : Builder) (frames : List OpenForm) (s : Symbol) (symbols : List Symbol) → Advanced n s symbols (else_word frames s.line) (StartRest n)
advanced_else_begins n [] s symbols = tt
advanced_else_begins n (frame.Definition _ ∷ _) s symbols = tt
advanced_else_begins n (frame.Control c ∷ _) s symbols = advanced_first n c.first s symbols

advanced_plain : (n : Builder) (k : SymbolKind) (s : Symbol) (symbols : List Symbol) → is_close s.kind ≡ false → s.kind ≡ k → Advanced n s symbols (following_kind k n before.Action s) (StartRest n)
advanced_plain n k s symbols inner e = advanced_map n s symbols (following_kind k n before.Action s) (BehindRest n before.Action) (StartRest n) (λ d mid h. (pipe_begins, h)) (advanced_following n before.Action k s symbols inner e)

-- of the kind that it has
advanced_same : (n : Builder) (k : SymbolKind) (s : Symbol) (symbols : List Symbol) → is_close s.kind ≡ false → s.kind ≡ k → Advanced n s symbols (following_kind s.kind n before.Action s) (StartRest n)
advanced_same n k s symbols inner e = advanced_plain n s.kind s symbols inner refl

advanced_word : (n : Builder) (w : Word) (s : Symbol) (symbols : List Symbol) → is_close s.kind ≡ false → s.kind ≡ kind.Word w → Advanced n s symbols (start_word w n s) (StartRest n)
advanced_word n word.If s symbols inner k = advanced_map n s symbols (control_word n before.If s.line) (ControlRest n word.If before.If) (StartRest n) (λ d mid h. (if_begins, h)) (advanced_control n word.If before.If s symbols k)
advanced_word n word.With s symbols inner k = advanced_map n s symbols (control_word n before.With s.line) (ControlRest n word.With before.With) (StartRest n) (λ d mid h. (with_begins, h)) (advanced_control n word.With before.With s symbols k)
advanced_word n word.Range s symbols inner k = advanced_map n s symbols (control_word n before.Range s.line) (ControlRest n word.Range before.Range) (StartRest n) (λ d mid h. (range_begins, h)) (advanced_control n word.Range before.Range s symbols k)
advanced_word n word.Else s symbols inner k = advanced_else_begins n n.frames s symbols
advanced_word n word.End s symbols inner k = advanced_end n n.frames s symbols refl k
advanced_word n word.Break s symbols inner k = advanced_jump n n.in_range s symbols refl k
advanced_word n word.Continue s symbols inner k = advanced_continue n n.in_range s symbols refl k
advanced_word n word.Template s symbols inner k = λ no d mid h. (calls, (h.0, symbols, h.1, (k, refl), h.2, h.3))
advanced_word n word.Define s symbols inner k = advanced_define_word n n.frames s symbols refl k
advanced_word n word.Block s symbols inner k = λ no d mid h. (blocks, (h.0, s.line, symbols, h.1, (k, refl, refl), h.2, h.3))
advanced_word n word.True s symbols inner k = advanced_same n (kind.Word word.True) s symbols inner k
advanced_word n word.False s symbols inner k = advanced_same n (kind.Word word.False) s symbols inner k
advanced_word n word.Nil s symbols inner k = advanced_same n (kind.Word word.Nil) s symbols inner k

advanced_start : (n : Builder) (k : SymbolKind) (s : Symbol) (symbols : List Symbol) → is_close s.kind ≡ false → s.kind ≡ k → Advanced n s symbols (start_kind k n s) (StartRest n)
advanced_start n (kind.Text _ _) s symbols inner k = advanced_plain n s.kind s symbols inner refl
advanced_start n (kind.Open _ _) s symbols inner k = advanced_plain n s.kind s symbols inner refl
advanced_start n (kind.Close _) s symbols inner k = advanced_plain n s.kind s symbols inner refl
advanced_start n (kind.Word w) s symbols inner k = advanced_word n w s symbols inner k
advanced_start n (kind.Function _) s symbols inner k = advanced_plain n s.kind s symbols inner refl
advanced_start n kind.Unknown s symbols inner k = advanced_plain n s.kind s symbols inner refl
advanced_start n (kind.Field _) s symbols inner k = advanced_plain n s.kind s symbols inner refl
advanced_start n kind.Dot s symbols inner k = advanced_plain n s.kind s symbols inner refl
advanced_start n (kind.Variable _) s symbols inner k = advanced_plain n s.kind s symbols inner refl
advanced_start n (kind.Number _) s symbols inner k = advanced_plain n s.kind s symbols inner refl
advanced_start n (kind.Str _) s symbols inner k = advanced_plain n s.kind s symbols inner refl
advanced_start n kind.Declare s symbols inner k = advanced_plain n s.kind s symbols inner refl
advanced_start n kind.Assign s symbols inner k = advanced_plain n s.kind s symbols inner refl
advanced_start n kind.Bar s symbols inner k = advanced_plain n s.kind s symbols inner refl
advanced_start n kind.Comma s symbols inner k = advanced_plain n s.kind s symbols inner refl
advanced_start n kind.Left s symbols inner k = advanced_plain n s.kind s symbols inner refl
advanced_start n kind.Right s symbols inner k = advanced_plain n s.kind s symbols inner refl

pub advanced : (n : Builder) (h : ActionState) (s : Symbol) (symbols : List Symbol) → is_close s.kind ≡ false → Advanced n s symbols (action_advance h n s) (Rests n h)
advanced n action_state.Start s symbols inner = advanced_start n s.kind s symbols inner refl
advanced n (action_state.AfterWord b) s symbols inner = advanced_following n b s.kind s symbols inner refl
advanced n (action_state.Named b x line) s symbols inner = advanced_named n b x line s.kind s symbols inner refl
advanced n (action_state.Second i) s symbols inner = advanced_second n i s.kind s symbols refl
advanced n (action_state.SecondNamed i e line) s symbols inner = advanced_last n i e line s.kind s symbols refl
advanced n (action_state.Pipe p at) s symbols inner = advanced_pipe n p at s symbols inner
advanced n action_state.Else s symbols inner = advanced_else n s.kind s symbols refl
advanced n action_state.End s symbols inner = tt
advanced n action_state.Break s symbols inner = tt
advanced n action_state.Continue s symbols inner = tt
advanced n action_state.Template s symbols inner = advanced_template n s.kind s symbols refl
advanced n (action_state.TemplateNamed name) s symbols inner = advanced_call n name s symbols inner
advanced n (action_state.Define line) s symbols inner = advanced_define n line s.kind s symbols refl
advanced n (action_state.DefineNamed name line) s symbols inner = tt
advanced n (action_state.Block line) s symbols inner = advanced_block n line s.kind s symbols refl

-- where an action ends, nothing of it is left
abbrev pub Ended : Builder → ActionState → List Symbol → Result ActionKind ActionRefusal → Type 0
Ended n h symbols (Ok d) = Rests n h d symbols symbols
Ended n h symbols (Err why) = ⊤

closes_read : (variables : List (List ℕ)) (at : PipeState) (q : PipeData) (s : Symbol) (symbols : List Symbol) → is_close s.kind ≡ true → pipe_finish at ≡ Ok q → read_pipe variables at (s ∷ symbols) ≡ Ok (q, s ∷ symbols)
closes_read variables at q s symbols c e = rw (c, e) refl

ended_pipe_rest : (n : Builder) (p : Purpose) (at : PipeState) (r : Result PipeData ParseRefused) (s : Symbol) (symbols : List Symbol) (line : ℕ) → is_close s.kind ≡ true → pipe_finish at ≡ r
    → Ended n (action_state.Pipe p at) (s ∷ symbols) (piped p line r)
ended_pipe_rest n p at (Err why) s symbols line c e = tt
ended_pipe_rest n p at (Ok q) s symbols line c e = (record { commands = q }, closes_read n.variables at q s symbols c e, refl)

ended_named : (n : Builder) (b : Before) (x : List ℕ) (line : ℕ) (r : Result PipeData ParseRefused) (s : Symbol) (symbols : List Symbol) (now : ℕ) → is_close s.kind ≡ true → variable_declared n.variables x ≡ true
    → pipe_finish (variable_state (room_in b n.room) x) ≡ r → Ended n (action_state.Named b x line) (s ∷ symbols) (piped (plain b) now r)
ended_named n b x line (Err why) s symbols now c d e = tt
ended_named n b x line (Ok q) s symbols now c d e = inl (d, (record { commands = q }, closes_read n.variables (variable_state (room_in b n.room) x) q s symbols c e, refl))

pub ended_rest : (n : Builder) (h : ActionState) (s : Symbol) (symbols : List Symbol) (line : ℕ) → is_close s.kind ≡ true → Ended n h (s ∷ symbols) (action_kind_of h n line)
ended_rest n action_state.Start s symbols now c = tt
ended_rest n (action_state.AfterWord b) s symbols now c = tt
ended_rest n (action_state.Named b x line) s symbols now c = either (variable_declared n.variables x)
    (λ d. rw d (ended_named n b x line (pipe_finish (variable_state (room_in b n.room) x)) s symbols now c d refl))
    (λ f. rw f tt)
ended_rest n (action_state.Second i) s symbols now c = tt
ended_rest n (action_state.SecondNamed i e line) s symbols now c = tt
ended_rest n (action_state.Pipe p at) s symbols now c = ended_pipe_rest n p at (pipe_finish at) s symbols now c refl
ended_rest n action_state.Else s symbols now c = inl (refl, refl)
ended_rest n action_state.End s symbols now c = (refl, refl)
ended_rest n action_state.Break s symbols now c = (refl, refl)
ended_rest n action_state.Continue s symbols now c = (refl, refl)
ended_rest n action_state.Template s symbols now c = tt
ended_rest n (action_state.TemplateNamed name) s symbols now c = inl (refl, refl)
ended_rest n (action_state.Define line) s symbols now c = tt
ended_rest n (action_state.DefineNamed name line) s symbols now c = (refl, refl)
ended_rest n (action_state.Block line) s symbols now c = tt

-- a pipe after a word or `{{`, by its variables
pub data Naming : Type 0 where
  unnamed : Naming
  one : List ℕ → Naming
  two : List ℕ → List ℕ → Naming
  again : List ℕ → Naming

abbrev pub named_purpose : Before → Naming → Purpose
named_purpose b unnamed = plain b
named_purpose b (one x) = declaring b x
named_purpose b (two i e) = purpose.Control (control.Range (Some i) (Some e)) false
named_purpose b (again x) = purpose.Assign x

abbrev pub IsNaming : Builder → Before → Naming → List Symbol → List Symbol → Type 0
IsNaming n b unnamed symbols rest = symbols ≡ rest
IsNaming n b (one x) symbols rest = Declares x symbols rest
IsNaming n b (two i e) symbols rest =
    (comma following : List Symbol) × (b ≡ before.Range) × SymbolStands (kind.Variable i) symbols comma × SymbolStands kind.Comma comma following × Declares e following rest
IsNaming n b (again x) symbols rest =
    (mark : List Symbol) × (b ≡ before.Action) × (variable_declared n.variables x ≡ true) × SymbolStands (kind.Variable x) symbols mark × SymbolStands kind.Assign mark rest

-- and the pipe
abbrev pub Piped : Builder → Before → ActionKind → List Symbol → List Symbol → Type 0
Piped n b d symbols mid =
    (naming : Naming) × (pipe : List Symbol) × (q : Pipe) × IsNaming n b naming symbols pipe × IsPipe n.variables (room_in b n.room) q.commands pipe mid × (d ≡ action_kind.Piped (named_purpose b naming) q)

-- a variable at the beginning of a pipe
variable_read : (n : Builder) (room : ℕ) (x : List ℕ) (q : PipeData) (symbols following mid : List Symbol) → variable_declared n.variables x ≡ true → SymbolStands (kind.Variable x) symbols following
    → read_pipe n.variables (variable_state room x) following ≡ Ok (q, mid) → read_pipe n.variables (action_start room) symbols ≡ Ok (q, mid)
variable_read n room x q [] following mid d h e = absurd h
variable_read n room x q (s ∷ symbols) following mid d h e = rw (h.0, d) (ap (read_pipe n.variables (variable_state room x)) h.1 ∙ e)

room_same : (b : Before) (n : Builder) → b ≡ before.Action → room_in b n.room ≡ n.room
room_same b n e = ap (λ b. room_in b n.room) e

room_range : (b : Before) (n : Builder) → b ≡ before.Range → room_in b n.room ≡ n.room - 1
room_range b n e = ap (λ b. room_in b n.room) e

pub following_piped : (n : Builder) (b : Before) (d : ActionKind) (symbols mid : List Symbol) → BehindRest n b d symbols mid → Piped n b d symbols mid
following_piped n b d symbols mid (inr h) = (unnamed, symbols, h.0, refl, h.1, h.2)
following_piped n b d symbols mid (inl (x, following, v, inl (known, (q, reads, is)))) =
    (unnamed, symbols, q, refl, (pipe_stands n.variables (room_in b n.room) q.commands symbols mid (variable_read n (room_in b n.room) x q.commands symbols following mid known v reads)).0, is)
following_piped n b d symbols mid (inl (x, following, v, inr (inl (pipe, mark, (q, stands, is))))) = (one x, pipe, q, (following, v, mark), stands, is)
following_piped n b d symbols mid (inl (x, following, v, inr (inr (inl (pipe, action, known, mark, (q, stands, is)))))) =
    (again x, pipe, q, (following, action, known, v, mark), subst (λ room. IsPipe n.variables room q.commands pipe mid) (sym (room_same b n action)) stands, is)
following_piped n b d symbols mid (inl (x, following, v, inr (inr (inr (after, range, comma, (e, last, w, (pipe, mark, (q, stands, is)))))))) =
    (two x e, pipe, q, (following, after, range, v, comma, (last, w, mark)), subst (λ room. IsPipe n.variables room q.commands pipe mid) (sym (room_range b n range)) stands, is)
