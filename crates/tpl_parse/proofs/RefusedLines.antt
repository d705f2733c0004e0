-- Whose line a refusal has: the refused symbol's, or that of a variable before it that nothing declares.
use Rattle.std.proofs.Common.{◌≡◌, ℕ, ◌==◌, Bool, true, false, cond, List, [], ◌∷◌, ◌++◌, Option, Some, None, Result, Ok, Err, ◌⊎◌, inl, inr, refl, sym, ap, ◌∙◌, subst}
use Rattle.std.specs.Prelude.{⊤}
use Rattle.tpl_parse.specs.Files.{IsRefusedAt}
use Rattle.tpl_parse.specs.Laws.{IsVariableOn, EndsInVariable, IsLineOf, RefusedHasItsLine}
use Rattle.tpl_parse.specs.State.{ParserState}
use Rattle.tpl_parse.specs.Steps.{Stepped, state, close_end, after_symbol, onward, inside, outside, parser_step, parser_run, step_and_then, parser_beginning}
use Rattle.tpl_parse.specs.Actions.{ActionRefusal, ActionAdvance, room_in, plain, pipe_advance, in_pipe, action_start, variable_state, following_kind, control_word, has_first, else_word, end_word, define_word, start_word, start_kind, by_variable, named_assign, named_comma, named, second, undeclared, second_named, ends_if, else_advance, name_in, with_name, action_advance, piped, action_kind_of}
use Rattle.tpl_build.specs.declared.frame.OpenForm.{OpenForm}
use Rattle.tpl_build.specs.declared.frame.OpenForm.TheVariants as frame
use Rattle.tpl_parse.specs.declared.action.Before.{Before}
use Rattle.tpl_parse.specs.declared.action.Before.TheVariants as before
use Rattle.tpl_build.specs.declared.action.ActionKind.{ActionKind}
use Rattle.tpl_parse.specs.declared.action.ActionState.{ActionState}
use Rattle.tpl_parse.specs.declared.action.ActionState.TheVariants as action_state
use Rattle.tpl_parse.specs.Phases.{Phase}
use Rattle.tpl_parse.specs.Phases as phase
use Rattle.tpl_build.specs.declared.action.Opening.{Opening}
use Rattle.tpl_build.specs.declared.action.Purpose.{Purpose}
use Rattle.tpl_build.specs.declared.action.Purpose.TheVariants as purpose
use Rattle.tpl_build.specs.declared.builder.Builder.{Builder}
use Rattle.tpl_pipe.specs.Reading.{PipeStep, variable_declared, read_pipe_symbol, pipe_finish}
use Rattle.tpl_pipe.specs.declared.refused.ParseRefused.{ParseRefused}
use Rattle.tpl_pipe.specs.declared.refused.ParseRefused.TheVariants as refused
use Rattle.tpl_symbol.specs.declared.symbol.Symbol.{Symbol}
use Rattle.tpl_symbol.specs.declared.symbol.SymbolKind.{SymbolKind}
use Rattle.tpl_symbol.specs.declared.symbol.SymbolKind.TheVariants as kind
use Rattle.tpl_symbol.specs.declared.word.Word.{Word}
use Rattle.tpl_symbol.specs.declared.word.Word.TheVariants as word
use Rattle.tpl_tree.specs.Pipes.{PipeData}

-- after a variable on this line that may be declared
abbrev Waits : ActionState → ℕ → Type 0
Waits (action_state.Named b x at) line = at ≡ line
Waits (action_state.SecondNamed i e at) line = at ≡ line
Waits _ line = ⊥

abbrev WaitsIn : Phase → ℕ → Type 0
WaitsIn phase.Outside line = ⊥
WaitsIn (phase.Inside o h) line = Waits h line

-- what a refusal names: a line, or that of the variable
abbrev Names : (ℕ → Type 0) → ℕ → ActionRefusal → Type 0
Names waits now why = (why.1 ≡ now) ⊎ ((why.0 ≡ refused.UndefinedVariable) × waits why.1)

-- the variable is the symbol
abbrev Took : ActionState → Symbol → Type 0
Took (action_state.Named b x at) s = IsVariableOn s at
Took (action_state.SecondNamed i e at) s = IsVariableOn s at
Took _ s = ⊤

abbrev SaysAdvance : ActionState → Symbol → ActionAdvance → Type 0
SaysAdvance h s (Ok next) = Took next s
SaysAdvance h s (Err why) = Names (Waits h) s.line why

by_pipe : (h : ActionState) (s : Symbol) (p : Purpose) (r : PipeStep) → SaysAdvance h s (pipe_advance p s.line r)
by_pipe h s p (Ok at) = tt
by_pipe h s p (Err why) = inl refl

-- either way of a test
by_test : (h : ActionState) (s : Symbol) (b : Bool) (t f : ActionAdvance) → SaysAdvance h s t → SaysAdvance h s f → SaysAdvance h s (cond b t f)
by_test h s true t f x y = x
by_test h s false t f x y = y

by_following : (h : ActionState) (k : SymbolKind) (n : Builder) (b : Before) (s : Symbol) → s.kind ≡ k → SaysAdvance h s (following_kind k n b s)
by_following h (kind.Variable x) n b s e = (x, e, refl)
by_following h _ n b s e = by_pipe h s (plain b) (read_pipe_symbol n.variables (action_start (room_in b n.room)) s)

by_control : (h : ActionState) (n : Builder) (b : Before) (s : Symbol) → SaysAdvance h s (control_word n b s.line)
by_control h n b s = by_test h s (n.room == 0) (Err (refused.TooNested, s.line)) (Ok (action_state.AfterWord b)) (inl refl) tt

by_first : {X : Type 0} (h : ActionState) (first : Option X) (s : Symbol) → SaysAdvance h s (has_first first s.line)
by_first h None s = tt
by_first h (Some _) s = inl refl

by_else : (h : ActionState) (frames : List OpenForm) (s : Symbol) → SaysAdvance h s (else_word frames s.line)
by_else h [] s = inl refl
by_else h (frame.Definition _ ∷ _) s = inl refl
by_else h (frame.Control c ∷ _) s = by_first h c.first s

by_end : (h : ActionState) (frames : List OpenForm) (s : Symbol) → SaysAdvance h s (end_word frames s.line)
by_end h [] s = inl refl
by_end h (_ ∷ _) s = tt

by_define : (h : ActionState) (frames : List OpenForm) (s : Symbol) → SaysAdvance h s (define_word frames s.line)
by_define h [] s = tt
by_define h (_ ∷ _) s = inl refl

by_word : (h : ActionState) (w : Word) (n : Builder) (s : Symbol) → SaysAdvance h s (start_word w n s)
by_word h word.If n s = by_control h n before.If s
by_word h word.With n s = by_control h n before.With s
by_word h word.Range n s = by_control h n before.Range s
by_word h word.Else n s = by_else h n.frames s
by_word h word.End n s = by_end h n.frames s
by_word h word.Break n s = by_test h s n.in_range (Ok action_state.Break) (Err (refused.BreakOutside, s.line)) tt (inl refl)
by_word h word.Continue n s = by_test h s n.in_range (Ok action_state.Continue) (Err (refused.BreakOutside, s.line)) tt (inl refl)
by_word h word.Template n s = tt
by_word h word.Define n s = by_define h n.frames s
by_word h word.Block n s = tt
by_word h word.True n s = by_following h s.kind n before.Action s refl
by_word h word.False n s = by_following h s.kind n before.Action s refl
by_word h word.Nil n s = by_following h s.kind n before.Action s refl

by_start : (h : ActionState) (k : SymbolKind) (n : Builder) (s : Symbol) → SaysAdvance h s (start_kind k n s)
by_start h (kind.Word w) n s = by_word h w n s
by_start h _ n s = by_following h s.kind n before.Action s refl

-- after a variable that may be declared
by_use : (n : Builder) (b : Before) (x : List ℕ) (line : ℕ) (s : Symbol) → SaysAdvance (action_state.Named b x line) s (by_variable n b x line s)
by_use n b x line s = by_test (action_state.Named b x line) s (variable_declared n.variables x) (in_pipe n (plain b) (variable_state (room_in b n.room) x) s) (Err (refused.UndefinedVariable, line))
    (by_pipe (action_state.Named b x line) s (plain b) (read_pipe_symbol n.variables (variable_state (room_in b n.room) x) s)) (inr (refl, refl))

by_assign : (n : Builder) (b : Before) (x : List ℕ) (line : ℕ) (s : Symbol) → SaysAdvance (action_state.Named b x line) s (named_assign b n x line s)
by_assign n before.Action x line s = by_test (action_state.Named before.Action x line) s (variable_declared n.variables x) (Ok (action_state.Pipe (purpose.Assign x) (action_start n.room))) (Err (refused.UndefinedVariable, line)) tt (inr (refl, refl))
by_assign n before.If x line s = by_use n before.If x line s
by_assign n before.ElseIf x line s = by_use n before.ElseIf x line s
by_assign n before.With x line s = by_use n before.With x line s
by_assign n before.Range x line s = by_use n before.Range x line s

by_comma : (n : Builder) (b : Before) (x : List ℕ) (line : ℕ) (s : Symbol) → SaysAdvance (action_state.Named b x line) s (named_comma b n x line s)
by_comma n before.Range x line s = tt
by_comma n before.Action x line s = by_use n before.Action x line s
by_comma n before.If x line s = by_use n before.If x line s
by_comma n before.ElseIf x line s = by_use n before.ElseIf x line s
by_comma n before.With x line s = by_use n before.With x line s

by_named : (k : SymbolKind) (n : Builder) (b : Before) (x : List ℕ) (line : ℕ) (s : Symbol) → SaysAdvance (action_state.Named b x line) s (named k b n x line s)
by_named kind.Declare n b x line s = tt
by_named kind.Assign n b x line s = by_assign n b x line s
by_named kind.Comma n b x line s = by_comma n b x line s
by_named _ n b x line s = by_use n b x line s

by_second : (k : SymbolKind) (i : List ℕ) (s : Symbol) → s.kind ≡ k → SaysAdvance (action_state.Second i) s (second k i s.line)
by_second (kind.Variable x) i s e = (x, e, refl)
by_second _ i s e = inl refl

undeclared_names : (variables : List (List ℕ)) (i x : List ℕ) (line now : ℕ) (b : Bool) → variable_declared variables x ≡ b → Names (Waits (action_state.SecondNamed i x line)) now (undeclared variables x line now)
undeclared_names variables i x line now true e = rw e (inl refl)
undeclared_names variables i x line now false e = rw e (inr (refl, refl))

by_second_named : (k : SymbolKind) (n : Builder) (i x : List ℕ) (line : ℕ) (s : Symbol) → SaysAdvance (action_state.SecondNamed i x line) s (second_named k n i x line s.line)
by_second_named kind.Declare n i x line s = tt
by_second_named kind.Comma n i x line s = inl refl
by_second_named _ n i x line s = undeclared_names n.variables i x line s.line (variable_declared n.variables x) refl

by_else_if : (k : SymbolKind) (n : Builder) (s : Symbol) → SaysAdvance action_state.Else s (else_advance k n s.line)
by_else_if (kind.Word word.If) n s = by_test action_state.Else s (ends_if n.frames) (control_word n before.ElseIf s.line) (Err (refused.UnexpectedToken, s.line)) (by_control action_state.Else n before.ElseIf s) (inl refl)
by_else_if _ n s = inl refl

by_name : (h : ActionState) (k : SymbolKind) (s : Symbol) (next : List ℕ → ActionState) → ((x : List ℕ) → Took (next x) s) → SaysAdvance h s (with_name (name_in k s.line) next)
by_name h (kind.Str x) s next t = t x
by_name h _ s next t = inl refl

says_advance : (h : ActionState) (n : Builder) (s : Symbol) → SaysAdvance h s (action_advance h n s)
says_advance action_state.Start n s = by_start action_state.Start s.kind n s
says_advance (action_state.AfterWord b) n s = by_following (action_state.AfterWord b) s.kind n b s refl
says_advance (action_state.Named b x line) n s = by_named s.kind n b x line s
says_advance (action_state.Second i) n s = by_second s.kind i s refl
says_advance (action_state.SecondNamed i x line) n s = by_second_named s.kind n i x line s
says_advance (action_state.Pipe p at) n s = by_pipe (action_state.Pipe p at) s p (read_pipe_symbol n.variables at s)
says_advance action_state.Else n s = by_else_if s.kind n s
says_advance action_state.End n s = inl refl
says_advance action_state.Break n s = inl refl
says_advance action_state.Continue n s = inl refl
says_advance action_state.Template n s = by_name action_state.Template s.kind s (λ x. action_state.TemplateNamed x) (λ x. tt)
says_advance (action_state.TemplateNamed x) n s = by_pipe (action_state.TemplateNamed x) s (purpose.Template x) (read_pipe_symbol n.variables (action_start n.room) s)
says_advance (action_state.Define line) n s = by_name (action_state.Define line) s.kind s (λ x. action_state.DefineNamed x line) (λ x. tt)
says_advance (action_state.DefineNamed x line) n s = inl refl
says_advance (action_state.Block line) n s = by_name (action_state.Block line) s.kind s (λ x. action_state.Pipe (purpose.Block x line) (action_start n.room)) (λ x. tt)

-- the end of an action
abbrev SaysAction : ActionState → ℕ → Result ActionKind ActionRefusal → Type 0
SaysAction h now (Ok d) = ⊤
SaysAction h now (Err why) = Names (Waits h) now why

by_piped : (h : ActionState) (p : Purpose) (now : ℕ) (r : Result PipeData ParseRefused) → SaysAction h now (piped p now r)
by_piped h p now (Ok q) = tt
by_piped h p now (Err why) = inl refl

action_kind_test : (h : ActionState) (now : ℕ) (b : Bool) (t f : Result ActionKind ActionRefusal) → SaysAction h now t → SaysAction h now f → SaysAction h now (cond b t f)
action_kind_test h now true t f x y = x
action_kind_test h now false t f x y = y

says_action : (h : ActionState) (n : Builder) (now : ℕ) → SaysAction h now (action_kind_of h n now)
says_action action_state.Start n now = inl refl
says_action (action_state.AfterWord b) n now = inl refl
says_action (action_state.Named b x line) n now =
    action_kind_test (action_state.Named b x line) now (variable_declared n.variables x) (piped (plain b) now (pipe_finish (variable_state (room_in b n.room) x))) (Err (refused.UndefinedVariable, line))
    (by_piped (action_state.Named b x line) (plain b) now (pipe_finish (variable_state (room_in b n.room) x))) (inr (refl, refl))
says_action (action_state.Second i) n now = inl refl
says_action (action_state.SecondNamed i x line) n now = undeclared_names n.variables i x line now (variable_declared n.variables x) refl
says_action (action_state.Pipe p at) n now = by_piped (action_state.Pipe p at) p now (pipe_finish at)
says_action action_state.Else n now = tt
says_action action_state.End n now = tt
says_action action_state.Break n now = tt
says_action action_state.Continue n now = tt
says_action action_state.Template n now = inl refl
says_action (action_state.TemplateNamed x) n now = tt
says_action (action_state.Define line) n now = inl refl
says_action (action_state.DefineNamed x line) n now = tt
says_action (action_state.Block line) n now = inl refl

-- a step
abbrev TookIn : Phase → Symbol → Type 0
TookIn phase.Outside s = ⊤
TookIn (phase.Inside o h) s = Took h s

abbrev SaysStep : Phase → Symbol → Stepped → Type 0
SaysStep m s (Ok next) = TookIn next.phase s
SaysStep m s (Err why) = Names (WaitsIn m) s.line why

step_outside : (k : SymbolKind) (s : Symbol) (n : Builder) → SaysStep phase.Outside s (outside k s.line n)
step_outside (kind.Text bytes seams) s n = tt
step_outside (kind.Open start last) s n = tt
step_outside _ s n = inl refl

step_after : (r : Result ActionKind ActionRefusal) (o : Opening) (h : ActionState) (end : ℕ) (s : Symbol) (n : Builder) → SaysAction h s.line r → SaysStep (phase.Inside o h) s (after_symbol r o end n)
step_after (Ok d) o h end s n says = tt
step_after (Err why) o h end s n says = says

step_onward : (t : ActionAdvance) (o : Opening) (h : ActionState) (s : Symbol) (n : Builder) → SaysAdvance h s t → SaysStep (phase.Inside o h) s (onward t o n)
step_onward (Ok next) o h s n says = says
step_onward (Err why) o h s n says = says

step_inside : (end : Option ℕ) (o : Opening) (h : ActionState) (s : Symbol) (n : Builder) → SaysStep (phase.Inside o h) s (inside end o h s n)
step_inside (Some end) o h s n = step_after (action_kind_of h n s.line) o h end s n (says_action h n s.line)
step_inside None o h s n = step_onward (action_advance h n s) o h s n (says_advance h n s)

says_step : (n : Builder) (m : Phase) (s : Symbol) → SaysStep m s (parser_step (state n m) s)
says_step n phase.Outside s = step_outside s.kind s n
says_step n (phase.Inside o h) s = step_inside (close_end s.kind) o h s n

-- the last symbol that was read
abbrev Last : List Symbol → ParserState → Type 0
Last symbols at = (prefix : List Symbol) × (s : Symbol) × (mid : ParserState) × (symbols ≡ prefix ++ s ∷ []) × (parser_step mid s ≡ Ok at)

abbrev LastOrNone : ParserState → List Symbol → ParserState → Type 0
LastOrNone from symbols at = ((symbols ≡ []) × (from ≡ at)) ⊎ Last symbols at

abbrev stepped_to : ParserState → Stepped
stepped_to at = Ok at

abbrev stopped_by : ActionRefusal → Stepped
stopped_by why = Err why

same_state : {a b : ParserState} → stepped_to a ≡ Ok b → a ≡ b
same_state e = cc

no_state : {why : ActionRefusal} {at : ParserState} → stopped_by why ≡ Ok at → ⊥
no_state e = cc

last_of : (from : ParserState) (s : Symbol) (symbols : List Symbol) (next at : ParserState) → parser_step from s ≡ Ok next → LastOrNone next symbols at → Last (s ∷ symbols) at
last_of from s symbols next at is (inl (none, same)) = ([], s, from, ap (λ (xs : List Symbol). s ∷ xs) none, is ∙ ap (λ (at : ParserState). stepped_to at) same)
last_of from s symbols next at is (inr (prefix, t, mid, split, steps)) = (s ∷ prefix, t, mid, ap (λ (xs : List Symbol). s ∷ xs) split, steps)

last_in : (from : ParserState) (s : Symbol) (symbols : List Symbol) (r : Stepped) (at : ParserState) → parser_step from s ≡ r → step_and_then r (λ next. parser_run next symbols) ≡ Ok at
    → ((next : ParserState) → parser_run next symbols ≡ Ok at → LastOrNone next symbols at) → Last (s ∷ symbols) at
last_in from s symbols (Err why) at is e later = absurd (no_state e)
last_in from s symbols (Ok next) at is e later = last_of from s symbols next at is (later next e)

last_read : (symbols : List Symbol) (from at : ParserState) → parser_run from symbols ≡ Ok at → LastOrNone from symbols at
last_read [] from at e = inl (refl, same_state e)
last_read (s ∷ symbols) from at e = inr (last_in from s symbols (parser_step from s) at refl e (λ next. last_read symbols next at))

took_it : (h : ActionState) (s : Symbol) (line : ℕ) → Waits h line → Took h s → IsVariableOn s line
took_it (action_state.Named b x at) s line w t = (t.0, t.1, t.2 ∙ w)
took_it (action_state.SecondNamed i x at) s line w t = (t.0, t.1, t.2 ∙ w)
took_it _ s line w t = absurd w

took_in : (m : Phase) (s : Symbol) (line : ℕ) → WaitsIn m line → TookIn m s → IsVariableOn s line
took_in phase.Outside s line w t = absurd w
took_in (phase.Inside o h) s line w t = took_it h s line w t

variable_last : (symbols : List Symbol) (at : ParserState) (line : ℕ) → WaitsIn at.phase line → LastOrNone parser_beginning symbols at → EndsInVariable symbols line
variable_last symbols at line w (inl (none, same)) = absurd (subst (λ (at : ParserState). WaitsIn at.phase line) (sym same) w)
variable_last symbols at line w (inr (prefix, s, mid, split, steps)) =
    let took = subst (SaysStep mid.phase s) steps (says_step mid.builder mid.phase s) in
    (prefix, s, split, took_in at.phase s line w took)

named_line : (symbols : List Symbol) (why : ParseRefused) (line : ℕ) (r : IsRefusedAt symbols why line) → Names (WaitsIn r.at.phase) r.symbol.line (why, line) → IsLineOf r.symbol r.before why line
named_line symbols why line r (inl e) = inl e
named_line symbols why line r (inr (e, w)) = inr (e, variable_last r.before r.at line w (last_read r.before parser_beginning r.at r.leads))

pub refused_has_its_line : RefusedHasItsLine
refused_has_its_line symbols why line r = named_line symbols why line r (subst (SaysStep r.at.phase r.symbol) r.refused (says_step r.at.builder r.at.phase r.symbol))
