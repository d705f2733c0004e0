-- An action with a pipe leads to what the pipe does.
use Rattle.std.proofs.Common.{◌≡◌, ℕ, true, false, if◌then◌else◌, List, [], ◌∷◌, Some, None, Result, Ok, Err, refl, ap, ◌∙◌, true≢false}
use Rattle.tpl_token.proofs.Marks.{either, heads, tails}
use Rattle.tpl_build.specs.Building.{piped_builder}
use Rattle.tpl_parse.specs.Steps.{Stepped, state, close_end, parser_run}
use Rattle.tpl_parse.specs.Actions.{plain, room_in, action_start, variable_state}
use Rattle.tpl_parse.specs.declared.action.Before.{Before}
use Rattle.tpl_parse.specs.declared.action.Before.TheVariants as before
use Rattle.tpl_parse.specs.declared.action.ActionState.TheVariants as action_state
use Rattle.tpl_parse.specs.Phases as phase
use Rattle.tpl_build.specs.declared.action.Opening.{Opening}
use Rattle.tpl_build.specs.declared.action.Purpose.{Purpose}
use Rattle.tpl_build.specs.declared.action.Purpose.TheVariants as purpose
use Rattle.tpl_build.specs.declared.builder.Builder.{Builder}
use Rattle.tpl_pipe.specs.Levels.{fresh}
use Rattle.tpl_pipe.specs.Reading.{PipeStep, variable_declared, read_pipe_symbol, read_kind, pipe_finish}
use Rattle.tpl_pipe.specs.Runs.{PipeRead, is_close, ends_at, pipe_goes_on, read_pipe}
use Rattle.tpl_pipe.specs.declared.pipe_state.PipeState.{PipeState}
use Rattle.tpl_pipe.specs.declared.refused.ParseRefused.{ParseRefused}
use Rattle.tpl_symbol.specs.declared.symbol.Symbol.{Symbol}
use Rattle.tpl_symbol.specs.declared.symbol.SymbolKind.{SymbolKind}
use Rattle.tpl_symbol.specs.declared.symbol.SymbolKind.TheVariants as kind
use Rattle.tpl_symbol.specs.declared.word.Word.{Word}
use Rattle.tpl_symbol.specs.declared.word.Word.TheVariants as word
use Rattle.tpl_tree.specs.Pipes.{PipeData}

pub close_none : (k : SymbolKind) → is_close k ≡ false → close_end k ≡ None
close_none (kind.Close end) e = absurd (true≢false e)
close_none (kind.Text _ _) e = refl
close_none (kind.Open _ _) e = refl
close_none (kind.Word _) e = refl
close_none (kind.Function _) e = refl
close_none kind.Unknown e = refl
close_none (kind.Field _) e = refl
close_none kind.Dot e = refl
close_none (kind.Variable _) e = refl
close_none (kind.Number _) e = refl
close_none (kind.Str _) e = refl
close_none kind.Declare e = refl
close_none kind.Assign e = refl
close_none kind.Bar e = refl
close_none kind.Comma e = refl
close_none kind.Left e = refl
close_none kind.Right e = refl

-- what a pipe that was read does
abbrev pub Out : Builder → Opening → Purpose → PipeData → Symbol → List Symbol → Stepped → Type 0
Out n o p q c rest r = (end : ℕ) → close_end c.kind ≡ Some end → r ≡ parser_run (state (piped_builder p (record { commands = q }) o.line end n) phase.Outside) rest

abbrev refused_as : ParseRefused × List Symbol → PipeRead
refused_as why = Err why

abbrev read_as : PipeData × List Symbol → PipeRead
read_as found = Ok found

same_read : {x y : PipeData × List Symbol} → read_as x ≡ read_as y → x ≡ y
same_read e = cc

whole_of : (p q : PipeData) (s c : Symbol) (symbols rest : List Symbol) → read_as (p, s ∷ symbols) ≡ read_as (q, c ∷ rest) → (p ≡ q) × (s ≡ c) × (symbols ≡ rest)
whole_of p q s c symbols rest e =
    let pairs = same_read e in
    let lists : s ∷ symbols ≡ c ∷ rest = ap (λ (x : PipeData × List Symbol). x.1) pairs in
    (ap (λ (x : PipeData × List Symbol). x.0) pairs, heads lists, tails lists)

no_pipe : {P : Type 0} {why : ParseRefused × List Symbol} {found : PipeData × List Symbol} → refused_as why ≡ read_as found → P
no_pipe e = absurd cc

ends_out : (n : Builder) (o : Opening) (p : Purpose) (at : PipeState) (s : Symbol) (symbols : List Symbol) (r : Result PipeData ParseRefused) (q : PipeData) (c : Symbol) (rest : List Symbol)
    → pipe_finish at ≡ r → ends_at (s ∷ symbols) r ≡ Ok (q, c ∷ rest) → Out n o p q c rest (parser_run (state n (phase.Inside o (action_state.Pipe p at))) (s ∷ symbols))
ends_out n o p at s symbols (Err why) q c rest f e end k = no_pipe e
ends_out n o p at s symbols (Ok found) q c rest f e end k =
    let parts = whole_of found q s c symbols rest e in
    let here : close_end s.kind ≡ Some end = ap (λ (x : Symbol). close_end x.kind) (parts.1) ∙ k in
    rw (here, f) (ap (λ (q : PipeData). parser_run (state (piped_builder p (record { commands = q }) o.line end n) phase.Outside) symbols) parts.0 ∙ ap (parser_run (state (piped_builder p (record { commands = q }) o.line end n) phase.Outside)) parts.2)

-- what a pipe from the next symbols on does
abbrev pub LaterOut : Builder → Opening → Purpose → List Symbol → Type 0
LaterOut n o p symbols = (at : PipeState) (q : PipeData) (c : Symbol) (rest : List Symbol)
    → read_pipe n.variables at symbols ≡ Ok (q, c ∷ rest) → Out n o p q c rest (parser_run (state n (phase.Inside o (action_state.Pipe p at))) symbols)

goes_out : (n : Builder) (o : Opening) (p : Purpose) (symbols : List Symbol) (at : PipeState) (s : Symbol) (r : PipeStep) (q : PipeData) (c : Symbol) (rest : List Symbol) → LaterOut n o p symbols
    → is_close s.kind ≡ false → read_pipe_symbol n.variables at s ≡ r → pipe_goes_on (s ∷ symbols) r (λ next. read_pipe n.variables next symbols) ≡ Ok (q, c ∷ rest) → Out n o p q c rest (parser_run (state n (phase.Inside o (action_state.Pipe p at))) (s ∷ symbols))
goes_out n o p symbols at s (Err why) q c rest later f g e end k = no_pipe e
goes_out n o p symbols at s (Ok next) q c rest later f g e end k = rw (close_none s.kind f, g) (later next q c rest e end k)

pub pipe_out : (n : Builder) (o : Opening) (p : Purpose) (symbols : List Symbol) → LaterOut n o p symbols
pipe_out n o p [] at q c rest e end k = no_pipe e
pipe_out n o p (s ∷ symbols) at q c rest e end k = either (is_close s.kind)
    (λ t. ends_out n o p at s symbols (pipe_finish at) q c rest refl (rw t at e) end k)
    (λ f. goes_out n o p symbols at s (read_pipe_symbol n.variables at s) q c rest (pipe_out n o p symbols) f refl (rw f at e) end k)

-- after a variable a pipe goes on, if it is read
same_named : (n : Builder) (o : Opening) (b : Before) (x : List ℕ) (line : ℕ) (k : SymbolKind) (s : Symbol) (symbols : List Symbol) (q : PipeData) (c : Symbol) (rest : List Symbol)
    → s.kind ≡ k → variable_declared n.variables x ≡ true
    → (if is_close k then ends_at (s ∷ symbols) (pipe_finish (variable_state (room_in b n.room) x)) else pipe_goes_on (s ∷ symbols) (read_kind k s.touches n.variables [] (variable_state (room_in b n.room) x).level) (λ next. read_pipe n.variables next symbols)) ≡ Ok (q, c ∷ rest)
    → parser_run (state n (phase.Inside o (action_state.Named b x line))) (s ∷ symbols) ≡ parser_run (state n (phase.Inside o (action_state.Pipe (plain b) (variable_state (room_in b n.room) x)))) (s ∷ symbols)
same_named n o b x line (kind.Close end) s symbols q c rest k d e = rw (k, d) refl
same_named n o b x line kind.Declare s symbols q c rest k d e = no_pipe e
same_named n o b x line kind.Assign s symbols q c rest k d e = no_pipe e
same_named n o b x line kind.Comma s symbols q c rest k d e = no_pipe e
same_named n o b x line (kind.Text _ _) s symbols q c rest k d e = rw (k, d) refl
same_named n o b x line (kind.Open _ _) s symbols q c rest k d e = rw (k, d) refl
same_named n o b x line (kind.Word _) s symbols q c rest k d e = rw (k, d) refl
same_named n o b x line (kind.Function _) s symbols q c rest k d e = rw (k, d) refl
same_named n o b x line kind.Unknown s symbols q c rest k d e = rw (k, d) refl
same_named n o b x line (kind.Field _) s symbols q c rest k d e = rw (k, d) refl
same_named n o b x line kind.Dot s symbols q c rest k d e = rw (k, d) refl
same_named n o b x line (kind.Variable _) s symbols q c rest k d e = rw (k, d) refl
same_named n o b x line (kind.Number _) s symbols q c rest k d e = rw (k, d) refl
same_named n o b x line (kind.Str _) s symbols q c rest k d e = rw (k, d) refl
same_named n o b x line kind.Bar s symbols q c rest k d e = rw (k, d) refl
same_named n o b x line kind.Left s symbols q c rest k d e = rw (k, d) refl
same_named n o b x line kind.Right s symbols q c rest k d e = rw (k, d) refl

named_out : (n : Builder) (o : Opening) (b : Before) (x : List ℕ) (line : ℕ) (symbols : List Symbol) (q : PipeData) (c : Symbol) (rest : List Symbol)
    → variable_declared n.variables x ≡ true → read_pipe n.variables (variable_state (room_in b n.room) x) symbols ≡ Ok (q, c ∷ rest)
    → Out n o (plain b) q c rest (parser_run (state n (phase.Inside o (action_state.Named b x line))) symbols)
named_out n o b x line [] q c rest d e end k = no_pipe e
named_out n o b x line (s ∷ symbols) q c rest d e end k =
    same_named n o b x line s.kind s symbols q c rest refl d e ∙ pipe_out n o (plain b) (s ∷ symbols) (variable_state (room_in b n.room) x) q c rest e end k

-- after `{{`, or after a control's word, a pipe begins, if it is read
begins_out : (n : Builder) (o : Opening) (b : Before) (k : SymbolKind) (s : Symbol) (symbols : List Symbol) (q : PipeData) (c : Symbol) (rest : List Symbol)
    → s.kind ≡ k → read_pipe n.variables (action_start (room_in b n.room)) (s ∷ symbols) ≡ Ok (q, c ∷ rest)
    → (if is_close k then ends_at (s ∷ symbols) (pipe_finish (action_start (room_in b n.room))) else pipe_goes_on (s ∷ symbols) (read_kind k s.touches n.variables [] (fresh (room_in b n.room))) (λ next. read_pipe n.variables next symbols)) ≡ Ok (q, c ∷ rest)
    → Out n o (plain b) q c rest (parser_run (state n (phase.Inside o (action_state.AfterWord b))) (s ∷ symbols))
begins_out n o b (kind.Variable x) s symbols q c rest k whole e end close = either (variable_declared n.variables x)
    (λ d. rw k (named_out n o b x s.line symbols q c rest d (rw d at e) end close))
    (λ f. no_pipe (rw f at e))
begins_out n o b (kind.Close _) s symbols q c rest k whole e end close = no_pipe e
begins_out n o b (kind.Text _ _) s symbols q c rest k whole e end close = no_pipe e
begins_out n o b (kind.Open _ _) s symbols q c rest k whole e end close = no_pipe e
begins_out n o b kind.Declare s symbols q c rest k whole e end close = no_pipe e
begins_out n o b kind.Assign s symbols q c rest k whole e end close = no_pipe e
begins_out n o b kind.Comma s symbols q c rest k whole e end close = no_pipe e
begins_out n o b kind.Unknown s symbols q c rest k whole e end close = no_pipe e
begins_out n o b kind.Bar s symbols q c rest k whole e end close = no_pipe e
begins_out n o b kind.Right s symbols q c rest k whole e end close = no_pipe e
begins_out n o b (kind.Word _) s symbols q c rest k whole e end close = (rw k refl) ∙ pipe_out n o (plain b) (s ∷ symbols) (action_start (room_in b n.room)) q c rest whole end close
begins_out n o b (kind.Function _) s symbols q c rest k whole e end close = (rw k refl) ∙ pipe_out n o (plain b) (s ∷ symbols) (action_start (room_in b n.room)) q c rest whole end close
begins_out n o b (kind.Field _) s symbols q c rest k whole e end close = (rw k refl) ∙ pipe_out n o (plain b) (s ∷ symbols) (action_start (room_in b n.room)) q c rest whole end close
begins_out n o b kind.Dot s symbols q c rest k whole e end close = (rw k refl) ∙ pipe_out n o (plain b) (s ∷ symbols) (action_start (room_in b n.room)) q c rest whole end close
begins_out n o b (kind.Number _) s symbols q c rest k whole e end close = (rw k refl) ∙ pipe_out n o (plain b) (s ∷ symbols) (action_start (room_in b n.room)) q c rest whole end close
begins_out n o b (kind.Str _) s symbols q c rest k whole e end close = (rw k refl) ∙ pipe_out n o (plain b) (s ∷ symbols) (action_start (room_in b n.room)) q c rest whole end close
begins_out n o b kind.Left s symbols q c rest k whole e end close = (rw k refl) ∙ pipe_out n o (plain b) (s ∷ symbols) (action_start (room_in b n.room)) q c rest whole end close

pub following_out : (n : Builder) (o : Opening) (b : Before) (symbols : List Symbol) (q : PipeData) (c : Symbol) (rest : List Symbol)
    → read_pipe n.variables (action_start (room_in b n.room)) symbols ≡ Ok (q, c ∷ rest) → Out n o (plain b) q c rest (parser_run (state n (phase.Inside o (action_state.AfterWord b))) symbols)
following_out n o b [] q c rest e end k = no_pipe e
following_out n o b (s ∷ symbols) q c rest e end k = begins_out n o b s.kind s symbols q c rest refl e e end k

words_out : (n : Builder) (o : Opening) (w : Word) (s : Symbol) (symbols : List Symbol) (q : PipeData) (c : Symbol) (rest : List Symbol)
    → s.kind ≡ kind.Word w
    → pipe_goes_on (s ∷ symbols) (read_kind (kind.Word w) s.touches n.variables [] (fresh n.room)) (λ next. read_pipe n.variables next symbols) ≡ Ok (q, c ∷ rest)
    → parser_run (state n (phase.Inside o action_state.Start)) (s ∷ symbols) ≡ parser_run (state n (phase.Inside o (action_state.AfterWord before.Action))) (s ∷ symbols)
words_out n o word.True s symbols q c rest k e = rw k refl
words_out n o word.False s symbols q c rest k e = rw k refl
words_out n o word.Nil s symbols q c rest k e = rw k refl
words_out n o word.If s symbols q c rest k e = no_pipe e
words_out n o word.With s symbols q c rest k e = no_pipe e
words_out n o word.Range s symbols q c rest k e = no_pipe e
words_out n o word.Else s symbols q c rest k e = no_pipe e
words_out n o word.End s symbols q c rest k e = no_pipe e
words_out n o word.Break s symbols q c rest k e = no_pipe e
words_out n o word.Continue s symbols q c rest k e = no_pipe e
words_out n o word.Template s symbols q c rest k e = no_pipe e
words_out n o word.Define s symbols q c rest k e = no_pipe e
words_out n o word.Block s symbols q c rest k e = no_pipe e

-- `{{` alone begins a pipe, if it is read
starts_out : (n : Builder) (o : Opening) (k : SymbolKind) (s : Symbol) (symbols : List Symbol) (q : PipeData) (c : Symbol) (rest : List Symbol)
    → s.kind ≡ k
    → (if is_close k then ends_at (s ∷ symbols) (pipe_finish (action_start n.room)) else pipe_goes_on (s ∷ symbols) (read_kind k s.touches n.variables [] (fresh n.room)) (λ next. read_pipe n.variables next symbols)) ≡ Ok (q, c ∷ rest)
    → parser_run (state n (phase.Inside o action_state.Start)) (s ∷ symbols) ≡ parser_run (state n (phase.Inside o (action_state.AfterWord before.Action))) (s ∷ symbols)
starts_out n o (kind.Word w) s symbols q c rest k e = words_out n o w s symbols q c rest k e
starts_out n o (kind.Close _) s symbols q c rest k e = no_pipe e
starts_out n o (kind.Variable _) s symbols q c rest k e = rw k refl
starts_out n o (kind.Text _ _) s symbols q c rest k e = rw k refl
starts_out n o (kind.Open _ _) s symbols q c rest k e = rw k refl
starts_out n o kind.Declare s symbols q c rest k e = rw k refl
starts_out n o kind.Assign s symbols q c rest k e = rw k refl
starts_out n o kind.Comma s symbols q c rest k e = rw k refl
starts_out n o kind.Unknown s symbols q c rest k e = rw k refl
starts_out n o kind.Bar s symbols q c rest k e = rw k refl
starts_out n o kind.Right s symbols q c rest k e = rw k refl
starts_out n o (kind.Function _) s symbols q c rest k e = rw k refl
starts_out n o (kind.Field _) s symbols q c rest k e = rw k refl
starts_out n o kind.Dot s symbols q c rest k e = rw k refl
starts_out n o (kind.Number _) s symbols q c rest k e = rw k refl
starts_out n o (kind.Str _) s symbols q c rest k e = rw k refl
starts_out n o kind.Left s symbols q c rest k e = rw k refl

pub start_out : (n : Builder) (o : Opening) (symbols : List Symbol) (q : PipeData) (c : Symbol) (rest : List Symbol)
    → read_pipe n.variables (action_start n.room) symbols ≡ Ok (q, c ∷ rest) → Out n o purpose.Write q c rest (parser_run (state n (phase.Inside o action_state.Start)) symbols)
start_out n o [] q c rest e end k = no_pipe e
start_out n o (s ∷ symbols) q c rest e end k = starts_out n o s.kind s symbols q c rest refl e ∙ following_out n o before.Action (s ∷ symbols) q c rest e end k
