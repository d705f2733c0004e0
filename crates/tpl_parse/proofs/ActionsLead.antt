-- The symbols of an action lead to what it does.
use Rattle.std.proofs.Common.{◌≡◌, ℕ, ◌-◌, ◌==◌, Bool, true, false, List, [], ◌∷◌, Option, Some, None, Ok, Err, refl, ap, ◌∙◌, subst}
use Rattle.tpl_token.proofs.Marks.{either}
use Rattle.tpl_pipe.specs.declared.refused.ParseRefused.{ParseRefused}
use Rattle.tpl_parse.specs.Grammar.{StandsOn, Declares, IsAction, IsNamedForm, AreNamed, IsControl, IsIf}
use Rattle.tpl_build.specs.Building.{with_node, with_variable, piped_builder}
use Rattle.tpl_parse.specs.Steps.{Stepped, state, after_symbol, form_entered, opening, close_end, parser_run}
use Rattle.tpl_parse.specs.Actions.{plain, declaring, room_in, action_start, action_advance, action_kind_of, ends_if}
use Rattle.tpl_build.specs.declared.frame.Control.{Control}
use Rattle.tpl_build.specs.declared.frame.Control.TheVariants as control
use Rattle.tpl_parse.specs.declared.action.Before.{Before}
use Rattle.tpl_parse.specs.declared.action.Before.TheVariants as before
use Rattle.tpl_parse.specs.declared.action.ActionState.{ActionState}
use Rattle.tpl_parse.specs.declared.action.ActionState.TheVariants as action_state
use Rattle.tpl_parse.specs.Phases as phase
use Rattle.tpl_build.specs.declared.action.Opening.{Opening}
use Rattle.tpl_build.specs.declared.action.Purpose.{Purpose}
use Rattle.tpl_build.specs.declared.action.Purpose.TheVariants as purpose
use Rattle.tpl_build.specs.declared.builder.Builder.{Builder}
use Rattle.tpl_parse.proofs.PipeEnds.{Out, close_none, pipe_out, following_out, start_out}
use Rattle.tpl_pipe.proofs.PipeLeads.{pipe_read}
use Rattle.tpl_pipe.specs.Grammar.{SymbolStands, IsPipe}
use Rattle.tpl_pipe.specs.Runs.{PipeRead, is_close, read_pipe}
use Rattle.tpl_symbol.specs.declared.symbol.Symbol.{Symbol}
use Rattle.tpl_symbol.specs.declared.symbol.SymbolKind.{SymbolKind}
use Rattle.tpl_symbol.specs.declared.symbol.SymbolKind.TheVariants as kind
use Rattle.tpl_symbol.specs.declared.word.Word.TheVariants as word
use Rattle.tpl_tree.specs.Pipes.{PipeData}
use Rattle.tpl_tree.specs.declared.node_kind.NodeKind.{NodeKind}
use Rattle.tpl_tree.specs.declared.node_kind.NodeKind.TheVariants as node_kind

-- one symbol more in an action
pub advances_to : (n : Builder) (o : Opening) (h : ActionState) (what : SymbolKind) (next : Symbol → ActionState) (symbols rest : List Symbol) → SymbolStands what symbols rest → close_end what ≡ None → ((s : Symbol) → form_entered (next s) n ≡ n)
    → ((s : Symbol) → s.kind ≡ what → action_advance h n s ≡ Ok (next s)) → (s : Symbol) × (parser_run (state n (phase.Inside o h)) symbols ≡ parser_run (state n (phase.Inside o (next s))) rest)
advances_to n o h what next [] rest stands inner keeps e = absurd stands
advances_to n o h what next (s ∷ symbols) rest stands inner keeps e = (s, (rw (ap close_end stands.0 ∙ inner, e s stands.0) (ap (λ m. parser_run (state m (phase.Inside o (next s))) symbols) (keeps s))) ∙ ap (parser_run (state n (phase.Inside o (next s)))) stands.1)

-- the same, on a line
pub advances_on : (n : Builder) (o : Opening) (h : ActionState) (what : SymbolKind) (line : ℕ) (next : ℕ → ActionState) (symbols rest : List Symbol) → StandsOn what line symbols rest → close_end what ≡ None → ((l : ℕ) → form_entered (next l) n ≡ n)
    → ((s : Symbol) → s.kind ≡ what → action_advance h n s ≡ Ok (next s.line)) → parser_run (state n (phase.Inside o h)) symbols ≡ parser_run (state n (phase.Inside o (next line))) rest
advances_on n o h what line next [] rest stands inner keeps e = absurd stands
advances_on n o h what line next (s ∷ symbols) rest stands inner keeps e =
    (rw (ap close_end stands.0 ∙ inner, e s stands.0) (ap (λ m. parser_run (state m (phase.Inside o (next s.line))) symbols) (keeps s.line))) ∙ ap (λ l. parser_run (state n (phase.Inside o (next l))) symbols) stands.1 ∙ ap (parser_run (state n (phase.Inside o (next line)))) stands.2

-- an action begins
pub opens_lead : (n : Builder) (start last line : ℕ) (symbols rest : List Symbol) → StandsOn (kind.Open start last) line symbols rest
    → parser_run (state n phase.Outside) symbols ≡ parser_run (state n (phase.Inside (opening line start last) action_state.Start)) rest
opens_lead n start last line [] rest h = absurd h
opens_lead n start last line (s ∷ symbols) rest h = (rw h.0 refl) ∙ ap (λ l. parser_run (state n (phase.Inside (opening l start last) action_state.Start)) symbols) h.1 ∙ ap (parser_run (state n (phase.Inside (opening line start last) action_state.Start))) h.2

-- an action ends
pub closes_lead : (n : Builder) (o : Opening) (h : ActionState) (next : Builder) (end : ℕ) (symbols rest : List Symbol) → SymbolStands (kind.Close end) symbols rest
    → ((line : ℕ) → after_symbol (action_kind_of h n line) o end n ≡ Ok (state next phase.Outside)) → parser_run (state n (phase.Inside o h)) symbols ≡ parser_run (state next phase.Outside) rest
closes_lead n o h next end [] rest stands e = absurd stands
closes_lead n o h next end (s ∷ symbols) rest stands e = (rw (ap close_end stands.0, e s.line) refl) ∙ ap (parser_run (state next phase.Outside)) stands.1

-- a pipe that is read, up to the end of its action
ended_leads : (n : Builder) (o : Opening) (p : Purpose) (q : PipeData) (end : ℕ) (ends rest : List Symbol) (r : Stepped) → SymbolStands (kind.Close end) ends rest
    → ((c : Symbol) (more : List Symbol) → ends ≡ c ∷ more → is_close c.kind ≡ true → Out n o p q c more r)
    → r ≡ parser_run (state (piped_builder p (record { commands = q }) o.line end n) phase.Outside) rest
ended_leads n o p q end [] rest r h f = absurd h
ended_leads n o p q end (c ∷ more) rest r h f =
    f c more refl (ap is_close h.0) end (ap close_end h.0) ∙ ap (parser_run (state (piped_builder p (record { commands = q }) o.line end n) phase.Outside)) h.1

-- a pipe of its own
write_leads : (n : Builder) (o : Opening) (q : PipeData) (end : ℕ) (symbols ends rest : List Symbol) → IsPipe n.variables n.room q symbols ends → SymbolStands (kind.Close end) ends rest
    → parser_run (state n (phase.Inside o action_state.Start)) symbols ≡ parser_run (state (piped_builder purpose.Write (record { commands = q }) o.line end n) phase.Outside) rest
write_leads n o q end symbols ends rest h c = ended_leads n o purpose.Write q end ends rest (parser_run (state n (phase.Inside o action_state.Start)) symbols) c
    (λ c more e k. start_out n o symbols q c more (pipe_read n.variables n.room q symbols more c (subst (IsPipe n.variables n.room q symbols) e h) k))

-- a pipe after a control's word
following_leads : (n : Builder) (o : Opening) (b : Before) (q : PipeData) (end : ℕ) (symbols ends rest : List Symbol) → IsPipe n.variables (room_in b n.room) q symbols ends → SymbolStands (kind.Close end) ends rest
    → parser_run (state n (phase.Inside o (action_state.AfterWord b))) symbols ≡ parser_run (state (piped_builder (plain b) (record { commands = q }) o.line end n) phase.Outside) rest
following_leads n o b q end symbols ends rest h c = ended_leads n o (plain b) q end ends rest (parser_run (state n (phase.Inside o (action_state.AfterWord b))) symbols) c
    (λ c more e k. following_out n o b symbols q c more (pipe_read n.variables (room_in b n.room) q symbols more c (subst (IsPipe n.variables (room_in b n.room) q symbols) e h) k))

-- a pipe that has begun
pub in_pipe_leads : (n : Builder) (o : Opening) (p : Purpose) (room : ℕ) (q : PipeData) (end : ℕ) (symbols ends rest : List Symbol) → IsPipe n.variables room q symbols ends → SymbolStands (kind.Close end) ends rest
    → parser_run (state n (phase.Inside o (action_state.Pipe p (action_start room)))) symbols ≡ parser_run (state (piped_builder p (record { commands = q }) o.line end n) phase.Outside) rest
in_pipe_leads n o p room q end symbols ends rest h c = ended_leads n o p q end ends rest (parser_run (state n (phase.Inside o (action_state.Pipe p (action_start room)))) symbols) c
    (λ c more e k. pipe_out n o p symbols (action_start room) q c more (pipe_read n.variables room q symbols more c (subst (IsPipe n.variables room q symbols) e h) k))

-- `$x :=` after a control's word
declares_lead : (n : Builder) (o : Opening) (b : Before) (x : List ℕ) (symbols rest : List Symbol) → Declares x symbols rest
    → parser_run (state n (phase.Inside o (action_state.AfterWord b))) symbols ≡ parser_run (state n (phase.Inside o (action_state.Pipe (declaring b x) (action_start (room_in b n.room))))) rest
declares_lead n o b x symbols rest h =
    let named = advances_to n o (action_state.AfterWord b) (kind.Variable x) (λ s. action_state.Named b x s.line) symbols h.0 h.1 refl (λ s. refl) (λ s k. rw k refl) in
    let marked = advances_to n o (action_state.Named b x named.0.line) kind.Declare (λ s. action_state.Pipe (declaring b x) (action_start (room_in b n.room))) h.0 rest h.2 refl (λ s. refl) (λ s k. rw k refl) in
    named.1 ∙ marked.1

-- the same after `{{`
start_declares : (n : Builder) (o : Opening) (x : List ℕ) (symbols rest : List Symbol) → Declares x symbols rest
    → parser_run (state n (phase.Inside o action_state.Start)) symbols ≡ parser_run (state n (phase.Inside o (action_state.Pipe (purpose.Declare x) (action_start n.room)))) rest
start_declares n o x symbols rest h =
    let named = advances_to n o action_state.Start (kind.Variable x) (λ s. action_state.Named before.Action x s.line) symbols h.0 h.1 refl (λ s. refl) (λ s k. rw k refl) in
    let marked = advances_to n o (action_state.Named before.Action x named.0.line) kind.Declare (λ s. action_state.Pipe (purpose.Declare x) (action_start n.room)) h.0 rest h.2 refl (λ s. refl) (λ s k. rw k refl) in
    named.1 ∙ marked.1

abbrev refused_read : ParseRefused × List Symbol → PipeRead
refused_read why = Err why

empty_read : {why : ParseRefused × List Symbol} {found : PipeData × List Symbol} → refused_read why ≡ Ok found → ⊥
empty_read e = cc

-- the argument of a `template`
same_template : (n : Builder) (o : Opening) (name : List ℕ) (s : Symbol) (symbols : List Symbol) → close_end s.kind ≡ None
    → parser_run (state n (phase.Inside o (action_state.TemplateNamed name))) (s ∷ symbols) ≡ parser_run (state n (phase.Inside o (action_state.Pipe (purpose.Template name) (action_start n.room)))) (s ∷ symbols)
same_template n o name s symbols e = rw e refl

template_out : (n : Builder) (o : Opening) (name : List ℕ) (symbols : List Symbol) (q : PipeData) (c : Symbol) (rest : List Symbol)
    → read_pipe n.variables (action_start n.room) symbols ≡ Ok (q, c ∷ rest) → Out n o (purpose.Template name) q c rest (parser_run (state n (phase.Inside o (action_state.TemplateNamed name))) symbols)
template_out n o name [] q c rest e = absurd (empty_read e)
template_out n o name (s ∷ symbols) q c rest e = either (is_close s.kind)
    (λ t end k. absurd (empty_read (rw t at e)))
    (λ f end k. same_template n o name s symbols (close_none s.kind f) ∙ pipe_out n o (purpose.Template name) (s ∷ symbols) (action_start n.room) q c rest e end k)

template_leads : (n : Builder) (o : Opening) (name : List ℕ) (q : PipeData) (end : ℕ) (symbols ends rest : List Symbol) → IsPipe n.variables n.room q symbols ends → SymbolStands (kind.Close end) ends rest
    → parser_run (state n (phase.Inside o (action_state.TemplateNamed name))) symbols ≡ parser_run (state (piped_builder (purpose.Template name) (record { commands = q }) o.line end n) phase.Outside) rest
template_leads n o name q end symbols ends rest h c =
    ended_leads n o (purpose.Template name) q end ends rest (parser_run (state n (phase.Inside o (action_state.TemplateNamed name))) symbols) c
    (λ c more e k. template_out n o name symbols q c more (pipe_read n.variables n.room q symbols more c (subst (IsPipe n.variables n.room q symbols) e h) k))

-- what an action does that has no body
abbrev pub acted : NodeKind → ℕ → Builder → Builder
acted (node_kind.Declare x p) line n = with_variable x (with_node (node_kind.Declare x p) line n)
acted what line n = with_node what line n

pub action_leads : (n : Builder) (o : Opening) (what : NodeKind) (end : ℕ) (symbols ends rest : List Symbol) → IsAction n.variables n.room n.in_range what symbols ends → SymbolStands (kind.Close end) ends rest
    → parser_run (state n (phase.Inside o action_state.Start)) symbols ≡ parser_run (state (acted what o.line n) phase.Outside) rest
action_leads n o (node_kind.Action p) end symbols ends rest h c = write_leads n o p.commands end symbols ends rest h c
action_leads n o (node_kind.Declare x p) end symbols ends rest h c =
    start_declares n o x symbols h.0 h.1 ∙ in_pipe_leads n o (purpose.Declare x) n.room p.commands end h.0 ends rest h.2 c
action_leads n o (node_kind.Assign x p) end symbols ends rest h c =
    let named = advances_to n o action_state.Start (kind.Variable x) (λ s. action_state.Named before.Action x s.line) symbols h.0 h.3 refl (λ s. refl) (λ s k. rw k refl) in
    let marked = advances_to n o (action_state.Named before.Action x named.0.line) kind.Assign (λ s. action_state.Pipe (purpose.Assign x) (action_start n.room)) h.0 h.1 h.4 refl (λ s. refl) (λ s k. rw (k, h.2) refl) in
    named.1 ∙ marked.1 ∙ in_pipe_leads n o (purpose.Assign x) n.room p.commands end h.1 ends rest h.5 c
action_leads n o node_kind.Break end symbols ends rest h c =
    let word = advances_to n o action_state.Start (kind.Word word.Break) (λ s. action_state.Break) symbols ends h.1 refl (λ s. refl) (λ s k. rw (k, h.0) refl) in
    word.1 ∙ closes_lead n o action_state.Break (with_node node_kind.Break o.line n) end ends rest c (λ line. refl)
action_leads n o node_kind.Continue end symbols ends rest h c =
    let word = advances_to n o action_state.Start (kind.Word word.Continue) (λ s. action_state.Continue) symbols ends h.1 refl (λ s. refl) (λ s k. rw (k, h.0) refl) in
    word.1 ∙ closes_lead n o action_state.Continue (with_node node_kind.Continue o.line n) end ends rest c (λ line. refl)
action_leads n o (node_kind.Template name None) end symbols ends rest h c =
    let word = advances_to n o action_state.Start (kind.Word word.Template) (λ s. action_state.Template) symbols h.0 h.1 refl (λ s. refl) (λ s k. rw k refl) in
    let named = advances_to n o action_state.Template (kind.Str name) (λ s. action_state.TemplateNamed name) h.0 ends h.2 refl (λ s. refl) (λ s k. rw k refl) in
    word.1 ∙ named.1 ∙ closes_lead n o (action_state.TemplateNamed name) (with_node (node_kind.Template name None) o.line n) end ends rest c (λ line. refl)
action_leads n o (node_kind.Template name (Some p)) end symbols ends rest h c =
    let word = advances_to n o action_state.Start (kind.Word word.Template) (λ s. action_state.Template) symbols h.0 h.2 refl (λ s. refl) (λ s k. rw k refl) in
    let named = advances_to n o action_state.Template (kind.Str name) (λ s. action_state.TemplateNamed name) h.0 h.1 h.3 refl (λ s. refl) (λ s k. rw k refl) in
    word.1 ∙ named.1 ∙ template_leads n o name p.commands end h.1 ends rest h.4 c
action_leads n o (node_kind.Text _) end symbols ends rest h c = absurd h
action_leads n o (node_kind.If _ _) end symbols ends rest h c = absurd h
action_leads n o (node_kind.With _ _) end symbols ends rest h c = absurd h
action_leads n o (node_kind.Range _ _ _) end symbols ends rest h c = absurd h

-- what a pipe is for after this and a variable, or none
abbrev pub naming : Before → Option (List ℕ) → Purpose
naming b None = plain b
naming b (Some x) = declaring b x

named_leads : (n : Builder) (o : Opening) (b : Before) (x : Option (List ℕ)) (q : PipeData) (end : ℕ) (symbols pipe ends rest : List Symbol)
    → IsNamedForm x symbols pipe → IsPipe n.variables (room_in b n.room) q pipe ends → SymbolStands (kind.Close end) ends rest
    → parser_run (state n (phase.Inside o (action_state.AfterWord b))) symbols ≡ parser_run (state (piped_builder (naming b x) (record { commands = q }) o.line end n) phase.Outside) rest
named_leads n o b None q end symbols pipe ends rest named h c =
    ap (parser_run (state n (phase.Inside o (action_state.AfterWord b)))) named ∙ following_leads n o b q end pipe ends rest h c
named_leads n o b (Some x) q end symbols pipe ends rest named h c =
    declares_lead n o b x symbols pipe named ∙ in_pipe_leads n o (declaring b x) (room_in b n.room) q end pipe ends rest h c

-- `$i, $e :=`
both_lead : (n : Builder) (o : Opening) (i e : List ℕ) (q : PipeData) (end : ℕ) (symbols comma following pipe ends rest : List Symbol)
    → SymbolStands (kind.Variable i) symbols comma → SymbolStands kind.Comma comma following → Declares e following pipe → IsPipe n.variables (n.room - 1) q pipe ends → SymbolStands (kind.Close end) ends rest
    → parser_run (state n (phase.Inside o (action_state.AfterWord before.Range))) symbols ≡ parser_run (state (piped_builder (purpose.Control (control.Range (Some i) (Some e)) false) (record { commands = q }) o.line end n) phase.Outside) rest
both_lead n o i e q end symbols comma following pipe ends rest first mark declares h c =
    let named = advances_to n o (action_state.AfterWord before.Range) (kind.Variable i) (λ s. action_state.Named before.Range i s.line) symbols comma first refl (λ s. refl) (λ s k. rw k refl) in
    let marked = advances_to n o (action_state.Named before.Range i named.0.line) kind.Comma (λ s. action_state.Second i) comma following mark refl (λ s. refl) (λ s k. rw k refl) in
    let second = advances_to n o (action_state.Second i) (kind.Variable e) (λ s. action_state.SecondNamed i e s.line) following declares.0 declares.1 refl (λ s. refl) (λ s k. rw k refl) in
    let last = advances_to n o (action_state.SecondNamed i e second.0.line) kind.Declare (λ s. action_state.Pipe (purpose.Control (control.Range (Some i) (Some e)) false) (action_start (n.room - 1))) declares.0 pipe declares.2 refl (λ s. refl) (λ s k. rw k refl) in
    named.1 ∙ marked.1 ∙ second.1 ∙ last.1 ∙ in_pipe_leads n o (purpose.Control (control.Range (Some i) (Some e)) false) (n.room - 1) q end pipe ends rest h c

are_named_lead : (n : Builder) (o : Opening) (i e : Option (List ℕ)) (q : PipeData) (end : ℕ) (symbols pipe ends rest : List Symbol)
    → AreNamed i e symbols pipe → IsPipe n.variables (n.room - 1) q pipe ends → SymbolStands (kind.Close end) ends rest
    → parser_run (state n (phase.Inside o (action_state.AfterWord before.Range))) symbols ≡ parser_run (state (piped_builder (purpose.Control (control.Range i e) false) (record { commands = q }) o.line end n) phase.Outside) rest
are_named_lead n o None None q end symbols pipe ends rest named h c = named_leads n o before.Range None q end symbols pipe ends rest named h c
are_named_lead n o None (Some e) q end symbols pipe ends rest named h c = named_leads n o before.Range (Some e) q end symbols pipe ends rest named h c
are_named_lead n o (Some i) None q end symbols pipe ends rest named h c = absurd named
are_named_lead n o (Some i) (Some e) q end symbols pipe ends rest named h c = both_lead n o i e q end symbols named.0 named.1 pipe ends rest named.2 named.3 named.4 h c

if_lead : (n : Builder) (o : Opening) (b : Before) (x : Option (List ℕ)) (chained : Bool) (q : PipeData) (end : ℕ) (symbols pipe ends rest : List Symbol)
    → naming b x ≡ purpose.Control (control.If x) chained → IsNamedForm x symbols pipe → IsPipe n.variables (room_in b n.room) q pipe ends → SymbolStands (kind.Close end) ends rest
    → parser_run (state n (phase.Inside o (action_state.AfterWord b))) symbols ≡ parser_run (state (piped_builder (purpose.Control (control.If x) chained) (record { commands = q }) o.line end n) phase.Outside) rest
if_lead n o b x chained q end symbols pipe ends rest e named h c = subst (λ p. parser_run (state n (phase.Inside o (action_state.AfterWord b))) symbols ≡ parser_run (state (piped_builder p (record { commands = q }) o.line end n) phase.Outside) rest) e
    (named_leads n o b x q end symbols pipe ends rest named h c)

pub names_if : (x : Option (List ℕ)) → naming before.If x ≡ purpose.Control (control.If x) false
names_if None = refl
names_if (Some x) = refl

pub names_else_if : (x : Option (List ℕ)) → naming before.ElseIf x ≡ purpose.Control (control.If x) true
names_else_if None = refl
names_else_if (Some x) = refl

pub names_with : (x : Option (List ℕ)) → naming before.With x ≡ purpose.Control (control.With x) false
names_with None = refl
names_with (Some x) = refl

-- a control that begins an action
pub control_leads : (n : Builder) (o : Opening) (c : Control) (q : PipeData) (end : ℕ) (symbols ends rest : List Symbol) → (n.room == 0) ≡ false → IsControl n.variables (n.room - 1) c q symbols ends → SymbolStands (kind.Close end) ends rest
    → parser_run (state n (phase.Inside o action_state.Start)) symbols ≡ parser_run (state (piped_builder (purpose.Control c false) (record { commands = q }) o.line end n) phase.Outside) rest
control_leads n o (control.If x) q end symbols ends rest room h c =
    let word = advances_to n o action_state.Start (kind.Word word.If) (λ s. action_state.AfterWord before.If) symbols h.0 h.2 refl (λ s. refl) (λ s k. rw (k, room) refl) in
    word.1 ∙ if_lead n o before.If x false q end h.0 h.1 ends rest (names_if x) h.3 h.4 c
control_leads n o (control.With x) q end symbols ends rest room h c =
    let word = advances_to n o action_state.Start (kind.Word word.With) (λ s. action_state.AfterWord before.With) symbols h.0 h.2 refl (λ s. refl) (λ s k. rw (k, room) refl) in
    word.1 ∙ subst (λ p. parser_run (state n (phase.Inside o (action_state.AfterWord before.With))) h.0 ≡ parser_run (state (piped_builder p (record { commands = q }) o.line end n) phase.Outside) rest) (names_with x)
    (named_leads n o before.With x q end h.0 h.1 ends rest h.3 h.4 c)
control_leads n o (control.Range i e) q end symbols ends rest room h c =
    let word = advances_to n o action_state.Start (kind.Word word.Range) (λ s. action_state.AfterWord before.Range) symbols h.0 h.2 refl (λ s. refl) (λ s k. rw (k, room) refl) in
    word.1 ∙ are_named_lead n o i e q end h.0 h.1 ends rest h.3 h.4 c

-- an `if` after `else`
pub else_if_leads : (n : Builder) (o : Opening) (c : Control) (q : PipeData) (end : ℕ) (symbols ends rest : List Symbol) → ends_if n.frames ≡ true → (n.room == 0) ≡ false → IsIf c
    → IsControl n.variables (n.room - 1) c q symbols ends → SymbolStands (kind.Close end) ends rest
    → parser_run (state n (phase.Inside o action_state.Else)) symbols ≡ parser_run (state (piped_builder (purpose.Control c true) (record { commands = q }) o.line end n) phase.Outside) rest
else_if_leads n o (control.If x) q end symbols ends rest frames room is h c =
    let word = advances_to n o action_state.Else (kind.Word word.If) (λ s. action_state.AfterWord before.ElseIf) symbols h.0 h.2 refl (λ s. refl) (λ s k. rw (k, frames, room) refl) in
    word.1 ∙ if_lead n o before.ElseIf x true q end h.0 h.1 ends rest (names_else_if x) h.3 h.4 c
else_if_leads n o (control.With x) q end symbols ends rest frames room is h c = absurd is
else_if_leads n o (control.Range i e) q end symbols ends rest frames room is h c = absurd is
