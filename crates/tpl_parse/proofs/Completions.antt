-- What was read of a file can be read on to the end of one.
use Rattle.std.proofs.Common.{◌≡◌, ℕ, zero, suc, ◌≤◌, false, List, [], ◌∷◌, ◌++◌, length, Option, Some, None, Result, Ok, refl, ap, ◌∙◌, subst, append_assoc, arith}
use Rattle.tpl_token.proofs.Marks.{either}
use Rattle.tpl_parse.proofs.FileLaws.{run_more}
use Rattle.tpl_parse.proofs.FilesSay.{file_stands}
use Rattle.tpl_parse.proofs.OneFile.{none_goes_on}
use Rattle.tpl_parse.specs.Grammar.{IsFileBody}
use Rattle.tpl_parse.specs.Laws.{IsPrefix, ArePrefixes, RefusedIsFirst}
use Rattle.tpl_build.specs.Building.{closed_control, closed_from, with_end, done}
use Rattle.tpl_parse.specs.State.{ParserState}
use Rattle.tpl_parse.specs.Steps.{state, opening, close_end, after_symbol, onward, inside, parser_run, step_and_then, parser_beginning}
use Rattle.tpl_parse.specs.Actions.{ActionAdvance, pipe_advance, piped, end_word}
use Rattle.tpl_build.specs.declared.frame.OpenForm.{OpenForm}
use Rattle.tpl_build.specs.declared.frame.OpenForm.TheVariants as frame
use Rattle.tpl_build.specs.declared.action.ActionKind.TheVariants as action_kind
use Rattle.tpl_parse.specs.declared.action.ActionState.{ActionState}
use Rattle.tpl_parse.specs.declared.action.ActionState.TheVariants as action_state
use Rattle.tpl_parse.specs.Phases.{Phase}
use Rattle.tpl_parse.specs.Phases as phase
use Rattle.tpl_build.specs.declared.action.Opening.{Opening}
use Rattle.tpl_build.specs.declared.action.Purpose.{Purpose}
use Rattle.tpl_build.specs.declared.builder.Builder.{Builder}
use Rattle.tpl_pipe.specs.Levels.{level, operand_of, operands_onto, commands_onto, level_ended, ended_with, take_into, with_operand}
use Rattle.tpl_pipe.specs.Reading.{PipeStep, pipe_state, read_pipe_symbol, read_function, closed, pipe_finish}
use Rattle.tpl_pipe.specs.declared.pipe_state.Current.{Current}
use Rattle.tpl_pipe.specs.declared.pipe_state.Current.TheVariants as current
use Rattle.tpl_pipe.specs.declared.pipe_state.Level.{Level}
use Rattle.tpl_pipe.specs.declared.pipe_state.PipeState.{PipeState}
use Rattle.tpl_pipe.specs.declared.refused.ParseRefused.{ParseRefused}
use Rattle.tpl_symbol.specs.declared.func.Func.TheVariants as func
use Rattle.tpl_symbol.specs.declared.symbol.Symbol.{Symbol}
use Rattle.tpl_symbol.specs.declared.symbol.SymbolKind.{SymbolKind}
use Rattle.tpl_symbol.specs.declared.symbol.SymbolKind.TheVariants as kind
use Rattle.tpl_symbol.specs.declared.word.Word.TheVariants as word
use Rattle.tpl_tree.specs.Pipes.{PipeData, no_commands, no_operands}
use Rattle.tpl_tree.specs.declared.pipe.Base.TheVariants as base
use Rattle.tpl_tree.specs.declared.pipe.Command.{Command}
use Rattle.tpl_tree.specs.declared.pipe.Command.TheVariants as command_kind
use Rattle.tpl_tree.specs.declared.pipe.Operand.{Operand}

-- the symbols that go on
abbrev symbol_of : SymbolKind → Symbol
symbol_of what = record { kind = what; line = 1; touches = false }

abbrev opens : Symbol
opens = symbol_of (kind.Open 0 1)

abbrev ends : Symbol
ends = symbol_of (kind.Word word.End)

abbrev closes : Symbol
closes = symbol_of (kind.Close 0)

-- a function that is called with nothing is a whole pipe
abbrev calls : Symbol
calls = symbol_of (kind.Function func.Print)

abbrev names : Symbol
names = symbol_of (kind.Str [])

abbrev is_named : Symbol
is_named = symbol_of (kind.Variable [])

abbrev declares : Symbol
declares = symbol_of kind.Declare

abbrev ends_parenthesis : Symbol
ends_parenthesis = symbol_of kind.Right

-- symbols that lead outside actions
abbrev LeadsOut : ParserState → Type 0
LeadsOut at = (more : List Symbol) × (n : Builder) × (parser_run at more ≡ Ok (state n phase.Outside))

-- and with nothing open
abbrev LeadsToEnd : ParserState → Type 0
LeadsToEnd at = (more : List Symbol) × (n : Builder) × (parser_run at more ≡ Ok (state n phase.Outside)) × (n.frames ≡ [])

-- an `end` closes what is innermost
stays : (frames : List OpenForm) (o : Opening) (n : Builder) → length (closed_from frames o n).frames ≤ length frames
stays [] o n = omega arith
stays (frame.Definition d ∷ frames) o n = omega arith
stays (frame.Control c ∷ frames) o n = either c.chained
    (λ t. rw t (let h = stays frames o (closed_control frames c n) in omega arith))
    (λ f. rw f (omega arith))

shrinks : (f : OpenForm) (frames : List OpenForm) (o : Opening) (n : Builder) → length (closed_from (f ∷ frames) o n).frames ≤ length frames
shrinks (frame.Definition d) frames o n = omega arith
shrinks (frame.Control c) frames o n = either c.chained
    (λ t. rw t (stays frames o (closed_control frames c n)))
    (λ f. rw f (omega arith))

abbrev here : Opening
here = opening 1 0 1

end_advances : (f : OpenForm) (frames fs : List OpenForm) → fs ≡ f ∷ frames → end_word fs 1 ≡ Ok action_state.End
end_advances f frames fs e = ap (λ (fs : List OpenForm). end_word fs 1) e

end_leads : (f : OpenForm) (frames : List OpenForm) (n : Builder) (more : List Symbol) → n.frames ≡ f ∷ frames → parser_run (state n phase.Outside) (opens ∷ ends ∷ closes ∷ more) ≡ parser_run (state (with_end here n) phase.Outside) more
end_leads f frames n more e = ap (λ (t : ActionAdvance). step_and_then (onward t here n) (λ next. parser_run next (closes ∷ more))) (end_advances f frames n.frames e)

-- an `end` for each that is open
ends_all : (k : ℕ) (frames : List OpenForm) (n : Builder) → n.frames ≡ frames → length frames ≤ k → LeadsToEnd (state n phase.Outside)
ends_all k [] n e h = ([], n, refl, e)
ends_all zero (f ∷ frames) n e h = absurd (omega arith)
ends_all (suc k) (f ∷ frames) n e h =
    let less = shrinks f frames here n in
    let fewer : length (with_end here n).frames ≤ k = omega (arith, ap (λ (fs : List OpenForm). length (closed_from fs here n).frames) e) in
    let later = ends_all k (with_end here n).frames (with_end here n) refl fewer in
    (opens ∷ ends ∷ closes ∷ later.0, later.1, end_leads f frames n later.0 e ∙ later.2, later.3)

-- a symbol of a pipe
reads_on : (n : Builder) (o : Opening) (p : Purpose) (at next : PipeState) (s : Symbol) (more : List Symbol) → close_end s.kind ≡ None → read_pipe_symbol n.variables at s ≡ Ok next
    → parser_run (state n (phase.Inside o (action_state.Pipe p at))) (s ∷ more) ≡ parser_run (state n (phase.Inside o (action_state.Pipe p next))) more
reads_on n o p at next s more other e =
    ap (λ (end : Option ℕ). step_and_then (inside end o (action_state.Pipe p at) s n) (λ later. parser_run later more)) other
    ∙ ap (λ (r : PipeStep). step_and_then (onward (pipe_advance p s.line r) o n) (λ later. parser_run later more)) e

abbrev done_with : Builder → Opening → Purpose → PipeData → Builder
done_with n o p q = done (action_kind.Piped p (record { commands = q })) o 0 n

-- the end of a pipe
closes_pipe : (n : Builder) (o : Opening) (p : Purpose) (at : PipeState) (q : PipeData) → pipe_finish at ≡ Ok q
    → parser_run (state n (phase.Inside o (action_state.Pipe p at))) (closes ∷ []) ≡ Ok (state (done_with n o p q) phase.Outside)
closes_pipe n o p at q e = ap (λ (r : Result PipeData ParseRefused). step_and_then (after_symbol (piped p 1 r) o 0 n) (λ later. parser_run later [])) e

-- after an operand a command may end
takes_ended : (o : Operand) (c : Current) → (d : Command) × (level_ended (take_into o c) ≡ Some d)
takes_ended o current.Nothing = (command_kind.Single o, refl)
takes_ended o (current.Alone _) = (command_kind.Single o, refl)
takes_ended o (current.Calls f os) = (_, refl)

-- where a command may end, its pipe may, and those around it
ends_levels : (n : Builder) (o : Opening) (p : Purpose) (outer : List Level) (l : Level) (c : Command) → level_ended l.current ≡ Some c → LeadsOut (state n (phase.Inside o (action_state.Pipe p (pipe_state outer l))))
ends_levels n o p [] l c e =
    let q = commands_onto (c ∷ l.commands) no_commands in
    (closes ∷ [], done_with n o p q, closes_pipe n o p (pipe_state [] l) q (ap (λ (x : Option Command). ended_with x l.commands) e))
ends_levels n o p (around ∷ outer) l c e =
    let q = commands_onto (c ∷ l.commands) no_commands in
    let x = operand_of (base.Paren (record { commands = q })) [] in
    let next = with_operand x around in
    let d = takes_ended x around.current in
    let later = ends_levels n o p outer next d.0 d.1 in
    let read_on = reads_on n o p (pipe_state (around ∷ outer) l) (pipe_state outer next) ends_parenthesis later.0 refl (ap (λ (y : Option Command). closed (ended_with y l.commands) outer around) e) in
    (ends_parenthesis ∷ later.0, later.1, read_on ∙ later.2)

-- so a pipe may end, after an operand at most
ends_level : (n : Builder) (o : Opening) (p : Purpose) (outer : List Level) (l : Level) (c : Current) → l.current ≡ c → LeadsOut (state n (phase.Inside o (action_state.Pipe p (pipe_state outer l))))
ends_level n o p outer l current.Nothing e =
    let next = level l.room l.commands (current.Calls func.Print []) in
    let later = ends_levels n o p outer next (command_kind.Call func.Print no_operands) refl in
    let read_on = reads_on n o p (pipe_state outer l) (pipe_state outer next) calls later.0 refl (ap (λ (x : Current). read_function func.Print outer x l) e) in
    (calls ∷ later.0, later.1, read_on ∙ later.2)
ends_level n o p outer l (current.Alone x) e = ends_levels n o p outer l (command_kind.Single x) (ap level_ended e)
ends_level n o p outer l (current.Calls f os) e = ends_levels n o p outer l (command_kind.Call f (operands_onto os no_operands)) (ap level_ended e)

-- the pipe that is a call of a function with nothing
abbrev call : PipeData
call = commands_onto (command_kind.Call func.Print no_operands ∷ []) no_commands

-- an action may end
ends_action : (n : Builder) (o : Opening) (h : ActionState) → LeadsOut (state n (phase.Inside o h))
ends_action n o action_state.Start = (calls ∷ closes ∷ [], _, refl)
ends_action n o (action_state.AfterWord b) = (calls ∷ closes ∷ [], _, refl)
ends_action n o (action_state.Named b x line) = (declares ∷ calls ∷ closes ∷ [], _, refl)
ends_action n o (action_state.Second i) = (is_named ∷ declares ∷ calls ∷ closes ∷ [], _, refl)
ends_action n o (action_state.SecondNamed i x line) = (declares ∷ calls ∷ closes ∷ [], _, refl)
ends_action n o (action_state.Pipe p at) = ends_level n o p at.outer at.level at.level.current refl
ends_action n o action_state.Else = (closes ∷ [], _, refl)
ends_action n o action_state.End = (closes ∷ [], _, refl)
ends_action n o action_state.Break = (closes ∷ [], _, refl)
ends_action n o action_state.Continue = (closes ∷ [], _, refl)
ends_action n o action_state.Template = (names ∷ closes ∷ [], _, refl)
ends_action n o (action_state.TemplateNamed name) = (closes ∷ [], _, refl)
ends_action n o (action_state.Define line) = (names ∷ closes ∷ [], _, refl)
ends_action n o (action_state.DefineNamed name line) = (closes ∷ [], _, refl)
ends_action n o (action_state.Block line) = (names ∷ calls ∷ closes ∷ [], _, refl)

-- from wherever symbols lead, more lead to the end of a file
ends_phase : (n : Builder) (m : Phase) → LeadsToEnd (state n m)
ends_phase n phase.Outside = ends_all (length n.frames) n.frames n refl (omega arith)
ends_phase n (phase.Inside o h) =
    let out = ends_action n o h in
    let later = ends_all (length out.1.frames) out.1.frames out.1 refl (omega arith) in
    (out.0 ++ later.0, later.1, run_more (state n (phase.Inside o h)) (state out.1 phase.Outside) out.0 later.0 out.2 ∙ later.2, later.3)

pub are_prefixes : ArePrefixes
are_prefixes prefix at e =
    let more = ends_phase at.builder at.phase in
    let body = file_stands (prefix ++ more.0) (state more.1 phase.Outside) (run_more parser_beginning at prefix more.0 e ∙ more.2) refl more.3 in
    (more.0, body.0, body.1)

pub refused_is_first : RefusedIsFirst
refused_is_first symbols why line r = (
  are_prefixes r.before r.at r.leads,
  λ (longer : IsPrefix (r.before ++ r.symbol ∷ [])). none_goes_on r.before longer.0 r.symbol r.at why line longer.1 r.leads r.refused
      (subst (λ (all : List Symbol). IsFileBody longer.1 all) (append_assoc r.before (r.symbol ∷ []) longer.0) longer.2),
)
