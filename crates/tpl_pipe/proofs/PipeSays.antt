-- What is read of a pipe stands there.
use Rattle.std.proofs.Common.{◌≡◌, ℕ, zero, suc, Bool, true, false, if◌then◌else◌, List, [], ◌∷◌, ◌++◌, Option, Some, None, Result, Ok, Err, refl, sym, ap, ◌∙◌, subst, append_assoc, append-nil, true≢false}
use Rattle.std.specs.Prelude.{⊤}
use Rattle.tpl_token.proofs.Marks.{either}
use Rattle.tpl_pipe.specs.Grammar.{SymbolStands, Touching, AreFields, IsNil, IsPipe, AreCalls, IsCall, AreOperands, IsBase}
use Rattle.tpl_pipe.specs.Levels.{level, fresh, operand_of, operands_onto, commands_onto, level_ended, ended_pipe, may_take, takes_operand, take_into, with_operand, takes_field, last_takes, add_field, field_into, with_field}
use Rattle.tpl_pipe.specs.Reading.{PipeStep, pipe_state, variable_declared, read_kind, read_operand, read_nil, read_variable, read_field, read_left, read_function, read_unknown, read_word, closed, next_command, pipe_finish}
use Rattle.tpl_pipe.specs.Runs.{PipeRead, is_close, ends_at, pipe_goes_on, read_pipe}
use Rattle.tpl_pipe.proofs.PipeLeads.{takes_more}
use Rattle.tpl_pipe.specs.declared.pipe_state.Current.{Current}
use Rattle.tpl_pipe.specs.declared.pipe_state.Current.TheVariants as current
use Rattle.tpl_pipe.specs.declared.pipe_state.Level.{Level}
use Rattle.tpl_pipe.specs.declared.refused.ParseRefused.{ParseRefused}
use Rattle.tpl_symbol.specs.declared.func.Func.{Func}
use Rattle.tpl_symbol.specs.declared.symbol.Symbol.{Symbol}
use Rattle.tpl_symbol.specs.declared.symbol.SymbolKind.{SymbolKind}
use Rattle.tpl_symbol.specs.declared.symbol.SymbolKind.TheVariants as kind
use Rattle.tpl_symbol.specs.declared.word.Word.{Word}
use Rattle.tpl_symbol.specs.declared.word.Word.TheVariants as word
use Rattle.tpl_tree.specs.Pipes.{PipeData, no_commands, command, CommandData, single, call, OperandsData, no_operands, operand, OperandData, with_fields, BaseData, str, number, truth, nil, dot, variable, paren}
use Rattle.tpl_tree.specs.View.{base_view, operand_view}
use Rattle.tpl_tree.specs.declared.pipe.Base.TheVariants as base
use Rattle.tpl_tree.specs.declared.pipe.Command.{Command}
use Rattle.tpl_tree.specs.declared.pipe.Operand.{Operand}

-- the fields that are still to come, where the base takes some
abbrev pub Fields : Bool → List (List ℕ) → List Symbol → List Symbol → Type 0
Fields true names symbols rest = AreFields names symbols rest
Fields false names symbols rest = (names ≡ []) × (symbols ≡ rest)

-- the operand with more fields
abbrev pub more_fields : Operand → List (List ℕ) → OperandData
more_fields o names = with_fields (base_view o.base) (o.fields ++ names)

-- what is still to come of the innermost pipe, which is then this one
abbrev pub Goes : List (List ℕ) → ℕ → Current → List Command → List Symbol → PipeData → List Symbol → Type 0
Goes variables room current.Nothing [] symbols p rest = IsPipe variables room p symbols rest
Goes variables room current.Nothing (c ∷ cs) symbols p rest =
    (one : CommandData) × (more : PipeData) × (after : List Symbol) × IsCall variables room one symbols after × AreCalls variables room more after rest × (p ≡ commands_onto (c ∷ cs) (command one more))
Goes variables room (current.Alone o) cs symbols p rest =
    (names : List (List ℕ)) × (more : PipeData) × (after : List Symbol) × Fields (takes_field o) names symbols after × AreCalls variables room more after rest
    × (p ≡ commands_onto cs (command (single (more_fields o names)) more))
Goes variables room (current.Calls f []) cs symbols p rest =
    (os : OperandsData) × (more : PipeData) × (after : List Symbol) × AreOperands variables room os symbols after × AreCalls variables room more after rest
    × (p ≡ commands_onto cs (command (call f os) more))
Goes variables room (current.Calls f (o ∷ done)) cs symbols p rest =
    (names : List (List ℕ)) × (os : OperandsData) × (more : PipeData) × (mid after : List Symbol) × Fields (takes_field o) names symbols mid × AreOperands variables room os mid after × AreCalls variables room more after rest
    × (p ≡ commands_onto cs (command (call f (operands_onto done (operand (more_fields o names) os))) more))

-- the end of an action
abbrev pub IsEnd : List Symbol → Type 0
IsEnd [] = ⊥
IsEnd (s ∷ symbols) = is_close s.kind ≡ true

-- what is still to come from an offset on, up to the end of its action
abbrev pub Finishes : List (List ℕ) → List Level → Level → List Symbol → PipeData → List Symbol → Type 0
Finishes variables [] l symbols p rest = Goes variables l.room l.current l.commands symbols p rest × IsEnd rest
Finishes variables (o ∷ outer) l symbols p rest =
    (q : PipeData) × (end after : List Symbol) × Goes variables l.room l.current l.commands symbols q end × SymbolStands kind.Right end after
    × Finishes variables outer (with_operand (operand_of (base.Paren (record { commands = q })) []) o) after p rest

-- what is read from an offset on stands there
abbrev pub Says : List (List ℕ) → List Level → Level → List Symbol → PipeRead → Type 0
Says variables outer l symbols (Ok found) = Finishes variables outer l symbols found.0 found.1
Says variables outer l symbols (Err why) = ⊤

carry : (variables : List (List ℕ)) (outer outer' : List Level) (l l' : Level) (symbols symbols' : List Symbol) → ((p : PipeData) (rest : List Symbol) → Finishes variables outer' l' symbols' p rest → Finishes variables outer l symbols p rest)
    → (r : PipeRead) → Says variables outer' l' symbols' r → Says variables outer l symbols r
carry variables outer outer' l l' symbols symbols' f (Ok found) h = f found.0 found.1 h
carry variables outer outer' l l' symbols symbols' f (Err why) h = tt

-- a step in the innermost pipe
lift : (variables : List (List ℕ)) (outer : List Level) (l l' : Level) (symbols symbols' : List Symbol)
    → ((p : PipeData) (rest : List Symbol) → Goes variables l'.room l'.current l'.commands symbols' p rest → Goes variables l.room l.current l.commands symbols p rest)
    → (p : PipeData) (rest : List Symbol) → Finishes variables outer l' symbols' p rest → Finishes variables outer l symbols p rest
lift variables [] l l' symbols symbols' f p rest h = (f p rest h.0, h.1)
lift variables (o ∷ outer) l l' symbols symbols' f p rest h = (h.0, h.1, h.2, f h.0 h.1 h.3, h.4, h.5)

-- no field follows
abbrev pub Bare : List Symbol → Type 0
Bare symbols = (name : List ℕ) (more : List Symbol) → Touching name symbols more → ⊥

no_fields : (b : Bool) (symbols : List Symbol) → (b ≡ true → Bare symbols) → Fields b [] symbols symbols
no_fields true symbols bare = (refl, bare refl)
no_fields false symbols bare = (refl, refl)

-- the result that is this pipe
abbrev the_result : PipeData → Result PipeData ParseRefused
the_result p = Ok p

same : {p q : PipeData} → (the_result p) ≡ Ok q → p ≡ q
same e = cc

chosen : {X : Type 0} {x y : X} → Some x ≡ Some y → x ≡ y
chosen e = cc

-- what was read of the innermost pipe is all of it
ends_here : (variables : List (List ℕ)) (room : ℕ) (now : Current) (cs : List Command) (symbols : List Symbol) (p : PipeData) → Bare symbols → ended_pipe (level room cs now) ≡ Ok p
    → Goes variables room now cs symbols p symbols
ends_here variables room current.Nothing [] symbols p bare e = absurd cc
ends_here variables room current.Nothing (_ ∷ _) symbols p bare e = absurd cc
ends_here variables room (current.Alone o) cs symbols p bare e =
    ([], no_commands, symbols, no_fields (takes_field o) symbols (λ t. bare), refl, sym (same e) ∙ ap (λ fs. commands_onto cs (command (single (with_fields (base_view o.base) fs)) no_commands)) (sym (append-nil o.fields)))
ends_here variables room (current.Calls f []) cs symbols p bare e = (no_operands, no_commands, symbols, refl, refl, sym (same e))
ends_here variables room (current.Calls f (o ∷ done)) cs symbols p bare e = (
  [],
  no_operands,
  no_commands,
  symbols,
  symbols,
  no_fields (takes_field o) symbols (λ t. bare),
  refl,
  refl,
  sym (same e) ∙ ap (λ fs. commands_onto cs (command (call f (operands_onto done (operand (with_fields (base_view o.base) fs) no_operands))) no_commands)) (sym (append-nil o.fields)),
)

-- a bar begins another command
bar_goes : (variables : List (List ℕ)) (room : ℕ) (now : Current) (cs : List Command) (c : Command) (s : Symbol) (symbols : List Symbol) (p : PipeData) (rest : List Symbol)
    → s.kind ≡ kind.Bar → level_ended now ≡ Some c → Bare (s ∷ symbols) → Goes variables room current.Nothing (c ∷ cs) symbols p rest → Goes variables room now cs (s ∷ symbols) p rest
bar_goes variables room current.Nothing cs c s symbols p rest k e bare h = absurd cc
bar_goes variables room (current.Alone o) cs c s symbols p rest k e bare h = (
  [],
  command h.0 h.1,
  s ∷ symbols,
  no_fields (takes_field o) (s ∷ symbols) (λ t. bare),
  (symbols, h.2, (k, refl), h.3, h.4),
  h.5 ∙ ap (λ c. commands_onto (c ∷ cs) (command h.0 h.1)) (sym (chosen e)) ∙ ap (λ fs. commands_onto cs (command (single (with_fields (base_view o.base) fs)) (command h.0 h.1))) (sym (append-nil o.fields)),
)
bar_goes variables room (current.Calls f []) cs c s symbols p rest k e bare h =
    (no_operands, command h.0 h.1, s ∷ symbols, refl, (symbols, h.2, (k, refl), h.3, h.4), h.5 ∙ ap (λ c. commands_onto (c ∷ cs) (command h.0 h.1)) (sym (chosen e)))
bar_goes variables room (current.Calls f (o ∷ done)) cs c s symbols p rest k e bare h = (
  [],
  no_operands,
  command h.0 h.1,
  s ∷ symbols,
  s ∷ symbols,
  no_fields (takes_field o) (s ∷ symbols) (λ t. bare),
  refl,
  (symbols, h.2, (k, refl), h.3, h.4),
  h.5 ∙ ap (λ c. commands_onto (c ∷ cs) (command h.0 h.1)) (sym (chosen e)) ∙ ap (λ fs. commands_onto cs (command (call f (operands_onto done (operand (with_fields (base_view o.base) fs) no_operands))) (command h.0 h.1))) (sym (append-nil o.fields)),
)

-- a function begins a command
function_goes : (variables : List (List ℕ)) (room : ℕ) (cs : List Command) (f : Func) (s : Symbol) (symbols : List Symbol) (p : PipeData) (rest : List Symbol)
    → s.kind ≡ kind.Function f → Goes variables room (current.Calls f []) cs symbols p rest → Goes variables room current.Nothing cs (s ∷ symbols) p rest
function_goes variables room [] f s symbols p rest k h = subst (λ p. IsPipe variables room p (s ∷ symbols) rest) (sym h.5) (h.2, (symbols, (k, refl), h.3), h.4)
function_goes variables room (c ∷ cs) f s symbols p rest k h = (call f h.0, h.1, h.2, (symbols, (k, refl), h.3), h.4, h.5)

-- `nil` may not come first
abbrev pub IsFirstOperand : Current → OperandData → Type 0
IsFirstOperand current.Nothing o = IsNil o → ⊥
IsFirstOperand (current.Alone _) o = ⊤
IsFirstOperand (current.Calls _ _) o = ⊤

not_nil : (b : BaseData) (fields more : List (List ℕ)) → (IsNil (with_fields b fields) → ⊥) → IsNil (with_fields b more) → ⊥
not_nil nil fields more h = h
not_nil (str _) fields more h = λ n. n
not_nil (number _) fields more h = λ n. n
not_nil (truth _) fields more h = λ n. n
not_nil dot fields more h = λ n. n
not_nil (variable _) fields more h = λ n. n
not_nil (paren _) fields more h = λ n. n

-- an operand whose base stands first, and then its fields
operand_goes : (variables : List (List ℕ)) (room : ℕ) (now : Current) (cs : List Command) (o : Operand) (symbols following : List Symbol) (p : PipeData) (rest : List Symbol)
    → may_take now cs ≡ true → (IsFirstOperand now (operand_view o)) → (last_takes now ≡ true → Bare symbols)
    → ((names : List (List ℕ)) (after : List Symbol) → Fields (takes_field o) names following after → IsBase variables room (base_view o.base) (o.fields ++ names) symbols after)
    → Goes variables room (take_into o now) cs following p rest → Goes variables room now cs symbols p rest
operand_goes variables room current.Nothing [] o symbols following p rest e may bare stands h =
    subst (λ p. IsPipe variables room p symbols rest) (sym h.5) (h.2, (not_nil (base_view o.base) o.fields (o.fields ++ h.0) may, stands h.0 h.2 h.3), h.4)
operand_goes variables room current.Nothing (_ ∷ _) o symbols following p rest e may bare stands h = absurd (true≢false (sym e))
operand_goes variables room (current.Alone _) cs o symbols following p rest e may bare stands h = absurd (true≢false (sym e))
operand_goes variables room (current.Calls f []) cs o symbols following p rest e may bare stands h =
    (operand (more_fields o h.0) h.1, h.2, h.4, (h.3, stands h.0 h.3 h.5, h.6), h.7, h.8)
operand_goes variables room (current.Calls f (last ∷ done)) cs o symbols following p rest e may bare stands h = (
  [],
  operand (more_fields o h.0) h.1,
  h.2,
  symbols,
  h.4,
  no_fields (takes_field last) symbols bare,
  (h.3, stands h.0 h.3 h.5, h.6),
  h.7,
  h.8 ∙ ap (λ fs. commands_onto cs (command (call f (operands_onto done (operand (with_fields (base_view last.base) fs) (operand (more_fields o h.0) h.1)))) h.2)) (sym (append-nil last.fields)),
)

one_field : (o : Operand) (name : List ℕ) (names : List (List ℕ)) (s : Symbol) (symbols after : List Symbol) → s.kind ≡ kind.Field name → s.touches ≡ true → takes_field o ≡ true
    → Fields (takes_field (add_field name o)) names symbols after → Fields (takes_field o) (name ∷ names) (s ∷ symbols) after
one_field o name names s symbols after k t e h = rw e (symbols, (k, t, refl), subst (λ b. Fields b names symbols after) (takes_more o.base o.fields name e) h)

-- a field of the last operand
field_goes : (variables : List (List ℕ)) (room : ℕ) (now : Current) (cs : List Command) (name : List ℕ) (s : Symbol) (symbols : List Symbol) (p : PipeData) (rest : List Symbol)
    → s.kind ≡ kind.Field name → s.touches ≡ true → last_takes now ≡ true → Goes variables room (field_into name now) cs symbols p rest → Goes variables room now cs (s ∷ symbols) p rest
field_goes variables room current.Nothing cs name s symbols p rest k t e h = absurd (true≢false (sym e))
field_goes variables room (current.Calls f []) cs name s symbols p rest k t e h = absurd (true≢false (sym e))
field_goes variables room (current.Alone o) cs name s symbols p rest k t e h =
    (name ∷ h.0, h.1, h.2, one_field o name h.0 s symbols h.2 k t e h.3, h.4, h.5 ∙ ap (λ fs. commands_onto cs (command (single (with_fields (base_view o.base) fs)) h.1)) (append_assoc o.fields (name ∷ []) h.0))
field_goes variables room (current.Calls f (o ∷ done)) cs name s symbols p rest k t e h = (
  name ∷ h.0,
  h.1,
  h.2,
  h.3,
  h.4,
  one_field o name h.0 s symbols h.3 k t e h.5,
  h.6,
  h.7,
  h.8 ∙ ap (λ fs. commands_onto cs (command (call f (operands_onto done (operand (with_fields (base_view o.base) fs) h.1))) h.2)) (append_assoc o.fields (name ∷ []) h.0),
)

abbrev pub is_field : SymbolKind → Bool
is_field (kind.Field _) = true
is_field _ = false

-- a symbol that is no field
other : (what : SymbolKind) (s : Symbol) (symbols : List Symbol) → s.kind ≡ what → is_field what ≡ false → Bare (s ∷ symbols)
other what s symbols k e name more t = true≢false (sym (ap is_field t.0) ∙ ap is_field k ∙ e)

-- what is read after the next symbol
abbrev pub Later : List (List ℕ) → List Symbol → Type 0
Later variables symbols = (outer : List Level) (l : Level) → Says variables outer l symbols (read_pipe variables (pipe_state outer l) symbols)

-- what is read from the next symbol on, with this step
abbrev pub SaysStep : List (List ℕ) → List Level → Level → Symbol → List Symbol → PipeStep → Type 0
SaysStep variables outer l s symbols step = Says variables outer l (s ∷ symbols) (pipe_goes_on (s ∷ symbols) step (λ next. read_pipe variables next symbols))

steps_in : (variables : List (List ℕ)) (outer : List Level) (l l' : Level) (s : Symbol) (symbols : List Symbol) → Later variables symbols
    → ((p : PipeData) (rest : List Symbol) → Goes variables l'.room l'.current l'.commands symbols p rest → Goes variables l.room l.current l.commands (s ∷ symbols) p rest)
    → SaysStep variables outer l s symbols (Ok (pipe_state outer l'))
steps_in variables outer l l' s symbols later f = carry variables outer outer l l' (s ∷ symbols) symbols (lift variables outer l l' (s ∷ symbols) symbols f) (read_pipe variables (pipe_state outer l') symbols) (later outer l')

says_operand : (variables : List (List ℕ)) (outer : List Level) (l : Level) (o : Operand) (s : Symbol) (symbols : List Symbol) → Later variables symbols
    → IsFirstOperand l.current (operand_view o) → (last_takes l.current ≡ true → Bare (s ∷ symbols))
    → ((names : List (List ℕ)) (after : List Symbol) → Fields (takes_field o) names symbols after → IsBase variables l.room (base_view o.base) (o.fields ++ names) (s ∷ symbols) after)
    → SaysStep variables outer l s symbols (read_operand o outer l)
says_operand variables outer l o s symbols later may bare stands = either (takes_operand l)
    (λ t. rw t (steps_in variables outer l (with_operand o l) s symbols later (λ p rest h. operand_goes variables l.room l.current l.commands o (s ∷ symbols) symbols p rest t may bare stands h)))
    (λ f. rw f tt)

abbrev pub is_nil : BaseData → Bool
is_nil nil = true
is_nil _ = false

may_come : (now : Current) (b : BaseData) (fields : List (List ℕ)) → is_nil b ≡ false → IsFirstOperand now (with_fields b fields)
may_come current.Nothing nil fields e = absurd (true≢false e)
may_come current.Nothing (str _) fields e = λ n. n
may_come current.Nothing (number _) fields e = λ n. n
may_come current.Nothing (truth _) fields e = λ n. n
may_come current.Nothing dot fields e = λ n. n
may_come current.Nothing (variable _) fields e = λ n. n
may_come current.Nothing (paren _) fields e = λ n. n
may_come (current.Alone _) b fields e = tt
may_come (current.Calls _ _) b fields e = tt

says_nil : (variables : List (List ℕ)) (outer : List Level) (room : ℕ) (cs : List Command) (now : Current) (s : Symbol) (symbols : List Symbol) → Later variables symbols → s.kind ≡ kind.Word word.Nil
    → SaysStep variables outer (level room cs now) s symbols (read_nil outer now (level room cs now))
says_nil variables outer room cs current.Nothing s symbols later k = tt
says_nil variables outer room cs (current.Alone _) s symbols later k = tt
says_nil variables outer room cs (current.Calls f os) s symbols later k =
    says_operand variables outer (level room cs (current.Calls f os)) (operand_of base.Nil []) s symbols later tt (λ t. other (kind.Word word.Nil) s symbols k refl)
    (λ names after h. subst (λ ns. IsBase variables room nil ns (s ∷ symbols) after) (sym h.0) (k, h.1))

says_variable : (variables : List (List ℕ)) (outer : List Level) (l : Level) (name : List ℕ) (s : Symbol) (symbols : List Symbol) → Later variables symbols → s.kind ≡ kind.Variable name
    → SaysStep variables outer l s symbols (read_variable variables name outer l)
says_variable variables outer l name s symbols later k =
    let o = operand_of (base.Variable name) [] in
    either (takes_operand l)
    (λ t. either (variable_declared variables name)
    (λ d. rw (t, d) (steps_in variables outer l (with_operand o l) s symbols later (λ p rest h. operand_goes variables l.room l.current l.commands o (s ∷ symbols) symbols p rest t
    (may_come l.current (variable name) [] refl) (λ last. other (kind.Variable name) s symbols k refl) (λ names after fields. (symbols, d, (k, refl), fields)) h)))
    (λ n. rw (t, n) tt))
    (λ f. rw f tt)

says_field : (variables : List (List ℕ)) (outer : List Level) (l : Level) (name : List ℕ) (touches : Bool) (s : Symbol) (symbols : List Symbol) → Later variables symbols → s.kind ≡ kind.Field name → s.touches ≡ touches
    → SaysStep variables outer l s symbols (read_field name touches outer l)
says_field variables outer l name false s symbols later k t =
    says_operand variables outer l (operand_of base.Dot (name ∷ [])) s symbols later (may_come l.current dot (name ∷ []) refl) (λ last n more touching. true≢false (sym touching.1 ∙ t))
    (λ names after fields. (symbols, (k, refl), fields))
says_field variables outer l name true s symbols later k t = either (last_takes l.current)
    (λ last. rw last (steps_in variables outer l (with_field name l) s symbols later (λ p rest h. field_goes variables l.room l.current l.commands name s symbols p rest k t last h)))
    (λ none. rw none (says_operand variables outer l (operand_of base.Dot (name ∷ [])) s symbols later (may_come l.current dot (name ∷ []) refl) (λ last. absurd (true≢false (sym last ∙ none)))
    (λ names after fields. (symbols, (k, refl), fields))))

says_left : (variables : List (List ℕ)) (outer : List Level) (l : Level) (room : ℕ) (s : Symbol) (symbols : List Symbol) → Later variables symbols → s.kind ≡ kind.Left → l.room ≡ room
    → SaysStep variables outer l s symbols (read_left room outer l)
says_left variables outer l zero s symbols later k n = either (takes_operand l) (λ t. rw t tt) (λ f. rw f tt)
says_left variables outer l (suc room) s symbols later k n = either (takes_operand l)
    (λ t. rw t (carry variables outer (l ∷ outer) l (fresh room) (s ∷ symbols) symbols
    (λ p rest h. let o = operand_of (base.Paren (record { commands = h.0 })) [] in
    lift variables outer l (with_operand o l) (s ∷ symbols) h.2 (λ p rest g. operand_goes variables l.room l.current l.commands o (s ∷ symbols) h.2 p rest t (may_come l.current (paren h.0) [] refl)
    (λ last. other kind.Left s symbols k refl)
    (λ names after fields. subst (λ m. IsBase variables m (paren h.0) names (s ∷ symbols) after) (sym n) (symbols, h.1, h.2, (k, refl), h.3, h.4, fields)) g) p rest h.5)
    (read_pipe variables (pipe_state (l ∷ outer) (fresh room)) symbols) (later (l ∷ outer) (fresh room))))
    (λ f. rw f tt)

says_right : (variables : List (List ℕ)) (outer : List Level) (o l : Level) (r : Result PipeData ParseRefused) (s : Symbol) (symbols : List Symbol) → Later variables symbols → s.kind ≡ kind.Right → ended_pipe l ≡ r
    → SaysStep variables (o ∷ outer) l s symbols (closed r outer o)
says_right variables outer o l (Err why) s symbols later k e = tt
says_right variables outer o l (Ok q) s symbols later k e =
    let next = with_operand (operand_of (base.Paren (record { commands = q })) []) o in
    carry variables (o ∷ outer) outer l next (s ∷ symbols) symbols
    (λ p rest h. (q, s ∷ symbols, symbols, ends_here variables l.room l.current l.commands (s ∷ symbols) q (other kind.Right s symbols k refl) e, (k, refl), h))
    (read_pipe variables (pipe_state outer next) symbols) (later outer next)

says_bar : (variables : List (List ℕ)) (outer : List Level) (l : Level) (r : Option Command) (s : Symbol) (symbols : List Symbol) → Later variables symbols → s.kind ≡ kind.Bar → level_ended l.current ≡ r
    → SaysStep variables outer l s symbols (next_command r outer l)
says_bar variables outer l None s symbols later k e = tt
says_bar variables outer l (Some c) s symbols later k e =
    steps_in variables outer l (level l.room (c ∷ l.commands) current.Nothing) s symbols later
    (λ p rest h. bar_goes variables l.room l.current l.commands c s symbols p rest k e (other kind.Bar s symbols k refl) h)

says_function : (variables : List (List ℕ)) (outer : List Level) (room : ℕ) (cs : List Command) (now : Current) (f : Func) (s : Symbol) (symbols : List Symbol) → Later variables symbols → s.kind ≡ kind.Function f
    → SaysStep variables outer (level room cs now) s symbols (read_function f outer now (level room cs now))
says_function variables outer room cs current.Nothing f s symbols later k =
    steps_in variables outer (level room cs current.Nothing) (level room cs (current.Calls f [])) s symbols later (λ p rest h. function_goes variables room cs f s symbols p rest k h)
says_function variables outer room cs (current.Alone _) f s symbols later k = tt
says_function variables outer room cs (current.Calls _ _) f s symbols later k = tt

says_unknown : (variables : List (List ℕ)) (outer : List Level) (l : Level) (now : Current) (s : Symbol) (symbols : List Symbol) → SaysStep variables outer l s symbols (read_unknown now)
says_unknown variables outer l current.Nothing s symbols = tt
says_unknown variables outer l (current.Alone _) s symbols = tt
says_unknown variables outer l (current.Calls _ _) s symbols = tt

says_word : (variables : List (List ℕ)) (outer : List Level) (l : Level) (w : Word) (s : Symbol) (symbols : List Symbol) → Later variables symbols → s.kind ≡ kind.Word w
    → SaysStep variables outer l s symbols (read_word w outer l)
says_word variables outer l word.True s symbols later k =
    says_operand variables outer l (operand_of (base.Bool true) []) s symbols later (may_come l.current (truth true) [] refl) (λ last. other (kind.Word word.True) s symbols k refl)
    (λ names after h. subst (λ ns. IsBase variables l.room (truth true) ns (s ∷ symbols) after) (sym h.0) (k, h.1))
says_word variables outer l word.False s symbols later k =
    says_operand variables outer l (operand_of (base.Bool false) []) s symbols later (may_come l.current (truth false) [] refl) (λ last. other (kind.Word word.False) s symbols k refl)
    (λ names after h. subst (λ ns. IsBase variables l.room (truth false) ns (s ∷ symbols) after) (sym h.0) (k, h.1))
says_word variables outer l word.Nil s symbols later k = says_nil variables outer l.room l.commands l.current s symbols later k
says_word variables outer l word.If s symbols later k = tt
says_word variables outer l word.With s symbols later k = tt
says_word variables outer l word.Range s symbols later k = tt
says_word variables outer l word.Else s symbols later k = tt
says_word variables outer l word.End s symbols later k = tt
says_word variables outer l word.Break s symbols later k = tt
says_word variables outer l word.Continue s symbols later k = tt
says_word variables outer l word.Template s symbols later k = tt
says_word variables outer l word.Define s symbols later k = tt
says_word variables outer l word.Block s symbols later k = tt

says_close : (variables : List (List ℕ)) (l : Level) (r : Result PipeData ParseRefused) (s : Symbol) (symbols : List Symbol) → is_field s.kind ≡ false → is_close s.kind ≡ true → ended_pipe l ≡ r
    → Says variables [] l (s ∷ symbols) (ends_at (s ∷ symbols) r)
says_close variables l (Err why) s symbols n c e = tt
says_close variables l (Ok p) s symbols n c e = (ends_here variables l.room l.current l.commands (s ∷ symbols) p (other s.kind s symbols refl n) e, c)

says_kind : (variables : List (List ℕ)) (outer : List Level) (l : Level) (what : SymbolKind) (s : Symbol) (symbols : List Symbol) → Later variables symbols → s.kind ≡ what
    → Says variables outer l (s ∷ symbols) (if is_close what then ends_at (s ∷ symbols) (pipe_finish (pipe_state outer l)) else pipe_goes_on (s ∷ symbols) (read_kind what s.touches variables outer l) (λ next. read_pipe variables next symbols))
says_kind variables outer l (kind.Str value) s symbols later k =
    says_operand variables outer l (operand_of (base.Str value) []) s symbols later (may_come l.current (str value) [] refl) (λ last. other (kind.Str value) s symbols k refl)
    (λ names after h. subst (λ ns. IsBase variables l.room (str value) ns (s ∷ symbols) after) (sym h.0) (k, h.1))
says_kind variables outer l (kind.Number n) s symbols later k =
    says_operand variables outer l (operand_of (base.Number n) []) s symbols later (may_come l.current (number n) [] refl) (λ last. other (kind.Number n) s symbols k refl)
    (λ names after h. subst (λ ns. IsBase variables l.room (number n) ns (s ∷ symbols) after) (sym h.0) (k, h.1))
says_kind variables outer l kind.Dot s symbols later k =
    says_operand variables outer l (operand_of base.Dot []) s symbols later (may_come l.current dot [] refl) (λ last. other kind.Dot s symbols k refl)
    (λ names after h. subst (λ ns. IsBase variables l.room dot ns (s ∷ symbols) after) (sym h.0) (k, h.1))
says_kind variables outer l (kind.Word w) s symbols later k = says_word variables outer l w s symbols later k
says_kind variables outer l (kind.Variable name) s symbols later k = says_variable variables outer l name s symbols later k
says_kind variables outer l (kind.Field name) s symbols later k = says_field variables outer l name s.touches s symbols later k refl
says_kind variables outer l kind.Left s symbols later k = says_left variables outer l l.room s symbols later k refl
says_kind variables [] l kind.Right s symbols later k = tt
says_kind variables (o ∷ outer) l kind.Right s symbols later k = says_right variables outer o l (ended_pipe l) s symbols later k refl
says_kind variables outer l kind.Bar s symbols later k = says_bar variables outer l (level_ended l.current) s symbols later k refl
says_kind variables outer l (kind.Function f) s symbols later k = says_function variables outer l.room l.commands l.current f s symbols later k
says_kind variables outer l kind.Unknown s symbols later k = says_unknown variables outer l l.current s symbols
says_kind variables [] l (kind.Close end) s symbols later k = says_close variables l (ended_pipe l) s symbols (ap is_field k) (ap is_close k) refl
says_kind variables (o ∷ outer) l (kind.Close end) s symbols later k = tt
says_kind variables outer l (kind.Text text seams) s symbols later k = tt
says_kind variables outer l (kind.Open start before) s symbols later k = tt
says_kind variables outer l kind.Declare s symbols later k = tt
says_kind variables outer l kind.Assign s symbols later k = tt
says_kind variables outer l kind.Comma s symbols later k = tt

says : (variables : List (List ℕ)) (symbols : List Symbol) → Later variables symbols
says variables [] outer l = tt
says variables (s ∷ symbols) outer l = says_kind variables outer l s.kind s symbols (says variables symbols) refl

-- a pipe that was read stands there, up to the end of its action
pub pipe_stands : (variables : List (List ℕ)) (room : ℕ) (p : PipeData) (symbols rest : List Symbol) → read_pipe variables (pipe_state [] (fresh room)) symbols ≡ Ok (p, rest)
    → IsPipe variables room p symbols rest × IsEnd rest
pipe_stands variables room p symbols rest e = subst (Says variables [] (fresh room) symbols) e (says variables symbols [] (fresh room))
