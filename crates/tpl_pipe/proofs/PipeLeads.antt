-- The symbols of a pipe lead to the pipe.
use Rattle.std.proofs.Common.{◌≡◌, ℕ, zero, suc, Bool, true, false, List, [], ◌∷◌, ◌++◌, Some, Ok, refl, sym, ap, ◌∙◌, subst, append_assoc, append-nil, true≢false}
use Rattle.std.specs.Prelude.{⊤}
use Rattle.tpl_token.proofs.Marks.{either}
use Rattle.tpl_pipe.specs.Grammar.{SymbolStands, Touching, AreFields, IsNil, IsPipe, AreCalls, AreOperands, IsOperand, IsBase}
use Rattle.tpl_pipe.specs.Levels.{level, fresh, operand_of, operands_onto, commands_onto, level_ended, ended_pipe, may_take, takes_operand, take_into, with_operand, takes_field, last_takes, base_takes}
use Rattle.tpl_pipe.specs.Reading.{pipe_state, read_pipe_symbol, read_kind}
use Rattle.tpl_pipe.specs.Runs.{is_close, read_pipe}
use Rattle.tpl_pipe.specs.declared.pipe_state.Current.{Current}
use Rattle.tpl_pipe.specs.declared.pipe_state.Current.TheVariants as current
use Rattle.tpl_pipe.specs.declared.pipe_state.Level.{Level}
use Rattle.tpl_pipe.specs.declared.pipe_state.PipeState.{PipeState}
use Rattle.tpl_symbol.specs.declared.func.Func.{Func}
use Rattle.tpl_symbol.specs.declared.symbol.Symbol.{Symbol}
use Rattle.tpl_symbol.specs.declared.symbol.SymbolKind.{SymbolKind}
use Rattle.tpl_symbol.specs.declared.symbol.SymbolKind.TheVariants as kind
use Rattle.tpl_symbol.specs.declared.word.Word.TheVariants as word
use Rattle.tpl_tree.specs.Pipes.{PipeData, no_commands, command, single, call, OperandsData, no_operands, operand, OperandData, with_fields, BaseData, str, number, truth, nil, dot, variable, paren}
use Rattle.tpl_tree.specs.View.{base_view, operand_view}
use Rattle.tpl_tree.specs.declared.pipe.Base.{Base}
use Rattle.tpl_tree.specs.declared.pipe.Base.TheVariants as base
use Rattle.tpl_tree.specs.declared.pipe.Command.{Command}
use Rattle.tpl_tree.specs.declared.pipe.Command.TheVariants as command_kind
use Rattle.tpl_tree.specs.declared.pipe.Operand.{Operand}

-- the base with this value
abbrev pub base_from : BaseData → Base
base_from (str value) = base.Str value
base_from (number n) = base.Number n
base_from (truth b) = base.Bool b
base_from nil = base.Nil
base_from dot = base.Dot
base_from (variable name) = base.Variable name
base_from (paren p) = base.Paren (record { commands = p })

base_back : (b : BaseData) → base_view (base_from b) ≡ b
base_back (str value) = refl
base_back (number n) = refl
base_back (truth b) = refl
base_back nil = refl
base_back dot = refl
base_back (variable name) = refl
base_back (paren p) = refl

-- where an operand stands: alone, or after a function and others
pub data Slot : Type 0 where
  lone : Slot
  called : Func → List Operand → Slot

abbrev pub fill : Slot → Operand → Current
fill lone o = current.Alone o
fill (called f os) o = current.Calls f (o ∷ os)

-- one symbol more
reads_on : (variables : List (List ℕ)) (at next : PipeState) (s : Symbol) (symbols : List Symbol) → is_close s.kind ≡ false → read_pipe_symbol variables at s ≡ Ok next
    → read_pipe variables at (s ∷ symbols) ≡ read_pipe variables next symbols
reads_on variables at next s symbols inner e = rw (inner, e) refl

pub stands_leads : (variables : List (List ℕ)) (at next : PipeState) (what : SymbolKind) (symbols rest : List Symbol) → SymbolStands what symbols rest → is_close what ≡ false
    → ((touches : Bool) → read_kind what touches variables at.outer at.level ≡ Ok next) → read_pipe variables at symbols ≡ read_pipe variables next rest
stands_leads variables at next what [] rest h inner e = absurd h
stands_leads variables at next what (s ∷ symbols) rest h inner e =
    reads_on variables at next s symbols (ap is_close h.0 ∙ inner) (ap (λ k. read_kind k s.touches variables at.outer at.level) h.0 ∙ e s.touches)
    ∙ ap (read_pipe variables next) h.1

pub takes_more : (b : Base) (fields : List (List ℕ)) (name : List ℕ) → base_takes b fields ≡ true → base_takes b (fields ++ name ∷ []) ≡ true
takes_more (base.Variable _) fields name e = refl
takes_more (base.Paren _) fields name e = refl
takes_more base.Dot [] name e = absurd (true≢false (sym e))
takes_more base.Dot (_ ∷ _) name e = refl
takes_more (base.Str _) fields name e = absurd (true≢false (sym e))
takes_more (base.Number _) fields name e = absurd (true≢false (sym e))
takes_more (base.Bool _) fields name e = absurd (true≢false (sym e))
takes_more base.Nil fields name e = absurd (true≢false (sym e))

-- where the last operand takes a field, one that touches it is read into it
field_read : (variables : List (List ℕ)) (outer : List Level) (room : ℕ) (cs : List Command) (slot : Slot) (b : Base) (fields : List (List ℕ)) (name : List ℕ)
    → base_takes b fields ≡ true
    → read_kind (kind.Field name) true variables outer (level room cs (fill slot (operand_of b fields))) ≡ Ok (pipe_state outer (level room cs (fill slot (operand_of b (fields ++ name ∷ [])))))
field_read variables outer room cs lone b fields name e = rw e refl
field_read variables outer room cs (called f os) b fields name e = rw e refl

fields_lead : (variables : List (List ℕ)) (outer : List Level) (room : ℕ) (cs : List Command) (slot : Slot) (b : Base) (fields names : List (List ℕ)) (symbols rest : List Symbol)
    → base_takes b fields ≡ true → AreFields names symbols rest
    → read_pipe variables (pipe_state outer (level room cs (fill slot (operand_of b fields)))) symbols ≡ read_pipe variables (pipe_state outer (level room cs (fill slot (operand_of b (fields ++ names))))) rest
fields_lead variables outer room cs slot b fields [] symbols rest e h =
    ap (read_pipe variables (pipe_state outer (level room cs (fill slot (operand_of b fields))))) h.0
    ∙ ap (λ (fs : List (List ℕ)). read_pipe variables (pipe_state outer (level room cs (fill slot (operand_of b fs)))) rest) (sym (append-nil fields))
fields_lead variables outer room cs slot b fields (name ∷ names) [] rest e h = absurd h.1
fields_lead variables outer room cs slot b fields (name ∷ names) (s ∷ symbols) rest e h =
    let at = pipe_state outer (level room cs (fill slot (operand_of b fields))) in
    let next = pipe_state outer (level room cs (fill slot (operand_of b (fields ++ name ∷ [])))) in
    let kind_is : s.kind ≡ kind.Field name = h.1.0 in
    let touches : s.touches ≡ true = h.1.1 in
    let taken : read_pipe_symbol variables at s ≡ Ok next = ap (λ k. read_kind k s.touches variables outer at.level) kind_is ∙ ap (λ t. read_kind (kind.Field name) t variables outer at.level) touches ∙ field_read variables outer room cs slot b fields name e in
    reads_on variables at next s symbols (ap is_close kind_is) taken
    ∙ ap (read_pipe variables next) h.1.2
    ∙ fields_lead variables outer room cs slot b (fields ++ name ∷ []) names h.0 rest (takes_more b fields name e) h.2
    ∙ ap (λ (fs : List (List ℕ)). read_pipe variables (pipe_state outer (level room cs (fill slot (operand_of b fs)))) rest) (append_assoc fields (name ∷ []) names)

-- an operand may come where nothing stands, or after a function, and there it is the last one
abbrev pub slot_of : Current → Slot
slot_of current.Nothing = lone
slot_of (current.Alone _) = lone
slot_of (current.Calls f os) = called f os

filled : (o : Operand) (now : Current) → take_into o now ≡ fill (slot_of now) o
filled o current.Nothing = refl
filled o (current.Alone _) = refl
filled o (current.Calls f os) = refl

-- `nil` may not come first
abbrev pub May : OperandData → Current → Type 0
May o current.Nothing = IsNil o → ⊥
May o (current.Alone _) = ⊤
May o (current.Calls _ _) = ⊤

abbrev pub from_data : OperandData → Operand
from_data (with_fields b fields) = operand_of (base_from b) fields

from_back : (o : OperandData) → operand_view (from_data o) ≡ o
from_back (with_fields b fields) = ap (λ b. with_fields b fields) (base_back b)

-- an operand that has no fields
plain_leads : (variables : List (List ℕ)) (outer : List Level) (l : Level) (b : BaseData) (what : SymbolKind) (symbols rest : List Symbol)
    → SymbolStands what symbols rest → is_close what ≡ false
    → ((touches : Bool) → read_kind what touches variables outer l ≡ Ok (pipe_state outer (with_operand (operand_of (base_from b) []) l)))
    → read_pipe variables (pipe_state outer l) symbols ≡ read_pipe variables (pipe_state outer (with_operand (from_data (with_fields b [])) l)) rest
plain_leads variables outer l b what symbols rest h inner e = stands_leads variables (pipe_state outer l) (pipe_state outer (with_operand (operand_of (base_from b) []) l)) what symbols rest h inner e

-- an operand whose base takes fields, and these
base_leads : (variables : List (List ℕ)) (outer : List Level) (l : Level) (b : Base) (fields names : List (List ℕ)) (symbols rest : List Symbol)
    → base_takes b fields ≡ true → AreFields names symbols rest
    → read_pipe variables (pipe_state outer (with_operand (operand_of b fields) l)) symbols ≡ read_pipe variables (pipe_state outer (with_operand (operand_of b (fields ++ names)) l)) rest
base_leads variables outer l b fields names symbols rest e h =
    ap (λ now. read_pipe variables (pipe_state outer (level l.room l.commands now)) symbols) (filled (operand_of b fields) l.current)
    ∙ fields_lead variables outer l.room l.commands (slot_of l.current) b fields names symbols rest e h
    ∙ ap (λ now. read_pipe variables (pipe_state outer (level l.room l.commands now)) rest) (sym (filled (operand_of b (fields ++ names)) l.current))

-- where a parenthesis ends, its pipe is an operand
abbrev pub Led : List (List ℕ) → List Level → Level → List Symbol → List Symbol → PipeData → Type 0
Led variables outer l symbols rest p =
    (last : Level) × (read_pipe variables (pipe_state outer l) symbols ≡ read_pipe variables (pipe_state outer last) rest) × (ended_pipe last ≡ Ok p)

right_read : (variables : List (List ℕ)) (outer : List Level) (l last : Level) (p : PipeData) (touches : Bool) → ended_pipe last ≡ Ok p
    → read_kind kind.Right touches variables (l ∷ outer) last ≡ Ok (pipe_state outer (with_operand (operand_of (base.Paren (record { commands = p })) []) l))
right_read variables outer l last p touches e = rw e refl

nil_read : (variables : List (List ℕ)) (outer : List Level) (room : ℕ) (cs : List Command) (now : Current) (touches : Bool) → may_take now cs ≡ true → May (with_fields nil []) now
    → read_kind (kind.Word word.Nil) touches variables outer (level room cs now) ≡ Ok (pipe_state outer (with_operand (operand_of base.Nil []) (level room cs now)))
nil_read variables outer room cs current.Nothing touches e may = absurd (may tt)
nil_read variables outer room cs (current.Alone _) touches e may = absurd (true≢false (sym e))
nil_read variables outer room cs (current.Calls f os) touches e may = refl

-- no field follows that would belong to the operand before
abbrev pub Clear : Current → List Symbol → Type 0
Clear now symbols = last_takes now ≡ true → (name : List ℕ) (more : List Symbol) → Touching name symbols more → ⊥

fields_clear : (names : List (List ℕ)) (symbols rest : List Symbol) → AreFields names symbols rest → (name : List ℕ) (more : List Symbol) → Touching name rest more → ⊥
fields_clear [] symbols rest h name more t = h.1 name more (subst (λ xs. Touching name xs more) (sym h.0) t)
fields_clear (n ∷ names) symbols rest h name more t = fields_clear names h.0 rest h.2 name more t

operand_clear : (variables : List (List ℕ)) (room : ℕ) (b : BaseData) (fields : List (List ℕ)) (symbols rest : List Symbol) → IsBase variables room b fields symbols rest
    → base_takes (base_from b) fields ≡ true → (name : List ℕ) (more : List Symbol) → Touching name rest more → ⊥
operand_clear variables room (str value) fields symbols rest h e = absurd (true≢false (sym e))
operand_clear variables room (number n) fields symbols rest h e = absurd (true≢false (sym e))
operand_clear variables room (truth b) fields symbols rest h e = absurd (true≢false (sym e))
operand_clear variables room nil fields symbols rest h e = absurd (true≢false (sym e))
operand_clear variables room dot [] symbols rest h e = absurd (true≢false (sym e))
operand_clear variables room dot (n ∷ names) symbols rest h e = fields_clear names h.0 rest h.2
operand_clear variables room (variable x) fields symbols rest h e = fields_clear fields h.0 rest h.3
operand_clear variables zero (paren p) fields symbols rest h e = absurd h
operand_clear variables (suc room) (paren p) fields symbols rest h e = fields_clear fields h.2 rest h.6

-- a field that no operand before takes is an operand of its own
own_field : (variables : List (List ℕ)) (outer : List Level) (l : Level) (name : List ℕ) (touches : Bool) → takes_operand l ≡ true → (touches ≡ true → last_takes l.current ≡ true → ⊥)
    → read_kind (kind.Field name) touches variables outer l ≡ Ok (pipe_state outer (with_operand (operand_of base.Dot (name ∷ [])) l))
own_field variables outer l name false e clear = rw e refl
own_field variables outer l name true e clear = either (last_takes l.current) (λ t. absurd (clear refl t)) (λ f. rw (f, e) refl)

field_starts : (variables : List (List ℕ)) (outer : List Level) (l : Level) (name : List ℕ) (names : List (List ℕ)) (symbols following rest : List Symbol) → takes_operand l ≡ true → Clear l.current symbols
    → SymbolStands (kind.Field name) symbols following → AreFields names following rest
    → read_pipe variables (pipe_state outer l) symbols ≡ read_pipe variables (pipe_state outer (with_operand (operand_of base.Dot (name ∷ names)) l)) rest
field_starts variables outer l name names [] following rest e clear h fields = absurd h
field_starts variables outer l name names (s ∷ symbols) following rest e clear h fields =
    let taken : read_pipe_symbol variables (pipe_state outer l) s ≡ Ok (pipe_state outer (with_operand (operand_of base.Dot (name ∷ [])) l)) =
    ap (λ k. read_kind k s.touches variables outer l) h.0 ∙ own_field variables outer l name s.touches e (λ t last. clear last name symbols (h.0, t, refl)) in
    reads_on variables (pipe_state outer l) (pipe_state outer (with_operand (operand_of base.Dot (name ∷ [])) l)) s symbols (ap is_close h.0) taken
    ∙ ap (read_pipe variables (pipe_state outer (with_operand (operand_of base.Dot (name ∷ [])) l))) h.1
    ∙ base_leads variables outer l base.Dot (name ∷ []) names following rest refl fields

-- room for a parenthesis
left_read : (variables : List (List ℕ)) (outer : List Level) (room : ℕ) (cs : List Command) (now : Current) (touches : Bool) → may_take now cs ≡ true
    → read_kind kind.Left touches variables outer (level (suc room) cs now) ≡ Ok (pipe_state (level (suc room) cs now ∷ outer) (fresh room))
left_read variables outer room cs now touches e = rw e refl

operand_done : (variables : List (List ℕ)) (room : ℕ) (o : OperandData) (symbols rest : List Symbol) → IsOperand variables room o symbols rest
    → takes_field (from_data o) ≡ true → (name : List ℕ) (more : List Symbol) → Touching name rest more → ⊥
operand_done variables room (with_fields b fields) symbols rest h e = operand_clear variables room b fields symbols rest h e

mutual
  pub pipe_leads : (variables : List (List ℕ)) (outer : List Level) (room : ℕ) (p : PipeData) (symbols rest : List Symbol) → IsPipe variables room p symbols rest → Led variables outer (fresh room) symbols rest p
  pipe_leads variables outer room no_commands symbols rest h = absurd h
  pipe_leads variables outer room (command (single o) more) symbols rest h =
      let first = operand_leads variables outer room [] current.Nothing o symbols h.0 refl h.1.0 (λ never. absurd (true≢false (sym never))) h.1.1 in
      let later = calls_lead variables outer room [] (current.Alone (from_data o)) (command_kind.Single (from_data o)) more h.0 rest refl h.2 in
      (later.0, first ∙ later.1, later.2 ∙ ap (λ o. Ok (command (single o) more)) (from_back o))
  pipe_leads variables outer room (command (call f os) more) symbols rest h =
      let start = stands_leads variables (pipe_state outer (fresh room)) (pipe_state outer (level room [] (current.Calls f []))) (kind.Function f) symbols h.1.0 h.1.1 refl (λ touches. refl) in
      let given = operands_lead variables outer room [] f [] os h.1.0 h.0 (λ never. absurd (true≢false (sym never))) h.1.2 in
      let later = calls_lead variables outer room [] (current.Calls f given.0) (command_kind.Call f (operands_onto given.0 no_operands)) more h.0 rest refl h.2 in
      (later.0, start ∙ given.1 ∙ later.1, later.2 ∙ ap (λ os. Ok (command (call f os) more)) given.2)

  calls_lead : (variables : List (List ℕ)) (outer : List Level) (room : ℕ) (cs : List Command) (now : Current) (c : Command) (more : PipeData) (symbols rest : List Symbol)
      → level_ended now ≡ Some c → AreCalls variables room more symbols rest
      → (last : Level) × (read_pipe variables (pipe_state outer (level room cs now)) symbols ≡ read_pipe variables (pipe_state outer last) rest) × (ended_pipe last ≡ Ok (commands_onto (c ∷ cs) more))
  calls_lead variables outer room cs now c no_commands symbols rest e h = (level room cs now, ap (read_pipe variables (pipe_state outer (level room cs now))) h, rw e refl)
  calls_lead variables outer room cs now c (command (single o) more) symbols rest e h = absurd h.3
  calls_lead variables outer room cs now c (command (call f os) more) symbols rest e h =
      let bar = stands_leads variables (pipe_state outer (level room cs now)) (pipe_state outer (level room (c ∷ cs) current.Nothing)) kind.Bar symbols h.0 h.2 refl (λ touches. rw e refl) in
      let start = stands_leads variables (pipe_state outer (level room (c ∷ cs) current.Nothing)) (pipe_state outer (level room (c ∷ cs) (current.Calls f []))) (kind.Function f) h.0 h.3.0 h.3.1 refl (λ touches. refl) in
      let given = operands_lead variables outer room (c ∷ cs) f [] os h.3.0 h.1 (λ never. absurd (true≢false (sym never))) h.3.2 in
      let later = calls_lead variables outer room (c ∷ cs) (current.Calls f given.0) (command_kind.Call f (operands_onto given.0 no_operands)) more h.1 rest refl h.4 in
      (later.0, bar ∙ start ∙ given.1 ∙ later.1, later.2 ∙ ap (λ os. Ok (commands_onto (c ∷ cs) (command (call f os) more))) given.2)

  operands_lead : (variables : List (List ℕ)) (outer : List Level) (room : ℕ) (cs : List Command) (f : Func) (done : List Operand) (os : OperandsData) (symbols rest : List Symbol)
      → Clear (current.Calls f done) symbols → AreOperands variables room os symbols rest
      → (all : List Operand) × (read_pipe variables (pipe_state outer (level room cs (current.Calls f done))) symbols ≡ read_pipe variables (pipe_state outer (level room cs (current.Calls f all))) rest) × (operands_onto all no_operands ≡ operands_onto done os)
  operands_lead variables outer room cs f done no_operands symbols rest clear h = (done, ap (read_pipe variables (pipe_state outer (level room cs (current.Calls f done)))) h, refl)
  operands_lead variables outer room cs f done (operand o os) symbols rest clear h =
      let first = operand_leads variables outer room cs (current.Calls f done) o symbols h.0 refl tt clear h.1 in
      let later = operands_lead variables outer room cs f (from_data o ∷ done) os h.0 rest (operand_done variables room o symbols h.0 h.1) h.2 in
      (later.0, first ∙ later.1, later.2 ∙ ap (λ o. operands_onto done (operand o os)) (from_back o))

  operand_leads : (variables : List (List ℕ)) (outer : List Level) (room : ℕ) (cs : List Command) (now : Current) (o : OperandData) (symbols rest : List Symbol)
      → may_take now cs ≡ true → May o now → Clear now symbols → IsOperand variables room o symbols rest
      → read_pipe variables (pipe_state outer (level room cs now)) symbols ≡ read_pipe variables (pipe_state outer (with_operand (from_data o) (level room cs now))) rest
  operand_leads variables outer room cs now (with_fields (str value) []) symbols rest e may clear h = plain_leads variables outer (level room cs now) (str value) (kind.Str value) symbols rest h refl (λ touches. rw e refl)
  operand_leads variables outer room cs now (with_fields (number n) []) symbols rest e may clear h = plain_leads variables outer (level room cs now) (number n) (kind.Number n) symbols rest h refl (λ touches. rw e refl)
  operand_leads variables outer room cs now (with_fields (truth true) []) symbols rest e may clear h = plain_leads variables outer (level room cs now) (truth true) (kind.Word word.True) symbols rest h refl (λ touches. rw e refl)
  operand_leads variables outer room cs now (with_fields (truth false) []) symbols rest e may clear h = plain_leads variables outer (level room cs now) (truth false) (kind.Word word.False) symbols rest h refl (λ touches. rw e refl)
  operand_leads variables outer room cs now (with_fields nil []) symbols rest e may clear h = plain_leads variables outer (level room cs now) nil (kind.Word word.Nil) symbols rest h refl (λ touches. nil_read variables outer room cs now touches e may)
  operand_leads variables outer room cs now (with_fields dot []) symbols rest e may clear h = plain_leads variables outer (level room cs now) dot kind.Dot symbols rest h refl (λ touches. rw e refl)
  operand_leads variables outer room cs now (with_fields dot (name ∷ names)) symbols rest e may clear h = field_starts variables outer (level room cs now) name names symbols h.0 rest e clear h.1 h.2
  operand_leads variables outer room cs now (with_fields (variable name) fields) symbols rest e may clear h =
      stands_leads variables (pipe_state outer (level room cs now)) (pipe_state outer (with_operand (operand_of (base.Variable name) []) (level room cs now))) (kind.Variable name) symbols h.0 h.2 refl (λ touches. rw (e, h.1) refl)
      ∙ base_leads variables outer (level room cs now) (base.Variable name) [] fields h.0 rest refl h.3
  operand_leads variables outer (suc room) cs now (with_fields (paren p) fields) symbols rest e may clear h =
      let l = level (suc room) cs now in
      let inner = pipe_leads variables (l ∷ outer) room p h.0 h.1 h.4 in
      stands_leads variables (pipe_state outer l) (pipe_state (l ∷ outer) (fresh room)) kind.Left symbols h.0 h.3 refl (λ touches. left_read variables outer room cs now touches e)
      ∙ inner.1
      ∙ stands_leads variables (pipe_state (l ∷ outer) inner.0) (pipe_state outer (with_operand (operand_of (base.Paren (record { commands = p })) []) l)) kind.Right h.1 h.2 h.5 refl (λ touches. right_read variables outer l inner.0 p touches inner.2)
      ∙ base_leads variables outer l (base.Paren (record { commands = p })) [] fields h.2 rest refl h.6
  operand_leads variables outer zero cs now (with_fields (paren p) fields) symbols rest e may clear h = absurd h
  operand_leads variables outer room cs now (with_fields (str value) (_ ∷ _)) symbols rest e may clear h = absurd h
  operand_leads variables outer room cs now (with_fields (number n) (_ ∷ _)) symbols rest e may clear h = absurd h
  operand_leads variables outer room cs now (with_fields (truth true) (_ ∷ _)) symbols rest e may clear h = absurd h
  operand_leads variables outer room cs now (with_fields (truth false) (_ ∷ _)) symbols rest e may clear h = absurd h
  operand_leads variables outer room cs now (with_fields nil (_ ∷ _)) symbols rest e may clear h = absurd h

-- A pipe, up to the end of its action, is read as it is.
pub pipe_read : (variables : List (List ℕ)) (room : ℕ) (p : PipeData) (symbols rest : List Symbol) (s : Symbol) → IsPipe variables room p symbols (s ∷ rest) → is_close s.kind ≡ true
    → read_pipe variables (pipe_state [] (fresh room)) symbols ≡ Ok (p, s ∷ rest)
pipe_read variables room p symbols rest s h e =
    let led = pipe_leads variables [] room p symbols (s ∷ rest) h in
    led.1 ∙ rw (e, led.2) refl
