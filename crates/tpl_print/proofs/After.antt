-- What passes from symbols to those after the first one passes from the symbols of a part to those after it.
use Rattle.std.proofs.Common.{ℕ, zero, suc, Bool, true, false, List, [], ◌∷◌, Option, Some, None, subst}
use Rattle.tpl_parse.specs.Grammar.{StandsOn, Opens, Closes, IsFormEnd, EndsBody, Declares, IsAction, IsNamedForm, AreNamed, IsControl}
use Rattle.tpl_build.specs.declared.frame.Control.{Control}
use Rattle.tpl_build.specs.declared.frame.Control.TheVariants as control_word
use Rattle.tpl_pipe.specs.Grammar.{SymbolStands, Touching, AreFields, IsPipe, IsFirst, AreCalls, IsCall, AreOperands, IsOperand, IsBase}
use Rattle.tpl_symbol.specs.declared.symbol.Symbol.{Symbol}
use Rattle.tpl_symbol.specs.declared.symbol.SymbolKind.{SymbolKind}
use Rattle.tpl_symbol.specs.declared.symbol.SymbolKind.TheVariants as kind
use Rattle.tpl_symbol.specs.declared.word.Word.TheVariants as word
use Rattle.tpl_tree.specs.Pipes.{PipeData, no_commands, command, CommandData, single, call, OperandsData, no_operands, operand, OperandData, with_fields, BaseData, str, number, truth, nil, dot, variable, paren}
use Rattle.tpl_tree.specs.declared.node_kind.NodeKind.{NodeKind}
use Rattle.tpl_tree.specs.declared.node_kind.NodeKind.TheVariants as node_kind

abbrev pub Passes : (List Symbol → Type 0) → Type 0
Passes Q = (s : Symbol) (symbols : List Symbol) → Q (s ∷ symbols) → Q symbols

pub after_one : (Q : List Symbol → Type 0) → Passes Q → (k : SymbolKind) (s r : List Symbol) → SymbolStands k s r → Q s → Q r
after_one Q pass k [] r h q = absurd h
after_one Q pass k (x ∷ s) r h q = subst Q h.1 (pass x s q)

pub after_one_on : (Q : List Symbol → Type 0) → Passes Q → (k : SymbolKind) (line : ℕ) (s r : List Symbol) → StandsOn k line s r → Q s → Q r
after_one_on Q pass k line [] r h q = absurd h
after_one_on Q pass k line (x ∷ s) r h q = subst Q h.2 (pass x s q)

after_touching : (Q : List Symbol → Type 0) → Passes Q → (n : List ℕ) (s r : List Symbol) → Touching n s r → Q s → Q r
after_touching Q pass n [] r h q = absurd h
after_touching Q pass n (x ∷ s) r h q = subst Q h.2 (pass x s q)

after_fields : (Q : List Symbol → Type 0) → Passes Q → (names : List (List ℕ)) (s r : List Symbol) → AreFields names s r → Q s → Q r
after_fields Q pass [] s r h q = subst Q h.0 q
after_fields Q pass (n ∷ names) s r h q = after_fields Q pass names h.0 r h.2 (after_touching Q pass n s h.0 h.1 q)

mutual
  pub after_pipe : (Q : List Symbol → Type 0) → Passes Q → (v : List (List ℕ)) (room : ℕ) (p : PipeData) (s r : List Symbol) → IsPipe v room p s r → Q s → Q r
  after_pipe Q pass v room no_commands s r h q = absurd h
  after_pipe Q pass v room (command c more) s r h q = after_calls Q pass v room more h.0 r h.2 (after_first Q pass v room c s h.0 h.1 q)

  after_first : (Q : List Symbol → Type 0) → Passes Q → (v : List (List ℕ)) (room : ℕ) (c : CommandData) (s r : List Symbol) → IsFirst v room c s r → Q s → Q r
  after_first Q pass v room (single o) s r h q = after_operand Q pass v room o s r h.1 q
  after_first Q pass v room (call f os) s r h q = after_operands Q pass v room os h.0 r h.2 (after_one Q pass (kind.Function f) s h.0 h.1 q)

  after_calls : (Q : List Symbol → Type 0) → Passes Q → (v : List (List ℕ)) (room : ℕ) (p : PipeData) (s r : List Symbol) → AreCalls v room p s r → Q s → Q r
  after_calls Q pass v room no_commands s r h q = subst Q h q
  after_calls Q pass v room (command c more) s r h q = after_calls Q pass v room more h.1 r h.4 (after_call Q pass v room c h.0 h.1 h.3 (after_one Q pass kind.Bar s h.0 h.2 q))

  after_call : (Q : List Symbol → Type 0) → Passes Q → (v : List (List ℕ)) (room : ℕ) (c : CommandData) (s r : List Symbol) → IsCall v room c s r → Q s → Q r
  after_call Q pass v room (single o) s r h q = absurd h
  after_call Q pass v room (call f os) s r h q = after_operands Q pass v room os h.0 r h.2 (after_one Q pass (kind.Function f) s h.0 h.1 q)

  after_operands : (Q : List Symbol → Type 0) → Passes Q → (v : List (List ℕ)) (room : ℕ) (os : OperandsData) (s r : List Symbol) → AreOperands v room os s r → Q s → Q r
  after_operands Q pass v room no_operands s r h q = subst Q h q
  after_operands Q pass v room (operand o os) s r h q = after_operands Q pass v room os h.0 r h.2 (after_operand Q pass v room o s h.0 h.1 q)

  after_operand : (Q : List Symbol → Type 0) → Passes Q → (v : List (List ℕ)) (room : ℕ) (o : OperandData) (s r : List Symbol) → IsOperand v room o s r → Q s → Q r
  after_operand Q pass v room (with_fields b fields) s r h q = after_base Q pass v room b fields s r h q

  after_base : (Q : List Symbol → Type 0) → Passes Q → (v : List (List ℕ)) (room : ℕ) (b : BaseData) (fields : List (List ℕ)) (s r : List Symbol) → IsBase v room b fields s r → Q s → Q r
  after_base Q pass v room (str value) [] s r h q = after_one Q pass (kind.Str value) s r h q
  after_base Q pass v room (str value) (n ∷ fields) s r h q = absurd h
  after_base Q pass v room (number n) [] s r h q = after_one Q pass (kind.Number n) s r h q
  after_base Q pass v room (number n) (m ∷ fields) s r h q = absurd h
  after_base Q pass v room (truth true) [] s r h q = after_one Q pass (kind.Word word.True) s r h q
  after_base Q pass v room (truth true) (n ∷ fields) s r h q = absurd h
  after_base Q pass v room (truth false) [] s r h q = after_one Q pass (kind.Word word.False) s r h q
  after_base Q pass v room (truth false) (n ∷ fields) s r h q = absurd h
  after_base Q pass v room nil [] s r h q = after_one Q pass (kind.Word word.Nil) s r h q
  after_base Q pass v room nil (n ∷ fields) s r h q = absurd h
  after_base Q pass v room dot [] s r h q = after_one Q pass kind.Dot s r h q
  after_base Q pass v room dot (n ∷ fields) s r h q = after_fields Q pass fields h.0 r h.2 (after_one Q pass (kind.Field n) s h.0 h.1 q)
  after_base Q pass v room (variable x) fields s r h q = after_fields Q pass fields h.0 r h.3 (after_one Q pass (kind.Variable x) s h.0 h.2 q)
  after_base Q pass v zero (paren p) fields s r h q = absurd h
  after_base Q pass v (suc room) (paren p) fields s r h q =
      after_fields Q pass fields h.2 r h.6 (after_one Q pass kind.Right h.1 h.2 h.5 (after_pipe Q pass v room p h.0 h.1 h.4 (after_one Q pass kind.Left s h.0 h.3 q)))

pub after_opens : (Q : List Symbol → Type 0) → Passes Q → (line : ℕ) (s r : List Symbol) → Opens line s r → Q s → Q r
after_opens Q pass line s r h q = after_one_on Q pass (kind.Open h.0 h.1) line s r h.2 q

pub after_closes : (Q : List Symbol → Type 0) → Passes Q → (s r : List Symbol) → Closes s r → Q s → Q r
after_closes Q pass s r h q = after_one Q pass (kind.Close h.0) s r h.1 q

pub after_end : (Q : List Symbol → Type 0) → Passes Q → (s r : List Symbol) → IsFormEnd s r → Q s → Q r
after_end Q pass s r h q = after_closes Q pass h.2 r h.5 (after_one Q pass (kind.Word word.End) h.1 h.2 h.4 (after_opens Q pass h.0 s h.1 h.3 q))

pub after_ends_body : (Q : List Symbol → Type 0) → Passes Q → (begins ends : ℕ) (s r : List Symbol) → EndsBody begins ends s r → Q s → Q r
after_ends_body Q pass begins ends s r h q =
    after_closes Q pass h.4 r h.7 (after_one Q pass (kind.Word word.End) h.3 h.4 h.6 (after_one_on Q pass (kind.Open h.0 h.1) h.2 s h.3 h.5 q))

after_declares : (Q : List Symbol → Type 0) → Passes Q → (x : List ℕ) (s r : List Symbol) → Declares x s r → Q s → Q r
after_declares Q pass x s r h q = after_one Q pass kind.Declare h.0 r h.2 (after_one Q pass (kind.Variable x) s h.0 h.1 q)

pub after_action : (Q : List Symbol → Type 0) → Passes Q → (v : List (List ℕ)) (room : ℕ) (in_range : Bool) (what : NodeKind) (s r : List Symbol) → IsAction v room in_range what s r → Q s → Q r
after_action Q pass v room in_range (node_kind.Text bytes) s r h q = absurd h
after_action Q pass v room in_range (node_kind.If x p) s r h q = absurd h
after_action Q pass v room in_range (node_kind.With x p) s r h q = absurd h
after_action Q pass v room in_range (node_kind.Range i x p) s r h q = absurd h
after_action Q pass v room in_range (node_kind.Action p) s r h q = after_pipe Q pass v room p.commands s r h q
after_action Q pass v room in_range (node_kind.Declare x p) s r h q = after_pipe Q pass v room p.commands h.0 r h.2 (after_declares Q pass x s h.0 h.1 q)
after_action Q pass v room in_range (node_kind.Assign x p) s r h q =
    after_pipe Q pass v room p.commands h.1 r h.5 (after_one Q pass kind.Assign h.0 h.1 h.4 (after_one Q pass (kind.Variable x) s h.0 h.3 q))
after_action Q pass v room in_range node_kind.Break s r h q = after_one Q pass (kind.Word word.Break) s r h.1 q
after_action Q pass v room in_range node_kind.Continue s r h q = after_one Q pass (kind.Word word.Continue) s r h.1 q
after_action Q pass v room in_range (node_kind.Template n None) s r h q = after_one Q pass (kind.Str n) h.0 r h.2 (after_one Q pass (kind.Word word.Template) s h.0 h.1 q)
after_action Q pass v room in_range (node_kind.Template n (Some p)) s r h q =
    after_pipe Q pass v room p.commands h.1 r h.4 (after_one Q pass (kind.Str n) h.0 h.1 h.3 (after_one Q pass (kind.Word word.Template) s h.0 h.2 q))

after_named : (Q : List Symbol → Type 0) → Passes Q → (x : Option (List ℕ)) (s r : List Symbol) → IsNamedForm x s r → Q s → Q r
after_named Q pass None s r h q = subst Q h q
after_named Q pass (Some x) s r h q = after_declares Q pass x s r h q

after_both_named : (Q : List Symbol → Type 0) → Passes Q → (i x : Option (List ℕ)) (s r : List Symbol) → AreNamed i x s r → Q s → Q r
after_both_named Q pass None x s r h q = after_named Q pass x s r h q
after_both_named Q pass (Some i) None s r h q = absurd h
after_both_named Q pass (Some i) (Some x) s r h q = after_declares Q pass x h.1 r h.4 (after_one Q pass kind.Comma h.0 h.1 h.3 (after_one Q pass (kind.Variable i) s h.0 h.2 q))

pub after_control : (Q : List Symbol → Type 0) → Passes Q → (v : List (List ℕ)) (room : ℕ) (c : Control) (p : PipeData) (s r : List Symbol) → IsControl v room c p s r → Q s → Q r
after_control Q pass v room (control_word.If x) p s r h q = after_pipe Q pass v room p h.1 r h.4 (after_named Q pass x h.0 h.1 h.3 (after_one Q pass (kind.Word word.If) s h.0 h.2 q))
after_control Q pass v room (control_word.With x) p s r h q = after_pipe Q pass v room p h.1 r h.4 (after_named Q pass x h.0 h.1 h.3 (after_one Q pass (kind.Word word.With) s h.0 h.2 q))
after_control Q pass v room (control_word.Range i x) p s r h q = after_pipe Q pass v room p h.1 r h.4 (after_both_named Q pass i x h.0 h.1 h.3 (after_one Q pass (kind.Word word.Range) s h.0 h.2 q))
