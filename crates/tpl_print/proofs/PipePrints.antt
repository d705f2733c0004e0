-- A pipe that is read is printed: its pieces fit, and are read as the pipe again.
use Rattle.std.proofs.Common.{◌≡◌, ℕ, zero, suc, ◌≤◌, ◌⊎◌, true, false, List, [], ◌∷◌, ◌++◌, Some, codes, refl, ap, append_assoc, subst, arith}
use Rattle.std.specs.Fmt.{signed_decimal}
use Rattle.tpl_pipe.specs.Grammar.{SymbolStands, IsPipe, IsFirst, AreCalls, IsCall, AreOperands, IsOperand, IsBase}
use Rattle.tpl_print.proofs.Pieces.{Piece, token, name, variable_piece, string_piece, fields_pieces, pipe_pieces, calls_pieces, command_pieces, operands_pieces, operand_pieces, base_pieces, meaning}
use Rattle.tpl_print.proofs.Prints.{Prints, PrintsAny, mapped, recast, empty, seq, seq_any, fielded, one_any, one}
use Rattle.tpl_print.proofs.Sound.{Sound, stands_sound, fields_sound}
use Rattle.tpl_print.proofs.Tokens.{name_token, field_token, variable_token, function_is_name, function_means, number_token, string_token}
use Rattle.tpl_symbol.specs.Names.{function_name}
use Rattle.tpl_symbol.specs.declared.symbol.Symbol.{Symbol}
use Rattle.tpl_symbol.specs.declared.symbol.SymbolKind.{SymbolKind}
use Rattle.tpl_symbol.specs.declared.symbol.SymbolKind.TheVariants as kind
use Rattle.tpl_symbol.specs.declared.func.Func.{Func}
use Rattle.tpl_symbol.specs.declared.word.Word.TheVariants as word
use Rattle.tpl_token.specs.Characters.{is_name_byte}
use Rattle.tpl_token.specs.declared.token.TokenKind.TheVariants as token_kind
use Rattle.tpl_tree.specs.Pipes.{PipeData, no_commands, command, CommandData, single, call, OperandsData, no_operands, operand, OperandData, with_fields, BaseData, str, number, truth, nil, dot, variable, paren}

pub word_prints : (bytes : List ℕ) (k : SymbolKind) → is_name_byte bytes ≡ true → meaning token_kind.Name bytes ≡ Some k → Prints (name bytes ∷ []) (SymbolStands k)
word_prints bytes k is means = one token_kind.Name bytes k (name_token bytes is) means

pub variable_prints : (x : List ℕ) → (x ≡ []) ⊎ (is_name_byte x ≡ true) → PrintsAny (variable_piece x ∷ []) (SymbolStands (kind.Variable x))
variable_prints x is = one_any token_kind.Variable (36 ∷ x) (kind.Variable x) refl (variable_token x is) refl

pub string_prints : (value : List ℕ) → Prints (string_piece value ∷ []) (SymbolStands (kind.Str value))
string_prints value = one (token_kind.Str value) _ (kind.Str value) (string_token value) refl

function_prints : (f : Func) → Prints (name (function_name f) ∷ []) (SymbolStands (kind.Function f))
function_prints f = word_prints (function_name f) (kind.Function f) (function_is_name f) (function_means f)

pub bar_prints : Prints (token token_kind.Bar (codes "|") ∷ []) (SymbolStands kind.Bar)
bar_prints = one token_kind.Bar (codes "|") kind.Bar (λ rest ends n. refl) refl

left_prints : Prints (token token_kind.Left (codes "(") ∷ []) (SymbolStands kind.Left)
left_prints = one token_kind.Left (codes "(") kind.Left (λ rest ends n. refl) refl

right_prints : PrintsAny (token token_kind.Right (codes ")") ∷ []) (SymbolStands kind.Right)
right_prints = one_any token_kind.Right (codes ")") kind.Right refl (λ rest ends n. refl) refl

dot_prints : Prints (token token_kind.Dot (codes ".") ∷ []) (SymbolStands kind.Dot)
dot_prints = one token_kind.Dot (codes ".") kind.Dot (λ rest ends n. (refl, ends)) refl

-- a pipe in parentheses, and its fields
paren_pieces : (inner names : List Piece) → (token token_kind.Left (codes "(") ∷ (inner ++ token token_kind.Right (codes ")") ∷ [])) ++ names ≡ token token_kind.Left (codes "(") ∷ (inner ++ (token token_kind.Right (codes ")") ∷ names))
paren_pieces inner names = ap (λ (ps : List Piece). token token_kind.Left (codes "(") ∷ ps) (append_assoc inner (token token_kind.Right (codes ")") ∷ []) names)

mutual
  pub pipe_prints : (v : List (List ℕ)) (room more_room : ℕ) (p : PipeData) (s e : List Symbol) → room ≤ more_room → IsPipe v room p s e → Sound s → Prints (pipe_pieces p) (IsPipe v more_room p) × Sound e
  pipe_prints v room more_room no_commands s e le h sound = absurd h
  pipe_prints v room more_room (command c more) s e le h sound =
      let first = first_prints v room more_room c s h.0 le h.1 sound in
      let calls = calls_print v room more_room more h.0 e le h.2 first.1 in
      (mapped _ (seq (command_pieces c) (calls_pieces more) first.0 calls.0) (λ s r h. h), calls.1)

  first_prints : (v : List (List ℕ)) (room more_room : ℕ) (c : CommandData) (s e : List Symbol) → room ≤ more_room → IsFirst v room c s e → Sound s → Prints (command_pieces c) (IsFirst v more_room c) × Sound e
  first_prints v room more_room (single o) s e le h sound =
      let operand = operand_prints v room more_room o s e le h.1 sound in
      (mapped _ operand.0 (λ s r is. (h.0, is)), operand.1)
  first_prints v room more_room (call f os) s e le h sound =
      let behind = stands_sound (kind.Function f) s h.0 h.1 sound in
      let operands = operands_print v room more_room os h.0 e le h.2 behind.1 in
      (mapped _ (seq (name (function_name f) ∷ []) (operands_pieces os) (function_prints f) operands.0) (λ s r h. h), operands.1)

  calls_print : (v : List (List ℕ)) (room more_room : ℕ) (p : PipeData) (s e : List Symbol) → room ≤ more_room → AreCalls v room p s e → Sound s → Prints (calls_pieces p) (AreCalls v more_room p) × Sound e
  calls_print v room more_room no_commands s e le h sound = (mapped _ empty (λ s r h. h), subst Sound h sound)
  calls_print v room more_room (command c more) s e le h sound =
      let bar = stands_sound kind.Bar s h.0 h.2 sound in
      let first = call_prints v room more_room c h.0 h.1 le h.3 bar.1 in
      let calls = calls_print v room more_room more h.1 e le h.4 first.1 in (
        mapped _ (seq (token token_kind.Bar (codes "|") ∷ []) (command_pieces c ++ calls_pieces more) bar_prints (seq (command_pieces c) (calls_pieces more) first.0 calls.0))
            (λ s r h. (h.0, h.2.0, h.1, h.2.1, h.2.2)),
        calls.1,
      )

  call_prints : (v : List (List ℕ)) (room more_room : ℕ) (c : CommandData) (s e : List Symbol) → room ≤ more_room → IsCall v room c s e → Sound s → Prints (command_pieces c) (IsCall v more_room c) × Sound e
  call_prints v room more_room (single o) s e le h sound = absurd h
  call_prints v room more_room (call f os) s e le h sound =
      let behind = stands_sound (kind.Function f) s h.0 h.1 sound in
      let operands = operands_print v room more_room os h.0 e le h.2 behind.1 in
      (mapped _ (seq (name (function_name f) ∷ []) (operands_pieces os) (function_prints f) operands.0) (λ s r h. h), operands.1)

  operands_print : (v : List (List ℕ)) (room more_room : ℕ) (os : OperandsData) (s e : List Symbol) → room ≤ more_room → AreOperands v room os s e → Sound s → Prints (operands_pieces os) (AreOperands v more_room os) × Sound e
  operands_print v room more_room no_operands s e le h sound = (mapped _ empty (λ s r h. h), subst Sound h sound)
  operands_print v room more_room (operand o os) s e le h sound =
      let first = operand_prints v room more_room o s h.0 le h.1 sound in
      let rest = operands_print v room more_room os h.0 e le h.2 first.1 in
      (mapped _ (seq (operand_pieces o) (operands_pieces os) first.0 rest.0) (λ s r h. h), rest.1)

  operand_prints : (v : List (List ℕ)) (room more_room : ℕ) (o : OperandData) (s e : List Symbol) → room ≤ more_room → IsOperand v room o s e → Sound s → Prints (operand_pieces o) (IsOperand v more_room o) × Sound e
  operand_prints v room more_room (with_fields b fields) s e le h sound = base_prints v room more_room b fields s e le h sound

  base_prints : (v : List (List ℕ)) (room more_room : ℕ) (b : BaseData) (fields : List (List ℕ)) (s e : List Symbol) → room ≤ more_room → IsBase v room b fields s e → Sound s → Prints (base_pieces b fields) (IsBase v more_room b fields) × Sound e
  base_prints v room more_room (str value) [] s e le h sound = (mapped _ (string_prints value) (λ s r h. h), (stands_sound (kind.Str value) s e h sound).1)
  base_prints v room more_room (str value) (n ∷ fields) s e le h sound = absurd h
  base_prints v room more_room (number n) [] s e le h sound =
      let is = stands_sound (kind.Number n) s e h sound in
      (mapped _ (one (token_kind.Number n) (signed_decimal n) (kind.Number n) (number_token n is.0) refl) (λ s r h. h), is.1)
  base_prints v room more_room (number n) (m ∷ fields) s e le h sound = absurd h
  base_prints v room more_room (truth true) [] s e le h sound = (mapped _ (word_prints (codes "true") (kind.Word word.True) refl refl) (λ s r h. h), (stands_sound (kind.Word word.True) s e h sound).1)
  base_prints v room more_room (truth true) (n ∷ fields) s e le h sound = absurd h
  base_prints v room more_room (truth false) [] s e le h sound = (mapped _ (word_prints (codes "false") (kind.Word word.False) refl refl) (λ s r h. h), (stands_sound (kind.Word word.False) s e h sound).1)
  base_prints v room more_room (truth false) (n ∷ fields) s e le h sound = absurd h
  base_prints v room more_room nil [] s e le h sound = (mapped _ (word_prints (codes "nil") (kind.Word word.Nil) refl refl) (λ s r h. h), (stands_sound (kind.Word word.Nil) s e h sound).1)
  base_prints v room more_room nil (n ∷ fields) s e le h sound = absurd h
  base_prints v room more_room dot [] s e le h sound = (mapped _ dot_prints (λ s r h. h), (stands_sound kind.Dot s e h sound).1)
  base_prints v room more_room dot (n ∷ fields) s e le h sound =
      let is = stands_sound (kind.Field n) s h.0 h.1 sound in
      let are = fields_sound fields h.0 e h.2 is.1 in
      (mapped _ (fielded (token token_kind.Field (46 ∷ n) ∷ []) fields (one_any token_kind.Field (46 ∷ n) (kind.Field n) refl (field_token n is.0) refl) are.0) (λ s r h. h), are.1)
  base_prints v room more_room (variable x) fields s e le h sound =
      let is = stands_sound (kind.Variable x) s h.0 h.2 sound in
      let are = fields_sound fields h.0 e h.3 is.1 in
      (mapped _ (fielded (variable_piece x ∷ []) fields (variable_prints x is.0) are.0) (λ s r k. (k.0, h.1, k.1, k.2)), are.1)
  base_prints v zero more_room (paren p) fields s e le h sound = absurd h
  base_prints v (suc room) zero (paren p) fields s e le h sound = absurd (omega (arith, le))
  base_prints v (suc room) (suc more_room) (paren p) fields s e le h sound =
      let left = stands_sound kind.Left s h.0 h.3 sound in
      let inner = pipe_prints v room more_room p h.0 h.1 (omega (arith, le)) h.4 left.1 in
      let right = stands_sound kind.Right h.1 h.2 h.5 inner.1 in
      let are = fields_sound fields h.2 e h.6 right.1 in (
        mapped _ (recast _ _ (paren_pieces (pipe_pieces p) (fields_pieces fields))
            (fielded (token token_kind.Left (codes "(") ∷ (pipe_pieces p ++ token token_kind.Right (codes ")") ∷ [])) fields
            (seq_any (token token_kind.Left (codes "(") ∷ []) (pipe_pieces p ++ token token_kind.Right (codes ")") ∷ []) left_prints (seq_any (pipe_pieces p) (token token_kind.Right (codes ")") ∷ []) inner.0 right_prints)) are.0))
            (λ s r k. (k.1.0, k.1.2.0, k.0, k.1.1, k.1.2.1, k.1.2.2, k.2)),
        are.1,
      )
