-- What stands between the delimiters of an action is printed.
use Rattle.std.proofs.Common.{◌≡◌, ℕ, ◌≤◌, Bool, true, false, List, [], ◌∷◌, ◌++◌, Option, Some, None, codes, refl, subst}
use Rattle.tpl_parse.specs.Grammar.{IsAction, IsNamedForm, IsControl}
use Rattle.tpl_build.specs.Building.{node_kind_of}
use Rattle.tpl_build.specs.declared.frame.Control.{Control}
use Rattle.tpl_build.specs.declared.frame.Control.TheVariants as control
use Rattle.tpl_pipe.specs.Grammar.{SymbolStands, IsPipe}
use Rattle.tpl_print.proofs.Pieces.{Piece, token, name, variable_piece, string_piece, pipe_pieces, calls_pieces, command_pieces, base_pieces, named_pieces, index_pieces, inner_pieces, SpacedHead}
use Rattle.tpl_print.proofs.PipePrints.{word_prints, variable_prints, string_prints, pipe_prints}
use Rattle.tpl_print.proofs.Prints.{Part, Prints, any, mapped, empty, seq, one, head_append}
use Rattle.tpl_print.proofs.Sound.{Sound, stands_sound}
use Rattle.tpl_print.specs.Spelling.{is_control_head}
use Rattle.tpl_symbol.specs.declared.symbol.Symbol.{Symbol}
use Rattle.tpl_symbol.specs.declared.symbol.SymbolKind.TheVariants as kind
use Rattle.tpl_symbol.specs.declared.word.Word.TheVariants as word
use Rattle.tpl_token.specs.declared.token.TokenKind.TheVariants as token_kind
use Rattle.tpl_tree.specs.Pipes.{PipeData, no_commands, command, CommandData, single, call, with_fields, BaseData, str, number, truth, nil, dot, variable, paren}
use Rattle.tpl_tree.specs.Trees.{is_text_node}
use Rattle.tpl_tree.specs.declared.node_kind.NodeKind.{NodeKind}
use Rattle.tpl_tree.specs.declared.node_kind.NodeKind.TheVariants as node_kind
use Rattle.tpl_tree.specs.declared.pipe.Pipe.{Pipe}

base_head : (b : BaseData) (fields : List (List ℕ)) → SpacedHead (base_pieces b fields)
base_head (str value) fields = tt
base_head (number n) fields = tt
base_head (truth true) fields = tt
base_head (truth false) fields = tt
base_head nil fields = tt
base_head dot [] = tt
base_head dot (n ∷ fields) = tt
base_head (variable x) fields = tt
base_head (paren p) fields = tt

command_head : (c : CommandData) → SpacedHead (command_pieces c)
command_head (single (with_fields b fields)) = base_head b fields
command_head (call f os) = tt

pipe_head : (v : List (List ℕ)) (room : ℕ) (p : PipeData) (s e : List Symbol) → IsPipe v room p s e → SpacedHead (pipe_pieces p)
pipe_head v room no_commands s e h = absurd h
pipe_head v room (command c more) s e h = head_append (command_pieces c) (calls_pieces more) (command_head c)

-- An inner part of an action that is read is printed.
pub record Inner (ps : List Piece) (Is : Part) (rest : List Symbol) : Type 0 where
  pub prints : Prints ps Is
  pub head : SpacedHead ps
  pub sound : Sound rest

-- An action that has no body is printed.
pub record Acts (v : List (List ℕ)) (room : ℕ) (in_range : Bool) (what : NodeKind) (rest : List Symbol) : Type 0 where
  pub no_text : is_text_node what ≡ false
  pub no_parts : is_control_head what ≡ false
  pub inner : Inner (inner_pieces what) (IsAction v room in_range what) rest

declare_prints : Prints (token token_kind.Declare (codes ":=") ∷ []) (SymbolStands kind.Declare)
declare_prints = one token_kind.Declare (codes ":=") kind.Declare (λ rest ends n. refl) refl

assign_prints : Prints (token token_kind.Assign (codes "=") ∷ []) (SymbolStands kind.Assign)
assign_prints = one token_kind.Assign (codes "=") kind.Assign (λ rest ends n. refl) refl

comma_prints : Prints (token token_kind.Comma (codes ",") ∷ []) (SymbolStands kind.Comma)
comma_prints = one token_kind.Comma (codes ",") kind.Comma (λ rest ends n. refl) refl

named_prints : (x : Option (List ℕ)) (s e : List Symbol) → IsNamedForm x s e → Sound s → Prints (named_pieces x) (IsNamedForm x) × Sound e
named_prints None s e h sound = (mapped _ empty (λ s r h. h), subst Sound h sound)
named_prints (Some x) s e h sound =
    let is = stands_sound (kind.Variable x) s h.0 h.1 sound in
    let mark = stands_sound kind.Declare h.0 e h.2 is.1 in
    (mapped _ (seq (variable_piece x ∷ []) (token token_kind.Declare (codes ":=") ∷ []) (any _ (variable_prints x is.0)) declare_prints) (λ s r h. h), mark.1)

pub action_prints : (v : List (List ℕ)) (room more_room : ℕ) (in_range : Bool) (what : NodeKind) (s e : List Symbol) → room ≤ more_room → IsAction v room in_range what s e → Sound s → Acts v more_room in_range what e
action_prints v room more_room in_range (node_kind.Text text) s e le h sound = absurd h
action_prints v room more_room in_range (node_kind.If x p) s e le h sound = absurd h
action_prints v room more_room in_range (node_kind.With x p) s e le h sound = absurd h
action_prints v room more_room in_range (node_kind.Range i x p) s e le h sound = absurd h
action_prints v room more_room in_range (node_kind.Action p) s e le h sound =
    let pipe = pipe_prints v room more_room p.commands s e le h sound in
    record { no_text = refl; no_parts = refl; inner = record { prints = mapped _ pipe.0 (λ s r h. h); head = pipe_head v room p.commands s e h; sound = pipe.1 } }
action_prints v room more_room in_range (node_kind.Declare x p) s e le h sound =
    let is = stands_sound (kind.Variable x) s h.1.0 h.1.1 sound in
    let mark = stands_sound kind.Declare h.1.0 h.0 h.1.2 is.1 in
    let pipe = pipe_prints v room more_room p.commands h.0 e le h.2 mark.1 in
    record {
      no_text = refl;
      no_parts = refl;
      inner = record {
        prints = mapped _ (seq (variable_piece x ∷ []) (token token_kind.Declare (codes ":=") ∷ pipe_pieces p.commands) (any _ (variable_prints x is.0)) (seq (token token_kind.Declare (codes ":=") ∷ []) (pipe_pieces p.commands) declare_prints pipe.0))
            (λ s r k. (k.2.0, (k.0, k.1, k.2.1), k.2.2));
        head = tt;
        sound = pipe.1;
      };
    }
action_prints v room more_room in_range (node_kind.Assign x p) s e le h sound =
    let is = stands_sound (kind.Variable x) s h.0 h.3 sound in
    let mark = stands_sound kind.Assign h.0 h.1 h.4 is.1 in
    let pipe = pipe_prints v room more_room p.commands h.1 e le h.5 mark.1 in
    record {
      no_text = refl;
      no_parts = refl;
      inner = record {
        prints = mapped _ (seq (variable_piece x ∷ []) (token token_kind.Assign (codes "=") ∷ pipe_pieces p.commands) (any _ (variable_prints x is.0)) (seq (token token_kind.Assign (codes "=") ∷ []) (pipe_pieces p.commands) assign_prints pipe.0))
            (λ s r k. (k.0, k.2.0, h.2, k.1, k.2.1, k.2.2));
        head = tt;
        sound = pipe.1;
      };
    }
action_prints v room more_room in_range node_kind.Break s e le h sound =
    record {
      no_text = refl;
      no_parts = refl;
      inner = record {
        prints = mapped _ (word_prints (codes "break") (kind.Word word.Break) refl refl) (λ s r k. (h.0, k));
        head = tt;
        sound = (stands_sound (kind.Word word.Break) s e h.1 sound).1;
      };
    }
action_prints v room more_room in_range node_kind.Continue s e le h sound =
    record {
      no_text = refl;
      no_parts = refl;
      inner = record {
        prints = mapped _ (word_prints (codes "continue") (kind.Word word.Continue) refl refl) (λ s r k. (h.0, k));
        head = tt;
        sound = (stands_sound (kind.Word word.Continue) s e h.1 sound).1;
      };
    }
action_prints v room more_room in_range (node_kind.Template n None) s e le h sound =
    let is = stands_sound (kind.Word word.Template) s h.0 h.1 sound in
    record {
      no_text = refl;
      no_parts = refl;
      inner = record {
        prints = mapped _ (seq (name (codes "template") ∷ []) (string_piece n ∷ []) (word_prints (codes "template") (kind.Word word.Template) refl refl) (string_prints n)) (λ s r k. k);
        head = tt;
        sound = (stands_sound (kind.Str n) h.0 e h.2 is.1).1;
      };
    }
action_prints v room more_room in_range (node_kind.Template n (Some p)) s e le h sound =
    let is = stands_sound (kind.Word word.Template) s h.0 h.2 sound in
    let named = stands_sound (kind.Str n) h.0 h.1 h.3 is.1 in
    let pipe = pipe_prints v room more_room p.commands h.1 e le h.4 named.1 in
    record {
      no_text = refl;
      no_parts = refl;
      inner = record {
        prints = mapped _ (seq (name (codes "template") ∷ []) (string_piece n ∷ pipe_pieces p.commands) (word_prints (codes "template") (kind.Word word.Template) refl refl) (seq (string_piece n ∷ []) (pipe_pieces p.commands) (string_prints n) pipe.0))
            (λ s r k. (k.0, k.2.0, k.1, k.2.1, k.2.2));
        head = tt;
        sound = pipe.1;
      };
    }

-- the call of a block, by the pipe that is read
pub block_prints : (v : List (List ℕ)) (room more_room : ℕ) (in_range : Bool) (n : List ℕ) (p : Pipe) (s e : List Symbol) → room ≤ more_room → IsPipe v room p.commands s e → Sound s → Acts v more_room in_range (node_kind.Template n (Some p)) e
block_prints v room more_room in_range n p s e le h sound =
    let pipe = pipe_prints v room more_room p.commands s e le h sound in
    record {
      no_text = refl;
      no_parts = refl;
      inner = record {
        prints = mapped _ (seq (name (codes "template") ∷ []) (string_piece n ∷ pipe_pieces p.commands) (word_prints (codes "template") (kind.Word word.Template) refl refl) (seq (string_piece n ∷ []) (pipe_pieces p.commands) (string_prints n) pipe.0))
            (λ s r k. (k.0, k.2.0, k.1, k.2.1, k.2.2));
        head = tt;
        sound = pipe.1;
      };
    }

pub control_prints : (v : List (List ℕ)) (room more_room : ℕ) (c : Control) (p : Pipe) (s e : List Symbol) → room ≤ more_room → IsControl v room c p.commands s e → Sound s → Inner (inner_pieces (node_kind_of c p)) (IsControl v more_room c p.commands) e
control_prints v room more_room (control.If x) p s e le h sound =
    let is = stands_sound (kind.Word word.If) s h.0 h.2 sound in
    let named = named_prints x h.0 h.1 h.3 is.1 in
    let pipe = pipe_prints v room more_room p.commands h.1 e le h.4 named.1 in
    record {
      prints = mapped _ (seq (name (codes "if") ∷ []) (named_pieces x ++ pipe_pieces p.commands) (word_prints (codes "if") (kind.Word word.If) refl refl) (seq (named_pieces x) (pipe_pieces p.commands) named.0 pipe.0))
          (λ s r k. (k.0, k.2.0, k.1, k.2.1, k.2.2));
      head = tt;
      sound = pipe.1;
    }
control_prints v room more_room (control.With x) p s e le h sound =
    let is = stands_sound (kind.Word word.With) s h.0 h.2 sound in
    let named = named_prints x h.0 h.1 h.3 is.1 in
    let pipe = pipe_prints v room more_room p.commands h.1 e le h.4 named.1 in
    record {
      prints = mapped _ (seq (name (codes "with") ∷ []) (named_pieces x ++ pipe_pieces p.commands) (word_prints (codes "with") (kind.Word word.With) refl refl) (seq (named_pieces x) (pipe_pieces p.commands) named.0 pipe.0))
          (λ s r k. (k.0, k.2.0, k.1, k.2.1, k.2.2));
      head = tt;
      sound = pipe.1;
    }
control_prints v room more_room (control.Range None x) p s e le h sound =
    let is = stands_sound (kind.Word word.Range) s h.0 h.2 sound in
    let named = named_prints x h.0 h.1 h.3 is.1 in
    let pipe = pipe_prints v room more_room p.commands h.1 e le h.4 named.1 in
    record {
      prints = mapped _ (seq (name (codes "range") ∷ []) (named_pieces x ++ pipe_pieces p.commands) (word_prints (codes "range") (kind.Word word.Range) refl refl) (seq (named_pieces x) (pipe_pieces p.commands) named.0 pipe.0))
          (λ s r k. (k.0, k.2.0, k.1, k.2.1, k.2.2));
      head = tt;
      sound = pipe.1;
    }
control_prints v room more_room (control.Range (Some i) None) p s e le h sound = absurd h.3
control_prints v room more_room (control.Range (Some i) (Some x)) p s e le h sound =
    let is = stands_sound (kind.Word word.Range) s h.0 h.2 sound in
    let index = stands_sound (kind.Variable i) h.0 h.3.0 h.3.2 is.1 in
    let comma = stands_sound kind.Comma h.3.0 h.3.1 h.3.3 index.1 in
    let named = named_prints (Some x) h.3.1 h.1 h.3.4 comma.1 in
    let pipe = pipe_prints v room more_room p.commands h.1 e le h.4 named.1 in
    record {
      prints = mapped _ (seq (name (codes "range") ∷ []) (index_pieces (Some i) ++ (named_pieces (Some x) ++ pipe_pieces p.commands)) (word_prints (codes "range") (kind.Word word.Range) refl refl)
          (seq (variable_piece i ∷ []) (token token_kind.Comma (codes ",") ∷ (named_pieces (Some x) ++ pipe_pieces p.commands)) (any _ (variable_prints i index.0))
          (seq (token token_kind.Comma (codes ",") ∷ []) (named_pieces (Some x) ++ pipe_pieces p.commands) comma_prints (seq (named_pieces (Some x)) (pipe_pieces p.commands) named.0 pipe.0))))
          (λ s r k. (k.0, k.2.2.2.0, k.1, (k.2.0, k.2.2.0, k.2.1, k.2.2.1, k.2.2.2.1), k.2.2.2.2));
      head = tt;
      sound = pipe.1;
    }
