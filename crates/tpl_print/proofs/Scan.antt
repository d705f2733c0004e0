-- Pieces that fit are read as their tokens, and these are the symbols of the pieces.
use Rattle.std.proofs.Common.{◌≡◌, ◌≢◌, ℕ, ◌+◌, ◌-◌, ◌≤◌, ◌⊎◌, inl, inr, Bool, true, false, List, [], ◌∷◌, ◌++◌, length, drop, ◌==◌, not, Option, Some, None, codes, refl, sym, ap, ◌∙◌, arith, append_assoc, subst, true≢false}
use Rattle.std.proofs.lemmas.Bool.Decides.{nat_tests}
use Rattle.std.proofs.lemmas.List.{length-append, length-drop}
use Rattle.std.specs.List.{list_all}
use Rattle.tpl_print.proofs.Marks.{NoneOpens, none_opens-append, is_free, free_begins, single_brace, other_after, behind, here, within, at_guard, len_plain, kept_plain, kept_guard, guard}
use Rattle.tpl_print.proofs.Pieces.{Piece, words, opens, closes, token, field, follows, spelled, meaning, IsOf, Says, SpacedHead, OpenHead, FitIn, FitOut}
use Rattle.tpl_print.specs.Replaced.{guarded, joins}
use Rattle.tpl_symbol.proofs.Puts.{put-last, joined-apart}
use Rattle.tpl_symbol.specs.Joins.{joined_symbol_kinds, symbol_at, put_symbol, put_kind}
use Rattle.tpl_symbol.specs.Kinds.{token_begins_comment, token_bytes, is_comment_kind, symbol_kind_of, unmarked}
use Rattle.tpl_symbol.specs.Lines.{line_of}
use Rattle.tpl_symbol.specs.Names.{name_kind, word_of, word_kind, function_of, function_kind}
use Rattle.tpl_symbol.specs.Symbols.{symbols_from, symbols_of}
use Rattle.tpl_symbol.specs.declared.func.Func.{Func}
use Rattle.tpl_symbol.specs.declared.word.Word.{Word}
use Rattle.tpl_symbol.specs.declared.symbol.Seam.{Seam}
use Rattle.tpl_symbol.specs.declared.symbol.Symbol.{Symbol}
use Rattle.tpl_symbol.specs.declared.symbol.SymbolKind.{SymbolKind}
use Rattle.tpl_symbol.specs.declared.symbol.SymbolKind.TheVariants as symbol
use Rattle.tpl_token.proofs.Marks.{either, tells}
use Rattle.tpl_token.proofs.NextStands.{inner_stands}
use Rattle.tpl_token.specs.Characters.{begins, first_is, is_white}
use Rattle.tpl_token.specs.Grammar.{cursor, MayClose, IsInAction, TokensRead, IsTokenEnd, AreTokens}
use Rattle.tpl_token.specs.Lexemes.{EndsWord, IsLexeme}
use Rattle.tpl_token.specs.Texts.{text_len, trims_before, kept_end}
use Rattle.tpl_token.specs.declared.cursor.Cursor.{Cursor}
use Rattle.tpl_token.specs.declared.cursor.CursorState.{CursorState}
use Rattle.tpl_token.specs.declared.cursor.CursorState.TheVariants as state
use Rattle.tpl_token.specs.declared.token.Token.{Token}
use Rattle.tpl_token.specs.declared.token.TokenKind.{TokenKind}
use Rattle.tpl_token.specs.declared.token.TokenKind.TheVariants as kind

abbrev pub token_at : TokenKind → ℕ → ℕ → Token
token_at what start end = record { kind = what; start = start; end = end }

-- The text is read from an offset on: its tokens, and the symbols that they add, which are those of pieces.
pub record Scanned (text : List ℕ) (from : Cursor) (ps : List Piece) (done : List Symbol) (offset : ℕ) (after_comment : Bool) : Type 0 where
  pub tokens : List Token
  pub last : Cursor
  pub reads : TokensRead text from tokens last
  pub ends : IsTokenEnd text last
  pub no_comment : token_begins_comment tokens ≡ false
  pub added : List Symbol
  pub all : symbols_from text done offset after_comment tokens ≡ done ++ added
  pub says : Says ps added []

-- a kind that is no text's
abbrev pub NoText : SymbolKind → Type 0
NoText k = (bytes : List ℕ) (seams : List Seam) → k ≢ symbol.Text bytes seams

put_joined : (k other : SymbolKind) (last new : Symbol) → NoText other → joined_symbol_kinds k other last new ≡ last ∷ new ∷ []
put_joined (symbol.Text bytes seams) (symbol.Text more others) last new plain = absurd (plain more others refl)
put_joined (symbol.Text bytes seams) (symbol.Open s b) last new plain = refl
put_joined (symbol.Text bytes seams) (symbol.Close e) last new plain = refl
put_joined (symbol.Text bytes seams) (symbol.Word w) last new plain = refl
put_joined (symbol.Text bytes seams) (symbol.Function f) last new plain = refl
put_joined (symbol.Text bytes seams) symbol.Unknown last new plain = refl
put_joined (symbol.Text bytes seams) (symbol.Field n) last new plain = refl
put_joined (symbol.Text bytes seams) symbol.Dot last new plain = refl
put_joined (symbol.Text bytes seams) (symbol.Variable n) last new plain = refl
put_joined (symbol.Text bytes seams) (symbol.Number n) last new plain = refl
put_joined (symbol.Text bytes seams) (symbol.Str n) last new plain = refl
put_joined (symbol.Text bytes seams) symbol.Declare last new plain = refl
put_joined (symbol.Text bytes seams) symbol.Assign last new plain = refl
put_joined (symbol.Text bytes seams) symbol.Bar last new plain = refl
put_joined (symbol.Text bytes seams) symbol.Comma last new plain = refl
put_joined (symbol.Text bytes seams) symbol.Left last new plain = refl
put_joined (symbol.Text bytes seams) symbol.Right last new plain = refl
put_joined k other last new plain = refl

-- what is no text comes after all others
put_behind : (done : List Symbol) (new : Symbol) → NoText new.kind → put_symbol done new ≡ done ++ new ∷ []
put_behind [] new plain = refl
put_behind (last ∷ []) new plain = put_joined last.kind new.kind last new plain
put_behind (s ∷ t ∷ done) new plain = ap (λ (xs : List Symbol). s ∷ xs) (put_behind (t ∷ done) new plain)

-- a text does not go on the last of these
abbrev pub Closed : List Symbol → Type 0
Closed done = (new : Symbol) → put_symbol done new ≡ done ++ new ∷ []

closed_behind : (done : List Symbol) (last : Symbol) → NoText last.kind → Closed (done ++ last ∷ [])
closed_behind done last plain new = put-last done last new ∙ ap (λ (xs : List Symbol). done ++ xs) (joined-apart last new plain) ∙ sym (append_assoc done (last ∷ []) (new ∷ []))

snoc : (done more : List Symbol) (s : Symbol) → (done ++ s ∷ []) ++ more ≡ done ++ (s ∷ more)
snoc done more s = append_assoc done (s ∷ []) more

-- what a token of an action is to the grammar
record IsSymbol (what : TokenKind) (bytes text : List ℕ) (t : Token) (before after : Bool) : Type 0 where
  is : SymbolKind
  means : meaning what bytes ≡ Some is
  kind : symbol_kind_of what text t before after ≡ Some is
  no_text : NoText is
  no_comment : is_comment_kind what ≡ false

no_function : (f : Option Func) (bytes : List ℕ) (seams : List Seam) → function_kind f ≢ symbol.Text bytes seams
no_function (Some f) bytes seams e = cc
no_function None bytes seams e = cc

word_no_text : (w : Option Word) (f : Option Func) (bytes : List ℕ) (seams : List Seam) → word_kind w (function_kind f) ≢ symbol.Text bytes seams
word_no_text (Some w) f bytes seams e = cc
word_no_text None f bytes seams e = no_function f bytes seams e

a_name : (bytes : List ℕ) → NoText (name_kind bytes)
a_name bytes more seams = word_no_text (word_of bytes) (function_of bytes) more seams

is_symbol : (what : TokenKind) (bytes rest text : List ℕ) (t : Token) (before after : Bool) → IsLexeme what bytes rest → token_bytes text t ≡ bytes → IsSymbol what bytes text t before after
is_symbol kind.Text bytes rest text t b a l e = absurd l
is_symbol kind.Open bytes rest text t b a l e = absurd l
is_symbol kind.Close bytes rest text t b a l e = absurd l
is_symbol kind.Comment bytes rest text t b a l e = absurd l
is_symbol kind.Name bytes rest text t b a l e = record { is = name_kind bytes; means = refl; kind = ap (λ (x : List ℕ). Some (name_kind x)) e; no_text = a_name bytes; no_comment = refl }
is_symbol kind.Field bytes rest text t b a l e = record { is = symbol.Field (unmarked 46 bytes); means = refl; kind = ap (λ (x : List ℕ). Some (symbol.Field (unmarked 46 x))) e; no_text = λ m s f. cc; no_comment = refl }
is_symbol kind.Dot bytes rest text t b a l e = record { is = symbol.Dot; means = refl; kind = refl; no_text = λ m s f. cc; no_comment = refl }
is_symbol kind.Variable bytes rest text t b a l e = record { is = symbol.Variable (unmarked 36 bytes); means = refl; kind = ap (λ (x : List ℕ). Some (symbol.Variable (unmarked 36 x))) e; no_text = λ m s f. cc; no_comment = refl }
is_symbol (kind.Number n) bytes rest text t b a l e = record { is = symbol.Number n; means = refl; kind = refl; no_text = λ m s f. cc; no_comment = refl }
is_symbol (kind.Str value) bytes rest text t b a l e = record { is = symbol.Str value; means = refl; kind = refl; no_text = λ m s f. cc; no_comment = refl }
is_symbol kind.Declare bytes rest text t b a l e = record { is = symbol.Declare; means = refl; kind = refl; no_text = λ m s f. cc; no_comment = refl }
is_symbol kind.Assign bytes rest text t b a l e = record { is = symbol.Assign; means = refl; kind = refl; no_text = λ m s f. cc; no_comment = refl }
is_symbol kind.Bar bytes rest text t b a l e = record { is = symbol.Bar; means = refl; kind = refl; no_text = λ m s f. cc; no_comment = refl }
is_symbol kind.Comma bytes rest text t b a l e = record { is = symbol.Comma; means = refl; kind = refl; no_text = λ m s f. cc; no_comment = refl }
is_symbol kind.Left bytes rest text t b a l e = record { is = symbol.Left; means = refl; kind = refl; no_text = λ m s f. cc; no_comment = refl }
is_symbol kind.Right bytes rest text t b a l e = record { is = symbol.Right; means = refl; kind = refl; no_text = λ m s f. cc; no_comment = refl }

-- one more token of an action, after white space or not
one_token : (text : List ℕ) (m : CursorState) (at opened start end : ℕ) (what : TokenKind) (between bytes rest : List ℕ) (ps : List Piece) (done : List Symbol) (b : Bool) (p : Piece)
    → IsInAction m opened → list_all is_white between ≡ true → drop at text ≡ between ++ (bytes ++ rest) → IsLexeme what bytes rest → start ≡ at + length between → end ≡ start + length bytes
    → ((s : Symbol) → meaning what bytes ≡ Some s.kind → s.touches ≡ (start == at) → IsOf p s)
    → ((done : List Symbol) → drop end text ≡ rest → Scanned text (cursor (state.Action opened) end) ps done end false)
    → Scanned text (cursor m at) (p ∷ ps) done at b
one_token text m at opened start end what between bytes rest ps done b p inside white here_is lexeme starts ends is_of more =
    let t = token_at what start end in
    let there : drop start text ≡ bytes ++ rest = ap (λ (n : ℕ). drop n text) starts ∙ behind text at between (bytes ++ rest) here_is in
    let later : drop end text ≡ rest = ap (λ (n : ℕ). drop n text) ends ∙ behind text start bytes rest there in
    let its : token_bytes text t ≡ bytes = here text start end bytes rest ends there in
    let sym_is : (after : Bool) → IsSymbol what bytes text t b after = λ after. is_symbol what bytes rest text t b after lexeme its in
    let s : Symbol = symbol_at (sym_is false).is (line_of text start) (start == at) in
    let r : Scanned text (cursor (state.Action opened) end) ps (done ++ s ∷ []) end false = more (done ++ s ∷ []) later in
    let put_is : put_kind done (symbol_kind_of what text t b (token_begins_comment r.tokens)) (line_of text start) (start == at) ≡ done ++ s ∷ []
    = ap (λ (k : Option SymbolKind). put_kind done k (line_of text start) (start == at)) (ap (λ (a : Bool). symbol_kind_of what text t b a) r.no_comment ∙ (sym_is false).kind) ∙ put_behind done s (sym_is false).no_text in
    record {
      tokens = t ∷ r.tokens;
      last = r.last;
      reads = (
        cursor (state.Action opened) end,
        inner_stands what bytes rest text (cursor m at) start end (cursor (state.Action opened) end) lexeme
            (record { opened = opened; offset = inside; between = between; lexeme = bytes; more = rest; spelled = here_is; white = white; lexeme_is = lexeme; starts = starts; ends = ends; goes = refl }),
        r.reads,
      );
      ends = r.ends;
      no_comment = (sym_is false).no_comment;
      added = s ∷ r.added;
      all = ap (λ (xs : List Symbol). symbols_from text xs end (is_comment_kind what) r.tokens) put_is ∙ ap (λ (c : Bool). symbols_from text (done ++ s ∷ []) end c r.tokens) (sym_is false).no_comment ∙ r.all ∙ snoc done r.added s;
      says = (is_of s (sym_is false).means refl, r.says);
    }

may_close : (m : CursorState) (opened : ℕ) → IsInAction m opened → MayClose m (32 ∷ []) false
may_close (state.Text trims) opened h = absurd h
may_close (state.Opened trims offset) opened h = (refl, λ e. cc)
may_close (state.Action offset) opened h = (refl, λ e. cc)
may_close state.Commented opened h = absurd h

-- the end of an action
one_close : (text : List ℕ) (m : CursorState) (at opened : ℕ) (rest : List ℕ) (ps : List Piece) (done : List Symbol) → IsInAction m opened → drop at text ≡ codes " }}" ++ rest
    → ((done : List Symbol) → Closed done → drop (at + 3) text ≡ rest → Scanned text (cursor (state.Text false) (at + 3)) ps done (at + 3) false)
    → Scanned text (cursor m at) (closes ∷ ps) done at false
one_close text m at opened rest ps done inside here_is more =
    let end = at + 3 in
    let t = token_at kind.Close (at + 1) end in
    let s : Symbol = symbol_at (symbol.Close end) (line_of text (at + 1)) (at + 1 == at) in
    let r : Scanned text (cursor (state.Text false) end) ps (done ++ s ∷ []) end false = more (done ++ s ∷ []) (closed_behind done s (λ m f e. cc)) (behind text at (codes " }}") rest here_is) in
    record {
      tokens = t ∷ r.tokens;
      last = r.last;
      reads = (
        cursor (state.Text false) end,
        record { trims = false; between = codes " "; more = rest; spelled = here_is; allowed = may_close m opened inside; starts = refl; ends = omega arith; goes = refl },
        r.reads,
      );
      ends = r.ends;
      no_comment = refl;
      added = s ∷ r.added;
      all = ap (λ (xs : List Symbol). symbols_from text xs end false r.tokens) (put_behind done s (λ m f e. cc)) ∙ r.all ∙ snoc done r.added s;
      says = ((end, refl), r.says);
    }

-- the beginning of an action that no comment begins
one_open : (text : List ℕ) (at : ℕ) (rest : List ℕ) (ps : List Piece) (done : List Symbol) (offset : ℕ) → drop at text ≡ codes "{{ " ++ rest
    → ((done : List Symbol) → drop (at + 2) text ≡ 32 ∷ rest → Scanned text (cursor (state.Opened false at) (at + 2)) ps done (at + 2) false)
    → Scanned text (cursor (state.Text false) at) (opens ∷ ps) done offset false
one_open text at rest ps done offset here_is more =
    let end = at + 2 in
    let t = token_at kind.Open at end in
    let s : Symbol = symbol_at (symbol.Open at (line_of text (at - 1))) (line_of text at) (at == offset) in
    let r : Scanned text (cursor (state.Opened false at) end) ps (done ++ s ∷ []) end false = more (done ++ s ∷ []) (behind text at (codes "{{") (32 ∷ rest) here_is) in
    let kind_is : symbol_kind_of kind.Open text t false (token_begins_comment r.tokens) ≡ Some (symbol.Open at (line_of text (at - 1))) = ap (λ (a : Bool). symbol_kind_of kind.Open text t false a) r.no_comment in
    let len : text_len (drop at text) ≡ 0 = ap text_len here_is in
    let kept : kept_end (drop at text) ≡ 0 = ap kept_end here_is in
    record {
      tokens = t ∷ r.tokens;
      last = r.last;
      reads = (
        cursor (state.Opened false at) end,
        record {
          trims = false;
          no_text = record { trims = false; offset = refl; nothing_left = omega (arith, kept); up_to = omega (arith, len) };
          mark = ap (begins (codes "{{")) here_is;
          trimming = ap trims_before here_is;
          ends = refl;
          goes = refl;
        },
        r.reads,
      );
      ends = r.ends;
      no_comment = refl;
      added = s ∷ r.added;
      all = ap (λ (xs : List Symbol). symbols_from text xs end false r.tokens) (ap (λ (k : Option SymbolKind). put_kind done k (line_of text at) (at == offset)) kind_is ∙ put_behind done s (λ m f e. cc)) ∙ r.all ∙ snoc done r.added s;
      says = ((at, line_of text (at - 1), refl), r.says);
    }

-- of a text these bytes are read, which the last symbol is, or nothing yet
abbrev pub Holds : List Symbol → List ℕ → List Symbol → Type 0
Holds base acc done = ((acc ≡ []) × (done ≡ base) × Closed base) ⊎ ((s : Symbol) × (seams : List Seam) × (s.kind ≡ symbol.Text acc seams) × (done ≡ base ++ s ∷ []))

joined_texts : (k : SymbolKind) (acc x : List ℕ) (seams : List Seam) (first : Symbol) (line : ℕ) (touches : Bool) → k ≡ symbol.Text acc seams
    → joined_symbol_kinds k (symbol.Text x []) first (symbol_at (symbol.Text x []) line touches)
    ≡ record { kind = symbol.Text (acc ++ x) (seams ++ record { at = length acc; line = line } ∷ []); line = first.line; touches = first.touches } ∷ []
joined_texts k acc x seams first line touches e = ap (λ (k : SymbolKind). joined_symbol_kinds k (symbol.Text x []) first (symbol_at (symbol.Text x []) line touches)) e

-- one more piece of the text
put_text : (base done : List Symbol) (acc x : List ℕ) (line : ℕ) (touches : Bool) → Holds base acc done
    → (s : Symbol) × (seams : List Seam) × (s.kind ≡ symbol.Text (acc ++ x) seams) × (put_symbol done (symbol_at (symbol.Text x []) line touches) ≡ base ++ s ∷ [])
put_text base done acc x line touches (inl h) =
    let new = symbol_at (symbol.Text x []) line touches in
    (new, [], ap (λ (a : List ℕ). symbol.Text (a ++ x) []) (sym h.0), ap (λ (d : List Symbol). put_symbol d new) h.1 ∙ h.2 new)
put_text base done acc x line touches (inr h) =
    let new = symbol_at (symbol.Text x []) line touches in (
      record { kind = symbol.Text (acc ++ x) (h.1 ++ record { at = length acc; line = line } ∷ []); line = h.0.line; touches = h.0.touches },
      h.1 ++ record { at = length acc; line = line } ∷ [],
      refl,
      ap (λ (d : List Symbol). put_symbol d new) h.3 ∙ put-last base h.0 new ∙ ap (λ (xs : List Symbol). base ++ xs) (joined_texts h.0.kind acc x h.1 h.0 line touches h.2),
    )

-- the same as `Scanned`, where the symbols `base` stand before the text that is read
pub record TextScanned (text : List ℕ) (from : Cursor) (ps : List Piece) (base done : List Symbol) (offset : ℕ) : Type 0 where
  pub tokens : List Token
  pub last : Cursor
  pub reads : TokensRead text from tokens last
  pub ends : IsTokenEnd text last
  pub no_comment : token_begins_comment tokens ≡ false
  pub added : List Symbol
  pub all : symbols_from text done offset false tokens ≡ base ++ added
  pub says : Says ps added []

nil_behind : (done : List Symbol) → done ++ [] ≡ done
nil_behind [] = refl
nil_behind (s ∷ done) = ap (λ (xs : List Symbol). s ∷ xs) (nil_behind done)

append_nil : (xs : List ℕ) → xs ++ [] ≡ xs
append_nil [] = refl
append_nil (x ∷ xs) = ap (λ (ys : List ℕ). x ∷ ys) (append_nil xs)

-- nothing is left of the text, and no token ends it
no_more_text : (text : List ℕ) (at offset : ℕ) (ps : List Piece) (whole acc : List ℕ) (base done : List Symbol) → Holds base acc done → whole ≢ [] → whole ≡ acc ++ []
    → Scanned text (cursor (state.Text false) at) ps done offset false → TextScanned text (cursor (state.Text false) at) (words whole ∷ ps) base done offset
no_more_text text at offset ps whole acc base done (inl h) some is r = absurd (some (is ∙ ap (λ (xs : List ℕ). xs ++ []) h.0))
no_more_text text at offset ps whole acc base done (inr h) some is r = record {
  tokens = r.tokens;
  last = r.last;
  reads = r.reads;
  ends = r.ends;
  no_comment = r.no_comment;
  added = h.0 ∷ r.added;
  all = r.all ∙ ap (λ (d : List Symbol). d ++ r.added) h.3 ∙ snoc base r.added h.0;
  says = ((h.1, h.2 ∙ ap (λ (x : List ℕ). symbol.Text x h.1) (sym (is ∙ append_nil acc))), r.says);
}

-- the last token of a text
last_text : (text : List ℕ) (at offset b : ℕ) (ps : List Piece) (whole acc bs tail : List ℕ) (base done : List Symbol) → Holds base acc done → NoneOpens (b ∷ bs) tail
    → whole ≡ acc ++ (b ∷ bs) → drop at text ≡ (b ∷ bs) ++ tail → text_len tail ≡ 0 → trims_before tail ≡ false
    → ((at offset : ℕ) (done : List Symbol) → at ≤ length text → drop at text ≡ tail → Scanned text (cursor (state.Text false) at) ps done offset false)
    → TextScanned text (cursor (state.Text false) at) (words whole ∷ ps) base done offset
last_text text at offset b ps whole acc bs tail base done holds free is here_is none keeps more =
    let front = b ∷ bs in
    let end = at + length front in
    let t = token_at kind.Text at end in
    let its : token_bytes text t ≡ front = here text at end front tail refl here_is in
    let line = line_of text at in
    let touches = at == offset in
    let new = put_text base done acc front line touches holds in
    let s = new.0 in
    let put_is : put_symbol done (symbol_at (symbol.Text (token_bytes text t) []) line touches) ≡ base ++ s ∷ [] = ap (λ (x : List ℕ). put_symbol done (symbol_at (symbol.Text x []) line touches)) its ∙ new.3 in
    let r : Scanned text (cursor (state.Text false) end) ps (base ++ s ∷ []) end false = more end end (base ++ s ∷ []) (within text at front tail here_is (omega arith)) (behind text at front tail here_is) in
    let len : text_len (drop at text) ≡ length front = ap text_len here_is ∙ len_plain front tail free none in
    let kept : kept_end (drop at text) ≡ length front = ap kept_end here_is ∙ kept_plain front tail free none keeps in
    record {
      tokens = t ∷ r.tokens;
      last = r.last;
      reads = (
        cursor (state.Text false) end,
        record {
          trims = false;
          offset = refl;
          starts = omega arith;
          ends = omega (arith, kept);
          not_empty = omega arith;
          goes = ap (λ (n : ℕ). cursor (state.Text false) (at + n)) (sym len);
        },
        r.reads,
      );
      ends = r.ends;
      no_comment = refl;
      added = s ∷ r.added;
      all = ap (λ (d : List Symbol). symbols_from text d end false r.tokens) put_is ∙ r.all ∙ snoc base r.added s;
      says = ((new.1, new.2 ∙ ap (λ (x : List ℕ). symbol.Text x new.1) (sym is)), r.says);
    }

-- a token of a text up to a brace, and the comment after it
braced_text : (text : List ℕ) (at offset : ℕ) (ps : List Piece) (acc front after : List ℕ) (base done : List Symbol) → Holds base acc done → NoneOpens front (codes "{ " ++ guard after)
    → drop at text ≡ (front ++ codes "{ ") ++ guard after
    → ((at offset : ℕ) (done : List Symbol) → at ≤ length text → Holds base (acc ++ (front ++ codes "{")) done → drop at text ≡ after → TextScanned text (cursor (state.Text false) at) ps base done offset)
    → TextScanned text (cursor (state.Text false) at) ps base done offset
braced_text text at offset ps acc front after base done holds free here_is more =
    let n = length front in
    let end = at + (n + 1) in
    let mark = at + (n + 2) in
    let close = mark + 10 in
    let t = token_at kind.Text at end in
    let first : drop at text ≡ (front ++ codes "{") ++ (32 ∷ guard after) = here_is ∙ append_assoc front (codes "{ ") (guard after) ∙ sym (append_assoc front (codes "{") (32 ∷ guard after)) in
    let its : token_bytes text t ≡ front ++ codes "{" = here text at end (front ++ codes "{") (32 ∷ guard after) (omega (arith, length-append front (codes "{"))) first in
    let line = line_of text at in
    let touches = at == offset in
    let new = put_text base done acc (front ++ codes "{") line touches holds in
    let put_is : put_symbol done (symbol_at (symbol.Text (token_bytes text t) []) line touches) ≡ base ++ new.0 ∷ [] = ap (λ (x : List ℕ). put_symbol done (symbol_at (symbol.Text x []) line touches)) its ∙ new.3 in
    let opening : drop mark text ≡ guard after = ap (λ (k : ℕ). drop k text) (omega (arith, length-append front (codes "{ "))) ∙ behind text at (front ++ codes "{ ") (guard after) here_is in
    let commenting : drop (mark + 3) text ≡ codes " /**/}}" ++ after = behind text mark (codes "{{-") (codes " /**/}}" ++ after) opening in
    let closing : drop (mark + 8) text ≡ codes "}}" ++ after = behind text mark (codes "{{- /**/") (codes "}}" ++ after) opening in
    let r : TextScanned text (cursor (state.Text false) close) ps base (base ++ new.0 ∷ []) close
    = more close close (base ++ new.0 ∷ []) (within text mark (codes "{{- /**/}}") after opening (omega arith)) (inr (new.0, new.1, new.2, refl)) (behind text mark (codes "{{- /**/}}") after opening) in
    let len : text_len (drop at text) ≡ n + 2 = ap text_len here_is ∙ at_guard front after free in
    let kept : kept_end (drop at text) ≡ n + 1 = ap kept_end here_is ∙ kept_guard front after free in
    let no_len : text_len (drop mark text) ≡ 0 = ap text_len opening in
    let no_kept : kept_end (drop mark text) ≡ 0 = ap kept_end opening in
    record {
      tokens = t ∷ token_at kind.Open mark (mark + 3) ∷ token_at kind.Comment (mark + 4) (mark + 8) ∷ token_at kind.Close (mark + 8) close ∷ r.tokens;
      last = r.last;
      reads = (
        cursor (state.Text false) mark,
        record {
          trims = false;
          offset = refl;
          starts = omega arith;
          ends = omega (arith, kept);
          not_empty = omega arith;
          goes = ap (λ (n : ℕ). cursor (state.Text false) (at + n)) (sym len);
        },
        (
          cursor (state.Opened true mark) (mark + 3),
          record {
            trims = true;
            no_text = record { trims = false; offset = refl; nothing_left = omega (arith, no_kept); up_to = omega (arith, no_len) };
            mark = ap (begins (codes "{{")) opening;
            trimming = ap trims_before opening;
            ends = refl;
            goes = refl;
          },
          (
            cursor state.Commented (mark + 8),
            record {
              trims = true;
              opened = mark;
              offset = refl;
              body = [];
              more = codes "}}" ++ after;
              spelled = commenting;
              first = refl;
              starts = omega arith;
              ends = omega arith;
              goes = refl;
            },
            (
              cursor (state.Text false) close,
              record {
                trims = false;
                between = [];
                more = after;
                spelled = closing;
                allowed = refl;
                starts = omega arith;
                ends = omega arith;
                goes = refl;
              },
              r.reads,
            ),
          ),
        ),
      );
      ends = r.ends;
      no_comment = refl;
      added = r.added;
      all = ap (λ (d : List Symbol). symbols_from text d close false r.tokens) put_is ∙ r.all;
      says = r.says;
    }

-- a brace that is written alone joins no other
alone : (b : ℕ) (followed : Bool) (bytes tail : List ℕ) → joins followed bytes ≡ false → (followed ≡ false → tail ≡ []) → begins (codes "{{") (b ∷ (guarded followed bytes ++ tail)) ≡ false
alone b followed [] tail apart ends = ap (λ (xs : List ℕ). begins (codes "{{") (b ∷ xs)) (ends apart) ∙ single_brace b
alone b followed (c ∷ bytes) tail apart ends =
    let same : guarded followed (c ∷ bytes) ≡ c ∷ guarded followed bytes = rw apart refl in
    ap (λ (xs : List ℕ). begins (codes "{{") (b ∷ (xs ++ tail))) same ∙ other_after b c (guarded followed bytes ++ tail) apart

-- a text, of which `acc` is read, and in `front` no action begins
scan_text : (text : List ℕ) (ps : List Piece) (followed : Bool) (tail whole : List ℕ) → whole ≢ [] → text_len tail ≡ 0 → trims_before tail ≡ false → (followed ≡ false → tail ≡ [])
    → ((at offset : ℕ) (done : List Symbol) → at ≤ length text → drop at text ≡ tail → Scanned text (cursor (state.Text false) at) ps done offset false)
    → (bytes front acc : List ℕ) (at offset : ℕ) (base done : List Symbol) → at ≤ length text → Holds base acc done → NoneOpens front (guarded followed bytes ++ tail) → whole ≡ acc ++ (front ++ bytes)
    → drop at text ≡ front ++ (guarded followed bytes ++ tail) → TextScanned text (cursor (state.Text false) at) (words whole ∷ ps) base done offset
scan_text text ps followed tail whole some none keeps ends more [] [] acc at offset base done inside holds free is here_is =
    no_more_text text at offset ps whole acc base done holds some is (more at offset done inside here_is)
scan_text text ps followed tail whole some none keeps ends more [] (b ∷ bs) acc at offset base done inside holds free is here_is =
    last_text text at offset b ps whole acc bs tail base done holds free (is ∙ ap (λ (xs : List ℕ). acc ++ xs) (append_nil (b ∷ bs))) here_is none keeps more
scan_text text ps followed tail whole some none keeps ends more (b ∷ bytes) front acc at offset base done inside holds free is here_is =
    let left = guarded followed bytes ++ tail in
    let alone_is : guarded followed (b ∷ bytes) ++ tail ≡ b ∷ left → begins (codes "{{") (b ∷ left) ≡ false → TextScanned text (cursor (state.Text false) at) (words whole ∷ ps) base done offset = λ next no.
    scan_text text ps followed tail whole some none keeps ends more bytes (front ++ b ∷ []) acc at offset base done inside holds
    (none_opens-append front (b ∷ []) left (subst (NoneOpens front) next free) (no, tt))
    (is ∙ ap (λ (xs : List ℕ). acc ++ xs) (sym (append_assoc front (b ∷ []) bytes)))
    (here_is ∙ ap (λ (xs : List ℕ). front ++ xs) next ∙ sym (append_assoc front (b ∷ []) left)) in
    either (b == 123)
    (λ t. let is_brace : b ≡ 123 = tells b 123 t in
    either (joins followed bytes)
    (λ joined. let next : guarded followed (b ∷ bytes) ++ tail ≡ codes "{ " ++ guard left = rw (t, joined) refl in
    braced_text text at offset (words whole ∷ ps) acc front left base done holds (subst (NoneOpens front) next free)
    (here_is ∙ ap (λ (xs : List ℕ). front ++ xs) next ∙ sym (append_assoc front (codes "{ ") (guard left)))
    (λ next end done inside holds here_is.
    scan_text text ps followed tail whole some none keeps ends more bytes [] (acc ++ (front ++ codes "{")) next end base done inside holds tt
    (is ∙ ap (λ (x : ℕ). acc ++ (front ++ (x ∷ bytes))) is_brace ∙ ap (λ (xs : List ℕ). acc ++ xs) (sym (append_assoc front (codes "{") bytes)) ∙ sym (append_assoc acc (front ++ codes "{") bytes)) here_is))
    (λ apart. let next : guarded followed (b ∷ bytes) ++ tail ≡ 123 ∷ left = rw (t, apart) refl in
    alone_is (next ∙ ap (λ (x : ℕ). x ∷ left) (sym is_brace)) (alone b followed bytes tail apart ends)))
    (λ f. let free_byte : is_free b ≡ true = ap not f in
    let next : guarded followed (b ∷ bytes) ++ tail ≡ b ∷ left = rw f refl in
    alone_is next (free_begins b left free_byte))

-- where no pieces follow nothing does
none_follow : (ps : List Piece) → follows false ps ≡ false → spelled false ps ≡ []
none_follow [] h = refl
none_follow (p ∷ ps) h = absurd (true≢false h)

-- white space follows
spaced_is : (ps : List Piece) → SpacedHead ps → (rest : List ℕ) × (spelled false ps ≡ 32 ∷ rest)
spaced_is [] h = absurd h
spaced_is (words bytes ∷ ps) h = absurd h
spaced_is (opens ∷ ps) h = absurd h
spaced_is (closes ∷ ps) h = (codes "}}" ++ spelled false ps, refl)
spaced_is (token what bytes ∷ ps) h = (bytes ++ spelled false ps, refl)
spaced_is (field n ∷ ps) h = absurd h

no_dot : (ps : List Piece) → SpacedHead ps → first_is (λ b. b == 46) (spelled false ps) ≡ false
no_dot ps h = let is = spaced_is ps h in ap (first_is (λ b. b == 46)) is.1

-- no letter or digit stands at the beginning of a piece inside an action
ends_word : (ps : List Piece) → FitIn ps → EndsWord (spelled false ps)
ends_word [] h = absurd h
ends_word (words bytes ∷ ps) h = absurd h
ends_word (opens ∷ ps) h = absurd h
ends_word (closes ∷ ps) h = refl
ends_word (token what bytes ∷ ps) h = refl
ends_word (field n ∷ ps) h = refl

-- an action or the end follows a text
record EndsText (tail : List ℕ) : Type 0 where
  none : text_len tail ≡ 0
  keeps : trims_before tail ≡ false

ends_text : (ps : List Piece) → OpenHead ps → FitOut ps → EndsText (spelled false ps)
ends_text [] h fits = record { none = refl; keeps = refl }
ends_text (words bytes ∷ ps) h fits = absurd h
ends_text (opens ∷ ps) h fits =
    let is = spaced_is ps fits.0 in
    let all : spelled false (opens ∷ ps) ≡ codes "{{ " ++ is.0 = ap (λ (xs : List ℕ). codes "{{" ++ xs) is.1 in
    record { none = ap text_len all; keeps = ap trims_before all }
ends_text (closes ∷ ps) h fits = absurd h
ends_text (token what bytes ∷ ps) h fits = absurd h
ends_text (field n ∷ ps) h fits = absurd h

later : (at : ℕ) → (at + 1 == at) ≡ false
later at = grind (arith, nat_tests)

same : (at : ℕ) → (at == at) ≡ true
same at = grind (arith, nat_tests)

field_is : (n : List ℕ) (k : SymbolKind) → meaning kind.Field (46 ∷ n) ≡ Some k → k ≡ symbol.Field n
field_is n k e = cc

whole_text : (text : List ℕ) (at offset : ℕ) (ps : List Piece) (done : List Symbol) → TextScanned text (cursor (state.Text false) at) ps done done offset → Scanned text (cursor (state.Text false) at) ps done offset false
whole_text text at offset ps done r = record { tokens = r.tokens; last = r.last; reads = r.reads; ends = r.ends; no_comment = r.no_comment; added = r.added; all = r.all; says = r.says }

-- at the end
scan_end : (text : List ℕ) (at offset : ℕ) (done : List Symbol) → at ≤ length text → drop at text ≡ [] → Scanned text (cursor (state.Text false) at) [] done offset false
scan_end text at offset done inside here_is =
    let len : text_len (drop at text) ≡ 0 = ap text_len here_is in
    let kept : kept_end (drop at text) ≡ 0 = ap kept_end here_is in
    record {
      tokens = [];
      last = cursor (state.Text false) at;
      reads = refl;
      ends = record { trims = false; offset = refl; nothing_left = omega (arith, kept); up_to = omega (arith, len, length-drop at text, ap length here_is, inside) };
      no_comment = refl;
      added = [];
      all = sym (nil_behind done);
      says = refl;
    }

mutual
  -- inside an action
  scan_in : (text : List ℕ) (ps : List Piece) (m : CursorState) (at opened : ℕ) (done : List Symbol) → IsInAction m opened → FitIn ps → drop at text ≡ spelled false ps → Scanned text (cursor m at) ps done at false
  scan_in text [] m at opened done inside fits here_is = absurd fits
  scan_in text (words bytes ∷ ps) m at opened done inside fits here_is = absurd fits
  scan_in text (opens ∷ ps) m at opened done inside fits here_is = absurd fits
  scan_in text (closes ∷ ps) m at opened done inside fits here_is =
      one_close text m at opened (spelled false ps) ps done inside here_is
      (λ done closed there. scan_out text ps (at + 3) (at + 3) done (within text at (codes " }}") (spelled false ps) here_is (omega arith)) closed fits there)
  scan_in text (token what bytes ∷ ps) m at opened done inside fits here_is =
      one_token text m at opened (at + 1) (at + 1 + length bytes) what (codes " ") bytes (spelled false ps) ps done false (token what bytes) inside refl here_is
      (fits.0 (spelled false ps) (ends_word ps fits.2) (λ number. no_dot ps (fits.1 number))) (omega arith) (omega arith)
      (λ s means touches. (means, touches ∙ later at))
      (λ done there. scan_in text ps (state.Action opened) (at + 1 + length bytes) opened done refl fits.2 there)
  scan_in text (field n ∷ ps) m at opened done inside fits here_is =
      one_token text m at opened at (at + length (46 ∷ n)) kind.Field [] (46 ∷ n) (spelled false ps) ps done false (field n) inside refl here_is
      (n, refl, fits.0, ends_word ps fits.1) (omega arith) (omega arith)
      (λ s means touches. (field_is n s.kind means, touches ∙ same at))
      (λ done there. scan_in text ps (state.Action opened) (at + length (46 ∷ n)) opened done refl fits.1 there)

  -- after a text
  scan_open : (text : List ℕ) (ps : List Piece) (at offset : ℕ) (done : List Symbol) → at ≤ length text → OpenHead ps → FitOut ps → drop at text ≡ spelled false ps → Scanned text (cursor (state.Text false) at) ps done offset false
  scan_open text [] at offset done inside open_head fits here_is = scan_end text at offset done inside here_is
  scan_open text (words bytes ∷ ps) at offset done inside open_head fits here_is = absurd open_head
  scan_open text (opens ∷ ps) at offset done inside open_head fits here_is =
      let is = spaced_is ps fits.0 in
      one_open text at is.0 ps done offset (here_is ∙ ap (λ (xs : List ℕ). codes "{{" ++ xs) is.1)
      (λ done there. scan_in text ps (state.Opened false at) (at + 2) at done refl fits.1 (there ∙ sym is.1))
  scan_open text (closes ∷ ps) at offset done inside open_head fits here_is = absurd open_head
  scan_open text (token what bytes ∷ ps) at offset done inside open_head fits here_is = absurd open_head
  scan_open text (field n ∷ ps) at offset done inside open_head fits here_is = absurd open_head

  -- outside of actions, where no text is before
  scan_out : (text : List ℕ) (ps : List Piece) (at offset : ℕ) (done : List Symbol) → at ≤ length text → Closed done → FitOut ps → drop at text ≡ spelled false ps → Scanned text (cursor (state.Text false) at) ps done offset false
  scan_out text [] at offset done inside closed fits here_is = scan_end text at offset done inside here_is
  scan_out text (words bytes ∷ ps) at offset done inside closed fits here_is =
      let ends = ends_text ps fits.1 fits.2 in
      whole_text text at offset (words bytes ∷ ps) done
      (scan_text text ps (follows false ps) (spelled false ps) bytes fits.0 ends.none ends.keeps (none_follow ps) (λ at offset done inside there. scan_open text ps at offset done inside fits.1 fits.2 there)
      bytes [] [] at offset done done inside (inl (refl, refl, closed)) tt refl here_is)
  scan_out text (opens ∷ ps) at offset done inside closed fits here_is =
      let is = spaced_is ps fits.0 in
      one_open text at is.0 ps done offset (here_is ∙ ap (λ (xs : List ℕ). codes "{{" ++ xs) is.1)
      (λ done there. scan_in text ps (state.Opened false at) (at + 2) at done refl fits.1 (there ∙ sym is.1))
  scan_out text (closes ∷ ps) at offset done inside closed fits here_is = absurd fits
  scan_out text (token what bytes ∷ ps) at offset done inside closed fits here_is = absurd fits
  scan_out text (field n ∷ ps) at offset done inside closed fits here_is = absurd fits

-- The symbols of pieces that fit.
pub record HasSymbols (text : List ℕ) (ps : List Piece) : Type 0 where
  pub tokens : List Token
  pub are : AreTokens text tokens
  pub says : Says ps (symbols_of text tokens) []

pub scanned : (text : List ℕ) (ps : List Piece) → FitOut ps → text ≡ spelled false ps → HasSymbols text ps
scanned text ps fits is =
    let r = scan_out text ps 0 0 [] (omega arith) (λ new. refl) fits is in
    record { tokens = r.tokens; are = record { last = r.last; reads = r.reads; end = r.ends }; says = subst (λ (s : List Symbol). Says ps s []) (sym r.all) r.says }
