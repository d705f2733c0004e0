-- The symbols of any text are sound.
use Rattle.std.proofs.Common.{◌≡◌, ◌≢◌, ℕ, zero, suc, ◌-◌, ◌<◌, ◌≤◌, ◌^◌, inl, inr, Bool, true, false, List, [], ◌∷◌, ◌++◌, length, take, drop, Option, Some, None, option_and_then, ℤ, pos, neg_ℤ, nat_le, nat_lt, codes, refl, sym, ap, ◌∙◌, arith, subst}
use Rattle.std.proofs.lemmas.Bool.Decides.{nat_tests}
use Rattle.std.proofs.lemmas.List.{length-drop, length-take}
use Rattle.std.specs.Bool.{⊤}
use Rattle.tpl_print.proofs.Marks.{behind, here}
use Rattle.tpl_print.proofs.Sound.{IsSmall, IsSound, AreApart, IsApart, Sound}
use Rattle.tpl_symbol.specs.Joins.{joined_symbol_kinds, symbol_at, put_symbol, put_kind}
use Rattle.tpl_symbol.specs.Kinds.{token_begins_comment, is_comment, symbol_kind_of, unmarked}
use Rattle.tpl_symbol.specs.Lines.{line_of}
use Rattle.tpl_symbol.specs.Names.{word_of, word_kind, function_of, function_kind}
use Rattle.tpl_symbol.specs.Symbols.{symbols_from, symbols_of}
use Rattle.tpl_symbol.specs.declared.func.Func.{Func}
use Rattle.tpl_symbol.specs.declared.symbol.Seam.{Seam}
use Rattle.tpl_symbol.specs.declared.symbol.Symbol.{Symbol}
use Rattle.tpl_symbol.specs.declared.symbol.SymbolKind.{SymbolKind}
use Rattle.tpl_symbol.specs.declared.symbol.SymbolKind.TheVariants as kind
use Rattle.tpl_symbol.specs.declared.word.Word.{Word}
use Rattle.tpl_token.proofs.Marks.{split, either}
use Rattle.tpl_token.specs.Characters.{begins, is_name_byte}
use Rattle.tpl_token.specs.Grammar.{IsTextToken, IsInner, TokenStands, TokensRead, AreTokens}
use Rattle.tpl_token.specs.Lexemes.{IsLexeme}
use Rattle.tpl_token.specs.Numbers.{number, magnitude, signed, unsigned}
use Rattle.tpl_token.specs.Texts.{bytes_before, text_len, trims_before, kept_end}
use Rattle.tpl_token.specs.declared.cursor.Cursor.{Cursor}
use Rattle.tpl_token.specs.declared.token.Token.{Token}
use Rattle.tpl_token.specs.declared.token.TokenKind.{TokenKind}
use Rattle.tpl_token.specs.declared.token.TokenKind.TheVariants as token

-- Two symbols after one another.
pair_sound : (k l : SymbolKind) (last new : Symbol) → k ≡ last.kind → l ≡ new.kind → IsSound k → IsSound l → AreApart k l → Sound (last ∷ new ∷ [])
pair_sound k l last new e f h i parted =
    (subst IsSound e h, subst (λ (x : SymbolKind). AreApart x new.kind) e (subst (λ (x : SymbolKind). AreApart k x) f parted), (subst IsSound f i, tt, tt))

some_behind : (a b : List ℕ) → a ≢ [] → a ++ b ≢ []
some_behind [] b some e = some refl
some_behind (x ∷ a) b some e = cc

joined_sound : (k l : SymbolKind) (last new : Symbol) → k ≡ last.kind → l ≡ new.kind → IsSound k → IsSound l → Sound (joined_symbol_kinds k l last new)
joined_sound (kind.Text bytes seams) (kind.Text more others) last new e f h i = (some_behind bytes more h, tt, tt)
joined_sound (kind.Text bytes seams) (kind.Open a c) last new e f h i = pair_sound (kind.Text bytes seams) (kind.Open a c) last new e f h i tt
joined_sound (kind.Text bytes seams) (kind.Close a) last new e f h i = pair_sound (kind.Text bytes seams) (kind.Close a) last new e f h i tt
joined_sound (kind.Text bytes seams) (kind.Word w) last new e f h i = pair_sound (kind.Text bytes seams) (kind.Word w) last new e f h i tt
joined_sound (kind.Text bytes seams) (kind.Function g) last new e f h i = pair_sound (kind.Text bytes seams) (kind.Function g) last new e f h i tt
joined_sound (kind.Text bytes seams) kind.Unknown last new e f h i = pair_sound (kind.Text bytes seams) kind.Unknown last new e f h i tt
joined_sound (kind.Text bytes seams) (kind.Field n) last new e f h i = pair_sound (kind.Text bytes seams) (kind.Field n) last new e f h i tt
joined_sound (kind.Text bytes seams) kind.Dot last new e f h i = pair_sound (kind.Text bytes seams) kind.Dot last new e f h i tt
joined_sound (kind.Text bytes seams) (kind.Variable n) last new e f h i = pair_sound (kind.Text bytes seams) (kind.Variable n) last new e f h i tt
joined_sound (kind.Text bytes seams) (kind.Number n) last new e f h i = pair_sound (kind.Text bytes seams) (kind.Number n) last new e f h i tt
joined_sound (kind.Text bytes seams) (kind.Str n) last new e f h i = pair_sound (kind.Text bytes seams) (kind.Str n) last new e f h i tt
joined_sound (kind.Text bytes seams) kind.Declare last new e f h i = pair_sound (kind.Text bytes seams) kind.Declare last new e f h i tt
joined_sound (kind.Text bytes seams) kind.Assign last new e f h i = pair_sound (kind.Text bytes seams) kind.Assign last new e f h i tt
joined_sound (kind.Text bytes seams) kind.Bar last new e f h i = pair_sound (kind.Text bytes seams) kind.Bar last new e f h i tt
joined_sound (kind.Text bytes seams) kind.Comma last new e f h i = pair_sound (kind.Text bytes seams) kind.Comma last new e f h i tt
joined_sound (kind.Text bytes seams) kind.Left last new e f h i = pair_sound (kind.Text bytes seams) kind.Left last new e f h i tt
joined_sound (kind.Text bytes seams) kind.Right last new e f h i = pair_sound (kind.Text bytes seams) kind.Right last new e f h i tt
joined_sound k l last new e f h i = pair_sound k l last new e f h i tt

apart_text : (j : SymbolKind) (bytes more : List ℕ) (seams others : List Seam) → AreApart j (kind.Text bytes seams) → AreApart j (kind.Text more others)
apart_text (kind.Text a c) bytes more seams others h = absurd h
apart_text j bytes more seams others h = tt

joined_parted : (j k l : SymbolKind) (last new : Symbol) → k ≡ last.kind → AreApart j k → IsApart j (joined_symbol_kinds k l last new)
joined_parted j (kind.Text bytes seams) (kind.Text more others) last new e h = apart_text j bytes (bytes ++ more) seams _ h
joined_parted j (kind.Text bytes seams) (kind.Open a c) last new e h = subst (λ (x : SymbolKind). AreApart j x) e h
joined_parted j (kind.Text bytes seams) (kind.Close a) last new e h = subst (λ (x : SymbolKind). AreApart j x) e h
joined_parted j (kind.Text bytes seams) (kind.Word w) last new e h = subst (λ (x : SymbolKind). AreApart j x) e h
joined_parted j (kind.Text bytes seams) (kind.Function g) last new e h = subst (λ (x : SymbolKind). AreApart j x) e h
joined_parted j (kind.Text bytes seams) kind.Unknown last new e h = subst (λ (x : SymbolKind). AreApart j x) e h
joined_parted j (kind.Text bytes seams) (kind.Field n) last new e h = subst (λ (x : SymbolKind). AreApart j x) e h
joined_parted j (kind.Text bytes seams) kind.Dot last new e h = subst (λ (x : SymbolKind). AreApart j x) e h
joined_parted j (kind.Text bytes seams) (kind.Variable n) last new e h = subst (λ (x : SymbolKind). AreApart j x) e h
joined_parted j (kind.Text bytes seams) (kind.Number n) last new e h = subst (λ (x : SymbolKind). AreApart j x) e h
joined_parted j (kind.Text bytes seams) (kind.Str n) last new e h = subst (λ (x : SymbolKind). AreApart j x) e h
joined_parted j (kind.Text bytes seams) kind.Declare last new e h = subst (λ (x : SymbolKind). AreApart j x) e h
joined_parted j (kind.Text bytes seams) kind.Assign last new e h = subst (λ (x : SymbolKind). AreApart j x) e h
joined_parted j (kind.Text bytes seams) kind.Bar last new e h = subst (λ (x : SymbolKind). AreApart j x) e h
joined_parted j (kind.Text bytes seams) kind.Comma last new e h = subst (λ (x : SymbolKind). AreApart j x) e h
joined_parted j (kind.Text bytes seams) kind.Left last new e h = subst (λ (x : SymbolKind). AreApart j x) e h
joined_parted j (kind.Text bytes seams) kind.Right last new e h = subst (λ (x : SymbolKind). AreApart j x) e h
joined_parted j k l last new e h = subst (λ (x : SymbolKind). AreApart j x) e h

put_parted : (j : SymbolKind) (s : Symbol) (symbols : List Symbol) (new : Symbol) → AreApart j s.kind → IsApart j (put_symbol (s ∷ symbols) new)
put_parted j s [] new h = joined_parted j s.kind new.kind s new refl h
put_parted j s (t ∷ symbols) new h = h

put_sound : (done : List Symbol) (new : Symbol) → Sound done → IsSound new.kind → Sound (put_symbol done new)
put_sound [] new sound is = (is, tt, tt)
put_sound (last ∷ []) new sound is = joined_sound last.kind new.kind last new refl refl sound.0 is
put_sound (s ∷ t ∷ done) new sound is = (sound.0, put_parted s.kind t done new sound.1, put_sound (t ∷ done) new sound.2 is)

-- where there is one
abbrev IsSoundIf : Option SymbolKind → Type 0
IsSoundIf None = ⊤
IsSoundIf (Some k) = IsSound k

put_kind_sound : (done : List Symbol) (o : Option SymbolKind) (line : ℕ) (touches : Bool) → Sound done → IsSoundIf o → Sound (put_kind done o line touches)
put_kind_sound done None line touches sound is = sound
put_kind_sound done (Some k) line touches sound is = put_sound done (symbol_at k line touches) sound is

-- A text that stands somewhere is not empty.
before_fits : (mark bytes : List ℕ) → bytes_before mark bytes ≤ length bytes
before_fits mark [] = omega arith
before_fits mark (b ∷ bs) = either (begins mark (b ∷ bs)) (λ t. rw t (omega arith)) (λ f. rw f (omega (arith, before_fits mark bs)))

kept_fits : (rest : List ℕ) → kept_end rest ≤ length rest
kept_fits rest = either (trims_before (drop (text_len rest) rest)) (λ t. rw t (omega (arith, before_fits (codes "{{") rest))) (λ f. rw f (before_fits (codes "{{") rest))

text_some : (text : List ℕ) (from : Cursor) (start end : ℕ) (to : Cursor) → IsTextToken text from start end to → take (end - start) (drop start text) ≢ []
text_some text from start end to h e =
    let len : length (take (end - start) (drop start text)) ≡ 0 = ap length e in
    omega (arith, len, h.starts, h.ends, h.not_empty, kept_fits (drop from.at text), length-drop from.at text, length-drop start text, length-take {A = ℕ} (end - start) (drop start text))

name_sound : (w : Option Word) (f : Option Func) → IsSound (word_kind w (function_kind f))
name_sound (Some w) f = tt
name_sound None (Some f) = tt
name_sound None None = tt

then_some : {A B : Type 0} (f : A → Option B) (o : Option A) (c : B) → option_and_then f o ≡ Some c → (n : A) × (o ≡ Some n) × (f n ≡ Some c)
then_some f None c e = cc
then_some f (Some n) c e = (n, refl, e)

some_is : {A : Type 0} (x y : A) → Some x ≡ Some y → x ≡ y
some_is x y e = cc

minus_small : (n : ℕ) → n ≤ 2 ^ 63 → IsSmall (neg_ℤ (pos n))
minus_small zero h = omega arith
minus_small (suc n) h = omega (arith, h)

signed_small : (b : Bool) (n : ℕ) (z : ℤ) → signed b n ≡ Some z → IsSmall z
signed_small true n z e = split (nat_le n (2 ^ 63)) e
    (λ t f. let le : n ≤ 2 ^ 63 = grind (arith, nat_tests) in subst IsSmall (some_is (neg_ℤ (pos n)) z f) (minus_small n le))
    (λ t f. cc)
signed_small false n z e = split (nat_lt n (2 ^ 63)) e
    (λ t f. let lt : n < 2 ^ 63 = grind (arith, nat_tests) in subst IsSmall (some_is (pos n) z f) lt)
    (λ t f. cc)

number_small : (bytes : List ℕ) (z : ℤ) → number bytes ≡ Some z → IsSmall z
number_small bytes z e = let h = then_some (signed (begins (codes "-") bytes)) (magnitude (unsigned bytes)) z e in signed_small (begins (codes "-") bytes) h.0 z h.2

-- the bytes of a token inside an action
inner_bytes : (what : TokenKind) (text : List ℕ) (from : Cursor) (start end : ℕ) (to : Cursor) (h : IsInner what text from start end to) → take (end - start) (drop start text) ≡ h.lexeme
inner_bytes what text from start end to h =
    here text start end h.lexeme h.more h.ends (ap (λ (n : ℕ). drop n text) h.starts ∙ behind text from.at h.between (h.lexeme ++ h.more) h.spelled)

variable_sound : (bytes rest : List ℕ) → IsLexeme token.Variable bytes rest → IsSound (kind.Variable (unmarked 36 bytes))
variable_sound bytes rest (inl h) = inl (ap (unmarked 36) h.0)
variable_sound bytes rest (inr h) = inr (ap is_name_byte (ap (unmarked 36) h.1) ∙ h.2)

open_sound : (text : List ℕ) (t : Token) (before after : Bool) → IsSoundIf (symbol_kind_of token.Open text t before after)
open_sound text t before true = tt
open_sound text t before false = tt

close_sound : (text : List ℕ) (t : Token) (before after : Bool) → IsSoundIf (symbol_kind_of token.Close text t before after)
close_sound text t true after = tt
close_sound text t false after = tt

token_sound : (what : TokenKind) (text : List ℕ) (from : Cursor) (start end : ℕ) (to : Cursor) (before after : Bool) → TokenStands what text from start end to
    → IsSoundIf (symbol_kind_of what text (record { kind = what; start = start; end = end }) before after)
token_sound token.Text text from start end to before after h = text_some text from start end to h
token_sound token.Open text from start end to before after h = open_sound text (record { kind = token.Open; start = start; end = end }) before after
token_sound token.Close text from start end to before after h = close_sound text (record { kind = token.Close; start = start; end = end }) before after
token_sound token.Comment text from start end to before after h = tt
token_sound token.Name text from start end to before after h = name_sound (word_of (take (end - start) (drop start text))) (function_of (take (end - start) (drop start text)))
token_sound token.Field text from start end to before after h =
    ap is_name_byte (ap (unmarked 46) (inner_bytes token.Field text from start end to h ∙ h.lexeme_is.1)) ∙ h.lexeme_is.2
token_sound token.Dot text from start end to before after h = tt
token_sound token.Variable text from start end to before after h =
    subst (λ (x : List ℕ). IsSound (kind.Variable (unmarked 36 x))) (sym (inner_bytes token.Variable text from start end to h)) (variable_sound h.lexeme h.more h.lexeme_is)
token_sound (token.Number n) text from start end to before after h = number_small h.lexeme n h.lexeme_is.0
token_sound (token.Str value) text from start end to before after h = tt
token_sound token.Declare text from start end to before after h = tt
token_sound token.Assign text from start end to before after h = tt
token_sound token.Bar text from start end to before after h = tt
token_sound token.Comma text from start end to before after h = tt
token_sound token.Left text from start end to before after h = tt
token_sound token.Right text from start end to before after h = tt

from_sound : (text : List ℕ) (tokens : List Token) (from last : Cursor) (done : List Symbol) (end : ℕ) (before : Bool) → TokensRead text from tokens last → Sound done → Sound (symbols_from text done end before tokens)
from_sound text [] from last done end before reads sound = sound
from_sound text (t ∷ tokens) from last done end before reads sound =
    from_sound text tokens reads.0 last _ t.end (is_comment t) reads.2
    (put_kind_sound done (symbol_kind_of t.kind text t before (token_begins_comment tokens)) (line_of text t.start) _ sound (token_sound t.kind text from t.start t.end reads.0 before (token_begins_comment tokens) reads.1))

pub symbols_sound : (text : List ℕ) (tokens : List Token) → AreTokens text tokens → Sound (symbols_of text tokens)
symbols_sound text tokens h = from_sound text tokens _ h.last [] 0 false h.reads tt

-- so are those from one on
pub rest_sound : (front symbols : List Symbol) → Sound (front ++ symbols) → Sound symbols
rest_sound [] symbols sound = sound
rest_sound (s ∷ front) symbols sound = rest_sound front symbols sound.2
