-- Bytes past ASCII that are read together lead where they lead one after another.
use Rattle.std.proofs.Common.{◌≡◌, ℕ, Bool, true, false, List, [], ◌∷◌, ◌++◌, take, drop, Option, Some, None, refl, sym, ap, ◌∙◌, inl, inr, suc, ◌+◌, arith}
use Rattle.std.specs.Bool.{⊤}
use Rattle.std.proofs.lemmas.Bool.{cases_Bool}
use Rattle.std.proofs.lemmas.List.{append_assoc, append-nil}
use Rattle.css_lexer.specs.Classes.{style_class}
use Rattle.css_lexer.specs.Escapes.{NoEscape}
use Rattle.css_lexer.specs.States as style
use Rattle.css_lexer.specs.States.{Style, Out, InUrl}
use Rattle.css_lexer.specs.Steps.{feed_style}
use Rattle.page_piece.specs.declared.piece.Piece.{Piece}
use Rattle.page_piece.specs.declared.piece.PieceKind.{PieceKind}
use Rattle.page_piece.specs.declared.piece.PieceKind.TheVariants as kind
use Rattle.page_style.specs.Changes.{style_change_of, releases}
use Rattle.page_style.specs.Parts.{is_past_ascii, past_len, part_len}
use Rattle.page_style.specs.Pieces.{StylePieces, grow, turned_as, run, begin, is_open_piece, longer_piece, release_where, same_run}
use Rattle.page_style.specs.Reading.{style_point, style_read_on, read_bytes}
use Rattle.page_style.specs.StyleUrls.{any_url, any_url_state}
use Rattle.page_style.specs.Views.{style_state_at, quote_at, read_style_escape, url_word_at}
use Rattle.page_style.specs.declared.change.PieceChange.TheVariants as change
use Rattle.page_style.specs.declared.state.Escape.{Escape}
use Rattle.page_style.specs.declared.state.Escape.TheVariants as escape
use Rattle.page_style.specs.declared.state.Quote.{Quote}
use Rattle.page_style.specs.declared.state.Quote.TheVariants as quote
use Rattle.page_style.specs.declared.state.State.{State}
use Rattle.page_style.specs.declared.state.State.TheVariants as state
use Rattle.page_style.specs.declared.state.UrlForm.TheVariants as form
use Rattle.page_style.specs.declared.state.UrlWord.{UrlWord}
use Rattle.page_style.specs.declared.state.UrlWord.TheVariants as word
use Rattle.page_style.proofs.Past.{IsPast, past}

-- What is read twice.
longer-twice : (us vs : List ℕ) (o : Option Piece) → longer_piece vs (longer_piece us o) ≡ longer_piece (us ++ vs) o
longer-twice us vs None = refl
longer-twice us vs (Some p) = rw (append_assoc p.text us vs) refl

grow-twice : (us vs : List ℕ) (x : StylePieces) → grow vs (grow us x) ≡ grow (us ++ vs) x
grow-twice us vs x = rw (longer-twice (x.held ++ us) vs x.growing, append_assoc x.held us vs) refl

-- a run that is open goes on
abbrev IsRun : PieceKind → Type 0
IsRun k = same_run k k ≡ true

run-open : (k : PieceKind) (vs : List ℕ) (x : StylePieces) → is_open_piece k x.growing ≡ true → run k vs x ≡ grow vs x
run-open k vs x e = rw e refl

grown-open : (k : PieceKind) (us : List ℕ) (o : Option Piece) → is_open_piece k (longer_piece us o) ≡ is_open_piece k o
grown-open k us None = refl
grown-open k us (Some p) = refl

begin-grow : (k : PieceKind) (us vs : List ℕ) (x : StylePieces) → grow vs (begin k us x) ≡ begin k (us ++ vs) x
begin-grow k us vs x = rw (append_assoc x.held us vs) refl

run-twice-by : (t : Bool) (k : PieceKind) (us vs : List ℕ) (x : StylePieces) → IsRun k → is_open_piece k x.growing ≡ t → run k vs (run k us x) ≡ run k (us ++ vs) x
run-twice-by true k us vs x r e =
    ap (run k vs) (run-open k us x e) ∙ (run-open k vs (grow us x) (grown-open k (x.held ++ us) x.growing ∙ e) ∙ (grow-twice us vs x ∙ sym (run-open k (us ++ vs) x e)))
run-twice-by false k us vs x r e = rw (e, r) (begin-grow k us vs x)

run-twice : (k : PieceKind) (us vs : List ℕ) (x : StylePieces) → IsRun k → run k vs (run k us x) ≡ run k (us ++ vs) x
run-twice k us vs x r = run-twice-by (is_open_piece k x.growing) k us vs x r refl

-- Where a byte past ASCII leads.
abbrev in_word : Style ⊤
in_word = Out (style.Word style.SpellsOther NoEscape)

word-next : (w : UrlWord) (e : Escape) (b : ℕ) → IsPast b → feed_style any_url (Out (style.Word (url_word_at w) (read_style_escape e))) b ≡ in_word
word-next word.U escape.None b p = rw (p.kind, p.spells_r) refl
word-next word.U escape.Backslash b p = rw p.digit refl
word-next word.U (escape.Digits n) b p = rw (p.kind, p.spells_r, p.digit) refl
word-next word.U escape.Return b p = rw (p.kind, p.spells_r) refl
word-next word.Ur escape.None b p = rw (p.kind, p.spells_l) refl
word-next word.Ur escape.Backslash b p = rw p.digit refl
word-next word.Ur (escape.Digits n) b p = rw (p.kind, p.spells_l, p.digit) refl
word-next word.Ur escape.Return b p = rw (p.kind, p.spells_l) refl
word-next word.Url escape.None b p = rw p.kind refl
word-next word.Url escape.Backslash b p = rw p.digit refl
word-next word.Url (escape.Digits n) b p = rw (p.kind, p.digit) refl
word-next word.Url escape.Return b p = rw p.kind refl
word-next word.Other escape.None b p = rw p.kind refl
word-next word.Other escape.Backslash b p = rw p.digit refl
word-next word.Other (escape.Digits n) b p = rw (p.kind, p.digit) refl
word-next word.Other escape.Return b p = rw p.kind refl

word-change : (w : UrlWord) (e : Escape) (b : ℕ) → IsPast b → style_change_of (Out (style.Word (url_word_at w) (read_style_escape e))) b ≡ change.Run kind.Word
word-change word.U escape.None b p = rw p.kind refl
word-change word.U escape.Backslash b p = refl
word-change word.U (escape.Digits n) b p = rw p.kind refl
word-change word.U escape.Return b p = rw p.kind refl
word-change word.Ur escape.None b p = rw p.kind refl
word-change word.Ur escape.Backslash b p = refl
word-change word.Ur (escape.Digits n) b p = rw p.kind refl
word-change word.Ur escape.Return b p = rw p.kind refl
word-change word.Url escape.None b p = rw p.kind refl
word-change word.Url escape.Backslash b p = refl
word-change word.Url (escape.Digits n) b p = rw p.kind refl
word-change word.Url escape.Return b p = rw p.kind refl
word-change word.Other escape.None b p = rw p.kind refl
word-change word.Other escape.Backslash b p = refl
word-change word.Other (escape.Digits n) b p = rw p.kind refl
word-change word.Other escape.Return b p = rw p.kind refl

string-next : (q : Quote) (e : Escape) (b : ℕ) → IsPast b → feed_style any_url (Out (style.InString (quote_at q) (read_style_escape e))) b ≡ Out (style.InString (quote_at q) NoEscape)
string-next quote.Double escape.None b p = rw p.kind refl
string-next quote.Double escape.Backslash b p = rw (p.carriage, p.digit) refl
string-next quote.Double (escape.Digits n) b p = rw (p.kind, p.digit) refl
string-next quote.Double escape.Return b p = rw (p.line, p.kind) refl
string-next quote.Single escape.None b p = rw p.kind refl
string-next quote.Single escape.Backslash b p = rw (p.carriage, p.digit) refl
string-next quote.Single (escape.Digits n) b p = rw (p.kind, p.digit) refl
string-next quote.Single escape.Return b p = rw (p.line, p.kind) refl

string-change : (q : Quote) (e : Escape) (b : ℕ) → IsPast b → style_change_of (Out (style.InString (quote_at q) (read_style_escape e))) b ≡ change.Grow
string-change quote.Double escape.None b p = rw p.kind refl
string-change quote.Double escape.Backslash b p = refl
string-change quote.Double (escape.Digits n) b p = rw p.kind refl
string-change quote.Double escape.Return b p = rw (p.line, p.kind) refl
string-change quote.Single escape.None b p = rw p.kind refl
string-change quote.Single escape.Backslash b p = refl
string-change quote.Single (escape.Digits n) b p = rw p.kind refl
string-change quote.Single escape.Return b p = rw (p.line, p.kind) refl

url-next : (q : Quote) (e : Escape) (b : ℕ) → IsPast b → feed_style any_url (InUrl (style.Quoted (quote_at q) (read_style_escape e)) any_url_state) b ≡ InUrl (style.Quoted (quote_at q) NoEscape) any_url_state
url-next quote.Double escape.None b p = rw p.kind refl
url-next quote.Double escape.Backslash b p = rw (p.carriage, p.digit) refl
url-next quote.Double (escape.Digits n) b p = rw (p.kind, p.digit) refl
url-next quote.Double escape.Return b p = rw (p.line, p.kind) refl
url-next quote.Single escape.None b p = rw p.kind refl
url-next quote.Single escape.Backslash b p = rw (p.carriage, p.digit) refl
url-next quote.Single (escape.Digits n) b p = rw (p.kind, p.digit) refl
url-next quote.Single escape.Return b p = rw (p.line, p.kind) refl

-- What a byte does behind bytes that led so.
abbrev Together : Style ⊤ → ℕ → List ℕ → ℕ → StylePieces → Type 0
Together s b us c x = style_read_on c (c ∷ []) (style_read_on b us (style_point s x)) ≡ style_read_on b (us ++ c ∷ []) (style_point s x)

runs : (s : Style ⊤) (b : ℕ) (us : List ℕ) (c : ℕ) (x : StylePieces) → IsPast c → feed_style any_url s b ≡ in_word → style_change_of s b ≡ change.Run kind.Word → Together s b us c x
runs s b us c x q n k = rw (n, k, q.kind) (ap (style_point in_word) (run-twice kind.Word us (c ∷ []) (release_where (releases s (style_class b)) x) refl))

-- where bytes go on with the open piece
pub record Stays (t : Style ⊤) (c : ℕ) : Type 0 where
  pub next : feed_style any_url t c ≡ t
  pub change : style_change_of t c ≡ change.Grow
  pub free : releases t (style_class c) ≡ false

grows : (s t : Style ⊤) (b : ℕ) (us : List ℕ) (c : ℕ) (x : StylePieces) → Stays t c → feed_style any_url s b ≡ t → style_change_of s b ≡ change.Grow → Together s b us c x
grows s t b us c x y n k = rw (n, k, y.next, y.change, y.free) (ap (style_point t) (grow-twice us (c ∷ []) (release_where (releases s (style_class b)) x)))

turns : (s t : Style ⊤) (b : ℕ) (us : List ℕ) (c : ℕ) (x : StylePieces) (l : PieceKind) → Stays t c → feed_style any_url s b ≡ t → style_change_of s b ≡ change.GrowAs l → Together s b us c x
turns s t b us c x l y n k = rw (n, k, y.next, y.change, y.free) (ap (style_point t) (grow-twice us (c ∷ []) (turned_as l (release_where (releases s (style_class b)) x))))

stays-comment : (c : ℕ) → IsPast c → Stays (Out (style.Comment false)) c
stays-comment c q = record { next = rw q.kind refl; change = refl; free = refl }

stays-bad : (c : ℕ) → IsPast c → Stays (Out style.BadUrl) c
stays-bad c q = record { next = rw q.kind refl; change = rw q.kind refl; free = refl }

stays-bare : (c : ℕ) → IsPast c → Stays (InUrl style.Bare any_url_state) c
stays-bare c q = record { next = rw q.kind refl; change = rw q.kind refl; free = refl }

stays-string : (r : Quote) (c : ℕ) → IsPast c → Stays (Out (style.InString (quote_at r) NoEscape)) c
stays-string r c q = record { next = string-next r escape.None c q; change = string-change r escape.None c q; free = refl }

stays-quoted : (r : Quote) (c : ℕ) → IsPast c → Stays (InUrl (style.Quoted (quote_at r) NoEscape) any_url_state) c
stays-quoted r c q = record { next = url-next r escape.None c q; change = rw (url-next r escape.None c q) refl; free = refl }

abbrev comment : Style ⊤
comment = Out (style.Comment false)

abbrev bad : Style ⊤
bad = Out style.BadUrl

abbrev bare : Style ⊤
bare = InUrl style.Bare any_url_state

abbrev string : Quote → Style ⊤
string q = Out (style.InString (quote_at q) NoEscape)

abbrev quoted : Quote → Style ⊤
quoted q = InUrl (style.Quoted (quote_at q) NoEscape) any_url_state

together : (s : State) (b : ℕ) (us : List ℕ) (c : ℕ) (x : StylePieces) → IsPast b → IsPast c → Together (style_state_at s) b us c x
together (state.Between k) b us c x p q = runs (style_state_at (state.Between k)) b us c x q (rw (p.kind, p.spells_u) refl) (rw p.kind refl)
together state.LessThan b us c x p q = runs (style_state_at state.LessThan) b us c x q (rw (p.kind, p.spells_u) refl) (rw p.kind refl)
together (state.Word w e) b us c x p q = runs (style_state_at (state.Word w e)) b us c x q (word-next w e b p) (word-change w e b p)
together (state.Solidus k) b us c x p q = runs (style_state_at (state.Solidus k)) b us c x q (rw (p.kind, p.spells_u) refl) (rw p.kind refl)
together (state.Comment true) b us c x p q = grows (style_state_at (state.Comment true)) comment b us c x (stays-comment c q) (rw p.kind refl) (rw p.kind refl)
together (state.Comment false) b us c x p q = grows (style_state_at (state.Comment false)) comment b us c x (stays-comment c q) (rw p.kind refl) refl
together (state.InString r e) b us c x p q = grows (style_state_at (state.InString r e)) (string r) b us c x (stays-string r c q) (string-next r e b p) (string-change r e b p)
together state.BadUrl b us c x p q = grows (style_state_at state.BadUrl) bad b us c x (stays-bad c q) (rw p.kind refl) (rw p.kind refl)
together (state.InUrl form.Fresh) b us c x p q = grows (style_state_at (state.InUrl form.Fresh)) bare b us c x (stays-bare c q) (rw p.kind refl) (rw p.kind refl)
together (state.InUrl form.Bare) b us c x p q = grows (style_state_at (state.InUrl form.Bare)) bare b us c x (stays-bare c q) (rw p.kind refl) (rw p.kind refl)
together (state.InUrl (form.Quoted r e)) b us c x p q = grows (style_state_at (state.InUrl (form.Quoted r e))) (quoted r) b us c x (stays-quoted r c q) (url-next r e b p) (rw (url-next r e b p) refl)
together (state.InUrl form.Ended) b us c x p q = turns (style_state_at (state.InUrl form.Ended)) bad b us c x kind.BadString (stays-bad c q) (rw p.kind refl) (rw p.kind refl)

one-more : (n : ℕ) → 1 + n ≡ suc n
one-more n = omega arith

-- A run of bytes past ASCII, behind others.
run-reads : (s : State) (b : ℕ) (us cs : List ℕ) (x : StylePieces) → IsPast b → read_bytes cs (style_read_on b us (style_point (style_state_at s) x)) ≡ read_bytes (drop (past_len cs) cs) (style_read_on b (us ++ take (past_len cs) cs) (style_point (style_state_at s) x))
run-reads s b us [] x p = rw (append-nil us) refl
run-reads s b us (c ∷ cs) x p = elim (cases_Bool (is_past_ascii c)) [
  | inl t ↦ rw (t, one-more (past_len cs)) (ap (read_bytes cs) (together s b us c x p (past c t)) ∙ (run-reads s b (us ++ c ∷ []) cs x p ∙ ap (λ (vs : List ℕ). read_bytes (drop (past_len cs) cs) (style_read_on b vs (style_point (style_state_at s) x))) (append_assoc us (c ∷ []) (take (past_len cs) cs))))
  | inr f ↦ rw (f, append-nil us) refl
]

-- The part at the beginning, and the rest.
pub part-reads : (s : State) (b : ℕ) (bs : List ℕ) (x : StylePieces) → read_bytes (b ∷ bs) (style_point (style_state_at s) x) ≡ read_bytes (drop (part_len (b ∷ bs)) (b ∷ bs)) (style_read_on b (take (part_len (b ∷ bs)) (b ∷ bs)) (style_point (style_state_at s) x))
part-reads s b bs x = elim (cases_Bool (is_past_ascii b)) [
  | inl t ↦ rw (t, one-more (past_len bs)) (run-reads s b (b ∷ []) bs x (past b t))
  | inr f ↦ rw f refl
]
