-- A text is read part by part.
use Rattle.std.proofs.Common.{◌≡◌, ℕ, suc, ◌+◌, ◌<◌, ◌≤◌, true, false, List, [], ◌∷◌, length, take, drop, drop-cons, get_or, None, refl, sym, ap, ◌∙◌, inl, inr, subst, arith}
use Rattle.std.proofs.lemmas.Bool.{cases_Bool, true≢false}
use Rattle.std.proofs.lemmas.Bool.Decides.{nat_tests}
use Rattle.std.proofs.lemmas.List.{drop-drop, get_or-drop, length-drop}
use Rattle.std.proofs.lemmas.List.Sums.{prefix_len_stops, prefix_len-le-length}
use Rattle.std.proofs.Math.ListN.{drop_of_length-le}
use Rattle.std.proofs.lemmas.Str.{IsCharBoundary-after_ascii, IsCharBoundary-start}
use Rattle.std.specs.Str.{IsCharBoundary, IsUtf8}
use Rattle.css_lexer.specs.Classes.{style_class}
use Rattle.css_lexer.specs.States.{Style, style_start}
use Rattle.css_lexer.specs.Steps.{feed_style}
use Rattle.std.specs.Bool.{⊤}
use Rattle.page_style.specs.Changes.{style_change_of, releases}
use Rattle.page_style.specs.Parts.{is_past_ascii, past_len, part_len}
use Rattle.page_style.specs.Pieces.{StylePieces, changed, release_where, all_pieces}
use Rattle.page_style.specs.Reading.{PiecesReading, style_point, style_read_on, read_bytes, no_pieces, style_pieces_of}
use Rattle.page_style.specs.StyleUrls.{any_url}
use Rattle.page_style.specs.Views.{style_slice, open_piece_at, style_state_at, style_pieces_at, read_style_at, IsWithin, LeadsPieces, Reads}
use Rattle.page_style.specs.declared.part.Part.{Part}
use Rattle.page_style.specs.declared.pieces.Pieces.{Pieces}
use Rattle.page_style.specs.declared.state.State.{State}
use Rattle.page_style.specs.declared.state.State.TheVariants as state
use Rattle.page_style.proofs.Cuts.{cut_count}
use Rattle.page_style.proofs.Growing.{same_pieces}
use Rattle.page_style.proofs.Together.{part-reads}

-- how long a part is, by its first byte
past-part : (b : ℕ) (bs : List ℕ) → is_past_ascii b ≡ true → part_len (b ∷ bs) ≡ past_len (b ∷ bs)
past-part b bs t = rw t refl

one-part : (b : ℕ) (bs : List ℕ) → is_past_ascii b ≡ false → part_len (b ∷ bs) ≡ 1
one-part b bs f = rw f refl

past-some : (b : ℕ) (bs : List ℕ) → is_past_ascii b ≡ true → 0 < past_len (b ∷ bs)
past-some b bs t = rw t (omega arith)

some-by : (b : ℕ) (bs : List ℕ) → 0 < part_len (b ∷ bs)
some-by b bs = elim (cases_Bool (is_past_ascii b)) [
  | inl t ↦ omega (arith, past-part b bs t, past-some b bs t)
  | inr f ↦ omega (arith, one-part b bs f)
]

pub part_some : (bs : List ℕ) → 0 < length bs → 0 < part_len bs
part_some [] h = absurd (omega (arith, h))
part_some (b ∷ bs) h = some-by b bs

-- a text may be cut behind a part
high : (b : ℕ) → 128 ≤ b → is_past_ascii b ≡ true
high b h = grind (arith, nat_tests)

low : (b : ℕ) → is_past_ascii b ≡ false → b < 128
low b f = grind (arith, nat_tests)

cut-run : (text : List ℕ) (at run : ℕ) → run ≡ past_len (drop at text) → at + run ≤ length text → IsCharBoundary text (at + run)
cut-run text at run is fits = (
  fits,
  λ inside over.
      let n : past_len (drop at text) < length (drop at text) = omega (arith, is, length-drop at text, inside) in
      let stops = prefix_len_stops is_past_ascii (drop at text) 0 n in
      let there : get_or (drop at text) (past_len (drop at text)) 0 ≡ get_or text (at + run) 0 = ap (λ (i : ℕ). get_or (drop at text) i 0) (sym is) ∙ get_or-drop at text run 0 in
      absurd (true≢false (sym (high (get_or text (at + run) 0) over) ∙ (ap is_past_ascii (sym there) ∙ stops))),
)

cut-by : (text : List ℕ) (at b : ℕ) (bs : List ℕ) → IsUtf8 text → at < length text → b ≡ get_or text at 0 → drop at text ≡ b ∷ bs → IsCharBoundary text (at + part_len (b ∷ bs))
cut-by text at b bs u h first is = elim (cases_Bool (is_past_ascii b)) [
  | inl t ↦ subst (λ (n : ℕ). IsCharBoundary text (at + n)) (sym (past-part b bs t)) (cut-run text at (past_len (b ∷ bs)) (ap past_len (sym is)) (omega (arith, prefix_len-le-length is_past_ascii (b ∷ bs), ap length is, length-drop at text, h)))
  | inr f ↦ subst (λ (n : ℕ). IsCharBoundary text (at + n)) (sym (one-part b bs f)) (IsCharBoundary-after_ascii text at u h (omega (arith, first, low b f)))
]

pub cut_part : (text : List ℕ) (at : ℕ) → IsUtf8 text → at < length text → IsCharBoundary text (at + part_len (drop at text))
cut_part text at u h =
    let is = drop-cons text at 0 h in
    subst (λ (bs : List ℕ). IsCharBoundary text (at + part_len bs)) (sym is) (cut-by text at (get_or text at 0) (drop (suc at) text) u h refl is)

-- a part is read, and then the rest
reads-by : (s : State) (x : StylePieces) (b : ℕ) (bs cs : List ℕ) → cs ≡ b ∷ bs → read_bytes cs (style_point (style_state_at s) x) ≡ read_bytes (drop (part_len cs) cs) (style_read_on b (take (part_len cs) cs) (style_point (style_state_at s) x))
reads-by s x b bs cs is = rw is (part-reads s b bs x)

pub part_leads : (text : List ℕ) (s : State) (x : StylePieces) (at : ℕ) → at < length text → read_bytes (drop at text) (style_point (style_state_at s) x) ≡ read_bytes (drop (at + part_len (drop at text)) text) (style_read_on (get_or text at 0) (style_slice text at (at + part_len (drop at text))) (style_point (style_state_at s) x))
part_leads text s x at h =
    let n = part_len (drop at text) in
    let p = style_point (style_state_at s) x in
    reads-by s x (get_or text at 0) (drop (suc at) text) (drop at text) (drop-cons text at 0 h)
    ∙ (ap (λ (bs : List ℕ). read_bytes bs (style_read_on (get_or text at 0) (take n (drop at text)) p)) (drop-drop n at text)
    ∙ ap (λ (bs : List ℕ). read_bytes (drop (at + n) text) (style_read_on (get_or text at 0) bs p)) (sym (cut_count text at n)))

pub record IsRead (text : List ℕ) (at : ℕ) (s : State) (x : Pieces) (before : PiecesReading) : Type 0 where
  pub within : IsWithin text x
  pub held : x.to ≤ at
  pub cut : IsCharBoundary text at
  pub reads : read_bytes (drop at text) (read_style_at text at s x) ≡ read_bytes text before

pub reads_on : (text : List ℕ) (part : Part) (s t : State) (x y : Pieces) (before : PiecesReading) → part.from < length text → IsRead text part.from s x before → part.to ≡ part.from + part_len (drop part.from text) → IsCharBoundary text part.to → Reads text part t y (read_style_at text part.from s x) → IsRead text part.to t y before
reads_on text part s t x y before h kept to cuts r = record {
  within = r.within;
  held = r.held;
  cut = cuts;
  reads = ap (read_bytes (drop part.to text)) r.point
      ∙ (ap (λ (end : ℕ). read_bytes (drop end text) (style_read_on (get_or text part.from 0) (style_slice text part.from end) (read_style_at text part.from s x))) to
      ∙ (sym (part_leads text s (style_pieces_at text part.from x) part.from h) ∙ kept.reads));
}

pub reads_from : (text : List ℕ) (at : ℕ) (part : Part) (s t : State) (x y : Pieces) (before : PiecesReading) → part.from ≡ at → at < length text → IsRead text at s x before → part.to ≡ at + part_len (drop at text) → IsCharBoundary text part.to → Reads text part t y (read_style_at text part.from s x) → IsRead text part.to t y before
reads_from text at part s t x y before f h kept to cuts r =
    reads_on text part s t x y before (omega (arith, f, h)) (subst (λ (i : ℕ). IsRead text i s x before) (sym f) kept) (subst (λ (i : ℕ). part.to ≡ i + part_len (drop i text)) (sym f) to) cuts r

-- at the beginning, and at the end
pub start_read : (text : List ℕ) (x : Pieces) → IsUtf8 text → x.done ≡ [] → x.growing ≡ None → x.from ≡ 0 → x.to ≡ 0 → IsRead text 0 (state.Between false) x (style_point style_start no_pieces)
start_read text x u d g f t = record {
  within = record {
    order = omega (arith, f, t);
    begins = subst (IsCharBoundary text) (sym f) (IsCharBoundary-start text u);
    ends = subst (IsCharBoundary text) (sym t) (IsCharBoundary-start text u);
  };
  held = omega (arith, t);
  cut = IsCharBoundary-start text u;
  reads = ap (λ (z : StylePieces). read_bytes text (style_point style_start z)) (same_pieces x.done [] _ None (style_slice text x.to 0) [] d (ap (open_piece_at text x.from x.to) g) (ap (λ (i : ℕ). style_slice text i 0) t));
}

pub all_read : (text : List ℕ) (at : ℕ) (s : State) (x : Pieces) → IsRead text at s x (style_point style_start no_pieces) → length text ≤ at → all_pieces (style_pieces_at text (length text) x) ≡ style_pieces_of text
unfolding style_pieces_of
all_read text at s x r h =
    let end : at ≡ length text = omega (arith, r.cut.0, h) in
    let none : drop at text ≡ [] = drop_of_length-le text h in
    let reads : read_style_at text at s x ≡ read_bytes text (style_point style_start no_pieces) = sym (ap (λ (bs : List ℕ). read_bytes bs (read_style_at text at s x)) none) ∙ r.reads in
    ap (λ (i : ℕ). all_pieces (style_pieces_at text i x)) (sym end) ∙ ap (λ (p : PiecesReading). all_pieces p.pieces) reads

-- a part is read: first what is held back may be plain
pub leads_read : (text : List ℕ) (part : Part) (s t : State) (x y z : Pieces) (b : ℕ) → b ≡ get_or text part.from 0 → LeadsPieces text part.from y (release_where (releases (style_state_at s) (style_class b)) (style_pieces_at text part.from x)) → LeadsPieces text part.to z (changed (style_change_of (style_state_at s) b) (style_slice text part.from part.to) (style_pieces_at text part.from y)) → style_state_at t ≡ feed_style any_url (style_state_at s) b → Reads text part t z (read_style_at text part.from s x)
leads_read text part s t x y z b first l m n = record {
  within = m.within;
  held = m.held;
  point = ap (λ (at : Style ⊤). style_point at (style_pieces_at text part.to z)) n
      ∙ (ap (style_point (feed_style any_url (style_state_at s) b)) (m.pieces ∙ ap (changed (style_change_of (style_state_at s) b) (style_slice text part.from part.to)) l.pieces)
      ∙ ap (λ (c : ℕ). style_read_on c (style_slice text part.from part.to) (read_style_at text part.from s x)) first);
}
