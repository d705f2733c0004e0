-- How the pieces of a text change, by the places that the code keeps.
use Rattle.std.proofs.Common.{◌≡◌, ℕ, ◌-◌, ◌≤◌, List, [], ◌∷◌, ◌++◌, length, drop, Option, Some, None, option_map, refl, sym, ap, ◌∙◌, subst, arith, Bool, true, nat_lt}
use Rattle.std.proofs.Math.Seq.{take-length}
use Rattle.std.proofs.lemmas.Bool.Decides.{nat_tests}
use Rattle.std.proofs.lemmas.List.{length-drop}
use Rattle.std.specs.Str.{IsCharBoundary}
use Rattle.page_piece.specs.declared.piece.Piece.{Piece}
use Rattle.page_piece.specs.declared.piece.PieceKind.{PieceKind}
use Rattle.page_piece.specs.declared.piece.PieceKind.TheVariants as kind
use Rattle.page_style.specs.Pieces.{StylePieces, with_open, complete, begin, longer_piece, grow, turned, turned_as, run, release, release_where, changed, has_bytes, all_pieces}
use Rattle.page_style.specs.Views.{style_slice, open_piece_at, style_pieces_at, IsWithin, IsNext, LeadsPieces}
use Rattle.page_style.specs.declared.change.PieceChange.TheVariants as change
use Rattle.page_style.specs.declared.part.Part.{Part}
use Rattle.page_style.specs.declared.pieces.Pieces.{Pieces}
use Rattle.page_style.proofs.Cuts.{cut_joins, cut_none}

abbrev pub style_pieces : List Piece → Option Piece → List ℕ → StylePieces
style_pieces d g h = record { done = d; growing = g; held = h }

pub same_pieces : (d e : List Piece) (g i : Option Piece) (h j : List ℕ) → d ≡ e → g ≡ i → h ≡ j → style_pieces d g h ≡ style_pieces e i j
same_pieces d e g i h j p q r = rw (p, q, r) refl

longer_at : (text bs : List ℕ) (from mid to : ℕ) (o : Option PieceKind) → style_slice text from to ≡ style_slice text from mid ++ bs → open_piece_at text from to o ≡ longer_piece bs (open_piece_at text from mid o)
longer_at text bs from mid to None e = refl
longer_at text bs from mid to (Some k) e = rw e refl

abbrev opened_as : PieceKind → List ℕ → Option Piece
opened_as k bs = Some (record { kind = k; text = bs })

opened : (k : PieceKind) (bs cs : List ℕ) → bs ≡ cs → opened_as k bs ≡ opened_as k cs
opened k bs cs e = rw e refl

turned_at : (text : List ℕ) (from to : ℕ) (k : PieceKind) (o : Option PieceKind) → open_piece_at text from to (option_map (λ _. k) o) ≡ turned k (open_piece_at text from to o)
turned_at text from to k None = refl
turned_at text from to k (Some l) = refl

-- the part joins what is held back
rest_joins : (text : List ℕ) (part : Part) (x : Pieces) → IsNext text part x → style_slice text x.to part.to ≡ style_slice text x.to part.from ++ style_slice text part.from part.to
rest_joins text part x n = cut_joins text x.to part.from part.to n.held n.order n.cut.0

open_joins : (text : List ℕ) (part : Part) (x : Pieces) → IsNext text part x → style_slice text x.from part.to ≡ style_slice text x.from x.to ++ (style_slice text x.to part.from ++ style_slice text part.from part.to)
open_joins text part x n =
    cut_joins text x.from x.to part.to n.within.order (omega (arith, n.held, n.order)) n.cut.0 ∙ ap (λ (bs : List ℕ). style_slice text x.from x.to ++ bs) (rest_joins text part x n)

abbrev pub grown : Pieces → ℕ → Pieces
grown x to = record { done = x.done; growing = x.growing; from = x.from; to = to }

pub grow_leads : (text : List ℕ) (part : Part) (x : Pieces) → IsNext text part x → LeadsPieces text part.to (grown x part.to) (grow (style_slice text part.from part.to) (style_pieces_at text part.from x))
grow_leads text part x n = record {
  within = record { order = omega (arith, n.held, n.order, n.within.order); begins = n.within.begins; ends = n.cut };
  held = omega arith;
  pieces = same_pieces _ _ _ _ _ _ refl (longer_at text _ x.from x.to part.to x.growing (open_joins text part x n)) (cut_none text part.to n.cut.0);
}

pub begin_leads : (text : List ℕ) (part : Part) (x : Pieces) (k : PieceKind) (done : List Piece) (from : ℕ) → IsNext text part x → done ≡ with_open x.done (open_piece_at text x.from x.to x.growing) → from ≡ x.to → LeadsPieces text part.to (record { done = done; growing = Some k; from = from; to = part.to }) (begin k (style_slice text part.from part.to) (style_pieces_at text part.from x))
begin_leads text part x k done from n d f = record {
  within = record {
    order = omega (arith, f, n.held, n.order);
    begins = subst (IsCharBoundary text) (sym f) n.within.ends;
    ends = n.cut;
  };
  held = omega arith;
  pieces = same_pieces _ _ _ _ _ _ d (opened k _ _ (ap (λ (i : ℕ). style_slice text i part.to) f ∙ rest_joins text part x n)) (cut_none text part.to n.cut.0);
}

pub complete_leads : (text : List ℕ) (end : ℕ) (x y : Pieces) (wanted : StylePieces) → LeadsPieces text end x wanted → y.done ≡ with_open x.done (open_piece_at text x.from x.to x.growing) → y.growing ≡ None → y.from ≡ x.to → y.to ≡ x.to → LeadsPieces text end y (complete wanted)
complete_leads text end x y wanted l d g f t = record {
  within = record {
    order = omega (arith, f, t);
    begins = subst (IsCharBoundary text) (sym f) l.within.ends;
    ends = subst (IsCharBoundary text) (sym t) l.within.ends;
  };
  held = omega (arith, t, l.held);
  pieces = same_pieces _ _ _ _ _ _ d (ap (open_piece_at text y.from y.to) g) (ap (λ (i : ℕ). style_slice text i end) t) ∙ ap complete l.pieces;
}

abbrev pub turned_pieces : PieceKind → Pieces → Pieces
turned_pieces k x = record { done = x.done; growing = option_map (λ _. k) x.growing; from = x.from; to = x.to }

pub turn_next : (text : List ℕ) (part : Part) (x : Pieces) (k : PieceKind) → IsNext text part x → IsNext text part (turned_pieces k x)
turn_next text part x k n = record {
  within = record { order = n.within.order; begins = n.within.begins; ends = n.within.ends };
  held = n.held;
  order = n.order;
  cut = n.cut;
}

pub turn_leads : (text : List ℕ) (at : ℕ) (x : Pieces) (k : PieceKind) → style_pieces_at text at (turned_pieces k x) ≡ turned_as k (style_pieces_at text at x)
turn_leads text at x k = same_pieces _ _ _ _ _ _ refl (turned_at text x.from x.to k x.growing) refl

pub hold_leads : (text : List ℕ) (part : Part) (x : Pieces) → IsNext text part x → LeadsPieces text part.to x (changed change.Hold (style_slice text part.from part.to) (style_pieces_at text part.from x))
hold_leads text part x n = record {
  within = n.within;
  held = omega (arith, n.held, n.order);
  pieces = same_pieces _ _ _ _ _ _ refl refl (rest_joins text part x n);
}

-- what is held back before a place is plain, as a run without bytes
pub release_leads : (text : List ℕ) (at : ℕ) (x y : Pieces) → at ≤ length text → LeadsPieces text at y (run kind.Plain (style_slice text at at) (style_pieces_at text at x)) → LeadsPieces text at y (release (style_pieces_at text at x))
release_leads text at x y h l = subst (λ (bs : List ℕ). LeadsPieces text at y (run kind.Plain bs (style_pieces_at text at x))) (cut_none text at h) l

pub hold_none : (text : List ℕ) (at : ℕ) (x : Pieces) → IsWithin text x → x.to ≤ at → LeadsPieces text at x (style_pieces_at text at x)
hold_none text at x w h = record { within = w; held = h; pieces = refl }

-- whether a byte is held back at the end
has-length : (bs : List ℕ) → has_bytes bs ≡ nat_lt 0 (length bs)
has-length [] = refl
has-length (b ∷ bs) =
    let some : nat_lt 0 (length (b ∷ bs)) ≡ true = grind (arith, nat_tests) in
    sym some

pub length-cut : (text : List ℕ) (from : ℕ) → length (style_slice text from (length text)) ≡ length text - from
length-cut text from = ap (λ (bs : List ℕ). length (drop from bs)) (take-length text) ∙ length-drop from text

pub has_held : (text : List ℕ) (from : ℕ) → has_bytes (style_slice text from (length text)) ≡ nat_lt from (length text)
has_held text from =
    let l = length-cut text from in
    has-length (style_slice text from (length text)) ∙ (ap (nat_lt 0) l ∙ grind (arith, nat_tests))

pub all_leads : (text : List ℕ) (x y : Pieces) (t : Bool) (done : List Piece) → t ≡ nat_lt x.to (length text) → LeadsPieces text (length text) y (release_where t (style_pieces_at text (length text) x)) → done ≡ with_open y.done (open_piece_at text y.from y.to y.growing) → done ≡ all_pieces (style_pieces_at text (length text) x)
all_leads text x y t done e l d =
    d ∙ (ap (λ (z : StylePieces). (complete z).done) l.pieces ∙ ap (λ (b : Bool). (complete (release_where b (style_pieces_at text (length text) x))).done) (e ∙ sym (has_held text x.to)))
