-- The place that is shown before a byte of a text, as it is looked for byte by byte.
use Rattle.std.proofs.Common.{◌≡◌, ℕ, zero, suc, ◌+◌, ◌-◌, ◌<◌, ◌≤◌, true, false, List, [], ◌∷◌, length, Option, Some, None, refl, ap, ◌∙◌, arith, min, drop, get_or}
use Rattle.std.specs.Prelude.{is_some}
use Rattle.std.proofs.Math.Nat.{min-zero, zero-min}
use Rattle.std.proofs.lemmas.List.{drop_more}
use Rattle.place_core.specs.page.Classes.{Class, class_of}
use Rattle.place_core.specs.place.Errors.{or_place}
use Rattle.place_core.specs.declared.place.Place.{Place}
use Rattle.html_scan.specs.Scans.{Scan, At, scan_next, scan_shown}
use Rattle.html_step.specs.Steps.{shown_scan}

-- behind a text's end there are no more bytes
pub shown-within : (at : ℕ) (bytes : List ℕ) (f : Scan) (before : Option Place)
    → shown_scan (min at (length bytes)) bytes f before ≡ shown_scan at bytes f before
shown-within zero bytes f before = ap (λ (n : ℕ). shown_scan n bytes f before) (zero-min (length bytes))
shown-within (suc k) [] f before = ap (λ (n : ℕ). shown_scan n [] f before) (min-zero (suc k))
shown-within (suc k) (b ∷ bs) f before =
    let more : min (suc k) (suc (length bs)) ≡ suc (min k (length bs)) = omega arith in
    ap (λ (n : ℕ). shown_scan n (b ∷ bs) f before) more ∙ shown-within k bs (scan_next f (class_of b) b) (or_place (scan_shown f (b ∷ bs)) before)

-- before the first byte the place itself is shown
pub shown-from : (at : ℕ) (bytes : List ℕ) (p : Place) → shown_scan at bytes (At p) (Some p) ≡ shown_scan at bytes (At p) None
shown-from zero bytes p = refl
shown-from (suc k) [] p = refl
shown-from (suc k) (b ∷ bs) p = refl

-- the last one that is shown, where one is at the byte at hand or none
pub shown-here : (o before : Option Place) → true ≡ is_some o → o ≡ or_place o before
shown-here (Some p) before e = refl
shown-here None before e = cc

pub shown-before : (o before : Option Place) → false ≡ is_some o → before ≡ or_place o before
shown-before (Some p) before e = cc
shown-before None before e = refl

-- one byte more
shown-step : (n m b : ℕ) (c : Class) (all rest : List ℕ) (f g : Scan) (before after z : Option Place) → m ≡ suc n → all ≡ b ∷ rest → c ≡ class_of b
    → g ≡ scan_next f c b
    → after ≡ or_place (scan_shown f all) before → shown_scan m all f before ≡ z → shown_scan n rest g after ≡ z
shown-step n m b c all rest f g before after z e h k l a s = rw (l, k, a, h) (rw (e, h) at s)

pub shown-more : (at i d : ℕ) (text : List ℕ) (c : Class) (f g : Scan) (before after z : Option Place) → i < at → at ≤ length text
    → c ≡ class_of (get_or text i d) → g ≡ scan_next f c (get_or text i d) → after ≡ or_place (scan_shown f (drop i text)) before
    → shown_scan (at - i) (drop i text) f before ≡ z → shown_scan (at - (i + 1)) (drop (i + 1) text) g after ≡ z
shown-more at i d text c f g before after z h k n e a s =
    shown-step (at - (i + 1)) (at - i) (get_or text i d) c (drop i text) (drop (i + 1) text) f g before after z (omega arith)
    (drop_more text i d (omega arith)) n e a s

-- the byte itself
pub shown-at : (at i : ℕ) (text : List ℕ) (f : ℕ → Scan) (before after z : Option Place) → i ≡ at → after ≡ or_place (scan_shown (f at) (drop at text)) before
    → shown_scan (at - i) (drop i text) (f i) before ≡ z → after ≡ z
shown-at at i text f before after z e a s = (let none : at - at ≡ 0 = omega arith in a ∙ (rw (e, none) at s))
