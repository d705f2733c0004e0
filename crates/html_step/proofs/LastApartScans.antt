-- The last point of a text at which two paths are apart, as it is looked for byte by byte.
use Rattle.std.proofs.Common.{◌≡◌, ◌<◌, ◌≤◌, ◌+◌, ℕ, ◌⊎◌, inl, inr, List, [], ◌∷◌, ◌++◌, length, min, drop, take, get_or, Option, Some, None, true, refl, ap, ◌∙◌, subst, arith}
use Rattle.std.proofs.lemmas.Bool.{cases_lt}
use Rattle.std.proofs.lemmas.Grind.{take_at_read}
use Rattle.std.proofs.lemmas.List.{drop_all, take_all}
use Rattle.place_core.specs.page.Classes.{Class, class_of}
use Rattle.place_core.specs.place.ApartPlaces.{opened_apart}
use Rattle.html_scan.specs.Scans.{Scan, scan_next}
use Rattle.html_step.specs.ApartScans.{AnswersLast, AreScansApart, beginning_after, scan_beginning}
use Rattle.html_step.specs.Steps.{scan_after}

-- the scan states at a point of a text, from those before it
pub record AreAt (i : ℕ) (text : List ℕ) (f g x y : Scan) : Type 0 where
  pub one : x ≡ scan_after (take i text) f
  pub other : y ≡ scan_after (take i text) g

-- one byte more
scan_after-append : (xs ys : List ℕ) (f : Scan) → scan_after (xs ++ ys) f ≡ scan_after ys (scan_after xs f)
scan_after-append [] ys f = refl
scan_after-append (x ∷ xs) ys f = scan_after-append xs ys (scan_next f (class_of x) x)

after-more : (i d : ℕ) (text : List ℕ) (c : Class) (f x z : Scan) → i < length text → c ≡ class_of (get_or text i d)
    → x ≡ scan_after (take i text) f → z ≡ scan_next x c (get_or text i d) → z ≡ scan_after (take (i + 1) text) f
after-more i d text c f x z k n e s =
    rw ((take_at_read text i d k).1, (scan_after-append (take i text) (get_or text i d ∷ []) f)) (s ∙ rw (n, e) refl)

pub at-more : (i d : ℕ) (text : List ℕ) (c : Class) (f g x y z w : Scan) → i < length text → c ≡ class_of (get_or text i d)
    → AreAt i text f g x y → z ≡ scan_next x c (get_or text i d) → w ≡ scan_next y c (get_or text i d) → AreAt (i + 1) text f g z w
at-more i d text c f g x y z w k n a s t =
    record { one = after-more i d text c f x z k n a.one s; other = after-more i d text c g y w k n a.other t }

-- whether paths are apart there
abbrev ApartHere : ℕ → List ℕ → Scan → Scan → Type 0
ApartHere i text x y = opened_apart (scan_beginning x (drop i text)) (scan_beginning y (drop i text)) ≡ true

here-apart : (i : ℕ) (text : List ℕ) (f g x y : Scan) → AreAt i text f g x y → ApartHere i text x y → AreScansApart i text f g
here-apart i text f g x y a h = rw (a.one, a.other) at h

apart-here : (i : ℕ) (text : List ℕ) (f g x y : Scan) → AreAt i text f g x y → AreScansApart i text f g → ApartHere i text x y
apart-here i text f g x y a h = rw (a.one, a.other) h

-- no point from one on up to another
none-from : (i end : ℕ) (text : List ℕ) (f g : Scan) → ((m : ℕ) → i ≤ m → m < end → AreScansApart m text f g → ⊥) → i ≤ end
    → (o : Option ℕ) → AnswersLast i text f g o → AnswersLast end text f g o
none-from i end text f g never k (Some n) h = record {
  before = omega (arith, h.before, k);
  apart = h.apart;
  last = λ m l r. elim (cases_lt m i) [ inl b ↦ h.last m l b | inr b ↦ never m b r ];
}
none-from i end text f g never k None h = λ m r. elim (cases_lt m i) [ inl b ↦ h m b | inr b ↦ never m b r ]

-- at a byte of the text
pub last-here : (i : ℕ) (text : List ℕ) (f g x y : Scan) → AreAt i text f g x y → ApartHere i text x y
    → AnswersLast (i + 1) text f g (Some i)
last-here i text f g x y a h = record {
  before = omega arith;
  apart = here-apart i text f g x y a h;
  last = λ m l r t. absurd (let never : ⊥ = omega (arith, l, r) in never);
}

pub last-before : (i : ℕ) (text : List ℕ) (f g x y : Scan) (o : Option ℕ) → AreAt i text f g x y → (ApartHere i text x y → ⊥)
    → AnswersLast i text f g o → AnswersLast (i + 1) text f g o
last-before i text f g x y o a never h =
    let same = λ (m : ℕ) (l : i ≤ m) (r : m < i + 1). let e : m ≡ i = omega (arith, l, r) in e in
    none-from i (i + 1) text f g
    (λ m l r t. never (apart-here i text f g x y a (subst (λ (k : ℕ). AreScansApart k text f g) (same m l r) t)))
    (omega arith) o h

-- behind the end of the text each point is as the end
behind-by : (upto end m : ℕ) (text : List ℕ) (f : Scan) → (upto < length text) ⊎ (length text ≤ upto) → end ≡ min upto (length text)
    → end ≤ m → m ≤ upto → beginning_after m text f ≡ beginning_after end text f
behind-by upto end m text f (inl b) e l r =
    let same : m ≡ end = omega (arith, b, e, l, r) in
    ap (λ (n : ℕ). beginning_after n text f) same
behind-by upto end m text f (inr b) e l r =
    let all : length text ≤ m = omega (arith, b, e, l, r) in
    let whole : length text ≤ end = omega (arith, b, e, l, r) in
    rw ((take_all m text all), (take_all end text whole), (drop_all m text all), (drop_all end text whole)) refl

behind : (upto end m : ℕ) (text : List ℕ) (f : Scan) → end ≡ min upto (length text) → end ≤ m → m ≤ upto
    → beginning_after m text f ≡ beginning_after end text f
behind upto end m text f = behind-by upto end m text f (cases_lt upto (length text))

pub last-end : (upto end : ℕ) (text : List ℕ) (f g x y : Scan) → end ≡ min upto (length text) → AreAt end text f g x y
    → ApartHere end text x y → AnswersLast (upto + 1) text f g (Some upto)
last-end upto end text f g x y e a h =
    let l : end ≤ upto = omega (arith, e) in
    let r : upto ≤ upto = omega arith in
    record {
      before = omega arith;
      apart = rw ((behind upto end upto text f e l r), (behind upto end upto text g e l r)) (here-apart end text f g x y a h);
      last = λ m l r t. absurd (let never : ⊥ = omega (arith, l, r) in never);
    }

pub last-whole : (upto end : ℕ) (text : List ℕ) (f g x y : Scan) (o : Option ℕ) → end ≡ min upto (length text) → AreAt end text f g x y
    → (ApartHere end text x y → ⊥) → AnswersLast end text f g o → AnswersLast (upto + 1) text f g o
last-whole upto end text f g x y o e a never h =
    none-from end (upto + 1) text f g
    (λ m l r t. let k : m ≤ upto = omega (arith, r) in
    never (apart-here end text f g x y a (rw ((behind upto end m text f e l k), (behind upto end m text g e l k)) at t)))
    (omega (arith, e)) o h
