-- Where two paths are apart in the beginning of a URL, by their scan states; and the last such point of a text.
use Rattle.std.specs.Prelude.{◌≡◌, ◌<◌, ℕ, Bool, true, false, not, List, ◌∷◌, drop, take, Option, Some, None}
use Rattle.place_core.specs.page.Classes.{class_of}
use Rattle.place_core.specs.page.References.{Reference, Open, turn}
use Rattle.place_core.specs.place.ApartPlaces.{beginning_at, opened_apart}
use Rattle.place_core.specs.place.PathPairs.{is_broken_by}
use Rattle.place_core.specs.declared.element.Element.TheVariants as element
use Rattle.place_core.specs.declared.place.Place.{Place}
use Rattle.place_core.specs.declared.prefix.Prefix.{Prefix}
use Rattle.html_scan.specs.Scans.{Scan, At, InUrl, InStyle, InStyleElement, pending_left, scan_place, style_scan_before, url_before, with_style}
use Rattle.html_step.specs.Steps.{scan_after}

-- whether a reference is open before the bytes that are left of a text, with which the next byte goes on
abbrev pub reads_on : Reference → List ℕ → Bool
reads_on (Open f bytes) (b ∷ bs) = not (is_broken_by (turn (class_of b) f))
reads_on r bs = false

-- What the beginning of a URL spells before the bytes that are left of a text: nothing within a reference.
abbrev pub unless_in_reference : Bool → Option Prefix → Option Prefix
unless_in_reference true o = None
unless_in_reference false o = o

abbrev pub scan_beginning : Scan → List ℕ → Option Prefix
scan_beginning (At p) bs = beginning_at p
scan_beginning (InUrl v t r) bs = unless_in_reference (reads_on r bs) (beginning_at (url_before v r bs))
scan_beginning (InStyle v s r) bs = unless_in_reference (reads_on r bs) (beginning_at (with_style v (style_scan_before s r bs)))
scan_beginning (InStyleElement s h) bs = beginning_at (scan_place (InStyleElement s (pending_left element.Style h bs)))
scan_beginning f bs = None

-- what it spells, by the place there, if there is one
abbrev pub IsBeginning : Option Place → Option Prefix → Type 0
IsBeginning None o = o ≡ None
IsBeginning (Some p) o = o ≡ beginning_at p

-- After so many bytes of a text, from these scan states: what is spelled, and whether it is apart.
abbrev pub beginning_after : ℕ → List ℕ → Scan → Option Prefix
beginning_after n bytes f = scan_beginning (scan_after (take n bytes) f) (drop n bytes)

abbrev pub AreScansApart : ℕ → List ℕ → Scan → Scan → Type 0
AreScansApart n bytes f g = opened_apart (beginning_after n bytes f) (beginning_after n bytes g) ≡ true

-- the last point before another one at which it is, and what is answered of it
pub record IsLastApart (end n : ℕ) (bytes : List ℕ) (f g : Scan) : Type 0 where
  pub before : n < end
  pub apart : AreScansApart n bytes f g
  pub last : (m : ℕ) → n < m → m < end → AreScansApart m bytes f g → ⊥

abbrev pub AnswersLast : ℕ → List ℕ → Scan → Scan → Option ℕ → Type 0
AnswersLast end bytes f g (Some n) = IsLastApart end n bytes f g
AnswersLast end bytes f g None = (m : ℕ) → m < end → AreScansApart m bytes f g → ⊥
