-- Bytes that stay as they are, and after which a text has been read to the same scan state.
use Rattle.std.specs.Prelude.{ℕ, ◌≡◌, None}
use Rattle.place_core.specs.page.Classes.{class_of}
use Rattle.place_core.specs.page.References.{Closed}
use Rattle.place_core.specs.declared.place.Place.{Place}
use Rattle.html_scan.specs.Scans.{At, scan_next}
use Rattle.html_scan.specs.declared.scan.Scan.TheVariants as scan
use Rattle.text_norm.specs.Kept.{change_of, scan_kept}
use Rattle.text_norm.specs.declared.pending.Change.TheVariants as change
use Rattle.text_norm.specs.declared.pending.WriteProgress.{WriteProgress}

-- a byte that is no `<` and no `&`
pub record Differs (b : ℕ) : Type 0 where
  pub less : b ≡ 60 → ⊥
  pub sign : b ≡ 38 → ⊥

-- a byte after which a text is at the same place
pub record ReferenceStays (place : Place) (b : ℕ) : Type 0 where
  pub next : scan_next (At place) (class_of b) b ≡ At place
  pub closed : scan_kept (At place) (class_of b) b Closed ≡ Closed
  pub keeps : change_of (At place) (At place) ≡ change.Keeps

pub record Rests (x : WriteProgress) (b : ℕ) : Type 0 where
  pub place : Place
  pub scan : x.scan ≡ scan.At place
  pub reference : x.reference ≡ None
  pub stays : ReferenceStays place b
