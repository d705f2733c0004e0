-- The place that is shown outside of what has its own: where the bytes read so far would end as a text.
use Rattle.std.proofs.Common.{◌≡◌, ◌≢◌, ℕ, ◌+◌, List, [], ◌∷◌, length, take, drop, refl, ap, ◌∙◌}
use Rattle.std.proofs.Math.Seq.{take-length}
use Rattle.std.specs.Prelude.{Option, Some}
use Rattle.js_step.specs.declared.scan.ScriptScan.{ScriptScan as ReadScript}
use Rattle.css_step.specs.declared.scan.StyleScan.{StyleScan as ReadStyle}
use Rattle.place_core.specs.declared.element.Element.TheVariants as element
use Rattle.place_core.specs.declared.tag_of.TagOf.{TagOf}
use Rattle.place_core.specs.declared.value_place.ValuePlace.{ValuePlace}
use Rattle.html_scan.specs.ScanViews.{scan_at}
use Rattle.html_scan.specs.Scans.{pending_left, scan_place, scan_shown}
use Rattle.place_core.specs.page.States.{Nothing}
use Rattle.html_scan.specs.Slices.{pending}
use Rattle.html_scan.specs.declared.quoting.Quoting.{Quoting as ReadQuoting}
use Rattle.html_scan.specs.declared.references.OpenReference.{OpenReference}
use Rattle.html_scan.specs.declared.scan.Scan.{Scan as ReadScan}
use Rattle.html_scan.specs.declared.scan.Scan.TheVariants as scan
use Rattle.html_scan.specs.declared.script_pending.ScriptPending.{ScriptPending}
use Rattle.html_scan.specs.declared.triple.Triple.{Triple as ReadTriple}

pending_taken : (text read : List ℕ) (from k : ℕ) → read ≡ take k text → pending read from (length read) ≡ pending text from k
pending_taken text read from k e = ap (λ (bytes : List ℕ). drop from bytes) (take-length read ∙ e)

nothing_left_there : (left : List ℕ) → pending_left element.Style Nothing left ≡ Nothing
nothing_left_there [] = refl
nothing_left_there (b ∷ bs) = refl

pub shown_elsewhere : (text read left : List ℕ) (k : ℕ) (s : ReadScan) → read ≡ take k text
    → ((v : ValuePlace) (t : ReadTriple) (r : Option OpenReference) → s ≢ scan.InUrl v t r)
    → ((v : ValuePlace) (n : ReadStyle) (r : Option OpenReference) → s ≢ scan.InStyle v n r)
    → ((v : ValuePlace) (n : ReadScript) (r : Option OpenReference) → s ≢ scan.InScript v n r)
    → ((n : ReadStyle) → s ≢ scan.AfterStyleLess n) → ((n : ReadStyle) (from : ℕ) → s ≢ scan.InStyleName n from)
    → ((n : ReadScript) (p : ScriptPending) → s ≢ scan.InScriptElement n p)
    → ((t : TagOf) → s ≢ scan.BeforeType t) → ((t : TagOf) (q : ReadQuoting) (from : ℕ) → s ≢ scan.InType t q from)
    → Some (scan_place (scan_at read (length read) s)) ≡ scan_shown (scan_at text k s) left
shown_elsewhere text read left k (scan.At p) e u v w x y o z q = refl
shown_elsewhere text read left k scan.AfterLess e u v w x y o z q = refl
shown_elsewhere text read left k scan.AfterLessSolidus e u v w x y o z q = refl
shown_elsewhere text read left k (scan.InDeclaration from) e u v w x y o z q = refl
shown_elsewhere text read left k (scan.InTagName ends from) e u v w x y o z q = rw (pending_taken text read from k e) refl
shown_elsewhere text read left k (scan.InAttributeName t typed from) e u v w x y o z q = rw (pending_taken text read from k e) refl
shown_elsewhere text read left k (scan.InCommentEnd s) e u v w x y o z q = refl
shown_elsewhere text read left k (scan.AfterContentLess c) e u v w x y o z q = refl
shown_elsewhere text read left k (scan.InContentName c from) e u v w x y o z q = rw (pending_taken text read (from + 2) k e) refl
shown_elsewhere text read left k (scan.InStyleElement n) e u v w x y o z q = rw (nothing_left_there left) refl
shown_elsewhere text read left k scan.AfterBlockBang e u v w x y o z q = refl
shown_elsewhere text read left k scan.AfterBlockBangDash e u v w x y o z q = refl
shown_elsewhere text read left k (scan.InUrl a t r) e u v w x y o z q = absurd (u a t r refl)
shown_elsewhere text read left k (scan.InStyle a n r) e u v w x y o z q = absurd (v a n r refl)
shown_elsewhere text read left k (scan.InScript a n r) e u v w x y o z q = absurd (w a n r refl)
shown_elsewhere text read left k (scan.AfterStyleLess n) e u v w x y o z q = absurd (x n refl)
shown_elsewhere text read left k (scan.InStyleName n from) e u v w x y o z q = absurd (y n from refl)
shown_elsewhere text read left k (scan.InScriptElement n p) e u v w x y o z q = absurd (o n p refl)
shown_elsewhere text read left k (scan.BeforeType t) e u v w x y o z q = absurd (z t refl)
shown_elsewhere text read left k (scan.InType t a from) e u v w x y o z q = absurd (q t a from refl)
