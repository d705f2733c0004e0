-- What a byte makes of a style, by what it does to the reference that is open; and what is refused of a reference with which a text ends.
use Rattle.std.proofs.Common.{◌≡◌, ℕ, ◌+◌, ◌≤◌, ◌<◌, Bool, true, List, [], ◌∷◌, ◌++◌, length, encode_utf8, refl, sym, ap, ◌∙◌, arith}
use Rattle.std.specs.Prelude.{get_or}
use Rattle.css_lexer.specs.Classes.{style_class}
use Rattle.css_step.specs.StyleScans.{StyleScan, style_scan_next}
use Rattle.place_core.specs.page.Classes.{Class, is_equals_sign}
use Rattle.place_core.specs.page.References.{Form, Closed, Open, Grows, Closes, Breaks, turn, meaning, flushed, plain_bytes}
use Rattle.place_core.specs.page.Tags.{Feeding, feed_bytes}
use Rattle.place_core.specs.place.Errors.{fed_error}
use Rattle.place_core.specs.declared.value_place.ValuePlace.{ValuePlace}
use Rattle.html_scan.specs.ClassViews.{class_at}
use Rattle.html_scan.specs.Scans.{style_feeding, style_scan, style_fed, written_error}
use Rattle.html_scan.specs.Slices.{pending}
use Rattle.html_scan.specs.declared.class.Class.{Class as ReadClass}
use Rattle.html_scan.specs.declared.class.Class.TheVariants as read
use Rattle.html_scan.proofs.PendingNames.{pending_grows}
use Rattle.html_scan.proofs.UrlsFed.{feed_more}

-- a byte that opens no reference
pub style_plain : (v : ValuePlace) (s w : StyleScan) (c : ReadClass) (b : ℕ) → (c ≡ read.Ampersand → ⊥) → w ≡ style_scan_next s (style_class b) b
    → style_scan v w Closed ≡ style_fed v s Closed (class_at c) b
style_plain v s w read.Ampersand b h e = absurd (h refl)
style_plain v s w _ b h e = rw e refl

style_grows : (v : ValuePlace) (s : StyleScan) (f g : Form) (read : List ℕ) (c : Class) (b : ℕ) → turn c f ≡ Grows g
    → style_scan v s (Open g (read ++ b ∷ [])) ≡ style_fed v s (Open f read) c b
style_grows v s f g read c b e = rw e refl

pub style_goes_on : (v : ValuePlace) (s : StyleScan) (f g : Form) (text read : List ℕ) (from k b : ℕ) (c : Class) → from ≤ k → k < length text
    → b ≡ get_or text k 0 → read ≡ pending text from k → Grows g ≡ turn c f
    → style_scan v s (Open g (pending text from (k + 1))) ≡ style_fed v s (Open f read) c b
style_goes_on v s f g text read from k b c h i here same e =
    let longer : pending text from (k + 1) ≡ read ++ b ∷ [] = rw (same, here) (pending_grows text from k h i) in
    ap (λ (bytes : List ℕ). style_scan v s (Open g bytes)) longer ∙ style_grows v s f g read c b (sym e)

pub style_closes : (v : ValuePlace) (s w : StyleScan) (f : Form) (read : List ℕ) (c : Class) (b : ℕ) → turn c f ≡ Closes
    → w ≡ feed_bytes style_feeding s (encode_utf8 (meaning f read)) → style_scan v w Closed ≡ style_fed v s (Open f read) c b
style_closes v s w f read c b e x = rw (e, x) refl

pub style_breaks : (v : ValuePlace) (s w : StyleScan) (f : Form) (read : List ℕ) (c : Class) (b : ℕ) (equals : Bool) → Breaks ≡ turn c f
    → equals ≡ is_equals_sign c → w ≡ feed_bytes style_feeding s (flushed true equals f read)
    → style_fed v w Closed c b ≡ style_fed v s (Open f read) c b
style_breaks v s w f read c b equals e n x =
    rw (← e, x, n) (let bytes = flushed true (is_equals_sign c) f read in rw (← feed_more style_feeding s bytes (plain_bytes c b)) refl)

pub written_stands : {S : Type 0} (m : Feeding S) (s : S) (read bytes : List ℕ) → read ≡ bytes
    → fed_error m s (38 ∷ read) true (length read + 1) ≡ written_error m s (38 ∷ bytes)
written_stands m s read bytes e =
    let whole : length bytes + 1 ≡ length (38 ∷ bytes) = omega arith in rw e (ap (λ (n : ℕ). fed_error m s (38 ∷ bytes) true n) whole)
