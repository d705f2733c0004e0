-- What a byte makes of a script, by what it does to the reference that is open.
use Rattle.std.proofs.Common.{◌≡◌, ℕ, ◌+◌, ◌≤◌, ◌<◌, Bool, true, List, [], ◌∷◌, ◌++◌, length, encode_utf8, refl, sym, ap, ◌∙◌}
use Rattle.std.specs.Prelude.{get_or}
use Rattle.js_step.specs.ScriptScans.{ScriptScan}
use Rattle.place_core.specs.page.Classes.{Class, is_equals_sign}
use Rattle.place_core.specs.page.References.{Form, Closed, Open, Grows, Closes, Breaks, turn, meaning, flushed, plain_bytes}
use Rattle.place_core.specs.page.Tags.{feed_bytes}
use Rattle.place_core.specs.declared.value_place.ValuePlace.{ValuePlace}
use Rattle.html_scan.specs.ClassViews.{class_at}
use Rattle.html_scan.specs.Scans.{InScript, script_fed_byte, script_fed_next, script_feeding}
use Rattle.html_scan.specs.Slices.{pending}
use Rattle.html_scan.specs.declared.class.Class.{Class as ReadClass}
use Rattle.html_scan.specs.declared.class.Class.TheVariants as read
use Rattle.html_scan.proofs.PendingNames.{pending_grows}
use Rattle.html_scan.proofs.UrlsFed.{feed_more}

-- a byte that opens no reference
pub script_plain : (v : ValuePlace) (s w : ScriptScan) (c : ReadClass) (b : ℕ) → (c ≡ read.Ampersand → ⊥) → w ≡ script_fed_byte s b
    → InScript v w Closed ≡ script_fed_next v s Closed (class_at c) b
script_plain v s w read.Ampersand b h e = absurd (h refl)
script_plain v s w _ b h e = rw e refl

script_grows : (v : ValuePlace) (s : ScriptScan) (f g : Form) (read : List ℕ) (c : Class) (b : ℕ) → turn c f ≡ Grows g
    → InScript v s (Open g (read ++ b ∷ [])) ≡ script_fed_next v s (Open f read) c b
script_grows v s f g read c b e = rw e refl

pub script_goes_on : (v : ValuePlace) (s : ScriptScan) (f g : Form) (text read : List ℕ) (from k b : ℕ) (c : Class) → from ≤ k → k < length text
    → b ≡ get_or text k 0 → read ≡ pending text from k → Grows g ≡ turn c f
    → InScript v s (Open g (pending text from (k + 1))) ≡ script_fed_next v s (Open f read) c b
script_goes_on v s f g text read from k b c h i here same e =
    let longer : pending text from (k + 1) ≡ read ++ b ∷ [] = rw (same, here) (pending_grows text from k h i) in
    ap (λ (bytes : List ℕ). InScript v s (Open g bytes)) longer ∙ script_grows v s f g read c b (sym e)

pub script_closes : (v : ValuePlace) (s w : ScriptScan) (f : Form) (read : List ℕ) (c : Class) (b : ℕ) → turn c f ≡ Closes
    → w ≡ feed_bytes script_feeding s (encode_utf8 (meaning f read)) → InScript v w Closed ≡ script_fed_next v s (Open f read) c b
script_closes v s w f read c b e x = rw (e, x) refl

pub script_breaks : (v : ValuePlace) (s w : ScriptScan) (f : Form) (read : List ℕ) (c : Class) (b : ℕ) (equals : Bool) → Breaks ≡ turn c f
    → equals ≡ is_equals_sign c → w ≡ feed_bytes script_feeding s (flushed true equals f read)
    → script_fed_next v w Closed c b ≡ script_fed_next v s (Open f read) c b
script_breaks v s w f read c b equals e n x =
    rw (← e, x, n) (let bytes = flushed true (is_equals_sign c) f read in rw (← feed_more script_feeding s bytes (plain_bytes c b)) refl)
