-- Text with references: a byte of it, and what is pending back of a reference.
use Rattle.std.proofs.Common.{◌≡◌, ℕ, Bool, false, codes, List, [], ◌∷◌, ◌++◌, refl, ap, ap₂, ◌∙◌}
use Rattle.std.proofs.lemmas.List.{append-nil}
use Rattle.place_core.specs.page.Classes.{LetterClass, HexadecimalLetter, OtherLetter, Class, Ampersand, Semicolon, Letter, class_of}
use Rattle.place_core.specs.page.Html.{byte_over}
use Rattle.place_core.specs.page.References.{Form, Begun, Named, Reference, Closed, Open, ReferenceStep, Grows, Closes, Breaks, turn, begin_reference, next_reference, plain_bytes, reference_turned, undone_byte, turn_bytes, meaning}
use Rattle.place_core.specs.page.States.{Page, Config}
use Rattle.place_core.specs.page.Tags.{ValueLanguage}
use Rattle.place_core.proofs.Readings.{over-append}
use Rattle.text_norm.specs.Standing.{PendingReference, StandsIn, page}
use Rattle.text_norm.specs.Written.{reference_out, turn_out}

pub class_amp : class_of 38 ≡ Ampersand
unfolding class_of
class_amp = refl

class_a : class_of 97 ≡ Letter HexadecimalLetter
unfolding class_of
class_a = refl

class_m : class_of 109 ≡ Letter OtherLetter
unfolding class_of
class_m = refl

class_p : class_of 112 ≡ Letter OtherLetter
unfolding class_of
class_p = refl

class_l : class_of 108 ≡ Letter OtherLetter
unfolding class_of
class_l = refl

class_t : class_of 116 ≡ Letter OtherLetter
unfolding class_of
class_t = refl

class_semicolon : class_of 59 ≡ Semicolon
unfolding class_of
class_semicolon = refl

amp_meaning : turn_bytes false Closes Named (codes "amp") Semicolon 59 ≡ 38 ∷ []
unfolding meaning lib.Utf8.encode
amp_meaning = refl

lt_meaning : turn_bytes false Closes Named (codes "lt") Semicolon 59 ≡ 60 ∷ []
unfolding meaning lib.Utf8.encode
lt_meaning = refl

-- reading on, after what leads to a config
pub on : {B : Type 0} (x : ValueLanguage B) (xs ys : List ℕ) (d e : Config B) → page x xs d ≡ e → page x (xs ++ ys) d ≡ page x ys e
on x xs ys d e h = over-append x Page xs ys d ∙ ap (page x ys) h

-- where text with references is read: where a byte leads to that is not a special one, and what it tells
pub record IsRun (B : Type 0) (x : ValueLanguage B) (at : Reference → List ℕ → Config B) (attribute : Bool) (special : Class → Bool) : Type 0 where
  pub step : (r : Reference) (bs : List ℕ) (c : Class) (b : ℕ) → class_of b ≡ c → special c ≡ false → byte_over x Page b (at r bs) ≡ at (next_reference r c b) (bs ++ undone_byte attribute r c b)
  pub amp : special Ampersand ≡ false
  pub letter : (l : LetterClass) → special (Letter l) ≡ false
  pub semicolon : special Semicolon ≡ false

-- a reference that has begun, where these bytes have been told since
pub record PendingFrom (B : Type 0) (x : ValueLanguage B) (at : Reference → List ℕ → Config B) (u : List ℕ) (f : Form) (h : List ℕ) (d : Config B) : Type 0 where
  pub as_is : page x (38 ∷ h) d ≡ at (Open f h) u
  pub cut : page x (codes "&amp;" ++ h) d ≡ at Closed (u ++ 38 ∷ h)

abbrev pub StandsFrom : {B : Type 0} → ValueLanguage B → (Reference → List ℕ → Config B) → List ℕ → Reference → Config B → Type 0
StandsFrom x at u Closed d = d ≡ at Closed u
StandsFrom {B} x at u (Open f h) d = PendingFrom B x at u f h d

turn_amp : (f : Form) → turn Ampersand f ≡ Breaks
turn_amp f = refl

begun : (r : Reference) → next_reference r Ampersand 38 ≡ Open Begun []
begun Closed = refl
begun (Open f h) = refl

-- a byte that tells nothing
quiet : {B : Type 0} {x : ValueLanguage B} {at : Reference → List ℕ → Config B} {attribute : Bool} {special : Class → Bool} → IsRun B x at attribute special → (r : Reference) (a : List ℕ) (c : Class) (b : ℕ)
    → class_of b ≡ c → special c ≡ false → undone_byte attribute r c b ≡ [] → byte_over x Page b (at r a) ≡ at (next_reference r c b) a
quiet {B} {x} {at} run r a c b e s n = run.step r a c b e s ∙ ap (λ (l : List ℕ). at (next_reference r c b) (a ++ l)) n ∙ ap (at (next_reference r c b)) (append-nil a)

first : {B : Type 0} (x : ValueLanguage B) (b : ℕ) (bs : List ℕ) (d e : Config B) → byte_over x Page b d ≡ e → page x (b ∷ bs) d ≡ page x bs e
first x b bs d e h = ap (page x bs) h

-- `&amp;` and `&lt;` after whatever is open
amp-begins : {B : Type 0} {x : ValueLanguage B} {at : Reference → List ℕ → Config B} {attribute : Bool} {special : Class → Bool} → IsRun B x at attribute special → (r : Reference) (a : List ℕ)
    → byte_over x Page 38 (at r a) ≡ at (Open Begun []) (a ++ undone_byte attribute r Ampersand 38)
amp-begins {B} {x} {at} {attribute} run r a = run.step r a Ampersand 38 class_amp run.amp ∙ ap (λ (s : Reference). at s (a ++ undone_byte attribute r Ampersand 38)) (begun r)

pub amp-read : {B : Type 0} {x : ValueLanguage B} {at : Reference → List ℕ → Config B} {attribute : Bool} {special : Class → Bool} → IsRun B x at attribute special → (r : Reference) (a : List ℕ)
    → page x (codes "&amp;") (at r a) ≡ at Closed ((a ++ undone_byte attribute r Ampersand 38) ++ 38 ∷ [])
amp-read {B} {x} {at} {attribute} run r a =
    let u = a ++ undone_byte attribute r Ampersand 38 in
    first x 38 (codes "amp;") (at r a) (at (Open Begun []) u) (amp-begins run r a)
    ∙ first x 97 (codes "mp;") (at (Open Begun []) u) (at (Open Named (codes "a")) u) (quiet run (Open Begun []) u (Letter HexadecimalLetter) 97 class_a (run.letter HexadecimalLetter) refl)
    ∙ first x 109 (codes "p;") (at (Open Named (codes "a")) u) (at (Open Named (codes "am")) u) (quiet run (Open Named (codes "a")) u (Letter OtherLetter) 109 class_m (run.letter OtherLetter) refl)
    ∙ first x 112 (codes ";") (at (Open Named (codes "am")) u) (at (Open Named (codes "amp")) u) (quiet run (Open Named (codes "am")) u (Letter OtherLetter) 112 class_p (run.letter OtherLetter) refl)
    ∙ run.step (Open Named (codes "amp")) u Semicolon 59 class_semicolon run.semicolon
    ∙ ap (λ (l : List ℕ). at Closed (u ++ l)) amp_meaning

pub lt-read : {B : Type 0} {x : ValueLanguage B} {at : Reference → List ℕ → Config B} {attribute : Bool} {special : Class → Bool} → IsRun B x at attribute special → (r : Reference) (a : List ℕ)
    → page x (codes "&lt;") (at r a) ≡ at Closed ((a ++ undone_byte attribute r Ampersand 38) ++ 60 ∷ [])
lt-read {B} {x} {at} {attribute} run r a =
    let u = a ++ undone_byte attribute r Ampersand 38 in
    first x 38 (codes "lt;") (at r a) (at (Open Begun []) u) (amp-begins run r a)
    ∙ first x 108 (codes "t;") (at (Open Begun []) u) (at (Open Named (codes "l")) u) (quiet run (Open Begun []) u (Letter OtherLetter) 108 class_l (run.letter OtherLetter) refl)
    ∙ first x 116 (codes ";") (at (Open Named (codes "l")) u) (at (Open Named (codes "lt")) u) (quiet run (Open Named (codes "l")) u (Letter OtherLetter) 116 class_t (run.letter OtherLetter) refl)
    ∙ run.step (Open Named (codes "lt")) u Semicolon 59 class_semicolon run.semicolon
    ∙ ap (λ (l : List ℕ). at Closed (u ++ l)) lt_meaning

-- an `&` begins a reference, whatever is open
amp-pending : {B : Type 0} {x : ValueLanguage B} {at : Reference → List ℕ → Config B} {attribute : Bool} {special : Class → Bool} → IsRun B x at attribute special → (r : Reference)
    → PendingFrom B x at (undone_byte attribute r Ampersand 38) Begun [] (at r [])
amp-pending run r = record { as_is = amp-begins run r []; cut = amp-read run r [] }

-- a byte that begins no reference, where none is open
own-byte : (c : Class) (b : ℕ) (f g : Form) → turn c f ≡ Grows g → (plain_bytes c b ≡ b ∷ []) × (begin_reference c ≡ Closed)
own-byte Ampersand b f g e = cc
own-byte _ b f g e = (refl, refl)

grows : {B : Type 0} {x : ValueLanguage B} {at : Reference → List ℕ → Config B} {attribute : Bool} {special : Class → Bool} → IsRun B x at attribute special → (f g : Form) (h : List ℕ) (c : Class) (b : ℕ) (d : Config B)
    → class_of b ≡ c → special c ≡ false → turn c f ≡ Grows g → PendingReference B x at f h d → PendingFrom B x at [] g (h ++ b ∷ []) d
grows {B} {x} {at} {attribute} run f g h c b d e s k r =
    let o = own-byte c b f g k in
    record {
      as_is = on x (38 ∷ h) (b ∷ []) d _ r.as_is ∙ run.step (Open f h) [] c b e s ∙ ap (λ (n : ReferenceStep). at (reference_turned n h c b) (turn_bytes attribute n f h c b)) k;
      cut = on x (codes "&amp;" ++ h) (b ∷ []) d _ r.cut ∙ run.step Closed (38 ∷ h) c b e s ∙ ap₂ (λ (z : Reference) (l : List ℕ). at z ((38 ∷ h) ++ l)) o.1 o.0;
    }

breaks : {B : Type 0} {x : ValueLanguage B} {at : Reference → List ℕ → Config B} {attribute : Bool} {special : Class → Bool} → IsRun B x at attribute special → (f : Form) (h : List ℕ) (c : Class) (b : ℕ) (d : Config B)
    → class_of b ≡ c → special c ≡ false → turn c f ≡ Breaks → PendingReference B x at f h d
    → StandsFrom x at (turn_bytes attribute Breaks f h c b) (begin_reference c) (page x ((38 ∷ h) ++ plain_bytes c b) d)
breaks {B} {x} {at} {attribute} run f h Ampersand b d e s k r = rw (on x (38 ∷ h) [] d _ r.as_is) (amp-pending run (Open f h))
breaks {B} {x} {at} {attribute} run f h c b d e s k r = on x (38 ∷ h) (b ∷ []) d _ r.as_is ∙ run.step (Open f h) [] c b e s ∙ ap (λ (n : ReferenceStep). at (reference_turned n h c b) (turn_bytes attribute n f h c b)) k

behind-open : {B : Type 0} {x : ValueLanguage B} {at : Reference → List ℕ → Config B} {attribute : Bool} {special : Class → Bool} → IsRun B x at attribute special → (n : ReferenceStep) (f : Form) (h : List ℕ) (c : Class) (b : ℕ) (d : Config B)
    → class_of b ≡ c → special c ≡ false → turn c f ≡ n → PendingReference B x at f h d
    → StandsFrom x at (turn_bytes attribute n f h c b) (reference_turned n h c b) (page x (turn_out n h c b) d)
behind-open run (Grows g) f h c b d e s k r = grows run f g h c b d e s k r
behind-open {B} {x} {at} {attribute} run Closes f h c b d e s k r = on x (38 ∷ h) (b ∷ []) d _ r.as_is ∙ run.step (Open f h) [] c b e s ∙ ap (λ (n : ReferenceStep). at (reference_turned n h c b) (turn_bytes attribute n f h c b)) k
behind-open run Breaks f h c b d e s k r = breaks run f h c b d e s k r

-- A byte that is not special: what is written of it, and where the page stands after that.
pub follows-run : {B : Type 0} {x : ValueLanguage B} {at : Reference → List ℕ → Config B} {attribute : Bool} {special : Class → Bool} → IsRun B x at attribute special → (r : Reference) (c : Class) (b : ℕ) (d : Config B)
    → class_of b ≡ c → special c ≡ false → StandsIn x at r d → StandsFrom x at (undone_byte attribute r c b) (next_reference r c b) (page x (reference_out r c b) d)
follows-run run Closed Ampersand b d e s r = rw r (amp-pending run Closed)
follows-run {B} {x} {at} run Closed c b d e s r = ap (page x (b ∷ [])) r ∙ run.step Closed [] c b e s
follows-run {B} {x} {at} {attribute} run (Open f h) c b d e s r = behind-open run (turn c f) f h c b d e s refl r
