-- The content of an element, written in two ways side by side: where what the second takes leaves both at related states, and they write the same of a
-- byte, they write the same of what is pending back.
use Rattle.std.proofs.Common.{◌≡◌, ℕ, ◌-◌, Bool, true, false, codes, length, List, [], ◌∷◌, ◌++◌, None, refl, ap, ap₂}
use Rattle.place_core.specs.page.Classes.{Class, White, Solidus, LessThan, GreaterThan, Letter}
use Rattle.place_core.specs.page.Contents.{is_name_of, may_be_name_of, pending_bytes}
use Rattle.place_core.specs.page.States.{Pending, Nothing, PendingLess, LessAtCut, PendingName, PendingBang, PendingBangDash, PendingOpening}
use Rattle.place_core.specs.page.Tags.{feed_bytes}
use Rattle.place_core.specs.place.Errors.{cause_back, content_byte_error, end_name_error, fed_error, less_error, loose_byte_error, pending_error, released_error}
use Rattle.place_core.specs.declared.element.Element.{Element}
use Rattle.html_step.proofs.ContentsAlike.{pending-behind, released-beside}
use Rattle.html_step.proofs.FedAlike.{FedBeside, cause-none, first-caused}
use Rattle.html_step.proofs.PathScans.{none-at-hand}
use Rattle.text_norm.specs.Written.{ContentWriting, behind_released_out, end_tag_out, language_content_cut_out, language_content_out, language_less_out, language_loose_out, language_name_out, released_out}

pub record WritesAlike {S T : Type 0} (w : ContentWriting S) (x : ContentWriting T) (R : S → T → Type 0) : Type 0 where
  pub fed : FedBeside w.feeding x.feeding R
  pub bytes : (s : S) (t : T) (b : ℕ) → R s t → x.feeding.refuses t b ≡ None → w.byte s b ≡ x.byte t b
  pub cuts : (s : S) (t : T) → R s t → w.cut s ≡ x.cut t

-- bytes that come to nothing
released-same : {S T : Type 0} {w : ContentWriting S} {x : ContentWriting T} {R : S → T → Type 0} → WritesAlike w x R
    → (bytes : List ℕ) (back : ℕ) (s : S) (t : T) → R s t → fed_error x.feeding t bytes true back ≡ None → released_out w s bytes ≡ released_out x t bytes
released-same a [] back s t r e = refl
released-same {w = w} {x = x} a (b ∷ bs) back s t r e =
    let p = first-caused (cause_back back (x.feeding.refuses t b)) (fed_error x.feeding (x.feeding.feed t b) bs true (back - 1)) e in
    let own = cause-none back (x.feeding.refuses t b) p.0 in
    ap₂ (λ (y z : List ℕ). y ++ z) (a.bytes s t b r own)
    (released-same a bs (back - 1) (w.feeding.feed s b) (x.feeding.feed t b) (a.fed.goes s t b r own) p.1)

loose-same : {S T : Type 0} {w : ContentWriting S} {x : ContentWriting T} {R : S → T → Type 0} → WritesAlike w x R
    → (c : Class) (b : ℕ) (s : S) (t : T) → R s t → loose_byte_error x.feeding t c b ≡ None → language_loose_out w c b s ≡ language_loose_out x c b t
loose-same a LessThan b s t r e = refl
loose-same a _ b s t r e = a.bytes s t b r e

behind-same : {S T : Type 0} {w : ContentWriting S} {x : ContentWriting T} {R : S → T → Type 0} → WritesAlike w x R
    → (bytes : List ℕ) (c : Class) (b : ℕ) (s : S) (t : T) → R s t → released_error x.feeding t bytes c b ≡ None → behind_released_out w bytes c b s ≡ behind_released_out x bytes c b t
behind-same {w = w} {x = x} a bytes c b s t r e =
    let m = released-beside a.fed bytes c b s t r e in
    ap₂ (λ (y z : List ℕ). y ++ z) (released-same a bytes (length bytes) s t r m.taken)
    (loose-same a c b (feed_bytes w.feeding s bytes) (feed_bytes x.feeding t bytes) m.behind m.loose)

less-same : {S T : Type 0} {w : ContentWriting S} {x : ContentWriting T} {R : S → T → Type 0} → WritesAlike w x R
    → (c : Class) (b : ℕ) (s : S) (t : T) → R s t → less_error x.feeding t c b ≡ None → language_less_out w c b s ≡ language_less_out x c b t
less-same a Solidus b s t r e = refl
less-same a c b s t r e = behind-same a (codes "<") c b s t r e

tag-same : {S T : Type 0} {w : ContentWriting S} {x : ContentWriting T} {R : S → T → Type 0} → WritesAlike w x R
    → (letters : List ℕ) (b : ℕ) (s : S) (t : T) → R s t → end_tag_out w letters b s ≡ end_tag_out x letters b t
tag-same a letters b s t r = ap (λ (y : List ℕ). y ++ ((codes "</" ++ letters) ++ b ∷ [])) (a.cuts s t r)

name-same : {S T : Type 0} {w : ContentWriting S} {x : ContentWriting T} {R : S → T → Type 0} → WritesAlike w x R
    → (grows whole : Bool) (c : Class) (b : ℕ) (letters : List ℕ) (s : S) (t : T) → R s t → end_name_error x.feeding t grows whole c b letters ≡ None
    → language_name_out w grows whole c b letters s ≡ language_name_out x grows whole c b letters t
name-same a true whole (Letter l) b letters s t r e = refl
name-same a true true White b letters s t r e = tag-same a letters b s t r
name-same a true true Solidus b letters s t r e = tag-same a letters b s t r
name-same a true true GreaterThan b letters s t r e = tag-same a letters b s t r
name-same a true true c b letters s t r e = behind-same a (codes "</" ++ letters) c b s t r e
name-same a true false c b letters s t r e = behind-same a (codes "</" ++ letters) c b s t r e
name-same a false true White b letters s t r e = tag-same a letters b s t r
name-same a false true Solidus b letters s t r e = tag-same a letters b s t r
name-same a false true GreaterThan b letters s t r e = tag-same a letters b s t r
name-same a false true c b letters s t r e = behind-same a (codes "</" ++ letters) c b s t r e
name-same a false false c b letters s t r e = behind-same a (codes "</" ++ letters) c b s t r e

pub content-same : {S T : Type 0} {w : ContentWriting S} {x : ContentWriting T} {R : S → T → Type 0} → WritesAlike w x R
    → (e : Element) (h : Pending) (c : Class) (b : ℕ) (s : S) (t : T) → R s t → content_byte_error x.feeding e t h c b ≡ None
    → language_content_out w h c b e s ≡ language_content_out x h c b e t
content-same {x = x} a e Nothing c b s t r k = loose-same a c b s t r (none-at-hand (loose_byte_error x.feeding t c b) k)
content-same a e PendingLess c b s t r k = less-same a c b s t r k
content-same a e LessAtCut c b s t r k = behind-same a (codes "<") c b s t r k
content-same a e (PendingName letters) c b s t r k =
    name-same a (may_be_name_of e (letters ++ b ∷ [])) (is_name_of e letters) c b letters s t r k
content-same a e PendingBang c b s t r k = behind-same a (codes "<!") c b s t r k
content-same a e PendingBangDash c b s t r k = behind-same a (codes "<!-") c b s t r k
content-same a e (PendingOpening letters) c b s t r k = behind-same a (codes "<" ++ letters) c b s t r k

-- and the end of a text
pub content-cut-same : {S T : Type 0} {w : ContentWriting S} {x : ContentWriting T} {R : S → T → Type 0} → WritesAlike w x R
    → (h : Pending) (s : S) (t : T) → R s t → pending_error x.feeding t (pending_bytes h) ≡ None → language_content_cut_out w h s ≡ language_content_cut_out x h t
content-cut-same {w = w} {x = x} a h s t r e =
    let bytes = pending_bytes h in
    ap₂ (λ (y z : List ℕ). y ++ z) (released-same a bytes (length bytes) s t r e)
    (a.cuts (feed_bytes w.feeding s bytes) (feed_bytes x.feeding t bytes) (pending-behind a.fed bytes s t r e))
