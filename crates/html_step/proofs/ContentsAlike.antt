-- Two languages side by side in the content of an element, where bytes are pending back: what the one takes, the other one takes, and what
-- comes of it
-- is related. Where they refuse a byte alike, they do so there.
use Rattle.std.proofs.Common.{◌≡◌, ℕ, Bool, true, false, List, [], ◌∷◌, ◌++◌, codes, length, Option, None, refl, ap, ◌∙◌}
use Rattle.place_core.specs.page.Classes.{Class, White, Solidus, LessThan, GreaterThan, Letter}
use Rattle.place_core.specs.page.Contents.{is_name_of, may_be_name_of}
use Rattle.place_core.specs.page.States.{Pending, Nothing, PendingLess, LessAtCut, PendingName, PendingBang, PendingBangDash, PendingOpening}
use Rattle.place_core.specs.page.Tags.{Feeding, feed_bytes}
use Rattle.place_core.specs.place.Errors.{PathCause, at_hand, content_byte_error, end_name_error, first_cause, less_error, loose_byte_error, pending_error, released_error}
use Rattle.place_core.specs.declared.element.Element.{Element}
use Rattle.html_step.proofs.FedAlike.{FedAlike, FedBeside, alike-first, beside, fed-alike, fed-beside, first-caused}
use Rattle.html_step.proofs.PathScans.{none-at-hand}

-- a byte where nothing is pending
pub loose-beside : {S T : Type 0} {m : Feeding S} {n : Feeding T} {R : S → T → Type 0} → FedBeside m n R
    → (c : Class) (b : ℕ) (s : S) (t : T) → R s t → loose_byte_error n t c b ≡ None → loose_byte_error m s c b ≡ None
loose-beside h LessThan b s t r e = refl
loose-beside h _ b s t r e = h.takes s t b r e

-- Pending bytes that come to nothing at a byte that is taken: both are fed them.
pub record Released {S T : Type 0} (m : Feeding S) (n : Feeding T) (R : S → T → Type 0) (s : S) (t : T) (bytes : List ℕ) (c : Class)
    (b : ℕ) : Type 0 where
  pub own : released_error m s bytes c b ≡ None
  pub behind : R (feed_bytes m s bytes) (feed_bytes n t bytes)
  pub taken : pending_error n t bytes ≡ None
  pub loose : loose_byte_error n (feed_bytes n t bytes) c b ≡ None

pub released-beside : {S T : Type 0} {m : Feeding S} {n : Feeding T} {R : S → T → Type 0} → FedBeside m n R
    → (bytes : List ℕ) (c : Class) (b : ℕ) (s : S) (t : T) → R s t → released_error n t bytes c b ≡ None → Released m n R s t bytes c b
released-beside {m = m} {n = n} h bytes c b s t r e =
    let p = first-caused (pending_error n t bytes) (at_hand (loose_byte_error n (feed_bytes n t bytes) c b)) e in
    let q = fed-beside h bytes true (length bytes) s t r p.0 in
    let last = none-at-hand (loose_byte_error n (feed_bytes n t bytes) c b) p.1 in
    record {
      own = ap (λ (o : Option PathCause). first_cause o (at_hand (loose_byte_error m (feed_bytes m s bytes) c b))) q.0
          ∙ ap at_hand (loose-beside h c b (feed_bytes m s bytes) (feed_bytes n t bytes) q.1 last);
      behind = q.1;
      taken = p.0;
      loose = last;
    }

less-beside : {S T : Type 0} {m : Feeding S} {n : Feeding T} {R : S → T → Type 0} → FedBeside m n R
    → (c : Class) (b : ℕ) (s : S) (t : T) → R s t → less_error n t c b ≡ None → less_error m s c b ≡ None
less-beside h Solidus b s t r e = refl
less-beside h c b s t r e = (released-beside h (codes "<") c b s t r e).own

name-beside : {S T : Type 0} {m : Feeding S} {n : Feeding T} {R : S → T → Type 0} → FedBeside m n R
    → (grows whole : Bool) (c : Class) (b : ℕ) (letters : List ℕ) (s : S) (t : T) → R s t
    → end_name_error n t grows whole c b letters ≡ None → end_name_error m s grows whole c b letters ≡ None
name-beside h true whole (Letter l) b letters s t r e = refl
name-beside h true true White b letters s t r e = refl
name-beside h true true Solidus b letters s t r e = refl
name-beside h true true GreaterThan b letters s t r e = refl
name-beside h true true c b letters s t r e = (released-beside h (codes "</" ++ letters) c b s t r e).own
name-beside h true false c b letters s t r e = (released-beside h (codes "</" ++ letters) c b s t r e).own
name-beside h false true White b letters s t r e = refl
name-beside h false true Solidus b letters s t r e = refl
name-beside h false true GreaterThan b letters s t r e = refl
name-beside h false true c b letters s t r e = (released-beside h (codes "</" ++ letters) c b s t r e).own
name-beside h false false c b letters s t r e = (released-beside h (codes "</" ++ letters) c b s t r e).own

pub content-beside : {S T : Type 0} {m : Feeding S} {n : Feeding T} {R : S → T → Type 0} → FedBeside m n R
    → (e : Element) (h : Pending) (c : Class) (b : ℕ) (s : S) (t : T) → R s t → content_byte_error n e t h c b ≡ None
    → content_byte_error m e s h c b ≡ None
content-beside {n = n} a e Nothing c b s t r k = ap at_hand (loose-beside a c b s t r (none-at-hand (loose_byte_error n t c b) k))
content-beside a e PendingLess c b s t r k = less-beside a c b s t r k
content-beside a e LessAtCut c b s t r k = (released-beside a (codes "<") c b s t r k).own
content-beside a e (PendingName letters) c b s t r k =
    name-beside a (may_be_name_of e (letters ++ b ∷ [])) (is_name_of e letters) c b letters s t r k
content-beside a e PendingBang c b s t r k = (released-beside a (codes "<!") c b s t r k).own
content-beside a e PendingBangDash c b s t r k = (released-beside a (codes "<!-") c b s t r k).own
content-beside a e (PendingOpening letters) c b s t r k = (released-beside a (codes "<" ++ letters) c b s t r k).own

-- refused alike
loose-alike : {S T : Type 0} {m : Feeding S} {n : Feeding T} {R : S → T → Type 0} → FedAlike m n R
    → (c : Class) (b : ℕ) (s : S) (t : T) → R s t → loose_byte_error m s c b ≡ loose_byte_error n t c b
loose-alike a LessThan b s t r = refl
loose-alike a _ b s t r = a.errors s t b r

pub pending-alike : {S T : Type 0} {m : Feeding S} {n : Feeding T} {R : S → T → Type 0} → FedAlike m n R
    → (bytes : List ℕ) (s : S) (t : T) → R s t → pending_error m s bytes ≡ pending_error n t bytes
pending-alike a bytes s t r = fed-alike a bytes true (length bytes) s t r

pub pending-behind : {S T : Type 0} {m : Feeding S} {n : Feeding T} {R : S → T → Type 0} → FedBeside m n R
    → (bytes : List ℕ) (s : S) (t : T) → R s t → pending_error n t bytes ≡ None → R (feed_bytes m s bytes) (feed_bytes n t bytes)
pending-behind h bytes s t r e = (fed-beside h bytes true (length bytes) s t r e).1

released-alike : {S T : Type 0} {m : Feeding S} {n : Feeding T} {R : S → T → Type 0} → FedAlike m n R
    → (bytes : List ℕ) (c : Class) (b : ℕ) (s : S) (t : T) → R s t → released_error m s bytes c b ≡ released_error n t bytes c b
released-alike {m = m} {n = n} a bytes c b s t r =
    let own = at_hand (loose_byte_error m (feed_bytes m s bytes) c b) in
    ap (λ (o : Option PathCause). first_cause o own) (pending-alike a bytes s t r)
    ∙ alike-first (pending_error n t bytes) own (at_hand (loose_byte_error n (feed_bytes n t bytes) c b))
    (λ e. ap at_hand (loose-alike a c b (feed_bytes m s bytes) (feed_bytes n t bytes) (pending-behind (beside a) bytes s t r e)))

less-alike : {S T : Type 0} {m : Feeding S} {n : Feeding T} {R : S → T → Type 0} → FedAlike m n R
    → (c : Class) (b : ℕ) (s : S) (t : T) → R s t → less_error m s c b ≡ less_error n t c b
less-alike a Solidus b s t r = refl
less-alike a c b s t r = released-alike a (codes "<") c b s t r

name-alike : {S T : Type 0} {m : Feeding S} {n : Feeding T} {R : S → T → Type 0} → FedAlike m n R
    → (grows whole : Bool) (c : Class) (b : ℕ) (letters : List ℕ) (s : S) (t : T) → R s t
    → end_name_error m s grows whole c b letters ≡ end_name_error n t grows whole c b letters
name-alike a true whole (Letter l) b letters s t r = refl
name-alike a true true White b letters s t r = refl
name-alike a true true Solidus b letters s t r = refl
name-alike a true true GreaterThan b letters s t r = refl
name-alike a true true c b letters s t r = released-alike a (codes "</" ++ letters) c b s t r
name-alike a true false c b letters s t r = released-alike a (codes "</" ++ letters) c b s t r
name-alike a false true White b letters s t r = refl
name-alike a false true Solidus b letters s t r = refl
name-alike a false true GreaterThan b letters s t r = refl
name-alike a false true c b letters s t r = released-alike a (codes "</" ++ letters) c b s t r
name-alike a false false c b letters s t r = released-alike a (codes "</" ++ letters) c b s t r

pub content-alike : {S T : Type 0} {m : Feeding S} {n : Feeding T} {R : S → T → Type 0} → FedAlike m n R
    → (e : Element) (h : Pending) (c : Class) (b : ℕ) (s : S) (t : T) → R s t
    → content_byte_error m e s h c b ≡ content_byte_error n e t h c b
content-alike a e Nothing c b s t r = ap at_hand (loose-alike a c b s t r)
content-alike a e PendingLess c b s t r = less-alike a c b s t r
content-alike a e LessAtCut c b s t r = released-alike a (codes "<") c b s t r
content-alike a e (PendingName letters) c b s t r =
    name-alike a (may_be_name_of e (letters ++ b ∷ [])) (is_name_of e letters) c b letters s t r
content-alike a e PendingBang c b s t r = released-alike a (codes "<!") c b s t r
content-alike a e PendingBangDash c b s t r = released-alike a (codes "<!-") c b s t r
content-alike a e (PendingOpening letters) c b s t r = released-alike a (codes "<" ++ letters) c b s t r
