-- The element `style`: how many bytes an escape has that has begun, and what is refused of `</` and letters that are pending back.
use Rattle.std.proofs.Common.{◌≡◌, ℕ, ◌+◌, ◌≤◌, Option, Some, None, ◌-◌, Bool, true, false, List, ◌∷◌, ◌++◌, codes, length, refl, ap, arith}
use Rattle.css_lexer.specs.Escapes.{StyleEscape, NoEscape, AfterBackslash, HexDigits, AfterReturn}
use Rattle.css_lexer.specs.Classes.{style_class}
use Rattle.css_step.specs.StyleScans.{StyleScan, ScanWord, ScanSplitEscape, ScanString, ScanQuotedUrl, style_scan_next, style_scan_start}
use Rattle.place_core.specs.page.States.{PendingName}
use Rattle.place_core.specs.page.Tags.{Feeding, feed_bytes}
use Rattle.place_core.specs.place.Errors.{PathCause, block_cut_error, at_hand, content_end_cut_error, end_name_error, fed_error, less_error, loose_byte_error, name_goes_on, pending_error, released_error}
use Rattle.place_core.specs.declared.code.Code.{Code}
use Rattle.place_core.specs.declared.css.Css.{Css}
use Rattle.place_core.specs.declared.css.Css.TheVariants as css
use Rattle.html_scan.specs.ClassViews.{class_at}
use Rattle.html_scan.specs.ScanViews.{begun_escape, begun_lexeme}
use Rattle.html_scan.specs.Scans.{element_name_next, element_next, element_scan, released_next, style_feeding}
use Rattle.html_scan.specs.declared.class.Class.{Class as ReadClass}
use Rattle.html_scan.specs.declared.class.Class.TheVariants as read

escape-small : (e : StyleEscape) → begun_escape e ≤ 1
escape-small NoEscape = omega arith
escape-small AfterBackslash = omega arith
escape-small (HexDigits n) = omega arith
escape-small AfterReturn = omega arith

pub begun_small : (s : StyleScan) → begun_lexeme s ≤ 1
begun_small (ScanWord w e) = escape-small e
begun_small (ScanSplitEscape e) = escape-small e
begun_small (ScanString q e) = escape-small e
begun_small (ScanQuotedUrl q e s t) = escape-small e
begun_small _ = omega arith

-- where a text begins, none has
comment-none : (star : Bool) → begun_lexeme (style_scan_start (css.Comment star)) ≡ 0
comment-none true = refl
comment-none false = refl

pub none_begun : (p : Css) → begun_lexeme (style_scan_start p) ≡ 0
none_begun (css.Comment star) = comment-none star
none_begun _ = refl

-- each byte at its own place
pub name_released : {S : Type 0} (m : Feeding S) (s : S) (letters : List ℕ)
    → fed_error m s (codes "</" ++ letters) true (length letters + 2) ≡ pending_error m s (codes "</" ++ letters)
name_released m s letters =
    let whole : length letters + 2 ≡ length (codes "</" ++ letters) = omega arith in
    ap (λ (n : ℕ). fed_error m s (codes "</" ++ letters) true n) whole

-- where nothing is pending back, any byte but a `<` is fed
pub loose_byte : (s w : StyleScan) (c : ReadClass) (b : ℕ) → (c ≡ read.LessThan → ⊥) → w ≡ style_scan_next s (style_class b) b
    → element_scan w ≡ element_next s (class_at c) b
loose_byte s w read.LessThan b h e = absurd (h refl)
loose_byte s w _ b h e = rw e refl

-- after a `<`, any byte but a `/` releases it
less-released : (s : StyleScan) (c : ReadClass) (b : ℕ) → (c ≡ read.Solidus → ⊥)
    → less_error style_feeding s (class_at c) b ≡ released_error style_feeding s (codes "<") (class_at c) b
less-released s read.Solidus b h = absurd (h refl)
less-released s _ b h = refl

pub less_refused : (s : StyleScan) (c : ReadClass) (b : ℕ) (e : PathCause) → (c ≡ read.Solidus → ⊥)
    → Some e ≡ pending_error style_feeding s (codes "<") → Some e ≡ less_error style_feeding s (class_at c) b
less_refused s c b e h p = rw (less-released s c b h, ← p) refl

-- the bytes behind a `<` of which nothing is refused
pub behind_less_fed : {S : Type 0} (m : Feeding S) (s t : S) (letters : List ℕ) (e : Option PathCause) → None ≡ m.refuses s 60 → t ≡ m.feed s 60
    → e ≡ fed_error m t (47 ∷ letters) true (length letters + 1) → e ≡ fed_error m s (codes "</" ++ letters) true (length letters + 2)
behind_less_fed m s t letters e n p q =
    let less : length letters + 1 ≡ length letters + 2 - 1 = omega arith in
    rw (← n, ← p, ← less) q

-- a node that ends behind `</` and letters: they are refused, or the end of the node is
pub split_refused : (s : StyleScan) (less : StyleScan → Option PathCause) (letters : List ℕ) (e : PathCause)
    → Some e ≡ fed_error style_feeding s (codes "</" ++ letters) true (length letters + 2)
    → Some e ≡ content_end_cut_error style_feeding less s (PendingName letters)
split_refused s less letters e p = rw (← name_released style_feeding s letters, ← p) refl

pub split_there : (s : StyleScan) (less : StyleScan → Option PathCause) (letters : List ℕ) (o : Option PathCause)
    → None ≡ fed_error style_feeding s (codes "</" ++ letters) true (length letters + 2) → o ≡ block_cut_error (PendingName letters)
    → o ≡ content_end_cut_error style_feeding less s (PendingName letters)
split_there s less letters o p q = rw (← name_released style_feeding s letters, ← p) q

-- Behind `</` and letters, a byte that does not go on with the end tag releases them.
name-broken : {S : Type 0} (m : Feeding S) (s : S) (grows whole : Bool) (c : ReadClass) (b : ℕ) (letters : List ℕ)
    → name_goes_on grows whole (class_at c) ≡ false
    → released_error m s (codes "</" ++ letters) (class_at c) b ≡ end_name_error m s grows whole (class_at c) b letters
name-broken m s true true (read.Letter l) b letters h = cc
name-broken m s true true read.White b letters h = cc
name-broken m s true true read.Solidus b letters h = cc
name-broken m s true true read.GreaterThan b letters h = cc
name-broken m s true true _ b letters h = refl
name-broken m s true false (read.Letter l) b letters h = cc
name-broken m s true false _ b letters h = refl
name-broken m s false true read.White b letters h = cc
name-broken m s false true read.Solidus b letters h = cc
name-broken m s false true read.GreaterThan b letters h = cc
name-broken m s false true _ b letters h = refl
name-broken m s false false _ b letters h = refl

pub name_refused : (s : StyleScan) (grows whole : Bool) (c : ReadClass) (b : ℕ) (letters : List ℕ) (e : PathCause)
    → name_goes_on grows whole (class_at c) ≡ false → Some e ≡ fed_error style_feeding s (codes "</" ++ letters) true (length letters + 2)
    → Some e ≡ end_name_error style_feeding s grows whole (class_at c) b letters
name_refused s grows whole c b letters e h p =
    rw (← name-broken style_feeding s grows whole c b letters h, ← name_released style_feeding s letters, ← p) refl

pub name_released_byte : (s t : StyleScan) (grows whole : Bool) (c : ReadClass) (b : ℕ) (letters : List ℕ) (o : Option Code) (e : Option PathCause)
    → name_goes_on grows whole (class_at c) ≡ false → None ≡ fed_error style_feeding s (codes "</" ++ letters) true (length letters + 2)
    → t ≡ feed_bytes style_feeding s (codes "</" ++ letters) → o ≡ loose_byte_error style_feeding t (class_at c) b → e ≡ at_hand o
    → e ≡ end_name_error style_feeding s grows whole (class_at c) b letters
name_released_byte s t grows whole c b letters o e h p q r i =
    rw (← name-broken style_feeding s grows whole c b letters h, ← name_released style_feeding s letters, ← p, ← q, ← r) i

-- where it leads
name-broken-next : (s : StyleScan) (grows whole : Bool) (c : ReadClass) (b : ℕ) (letters : List ℕ) → name_goes_on grows whole (class_at c) ≡ false
    → released_next s (codes "</" ++ letters) (class_at c) b ≡ element_name_next s grows whole (class_at c) b letters
name-broken-next s true true (read.Letter l) b letters h = cc
name-broken-next s true true read.White b letters h = cc
name-broken-next s true true read.Solidus b letters h = cc
name-broken-next s true true read.GreaterThan b letters h = cc
name-broken-next s true true _ b letters h = refl
name-broken-next s true false (read.Letter l) b letters h = cc
name-broken-next s true false _ b letters h = refl
name-broken-next s false true read.White b letters h = cc
name-broken-next s false true read.Solidus b letters h = cc
name-broken-next s false true read.GreaterThan b letters h = cc
name-broken-next s false true _ b letters h = refl
name-broken-next s false false _ b letters h = refl

pub name_broken_next : (s t : StyleScan) (grows whole : Bool) (c : ReadClass) (b : ℕ) (letters : List ℕ) → name_goes_on grows whole (class_at c) ≡ false
    → t ≡ feed_bytes style_feeding s (codes "</" ++ letters) → element_next t (class_at c) b ≡ element_name_next s grows whole (class_at c) b letters
name_broken_next s t grows whole c b letters h e = rw e (name-broken-next s grows whole c b letters h)
