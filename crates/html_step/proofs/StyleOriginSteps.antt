-- Origins in styles that are kept byte by byte, and what shows a refusal by them.
use Rattle.std.proofs.Common.{◌≡◌, ℕ, Bool, true, false, List, [], ◌∷◌, ◌++◌, codes, Option, Some, None, refl, sym, ap, ◌∙◌}
use Rattle.std.specs.Prelude.{encode_utf8}
use Rattle.css_lexer.specs.Classes.{style_class}
use Rattle.css_step.specs.StyleOrigins.{style_scan_parts}
use Rattle.css_step.specs.StyleScans.{StyleScan, style_scan_next}
use Rattle.place_core.specs.page.Classes.{Class, is_equals_sign}
use Rattle.place_core.specs.page.References.{Form, Open, ReferenceStep, Breaks, Closes, flushed, meaning, plain_bytes, turn, turn_bytes, undone_byte}
use Rattle.place_core.specs.page.Tags.{feed_bytes}
use Rattle.place_core.specs.declared.member.Member.{Member}
use Rattle.place_core.specs.place.Errors.{name_goes_on}
use Rattle.html_scan.specs.ClassViews.{class_at}
use Rattle.html_scan.specs.Scans.{style_feeding}
use Rattle.html_scan.specs.declared.class.Class.{Class as ReadClass}
use Rattle.html_scan.specs.declared.class.Class.TheVariants as read
use Rattle.html_step.specs.Laws.{EvidenceData}
use Rattle.html_step.specs.Origins.{end_name_fed, fed_shows, first_shown, less_fed, loose_fed, met_before, style_byte_origin, style_byte_shown, style_fed_origin, style_fed_shown}

-- The bytes that a style is fed, some after others.
pub style-fed-more : (xs ys : List ℕ) (n : StyleScan) (y : Member)
    → style_fed_origin (xs ++ ys) n y ≡ style_fed_origin xs n (style_fed_origin ys (feed_bytes style_feeding n xs) y)
style-fed-more [] ys n y = refl
style-fed-more (x ∷ xs) ys n y = ap (style_byte_origin n x) (style-fed-more xs ys (style_scan_next n (style_class x) x) y)

-- those of a reference that its semicolon ends
pub style-closes-origin : (m : Member → Member) (n : StyleScan) (f : Form) (read : List ℕ) (c : Class) (b : ℕ) (code : ℕ) (y : Member) → turn c f ≡ Closes
    → code ≡ meaning f read
    → m (style_fed_origin (encode_utf8 code) n y) ≡ m (style_fed_origin (undone_byte true (Open f read) c b) n y)
style-closes-origin m n f read c b code y e i =
    ap m (ap (λ (x : ℕ). style_fed_origin (encode_utf8 x) n y) i ∙ ap (λ (x : ReferenceStep). style_fed_origin (turn_bytes true x f read c b) n y) (sym e))

-- those of a reference that a byte breaks, before the byte
pub style-breaks-origin : (m o : Member → Member) (n w : StyleScan) (f : Form) (read : List ℕ) (c : Class) (b : ℕ) (equals : Bool) (y : Member) → turn c f ≡ Breaks
    → equals ≡ is_equals_sign c
    → w ≡ feed_bytes style_feeding n (flushed true equals f read) → ((z : Member) → o z ≡ m (style_fed_origin (flushed true equals f read) n z))
    → o (style_fed_origin (plain_bytes c b) w y) ≡ m (style_fed_origin (undone_byte true (Open f read) c b) n y)
style-breaks-origin m o n w f read c b equals y e i j h =
    h (style_fed_origin (plain_bytes c b) w y)
    ∙ ap m (ap (λ (q : StyleScan). style_fed_origin (flushed true equals f read) n (style_fed_origin (plain_bytes c b) q y)) j
    ∙ sym (style-fed-more (flushed true equals f read) (plain_bytes c b) n y)
    ∙ ap (λ (x : Bool). style_fed_origin (flushed true x f read ++ plain_bytes c b) n y) i
    ∙ ap (λ (x : ReferenceStep). style_fed_origin (turn_bytes true x f read c b) n y) (sym e))

-- What shows that one of them is refused.
first-of-three : (a b c : Option EvidenceData) → first_shown a (first_shown b c) ≡ first_shown (first_shown a b) c
first-of-three (Some x) b c = refl
first-of-three None b c = refl

pub style-shown-more : (xs ys : List ℕ) (n : StyleScan)
    → style_fed_shown (xs ++ ys) n ≡ first_shown (style_fed_shown xs n) (style_fed_shown ys (feed_bytes style_feeding n xs))
style-shown-more [] ys n = refl
style-shown-more (x ∷ xs) ys n =
    ap (first_shown (style_byte_shown n x)) (style-shown-more xs ys (style_scan_next n (style_class x) x))
    ∙ first-of-three (style_byte_shown n x) (style_fed_shown xs (style_scan_next n (style_class x) x))
    (style_fed_shown ys (feed_bytes style_feeding (style_scan_next n (style_class x) x) xs))

pub style-closes-shown : (n : StyleScan) (f : Form) (read : List ℕ) (c : Class) (b : ℕ) (code : ℕ) → turn c f ≡ Closes → code ≡ meaning f read
    → style_fed_shown (encode_utf8 code) n ≡ style_fed_shown (undone_byte true (Open f read) c b) n
style-closes-shown n f read c b code e i =
    ap (λ (x : ℕ). style_fed_shown (encode_utf8 x) n) i ∙ ap (λ (x : ReferenceStep). style_fed_shown (turn_bytes true x f read c b) n) (sym e)

pub style-breaks-shown : (a d : Option EvidenceData) (n w : StyleScan) (f : Form) (read : List ℕ) (c : Class) (b : ℕ) (equals : Bool) → turn c f ≡ Breaks
    → equals ≡ is_equals_sign c → w ≡ feed_bytes style_feeding n (flushed true equals f read)
    → a ≡ style_fed_shown (flushed true equals f read) n → d ≡ style_fed_shown (plain_bytes c b) w
    → first_shown a d ≡ style_fed_shown (undone_byte true (Open f read) c b) n
style-breaks-shown a d n w f read c b equals e i j h k =
    ap (λ (x : Option EvidenceData). first_shown x d) h
    ∙ ap (first_shown (style_fed_shown (flushed true equals f read) n)) (k ∙ ap (style_fed_shown (plain_bytes c b)) j)
    ∙ sym (style-shown-more (flushed true equals f read) (plain_bytes c b) n)
    ∙ ap (λ (x : Bool). style_fed_shown (flushed true x f read ++ plain_bytes c b) n) i
    ∙ ap (λ (x : ReferenceStep). style_fed_shown (turn_bytes true x f read c b) n) (sym e)

-- In the element behind a `<`, a byte that is no `/` feeds the `<` and then itself.
pub less_fed_all : (c : ReadClass) (b : ℕ) → (c ≡ read.Solidus → ⊥) → less_fed (class_at c) b ≡ codes "<" ++ loose_fed (class_at c) b
less_fed_all read.Solidus b h = absurd (h refl)
less_fed_all _ b h = refl

-- In the element, behind `</` and letters: a byte that goes on with the end tag feeds nothing, and another one these and then itself.
pub name_fed_nothing : (grows whole : Bool) (c : ReadClass) (b : ℕ) (letters : List ℕ) → name_goes_on grows whole (class_at c) ≡ true
    → end_name_fed grows whole (class_at c) b letters ≡ []
name_fed_nothing true true (read.Letter l) b letters h = refl
name_fed_nothing true true read.White b letters h = refl
name_fed_nothing true true read.Solidus b letters h = refl
name_fed_nothing true true read.GreaterThan b letters h = refl
name_fed_nothing true true _ b letters h = cc
name_fed_nothing true false (read.Letter l) b letters h = refl
name_fed_nothing true false _ b letters h = cc
name_fed_nothing false true read.White b letters h = refl
name_fed_nothing false true read.Solidus b letters h = refl
name_fed_nothing false true read.GreaterThan b letters h = refl
name_fed_nothing false true _ b letters h = cc
name_fed_nothing false false (read.Letter l) b letters h = cc
name_fed_nothing false false _ b letters h = cc

pub name_fed_all : (grows whole : Bool) (c : ReadClass) (b : ℕ) (letters : List ℕ) → name_goes_on grows whole (class_at c) ≡ false
    → end_name_fed grows whole (class_at c) b letters ≡ (codes "</" ++ letters) ++ loose_fed (class_at c) b
name_fed_all true true (read.Letter l) b letters h = cc
name_fed_all true true read.White b letters h = cc
name_fed_all true true read.Solidus b letters h = cc
name_fed_all true true read.GreaterThan b letters h = cc
name_fed_all true true _ b letters h = refl
name_fed_all true false (read.Letter l) b letters h = cc
name_fed_all true false _ b letters h = refl
name_fed_all false true read.White b letters h = cc
name_fed_all false true read.Solidus b letters h = cc
name_fed_all false true read.GreaterThan b letters h = cc
name_fed_all false true _ b letters h = refl
name_fed_all false false (read.Letter l) b letters h = refl
name_fed_all false false _ b letters h = refl

-- The origins before what they feed, one of them after another.
pub less-origin : (m o : Member → Member) (n w : StyleScan) (c : ReadClass) (b : ℕ) (y : Member) → (c ≡ read.Solidus → ⊥)
    → w ≡ feed_bytes style_feeding n (codes "<") → ((z : Member) → o z ≡ m (style_byte_origin n 60 z))
    → o (style_fed_origin (loose_fed (class_at c) b) w y) ≡ m (style_fed_origin (less_fed (class_at c) b) n y)
less-origin m o n w c b y e i h =
    let loose = loose_fed (class_at c) b in
    h (style_fed_origin loose w y)
    ∙ ap m (ap (λ (v : StyleScan). style_byte_origin n 60 (style_fed_origin loose v y)) i
    ∙ ap (λ (xs : List ℕ). style_fed_origin xs n y) (sym (less_fed_all c b e)))

pub opened-origin : (m o q : Member → Member) (n w x : StyleScan) (letters : List ℕ) (y : Member)
    → w ≡ feed_bytes style_feeding n (codes "<")
    → x ≡ style_scan_next w (style_class 47) 47 → ((z : Member) → o z ≡ m (style_byte_origin n 60 z))
    → ((z : Member) → q z ≡ o (style_byte_origin w 47 z))
    → q (style_fed_origin letters x y) ≡ m (style_fed_origin (codes "</" ++ letters) n y)
opened-origin m o q n w x letters y i j h k =
    k (style_fed_origin letters x y) ∙ h (style_byte_origin w 47 (style_fed_origin letters x y))
    ∙ ap (λ (v : StyleScan). m (style_byte_origin n 60 (style_byte_origin w 47 (style_fed_origin letters v y)))) j
    ∙ ap (λ (v : StyleScan). m
    (style_byte_origin n 60 (style_byte_origin v 47 (style_fed_origin letters (style_scan_next v (style_class 47) 47) y)))) i

pub name-origin : (m o : Member → Member) (n w : StyleScan) (grows whole : Bool) (c : ReadClass) (b : ℕ) (letters : List ℕ) (y : Member)
    → name_goes_on grows whole (class_at c) ≡ false → w ≡ feed_bytes style_feeding n (codes "</" ++ letters)
    → ((z : Member) → o z ≡ m (style_fed_origin (codes "</" ++ letters) n z))
    → o (style_fed_origin (loose_fed (class_at c) b) w y) ≡ m (style_fed_origin (end_name_fed grows whole (class_at c) b letters) n y)
name-origin m o n w grows whole c b letters y e i h =
    let name = codes "</" ++ letters in
    let loose = loose_fed (class_at c) b in
    h (style_fed_origin loose w y)
    ∙ ap m (ap (λ (v : StyleScan). style_fed_origin name n (style_fed_origin loose v y)) i ∙ sym (style-fed-more name loose n y)
    ∙ ap (λ (xs : List ℕ). style_fed_origin xs n y) (sym (name_fed_all grows whole c b letters e)))

-- and what shows that one of them is refused
pub less-shown : (a d o : Option EvidenceData) (n w : StyleScan) (c : ReadClass) (b : ℕ) → (c ≡ read.Solidus → ⊥)
    → w ≡ feed_bytes style_feeding n (codes "<") → a ≡ style_byte_shown n 60 → d ≡ style_fed_shown (loose_fed (class_at c) b) w
    → o ≡ first_shown a d
    → met_before (style_scan_parts n) o ≡ fed_shows n (less_fed (class_at c) b)
less-shown a d o n w c b e i h k l =
    let loose = loose_fed (class_at c) b in
    ap (met_before (style_scan_parts n))
    (l ∙ ap (λ (x : Option EvidenceData). first_shown x d) h ∙ ap (first_shown (style_byte_shown n 60)) (k ∙ ap (style_fed_shown loose) i)
    ∙ ap (λ (xs : List ℕ). style_fed_shown xs n) (sym (less_fed_all c b e)))

pub opened-shown : (a b d : Option EvidenceData) (n w x : StyleScan) (letters : List ℕ) → w ≡ feed_bytes style_feeding n (codes "<")
    → x ≡ style_scan_next w (style_class 47) 47 → a ≡ style_byte_shown n 60 → b ≡ style_byte_shown w 47 → d ≡ style_fed_shown letters x
    → first_shown a (first_shown b d) ≡ style_fed_shown (codes "</" ++ letters) n
opened-shown a b d n w x letters i j h k l =
    ap (λ (o : Option EvidenceData). first_shown o (first_shown b d)) h
    ∙ ap (λ (o : Option EvidenceData). first_shown (style_byte_shown n 60) (first_shown o d)) k
    ∙ ap (λ (o : Option EvidenceData). first_shown (style_byte_shown n 60) (first_shown (style_byte_shown w 47) o))
    (l ∙ ap (style_fed_shown letters) j)
    ∙ ap (λ (v : StyleScan). first_shown (style_byte_shown n 60)
    (first_shown (style_byte_shown v 47) (style_fed_shown letters (style_scan_next v (style_class 47) 47)))) i

pub name-shown : (a d : Option EvidenceData) (n w : StyleScan) (grows whole : Bool) (c : ReadClass) (b : ℕ) (letters : List ℕ)
    → name_goes_on grows whole (class_at c) ≡ false → w ≡ feed_bytes style_feeding n (codes "</" ++ letters)
    → a ≡ style_fed_shown (codes "</" ++ letters) n → d ≡ style_fed_shown (loose_fed (class_at c) b) w
    → first_shown a d ≡ style_fed_shown (end_name_fed grows whole (class_at c) b letters) n
name-shown a d n w grows whole c b letters e i h k =
    let name = codes "</" ++ letters in
    let loose = loose_fed (class_at c) b in
    ap (λ (o : Option EvidenceData). first_shown o d) h
    ∙ ap (first_shown (style_fed_shown name n)) (k ∙ ap (style_fed_shown loose) i) ∙ sym (style-shown-more name loose n)
    ∙ ap (λ (xs : List ℕ). style_fed_shown xs n) (sym (name_fed_all grows whole c b letters e))
