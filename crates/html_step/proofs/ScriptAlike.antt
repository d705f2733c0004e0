-- Two scan states of a script that refuse the same of the bytes that they are fed, and, behind them, of an end: what refuses on a path with the member
-- that shows it. And where members show together that a slash is refused: a path on which it is not known what a slash would be.
use Rattle.std.proofs.Common.{◌≡◌, ℕ, ◌+◌, ◌-◌, Bool, true, false, ◌||◌, List, [], ◌∷◌, ◌++◌, length, Option, Some, None, option_map, if◌then◌else◌, refl, sym, ap, ◌∙◌, subst, ◌⊎◌, inl, inr, ◌&&◌}
use Rattle.std.specs.Prelude.{encode_utf8}
use Rattle.js_lexer.specs.Refusals.{Cause, Refusal, SlashAmbig}
use Rattle.js_lexer.specs.States.{At}
use Rattle.js_step.specs.ScriptEvidence.{IsScriptShownBy, ShowsRefusals, script_shown_by, script_split_shows, script_scan_has, ScriptClashes, ScriptSensesFit, script_with_brace}
use Rattle.js_step.specs.ScriptOrigins.{script_set_at, script_set_has}
use Rattle.js_step.specs.ScriptScans.{ScriptScan, script_scan_error, script_scan_next, script_senses_differ}
use Rattle.js_step.specs.ScriptValidity.{IsScriptScan}
use Rattle.js_step.proofs.ScriptEvidence.{scripts-shown}
use Rattle.js_step.proofs.KeptScans.{of-kept}
use Rattle.js_step.proofs.ValidScripts.{scripts-stay-valid}
use Rattle.place_core.specs.page.Classes.{Class, is_equals_sign, White, QuotationMark, Apostrophe, GreaterThan}
use Rattle.place_core.specs.page.Html.{ends_value}
use Rattle.place_core.specs.page.References.{Form, Reference, Closed, Open, ReferenceStep, Grows, Closes, Breaks, flushed, meaning, plain_bytes, turn}
use Rattle.place_core.specs.page.Tags.{feed_bytes, script_code, DoubleQuoted, SingleQuoted, Unquoted}
use Rattle.place_core.specs.place.Errors.{FedByte, PathCause, PathRefusal, cause_back, fed_error, fed_places, first_byte_error, first_cause, first_path_refusal, first_places, flushed_error, is_unknown_name, is_written, language_error, name_error, placed_bytes, script_fed, script_fed_refusal, script_refusal_at, turned_error, turned_places}
use Rattle.place_core.specs.declared.member.Member.{Member}
use Rattle.place_core.specs.declared.member.Member.TheVariants as member
use Rattle.place_core.specs.declared.quotes.Quotes.{Quotes}
use Rattle.place_core.specs.declared.quotes.Quotes.TheVariants as quotes
use Rattle.place_core.proofs.Semilattices.{none_some}
use Rattle.html_scan.specs.Scans.{all_scripts, quoted_error, quoted_places, script_fed_byte, script_feeding}
use Rattle.js_step.specs.ScriptScanOrder.{ScriptScanBelow}
use Rattle.js_step.proofs.ScriptGrowth.{scripts-grow}
use Rattle.js_step.proofs.ScriptMembers.{scripts-come-from}
use Rattle.js_step.proofs.ScriptClash.{scripts-clash}
use Rattle.html_step.specs.Laws.{EvidenceData, apart, one, two}
use Rattle.html_step.specs.Origins.{bytes_of_places, first_shown, script_evidence, script_origin, script_told_shown}
use Rattle.html_step.proofs.ScriptEnds.{bytes-placed, bytes-both}
use Rattle.html_step.proofs.ScriptFrom.{IsScriptMember, TakesScript, itself-origin, other-origin, out-set, script-whole-origin, set-is, has-script-set, member-whole, script-fed-taken, to-kept}
use Rattle.html_step.proofs.ScriptOrder.{ScriptUnder, under_below, under_same, kept-below}

given : {A : Type 0} (a : A) → Some a ≡ None → ⊥
given a e = cc

-- `element` says whether the script is an element's.
abbrev pub Alike : (element : Bool) → List ℕ → (ScriptScan → Option Cause) → ScriptScan → ScriptScan → Type 0
Alike element [] ends n m = ends n ≡ ends m
Alike element (b ∷ bs) ends n m =
    (script_scan_error element n b ≡ script_scan_error element m b)
    × (script_scan_error element m b ≡ None → Alike element bs ends (script_fed_byte n b) (script_fed_byte m b))

-- what is refused of the bytes, where they stand
first-alike : (places : List ℕ) (o p : Option Cause) (x y : Option PathRefusal) → o ≡ p → (p ≡ None → x ≡ y)
    → first_path_refusal (script_refusal_at places o) x ≡ first_path_refusal (script_refusal_at places p) y
first-alike places o None x y e f = ap (λ (z : Option Cause). first_path_refusal (script_refusal_at places z) x) e ∙ f refl
first-alike places o (Some r) x y e f = ap (λ (z : Option Cause). first_path_refusal (script_refusal_at places z) x) e

pub alike-refusal : (xs : List FedByte) (places : List ℕ) (ends : ScriptScan → Option Cause) (n m : ScriptScan) → Alike false (bytes_of_places xs) ends n m
    → script_fed_refusal all_scripts places n xs ≡ script_fed_refusal all_scripts places m xs
alike-refusal [] places ends n m h = refl
alike-refusal (x ∷ xs) places ends n m h =
    first-alike (x.place ∷ places) (script_scan_error false n x.byte) (script_scan_error false m x.byte)
    (script_fed_refusal all_scripts (x.place ∷ places) (script_fed_byte n x.byte) xs) (script_fed_refusal all_scripts (x.place ∷ places) (script_fed_byte m x.byte) xs) h.0
    (λ e. alike-refusal xs (x.place ∷ places) ends (script_fed_byte n x.byte) (script_fed_byte m x.byte) (h.1 e))

first-refused : (places : List ℕ) (o : Option Cause) (x : Option PathRefusal) → first_path_refusal (script_refusal_at places o) x ≡ None → (o ≡ None) × (x ≡ None)
first-refused places None x e = (refl, e)
first-refused places (Some r) x e = absurd (given _ e)

pub alike-behind : (xs : List FedByte) (places : List ℕ) (ends : ScriptScan → Option Cause) (n m : ScriptScan) → Alike false (bytes_of_places xs) ends n m
    → script_fed_refusal all_scripts places m xs ≡ None → ends (script_fed all_scripts n xs) ≡ ends (script_fed all_scripts m xs)
alike-behind [] places ends n m h e = h
alike-behind (x ∷ xs) places ends n m h e =
    let p = first-refused (x.place ∷ places) (script_scan_error false m x.byte) (script_fed_refusal all_scripts (x.place ∷ places) (script_fed_byte m x.byte) xs) e in
    alike-behind xs (x.place ∷ places) ends (script_fed_byte n x.byte) (script_fed_byte m x.byte) (h.1 p.0) p.1

-- the bytes, and then the end, where it stands
ends-alike : (o p x y : Option PathRefusal) → o ≡ p → (p ≡ None → x ≡ y) → first_path_refusal o x ≡ first_path_refusal p y
ends-alike o None x y e f = ap (λ (z : Option PathRefusal). first_path_refusal z x) e ∙ f refl
ends-alike o (Some r) x y e f = ap (λ (z : Option PathRefusal). first_path_refusal z x) e

pub alike-told : (xs : List FedByte) (places stands : List ℕ) (ends : ScriptScan → Option Cause) (n m : ScriptScan) → Alike false (bytes_of_places xs) ends n m
    → first_path_refusal (script_fed_refusal all_scripts places n xs) (script_refusal_at stands (ends (script_fed all_scripts n xs)))
    ≡ first_path_refusal (script_fed_refusal all_scripts places m xs) (script_refusal_at stands (ends (script_fed all_scripts m xs)))
alike-told xs places stands ends n m h =
    ends-alike (script_fed_refusal all_scripts places n xs) (script_fed_refusal all_scripts places m xs) _ _ (alike-refusal xs places ends n m h)
    (λ e. ap (script_refusal_at stands) (alike-behind xs places ends n m h e))

-- and as causes
cause-alike : (back : ℕ) (o p : Option Cause) (x y : Option PathCause) → o ≡ p → (p ≡ None → x ≡ y)
    → first_cause (cause_back back (option_map (λ z. script_code z.refusal) o)) x ≡ first_cause (cause_back back (option_map (λ z. script_code z.refusal) p)) y
cause-alike back o None x y e f = ap (λ (z : Option Cause). first_cause (cause_back back (option_map (λ u. script_code u.refusal) z)) x) e ∙ f refl
cause-alike back o (Some r) x y e f = ap (λ (z : Option Cause). first_cause (cause_back back (option_map (λ u. script_code u.refusal) z)) x) e

alike-error : (bytes : List ℕ) (written : Bool) (back : ℕ) (ends : ScriptScan → Option Cause) (n m : ScriptScan) → Alike false bytes ends n m
    → fed_error script_feeding n bytes written back ≡ fed_error script_feeding m bytes written back
alike-error [] written back ends n m h = refl
alike-error (b ∷ bs) written back ends n m h =
    let later = if written then back - 1 else back in
    cause-alike back (script_scan_error false n b) (script_scan_error false m b) (fed_error script_feeding (script_fed_byte n b) bs written later)
    (fed_error script_feeding (script_fed_byte m b) bs written later) h.0
    (λ e. alike-error bs written later ends (script_fed_byte n b) (script_fed_byte m b) (h.1 e))

abbrev no_end : ScriptScan → Option Cause
no_end n = None

alike-first : (xs ys : List ℕ) (ends : ScriptScan → Option Cause) (n m : ScriptScan) → Alike false (xs ++ ys) ends n m → Alike false xs no_end n m
alike-first [] ys ends n m h = refl
alike-first (x ∷ xs) ys ends n m h = (h.0, λ e. alike-first xs ys ends (script_fed_byte n x) (script_fed_byte m x) (h.1 e))

alike-rest : (xs ys : List ℕ) (ends : ScriptScan → Option Cause) (n m : ScriptScan) → Alike false (xs ++ ys) ends n m → TakesScript xs m
    → Alike false ys ends (feed_bytes script_feeding n xs) (feed_bytes script_feeding m xs)
alike-rest [] ys ends n m h t = h
alike-rest (x ∷ xs) ys ends n m h t = alike-rest xs ys ends (script_fed_byte n x) (script_fed_byte m x) (h.1 t.0) t.1

causes-alike : (o p x y : Option PathCause) → o ≡ p → (p ≡ None → x ≡ y) → first_cause o x ≡ first_cause p y
causes-alike o None x y e f = ap (λ (z : Option PathCause). first_cause z x) e ∙ f refl
causes-alike o (Some r) x y e f = ap (λ (z : Option PathCause). first_cause z x) e

alike-placed : (at written : Bool) (k back : ℕ) (bytes : List ℕ) (ends : ScriptScan → Option Cause) (n m : ScriptScan)
    → Alike false (bytes_of_places (placed_bytes at k bytes)) ends n m → fed_error script_feeding n bytes written back ≡ fed_error script_feeding m bytes written back
alike-placed at written k back bytes ends n m h =
    alike-error bytes written back ends n m (subst (λ (xs : List ℕ). Alike false xs ends n m) (bytes-placed at k bytes) h)

alike-turned : (k : ℕ) (x : ReferenceStep) (f : Form) (bytes : List ℕ) (c : Class) (b : ℕ) (ends : ScriptScan → Option Cause) (n m : ScriptScan)
    → Alike false (bytes_of_places (turned_places k x f bytes c b)) ends n m → turned_error script_feeding n x f bytes c b ≡ turned_error script_feeding m x f bytes c b
alike-turned k (Grows g) f bytes c b ends n m h = refl
alike-turned k Closes f bytes c b ends n m h =
    ap (first_cause (name_error (true && is_unknown_name f bytes) (length bytes + 1)))
    (alike-placed false false (k - (length bytes + 1)) (length bytes + 1) (encode_utf8 (meaning f bytes)) ends n m h)
alike-turned k Breaks f bytes c b ends n m h =
    let xs = flushed true (is_equals_sign c) f bytes in
    let w = is_written (is_equals_sign c) f bytes in
    let ys = placed_bytes w (k - (length bytes + 1)) xs in
    let zs = placed_bytes false k (plain_bytes c b) in
    let all : Alike false (xs ++ bytes_of_places zs) ends n m =
    subst (λ (us : List ℕ). Alike false (us ++ bytes_of_places zs) ends n m) (bytes-placed w (k - (length bytes + 1)) xs)
    (subst (λ (us : List ℕ). Alike false us ends n m) (bytes-both ys zs) h) in
    causes-alike (flushed_error script_feeding n (is_equals_sign c) f bytes) (flushed_error script_feeding m (is_equals_sign c) f bytes)
    (fed_error script_feeding (feed_bytes script_feeding n xs) (plain_bytes c b) false 0) (fed_error script_feeding (feed_bytes script_feeding m xs) (plain_bytes c b) false 0)
    (alike-error xs w (length bytes + 1) no_end n m (alike-first xs (bytes_of_places zs) ends n m all))
    (λ e. alike-placed false false k 0 (plain_bytes c b) ends (feed_bytes script_feeding n xs) (feed_bytes script_feeding m xs)
    (alike-rest xs (bytes_of_places zs) ends n m all (script-fed-taken xs m w (length bytes + 1) e)))

alike-language : (stops : Bool) (k : ℕ) (r : Reference) (c : Class) (b : ℕ) (ends : ScriptScan → Option Cause) (n m : ScriptScan)
    → Alike false (bytes_of_places (fed_places stops k r c b)) ends n m → language_error script_feeding stops n r c b ≡ language_error script_feeding stops m r c b
alike-language true k Closed c b ends n m h = refl
alike-language true k (Open f bytes) c b ends n m h =
    alike-placed (is_written false f bytes) (is_written false f bytes) (k - (length bytes + 1)) (length bytes + 1) (flushed true false f bytes) ends n m h
alike-language false k Closed c b ends n m h = alike-placed false false k 0 (plain_bytes c b) ends n m h
alike-language false k (Open f bytes) c b ends n m h = alike-turned k (turn c f) f bytes c b ends n m h

alike-first-byte : (k : ℕ) (c : Class) (b : ℕ) (ends : ScriptScan → Option Cause) (n m : ScriptScan) → Alike false (bytes_of_places (first_places k c b)) ends n m
    → first_byte_error script_feeding n c b ≡ first_byte_error script_feeding m c b
alike-first-byte k White b ends n m h = refl
alike-first-byte k QuotationMark b ends n m h = refl
alike-first-byte k Apostrophe b ends n m h = refl
alike-first-byte k GreaterThan b ends n m h = refl
alike-first-byte k c b ends n m h = alike-placed false false k 0 (plain_bytes c b) ends n m h

alike-bare : (u : Bool) (k : ℕ) (r : Reference) (c : Class) (b : ℕ) (ends : ScriptScan → Option Cause) (n m : ScriptScan)
    → Alike false (bytes_of_places (if u then fed_places (ends_value Unquoted c) k r c b else first_places k c b)) ends n m
    → (if u then language_error script_feeding (ends_value Unquoted c) n r c b else first_byte_error script_feeding n c b)
    ≡ (if u then language_error script_feeding (ends_value Unquoted c) m r c b else first_byte_error script_feeding m c b)
alike-bare true k r c b ends n m h = alike-language (ends_value Unquoted c) k r c b ends n m h
alike-bare false k r c b ends n m h = alike-first-byte k c b ends n m h

pub alike-quoted : (q : Quotes) (k : ℕ) (r : Reference) (c : Class) (b : ℕ) (ends : ScriptScan → Option Cause) (n m : ScriptScan)
    → Alike false (bytes_of_places (quoted_places q k r c b)) ends n m → quoted_error script_feeding q n r c b ≡ quoted_error script_feeding q m r c b
alike-quoted quotes.Dq k r c b ends n m h = alike-language (ends_value DoubleQuoted c) k r c b ends n m h
alike-quoted quotes.Sq k r c b ends n m h = alike-language (ends_value SingleQuoted c) k r c b ends n m h
alike-quoted (quotes.Bare x) k r c b ends n m h = alike-bare x.uq k r c b ends n m h

-- at the end of a text
pub alike-written : (bytes : List ℕ) (written : Bool) (k back : ℕ) (ends : ScriptScan → Option Cause) (n m : ScriptScan)
    → Alike false (bytes_of_places (placed_bytes true k bytes)) ends n m → fed_error script_feeding n bytes written back ≡ fed_error script_feeding m bytes written back
alike-written bytes written k back ends n m h = alike-placed true written k back bytes ends n m h

-- The bytes are the same wherever they stand.
same-bytes : (at : Bool) (k : ℕ) (bytes : List ℕ) → bytes_of_places (placed_bytes at k bytes) ≡ bytes_of_places (placed_bytes at 0 bytes)
same-bytes at k bytes = bytes-placed at k bytes ∙ sym (bytes-placed at 0 bytes)

same-flushed : (at other : Bool) (k j i : ℕ) (xs ys : List ℕ) → bytes_of_places (placed_bytes at k xs ++ placed_bytes other i ys)
    ≡ bytes_of_places (placed_bytes at j xs ++ placed_bytes other 0 ys)
same-flushed at other k j i xs ys =
    bytes-both (placed_bytes at k xs) (placed_bytes other i ys)
    ∙ ap (λ (zs : List ℕ). zs ++ bytes_of_places (placed_bytes other i ys)) (bytes-placed at k xs ∙ sym (bytes-placed at j xs))
    ∙ ap (λ (zs : List ℕ). bytes_of_places (placed_bytes at j xs) ++ zs) (same-bytes other i ys)
    ∙ sym (bytes-both (placed_bytes at j xs) (placed_bytes other 0 ys))

same-turned : (k : ℕ) (x : ReferenceStep) (f : Form) (bytes : List ℕ) (c : Class) (b : ℕ) → bytes_of_places (turned_places k x f bytes c b) ≡ bytes_of_places (turned_places 0 x f bytes c b)
same-turned k (Grows g) f bytes c b = refl
same-turned k Closes f bytes c b =
    bytes-placed false (k - (length bytes + 1)) (encode_utf8 (meaning f bytes)) ∙ sym (bytes-placed false (0 - (length bytes + 1)) (encode_utf8 (meaning f bytes)))
same-turned k Breaks f bytes c b =
    same-flushed (is_written (is_equals_sign c) f bytes) false (k - (length bytes + 1)) (0 - (length bytes + 1)) k (flushed true (is_equals_sign c) f bytes) (plain_bytes c b)

same-fed : (stops : Bool) (k : ℕ) (r : Reference) (c : Class) (b : ℕ) → bytes_of_places (fed_places stops k r c b) ≡ bytes_of_places (fed_places stops 0 r c b)
same-fed true k Closed c b = refl
same-fed true k (Open f bytes) c b =
    (let w = is_written false f bytes in
    bytes-placed w (k - (length bytes + 1)) (flushed true false f bytes) ∙ sym (bytes-placed w (0 - (length bytes + 1)) (flushed true false f bytes)))
same-fed false k Closed c b = same-bytes false k (plain_bytes c b)
same-fed false k (Open f bytes) c b = same-turned k (turn c f) f bytes c b

same-first : (k : ℕ) (c : Class) (b : ℕ) → bytes_of_places (first_places k c b) ≡ bytes_of_places (first_places 0 c b)
same-first k White b = refl
same-first k QuotationMark b = refl
same-first k Apostrophe b = refl
same-first k GreaterThan b = refl
same-first k c b = same-bytes false k (plain_bytes c b)

same-bare : (u : Bool) (k : ℕ) (r : Reference) (c : Class) (b : ℕ)
    → bytes_of_places (if u then fed_places (ends_value Unquoted c) k r c b else first_places k c b)
    ≡ bytes_of_places (if u then fed_places (ends_value Unquoted c) 0 r c b else first_places 0 c b)
same-bare true k r c b = same-fed (ends_value Unquoted c) k r c b
same-bare false k r c b = same-first k c b

pub same-quoted-bytes : (q : Quotes) (k : ℕ) (r : Reference) (c : Class) (b : ℕ) → bytes_of_places (quoted_places q k r c b) ≡ bytes_of_places (quoted_places q 0 r c b)
same-quoted-bytes quotes.Dq k r c b = same-fed (ends_value DoubleQuoted c) k r c b
same-quoted-bytes quotes.Sq k r c b = same-fed (ends_value SingleQuoted c) k r c b
same-quoted-bytes (quotes.Bare x) k r c b = same-bare x.uq k r c b

-- A member that shows it, before all of the bytes.
pub record OneAlike (element : Bool) (bytes : List ℕ) (ends : ScriptScan → Option Cause) (m : ScriptScan) (x : Member) : Type 0 where
  pub there : script_scan_has m x ≡ true
  pub alike : (n : ScriptScan) → ScriptUnder n m → script_scan_has n x ≡ true → Alike element bytes ends n m

-- one that is so on all paths, or of the sets
abbrev pub IsShowing : Member → Type 0
IsShowing y = (y ≡ member.Whole) ⊎ IsScriptMember y

origin-has : (m : ScriptScan) (y : Member) (x : Bool) → script_set_has m y ≡ x → IsScriptMember y → script_scan_has m (script_origin m y) ≡ true
origin-has m y true e i = subst (λ (z : Member). script_scan_has m z ≡ true) (sym (itself-origin m y e)) (has-script-set m y e)
origin-has m y false e i = subst (λ (z : Member). script_scan_has m z ≡ true) (sym (other-origin m y e ∙ member-whole y i)) refl

-- a byte that is not refused, by what the scan states below refuse and come to
under-error : (element : Bool) (n m : ScriptScan) (b : ℕ) → ScriptUnder n m → script_scan_error element m b ≡ None → script_scan_error element n b ≡ None
under-error element n m b (under_same e) i = ap (λ (k : ScriptScan). script_scan_error element k b) e ∙ i
under-error element n m b (under_below l) i = (scripts-grow.scans n m l).error element b i

under-next : (element : Bool) (n m : ScriptScan) (b : ℕ) → ScriptUnder n m → script_scan_error element m b ≡ None
    → ScriptUnder (script_fed_byte n b) (script_fed_byte m b)
under-next element n m b (under_same e) i = under_same (ap (λ (k : ScriptScan). script_fed_byte k b) e)
under-next element n m b (under_below l) i =
    under_below (kept-below (script_scan_next n b) (script_scan_next m b) ((scripts-grow.scans n m l).next element b i))

-- and a member behind it
from-kept : (n : ScriptScan) (b : ℕ) (y : Member) → script_set_has (script_fed_byte n b) y ≡ true → script_set_has (script_scan_next n b) y ≡ true
from-kept n b y h = let k = script_scan_next n b in sym (of-kept (λ (a : At). script_set_at k.senses k.before k.star a y) (λ w. refl) k.state.at) ∙ h

lead-by : (element : Bool) (m : ScriptScan) (b : ℕ) (y : Member) (x : Bool) → script_set_has m y ≡ x → IsScriptMember y → IsScriptScan m
    → script_scan_error element m b ≡ None → script_set_has (script_fed_byte m b) y ≡ true → (n : ScriptScan) → ScriptUnder n m
    → script_scan_has n (script_origin m y) ≡ true → script_set_has (script_fed_byte n b) y ≡ true
lead-by element m b y x i s v e k n (under_same d) o = subst (λ (z : ScriptScan). script_set_has (script_fed_byte z b) y ≡ true) (sym d) k
lead-by element m b y true i s v e k n (under_below l) o =
    to-kept n b y (scripts-come-from.itself element m n b y v e (from-kept m b y k) i l
    (out-set m n y i (subst (λ (z : Member). script_scan_has n z ≡ true) (itself-origin m y i) o)))
lead-by element m b y false i s v e k n (under_below l) o =
    to-kept n b y (scripts-come-from.whole element m n b y v e (from-kept m b y k) i l)

lead-set : (element : Bool) (m : ScriptScan) (b : ℕ) (y : Member) (x : Bool) → script_set_has (script_fed_byte m b) y ≡ x → IsScriptMember y → IsScriptScan m
    → script_scan_error element m b ≡ None → (n : ScriptScan) → ScriptUnder n m → script_scan_has n (script_origin m y) ≡ true
    → script_scan_has (script_fed_byte n b) (script_origin (script_fed_byte m b) y) ≡ true
lead-set element m b y true i s v e n l h =
    subst (λ (z : Member). script_scan_has (script_fed_byte n b) z ≡ true) (sym (itself-origin (script_fed_byte m b) y i))
    (has-script-set (script_fed_byte n b) y (lead-by element m b y (script_set_has m y) refl s v e i n l h))
lead-set element m b y false i s v e n l h =
    subst (λ (z : Member). script_scan_has (script_fed_byte n b) z ≡ true) (sym (other-origin (script_fed_byte m b) y i ∙ member-whole y s)) refl

one-later : (element : Bool) (m : ScriptScan) (b : ℕ) (bs : List ℕ) (ends : ScriptScan → Option Cause) (y : Member) → IsShowing y → IsScriptScan m → script_scan_error element m b ≡ None
    → OneAlike element bs ends (script_fed_byte m b) (script_origin (script_fed_byte m b) y) → OneAlike element (b ∷ bs) ends m (script_origin m y)
one-later element m b bs ends y (inr s) v e d = record {
  there = origin-has m y (script_set_has m y) refl s;
  alike = λ n l h. (
    under-error element n m b l e ∙ sym e,
    λ i. d.alike (script_fed_byte n b) (under-next element n m b l e) (lead-set element m b y (script_set_has (script_fed_byte m b) y) refl s v e n l h),
  );
}
one-later element m b bs ends y (inl s) v e d = record {
  there = subst (λ (z : Member). script_scan_has m (script_origin m z) ≡ true) (sym s)
      (subst (λ (z : Member). script_scan_has m z ≡ true) (sym (script-whole-origin m)) refl);
  alike = λ n l h. (
    under-error element n m b l e ∙ sym e,
    λ i. d.alike (script_fed_byte n b) (under-next element n m b l e)
        (subst (λ (z : Member). script_scan_has (script_fed_byte n b) (script_origin (script_fed_byte m b) z) ≡ true) (sym s)
        (subst (λ (z : Member). script_scan_has (script_fed_byte n b) z ≡ true) (sym (script-whole-origin (script_fed_byte m b))) refl)),
  );
}

-- where it is refused
pub shown-under : (y : Member) (m : ScriptScan) (refuses : ScriptScan → Option Cause) (e : Cause) → refuses m ≡ Some e → IsScriptShownBy (Some y) m refuses e
    → (n : ScriptScan) → ScriptUnder n m → script_scan_has n y ≡ true → refuses n ≡ refuses m
shown-under y m refuses e i d n (under_same s) h = ap refuses s
shown-under y m refuses e i d n (under_below l) h = d.1 n l h ∙ sym i

shown-is : (m : ScriptScan) (y : Member) → script_scan_has m y ≡ true → IsShowing y
shown-is m member.Whole h = inl refl
shown-is m y h = inr (set-is m y h)

script-same-origin : (m : ScriptScan) (y : Member) → script_scan_has m y ≡ true → script_origin m y ≡ y
script-same-origin m member.Whole h = script-whole-origin m
script-same-origin m y h = itself-origin m y h

evidence-one : (z : Option Member) (y : Member) → Some (script_evidence z) ≡ Some (one y) → z ≡ Some y
evidence-one (Some x) y e = cc
evidence-one None y e = cc

evidence-two : (z : Option Member) (x y : Member) → Some (script_evidence z) ≡ Some (two x y) → (z ≡ None) × (x ≡ member.SenseDiv) × (y ≡ member.SenseRe)
evidence-two (Some w) x y e = cc
evidence-two None x y e = (refl, cc, cc)

no-evidence : (z : Option Member) → Some (script_evidence z) ≡ Some apart → ⊥
no-evidence (Some w) e = cc
no-evidence None e = cc

here-one : (y : Member) (m : ScriptScan) (refuses : ScriptScan → Option Cause) (e : Cause) (split : Member) → refuses m ≡ Some e
    → IsScriptShownBy (script_shown_by m split e.refusal) m refuses e → script_shown_by m split e.refusal ≡ Some y
    → IsShowing y × (script_scan_has m (script_origin m y) ≡ true)
    × ((n : ScriptScan) → ScriptUnder n m → script_scan_has n (script_origin m y) ≡ true → refuses n ≡ refuses m)
here-one y m refuses e split i d h =
    let s : IsScriptShownBy (Some y) m refuses e = subst (λ (z : Option Member). IsScriptShownBy z m refuses e) h d in
    let same = script-same-origin m y s.0 in (
      shown-is m y s.0,
      subst (λ (z : Member). script_scan_has m z ≡ true) (sym same) s.0,
      λ n l o. shown-under y m refuses e i s n l (subst (λ (z : Member). script_scan_has n z ≡ true) same o),
    )

abbrev pub TellsOne : (element : Bool) → List ℕ → (ScriptScan → Option Cause) → ScriptScan → Member → Type 0
TellsOne element bytes ends m y = IsShowing y × OneAlike element bytes ends m (script_origin m y)

end-one : (element : Bool) (ends : ScriptScan → Option Cause) (m : ScriptScan) (y : Member) (o : Option Cause) → ShowsRefusals ends (λ n. member.Whole) → ends m ≡ o
    → option_map (λ e. script_evidence (script_shown_by m member.Whole e.refusal)) o ≡ Some (one y) → TellsOne element [] ends m y
end-one element ends m y (Some e) w i h =
    let d = here-one y m ends e member.Whole i (w m e i) (evidence-one (script_shown_by m member.Whole e.refusal) y h) in
    (d.0, record { there = d.1; alike = d.2 })
end-one element ends m y None w i h = absurd (none_some (one y) h)

byte-one : (element : Bool) (b : ℕ) (bs : List ℕ) (ends : ScriptScan → Option Cause) (m : ScriptScan) (y : Member) (o : Option Cause) (rest : Option EvidenceData)
    → script_scan_error element m b ≡ o
    → first_shown (option_map (λ e. script_evidence (script_shown_by m (script_split_shows m b) e.refusal)) o) rest ≡ Some (one y)
    → IsScriptScan m → (script_scan_error element m b ≡ None → rest ≡ Some (one y) → TellsOne element bs ends (script_fed_byte m b) y) → TellsOne element (b ∷ bs) ends m y
byte-one element b bs ends m y (Some e) rest i h v more =
    let split = script_split_shows m b in
    let d = here-one y m (λ n. script_scan_error element n b) e split i (scripts-shown.byte element b m e i) (evidence-one (script_shown_by m split e.refusal) y h) in
    (d.0, record { there = d.1; alike = λ n l o. (d.2 n l o, λ none. absurd (none_some e (sym none ∙ i))) })
byte-one element b bs ends m y None rest i h v more = (let d = more i h in (d.0, one-later element m b bs ends y d.0 v i d.1))

pub told-one : (element : Bool) (bytes : List ℕ) (ends : ScriptScan → Option Cause) (m : ScriptScan) (y : Member) → ShowsRefusals ends (λ n. member.Whole) → IsScriptScan m
    → script_told_shown element ends bytes m ≡ Some (one y) → TellsOne element bytes ends m y
told-one element [] ends m y w v h = end-one element ends m y (ends m) w refl h
told-one element (b ∷ bs) ends m y w v h =
    byte-one element b bs ends m y (script_scan_error element m b) (script_told_shown element ends bs (script_fed_byte m b)) refl h v
    (λ e i. told-one element bs ends (script_fed_byte m b) y w (scripts-stay-valid.next m b v) i)

-- Behind a byte that is not refused paths may still differ in what a slash would be only where the scan state says so.
pub fit-byte : (element : Bool) (m : ScriptScan) (b : ℕ) → IsScriptScan m → ScriptSensesFit m → script_scan_error element m b ≡ None → ScriptSensesFit (script_fed_byte m b)
fit-byte element m b v k e = scripts-clash.kept (script_scan_next m b) (scripts-clash.next element m b v k e)

pub fit-fed : (bytes : List ℕ) (m : ScriptScan) → IsScriptScan m → ScriptSensesFit m → TakesScript bytes m → ScriptSensesFit (feed_bytes script_feeding m bytes)
fit-fed [] m v k t = k
fit-fed (b ∷ bs) m v k t = fit-fed bs (script_fed_byte m b) (scripts-stay-valid.next m b v) (fit-byte false m b v k t.0) t.1

-- Two members that show it together.
pub record TellsTwo (element : Bool) (bytes : List ℕ) (ends : ScriptScan → Option Cause) (m : ScriptScan) (x y : Member) : Type 0 where
  pub first : x ≡ member.SenseDiv
  pub other : y ≡ member.SenseRe
  pub differ : script_senses_differ m.senses ≡ true
  pub re : script_set_has m member.SenseRe ≡ true
  pub div : script_set_has m member.SenseDiv ≡ true
  pub alike : (n : ScriptScan) → ScriptScanBelow n (script_with_brace m) → script_set_has n member.SenseBrace ≡ true → Alike element bytes ends n m

-- an end that such a path is refused at as the others are
abbrev pub EndsWithBrace : (ScriptScan → Option Cause) → Type 0
EndsWithBrace ends = (m : ScriptScan) → ScriptClashes m → ends (script_with_brace m) ≡ ends m

brace-shown : (m : ScriptScan) (x y : Member) (r : Refusal) → script_shown_by m x r ≡ None → script_shown_by (script_with_brace m) y r ≡ Some member.SenseBrace
brace-shown m x y SlashAmbig h = refl
brace-shown m x y _ h = absurd (none_some _ (sym h))

here-two : (m : ScriptScan) (refuses : ScriptScan → Option Cause) (split : ScriptScan → Member) (e : Cause) → ScriptSensesFit m → ShowsRefusals refuses split → EndsWithBrace refuses
    → refuses m ≡ Some e → script_shown_by m (split m) e.refusal ≡ None
    → (script_senses_differ m.senses ≡ true) × (script_set_has m member.SenseRe ≡ true) × (script_set_has m member.SenseDiv ≡ true)
    × ((n : ScriptScan) → ScriptScanBelow n (script_with_brace m) → script_set_has n member.SenseBrace ≡ true → refuses n ≡ refuses m)
here-two m refuses split e k w over i h =
    let d : IsScriptShownBy None m refuses e = subst (λ (z : Option Member). IsScriptShownBy z m refuses e) h (w m e i) in
    let c = scripts-clash.clashes m k d.0 in
    let same : refuses (script_with_brace m) ≡ Some e = over m c ∙ i in
    let s : IsScriptShownBy (Some member.SenseBrace) (script_with_brace m) refuses e =
    subst (λ (z : Option Member). IsScriptShownBy z (script_with_brace m) refuses e) (brace-shown m (split m) (split (script_with_brace m)) e.refusal h) (w (script_with_brace m) e same) in
    (d.0, d.1, d.2, λ n l o. s.1 n l o ∙ sym i)

end-two : (element : Bool) (ends : ScriptScan → Option Cause) (m : ScriptScan) (x y : Member) (o : Option Cause) → ScriptSensesFit m → ShowsRefusals ends (λ n. member.Whole) → EndsWithBrace ends → ends m ≡ o
    → option_map (λ e. script_evidence (script_shown_by m member.Whole e.refusal)) o ≡ Some (two x y) → TellsTwo element [] ends m x y
end-two element ends m x y (Some e) k w over i h =
    let t = evidence-two (script_shown_by m member.Whole e.refusal) x y h in
    let d = here-two m ends (λ n. member.Whole) e k w over i t.0 in
    record { first = t.1; other = t.2; differ = d.0; re = d.1; div = d.2; alike = d.3 }
end-two element ends m x y None k w over i h = absurd (none_some (two x y) h)

some-brace : (r d : Bool) → (r || (d || true)) ≡ true
some-brace true d = refl
some-brace false true = refl
some-brace false false = refl

-- behind a byte that is accepted
pub brace-later : (element : Bool) (m : ScriptScan) (b : ℕ) → script_scan_error element m b ≡ None → script_senses_differ (script_scan_next m b).senses ≡ true → ScriptClashes m
    → (n : ScriptScan) → ScriptScanBelow n (script_with_brace m) → script_set_has n member.SenseBrace ≡ true
    → (script_scan_error element n b ≡ None) × ScriptScanBelow (script_fed_byte n b) (script_with_brace (script_fed_byte m b))
    × (script_set_has (script_fed_byte n b) member.SenseBrace ≡ true)
brace-later element m b e differ c n l h =
    let over : script_scan_error element (script_with_brace m) b ≡ None = c.error element b ∙ e in
    let g = scripts-grow.scans n (script_with_brace m) l in
    let next = c.next_apart element b e differ in (
      g.error element b over,
      kept-below (script_scan_next n b) (script_with_brace (script_scan_next m b)) (next.1 (script_scan_next n b) (g.next element b over)),
      to-kept n b member.SenseBrace (scripts-come-from.itself element (script_with_brace m) n b member.SenseBrace (some-brace m.senses.re m.senses.div) over next.0 c.brace l h),
    )

byte-two : (element : Bool) (b : ℕ) (bs : List ℕ) (ends : ScriptScan → Option Cause) (m : ScriptScan) (x y : Member) (o : Option Cause) (rest : Option EvidenceData)
    → script_scan_error element m b ≡ o
    → first_shown (option_map (λ e. script_evidence (script_shown_by m (script_split_shows m b) e.refusal)) o) rest ≡ Some (two x y)
    → ScriptSensesFit m → (script_scan_error element m b ≡ None → rest ≡ Some (two x y) → TellsTwo element bs ends (script_fed_byte m b) x y) → TellsTwo element (b ∷ bs) ends m x y
byte-two element b bs ends m x y (Some e) rest i h k more =
    let t = evidence-two (script_shown_by m (script_split_shows m b) e.refusal) x y h in
    let d = here-two m (λ n. script_scan_error element n b) (λ n. script_split_shows n b) e k (scripts-shown.byte element b) (λ l c. c.error element b) i t.0 in
    record {
      first = t.1;
      other = t.2;
      differ = d.0;
      re = d.1;
      div = d.2;
      alike = λ n l o. (d.3 n l o, λ none. absurd (none_some e (sym none ∙ i)));
    }
byte-two element b bs ends m x y None rest i h k more =
    let d = more i h in
    let p = scripts-clash.before element m b k i d.differ in
    let c = scripts-clash.clashes m k p.0 in
    record {
      first = d.first;
      other = d.other;
      differ = p.0;
      re = p.1;
      div = p.2;
      alike = λ n l o. let z = brace-later element m b i d.differ c n l o in (z.0 ∙ sym i, λ none. d.alike (script_fed_byte n b) z.1 z.2);
    }

pub told-two : (element : Bool) (bytes : List ℕ) (ends : ScriptScan → Option Cause) (m : ScriptScan) (x y : Member) → IsScriptScan m → ScriptSensesFit m → ShowsRefusals ends (λ n. member.Whole) → EndsWithBrace ends
    → script_told_shown element ends bytes m ≡ Some (two x y) → TellsTwo element bytes ends m x y
told-two element [] ends m x y v k w over h = end-two element ends m x y (ends m) k w over refl h
told-two element (b ∷ bs) ends m x y v k w over h =
    byte-two element b bs ends m x y (script_scan_error element m b) (script_told_shown element ends bs (script_fed_byte m b)) refl h k
    (λ e i. told-two element bs ends (script_fed_byte m b) x y (scripts-stay-valid.next m b v) (fit-byte element m b v k e) w over i)

-- Paths that met apart do not show it.
byte-apart : (element : Bool) (b : ℕ) (bs : List ℕ) (ends : ScriptScan → Option Cause) (m : ScriptScan) (o : Option Cause) (rest : Option EvidenceData)
    → first_shown (option_map (λ e. script_evidence (script_shown_by m (script_split_shows m b) e.refusal)) o) rest ≡ Some apart → rest ≡ Some apart
byte-apart element b bs ends m (Some e) rest h = absurd (no-evidence (script_shown_by m (script_split_shows m b) e.refusal) h)
byte-apart element b bs ends m None rest h = h

end-apart : (m : ScriptScan) (o : Option Cause) → option_map (λ e. script_evidence (script_shown_by m member.Whole e.refusal)) o ≡ Some apart → ⊥
end-apart m (Some e) h = no-evidence (script_shown_by m member.Whole e.refusal) h
end-apart m None h = none_some apart h

pub told-apart : (element : Bool) (bytes : List ℕ) (ends : ScriptScan → Option Cause) (m : ScriptScan) → script_told_shown element ends bytes m ≡ Some apart → ⊥
told-apart element [] ends m h = end-apart m (ends m) h
told-apart element (b ∷ bs) ends m h =
    told-apart element bs ends (script_fed_byte m b)
    (byte-apart element b bs ends m (script_scan_error element m b) (script_told_shown element ends bs (script_fed_byte m b)) h)

-- Where none shows it, nothing is refused.
abbrev pub TakesIn : (element : Bool) → List ℕ → ScriptScan → Type 0
TakesIn element [] m = Unit {0}
TakesIn element (b ∷ bs) m = (script_scan_error element m b ≡ None) × TakesIn element bs (script_fed_byte m b)

pub takes-value : (bytes : List ℕ) (m : ScriptScan) → TakesIn false bytes m → TakesScript bytes m
takes-value [] m t = tt
takes-value (b ∷ bs) m t = (t.0, takes-value bs (script_fed_byte m b) t.1)

pub value-takes : (bytes : List ℕ) (m : ScriptScan) → TakesScript bytes m → TakesIn false bytes m
value-takes [] m t = tt
value-takes (b ∷ bs) m t = (t.0, value-takes bs (script_fed_byte m b) t.1)

byte-none : (element : Bool) (m : ScriptScan) (b : ℕ) (o : Option Cause) (rest : Option EvidenceData)
    → first_shown (option_map (λ e. script_evidence (script_shown_by m (script_split_shows m b) e.refusal)) o) rest ≡ None → (o ≡ None) × (rest ≡ None)
byte-none element m b (Some e) rest h = absurd (given _ h)
byte-none element m b None rest h = (refl, h)

end-none : (m : ScriptScan) (o : Option Cause) → option_map (λ e. script_evidence (script_shown_by m member.Whole e.refusal)) o ≡ None → o ≡ None
end-none m (Some e) h = absurd (given _ h)
end-none m None h = refl

pub told-none : (element : Bool) (bytes : List ℕ) (ends : ScriptScan → Option Cause) (m : ScriptScan) → script_told_shown element ends bytes m ≡ None
    → TakesIn element bytes m × (ends (feed_bytes script_feeding m bytes) ≡ None)
told-none element [] ends m h = (tt, end-none m (ends m) h)
told-none element (b ∷ bs) ends m h =
    let p = byte-none element m b (script_scan_error element m b) (script_told_shown element ends bs (script_fed_byte m b)) h in
    let more = told-none element bs ends (script_fed_byte m b) p.1 in
    ((p.0, more.0), more.1)
