-- What a script refuses at a byte of a text, at the end of a value and at the end of a node, by the places of the bytes that it is fed: nothing where no
-- byte that it is fed is refused and its end is not. Where that is so above it is so below.
use Rattle.std.proofs.Common.{◌≡◌, ℕ, ◌+◌, ◌-◌, Bool, true, false, ◌&&◌, List, [], ◌∷◌, ◌++◌, length, Option, Some, None, if◌then◌else◌, refl, sym, ap, ◌∙◌, subst}
use Rattle.std.specs.Prelude.{encode_utf8}
use Rattle.js_lexer.specs.Refusals.{Cause}
use Rattle.js_step.specs.ScriptScans.{ScriptScan, script_scan_cut_error, script_scan_end_error, script_scan_start}
use Rattle.js_step.proofs.ValidScripts.{empty-texts-keep-scripts}
use Rattle.place_core.specs.page.Classes.{Class, White, QuotationMark, Apostrophe, GreaterThan, is_equals_sign}
use Rattle.place_core.specs.page.Html.{ends_value}
use Rattle.place_core.specs.page.References.{Form, Reference, Closed, Open, ReferenceStep, Grows, Closes, Breaks, as_it_stands, flushed, meaning, plain_bytes, settled, turn}
use Rattle.place_core.specs.page.Tags.{feed_bytes, DoubleQuoted, SingleQuoted, Unquoted}
use Rattle.place_core.specs.place.Errors.{FedByte, PathRefusal, at_hand, at_value_end, cut_places, deep_at, deep_place, fed_error, fed_places, first_byte_error, first_path_refusal, first_places, flushed_error, flushed_places, is_told_at_node_end, is_unknown_name, is_written, language_error, name_error, place_back, placed_bytes, places_with, script_ending_refusal, script_fed, script_fed_refusal, script_places_refusal, script_refusal_at, turned_error, turned_places, value_end_cause, value_error}
use Rattle.place_core.specs.place.Places.{joined_quotes}
use Rattle.place_core.specs.declared.body.Body.{Body}
use Rattle.place_core.specs.declared.body.Body.TheVariants as body
use Rattle.place_core.specs.declared.place.Place.{Place}
use Rattle.place_core.specs.declared.place.Place.TheVariants as place
use Rattle.place_core.specs.declared.quotes.Quotes.{Quotes}
use Rattle.place_core.specs.declared.quotes.Quotes.TheVariants as quotes
use Rattle.place_core.specs.declared.value_place.ValuePlace.{ValuePlace}
use Rattle.place_core.proofs.Semilattices.{none_some}
use Rattle.html_scan.specs.Scans.{Scan, At, AfterLess, AfterLessSolidus, InDeclaration, InTagName, InAttributeName, InUrl, InStyle, InScript, InScriptElement, InStyleElement, InCommentEnd, InContentEnd, BeforeType, InType, all_scripts, begun_script_deep, begun_script_refusal, body_cause, ends_quoted, quoted_error, quoted_places, scan_cut_error, scan_deep_behind, scan_error, scan_script_cut_refusal, scan_script_refusal, script_fed_byte, script_feeding, script_step_deep, script_step_refusal, written_error}
use Rattle.html_step.specs.Origins.{bytes_of_places}
use Rattle.html_step.proofs.FedAlike.{fed-beside, first-caused}
use Rattle.html_step.proofs.PlaceParts.{Under}
use Rattle.html_step.proofs.ScanOrder.{HasBegun, ScanBelow, ScanValid, ScriptValueBelow, bare-parts, script_cut}
use Rattle.html_step.proofs.ScriptFrom.{TakesScript, script-fed-taken}
use Rattle.html_step.proofs.ScriptOrder.{ScriptUnder, script-grows, scripts-beside}

no : false ≡ true → ⊥
no e = cc

given : {A : Type 0} (a : A) → Some a ≡ None → ⊥
given a e = cc

-- the bytes that stand at places
pub bytes-placed : (written : Bool) (k : ℕ) (bytes : List ℕ) → bytes_of_places (placed_bytes written k bytes) ≡ bytes
bytes-placed written k [] = refl
bytes-placed written k (b ∷ bs) = ap (λ (xs : List ℕ). b ∷ xs) (bytes-placed written (if written then k + 1 else k) bs)

pub bytes-both : (xs ys : List FedByte) → bytes_of_places (xs ++ ys) ≡ bytes_of_places xs ++ bytes_of_places ys
bytes-both [] ys = refl
bytes-both (x ∷ xs) ys = ap (λ (zs : List ℕ). x.byte ∷ zs) (bytes-both xs ys)

-- the state behind them
pub fed-state : (xs : List FedByte) (n : ScriptScan) → script_fed all_scripts n xs ≡ feed_bytes script_feeding n (bytes_of_places xs)
fed-state [] n = refl
fed-state (x ∷ xs) n = fed-state xs (script_fed_byte n x.byte)

-- where none is refused
pub fed-none : (xs : List FedByte) (places : List ℕ) (n : ScriptScan) → TakesScript (bytes_of_places xs) n → script_fed_refusal all_scripts places n xs ≡ None
fed-none [] places n h = refl
fed-none (x ∷ xs) places n h =
    ap (λ (o : Option Cause). first_path_refusal (script_refusal_at (x.place ∷ places) o) (script_fed_refusal all_scripts (x.place ∷ places) (script_fed_byte n x.byte) xs)) h.0
    ∙ fed-none xs (x.place ∷ places) (script_fed_byte n x.byte) h.1

taken-append : (xs ys : List ℕ) (n : ScriptScan) → TakesScript xs n → TakesScript ys (feed_bytes script_feeding n xs) → TakesScript (xs ++ ys) n
taken-append [] ys n h k = k
taken-append (x ∷ xs) ys n h k = (h.0, taken-append xs ys (script_fed_byte n x) h.1 k)

placed-taken : (written at : Bool) (k back : ℕ) (bytes : List ℕ) (n : ScriptScan) → fed_error script_feeding n bytes written back ≡ None
    → TakesScript (bytes_of_places (placed_bytes at k bytes)) n
placed-taken written at k back bytes n h =
    subst (λ (xs : List ℕ). TakesScript xs n) (sym (bytes-placed at k bytes)) (script-fed-taken bytes n written back h)

turned-taken : (k : ℕ) (x : ReferenceStep) (f : Form) (bytes : List ℕ) (n : ScriptScan) (c : Class) (b : ℕ) → turned_error script_feeding n x f bytes c b ≡ None
    → TakesScript (bytes_of_places (turned_places k x f bytes c b)) n
turned-taken k (Grows g) f bytes n c b h = tt
turned-taken k Closes f bytes n c b h =
    let xs = encode_utf8 (meaning f bytes) in
    let e = first-caused (name_error (true && is_unknown_name f bytes) (length bytes + 1)) (fed_error script_feeding n xs false (length bytes + 1)) h in
    placed-taken false false (k - (length bytes + 1)) (length bytes + 1) xs n e.1
turned-taken k Breaks f bytes n c b h =
    let xs = flushed true (is_equals_sign c) f bytes in
    let w = is_written (is_equals_sign c) f bytes in
    let m = feed_bytes script_feeding n xs in
    let e = first-caused (flushed_error script_feeding n (is_equals_sign c) f bytes) (fed_error script_feeding m (plain_bytes c b) false 0) h in
    let ys = placed_bytes w (k - (length bytes + 1)) xs in
    let zs = placed_bytes false k (plain_bytes c b) in
    subst (λ (o : List ℕ). TakesScript o n) (sym (bytes-both ys zs))
    (taken-append (bytes_of_places ys) (bytes_of_places zs) n (placed-taken w w (k - (length bytes + 1)) (length bytes + 1) xs n e.0)
    (subst (λ (o : List ℕ). TakesScript (bytes_of_places zs) (feed_bytes script_feeding n o)) (sym (bytes-placed w (k - (length bytes + 1)) xs))
    (placed-taken false false k 0 (plain_bytes c b) m e.1)))

language-taken : (ends : Bool) (k : ℕ) (r : Reference) (n : ScriptScan) (c : Class) (b : ℕ) → language_error script_feeding ends n r c b ≡ None
    → TakesScript (bytes_of_places (fed_places ends k r c b)) n
language-taken true k Closed n c b h = tt
language-taken true k (Open f bytes) n c b h =
    placed-taken (is_written false f bytes) (is_written false f bytes) (k - (length bytes + 1)) (length bytes + 1) (flushed true false f bytes) n h
language-taken false k Closed n c b h = placed-taken false false k 0 (plain_bytes c b) n h
language-taken false k (Open f bytes) n c b h = turned-taken k (turn c f) f bytes n c b h

first-taken : (k : ℕ) (n : ScriptScan) (c : Class) (b : ℕ) → first_byte_error script_feeding n c b ≡ None → TakesScript (bytes_of_places (first_places k c b)) n
first-taken k n White b h = tt
first-taken k n QuotationMark b h = tt
first-taken k n Apostrophe b h = tt
first-taken k n GreaterThan b h = tt
first-taken k n c b h = placed-taken false false k 0 (plain_bytes c b) n h

bare-taken : (u : Bool) (k : ℕ) (r : Reference) (n : ScriptScan) (c : Class) (b : ℕ)
    → (if u then language_error script_feeding (ends_value Unquoted c) n r c b else first_byte_error script_feeding n c b) ≡ None
    → TakesScript (bytes_of_places (if u then fed_places (ends_value Unquoted c) k r c b else first_places k c b)) n
bare-taken true k r n c b h = language-taken (ends_value Unquoted c) k r n c b h
bare-taken false k r n c b h = first-taken k n c b h

pub quoted-taken : (q : Quotes) (k : ℕ) (r : Reference) (n : ScriptScan) (c : Class) (b : ℕ) → quoted_error script_feeding q n r c b ≡ None
    → TakesScript (bytes_of_places (quoted_places q k r c b)) n
quoted-taken quotes.Dq k r n c b h = language-taken (ends_value DoubleQuoted c) k r n c b h
quoted-taken quotes.Sq k r n c b h = language-taken (ends_value SingleQuoted c) k r n c b h
quoted-taken (quotes.Bare x) k r n c b h = bare-taken x.uq k r n c b h

-- The end of a value.
abbrev pub end_if : (ends : Bool) → ScriptScan → Reference → Option Cause
end_if true n r = script_scan_end_error (feed_bytes script_feeding n (settled true r))
end_if false n r = None

abbrev pub script_end_at : Quotes → ScriptScan → Reference → Class → Option Cause
script_end_at q n r c = end_if (ends_quoted q c) n r

places-end : (ends : Bool) (k : ℕ) (r : Reference) (n : ScriptScan) (c : Class) (b : ℕ)
    → value_end_cause all_scripts ends (script_fed all_scripts n (fed_places ends k r c b)) ≡ end_if ends n r
places-end false k r n c b = refl
places-end true k Closed n c b = refl
places-end true k (Open f bytes) n c b =
    let xs = flushed_places k false f bytes in
    ap script_scan_end_error
    (fed-state xs n
    ∙ ap (feed_bytes script_feeding n) (bytes-placed (is_written false f bytes) (k - (length bytes + 1)) (flushed true false f bytes)))

bare-end : (u : Bool) (k : ℕ) (r : Reference) (n : ScriptScan) (c : Class) (b : ℕ)
    → value_end_cause all_scripts (u && ends_value Unquoted c) (script_fed all_scripts n (if u then fed_places (ends_value Unquoted c) k r c b else first_places k c b))
    ≡ end_if (u && ends_value Unquoted c) n r
bare-end true k r n c b = places-end (ends_value Unquoted c) k r n c b
bare-end false k r n c b = refl

pub quoted-end : (q : Quotes) (k : ℕ) (r : Reference) (n : ScriptScan) (c : Class) (b : ℕ)
    → value_end_cause all_scripts (ends_quoted q c) (script_fed all_scripts n (quoted_places q k r c b)) ≡ script_end_at q n r c
quoted-end quotes.Dq k r n c b = places-end (ends_value DoubleQuoted c) k r n c b
quoted-end quotes.Sq k r n c b = places-end (ends_value SingleQuoted c) k r n c b
quoted-end (quotes.Bare x) k r n c b = bare-end x.uq k r n c b

-- nothing is refused
places-none : (xs : List FedByte) (ends : Bool) (k : ℕ) (places : List ℕ) (n : ScriptScan) → script_fed_refusal all_scripts places n xs ≡ None
    → value_end_cause all_scripts ends (script_fed all_scripts n xs) ≡ None
    → (script_places_refusal all_scripts ends k places n xs ≡ None) × (deep_place all_scripts ends k places n xs ≡ None)
places-none xs ends k places n h e = (
  ap (λ (o : Option PathRefusal). first_path_refusal o (script_refusal_at (k ∷ places_with xs places) (at_value_end (value_end_cause all_scripts ends (script_fed all_scripts n xs))))) h
      ∙ ap (λ (o : Option Cause). script_refusal_at (k ∷ places_with xs places) (at_value_end o)) e,
  ap (deep_at (k ∷ places_with xs places)) e,
)

pub step-none : (q : Quotes) (k : ℕ) (places : List ℕ) (n : ScriptScan) (r : Reference) (c : Class) (b : ℕ) → quoted_error script_feeding q n r c b ≡ None
    → script_end_at q n r c ≡ None → (script_step_refusal q k places n r c b ≡ None) × (script_step_deep q k places n r c b ≡ None)
step-none q k places n r c b h e =
    places-none (quoted_places q k r c b) (ends_quoted q c) k places n
    (fed-none (quoted_places q k r c b) places n (quoted-taken q k r n c b h)) (quoted-end q k r n c b ∙ e)

-- and the other way
first-none : (o p : Option PathRefusal) → first_path_refusal o p ≡ None → (o ≡ None) × (p ≡ None)
first-none None p e = (refl, e)
first-none (Some x) p e = absurd (given _ e)

told-none : (places : List ℕ) (e : Cause) (x : Bool) → script_refusal_at places (if x then None else Some e) ≡ None
    → (if x then Some (place_back e.shown places) else None) ≡ None → ⊥
told-none places e true h d = given _ d
told-none places e false h d = given _ h

end-none : (places : List ℕ) (o : Option Cause) → script_refusal_at places (at_value_end o) ≡ None → deep_at places o ≡ None → o ≡ None
end-none places None h d = refl
end-none places (Some e) h d = absurd (told-none places e (is_told_at_node_end e.refusal) h d)

pub none-end : (q : Quotes) (k : ℕ) (places : List ℕ) (n : ScriptScan) (r : Reference) (c : Class) (b : ℕ) → script_step_refusal q k places n r c b ≡ None
    → script_step_deep q k places n r c b ≡ None → script_end_at q n r c ≡ None
none-end q k places n r c b h d =
    let xs = quoted_places q k r c b in
    let o = value_end_cause all_scripts (ends_quoted q c) (script_fed all_scripts n xs) in
    sym (quoted-end q k r n c b)
    ∙ end-none (k ∷ places_with xs places) o
    (first-none (script_fed_refusal all_scripts places n xs) (script_refusal_at (k ∷ places_with xs places) (at_value_end o)) h).1 d

-- where a value has begun, and is at a place, its end refuses nothing
if-started : (ends : Bool) (n : ScriptScan) → script_scan_end_error n ≡ None → end_if ends n Closed ≡ None
if-started true n h = h
if-started false n h = refl

-- By scan states: what the end of a value refuses.
abbrev pub script_end : Scan → Class → Option Cause
script_end (InScript v n r) c = script_end_at v.quotes n r c
script_end f c = None

pub begun-none : (x : Body) (q : Quotes) (k : ℕ) (c : Class) (b : ℕ) → body_cause x q Closed c b ≡ None
    → (begun_script_refusal x q k c b ≡ None) × (begun_script_deep x q k c b ≡ None)
begun-none (body.Js j) q k c b h =
    step-none q k [] (script_scan_start j) Closed c b h (if-started (ends_quoted q c) (script_scan_start j) (empty-texts-keep-scripts j).end_error)
begun-none _ q k c b h = (refl, refl)

value-none : (v : ValuePlace) (k : ℕ) (c : Class) (b : ℕ) → scan_error (At (place.Value v)) c b ≡ None
    → (begun_script_refusal v.body v.quotes k c b ≡ None) × (begun_script_deep v.body v.quotes k c b ≡ None)
value-none v k c b h =
    begun-none v.body v.quotes k c b (first-caused (body_cause v.body v.quotes Closed c b) (at_hand (value_error v c)) h).0

place-none : (p : Place) (k : ℕ) (places : List ℕ) (c : Class) (b : ℕ) → scan_error (At p) c b ≡ None
    → (scan_script_refusal k places (At p) c b ≡ None) × (scan_deep_behind k places (At p) c b ≡ None)
place-none (place.Value v) k places c b h = value-none v k c b h
place-none place.Text k places c b h = (refl, refl)
place-none place.Doctype k places c b h = (refl, refl)
place-none (place.Comment x) k places c b h = (refl, refl)
place-none (place.Rcdata x) k places c b h = (refl, refl)
place-none (place.Tag x) k places c b h = (refl, refl)
place-none (place.Script x) k places c b h = (refl, refl)
place-none (place.Style x) k places c b h = (refl, refl)
place-none (place.Block x) k places c b h = (refl, refl)

pub script-takes : (f : Scan) (c : Class) (b : ℕ) → scan_error f c b ≡ None → script_end f c ≡ None → (k : ℕ) (places : List ℕ)
    → (scan_script_refusal k places f c b ≡ None) × (scan_deep_behind k places f c b ≡ None)
script-takes (At p) c b h e k places = place-none p k places c b h
script-takes (InScript v n r) c b h e k places =
    step-none v.quotes k places n r c b (first-caused (quoted_error script_feeding v.quotes n r c b) (at_hand (value_error v c)) h).0 e
script-takes AfterLess c b h e k places = (refl, refl)
script-takes AfterLessSolidus c b h e k places = (refl, refl)
script-takes (InDeclaration x) c b h e k places = (refl, refl)
script-takes (InTagName x y) c b h e k places = (refl, refl)
script-takes (InAttributeName x y z) c b h e k places = (refl, refl)
script-takes (InCommentEnd x) c b h e k places = (refl, refl)
script-takes (InContentEnd x y) c b h e k places = (refl, refl)
script-takes (InStyleElement x y) c b h e k places = (refl, refl)
script-takes (InScriptElement x y) c b h e k places = (refl, refl)
script-takes (BeforeType x) c b h e k places = (refl, refl)
script-takes (InType x y z w) c b h e k places = (refl, refl)
script-takes (InUrl x y z) c b h e k places = (refl, refl)
script-takes (InStyle x y z) c b h e k places = (refl, refl)

pub taken-script : (f : Scan) (c : Class) (b k : ℕ) (places : List ℕ) → scan_script_refusal k places f c b ≡ None
    → scan_deep_behind k places f c b ≡ None → script_end f c ≡ None
taken-script (InScript v n r) c b k places h d = none-end v.quotes k places n r c b h d
taken-script (At p) c b k places h d = refl
taken-script AfterLess c b k places h d = refl
taken-script AfterLessSolidus c b k places h d = refl
taken-script (InDeclaration x) c b k places h d = refl
taken-script (InTagName x y) c b k places h d = refl
taken-script (InAttributeName x y z) c b k places h d = refl
taken-script (InCommentEnd x) c b k places h d = refl
taken-script (InContentEnd x y) c b k places h d = refl
taken-script (InStyleElement x y) c b k places h d = refl
taken-script (InScriptElement x y) c b k places h d = refl
taken-script (BeforeType x) c b k places h d = refl
taken-script (InType x y z w) c b k places h d = refl
taken-script (InUrl x y z) c b k places h d = refl
taken-script (InStyle x y z) c b k places h d = refl

-- below what is accepted
if-below : (ends : Bool) (r : Reference) (c : Class) (b : ℕ) (n m : ScriptScan) → ScriptUnder n m → language_error script_feeding ends m r c b ≡ None
    → end_if ends m r ≡ None → end_if ends n r ≡ None
if-below true Closed c b n m l h e = (script-grows n m l).end_error e
if-below true (Open f bytes) c b n m l h e =
    let xs = flushed true false f bytes in
    (script-grows (feed_bytes script_feeding n xs) (feed_bytes script_feeding m xs)
    (fed-beside scripts-beside xs (is_written false f bytes) (length bytes + 1) n m l h).1).end_error e
if-below false r c b n m l h e = refl

bare-below : (u w : Bool) (r : Reference) (c : Class) (b : ℕ) (n m : ScriptScan) → u ≡ true → Under u w → ScriptUnder n m
    → (if w then language_error script_feeding (ends_value Unquoted c) m r c b else first_byte_error script_feeding m c b) ≡ None
    → end_if (w && ends_value Unquoted c) m r ≡ None → end_if (u && ends_value Unquoted c) n r ≡ None
bare-below true true r c b n m i j l h e = if-below (ends_value Unquoted c) r c b n m l h e
bare-below true false r c b n m i j l h e = absurd (no (sym j))
bare-below false w r c b n m i j l h e = absurd (no i)

quoted-below : (q p : Quotes) (r : Reference) (c : Class) (b : ℕ) (n m : ScriptScan) → HasBegun q → joined_quotes q p ≡ Some p → ScriptUnder n m
    → quoted_error script_feeding p m r c b ≡ None → script_end_at p m r c ≡ None → script_end_at q n r c ≡ None
quoted-below quotes.Dq quotes.Dq r c b n m v j l h e = if-below (ends_value DoubleQuoted c) r c b n m l h e
quoted-below quotes.Sq quotes.Sq r c b n m v j l h e = if-below (ends_value SingleQuoted c) r c b n m l h e
quoted-below (quotes.Bare x) (quotes.Bare y) r c b n m v j l h e = bare-below x.uq y.uq r c b n m v.0 (bare-parts x y j).0 l h e
quoted-below quotes.Dq quotes.Sq r c b n m v j l h e = absurd (none_some quotes.Sq j)
quoted-below quotes.Dq (quotes.Bare y) r c b n m v j l h e = absurd (none_some (quotes.Bare y) j)
quoted-below quotes.Sq quotes.Dq r c b n m v j l h e = absurd (none_some quotes.Dq j)
quoted-below quotes.Sq (quotes.Bare y) r c b n m v j l h e = absurd (none_some (quotes.Bare y) j)
quoted-below (quotes.Bare x) quotes.Dq r c b n m v j l h e = absurd (none_some quotes.Dq j)
quoted-below (quotes.Bare x) quotes.Sq r c b n m v j l h e = absurd (none_some quotes.Sq j)

script-below : (v w : ValuePlace) (n m : ScriptScan) (r z : Reference) (c : Class) (b : ℕ) → HasBegun v.quotes → ScriptValueBelow v w n m → r ≡ z
    → scan_error (InScript w m z) c b ≡ None → script_end (InScript w m z) c ≡ None → script_end (InScript v n r) c ≡ None
script-below v w n m r z c b g l i h e =
    subst (λ (o : Reference). scan_error (InScript w m o) c b ≡ None → script_end (InScript w m o) c ≡ None → script_end (InScript v n r) c ≡ None) i
    (λ h e. quoted-below v.quotes w.quotes r c b n m g l.quotes l.scan
    (first-caused (quoted_error script_feeding w.quotes m r c b) (at_hand (value_error w c)) h).0 e) h e

pub script-end-grows : (f g : Scan) (c : Class) (b : ℕ) → ScanValid f → ScanBelow f g → scan_error g c b ≡ None → script_end g c ≡ None → script_end f c ≡ None
script-end-grows (InScript v n r) (InScript w m z) c b i l h e = script-below v w n m r z c b i.0 l.0 l.1 h e
script-end-grows (InScript v n r) (At p) c b i l h e = absurd l
script-end-grows (InScript v n r) AfterLess c b i l h e = absurd l
script-end-grows (InScript v n r) AfterLessSolidus c b i l h e = absurd l
script-end-grows (InScript v n r) (InDeclaration x) c b i l h e = absurd l
script-end-grows (InScript v n r) (InTagName x y) c b i l h e = absurd l
script-end-grows (InScript v n r) (InAttributeName x y z) c b i l h e = absurd l
script-end-grows (InScript v n r) (InCommentEnd x) c b i l h e = absurd l
script-end-grows (InScript v n r) (InContentEnd x y) c b i l h e = absurd l
script-end-grows (InScript v n r) (InStyleElement x y) c b i l h e = absurd l
script-end-grows (InScript v n r) (InScriptElement x y) c b i l h e = absurd l
script-end-grows (InScript v n r) (BeforeType x) c b i l h e = absurd l
script-end-grows (InScript v n r) (InType x y z w) c b i l h e = absurd l
script-end-grows (InScript v n r) (InUrl x y z) c b i l h e = absurd l
script-end-grows (InScript v n r) (InStyle x y z) c b i l h e = absurd l
script-end-grows (At p) g c b i l h e = refl
script-end-grows AfterLess g c b i l h e = refl
script-end-grows AfterLessSolidus g c b i l h e = refl
script-end-grows (InDeclaration x) g c b i l h e = refl
script-end-grows (InTagName x y) g c b i l h e = refl
script-end-grows (InAttributeName x y z) g c b i l h e = refl
script-end-grows (InCommentEnd x) g c b i l h e = refl
script-end-grows (InContentEnd x y) g c b i l h e = refl
script-end-grows (InStyleElement x y) g c b i l h e = refl
script-end-grows (InScriptElement x y) g c b i l h e = refl
script-end-grows (BeforeType x) g c b i l h e = refl
script-end-grows (InType x y z w) g c b i l h e = refl
script-end-grows (InUrl x y z) g c b i l h e = refl
script-end-grows (InStyle x y z) g c b i l h e = refl

-- The end of a node.
cut-state : (k : ℕ) (r : Reference) (n : ScriptScan) → script_fed all_scripts n (cut_places k r) ≡ feed_bytes script_feeding n (as_it_stands r)
cut-state k r n =
    fed-state (cut_places k r) n ∙ ap (feed_bytes script_feeding n) (bytes-placed true (k - length (as_it_stands r)) (as_it_stands r))

cut-takes : (k : ℕ) (places : List ℕ) (v : ValuePlace) (n : ScriptScan) (r : Reference) → written_error script_feeding n (as_it_stands r) ≡ None
    → script_scan_cut_error (feed_bytes script_feeding n (as_it_stands r)) ≡ None → script_ending_refusal all_scripts k places n (cut_places k r) ≡ None
cut-takes k places v n r h e =
    let xs = cut_places k r in
    let fed = fed-none xs places n (placed-taken true true (k - length (as_it_stands r)) (length (as_it_stands r)) (as_it_stands r) n h) in
    ap (λ (o : Option PathRefusal). first_path_refusal o (script_refusal_at (k ∷ places_with xs places) (script_scan_cut_error (script_fed all_scripts n xs)))) fed
    ∙ ap (script_refusal_at (k ∷ places_with xs places)) (ap script_scan_cut_error (cut-state k r n) ∙ e)

at-none : (places : List ℕ) (o : Option Cause) → script_refusal_at places o ≡ None → o ≡ None
at-none places None h = refl
at-none places (Some e) h = absurd (given _ h)

taken-cut : (k : ℕ) (places : List ℕ) (n : ScriptScan) (r : Reference) → script_ending_refusal all_scripts k places n (cut_places k r) ≡ None
    → script_scan_cut_error (feed_bytes script_feeding n (as_it_stands r)) ≡ None
taken-cut k places n r h =
    let xs = cut_places k r in
    let e = (first-none (script_fed_refusal all_scripts places n xs) (script_refusal_at (k ∷ places_with xs places) (script_scan_cut_error (script_fed all_scripts n xs))) h).1 in
    ap script_scan_cut_error (sym (cut-state k r n)) ∙ at-none (k ∷ places_with xs places) (script_scan_cut_error (script_fed all_scripts n xs)) e

pub script-cut-takes : (f : Scan) → scan_cut_error f ≡ None → script_cut f ≡ None → (k : ℕ) (places : List ℕ) → scan_script_cut_refusal k places f ≡ None
script-cut-takes (InScript v n r) h e k places = cut-takes k places v n r h e
script-cut-takes (At p) h e k places = refl
script-cut-takes AfterLess h e k places = refl
script-cut-takes AfterLessSolidus h e k places = refl
script-cut-takes (InDeclaration x) h e k places = refl
script-cut-takes (InTagName x y) h e k places = refl
script-cut-takes (InAttributeName x y z) h e k places = refl
script-cut-takes (InCommentEnd x) h e k places = refl
script-cut-takes (InContentEnd x y) h e k places = refl
script-cut-takes (InStyleElement x y) h e k places = refl
script-cut-takes (InScriptElement x y) h e k places = refl
script-cut-takes (BeforeType x) h e k places = refl
script-cut-takes (InType x y z w) h e k places = refl
script-cut-takes (InUrl x y z) h e k places = refl
script-cut-takes (InStyle x y z) h e k places = refl

pub taken-script-cut : (f : Scan) (k : ℕ) (places : List ℕ) → scan_script_cut_refusal k places f ≡ None → script_cut f ≡ None
taken-script-cut (InScript v n r) k places h = taken-cut k places n r h
taken-script-cut (At p) k places h = refl
taken-script-cut AfterLess k places h = refl
taken-script-cut AfterLessSolidus k places h = refl
taken-script-cut (InDeclaration x) k places h = refl
taken-script-cut (InTagName x y) k places h = refl
taken-script-cut (InAttributeName x y z) k places h = refl
taken-script-cut (InCommentEnd x) k places h = refl
taken-script-cut (InContentEnd x y) k places h = refl
taken-script-cut (InStyleElement x y) k places h = refl
taken-script-cut (InScriptElement x y) k places h = refl
taken-script-cut (BeforeType x) k places h = refl
taken-script-cut (InType x y z w) k places h = refl
taken-script-cut (InUrl x y z) k places h = refl
taken-script-cut (InStyle x y z) k places h = refl
