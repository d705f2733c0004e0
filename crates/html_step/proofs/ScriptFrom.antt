-- Each member of a scan state of a script behind bytes comes from one member before them, and so does each of the place at the end of a text.
use Rattle.std.proofs.Common.{◌≡◌, ℕ, ◌-◌, Bool, true, false, ◌||◌, List, [], ◌∷◌, None, if◌then◌else◌, refl, sym, ap, ◌∙◌, subst}
use Rattle.js_lexer.specs.States.{At, Slash, InString, InRegexp}
use Rattle.js_step.specs.ScriptOrigins.{script_set_at, script_set_has, script_but_slash, script_senses_at, script_tails_at}
use Rattle.js_step.specs.ScriptScans.{ScriptScan, script_scan_cut_error, script_scan_error, script_scan_next, script_scan_place}
use Rattle.js_step.specs.ScriptValidity.{IsScriptScan}
use Rattle.js_step.specs.KeptWords.{kept_scan}
use Rattle.js_step.proofs.KeptScans.{of-kept}
use Rattle.js_step.proofs.ScriptMembers.{scripts-come-from}
use Rattle.js_step.proofs.ValidScripts.{scripts-stay-valid}
use Rattle.place_core.specs.page.Tags.{feed_bytes}
use Rattle.place_core.specs.place.Errors.{cause_back, fed_error}
use Rattle.place_core.specs.place.LanguagePlaces.{js_has, js_star_has, js_tails_have, regexp_has, senses_have}
use Rattle.place_core.specs.place.Places.{is_whole}
use Rattle.place_core.specs.declared.js.Js.{Js}
use Rattle.place_core.specs.declared.js.Js.TheVariants as js
use Rattle.place_core.specs.declared.js_tails.JsTails.{JsTails}
use Rattle.place_core.specs.declared.member.Member.{Member}
use Rattle.place_core.specs.declared.member.Member.TheVariants as member
use Rattle.place_core.specs.declared.senses.Senses.{Senses}
use Rattle.html_scan.specs.Scans.{script_fed_byte, script_feeding}
use Rattle.js_step.specs.ScriptEvidence.{script_scan_has}
use Rattle.html_step.specs.Origins.{in_value_origin, script_origin, typed_origin}
use Rattle.html_step.proofs.FedAlike.{cause-none, first-caused}
use Rattle.html_step.proofs.FromParts.{or-behind, or-either}
use Rattle.html_step.proofs.ScriptOrder.{ScriptUnder, under_same, under_below, script-grows, script-none-refused}

no : false ≡ true → ⊥
no e = cc

pub has-script-set : (n : ScriptScan) (y : Member) → script_set_has n y ≡ true → script_scan_has n y ≡ true
has-script-set n y h = or-behind (is_whole y) (script_set_has n y) h

-- Which members are in no such set.
abbrev pub IsScriptMember : Member → Type 0
IsScriptMember member.SenseRe = Unit {0}
IsScriptMember member.SenseDiv = Unit {0}
IsScriptMember member.SenseBrace = Unit {0}
IsScriptMember member.JsWord = Unit {0}
IsScriptMember member.JsNum = Unit {0}
IsScriptMember member.JsLt = Unit {0}
IsScriptMember member.JsSlash = Unit {0}
IsScriptMember member.JsPlus = Unit {0}
IsScriptMember member.JsMinus = Unit {0}
IsScriptMember member.JsHash = Unit {0}
IsScriptMember member.RegexpSlash = Unit {0}
IsScriptMember member.JsStar = Unit {0}
IsScriptMember y = ⊥

sense-is : (s : Senses) (y : Member) → senses_have s y ≡ true → IsScriptMember y
sense-is s member.SenseRe h = tt
sense-is s member.SenseDiv h = tt
sense-is s member.SenseBrace h = tt
sense-is s _ h = absurd (no h)

tail-is : (x : JsTails) (y : Member) → js_tails_have x y ≡ true → IsScriptMember y
tail-is x member.JsWord h = tt
tail-is x member.JsNum h = tt
tail-is x member.JsLt h = tt
tail-is x member.JsSlash h = tt
tail-is x member.JsPlus h = tt
tail-is x member.JsMinus h = tt
tail-is x member.JsHash h = tt
tail-is x _ h = absurd (no h)

star-is : (x : Bool) (y : Member) → js_star_has x y ≡ true → IsScriptMember y
star-is x member.JsStar h = tt
star-is x _ h = absurd (no h)

slash-is : (x : Bool) (y : Member) → regexp_has x y ≡ true → IsScriptMember y
slash-is x member.RegexpSlash h = tt
slash-is x _ h = absurd (no h)

senses-at-is : (s : Senses) (a : At) (y : Member) → script_senses_at s a y ≡ true → IsScriptMember y
senses-at-is s (InString q e) y h = absurd (no h)
senses-at-is s (InRegexp k e) y h = absurd (no h)
senses-at-is s _ y h = sense-is s y h

tails-at-is : (x : JsTails) (a : At) (y : Member) → script_tails_at x a y ≡ true → IsScriptMember y
tails-at-is x (InRegexp k e) y h =
    or-either (IsScriptMember y) (regexp_has x.slash y) (js_tails_have (script_but_slash x) y) h (λ i. slash-is x.slash y i) (λ i. tail-is (script_but_slash x) y i)
tails-at-is x (Slash t) y h = or-either (IsScriptMember y) (regexp_has x.slash y) (js_tails_have x y) h (λ i. slash-is x.slash y i) (λ i. tail-is x y i)
tails-at-is x _ y h = tail-is x y h

pub set-is : (n : ScriptScan) (y : Member) → script_set_has n y ≡ true → IsScriptMember y
set-is n y h =
    or-either (IsScriptMember y) (script_senses_at n.senses n.state.at y) (script_tails_at n.before n.state.at y || js_star_has n.star y) h
    (λ i. senses-at-is n.senses n.state.at y i)
    (λ i. or-either (IsScriptMember y) (script_tails_at n.before n.state.at y) (js_star_has n.star y) i (λ k. tails-at-is n.before n.state.at y k) (λ k. star-is n.star y k))

not-true : (x : Bool) → (x ≡ true → ⊥) → x ≡ false
not-true true f = absurd (f refl)
not-true false f = refl

-- a member of a set is kept, and is neither the whole nor that a `type` may have been seen, nor in quotes
pub kept-member : (y : Member) → IsScriptMember y → in_value_origin y ≡ y
kept-member member.SenseRe h = refl
kept-member member.SenseDiv h = refl
kept-member member.SenseBrace h = refl
kept-member member.JsWord h = refl
kept-member member.JsNum h = refl
kept-member member.JsLt h = refl
kept-member member.JsSlash h = refl
kept-member member.JsPlus h = refl
kept-member member.JsMinus h = refl
kept-member member.JsHash h = refl
kept-member member.RegexpSlash h = refl
kept-member member.JsStar h = refl
kept-member _ h = absurd h

pub script-kept : (n : ScriptScan) (y : Member) → script_set_has n y ≡ true → in_value_origin y ≡ y
script-kept n y h = kept-member y (set-is n y h)

pub script-untyped : (n : ScriptScan) → script_set_has n member.Typed ≡ true → ⊥
script-untyped n h = set-is n member.Typed h

pub script-unquoted : (n : ScriptScan) → script_set_has n member.UnquotedValue ≡ true → ⊥
script-unquoted n h = set-is n member.UnquotedValue h

pub script-unbegun : (n : ScriptScan) → script_set_has n member.UnbegunValue ≡ true → ⊥
script-unbegun n h = set-is n member.UnbegunValue h

pub member-whole : (y : Member) → IsScriptMember y → typed_origin y ≡ member.Whole
member-whole member.Typed h = absurd h
member-whole _ h = refl

-- where a member comes from
pub itself-origin : (n : ScriptScan) (y : Member) → script_set_has n y ≡ true → script_origin n y ≡ y
itself-origin n y h = ap (λ (x : Bool). if x then y else typed_origin y) h

pub other-origin : (n : ScriptScan) (y : Member) → script_set_has n y ≡ false → script_origin n y ≡ typed_origin y
other-origin n y h = ap (λ (x : Bool). if x then y else typed_origin y) h

pub foreign-origin : (n : ScriptScan) (y : Member) → (IsScriptMember y → ⊥) → script_origin n y ≡ typed_origin y
foreign-origin n y f = other-origin n y (not-true (script_set_has n y) (λ h. f (set-is n y h)))

pub script-whole-origin : (n : ScriptScan) → script_origin n member.Whole ≡ member.Whole
script-whole-origin n = foreign-origin n member.Whole (λ h. h)

pub script-typed-origin : (n : ScriptScan) → script_origin n member.Typed ≡ member.Typed
script-typed-origin n = foreign-origin n member.Typed (λ h. h)

-- One byte, and several, of which none is refused.
pub record ScriptFrom (n : ScriptScan) (step : ScriptScan → ScriptScan) (y x : Member) : Type 0 where
  pub there : script_scan_has n x ≡ true
  pub leads : (k : ScriptScan) → ScriptUnder k n → script_scan_has k x ≡ true → script_scan_has (step k) y ≡ true

-- what is kept of a word is in no set
kept-set : (n : ScriptScan) (y : Member) → script_set_has (kept_scan n) y ≡ script_set_has n y
kept-set n y = of-kept (λ (a : At). script_set_at n.senses n.before n.star a y) (λ w. refl) n.state.at

pub to-kept : (n : ScriptScan) (b : ℕ) (y : Member) → script_set_has (script_scan_next n b) y ≡ true → script_set_has (script_fed_byte n b) y ≡ true
to-kept n b y h = kept-set (script_scan_next n b) y ∙ h

from-kept : (n : ScriptScan) (b : ℕ) (y : Member) → script_set_has (script_fed_byte n b) y ≡ true → script_set_has (script_scan_next n b) y ≡ true
from-kept n b y h = sym (kept-set (script_scan_next n b) y) ∙ h

byte-itself : (element : Bool) (n : ScriptScan) (b : ℕ) (y : Member) → IsScriptScan n → script_scan_error element n b ≡ None → script_set_has (script_fed_byte n b) y ≡ true
    → script_set_has n y ≡ true → (k : ScriptScan) → ScriptUnder k n → script_set_has k y ≡ true → script_set_has (script_fed_byte k b) y ≡ true
byte-itself element n b y v e h i k (under_same d) o = subst (λ (z : ScriptScan). script_set_has (script_fed_byte z b) y ≡ true) (sym d) h
byte-itself element n b y v e h i k (under_below l) o = to-kept k b y (scripts-come-from.itself element n k b y v e (from-kept n b y h) i l o)

byte-whole : (element : Bool) (n : ScriptScan) (b : ℕ) (y : Member) → IsScriptScan n → script_scan_error element n b ≡ None → script_set_has (script_fed_byte n b) y ≡ true
    → script_set_has n y ≡ false → (k : ScriptScan) → ScriptUnder k n → script_set_has (script_fed_byte k b) y ≡ true
byte-whole element n b y v e h i k (under_same d) = subst (λ (z : ScriptScan). script_set_has (script_fed_byte z b) y ≡ true) (sym d) h
byte-whole element n b y v e h i k (under_below l) = to-kept k b y (scripts-come-from.whole element n k b y v e (from-kept n b y h) i l)

pub whole-no-set : (n : ScriptScan) (y : Member) → is_whole y ≡ true → script_set_has n y ≡ true → ⊥
whole-no-set n member.Whole h k = set-is n member.Whole k
whole-no-set n _ h k = no h

pub out-set : (n k : ScriptScan) (y : Member) → script_set_has n y ≡ true → script_scan_has k y ≡ true → script_set_has k y ≡ true
out-set n k y h o = or-either (script_set_has k y ≡ true) (is_whole y) (script_set_has k y) o (λ i. absurd (whole-no-set n y i h)) (λ i. i)

-- a member of a set behind the bytes: of those before, itself, and else it is so on all paths
pub data SetFrom (n : ScriptScan) (step : ScriptScan → ScriptScan) (y : Member) : Type 0 where
  set_itself : script_set_has n y ≡ true → ((k : ScriptScan) → ScriptUnder k n → script_set_has k y ≡ true → script_set_has (step k) y ≡ true)
      → SetFrom n step y
  set_whole : script_set_has n y ≡ false → ((k : ScriptScan) → ScriptUnder k n → script_set_has (step k) y ≡ true) → SetFrom n step y

byte-set : (element : Bool) (n : ScriptScan) (b : ℕ) (y : Member) (x : Bool) → script_set_has n y ≡ x → IsScriptScan n → script_scan_error element n b ≡ None
    → script_set_has (script_fed_byte n b) y ≡ true → SetFrom n (λ k. script_fed_byte k b) y
byte-set element n b y true i v e h = set_itself i (byte-itself element n b y v e h i)
byte-set element n b y false i v e h = set_whole i (byte-whole element n b y v e h i)

-- by the origin
set-origin : (n : ScriptScan) (step : ScriptScan → ScriptScan) (y : Member) → IsScriptMember y → SetFrom n step y → ScriptFrom n step y (script_origin n y)
set-origin n step y m (set_itself i f) =
    subst (ScriptFrom n step y) (sym (itself-origin n y i))
    (record { there = has-script-set n y i; leads = λ k l o. has-script-set (step k) y (f k l (out-set n k y i o)) })
set-origin n step y m (set_whole i f) =
    subst (ScriptFrom n step y) (sym (other-origin n y i ∙ member-whole y m))
    (record { there = refl; leads = λ k l o. has-script-set (step k) y (f k l) })

pub byte-from-in : (element : Bool) (n : ScriptScan) (b : ℕ) (y : Member) → IsScriptScan n → script_scan_error element n b ≡ None → script_set_has (script_fed_byte n b) y ≡ true
    → ScriptFrom n (λ k. script_fed_byte k b) y (script_origin n y)
byte-from-in element n b y v e h = set-origin n (λ k. script_fed_byte k b) y (set-is (script_fed_byte n b) y h) (byte-set element n b y (script_set_has n y) refl v e h)

-- in a value
pub byte-from : (n : ScriptScan) (b : ℕ) (y : Member) → IsScriptScan n → script_scan_error false n b ≡ None → script_set_has (script_fed_byte n b) y ≡ true
    → ScriptFrom n (λ k. script_fed_byte k b) y (script_origin n y)
byte-from n b y v e h = byte-from-in false n b y v e h

abbrev pub TakesScriptIn : (element : Bool) → List ℕ → ScriptScan → Type 0
TakesScriptIn element [] n = Unit {0}
TakesScriptIn element (b ∷ bs) n = (script_scan_error element n b ≡ None) × TakesScriptIn element bs (script_fed_byte n b)

abbrev pub TakesScript : List ℕ → ScriptScan → Type 0
TakesScript bytes n = TakesScriptIn false bytes n

pub script-fed-taken : (bytes : List ℕ) (n : ScriptScan) (written : Bool) (back : ℕ) → fed_error script_feeding n bytes written back ≡ None → TakesScript bytes n
script-fed-taken [] n written back e = tt
script-fed-taken (b ∷ bs) n written back e =
    let later = if written then back - 1 else back in
    let p = first-caused (cause_back back (script_feeding.refuses n b)) (fed_error script_feeding (script_fed_byte n b) bs written later) e in
    (script-none-refused n b (cause-none back (script_feeding.refuses n b) p.0), script-fed-taken bs (script_fed_byte n b) written later p.1)

set-more : (element : Bool) (n : ScriptScan) (b : ℕ) (bs : List ℕ) (y : Member) → IsScriptScan n → script_scan_error element n b ≡ None
    → SetFrom (script_fed_byte n b) (λ k. feed_bytes script_feeding k bs) y → SetFrom n (λ k. script_fed_byte k b) y
    → SetFrom n (λ k. feed_bytes script_feeding k (b ∷ bs)) y
set-more element n b bs y v e (set_itself i f) (set_itself j g) =
    set_itself j (λ k l o. f (script_fed_byte k b) ((script-grows k n l).next element b e) (g k l o))
set-more element n b bs y v e (set_itself i f) (set_whole j g) =
    set_whole j (λ k l. f (script_fed_byte k b) ((script-grows k n l).next element b e) (g k l))
set-more element n b bs y v e (set_whole i f) (set_itself j g) = set_itself j (λ k l o. f (script_fed_byte k b) ((script-grows k n l).next element b e))
set-more element n b bs y v e (set_whole i f) (set_whole j g) = set_whole j (λ k l. f (script_fed_byte k b) ((script-grows k n l).next element b e))

set-later : (element : Bool) (n : ScriptScan) (b : ℕ) (bs : List ℕ) (y : Member) (x : Bool) → script_set_has n y ≡ x → script_scan_error element n b ≡ None
    → ((k : ScriptScan) → ScriptUnder k (script_fed_byte n b) → script_set_has (feed_bytes script_feeding k bs) y ≡ true)
    → SetFrom n (λ k. feed_bytes script_feeding k (b ∷ bs)) y
set-later element n b bs y true i e f = set_itself i (λ k l o. f (script_fed_byte k b) ((script-grows k n l).next element b e))
set-later element n b bs y false i e f = set_whole i (λ k l. f (script_fed_byte k b) ((script-grows k n l).next element b e))

set-step : (element : Bool) (n : ScriptScan) (b : ℕ) (bs : List ℕ) (y : Member) → IsScriptScan n → script_scan_error element n b ≡ None
    → SetFrom (script_fed_byte n b) (λ k. feed_bytes script_feeding k bs) y → SetFrom n (λ k. feed_bytes script_feeding k (b ∷ bs)) y
set-step element n b bs y v e (set_itself i f) =
    set-more element n b bs y v e (set_itself i f) (byte-set element n b y (script_set_has n y) refl v e i)
set-step element n b bs y v e (set_whole i f) = set-later element n b bs y (script_set_has n y) refl e f

pub set-fed-in : (element : Bool) (bytes : List ℕ) (n : ScriptScan) (y : Member) → IsScriptScan n → TakesScriptIn element bytes n → script_set_has (feed_bytes script_feeding n bytes) y ≡ true
    → SetFrom n (λ k. feed_bytes script_feeding k bytes) y
set-fed-in element [] n y v a h = set_itself h (λ k l o. o)
set-fed-in element (b ∷ bs) n y v a h =
    set-step element n b bs y v a.0 (set-fed-in element bs (script_fed_byte n b) y (scripts-stay-valid.next n b v) a.1 h)

pub script-fed-from-in : (element : Bool) (bytes : List ℕ) (n : ScriptScan) (y : Member) → IsScriptScan n → TakesScriptIn element bytes n
    → script_set_has (feed_bytes script_feeding n bytes) y ≡ true → ScriptFrom n (λ k. feed_bytes script_feeding k bytes) y (script_origin n y)
script-fed-from-in element bytes n y v a h =
    set-origin n (λ k. feed_bytes script_feeding k bytes) y (set-is (feed_bytes script_feeding n bytes) y h) (set-fed-in element bytes n y v a h)

pub set-fed : (bytes : List ℕ) (n : ScriptScan) (y : Member) → IsScriptScan n → TakesScript bytes n → script_set_has (feed_bytes script_feeding n bytes) y ≡ true
    → SetFrom n (λ k. feed_bytes script_feeding k bytes) y
set-fed bytes n y v a h = set-fed-in false bytes n y v a h

pub script-fed-from : (bytes : List ℕ) (n : ScriptScan) (y : Member) → IsScriptScan n → TakesScript bytes n
    → script_set_has (feed_bytes script_feeding n bytes) y ≡ true → ScriptFrom n (λ k. feed_bytes script_feeding k bytes) y (script_origin n y)
script-fed-from bytes n y v a h = script-fed-from-in false bytes n y v a h

-- The end of a text.
pub data PlaceFrom (n : ScriptScan) (bytes : List ℕ) (y : Member) : Type 0 where
  place_itself : script_set_has n y ≡ true
      → ((k : ScriptScan) → ScriptUnder k n → script_set_has k y ≡ true → js_has (script_scan_place (feed_bytes script_feeding k bytes)) y ≡ true)
      → PlaceFrom n bytes y
  place_whole : script_set_has n y ≡ false
      → ((k : ScriptScan) → ScriptUnder k n → js_has (script_scan_place (feed_bytes script_feeding k bytes)) y ≡ true) → PlaceFrom n bytes y

fed-under : (element : Bool) (bytes : List ℕ) (n k : ScriptScan) → TakesScriptIn element bytes n → ScriptUnder k n → ScriptUnder (feed_bytes script_feeding k bytes) (feed_bytes script_feeding n bytes)
fed-under element [] n k a l = l
fed-under element (b ∷ bs) n k a l = fed-under element bs (script_fed_byte n b) (script_fed_byte k b) a.1 ((script-grows k n l).next element b a.0)

end-set-itself : (n : ScriptScan) (y : Member) → IsScriptScan n → script_scan_cut_error n ≡ None → js_has (script_scan_place n) y ≡ true
    → script_set_has n y ≡ true → (k : ScriptScan) → ScriptUnder k n → script_set_has k y ≡ true → js_has (script_scan_place k) y ≡ true
end-set-itself n y v e h i k (under_same d) o = subst (λ (z : ScriptScan). js_has (script_scan_place z) y ≡ true) (sym d) h
end-set-itself n y v e h i k (under_below l) o = scripts-come-from.end_itself n k y v e h i l o

end-set-whole : (n : ScriptScan) (y : Member) → IsScriptScan n → script_scan_cut_error n ≡ None → js_has (script_scan_place n) y ≡ true
    → script_set_has n y ≡ false → (k : ScriptScan) → ScriptUnder k n → js_has (script_scan_place k) y ≡ true
end-set-whole n y v e h i k (under_same d) = subst (λ (z : ScriptScan). js_has (script_scan_place z) y ≡ true) (sym d) h
end-set-whole n y v e h i k (under_below l) = scripts-come-from.end_whole n k y v e h i l

end-later : (element : Bool) (bytes : List ℕ) (n : ScriptScan) (y : Member) (x : Bool) → script_set_has n y ≡ x → TakesScriptIn element bytes n
    → ((k : ScriptScan) → ScriptUnder k (feed_bytes script_feeding n bytes) → js_has (script_scan_place k) y ≡ true) → PlaceFrom n bytes y
end-later element bytes n y true i a f = place_itself i (λ k l o. f (feed_bytes script_feeding k bytes) (fed-under element bytes n k a l))
end-later element bytes n y false i a f = place_whole i (λ k l. f (feed_bytes script_feeding k bytes) (fed-under element bytes n k a l))

end-more : (element : Bool) (bytes : List ℕ) (n : ScriptScan) (y : Member) → TakesScriptIn element bytes n
    → ((k : ScriptScan) → ScriptUnder k (feed_bytes script_feeding n bytes) → script_set_has k y ≡ true → js_has (script_scan_place k) y ≡ true)
    → SetFrom n (λ k. feed_bytes script_feeding k bytes) y → PlaceFrom n bytes y
end-more element bytes n y a f (set_itself i g) = place_itself i (λ k l o. f (feed_bytes script_feeding k bytes) (fed-under element bytes n k a l) (g k l o))
end-more element bytes n y a f (set_whole i g) = place_whole i (λ k l. f (feed_bytes script_feeding k bytes) (fed-under element bytes n k a l) (g k l))

end-by : (element : Bool) (bytes : List ℕ) (n : ScriptScan) (y : Member) (x : Bool) → script_set_has (feed_bytes script_feeding n bytes) y ≡ x → IsScriptScan n
    → IsScriptScan (feed_bytes script_feeding n bytes) → TakesScriptIn element bytes n → script_scan_cut_error (feed_bytes script_feeding n bytes) ≡ None
    → js_has (script_scan_place (feed_bytes script_feeding n bytes)) y ≡ true → PlaceFrom n bytes y
end-by element bytes n y true i v w a e h =
    end-more element bytes n y a (end-set-itself (feed_bytes script_feeding n bytes) y w e h i) (set-fed-in element bytes n y v a i)
end-by element bytes n y false i v w a e h =
    end-later element bytes n y (script_set_has n y) refl a (end-set-whole (feed_bytes script_feeding n bytes) y w e h i)

pub script-end-from-in : (element : Bool) (bytes : List ℕ) (n : ScriptScan) (y : Member) → IsScriptScan n → IsScriptScan (feed_bytes script_feeding n bytes) → TakesScriptIn element bytes n
    → script_scan_cut_error (feed_bytes script_feeding n bytes) ≡ None → js_has (script_scan_place (feed_bytes script_feeding n bytes)) y ≡ true
    → PlaceFrom n bytes y
script-end-from-in element bytes n y v w a e h = end-by element bytes n y (script_set_has (feed_bytes script_feeding n bytes) y) refl v w a e h

pub script-end-from : (bytes : List ℕ) (n : ScriptScan) (y : Member) → IsScriptScan n → IsScriptScan (feed_bytes script_feeding n bytes) → TakesScript bytes n
    → script_scan_cut_error (feed_bytes script_feeding n bytes) ≡ None → js_has (script_scan_place (feed_bytes script_feeding n bytes)) y ≡ true
    → PlaceFrom n bytes y
script-end-from bytes n y v w a e h = script-end-from-in false bytes n y v w a e h

pub js-is : (c : Js) (y : Member) → js_has c y ≡ true → IsScriptMember y
js-is (js.Code s x) y h = or-either (IsScriptMember y) (senses_have s y) (js_tails_have x y) h (λ i. sense-is s y i) (λ i. tail-is x y i)
js-is (js.Regexp x) y h = slash-is x y h
js-is (js.Line s) y h = sense-is s y h
js-is (js.Block s x) y h = or-either (IsScriptMember y) (senses_have s y) (js_star_has x y) h (λ i. sense-is s y i) (λ i. star-is x y i)
js-is js.Dq y h = absurd (no h)
js-is js.Sq y h = absurd (no h)
