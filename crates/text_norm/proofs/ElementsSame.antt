-- What is written in the element `style`: by a path and by its scan state the same, and by a scan state and one above it.
use Rattle.std.proofs.Common.{◌≡◌, ℕ, Bool, true, false, [], None, if◌then◌else◌, refl, ap}
use Rattle.css_lexer.specs.Classes.{style_class}
use Rattle.css_lexer.specs.Escapes.{StyleEscape, NoEscape, AfterBackslash, HexDigits, AfterReturn}
use Rattle.css_lexer.specs.Refusals.{refuses_solidus}
use Rattle.css_lexer.specs.States.{Style}
use Rattle.css_lexer.specs.Steps.{next_style_comment}
use Rattle.css_lexer.specs.Urls.{urls}
use Rattle.css_lexer.specs.Written.{style_written, style_written_at_cut, written_in_comment, written_in_word}
use Rattle.css_lexer.specs.declared.class.StyleClass.{StyleClass}
use Rattle.css_lexer.specs.declared.class.StyleClass.TheVariants as class
use Rattle.css_step.specs.StyleScanLaws.{IsStyleScan, scans_between, scans_less_than, scans_word, scans_solidus, scans_comment, scans_string, scans_behind_hole, scans_split_word, scans_solidus_before, scans_less_than_before, scans_star_before, scans_fresh, scans_bare, scans_quoted, scans_ended}
use Rattle.css_step.specs.StyleScans.{StyleScan, ScanStarBefore, is_style_start, style_scan_place, style_split_word}
use Rattle.css_step.specs.StyleSetLaws.{StyleScanBelow, below_itself, below_tails, below_split_word, below_star, below_bare, below_quoted}
use Rattle.place_core.specs.page.Classes.{Class}
use Rattle.place_core.specs.page.References.{Reference}
use Rattle.place_core.specs.page.States.{Nothing}
use Rattle.place_core.specs.page.Tags.{ValueState, OfKind, OfStyle, OfUrl, languages, OfScript}
use Rattle.place_core.specs.declared.place.Place.TheVariants as place
use Rattle.url_lexer.specs.States.{Url}
use Rattle.html_scan.specs.Scans.{At, InStyleElement, element_scan, style_feeding}
use Rattle.html_step.proofs.ElementSteps.{IsStyleState, states-alike}
use Rattle.html_step.proofs.FedAlike.{beside}
use Rattle.html_step.proofs.StyleOrder.{none-refused, styles-beside}
use Rattle.html_step.proofs.StylePaths.{start-of}
use Rattle.text_norm.proofs.WritingsAlike.{WritesAlike}
use Rattle.text_norm.specs.Scanned.{comment_scan_out, scan_cut_out, scan_open, scan_out, scan_writing, style_scan_cut_out, style_scan_out}
use Rattle.text_norm.specs.Written.{language_cut_out, language_loose_out, language_out, path_writing}
use Rattle.place_core.specs.page.References.{Closed}

-- A scan state below another one: at the beginning of a text some paths may have ended in the `*` of a comment, behind which a `/` is refused.
solidus-refused : (c : StyleClass) → refuses_solidus c ≡ None → [] ≡ comment_scan_out true c
solidus-refused class.Solidus e = cc
solidus-refused c e = refl

split-written : (i : StyleEscape) (c : StyleClass) (b : ℕ) → written_in_word i c b ≡ style_scan_out (style_split_word i) c b
split-written NoEscape c b = refl
split-written AfterBackslash c b = refl
split-written (HexDigits n) c b = refl
split-written AfterReturn c b = refl

split-cut : (i : StyleEscape) → [] ≡ style_scan_cut_out (style_split_word i)
split-cut NoEscape = refl
split-cut AfterBackslash = refl
split-cut (HexDigits n) = refl
split-cut AfterReturn = refl

below-written : (n m : StyleScan) (b : ℕ) → StyleScanBelow n m → style_feeding.refuses m b ≡ None → style_scan_out n (style_class b) b ≡ style_scan_out m (style_class b) b
below-written _ _ b (below_itself n) e = refl
below-written _ _ b (below_tails x y h) e = refl
below-written _ _ b (below_split_word w i) e = split-written i (style_class b) b
below-written _ _ b below_star e = solidus-refused (style_class b) (none-refused ScanStarBefore b e)
below-written _ _ b (below_bare s r t h) e = refl
below-written _ _ b (below_quoted q i s r t h) e = refl

pub below-cut : (n m : StyleScan) → StyleScanBelow n m → style_scan_cut_out n ≡ style_scan_cut_out m
below-cut _ _ (below_itself n) = refl
below-cut _ _ (below_tails x y h) = refl
below-cut _ _ (below_split_word w i) = split-cut i
below-cut _ _ below_star = refl
below-cut _ _ (below_bare s r t h) = refl
below-cut _ _ (below_quoted q i s r t h) = refl

pub scans-write : WritesAlike scan_writing scan_writing StyleScanBelow
scans-write = record { fed = styles-beside; bytes = λ n m b h e. below-written n m b h e; cuts = below-cut }

-- A path and its scan state.
comment-written : (star : Bool) (c : StyleClass) → written_in_comment {U = Url} (next_style_comment star c) ≡ comment_scan_out star c
comment-written true class.Solidus = refl
comment-written true class.Asterisk = refl
comment-written false class.Asterisk = refl
comment-written true c = refl
comment-written false c = refl

path-written : (s : Style Url) (n : StyleScan) (b : ℕ) → IsStyleScan s n → style_written urls s b ≡ style_scan_out n (style_class b) b
path-written _ _ b (scans_between k) = refl
path-written _ _ b scans_less_than = refl
path-written _ _ b (scans_word w i) = refl
path-written _ _ b (scans_solidus k) = refl
path-written _ _ b (scans_comment star) = comment-written star (style_class b)
path-written _ _ b (scans_string q i) = refl
path-written _ _ b (scans_behind_hole solidus less) = refl
path-written _ _ b (scans_split_word i) = split-written i (style_class b) b
path-written _ _ b (scans_solidus_before k) = refl
path-written _ _ b scans_less_than_before = refl
path-written _ _ b scans_star_before = comment-written true (style_class b)
path-written _ _ b scans_fresh = refl
path-written _ _ b (scans_bare u) = refl
path-written _ _ b (scans_quoted q i u) = refl
path-written _ _ b (scans_ended u) = refl

path-cut : (s : Style Url) (n : StyleScan) → IsStyleScan s n → style_written_at_cut s ≡ style_scan_cut_out n
path-cut _ _ (scans_between k) = refl
path-cut _ _ scans_less_than = refl
path-cut _ _ (scans_word w i) = refl
path-cut _ _ (scans_solidus k) = refl
path-cut _ _ (scans_comment star) = refl
path-cut _ _ (scans_string q i) = refl
path-cut _ _ (scans_behind_hole solidus less) = refl
path-cut _ _ (scans_split_word i) = split-cut i
path-cut _ _ (scans_solidus_before k) = refl
path-cut _ _ scans_less_than_before = refl
path-cut _ _ scans_star_before = refl
path-cut _ _ scans_fresh = refl
path-cut _ _ (scans_bare u) = refl
path-cut _ _ (scans_quoted q i u) = refl
path-cut _ _ (scans_ended u) = refl

state-written : (v : ValueState) (n : StyleScan) (b : ℕ) → IsStyleState v n → language_out v b ≡ style_scan_out n (style_class b) b
state-written (OfStyle s) n b i = path-written s n b i
state-written (OfKind k) n b i = absurd i
state-written (OfUrl u) n b i = absurd i
state-written (OfScript s) n b i = absurd i

state-cut : (v : ValueState) (n : StyleScan) → IsStyleState v n → language_cut_out v ≡ style_scan_cut_out n
state-cut (OfStyle s) n i = path-cut s n i
state-cut (OfKind k) n i = absurd i
state-cut (OfUrl u) n i = absurd i
state-cut (OfScript s) n i = absurd i

pub paths-write : WritesAlike (path_writing languages) scan_writing IsStyleState
paths-write = record { fed = beside states-alike; bytes = λ v n b i e. state-written v n b i; cuts = state-cut }

-- A style that has been scanned is written so, at a place and in a lexeme.
out-by : (x : Bool) (n : StyleScan) (c : Class) (b : ℕ) (r : Reference) → is_style_start n ≡ x
    → scan_out (if x then At (place.Style (style_scan_place n)) else InStyleElement n Nothing) c b r ≡ language_loose_out scan_writing c b n
out-by true n c b r h = ap (λ (m : StyleScan). language_loose_out scan_writing c b m) (start-of n h)
out-by false n c b r h = refl

pub element-out : (n : StyleScan) (c : Class) (b : ℕ) (r : Reference) → scan_out (element_scan n) c b r ≡ language_loose_out scan_writing c b n
element-out n c b r = out-by (is_style_start n) n c b r refl

open-by : (x : Bool) (n : StyleScan) (c : Class) (b : ℕ) (r : Reference) → scan_open (if x then At (place.Style (style_scan_place n)) else InStyleElement n Nothing) c b r ≡ Closed
open-by true n c b r = refl
open-by false n c b r = refl

pub element-open : (n : StyleScan) (c : Class) (b : ℕ) (r : Reference) → scan_open (element_scan n) c b r ≡ Closed
element-open n c b r = open-by (is_style_start n) n c b r

cut-by : (x : Bool) (n : StyleScan) (r : Reference) → is_style_start n ≡ x
    → scan_cut_out (if x then At (place.Style (style_scan_place n)) else InStyleElement n Nothing) r ≡ style_scan_cut_out n
cut-by true n r h = ap style_scan_cut_out (start-of n h)
cut-by false n r h = refl

pub element-cut : (n : StyleScan) (r : Reference) → scan_cut_out (element_scan n) r ≡ style_scan_cut_out n
element-cut n r = cut-by (is_style_start n) n r refl
