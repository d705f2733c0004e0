-- What a script refuses at a byte of a text and at the ends, where it stands.
use Rattle.std.proofs.Common.{◌≡◌, ℕ, ◌+◌, ◌-◌, Bool, true, false, ◌&&◌, List, [], ◌∷◌, length, reverse, refl, sym, ap, ◌∙◌, if◌then◌else◌}
use Rattle.std.specs.Prelude.{Option, Some, None, option_map}
use Rattle.js_lexer.specs.Refusals as script
use Rattle.js_lexer.specs.Refusals.{Cause}
use Rattle.js_step.specs.ScriptScans.{ScriptScan, script_scan_cut_error}
use Rattle.js_step.specs.ScriptScanViews.{script_cause_at}
use Rattle.js_step.specs.declared.cause.ScriptCause.{ScriptCause}
use Rattle.place_core.specs.page.Classes.{Class}
use Rattle.place_core.specs.page.Html.{ends_value}
use Rattle.place_core.specs.page.References.{Form, Reference, Closed, Open, as_it_stands, flushed}
use Rattle.place_core.specs.page.Tags.{feed_bytes, script_code, Unquoted}
use Rattle.place_core.specs.place.Errors.{FedByte, PathRefusal, at_value_end, cut_places, deep_at, fed_places, first_path_refusal, is_told_at_node_end, is_written, placed_bytes, places_with, script_fed, script_fed_refusal, script_refusal_at, value_end_cause}
use Rattle.place_core.specs.declared.quotes.Quotes.{Quotes}
use Rattle.place_core.specs.declared.quotes.Quotes.TheVariants as quotes
use Rattle.html_scan.specs.Scans.{all_scripts, ends_quoted, quoted_places, script_fed_byte, script_feeding, script_step_deep, script_step_refusal}
use Rattle.html_scan.specs.ScriptPlaces.{bytes_fed, cut_refusal, fed_text, first_refused, is_template_code, places_from, places_fed, read_between, standing_refusal, stops}
use Rattle.html_scan.specs.declared.script_refusals.RefusedByte.{RefusedByte}
use Rattle.html_scan.proofs.FedRuns.{bytes_placed}
use Rattle.html_scan.proofs.ScriptErrors.{quoted_fed}
use Rattle.html_scan.proofs.ScriptStandings.{end_stands, places_reversed, stands}

pub from_reversed : (text : List ℕ) (begins k : ℕ) → places_from text begins k ≡ reverse (places_fed (fed_text text begins k))
from_reversed text begins k = places_reversed (fed_text text begins k) []

-- which causes are told where the node ends
same_template : (r : script.Refusal) → is_template_code (script_code r) ≡ is_told_at_node_end r
same_template script.PartialCharset = refl
same_template script.PartialEscape = refl
same_template script.SlashAmbig = refl
same_template script.JSTemplate = refl
same_template script.SplitToken = refl
same_template script.BadString = refl
same_template script.HtmlInScript = refl

some_same : {X : Type 0} (x y : X) → Some x ≡ Some y → x ≡ y
some_same x y e = cc

-- a byte that is refused of those that are fed
pub fed_found : (k : ℕ) (before places : List ℕ) (n : ScriptScan) (xs : List FedByte) (rest : Option PathRefusal) (x : RefusedByte) → places ≡ reverse before
    → Some x ≡ first_refused n 0 (bytes_fed xs)
    → Some (standing_refusal k before (places_fed xs) x.number x.cause) ≡ first_path_refusal (script_fed_refusal all_scripts places n xs) rest
fed_found k before places n xs rest x p e = rw (p, stands k before n xs, ← e) refl

fed_passed : (k : ℕ) (before places : List ℕ) (n : ScriptScan) (xs : List FedByte) (rest : Option PathRefusal) → places ≡ reverse before
    → None ≡ first_refused n 0 (bytes_fed xs) → rest ≡ first_path_refusal (script_fed_refusal all_scripts places n xs) rest
fed_passed k before places n xs rest p e = rw (p, stands k before n xs, ← e) refl

-- the end of a value
end_told : (k number : ℕ) (before : List ℕ) (xs : List FedByte) (o : Option Cause) (e : ScriptCause) → number ≡ length (places_fed xs)
    → Some e ≡ option_map script_cause_at o → is_template_code e.code ≡ false
    → Some (standing_refusal k before (places_fed xs) number e) ≡ script_refusal_at (k ∷ places_with xs (reverse before)) (at_value_end o)
end_told k number before xs None e long s t = absurd cc
end_told k number before xs (Some d) e long s t =
    let same : e ≡ script_cause_at d = some_same e (script_cause_at d) s in
    let untold : is_told_at_node_end d.refusal ≡ false = sym (same_template d.refusal) ∙ ap (λ (x : ScriptCause). is_template_code x.code) (sym same) ∙ t in
    rw (untold, same) (sym (end_stands k before xs d number long))

end_left : (places : List ℕ) (o : Option Cause) (e : ScriptCause) → Some e ≡ option_map script_cause_at o → is_template_code e.code ≡ true
    → None ≡ script_refusal_at places (at_value_end o)
end_left places None e s t = absurd cc
end_left places (Some d) e s t =
    let same : e ≡ script_cause_at d = some_same e (script_cause_at d) s in
    let told : is_told_at_node_end d.refusal ≡ true = sym (same_template d.refusal) ∙ ap (λ (x : ScriptCause). is_template_code x.code) (sym same) ∙ t in
    rw told refl

end_passed : (places : List ℕ) (o : Option Cause) → None ≡ option_map script_cause_at o → None ≡ script_refusal_at places (at_value_end o)
end_passed places None s = refl
end_passed places (Some d) s = absurd cc

-- at a byte
abbrev fed_between : Quotes → ℕ → Reference → Class → ℕ → List FedByte
fed_between q k r c b = fed_places (stops q c) k (read_between q r) c b

abbrev end_between : Quotes → ℕ → ScriptScan → Reference → Class → ℕ → Option Cause
end_between q k n r c b = value_end_cause all_scripts (ends_quoted q c) (script_fed all_scripts n (quoted_places q k r c b))

pub byte_found : (q : Quotes) (k : ℕ) (before places : List ℕ) (n : ScriptScan) (r : Reference) (c : Class) (b : ℕ) (x : RefusedByte) → places ≡ reverse before
    → Some x ≡ first_refused n 0 (bytes_fed (fed_between q k r c b))
    → Some (standing_refusal k before (places_fed (fed_between q k r c b)) x.number x.cause) ≡ script_step_refusal q k places n r c b
byte_found q k before places n r c b x p e = rw (quoted_fed q k r c b) (fed_found k before places n (fed_between q k r c b) _ x p e)

pub byte_end_told : (q : Quotes) (k number : ℕ) (before places : List ℕ) (n : ScriptScan) (r : Reference) (c : Class) (b : ℕ) (e : ScriptCause) → places ≡ reverse before
    → None ≡ first_refused n 0 (bytes_fed (fed_between q k r c b)) → number ≡ length (places_fed (fed_between q k r c b))
    → Some e ≡ option_map script_cause_at (end_between q k n r c b) → is_template_code e.code ≡ false
    → Some (standing_refusal k before (places_fed (fed_between q k r c b)) number e) ≡ script_step_refusal q k places n r c b
byte_end_told q k number before places n r c b e p none long s t =
    end_told k number before (fed_between q k r c b) (end_between q k n r c b) e long s t
    ∙ rw (quoted_fed q k r c b, p) (fed_passed k before (reverse before) n (fed_between q k r c b) _ refl none)

pub byte_end_left : (q : Quotes) (k : ℕ) (before places : List ℕ) (n : ScriptScan) (r : Reference) (c : Class) (b : ℕ) (e : ScriptCause) → places ≡ reverse before
    → None ≡ first_refused n 0 (bytes_fed (fed_between q k r c b))
    → Some e ≡ option_map script_cause_at (end_between q k n r c b) → is_template_code e.code ≡ true → None ≡ script_step_refusal q k places n r c b
byte_end_left q k before places n r c b e p none s t =
    end_left (k ∷ places_with (quoted_places q k r c b) places) (end_between q k n r c b) e s t
    ∙ rw (quoted_fed q k r c b, p) (fed_passed k before (reverse before) n (fed_between q k r c b) _ refl none)

pub byte_passed : (q : Quotes) (k : ℕ) (before places : List ℕ) (n : ScriptScan) (r : Reference) (c : Class) (b : ℕ) → places ≡ reverse before
    → None ≡ first_refused n 0 (bytes_fed (fed_between q k r c b)) → None ≡ option_map script_cause_at (end_between q k n r c b)
    → None ≡ script_step_refusal q k places n r c b
byte_passed q k before places n r c b p none s =
    end_passed (k ∷ places_with (quoted_places q k r c b) places) (end_between q k n r c b) s
    ∙ rw (quoted_fed q k r c b, p) (fed_passed k before (reverse before) n (fed_between q k r c b) _ refl none)

-- literals that nest too deep
pub shown_stands : {x y : PathRefusal} → Some x ≡ Some y → Some x.shown ≡ Some y.shown
shown_stands {x} {y} e = ap (λ (z : PathRefusal). Some z.shown) (some_same x y e)

deep_shown : (k number : ℕ) (before : List ℕ) (xs : List FedByte) (o : Option Cause) (e : ScriptCause) → number ≡ length (places_fed xs)
    → Some e ≡ option_map script_cause_at o → is_template_code e.code ≡ true
    → Some ((standing_refusal k before (places_fed xs) number e).shown) ≡ deep_at (k ∷ places_with xs (reverse before)) o
deep_shown k number before xs None e long s t = absurd cc
deep_shown k number before xs (Some d) e long s t =
    let same : e ≡ script_cause_at d = some_same e (script_cause_at d) s in
    let told : is_told_at_node_end d.refusal ≡ true = sym (same_template d.refusal) ∙ ap (λ (x : ScriptCause). is_template_code x.code) (sym same) ∙ t in
    rw (told, same) (sym (shown_stands (end_stands k before xs d number long)))

pub deep_told : (q : Quotes) (k number : ℕ) (before places : List ℕ) (n : ScriptScan) (r : Reference) (c : Class) (b : ℕ) (e : ScriptCause) → places ≡ reverse before
    → number ≡ length (places_fed (fed_between q k r c b)) → Some e ≡ option_map script_cause_at (end_between q k n r c b) → is_template_code e.code ≡ true
    → Some ((standing_refusal k before (places_fed (fed_between q k r c b)) number e).shown) ≡ script_step_deep q k places n r c b
deep_told q k number before places n r c b e p long s t =
    deep_shown k number before (fed_between q k r c b) (end_between q k n r c b) e long s t ∙ rw (quoted_fed q k r c b, p) refl

deep_none : (places : List ℕ) (o : Option Cause) → None ≡ option_map script_cause_at o → None ≡ deep_at places o
deep_none places None s = refl
deep_none places (Some d) s = absurd cc

pub deep_passed : (q : Quotes) (k : ℕ) (places : List ℕ) (n : ScriptScan) (r : Reference) (c : Class) (b : ℕ)
    → None ≡ option_map script_cause_at (end_between q k n r c b) → None ≡ script_step_deep q k places n r c b
deep_passed q k places n r c b s = deep_none (k ∷ places_with (quoted_places q k r c b) places) (end_between q k n r c b) s

deep_untold : (places : List ℕ) (o : Option Cause) (e : ScriptCause) → Some e ≡ option_map script_cause_at o → is_template_code e.code ≡ false → None ≡ deep_at places o
deep_untold places None e s t = absurd cc
deep_untold places (Some d) e s t =
    let same : e ≡ script_cause_at d = some_same e (script_cause_at d) s in
    let untold : is_told_at_node_end d.refusal ≡ false = sym (same_template d.refusal) ∙ ap (λ (x : ScriptCause). is_template_code x.code) (sym same) ∙ t in
    rw untold refl

pub deep_left : (q : Quotes) (k : ℕ) (places : List ℕ) (n : ScriptScan) (r : Reference) (c : Class) (b : ℕ) (e : ScriptCause)
    → Some e ≡ option_map script_cause_at (end_between q k n r c b) → is_template_code e.code ≡ false → None ≡ script_step_deep q k places n r c b
deep_left q k places n r c b e s t = deep_untold (k ∷ places_with (quoted_places q k r c b) places) (end_between q k n r c b) e s t

-- at the end of a node
pub fed_placed : (written : Bool) (k : ℕ) (n : ScriptScan) (xs : List ℕ) → script_fed all_scripts n (placed_bytes written k xs) ≡ feed_bytes script_feeding n xs
fed_placed written k n [] = refl
fed_placed written k n (x ∷ xs) = fed_placed written (if written then k + 1 else k) (script_fed_byte n x) xs

cut_told : (k number : ℕ) (before : List ℕ) (xs : List FedByte) (o : Option Cause) (e : ScriptCause) → number ≡ length (places_fed xs)
    → Some e ≡ option_map script_cause_at o
    → Some (standing_refusal k before (places_fed xs) number e) ≡ script_refusal_at (k ∷ places_with xs (reverse before)) o
cut_told k number before xs None e long s = absurd cc
cut_told k number before xs (Some d) e long s = rw (some_same e (script_cause_at d) s) (sym (end_stands k before xs d number long))

cut_none : (places : List ℕ) (o : Option Cause) → None ≡ option_map script_cause_at o → None ≡ script_refusal_at places o
cut_none places None s = refl
cut_none places (Some d) s = absurd cc

pub cut_found : (k : ℕ) (before places : List ℕ) (n : ScriptScan) (r : Reference) (x : RefusedByte) → places ≡ reverse before
    → Some x ≡ first_refused n 0 (as_it_stands r)
    → Some (standing_refusal k before (places_fed (cut_places k r)) x.number x.cause) ≡ cut_refusal k places n r
cut_found k before places n r x p e =
    fed_found k before places n (cut_places k r) _ x p (rw (bytes_placed true (k - length (as_it_stands r)) (as_it_stands r)) e)

pub cut_ends : (k number : ℕ) (before places : List ℕ) (n : ScriptScan) (r : Reference) (e : ScriptCause) → places ≡ reverse before
    → None ≡ first_refused n 0 (as_it_stands r) → number ≡ length (places_fed (cut_places k r))
    → Some e ≡ option_map script_cause_at (script_scan_cut_error (feed_bytes script_feeding n (as_it_stands r)))
    → Some (standing_refusal k before (places_fed (cut_places k r)) number e) ≡ cut_refusal k places n r
cut_ends k number before places n r e p none long s =
    cut_told k number before (cut_places k r) (script_scan_cut_error (script_fed all_scripts n (cut_places k r))) e long
    (rw (fed_placed true (k - length (as_it_stands r)) n (as_it_stands r)) s)
    ∙ rw p (fed_passed k before (reverse before) n (cut_places k r) _ refl (rw (bytes_placed true (k - length (as_it_stands r)) (as_it_stands r)) none))

pub cut_passed : (k : ℕ) (before places : List ℕ) (n : ScriptScan) (r : Reference) → places ≡ reverse before
    → None ≡ first_refused n 0 (as_it_stands r)
    → None ≡ option_map script_cause_at (script_scan_cut_error (feed_bytes script_feeding n (as_it_stands r))) → None ≡ cut_refusal k places n r
cut_passed k before places n r p none s =
    cut_none (k ∷ places_with (cut_places k r) places) (script_scan_cut_error (script_fed all_scripts n (cut_places k r)))
    (rw (fed_placed true (k - length (as_it_stands r)) n (as_it_stands r)) s)
    ∙ rw p (fed_passed k before (reverse before) n (cut_places k r) _ refl (rw (bytes_placed true (k - length (as_it_stands r)) (as_it_stands r)) none))

-- Where a byte ends the value, it feeds what the reference is that is open.
and_first : (x y : Bool) → (x && y) ≡ true → x ≡ true
and_first true y e = refl
and_first false y e = absurd cc

and_second : (x y : Bool) → (x && y) ≡ true → y ≡ true
and_second true y e = e
and_second false y e = absurd cc

ended_fed : (q : Quotes) (k : ℕ) (r : Reference) (c : Class) (b : ℕ) → ends_quoted q c ≡ true → quoted_places q k r c b ≡ fed_places true k r c b
ended_fed quotes.Dq k r c b e = rw e refl
ended_fed quotes.Sq k r c b e = rw e refl
ended_fed (quotes.Bare x) k r c b e = rw (and_first x.uq (ends_value Unquoted c) e, and_second x.uq (ends_value Unquoted c) e) refl

pub ended_closed : (q : Quotes) (k : ℕ) (n : ScriptScan) (c : Class) (b : ℕ) → ends_quoted q c ≡ true → n ≡ script_fed all_scripts n (quoted_places q k Closed c b)
ended_closed q k n c b e = rw (ended_fed q k Closed c b e) refl

pub ended_open : (q : Quotes) (k : ℕ) (n : ScriptScan) (f : Form) (read : List ℕ) (c : Class) (b : ℕ) → ends_quoted q c ≡ true
    → feed_bytes script_feeding n (flushed true false f read) ≡ script_fed all_scripts n (quoted_places q k (Open f read) c b)
ended_open q k n f read c b e =
    rw (ended_fed q k (Open f read) c b e) (sym (fed_placed (is_written false f read) (k - (length read + 1)) n (flushed true false f read)))
