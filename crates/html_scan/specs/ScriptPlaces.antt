-- Where the bytes of a text stand that a script has been fed: those of the text from where the value has begun in it.
use Rattle.std.specs.Prelude.{◌≡◌, ℕ, zero, suc, ◌+◌, ◌-◌, ◌*◌, ◌<◌, ◌≤◌, Bool, true, false, List, [], ◌∷◌, ◌++◌, get_or, length, map, Option, Some, None, option_map, ⊤, if◌then◌else◌}
use Rattle.js_step.specs.ScriptScans.{ScriptScan, script_scan_error}
use Rattle.js_step.specs.ScriptScanViews.{script_cause_at}
use Rattle.js_step.specs.declared.cause.ScriptCause.{ScriptCause}
use Rattle.place_core.specs.page.Classes.{Class, White, QuotationMark, Apostrophe, GreaterThan, class_of}
use Rattle.place_core.specs.page.Html.{ends_value}
use Rattle.place_core.specs.page.References.{Form, Reference, Closed, Open, ReferenceStep, Closes, turn, flushed, next_reference}
use Rattle.place_core.specs.page.Tags.{DoubleQuoted, SingleQuoted, Unquoted}
use Rattle.place_core.specs.place.Errors.{FedByte, PathCause, PathRefusal, cut_places, fed_places, is_unknown_name, is_written, name_error, places_with, script_ending_refusal, standing_at}
use Rattle.place_core.specs.declared.body.Body.{Body}
use Rattle.place_core.specs.declared.body.Body.TheVariants as body
use Rattle.place_core.specs.declared.code.Code.{Code}
use Rattle.place_core.specs.declared.code.Code.TheVariants as code
use Rattle.place_core.specs.declared.quotes.Quotes.{Quotes}
use Rattle.place_core.specs.declared.quotes.Quotes.TheVariants as quotes
use Rattle.html_scan.specs.Scans.{Scan, InUrl, InScript, all_scripts, scan_fed_behind, scan_next, script_fed_byte}
use Rattle.html_scan.specs.Slices.{pending}
use Rattle.html_scan.specs.declared.references.OpenReference.{OpenReference}
use Rattle.html_scan.specs.declared.fed_run.FedRun.{FedRun}
use Rattle.html_scan.specs.declared.script_refusals.RefusedByte.{RefusedByte}

-- The bytes that a text feeds a script, the first one first, where its first byte stands at `k` and this reference is open before it; and
-- the reference that is open behind it.
abbrev pub fed_of : ℕ → Reference → List ℕ → List FedByte
fed_of k r [] = []
fed_of k r (b ∷ bs) = fed_places false k r (class_of b) b ++ fed_of (k + 1) (next_reference r (class_of b) b) bs

abbrev pub reference_behind : Reference → List ℕ → Reference
reference_behind r [] = r
reference_behind r (b ∷ bs) = reference_behind (next_reference r (class_of b) b) bs

-- where `k` bytes of a text have been read, of which the script was fed those from `begins` on: the places, the last one first
abbrev pub fed_text : List ℕ → ℕ → ℕ → List FedByte
fed_text text begins k = fed_of begins Closed (pending text begins k)

abbrev pub places_from : List ℕ → ℕ → ℕ → List ℕ
places_from text begins k = places_with (fed_text text begins k) []

-- A scan state in a script goes with what is kept: the value has begun, the reference is the one that the text ends in, and the places
-- are those of its bytes. In a URL no script is open.
abbrev pub has_begun : Quotes → Bool
has_begun quotes.Dq = true
has_begun quotes.Sq = true
has_begun (quotes.Bare x) = x.uq

pub record ScriptReads (text : List ℕ) (begins k : ℕ) (q : Quotes) (r : Reference) (places : List ℕ) : Type 0 where
  pub begun : begins ≤ k
  pub quotes : has_begun q ≡ true
  pub behind : reference_behind Closed (pending text begins k) ≡ r
  pub fed : places ≡ places_from text begins k

abbrev pub is_script_body : Body → Bool
is_script_body (body.Js j) = true
is_script_body x = false

abbrev pub ReadsScript : List ℕ → ℕ → ℕ → Scan → List ℕ → Type 0
ReadsScript text begins k (InScript v n r) places = ScriptReads text begins k v.quotes r places
ReadsScript text begins k (InUrl v t r) places = is_script_body v.body ≡ false
ReadsScript text begins k f places = ⊤

-- where the bytes begin that the script of the open value is fed, behind the byte at `k`
abbrev pub begins_behind : ℕ → Scan → ℕ → ℕ
begins_behind k (InScript v n r) begins = begins
begins_behind k f begins = k

-- Each byte of a text keeps that.
abbrev pub ScriptsReadOn : Type 0
ScriptsReadOn =
    (text : List ℕ) (begins k : ℕ) (f : Scan) (places : List ℕ) (c : Class) (b : ℕ) → k < length text → b ≡ get_or text k 0 → c ≡ class_of b
    → ReadsScript text begins k f places
    → ReadsScript text (begins_behind k f begins) (k + 1) (scan_next f c b) (scan_fed_behind k places f c b)

-- The bytes that one byte of a text feeds a value, by the places at which they stand: so many from one place on, each at its own or all
-- at that one; and the byte itself, or not.
abbrev pub run_places : Bool → ℕ → ℕ → List ℕ
run_places written from zero = []
run_places written from (suc n) = from ∷ run_places written (if written then from + 1 else from) n

abbrev pub itself_places : Bool → ℕ → List ℕ
itself_places true k = k ∷ []
itself_places false k = []

abbrev pub fed_at : FedRun → ℕ → List ℕ
fed_at x k = run_places x.written x.from x.count ++ itself_places x.itself k

abbrev pub flushed_run : ℕ → Bool → Form → List ℕ → List ℕ
flushed_run from equals f bytes = run_places (is_written equals f bytes) from (length (flushed true equals f bytes))

-- where those of the reference end; and how many bytes at most a script has been fed of a text by then
abbrev pub fed_last : FedRun → ℕ
fed_last x = x.from + (if x.written then x.count else 0)

abbrev pub fed_room : ℕ → Option OpenReference → ℕ
fed_room k None = 5 * k
fed_room k (Some r) = 5 * r.from + 1

abbrev pub places_fed : List FedByte → List ℕ
places_fed xs = map (λ x. x.place) xs

abbrev pub bytes_fed : List FedByte → List ℕ
bytes_fed xs = map (λ x. x.byte) xs

-- The first byte of these that a script refuses, with its number.
abbrev pub refused_or : ℕ → Option ScriptCause → Option RefusedByte → Option RefusedByte
refused_or number None rest = rest
refused_or number (Some e) rest = Some (record { number = number; cause = e })

abbrev pub first_refused : ScriptScan → ℕ → List ℕ → Option RefusedByte
first_refused n number [] = None
first_refused n number (b ∷ bs) =
    refused_or number (option_map script_cause_at (script_scan_error false n b)) (first_refused (script_fed_byte n b) (number + 1) bs)

-- a cause that is counted from the byte at `k`
abbrev pub cause_stands_at : ℕ → Option PathCause → Option PathRefusal
cause_stands_at k e = standing_at k e None

-- What a script refuses as any language does, at the byte that it is known by: a name that stands for no character, which a semicolon
-- ends; and the first byte that is refused, by the places of those that are fed.
abbrev pub name_closes : ReferenceStep → Form → List ℕ → Option PathCause
name_closes Closes f bytes = name_error (is_unknown_name f bytes) (length bytes + 1)
name_closes step f bytes = None

abbrev pub closed_name_error : (stops : Bool) → Class → Reference → Option PathCause
closed_name_error false c (Open f bytes) = name_closes (turn c f) f bytes
closed_name_error stops c r = None

abbrev pub located_cause : ℕ → List ℕ → Option RefusedByte → Option PathCause
located_cause k places None = None
located_cause k places (Some x) =
    Some (record { code = x.cause.code; back = k - get_or places x.number k; shown = k - get_or places x.number k })

-- And at the byte that the cause says, by the places of those that were fed before too.
abbrev pub place_standing : ℕ → (before current : List ℕ) → (number back : ℕ) → ℕ
place_standing k before current number back = get_or (before ++ current) (length before + number - back) k

abbrev pub standing_refusal : ℕ → (before current : List ℕ) → (number : ℕ) → ScriptCause → PathRefusal
standing_refusal k before current number e = record {
  code = e.code;
  at = place_standing k before current number e.back;
  shown = place_standing k before current number e.shown;
}

-- the end of the node, in this reference
abbrev pub cut_refusal : ℕ → List ℕ → ScriptScan → Reference → Option PathRefusal
cut_refusal k places n r = script_ending_refusal all_scripts k places n (cut_places k r)

-- Between these quotes: whether a byte feeds nothing itself, since it ends the value or does not begin it; and the reference that is
-- open, which is none where the value has not begun.
abbrev pub begins_nothing : Class → Bool
begins_nothing White = true
begins_nothing QuotationMark = true
begins_nothing Apostrophe = true
begins_nothing GreaterThan = true
begins_nothing c = false

abbrev pub stops : Quotes → Class → Bool
stops quotes.Dq c = ends_value DoubleQuoted c
stops quotes.Sq c = ends_value SingleQuoted c
stops (quotes.Bare x) c = if x.uq then ends_value Unquoted c else begins_nothing c

abbrev pub read_between : Quotes → Reference → Reference
read_between quotes.Dq r = r
read_between quotes.Sq r = r
read_between (quotes.Bare x) r = if x.uq then r else Closed

abbrev pub is_template_code : Code → Bool
is_template_code code.JSTemplate = true
is_template_code c = false
