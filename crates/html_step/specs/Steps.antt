-- The place after a text and after a hole, or what refuses them there.
use Rattle.std.specs.Prelude.{ℕ, zero, suc, ◌+◌, ◌-◌, List, [], ◌∷◌, Option, Some, None, Result, Ok, Err}
use Rattle.place_core.specs.page.Classes.{Class, class_of}
use Rattle.place_core.specs.place.Errors.{PathCause, PathRefusal, TextRead, nothing_read, or_deep, before_cause, or_place}
use Rattle.place_core.specs.place.LastLexeme.{last_lexeme_start}
use Rattle.place_core.specs.declared.code.Code.{Code}
use Rattle.place_core.specs.declared.code.Code.TheVariants as code
use Rattle.place_core.specs.declared.place.Place.{Place}
use Rattle.place_core.specs.declared.step_err.StepErr.{StepErr}
use Rattle.html_scan.specs.Scans.{Scan, At, scan_next, scan_error, scan_place, scan_shown, scan_cut_error, scan_lexeme_error, scan_reference, scan_script_refusal, scan_script_cut_refusal, scan_fed_behind, scan_deep_behind}

-- what a text leads to, whatever is refused
abbrev pub scan_after : List ℕ → Scan → Scan
scan_after [] f = f
scan_after (b ∷ bs) f = scan_after bs (scan_next f (class_of b) b)

-- the place after bytes that stand at a place of their text, or the refusal with the least place
abbrev pub unless_refused : ℕ → Option PathCause → Result Place PathRefusal → Result Place PathRefusal
unless_refused k None r = r
unless_refused k (Some e) r = Err (record { code = e.code; at = k - e.back; shown = k - e.shown })

abbrev pub unless_broken_off : ℕ → ℕ → Option Code → Place → Result Place PathRefusal
unless_broken_off k since None p = Ok p
unless_broken_off k since (Some e) p = Err (record { code = e; at = k; shown = since })

-- A script may refuse a byte that stands before the one by which that is known; literals of a value that nest too deep are refused at the end.
abbrev pub unless_refused_in_script : ℕ → Option PathRefusal → Option PathCause → Result Place PathRefusal → Result Place PathRefusal
unless_refused_in_script k None o r = unless_refused k o r
unless_refused_in_script k (Some x) o r = Err (before_cause k x o)

abbrev pub unless_too_deep : ℕ → Option ℕ → Result Place PathRefusal → Result Place PathRefusal
unless_too_deep k None r = r
unless_too_deep k (Some shown) r = Err (record { code = code.JSTemplate; at = k; shown = shown })

abbrev pub scan_read_behind : ℕ → TextRead → Scan → Class → ℕ → TextRead
scan_read_behind k since f c b = record {
  last = last_lexeme_start k since.last (scan_reference f) c b;
  fed = scan_fed_behind k since.fed f c b;
  deep = or_deep since.deep (scan_deep_behind k since.fed f c b);
}

-- of bytes that stand at `k` in their text, where `since` is what is kept of those before
abbrev pub stepped : ℕ → TextRead → List ℕ → Scan → Result Place PathRefusal
stepped k since [] f =
    unless_refused_in_script k (scan_script_cut_refusal k since.fed f) (scan_cut_error f)
    (unless_too_deep k since.deep (unless_broken_off k since.last (scan_lexeme_error f) (scan_place f)))
stepped k since (b ∷ bs) f =
    unless_refused_in_script k (scan_script_refusal k since.fed f (class_of b) b) (scan_error f (class_of b) b)
    (stepped (k + 1) (scan_read_behind k since f (class_of b) b) bs (scan_next f (class_of b) b))

-- The place that is shown before a byte of a text: the last one that there is up to this byte.
abbrev pub shown_scan : ℕ → List ℕ → Scan → Option Place → Option Place
shown_scan zero bytes f before = or_place (scan_shown f bytes) before
shown_scan (suc k) [] f before = or_place (scan_shown f []) before
shown_scan (suc k) (b ∷ bs) f before = shown_scan k bs (scan_next f (class_of b) b) (or_place (scan_shown f (b ∷ bs)) before)

abbrev pub or_shown : Option Place → Place → Place
or_shown (Some p) before = p
or_shown None before = before

abbrev pub place_before : List ℕ → ℕ → Place → Place
place_before bytes at p = or_shown (shown_scan at bytes (At p) None) p

abbrev pub with_place_before : List ℕ → Place → Result Place PathRefusal → Result Place (StepErr Place)
with_place_before bytes p (Ok q) = Ok q
with_place_before bytes p (Err r) = Err (record { code = r.code; at = r.at; before = place_before bytes r.shown p })

abbrev pub after_text : List ℕ → Place → Result Place (StepErr Place)
after_text bytes p = with_place_before bytes p (stepped 0 nothing_read bytes (At p))
