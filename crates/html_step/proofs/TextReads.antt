-- How far the code has come with a text: what it knows of the bytes that have been read is what the definition keeps of them, but for the places of the bytes
-- of a script that is open no more.
use Rattle.std.proofs.Common.{◌≡◌, ◌<◌, ◌+◌, ℕ, List, [], length, drop, get_or, Option, Some, None, Result, refl, sym, ap, ◌∙◌, arith}
use Rattle.std.proofs.lemmas.List.{drop_all, drop_more}
use Rattle.place_core.specs.page.Classes.{Class, class_of}
use Rattle.place_core.specs.place.Errors.{PathCause, PathRefusal, TextRead, or_deep}
use Rattle.place_core.specs.place.LastLexeme.{last_lexeme_start}
use Rattle.place_core.specs.declared.place.Place.{Place}
use Rattle.html_scan.specs.Scans.{Scan, scan_cut_error, scan_deep_behind, scan_error, scan_fed_behind, scan_lexeme_error, scan_next, scan_place, scan_reference, scan_script_cut_refusal, scan_script_refusal}
use Rattle.html_scan.specs.ScriptPlaces.{ReadsScript, begins_behind, places_from}
use Rattle.html_scan.proofs.ScriptReading.{cuts_alike, deep_alike, reads_on, refuses_alike}
use Rattle.html_step.specs.StepViews.{StandsFirst}
use Rattle.html_step.specs.Steps.{scan_read_behind, stepped, unless_broken_off, unless_refused, unless_refused_in_script, unless_too_deep}

abbrev pub known : ℕ → List ℕ → Option ℕ → TextRead
known last fed deep = record { last = last; fed = fed; deep = deep }

pub record TextReads (text : List ℕ) (begins k : ℕ) (f : Scan) (last : ℕ) (deep : Option ℕ) (whole : Result Place PathRefusal) : Type 0 where
  pub fed : List ℕ
  pub reads : ReadsScript text begins k f fed
  pub steps : stepped k (known last fed deep) (drop k text) f ≡ whole

-- what is answered at a byte
at-byte : (text : List ℕ) (k begins : ℕ) (since : TextRead) (f : Scan) (e : Option PathCause) → k < length text → ReadsScript text begins k f since.fed
    → StandsFirst k e (scan_script_refusal k (places_from text begins k) f (class_of (get_or text k 0)) (get_or text k 0)) (scan_error f (class_of (get_or text k 0)) (get_or text k 0))
    → stepped k since (drop k text) f
    ≡ unless_refused k e
    (stepped (k + 1) (scan_read_behind k since f (class_of (get_or text k 0)) (get_or text k 0)) (drop (k + 1) text) (scan_next f (class_of (get_or text k 0)) (get_or text k 0)))
at-byte text k begins since f e here w h =
    let b = get_or text k 0 in
    let c = class_of b in
    let rest = stepped (k + 1) (scan_read_behind k since f c b) (drop (k + 1) text) (scan_next f c b) in
    ap (λ (left : List ℕ). stepped k since left f) (drop_more text k 0 here)
    ∙ ap (λ (x : Option PathRefusal). unless_refused_in_script k x (scan_error f c b) rest) (sym (refuses_alike text begins k f since.fed c b w))
    ∙ sym (h rest)

-- one byte more
next-by : (text : List ℕ) (k begins last : ℕ) (deep : Option ℕ) (f g : Scan) (whole : Result Place PathRefusal) (last_behind begins_there : ℕ)
    (deep_behind : Option ℕ) → k < length text
    → StandsFirst k None (scan_script_refusal k (places_from text begins k) f (class_of (get_or text k 0)) (get_or text k 0)) (scan_error f (class_of (get_or text k 0)) (get_or text k 0))
    → last_behind ≡ last_lexeme_start k last (scan_reference f) (class_of (get_or text k 0)) (get_or text k 0) → begins_there ≡ begins_behind k f begins
    → deep_behind ≡ or_deep deep (scan_deep_behind k (places_from text begins k) f (class_of (get_or text k 0)) (get_or text k 0))
    → g ≡ scan_next f (class_of (get_or text k 0)) (get_or text k 0)
    → TextReads text begins k f last deep whole → TextReads text begins_there (k + 1) g last_behind deep_behind whole
next-by text k begins last deep f g whole last_behind begins_there deep_behind here h l m n e r =
    let b = get_or text k 0 in
    let c = class_of b in
    let d = n ∙ ap (or_deep deep) (deep_alike text begins k f r.fed c b r.reads) in
    record {
      fed = scan_fed_behind k r.fed f c b;
      reads = rw (m, e) (reads_on text begins k f r.fed c b here refl refl r.reads);
      steps = rw (l, d, e) (sym (at-byte text k begins (known last r.fed deep) f None here r.reads h) ∙ r.steps);
    }

pub reads-next : (text : List ℕ) (k begins last : ℕ) (deep : Option ℕ) (f g : Scan) (c : Class) (whole : Result Place PathRefusal) (last_behind begins_there : ℕ)
    (deep_behind : Option ℕ) → k < length text → c ≡ class_of (get_or text k 0)
    → StandsFirst k None (scan_script_refusal k (places_from text begins k) f c (get_or text k 0)) (scan_error f c (get_or text k 0))
    → last_behind ≡ last_lexeme_start k last (scan_reference f) c (get_or text k 0) → begins_there ≡ begins_behind k f begins
    → deep_behind ≡ or_deep deep (scan_deep_behind k (places_from text begins k) f c (get_or text k 0))
    → g ≡ scan_next f c (get_or text k 0)
    → TextReads text begins k f last deep whole → TextReads text begins_there (k + 1) g last_behind deep_behind whole
reads-next text k begins last deep f g c whole last_behind begins_there deep_behind here i h l m n e r =
    next-by text k begins last deep f g whole last_behind begins_there deep_behind here (rw i at h) (rw i at l) m (rw i at n) (rw i at e) r

-- refused at a byte
pub reads-refused : (text : List ℕ) (k begins last : ℕ) (deep : Option ℕ) (f : Scan) (c : Class) (whole : Result Place PathRefusal) (e : PathCause)
    → k < length text → c ≡ class_of (get_or text k 0)
    → StandsFirst k (Some e) (scan_script_refusal k (places_from text begins k) f c (get_or text k 0)) (scan_error f c (get_or text k 0))
    → TextReads text begins k f last deep whole → unless_refused k (Some e) whole ≡ whole
reads-refused text k begins last deep f c whole e here i h r =
    sym (at-byte text k begins (known last r.fed deep) f (Some e) here r.reads (rw i at h)) ∙ r.steps

-- the end of the text
end-by : (text : List ℕ) (k n begins last : ℕ) (deep : Option ℕ) (f : Scan) (whole : Result Place PathRefusal) (e : Option PathCause) → n ≡ k → drop k text ≡ []
    → StandsFirst n e (scan_script_cut_refusal n (places_from text begins n) f) (scan_cut_error f)
    → TextReads text begins k f last deep whole
    → unless_refused n e (unless_too_deep n deep (unless_broken_off n last (scan_lexeme_error f) (scan_place f))) ≡ whole
end-by text k n begins last deep f whole e i d h r =
    let rest = unless_too_deep k deep (unless_broken_off k last (scan_lexeme_error f) (scan_place f)) in
    rw i ((rw i at h) rest
    ∙ ap (λ (x : Option PathRefusal). unless_refused_in_script k x (scan_cut_error f) rest) (cuts_alike text begins k f r.fed r.reads)
    ∙ ap (λ (left : List ℕ). stepped k (known last r.fed deep) left f) (sym d) ∙ r.steps)

pub reads-end : (text : List ℕ) (k begins last : ℕ) (deep : Option ℕ) (f : Scan) (whole : Result Place PathRefusal) (e : Option PathCause) → k ≡ length text
    → StandsFirst (length text) e (scan_script_cut_refusal (length text) (places_from text begins (length text)) f) (scan_cut_error f)
    → TextReads text begins k f last deep whole
    → unless_refused (length text) e (unless_too_deep (length text) deep (unless_broken_off (length text) last (scan_lexeme_error f) (scan_place f))) ≡ whole
reads-end text k begins last deep f whole e i h r =
    end-by text k (length text) begins last deep f whole e (sym i) (drop_all k text (omega (arith, i))) h r
