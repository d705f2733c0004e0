-- What shows that a text is refused in a value that is a script: at a byte, by what the script refuses of the bytes that it is fed or of its end, and at
-- the end of the text.
use Rattle.std.proofs.Common.{◌≡◌, ℕ, ◌+◌, ◌-◌, Bool, true, false, List, [], ◌∷◌, length, Option, Some, None, Result, Err, option_map, if◌then◌else◌, refl, sym, ap, ◌∙◌, subst, ◌&&◌}
use Rattle.js_lexer.specs.Refusals.{Cause}
use Rattle.js_step.specs.ScriptEvidence.{ShowsRefusals, script_shown_by, IsScriptShownBy, script_with_brace, ScriptSensesFit}
use Rattle.js_step.specs.ScriptScanOrder.{ScriptScanBelow}
use Rattle.js_step.specs.ScriptOrigins.{script_set_has}
use Rattle.js_step.specs.ScriptScans.{ScriptScan, script_scan_cut_error, script_scan_end_error, script_scan_start, script_senses_differ}
use Rattle.js_step.proofs.ScriptEvidence.{scripts-shown}
use Rattle.place_core.specs.page.Classes.{Class, class_of}
use Rattle.place_core.specs.page.References.{Reference, as_it_stands}
use Rattle.place_core.specs.page.States.{Pending}
use Rattle.place_core.specs.page.Tags.{feed_bytes}
use Rattle.place_core.specs.place.Errors.{PathCause, PathRefusal, TextRead, at_hand, at_value_end, cut_places, first_cause, first_path_refusal, is_told_at_node_end, script_fed, script_fed_refusal, script_refusal_at, value_error, places_with}
use Rattle.place_core.specs.place.Places.{joined_quotes}
use Rattle.place_core.specs.declared.body.Body.{Body}
use Rattle.place_core.specs.declared.body.Body.TheVariants as body
use Rattle.place_core.specs.declared.code.Code.TheVariants as code
use Rattle.place_core.specs.declared.js.Js.{Js}
use Rattle.place_core.specs.declared.member.Member.{Member}
use Rattle.place_core.specs.declared.member.Member.TheVariants as member
use Rattle.place_core.specs.declared.place.Place.{Place}
use Rattle.place_core.specs.declared.place.Place.TheVariants as place
use Rattle.place_core.specs.declared.quotes.Quotes.{Quotes}
use Rattle.place_core.specs.declared.quotes.Quotes.TheVariants as quotes
use Rattle.place_core.specs.declared.value_place.ValuePlace.{ValuePlace}
use Rattle.place_core.proofs.Semilattices.{none_some, one_value}
use Rattle.html_scan.specs.Scans.{Scan, At, InScript, InScriptElement, all_scripts, ends_quoted, quoted_error, quoted_places, scan_cut_error, scan_next, scan_script_cut_refusal, script_cause, script_feeding, script_fed_byte, script_step_refusal, scan_lexeme_error, scan_place}
use Rattle.html_step.proofs.ScriptValues.{in-scan, in-set, out-scan}
use Rattle.html_step.proofs.BelowScans.{below-script}
use Rattle.html_step.specs.Laws.{EvidenceData, apart, one, two}
use Rattle.html_step.specs.Origins.{bytes_of_places, script_back, script_value_ends, script_origin, script_shows, script_step_shows, script_told_shown}
use Rattle.html_step.specs.Steps.{scan_read_behind, stepped, unless_refused, unless_refused_in_script, unless_broken_off, unless_too_deep}
use Rattle.html_step.proofs.FedAlike.{first-caused}
use Rattle.html_step.proofs.ScanOrder.{HasBegun, ScanBelow, ScanHas, ScanValid, ScriptValueBelow}
use Rattle.html_step.proofs.ScriptAlike.{Alike, EndsWithBrace, TakesIn, alike-quoted, alike-told, alike-written, same-quoted-bytes, told-apart, told-one, told-two, value-takes}
use Rattle.html_step.proofs.ScriptEnds.{bytes-placed, fed-state, quoted-taken, taken-script-cut}
use Rattle.html_step.proofs.ScriptFrom.{script-fed-taken, itself-origin}
use Rattle.html_step.proofs.SlashCodes.{FedFits, SlashTold, end-code, step-code, told-slash}

no : false ≡ true → ⊥
no e = cc

given : {A : Type 0} (a : A) → Some a ≡ None → ⊥
given a e = cc

-- Values that have begun and are in the same quotes.
same-begun : (q p : Quotes) → HasBegun q → HasBegun p → joined_quotes q p ≡ Some p → q ≡ p
same-begun quotes.Dq quotes.Dq h k j = refl
same-begun quotes.Sq quotes.Sq h k j = refl
same-begun (quotes.Bare x) (quotes.Bare y) h k j = rw (h.0, h.1, k.0, k.1) refl
same-begun quotes.Dq quotes.Sq h k j = absurd (none_some quotes.Sq j)
same-begun quotes.Dq (quotes.Bare y) h k j = absurd (none_some (quotes.Bare y) j)
same-begun quotes.Sq quotes.Dq h k j = absurd (none_some quotes.Dq j)
same-begun quotes.Sq (quotes.Bare y) h k j = absurd (none_some (quotes.Bare y) j)
same-begun (quotes.Bare x) quotes.Dq h k j = absurd (none_some quotes.Dq j)
same-begun (quotes.Bare x) quotes.Sq h k j = absurd (none_some quotes.Sq j)

pub record SameValue (u v : ValuePlace) : Type 0 where
  pub tag : u.tag ≡ v.tag
  pub quotes : u.quotes ≡ v.quotes
  pub body : u.body ≡ v.body

pub value-errors : (u v : ValuePlace) (c : Class) → SameValue u v → at_hand (value_error u c) ≡ at_hand (value_error v c)
value-errors u v c s = rw (s.tag, s.quotes, s.body) refl

-- the same causes give the same refusal
pub refused-same : (k : ℕ) (x y : Option PathRefusal) (o p : Option PathCause) (r t : Result Place PathRefusal) (e : PathRefusal) → x ≡ y → o ≡ p
    → (y ≡ None → p ≡ None → ⊥) → unless_refused_in_script k y p t ≡ Err e → unless_refused_in_script k x o r ≡ Err e
refused-same k x (Some z) o p r t e i j n h =
    ap (λ (w : Option PathRefusal). unless_refused_in_script k w o r) i ∙ ap (λ (w : Option PathCause). unless_refused_in_script k (Some z) w r) j ∙ h
refused-same k x None o (Some z) r t e i j n h =
    ap (λ (w : Option PathRefusal). unless_refused_in_script k w o r) i ∙ ap (λ (w : Option PathCause). unless_refused k w r) j ∙ h
refused-same k x None o None r t e i j n h = absurd (n refl refl)

-- Where nothing is refused, nothing shows it.
pub taken-told : (element : Bool) (bytes : List ℕ) (ends : ScriptScan → Option Cause) (m : ScriptScan) → TakesIn element bytes m
    → ends (feed_bytes script_feeding m bytes) ≡ None → script_told_shown element ends bytes m ≡ None
taken-told element [] ends m t e = ap (option_map _) e
taken-told element (b ∷ bs) ends m t e = rw (t.0) (taken-told element bs ends (script_fed_byte m b) t.1 e)

no-refusal : (o p : Option PathRefusal) → first_path_refusal o p ≡ None → p ≡ None
no-refusal None p e = e
no-refusal (Some x) p e = absurd (given _ e)

no-cause : (places : List ℕ) (o : Option Cause) → script_refusal_at places o ≡ None → o ≡ None
no-cause places None e = refl
no-cause places (Some x) e = absurd (given _ e)

-- at a byte of a value
pub step-told : (q : Quotes) (k : ℕ) (places : List ℕ) (m : ScriptScan) (r : Reference) (c : Class) (b : ℕ) → script_step_refusal q k places m r c b ≡ None
    → quoted_error script_feeding q m r c b ≡ None
    → script_told_shown false (script_value_ends (ends_quoted q c)) (bytes_of_places (quoted_places q 0 r c b)) m ≡ None
step-told q k places m r c b x o =
    let xs = quoted_places q k r c b in
    let ends = script_value_ends (ends_quoted q c) in
    let t = quoted-taken q k r m c b o in
    let e : ends (script_fed all_scripts m xs) ≡ None =
    no-cause (k ∷ places_with xs places) (ends (script_fed all_scripts m xs)) (no-refusal (script_fed_refusal all_scripts places m xs) (script_refusal_at (k ∷ places_with xs places) (ends (script_fed all_scripts m xs))) x) in
    subst (λ (bytes : List ℕ). script_told_shown false ends bytes m ≡ None) (same-quoted-bytes q k r c b)
    (taken-told false (bytes_of_places xs) ends m (value-takes (bytes_of_places xs) m t) (ap ends (sym (fed-state xs m)) ∙ e))

pub step-alike : (k : ℕ) (since : TextRead) (b : ℕ) (bs : List ℕ) (u v : ValuePlace) (n m : ScriptScan) (r : Reference) (e : PathRefusal) (z : EvidenceData)
    → SameValue u v → Alike false (bytes_of_places (quoted_places v.quotes 0 r (class_of b) b)) (script_value_ends (ends_quoted v.quotes (class_of b))) n m
    → script_told_shown false (script_value_ends (ends_quoted v.quotes (class_of b))) (bytes_of_places (quoted_places v.quotes 0 r (class_of b) b)) m ≡ Some z
    → stepped k since (b ∷ bs) (InScript v m r) ≡ Err e → stepped k since (b ∷ bs) (InScript u n r) ≡ Err e
step-alike k since b bs u v n m r e z s a t h =
    let c = class_of b in
    let q = v.quotes in
    let xs = quoted_places q k r c b in
    let ends = script_value_ends (ends_quoted q c) in
    let here : Alike false (bytes_of_places xs) ends n m = subst (λ (bytes : List ℕ). Alike false bytes ends n m) (sym (same-quoted-bytes q k r c b)) a in
    let refusals : script_step_refusal u.quotes k since.fed n r c b ≡ script_step_refusal q k since.fed m r c b =
    ap (λ (p : Quotes). script_step_refusal p k since.fed n r c b) s.quotes ∙ alike-told xs since.fed (k ∷ places_with xs since.fed) ends n m here in
    let errors : quoted_error script_feeding u.quotes n r c b ≡ quoted_error script_feeding q m r c b =
    ap (λ (p : Quotes). quoted_error script_feeding p n r c b) s.quotes ∙ alike-quoted q k r c b ends n m here in
    refused-same k (script_step_refusal u.quotes k since.fed n r c b) (script_step_refusal q k since.fed m r c b) (script_cause u n r c b) (script_cause v m r c b)
    (stepped (k + 1) (scan_read_behind k since (InScript u n r) c b) bs (scan_next (InScript u n r) c b))
    (stepped (k + 1) (scan_read_behind k since (InScript v m r) c b) bs (scan_next (InScript v m r) c b)) e refusals
    (ap (λ (o : Option PathCause). first_cause o (at_hand (value_error u c))) errors
    ∙ ap (λ (o : Option PathCause). first_cause (quoted_error script_feeding q m r c b) o) (value-errors u v c s))
    (λ x o. none_some z (sym (step-told q k since.fed m r c b x (first-caused (quoted_error script_feeding q m r c b) (at_hand (value_error v c)) o).0) ∙ t)) h

-- at the end of a text
end-told : (v : ValuePlace) (m : ScriptScan) (r : Reference) (k : ℕ) (places : List ℕ) → scan_script_cut_refusal k places (InScript v m r) ≡ None
    → scan_cut_error (InScript v m r) ≡ None → script_told_shown false script_scan_cut_error (as_it_stands r) m ≡ None
end-told v m r k places x o =
    taken-told false (as_it_stands r) script_scan_cut_error m
    (value-takes (as_it_stands r) m (script-fed-taken (as_it_stands r) m true (length (as_it_stands r)) o))
    (taken-script-cut (InScript v m r) k places x)

abbrev AtEnd : ℕ → TextRead → Scan → Result Place PathRefusal
AtEnd k since f = unless_too_deep k since.deep (unless_broken_off k since.last (scan_lexeme_error f) (scan_place f))

cut-bytes : (k : ℕ) (r : Reference) → bytes_of_places (cut_places k r) ≡ as_it_stands r
cut-bytes k r = bytes-placed true (k - length (as_it_stands r)) (as_it_stands r)

pub end-alike : (k : ℕ) (since : TextRead) (u v : ValuePlace) (n m : ScriptScan) (r : Reference) (e : PathRefusal) (z : EvidenceData)
    → Alike false (as_it_stands r) script_scan_cut_error n m → script_told_shown false script_scan_cut_error (as_it_stands r) m ≡ Some z
    → stepped k since [] (InScript v m r) ≡ Err e → stepped k since [] (InScript u n r) ≡ Err e
end-alike k since u v n m r e z a t h =
    let xs = cut_places k r in
    let here : Alike false (bytes_of_places xs) script_scan_cut_error n m = subst (λ (bytes : List ℕ). Alike false bytes script_scan_cut_error n m) (sym (cut-bytes k r)) a in
    refused-same k (scan_script_cut_refusal k since.fed (InScript u n r)) (scan_script_cut_refusal k since.fed (InScript v m r))
    (scan_cut_error (InScript u n r)) (scan_cut_error (InScript v m r)) (AtEnd k since (InScript u n r)) (AtEnd k since (InScript v m r)) e
    (alike-told xs since.fed (k ∷ places_with xs since.fed) script_scan_cut_error n m here)
    (alike-written (as_it_stands r) true (k - length (as_it_stands r)) (length (as_it_stands r)) script_scan_cut_error n m here)
    (λ x o. none_some z (sym (end-told v m r k since.fed x o) ∙ t)) h

-- The ends of a value and of a node.
told-end-by : (x e : Cause) (t : Bool) → (if t then None else Some x) ≡ Some e → Some x ≡ Some e
told-end-by x e true h = absurd (none_some e h)
told-end-by x e false h = h

told-end : (o : Option Cause) (e : Cause) → at_value_end o ≡ Some e → o ≡ Some e
told-end None e h = absurd (none_some e h)
told-end (Some x) e h = told-end-by x e (is_told_at_node_end x.refusal) h

end-keeps : (m : ScriptScan) (e : Cause) (o : Option Member) (p : Option Cause) → at_value_end p ≡ Some e → IsScriptShownBy o m script_scan_end_error e
    → IsScriptShownBy o m (script_value_ends true) e
end-keeps m e (Some y) p h d = (d.0, λ n l o. ap at_value_end (d.1 n l o ∙ sym (told-end p e h)) ∙ h)
end-keeps m e None p h d = d

pub ends-shown : (x : Bool) → ShowsRefusals (script_value_ends x) (λ n. member.Whole)
ends-shown true m e h =
    end-keeps m e (script_shown_by m member.Whole e.refusal) (script_scan_end_error m) h (scripts-shown.end m e (told-end (script_scan_end_error m) e h))
ends-shown false m e h = absurd (none_some e h)

pub ends-with-brace : (x : Bool) → EndsWithBrace (script_value_ends x)
ends-with-brace true m c = ap at_value_end c.end_error
ends-with-brace false m c = refl

-- A path on which it is not known what a slash would be, by its scan state, where paths differ in that.
pub data BraceBelow : Scan → Scan → Type 0 where
  brace_in : (u v : ValuePlace) (n m : ScriptScan) (r : Reference) → SameValue u v → ScriptScanBelow n (script_with_brace m)
      → script_set_has n member.SenseBrace ≡ true → BraceBelow (InScript u n r) (InScript v m r)
  brace_at : (u v : ValuePlace) (i j : Js) → u.body ≡ body.Js i → v.body ≡ body.Js j → u.tag ≡ v.tag → HasBegun u.quotes
      → joined_quotes u.quotes v.quotes ≡ Some v.quotes → ScriptScanBelow (script_scan_start i) (script_with_brace (script_scan_start j))
      → script_set_has (script_scan_start i) member.SenseBrace ≡ true → BraceBelow (At (place.Value u)) (At (place.Value v))
  brace_in_element : (n m : ScriptScan) (h : Pending) → ScriptScanBelow n (script_with_brace m) → script_set_has n member.SenseBrace ≡ true
      → BraceBelow (InScriptElement n h) (InScriptElement m h)
  brace_at_element : (i j : Js) → ScriptScanBelow (script_scan_start i) (script_with_brace (script_scan_start j))
      → script_set_has (script_scan_start i) member.SenseBrace ≡ true → BraceBelow (At (place.Script i)) (At (place.Script j))

-- where they do
abbrev pub script_differs : ScriptScan → Bool
script_differs m = script_senses_differ m.senses && script_set_has m member.SenseRe

abbrev pub body_differs : Body → Bool
body_differs (body.Js j) = script_differs (script_scan_start j)
body_differs x = false

abbrev pub scan_differs : Scan → Bool
scan_differs (At (place.Value v)) = body_differs v.body
scan_differs (At (place.Script j)) = script_differs (script_scan_start j)
scan_differs (InScript v m r) = script_differs m
scan_differs (InScriptElement m h) = script_differs m
scan_differs f = false

-- What is kept of the bytes that have been read fits it.
abbrev pub FedBefore : ℕ → TextRead → Scan → Type 0
FedBefore k since (InScript v m r) = FedFits k since.fed m r
FedBefore k since f = Unit {0}

pub record ShownSlash (k : ℕ) (since : TextRead) (bytes : List ℕ) (f : Scan) (r : PathRefusal) (x y : Member) : Type 0 where
  pub first : x ≡ member.SenseDiv
  pub second : y ≡ member.SenseRe
  pub one : ScanHas f x
  pub other : ScanHas f y
  pub differ : scan_differs f ≡ true
  pub ambiguous : FedBefore k since f → r.code ≡ code.SlashAmbig
  pub refuses : (g : Scan) → BraceBelow g f → stepped k since bytes g ≡ Err r

abbrev pub ScriptShownBytes : ℕ → TextRead → List ℕ → Scan → PathRefusal → EvidenceData → Type 0
ScriptShownBytes k since bytes f r (one x) =
    ScanHas f x × ((g : Scan) → ScanValid g → ScanBelow g f → ScanHas g x → stepped k since bytes g ≡ Err r)
ScriptShownBytes k since bytes f r (two x y) = ShownSlash k since bytes f r x y
ScriptShownBytes k since bytes f r apart = ⊥

-- In a script.
pub both-true : (x y : Bool) → x ≡ true → y ≡ true → (x && y) ≡ true
both-true true y h k = k
both-true false y h k = absurd (no h)

pub below-same : (u v : ValuePlace) (n m : ScriptScan) (r : Reference) → ScanValid (InScript u n r) → ScanValid (InScript v m r) → ScriptValueBelow u v n m → SameValue u v
below-same u v n m r w z l = record { tag = l.tag; quotes = same-begun u.quotes v.quotes w.0 z.0 l.quotes; body = w.1 ∙ sym z.1 }

pub brace-same : (P : Scan → Type 0) (v : ValuePlace) (m : ScriptScan) (r : Reference)
    → ((u : ValuePlace) (n : ScriptScan) → SameValue u v → ScriptScanBelow n (script_with_brace m) → script_set_has n member.SenseBrace ≡ true → P (InScript u n r))
    → (g : Scan) → BraceBelow g (InScript v m r) → P g
brace-same P _ _ _ f _ (brace_in u v n m r s l h) = f u n s l h

script-shown-by : (k : ℕ) (since : TextRead) (bytes : List ℕ) (v : ValuePlace) (m : ScriptScan) (r : Reference) (e : PathRefusal) (fed : List ℕ)
    (ends : ScriptScan → Option Cause) (z : EvidenceData) → ScanValid (InScript v m r) → ScriptSensesFit m → ShowsRefusals ends (λ n. member.Whole) → EndsWithBrace ends
    → ((u : ValuePlace) (n : ScriptScan) → SameValue u v → Alike false fed ends n m → stepped k since bytes (InScript u n r) ≡ Err e)
    → ((x y : Member) → script_told_shown false ends fed m ≡ Some (two x y) → script_senses_differ m.senses ≡ true → FedBefore k since (InScript v m r)
    → e.code ≡ code.SlashAmbig)
    → script_told_shown false ends fed m ≡ Some z
    → ScriptShownBytes k since bytes (InScript v m r) e (script_back m z)
script-shown-by k since bytes v m r e fed ends (one y) w fit shown over f coded t =
    let d = (told-one false fed ends m y shown w.2 t).1 in (
      in-scan v.typed v.quotes m (script_origin m y) d.there,
      λ g i l h. below-script (λ (g : Scan). ScanValid g → ScanHas g (script_origin m y) → stepped k since bytes g ≡ Err e) v m r
          (λ u n j q o. f u n (below-same u v n m r q w j) (d.alike n j.scan (out-scan m n u.typed u.quotes (script_origin m y) d.there o))) g l i h,
    )
script-shown-by k since bytes v m r e fed ends (two x y) w fit shown over f coded t =
    let d = told-two false fed ends m x y w.2 fit shown over t in
    record {
      first = ap (script_origin m) d.first ∙ itself-origin m member.SenseDiv d.div;
      second = ap (script_origin m) d.other ∙ itself-origin m member.SenseRe d.re;
      one = subst (λ (z : Member). ScanHas (InScript v m r) z) (sym (ap (script_origin m) d.first ∙ itself-origin m member.SenseDiv d.div))
          (in-set v.typed v.quotes m member.SenseDiv d.div);
      other = subst (λ (z : Member). ScanHas (InScript v m r) z) (sym (ap (script_origin m) d.other ∙ itself-origin m member.SenseRe d.re))
          (in-set v.typed v.quotes m member.SenseRe d.re);
      differ = both-true (script_senses_differ m.senses) (script_set_has m member.SenseRe) d.differ d.re;
      ambiguous = λ b. coded x y t d.differ b;
      refuses = brace-same (λ (g : Scan). stepped k since bytes g ≡ Err e) v m r (λ u n s l h. f u n s (d.alike n l h));
    }
script-shown-by k since bytes v m r e fed ends apart w fit shown over f coded t = told-apart false fed ends m t

-- what shows it before the bytes that are fed
pub data BackFrom (m : ScriptScan) (o : Option EvidenceData) (z : EvidenceData) : Type 0 where
  back_from : (x : EvidenceData) → o ≡ Some x → z ≡ script_back m x → BackFrom m o z

pub back-of : (m : ScriptScan) (o p : Option EvidenceData) (z : EvidenceData) → o ≡ p → option_map (script_back m) p ≡ Some z → BackFrom m o z
back-of m o (Some x) z e h = back_from x e (sym (one_value (script_back m x) z h))
back-of m o None z e h = absurd (none_some z h)

pub shown-from : (P : EvidenceData → Type 0) (m : ScriptScan) (o : Option EvidenceData) (z : EvidenceData) → BackFrom m o z
    → ((x : EvidenceData) → o ≡ Some x → P (script_back m x)) → P z
shown-from P m o z (back_from x e i) f = subst P (sym i) (f x e)

pub in-script-byte : (k : ℕ) (since : TextRead) (b : ℕ) (bs : List ℕ) (v : ValuePlace) (m : ScriptScan) (r : Reference) (e : PathRefusal) (z : EvidenceData)
    → ScanValid (InScript v m r) → ScriptSensesFit m → script_step_shows v.quotes m r (class_of b) b ≡ Some z → stepped k since (b ∷ bs) (InScript v m r) ≡ Err e
    → ScriptShownBytes k since (b ∷ bs) (InScript v m r) e z
in-script-byte k since b bs v m r e z w fit t h =
    let c = class_of b in
    let ends = script_value_ends (ends_quoted v.quotes c) in
    let fed = bytes_of_places (quoted_places v.quotes 0 r c b) in
    let told = script_told_shown false ends fed m in
    shown-from (ScriptShownBytes k since (b ∷ bs) (InScript v m r) e) m told z (back-of m told told z refl t)
    (λ x i. script-shown-by k since (b ∷ bs) v m r e fed ends x w fit (ends-shown (ends_quoted v.quotes c)) (ends-with-brace (ends_quoted v.quotes c))
    (λ u n s a. step-alike k since b bs u v n m r e x s a i h)
    (λ y u j d o. step-code v.quotes k since.fed m r c b (value_error v c) (stepped (k + 1) (scan_read_behind k since (InScript v m r) c b) bs (scan_next (InScript v m r) c b))
    e o fit d (subst (λ (xs : List ℕ). SlashTold ends xs m) (sym (same-quoted-bytes v.quotes k r c b)) (told-slash fed ends m y u j)) h) i)

pub in-script-end : (k : ℕ) (since : TextRead) (v : ValuePlace) (m : ScriptScan) (r : Reference) (e : PathRefusal) (z : EvidenceData)
    → ScanValid (InScript v m r) → ScriptSensesFit m → script_shows false script_scan_cut_error (as_it_stands r) m ≡ Some z → stepped k since [] (InScript v m r) ≡ Err e
    → ScriptShownBytes k since [] (InScript v m r) e z
in-script-end k since v m r e z w fit t h =
    let told = script_told_shown false script_scan_cut_error (as_it_stands r) m in
    shown-from (ScriptShownBytes k since [] (InScript v m r) e) m told z (back-of m told told z refl t)
    (λ x i. script-shown-by k since [] v m r e (as_it_stands r) script_scan_cut_error x w fit scripts-shown.cut (λ n c. c.cut_error)
    (λ u n s a. end-alike k since u v n m r e x a i h)
    (λ y u j d o. let bytes = as_it_stands r in end-code k since.fed bytes m script_scan_cut_error (length bytes) (k - length bytes) (AtEnd k since (InScript v m r)) e
    (told-slash bytes script_scan_cut_error m y u j) h) i)

-- in a script it says so
abbrev pub ScanFits : Scan → Type 0
ScanFits (InScript v n r) = ScriptSensesFit n
ScanFits (InScriptElement n h) = ScriptSensesFit n
ScanFits f = Unit {0}
