-- A path on which it is not known what a slash would be, among paths that differ in that, over the bytes that a script reads; and so in the element
-- `script`, at a byte of it: what shows a refusal behind the byte shows it before.
use Rattle.std.proofs.Common.{◌≡◌, ℕ, ◌+◌, Bool, true, false, ◌&&◌, ◌||◌, List, [], ◌∷◌, None, Err, refl, sym, ap, ◌∙◌, subst, inl}
use Rattle.js_lexer.specs.States as state
use Rattle.js_step.specs.ScriptEvidence.{ScriptSensesFit, script_with_brace}
use Rattle.js_step.specs.ScriptOrigins.{script_set_at, script_set_has, script_tails_at}
use Rattle.js_step.specs.ScriptScanOrder.{ScriptScanBelow}
use Rattle.js_step.specs.ScriptScans.{ScriptScan, script_scan_start, script_senses_differ}
use Rattle.js_step.specs.ScriptValidity.{IsScriptScan}
use Rattle.js_step.proofs.ScriptClash.{scripts-clash}
use Rattle.js_step.proofs.ScriptMembers.{scripts-come-from}
use Rattle.js_step.proofs.ValidScripts.{scripts-stay-valid}
use Rattle.place_core.specs.page.Classes.{Class, White, Solidus, class_of}
use Rattle.place_core.specs.page.Contents.{ScriptStep, Reads, EndsContent}
use Rattle.place_core.specs.page.States.{Pending, Nothing}
use Rattle.place_core.specs.page.Tags.{feed_bytes}
use Rattle.place_core.specs.place.Errors.{PathRefusal, TextRead, step_error}
use Rattle.place_core.specs.place.LanguagePlaces.{js_star_has}
use Rattle.place_core.specs.declared.js.Js.{Js}
use Rattle.place_core.specs.declared.js_tails.JsTails.{JsTails}
use Rattle.place_core.specs.declared.member.Member.{Member}
use Rattle.place_core.specs.declared.member.Member.TheVariants as member
use Rattle.place_core.specs.declared.place.Place.TheVariants as place
use Rattle.place_core.specs.declared.senses.Senses.{Senses}
use Rattle.html_scan.specs.Scans.{Scan, At, InScriptElement, all_element_scripts, behind_end_name, scan_by_step, scan_error, scan_next, scan_script_refusal, script_fed_byte, script_feeding, script_scan_step}
use Rattle.html_step.specs.Origins.{byte_origin, script_origin, step_origin}
use Rattle.html_step.specs.Steps.{scan_read_behind, stepped}
use Rattle.html_step.proofs.FromParts.{or-first}
use Rattle.html_step.proofs.RefusedColons.{refused-later}
use Rattle.html_step.proofs.ScanOrder.{ScanHas, ScanValid}
use Rattle.html_step.proofs.ScriptAlike.{TakesIn, brace-later, fit-byte}
use Rattle.html_step.proofs.ScriptBeside.{either_apart, takes-step}
use Rattle.html_step.proofs.ScriptContents.{asked}
use Rattle.html_step.proofs.ScriptElementTold.{read-taken}
use Rattle.html_step.proofs.ScriptFrom.{itself-origin}
use Rattle.html_step.proofs.ScriptModes.{TakesLess, step-brace}
use Rattle.html_step.proofs.ScriptOrder.{script-start-valid}
use Rattle.html_step.proofs.ScriptTold.{BraceBelow, ScanFits, ShownSlash, both-true, brace_at_element, brace_in_element, scan_differs, script_differs}

no : false ≡ true → ⊥
no e = cc

-- Where they differ, both senses are there.
pub first-true : (x y : Bool) → (x && y) ≡ true → x ≡ true
first-true true y h = refl
first-true false y h = absurd (no h)

pub second-true : (x y : Bool) → (x && y) ≡ true → y ≡ true
second-true true y h = h
second-true false y h = absurd (no h)

div-at : (s : Senses) (x : JsTails) (star : Bool) (a : state.At) → (s.re && s.div) ≡ true → script_set_at s x star a member.SenseRe ≡ true
    → script_set_at s x star a member.SenseDiv ≡ true
div-at s x star (state.InString q e) d h = absurd (no h)
div-at s x star (state.InRegexp k e) d h = absurd (no h)
div-at s x star a d h = or-first s.div (script_tails_at x a member.SenseDiv || js_star_has star member.SenseDiv) (second-true s.re s.div d)

pub div-too : (m : ScriptScan) → script_differs m ≡ true → script_set_has m member.SenseDiv ≡ true
div-too m d =
    div-at m.senses m.before m.star m.state.at (first-true (script_senses_differ m.senses) (script_set_has m member.SenseRe) d)
    (second-true (script_senses_differ m.senses) (script_set_has m member.SenseRe) d)

-- the bytes that it is fed; `element` says whether the script is an element's
pub record BraceFed (element : Bool) (bytes : List ℕ) (m : ScriptScan) : Type 0 where
  pub differs : script_differs m ≡ true
  pub steps : (n : ScriptScan) → ScriptScanBelow n (script_with_brace m) → script_set_has n member.SenseBrace ≡ true
      → TakesIn element bytes n × ScriptScanBelow (feed_bytes script_feeding n bytes) (script_with_brace (feed_bytes script_feeding m bytes))
      × (script_set_has (feed_bytes script_feeding n bytes) member.SenseBrace ≡ true)

pub brace-fed : (element : Bool) (bytes : List ℕ) (m : ScriptScan) → IsScriptScan m → ScriptSensesFit m → TakesIn element bytes m
    → script_differs (feed_bytes script_feeding m bytes) ≡ true → BraceFed element bytes m
brace-fed element [] m v k t d = record { differs = d; steps = λ n l h. (tt, l, h) }
brace-fed element (b ∷ bs) m v k t d =
    let more = brace-fed element bs (script_fed_byte m b) (scripts-stay-valid.next m b v) (fit-byte element m b v k t.0) t.1 d in
    let apart = first-true (script_senses_differ (script_fed_byte m b).senses) (script_set_has (script_fed_byte m b) member.SenseRe) more.differs in
    let p = scripts-clash.before element m b k t.0 apart in
    let c = scripts-clash.clashes m k p.0 in
    record {
      differs = both-true (script_senses_differ m.senses) (script_set_has m member.SenseRe) p.0 p.1;
      steps = λ n l h. let z = brace-later element m b t.0 apart c n l h in
          let w = more.steps (script_fed_byte n b) z.1 z.2 in
          ((z.0, w.0), w.1, w.2);
    }

pub fit-read : (bytes : List ℕ) (m : ScriptScan) → IsScriptScan m → ScriptSensesFit m → TakesIn true bytes m → ScriptSensesFit (feed_bytes script_feeding m bytes)
fit-read [] m v k t = k
fit-read (b ∷ bs) m v k t = fit-read bs (script_fed_byte m b) (scripts-stay-valid.next m b v) (fit-byte true m b v k t.0) t.1

-- the bytes that are read at a byte
reads-taken : (m : ScriptScan) (bytes : List ℕ) (g : Pending) → step_error all_element_scripts m (Reads bytes g) ≡ None → TakesIn true bytes m
reads-taken m bytes g e = (let a = asked all_element_scripts m bytes g e in read-taken bytes m a.back a.read)

-- Behind an end tag no paths differ.
tag-quiet : (c : Class) → scan_differs (behind_end_name c) ≡ true → ⊥
tag-quiet White h = no h
tag-quiet Solidus h = no h
tag-quiet c h = no h

tag-fits : (c : Class) → ScanFits (behind_end_name c)
tag-fits White = tt
tag-fits Solidus = tt
tag-fits c = tt

-- What shows a refusal behind the bytes shows it before them: at a scan state that has what the script has, and by such a path at it, of which `goes`
-- says that it is refused before the byte where it is behind.
record BraceGoes (m : ScriptScan) (Behind : ScriptScan → Type 0) (Before : Type 0) : Type 0 where
  scan : ScriptScan
  below : ScriptScanBelow scan (script_with_brace m)
  brace : script_set_has scan member.SenseBrace ≡ true
  goes : Behind scan → Before

slash-by : (k : ℕ) (since after : TextRead) (b : ℕ) (bs : List ℕ) (f : Scan) (m : ScriptScan) (bytes : List ℕ) (g : Pending) (z : PathRefusal) (x y : Member)
    → IsScriptScan m → ScriptSensesFit m → TakesIn true bytes m → (script_set_has m member.SenseDiv ≡ true → ScanHas f member.SenseDiv)
    → (script_set_has m member.SenseRe ≡ true → ScanHas f member.SenseRe) → scan_differs f ≡ script_differs m
    → ((e : Scan) → BraceBelow e f → script_differs m ≡ true
    → BraceGoes m (λ n. stepped (k + 1) after bs (InScriptElement (feed_bytes script_feeding n bytes) g) ≡ Err z) (stepped k since (b ∷ bs) e ≡ Err z))
    → ShownSlash (k + 1) after bs (InScriptElement (feed_bytes script_feeding m bytes) g) z x y
    → ShownSlash k since (b ∷ bs) f z (script_origin m x) (script_origin m y)
slash-by k since after b bs f m bytes g z x y v fit t has_div has_re same back d =
    let s = brace-fed true bytes m v fit t d.differ in
    let div = div-too m s.differs in
    let re = second-true (script_senses_differ m.senses) (script_set_has m member.SenseRe) s.differs in
    let first = ap (script_origin m) d.first ∙ itself-origin m member.SenseDiv div in
    let second = ap (script_origin m) d.second ∙ itself-origin m member.SenseRe re in
    record {
      first = first;
      second = second;
      one = subst (λ (w : Member). ScanHas f w) (sym first) (has_div div);
      other = subst (λ (w : Member). ScanHas f w) (sym second) (has_re re);
      differ = same ∙ s.differs;
      ambiguous = λ h. d.ambiguous tt;
      refuses = λ e l.
          let q = back e l s.differs in
          let w = s.steps q.scan q.below q.brace in
          q.goes (d.refuses (InScriptElement (feed_bytes script_feeding q.scan bytes) g)
          (brace_in_element (feed_bytes script_feeding q.scan bytes) (feed_bytes script_feeding m bytes) g w.1 w.2));
    }

-- behind a byte of the text
element-brace : (P : Scan → Type 0) (m : ScriptScan) (h : Pending)
    → ((n : ScriptScan) → ScriptScanBelow n (script_with_brace m) → script_set_has n member.SenseBrace ≡ true → P (InScriptElement n h)) → (g : Scan)
    → BraceBelow g (InScriptElement m h) → P g
element-brace P _ _ f _ (brace_in_element n m h l o) = f n l o

element-goes : (k : ℕ) (since : TextRead) (b : ℕ) (bs : List ℕ) (n m : ScriptScan) (h : Pending) (bytes : List ℕ) (g : Pending) (z : PathRefusal)
    → IsScriptScan m → ScriptSensesFit m → TakesLess h m → script_scan_step m h (class_of b) b ≡ Reads bytes g
    → step_error all_element_scripts m (script_scan_step m h (class_of b) b) ≡ None → script_senses_differ m.senses ≡ true → ScriptScanBelow n (script_with_brace m)
    → stepped (k + 1) (scan_read_behind k since (InScriptElement m h) (class_of b) b) bs (InScriptElement (feed_bytes script_feeding n bytes) g) ≡ Err z
    → stepped k since (b ∷ bs) (InScriptElement n h) ≡ Err z
element-goes k since b bs n m h bytes g z v fit t i e d l r =
    let c = class_of b in
    let f = InScriptElement n h in
    let taken = takes-step n m h b (either_apart v fit d l) t e in
    let same = step-brace n m h b l d t ∙ i in
    refused-later k (scan_script_refusal k since.fed f c b) (scan_error f c b) (stepped (k + 1) (scan_read_behind k since f c b) bs (scan_next f c b)) z refl taken.error
    (subst (λ (s : ScriptStep). stepped (k + 1) (scan_read_behind k since f c b) bs (scan_by_step n s c) ≡ Err z) (sym same) r)

slash-at-step : (k : ℕ) (since : TextRead) (b : ℕ) (bs : List ℕ) (m : ScriptScan) (h : Pending) (z : PathRefusal) (x y : Member) (step : ScriptStep)
    → ScanValid (InScriptElement m h) → ScriptSensesFit m → script_scan_step m h (class_of b) b ≡ step
    → step_error all_element_scripts m (script_scan_step m h (class_of b) b) ≡ None
    → ShownSlash (k + 1) (scan_read_behind k since (InScriptElement m h) (class_of b) b) bs (scan_by_step m step (class_of b)) z x y
    → ShownSlash k since (b ∷ bs) (InScriptElement m h) z (script_origin m (step_origin step x)) (script_origin m (step_origin step y))
slash-at-step k since b bs m h z x y (EndsContent letters) w fit i e d = absurd (tag-quiet (class_of b) d.differ)
slash-at-step k since b bs m h z x y (Reads bytes g) w fit i e d =
    let own : step_error all_element_scripts m (Reads bytes g) ≡ None = subst (λ (s : ScriptStep). step_error all_element_scripts m s ≡ None) i e in
    slash-by k since (scan_read_behind k since (InScriptElement m h) (class_of b) b) b bs (InScriptElement m h) m bytes g z x y w.0 fit (reads-taken m bytes g own)
    (λ o. o) (λ o. o) refl
    (λ a l differs. element-brace
    (λ (q : Scan). BraceGoes m
    (λ n. stepped (k + 1) (scan_read_behind k since (InScriptElement m h) (class_of b) b) bs (InScriptElement (feed_bytes script_feeding n bytes) g) ≡ Err z)
    (stepped k since (b ∷ bs) q ≡ Err z)) m h
    (λ n u o. record {
      scan = n;
      below = u;
      brace = o;
      goes = element-goes k since b bs n m h bytes g z w.0 fit w.1 i e (first-true (script_senses_differ m.senses) (script_set_has m member.SenseRe) differs) u;
    }) a l) d

pub element-slash : (k : ℕ) (since : TextRead) (b : ℕ) (bs : List ℕ) (m : ScriptScan) (h : Pending) (z : PathRefusal) (x y : Member)
    → ScanValid (InScriptElement m h) → ScriptSensesFit m → scan_error (InScriptElement m h) (class_of b) b ≡ None
    → ShownSlash (k + 1) (scan_read_behind k since (InScriptElement m h) (class_of b) b) bs (scan_next (InScriptElement m h) (class_of b) b) z x y
    → ShownSlash k since (b ∷ bs) (InScriptElement m h) z (byte_origin (InScriptElement m h) (class_of b) b x) (byte_origin (InScriptElement m h) (class_of b) b y)
element-slash k since b bs m h z x y w fit e d = slash-at-step k since b bs m h z x y (script_scan_step m h (class_of b) b) w fit refl e d

-- where a text begins: the byte is read, or is a `<` that is held back
start-brace : (P : Scan → Type 0) (j : Js)
    → ((i : Js) → ScriptScanBelow (script_scan_start i) (script_with_brace (script_scan_start j)) → script_set_has (script_scan_start i) member.SenseBrace ≡ true
    → P (At (place.Script i))) → (g : Scan) → BraceBelow g (At (place.Script j)) → P g
start-brace P _ f _ (brace_at_element i j l o) = f i l o

start-goes : (k : ℕ) (since : TextRead) (b : ℕ) (bs : List ℕ) (i j : Js) (bytes : List ℕ) (g : Pending) (z : PathRefusal) → IsScriptScan (script_scan_start j)
    → script_scan_step (script_scan_start j) Nothing (class_of b) b ≡ Reads bytes g
    → step_error all_element_scripts (script_scan_start j) (script_scan_step (script_scan_start j) Nothing (class_of b) b) ≡ None
    → script_senses_differ (script_scan_start j).senses ≡ true → ScriptScanBelow (script_scan_start i) (script_with_brace (script_scan_start j))
    → stepped (k + 1) (scan_read_behind k since (At (place.Script j)) (class_of b) b) bs (InScriptElement (feed_bytes script_feeding (script_scan_start i) bytes) g)
    ≡ Err z
    → stepped k since (b ∷ bs) (At (place.Script i)) ≡ Err z
start-goes k since b bs i j bytes g z v same e d l r =
    let c = class_of b in
    let f = At (place.Script i) in
    let n = script_scan_start i in
    let m = script_scan_start j in
    let taken = takes-step n m Nothing b (either_apart v (scripts-clash.start j) d l) (inl refl) e in
    refused-later k (scan_script_refusal k since.fed f c b) (scan_error f c b) (stepped (k + 1) (scan_read_behind k since f c b) bs (scan_next f c b)) z refl taken.error
    (subst (λ (s : ScriptStep). stepped (k + 1) (scan_read_behind k since f c b) bs (scan_by_step n s c) ≡ Err z)
    (sym (step-brace n m Nothing b l d (inl refl) ∙ same)) r)

place-div : (j : Js) → script_set_has (script_scan_start j) member.SenseDiv ≡ true → ScanHas (At (place.Script j)) member.SenseDiv
place-div j h = sym (scripts-come-from.begins j member.SenseDiv) ∙ h

place-re : (j : Js) → script_set_has (script_scan_start j) member.SenseRe ≡ true → ScanHas (At (place.Script j)) member.SenseRe
place-re j h = sym (scripts-come-from.begins j member.SenseRe) ∙ h

slash-at-start : (k : ℕ) (since : TextRead) (b : ℕ) (bs : List ℕ) (j : Js) (z : PathRefusal) (x y : Member) (step : ScriptStep) → IsScriptScan (script_scan_start j)
    → script_scan_step (script_scan_start j) Nothing (class_of b) b ≡ step
    → step_error all_element_scripts (script_scan_start j) (script_scan_step (script_scan_start j) Nothing (class_of b) b) ≡ None
    → ShownSlash (k + 1) (scan_read_behind k since (At (place.Script j)) (class_of b) b) bs (scan_by_step (script_scan_start j) step (class_of b)) z x y
    → ShownSlash k since (b ∷ bs) (At (place.Script j)) z (script_origin (script_scan_start j) x) (script_origin (script_scan_start j) y)
slash-at-start k since b bs j z x y (EndsContent letters) v i e d = absurd (tag-quiet (class_of b) d.differ)
slash-at-start k since b bs j z x y (Reads bytes g) v i e d =
    let m = script_scan_start j in
    let own : step_error all_element_scripts m (Reads bytes g) ≡ None = subst (λ (s : ScriptStep). step_error all_element_scripts m s ≡ None) i e in
    slash-by k since (scan_read_behind k since (At (place.Script j)) (class_of b) b) b bs (At (place.Script j)) m bytes g z x y v (scripts-clash.start j)
    (reads-taken m bytes g own) (place-div j) (place-re j) refl
    (λ a l differs. start-brace
    (λ (q : Scan). BraceGoes m
    (λ n. stepped (k + 1) (scan_read_behind k since (At (place.Script j)) (class_of b) b) bs (InScriptElement (feed_bytes script_feeding n bytes) g) ≡ Err z)
    (stepped k since (b ∷ bs) q ≡ Err z)) j
    (λ u n o. record {
      scan = script_scan_start u;
      below = n;
      brace = o;
      goes = start-goes k since b bs u j bytes g z v i e (first-true (script_senses_differ m.senses) (script_set_has m member.SenseRe) differs) n;
    }) a l) d

pub start-slash : (k : ℕ) (since : TextRead) (b : ℕ) (bs : List ℕ) (j : Js) (z : PathRefusal) (x y : Member) → ScanValid (At (place.Script j))
    → scan_error (At (place.Script j)) (class_of b) b ≡ None
    → ShownSlash (k + 1) (scan_read_behind k since (At (place.Script j)) (class_of b) b) bs (scan_next (At (place.Script j)) (class_of b) b) z x y
    → ShownSlash k since (b ∷ bs) (At (place.Script j)) z (byte_origin (At (place.Script j)) (class_of b) b x) (byte_origin (At (place.Script j)) (class_of b) b y)
start-slash k since b bs j z x y w e d =
    slash-at-start k since b bs j z x y (script_scan_step (script_scan_start j) Nothing (class_of b) b) (script-start-valid j w) refl e d

-- What a script says of its senses stays so behind a byte.
step-fits : (m : ScriptScan) (step : ScriptStep) (c : Class) → IsScriptScan m → ScriptSensesFit m → step_error all_element_scripts m step ≡ None
    → ScanFits (scan_by_step m step c)
step-fits m (Reads bytes g) c v fit e = fit-read bytes m v fit (reads-taken m bytes g e)
step-fits m (EndsContent letters) c v fit e = tag-fits c

pub element-goes-fit : (b : ℕ) (m : ScriptScan) (h : Pending) → ScanValid (InScriptElement m h) → ScriptSensesFit m
    → scan_error (InScriptElement m h) (class_of b) b ≡ None → ScanFits (scan_next (InScriptElement m h) (class_of b) b)
element-goes-fit b m h w fit e = step-fits m (script_scan_step m h (class_of b) b) (class_of b) w.0 fit e

pub start-goes-fit : (b : ℕ) (j : Js) → ScanValid (At (place.Script j)) → scan_error (At (place.Script j)) (class_of b) b ≡ None
    → ScanFits (scan_next (At (place.Script j)) (class_of b) b)
start-goes-fit b j w e =
    step-fits (script_scan_start j) (script_scan_step (script_scan_start j) Nothing (class_of b) b) (class_of b) (script-start-valid j w) (scripts-clash.start j) e
