-- A path on which it is not known what a slash would be, beside paths that differ in that: it is accepted where they are, at each byte of a text
-- and at its end.
use Rattle.std.proofs.Common.{◌≡◌, ℕ, ◌+◌, Bool, true, false, ◌&&◌, List, [], ◌∷◌, length, Option, None, Ok, option_map, if◌then◌else◌, refl, sym, ap, ◌∙◌, subst, inl}
use Rattle.js_lexer.specs.Refusals.{Cause}
use Rattle.js_step.specs.ScriptEvidence.{ScriptSensesFit, script_with_brace}
use Rattle.js_step.specs.ScriptScanOrder.{ScriptScanBelow}
use Rattle.js_step.specs.ScriptScans.{ScriptScan, script_scan_cut_error, script_scan_end_error, script_scan_error, script_scan_next, script_scan_start, script_senses_differ}
use Rattle.js_step.specs.ScriptValidity.{IsScriptScan}
use Rattle.js_step.proofs.ScriptClash.{scripts-clash}
use Rattle.js_step.proofs.ScriptGrowth.{scripts-grow}
use Rattle.js_step.proofs.ValidScripts.{scripts-stay-valid}
use Rattle.place_core.specs.page.Classes.{Class, White, QuotationMark, Apostrophe, GreaterThan, class_of}
use Rattle.place_core.specs.page.Contents.{ScriptStep, Reads, EndsContent}
use Rattle.place_core.specs.page.Html.{ends_value}
use Rattle.place_core.specs.page.References.{Reference, Closed, Open, as_it_stands, flushed, next_reference, undone_byte}
use Rattle.place_core.specs.page.States.{Pending, Nothing}
use Rattle.place_core.specs.page.Tags.{DoubleQuoted, SingleQuoted, Unquoted, feed_bytes, script_code}
use Rattle.place_core.specs.place.Errors.{PathCause, TextRead, at_hand, first_byte_error, first_cause, is_written, language_error, script_read, step_error, value_error}
use Rattle.place_core.specs.place.StatePlaces.{unbegun}
use Rattle.place_core.specs.declared.body.Body.TheVariants as body
use Rattle.place_core.specs.declared.js.Js.{Js}
use Rattle.place_core.specs.declared.place.Place.{Place}
use Rattle.place_core.specs.declared.place.Place.TheVariants as place
use Rattle.place_core.specs.declared.quotes.Quotes.{Quotes}
use Rattle.place_core.specs.declared.quotes.Quotes.TheVariants as quotes
use Rattle.place_core.specs.declared.value_place.ValuePlace.{ValuePlace}
use Rattle.place_core.proofs.JoinParts.{quotes_partial}
use Rattle.url_lexer.specs.Triples.{NoTriple}
use Rattle.html_scan.specs.Scans.{Scan, At, InScript, InScriptElement, all_element_scripts, bare_begun, behind_end_name, scan_by_step, script_scan_step, bare_white, content_scan, empty_script_between, quoted_error, quotes_lead, scan_cut_error, scan_error, scan_lexeme_error, scan_next, scan_place, script_fed_byte, script_fed_next, script_feeding, value_between, value_fed, with_quotes}
use Rattle.html_step.specs.Steps.{scan_read_behind, stepped}
use Rattle.html_step.proofs.FedAlike.{FedBeside, fed-beside, first-caused}
use Rattle.html_step.proofs.ScanOrder.{GoesIn, ScanValid, begun-open, quoted-goes, quoted-takes, script_cut}
use Rattle.html_step.proofs.ScriptAlike.{fit-byte}
use Rattle.html_step.proofs.ScriptContents.{ReadBeside, asked, cut-beside, read-beside, scan-read, step-beside}
use Rattle.html_step.proofs.ScriptEither.{with_js}
use Rattle.html_step.proofs.ScriptEnds.{end_if, script_end, script_end_at}
use Rattle.html_step.proofs.ScriptModes.{TakesLess, step-brace, step-under}
use Rattle.html_step.proofs.ScriptOrder.{ScriptUnder, kept-below, script-grows, script-none-refused, under_below}
use Rattle.html_step.proofs.ValidSteps.{scan-valid}
use Rattle.html_step.proofs.WholeTexts.{deep-behind, end-ok, ok-end, ok-step, step-ok}

-- It is one of the paths, or paths differ there, and it is beside them.
pub data UnderEither (n m : ScriptScan) : Type 0 where
  either_under : ScriptUnder n m → UnderEither n m
  either_apart : IsScriptScan m → ScriptSensesFit m → script_senses_differ m.senses ≡ true → ScriptScanBelow n (script_with_brace m) → UnderEither n m

record GrowsEither (n m : ScriptScan) : Type 0 where
  error : (element : Bool) (b : ℕ) → script_scan_error element m b ≡ None → script_scan_error element n b ≡ None
  next : (element : Bool) (b : ℕ) → script_scan_error element m b ≡ None → UnderEither (script_fed_byte n b) (script_fed_byte m b)
  cut_error : script_scan_cut_error m ≡ None → script_scan_cut_error n ≡ None
  end_error : script_scan_end_error m ≡ None → script_scan_end_error n ≡ None

apart-next : (element : Bool) (n m : ScriptScan) (b : ℕ) (x : Bool) → script_senses_differ (script_scan_next m b).senses ≡ x → IsScriptScan m → ScriptSensesFit m
    → script_senses_differ m.senses ≡ true → ScriptScanBelow n (script_with_brace m) → script_scan_error element m b ≡ None
    → UnderEither (script_fed_byte n b) (script_fed_byte m b)
apart-next element n m b true i v k d l e =
    let c = scripts-clash.clashes m k d in
    let below = (scripts-grow.scans n (script_with_brace m) l).next element b (c.error element b ∙ e) in
    either_apart (scripts-stay-valid.next m b v) (fit-byte element m b v k e) i
    (kept-below (script_scan_next n b) (script_with_brace (script_scan_next m b)) ((c.next_apart element b e i).1 (script_scan_next n b) below))
apart-next element n m b false i v k d l e =
    let c = scripts-clash.clashes m k d in
    let below = (scripts-grow.scans n (script_with_brace m) l).next element b (c.error element b ∙ e) in
    either_under (under_below (kept-below (script_scan_next n b) (script_scan_next m b) (c.next_same element b e i (script_scan_next n b) below)))

either-grows : (n m : ScriptScan) → UnderEither n m → GrowsEither n m
either-grows n m (either_under h) = let g = script-grows n m h in
    record { error = g.error; next = λ element b e. either_under (g.next element b e); cut_error = g.cut_error; end_error = g.end_error }
either-grows n m (either_apart v k d l) =
    let c = scripts-clash.clashes m k d in
    let g = scripts-grow.scans n (script_with_brace m) l in
    record {
      error = λ element b e. g.error element b (c.error element b ∙ e);
      next = λ element b e. apart-next element n m b (script_senses_differ (script_scan_next m b).senses) refl v k d l e;
      cut_error = λ e. g.cut_error (c.cut_error ∙ e);
      end_error = λ e. g.end_error (c.end_error ∙ e);
    }

eithers-beside : FedBeside script_feeding script_feeding UnderEither
eithers-beside = record {
  takes = λ n m b h e. ap (option_map (λ (x : Cause). script_code x.refusal)) ((either-grows n m h).error false b (script-none-refused m b e));
  goes = λ n m b h e. (either-grows n m h).next false b (script-none-refused m b e);
  names = λ n m h. refl;
}

-- In the element they are read beside each other, where the byte does the same to both.
eithers-read : ReadBeside all_element_scripts all_element_scripts UnderEither
eithers-read = record {
  takes = λ n m b h e. (either-grows n m h).error true b e;
  goes = λ n m b h e. (either-grows n m h).next true b e;
  takes_cut = λ n m h e. (either-grows n m h).cut_error e;
  takes_end = λ n m h e. (either-grows n m h).end_error e;
}

step-either : (n m : ScriptScan) (h : Pending) (b : ℕ) → UnderEither n m → TakesLess h m → script_scan_step n h (class_of b) b ≡ script_scan_step m h (class_of b) b
step-either n m h b (either_under l) t = step-under n m h b l t
step-either n m h b (either_apart v k d l) t = step-brace n m h b l d t

-- Scan states that are the same but for that of the script.
pub data BesideEither : Scan → Scan → Type 0 where
  beside_at : (v : ValuePlace) (i j : Js) → UnderEither (script_scan_start i) (script_scan_start j)
      → BesideEither (At (place.Value (with_js v i))) (At (place.Value (with_js v j)))
  beside_in : (v : ValuePlace) (n m : ScriptScan) (r : Reference) → UnderEither n m → BesideEither (InScript v n r) (InScript v m r)
  beside_place : (i j : Js) → UnderEither (script_scan_start i) (script_scan_start j) → BesideEither (At (place.Script i)) (At (place.Script j))
  beside_element : (n m : ScriptScan) (h : Pending) → UnderEither n m → BesideEither (InScriptElement n h) (InScriptElement m h)
  beside_same : (f : Scan) → BesideEither f f

-- where a byte leads
white-beside : (x y : ValuePlace) (z : Bool) → x.tag ≡ y.tag → x.typed ≡ y.typed → ((p : Quotes) → BesideEither (with_quotes x p) (with_quotes y p))
    → BesideEither (bare_white x z) (bare_white y z)
white-beside x y true t u k = rw (t, u) (beside_same (bare_white y true))
white-beside x y false t u k = k unbegun

lead-beside : (x y : ValuePlace) (q : Quotes) (c : Class) (F G : Quotes → Scan) → x.tag ≡ y.tag → x.typed ≡ y.typed
    → ((p : Quotes) → BesideEither (with_quotes x p) (with_quotes y p)) → (GoesIn q c → (p : Quotes) → BesideEither (F p) (G p))
    → BesideEither (quotes_lead x q c F) (quotes_lead y q c G)
lead-beside x y quotes.Dq QuotationMark F G t u k g = white-beside x y true t u k
lead-beside x y quotes.Dq c F G t u k g = g refl quotes.Dq
lead-beside x y quotes.Sq Apostrophe F G t u k g = white-beside x y true t u k
lead-beside x y quotes.Sq c F G t u k g = g refl quotes.Sq
lead-beside x y (quotes.Bare s) White F G t u k g = white-beside x y s.uq t u k
lead-beside x y (quotes.Bare s) QuotationMark F G t u k g = k quotes.Dq
lead-beside x y (quotes.Bare s) Apostrophe F G t u k g = k quotes.Sq
lead-beside x y (quotes.Bare s) GreaterThan F G t u k g = rw t (beside_same (content_scan y.tag))
lead-beside x y (quotes.Bare s) c F G t u k g = g tt bare_begun

-- the end of the value
end-beside : (ends : Bool) (r : Reference) (c : Class) (b : ℕ) (n m : ScriptScan) → UnderEither n m → language_error script_feeding ends m r c b ≡ None
    → end_if ends m r ≡ None → end_if ends n r ≡ None
end-beside true Closed c b n m l h e = (either-grows n m l).end_error e
end-beside true (Open f bytes) c b n m l h e =
    let xs = flushed true false f bytes in
    (either-grows (feed_bytes script_feeding n xs) (feed_bytes script_feeding m xs)
    (fed-beside eithers-beside xs (is_written false f bytes) (length bytes + 1) n m l h).1).end_error e
end-beside false r c b n m l h e = refl

bare-end-beside : (u : Bool) (r : Reference) (c : Class) (b : ℕ) (n m : ScriptScan) → UnderEither n m
    → (if u then language_error script_feeding (ends_value Unquoted c) m r c b else first_byte_error script_feeding m c b) ≡ None
    → end_if (u && ends_value Unquoted c) m r ≡ None → end_if (u && ends_value Unquoted c) n r ≡ None
bare-end-beside true r c b n m l h e = end-beside (ends_value Unquoted c) r c b n m l h e
bare-end-beside false r c b n m l h e = refl

quoted-end-beside : (q : Quotes) (r : Reference) (c : Class) (b : ℕ) (n m : ScriptScan) → UnderEither n m → quoted_error script_feeding q m r c b ≡ None
    → script_end_at q m r c ≡ None → script_end_at q n r c ≡ None
quoted-end-beside quotes.Dq r c b n m l h e = end-beside (ends_value DoubleQuoted c) r c b n m l h e
quoted-end-beside quotes.Sq r c b n m l h e = end-beside (ends_value SingleQuoted c) r c b n m l h e
quoted-end-beside (quotes.Bare x) r c b n m l h e = bare-end-beside x.uq r c b n m l h e

-- a byte
record TakesEither (e f : Scan) (c : Class) (b : ℕ) : Type 0 where
  error : scan_error e c b ≡ None
  end : script_end e c ≡ None
  next : BesideEither (scan_next e c b) (scan_next f c b)

causes-none : (o p x : Option PathCause) → first_cause o x ≡ None → (o ≡ None → p ≡ None) → first_cause p x ≡ None
causes-none o p x h f =
    let d = first-caused o x h in
    ap (λ (z : Option PathCause). first_cause z x) (f d.0) ∙ d.1

step-goes : (x : ScriptStep) (n m : ScriptScan) (c : Class) → UnderEither n m → step_error all_element_scripts m x ≡ None
    → BesideEither (scan_by_step n x c) (scan_by_step m x c)
step-goes (Reads bytes h) n m c u e =
    let a = asked all_element_scripts m bytes h e in
    beside_element (feed_bytes script_feeding n bytes) (feed_bytes script_feeding m bytes) h
    (subst (λ (k : ScriptScan). UnderEither k (feed_bytes script_feeding m bytes)) (scan-read bytes n)
    (subst (λ (k : ScriptScan). UnderEither (script_read all_element_scripts n bytes) k) (scan-read bytes m)
    (read-beside eithers-read bytes a.back a.back n m u a.read).1))
step-goes (EndsContent letters) n m c u e = beside_same (behind_end_name c)

pub record TakesStep (n m : ScriptScan) (h : Pending) (b : ℕ) : Type 0 where
  pub error : step_error all_element_scripts n (script_scan_step n h (class_of b) b) ≡ None
  pub next : BesideEither (scan_by_step n (script_scan_step n h (class_of b) b) (class_of b)) (scan_by_step m (script_scan_step m h (class_of b) b) (class_of b))

pub takes-step : (n m : ScriptScan) (h : Pending) (b : ℕ) → UnderEither n m → TakesLess h m
    → step_error all_element_scripts m (script_scan_step m h (class_of b) b) ≡ None → TakesStep n m h b
takes-step n m h b u t e =
    let x = script_scan_step m h (class_of b) b in
    let same = step-either n m h b u t in
    record {
      error = ap (step_error all_element_scripts n) same ∙ step-beside eithers-read x n m u e;
      next = subst (λ (y : ScriptStep). BesideEither (scan_by_step n y (class_of b)) (scan_by_step m x (class_of b))) (sym same) (step-goes x n m (class_of b) u e);
    }

element-takes : (n m : ScriptScan) (h : Pending) (c : Class) (b : ℕ) → class_of b ≡ c → UnderEither n m → TakesLess h m
    → scan_error (InScriptElement m h) c b ≡ None → TakesEither (InScriptElement n h) (InScriptElement m h) c b
element-takes n m h c b k u t e =
    subst (λ (z : Class). scan_error (InScriptElement m h) z b ≡ None → TakesEither (InScriptElement n h) (InScriptElement m h) z b) k
    (λ i. let d = takes-step n m h b u t i in record { error = d.error; end = refl; next = d.next }) e

place-takes : (i j : Js) (c : Class) (b : ℕ) → class_of b ≡ c → UnderEither (script_scan_start i) (script_scan_start j)
    → scan_error (At (place.Script j)) c b ≡ None → TakesEither (At (place.Script i)) (At (place.Script j)) c b
place-takes i j c b k u e =
    subst (λ (z : Class). scan_error (At (place.Script j)) z b ≡ None → TakesEither (At (place.Script i)) (At (place.Script j)) z b) k
    (λ n. let d = takes-step (script_scan_start i) (script_scan_start j) Nothing b u (inl refl) n in record { error = d.error; end = refl; next = d.next }) e

either-takes : (e f : Scan) (c : Class) (b : ℕ) → class_of b ≡ c → BesideEither e f → ScanValid f → scan_error f c b ≡ None → script_end f c ≡ None → TakesEither e f c b
either-takes _ _ c b i (beside_element n m h u) w e k = element-takes n m h c b i u w.1 e
either-takes _ _ c b z (beside_place i j u) w e k = place-takes i j c b z u e
either-takes _ _ c b z (beside_same f) v h k = record { error = h; end = k; next = beside_same (scan_next f c b) }
either-takes _ _ c b z (beside_in v n m r u) w h k =
    let own = first-caused (quoted_error script_feeding v.quotes m r c b) (at_hand (value_error v c)) h in
    let opened = begun-open r v.quotes w.0 in
    let same = quotes_partial.same v.quotes in
    record {
      error = causes-none (quoted_error script_feeding v.quotes m r c b) (quoted_error script_feeding v.quotes n r c b) (at_hand (value_error v c)) h
          (λ o. quoted-takes eithers-beside v.quotes v.quotes r c b n m same opened u o);
      end = quoted-end-beside v.quotes r c b n m u own.0 k;
      next = lead-beside v v v.quotes c (λ p. script_fed_next (value_between v p) n r c b) (λ p. script_fed_next (value_between v p) m r c b) refl refl
          (λ p. beside_same (with_quotes v p))
          (λ g p. beside_in (value_between v p) (feed_bytes script_feeding n (undone_byte true r c b)) (feed_bytes script_feeding m (undone_byte true r c b)) (next_reference r c b)
          (quoted-goes eithers-beside v.quotes v.quotes r c b n m same opened u g own.0));
    }
either-takes _ _ c b z (beside_at v i j u) w h k =
    let n = script_scan_start i in
    let m = script_scan_start j in
    let own = first-caused (quoted_error script_feeding v.quotes m Closed c b) (at_hand (value_error (with_js v j) c)) h in
    let same = quotes_partial.same v.quotes in
    record {
      error = causes-none (quoted_error script_feeding v.quotes m Closed c b) (quoted_error script_feeding v.quotes n Closed c b) (at_hand (value_error (with_js v j) c)) h
          (λ o. quoted-takes eithers-beside v.quotes v.quotes Closed c b n m same tt u o);
      end = refl;
      next = lead-beside (with_js v i) (with_js v j) v.quotes c (λ p. value_fed (with_js v i) p (body.Js i) NoTriple Closed c b)
          (λ p. value_fed (with_js v j) p (body.Js j) NoTriple Closed c b) refl refl
          (λ p. beside_at (value_between v p) i j u)
          (λ g p. beside_in (empty_script_between v p) (feed_bytes script_feeding n (undone_byte true Closed c b)) (feed_bytes script_feeding m (undone_byte true Closed c b)) (next_reference Closed c b)
          (quoted-goes eithers-beside v.quotes v.quotes Closed c b n m same tt u g own.0));
    }

-- the end of a text
record EndsEither (e : Scan) : Type 0 where
  cut : scan_cut_error e ≡ None
  lexeme : scan_lexeme_error e ≡ None
  script : script_cut e ≡ None

either-ends : (e f : Scan) → BesideEither e f → scan_cut_error f ≡ None → scan_lexeme_error f ≡ None → script_cut f ≡ None → EndsEither e
either-ends _ _ (beside_same f) h k s = record { cut = h; lexeme = k; script = s }
either-ends _ _ (beside_at v i j u) h k s = record { cut = refl; lexeme = refl; script = refl }
either-ends _ _ (beside_place i j u) h k s = record { cut = refl; lexeme = refl; script = refl }
either-ends _ _ (beside_element n m x u) h k s = record { cut = cut-beside eithers-read x n m u h; lexeme = refl; script = refl }
either-ends _ _ (beside_in v n m r u) h k s =
    let bytes = as_it_stands r in
    let fed = fed-beside eithers-beside bytes true (length bytes) n m u h in
    record {
      cut = fed.0;
      lexeme = refl;
      script = (either-grows (feed_bytes script_feeding n bytes) (feed_bytes script_feeding m bytes) fed.1).cut_error s;
    }

-- the whole text
pub either-accepts : (bytes : List ℕ) (k : ℕ) (since : TextRead) (j : ℕ) (begun : TextRead) (e f : Scan) (q : Place) → begun.deep ≡ None → ScanValid f → BesideEither e f
    → stepped k since bytes f ≡ Ok q → (a : Place) × (stepped j begun bytes e ≡ Ok a)
either-accepts [] k since j begun e f q d v l h =
    let n = end-ok k since f q h in
    let m = either-ends e f l n.cut n.lexeme n.script in
    (scan_place e, ok-end j begun e (scan_place e) d (record { cut = m.cut; lexeme = m.lexeme; place = refl; script = m.script }))
either-accepts (b ∷ bs) k since j begun e f q d v l h =
    let n = step-ok k since b bs f q h in
    let m = either-takes e f (class_of b) b refl l v n.0 n.2 in
    let r = either-accepts bs (k + 1) (scan_read_behind k since f (class_of b) b) (j + 1) (scan_read_behind j begun e (class_of b) b) (scan_next e (class_of b) b)
    (scan_next f (class_of b) b) q (deep-behind j begun b e d m.error m.end) (scan-valid f (class_of b) b v n.0) m.next n.1 in
    (r.0, ok-step j begun b bs e r.0 m.error m.end r.1)
