-- Whole texts: what is refused is shown by one path or by two.
use Rattle.std.proofs.Common.{◌≡◌, ℕ, ◌+◌, ◌-◌, Bool, true, false, suc, List, [], ◌∷◌, Option, Some, None, Result, Ok, Err, refl, sym, ap, ◌∙◌, subst, arith, inl, inr, if◌then◌else◌, ◌⊎◌}
use Rattle.place_core.specs.page.Classes.{White, class_of, is_equals_sign}
use Rattle.place_core.specs.place.Errors.{PathCause, flushed_error, PathRefusal, PathRefuses, byte_error, TextRead, nothing_read}
use Rattle.place_core.specs.place.ApartPlaces.{HasApart, beginning_in_body, beginning_in_css, side}
use Rattle.place_core.specs.place.PathPairs.{Clashes, ClashesApart, MeetsColon, byte_clash}
use Rattle.place_core.specs.page.Html.{next}
use Rattle.place_core.specs.place.Membership.{IsIn, Bears}
use Rattle.place_core.specs.place.Places.{IsValid}
use Rattle.place_core.specs.place.StatePlaces.{placed}
use Rattle.place_core.specs.page.States.{Template, LexState}
use Rattle.place_core.specs.page.References.{Form, Reference, Open, ReferenceStep, Breaks, as_it_stands}
use Rattle.place_core.specs.page.Tags.{ValueState, languages}
use Rattle.place_core.specs.declared.body.Body.{Body}
use Rattle.place_core.specs.declared.body.Body.TheVariants as body
use Rattle.place_core.specs.declared.css.Css.{Css}
use Rattle.place_core.specs.declared.css.Css.TheVariants as css
use Rattle.css_step.specs.StyleOrigins.{style_scan_parts}
use Rattle.css_step.specs.StyleScans.{StyleScan, style_scan_start}
use Rattle.place_core.specs.declared.parts.Parts.{Parts}
use Rattle.place_core.specs.declared.place.Place.TheVariants as place
use Rattle.place_core.specs.declared.prefix.Prefix.TheVariants as prefix
use Rattle.place_core.specs.declared.value_place.ValuePlace.{ValuePlace}
use Rattle.place_core.proofs.Semilattices.{one_value, no_map, none_some}
use Rattle.url_lexer.specs.Triples.{Triple}
use Rattle.place_core.specs.declared.code.Code.{Code}
use Rattle.place_core.specs.declared.code.Code.TheVariants as code
use Rattle.place_core.specs.declared.member.Member.{Member}
use Rattle.place_core.specs.declared.member.Member.TheVariants as member
use Rattle.place_core.specs.declared.place.Place.{Place}
use Rattle.place_core.specs.declared.quotes.Quotes.{Quotes}
use Rattle.place_core.specs.declared.step_err.StepErr.{StepErr}
use Rattle.html_scan.specs.Scans.{Scan, At, InStyle, InUrl, style_feeding, scan_reference, scan_cut_error, scan_error, scan_lexeme_error, scan_next, scan_place, InScript, begun_script_refusal, scan_script_cut_refusal, scan_script_refusal, InScriptElement}
use Rattle.js_step.specs.ScriptScans.{script_scan_cut_error}
use Rattle.html_step.proofs.ScriptBraces.{slash-earlier, fits-next}
use Rattle.html_step.proofs.ScriptAlike.{told-none}
use Rattle.html_step.proofs.ScriptTexts.{at-script-byte, slash-text}
use Rattle.html_step.proofs.ScriptTold.{ScriptShownBytes, ShownSlash, in-script-byte, in-script-end, ScanFits}
use Rattle.html_step.proofs.ScriptQuiet.{quiet-below, quiet-end, same-read}
use Rattle.html_step.specs.Laws.{IsEvidence, EvidenceData, TextEvidence, apart, one, two}
use Rattle.html_step.specs.Origins.{back_by, body_parts, byte_origin, byte_shows, end_shows, is_apart, scan_parts, shows, unless_shown, or_evidence, script_back, script_end_shown, script_shown, script_told_shown}
use Rattle.html_step.specs.Steps.{after_text, place_before, stepped, unless_broken_off, unless_refused, with_place_before, scan_read_behind, unless_refused_in_script, unless_too_deep}
use Rattle.html_step.proofs.ApartParts.{differs-of}
use Rattle.html_step.proofs.RefusedColons.{ClashesFrom, ShownApart, ShownTwo, Stands, earlier-two, kept-apart, meets, two-read, refused-later}
use Rattle.html_step.proofs.Characters.{ReferencePlain}
use Rattle.html_step.proofs.Clashing.{clash, is-open, is-unbegun, is-unquoted}
use Rattle.html_step.proofs.FromSteps.{from-byte}
use Rattle.html_step.proofs.FromValues.{From}
use Rattle.html_step.proofs.FromTexts.{own-has}
use Rattle.html_step.proofs.ScanOrder.{ScanBelow, ScanHas, ScanValid, scan-grows, end-grows, scan-same, script_cut}
use Rattle.html_step.proofs.OneTexts.{agrees-at, at-place, one-text}
use Rattle.html_step.proofs.ReadScans.{Broken, Takes, read_style, read_turn, scan_read}
use Rattle.html_step.proofs.StyleShownSteps.{style-read-apart}
use Rattle.html_step.proofs.OwnScans.{IsOwn}
use Rattle.html_step.proofs.ShownBytes.{ApartShown, ShownByte, ShownCut, ShownLexeme, TwoShown, by_colon, by_style, by_white}
use Rattle.html_step.proofs.ShownSteps.{evidence-byte, evidence-cut, evidence-lexeme, evidence-read, cut-quiet, end-there}
use Rattle.html_step.proofs.UrlScans.{ScanPlain, scan-plain}
use Rattle.html_step.proofs.ValidSteps.{scan-valid}
use Rattle.html_step.proofs.ScriptElementTexts.{in-element-byte, at-element-byte, in-element-end}

abbrev pub ShownBytes : ℕ → TextRead → List ℕ → Scan → PathRefusal → EvidenceData → Type 0
ShownBytes k since bytes f r (one x) =
    ScanHas f x × ((g : Scan) → ScanValid g → ScanBelow g f → ScanHas g x → IsOwn g → stepped k since bytes g ≡ Err r)
ShownBytes k since bytes f r (two x y) = ShownTwo k bytes f r x y ⊎ ShownSlash k since bytes f r x y
ShownBytes k since bytes f r apart = ShownApart k bytes f r

no : false ≡ true → ⊥
no e = cc

one-err : (x y : PathRefusal) (o : Result Place PathRefusal) → o ≡ Err x → o ≡ Err y → x ≡ y
one-err x y o e f = let same : Err x ≡ Err y = sym e ∙ f in cc

err-ok : (q : Place) (r : PathRefusal) (o : Result Place PathRefusal) → o ≡ Ok q → o ≡ Err r → ⊥
err-ok q r o e f = let same : Ok q ≡ Err r = sym e ∙ f in cc

one-step-err : (x y : StepErr Place) (o : Result Place (StepErr Place)) → o ≡ Err x → o ≡ Err y → x ≡ y
one-step-err x y o e f = let same : Err x ≡ Err y = sym e ∙ f in cc

ok-step-err : (q : Place) (r : StepErr Place) (o : Result Place (StepErr Place)) → o ≡ Ok q → o ≡ Err r → ⊥
ok-step-err q r o e f = let same : Ok q ≡ Err r = sym e ∙ f in cc

-- a refusal of the byte at hand, where a script refuses nothing
hand-refused : (k : ℕ) (y z : Option PathRefusal) (o p : Option PathCause) (r s : Result Place PathRefusal) (x : PathCause) (e : PathRefusal) → y ≡ None → z ≡ None
    → o ≡ Some x → p ≡ Some x → unless_refused_in_script k y o r ≡ Err e → unless_refused_in_script k z p s ≡ Err e
hand-refused k y z o p r s x e m n i j h =
    ap (λ (w : Option PathRefusal). unless_refused_in_script k w p s) n ∙ ap (λ (w : Option PathCause). unless_refused k w s) j
    ∙ sym (ap (λ (w : Option PathRefusal). unless_refused_in_script k w o r) m ∙ ap (λ (w : Option PathCause). unless_refused k w r) i) ∙ h

hand-is : (k : ℕ) (y : Option PathRefusal) (o : Option PathCause) (r : Result Place PathRefusal) (x : PathCause) (e : PathRefusal) → y ≡ None → o ≡ Some x
    → unless_refused_in_script k y o r ≡ Err e → e ≡ record { code = x.code; at = k - x.back; shown = k - x.shown }
hand-is k y o r x e m i h = one-err e (record { code = x.code; at = k - x.back; shown = k - x.shown }) (unless_refused_in_script k y o r) h
    (ap (λ (w : Option PathRefusal). unless_refused_in_script k w o r) m ∙ ap (λ (w : Option PathCause). unless_refused k w r) i)

-- or of a later one
later-refused : (k : ℕ) (y : Option PathRefusal) (o : Option PathCause) (r : Result Place PathRefusal) (e : PathRefusal) → y ≡ None → o ≡ None
    → unless_refused_in_script k y o r ≡ Err e → r ≡ Err e
later-refused k y o r e m i h =
    sym (ap (λ (w : Option PathRefusal). unless_refused_in_script k w o r) m ∙ ap (λ (w : Option PathCause). unless_refused k w r) i) ∙ h

-- two paths that are refused together at the byte at hand
at-hand-is : (k : ℕ) (r : PathRefusal) (x : PathCause) (c : Code) → r ≡ record { code = x.code; at = k - x.back; shown = k - x.shown }
    → x ≡ record { code = c; back = 0; shown = 0 }
    → (r.at ≡ k + 0) × (r.code ≡ c)
at-hand-is k r x c e i =
    let is : r ≡ record { code = c; at = k - 0; shown = k - 0 } = e
    ∙ ap (λ (y : PathCause). record { code = y.code; at = k - y.back; shown = k - y.shown }) i in
    (ap (λ (y : PathRefusal). y.at) is ∙ (let z : k - 0 ≡ k + 0 = omega arith in z), ap (λ (y : PathRefusal). y.code) is)

white-clashes : (f : Scan) (b : ℕ) → class_of b ≡ White → (s t : LexState ValueState) (g h : Scan) → Stands s g f member.UnquotedValue
    → Stands t h f member.UnbegunValue
    → byte_clash s t (class_of b) ≡ Some code.AmbigContext
white-clashes f b w s t g h p q = rw w (clash s t (is-unquoted s g p.at p.has) (is-unbegun t h q.at q.has))

white-shown : (k b : ℕ) (bs : List ℕ) (f : Scan) (r : PathRefusal) → class_of b ≡ White → ScanHas f member.UnquotedValue → ScanHas f member.UnbegunValue
    → r.at ≡ k + 0 → r.code ≡ code.AmbigContext → ShownTwo k (b ∷ bs) f r member.UnquotedValue member.UnbegunValue
white-shown k b bs f r w h j at is = record {
  behind = 0;
  at = at;
  one = h;
  other = j;
  clashes = λ s t g h p q. inl (white-clashes f b w s t g h p q ∙ ap Some (sym is));
}

-- a byte that is refused where paths met apart
-- what is left of a text behind a byte
abbrev Rest : ℕ → TextRead → ℕ → List ℕ → Scan → Result Place PathRefusal
Rest k since b bs f = stepped (k + 1) (scan_read_behind k since f (class_of b) b) bs (scan_next f (class_of b) b)

value-quiet : (x : Body) (q : Quotes) → is_apart (body_parts x) ≡ true → (k b : ℕ) → begun_script_refusal x q k (class_of b) b ≡ None
value-quiet (body.Js j) q a k b = absurd (no a)
value-quiet _ q a k b = refl

apart-quiet : (g : Scan) → is_apart (scan_parts g) ≡ true → (k : ℕ) (places : List ℕ) (b : ℕ) → scan_script_refusal k places g (class_of b) b ≡ None
apart-quiet (InScript v n r) a k places b = absurd (no a)
apart-quiet (At (place.Value v)) a k places b = value-quiet v.body v.quotes a k b
apart-quiet (At _) a k places b = refl
apart-quiet _ a k places b = refl

apart-byte : (k b : ℕ) (bs : List ℕ) (f : Scan) (r : PathRefusal) (x : PathCause) → r ≡ record { code = x.code; at = k - x.back; shown = k - x.shown }
    → ApartShown f (class_of b) b x → ShownApart k (b ∷ bs) f r
apart-byte k b bs f r x is d =
    let at : r.at ≡ k - x.back = ap (λ (y : PathRefusal). y.at) is in
    let code : r.code ≡ x.code = ap (λ (y : PathRefusal). y.code) is in
    let back = d.back in
    record {
      there = d.there;
      code = code ∙ d.code;
      within = omega (arith, at, back);
      refuses = λ j n i sum stands since g v l o.
          let same : j - x.back ≡ i = omega (arith, at, sum, stands) in (
            j - x.shown,
            ap (λ (y : Option PathRefusal). unless_refused_in_script j y (scan_error g (class_of b) b) (Rest j since b bs g)) (apart-quiet g o j since.fed b)
                ∙ ap (λ (y : Option PathCause). unless_refused j y (Rest j since b bs g)) (d.refuses g v l o)
                ∙ ap (λ (y : ℕ). Err (record { code = x.code; at = y; shown = j - x.shown })) same
                ∙ ap (λ (y : Code). Err (record { code = y; at = i; shown = j - x.shown })) (sym code),
          );
    }

one-place : (v u : ValuePlace) (t k : Triple) (r z : Reference) → InUrl v t r ≡ InUrl u k z → v ≡ u
one-place v u t k r z e = cc

one-open : (v u : ValuePlace) (t k : Triple) (r z : Reference) → InUrl v t r ≡ InUrl u k z → r ≡ z
one-open v u t k r z e = cc

one-reference : (x z : Form) (a d : List ℕ) → Open x a ≡ Open z d → (x ≡ z) × (a ≡ d)
one-reference x z a d e = (cc, cc)

taken-by : (f : Scan) (b : ℕ) (v : ValuePlace) (t : Triple) (x : Form) (bytes : List ℕ) (s : Parts) → f ≡ InUrl v t (Open x bytes) → v.body ≡ body.Url s
    → Broken s x bytes (class_of b) ≡ None → Takes f b
taken-by f b v t x bytes s at d n = record {
  taken = λ u a k z l e i m.
      let same : InUrl v t (Open x bytes) ≡ InUrl u k (Open z l) = sym at ∙ e in
      let value : v ≡ u = one-place v u t k (Open x bytes) (Open z l) same in
      let form = one-reference x z bytes l (one-open v u t k (Open x bytes) (Open z l) same) in
      let parts : s ≡ a = one_value s a (ap body_parts (sym d ∙ ap (λ (w : ValuePlace). w.body) value ∙ i)) in
      rw (sym parts, sym form.0, sym form.1) n;
  styled = λ u m z l e k. absurd (let same : InUrl v t (Open x bytes) ≡ InStyle u m (Open z l) = sym at ∙ e in cc);
}

one-style : (v u : ValuePlace) (n m : StyleScan) (x z : Form) (a l : List ℕ) → InStyle v n (Open x a) ≡ InStyle u m (Open z l) → (n ≡ m) × (x ≡ z) × (a ≡ l)
one-style v u n m x z a l e = (cc, cc, cc)

style-not-url : {A : Type 0} (v u : ValuePlace) (n : StyleScan) (t : Triple) (r z : Reference) → InStyle v n r ≡ InUrl u t z → A
style-not-url v u n t r z e = cc

style-taken-by : (f : Scan) (b : ℕ) (v : ValuePlace) (n : StyleScan) (x : Form) (bytes : List ℕ) → f ≡ InStyle v n (Open x bytes)
    → flushed_error style_feeding n (is_equals_sign (class_of b)) x bytes ≡ None → Takes f b
style-taken-by f b v n x bytes at k = record {
  taken = λ u a t z l e i m. style-not-url v u n t (Open x bytes) (Open z l) (sym at ∙ e);
  styled = λ u m z l e t. let same = one-style v u n m x z bytes l (sym at ∙ e) in rw (sym same.0, sym same.1, sym same.2) k;
}

two-evidence : (k : ℕ) (since : TextRead) (b : ℕ) (bs : List ℕ) (f : Scan) (r : PathRefusal) (e : PathCause) (x y : Member) → ScanValid f → ScanPlain f
    → scan_error f (class_of b) b ≡ Some e
    → r ≡ record { code = e.code; at = k - e.back; shown = k - e.shown }
    → TwoShown f (class_of b) b e x y → ShownBytes k since (b ∷ bs) f r (two x y)
two-evidence k since b bs f r e x y v plain z i (by_white w m n h j is) =
    let a = at-hand-is k r e code.AmbigContext i is in
    subst (λ (z : Member). ShownBytes k since (b ∷ bs) f r (two z y)) (sym m)
    (subst (λ (z : Member). ShownBytes k since (b ∷ bs) f r (two member.UnquotedValue z)) (sym n) (inl (white-shown k b bs f r w h j a.0 a.1)))
two-evidence k since b bs f r e x y v plain z i (by_colon w t form bytes s at d turns taken not-yet came no-hole refused m n is) =
    let c = class_of b in
    let over = scan_read f (b ∷ bs) in
    let valid : ScanValid (InUrl w t (Open form bytes)) = subst ScanValid at v in
    let held : scan_reference f ≡ Open form bytes = ap scan_reference at in
    let read : over ≡ read_turn Breaks w t form bytes c =
    ap (λ (g : Scan). scan_read g (b ∷ bs)) at ∙ ap (λ (q : ReferenceStep). read_turn q w t form bytes c) turns in
    let shown : ApartShown over c b e =
    subst (λ (g : Scan). ApartShown g c b e) (sym read) (evidence-read w t form bytes s b e d valid.0 turns taken came (ap (λ (q : PathCause). q.code) is) refused) in
    subst (λ (z : Member). ShownBytes k since (b ∷ bs) f r (two z y)) (sym m)
    (subst (λ (z : Member). ShownBytes k since (b ∷ bs) f r (two member.PartStart z)) (sym n)
    (inl (two-read k b bs f r form bytes s v (ap scan_parts at ∙ ap body_parts d) held (subst ReferencePlain held plain) turns
    (taken-by f b w t form bytes s at d taken) not-yet (apart-byte k b bs over r e i shown))))
two-evidence k since b bs f r e x y v plain z i (by_style w o form bytes s at d turns taken not-yet shown came is refused m n h j) =
    let c = class_of b in
    let over = scan_read f (b ∷ bs) in
    let valid : ScanValid (InStyle w o (Open form bytes)) = subst ScanValid at v in
    let held : scan_reference f ≡ Open form bytes = ap scan_reference at in
    let read : over ≡ read_style Breaks w o form bytes c =
    ap (λ (g : Scan). scan_read g (b ∷ bs)) at ∙ ap (λ (q : ReferenceStep). read_style q w o form bytes c) turns in
    let met : ApartShown over c b e =
    subst (λ (g : Scan). ApartShown g c b e) (sym read) (style-read-apart w o form bytes b e valid.0 turns taken shown came is refused) in
    subst (λ (z : Member). ShownBytes k since (b ∷ bs) f r (two z y)) (sym m)
    (subst (λ (z : Member). ShownBytes k since (b ∷ bs) f r (two member.PartStart z)) (sym n)
    (inl (two-read k b bs f r form bytes s v (ap scan_parts at ∙ d) held (subst ReferencePlain held plain) turns
    (style-taken-by f b w o form bytes at taken) not-yet (apart-byte k b bs over r e i met))))

byte-evidence : (k : ℕ) (since : TextRead) (b : ℕ) (bs : List ℕ) (f : Scan) (r : PathRefusal) (x : PathCause) (y : EvidenceData) → ScanValid f → ScanPlain f
    → script_shown f (class_of b) b ≡ None → scan_error f (class_of b) b ≡ Some x
    → stepped k since (b ∷ bs) f ≡ Err r
    → ShownByte f (class_of b) b x y → ShownBytes k since (b ∷ bs) f r y
byte-evidence k since b bs f r x (one m) v plain q e h d = (
  d.0,
  λ g w l o i. hand-refused k (scan_script_refusal k since.fed f (class_of b) b) (scan_script_refusal k since.fed g (class_of b) b)
      (scan_error f (class_of b) b) (scan_error g (class_of b) b) (Rest k since b bs f) (Rest k since b bs g) x r
      (quiet-below k since.fed f f (class_of b) b v v (scan-same f) q) (quiet-below k since.fed f g (class_of b) b v w l q) e
      (d.1 g w l o i) h,
)
byte-evidence k since b bs f r x (two m n) v plain q e h d =
    two-evidence k since b bs f r x m n v plain e
    (hand-is k (scan_script_refusal k since.fed f (class_of b) b) (scan_error f (class_of b) b) (Rest k since b bs f) x r
    (quiet-below k since.fed f f (class_of b) b v v (scan-same f) q) e h) d
byte-evidence k since b bs f r x apart v plain q e h d =
    apart-byte k b bs f r x
    (hand-is k (scan_script_refusal k since.fed f (class_of b) b) (scan_error f (class_of b) b) (Rest k since b bs f) x r
    (quiet-below k since.fed f f (class_of b) b v v (scan-same f) q) e h) d

-- the end of a text
abbrev AtEnd : ℕ → TextRead → Scan → Result Place PathRefusal
AtEnd k since f = unless_too_deep k since.deep (unless_broken_off k since.last (scan_lexeme_error f) (scan_place f))

cut-evidence : (k : ℕ) (since : TextRead) (f : Scan) (r : PathRefusal) (x : PathCause) → ScanValid f → script_cut f ≡ None
    → ((g : Scan) → ScanBelow g f → scan_script_cut_refusal k since.fed g ≡ None) → scan_cut_error f ≡ Some x → stepped k since [] f ≡ Err r
    → ShownCut f x (end_shows f)
    → ShownBytes k since [] f r (one (end_shows f))
cut-evidence k since f r x w c q e h s = (
  s.there,
  λ g v l o i. hand-refused k (scan_script_cut_refusal k since.fed f) (scan_script_cut_refusal k since.fed g) (scan_cut_error f) (scan_cut_error g)
      (AtEnd k since f) (AtEnd k since g) x r (q f (scan-same f)) (q g l) e (s.refuses g l o) h,
)

broken-off : (k a : ℕ) (o p : Option Code) (x : Code) (q s : Place) (r : PathRefusal) → o ≡ Some x → p ≡ Some x
    → unless_broken_off k a o q ≡ Err r → unless_broken_off k a p s ≡ Err r
broken-off k a o p x q s r i j h =
    ap (λ (y : Option Code). unless_broken_off k a y s) j ∙ sym (ap (λ (y : Option Code). unless_broken_off k a y q) i) ∙ h

deep-or : (k : ℕ) (d : Option ℕ) (t u : Result Place PathRefusal) (r : PathRefusal) → (t ≡ Err r → u ≡ Err r) → unless_too_deep k d t ≡ Err r
    → unless_too_deep k d u ≡ Err r
deep-or k None t u r f h = f h
deep-or k (Some x) t u r f h = h

lexeme-evidence : (k : ℕ) (since : TextRead) (f : Scan) (r : PathRefusal) (x : Code) → ScanValid f → scan_cut_error f ≡ None
    → ((g : Scan) → ScanBelow g f → scan_script_cut_refusal k since.fed g ≡ None) → scan_lexeme_error f ≡ Some x → AtEnd k since f ≡ Err r
    → ShownLexeme f x (end_shows f) → ShownBytes k since [] f r (one (end_shows f))
lexeme-evidence k since f r x w n q e h s = (
  s.there,
  λ g v l o i. let m = s.refuses g l o in
      refused-later k (scan_script_cut_refusal k since.fed g) (scan_cut_error g) (AtEnd k since g) r (q g l) m.0
      (deep-or k since.deep (unless_broken_off k since.last (scan_lexeme_error f) (scan_place f)) (unless_broken_off k since.last (scan_lexeme_error g) (scan_place g)) r
      (broken-off k since.last (scan_lexeme_error f) (scan_lexeme_error g) x (scan_place f) (scan_place g) r e m.1) h),
)

next-stands : (s : LexState ValueState) (g f : Scan) (b : ℕ) (x : Member) → scan_error f (class_of b) b ≡ None
    → (z : Member) (from : From f (class_of b) b x z) → Stands s g f z
    → (byte_error s (class_of b) b ≡ None) × Stands (next languages Template s (class_of b) b) (scan_next g (class_of b) b) (scan_next f (class_of b) b) x
next-stands s g f b x n z from st =
    let a = agrees-at s g b st.at in
    let m = scan-grows g f (class_of b) b refl st.valid st.below n in (
      a.errors ∙ m.0,
      record {
        at = a.steps m.0;
        valid = scan-valid g (class_of b) b st.valid m.0;
        below = m.1;
        has = from.leads g st.valid st.below st.has;
      },
    )

clash-later : (f g : Scan) (b : ℕ) (bs : List ℕ) (s t : LexState ValueState) (c : Code) (i : ℕ) → byte_error s (class_of b) b ≡ None → byte_error t (class_of b) b ≡ None
    → ClashesFrom g bs (next languages Template s (class_of b) b) (next languages Template t (class_of b) b) c i → ClashesFrom f (b ∷ bs) s t c (suc i)
clash-later f g b bs s t c i m n (inl d) = inl (m, n, inr d)
clash-later f g b bs s t c i m n (inr d) = inl (m, n, inl d.1)

apart-earlier : (k : ℕ) (since : TextRead) (b : ℕ) (bs : List ℕ) (f : Scan) (r : PathRefusal) (x : Bool) → ScanValid f → ScanPlain f → scan_error f (class_of b) b ≡ None
    → ShownApart (k + 1) bs (scan_next f (class_of b) b) r → is_apart (scan_parts f) ≡ x
    → ShownBytes k since (b ∷ bs) f r (if x then apart else two member.PartStart member.PartOpen)
apart-earlier k since b bs f r true v plain n d a = kept-apart k b bs f r v n d a
apart-earlier k since b bs f r false v plain n d a = inl (earlier-two k b bs f r v plain n d a)

earlier : (k : ℕ) (since : TextRead) (b : ℕ) (bs : List ℕ) (f : Scan) (r : PathRefusal) (z : EvidenceData) → ScanValid f → ScanPlain f → ScanFits f
    → script_shown f (class_of b) b ≡ None → scan_error f (class_of b) b ≡ None
    → ShownBytes (k + 1) (scan_read_behind k since f (class_of b) b) bs (scan_next f (class_of b) b) r z
    → ShownBytes k since (b ∷ bs) f r (back_by f (class_of b) b z)
earlier k since b bs f r (one x) v plain fit q n d =
    (let o = from-byte f (class_of b) b x refl v n d.0 in (
      o.there,
      λ g w l p i. let m = scan-grows g f (class_of b) b refl w l n in
          refused-later k (scan_script_refusal k since.fed g (class_of b) b) (scan_error g (class_of b) b) (Rest k since b bs g) r
          (quiet-below k since.fed f g (class_of b) b v w l q) m.0
          (ap (λ (y : TextRead). stepped (k + 1) y bs (scan_next g (class_of b) b)) (same-read k since f g (class_of b) b v w l q n)
          ∙ d.1 (scan_next g (class_of b) b) (scan-valid g (class_of b) b w m.0) m.1 (o.leads g w l p)
          (next languages Template i.0 (class_of b) b, (agrees-at i.0 g b i.1).steps m.0)),
    ))
earlier k since b bs f r (two x y) v plain fit q n (inr d) = inr (slash-earlier k since b bs f r x y v fit q n d)
earlier k since b bs f r (two x y) v plain fit q n (inl d) =
    let o = from-byte f (class_of b) b x refl v n d.one in
    let p = from-byte f (class_of b) b y refl v n d.other in
    let at = d.at in
    inl (record {
      behind = suc d.behind;
      at = omega (arith, at);
      one = o.there;
      other = p.there;
      clashes = λ s t g q z w. let m = next-stands s g f b x n (byte_origin f (class_of b) b x) o z in
          let u = next-stands t q f b y n (byte_origin f (class_of b) b y) p w in
          clash-later f (scan_next f (class_of b) b) b bs s t r.code d.behind m.0 u.0
          (d.clashes (next languages Template s (class_of b) b) (next languages Template t (class_of b) b) (scan_next g (class_of b) b)
          (scan_next q (class_of b) b) m.1 u.1);
    })
earlier k since b bs f r apart v plain fit q n d = apart-earlier k since b bs f r (is_apart (scan_parts f)) v plain n d refl

-- by cases on what is refused at the byte, or at the end: first what a script refuses
from-script : (k : ℕ) (since : TextRead) (bytes : List ℕ) (f : Scan) (r : PathRefusal) (z : EvidenceData) → ScriptShownBytes k since bytes f r z
    → ShownBytes k since bytes f r z
from-script k since bytes f r (one x) d = (d.0, λ g w l o i. d.1 g w l o)
from-script k since bytes f r (two x y) d = inr d
from-script k since bytes f r apart d = absurd d

script-evidence : (k : ℕ) (since : TextRead) (b : ℕ) (bs : List ℕ) (f : Scan) (r : PathRefusal) (z : EvidenceData) → ScanValid f → ScanFits f
    → script_shown f (class_of b) b ≡ Some z → stepped k since (b ∷ bs) f ≡ Err r → ScriptShownBytes k since (b ∷ bs) f r z
script-evidence k since b bs (InScript v n x) r z w fit t h = in-script-byte k since b bs v n x r z w fit t h
script-evidence k since b bs (InScriptElement m x) r z w fit t h = in-element-byte k since b bs m x r z w fit t h
script-evidence k since b bs (At (place.Script j)) r z w fit t h = at-element-byte k since b bs j r z w t h
script-evidence k since b bs (At (place.Value v)) r z w fit t h = at-script-byte k since b bs v r z w t h
script-evidence k since b bs (At _) r z w fit t h = absurd (none_some z t)
script-evidence k since b bs _ r z w fit t h = absurd (none_some z t)

script-end-evidence : (k : ℕ) (since : TextRead) (f : Scan) (r : PathRefusal) (z : EvidenceData) → ScanValid f → ScanFits f → script_end_shown f ≡ Some z → stepped k since [] f ≡ Err r
    → ScriptShownBytes k since [] f r z
script-end-evidence k since (InScript v n x) r z w fit t h = in-script-end k since v n x r z w fit t h
script-end-evidence k since (InScriptElement m x) r z w fit t h = in-element-end k since m x r z w fit t h
script-end-evidence k since _ r z w fit t h = absurd (none_some z t)

-- the end, where a script refuses nothing
deep-cases : (k : ℕ) (since : TextRead) (f : Scan) (r : PathRefusal) (d : Option ℕ) → since.deep ≡ d → ScanValid f → scan_cut_error f ≡ None → scan_lexeme_error f ≡ None
    → script_cut f ≡ None → ((g : Scan) → ScanBelow g f → scan_script_cut_refusal k since.fed g ≡ None) → AtEnd k since f ≡ Err r
    → ShownBytes k since [] f r (one (end_shows f))
deep-cases k since f r (Some x) d v n i c q h = (
  end-there f n,
  λ g w l o j. let m = end-grows g f l n i c in
      refused-later k (scan_script_cut_refusal k since.fed g) (scan_cut_error g) (AtEnd k since g) r (q g l) m.0
      (ap (λ (y : Option ℕ). unless_too_deep k y (unless_broken_off k since.last (scan_lexeme_error g) (scan_place g))) d
      ∙ sym (ap (λ (y : Option ℕ). unless_too_deep k y (unless_broken_off k since.last (scan_lexeme_error f) (scan_place f))) d) ∙ h),
)
deep-cases k since f r None d v n i c q h =
    absurd (err-ok (scan_place f) r (Ok (scan_place f)) refl
    (sym (ap (λ (y : Option ℕ). unless_too_deep k y (unless_broken_off k since.last (scan_lexeme_error f) (scan_place f))) d
    ∙ ap (λ (y : Option Code). unless_broken_off k since.last y (scan_place f)) i) ∙ h))

lexeme-cases : (k : ℕ) (since : TextRead) (f : Scan) (r : PathRefusal) (o : Option Code) → ScanValid f → ScanPlain f → scan_cut_error f ≡ None → scan_lexeme_error f ≡ o
    → script_cut f ≡ None → ((g : Scan) → ScanBelow g f → scan_script_cut_refusal k since.fed g ≡ None) → AtEnd k since f ≡ Err r
    → ShownBytes k since [] f r (one (end_shows f))
lexeme-cases k since f r (Some x) v n i e c q h = lexeme-evidence k since f r x v i q e h (evidence-lexeme f x n i e)
lexeme-cases k since f r None v n i e c q h = deep-cases k since f r since.deep refl v i e c q h

-- what shows nothing refuses nothing
shown-cut : (f : Scan) → script_end_shown f ≡ None → script_cut f ≡ None
shown-cut (InScript v n r) t =
    (told-none false (as_it_stands r) script_scan_cut_error n (no_map (script_back n) (script_told_shown false script_scan_cut_error (as_it_stands r) n) t)).1
shown-cut _ t = refl

absurd-cut : (f : Scan) (x : PathCause) → script_end_shown f ≡ None → scan_cut_error f ≡ Some x → (k : ℕ) (places : List ℕ) (g : Scan) → ScanBelow g f
    → scan_script_cut_refusal k places g ≡ None
absurd-cut (InScript v n r) x t e k places g l = absurd (none_some x (sym (cut-quiet n r t) ∙ e))
absurd-cut _ x t e k places (InScript u n r) l = absurd l
absurd-cut f x t e k places _ l = refl

end-cases : (k : ℕ) (since : TextRead) (f : Scan) (r : PathRefusal) (o : Option PathCause) → ScanValid f → ScanPlain f → script_end_shown f ≡ None → scan_cut_error f ≡ o
    → stepped k since [] f ≡ Err r
    → ShownBytes k since [] f r (one (end_shows f))
end-cases k since f r (Some x) v n t e h =
    cut-evidence k since f r x v (shown-cut f t) (λ g l. absurd-cut f x t e k since.fed g l) e h (evidence-cut f x v n t e)
end-cases k since f r None v n t e h =
    let c = shown-cut f t in
    let q : (g : Scan) → ScanBelow g f → scan_script_cut_refusal k since.fed g ≡ None = λ g l. quiet-end k since.fed f g l e c in
    lexeme-cases k since f r (scan_lexeme_error f) v n e refl c q (later-refused k (scan_script_cut_refusal k since.fed f) (scan_cut_error f) (AtEnd k since f) r
    (q f (scan-same f)) e h)

shows-end : (k : ℕ) (since : TextRead) (f : Scan) (r : PathRefusal) (t : Option EvidenceData) → script_end_shown f ≡ t → ScanValid f → ScanPlain f → ScanFits f
    → stepped k since [] f ≡ Err r → ShownBytes k since [] f r (or_evidence t (one (end_shows f)))
shows-end k since f r (Some z) t v n fit h = from-script k since [] f r z (script-end-evidence k since f r z v fit t h)
shows-end k since f r None t v n fit h = end-cases k since f r (scan_cut_error f) v n t refl h

byte-cases : (k : ℕ) (since : TextRead) (b : ℕ) (bs : List ℕ) (f : Scan) (r : PathRefusal) (z : EvidenceData) (o : Option PathCause)
    → script_shown f (class_of b) b ≡ None → scan_error f (class_of b) b ≡ o
    → ScanValid f → ScanPlain f → ScanFits f
    → stepped k since (b ∷ bs) f ≡ Err r
    → (scan_error f (class_of b) b ≡ None → ShownBytes (k + 1) (scan_read_behind k since f (class_of b) b) bs (scan_next f (class_of b) b) r z)
    → ShownBytes k since (b ∷ bs) f r (unless_shown o (byte_shows f (class_of b) b) (back_by f (class_of b) b z))
byte-cases k since b bs f r z (Some x) q e v n fit h more = byte-evidence k since b bs f r x (byte_shows f (class_of b) b) v n q e h
    (evidence-byte f (class_of b) b x refl v n q e)
byte-cases k since b bs f r z None q e v n fit h more = earlier k since b bs f r z v n fit q e (more e)

shows-byte : (k : ℕ) (since : TextRead) (b : ℕ) (bs : List ℕ) (f : Scan) (r : PathRefusal) (z : EvidenceData) (t : Option EvidenceData) → script_shown f (class_of b) b ≡ t
    → ScanValid f → ScanPlain f → ScanFits f → stepped k since (b ∷ bs) f ≡ Err r
    → (script_shown f (class_of b) b ≡ None → scan_error f (class_of b) b ≡ None
    → ShownBytes (k + 1) (scan_read_behind k since f (class_of b) b) bs (scan_next f (class_of b) b) r z)
    → ShownBytes k since (b ∷ bs) f r (or_evidence t (unless_shown (scan_error f (class_of b) b) (byte_shows f (class_of b) b) (back_by f (class_of b) b z)))
shows-byte k since b bs f r z (Some y) t v n fit h more = from-script k since (b ∷ bs) f r y (script-evidence k since b bs f r y v fit t h)
shows-byte k since b bs f r z None t v n fit h more = byte-cases k since b bs f r z (scan_error f (class_of b) b) t refl v n fit h (more t)

evidence-bytes : (bytes : List ℕ) (k : ℕ) (since : TextRead) (f : Scan) (r : PathRefusal) → ScanValid f → ScanPlain f → ScanFits f → stepped k since bytes f ≡ Err r
    → ShownBytes k since bytes f r (shows bytes f)
evidence-bytes [] k since f r v n fit h = shows-end k since f r (script_end_shown f) refl v n fit h
evidence-bytes (b ∷ bs) k since f r v n fit h =
    shows-byte k since b bs f r (shows bs (scan_next f (class_of b) b)) (script_shown f (class_of b) b) refl v n fit h
    (λ q e. evidence-bytes bs (k + 1) (scan_read_behind k since f (class_of b) b) (scan_next f (class_of b) b) r (scan-valid f (class_of b) b v e)
    (scan-plain f b n) (fits-next b f v fit q e)
    (later-refused k (scan_script_refusal k since.fed f (class_of b) b) (scan_error f (class_of b) b) (Rest k since b bs f) r
    (quiet-below k since.fed f f (class_of b) b v v (scan-same f) q) e h))

-- the whole answer
text-refused : (bytes : List ℕ) (p : Place) (e : StepErr Place) (o : Result Place PathRefusal) → with_place_before bytes p o ≡ Err e
    → (r : PathRefusal) × (o ≡ Err r) × (e.code ≡ r.code) × (e.at ≡ r.at)
text-refused bytes p e (Err r) h =
    let is = one-step-err (record { code = r.code; at = r.at; before = place_before bytes r.shown p }) e (with_place_before bytes p (Err r)) refl h in
    (r, refl, ap (λ (x : StepErr Place). x.code) (sym is), ap (λ (x : StepErr Place). x.at) (sym is))
text-refused bytes p e (Ok q) h = absurd (ok-step-err q e (with_place_before bytes p (Ok q)) refl h)

-- a path below the place, with a member
stands-in : (p : Place) (s : LexState ValueState) (x : Member) (i : IsIn p s) → Bears s x → Stands s (At i.own) (At p) x
stands-in p s x i b = record { at = at-place s i.own i.stands; valid = i.valid; below = i.below; has = own-has p s x i b }

refuses-there : (bytes : List ℕ) (p : Place) (s : LexState ValueState) (c : Code) (at : ℕ) (r : PathRefusal) → placed s ≡ Some p
    → stepped 0 nothing_read bytes (At p) ≡ Err r → c ≡ r.code → at ≡ r.at
    → (b : Place) × PathRefuses bytes s (record { code = c; at = at; before = b })
refuses-there bytes p s c at r e h i j =
    let before = place_before bytes r.shown p in
    let refused : PathRefuses bytes s (record { code = r.code; at = r.at; before = before }) = (one-text bytes p s e).1
    (record { code = r.code; at = r.at; before = before }) (ap (with_place_before bytes p) h) in
    (before, rw (i, j) refused)

plus-none : (i : ℕ) → 0 + i ≡ i
plus-none i = omega arith

-- the place where they met apart
comment-apart : (star : Bool) → is_apart (style_scan_parts (style_scan_start (css.Comment star))) ≡ true → ⊥
comment-apart true h = no h
comment-apart false h = no h

css-apart : (c : Css) → is_apart (style_scan_parts (style_scan_start c)) ≡ true → beginning_in_css c ≡ Some prefix.Differs
css-apart (css.Url s) h = differs-of s.opened h
css-apart (css.UrlDq s) h = differs-of s.opened h
css-apart (css.UrlSq s) h = differs-of s.opened h
css-apart (css.Comment star) h = absurd (comment-apart star h)
css-apart _ h = absurd (no h)

body-apart : (b : Body) → is_apart (body_parts b) ≡ true → beginning_in_body b ≡ Some prefix.Differs
body-apart (body.Url s) h = differs-of s.opened h
body-apart (body.Css c) h = css-apart c h
body-apart _ h = absurd (no h)

has-apart : (p : Place) → is_apart (scan_parts (At p)) ≡ true → HasApart p
has-apart (place.Value v) h = body-apart v.body h
has-apart (place.Style c) h = css-apart c h
has-apart _ h = absurd (no h)

apart-there : (bytes : List ℕ) (p : Place) (r : PathRefusal) (s : LexState ValueState) (c : Code) (at : ℕ) (i : IsIn p s) → Bears s side
    → ShownApart 0 bytes (At p) r → c ≡ r.code → at ≡ r.at → MeetsColon bytes s at
apart-there bytes p r s c at i b d e j =
    let own = stands-in p s side i b in
    let here : r.at ≡ 0 + r.at = omega arith in
    subst (MeetsColon bytes s) (sym j)
    (meets bytes 0 r.at (At p) r s (At i.own) d here (is-open s (At i.own) own.at own.has) own.at own.valid own.below)

both-apart-there : (bytes : List ℕ) (p : Place) (r : PathRefusal) (s t : LexState ValueState) (c : Code) (at : ℕ) (i : IsIn p s) (j : IsIn p t)
    → Bears s side → Bears t side
    → ShownApart 0 bytes (At p) r → c ≡ r.code → at ≡ r.at → ClashesApart bytes s t c at
both-apart-there bytes p r s t c at i j x y d e k =
    record { is = e ∙ d.code; one = apart-there bytes p r s c at i x d e k; other = apart-there bytes p r t c at j y d e k }

from-place : (p : Place) (bytes : List ℕ) (s t : LexState ValueState) (c : Code) (i : ℕ) → ClashesFrom (At p) bytes s t c i → Clashes bytes s t c i
from-place p bytes s t c i (inl d) = inl d
from-place p bytes s t c i (inr d) = absurd d.0

show : (bytes : List ℕ) (p : Place) (e : StepErr Place) (r : PathRefusal) (z : EvidenceData) → IsValid p → e.code ≡ r.code → e.at ≡ r.at
    → ShownBytes 0 nothing_read bytes (At p) r z → IsEvidence bytes p e z
show bytes p e r (one x) w c a d =
    (d.0, λ s i b. refuses-there bytes i.own s e.code e.at r i.stands (d.1 (At i.own) i.valid i.below (own-has p s x i b) (s, at-place s i.own i.stands)) c a)
show bytes p e r (two x y) w c a (inl d) = (
  d.one,
  d.other,
  λ s t u b v w. rw (c, a ∙ d.at ∙ plus-none d.behind)
      (from-place p bytes s t r.code d.behind (d.clashes s t (At u.own) (At v.own) (stands-in p s x u b) (stands-in p t y v w))),
)
show bytes p e r (two x y) w c a (inr d) = (
  d.one,
  d.other,
  λ s t u i v j. inr (rw (c, a) (slash-text bytes p r s t w (subst (λ (z : Member). ShownSlash 0 nothing_read bytes (At p) r z member.SenseRe) d.first
      (subst (λ (z : Member). ShownSlash 0 nothing_read bytes (At p) r x z) d.second d)) u
      (subst (Bears s) d.first i) v (subst (Bears t) d.second j))),
)
show bytes p e r apart w c a d = (has-apart p d.there, λ s t i x j y. both-apart-there bytes p r s t e.code e.at i j x y d c a)

pub evidence-text-at : (bytes : List ℕ) (p : Place) (e : StepErr Place) → IsValid p → after_text bytes p ≡ Err e → IsEvidence bytes p e (shows bytes (At p))
evidence-text-at bytes p e v h =
    let r = text-refused bytes p e (stepped 0 nothing_read bytes (At p)) h in
    show bytes p e r.0 (shows bytes (At p)) v r.2 r.3 (evidence-bytes bytes 0 nothing_read (At p) r.0 v tt tt r.1)

pub evidence-text : TextEvidence
evidence-text bytes p e v h = (shows bytes (At p), evidence-text-at bytes p e v h)
