-- What shows that a script is refused, as the code finds it: by the bytes that it is fed, and then by its end.
use Rattle.std.proofs.Common.{◌≡◌, ℕ, ◌≤◌, arith, Bool, true, false, ◌&&◌, List, [], ◌∷◌, ◌++◌, Option, Some, None, option_map, if◌then◌else◌, refl, sym, ap, ap₂, ◌∙◌}
use Rattle.std.specs.Prelude.{encode_utf8}
use Rattle.js_lexer.specs.Refusals.{Refusal, PartialCharset, PartialEscape, SlashAmbig, JSTemplate, SplitToken, BadString, HtmlInScript, Cause}
use Rattle.js_step.specs.ScriptEvidence.{script_code_shows}
use Rattle.js_step.specs.ScriptScans.{ScriptScan, script_scan_cut_error, script_scan_start}
use Rattle.js_step.specs.ScriptScanViews.{script_cause_at}
use Rattle.js_step.specs.declared.cause.ScriptCause.{ScriptCause}
use Rattle.js_step.proofs.OneScriptPath.{some-same}
use Rattle.js_step.proofs.ShownCodes.{code-shows}
use Rattle.place_core.specs.page.Classes.{Class, White, QuotationMark, Apostrophe, GreaterThan, is_equals_sign}
use Rattle.place_core.specs.page.Html.{ends_value}
use Rattle.place_core.specs.page.References.{Form, Reference, Closed, Open, ReferenceStep, Grows, Closes, Breaks, as_it_stands, flushed, meaning, plain_bytes, settled, turn, turn_bytes, undone_byte}
use Rattle.place_core.specs.page.Tags.{feed_bytes, script_code, Unquoted}
use Rattle.place_core.specs.place.Errors.{at_value_end, fed_places, first_places, is_told_at_node_end, is_written, placed_bytes, turned_places}
use Rattle.place_core.specs.declared.body.Body.{Body}
use Rattle.place_core.specs.declared.body.Body.TheVariants as body
use Rattle.place_core.specs.declared.js.Js.{Js}
use Rattle.place_core.specs.declared.member.Member.{Member}
use Rattle.place_core.specs.declared.member.Member.TheVariants as member
use Rattle.place_core.specs.declared.place.Place.{Place}
use Rattle.place_core.specs.declared.place.Place.TheVariants as place
use Rattle.place_core.specs.declared.quotes.Quotes.{Quotes}
use Rattle.place_core.specs.declared.quotes.Quotes.TheVariants as quotes
use Rattle.place_core.specs.declared.value_place.ValuePlace.{ValuePlace}
use Rattle.html_scan.specs.ScanViews.{script_from}
use Rattle.html_scan.specs.declared.references.OpenReference.{OpenReference}
use Rattle.html_scan.specs.Scans.{Scan, At, ends_quoted, quoted_places, script_fed_byte, script_feeding}
use Rattle.html_scan.specs.ScriptPlaces.{begins_nothing, is_template_code, read_between, stops}
use Rattle.html_step.specs.Laws.{EvidenceData}
use Rattle.html_step.specs.Origins.{begun_script_shows, bytes_of_places, first_shown, script_byte_shown, script_value_ends, script_evidence, script_shown, script_step_shows, script_told_shown}
use Rattle.html_step.specs.ScriptShowing.{bytes_at, script_end_shows, script_fed_shown}
use Rattle.html_step.proofs.ScriptEnds.{bytes-both, bytes-placed}

given : {A : Type 0} (a : A) → Some a ≡ None → ⊥
given a e = cc

none : {A : Type 0} (a : A) → None ≡ Some a → ⊥
none a e = cc

no : true ≡ false → ⊥
no e = cc

-- The bytes that a byte feeds a value.
turned-bytes : (s : ReferenceStep) (f : Form) (read : List ℕ) (c : Class) (b : ℕ) → bytes_of_places (turned_places 0 s f read c b) ≡ turn_bytes true s f read c b
turned-bytes (Grows g) f read c b = refl
turned-bytes Closes f read c b = bytes-placed false _ (encode_utf8 (meaning f read))
turned-bytes Breaks f read c b =
    bytes-both (placed_bytes (is_written (is_equals_sign c) f read) _ (flushed true (is_equals_sign c) f read)) (placed_bytes false 0 (plain_bytes c b))
    ∙ ap₂ (λ (xs ys : List ℕ). xs ++ ys) (bytes-placed (is_written (is_equals_sign c) f read) _ (flushed true (is_equals_sign c) f read)) (bytes-placed false 0 (plain_bytes c b))

fed-bytes : (s : Bool) (r : Reference) (c : Class) (b : ℕ) → bytes_of_places (fed_places s 0 r c b) ≡ bytes_at s r c b
fed-bytes true Closed c b = refl
fed-bytes true (Open f read) c b = bytes-placed (is_written false f read) _ (flushed true false f read)
fed-bytes false Closed c b = bytes-placed false 0 (plain_bytes c b)
fed-bytes false (Open f read) c b = turned-bytes (turn c f) f read c b

bare-places : (x : Bool) (r : Reference) (c : Class) (b : ℕ)
    → (if x then fed_places (ends_value Unquoted c) 0 r c b else first_places 0 c b)
    ≡ fed_places (if x then ends_value Unquoted c else begins_nothing c) 0 (if x then r else Closed) c b
bare-places true r c b = refl
bare-places false r White b = refl
bare-places false r QuotationMark b = refl
bare-places false r Apostrophe b = refl
bare-places false r GreaterThan b = refl
bare-places false r _ b = refl

between : (q : Quotes) (r : Reference) (c : Class) (b : ℕ) → quoted_places q 0 r c b ≡ fed_places (stops q c) 0 (read_between q r) c b
between quotes.Dq r c b = refl
between quotes.Sq r c b = refl
between (quotes.Bare x) r c b = bare-places x.uq r c b

quoted-bytes : (q : Quotes) (r : Reference) (c : Class) (b : ℕ) → bytes_of_places (quoted_places q 0 r c b) ≡ bytes_at (stops q c) (read_between q r) c b
quoted-bytes q r c b = ap bytes_of_places (between q r c b) ∙ fed-bytes (stops q c) (read_between q r) c b

-- where the byte ends the value
both-first : (x y : Bool) → (x && y) ≡ true → x ≡ true
both-first true y e = refl
both-first false y e = absurd cc

both-second : (x y : Bool) → (x && y) ≡ true → y ≡ true
both-second true y e = e
both-second false y e = absurd cc

ended-bytes : (q : Quotes) (r : Reference) (c : Class) (b : ℕ) → ends_quoted q c ≡ true → settled true r ≡ bytes_at (stops q c) (read_between q r) c b
ended-bytes quotes.Dq r c b e = rw e refl
ended-bytes quotes.Sq r c b e = rw e refl
ended-bytes (quotes.Bare x) r c b e = rw (both-first x.uq (ends_value Unquoted c) e, both-second x.uq (ends_value Unquoted c) e) refl

-- Some bytes, and others behind them.
first-of-three : (a b c : Option EvidenceData) → first_shown a (first_shown b c) ≡ first_shown (first_shown a b) c
first-of-three (Some x) b c = refl
first-of-three None b c = refl

pub shown-more : (element : Bool) (xs ys : List ℕ) (n : ScriptScan)
    → script_fed_shown element (xs ++ ys) n
    ≡ first_shown (script_fed_shown element xs n) (script_fed_shown element ys (feed_bytes script_feeding n xs))
shown-more element [] ys n = refl
shown-more element (x ∷ xs) ys n =
    ap (first_shown (script_byte_shown element n x)) (shown-more element xs ys (script_fed_byte n x))
    ∙ first-of-three (script_byte_shown element n x) (script_fed_shown element xs (script_fed_byte n x))
    (script_fed_shown element ys (feed_bytes script_feeding (script_fed_byte n x) xs))

pub script-closes-shown : (n : ScriptScan) (f : Form) (read : List ℕ) (c : Class) (b : ℕ) (code : ℕ) → turn c f ≡ Closes → code ≡ meaning f read
    → script_fed_shown false (encode_utf8 code) n ≡ script_fed_shown false (undone_byte true (Open f read) c b) n
script-closes-shown n f read c b code e i =
    ap (λ (x : ℕ). script_fed_shown false (encode_utf8 x) n) i ∙ ap (λ (x : ReferenceStep). script_fed_shown false (turn_bytes true x f read c b) n) (sym e)

pub script-breaks-shown : (a d : Option EvidenceData) (n w : ScriptScan) (f : Form) (read : List ℕ) (c : Class) (b : ℕ) (equals : Bool) → turn c f ≡ Breaks
    → equals ≡ is_equals_sign c → w ≡ feed_bytes script_feeding n (flushed true equals f read)
    → a ≡ script_fed_shown false (flushed true equals f read) n → d ≡ script_fed_shown false (plain_bytes c b) w
    → first_shown a d ≡ script_fed_shown false (undone_byte true (Open f read) c b) n
script-breaks-shown a d n w f read c b equals e i j h k =
    ap (λ (x : Option EvidenceData). first_shown x d) h
    ∙ ap (first_shown (script_fed_shown false (flushed true equals f read) n)) (k ∙ ap (script_fed_shown false (plain_bytes c b)) j)
    ∙ sym (shown-more false (flushed true equals f read) (plain_bytes c b) n)
    ∙ ap (λ (x : Bool). script_fed_shown false (flushed true x f read ++ plain_bytes c b) n) i
    ∙ ap (λ (x : ReferenceStep). script_fed_shown false (turn_bytes true x f read c b) n) (sym e)

-- Bytes, and then an end.
pub told-split : (element : Bool) (ends : ScriptScan → Option Cause) (xs : List ℕ) (n : ScriptScan)
    → script_told_shown element ends xs n
    ≡ first_shown (script_fed_shown element xs n) (script_end_shows (ends (feed_bytes script_feeding n xs)) (feed_bytes script_feeding n xs))
told-split element ends [] n = refl
told-split element ends (x ∷ xs) n =
    let m = feed_bytes script_feeding (script_fed_byte n x) xs in
    ap (first_shown (script_byte_shown element n x)) (told-split element ends xs (script_fed_byte n x))
    ∙ first-of-three (script_byte_shown element n x) (script_fed_shown element xs (script_fed_byte n x)) (script_end_shows (ends m) m)

pub told-cut : (n m : ScriptScan) (r : Reference) (x y z : Option EvidenceData) → z ≡ first_shown x y → x ≡ script_fed_shown false (as_it_stands r) n
    → m ≡ feed_bytes script_feeding n (as_it_stands r) → y ≡ script_end_shows (script_scan_cut_error m) m
    → z ≡ script_told_shown false script_scan_cut_error (as_it_stands r) n
told-cut n m r x y z h i j k =
    h ∙ ap₂ first_shown i (k ∙ ap (λ (s : ScriptScan). script_end_shows (script_scan_cut_error s) s) j)
    ∙ sym (told-split false script_scan_cut_error (as_it_stands r) n)

end-same : (e : Bool) (m n : ScriptScan) → (e ≡ true → m ≡ n) → script_end_shows (script_value_ends e m) m ≡ script_end_shows (script_value_ends e n) n
end-same true m n h = ap (λ (s : ScriptScan). script_end_shows (script_value_ends true s) s) (h refl)
end-same false m n h = refl

pub told-value : (q : Quotes) (r o : Reference) (c : Class) (b : ℕ) (n m : ScriptScan) (s e : Bool) (x y z : Option EvidenceData) → z ≡ first_shown x y
    → s ≡ stops q c → o ≡ read_between q r → x ≡ script_fed_shown false (bytes_at s o c b) n
    → e ≡ ends_quoted q c → m ≡ feed_bytes script_feeding n (settled true r) → y ≡ script_end_shows (script_value_ends e m) m
    → z ≡ script_told_shown false (script_value_ends (ends_quoted q c)) (bytes_of_places (quoted_places q 0 r c b)) n
told-value q r o c b n m s e x y z h i j k l p t =
    let bytes = bytes_at (stops q c) (read_between q r) c b in
    let fed : x ≡ script_fed_shown false bytes n =
    k ∙ ap₂ (λ (v : Bool) (w : Reference). script_fed_shown false (bytes_at v w c b) n) i j in
    let ends : y ≡ script_end_shows (script_value_ends (ends_quoted q c) m) m = t ∙ ap (λ (v : Bool). script_end_shows (script_value_ends v m) m) l in
    let behind = feed_bytes script_feeding n bytes in
    let same : script_end_shows (script_value_ends (ends_quoted q c) m) m ≡ script_end_shows (script_value_ends (ends_quoted q c) behind) behind =
    end-same (ends_quoted q c) m behind (λ d. p ∙ ap (feed_bytes script_feeding n) (ended-bytes q r c b d)) in
    h ∙ ap₂ first_shown fed (ends ∙ same) ∙ sym (told-split false (script_value_ends (ends_quoted q c)) bytes n)
    ∙ ap (λ (xs : List ℕ). script_told_shown false (script_value_ends (ends_quoted q c)) xs n) (sym (quoted-bytes q r c b))

-- What an end shows, by its printed code.
same-template : (r : Refusal) → is_template_code (script_code r) ≡ is_told_at_node_end r
same-template PartialCharset = refl
same-template PartialEscape = refl
same-template SlashAmbig = refl
same-template JSTemplate = refl
same-template SplitToken = refl
same-template BadString = refl
same-template HtmlInScript = refl

pub cut-shown : (n : ScriptScan) (o : Option Cause) (e : ScriptCause) → Some e ≡ option_map script_cause_at o
    → Some (script_evidence (script_code_shows n member.Whole e.code)) ≡ script_end_shows o n
cut-shown n None e h = absurd (given e h)
cut-shown n (Some d) e h =
    ap (λ (z : ScriptCause). Some (script_evidence (script_code_shows n member.Whole z.code))) (some-same e (script_cause_at d) h)
    ∙ ap (λ (z : Option Member). Some (script_evidence z)) (code-shows n member.Whole d.refusal)

pub cut-silent : (n : ScriptScan) (o : Option Cause) → None ≡ option_map script_cause_at o → None ≡ script_end_shows o n
cut-silent n None h = refl
cut-silent n (Some d) h = absurd (none (script_cause_at d) h)

untold : (o : Option Cause) (e : ScriptCause) → Some e ≡ option_map script_cause_at o → is_template_code e.code ≡ false → at_value_end o ≡ o
untold None e h t = refl
untold (Some d) e h t =
    let same : is_told_at_node_end d.refusal ≡ false =
    sym (same-template d.refusal) ∙ ap (λ (x : ScriptCause). is_template_code x.code) (sym (some-same e (script_cause_at d) h)) ∙ t in
    ap (λ (x : Bool). if x then None else Some d) same

pub end-shown : (n : ScriptScan) (o : Option Cause) (e : ScriptCause) → Some e ≡ option_map script_cause_at o → is_template_code e.code ≡ false
    → Some (script_evidence (script_code_shows n member.Whole e.code)) ≡ script_end_shows (at_value_end o) n
end-shown n o e h t = cut-shown n o e h ∙ ap (λ (x : Option Cause). script_end_shows x n) (sym (untold o e h t))

pub end-told : (n : ScriptScan) (o : Option Cause) (e : ScriptCause) → Some e ≡ option_map script_cause_at o → is_template_code e.code ≡ true
    → None ≡ script_end_shows (at_value_end o) n
end-told n None e h t = refl
end-told n (Some d) e h t =
    let same : is_told_at_node_end d.refusal ≡ true =
    sym (same-template d.refusal) ∙ ap (λ (x : ScriptCause). is_template_code x.code) (sym (some-same e (script_cause_at d) h)) ∙ t in
    sym (ap (λ (x : Bool). script_end_shows (if x then None else Some d) n) same)

pub end-silent : (n : ScriptScan) (o : Option Cause) → None ≡ option_map script_cause_at o → None ≡ script_end_shows (at_value_end o) n
end-silent n None h = refl
end-silent n (Some d) h = absurd (none (script_cause_at d) h)

-- a byte
pub byte-shown : (f : Cause → Option Member) (o : Option Cause) (p : Option (Option Member)) → p ≡ option_map f o
    → option_map script_evidence p ≡ option_map (λ e. script_evidence (f e)) o
byte-shown f None p h = rw h refl
byte-shown f (Some e) p h = rw h refl

-- where no reference is open
pub none-from : (count k : ℕ) (o : Option OpenReference) → script_from count o ≤ k → script_from count None ≤ k
none-from count k None h = h
none-from count k (Some x) h = omega (arith, h)

-- a script at whose place a text begins
pub begun-shown : (f : Scan) (p : Place) (v : ValuePlace) (j : Js) (n : ScriptScan) (c : Class) (b : ℕ) (o : Option EvidenceData) → f ≡ At p → p ≡ place.Value v
    → v.body ≡ body.Js j → n ≡ script_scan_start j → o ≡ script_step_shows v.quotes n Closed c b → o ≡ script_shown f c b
begun-shown f p v j n c b o g d i e h =
    h ∙ ap (λ (s : ScriptScan). script_step_shows v.quotes s Closed c b) e ∙ sym (ap (λ (x : Body). begun_script_shows x v.quotes c b) i)
    ∙ sym (ap (λ (x : Place). script_shown (At x) c b) d) ∙ sym (ap (λ (x : Scan). script_shown x c b) g)
