-- What is written of a value leads the page's reading where the path's leads. In a language of values the page may be in another state than the path,
-- which is alike; all that is asked of the language is its laws.
use Rattle.std.proofs.Common.{◌≡◌, ℕ, ◌+◌, ◌-◌, Bool, true, false, ◌&&◌, codes, encode_utf8, length, List, [], ◌∷◌, ◌++◌, Option, Some, None, if◌then◌else◌, refl, sym, ap, ap₂, ◌∙◌, subst}
use Rattle.std.specs.Prelude.{⊤}
use Rattle.std.proofs.lemmas.List.{append-nil, append_assoc}
use Rattle.place_core.specs.page.Classes.{Class, White, QuotationMark, Ampersand, Apostrophe, GreaterThan, class_of, is_equals_sign}
use Rattle.place_core.specs.place.Errors.{PathCause, cause_back, fed_error, first_byte_error, first_cause, language_error, name_error, is_unknown_name, turned_error}
use Rattle.place_core.specs.page.Events.{LexEvent, TagEnds}
use Rattle.place_core.specs.page.Html.{ends_value, next_after_value, next_before_value, next_value, emits_after_value, emits_before_value, emits_value}
use Rattle.place_core.specs.page.References.{Form, Begun, Reference, Closed, Open, ReferenceStep, Grows, Closes, Breaks, flushed, meaning, next_reference, plain_bytes, settled, turn, turn_bytes, undone_byte, as_it_stands}
use Rattle.place_core.specs.page.States.{AttributeValue, BeforeAttributeValue, Config, config}
use Rattle.place_core.specs.page.Tags.{Tag, ValueLanguage, Value, ValueOf, Deciding, Quoting, DoubleQuoted, SingleQuoted, Unquoted, cut_value, emitted_bytes, emitted_end, emitted_hole, holed_value, mark_if, attribute_value_of, value_behind, with_bytes, feeding, feed_bytes, refuses_cut_of, tag_with_value, without_value, ValueState, languages}
use Rattle.place_core.specs.declared.code.Code.{Code}
use Rattle.place_core.specs.declared.kind.Kind.{Kind}
use Rattle.place_core.specs.declared.kind.Kind.TheVariants as kind
use Rattle.place_core.proofs.Readings.{unbegun-byte}
use Rattle.html_step.proofs.OnePath.{some}
use Rattle.text_norm.specs.Standing.{PendingReference, TextStands, StandsAlike, StandsIn, StandsInValue, page, standing_value}
use Rattle.text_norm.specs.ValueLaws.{ValueLanguageLaws}
use Rattle.text_norm.specs.Written.{reference_out, text_escaped, value_out}
use Rattle.text_norm.proofs.Places.{value-run, value-since}
use Rattle.text_norm.proofs.Runs.{amp-read, class_amp, follows-run, on}
use Rattle.text_norm.proofs.TagsKeep.{before-leads, tag-leads}

-- The state of a language after bytes, and that it refuses none of them.
abbrev pub fed : {B : Type 0} → ValueLanguage B → B → List ℕ → B
fed x v [] = v
fed x v (b ∷ bs) = fed x (x.feed v b) bs

abbrev pub AreTaken : {B : Type 0} → ValueLanguage B → B → List ℕ → Type 0
AreTaken x v [] = ⊤
AreTaken x v (b ∷ bs) = (x.refuses v b ≡ None) × AreTaken x (x.feed v b) bs

-- a value of a language stays one, and the type of a script too
pub own-fed : {B : Type 0} (x : ValueLanguage B) (v : B) (bs : List ℕ) → with_bytes x (ValueOf v) bs ≡ ValueOf (fed x v bs)
own-fed x v [] = refl
own-fed x v (b ∷ bs) = own-fed x (x.feed v b) bs

own-feeding : {B : Type 0} (x : ValueLanguage B) (v : B) (bs : List ℕ) → feed_bytes (feeding x) (ValueOf v) bs ≡ ValueOf (fed x v bs)
own-feeding x v [] = refl
own-feeding x v (b ∷ bs) = own-feeding x (x.feed v b) bs

pub own-type : {B : Type 0} (x : ValueLanguage B) (k : Kind) (before bs : List ℕ) → with_bytes x (Deciding k before) bs ≡ Deciding k (before ++ bs)
own-type x k before [] = ap (Deciding k) (sym (append-nil before))
own-type x k before (b ∷ bs) = own-type x k (before ++ b ∷ []) bs ∙ ap (Deciding k) (append_assoc before (b ∷ []) bs)

-- What a language does not refuse of a text, it takes of what it is fed.
pub both-none : (a b : Option PathCause) → first_cause a b ≡ None → (a ≡ None) × (b ≡ None)
both-none None b n = (refl, n)
both-none (Some e) b n = absurd (some e n)

no-cause : (back : ℕ) (o : Option Code) → cause_back back o ≡ None → o ≡ None
no-cause back None n = refl
no-cause back (Some e) n = absurd (some _ n)

pub fed-taken : {B : Type 0} (x : ValueLanguage B) (v : B) (bs : List ℕ) (written : Bool) (back : ℕ) → fed_error (feeding x) (ValueOf v) bs written back ≡ None → AreTaken x v bs
fed-taken x v [] written back n = tt
fed-taken x v (b ∷ bs) written back n =
    let later = if written then back - 1 else back in
    let m = both-none (cause_back back (x.refuses v b)) (fed_error (feeding x) (ValueOf (x.feed v b)) bs written later) n in
    (no-cause back (x.refuses v b) m.0, fed-taken x (x.feed v b) bs written later m.1)

taken-append : {B : Type 0} (x : ValueLanguage B) (v : B) (xs ys : List ℕ) → AreTaken x v xs → AreTaken x (fed x v xs) ys → AreTaken x v (xs ++ ys)
taken-append x v [] ys h k = k
taken-append x v (b ∷ xs) ys h k = (h.0, taken-append x (x.feed v b) xs ys h.1 k)

turned-taken : {B : Type 0} (x : ValueLanguage B) (v : B) (n : ReferenceStep) (f : Form) (bytes : List ℕ) (c : Class) (b : ℕ) → turned_error (feeding x) (ValueOf v) n f bytes c b ≡ None → AreTaken x v (turn_bytes true n f bytes c b)
turned-taken x v (Grows g) f bytes c b n = tt
turned-taken x v Closes f bytes c b n =
    let unknown = name_error (x.refuses_names v && is_unknown_name f bytes) (length bytes + 1) in
    let m = both-none unknown (fed_error (feeding x) (ValueOf v) (encode_utf8 (meaning f bytes)) false (length bytes + 1)) n in
    fed-taken x v (encode_utf8 (meaning f bytes)) false (length bytes + 1) m.1
turned-taken {B} x v Breaks f bytes c b n =
    let name = flushed true (is_equals_sign c) f bytes in
    let m = both-none _ (fed_error (feeding x) (feed_bytes (feeding x) (ValueOf v) name) (plain_bytes c b) false 0) n in
    taken-append x v name (plain_bytes c b) (fed-taken x v name _ _ m.0)
    (fed-taken x (fed x v name) (plain_bytes c b) false 0 (subst (λ (z : Value B). fed_error (feeding x) z (plain_bytes c b) false 0 ≡ None) (own-feeding x v name) m.1))

pub taken-on : {B : Type 0} (x : ValueLanguage B) (v : B) (r : Reference) (c : Class) (b : ℕ)
    → language_error (feeding x) false (ValueOf v) r c b ≡ None → AreTaken x v (undone_byte true r c b)
taken-on x v Closed c b n = fed-taken x v (plain_bytes c b) false 0 n
taken-on x v (Open f bytes) c b n = turned-taken x v (turn c f) f bytes c b n

pub taken-end : {B : Type 0} (x : ValueLanguage B) (v : B) (r : Reference) (c : Class) (b : ℕ)
    → language_error (feeding x) true (ValueOf v) r c b ≡ None → AreTaken x v (settled true r)
taken-end x v Closed c b n = tt
taken-end x v (Open f bytes) c b n = fed-taken x v (flushed true false f bytes) _ _ n

-- States that are alike, after bytes that are taken.
alike-fed : {B : Type 0} {x : ValueLanguage B} → ValueLanguageLaws B x → (bs : List ℕ) (v w : B) → x.AreAlike v w → AreTaken x v bs → x.AreAlike (fed x v bs) (fed x w bs)
alike-fed l [] v w a k = a
alike-fed {B} {x} l (b ∷ bs) v w a k = alike-fed l bs (x.feed v b) (x.feed w b) (l.feeds v w b a k.0) k.1

alike-emitted : {B : Type 0} {x : ValueLanguage B} → ValueLanguageLaws B x → (bs : List ℕ) (v w : B) (t : List LexEvent) → x.AreAlike v w → AreTaken x v bs
    → emitted_bytes x (ValueOf w) bs t ≡ emitted_bytes x (ValueOf v) bs t
alike-emitted l [] v w t a k = refl
alike-emitted {B} {x} l (b ∷ bs) v w t a k =
    ap (emitted_bytes x (ValueOf (x.feed w b)) bs) (l.emits v w b t a k.0) ∙ alike-emitted l bs (x.feed v b) (x.feed w b) (x.emits v b t) (l.feeds v w b a k.0) k.1

alike-end : {B : Type 0} {x : ValueLanguage B} → ValueLanguageLaws B x → (bs : List ℕ) (v w : B) (t : List LexEvent) → x.AreAlike v w → AreTaken x v bs
    → emitted_end x (with_bytes x (ValueOf w) bs) (emitted_bytes x (ValueOf w) bs t) ≡ emitted_end x (with_bytes x (ValueOf v) bs) (emitted_bytes x (ValueOf v) bs t)
alike-end {B} {x} l bs v w t a k =
    ap₂ (λ (z : Value B) (y : List LexEvent). emitted_end x z y) (own-fed x w bs) (alike-emitted l bs v w t a k)
    ∙ l.ends (fed x v bs) (fed x w bs) (emitted_bytes x (ValueOf v) bs t) (alike-fed l bs v w a k)
    ∙ sym (ap (λ (z : Value B). emitted_end x z (emitted_bytes x (ValueOf v) bs t)) (own-fed x v bs))

pub own-tag : {B : Type 0} (x : ValueLanguage B) (tag : Tag) (v : B) (bs : List ℕ) → tag_with_value tag (with_bytes x (ValueOf v) bs) ≡ tag
own-tag x tag v bs = ap (tag_with_value tag) (own-fed x v bs)

-- a byte that does not end it
goes-on-alike : {B : Type 0} {x : ValueLanguage B} → ValueLanguageLaws B x → (q : Quoting) (tag : Tag) (v : B) (r : Reference) (c : Class) (b : ℕ) (t : List LexEvent) (d : Config B) → class_of b ≡ c
    → ends_value q c ≡ false → AreTaken x v (undone_byte true r c b) → StandsAlike B x q tag v r t d
    → StandsAlike B x q tag (fed x v (undone_byte true r c b)) (next_reference r c b) (emitted_bytes x (ValueOf v) (undone_byte true r c b) t) (page x (reference_out r c b) d)
goes-on-alike {B} {x} l q tag v r c b t d e s k h =
    let u = undone_byte true r c b in
    let w = h.there in
    let far = page x (reference_out r c b) d in
    let own = value-since x q tag (ValueOf w) t u (next_reference r c b) far (follows-run (value-run x q tag (ValueOf w) t) r c b d e s h.stands) in
    record {
      there = fed x w u;
      alike = alike-fed l u v w h.alike k;
      stands = subst (λ (z : List LexEvent). StandsIn x (standing_value x q tag (ValueOf (fed x w u)) z) (next_reference r c b) far) (alike-emitted l u v w t h.alike k)
          (subst (λ (z : Value B). StandsIn x (standing_value x q tag z (emitted_bytes x (ValueOf w) u t)) (next_reference r c b) far) (own-fed x w u) own);
    }

goes-on : {B : Type 0} {x : ValueLanguage B} → ValueLanguageLaws B x → (q : Quoting) (tag : Tag) (v : Value B) (r : Reference) (c : Class) (b : ℕ) (t : List LexEvent) (d : Config B) → class_of b ≡ c
    → ends_value q c ≡ false → language_error (feeding x) false v r c b ≡ None → StandsInValue x q tag v r t d
    → StandsInValue x q tag (with_bytes x v (undone_byte true r c b)) (next_reference r c b) (emitted_bytes x v (undone_byte true r c b) t) (page x (reference_out r c b) d)
goes-on {B} {x} l q tag (ValueOf v) r c b t d e s n h =
    let u = undone_byte true r c b in
    subst (λ (z : Value B). StandsInValue x q tag z (next_reference r c b) (emitted_bytes x (ValueOf v) u t) (page x (reference_out r c b) d)) (sym (own-fed x v u))
    (goes-on-alike l q tag v r c b t d e s (taken-on x v r c b n) h)
goes-on {B} {x} l q tag (Deciding k before) r c b t d e s n h =
    let u = undone_byte true r c b in
    let far = page x (reference_out r c b) d in
    let told = emitted_bytes x (Deciding k before) u t in
    let own = value-since x q tag (Deciding k before) t u (next_reference r c b) far (follows-run (value-run x q tag (Deciding k before) t) r c b d e s h) in
    subst (λ (z : Value B). StandsInValue x q tag z (next_reference r c b) told far) (sym (own-type x k before u))
    (subst (λ (z : Value B). StandsIn x (standing_value x q tag z told) (next_reference r c b) far) (own-type x k before u) own)

-- a byte that ends it: the state and what is told
pub at-end : {B : Type 0} (x : ValueLanguage B) (q : Quoting) (tag : Tag) (v : Value B) (r : Reference) (c : Class) (b : ℕ) (t : List LexEvent)
    (d : Config B) → class_of b ≡ c → ends_value q c ≡ true
    → StandsIn x (standing_value x q tag v t) r d
    → page x (as_it_stands r ++ b ∷ []) d ≡ config (next_value x true q c b tag v r) (emits_value x true q c b v r t)
at-end x q tag v Closed c b t d e s h = ap (page x (b ∷ [])) h ∙ rw (e, s) refl
at-end x q tag v (Open f bytes) c b t d e s h = on x (38 ∷ bytes) (b ∷ []) d _ h.as_is ∙ rw (e, s) refl

after-end : (q : Quoting) (tag : Tag) (c : Class) (b : ℕ) (u : List LexEvent) (d : Config ValueState) → d ≡ config (next_after_value languages q c b tag) u → TextStands languages (next_after_value languages q c b tag) u d
after-end DoubleQuoted tag c b u d h = h
after-end SingleQuoted tag c b u d h = h
after-end Unquoted tag c b u d h = before-leads tag c b u d h

-- the page comes to the path's state, and has told the same
ends-alike : {B : Type 0} {x : ValueLanguage B} → ValueLanguageLaws B x → (q : Quoting) (tag : Tag) (v : B) (r : Reference) (c : Class) (b : ℕ) (t : List LexEvent) (d : Config B) → class_of b ≡ c
    → ends_value q c ≡ true → AreTaken x v (settled true r) → StandsAlike B x q tag v r t d
    → page x (as_it_stands r ++ b ∷ []) d ≡ config (next_after_value x q c b tag) (emits_value x true q c b (ValueOf v) r t)
ends-alike {B} {x} l q tag v r c b t d e s k h =
    let w = h.there in
    at-end x q tag (ValueOf w) r c b t d e s h.stands
    ∙ ap (λ (y : Tag). config (next_after_value x q c b y) (emits_value x true q c b (ValueOf w) r t)) (own-tag x tag w (settled true r))
    ∙ ap (λ (y : List LexEvent). config (next_after_value x q c b tag) (emits_after_value q c b y)) (alike-end l (settled true r) v w t h.alike k)

ends-there : ValueLanguageLaws ValueState languages → (q : Quoting) (tag : Tag) (v : Value ValueState) (r : Reference) (c : Class) (b : ℕ) (t : List LexEvent) (d : Config ValueState) → class_of b ≡ c
    → ends_value q c ≡ true → language_error (feeding languages) true v r c b ≡ None → StandsInValue languages q tag v r t d
    → TextStands languages (next_value languages true q c b tag v r) (emits_value languages true q c b v r t) (page languages (as_it_stands r ++ b ∷ []) d)
ends-there l q tag (ValueOf v) r c b t d e s k h =
    let u = emits_value languages true q c b (ValueOf v) r t in
    subst (λ (y : Tag). TextStands languages (next_after_value languages q c b y) u (page languages (as_it_stands r ++ b ∷ []) d)) (sym (own-tag languages tag v (settled true r)))
    (after-end q tag c b u (page languages (as_it_stands r ++ b ∷ []) d)
    (ends-alike l q tag v r c b t d e s (taken-end languages v r c b k) h))
ends-there l q tag (Deciding j before) r c b t d e s k h =
    let z = with_bytes languages (Deciding j before) (settled true r) in
    after-end q (tag_with_value tag z) c b (emits_value languages true q c b (Deciding j before) r t) (page languages (as_it_stands r ++ b ∷ []) d) (at-end languages q tag (Deciding j before) r c b t d e s h)

in-value-by : ValueLanguageLaws ValueState languages → (ends : Bool) (q : Quoting) (tag : Tag) (v : Value ValueState) (r : Reference) (c : Class) (b : ℕ) (t : List LexEvent) (d : Config ValueState) → class_of b ≡ c
    → ends_value q c ≡ ends → language_error (feeding languages) ends v r c b ≡ None → StandsInValue languages q tag v r t d
    → TextStands languages (next_value languages ends q c b tag v r) (emits_value languages ends q c b v r t) (page languages (value_out ends c b r) d)
in-value-by l true q tag v r c b t d e s k h = ends-there l q tag v r c b t d e s k h
in-value-by l false q tag v r c b t d e s k h = goes-on l q tag v r c b t d e s k h

pub in-value : ValueLanguageLaws ValueState languages → (q : Quoting) (tag : Tag) (v : Value ValueState) (r : Reference) (c : Class) (b : ℕ) (t : List LexEvent) (d : Config ValueState) → class_of b ≡ c
    → language_error (feeding languages) (ends_value q c) v r c b ≡ None → StandsInValue languages q tag v r t d
    → TextStands languages (next_value languages (ends_value q c) q c b tag v r) (emits_value languages (ends_value q c) q c b v r t) (page languages (value_out (ends_value q c) c b r) d)
in-value l q tag v r c b t d e k h = in-value-by l (ends_value q c) q tag v r c b t d e refl k h

-- the end of a node, where nothing of the value is refused, nor that it ends there
pub cut-alike : {B : Type 0} {x : ValueLanguage B} → ValueLanguageLaws B x → (q : Quoting) (tag : Tag) (v : B) (r : Reference) (t : List LexEvent) (d : Config B) → AreTaken x v (as_it_stands r)
    → refuses_cut_of x (with_bytes x (ValueOf v) (as_it_stands r)) ≡ None → StandsAlike B x q tag v r t d
    → StandsInValue x q tag (cut_value x (with_bytes x (ValueOf v) (as_it_stands r))) Closed (emitted_bytes x (ValueOf v) (as_it_stands r) t) (page x (text_escaped r) d)
cut-alike {B} {x} l q tag v Closed t d k n h = record { there = h.there; alike = l.after_cut v h.there h.alike n; stands = h.stands }
cut-alike {B} {x} l q tag v (Open f bytes) t d k n h =
    let u = 38 ∷ bytes in
    let w = h.there in
    let whole : x.refuses_cut (fed x v u) ≡ None = subst (λ (z : Value B). refuses_cut_of x z ≡ None) (own-fed x v u) n in
    subst (λ (z : Value B). StandsInValue x q tag (cut_value x z) Closed (emitted_bytes x (ValueOf v) u t) (page x (text_escaped (Open f bytes)) d)) (sym (own-fed x v u))
    (record {
      there = fed x w u;
      alike = l.after_cut (fed x v u) (fed x w u) (alike-fed l u v w h.alike k) whole;
      stands = h.stands.cut ∙ ap₂ (λ (z : Value B) (y : List LexEvent). config (AttributeValue q tag z Closed) y) (own-fed x w u) (alike-emitted l u v w t h.alike k);
    })

-- a hole in a value, and before one, whose bytes lead the page to `after`
pub hole-alike : {B : Type 0} {x : ValueLanguage B} → ValueLanguageLaws B x → (q : Quoting) (tag : Tag) (v w after : B) (bytes : List ℕ) (t : List LexEvent) → x.AreAlike v w → x.LeadsPlain (x.settled w) bytes after
    → StandsInValue x q tag (holed_value x (ValueOf v)) Closed (emitted_hole x (ValueOf v) t)
    (config (AttributeValue q tag (value_behind x (Some (ValueOf (x.settled w))) (ValueOf after)) Closed) (emitted_hole x (ValueOf w) t))
hole-alike {B} {x} l q tag v w after bytes t a p = record {
  there = x.behind (x.settled w) after;
  alike = l.hole v w after bytes a p;
  stands = ap (config (AttributeValue q tag (ValueOf (x.behind (x.settled w) after)) Closed)) (ap₂ mark_if (l.marks v w a) (l.settles v w t a));
}

-- Before a value: an unquoted one is read as from its beginning.
pub begun-there : {B : Type 0} {x : ValueLanguage B} → ValueLanguageLaws B x → (q : Quoting) (tag : Tag) (k : Kind) (r : Reference) (t : List LexEvent) (d : Config B)
    → StandsIn x (standing_value x q tag (attribute_value_of x k) t) r d → StandsInValue x q tag (attribute_value_of x k) r t d
begun-there l q tag kind.ScriptType r t d h = h
begun-there {B} {x} l q tag kind.Plain r t d h = record { there = x.start kind.Plain; alike = l.begins kind.Plain; stands = h }
begun-there {B} {x} l q tag kind.NoHole r t d h = record { there = x.start kind.NoHole; alike = l.begins kind.NoHole; stands = h }
begun-there {B} {x} l q tag kind.Url r t d h = record { there = x.start kind.Url; alike = l.begins kind.Url; stands = h }
begun-there {B} {x} l q tag kind.Script r t d h = record { there = x.start kind.Script; alike = l.begins kind.Script; stands = h }
begun-there {B} {x} l q tag kind.Style r t d h = record { there = x.start kind.Style; alike = l.begins kind.Style; stands = h }

begins : {B : Type 0} (x : ValueLanguage B) (tag : Tag) (k : Kind) (t : List LexEvent) → page x (codes "&amp;") (config (BeforeAttributeValue tag k) t) ≡ page x (codes "&amp;") (standing_value x Unquoted tag (attribute_value_of x k) t Closed [])
begins x tag k t = rw class_amp refl

unquoted-amp : {B : Type 0} (x : ValueLanguage B) (tag : Tag) (k : Kind) (t : List LexEvent) (d : Config B) → d ≡ config (BeforeAttributeValue tag k) t
    → PendingReference B x (standing_value x Unquoted tag (attribute_value_of x k) t) Begun [] d
unquoted-amp x tag k t d h = record {
  as_is = rw (h, class_amp) refl;
  cut = ap (page x (codes "&amp;")) h ∙ begins x tag k t ∙ amp-read (value-run x Unquoted tag (attribute_value_of x k) t) Closed [];
}

pub before-value : ValueLanguageLaws ValueState languages → (tag : Tag) (k : Kind) (c : Class) (b : ℕ) (t : List LexEvent) (d : Config ValueState) → class_of b ≡ c
    → first_byte_error (feeding languages) (attribute_value_of languages k) c b ≡ None → d ≡ config (BeforeAttributeValue tag k) t
    → TextStands languages (next_before_value languages c b tag k) (emits_before_value languages c b k t) (page languages (reference_out Closed c b) d)
before-value l tag k White b t d e o h = rw (h, e) refl
before-value l tag k QuotationMark b t d e o h = begun-there l DoubleQuoted tag k Closed t (page languages (b ∷ []) d) (rw (h, e) refl)
before-value l tag k Apostrophe b t d e o h = begun-there l SingleQuoted tag k Closed t (page languages (b ∷ []) d) (rw (h, e) refl)
before-value l tag k GreaterThan b t d e o h =
    tag-leads (without_value tag k).tag (TagEnds false ∷ emitted_end languages (attribute_value_of languages k) t) (page languages (b ∷ []) d) (rw (h, e) refl)
before-value l tag k Ampersand b t d e o h = begun-there l Unquoted tag k (Open Begun []) t d (unquoted-amp languages tag k t d h)
before-value l tag k c b t d e o h =
    let v = attribute_value_of languages k in
    let from = config (AttributeValue Unquoted tag v Closed) t in
    subst (λ (z : Config ValueState). TextStands languages (next_value languages false Unquoted c b tag v Closed) (emits_value languages false Unquoted c b v Closed t) z)
    (sym (ap (page languages (b ∷ [])) h ∙ unbegun-byte languages b [] tag k t (rw e refl)))
    (goes-on l Unquoted tag v Closed c b t from e refl o (begun-there l Unquoted tag k Closed t from refl))
