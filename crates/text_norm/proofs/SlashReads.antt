-- Behind a `/` and a hole without bytes, text that the path takes is read as where the `/` has been told: it does not begin with a `*`.
use Rattle.std.proofs.Common.{◌≡◌, ℕ, ◌+◌, Bool, true, false, List, [], ◌∷◌, ◌++◌, ◌⊎◌, inl, inr, Option, Some, None, option_map, Ok, refl, sym, ap, ap₂, ◌∙◌, subst}
use Rattle.css_lexer.specs.Classes.{style_class}
use Rattle.css_lexer.specs.Events.{RunByte}
use Rattle.css_lexer.specs.RefusalCodes.{RefusalCode}
use Rattle.css_lexer.specs.Refusals.{refuses_behind_hole, style_refuses}
use Rattle.css_lexer.specs.States.{Between, AfterSolidus, BehindHole, Out}
use Rattle.css_lexer.specs.Steps.{emits_between, emits_solidus, next_between, next_solidus}
use Rattle.css_lexer.specs.Urls.{urls}
use Rattle.css_lexer.specs.declared.class.StyleClass.{StyleClass}
use Rattle.css_lexer.specs.declared.class.StyleClass.TheVariants as class
use Rattle.place_core.specs.page.Classes.{Class, class_of}
use Rattle.place_core.specs.page.Events.{InsideStyle, LexEvent, told_in_style}
use Rattle.place_core.specs.page.Html.{emits_after_value, emits_value, ends_value, next_after_value, next_value, read}
use Rattle.place_core.specs.page.References.{Reference, Closed, Open, as_it_stands, next_reference, settled, undone_byte}
use Rattle.place_core.specs.page.States.{AttributeValue, Config, InContent, InLanguage, LexState, Nothing, Page, config}
use Rattle.place_core.specs.page.Tags.{Quoting, Tag, Value, ValueOf, ValueState, OfStyle, emits_state, emitted_bytes, emitted_end, feed_value, feeding, languages, refuses_in_value, style_code, with_bytes}
use Rattle.place_core.specs.place.Errors.{byte_error, cut_error, language_error, node, refusal_from, TextRead, nothing_read, read_behind}
use Rattle.place_core.specs.place.Membership.{IsIn}
use Rattle.place_core.specs.place.Places.{IsValid}
use Rattle.place_core.specs.declared.place.Place.{Place}
use Rattle.html_step.proofs.OnePath.{some}
use Rattle.html_step.proofs.OneTexts.{one-text}
use Rattle.html_step.proofs.WholeTexts.{grows-text}
use Rattle.html_step.specs.Steps.{after_text}
use Rattle.san_html.specs.ReadBack.{in_value}
use Rattle.text_norm.proofs.FilledMarks.{AreRaw, IsSlashPending, RawStands, StandsRaw, raw-text}
use Rattle.text_norm.proofs.Keeps.{goes}
use Rattle.text_norm.proofs.Places.{value-run, value-since}
use Rattle.text_norm.proofs.Runs.{follows-run, on}
use Rattle.text_norm.proofs.StyleElementRaw.{element-text, held-text}
use Rattle.text_norm.proofs.ValuesKeep.{AreTaken, at-end, both-none, fed-taken, own-tag, taken-end, taken-on}
use Rattle.text_norm.specs.Fillings.{Filling}
use Rattle.text_norm.specs.Standing.{StandsIn, page, standing_value}
use Rattle.text_norm.specs.Written.{reference_out, value_out, written}
use Rattle.url_lexer.specs.States.{Url}

-- the value on the path; on the page, where the `/` is pending, and where it is told
abbrev path_value : Bool → Value ValueState
path_value less = ValueOf (OfStyle (Out (BehindHole true less)))

abbrev raw_value : Bool → Value ValueState
raw_value blank = ValueOf (OfStyle (Out (AfterSolidus blank)))

abbrev told_value : Value ValueState
told_value = ValueOf (OfStyle (Out (Between false)))

abbrev with_solidus : List LexEvent → List LexEvent
with_solidus u = InsideStyle (RunByte 47) ∷ u

-- a byte that the path takes
class-feeds : (less : Bool) (c : StyleClass) (b : ℕ) → refuses_behind_hole true less c ≡ None → next_solidus {U = Url} c b ≡ next_between false c b
class-feeds less class.Asterisk b n = absurd (some _ n)
class-feeds less c b n = refl

class-tells : (blank less : Bool) (c : StyleClass) (b : ℕ) (u : List LexEvent) → refuses_behind_hole true less c ≡ None
    → told_in_style (emits_solidus blank c b []) u ≡ told_in_style (emits_between false c b []) (with_solidus u)
class-tells blank less class.Asterisk b u n = absurd (some _ n)
class-tells blank less class.Blank b u n = refl
class-tells blank less c b u n = refl

not-refused : (o : Option RefusalCode) → option_map style_code o ≡ None → o ≡ None
not-refused None n = refl
not-refused (Some e) n = absurd (some _ n)

byte-feeds : (blank less : Bool) (b : ℕ) → refuses_in_value (OfStyle (Out (BehindHole true less))) b ≡ None
    → feed_value (OfStyle (Out (AfterSolidus blank))) b ≡ feed_value (OfStyle (Out (Between false))) b
byte-feeds blank less b n =
    ap OfStyle (class-feeds less (style_class b) b (not-refused (style_refuses urls (Out (BehindHole true less)) b) n))

byte-tells : (blank less : Bool) (b : ℕ) (u : List LexEvent) → refuses_in_value (OfStyle (Out (BehindHole true less))) b ≡ None
    → emits_state (OfStyle (Out (AfterSolidus blank))) b u ≡ emits_state (OfStyle (Out (Between false))) b (with_solidus u)
byte-tells blank less b u n =
    class-tells blank less (style_class b) b u (not-refused (style_refuses urls (Out (BehindHole true less)) b) n)

abbrev TakesAll : Bool → List ℕ → Type 0
TakesAll less bs = AreTaken languages (OfStyle (Out (BehindHole true less))) bs

-- bytes that it takes, and its end
bytes-feed : (blank less : Bool) (b : ℕ) (bs : List ℕ) → TakesAll less (b ∷ bs)
    → with_bytes languages (raw_value blank) (b ∷ bs) ≡ with_bytes languages told_value (b ∷ bs)
bytes-feed blank less b bs k = ap (λ (z : ValueState). with_bytes languages (ValueOf z) bs) (byte-feeds blank less b k.0)

bytes-tell : (blank less : Bool) (b : ℕ) (bs : List ℕ) (u : List LexEvent) → TakesAll less (b ∷ bs)
    → emitted_bytes languages (raw_value blank) (b ∷ bs) u ≡ emitted_bytes languages told_value (b ∷ bs) (with_solidus u)
bytes-tell blank less b bs u k =
    ap₂ (λ (z : ValueState) (t : List LexEvent). emitted_bytes languages (ValueOf z) bs t) (byte-feeds blank less b k.0)
    (byte-tells blank less b u k.0)

end-tells : (blank less : Bool) (bs : List ℕ) (u : List LexEvent) → TakesAll less bs
    → emitted_end languages (with_bytes languages (raw_value blank) bs) (emitted_bytes languages (raw_value blank) bs u)
    ≡ emitted_end languages (with_bytes languages told_value bs) (emitted_bytes languages told_value bs (with_solidus u))
end-tells blank less [] u k = refl
end-tells blank less (b ∷ bs) u k =
    ap₂ (λ (z : Value ValueState) (t : List LexEvent). emitted_end languages z t) (bytes-feed blank less b bs k) (bytes-tell blank less b bs u k)

-- Two pages that stand in one value, with a reference pending or not, read the same.
abbrev StandsAt : Quoting → Tag → Value ValueState → List LexEvent → Reference → Config ValueState → Type 0
StandsAt q tag w t r d = StandsIn languages (standing_value languages q tag w t) r d

abbrev ReadAlike : List ℕ → LexState ValueState → Config ValueState → Config ValueState → Type 0
ReadAlike bytes s d e = page languages (written languages bytes s) d ≡ page languages (written languages bytes s) e

behind-both : (out more : List ℕ) (d e c : Config ValueState) → page languages out d ≡ c → page languages out e ≡ c
    → page languages (out ++ more) d ≡ page languages (out ++ more) e
behind-both out more d e c h k = on languages out more d c h ∙ sym (on languages out more e c k)

first-behind : (out more : List ℕ) (d e : Config ValueState) → page languages more (page languages out d) ≡ page languages more (page languages out e)
    → page languages (out ++ more) d ≡ page languages (out ++ more) e
first-behind out more d e h = on languages out more d (page languages out d) refl ∙ h ∙ sym (on languages out more e (page languages out e) refl)

same-by : (ends : Bool) (bs : List ℕ) (q : Quoting) (tag : Tag) (v w : Value ValueState) (t : List LexEvent) (r : Reference) (c : Class) (b : ℕ)
    (d e : Config ValueState)
    → class_of b ≡ c → ends_value q c ≡ ends → StandsAt q tag w t r d → StandsAt q tag w t r e
    → ((v w : Value ValueState) (t : List LexEvent) (r : Reference) (d e : Config ValueState) → StandsAt q tag w t r d → StandsAt q tag w t r e
    → ReadAlike bs (AttributeValue q tag v r) d e)
    → (let more = written languages bs (next_value languages ends q c b tag v r) in
    page languages (value_out ends c b r ++ more) d ≡ page languages (value_out ends c b r ++ more) e)
same-by true bs q tag v w t r c b d e i s h k ih =
    behind-both (as_it_stands r ++ b ∷ []) _ d e _ (at-end languages q tag w r c b t d i s h) (at-end languages q tag w r c b t e i s k)
same-by false bs q tag v w t r c b d e i s h k ih =
    let u = undone_byte true r c b in
    let out = reference_out r c b in
    let z = next_reference r c b in
    first-behind out _ d e
    (ih (with_bytes languages v u) (with_bytes languages w u) (emitted_bytes languages w u t) z (page languages out d) (page languages out e)
    (value-since languages q tag w t u z (page languages out d) (follows-run (value-run languages q tag w t) r c b d i s h))
    (value-since languages q tag w t u z (page languages out e) (follows-run (value-run languages q tag w t) r c b e i s k)))

same-read : (bytes : List ℕ) (q : Quoting) (tag : Tag) (v w : Value ValueState) (t : List LexEvent) (r : Reference) (d e : Config ValueState)
    → StandsAt q tag w t r d → StandsAt q tag w t r e → ReadAlike bytes (AttributeValue q tag v r) d e
same-read bytes q tag v w t Closed d e h k = ap (page languages (written languages bytes (AttributeValue q tag v Closed))) (h ∙ sym k)
same-read [] q tag v w t (Open f i) d e h k = h.cut ∙ sym k.cut
same-read (b ∷ bs) q tag v w t (Open f i) d e h k =
    same-by (ends_value q (class_of b)) bs q tag v w t (Open f i) (class_of b) b d e refl refl h k
    (λ v w t r d e h k. same-read bs q tag v w t r d e h k)

-- From behind the `/`: both read the same, or nothing.
abbrev SlashReads : Quoting → Tag → Bool → Bool → List LexEvent → List ℕ → LexState ValueState → Config ValueState → Config ValueState → Type 0
SlashReads q tag less blank u bytes s d e =
    ReadAlike bytes s d e
    ⊎ ((node bytes s ≡ in_value q tag (path_value less)) ×
    (page languages (written languages bytes s) d ≡ config (in_value q tag (raw_value blank)) u)
    × (page languages (written languages bytes s) e ≡ config (in_value q tag told_value) (with_solidus u)))

abbrev SlashGoesOn : Quoting → Tag → Bool → Bool → List LexEvent → List ℕ → Type 0
SlashGoesOn q tag less blank u bs =
    (k : ℕ) (since : TextRead) (r : Reference) (d e : Config ValueState) → refusal_from k since bs (AttributeValue q tag (path_value less) r) ≡ None
    → StandsAt q tag (raw_value blank) u r d → StandsAt q tag told_value (with_solidus u) r e
    → SlashReads q tag less blank u bs (AttributeValue q tag (path_value less) r) d e

-- bytes that the value has been fed, and the rest
slash-fed : (fed bs : List ℕ) (q : Quoting) (tag : Tag) (less blank : Bool) (u : List LexEvent) (k : ℕ) (since : TextRead) (r : Reference)
    (d e : Config ValueState) → TakesAll less fed
    → refusal_from k since bs (AttributeValue q tag (with_bytes languages (path_value less) fed) r) ≡ None
    → StandsAt q tag (with_bytes languages (raw_value blank) fed) (emitted_bytes languages (raw_value blank) fed u) r d
    → StandsAt q tag (with_bytes languages told_value fed) (emitted_bytes languages told_value fed (with_solidus u)) r e
    → SlashGoesOn q tag less blank u bs → SlashReads q tag less blank u bs (AttributeValue q tag (with_bytes languages (path_value less) fed) r) d e
slash-fed [] bs q tag less blank u k since r d e taken n h g ih = ih k since r d e n h g
slash-fed (b ∷ fed) bs q tag less blank u k since r d e taken n h g ih =
    let w = with_bytes languages told_value (b ∷ fed) in
    let t = emitted_bytes languages told_value (b ∷ fed) (with_solidus u) in
    inl (same-read bs q tag (with_bytes languages (path_value less) (b ∷ fed)) w t r d e
    (subst (λ (z : List LexEvent). StandsAt q tag w z r d) (bytes-tell blank less b fed u taken)
    (subst (λ (z : Value ValueState). StandsAt q tag z (emitted_bytes languages (raw_value blank) (b ∷ fed) u) r d)
    (bytes-feed blank less b fed taken) h)) g)

-- the same behind bytes of the page
slash-behind : (out : List ℕ) (bs : List ℕ) (q : Quoting) (tag : Tag) (less blank : Bool) (u : List LexEvent) (s : LexState ValueState)
    (d e : Config ValueState)
    → SlashReads q tag less blank u bs s (page languages out d) (page languages out e)
    → (let all = out ++ written languages bs s in
    (page languages all d ≡ page languages all e)
    ⊎ ((node bs s ≡ in_value q tag (path_value less)) × (page languages all d ≡ config (in_value q tag (raw_value blank)) u)
    × (page languages all e ≡ config (in_value q tag told_value) (with_solidus u))))
slash-behind out bs q tag less blank u s d e (inl h) = inl (first-behind out (written languages bs s) d e h)
slash-behind out bs q tag less blank u s d e (inr h) =
    inr (h.0, on languages out (written languages bs s) d _ refl ∙ h.1, on languages out (written languages bs s) e _ refl ∙ h.2)

slash-by : (ends : Bool) (bs : List ℕ) (q : Quoting) (tag : Tag) (less blank : Bool) (u : List LexEvent) (k : ℕ) (since : TextRead) (r : Reference) (c : Class)
    (b : ℕ) (d e : Config ValueState)
    → class_of b ≡ c → ends_value q c ≡ ends → language_error (feeding languages) ends (path_value less) r c b ≡ None
    → refusal_from k since bs (next_value languages ends q c b tag (path_value less) r) ≡ None
    → StandsAt q tag (raw_value blank) u r d → StandsAt q tag told_value (with_solidus u) r e → SlashGoesOn q tag less blank u bs
    → (let s = next_value languages ends q c b tag (path_value less) r in
    let all = value_out ends c b r ++ written languages bs s in
    (page languages all d ≡ page languages all e)
    ⊎ ((node bs s ≡ in_value q tag (path_value less)) × (page languages all d ≡ config (in_value q tag (raw_value blank)) u)
    × (page languages all e ≡ config (in_value q tag told_value) (with_solidus u))))
slash-by true bs q tag less blank u k since r c b d e i s n later h g ih =
    let v : ValueState = OfStyle (Out (BehindHole true less)) in
    let own = settled true r in
    let told = end-tells blank less own u (taken-end languages v r c b n) in
    let same : config (next_value languages true q c b tag (raw_value blank) r) (emits_value languages true q c b (raw_value blank) r u)
    ≡ config (next_value languages true q c b tag told_value r) (emits_value languages true q c b told_value r (with_solidus u))
    = ap₂ (λ (y : Tag) (t : List LexEvent). config (next_after_value languages q c b y) (emits_after_value q c b t))
    (own-tag languages tag (OfStyle (Out (AfterSolidus blank))) own ∙ sym (own-tag languages tag (OfStyle (Out (Between false))) own)) told in
    inl (behind-both (as_it_stands r ++ b ∷ []) _ d e _ (at-end languages q tag (raw_value blank) r c b u d i s h ∙ same)
    (at-end languages q tag told_value r c b (with_solidus u) e i s g))
slash-by false bs q tag less blank u k since r c b d e i s n later h g ih =
    let v : ValueState = OfStyle (Out (BehindHole true less)) in
    let fed = undone_byte true r c b in
    let out = reference_out r c b in
    let z = next_reference r c b in
    slash-behind out bs q tag less blank u (AttributeValue q tag (with_bytes languages (path_value less) fed) z) d e
    (slash-fed fed bs q tag less blank u k since z (page languages out d) (page languages out e) (taken-on languages v r c b n) later
    (value-since languages q tag (raw_value blank) u fed z (page languages out d)
    (follows-run (value-run languages q tag (raw_value blank) u) r c b d i s h))
    (value-since languages q tag told_value (with_solidus u) fed z (page languages out e)
    (follows-run (value-run languages q tag told_value (with_solidus u)) r c b e i s g)) ih)

slash-read : (bytes : List ℕ) (q : Quoting) (tag : Tag) (less blank : Bool) (u : List LexEvent) → SlashGoesOn q tag less blank u bytes
slash-read [] q tag less blank u k since Closed d e n h g = inr (refl, h, g)
slash-read [] q tag less blank u k since (Open f i) d e n h g =
    let v : ValueState = OfStyle (Out (BehindHole true less)) in
    let s = AttributeValue q tag (path_value less) (Open f i) in
    let taken = fed-taken languages v (38 ∷ i) true _ (goes k (cut_error s) _ n).0 in
    inl (h.cut ∙ ap₂ (λ (z : Value ValueState) (t : List LexEvent). config (AttributeValue q tag z Closed) t) (bytes-feed blank less 38 i taken)
    (bytes-tell blank less 38 i u taken) ∙ sym g.cut)
slash-read (b ∷ bs) q tag less blank u k since r d e n h g =
    let s = AttributeValue q tag (path_value less) r in
    let c = class_of b in
    let m = goes k (byte_error s c b) _ n in
    let own = both-none (language_error (feeding languages) (ends_value q c) (path_value less) r c b) _ m.0 in
    slash-by (ends_value q c) bs q tag less blank u (k + 1) (read_behind k since s c b) r c b d e refl refl own.0 m.1 h g
    (slash-read bs q tag less blank u)

-- So the text of a node that is accepted leads both readings of the page on.
slash-text : (bytes : List ℕ) (q : Quoting) (tag : Tag) (less blank : Bool) (u : List LexEvent) (vs : List Filling) (m d e : Config ValueState)
    → (let s = in_value q tag (path_value less) in let out = written languages bytes s in
    RawStands vs m e → SlashReads q tag less blank u bytes s d e → StandsRaw (node bytes s) vs (page languages out m) (page languages out d))
slash-text bytes q tag less blank u vs m d e r (inl h) =
    let out = written languages bytes (in_value q tag (path_value less)) in
    record { settled = page languages out e; beside = raw-text vs out m e r; pending = inl h }
slash-text bytes q tag less blank u vs m d e r (inr h) =
    let out = written languages bytes (in_value q tag (path_value less)) in
    record {
      settled = page languages out e;
      beside = raw-text vs out m e r;
      pending = inr (inl (subst (λ (z : LexState ValueState). IsSlashPending z (page languages out d) (page languages out e)) (sym h.0)
          (record { blank = blank; told = u; raw = h.1; is_settled = h.2 })));
    }

node-by : (bytes : List ℕ) (s : LexState ValueState) (vs : List Filling) (m d e : Config ValueState) → refusal_from 0 nothing_read bytes s ≡ None
    → RawStands vs m e
    → AreRaw s d e → StandsRaw (node bytes s) vs (page languages (written languages bytes s) m)
    (page languages (written languages bytes s) d)
node-by bytes s vs m d e n r (inl h) =
    let out = written languages bytes s in
    record { settled = page languages out e; beside = raw-text vs out m e r; pending = inl (ap (page languages out) h) }
node-by bytes (AttributeValue q tag (ValueOf (OfStyle (Out (BehindHole true less)))) Closed) vs m d e n r (inr (inl h)) =
    slash-text bytes q tag less h.blank h.told vs m d e r (slash-read bytes q tag less h.blank h.told 0 nothing_read Closed d e n h.raw h.is_settled)
node-by bytes (InContent i (InLanguage (OfStyle (Out (BehindHole solidus less)))) Nothing) vs m d e n r (inr (inr (inl h))) =
    element-text bytes solidus less i vs m d e n r h
node-by bytes s vs m d e n r (inr (inr (inr h))) = held-text bytes s vs m d e r h
node-by bytes _ vs m d e n r (inr (inl h)) = absurd h
node-by bytes _ vs m d e n r (inr (inr (inl h))) = absurd h

pub raw-node : (bytes : List ℕ) (p q : Place) (s : LexState ValueState) (vs : List Filling) (m d : Config ValueState) → IsValid p → IsIn p s
    → after_text bytes p ≡ Ok q
    → StandsRaw s vs m d → StandsRaw (node bytes s) vs (read Page (written languages bytes s) m) (read Page (written languages bytes s) d)
raw-node bytes p q s vs m d v i e r =
    let g = grows-text bytes i.own p q i.valid v i.below e in
    node-by bytes s vs m d r.settled ((one-text bytes i.own s i.stands).0 g.0 g.1).0 r.beside r.pending
