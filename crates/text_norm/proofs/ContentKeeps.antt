-- What is written of a title, a textarea and a data block leads the page's reading where the path's leads.
use Rattle.std.proofs.Common.{◌≡◌, ℕ, Bool, true, false, codes, List, [], ◌∷◌, ◌++◌, None, refl, sym, ap, ◌∙◌}
use Rattle.place_core.specs.page.Classes.{LetterClass, Class, White, ExclamationMark, HyphenMinus, Solidus, LessThan, GreaterThan, Letter, class_of}
use Rattle.place_core.specs.page.Contents.{next_in_content, emits_in_content, next_loose, emits_loose, next_less, emits_less, next_end_name, emits_end_name, next_bang, may_be_name_of, is_name_of}
use Rattle.place_core.specs.place.Errors.{block_byte_error}
use Rattle.place_core.specs.page.Events.{LexEvent, event_text_bytes}
use Rattle.place_core.specs.page.References.{Reference, Closed, Open, as_it_stands, next_reference, settled, undone_byte}
use Rattle.place_core.specs.page.States.{Characters, Bytes, Pending, Nothing, PendingLess, LessAtCut, PendingName, PendingBang, PendingBangDash, PendingOpening, InContent, Config, config}
use Rattle.place_core.specs.page.Tags.{ValueLanguage, ValueState}
use Rattle.place_core.specs.declared.element.Element.{Element}
use Rattle.place_core.proofs.Readings.{text_bytes-append}
use Rattle.html_step.proofs.OnePath.{some}
use Rattle.text_norm.specs.Standing.{PendingContentLess, PendingEndName, TextStands, StandsIn, StandsInContent, standing_content, page}
use Rattle.text_norm.specs.Written.{content_less_out, content_out, end_name_out, loose_out, reference_out}
use Rattle.text_norm.proofs.Places.{content-run, content-since}
use Rattle.text_norm.proofs.Runs.{follows-run, lt-read, on}
use Rattle.text_norm.proofs.TextKeeps.{behind-amp, class_less, class_solidus}

abbrev at : Element → List LexEvent → Config ValueState
at e t = standing_content e t Closed []

pub lone-content-less : (x : ValueLanguage ValueState) (e : Element) (r : Reference) (t : List LexEvent) → page x (codes "&lt;") (standing_content e t r []) ≡ standing_content e (event_text_bytes (settled false r) t) Closed (codes "<")
lone-content-less x e r t =
    lt-read (content-run x e t) r []
    ∙ ap (λ (l : List ℕ). standing_content e t Closed (l ++ 60 ∷ [])) (behind-amp r)
    ∙ ap (config (InContent e (Characters Closed) Nothing)) (text_bytes-append (settled false r) (60 ∷ []) t)

less-content : (x : ValueLanguage ValueState) (e : Element) (r : Reference) (t : List LexEvent) → page x (codes "</") (standing_content e t r []) ≡ config (InContent e (Characters Closed) (PendingName [])) (event_text_bytes (settled false r) t)
less-content x e r t = rw (class_less, class_solidus) refl

content-less-pending : (x : ValueLanguage ValueState) (e : Element) (r : Reference) (t : List LexEvent) (d : Config ValueState) → d ≡ standing_content e t r [] → PendingContentLess ValueState x e (event_text_bytes (settled false r) t) d
content-less-pending x e r t d h = record {
  less = ap (page x (codes "&lt;")) h ∙ lone-content-less x e r t;
  end = ap (page x (codes "</")) h ∙ less-content x e r t;
}

-- where nothing is pending back
as-it-stands : (x : ValueLanguage ValueState) (e : Element) (r : Reference) (t : List LexEvent) (d : Config ValueState) → StandsIn x (standing_content e t) r d → page x (as_it_stands r) d ≡ standing_content e t r []
as-it-stands x e Closed t d h = h
as-it-stands x e (Open f bytes) t d h = h.as_is

pub in-loose : (x : ValueLanguage ValueState) (e : Element) (r : Reference) (c : Class) (b : ℕ) (t : List LexEvent) (d : Config ValueState) → class_of b ≡ c → StandsIn x (standing_content e t) r d
    → TextStands x (next_loose x c b e (Characters r)) (emits_loose x c b (Characters r) t) (page x (loose_out c b r) d)
in-loose x e r LessThan b t d k h = content-less-pending x e r t (page x (as_it_stands r) d) (as-it-stands x e r t d h)
in-loose x e r c b t d k h = content-since x e t (undone_byte false r c b) (next_reference r c b) (page x (reference_out r c b) d) (follows-run (content-run x e t) r c b d k refl h)

-- likewise, after a `<` that begins nothing
behind-content-less : (x : ValueLanguage ValueState) (e : Element) (ys : List ℕ) (d : Config ValueState) (u v : List LexEvent) (c : Class) (b : ℕ) → class_of b ≡ c → page x (codes "&lt;") d ≡ at e u
    → page x ys (at e u) ≡ at e v → TextStands x (next_loose x c b e (Characters Closed)) (emits_loose x c b (Characters Closed) v) (page x (codes "&lt;" ++ (ys ++ loose_out c b Closed)) d)
behind-content-less x e ys d u v c b k h l =
    let there : page x (codes "&lt;" ++ (ys ++ loose_out c b Closed)) d ≡ page x (loose_out c b Closed) (at e v) = on x (codes "&lt;") (ys ++ loose_out c b Closed) d _ h ∙ on x ys (loose_out c b Closed) (at e u) _ l in
    rw there (in-loose x e Closed c b v (at e v) k refl)

own-solidus : (x : ValueLanguage ValueState) (e : Element) (u : List LexEvent) → page x (codes "/") (standing_content e u Closed []) ≡ standing_content e u Closed (codes "/")
own-solidus x e u = rw class_solidus refl

in-content-less : (x : ValueLanguage ValueState) (e : Element) (c : Class) (b : ℕ) (t : List LexEvent) (d : Config ValueState) → class_of b ≡ c → PendingContentLess ValueState x e t d
    → TextStands x (next_less x c b e (Characters Closed)) (emits_less x c b (Characters Closed) t) (page x (content_less_out c b) d)
in-content-less x e Solidus b t d k h = record { less = h.less; end = h.end; own = own-solidus x e }
in-content-less x e LessThan b t d k h = behind-content-less x e [] d (event_text_bytes (codes "<") t) (event_text_bytes (codes "<") t) LessThan b k h.less refl
in-content-less x e ExclamationMark b t d k h = behind-content-less x e [] d (event_text_bytes (codes "<") t) (event_text_bytes (codes "<") t) ExclamationMark b k h.less refl
in-content-less x e c b t d k h = behind-content-less x e [] d (event_text_bytes (codes "<") t) (event_text_bytes (codes "<") t) c b k h.less refl

own-letter : (x : ValueLanguage ValueState) (e : Element) (l : LetterClass) (b : ℕ) (u : List LexEvent) → class_of b ≡ Letter l → page x (b ∷ []) (standing_content e u Closed []) ≡ standing_content e u Closed (b ∷ [])
own-letter x e l b u k = rw k refl

not-name : (x : ValueLanguage ValueState) (e : Element) (letters : List ℕ) (c : Class) (b : ℕ) (t : List LexEvent) (d : Config ValueState) → class_of b ≡ c → PendingEndName ValueState x e letters t d
    → TextStands x (next_loose x c b e (Characters Closed)) (emits_loose x c b (Characters Closed) (event_text_bytes (codes "</" ++ letters) t)) (page x (codes "&lt;" ++ ((codes "/" ++ letters) ++ loose_out c b Closed)) d)
not-name x e letters c b t d k h = behind-content-less x e (codes "/" ++ letters) d (event_text_bytes (codes "<") t) (event_text_bytes (codes "</" ++ letters) t) c b k h.less (h.own (event_text_bytes (codes "<") t))

-- whether the byte goes on with the name, and whether it is whole
in-end-name : (x : ValueLanguage ValueState) (e : Element) (grows whole : Bool) (letters : List ℕ) (c : Class) (b : ℕ) (t : List LexEvent) (d : Config ValueState) → class_of b ≡ c
    → may_be_name_of e (letters ++ b ∷ []) ≡ grows → is_name_of e letters ≡ whole → PendingEndName ValueState x e letters t d
    → TextStands x (next_end_name x grows whole c b e (Characters Closed) letters) (emits_end_name x grows whole c b (Characters Closed) letters t) (page x (end_name_out grows whole c b letters) d)
in-end-name x e true whole letters (Letter l) b t d k g w h = record {
  less = h.less;
  end = on x (codes "</" ++ letters) (b ∷ []) d _ h.end ∙ rw (k, g) refl;
  own = λ u. on x (codes "/" ++ letters) (b ∷ []) (standing_content e u Closed []) _ (h.own u)
      ∙ own-letter x e l b (event_text_bytes (codes "/" ++ letters) u) k
      ∙ sym (ap (config (InContent e (Characters Closed) Nothing)) (text_bytes-append (codes "/" ++ letters) (b ∷ []) u));
}
in-end-name x e grows true letters White b t d k g w h = on x (codes "</" ++ letters) (b ∷ []) d _ h.end ∙ rw (k, g, w) refl
in-end-name x e grows true letters Solidus b t d k g w h = on x (codes "</" ++ letters) (b ∷ []) d _ h.end ∙ rw (k, g, w) refl
in-end-name x e grows true letters GreaterThan b t d k g w h = on x (codes "</" ++ letters) (b ∷ []) d _ h.end ∙ rw (k, g, w) refl
in-end-name x e grows whole letters c b t d k g w h = not-name x e letters c b t d k h

pub in-content : (x : ValueLanguage ValueState) (e : Element) (r : Reference) (pending : Pending) (c : Class) (b : ℕ) (t : List LexEvent) (d : Config ValueState) → class_of b ≡ c → StandsInContent x e (Characters r) pending t d
    → TextStands x (next_in_content x pending c b e (Characters r)) (emits_in_content x pending c b e (Characters r) t) (page x (content_out pending c b e r) d)
in-content x e r Nothing c b t d k h = in-loose x e r c b t d k h
in-content x e Closed PendingLess c b t d k h = in-content-less x e c b t d k h
in-content x e Closed (PendingName letters) c b t d k h = in-end-name x e (may_be_name_of e (letters ++ b ∷ [])) (is_name_of e letters) letters c b t d k refl refl h
in-content x e (Open f bytes) PendingLess c b t d k h = absurd h
in-content x e (Open f bytes) (PendingName letters) c b t d k h = absurd h
in-content x e r LessAtCut c b t d k h = absurd h
in-content x e r PendingBang c b t d k h = absurd h
in-content x e r PendingBangDash c b t d k h = absurd h
in-content x e r (PendingOpening letters) c b t d k h = absurd h

-- A data block. Nothing of it is written otherwise, so the page is always where the path is.
loose-block : (x : ValueLanguage ValueState) (e : Element) (c : Class) (b : ℕ) (u : List LexEvent) (d : Config ValueState) → d ≡ config (next_loose x c b e Bytes) u → TextStands x (next_loose x c b e Bytes) u d
loose-block x e LessThan b u d h = h
loose-block x e c b u d h = h

less-block : (x : ValueLanguage ValueState) (e : Element) (c : Class) (b : ℕ) (u : List LexEvent) (d : Config ValueState) → d ≡ config (next_less x c b e Bytes) u → TextStands x (next_less x c b e Bytes) u d
less-block x e Solidus b u d h = h
less-block x e ExclamationMark b u d h = h
less-block x e LessThan b u d h = h
less-block x e c b u d h = h

end-block : (x : ValueLanguage ValueState) (e : Element) (grows whole : Bool) (letters : List ℕ) (c : Class) (b : ℕ) (u : List LexEvent) (d : Config ValueState) → d ≡ config (next_end_name x grows whole c b e Bytes letters) u
    → TextStands x (next_end_name x grows whole c b e Bytes letters) u d
end-block x e true whole letters (Letter l) b u d h = h
end-block x e grows true letters White b u d h = h
end-block x e grows true letters Solidus b u d h = h
end-block x e grows true letters GreaterThan b u d h = h
end-block x e grows whole letters c b u d h = loose-block x e c b u d h

bang-block : (x : ValueLanguage ValueState) (e : Element) (c : Class) (b : ℕ) (u : List LexEvent) (d : Config ValueState) → d ≡ config (next_bang x c b e Bytes) u → TextStands x (next_bang x c b e Bytes) u d
bang-block x e HyphenMinus b u d h = h
bang-block x e LessThan b u d h = h
bang-block x e c b u d h = h

pub in-block : (x : ValueLanguage ValueState) (e : Element) (pending : Pending) (c : Class) (b : ℕ) (t : List LexEvent) (d : Config ValueState) → class_of b ≡ c → block_byte_error pending c ≡ None
    → StandsInContent x e Bytes pending t d
    → TextStands x (next_in_content x pending c b e Bytes) (emits_in_content x pending c b e Bytes t) (page x (b ∷ []) d)
in-block x e Nothing c b t d k n h = loose-block x e c b (emits_in_content x Nothing c b e Bytes t) (page x (b ∷ []) d) (rw (h, k) refl)
in-block x e PendingLess c b t d k n h = less-block x e c b (emits_in_content x PendingLess c b e Bytes t) (page x (b ∷ []) d) (rw (h, k) refl)
in-block x e LessAtCut Solidus b t d k n h = absurd (some _ n)
in-block x e LessAtCut ExclamationMark b t d k n h = absurd (some _ n)
in-block x e LessAtCut c b t d k n h = loose-block x e c b (emits_in_content x LessAtCut c b e Bytes t) (page x (b ∷ []) d) (rw (h, k) refl)
in-block x e (PendingName letters) c b t d k n h =
    end-block x e (may_be_name_of e (letters ++ b ∷ [])) (is_name_of e letters) letters c b (emits_in_content x (PendingName letters) c b e Bytes t) (page x (b ∷ []) d) (rw (h, k) refl)
in-block x e PendingBang c b t d k n h = bang-block x e c b (emits_in_content x PendingBang c b e Bytes t) (page x (b ∷ []) d) (rw (h, k) refl)
in-block x e PendingBangDash c b t d k n h = loose-block x e c b (emits_in_content x PendingBangDash c b e Bytes t) (page x (b ∷ []) d) (rw (h, k) refl)
in-block x e (PendingOpening letters) c b t d k n h = absurd h
