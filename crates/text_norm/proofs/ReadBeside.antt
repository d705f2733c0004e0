-- Two pages that read the same bytes, from states that are the same but for those of a value's language. There the relation may also depend on what
-- was told.
use Rattle.std.proofs.Common.{◌≡◌, ℕ, Bool, true, false, codes, List, [], ◌∷◌, ◌++◌, refl, sym, ap, ◌∙◌, subst, if◌then◌else◌}
use Rattle.place_core.specs.page.Classes.{Class, White, QuotationMark, Apostrophe, Solidus, LessThan, EqualsSign, GreaterThan, Letter, class_of, HyphenMinus}
use Rattle.place_core.specs.page.Comments.{declared_by}
use Rattle.place_core.specs.page.Contents.{emits_end_name, emits_in_content, emits_less, emits_loose, is_name_of, may_be_name_of, next_end_name, next_in_content, next_less, next_loose, ScriptStep, Reads, EndsContent, script_step, behind_end_tag, emits_behind_end_tag, next_by_step, next_content_in, emits_by_step, emits_content_in, emits_escape}
use Rattle.place_core.specs.page.Events.{EndTagBegins, LexEvent, TagEnds, Escape}
use Rattle.place_core.specs.page.Html.{after_tag, byte_over, emits, emits_after_name, emits_after_value, emits_before_name, emits_before_value, emits_name, emits_self_closing, emits_tag_name, emits_value, emits_whole_name, ends_value, next, next_after_name, next_after_value, next_before_name, next_before_value, next_name, next_tag_name, next_value, read_over}
use Rattle.place_core.specs.page.References.{Reference, Closed, next_reference, settled, undone_byte}
use Rattle.place_core.specs.page.States.{AfterAttributeName, AfterAttributeValue, AttributeName, AttributeValue, BeforeAttributeName, BeforeAttributeValue, BogusComment, Bytes, Characters, Config, DeclarationOpen, EndTagOpen, InComment, InContent, InDoctype, InLanguage, LessAtCut, LexState, Nothing, Page, Pending, PendingBang, PendingBangDash, PendingLess, PendingName, SelfClosingStartTag, TagName, TagOpen, Text, WholeAttributeName, WholeTagName, PendingOpening}
use Rattle.place_core.specs.page.Tags.{Deciding, DoubleQuoted, Quoting, SingleQuoted, Tag, Unquoted, Value, ValueLanguage, ValueOf, attribute_value_of, element_on, emits_fed, emitted_bytes, emitted_end, fed_state, tag_of_name, tag_with_value, with_bytes, without_value}
use Rattle.place_core.specs.page.Words.{kind_of}
use Rattle.place_core.specs.declared.element.Element.{Element}
use Rattle.place_core.specs.declared.element.Element.TheVariants as element
use Rattle.place_core.specs.declared.kind.Kind.{Kind}
use Rattle.place_core.specs.declared.kind.Kind.TheVariants as kind
use Rattle.place_core.specs.declared.tag_of.TagOf.{TagOf}
use Rattle.place_core.specs.declared.tag_of.TagOf.TheVariants as which
use Rattle.text_norm.proofs.EmittedAlike.{IsOwn, after-name, before-name, in-content, in-declaration, in-doctype, in-end-tag-open, in-name, in-tag-name, in-tag-open, in-text, self-closing, tag-names, type-bytes, type-end, whole-name}
use Rattle.text_norm.proofs.StatesBeside.{IsOutside, comment-outside, declaration-outside, doctype-outside, end-tag-open-outside, in-bogus-outside, in-content-outside, tag-open-outside, text-outside}
use Rattle.text_norm.proofs.ValuesKeep.{fed, own-fed, own-tag, own-type}

-- what may be pending back in a content that a language reads; `<!` is of data blocks and scripts alone
abbrev pub IsOfLanguage : Pending → Type 0
IsOfLanguage PendingBang = ⊥
IsOfLanguage PendingBangDash = ⊥
IsOfLanguage h = Unit {0}

abbrev pub IsPendingOf : (script : Bool) → Pending → Type 0
IsPendingOf true h = Unit {0}
IsPendingOf false h = IsOfLanguage h

abbrev pub Beside : {B : Type 0} → ValueLanguage B → (List LexEvent → List LexEvent → Type 0) → (B → B → List LexEvent → List LexEvent → Type 0)
    → (s z : LexState B) → (t u : List LexEvent) → Type 0
Beside {B} x F G (AttributeValue q tag (ValueOf v) r) z t u = (w : B) × (z ≡ AttributeValue q tag (ValueOf w) r) × G v w t u
Beside {B} x F G (InContent e (InLanguage v) h) z t u = IsPendingOf (x.is_script v) h × (w : B) × (z ≡ InContent e (InLanguage w) h) × G v w t u
Beside x F G s z t u = (z ≡ s) × F t u

-- What is asked of the relations: outside of values and of contents that a language reads, that what HTML tells by itself keeps `F`; in them that they begin,
-- go on and end so. In a script `<!--` is told besides, which keeps them too. A state stays that of a script, or of none.
pub record ReadsBeside (B : Type 0) (x : ValueLanguage B) (F : List LexEvent → List LexEvent → Type 0)
    (G : B → B → List LexEvent → List LexEvent → Type 0)
    : Type 0 where
  pub keeps : (e : LexEvent) (t u : List LexEvent) → IsOwn e → F t u → F (e ∷ t) (e ∷ u)
  pub starts : (k : Kind) (t u : List LexEvent) → F t u → G (x.start k) (x.start k) t u
  pub feeds : (v w : B) (b : ℕ) (t u : List LexEvent) → G v w t u → G (x.feed v b) (x.feed w b) (x.emits v b t) (x.emits w b u)
  pub ends : (v w : B) (t u : List LexEvent) → G v w t u → F (x.ends v t) (x.ends w u)
  pub escapes : (v w : B) (t u : List LexEvent) → x.is_script v ≡ true → G v w t u → G v w (Escape ∷ t) (Escape ∷ u)
  pub scripts : (v w : B) (t u : List LexEvent) → G v w t u → x.is_script v ≡ x.is_script w
  pub stays : (v : B) (b : ℕ) → x.is_script (x.feed v b) ≡ x.is_script v

module _ (B : Type 0) (x : ValueLanguage B) (F : List LexEvent → List LexEvent → Type 0) (G : B → B → List LexEvent → List LexEvent → Type 0)
    (own : ReadsBeside B x F G) where
  outside : (s z : LexState B) (t u : List LexEvent) → IsOutside s → z ≡ s → F t u → Beside x F G s z t u
  outside (AttributeValue q tag (ValueOf v) r) z t u o e f = absurd o
  outside (InContent i (InLanguage v) h) z t u o e f = absurd o
  outside _ z t u o e f = (e, f)

  equal-step : (s z : LexState B) (t u : List LexEvent) → z ≡ s → Beside x F G s s t u → Beside x F G s z t u
  equal-step s z t u e g = subst (λ (y : LexState B). Beside x F G s y t u) (sym e) g

  any-pending : (h : Pending) → IsOfLanguage h → (script : Bool) → IsPendingOf script h
  any-pending h o true = tt
  any-pending h o false = o

  -- a tag that ends, which a style or a script may begin behind, and what leads there
  tag-step : (i : TagOf) (t u : List LexEvent) → F t u → (let z = after_tag x i in Beside x F G z z t u)
  tag-step which.End t u f = (refl, f)
  tag-step (which.Start element.Title) t u f = (refl, f)
  tag-step (which.Start element.Textarea) t u f = (refl, f)
  tag-step (which.Start element.DataBlock) t u f = (refl, f)
  tag-step (which.Start element.Script) t u f = (any-pending Nothing tt (x.is_script (x.start kind.Script)), x.start kind.Script, refl, own.starts kind.Script t u f)
  tag-step (which.Start element.Style) t u f = (any-pending Nothing tt (x.is_script (x.start kind.Style)), x.start kind.Style, refl, own.starts kind.Style t u f)
  tag-step (which.Start element.Other) t u f = (refl, f)

  tag-name-step : (c : Class) (b : ℕ) (ends : Bool) (name : List ℕ) (t u : List LexEvent) → F t u
      → (let z = next_tag_name x c b ends name in Beside x F G z z (emits_tag_name c b t) (emits_tag_name c b u))
  tag-name-step White b ends name t u f = (refl, f)
  tag-name-step Solidus b ends name t u f = (refl, f)
  tag-name-step GreaterThan b ends name t u f = tag-step (tag_of_name ends name) _ _ (own.keeps (TagEnds false) t u tt f)
  tag-name-step c b ends name t u f = (refl, in-tag-name F own.keeps c b t u f)

  before-name-step : (c : Class) (b : ℕ) (tag : Tag) (t u : List LexEvent) → F t u
      → (let z = next_before_name x c b tag in Beside x F G z z (emits_before_name c b t) (emits_before_name c b u))
  before-name-step White b tag t u f = (refl, f)
  before-name-step Solidus b tag t u f = (refl, f)
  before-name-step GreaterThan b tag t u f = tag-step tag.tag _ _ (own.keeps (TagEnds false) t u tt f)
  before-name-step c b tag t u f = (refl, before-name F own.keeps c b t u f)

  closing-step : (c : Class) (b : ℕ) (tag : Tag) (t u : List LexEvent) → F t u
      → (let z = next_before_name x c b tag in Beside x F G z z (emits_self_closing c b t) (emits_self_closing c b u))
  closing-step White b tag t u f = (refl, f)
  closing-step Solidus b tag t u f = (refl, f)
  closing-step GreaterThan b tag t u f = tag-step tag.tag _ _ (own.keeps (TagEnds true) t u tt f)
  closing-step c b tag t u f = (refl, self-closing F own.keeps c b t u f)

  name-step : (c : Class) (b : ℕ) (tag : Tag) (k : Kind) (name : List ℕ) (t u : List LexEvent) → F t u
      → (let z = next_name x c b tag k name in Beside x F G z z (emits_name c b k t) (emits_name c b k u))
  name-step White b tag k name t u f = (refl, in-name F own.keeps White b k t u f)
  name-step Solidus b tag k name t u f = (refl, in-name F own.keeps Solidus b k t u f)
  name-step GreaterThan b tag k name t u f = tag-step (without_value tag k).tag _ _ (in-name F own.keeps GreaterThan b k t u f)
  name-step EqualsSign b tag k name t u f = (refl, in-name F own.keeps EqualsSign b k t u f)
  name-step c b tag k name t u f = (refl, in-name F own.keeps c b k t u f)

  whole-step : (c : Class) (b : ℕ) (tag : Tag) (k : Kind) (t u : List LexEvent) → F t u
      → (let z = next_after_name x c b tag k in Beside x F G z z (emits_whole_name c b k t) (emits_whole_name c b k u))
  whole-step White b tag k t u f = (refl, whole-name F own.keeps White b k t u f)
  whole-step Solidus b tag k t u f = (refl, whole-name F own.keeps Solidus b k t u f)
  whole-step GreaterThan b tag k t u f = tag-step (without_value tag k).tag _ _ (whole-name F own.keeps GreaterThan b k t u f)
  whole-step EqualsSign b tag k t u f = (refl, whole-name F own.keeps EqualsSign b k t u f)
  whole-step c b tag k t u f = (refl, whole-name F own.keeps c b k t u f)

  after-name-step : (c : Class) (b : ℕ) (tag : Tag) (k : Kind) (t u : List LexEvent) → F t u
      → (let z = next_after_name x c b tag k in Beside x F G z z (emits_after_name c b t) (emits_after_name c b u))
  after-name-step White b tag k t u f = (refl, f)
  after-name-step Solidus b tag k t u f = (refl, f)
  after-name-step GreaterThan b tag k t u f = tag-step (without_value tag k).tag _ _ (own.keeps (TagEnds false) t u tt f)
  after-name-step EqualsSign b tag k t u f = (refl, f)
  after-name-step c b tag k t u f = (refl, after-name F own.keeps c b t u f)

  after-value-step : (q : Quoting) (c : Class) (b : ℕ) (tag : Tag) (t u : List LexEvent) → F t u
      → (let z = next_after_value x q c b tag in Beside x F G z z (emits_after_value q c b t) (emits_after_value q c b u))
  after-value-step Unquoted c b tag t u f = before-name-step c b tag t u f
  after-value-step DoubleQuoted c b tag t u f = (refl, f)
  after-value-step SingleQuoted c b tag t u f = (refl, f)

  -- a content that the language reads
  pub fed-step : (bs : List ℕ) (v w : B) (t u : List LexEvent) → G v w t u → G (fed_state x v bs) (fed_state x w bs) (emits_fed x v bs t) (emits_fed x w bs u)
  fed-step [] v w t u g = g
  fed-step (b ∷ bs) v w t u g = fed-step bs (x.feed v b) (x.feed w b) (x.emits v b t) (x.emits w b u) (own.feeds v w b t u g)

  loose-step : (c : Class) (b : ℕ) (e : Element) (v w : B) (t u : List LexEvent) → G v w t u
      → Beside x F G (next_loose x c b e (InLanguage v)) (next_loose x c b e (InLanguage w)) (emits_loose x c b (InLanguage v) t) (emits_loose x c b (InLanguage w) u)
  loose-step LessThan b e v w t u g = (any-pending PendingLess tt (x.is_script v), w, refl, g)
  loose-step c b e v w t u g = (any-pending Nothing tt (x.is_script (x.feed v b)), x.feed w b, refl, own.feeds v w b t u g)

  behind-step : (c : Class) (b : ℕ) (e : Element) (bs : List ℕ) (v w : B) (t u : List LexEvent) → G v w t u
      → Beside x F G (next_loose x c b e (InLanguage (fed_state x v bs))) (next_loose x c b e (InLanguage (fed_state x w bs)))
      (emits_loose x c b (InLanguage (fed_state x v bs)) (emits_fed x v bs t)) (emits_loose x c b (InLanguage (fed_state x w bs)) (emits_fed x w bs u))
  behind-step c b e bs v w t u g = loose-step c b e (fed_state x v bs) (fed_state x w bs) _ _ (fed-step bs v w t u g)

  less-step : (c : Class) (b : ℕ) (e : Element) (v w : B) (t u : List LexEvent) → G v w t u
      → Beside x F G (next_less x c b e (InLanguage v)) (next_less x c b e (InLanguage w)) (emits_less x c b (InLanguage v) t) (emits_less x c b (InLanguage w) u)
  less-step Solidus b e v w t u g = (any-pending (PendingName []) tt (x.is_script v), w, refl, g)
  less-step c b e v w t u g = behind-step c b e (codes "<") v w t u g

  end-name-step : (grows whole : Bool) (c : Class) (b : ℕ) (e : Element) (letters : List ℕ) (v w : B) (t u : List LexEvent) → G v w t u
      → Beside x F G (next_end_name x grows whole c b e (InLanguage v) letters) (next_end_name x grows whole c b e (InLanguage w) letters)
      (emits_end_name x grows whole c b (InLanguage v) letters t) (emits_end_name x grows whole c b (InLanguage w) letters u)
  end-name-step true whole (Letter l) b e letters v w t u g = (any-pending (PendingName (letters ++ b ∷ [])) tt (x.is_script v), w, refl, g)
  end-name-step grows true White b e letters v w t u g = (refl, tag-names F own.keeps letters _ _ (own.keeps EndTagBegins _ _ tt (own.ends v w t u g)))
  end-name-step grows true Solidus b e letters v w t u g = (refl, tag-names F own.keeps letters _ _ (own.keeps EndTagBegins _ _ tt (own.ends v w t u g)))
  end-name-step grows true GreaterThan b e letters v w t u g =
      (refl, own.keeps (TagEnds false) _ _ tt (tag-names F own.keeps letters _ _ (own.keeps EndTagBegins _ _ tt (own.ends v w t u g))))
  end-name-step grows whole c b e letters v w t u g = behind-step c b e (codes "</" ++ letters) v w t u g

  content-step : (h : Pending) (c : Class) (b : ℕ) (e : Element) (v w : B) (t u : List LexEvent) → IsOfLanguage h → G v w t u
      → Beside x F G (next_in_content x h c b e (InLanguage v)) (next_in_content x h c b e (InLanguage w))
      (emits_in_content x h c b e (InLanguage v) t) (emits_in_content x h c b e (InLanguage w) u)
  content-step Nothing c b e v w t u o g = loose-step c b e v w t u g
  content-step PendingLess c b e v w t u o g = less-step c b e v w t u g
  content-step LessAtCut c b e v w t u o g = behind-step c b e (codes "<") v w t u g
  content-step (PendingName letters) c b e v w t u o g = end-name-step (may_be_name_of e (letters ++ b ∷ [])) (is_name_of e letters) c b e letters v w t u g
  content-step PendingBang c b e v w t u o g = absurd o
  content-step PendingBangDash c b e v w t u o g = absurd o
  content-step (PendingOpening letters) c b e v w t u o g = behind-step c b e (codes "<" ++ letters) v w t u g

  -- a script, by the step that both make
  fed-script : (bs : List ℕ) (v : B) → x.is_script v ≡ true → x.is_script (fed_state x v bs) ≡ true
  fed-script [] v i = i
  fed-script (b ∷ bs) v i = fed-script bs (x.feed v b) (own.stays v b ∙ i)

  script-pending : (h : Pending) (v : B) → x.is_script v ≡ true → IsPendingOf (x.is_script v) h
  script-pending h v i = subst (λ (y : Bool). IsPendingOf y h) (sym i) tt

  end-tag-step : (c : Class) (t u : List LexEvent) → F t u
      → Beside x F G (behind_end_tag c) (behind_end_tag c) (emits_behind_end_tag c t) (emits_behind_end_tag c u)
  end-tag-step White t u f = (refl, f)
  end-tag-step Solidus t u f = (refl, f)
  end-tag-step GreaterThan t u f = (refl, own.keeps (TagEnds false) t u tt f)
  end-tag-step _ t u f = (refl, f)

  step-step : (k : ScriptStep) (c : Class) (e : Element) (v w : B) (t u : List LexEvent) → x.is_script v ≡ true → G v w t u
      → Beside x F G (next_by_step x k c e v) (next_by_step x k c e w) (emits_by_step x k c v t) (emits_by_step x k c w u)
  step-step (Reads bytes h) c e v w t u i g = (script-pending h (fed_state x v bytes) (fed-script bytes v i), fed_state x w bytes, refl, fed-step bytes v w t u g)
  step-step (EndsContent letters) c e v w t u i g =
      end-tag-step c _ _ (tag-names F own.keeps letters _ _ (own.keeps EndTagBegins _ _ tt (own.ends v w t u g)))

  script-step : (h : Pending) (c : Class) (b : ℕ) (e : Element) (v w : B) (t u : List LexEvent) → x.is_script v ≡ true → G v w t u
      → (let k = script_step true e h c b in
      Beside x F G (next_by_step x k c e v) (next_by_step x k c e w) (emits_escape Page h c (emits_by_step x k c v t)) (emits_escape Page h c (emits_by_step x k c w u)))
  script-step PendingBangDash HyphenMinus b e v w t u i g =
      let bytes = codes "<!-" ++ b ∷ [] in
      (script-pending Nothing (fed_state x v bytes) (fed-script bytes v i), fed_state x w bytes, refl, own.escapes _ _ _ _ (fed-script bytes v i) (fed-step bytes v w t u g))
  script-step h c b e v w t u i g = step-step (script_step true e h c b) c e v w t u i g

  either-step : (script : Bool) (h : Pending) (c : Class) (b : ℕ) (e : Element) (v w : B) (t u : List LexEvent) → x.is_script v ≡ script
      → IsPendingOf script h → G v w t u
      → (let k = script_step true e h c b in
      Beside x F G (if script then next_by_step x k c e v else next_in_content x h c b e (InLanguage v))
      (if script then next_by_step x k c e w else next_in_content x h c b e (InLanguage w))
      (if script then emits_escape Page h c (emits_by_step x k c v t) else emits_in_content x h c b e (InLanguage v) t)
      (if script then emits_escape Page h c (emits_by_step x k c w u) else emits_in_content x h c b e (InLanguage w) u))
  either-step true h c b e v w t u i o g = script-step h c b e v w t u i g
  either-step false h c b e v w t u i o g = content-step h c b e v w t u o g

  language-step : (h : Pending) (c : Class) (b : ℕ) (e : Element) (v w : B) (t u : List LexEvent) → IsPendingOf (x.is_script v) h → G v w t u
      → Beside x F G (next_content_in x Page h c b e (InLanguage v)) (next_content_in x Page h c b e (InLanguage w))
      (emits_content_in x Page h c b e (InLanguage v) t) (emits_content_in x Page h c b e (InLanguage w) u)
  language-step h c b e v w t u o g =
      let k = script_step true e h c b in
      subst (λ (i : Bool). Beside x F G (next_content_in x Page h c b e (InLanguage v)) (if i then next_by_step x k c e w else next_in_content x h c b e (InLanguage w))
      (emits_content_in x Page h c b e (InLanguage v) t)
      (if i then emits_escape Page h c (emits_by_step x k c w u) else emits_in_content x h c b e (InLanguage w) u))
      (own.scripts v w t u g) (either-step (x.is_script v) h c b e v w t u refl o g)

  -- the bytes of a value, and its end
  pub fed-beside : (bs : List ℕ) (v w : B) (t u : List LexEvent) → G v w t u
      → G (fed x v bs) (fed x w bs) (emitted_bytes x (ValueOf v) bs t) (emitted_bytes x (ValueOf w) bs u)
  fed-beside [] v w t u g = g
  fed-beside (b ∷ bs) v w t u g = fed-beside bs (x.feed v b) (x.feed w b) (x.emits v b t) (x.emits w b u) (own.feeds v w b t u g)

  ended-beside : (bs : List ℕ) (v w : B) (t u : List LexEvent) → G v w t u
      → F (emitted_end x (with_bytes x (ValueOf v) bs) (emitted_bytes x (ValueOf v) bs t))
      (emitted_end x (with_bytes x (ValueOf w) bs) (emitted_bytes x (ValueOf w) bs u))
  ended-beside [] v w t u g = own.ends v w t u g
  ended-beside (b ∷ bs) v w t u g = ended-beside bs (x.feed v b) (x.feed w b) (x.emits v b t) (x.emits w b u) (own.feeds v w b t u g)

  value-step : (ends : Bool) (q : Quoting) (c : Class) (b : ℕ) (tag : Tag) (v w : B) (r : Reference) (t u : List LexEvent) → G v w t u
      → Beside x F G (next_value x ends q c b tag (ValueOf v) r) (next_value x ends q c b tag (ValueOf w) r)
      (emits_value x ends q c b (ValueOf v) r t) (emits_value x ends q c b (ValueOf w) r u)
  value-step true q c b tag v w r t u g =
      let bs = settled true r in
      equal-step _ _ _ _ (ap (next_after_value x q c b) (own-tag x tag w bs ∙ sym (own-tag x tag v bs)))
      (after-value-step q c b (tag_with_value tag (with_bytes x (ValueOf v) bs)) _ _ (ended-beside bs v w t u g))
  value-step false q c b tag v w r t u g =
      let bs = undone_byte true r c b in
      let more = next_reference r c b in
      subst (λ (z : Value B). Beside x F G (AttributeValue q tag z more) (AttributeValue q tag (with_bytes x (ValueOf w) bs) more)
      (emitted_bytes x (ValueOf v) bs t) (emitted_bytes x (ValueOf w) bs u))
      (sym (own-fed x v bs)) (fed x w bs, ap (λ (z : Value B). AttributeValue q tag z more) (own-fed x w bs), fed-beside bs v w t u g)

  -- the type of a script
  type-outside : (q : Quoting) (tag : Tag) (k : Kind) (before bs : List ℕ) (r : Reference) → IsOutside (AttributeValue q tag (with_bytes x (Deciding k before) bs) r)
  type-outside q tag k before bs r = subst (λ (z : Value B). IsOutside (AttributeValue q tag z r)) (sym (own-type x k before bs)) tt

  type-step : (ends : Bool) (q : Quoting) (c : Class) (b : ℕ) (tag : Tag) (k : Kind) (before : List ℕ) (r : Reference) (t u : List LexEvent) → F t u
      → (let z = next_value x ends q c b tag (Deciding k before) r in
      Beside x F G z z (emits_value x ends q c b (Deciding k before) r t) (emits_value x ends q c b (Deciding k before) r u))
  type-step true q c b tag k before r t u f =
      let bs = settled true r in
      after-value-step q c b (tag_with_value tag (with_bytes x (Deciding k before) bs)) _ _ (type-end F own.keeps B x bs k before _ _ (type-bytes F own.keeps B x bs k before t u f))
  type-step false q c b tag k before r t u f =
      outside (AttributeValue q tag (with_bytes x (Deciding k before) (undone_byte true r c b)) (next_reference r c b)) _ _ _ (type-outside q tag k before (undone_byte true r c b) (next_reference r c b)) refl (type-bytes F own.keeps B x (undone_byte true r c b) k before t u f)

  -- a value that begins
  begun-step : (q : Quoting) (tag : Tag) (k : Kind) (t u : List LexEvent) → F t u
      → (let z = AttributeValue q tag (attribute_value_of x k) Closed in Beside x F G z z t u)
  begun-step q tag kind.ScriptType t u f = (refl, f)
  begun-step q tag kind.Plain t u f = (x.start kind.Plain, refl, own.starts kind.Plain t u f)
  begun-step q tag kind.NoHole t u f = (x.start kind.NoHole, refl, own.starts kind.NoHole t u f)
  begun-step q tag kind.Url t u f = (x.start kind.Url, refl, own.starts kind.Url t u f)
  begun-step q tag kind.Script t u f = (x.start kind.Script, refl, own.starts kind.Script t u f)
  begun-step q tag kind.Style t u f = (x.start kind.Style, refl, own.starts kind.Style t u f)

  begun-end : (k : Kind) (t u : List LexEvent) → F t u → F (emitted_end x (attribute_value_of x k) t) (emitted_end x (attribute_value_of x k) u)
  begun-end kind.ScriptType t u f = f
  begun-end kind.Plain t u f = own.ends _ _ t u (own.starts kind.Plain t u f)
  begun-end kind.NoHole t u f = own.ends _ _ t u (own.starts kind.NoHole t u f)
  begun-end kind.Url t u f = own.ends _ _ t u (own.starts kind.Url t u f)
  begun-end kind.Script t u f = own.ends _ _ t u (own.starts kind.Script t u f)
  begun-end kind.Style t u f = own.ends _ _ t u (own.starts kind.Style t u f)

  first-step : (c : Class) (b : ℕ) (tag : Tag) (k : Kind) (t u : List LexEvent) → F t u
      → (let v = attribute_value_of x k in let z = next_value x false Unquoted c b tag v Closed in
      Beside x F G z z (emits_value x false Unquoted c b v Closed t) (emits_value x false Unquoted c b v Closed u))
  first-step c b tag kind.ScriptType t u f = type-step false Unquoted c b tag kind.ScriptType [] Closed t u f
  first-step c b tag kind.Plain t u f = value-step false Unquoted c b tag _ _ Closed t u (own.starts kind.Plain t u f)
  first-step c b tag kind.NoHole t u f = value-step false Unquoted c b tag _ _ Closed t u (own.starts kind.NoHole t u f)
  first-step c b tag kind.Url t u f = value-step false Unquoted c b tag _ _ Closed t u (own.starts kind.Url t u f)
  first-step c b tag kind.Script t u f = value-step false Unquoted c b tag _ _ Closed t u (own.starts kind.Script t u f)
  first-step c b tag kind.Style t u f = value-step false Unquoted c b tag _ _ Closed t u (own.starts kind.Style t u f)

  before-value-step : (c : Class) (b : ℕ) (tag : Tag) (k : Kind) (t u : List LexEvent) → F t u
      → Beside x F G (next_before_value x c b tag k) (next_before_value x c b tag k) (emits_before_value x c b k t) (emits_before_value x c b k u)
  before-value-step White b tag k t u f = (refl, f)
  before-value-step QuotationMark b tag k t u f = begun-step _ tag k t u f
  before-value-step Apostrophe b tag k t u f = begun-step _ tag k t u f
  before-value-step GreaterThan b tag k t u f = tag-step (without_value tag k).tag _ _ (own.keeps (TagEnds false) _ _ tt (begun-end k t u f))
  before-value-step c b tag k t u f = first-step c b tag k t u f

  -- a byte, from a state that is in no value of a language
  self-step : (s : LexState B) (c : Class) (b : ℕ) (t u : List LexEvent) → IsOutside s → F t u
      → Beside x F G (next x Page s c b) (next x Page s c b) (emits x Page s c b t) (emits x Page s c b u)
  self-step (Text r) c b t u o f = outside _ _ _ _ (text-outside B c b r) refl (in-text F own.keeps c b r t u f)
  self-step (TagOpen r) c b t u o f = outside _ _ _ _ (tag-open-outside B Page c b r) refl (in-tag-open F own.keeps Page c b r t u f)
  self-step (EndTagOpen r) c b t u o f = outside _ _ _ _ (end-tag-open-outside B Page c b) refl (in-end-tag-open F own.keeps Page c b r t u f)
  self-step (DeclarationOpen r pending) c b t u o f =
      let d = declared_by (pending ++ b ∷ []) in
      outside _ _ _ _ (declaration-outside B d Page c b r pending) refl (in-declaration F own.keeps d Page c b r pending t u f)
  self-step (InComment s) c b t u o f = outside _ _ _ _ (comment-outside B c s) refl f
  self-step BogusComment c b t u o f = outside _ _ _ _ (in-bogus-outside B c) refl f
  self-step InDoctype c b t u o f = outside _ _ _ _ (doctype-outside B c) refl (in-doctype F own.keeps c b t u f)
  self-step (TagName ends name) c b t u o f = tag-name-step c b ends name t u f
  self-step (WholeTagName tag) c b t u o f = before-name-step c b tag t u f
  self-step (BeforeAttributeName tag) c b t u o f = before-name-step c b tag t u f
  self-step (AttributeName tag name) c b t u o f = name-step c b tag (kind_of (element_on tag.tag) name) name t u f
  self-step (WholeAttributeName tag k) c b t u o f = whole-step c b tag k t u f
  self-step (AfterAttributeName tag k) c b t u o f = after-name-step c b tag k t u f
  self-step (BeforeAttributeValue tag k) c b t u o f = before-value-step c b tag k t u f
  self-step (AttributeValue q tag (ValueOf v) r) c b t u o f = absurd o
  self-step (AttributeValue q tag (Deciding k before) r) c b t u o f = type-step (ends_value q c) q c b tag k before r t u f
  self-step (AfterAttributeValue tag) c b t u o f = before-name-step c b tag t u f
  self-step (SelfClosingStartTag tag) c b t u o f = closing-step c b tag t u f
  self-step (InContent e (Characters r) h) c b t u o f =
      outside _ _ _ _ (in-content-outside B x h c b e (Characters r) tt) refl (in-content F own.keeps B x h c b e (Characters r) t u tt f)
  self-step (InContent e Bytes h) c b t u o f = outside _ _ _ _ (in-content-outside B x h c b e Bytes tt) refl (in-content F own.keeps B x h c b e Bytes t u tt f)
  self-step (InContent e (InLanguage v) h) c b t u o f = absurd o

  -- a byte, from one beside the other, and bytes
  step : (s z : LexState B) (c : Class) (b : ℕ) (t u : List LexEvent) → Beside x F G s z t u
      → Beside x F G (next x Page s c b) (next x Page z c b) (emits x Page s c b t) (emits x Page z c b u)
  step (AttributeValue q tag (ValueOf v) r) z c b t u a =
      let s = AttributeValue q tag (ValueOf v) r in
      subst (λ (y : LexState B). Beside x F G (next x Page s c b) (next x Page y c b) (emits x Page s c b t) (emits x Page y c b u)) (sym a.1)
      (value-step (ends_value q c) q c b tag v a.0 r t u a.2)
  step (InContent e (InLanguage v) h) z c b t u a =
      let s = InContent e (InLanguage v) h in
      subst (λ (y : LexState B). Beside x F G (next x Page s c b) (next x Page y c b) (emits x Page s c b t) (emits x Page y c b u)) (sym a.2)
      (language-step h c b e v a.1 t u a.0 a.3)
  step s z c b t u a =
      subst (λ (y : LexState B). Beside x F G (next x Page s c b) (next x Page y c b) (emits x Page s c b t) (emits x Page y c b u)) (sym a.0)
      (self-step s c b t u tt a.1)

  pub read-beside : (bytes : List ℕ) (c d : Config B) → Beside x F G c.at d.at c.emitted d.emitted
      → Beside x F G (read_over x Page bytes c).at (read_over x Page bytes d).at (read_over x Page bytes c).emitted (read_over x Page bytes d).emitted
  read-beside [] c d a = a
  read-beside (b ∷ bs) c d a = read-beside bs (byte_over x Page b c) (byte_over x Page b d) (step c.at d.at (class_of b) b c.emitted d.emitted a)
