-- Two readings of the same bytes whose states are the same but for the state of a value's language, which is related.
use Rattle.std.proofs.Common.{◌≡◌, ℕ, Bool, true, false, codes, List, [], ◌∷◌, ◌++◌, refl, sym, ap, ◌∙◌, subst, if◌then◌else◌}
use Rattle.place_core.specs.page.Classes.{Class, White, ExclamationMark, QuotationMark, Apostrophe, HyphenMinus, Solidus, LessThan, EqualsSign, GreaterThan, QuestionMark, Letter}
use Rattle.place_core.specs.page.Comments.{Declaration, OpensComment, OpensDoctype, Undecided, OpensNothing, closes_comment, comment_ended, declared_by, next_in_bogus, next_in_comment, next_in_doctype}
use Rattle.place_core.specs.page.Contents.{content_after, is_name_of, may_be_name_of, pending_bytes, next_bang, next_end_name, next_in_content, next_less, next_loose, ScriptStep, Reads, EndsContent, script_step, behind_end_tag, ends_here, next_by_step, next_content_in}
use Rattle.place_core.specs.page.Html.{after_tag, ends_value, next, next_after_name, next_after_value, next_before_name, next_before_value, next_bogus, next_declaration, next_end_tag_open, next_name, next_tag_name, next_tag_open, next_text, next_value}
use Rattle.place_core.specs.page.Paths.{at_cut}
use Rattle.place_core.specs.page.References.{Reference, Closed, as_it_stands, next_reference, settled, undone_byte}
use Rattle.place_core.specs.page.States.{AfterAttributeName, AfterAttributeValue, AttributeName, AttributeValue, BeforeAttributeName, BeforeAttributeValue, BogusComment, Bytes, Characters, CommentState, Content, DeclarationOpen, EndTagOpen, InComment, InContent, InLanguage, InDoctype, LessAtCut, LexMode, LexState, Nothing, Page, Pending, PendingBang, PendingBangDash, PendingLess, PendingName, SelfClosingStartTag, TagName, TagOpen, Template, Text, WholeAttributeName, WholeTagName, PendingOpening}
use Rattle.place_core.specs.page.Tags.{Deciding, Quoting, Tag, Unquoted, Value, ValueLanguage, ValueOf, attribute_value_of, cut_value, element_on, fed_state, tag_of_name, tag_with_value, with_bytes, without_value}
use Rattle.place_core.specs.page.Words.{kind_of}
use Rattle.place_core.specs.declared.element.Element.{Element}
use Rattle.place_core.specs.declared.element.Element.TheVariants as element
use Rattle.place_core.specs.declared.kind.Kind.{Kind}
use Rattle.place_core.specs.declared.kind.Kind.TheVariants as kind
use Rattle.place_core.specs.declared.tag_of.TagOf.{TagOf}
use Rattle.place_core.specs.declared.tag_of.TagOf.TheVariants as tag
use Rattle.text_norm.proofs.ValuesKeep.{fed, own-fed, own-tag, own-type}

abbrev pub StandBeside : {B : Type 0} → (B → B → Type 0) → LexState B → LexState B → Type 0
StandBeside {B} Related (AttributeValue q tag (ValueOf v) r) z = (w : B) × (z ≡ AttributeValue q tag (ValueOf w) r) × Related v w
StandBeside {B} Related (InContent e (InLanguage v) h) z = (w : B) × (z ≡ InContent e (InLanguage w) h) × Related v w
StandBeside Related s z = z ≡ s

-- a state that is in no value of a language, nor in a content of one
abbrev pub IsOutside : {B : Type 0} → LexState B → Type 0
IsOutside (AttributeValue q tag (ValueOf v) r) = ⊥
IsOutside (InContent e (InLanguage v) h) = ⊥
IsOutside s = Unit {0}

abbrev pub NoLanguage : {B : Type 0} → Content B → Type 0
NoLanguage (InLanguage v) = ⊥
NoLanguage y = Unit {0}

pub outside-beside : {B : Type 0} (Related : B → B → Type 0) (s : LexState B) → IsOutside s → StandBeside Related s s
outside-beside Related (AttributeValue q tag (ValueOf v) r) o = absurd o
outside-beside Related (InContent e (InLanguage v) h) o = absurd o
outside-beside Related _ o = refl

-- Where a byte leads from such a state, unless it begins a value or ends a tag.
module _ (B : Type 0) where
  pub text-outside : (c : Class) (b : ℕ) (r : Reference) → IsOutside {B = B} (next_text c b r)
  text-outside LessThan b r = tt
  text-outside _ b r = tt

  pub in-bogus-outside : (c : Class) → IsOutside {B = B} (next_in_bogus c)
  in-bogus-outside GreaterThan = tt
  in-bogus-outside _ = tt

  pub bogus-outside : (m : LexMode) (c : Class) (b : ℕ) → IsOutside {B = B} (next_bogus m c b)
  bogus-outside Page c b = in-bogus-outside c
  bogus-outside Template c b = text-outside c b Closed

  pub tag-open-outside : (m : LexMode) (c : Class) (b : ℕ) (r : Reference) → IsOutside {B = B} (next_tag_open m c b r)
  tag-open-outside m (Letter l) b r = tt
  tag-open-outside m Solidus b r = tt
  tag-open-outside m ExclamationMark b r = tt
  tag-open-outside m QuestionMark b r = bogus-outside m QuestionMark b
  tag-open-outside m c b r = text-outside c b Closed

  pub end-tag-open-outside : (m : LexMode) (c : Class) (b : ℕ) → IsOutside {B = B} (next_end_tag_open m c b)
  end-tag-open-outside m (Letter l) b = tt
  end-tag-open-outside m c b = bogus-outside m c b

  pub declaration-outside : (o : Declaration) (m : LexMode) (c : Class) (b : ℕ) (r : Reference) (pending : List ℕ)
      → IsOutside {B = B} (next_declaration o m c b r pending)
  declaration-outside OpensComment m c b r pending = tt
  declaration-outside OpensDoctype m c b r pending = tt
  declaration-outside Undecided m c b r pending = tt
  declaration-outside OpensNothing m c b r pending = bogus-outside m c b

  ended-outside : (closes : Bool) → IsOutside {B = B} (comment_ended closes)
  ended-outside true = tt
  ended-outside false = tt

  pub comment-outside : (c : Class) (s : CommentState) → IsOutside {B = B} (next_in_comment c s)
  comment-outside GreaterThan s = ended-outside (closes_comment s)
  comment-outside _ s = tt

  pub doctype-outside : (c : Class) → IsOutside {B = B} (next_in_doctype c)
  doctype-outside GreaterThan = tt
  doctype-outside _ = tt

  -- in a content that no language reads
  module _ (x : ValueLanguage B) where
    loose-outside : (c : Class) (b : ℕ) (e : Element) (y : Content B) → NoLanguage y → IsOutside {B = B} (next_loose x c b e y)
    loose-outside LessThan b e (Characters r) n = tt
    loose-outside LessThan b e Bytes n = tt
    loose-outside c b e (Characters r) n = tt
    loose-outside c b e Bytes n = tt
    loose-outside c b e (InLanguage v) n = absurd n

    after-none : (y : Content B) (bytes : List ℕ) → NoLanguage y → NoLanguage (content_after x y bytes)
    after-none (Characters r) bytes n = tt
    after-none Bytes bytes n = tt
    after-none (InLanguage v) bytes n = absurd n

    less-outside : (c : Class) (b : ℕ) (e : Element) (y : Content B) → NoLanguage y → IsOutside {B = B} (next_less x c b e y)
    less-outside Solidus b e (Characters r) n = tt
    less-outside Solidus b e Bytes n = tt
    less-outside Solidus b e (InLanguage v) n = absurd n
    less-outside ExclamationMark b e Bytes n = tt
    less-outside c b e y n = loose-outside c b e (content_after x y (codes "<")) (after-none y (codes "<") n)

    end-name-outside : (grows whole : Bool) (c : Class) (b : ℕ) (e : Element) (y : Content B) (letters : List ℕ) → NoLanguage y → IsOutside {B = B} (next_end_name x grows whole c b e y letters)
    end-name-outside true whole (Letter l) b e (Characters r) letters n = tt
    end-name-outside true whole (Letter l) b e Bytes letters n = tt
    end-name-outside true whole (Letter l) b e (InLanguage v) letters n = absurd n
    end-name-outside grows true White b e y letters n = tt
    end-name-outside grows true Solidus b e y letters n = tt
    end-name-outside grows true GreaterThan b e y letters n = tt
    end-name-outside grows whole c b e y letters n = loose-outside c b e (content_after x y (codes "</" ++ letters)) (after-none y (codes "</" ++ letters) n)

    bang-outside : (c : Class) (b : ℕ) (e : Element) (y : Content B) → NoLanguage y → IsOutside {B = B} (next_bang x c b e y)
    bang-outside HyphenMinus b e (Characters r) n = tt
    bang-outside HyphenMinus b e Bytes n = tt
    bang-outside HyphenMinus b e (InLanguage v) n = absurd n
    bang-outside c b e y n = loose-outside c b e (content_after x y (codes "<!")) (after-none y (codes "<!") n)

    pub in-content-outside : (h : Pending) (c : Class) (b : ℕ) (e : Element) (y : Content B) → NoLanguage y → IsOutside {B = B} (next_in_content x h c b e y)
    in-content-outside Nothing c b e y n = loose-outside c b e y n
    in-content-outside PendingLess c b e y n = less-outside c b e y n
    in-content-outside LessAtCut c b e y n = loose-outside c b e (content_after x y (codes "<")) (after-none y (codes "<") n)
    in-content-outside (PendingName letters) c b e y n = end-name-outside (may_be_name_of e (letters ++ b ∷ [])) (is_name_of e letters) c b e y letters n
    in-content-outside PendingBang c b e y n = bang-outside c b e y n
    in-content-outside PendingBangDash c b e y n = loose-outside c b e (content_after x y (codes "<!-")) (after-none y (codes "<!-") n)
    in-content-outside (PendingOpening letters) c b e y n =
        (let bs = codes "<" ++ letters in loose-outside c b e (content_after x y bs) (after-none y bs n))

-- What a relation of the states of a language has to keep: where a value begins, at a byte, and at the end of a node. Related states are scripts or not
-- alike, and an end tag may end both or none.
pub record IsFedAlike (B : Type 0) (x : ValueLanguage B) (Related : B → B → Type 0) : Type 0 where
  pub starts : (k : Kind) → Related (x.start k) (x.start k)
  pub feeds : (v w : B) (b : ℕ) → Related v w → Related (x.feed v b) (x.feed w b)
  pub cuts : (v w : B) → Related v w → Related (x.after_cut v) (x.after_cut w)
  pub scripts : (v w : B) → Related v w → x.is_script v ≡ x.is_script w
  pub may_ends : (v w : B) → Related v w → x.may_end v ≡ x.may_end w

module _ (B : Type 0) (x : ValueLanguage B) (Related : B → B → Type 0) (own : IsFedAlike B x Related) where
  pub fed-beside : (bs : List ℕ) (v w : B) → Related v w → Related (fed x v bs) (fed x w bs)
  fed-beside [] v w a = a
  fed-beside (b ∷ bs) v w a = fed-beside bs (x.feed v b) (x.feed w b) (own.feeds v w b a)

  -- a tag that ends leads to a state that is beside itself, as a style or a script begins in it
  pub tag-beside : (t : TagOf) → StandBeside Related (after_tag x t) (after_tag x t)
  tag-beside tag.End = refl
  tag-beside (tag.Start element.Title) = refl
  tag-beside (tag.Start element.Textarea) = refl
  tag-beside (tag.Start element.DataBlock) = refl
  tag-beside (tag.Start element.Script) = (x.start kind.Script, refl, own.starts kind.Script)
  tag-beside (tag.Start element.Style) = (x.start kind.Style, refl, own.starts kind.Style)
  tag-beside (tag.Start element.Other) = refl

  tag-name-beside : (c : Class) (b : ℕ) (ends : Bool) (name : List ℕ) → StandBeside Related (next_tag_name x c b ends name) (next_tag_name x c b ends name)
  tag-name-beside White b ends name = refl
  tag-name-beside Solidus b ends name = refl
  tag-name-beside GreaterThan b ends name = tag-beside (tag_of_name ends name)
  tag-name-beside _ b ends name = refl

  before-name-beside : (c : Class) (b : ℕ) (t : Tag) → StandBeside Related (next_before_name x c b t) (next_before_name x c b t)
  before-name-beside White b t = refl
  before-name-beside Solidus b t = refl
  before-name-beside GreaterThan b t = tag-beside t.tag
  before-name-beside _ b t = refl

  name-beside : (c : Class) (b : ℕ) (t : Tag) (k : Kind) (name : List ℕ) → StandBeside Related (next_name x c b t k name) (next_name x c b t k name)
  name-beside White b t k name = refl
  name-beside Solidus b t k name = refl
  name-beside GreaterThan b t k name = tag-beside (without_value t k).tag
  name-beside EqualsSign b t k name = refl
  name-beside _ b t k name = refl

  after-name-beside : (c : Class) (b : ℕ) (t : Tag) (k : Kind) → StandBeside Related (next_after_name x c b t k) (next_after_name x c b t k)
  after-name-beside White b t k = refl
  after-name-beside EqualsSign b t k = refl
  after-name-beside c b t k = before-name-beside c b (without_value t k)

  after-value-beside : (q : Quoting) (c : Class) (b : ℕ) (t : Tag) → StandBeside Related (next_after_value x q c b t) (next_after_value x q c b t)
  after-value-beside Unquoted c b t = before-name-beside c b t
  after-value-beside q c b t = refl

  equal-beside : (s z : LexState B) → StandBeside Related s s → z ≡ s → StandBeside Related s z
  equal-beside s z o e = subst (StandBeside Related s) (sym e) o

  -- a content that a language reads
  pub fed-state-beside : (bs : List ℕ) (v w : B) → Related v w → Related (fed_state x v bs) (fed_state x w bs)
  fed-state-beside [] v w a = a
  fed-state-beside (b ∷ bs) v w a = fed-state-beside bs (x.feed v b) (x.feed w b) (own.feeds v w b a)

  loose-content : (c : Class) (b : ℕ) (e : Element) (v w : B) → Related v w → StandBeside Related (next_loose x c b e (InLanguage v)) (next_loose x c b e (InLanguage w))
  loose-content LessThan b e v w a = (w, refl, a)
  loose-content c b e v w a = (x.feed w b, refl, own.feeds v w b a)

  less-content : (c : Class) (b : ℕ) (e : Element) (v w : B) → Related v w → StandBeside Related (next_less x c b e (InLanguage v)) (next_less x c b e (InLanguage w))
  less-content Solidus b e v w a = (w, refl, a)
  less-content c b e v w a = loose-content c b e (fed_state x v (codes "<")) (fed_state x w (codes "<")) (fed-state-beside (codes "<") v w a)

  end-name-content : (grows whole : Bool) (c : Class) (b : ℕ) (e : Element) (v w : B) (letters : List ℕ) → Related v w
      → StandBeside Related (next_end_name x grows whole c b e (InLanguage v) letters) (next_end_name x grows whole c b e (InLanguage w) letters)
  end-name-content true whole (Letter l) b e v w letters a = (w, refl, a)
  end-name-content grows true White b e v w letters a = refl
  end-name-content grows true Solidus b e v w letters a = refl
  end-name-content grows true GreaterThan b e v w letters a = refl
  end-name-content grows whole c b e v w letters a =
      (let bs = codes "</" ++ letters in loose-content c b e (fed_state x v bs) (fed_state x w bs) (fed-state-beside bs v w a))

  bang-content : (c : Class) (b : ℕ) (e : Element) (v w : B) → Related v w → StandBeside Related (next_bang x c b e (InLanguage v)) (next_bang x c b e (InLanguage w))
  bang-content HyphenMinus b e v w a = (w, refl, a)
  bang-content c b e v w a = loose-content c b e (fed_state x v (codes "<!")) (fed_state x w (codes "<!")) (fed-state-beside (codes "<!") v w a)

  content-beside : (h : Pending) (c : Class) (b : ℕ) (e : Element) (v w : B) → Related v w
      → StandBeside Related (next_in_content x h c b e (InLanguage v)) (next_in_content x h c b e (InLanguage w))
  content-beside Nothing c b e v w a = loose-content c b e v w a
  content-beside PendingLess c b e v w a = less-content c b e v w a
  content-beside LessAtCut c b e v w a = loose-content c b e (fed_state x v (codes "<")) (fed_state x w (codes "<")) (fed-state-beside (codes "<") v w a)
  content-beside (PendingName letters) c b e v w a = end-name-content (may_be_name_of e (letters ++ b ∷ [])) (is_name_of e letters) c b e v w letters a
  content-beside PendingBang c b e v w a = bang-content c b e v w a
  content-beside PendingBangDash c b e v w a = loose-content c b e (fed_state x v (codes "<!-")) (fed_state x w (codes "<!-")) (fed-state-beside (codes "<!-") v w a)
  content-beside (PendingOpening letters) c b e v w a =
      (let bs = codes "<" ++ letters in loose-content c b e (fed_state x v bs) (fed_state x w bs) (fed-state-beside bs v w a))

  -- in a script, by the step that both make
  end-tag-beside : (c : Class) → StandBeside Related (behind_end_tag c) (behind_end_tag c)
  end-tag-beside White = refl
  end-tag-beside Solidus = refl
  end-tag-beside _ = refl

  step-beside : (k : ScriptStep) (c : Class) (e : Element) (v w : B) → Related v w → StandBeside Related (next_by_step x k c e v) (next_by_step x k c e w)
  step-beside (Reads bytes h) c e v w a = (fed_state x w bytes, refl, fed-state-beside bytes v w a)
  step-beside (EndsContent letters) c e v w a = end-tag-beside c

  either-beside : (script may : Bool) (h : Pending) (c : Class) (b : ℕ) (e : Element) (v w : B) → Related v w
      → StandBeside Related (if script then next_by_step x (script_step may e h c b) c e v else next_in_content x h c b e (InLanguage v))
      (if script then next_by_step x (script_step may e h c b) c e w else next_in_content x h c b e (InLanguage w))
  either-beside true may h c b e v w a = step-beside (script_step may e h c b) c e v w a
  either-beside false may h c b e v w a = content-beside h c b e v w a

  pub may-end-beside : (m : LexMode) (v w : B) → Related v w → ends_here x m v ≡ ends_here x m w
  may-end-beside Page v w a = refl
  may-end-beside Template v w a = own.may_ends v w a

  language-beside : (m : LexMode) (h : Pending) (c : Class) (b : ℕ) (e : Element) (v w : B) → Related v w
      → StandBeside Related (next_content_in x m h c b e (InLanguage v)) (next_content_in x m h c b e (InLanguage w))
  language-beside m h c b e v w a =
      let from = next_content_in x m h c b e (InLanguage v) in
      let other = next_in_content x h c b e (InLanguage w) in
      subst (λ (i : Bool). StandBeside Related from (if i then next_by_step x (script_step (ends_here x m w) e h c b) c e w else other)) (own.scripts v w a)
      (subst (λ (f : Bool). StandBeside Related from (if x.is_script v then next_by_step x (script_step f e h c b) c e w else other)) (may-end-beside m v w a)
      (either-beside (x.is_script v) (ends_here x m v) h c b e v w a))

  no-language-beside : (h : Pending) (c : Class) (b : ℕ) (e : Element) (y : Content B) → NoLanguage y
      → StandBeside Related (next_in_content x h c b e y) (next_in_content x h c b e y)
  no-language-beside h c b e y n = outside-beside Related (next_in_content x h c b e y) (in-content-outside B x h c b e y n)

  -- bytes of a value
  bytes-beside : (bs : List ℕ) (q : Quoting) (t : Tag) (v w : B) (r : Reference) → Related v w
      → StandBeside Related (AttributeValue q t (with_bytes x (ValueOf v) bs) r) (AttributeValue q t (with_bytes x (ValueOf w) bs) r)
  bytes-beside bs q t v w r a =
      subst (λ (z : Value B). StandBeside Related (AttributeValue q t z r) (AttributeValue q t (with_bytes x (ValueOf w) bs) r)) (sym (own-fed x v bs))
      (fed x w bs, ap (λ (z : Value B). AttributeValue q t z r) (own-fed x w bs), fed-beside bs v w a)

  type-outside : (bs : List ℕ) (q : Quoting) (t : Tag) (k : Kind) (before : List ℕ) (r : Reference) → IsOutside (AttributeValue q t (with_bytes x (Deciding k before) bs) r)
  type-outside bs q t k before r = subst (λ (z : Value B). IsOutside (AttributeValue q t z r)) (sym (own-type x k before bs)) tt

  value-beside : (ends : Bool) (q : Quoting) (c : Class) (b : ℕ) (t : Tag) (v w : B) (r : Reference) → Related v w
      → StandBeside Related (next_value x ends q c b t (ValueOf v) r) (next_value x ends q c b t (ValueOf w) r)
  value-beside true q c b t v w r a =
      let bs = settled true r in
      equal-beside _ _ (after-value-beside q c b (tag_with_value t (with_bytes x (ValueOf v) bs)))
      (ap (next_after_value x q c b) (own-tag x t w bs ∙ sym (own-tag x t v bs)))
  value-beside false q c b t v w r a = bytes-beside (undone_byte true r c b) q t v w (next_reference r c b) a

  type-beside : (ends : Bool) (q : Quoting) (c : Class) (b : ℕ) (t : Tag) (k : Kind) (before : List ℕ) (r : Reference)
      → (let z = next_value x ends q c b t (Deciding k before) r in StandBeside Related z z)
  type-beside true q c b t k before r = after-value-beside q c b (tag_with_value t (with_bytes x (Deciding k before) (settled true r)))
  type-beside false q c b t k before r =
      outside-beside Related (next_value x false q c b t (Deciding k before) r) (type-outside (undone_byte true r c b) q t k before (next_reference r c b))

  begun-beside : (q : Quoting) (t : Tag) (k : Kind) → StandBeside Related (AttributeValue q t (attribute_value_of x k) Closed) (AttributeValue q t (attribute_value_of x k) Closed)
  begun-beside q t kind.ScriptType = refl
  begun-beside q t kind.Plain = (x.start kind.Plain, refl, own.starts kind.Plain)
  begun-beside q t kind.NoHole = (x.start kind.NoHole, refl, own.starts kind.NoHole)
  begun-beside q t kind.Url = (x.start kind.Url, refl, own.starts kind.Url)
  begun-beside q t kind.Script = (x.start kind.Script, refl, own.starts kind.Script)
  begun-beside q t kind.Style = (x.start kind.Style, refl, own.starts kind.Style)

  first-beside : (c : Class) (b : ℕ) (t : Tag) (k : Kind) → (let z = next_value x false Unquoted c b t (attribute_value_of x k) Closed in StandBeside Related z z)
  first-beside c b t kind.ScriptType = type-beside false Unquoted c b t kind.ScriptType [] Closed
  first-beside c b t kind.Plain = value-beside false Unquoted c b t _ _ Closed (own.starts kind.Plain)
  first-beside c b t kind.NoHole = value-beside false Unquoted c b t _ _ Closed (own.starts kind.NoHole)
  first-beside c b t kind.Url = value-beside false Unquoted c b t _ _ Closed (own.starts kind.Url)
  first-beside c b t kind.Script = value-beside false Unquoted c b t _ _ Closed (own.starts kind.Script)
  first-beside c b t kind.Style = value-beside false Unquoted c b t _ _ Closed (own.starts kind.Style)

  before-value-beside : (c : Class) (b : ℕ) (t : Tag) (k : Kind) → StandBeside Related (next_before_value x c b t k) (next_before_value x c b t k)
  before-value-beside White b t k = refl
  before-value-beside QuotationMark b t k = begun-beside _ t k
  before-value-beside Apostrophe b t k = begun-beside _ t k
  before-value-beside GreaterThan b t k = tag-beside (without_value t k).tag
  before-value-beside c b t k = first-beside c b t k

  -- a byte, from one state
  self-beside : (m : LexMode) (s : LexState B) (c : Class) (b : ℕ) → IsOutside s → StandBeside Related (next x m s c b) (next x m s c b)
  self-beside m (Text r) c b o = outside-beside Related _ (text-outside B c b r)
  self-beside m (TagOpen r) c b o = outside-beside Related _ (tag-open-outside B m c b r)
  self-beside m (EndTagOpen r) c b o = outside-beside Related _ (end-tag-open-outside B m c b)
  self-beside m (DeclarationOpen r pending) c b o = outside-beside Related _ (declaration-outside B (declared_by (pending ++ b ∷ [])) m c b r pending)
  self-beside m (InComment s) c b o = outside-beside Related _ (comment-outside B c s)
  self-beside m BogusComment c b o = outside-beside Related _ (in-bogus-outside B c)
  self-beside m InDoctype c b o = outside-beside Related _ (doctype-outside B c)
  self-beside m (TagName ends name) c b o = tag-name-beside c b ends name
  self-beside m (WholeTagName t) c b o = before-name-beside c b t
  self-beside m (BeforeAttributeName t) c b o = before-name-beside c b t
  self-beside m (AttributeName t name) c b o = name-beside c b t (kind_of (element_on t.tag) name) name
  self-beside m (WholeAttributeName t k) c b o = after-name-beside c b t k
  self-beside m (AfterAttributeName t k) c b o = after-name-beside c b t k
  self-beside m (BeforeAttributeValue t k) c b o = before-value-beside c b t k
  self-beside m (AttributeValue q t (Deciding k before) r) c b o = type-beside (ends_value q c) q c b t k before r
  self-beside m (AttributeValue q t (ValueOf v) r) c b o = absurd o
  self-beside m (AfterAttributeValue t) c b o = before-name-beside c b t
  self-beside m (SelfClosingStartTag t) c b o = before-name-beside c b t
  self-beside m (InContent e (Characters r) h) c b o = no-language-beside h c b e (Characters r) tt
  self-beside m (InContent e Bytes h) c b o = no-language-beside h c b e Bytes tt
  self-beside m (InContent e (InLanguage v) h) c b o = absurd o

  -- a byte, from one beside the other
  pub next-beside : (m : LexMode) (s z : LexState B) (c : Class) (b : ℕ) → StandBeside Related s z → StandBeside Related (next x m s c b) (next x m z c b)
  next-beside m (AttributeValue q t (ValueOf v) r) z c b a =
      subst (λ (y : LexState B). StandBeside Related (next x m (AttributeValue q t (ValueOf v) r) c b) (next x m y c b)) (sym a.1)
      (value-beside (ends_value q c) q c b t v a.0 r a.2)
  next-beside m (InContent e (InLanguage v) h) z c b a =
      subst (λ (y : LexState B). StandBeside Related (next x m (InContent e (InLanguage v) h) c b) (next x m y c b)) (sym a.1) (language-beside m h c b e v a.0 a.2)
  next-beside m s z c b a = subst (λ (y : LexState B). StandBeside Related (next x m s c b) (next x m y c b)) (sym a) (self-beside m s c b tt)

  -- the end of a node
  cut-value-beside : (bs : List ℕ) (q : Quoting) (t : Tag) (v w : B) → Related v w
      → StandBeside Related (AttributeValue q t (cut_value x (with_bytes x (ValueOf v) bs)) Closed) (AttributeValue q t (cut_value x (with_bytes x (ValueOf w) bs)) Closed)
  cut-value-beside bs q t v w a =
      subst (λ (z : Value B). StandBeside Related (AttributeValue q t (cut_value x z) Closed) (AttributeValue q t (cut_value x (with_bytes x (ValueOf w) bs)) Closed)) (sym (own-fed x v bs))
      (x.after_cut (fed x w bs), ap (λ (z : Value B). AttributeValue q t (cut_value x z) Closed) (own-fed x w bs), own.cuts (fed x v bs) (fed x w bs) (fed-beside bs v w a))

  cut-type-outside : (bs : List ℕ) (q : Quoting) (t : Tag) (k : Kind) (before : List ℕ) → IsOutside (AttributeValue q t (cut_value x (with_bytes x (Deciding k before) bs)) Closed)
  cut-type-outside bs q t k before = subst (λ (z : Value B). IsOutside (AttributeValue q t (cut_value x z) Closed)) (sym (own-type x k before bs)) tt

  self-cut-beside : (s : LexState B) → IsOutside s → StandBeside Related (at_cut x s) (at_cut x s)
  self-cut-beside (AttributeValue q t (ValueOf v) r) o = absurd o
  self-cut-beside (InContent e (InLanguage v) h) o = absurd o
  self-cut-beside (InContent e (Characters r) h) o = refl
  self-cut-beside (InContent e Bytes h) o = refl
  self-cut-beside (AttributeValue q t (Deciding k before) r) o = outside-beside Related (at_cut x (AttributeValue q t (Deciding k before) r)) (cut-type-outside (as_it_stands r) q t k before)
  self-cut-beside _ o = refl

  pub cut-beside : (s z : LexState B) → StandBeside Related s z → StandBeside Related (at_cut x s) (at_cut x z)
  cut-beside (AttributeValue q t (ValueOf v) r) z a =
      subst (λ (y : LexState B). StandBeside Related (at_cut x (AttributeValue q t (ValueOf v) r)) (at_cut x y)) (sym a.1) (cut-value-beside (as_it_stands r) q t v a.0 a.2)
  cut-beside (InContent e (InLanguage v) h) z a =
      subst (λ (y : LexState B). StandBeside Related (at_cut x (InContent e (InLanguage v) h)) (at_cut x y)) (sym a.1)
      (x.after_cut (fed_state x a.0 (pending_bytes h)), refl, own.cuts (fed_state x v (pending_bytes h)) (fed_state x a.0 (pending_bytes h)) (fed-state-beside (pending_bytes h) v a.0 a.2))
  cut-beside s z a = subst (λ (y : LexState B). StandBeside Related (at_cut x s) (at_cut x y)) (sym a) (self-cut-beside s tt)
