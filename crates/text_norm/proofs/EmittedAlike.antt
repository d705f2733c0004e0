-- Two emitted lists in a relation that each event of HTML keeps stay in it while the same bytes are read from states that are the same, but for
-- those of a value's language, which brings what it emits.
use Rattle.std.proofs.Common.{ℕ, Bool, true, false, codes, List, [], ◌∷◌, ◌++◌, subst, sym, if◌then◌else◌}
use Rattle.std.specs.Char.{to_ascii_lowercase}
use Rattle.place_core.specs.page.Classes.{Class, White, ExclamationMark, QuotationMark, Apostrophe, HyphenMinus, Solidus, LessThan, EqualsSign, GreaterThan, QuestionMark, Letter, class_of}
use Rattle.place_core.specs.page.Comments.{Declaration, OpensComment, OpensDoctype, Undecided, OpensNothing, declared_by, emits_doctype}
use Rattle.place_core.specs.page.Contents.{content_after, content_bytes, content_ends, pending_bytes, emits_content_cut, is_name_of, may_be_name_of, emits_bang, emits_bang_dash, emits_closed, emits_content, emits_end_name, emits_in_content, emits_less, emits_loose, ScriptStep, Reads, EndsContent, script_step, ends_here, emits_behind_end_tag, emits_by_step, emits_content_in, emits_escape}
use Rattle.css_lexer.specs.Events.{InsideUrl}
use Rattle.place_core.specs.page.Events.{LexEvent, InsideStyle, AttributeBegins, AttributeNameByte, AttributeNameEnds, BlockByte, Comment, DoctypeBegins, DoctypeByte, DoctypeEnds, EndTagBegins, Escape, Mark, StartTagBegins, TagEnds, TagNameByte, TextByte, ValueByte, ValueScheme, block_bytes, doctype_bytes, tag_name_bytes, event_text_bytes}
use Rattle.place_core.specs.page.Html.{byte_over, ends_value, read_over, emits, emits_after_name, emits_after_value, emits_before_name, emits_before_value, emits_bogus, emits_comment, emits_declaration, emits_end_tag_open, emits_name, emits_self_closing, emits_tag_name, emits_tag_open, emits_text, emits_value, emits_whole_name}
use Rattle.place_core.specs.page.Paths.{read_node, emits_cut}
use Rattle.place_core.specs.page.References.{Reference, Closed, as_it_stands, settled, undone_byte}
use Rattle.place_core.specs.page.States.{AfterAttributeName, AfterAttributeValue, AttributeName, AttributeValue, BeforeAttributeName, BeforeAttributeValue, BogusComment, Bytes, Characters, Content, InLanguage, DeclarationOpen, EndTagOpen, Pending, PendingBang, PendingBangDash, PendingLess, LessAtCut, PendingName, InComment, InContent, InDoctype, Nothing, Page, LexMode, SelfClosingStartTag, LexState, TagName, TagOpen, Template, Text, WholeAttributeName, WholeTagName, Config, PendingOpening}
use Rattle.place_core.specs.page.Tags.{ValueLanguage, Quoting, Unquoted, Deciding, ValueOf, element_on, emitted_bytes, emitted_end, emits_fed, fed_state, attribute_value_of, with_bytes}
use Rattle.place_core.specs.page.Words.{kind_of}
use Rattle.place_core.specs.declared.element.Element.{Element}
use Rattle.place_core.specs.declared.kind.Kind.{Kind}
use Rattle.place_core.specs.declared.kind.Kind.TheVariants as kind
use Rattle.url_lexer.specs.Events.{UrlEnds}
use Rattle.text_norm.proofs.StatesBeside.{IsFedAlike, IsOutside, NoLanguage, StandBeside, cut-beside, fed-state-beside, may-end-beside, next-beside}

-- an event that HTML emits by itself: neither a mark nor what the end of a URL tells
abbrev pub IsOwn : LexEvent → Type 0
IsOwn Mark = ⊥
IsOwn (ValueScheme s) = ⊥
IsOwn (InsideStyle (InsideUrl (UrlEnds s))) = ⊥
IsOwn _ = Unit {0}

-- what a language brings: what it emits of a byte, and at a value's end, keeps the relation
pub record EmitsAlike (B : Type 0) (x : ValueLanguage B) (Related : B → B → Type 0) (F : List LexEvent → List LexEvent → Type 0) : Type 0 where
  pub fed : IsFedAlike B x Related
  pub emits : (v w : B) (b : ℕ) (t u : List LexEvent) → Related v w → F t u → F (x.emits v b t) (x.emits w b u)
  pub ends : (v w : B) (t u : List LexEvent) → Related v w → F t u → F (x.ends v t) (x.ends w u)

module _ (F : List LexEvent → List LexEvent → Type 0) (keep : (e : LexEvent) (t u : List LexEvent) → IsOwn e → F t u → F (e ∷ t) (e ∷ u)) where
  texts : (bs : List ℕ) (t u : List LexEvent) → F t u → F (event_text_bytes bs t) (event_text_bytes bs u)
  texts [] t u f = f
  texts (b ∷ bs) t u f = texts bs (TextByte b ∷ t) (TextByte b ∷ u) (keep (TextByte b) t u tt f)

  blocks : (bs : List ℕ) (t u : List LexEvent) → F t u → F (block_bytes bs t) (block_bytes bs u)
  blocks [] t u f = f
  blocks (b ∷ bs) t u f = blocks bs (BlockByte b ∷ t) (BlockByte b ∷ u) (keep (BlockByte b) t u tt f)

  doctypes : (bs : List ℕ) (t u : List LexEvent) → F t u → F (doctype_bytes bs t) (doctype_bytes bs u)
  doctypes [] t u f = f
  doctypes (b ∷ bs) t u f = doctypes bs (DoctypeByte b ∷ t) (DoctypeByte b ∷ u) (keep (DoctypeByte b) t u tt f)

  pub tag-names : (bs : List ℕ) (t u : List LexEvent) → F t u → F (tag_name_bytes bs t) (tag_name_bytes bs u)
  tag-names [] t u f = f
  tag-names (b ∷ bs) t u f =
      let e = TagNameByte (to_ascii_lowercase b) in
      tag-names bs (e ∷ t) (e ∷ u) (keep e t u tt f)

  pub in-text : (c : Class) (b : ℕ) (r : Reference) (t u : List LexEvent) → F t u → F (emits_text c b r t) (emits_text c b r u)
  in-text LessThan b r t u f = f
  in-text c b r t u f = texts (undone_byte false r c b) t u f

  pub in-bogus : (m : LexMode) (pending : List ℕ) (c : Class) (b : ℕ) (t u : List LexEvent) → F t u
      → F (emits_bogus m pending c b t) (emits_bogus m pending c b u)
  in-bogus Page pending c b t u f = keep Comment t u tt f
  in-bogus Template pending c b t u f = in-text c b Closed (event_text_bytes pending t) (event_text_bytes pending u) (texts pending t u f)

  -- a byte of a name behind what begins one
  named : (e g : LexEvent) (t u : List LexEvent) → IsOwn e → IsOwn g → F t u → F (e ∷ g ∷ t) (e ∷ g ∷ u)
  named e g t u p q f = keep e (g ∷ t) (g ∷ u) p (keep g t u q f)

  pub in-tag-open : (m : LexMode) (c : Class) (b : ℕ) (r : Reference) (t u : List LexEvent) → F t u
      → F (emits_tag_open m c b r t) (emits_tag_open m c b r u)
  in-tag-open m (Letter l) b r t u f = named (TagNameByte (to_ascii_lowercase b)) StartTagBegins _ _ tt tt (texts (settled false r) t u f)
  in-tag-open m Solidus b r t u f = f
  in-tag-open m ExclamationMark b r t u f = f
  in-tag-open m QuestionMark b r t u f = in-bogus m (codes "<") QuestionMark b _ _ (texts (settled false r) t u f)
  in-tag-open m c b r t u f = in-text c b Closed _ _ (texts (codes "<") _ _ (texts (settled false r) t u f))

  pub in-end-tag-open : (m : LexMode) (c : Class) (b : ℕ) (r : Reference) (t u : List LexEvent) → F t u
      → F (emits_end_tag_open m c b r t) (emits_end_tag_open m c b r u)
  in-end-tag-open m (Letter l) b r t u f = named (TagNameByte (to_ascii_lowercase b)) EndTagBegins _ _ tt tt (texts (settled false r) t u f)
  in-end-tag-open m c b r t u f = in-bogus m (codes "</") c b _ _ (texts (settled false r) t u f)

  in-comment : (m : LexMode) (r : Reference) (t u : List LexEvent) → F t u → F (emits_comment m r t) (emits_comment m r u)
  in-comment Page r t u f = keep Comment _ _ tt (texts (settled false r) t u f)
  in-comment Template r t u f = texts (as_it_stands r) t u f

  pub in-declaration : (o : Declaration) (m : LexMode) (c : Class) (b : ℕ) (r : Reference) (pending : List ℕ) (t u : List LexEvent) → F t u
      → F (emits_declaration o m c b r pending t) (emits_declaration o m c b r pending u)
  in-declaration OpensComment m c b r pending t u f = in-comment m r t u f
  in-declaration OpensDoctype m c b r pending t u f =
      doctypes (pending ++ b ∷ []) _ _ (keep DoctypeBegins _ _ tt (texts (settled false r) t u f))
  in-declaration Undecided m c b r pending t u f = f
  in-declaration OpensNothing m c b r pending t u f = in-bogus m (codes "<!" ++ pending) c b _ _ (texts (settled false r) t u f)

  pub in-doctype : (c : Class) (b : ℕ) (t u : List LexEvent) → F t u → F (emits_doctype c b t) (emits_doctype c b u)
  in-doctype GreaterThan b t u f = keep DoctypeEnds t u tt f
  in-doctype c b t u f = keep (DoctypeByte b) t u tt f

  pub in-tag-name : (c : Class) (b : ℕ) (t u : List LexEvent) → F t u → F (emits_tag_name c b t) (emits_tag_name c b u)
  in-tag-name White b t u f = f
  in-tag-name Solidus b t u f = f
  in-tag-name GreaterThan b t u f = keep (TagEnds false) t u tt f
  in-tag-name c b t u f = keep (TagNameByte (to_ascii_lowercase b)) t u tt f

  pub before-name : (c : Class) (b : ℕ) (t u : List LexEvent) → F t u → F (emits_before_name c b t) (emits_before_name c b u)
  before-name White b t u f = f
  before-name Solidus b t u f = f
  before-name GreaterThan b t u f = keep (TagEnds false) t u tt f
  before-name c b t u f = named (AttributeNameByte (to_ascii_lowercase b)) AttributeBegins t u tt tt f

  pub in-name : (c : Class) (b : ℕ) (k : Kind) (t u : List LexEvent) → F t u → F (emits_name c b k t) (emits_name c b k u)
  in-name White b k t u f = keep (AttributeNameEnds k) t u tt f
  in-name Solidus b k t u f = keep (AttributeNameEnds k) t u tt f
  in-name GreaterThan b k t u f = named (TagEnds false) (AttributeNameEnds k) t u tt tt f
  in-name EqualsSign b k t u f = keep (AttributeNameEnds k) t u tt f
  in-name c b k t u f = keep (AttributeNameByte (to_ascii_lowercase b)) t u tt f

  pub after-name : (c : Class) (b : ℕ) (t u : List LexEvent) → F t u → F (emits_after_name c b t) (emits_after_name c b u)
  after-name EqualsSign b t u f = f
  after-name c b t u f = before-name c b t u f

  pub self-closing : (c : Class) (b : ℕ) (t u : List LexEvent) → F t u → F (emits_self_closing c b t) (emits_self_closing c b u)
  self-closing GreaterThan b t u f = keep (TagEnds true) t u tt f
  self-closing c b t u f = before-name c b t u f

  pub whole-name : (c : Class) (b : ℕ) (k : Kind) (t u : List LexEvent) → F t u → F (emits_whole_name c b k t) (emits_whole_name c b k u)
  whole-name EqualsSign b k t u f = keep (AttributeNameEnds k) t u tt f
  whole-name c b k t u f = before-name c b _ _ (keep (AttributeNameEnds k) t u tt f)

  pub after-value : (q : Quoting) (c : Class) (b : ℕ) (t u : List LexEvent) → F t u → F (emits_after_value q c b t) (emits_after_value q c b u)
  after-value Unquoted c b t u f = before-name c b t u f
  after-value q c b t u f = f

  -- a content that no language reads
  module _ (B : Type 0) (x : ValueLanguage B) where
    in-contents : (y : Content B) (bs : List ℕ) (t u : List LexEvent) → NoLanguage y → F t u → F (content_bytes x y bs t) (content_bytes x y bs u)
    in-contents (Characters r) bs t u n f = texts bs t u f
    in-contents Bytes bs t u n f = blocks bs t u f
    in-contents (InLanguage v) bs t u n f = absurd n

    in-closed : (y : Content B) (t u : List LexEvent) → NoLanguage y → F t u → F (emits_closed y t) (emits_closed y u)
    in-closed (Characters r) t u n f = texts (settled false r) t u f
    in-closed Bytes t u n f = f
    in-closed (InLanguage v) t u n f = absurd n

    in-byte : (y : Content B) (c : Class) (b : ℕ) (t u : List LexEvent) → NoLanguage y → F t u → F (emits_content x y c b t) (emits_content x y c b u)
    in-byte (Characters r) c b t u n f = texts (undone_byte false r c b) t u f
    in-byte Bytes c b t u n f = blocks (b ∷ []) t u f
    in-byte (InLanguage v) c b t u n f = absurd n

    in-ends : (y : Content B) (t u : List LexEvent) → NoLanguage y → F t u → F (content_ends x y t) (content_ends x y u)
    in-ends (Characters r) t u n f = f
    in-ends Bytes t u n f = f
    in-ends (InLanguage v) t u n f = absurd n

    after-none : (y : Content B) (bytes : List ℕ) → NoLanguage y → NoLanguage (content_after x y bytes)
    after-none (Characters r) bytes n = tt
    after-none Bytes bytes n = tt
    after-none (InLanguage v) bytes n = absurd n

    loose : (c : Class) (b : ℕ) (y : Content B) (t u : List LexEvent) → NoLanguage y → F t u → F (emits_loose x c b y t) (emits_loose x c b y u)
    loose LessThan b y t u n f = in-closed y t u n f
    loose c b y t u n f = in-byte y c b t u n f

    behind : (c : Class) (b : ℕ) (y : Content B) (bs : List ℕ) (t u : List LexEvent) → NoLanguage y → F t u
        → F (emits_loose x c b (content_after x y bs) (content_bytes x y bs t)) (emits_loose x c b (content_after x y bs) (content_bytes x y bs u))
    behind c b y bs t u n f = loose c b (content_after x y bs) _ _ (after-none y bs n) (in-contents y bs t u n f)

    less : (c : Class) (b : ℕ) (y : Content B) (t u : List LexEvent) → NoLanguage y → F t u → F (emits_less x c b y t) (emits_less x c b y u)
    less Solidus b y t u n f = f
    less ExclamationMark b Bytes t u n f = f
    less c b y t u n f = behind c b y (codes "<") t u n f

    end-name : (grows whole : Bool) (c : Class) (b : ℕ) (y : Content B) (letters : List ℕ) (t u : List LexEvent) → NoLanguage y → F t u
        → F (emits_end_name x grows whole c b y letters t) (emits_end_name x grows whole c b y letters u)
    end-name true whole (Letter l) b y letters t u n f = f
    end-name grows true White b y letters t u n f = tag-names letters _ _ (keep EndTagBegins _ _ tt (in-ends y t u n f))
    end-name grows true Solidus b y letters t u n f = tag-names letters _ _ (keep EndTagBegins _ _ tt (in-ends y t u n f))
    end-name grows true GreaterThan b y letters t u n f = keep (TagEnds false) _ _ tt (tag-names letters _ _ (keep EndTagBegins _ _ tt (in-ends y t u n f)))
    end-name grows whole c b y letters t u n f = behind c b y (codes "</" ++ letters) t u n f

    bang : (c : Class) (b : ℕ) (y : Content B) (t u : List LexEvent) → NoLanguage y → F t u → F (emits_bang x c b y t) (emits_bang x c b y u)
    bang HyphenMinus b y t u n f = f
    bang c b y t u n f = behind c b y (codes "<!") t u n f

    bang-dash : (c : Class) (b : ℕ) (y : Content B) (t u : List LexEvent) → NoLanguage y → F t u → F (emits_bang_dash x c b y t) (emits_bang_dash x c b y u)
    bang-dash HyphenMinus b y t u n f = keep Escape _ _ tt (in-contents y (codes "<!--") t u n f)
    bang-dash c b y t u n f = behind c b y (codes "<!-") t u n f

    pub in-content : (h : Pending) (c : Class) (b : ℕ) (e : Element) (y : Content B) (t u : List LexEvent) → NoLanguage y → F t u
        → F (emits_in_content x h c b e y t) (emits_in_content x h c b e y u)
    in-content Nothing c b e y t u n f = loose c b y t u n f
    in-content PendingLess c b e y t u n f = less c b y t u n f
    in-content LessAtCut c b e y t u n f = behind c b y (codes "<") t u n f
    in-content (PendingName letters) c b e y t u n f =
        end-name (may_be_name_of e (letters ++ b ∷ [])) (is_name_of e letters) c b y letters t u n f
    in-content PendingBang c b e y t u n f = bang c b y t u n f
    in-content PendingBangDash c b e y t u n f = bang-dash c b y t u n f
    in-content (PendingOpening letters) c b e y t u n f = behind c b y (codes "<" ++ letters) t u n f

    cut-content : (y : Content B) (h : Pending) (t u : List LexEvent) → NoLanguage y → F t u → F (emits_content_cut x y h t) (emits_content_cut x y h u)
    cut-content (Characters r) h t u n f = texts (pending_bytes h) _ _ (texts (as_it_stands r) t u f)
    cut-content Bytes PendingLess t u n f = f
    cut-content Bytes LessAtCut t u n f = f
    cut-content Bytes h t u n f = blocks (pending_bytes h) t u f
    cut-content (InLanguage v) h t u n f = absurd n

  -- the type of a script
  module _ (B : Type 0) (x : ValueLanguage B) where
    pub type-bytes : (bs : List ℕ) (k : Kind) (before : List ℕ) (t u : List LexEvent) → F t u → F (emitted_bytes x (Deciding k before) bs t) (emitted_bytes x (Deciding k before) bs u)
    type-bytes [] k before t u f = f
    type-bytes (b ∷ bs) k before t u f = type-bytes bs k (before ++ b ∷ []) (ValueByte b ∷ t) (ValueByte b ∷ u) (keep (ValueByte b) t u tt f)

    pub type-end : (bs : List ℕ) (k : Kind) (before : List ℕ) (t u : List LexEvent) → F t u
        → F (emitted_end x (with_bytes x (Deciding k before) bs) t) (emitted_end x (with_bytes x (Deciding k before) bs) u)
    type-end [] k before t u f = f
    type-end (b ∷ bs) k before t u f = type-end bs k (before ++ b ∷ []) t u f

    pub in-type : (ends : Bool) (q : Quoting) (c : Class) (b : ℕ) (k : Kind) (before : List ℕ) (r : Reference) (t u : List LexEvent) → F t u
        → F (emits_value x ends q c b (Deciding k before) r t) (emits_value x ends q c b (Deciding k before) r u)
    in-type true q c b k before r t u f =
        let bs = settled true r in
        after-value q c b _ _ (type-end bs k before _ _ (type-bytes bs k before t u f))
    in-type false q c b k before r t u f = type-bytes (undone_byte true r c b) k before t u f

  module _ (B : Type 0) (x : ValueLanguage B) (Related : B → B → Type 0) (own : EmitsAlike B x Related F) where
    -- the bytes of a value, and its end
    pub emitted-bytes : (bs : List ℕ) (v w : B) (t u : List LexEvent) → Related v w → F t u → F (emitted_bytes x (ValueOf v) bs t) (emitted_bytes x (ValueOf w) bs u)
    emitted-bytes [] v w t u a f = f
    emitted-bytes (b ∷ bs) v w t u a f = emitted-bytes bs (x.feed v b) (x.feed w b) (x.emits v b t) (x.emits w b u) (own.fed.feeds v w b a) (own.emits v w b t u a f)

    emitted-end : (bs : List ℕ) (v w : B) (t u : List LexEvent) → Related v w → F t u
        → F (emitted_end x (with_bytes x (ValueOf v) bs) t) (emitted_end x (with_bytes x (ValueOf w) bs) u)
    emitted-end [] v w t u a f = own.ends v w t u a f
    emitted-end (b ∷ bs) v w t u a f = emitted-end bs (x.feed v b) (x.feed w b) t u (own.fed.feeds v w b a) f

    in-value : (ends : Bool) (q : Quoting) (c : Class) (b : ℕ) (v w : B) (r : Reference) (t u : List LexEvent) → Related v w → F t u
        → F (emits_value x ends q c b (ValueOf v) r t) (emits_value x ends q c b (ValueOf w) r u)
    in-value true q c b v w r t u a f =
        let bs = settled true r in
        after-value q c b _ _ (emitted-end bs v w _ _ a (emitted-bytes bs v w t u a f))
    in-value false q c b v w r t u a f = emitted-bytes (undone_byte true r c b) v w t u a f

    -- a content that the language reads
    fed-emits : (bs : List ℕ) (v w : B) (t u : List LexEvent) → Related v w → F t u → F (emits_fed x v bs t) (emits_fed x w bs u)
    fed-emits [] v w t u a f = f
    fed-emits (b ∷ bs) v w t u a f = fed-emits bs (x.feed v b) (x.feed w b) (x.emits v b t) (x.emits w b u) (own.fed.feeds v w b a) (own.emits v w b t u a f)

    loose-emits : (c : Class) (b : ℕ) (v w : B) (t u : List LexEvent) → Related v w → F t u → F (emits_loose x c b (InLanguage v) t) (emits_loose x c b (InLanguage w) u)
    loose-emits LessThan b v w t u a f = f
    loose-emits c b v w t u a f = own.emits v w b t u a f

    behind-emits : (c : Class) (b : ℕ) (bs : List ℕ) (v w : B) (t u : List LexEvent) → Related v w → F t u
        → F (emits_loose x c b (InLanguage (fed_state x v bs)) (emits_fed x v bs t)) (emits_loose x c b (InLanguage (fed_state x w bs)) (emits_fed x w bs u))
    behind-emits c b bs v w t u a f =
        loose-emits c b (fed_state x v bs) (fed_state x w bs) _ _ (fed-state-beside B x Related own.fed bs v w a) (fed-emits bs v w t u a f)

    less-emits : (c : Class) (b : ℕ) (v w : B) (t u : List LexEvent) → Related v w → F t u → F (emits_less x c b (InLanguage v) t) (emits_less x c b (InLanguage w) u)
    less-emits Solidus b v w t u a f = f
    less-emits c b v w t u a f = behind-emits c b (codes "<") v w t u a f

    name-emits : (grows whole : Bool) (c : Class) (b : ℕ) (letters : List ℕ) (v w : B) (t u : List LexEvent) → Related v w → F t u
        → F (emits_end_name x grows whole c b (InLanguage v) letters t) (emits_end_name x grows whole c b (InLanguage w) letters u)
    name-emits true whole (Letter l) b letters v w t u a f = f
    name-emits grows true White b letters v w t u a f = tag-names letters _ _ (keep EndTagBegins _ _ tt (own.ends v w t u a f))
    name-emits grows true Solidus b letters v w t u a f = tag-names letters _ _ (keep EndTagBegins _ _ tt (own.ends v w t u a f))
    name-emits grows true GreaterThan b letters v w t u a f = keep (TagEnds false) _ _ tt (tag-names letters _ _ (keep EndTagBegins _ _ tt (own.ends v w t u a f)))
    name-emits grows whole c b letters v w t u a f = behind-emits c b (codes "</" ++ letters) v w t u a f

    bang-emits : (c : Class) (b : ℕ) (v w : B) (t u : List LexEvent) → Related v w → F t u → F (emits_bang x c b (InLanguage v) t) (emits_bang x c b (InLanguage w) u)
    bang-emits HyphenMinus b v w t u a f = f
    bang-emits c b v w t u a f = behind-emits c b (codes "<!") v w t u a f

    dash-emits : (c : Class) (b : ℕ) (v w : B) (t u : List LexEvent) → Related v w → F t u → F (emits_bang_dash x c b (InLanguage v) t) (emits_bang_dash x c b (InLanguage w) u)
    dash-emits HyphenMinus b v w t u a f = keep Escape _ _ tt (fed-emits (codes "<!--") v w t u a f)
    dash-emits c b v w t u a f = behind-emits c b (codes "<!-") v w t u a f

    pub language-emits : (h : Pending) (c : Class) (b : ℕ) (e : Element) (v w : B) (t u : List LexEvent) → Related v w → F t u
        → F (emits_in_content x h c b e (InLanguage v) t) (emits_in_content x h c b e (InLanguage w) u)
    language-emits Nothing c b e v w t u a f = loose-emits c b v w t u a f
    language-emits PendingLess c b e v w t u a f = less-emits c b v w t u a f
    language-emits LessAtCut c b e v w t u a f = behind-emits c b (codes "<") v w t u a f
    language-emits (PendingName letters) c b e v w t u a f = name-emits (may_be_name_of e (letters ++ b ∷ [])) (is_name_of e letters) c b letters v w t u a f
    language-emits PendingBang c b e v w t u a f = bang-emits c b v w t u a f
    language-emits PendingBangDash c b e v w t u a f = dash-emits c b v w t u a f
    language-emits (PendingOpening letters) c b e v w t u a f = behind-emits c b (codes "<" ++ letters) v w t u a f

    -- in a script, by the step that both make
    behind-tag-emits : (c : Class) (t u : List LexEvent) → F t u → F (emits_behind_end_tag c t) (emits_behind_end_tag c u)
    behind-tag-emits GreaterThan t u f = keep (TagEnds false) t u tt f
    behind-tag-emits _ t u f = f

    step-emits : (k : ScriptStep) (c : Class) (v w : B) (t u : List LexEvent) → Related v w → F t u → F (emits_by_step x k c v t) (emits_by_step x k c w u)
    step-emits (Reads bytes h) c v w t u a f = fed-emits bytes v w t u a f
    step-emits (EndsContent letters) c v w t u a f = behind-tag-emits c _ _ (tag-names letters _ _ (keep EndTagBegins _ _ tt (own.ends v w t u a f)))

    escape-emits : (m : LexMode) (h : Pending) (c : Class) (t u : List LexEvent) → F t u → F (emits_escape m h c t) (emits_escape m h c u)
    escape-emits Page PendingBangDash HyphenMinus t u f = keep Escape t u tt f
    escape-emits m h c t u f = f

    either-emits : (script may : Bool) (m : LexMode) (h : Pending) (c : Class) (b : ℕ) (e : Element) (v w : B) (t u : List LexEvent) → Related v w → F t u
        → F (if script then emits_escape m h c (emits_by_step x (script_step may e h c b) c v t) else emits_in_content x h c b e (InLanguage v) t)
        (if script then emits_escape m h c (emits_by_step x (script_step may e h c b) c w u) else emits_in_content x h c b e (InLanguage w) u)
    either-emits true may m h c b e v w t u a f = escape-emits m h c _ _ (step-emits (script_step may e h c b) c v w t u a f)
    either-emits false may m h c b e v w t u a f = language-emits h c b e v w t u a f

    pub content-emits : (m : LexMode) (h : Pending) (c : Class) (b : ℕ) (e : Element) (v w : B) (t u : List LexEvent) → Related v w → F t u
        → F (emits_content_in x m h c b e (InLanguage v) t) (emits_content_in x m h c b e (InLanguage w) u)
    content-emits m h c b e v w t u a f =
        let from = emits_content_in x m h c b e (InLanguage v) t in
        let other = emits_in_content x h c b e (InLanguage w) u in
        subst (λ (i : Bool). F from (if i then emits_escape m h c (emits_by_step x (script_step (ends_here x m w) e h c b) c w u) else other)) (own.fed.scripts v w a)
        (subst (λ (g : Bool). F from (if x.is_script v then emits_escape m h c (emits_by_step x (script_step g e h c b) c w u) else other))
        (may-end-beside B x Related own.fed m v w a)
        (either-emits (x.is_script v) (ends_here x m v) m h c b e v w t u a f))

    -- a value that begins
    begun-end : (k : Kind) (t u : List LexEvent) → F t u → F (emitted_end x (attribute_value_of x k) t) (emitted_end x (attribute_value_of x k) u)
    begun-end kind.ScriptType t u f = f
    begun-end kind.Plain t u f = own.ends _ _ t u (own.fed.starts kind.Plain) f
    begun-end kind.NoHole t u f = own.ends _ _ t u (own.fed.starts kind.NoHole) f
    begun-end kind.Url t u f = own.ends _ _ t u (own.fed.starts kind.Url) f
    begun-end kind.Script t u f = own.ends _ _ t u (own.fed.starts kind.Script) f
    begun-end kind.Style t u f = own.ends _ _ t u (own.fed.starts kind.Style) f

    first-byte : (c : Class) (b : ℕ) (k : Kind) (t u : List LexEvent) → F t u
        → F (emits_value x false Unquoted c b (attribute_value_of x k) Closed t) (emits_value x false Unquoted c b (attribute_value_of x k) Closed u)
    first-byte c b kind.ScriptType t u f = in-type B x false Unquoted c b kind.ScriptType [] Closed t u f
    first-byte c b kind.Plain t u f = in-value false Unquoted c b _ _ Closed t u (own.fed.starts kind.Plain) f
    first-byte c b kind.NoHole t u f = in-value false Unquoted c b _ _ Closed t u (own.fed.starts kind.NoHole) f
    first-byte c b kind.Url t u f = in-value false Unquoted c b _ _ Closed t u (own.fed.starts kind.Url) f
    first-byte c b kind.Script t u f = in-value false Unquoted c b _ _ Closed t u (own.fed.starts kind.Script) f
    first-byte c b kind.Style t u f = in-value false Unquoted c b _ _ Closed t u (own.fed.starts kind.Style) f

    before-value : (c : Class) (b : ℕ) (k : Kind) (t u : List LexEvent) → F t u → F (emits_before_value x c b k t) (emits_before_value x c b k u)
    before-value White b k t u f = f
    before-value QuotationMark b k t u f = f
    before-value Apostrophe b k t u f = f
    before-value GreaterThan b k t u f = keep (TagEnds false) _ _ tt (begun-end k t u f)
    before-value c b k t u f = first-byte c b k t u f

    -- a byte in each state that is in no value of a language
    self-emits : (m : LexMode) (s : LexState B) (c : Class) (b : ℕ) (t u : List LexEvent) → IsOutside s → F t u → F (emits x m s c b t) (emits x m s c b u)
    self-emits m (Text r) c b t u o f = in-text c b r t u f
    self-emits m (TagOpen r) c b t u o f = in-tag-open m c b r t u f
    self-emits m (EndTagOpen r) c b t u o f = in-end-tag-open m c b r t u f
    self-emits m (DeclarationOpen r pending) c b t u o f = in-declaration (declared_by (pending ++ b ∷ [])) m c b r pending t u f
    self-emits m (InComment s) c b t u o f = f
    self-emits m BogusComment c b t u o f = f
    self-emits m InDoctype c b t u o f = in-doctype c b t u f
    self-emits m (TagName ends name) c b t u o f = in-tag-name c b t u f
    self-emits m (WholeTagName tag) c b t u o f = before-name c b t u f
    self-emits m (BeforeAttributeName tag) c b t u o f = before-name c b t u f
    self-emits m (AttributeName tag name) c b t u o f = in-name c b (kind_of (element_on tag.tag) name) t u f
    self-emits m (WholeAttributeName tag k) c b t u o f = whole-name c b k t u f
    self-emits m (AfterAttributeName tag k) c b t u o f = after-name c b t u f
    self-emits m (BeforeAttributeValue tag k) c b t u o f = before-value c b k t u f
    self-emits m (AttributeValue q tag (ValueOf v) r) c b t u o f = absurd o
    self-emits m (AttributeValue q tag (Deciding k before) r) c b t u o f = in-type B x (ends_value q c) q c b k before r t u f
    self-emits m (AfterAttributeValue tag) c b t u o f = before-name c b t u f
    self-emits m (SelfClosingStartTag tag) c b t u o f = self-closing c b t u f
    self-emits m (InContent e (Characters r) h) c b t u o f = in-content B x h c b e (Characters r) t u tt f
    self-emits m (InContent e Bytes h) c b t u o f = in-content B x h c b e Bytes t u tt f
    self-emits m (InContent e (InLanguage v) h) c b t u o f = absurd o

    -- a byte, from one beside the other
    pub emits-alike : (m : LexMode) (s z : LexState B) (c : Class) (b : ℕ) (t u : List LexEvent) → StandBeside Related s z → F t u
        → F (emits x m s c b t) (emits x m z c b u)
    emits-alike m (AttributeValue q tag (ValueOf v) r) z c b t u a f =
        subst (λ (y : LexState B). F (emits x m (AttributeValue q tag (ValueOf v) r) c b t) (emits x m y c b u)) (sym a.1)
        (in-value (ends_value q c) q c b v a.0 r t u a.2 f)
    emits-alike m (InContent e (InLanguage v) h) z c b t u a f =
        subst (λ (y : LexState B). F (emits x m (InContent e (InLanguage v) h) c b t) (emits x m y c b u)) (sym a.1) (content-emits m h c b e v a.0 t u a.2 f)
    emits-alike m s z c b t u a f = subst (λ (y : LexState B). F (emits x m s c b t) (emits x m y c b u)) (sym a) (self-emits m s c b t u tt f)

    -- a node's end
    self-cut : (s : LexState B) (t u : List LexEvent) → IsOutside s → F t u → F (emits_cut x s t) (emits_cut x s u)
    self-cut (Text r) t u o f = texts (as_it_stands r) t u f
    self-cut (TagOpen r) t u o f = texts (codes "<") _ _ (texts (settled false r) t u f)
    self-cut (EndTagOpen r) t u o f = texts (codes "</") _ _ (texts (settled false r) t u f)
    self-cut (DeclarationOpen r pending) t u o f = texts (codes "<!" ++ pending) _ _ (texts (settled false r) t u f)
    self-cut (AttributeValue q tag (ValueOf v) r) t u o f = absurd o
    self-cut (AttributeValue q tag (Deciding k before) r) t u o f = type-bytes B x (as_it_stands r) k before t u f
    self-cut (InContent e (Characters r) h) t u o f = cut-content B x (Characters r) h t u tt f
    self-cut (InContent e Bytes h) t u o f = cut-content B x Bytes h t u tt f
    self-cut (InContent e (InLanguage v) h) t u o f = absurd o
    self-cut _ t u o f = f

    pub cut-alike : (s z : LexState B) (t u : List LexEvent) → StandBeside Related s z → F t u → F (emits_cut x s t) (emits_cut x z u)
    cut-alike (AttributeValue q tag (ValueOf v) r) z t u a f =
        subst (λ (y : LexState B). F (emits_cut x (AttributeValue q tag (ValueOf v) r) t) (emits_cut x y u)) (sym a.1)
        (emitted-bytes (as_it_stands r) v a.0 t u a.2 f)
    cut-alike (InContent e (InLanguage v) h) z t u a f =
        subst (λ (y : LexState B). F (emits_cut x (InContent e (InLanguage v) h) t) (emits_cut x y u)) (sym a.1) (fed-emits (pending_bytes h) v a.0 t u a.2 f)
    cut-alike s z t u a f = subst (λ (y : LexState B). F (emits_cut x s t) (emits_cut x y u)) (sym a) (self-cut s t u tt f)

    -- bytes that both read
    pub over-alike : (m : LexMode) (bytes : List ℕ) (c d : Config B) → StandBeside Related c.at d.at → F c.emitted d.emitted
        → StandBeside Related (read_over x m bytes c).at (read_over x m bytes d).at × F (read_over x m bytes c).emitted (read_over x m bytes d).emitted
    over-alike m [] c d a f = (a, f)
    over-alike m (b ∷ bs) c d a f =
        over-alike m bs (byte_over x m b c) (byte_over x m b d) (next-beside B x Related own.fed m c.at d.at (class_of b) b a)
        (emits-alike m c.at d.at (class_of b) b c.emitted d.emitted a f)

    -- the text of a node
    pub node-alike : (bytes : List ℕ) (c d : Config B) → StandBeside Related c.at d.at → F c.emitted d.emitted
        → StandBeside Related (read_node x bytes c).at (read_node x bytes d).at × F (read_node x bytes c).emitted (read_node x bytes d).emitted
    node-alike bytes c d a f =
        let o = over-alike Template bytes c d a f in
        let y = read_over x Template bytes c in
        let z = read_over x Template bytes d in
        (cut-beside B x Related own.fed y.at z.at o.0, cut-alike y.at z.at y.emitted z.emitted o.0 o.1)
