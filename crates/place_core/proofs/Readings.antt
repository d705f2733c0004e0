-- How bytes are read one after the other, and how a byte that begins and ends nothing is told.
use Rattle.std.proofs.Common.{◌≡◌, ℕ, Bool, true, false, List, [], ◌∷◌, ◌++◌, refl, ap}
use Rattle.std.specs.Char.{to_ascii_lowercase}
use Rattle.place_core.specs.page.Classes.{Class, White, QuotationMark, Ampersand, Apostrophe, Digit, LessThan, GreaterThan, Letter, class_of}
use Rattle.place_core.specs.page.Events.{LexEvent, TextByte, BlockByte, ValueByte, event_text_bytes, block_bytes, value_bytes, AttributeNameByte, AttributeBegins}
use Rattle.place_core.specs.page.Html.{read, byte_over, read_over}
use Rattle.place_core.specs.page.States.{LexMode, Page, Text, AttributeValue, BeforeAttributeValue, BeforeAttributeName, AttributeName, AfterAttributeName, SelfClosingStartTag, Characters, Bytes, Nothing, InContent, Config, config}
use Rattle.place_core.specs.page.References.{Closed, undone}
use Rattle.place_core.specs.page.Tags.{Tag, Value, emitted_byte, emitted_bytes, ValueLanguage, languages, with_byte, with_bytes, attribute_value_of, without_value, DoubleQuoted, SingleQuoted, Unquoted, ValueState}
use Rattle.place_core.specs.declared.element.Element.{Element}
use Rattle.place_core.specs.declared.kind.Kind.{Kind}

pub over-append : {B : Type 0} (l : ValueLanguage B) (m : LexMode) (xs ys : List ℕ) (c : Config B) → read_over l m (xs ++ ys) c ≡ read_over l m ys (read_over l m xs c)
over-append l m [] ys c = refl
over-append l m (x ∷ xs) ys c = over-append l m xs ys (byte_over l m x c)

pub read-append : (m : LexMode) (xs ys : List ℕ) (c : Config ValueState) → read m (xs ++ ys) c ≡ read m ys (read m xs c)
read-append m xs ys c = over-append languages m xs ys c

pub with_bytes-append : {B : Type 0} (l : ValueLanguage B) (v : Value B) (xs ys : List ℕ) → with_bytes l v (xs ++ ys) ≡ with_bytes l (with_bytes l v xs) ys
with_bytes-append l v [] ys = refl
with_bytes-append l v (x ∷ xs) ys = with_bytes-append l (with_byte l v x) xs ys

pub emitted_bytes-append : {B : Type 0} (l : ValueLanguage B) (v : Value B) (xs ys : List ℕ) (t : List LexEvent) → emitted_bytes l v (xs ++ ys) t ≡ emitted_bytes l (with_bytes l v xs) ys (emitted_bytes l v xs t)
emitted_bytes-append l v [] ys t = refl
emitted_bytes-append l v (x ∷ xs) ys t = emitted_bytes-append l (with_byte l v x) xs ys (emitted_byte l v x t)

pub text_bytes-append : (xs ys : List ℕ) (t : List LexEvent) → event_text_bytes (xs ++ ys) t ≡ event_text_bytes ys (event_text_bytes xs t)
text_bytes-append [] ys t = refl
text_bytes-append (x ∷ xs) ys t = text_bytes-append xs ys (TextByte x ∷ t)

pub block_bytes-append : (xs ys : List ℕ) (t : List LexEvent) → block_bytes (xs ++ ys) t ≡ block_bytes ys (block_bytes xs t)
block_bytes-append [] ys t = refl
block_bytes-append (x ∷ xs) ys t = block_bytes-append xs ys (BlockByte x ∷ t)

pub value_bytes-append : (xs ys : List ℕ) (t : List LexEvent) → value_bytes (xs ++ ys) t ≡ value_bytes ys (value_bytes xs t)
value_bytes-append [] ys t = refl
value_bytes-append (x ∷ xs) ys t = value_bytes-append xs ys (ValueByte x ∷ t)

-- the classes of bytes that stand for themselves in text, in data blocks, in quoted values and in unquoted ones

abbrev pub is_own_in_text : Class → Bool
is_own_in_text Ampersand = false
is_own_in_text LessThan = false
is_own_in_text _ = true

abbrev pub is_own_in_block : Class → Bool
is_own_in_block LessThan = false
is_own_in_block _ = true

abbrev pub is_own_in_quoted : Class → Bool
is_own_in_quoted QuotationMark = false
is_own_in_quoted Ampersand = false
is_own_in_quoted Apostrophe = false
is_own_in_quoted _ = true

abbrev pub is_own_in_unquoted : Class → Bool
is_own_in_unquoted White = false
is_own_in_unquoted QuotationMark = false
is_own_in_unquoted Ampersand = false
is_own_in_unquoted Apostrophe = false
is_own_in_unquoted GreaterThan = false
is_own_in_unquoted _ = true

no : false ≡ true → ⊥
no e = cc

text-class : (c : Class) (b : ℕ) (t : List LexEvent) → class_of b ≡ c → is_own_in_text c ≡ true → read Page (b ∷ []) (config (Text Closed) t) ≡ config (Text Closed) (TextByte b ∷ t)
text-class Ampersand b t e h = absurd (no h)
text-class LessThan b t e h = absurd (no h)
text-class _ b t e h = rw e refl

rcdata-class : (c : Class) (b : ℕ) (x : Element) (t : List LexEvent) → class_of b ≡ c → is_own_in_text c ≡ true → read Page (b ∷ []) (config (InContent x (Characters Closed) Nothing) t) ≡ config (InContent x (Characters Closed) Nothing) (TextByte b ∷ t)
rcdata-class Ampersand b x t e h = absurd (no h)
rcdata-class LessThan b x t e h = absurd (no h)
rcdata-class _ b x t e h = rw e refl

block-class : (c : Class) (b : ℕ) (x : Element) (t : List LexEvent) → class_of b ≡ c → is_own_in_block c ≡ true → read Page (b ∷ []) (config (InContent x Bytes Nothing) t) ≡ config (InContent x Bytes Nothing) (BlockByte b ∷ t)
block-class LessThan b x t e h = absurd (no h)
block-class _ b x t e h = rw e refl

double-class : {B : Type 0} (l : ValueLanguage B) (c : Class) (b : ℕ) (tag : Tag) (v : Value B) (t : List LexEvent) → class_of b ≡ c → is_own_in_quoted c ≡ true → read_over l Page (b ∷ []) (config (AttributeValue DoubleQuoted tag v Closed) t) ≡ config (AttributeValue DoubleQuoted tag (with_byte l v b) Closed) (emitted_byte l v b t)
double-class l QuotationMark b tag v t e h = absurd (no h)
double-class l Ampersand b tag v t e h = absurd (no h)
double-class l Apostrophe b tag v t e h = absurd (no h)
double-class l _ b tag v t e h = rw e refl

single-class : {B : Type 0} (l : ValueLanguage B) (c : Class) (b : ℕ) (tag : Tag) (v : Value B) (t : List LexEvent) → class_of b ≡ c → is_own_in_quoted c ≡ true → read_over l Page (b ∷ []) (config (AttributeValue SingleQuoted tag v Closed) t) ≡ config (AttributeValue SingleQuoted tag (with_byte l v b) Closed) (emitted_byte l v b t)
single-class l QuotationMark b tag v t e h = absurd (no h)
single-class l Ampersand b tag v t e h = absurd (no h)
single-class l Apostrophe b tag v t e h = absurd (no h)
single-class l _ b tag v t e h = rw e refl

unquoted-class : {B : Type 0} (l : ValueLanguage B) (c : Class) (b : ℕ) (tag : Tag) (v : Value B) (t : List LexEvent) → class_of b ≡ c → is_own_in_unquoted c ≡ true → read_over l Page (b ∷ []) (config (AttributeValue Unquoted tag v Closed) t) ≡ config (AttributeValue Unquoted tag (with_byte l v b) Closed) (emitted_byte l v b t)
unquoted-class l White b tag v t e h = absurd (no h)
unquoted-class l QuotationMark b tag v t e h = absurd (no h)
unquoted-class l Ampersand b tag v t e h = absurd (no h)
unquoted-class l Apostrophe b tag v t e h = absurd (no h)
unquoted-class l GreaterThan b tag v t e h = absurd (no h)
unquoted-class l _ b tag v t e h = rw e refl

-- where an unquoted value is to begin, a byte that begins one is read as its first byte
abbrev pub begins_unquoted : Class → Bool
begins_unquoted White = false
begins_unquoted QuotationMark = false
begins_unquoted Apostrophe = false
begins_unquoted GreaterThan = false
begins_unquoted _ = true

unbegun-class : {B : Type 0} (l : ValueLanguage B) (c : Class) (b : ℕ) (tag : Tag) (k : Kind) (t : List LexEvent) → class_of b ≡ c → begins_unquoted c ≡ true → read_over l Page (b ∷ []) (config (BeforeAttributeValue tag k) t) ≡ read_over l Page (b ∷ []) (config (AttributeValue Unquoted tag (attribute_value_of l k) Closed) t)
unbegun-class l White b tag k t e h = absurd (no h)
unbegun-class l QuotationMark b tag k t e h = absurd (no h)
unbegun-class l Apostrophe b tag k t e h = absurd (no h)
unbegun-class l GreaterThan b tag k t e h = absurd (no h)
unbegun-class l _ b tag k t e h = rw e refl

pub unbegun-byte : {B : Type 0} (l : ValueLanguage B) (b : ℕ) (bs : List ℕ) (tag : Tag) (k : Kind) (t : List LexEvent) → begins_unquoted (class_of b) ≡ true → read_over l Page (b ∷ bs) (config (BeforeAttributeValue tag k) t) ≡ read_over l Page (b ∷ bs) (config (AttributeValue Unquoted tag (attribute_value_of l k) Closed) t)
unbegun-byte l b bs tag k t h = ap (read_over l Page bs) (unbegun-class l (class_of b) b tag k t refl h)

-- letters and digits, of which names of attributes are made here
abbrev pub is_name_class : Class → Bool
is_name_class (Letter l) = true
is_name_class Digit = true
is_name_class _ = false

first-name-class : (c : Class) (b : ℕ) (tag : Tag) (t : List LexEvent) → class_of b ≡ c → is_name_class c ≡ true → read Page (b ∷ []) (config (BeforeAttributeName tag) t) ≡ config (AttributeName tag (to_ascii_lowercase b ∷ [])) (AttributeNameByte (to_ascii_lowercase b) ∷ AttributeBegins ∷ t)
first-name-class (Letter l) b tag t e h = rw e refl
first-name-class Digit b tag t e h = rw e refl
first-name-class _ b tag t e h = absurd (no h)

name-class : (c : Class) (b : ℕ) (tag : Tag) (name : List ℕ) (t : List LexEvent) → class_of b ≡ c → is_name_class c ≡ true → read Page (b ∷ []) (config (AttributeName tag name) t) ≡ config (AttributeName tag (name ++ to_ascii_lowercase b ∷ [])) (AttributeNameByte (to_ascii_lowercase b) ∷ t)
name-class (Letter l) b tag name t e h = rw e refl
name-class Digit b tag name t e h = rw e refl
name-class _ b tag name t e h = absurd (no h)

-- after the name of an attribute, after a quoted value and after a solidus a letter or a digit begins a name as before one
after-name-class : (c : Class) (b : ℕ) (tag : Tag) (k : Kind) (t : List LexEvent) → class_of b ≡ c → is_name_class c ≡ true → read Page (b ∷ []) (config (AfterAttributeName tag k) t) ≡ read Page (b ∷ []) (config (BeforeAttributeName (without_value tag k)) t)
after-name-class (Letter l) b tag k t e h = rw e refl
after-name-class Digit b tag k t e h = rw e refl
after-name-class _ b tag k t e h = absurd (no h)

solidus-class : (c : Class) (b : ℕ) (tag : Tag) (t : List LexEvent) → class_of b ≡ c → is_name_class c ≡ true → read Page (b ∷ []) (config (SelfClosingStartTag tag) t) ≡ read Page (b ∷ []) (config (BeforeAttributeName tag) t)
solidus-class (Letter l) b tag t e h = rw e refl
solidus-class Digit b tag t e h = rw e refl
solidus-class _ b tag t e h = absurd (no h)

pub text-byte : (b : ℕ) (t : List LexEvent) → is_own_in_text (class_of b) ≡ true → read Page (b ∷ []) (config (Text Closed) t) ≡ config (Text Closed) (TextByte b ∷ t)
text-byte b t h = text-class (class_of b) b t refl h

pub rcdata-byte : (b : ℕ) (x : Element) (t : List LexEvent) → is_own_in_text (class_of b) ≡ true → read Page (b ∷ []) (config (InContent x (Characters Closed) Nothing) t) ≡ config (InContent x (Characters Closed) Nothing) (TextByte b ∷ t)
rcdata-byte b x t h = rcdata-class (class_of b) b x t refl h

pub block-byte : (b : ℕ) (x : Element) (t : List LexEvent) → is_own_in_block (class_of b) ≡ true → read Page (b ∷ []) (config (InContent x Bytes Nothing) t) ≡ config (InContent x Bytes Nothing) (BlockByte b ∷ t)
block-byte b x t h = block-class (class_of b) b x t refl h

pub double-byte : {B : Type 0} (l : ValueLanguage B) (b : ℕ) (tag : Tag) (v : Value B) (t : List LexEvent) → is_own_in_quoted (class_of b) ≡ true → read_over l Page (b ∷ []) (config (AttributeValue DoubleQuoted tag v Closed) t) ≡ config (AttributeValue DoubleQuoted tag (with_byte l v b) Closed) (emitted_byte l v b t)
double-byte l b tag v t h = double-class l (class_of b) b tag v t refl h

pub single-byte : {B : Type 0} (l : ValueLanguage B) (b : ℕ) (tag : Tag) (v : Value B) (t : List LexEvent) → is_own_in_quoted (class_of b) ≡ true → read_over l Page (b ∷ []) (config (AttributeValue SingleQuoted tag v Closed) t) ≡ config (AttributeValue SingleQuoted tag (with_byte l v b) Closed) (emitted_byte l v b t)
single-byte l b tag v t h = single-class l (class_of b) b tag v t refl h

pub unquoted-byte : {B : Type 0} (l : ValueLanguage B) (b : ℕ) (tag : Tag) (v : Value B) (t : List LexEvent) → is_own_in_unquoted (class_of b) ≡ true → read_over l Page (b ∷ []) (config (AttributeValue Unquoted tag v Closed) t) ≡ config (AttributeValue Unquoted tag (with_byte l v b) Closed) (emitted_byte l v b t)
unquoted-byte l b tag v t h = unquoted-class l (class_of b) b tag v t refl h

pub first-name-byte : (b : ℕ) (tag : Tag) (t : List LexEvent) → is_name_class (class_of b) ≡ true → read Page (b ∷ []) (config (BeforeAttributeName tag) t) ≡ config (AttributeName tag (to_ascii_lowercase b ∷ [])) (AttributeNameByte (to_ascii_lowercase b) ∷ AttributeBegins ∷ t)
first-name-byte b tag t h = first-name-class (class_of b) b tag t refl h

pub name-byte : (b : ℕ) (tag : Tag) (name : List ℕ) (t : List LexEvent) → is_name_class (class_of b) ≡ true → read Page (b ∷ []) (config (AttributeName tag name) t) ≡ config (AttributeName tag (name ++ to_ascii_lowercase b ∷ [])) (AttributeNameByte (to_ascii_lowercase b) ∷ t)
name-byte b tag name t h = name-class (class_of b) b tag name t refl h

pub after-name-byte : (b : ℕ) (bs : List ℕ) (tag : Tag) (k : Kind) (t : List LexEvent) → is_name_class (class_of b) ≡ true → read Page (b ∷ bs) (config (AfterAttributeName tag k) t) ≡ read Page (b ∷ bs) (config (BeforeAttributeName (without_value tag k)) t)
after-name-byte b bs tag k t h = ap (read Page bs) (after-name-class (class_of b) b tag k t refl h)

pub solidus-byte : (b : ℕ) (bs : List ℕ) (tag : Tag) (t : List LexEvent) → is_name_class (class_of b) ≡ true → read Page (b ∷ bs) (config (SelfClosingStartTag tag) t) ≡ read Page (b ∷ bs) (config (BeforeAttributeName tag) t)
solidus-byte b bs tag t h = ap (read Page bs) (solidus-class (class_of b) b tag t refl h)

-- a byte that stands for itself in text is told as it is where references are undone
undone-class : (attribute : Bool) (c : Class) (b : ℕ) (ys : List ℕ) → class_of b ≡ c → is_own_in_text c ≡ true → undone attribute Closed (b ∷ ys) ≡ b ∷ undone attribute Closed ys
undone-class attribute Ampersand b ys e h = absurd (no h)
undone-class attribute LessThan b ys e h = absurd (no h)
undone-class attribute _ b ys e h = rw e refl

pub undone-byte : (attribute : Bool) (b : ℕ) (ys : List ℕ) → is_own_in_text (class_of b) ≡ true → undone attribute Closed (b ∷ ys) ≡ b ∷ undone attribute Closed ys
undone-byte attribute b ys h = undone-class attribute (class_of b) b ys refl h
