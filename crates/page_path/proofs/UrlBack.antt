-- What a chain writes for a value in a URL keeps what it promises, and reads back in every part where a hole has that chain.
use Rattle.std.proofs.Common.{◌≡◌, ℕ, false, true, List, [], ◌∷◌, IsUtf8, None, refl, sym, ap, ◌∙◌, subst}
use Rattle.std.proofs.lemmas.Bool.{and_from}
use Rattle.std.specs.List.{list_all, list_any}
use Rattle.css_lexer.specs.StaysInUrl.{ValuesStayInUrls, is_byte}
use Rattle.css_lexer.specs.Urls.{urls}
use Rattle.html_step.specs.Holes.{last_of}
use Rattle.page_datum.specs.Data.{Data}
use Rattle.page_datum.specs.Printed.{printed}
use Rattle.page_path.specs.Pages.{san_bytes}
use Rattle.page_path.specs.Soundness.{IsBack, IsUrlBack}
use Rattle.place_core.specs.page.Events.{LexEvent}
use Rattle.place_core.specs.page.Html.{read}
use Rattle.place_core.specs.page.Plain.{settled_state}
use Rattle.place_core.specs.page.States.{BeforeAttributeValue, Config, LexState, Page, config}
use Rattle.place_core.specs.page.Tags.{DoubleQuoted, OfKind, OfStyle, OfUrl, Quoting, SingleQuoted, StatesAlike, Tag, Unquoted, Value, ValueOf, ValueState, languages, OfScript}
use Rattle.place_core.specs.place.StatePlaces.{quotes_at}
use Rattle.place_core.specs.declared.kind.Kind.TheVariants as kind
use Rattle.san_html.proofs.EscapedText.{back-in-quoted}
use Rattle.san_html.proofs.Results.{for-text}
use Rattle.san_html.proofs.UnquotedValues.{unquoted-back}
use Rattle.san_html.specs.ReadBack.{IsBackInQuoted, in_value, read_as_text, read_value}
use Rattle.san_html.specs.Sanitizers.{html, html_rows}
use Rattle.san_url.proofs.Parts.{back-in-part}
use Rattle.san_url.proofs.WrittenAscii.{AreOwn, own-no-less, own-no-nul, utf8-bytes, written-own, written-utf8}
use Rattle.san_url.specs.Back.{IsBackInPart}
use Rattle.text_norm.specs.FilledReadings.{value_text}
use Rattle.text_norm.specs.Fillings.{url_bytes}
use Rattle.text_norm.specs.HoleLaws.{IsBackByLast, IsBackInUrl, is_less_than}
use Rattle.text_norm.specs.Standing.{TextStands}
use Rattle.url_lexer.proofs.ReadBack.{written-back}
use Rattle.url_lexer.proofs.WrittenBytes.{written-plain}
use Rattle.url_lexer.specs.Back.{ReadsBack}
use Rattle.url_lexer.specs.Parts.{UrlPart, UrlStart}
use Rattle.url_lexer.specs.Refusals.{refuses_hole_in}
use Rattle.url_lexer.specs.Sanitizers.{written_in}
use Rattle.url_lexer.specs.States.{Url, url_start}
use Rattle.url_lexer.specs.Written.{AreBytes}

pub quoted-back : (text : List ℕ) → IsUtf8 text → IsBackInQuoted text (html text)
quoted-back text u = for-text IsBackInQuoted html_rows back-in-quoted text u

-- the characters of a part, and what the sanitizer of a value's quotes writes for them
pub part-back : (p : UrlPart) (text : List ℕ) → IsUtf8 text → refuses_hole_in p ≡ None → IsBackInPart p text (written_in p text)
part-back p text u h = back-in-part written-plain written-back p text (written_in p text) (utf8-bytes text u) h refl

abbrev pub last_bytes : Quoting → List ℕ → List ℕ
last_bytes q characters = san_bytes (last_of (quotes_at q)) characters

pub by-last : (q : Quoting) (characters : List ℕ) → IsUtf8 characters → IsBackByLast (last_of (quotes_at q)) characters (last_bytes q characters)
by-last DoubleQuoted characters u = quoted-back characters u
by-last SingleQuoted characters u = quoted-back characters u
by-last Unquoted characters u = unquoted-back characters u

pub own-text : (bs : List ℕ) → AreOwn bs → read_as_text bs ≡ bs
own-text [] h = refl
own-text (b ∷ bs) h = rw (own-no-nul b h.0, own-text bs h.1) refl

pub own-apart : (bs : List ℕ) → AreOwn bs → list_any is_less_than bs ≡ false
own-apart [] h = refl
own-apart (b ∷ bs) h = rw (own-no-less b h.0, own-apart bs h.1) refl

pub all-bytes : (bs : List ℕ) → AreBytes bs → list_all is_byte bs ≡ true
all-bytes [] a = refl
all-bytes (b ∷ bs) a = and_from (is_byte b) (list_all is_byte bs) a.0 (all-bytes bs a.1)

-- what is promised, by the law that these characters stay in the URLs of styles
pub in-url : ValuesStayInUrls urls → (p : UrlPart) (Back : List ℕ → Type 0) (q : Quoting) (text : List ℕ) → IsUtf8 text → Back (written_in p text)
    → IsBackInUrl Back (last_of (quotes_at q)) (last_bytes q (written_in p text))
in-url stay p Back q text u back = record {
  characters = written_in p text;
  there = back;
  stays = stay p text (all-bytes text (utf8-bytes text u));
  as_they_are = own-text (written_in p text) (written-own p text (utf8-bytes text u));
  written = by-last q (written_in p text) (written-utf8 p text (utf8-bytes text u));
}

-- what such bytes read as, in a value that has begun
pub url-text : (q : Quoting) (characters : List ℕ) → read_as_text characters ≡ characters → value_text q characters ≡ url_bytes q characters
url-text DoubleQuoted characters e = e
url-text SingleQuoted characters e = e
url-text Unquoted [] e = refl
url-text Unquoted (b ∷ bs) e = e

pub last-reads : (q : Quoting) (tag : Tag) (v : Value ValueState) (characters bytes : List ℕ) → IsBackByLast (last_of (quotes_at q)) characters bytes
    → read Page bytes (config (in_value q tag v) []) ≡ read_value q tag v (value_text q characters) []
last-reads DoubleQuoted tag v characters bytes w = w.reads DoubleQuoted tag v [] refl
last-reads SingleQuoted tag v characters bytes w = w.reads SingleQuoted tag v [] refl
last-reads Unquoted tag v characters bytes w = w.reads tag v []

-- A page that stands for the path is in the URL too, and in the same part.
record IsInPart (q : Quoting) (tag : Tag) (p : UrlPart) (d : Config ValueState) : Type 0 where
  url : Url
  there : d.at ≡ in_value q tag (ValueOf (OfUrl url))
  part : url.part ≡ p

in-part-by : (q : Quoting) (tag : Tag) (u : Url) (v : ValueState) (t : List LexEvent) (d : Config ValueState) → StatesAlike (OfUrl u) v
    → d ≡ config (in_value q tag (ValueOf v)) t → IsInPart q tag u.part d
in-part-by q tag u (OfUrl w) t d a e = record { url = w; there = ap (λ (c : Config ValueState). c.at) e; part = a.part }
in-part-by q tag u (OfKind k) t d a e = absurd a
in-part-by q tag u (OfStyle s) t d a e = absurd a
in-part-by q tag u (OfScript s) t d a e = absurd a

in-part : (q : Quoting) (tag : Tag) (u : Url) (t : List LexEvent) (d : Config ValueState)
    → TextStands languages (in_value q tag (ValueOf (OfUrl u))) t d → IsInPart q tag u.part d
in-part q tag u t d l = in-part-by q tag u l.there t d l.alike l.stands

-- it reads back there
pub url-back : (p : UrlPart) (q : Quoting) (tag : Tag) (u : Url) (datum : Data) → u.part ≡ p → IsUtf8 (printed datum) → refuses_hole_in p ≡ None
    → (t : List LexEvent) (d : Config ValueState) → TextStands languages (in_value q tag (ValueOf (OfUrl u))) t d
    → IsBack (settled_state languages d.at) datum (last_bytes q (written_in p (printed datum)))
url-back p q tag u datum is utf8 h t d l =
    let text = printed datum in
    let characters = written_in p text in
    let here = in-part q tag u t d l in
    let v : Value ValueState = ValueOf (OfUrl here.url) in
    let own = own-text characters (written-own p text (utf8-bytes text utf8)) in
    let written = by-last q characters (written-utf8 p text (utf8-bytes text utf8)) in
    let back : IsUrlBack q tag here.url (in_value q tag v) text (last_bytes q characters) = record {
      characters = characters;
      goes_on = last-reads q tag v characters (last_bytes q characters) written
          ∙ ap (λ (xs : List ℕ). read_value q tag v xs []) (url-text q characters own);
      reads = subst (λ (r : UrlPart). ReadsBack r text characters) (sym (here.part ∙ is)) (part-back p text utf8 h).reads;
    } in
    subst (λ (s : LexState ValueState). IsBack (settled_state languages s) datum (last_bytes q characters)) (sym here.there) back

-- and where a value without quotes is to begin
pub unbegun-back : (tag : Tag) (text : List ℕ) → IsUtf8 text
    → IsUrlBack Unquoted tag url_start (BeforeAttributeValue tag kind.Url) text (last_bytes Unquoted (written_in UrlStart text))
unbegun-back tag text utf8 =
    let characters = written_in UrlStart text in
    let own = own-text characters (written-own UrlStart text (utf8-bytes text utf8)) in
    let written = unquoted-back characters (written-utf8 UrlStart text (utf8-bytes text utf8)) in
    record {
      characters = characters;
      goes_on = written.reads_unbegun tag kind.Url []
          ∙ ap (λ (xs : List ℕ). read_value Unquoted tag (ValueOf (OfUrl url_start)) xs []) (url-text Unquoted characters own);
      reads = (part-back UrlStart text utf8 refl).reads;
    }
