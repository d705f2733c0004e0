-- What the chain of a hole in a URL promises, by the part of the URL: the bytes are read as characters that are plain there and read back.
use Rattle.std.proofs.Common.{◌≡◌, ◌≢◌, ℕ, true, false, List, [], ◌∷◌, Some, None, refl, ap, ◌∙◌, subst}
use Rattle.page_datum.specs.Data.{Data}
use Rattle.page_datum.specs.Printed.{printed}
use Rattle.place_core.specs.page.Events.{LexEvent, value_bytes}
use Rattle.place_core.specs.page.Html.{read}
use Rattle.place_core.specs.page.Plain.{HasBytes, IsPlainInState, begins_at_once}
use Rattle.place_core.specs.page.States.{BeforeAttributeValue, Config, Page, config}
use Rattle.place_core.specs.page.Tags.{DoubleQuoted, OfUrl, Quoting, SingleQuoted, Tag, Unquoted, Value, ValueOf, ValueState, emitted_bytes, languages, with_bytes}
use Rattle.place_core.specs.place.StatePlaces.{quotes_at}
use Rattle.place_core.specs.place.UrlParts.{parts_of}
use Rattle.place_core.specs.declared.kind.Kind.TheVariants as kind
use Rattle.place_core.specs.declared.san.San.{San}
use Rattle.place_core.specs.declared.san.San.TheVariants as san
use Rattle.html_step.specs.Holes.{last_of, url_chain}
use Rattle.san_html.proofs.EscapedText.{value-told}
use Rattle.san_html.specs.ReadBack.{IsBackInUnquoted, as_unquoted, in_value, read_as_text, read_value}
use Rattle.san_html.specs.Sanitizers.{failsafe}
use Rattle.san_url.specs.Back.{IsBackInPart}
use Rattle.url_lexer.specs.Alike.{UrlsAlike}
use Rattle.url_lexer.specs.Back.{ReadsBack}
use Rattle.url_lexer.specs.Classes.{url_class_of}
use Rattle.url_lexer.specs.Parts.{UrlPart, UrlStart, UrlOpen, UrlOpenhole, UrlPrequery, UrlQuery, UrlBad}
use Rattle.url_lexer.specs.Plain.{IsPlainInUrl}
use Rattle.url_lexer.specs.Refusals.{UrlRefusal, refuses_hole_in}
use Rattle.url_lexer.specs.Sanitizers.{written_in}
use Rattle.url_lexer.specs.States.{Url, feed_all, feed_url, url_start}
use Rattle.url_lexer.specs.Triples.{NoTriple}
use Rattle.url_lexer.specs.Written.{AreBytes}
use Rattle.url_lexer.proofs.WrittenBytes.{written-plain}
use Rattle.text_norm.specs.Fillings.{url_bytes}
use Rattle.text_norm.specs.HoleLaws.{IsBackBy, IsBackByLast, IsBackInUrl, leaves_out}

pub refused : (e : UrlRefusal) → Some e ≡ None → ⊥
refused e n = cc

-- the promise, by the part in which the path is
pub url-promise : (p : UrlPart) (last : San) (datum : Data) (bytes : List ℕ) → refuses_hole_in p ≡ None → IsBackBy (url_chain (parts_of p) last) datum bytes
    → IsBackInUrl (IsBackInPart p (printed datum)) last bytes
url-promise UrlStart last datum bytes n k = k
url-promise (UrlOpen p) last datum bytes n k = record { characters = k.characters; there = k.there.in_open p; stays = k.stays; as_they_are = k.as_they_are; written = k.written }
url-promise UrlOpenhole last datum bytes n k = record { characters = k.characters; there = k.there.in_openhole; stays = k.stays; as_they_are = k.as_they_are; written = k.written }
url-promise UrlPrequery last datum bytes n k = k
url-promise UrlQuery last datum bytes n k = k
url-promise UrlBad last datum bytes n k = absurd (refused _ n)

pub url-has-part : (p : UrlPart) (last : San) → leaves_out (url_chain (parts_of p) last) ≡ false
url-has-part UrlStart last = refl
url-has-part (UrlOpen p) last = refl
url-has-part UrlOpenhole last = refl
url-has-part UrlPrequery last = refl
url-has-part UrlQuery last = refl
url-has-part UrlBad last = refl

-- the failsafe of a value without quotes is what the sanitizers write for itself in each part, and so it is plain there
failsafe-written : (p : UrlPart) → refuses_hole_in p ≡ None → written_in p failsafe ≡ failsafe
unfolding url_class_of
failsafe-written UrlStart n = refl
failsafe-written (UrlOpen p) n = refl
failsafe-written UrlOpenhole n = refl
failsafe-written UrlPrequery n = refl
failsafe-written UrlQuery n = refl
failsafe-written UrlBad n = absurd (refused _ n)

failsafe-bytes : AreBytes failsafe
failsafe-bytes = (refl, (refl, (refl, (refl, (refl, (refl, (refl, (refl, tt))))))))

pub failsafe-plain : (v w : Url) → UrlsAlike v w → v.triple ≡ NoTriple → refuses_hole_in v.part ≡ None → IsPlainInUrl failsafe w
failsafe-plain v w a t n = subst (λ (bs : List ℕ). IsPlainInUrl bs w) (failsafe-written v.part n) (written-plain v w failsafe failsafe-bytes a t n)

-- the bytes of the value: those of the sanitizers, or the failsafe
pub url-value : (chars : List ℕ) → read_as_text chars ≡ chars → as_unquoted chars ≡ url_bytes Unquoted chars
url-value [] e = refl
url-value (b ∷ bs) e = e

value-plain : (q : Quoting) (chars : List ℕ) (w : Url) → IsPlainInUrl chars w → IsPlainInUrl failsafe w → IsPlainInUrl (url_bytes q chars) w
value-plain DoubleQuoted chars w p f = p
value-plain SingleQuoted chars w p f = p
value-plain Unquoted [] w p f = f
value-plain Unquoted (b ∷ bs) w p f = p

not-empty : (b : ℕ) (bs : List ℕ) → b ∷ bs ≢ []
not-empty b bs e = cc

pub value-some : (q : Quoting) (chars : List ℕ) → HasBytes q (url_bytes q chars)
value-some DoubleQuoted chars = tt
value-some SingleQuoted chars = tt
value-some Unquoted [] = not-empty _ _
value-some Unquoted (b ∷ bs) = not-empty b bs

-- bytes that are read in a URL
pub url-fed : (bs : List ℕ) (w : Url) → with_bytes languages (ValueOf (OfUrl w)) bs ≡ ValueOf (OfUrl (feed_all w bs))
url-fed [] w = refl
url-fed (b ∷ bs) w = url-fed bs (feed_url w b)

url-read : (q : Quoting) (tag : Tag) (w : Url) (bs : List ℕ) (t : List LexEvent)
    → read_value q tag (ValueOf (OfUrl w)) bs t ≡ config (in_value q tag (ValueOf (OfUrl (feed_all w bs)))) (value_bytes bs t)
url-read q tag w bs t =
    ap (λ (z : Value ValueState). config (in_value q tag z) (emitted_bytes languages (ValueOf (OfUrl w)) bs t)) (url-fed bs w)
    ∙ ap (config (in_value q tag (ValueOf (OfUrl (feed_all w bs))))) (value-told bs (ValueOf (OfUrl w)) t)

-- what the last sanitizer's bytes are read as, in any value
pub last-read : (q : Quoting) (chars bytes : List ℕ) → read_as_text chars ≡ chars → IsBackByLast (last_of (quotes_at q)) chars bytes → (tag : Tag) (v : Value ValueState) (t : List LexEvent)
    → read Page bytes (config (in_value q tag v) t) ≡ read_value q tag v (url_bytes q chars) t
last-read DoubleQuoted chars bytes e k tag v t =
    k.reads DoubleQuoted tag v t refl ∙ ap (λ (z : List ℕ). read_value DoubleQuoted tag v z t) e
last-read SingleQuoted chars bytes e k tag v t =
    k.reads SingleQuoted tag v t refl ∙ ap (λ (z : List ℕ). read_value SingleQuoted tag v z t) e
last-read Unquoted chars bytes e k tag v t =
    k.reads tag v t ∙ ap (λ (z : List ℕ). read_value Unquoted tag v z t) (url-value chars e)

-- A hole in a URL at the state of a path: what its bytes are read as in each state of a page that is alike.
pub record IsUrlHole (q : Quoting) (u : Url) (text bytes : List ℕ) : Type 0 where
  pub characters : List ℕ
  pub back : ReadsBack u.part text characters
  pub plain : (w : Url) → UrlsAlike u w → IsPlainInUrl (url_bytes q characters) w
  pub some : HasBytes q (url_bytes q characters)
  pub reads : (tag : Tag) (w : Url) (t : List LexEvent) → read Page bytes (config (in_value q tag (ValueOf (OfUrl w))) t)
      ≡ config (in_value q tag (ValueOf (OfUrl (feed_all w (url_bytes q characters))))) (value_bytes (url_bytes q characters) t)

pub url-hole : (q : Quoting) (u : Url) (datum : Data) (bytes : List ℕ) → u.triple ≡ NoTriple → refuses_hole_in u.part ≡ None
    → IsBackBy (url_chain (parts_of u.part) (last_of (quotes_at q))) datum bytes → IsUrlHole q u (printed datum) bytes
url-hole q u datum bytes e n k =
    let p = url-promise u.part (last_of (quotes_at q)) datum bytes n k in
    record {
      characters = p.characters;
      back = p.there.reads;
      plain = λ w a. value-plain q p.characters w (p.there.plain u w refl a e) (failsafe-plain u w a e n);
      some = value-some q p.characters;
      reads = λ tag w t. last-read q p.characters bytes p.as_they_are p.written tag (ValueOf (OfUrl w)) t ∙ url-read q tag w (url_bytes q p.characters) t;
    }

-- the same where an unquoted value is to begin
pub record IsUrlBegun (text bytes : List ℕ) : Type 0 where
  pub hole : IsUrlHole Unquoted url_start text bytes
  pub at_once : begins_at_once bytes ≡ true
  pub reads_unbegun : (tag : Tag) (t : List LexEvent) → read Page bytes (config (BeforeAttributeValue tag kind.Url) t)
      ≡ config (in_value Unquoted tag (ValueOf (OfUrl (feed_all url_start (url_bytes Unquoted hole.characters))))) (value_bytes (url_bytes Unquoted hole.characters) t)

unbegun-read : (chars bytes : List ℕ) → read_as_text chars ≡ chars → IsBackInUnquoted chars bytes → (tag : Tag) (t : List LexEvent)
    → read Page bytes (config (BeforeAttributeValue tag kind.Url) t)
    ≡ config (in_value Unquoted tag (ValueOf (OfUrl (feed_all url_start (url_bytes Unquoted chars))))) (value_bytes (url_bytes Unquoted chars) t)
unbegun-read chars bytes e k tag t =
    k.reads_unbegun tag kind.Url t ∙ ap (λ (z : List ℕ). read_value Unquoted tag (ValueOf (OfUrl url_start)) z t) (url-value chars e)
    ∙ url-read Unquoted tag url_start (url_bytes Unquoted chars) t

pub url-begun : (tag : Tag) (datum : Data) (bytes : List ℕ) → IsBackBy (url_chain (parts_of UrlStart) san.AttrNospace) datum bytes → IsUrlBegun (printed datum) bytes
unfolding url-hole
url-begun tag datum bytes k =
    let p = url-promise UrlStart san.AttrNospace datum bytes refl k in
    record {
      hole = url-hole Unquoted url_start datum bytes refl refl k;
      at_once = (p.written.plain_unbegun tag []).1.0;
      reads_unbegun = unbegun-read p.characters bytes p.as_they_are p.written;
    }

-- In the page these bytes are plain.
pub url-plain : (q : Quoting) (tag : Tag) (u w : Url) (text bytes : List ℕ) (h : IsUrlHole q u text bytes) (c : Config ValueState) → UrlsAlike u w
    → c ≡ config (in_value q tag (ValueOf (OfUrl (feed_all w (url_bytes q h.characters))))) (value_bytes (url_bytes q h.characters) []) → IsPlainInState (OfUrl w) q tag bytes c
url-plain q tag u w text bytes h c a e = record {
  value = url_bytes q h.characters;
  after = OfUrl (feed_all w (url_bytes q h.characters));
  within = ap (λ (z : Config ValueState). z.at) e;
  emitted = ap (λ (z : Config ValueState). z.emitted) e;
  some = h.some;
  leads = ((h.plain w a).leads, (h.plain w a).allowed);
}
