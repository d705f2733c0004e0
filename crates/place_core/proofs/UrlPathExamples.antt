-- Worked examples of how paths are read in URLs: references, percent triples, schemes, and what is refused, by computing.
use Rattle.std.proofs.Common.{◌≡◌, ℕ, zero, suc, true, false, not, [], ◌∷◌, List, codes, Option, Some, None, inl, inr, refl, sym, ap, ◌∙◌}
use Rattle.js_lexer.specs.declared.sense.Sense.{Sense}
use Rattle.js_lexer.specs.declared.sense.Sense.TheVariants as sense
use Rattle.place_core.specs.page.Classes.{Class, class_of}
use Rattle.place_core.specs.place.ApartPlaces.{opened_apart, beginning_at}
use Rattle.place_core.specs.place.Errors.{is_unknown_name, is_written, node, path_refusal}
use Rattle.place_core.specs.place.PathPairs.{ApartBefore, Clashes, ClashesInText, ClashesSlash, byte_clash, senses_part, slash_sense}
use Rattle.place_core.specs.page.Html.{next}
use Rattle.place_core.specs.page.References.{Closed, meaning, flushed}
use Rattle.place_core.specs.page.States.{AttributeValue, BeforeAttributeValue, LexState, Template, Text}
use Rattle.place_core.specs.page.Tags.{Deciding, DoubleQuoted, Unquoted, ValueOf, ValueState, languages}
use Rattle.place_core.specs.place.StatePlaces.{placed, quotes_at}
use Rattle.place_core.specs.declared.body.Body.TheVariants as body
use Rattle.place_core.specs.declared.code.Code.{Code}
use Rattle.place_core.specs.declared.code.Code.TheVariants as code
use Rattle.place_core.specs.declared.element.Element.TheVariants as element
use Rattle.place_core.specs.declared.place.Place.{Place}
use Rattle.place_core.specs.declared.place.Place.TheVariants as place
use Rattle.place_core.specs.declared.prefix.Prefix.{Prefix}
use Rattle.place_core.specs.declared.prefix.Prefix.TheVariants as prefix
use Rattle.place_core.specs.declared.quotes.Quotes.{Quotes}
use Rattle.place_core.specs.declared.tag_of.TagOf.TheVariants as tag
use Rattle.url_lexer.specs.Classes.{url_class_of}
use Rattle.place_core.proofs.JoinParts.{prefix_itself}
use Rattle.place_core.proofs.Semilattices.{none_some, one_value}

-- the place in a URL that spells this, of an `<a href=`
opening : Quotes → Prefix → Place
opening q p = place.Value (record {
  tag = tag.Start element.Other;
  typed = false;
  quotes = q;
  body = body.Url (record { start = false; opened = Some p; openhole = false; prequery = false; query = false; bad = false });
})

in_quotes : Prefix → Place
in_quotes p = opening (quotes_at DoubleQuoted) p

accepted : path_refusal (codes "<a href='/a?b=c&amp;d' src=http://e>") (Text Closed) ≡ None
unfolding class_of meaning flushed is_unknown_name is_written url_class_of lib.Utf8.encode
accepted = refl

-- a `%` and a digit at a node's end; the `%` may be a reference
percent_cut : path_refusal (codes "<a href='a%4") (Text Closed) ≡ Some (record { code = code.PartialEscape; at = 12; shown = 10 })
unfolding class_of meaning flushed is_unknown_name is_written url_class_of lib.Utf8.encode
percent_cut = refl

reference_cut : path_refusal (codes "<a href='a&#37;4") (Text Closed) ≡ Some (record { code = code.PartialEscape; at = 16; shown = 10 })
unfolding class_of meaning flushed is_unknown_name is_written url_class_of lib.Utf8.encode
reference_cut = refl

-- a name that stands for no character
unknown_name : path_refusal (codes "<a href='a&b;c") (Text Closed) ≡ Some (record { code = code.BadHTML; at = 10; shown = 10 })
unfolding class_of meaning flushed is_unknown_name is_written url_class_of lib.Utf8.encode
unknown_name = refl

-- a node that ends in letters of a word is not refused, and its place says which
word_cut : path_refusal (codes "<a href=j") (Text Closed) ≡ None
unfolding class_of meaning flushed is_unknown_name is_written url_class_of lib.Utf8.encode
word_cut = refl

word_place : placed (node (codes "<a href=j") (Text Closed)) ≡ Some (opening (quotes_at Unquoted) (prefix.Javascript 1))
unfolding opening class_of meaning flushed is_unknown_name is_written url_class_of lib.Utf8.encode
word_place = refl

-- `{{if .x}}x{{end}}` in a value: where its paths meet, one is before the URL, and the other in its beginning
before_url : LexState ValueState
before_url = node (codes "<a href=\"") (Text Closed)

behind_letter : LexState ValueState
behind_letter = node (codes "<a href=\"x") (Text Closed)

-- Behind the first letter of `data:` the two are apart, and so they are refused together at its `:`.
apart_clash : Clashes (codes "data:") before_url behind_letter code.AmbigContext 4
unfolding before_url behind_letter in_quotes opening class_of meaning flushed is_unknown_name is_written url_class_of lib.Utf8.encode
apart_clash = inl (
  refl,
  refl,
  inl (
    record {
      own = in_quotes (prefix.DataScheme 1);
      other_own = in_quotes prefix.Off;
      between = refl;
      other_between = refl;
      stands = refl;
      other_stands = refl;
      apart = refl;
    },
    record {
      is = refl;
      one = record { shown = 3; begins = refl; refused = refl };
      other = record { shown = 3; begins = refl; refused = refl };
    },
  ),
)

-- Two paths behind the same letter are apart at no byte, as any two that are alike, and so they are refused together at none.
spells_itself : (o : Option Prefix) → opened_apart o o ≡ false
spells_itself None = refl
spells_itself (Some prefix.Differs) = refl
spells_itself (Some p) = ap not (prefix_itself p)

false_true : false ≡ true → ⊥
false_true e = cc

own_apart : (bytes : List ℕ) (s : LexState ValueState) → ApartBefore bytes s s → ⊥
own_apart bytes s h =
    let same : h.own ≡ h.other_own = one_value h.own h.other_own (sym h.stands ∙ h.other_stands) in
    let apart : opened_apart (beginning_at h.other_own) (beginning_at h.other_own) ≡ true = rw same at h.apart in
    false_true (sym (spells_itself (beginning_at h.other_own)) ∙ apart)

own_byte : (s : LexState ValueState) (c : Class) → byte_clash s s c ≡ None
own_byte (BeforeAttributeValue t k) c = refl
own_byte (AttributeValue Unquoted t (ValueOf v) r) c = refl
own_byte (AttributeValue Unquoted t (Deciding k before) r) c = refl
own_byte (AttributeValue _ t v r) c = refl
own_byte _ c = refl

own_clash_in_text : (bytes : List ℕ) (s : LexState ValueState) (e : Code) (at : ℕ) → ClashesInText bytes s s e at → ⊥
own_clash_in_text [] s e at h = h
own_clash_in_text (b ∷ bs) s e zero h = none_some e (sym (own_byte s (class_of b)) ∙ h)
own_clash_in_text (b ∷ bs) s e (suc at) h = elim h.2 [
  | inl x ↦ own_apart bs (next languages Template s (class_of b) b) x.0
  | inr x ↦ own_clash_in_text bs (next languages Template s (class_of b) b) e at x
]

own_sense : (o : Option Sense) → senses_part o o ≡ false
own_sense None = refl
own_sense (Some sense.Re) = refl
own_sense (Some sense.Div) = refl
own_sense (Some sense.Brace) = refl

own_slash : (bytes : List ℕ) (s : LexState ValueState) (e : Code) (at : ℕ) → ClashesSlash bytes s s e at → ⊥
own_slash bytes s e at h = false_true (sym (own_sense (slash_sense s)) ∙ h.part)

own_clash : (bytes : List ℕ) (s : LexState ValueState) (e : Code) (at : ℕ) → Clashes bytes s s e at → ⊥
own_clash bytes s e at (inl h) = own_clash_in_text bytes s e at h
own_clash bytes s e at (inr h) = own_slash bytes s e at h

same_letter : (e : Code) (at : ℕ) → Clashes (codes "data:") behind_letter behind_letter e at → ⊥
same_letter = own_clash (codes "data:") behind_letter
