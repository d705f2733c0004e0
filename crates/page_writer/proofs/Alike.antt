-- Texts for which a sanitizer writes the same as for a datum.
use Rattle.std.proofs.Common.{◌≡◌, ℕ, Bool, true, false, ◌&&◌, ◌==◌, not, codes, length, List, refl, sym, ap, ◌∙◌}
use Rattle.std.specs.Prelude.{if◌then◌else◌}
use Rattle.std.specs.Str.{str_to_ascii_lowercase}
use Rattle.page_datum.specs.Data.{Data, DataDict, DataList, dict, list, text}
use Rattle.page_datum.specs.Printed.{printed}
use Rattle.page_writer.specs.Writing.{IsWrittenAlike, ReadsText}
use Rattle.place_core.specs.declared.san.San.{San}
use Rattle.place_core.specs.declared.san.San.TheVariants as san
use Rattle.san_html.specs.Sanitizers.{attr_name, failsafe, is_attribute_name}

-- of a dropped value nothing is written
pub dropped : (other : List ℕ) (datum : Data) → IsWrittenAlike san.Drop other datum
dropped other datum = record { same = refl; textual = λ u. tt }

-- the printed text of a datum, of which each sanitizer writes that reads a text
pub printed-alike : (x : San) (datum : Data) → ReadsText x → IsWrittenAlike x (printed datum) datum
printed-alike san.Html datum b = record { same = refl; textual = λ u. u }
printed-alike san.Attr datum b = record { same = refl; textual = λ u. u }
printed-alike san.AttrNospace datum b = record { same = refl; textual = λ u. u }
printed-alike san.AttrName datum b = record { same = refl; textual = λ u. tt }
printed-alike san.Drop datum b = record { same = refl; textual = λ u. tt }
printed-alike san.UrlFilter datum b = record { same = refl; textual = λ u. u }
printed-alike san.UrlOpen datum b = record { same = refl; textual = λ u. u }
printed-alike san.UrlNorm datum b = record { same = refl; textual = λ u. u }
printed-alike san.UrlQuery datum b = record { same = refl; textual = λ u. u }
printed-alike san.CssValue datum b = record { same = refl; textual = λ u. u }
printed-alike san.CssString datum b = record { same = refl; textual = λ u. u }
printed-alike san.JsString datum b = record { same = refl; textual = λ u. u }
printed-alike san.JsRegexp datum b = record { same = refl; textual = λ u. u }
printed-alike _ datum b = absurd b

-- what is printed of a text is the text
pub text-alike : (x : San) (bytes : List ℕ) → ReadsText x → IsWrittenAlike x bytes (text bytes)
text-alike x bytes b = printed-alike x (text bytes) b

-- what is printed for a list or a dictionary has a bracket in it, so it is no name
no-name : (bytes : List ℕ) → is_attribute_name bytes ≡ false → attr_name bytes ≡ failsafe
no-name bytes e = ap (λ (b : Bool). if b then str_to_ascii_lowercase bytes else failsafe) e

and-false : (b : Bool) → (b && false) ≡ false
and-false true = refl
and-false false = refl

bracket : attr_name (codes "[") ≡ failsafe
bracket = no-name (codes "[") (and-false (not (length (codes "[") == 0)))

pub list-alike : (items : DataList) → IsWrittenAlike san.AttrName (codes "[") (list items)
list-alike items = record {
  same = bracket ∙ sym (no-name (printed (list items)) (and-false (not (length (printed (list items)) == 0))));
  textual = λ u. tt;
}

pub dict-alike : (entries : DataDict) → IsWrittenAlike san.AttrName (codes "[") (dict entries)
dict-alike entries = record {
  same = bracket ∙ sym (no-name (printed (dict entries)) (and-false (not (length (printed (dict entries)) == 0))));
  textual = λ u. tt;
}
