-- The words of HTML that decide how attributes and elements are read: the kinds of attributes and the names that no data may make (in the manner
-- of Go's `html/template`; the lists are this project's), and the types of scripts (HTML Standard, section 4.12.1; here parameters and white space at the ends do not count).
use Rattle.std.specs.Prelude.{ℕ, ◌-◌, ◌==◌, Bool, true, false, not, ◌||◌, ◌&&◌, codes, bytes_eq, nat_eq, List, [], ◌∷◌, length, take, drop, reverse, if◌then◌else◌}
use Rattle.std.specs.Char.{is_ascii_whitespace}
use Rattle.std.specs.List.{list_any, prefix_len, starts_with}
use Rattle.std.specs.Str.{str_to_ascii_lowercase}
use Rattle.place_core.specs.declared.element.Element.{Element}
use Rattle.place_core.specs.declared.element.Element.TheVariants as element
use Rattle.place_core.specs.declared.kind.Kind.{Kind}
use Rattle.place_core.specs.declared.kind.Kind.TheVariants as kind

abbrev pub is_among : List (List ℕ) → List ℕ → Bool
is_among words name = list_any (bytes_eq name) words

-- whether a part stands somewhere in a name
abbrev pub has_part : List ℕ → List ℕ → Bool
has_part part [] = starts_with nat_eq [] part
has_part part (b ∷ bs) = starts_with nat_eq (b ∷ bs) part || has_part part bs

-- The kind of an attribute. Names are in lower case here.

abbrev pub no_hole_names : List (List ℕ)
no_hole_names = codes "srcdoc" ∷ codes "srcset" ∷ codes "imagesrcset" ∷ []

abbrev pub url_names : List (List ℕ)
url_names =
    codes "action" ∷ codes "archive" ∷ codes "background" ∷ codes "cite" ∷ codes "classid" ∷ codes "codebase" ∷ codes "data" ∷ codes "formaction" ∷ codes "href" ∷ codes "icon" ∷ codes "longdesc" ∷ codes "manifest" ∷ codes "poster" ∷ codes "profile" ∷ codes "src" ∷ codes "usemap" ∷ []

-- parts of a name that make it a URL's, whoever made it up
abbrev pub url_parts : List (List ℕ)
url_parts = codes "src" ∷ codes "uri" ∷ codes "url" ∷ []

-- the kind of a name without a prefix
abbrev pub kind_of_name : List ℕ → Kind
kind_of_name name =
    if bytes_eq name (codes "style") then kind.Style
    else (if is_among no_hole_names name then kind.NoHole
    else (if is_among url_names name then kind.Url
    else (if starts_with nat_eq name (codes "on") then kind.Script
    else (if list_any (λ part. has_part part name) url_parts then kind.Url
    else kind.Plain))))

-- how many bytes stand before the first colon
abbrev pub prefix_length : List ℕ → ℕ
prefix_length name = prefix_len (λ b. not (b == 58)) name

-- a name with a prefix up to its first colon: a declaration of a namespace is a URL's, any other prefix does not matter
abbrev pub kind_after_prefix : List ℕ → List ℕ → Kind
kind_after_prefix name [] = kind_of_name name
kind_after_prefix name (colon ∷ rest) = if bytes_eq (take (prefix_length name) name) (codes "xmlns") then kind.Url else kind_of_name rest

-- a name with its prefix: `data-` does not matter either
abbrev pub kind_with_prefix : List ℕ → Kind
kind_with_prefix name =
    if starts_with nat_eq name (codes "data-") then kind_of_name (drop 5 name)
    else kind_after_prefix name (drop (prefix_length name) name)

-- the `type` of a script element is read apart; a data block is a script element too
abbrev pub is_script : Element → Bool
is_script element.Script = true
is_script element.DataBlock = true
is_script _ = false

abbrev pub kind_on : Element → List ℕ → Kind
kind_on e name = if is_script e && bytes_eq name (codes "type") then kind.ScriptType else kind_with_prefix name

-- the kind of an attribute with this name, in any case, on an element
abbrev pub kind_of : Element → List ℕ → Kind
kind_of e name = kind_on e (str_to_ascii_lowercase name)

-- The names that no data may make.

abbrev pub is_plain_name : Kind → Bool
is_plain_name kind.Plain = true
is_plain_name _ = false

-- attributes whose values are read as text, and decide what a page does
abbrev pub special_names : List (List ℕ)
special_names =
    codes "async"
    ∷ codes "autocomplete"
    ∷ codes "charset"
    ∷ codes "content"
    ∷ codes "defer"
    ∷ codes "enctype"
    ∷ codes "form"
    ∷ codes "formenctype"
    ∷ codes "formmethod"
    ∷ codes "formnovalidate"
    ∷ codes "formtarget"
    ∷ codes "http-equiv"
    ∷ codes "integrity"
    ∷ codes "language"
    ∷ codes "method"
    ∷ codes "nonce"
    ∷ codes "novalidate"
    ∷ codes "pattern"
    ∷ codes "rel"
    ∷ codes "sandbox"
    ∷ codes "type"
    ∷ []

-- a name that is not plain on some element, or is one of these; only script elements have a kind of their own
abbrev pub is_special : List ℕ → Bool
is_special name = not (is_plain_name (kind_of element.Other name)) || (not (is_plain_name (kind_of element.Script name)) || is_among special_names (str_to_ascii_lowercase name))

-- The types of scripts.

abbrev pub script_types : List (List ℕ)
script_types =
    []
    ∷ codes "module"
    ∷ codes "importmap"
    ∷ codes "application/ecmascript"
    ∷ codes "application/javascript"
    ∷ codes "application/json"
    ∷ codes "application/ld+json"
    ∷ codes "application/x-ecmascript"
    ∷ codes "application/x-javascript"
    ∷ codes "text/ecmascript"
    ∷ codes "text/javascript"
    ∷ codes "text/javascript1.0"
    ∷ codes "text/javascript1.1"
    ∷ codes "text/javascript1.2"
    ∷ codes "text/javascript1.3"
    ∷ codes "text/javascript1.4"
    ∷ codes "text/javascript1.5"
    ∷ codes "text/x-ecmascript"
    ∷ codes "text/x-javascript"
    ∷ codes "text/jscript"
    ∷ codes "text/livescript"
    ∷ []

-- what stands before the first semicolon
abbrev pub without_parameters : List ℕ → List ℕ
without_parameters value = take (prefix_len (λ b. not (b == 59)) value) value

-- without white space at the beginning, and at the end
abbrev pub trimmed_start : List ℕ → List ℕ
trimmed_start value = drop (prefix_len is_ascii_whitespace value) value

abbrev pub trimmed_end : List ℕ → List ℕ
trimmed_end value = take (length value - prefix_len is_ascii_whitespace (reverse value)) value

-- whether a script element with this type holds a script or JSON; with any other it holds data
abbrev pub is_script_type : List ℕ → Bool
is_script_type value = is_among script_types (str_to_ascii_lowercase (trimmed_end (trimmed_start (without_parameters value))))
