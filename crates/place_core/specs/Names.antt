-- The names of sanitizers, as they are printed.
use Rattle.std.specs.Prelude.{ℕ, codes, List}
use Rattle.place_core.specs.declared.san.San.{San}
use Rattle.place_core.specs.declared.san.San.TheVariants as san

abbrev pub sanitizer_name : San → List ℕ
sanitizer_name san.Html = codes "html"
sanitizer_name san.Attr = codes "attr"
sanitizer_name san.AttrNospace = codes "attr_nospace"
sanitizer_name san.AttrName = codes "attr_name"
sanitizer_name san.JsValue = codes "js_value"
sanitizer_name san.JsString = codes "js_string"
sanitizer_name san.JsRegexp = codes "js_regexp"
sanitizer_name san.CssValue = codes "css_value"
sanitizer_name san.CssString = codes "css_string"
sanitizer_name san.UrlFilter = codes "url_filter"
sanitizer_name san.UrlOpen = codes "url_open"
sanitizer_name san.UrlNorm = codes "url_norm"
sanitizer_name san.UrlQuery = codes "url_query"
sanitizer_name san.Drop = codes "drop"
