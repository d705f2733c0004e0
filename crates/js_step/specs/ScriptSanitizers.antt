-- The sanitizer of a value of data in a script, without that of the value's quotes.
use Rattle.place_core.specs.declared.js.Js.{Js}
use Rattle.place_core.specs.declared.js.Js.TheVariants as js
use Rattle.place_core.specs.declared.san.San.{San}
use Rattle.place_core.specs.declared.san.San.TheVariants as san

-- In code a value is a literal of its own, in a string and in a regular expression it is a part of these. In a comment it is left out.
abbrev pub script_sanitizer : Js → San
script_sanitizer (js.Code s x) = san.JsValue
script_sanitizer js.Dq = san.JsString
script_sanitizer js.Sq = san.JsString
script_sanitizer (js.Regexp slash) = san.JsRegexp
script_sanitizer (js.Line s) = san.Drop
script_sanitizer (js.Block s star) = san.Drop
