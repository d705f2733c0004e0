-- The parts of places in URLs, scripts and styles. They join, have members and are valid as the others; see Places. No page reaches the content of a script yet.
use Rattle.std.specs.Prelude.{Bool, true, false, ◌≡◌, ◌≤◌, ◌||◌, ◌==◌, Option, Some, None, is_some, if◌then◌else◌, ⊤}
use Rattle.place_core.specs.declared.css.Css.{Css}
use Rattle.place_core.specs.declared.css.Css.TheVariants as css
use Rattle.place_core.specs.declared.css_tails.CssTails.{CssTails}
use Rattle.place_core.specs.declared.js.Js.{Js}
use Rattle.place_core.specs.declared.js.Js.TheVariants as js
use Rattle.place_core.specs.declared.js_tails.JsTails.{JsTails}
use Rattle.place_core.specs.declared.member.Member.{Member}
use Rattle.place_core.specs.declared.member.Member.TheVariants as member
use Rattle.place_core.specs.declared.parts.Parts.{Parts}
use Rattle.place_core.specs.declared.prefix.Prefix.{Prefix}
use Rattle.place_core.specs.declared.prefix.Prefix.TheVariants as prefix
use Rattle.place_core.specs.declared.senses.Senses.{Senses}

abbrev pub both_senses : Senses → Senses → Senses
both_senses s t = record { re = s.re || t.re; div = s.div || t.div; brace = s.brace || t.brace }

abbrev pub both_js_tails : JsTails → JsTails → JsTails
both_js_tails s t = record {
  word = s.word || t.word;
  num = s.num || t.num;
  lt = s.lt || t.lt;
  slash = s.slash || t.slash;
  plus = s.plus || t.plus;
  minus = s.minus || t.minus;
  hash = s.hash || t.hash;
}

abbrev pub both_css_tails : CssTails → CssTails → CssTails
both_css_tails s t = record { word = s.word || t.word; slash = s.slash || t.slash; lt = s.lt || t.lt }

-- Two different prefixes become the one that says so.
abbrev pub same_prefix : Prefix → Prefix → Bool
same_prefix prefix.Off prefix.Off = true
same_prefix (prefix.Javascript n) (prefix.Javascript m) = n == m
same_prefix (prefix.Vbscript n) (prefix.Vbscript m) = n == m
same_prefix (prefix.DataScheme n) (prefix.DataScheme m) = n == m
same_prefix prefix.Differs prefix.Differs = true
same_prefix _ _ = false

abbrev pub both_prefixes : Option Prefix → Option Prefix → Option Prefix
both_prefixes None q = q
both_prefixes (Some p) None = Some p
both_prefixes (Some p) (Some q) = Some (if same_prefix p q then p else prefix.Differs)

abbrev pub both_parts : Parts → Parts → Parts
both_parts s t = record {
  start = s.start || t.start;
  opened = both_prefixes s.opened t.opened;
  openhole = s.openhole || t.openhole;
  prequery = s.prequery || t.prequery;
  query = s.query || t.query;
  bad = s.bad || t.bad;
}

-- The rows of a script and of a style.
abbrev pub joined_js : Js → Js → Option Js
joined_js (js.Code s x) (js.Code t y) = Some (js.Code (both_senses s t) (both_js_tails x y))
joined_js js.Dq js.Dq = Some js.Dq
joined_js js.Sq js.Sq = Some js.Sq
joined_js (js.Regexp x) (js.Regexp y) = Some (js.Regexp (x || y))
joined_js (js.Line s) (js.Line t) = Some (js.Line (both_senses s t))
joined_js (js.Block s x) (js.Block t y) = Some (js.Block (both_senses s t) (x || y))
joined_js _ _ = None

abbrev pub joined_css : Css → Css → Option Css
joined_css (css.Code x) (css.Code y) = Some (css.Code (both_css_tails x y))
joined_css css.Dq css.Dq = Some css.Dq
joined_css css.Sq css.Sq = Some css.Sq
joined_css css.UrlFresh css.UrlFresh = Some css.UrlFresh
joined_css (css.Url s) (css.Url t) = Some (css.Url (both_parts s t))
joined_css (css.UrlDq s) (css.UrlDq t) = Some (css.UrlDq (both_parts s t))
joined_css (css.UrlSq s) (css.UrlSq t) = Some (css.UrlSq (both_parts s t))
joined_css css.UrlEnd css.UrlEnd = Some css.UrlEnd
joined_css (css.Comment x) (css.Comment y) = Some (css.Comment (x || y))
joined_css _ _ = None

abbrev pub senses_have : Senses → Member → Bool
senses_have s member.SenseRe = s.re
senses_have s member.SenseDiv = s.div
senses_have s member.SenseBrace = s.brace
senses_have s _ = false

abbrev pub js_tails_have : JsTails → Member → Bool
js_tails_have s member.JsWord = s.word
js_tails_have s member.JsNum = s.num
js_tails_have s member.JsLt = s.lt
js_tails_have s member.JsSlash = s.slash
js_tails_have s member.JsPlus = s.plus
js_tails_have s member.JsMinus = s.minus
js_tails_have s member.JsHash = s.hash
js_tails_have s _ = false

abbrev pub css_tails_have : CssTails → Member → Bool
css_tails_have s member.CssWord = s.word
css_tails_have s member.CssSlash = s.slash
css_tails_have s member.CssLt = s.lt
css_tails_have s _ = false

-- whatever the beginning of a URL spells, that the path is in it is one member
abbrev pub parts_have : Parts → Member → Bool
parts_have s member.PartStart = s.start
parts_have s member.PartOpen = is_some s.opened
parts_have s member.PartOpenhole = s.openhole
parts_have s member.PartPrequery = s.prequery
parts_have s member.PartQuery = s.query
parts_have s member.PartBad = s.bad
parts_have s _ = false

abbrev pub regexp_has : Bool → Member → Bool
regexp_has x member.RegexpSlash = x
regexp_has x _ = false

abbrev pub js_star_has : Bool → Member → Bool
js_star_has x member.JsStar = x
js_star_has x _ = false

abbrev pub css_star_has : Bool → Member → Bool
css_star_has x member.CssStar = x
css_star_has x _ = false

abbrev pub js_has : Js → Member → Bool
js_has (js.Code s x) m = senses_have s m || js_tails_have x m
js_has (js.Regexp x) m = regexp_has x m
js_has (js.Line s) m = senses_have s m
js_has (js.Block s x) m = senses_have s m || js_star_has x m
js_has js.Dq m = false
js_has js.Sq m = false

abbrev pub css_has : Css → Member → Bool
css_has (css.Code x) m = css_tails_have x m
css_has (css.Url s) m = parts_have s m
css_has (css.UrlDq s) m = parts_have s m
css_has (css.UrlSq s) m = parts_have s m
css_has (css.Comment x) m = css_star_has x m
css_has css.Dq m = false
css_has css.Sq m = false
css_has css.UrlFresh m = false
css_has css.UrlEnd m = false

abbrev pub some_sense : Senses → Bool
some_sense s = s.re || (s.div || s.brace)

abbrev pub some_part : Parts → Bool
some_part s = s.start || (is_some s.opened || (s.openhole || (s.prequery || (s.query || s.bad))))

-- Where the beginning of a URL spells letters of a word it is at least one letter, and at most all.
abbrev pub IsSpelled : Option Prefix → Type 0
IsSpelled (Some (prefix.Javascript n)) = (1 ≤ n) × (n ≤ 10)
IsSpelled (Some (prefix.Vbscript n)) = (1 ≤ n) × (n ≤ 8)
IsSpelled (Some (prefix.DataScheme n)) = (1 ≤ n) × (n ≤ 4)
IsSpelled (Some prefix.Off) = ⊤
IsSpelled (Some prefix.Differs) = ⊤
IsSpelled None = ⊤

abbrev pub IsValidParts : Parts → Type 0
IsValidParts s = (some_part s ≡ true) × IsSpelled s.opened

abbrev pub IsValidJs : Js → Type 0
IsValidJs (js.Code s x) = some_sense s ≡ true
IsValidJs (js.Line s) = some_sense s ≡ true
IsValidJs (js.Block s x) = some_sense s ≡ true
IsValidJs js.Dq = ⊤
IsValidJs js.Sq = ⊤
IsValidJs (js.Regexp x) = ⊤

abbrev pub IsValidCss : Css → Type 0
IsValidCss (css.Url s) = IsValidParts s
IsValidCss (css.UrlDq s) = IsValidParts s
IsValidCss (css.UrlSq s) = IsValidParts s
IsValidCss (css.Code x) = ⊤
IsValidCss css.Dq = ⊤
IsValidCss css.Sq = ⊤
IsValidCss css.UrlFresh = ⊤
IsValidCss css.UrlEnd = ⊤
IsValidCss (css.Comment x) = ⊤
