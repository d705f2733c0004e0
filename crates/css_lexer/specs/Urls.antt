-- The URLs of styles: those that attributes have too.
use Rattle.std.specs.Prelude.{[], Option, Some, None}
use Rattle.css_lexer.specs.RefusalCodes.{RefusalCode, AmbigContext, BadHTML, PartialEscape, StyleCutRefusal}
use Rattle.css_lexer.specs.UrlReading.{UrlReading}
use Rattle.url_lexer.specs.Alike.{UrlsAlike}
use Rattle.url_lexer.specs.Events.{UrlEvent, url_emits, url_ends}
use Rattle.url_lexer.specs.Holes.{url_after_cut, url_after_hole, url_behind}
use Rattle.url_lexer.specs.Plain.{UrlLeadsPlain, ArePlainBytes}
use Rattle.url_lexer.specs.Refusals.{UrlRefusal, url_refuses, url_refuses_cut, url_refuses_hole}
use Rattle.url_lexer.specs.Refusals as url
use Rattle.url_lexer.specs.States.{Url, url_start, feed_url}

abbrev pub url_code : UrlRefusal → RefusalCode
url_code url.AmbigContext = AmbigContext
url_code url.BadHTML = BadHTML
url_code url.PartialEscape = PartialEscape

abbrev pub url_refusal : Option UrlRefusal → Option RefusalCode
url_refusal None = None
url_refusal (Some r) = Some (url_code r)

abbrev pub url_cut_refusal : Option url.UrlCutRefusal → Option StyleCutRefusal
url_cut_refusal None = None
url_cut_refusal (Some r) = Some (record { code = url_code r.refusal; back = r.back; shown = r.shown })

abbrev pub urls : UrlReading Url UrlEvent
urls = record {
  start = url_start;
  feed = feed_url;
  emits = λ u b. url_emits u b [];
  refuses = λ u b. url_refusal (url_refuses u b);
  ends = λ u. url_ends u [];
  refuses_cut = λ u. url_cut_refusal (url_refuses_cut u);
  after_cut = url_after_cut;
  refuses_hole = λ u. url_refusal (url_refuses_hole u);
  after_hole = url_after_hole;
  behind = url_behind;
  LeadsPlain = UrlLeadsPlain;
  MayBePlain = λ u bytes. ArePlainBytes u.part bytes;
  AreAlike = UrlsAlike;
}
